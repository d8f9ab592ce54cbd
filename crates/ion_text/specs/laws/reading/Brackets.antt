-- What the marks of containers do.
use Rattle.std.proofs.Common.{◌≡◌, List, ◌∷◌, refl}
use Rattle.ion_text.specs.Names.{Bracket, Field, Frame, ListOrSexp, Mark, Mark', Setting, Spot, Symbols, Value, closed, on_ready, open_mark, opening, unexpected}

-- where a value may come, the mark of an open opens
pub open_turns : (bracket : Bracket) (setting : Setting) (spot : Spot) (fs : List Frame) (ss : Symbols)
    → on_ready setting spot fs ss (Mark' (open_mark bracket)) ≡ opening bracket setting.limits.depth spot.start spot.context fs ss
open_turns Bracket.List setting spot fs ss = refl
open_turns _ setting spot fs ss = refl

-- what opens a container is no `::`
pub no_colons : (bracket : Bracket) → Mark' (open_mark bracket) ≡ Mark' Mark.Colons → ⊥
no_colons Bracket.List e = cc
no_colons _ e = cc

-- a close ends the innermost container, or isn't expected
pub data Closes : Bracket → List Frame → Type 0 where
  ends_list : (ss : Symbols) (vs : List Value) (fs : List Frame) → Closes Bracket.List (Frame.Items ListOrSexp.List ss vs ∷ fs)
  ends_sexp : (ss : Symbols) (vs : List Value) (fs : List Frame) → Closes Bracket.Sexp (Frame.Items ListOrSexp.Sexp ss vs ∷ fs)
  ends_struct : (ss : Symbols) (ms : List Field) (fs : List Frame) → Closes Bracket.Fields (Frame.Fields ss ms ∷ fs)
  ends_none : (bracket : Bracket) (fs : List Frame) → ((setting : Setting) (spot : Spot) → closed bracket setting spot fs ≡ unexpected) → Closes bracket fs

-- each close either ends the innermost container or is not expected
pub closes_or_not : (bracket : Bracket) (fs : List Frame) → Closes bracket fs
closes_or_not Bracket.List (Frame.Items ListOrSexp.List ss vs ∷ fs) = ends_list ss vs fs
closes_or_not Bracket.Sexp (Frame.Items ListOrSexp.Sexp ss vs ∷ fs) = ends_sexp ss vs fs
closes_or_not Bracket.Fields (Frame.Fields ss ms ∷ fs) = ends_struct ss ms fs
closes_or_not _ _ = ends_none _ _ (λ setting spot. refl)
