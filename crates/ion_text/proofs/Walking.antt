-- An open at the front of octets, as the machine takes it.
use Rattle.std.proofs.Common.{◌≡◌, ℕ, ◌+◌, ◌-◌, ◌<◌, ◌≤◌, Bool, true, false, List, [], ◌∷◌, length, take, Ok, refl, ap, sym, ◌∙◌, subst, arith, ◌⊎◌, inl, inr}
use Rattle.std.specs.Prelude.{if◌then◌else◌, nat_lt}
use Rattle.std.proofs.lemmas.Bool.Decides.{nat_tests}
use Rattle.ion_text.specs.Names.{Bracket, Catalog, Content, Frame, IsCalm, IsFound, IsStill, Limits, Mark', Passes, Quiet, Reading, Rest, Setting, Spot, Symbols, TokenKind, at, before_end, beyond_depth, first_now, goes, is_top, lexeme_at, on_ready, open_mark, opened, past_token, place, resting, said, token_of, turn, with_scan}
use Rattle.ion_text.specs.laws.reading.Brackets.{open_turns}
use Rattle.ion_text.proofs.TokenSteps.{StaysIn, given_found, left_found}
use Rattle.ion_text.proofs.Passing.{calm_quiet, inner_notices}
use Rattle.ion_text.proofs.Striding.{still_settles}

-- a token where the scanner rests and a container is open
module _ (g : Catalog) (l : Limits) (r : Reading) (inner : is_top r.frames ≡ false) (still : IsStill r.now) (rest : Rest) (octets : List ℕ) (kind : TokenKind)
    (kept : List ℕ) (n : ℕ) (c : Content) (q : Reading)
    (says : said kind kept ≡ Ok c) (turns : turn g l r (token_of (lexeme_at rest kind kept n) c) ≡ goes q) (room : rest.used + length octets ≤ l.item + r.start)
    (stays : StaysIn r.start q) where
  quiet : (k : ℕ) → k ≤ length octets → IsCalm r.now ⊎ (k ≡ 0) → Quiet g l r (place r) (resting rest) (take k octets)
  quiet k few (inl calm) = calm_quiet g l r inner calm (resting rest) refl octets k few (omega arith)
  quiet k few (inr none) = subst (λ j. Quiet g l r (place r) (resting rest) (take j octets)) (sym none) tt

  pub token_passes : (left : Bool) → IsFound (place r) rest octets kind kept n left → IsCalm r.now ⊎ (before_end left n ≡ 0)
      → Passes g l (with_scan (resting rest) r) octets n (with_scan (resting (past_token (place r) rest kind n)) q)
  token_passes true f m =
      let shown = f.shown in left_found g l r (still_settles g l r still) rest octets kind kept n c q says turns f (quiet n (omega arith) m)
  token_passes false f m =
      let shown = f.shown in
      let same = stays.1 in
      given_found g l r (still_settles g l r still) rest octets kind kept n c q says turns f (quiet (n - 1) (omega arith) m) (l.item + q.start)
      (inner_notices l q stays.0) (omega arith)

-- containers

-- an open within the limit on levels leads into the container
pub open_goes : (setting : Setting) (spot : Spot) (fs : List Frame) (ss : Symbols) (x : Bracket) → length fs < setting.limits.depth
    → on_ready setting spot fs ss (Mark' (open_mark x)) ≡ goes (at spot.start spot.context (opened x ss ∷ fs) [] (first_now x))
open_goes setting spot fs ss x deep = open_turns x setting spot fs ss ∙ ap (λ b. if b then goes inside else beyond_depth x inside) admits
  where
    inside : Reading
    inside = at spot.start spot.context (opened x ss ∷ fs) [] (first_now x)

    admits : nat_lt (length fs) setting.limits.depth ≡ true
    admits = grind (arith, nat_tests)
