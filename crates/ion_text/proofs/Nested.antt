-- What an open and a close do where the scanner rests and a container is open.
use Rattle.std.proofs.Common.{◌≡◌, ℕ, ◌<◌, Bool, true, false, List, [], ◌∷◌, length, refl, sym, ◌∙◌, arith}
use Rattle.std.specs.Prelude.{slice_index}
use Rattle.ion_text.specs.Names.{Bracket, Catalog, Frame, IsFound, IsStill, Limits, ListOrSexp, Mark', OpensAt, Place, Reading, Rest, Setting, Slot, Spot, Stage, Symbols, TokenKind, annotated, at, close_mark, close_octet, closed, closes, first_now, goes, is_name, is_top, open_mark, opened, place_in, spot_at, token_at, turn_now, under, unexpected}
use Rattle.ion_model.specs.declared.value.Payload.TheVariants as payloads
use Rattle.ion_tokens.proofs.runs.WholeTokens.{fields_close_found, fields_open_found, list_close_found, list_open_found, sexp_close_found, sexp_open_found}
use Rattle.ion_text.specs.laws.reading.Brackets.{Closes, closes_or_not, ends_list, ends_none, ends_sexp, ends_struct}
use Rattle.ion_text.proofs.TokenSteps.{StaysIn, ended_stays}

-- An open. That of a struct shows its end by the octet behind it.
abbrev pub is_open_left : Bracket → Bool
is_open_left Bracket.Fields = true
is_open_left _ = false

-- where no name may come, the octet of an open is a token of its mark
pub open_found : (x : Bracket) (p : Place) (r : Rest) (octets : List ℕ) → OpensAt octets x → 1 < length octets → is_name p ≡ false
    → IsFound p r octets (TokenKind.Mark (open_mark x)) [] 1 (is_open_left x)
open_found Bracket.List p r octets opens more name = list_open_found p r octets name (omega arith) opens
open_found Bracket.Sexp p r octets opens more name = sexp_open_found p r octets name (omega arith) opens
open_found Bracket.Fields p r octets opens more name = fields_open_found p r octets name more opens.0 opens.1

-- behind an open the reader stays where the open led it
pub opened_stays : (start : ℕ) (c : List Slot) (fs : List Frame) (ss : Symbols) (x : Bracket) → StaysIn start (at start c (opened x ss ∷ fs) [] (first_now x))
opened_stays start c fs ss Bracket.List = (refl, refl, tt)
opened_stays start c fs ss _ = (refl, refl, tt)

-- A close.
pub close_found : (x : Bracket) (fs : List Frame) (now : Stage) (r : Rest) (octets : List ℕ) → closes x fs now ≡ true → 0 < length octets
    → slice_index octets 0 ≡ close_octet x → IsFound (place_in fs now) r octets (TokenKind.Mark (close_mark x)) [] 1 false
close_found Bracket.List (Frame.Items ListOrSexp.List ss vs ∷ fs) now r octets h some first = list_close_found Place.List r octets refl some first
close_found Bracket.Sexp (Frame.Items ListOrSexp.Sexp ss vs ∷ fs) now r octets h some first = sexp_close_found Place.Sexp r octets refl some first
close_found Bracket.Fields fs now r octets h some first = fields_close_found (place_in fs now) r octets some first
close_found _ _ now r octets h some first = absurd cc

module _ (g : Catalog) (l : Limits) (begin end start : ℕ) (c : List Slot) where
  -- in such a state the mark closes, and nothing waits
  abbrev pub MarkCloses : Bracket → List Frame → Stage → Type 0
  MarkCloses x fs now =
      (turn_now (under g l) (at start c fs [] now) (token_at begin end (Mark' (close_mark x))) now ≡ closed x (under g l) (spot_at end start c) fs)
      × IsStill now

  -- a mark that fits the innermost container closes it, and nothing waits
  pub closing : (x : Bracket) (fs : List Frame) (now : Stage) → closes x fs now ≡ true → MarkCloses x fs now
  closing Bracket.List (Frame.Items ListOrSexp.List ss vs ∷ fs) Stage.Ready h = (refl, tt)
  closing Bracket.List (Frame.Items ListOrSexp.List ss vs ∷ fs) Stage.After h = (refl, tt)
  closing Bracket.Sexp (Frame.Items ListOrSexp.Sexp ss vs ∷ fs) Stage.Ready h = (refl, tt)
  closing Bracket.Fields (Frame.Fields ss ms ∷ fs) Stage.After h = (refl, tt)
  closing Bracket.Fields (Frame.Fields ss ms ∷ fs) Stage.Name h = (refl, tt)
  closing _ _ _ h = absurd cc

inner : (f : Frame) (fs : List Frame) → 1 < length (f ∷ fs) → is_top fs ≡ false
inner f [] more = absurd (omega (arith, more))
inner f (x ∷ fs) more = refl

-- what stands around it goes on
pub close_stays : (setting : Setting) (spot : Spot) (q : Reading) (bracket : Bracket) (fs : List Frame) → 1 < length fs → closed bracket setting spot fs ≡ goes q
    → StaysIn spot.start q
close_stays setting spot q bracket fs = by bracket fs (closes_or_not bracket fs)
  where
    by : (bracket : Bracket) (fs : List Frame) → Closes bracket fs → 1 < length fs → closed bracket setting spot fs ≡ goes q → StaysIn spot.start q
    by _ _ (ends_list ss vs fs) more does = ended_stays setting spot q fs (annotated ss (payloads.List vs))
        (inner (Frame.Items ListOrSexp.List ss vs) fs more) does
    by _ _ (ends_sexp ss vs fs) more does = ended_stays setting spot q fs (annotated ss (payloads.Sexp vs))
        (inner (Frame.Items ListOrSexp.Sexp ss vs) fs more) does
    by _ _ (ends_struct ss ms fs) more does = ended_stays setting spot q fs (annotated ss (payloads.Fields ms)) (inner (Frame.Fields ss ms) fs more) does
    by _ _ (ends_none bracket fs e) more does = absurd (let never : unexpected ≡ goes q = sym (e setting spot) ∙ does in cc)
