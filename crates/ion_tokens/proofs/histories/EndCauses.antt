-- The reasons for which the end of the octets is refused.
use Rattle.std.proofs.Common.{◌≡◌, ◌≢◌, ℕ, ◌<◌, Bool, true, false, cond, refl, sym, ap, subst, ◌∙◌, arith, List, [], ◌∷◌, ◌++◌, Option, Some, None, Result, Ok, Err}
use Rattle.std.specs.Prelude.{IsUtf8}
use Rattle.std.specs.Str.{IsAscii}
use Rattle.std.proofs.lemmas.Str.{IsUtf8-from_ascii}
use Rattle.std.proofs.lemmas.Bool.Decides.{nat_tests}
use Rattle.std.proofs.lemmas.Bool.{cond_both}
use Rattle.ion_tokens.specs.Names.{Each, End, IsBody, IsWordBody, Keep, Kind, Known, Lexeme, Mark, Mode, Place, Placed, Reason, Refusal, Scanned, TokenKind, at_end, end_of, ends_at, id_of, is_end_reason, is_operator_octet, is_sexp, is_word_octet, kept_after, kind_named, null_of}
use Rattle.ion_tokens.specs.machine.Steps.{Ends}
use Rattle.ion_tokens.specs.laws.Each.{each_last}
use Rattle.ion_tokens.proofs.complete.TakesOperators.{low_operator}
use Rattle.ion_tokens.proofs.foreseen.Begins.{begun_holds}
use Rattle.ion_tokens.proofs.sound.Holds.{InMode}
use Rattle.ion_tokens.proofs.sound.Opens.{IsOpen}
use Rattle.ion_tokens.proofs.texts.Characters.{ascii_each}

low_word : (o : ℕ) → is_word_octet o ≡ true → o < 128
low_word o h = grind (arith, nat_tests)

-- a token that the end shows is refused for such a reason alone, if it is
abbrev IsFairBody : TokenKind → List ℕ → Type 0
IsFairBody kind octets = (e : Reason) → IsBody kind octets (Err e) → is_end_reason e ≡ true

word_fair : (octets : List ℕ) → Each is_word_octet octets → IsFairBody TokenKind.Word octets
word_fair octets h e b = by (id_of octets) b where
  by : (id : Option ℕ) → IsWordBody octets id (Err e) → is_end_reason e ≡ true
  by None k = absurd (k.1 (IsUtf8-from_ascii octets (ascii_each is_word_octet octets low_word h)))
  by (Some id) k = cc

operator_fair : (octets : List ℕ) → Each is_operator_octet octets → IsFairBody TokenKind.Operator octets
operator_fair octets h e b = absurd (b.1 (IsUtf8-from_ascii octets (ascii_each is_operator_octet octets low_operator h)))

null_fair : (octets : List ℕ) → IsFairBody TokenKind.KindName octets
null_fair octets e h = by (kind_named octets) h where
  by : (kind : Option Kind) → Err e ≡ null_of kind → is_end_reason e ≡ true
  by None k = let same : e ≡ Reason.Malformed = cc in ap is_end_reason same
  by (Some kind) k = cc

number_fair : (octets : List ℕ) → IsFairBody TokenKind.Number octets
number_fair octets Reason.TooLarge h = refl
number_fair octets Reason.Malformed h = refl
number_fair octets Reason.Float h = refl
number_fair octets _ h = absurd h

empty_fair : (octets : List ℕ) → octets ≡ [] → IsFairBody TokenKind.QuotedSymbol octets
empty_fair octets none e h = absurd (h.1 (subst (λ o. IsUtf8 o) (sym none) (IsUtf8-from_ascii [] (λ i. omega arith))))

mark_fair : (m : Mark) (octets : List ℕ) → IsFairBody (TokenKind.Mark m) octets
mark_fair m octets e h = cc

-- what the end shows is refused for its reasons alone
abbrev pub IsEndFair : Result (Option Lexeme) Reason → Type 0
IsEndFair (Ok None) = Unit {0}
IsEndFair (Ok (Some l)) = IsFairBody l.kind l.octets
IsEndFair (Err e) = is_end_reason e ≡ true

run_fair : (p : Place) (s : Known) (k : Keep) → Each is_operator_octet (kept_after k s.kept)
    → IsEndFair (ends_at s (cond (is_sexp p) (End.Token TokenKind.Operator k) (End.Refuse Reason.Incomplete)))
run_fair p s k h = cond_both (is_sexp p) _ _ (λ x. IsEndFair (ends_at s x)) (λ _. operator_fair (kept_after k s.kept) h) (λ _. refl)

letters_fair : (b : Bool) → is_end_reason (cond b Reason.Float Reason.Incomplete) ≡ true
letters_fair true = refl
letters_fair false = refl

open_fair : (p : Place) (colon : Bool) (s : Known) (m : Mode) (w : List ℕ) → IsOpen p colon m w s.kept → IsEndFair (ends_at s (end_of p m))
open_fair p colon s Mode.Colon w h = mark_fair _ s.kept
open_fair p colon s Mode.Word w (e, h) = subst (λ o. IsFairBody TokenKind.Word o) (sym e) (word_fair w h.1)
open_fair p colon s Mode.KindName w h = null_fair s.kept
open_fair p colon s Mode.Number w h = number_fair s.kept
open_fair p colon s Mode.NumberSlash w h = number_fair (s.kept ++ 47 ∷ [])
open_fair p colon s (Mode.Operator x) w (e, n, h, so) = run_fair p s Keep.Nothing (subst (λ o. Each is_operator_octet o) (sym e) h.each)
open_fair p colon s Mode.OperatorSlash w (e, so, h) = run_fair p s (Keep.One 47) (each_last is_operator_octet s.kept 47 h.each refl)
open_fair p colon s (Mode.Infinity n) w h = letters_fair (Rattle.std.specs.Prelude.nat_eq n 3)
open_fair p colon s Mode.Quote w h = refl
open_fair p colon s Mode.Quotes w (e, none) = empty_fair s.kept none
open_fair p colon s (Mode.Text t v) w h = refl
open_fair p colon s Mode.Brace w h = mark_fair _ s.kept
open_fair p colon s (Mode.Lob l) w h = refl
open_fair p colon s _ w h = absurd h

mode_fair : (p : Place) (colon : Bool) (k : ℕ) (s : Known) (m : Mode) (since : List ℕ) → InMode p colon k m s.kept s.start since
    → IsEndFair (ends_at s (end_of p m))
mode_fair p colon k s Mode.Slash since (none, front, blank, cut) =
    run_fair p s (Keep.One 47) (subst (λ o. Each is_operator_octet (o ++ 47 ∷ [])) (sym none) (refl, tt))
mode_fair p colon k s Mode.Blank since h = tt
mode_fair p colon k s Mode.LineComment since h = tt
mode_fair p colon k s Mode.BlockComment since h = refl
mode_fair p colon k s Mode.BlockCommentStar since h = refl
mode_fair p colon k s m since b = open_fair p colon s m b.token b.is

-- What the end shows behind octets that a scanner stands for is refused for its reasons alone.
pub end_fair : (p : Place) (s : Known) (u : List ℕ) (ts : List Placed) → Scanned p s u ts [] → IsEndFair (at_end p s)
end_fair p s u ts h = let there = begun_holds p s u ts h in mode_fair p there.colon there.end s s.mode there.since there.holds.mode

unless_memory : (e : Reason) → (e ≢ Reason.Memory → is_end_reason e ≡ true) → is_end_reason e ≡ true
unless_memory Reason.Memory h = refl
unless_memory _ h = h (λ i. cc)

-- an end refuses for one of its reasons
pub end_reason : (x : Result (Option Lexeme) Reason) (r : Refusal) (used : ℕ) → IsEndFair x → Ends used x (Err r) → is_end_reason r.reason ≡ true
end_reason (Ok None) r used f a = unless_memory r.reason (λ n. absurd (a n))
end_reason (Ok (Some l)) r used f a = unless_memory r.reason (λ n. f r.reason (a n).says)
end_reason (Err e) r used f a = unless_memory r.reason (λ n. ap (λ (q : Refusal). is_end_reason q.reason) (a n) ∙ f)
