-- What the octets behind the last token are, by what the scanner knows.
use Rattle.std.proofs.Common.{◌≡◌, ℕ, ◌+◌, ◌≤◌, ◌⊎◌, ⊎_elim, Bool, true, false, List, [], ◌∷◌, ◌++◌, length, refl, sym, ap, ◌∙◌, subst, arith, cond}
use Rattle.std.specs.Prelude.{◌==◌, ◌||◌, not, codes, take, Some, Ok, Err}
use Rattle.std.specs.Result.{result_ok}
use Rattle.std.proofs.lemmas.Bool.Decides.{nat_tests}
use Rattle.base64.specs.Engines.{standard}
use Rattle.base64.specs.GeneralPurpose.{decode_of, decoded_of}
use Rattle.base64.proofs.EngineFacts.{decode_of_strict}
use Rattle.ion_tokens.specs.Names.{AreOctets, BlankPiece, Each, Given, HasNoClose, IsBlank, IsBlankPiece, IsBlobContent, IsOpenComment, IsWord, Known, Left, Lexeme, Mode, Next, Outcome, Place, Refused, base64_of, blank_spelling, blob_of, is_base64, is_white, run, takes_colon}
use Rattle.ion_tokens.specs.Lexemes.{ends}
use Rattle.ion_tokens.specs.laws.Blobs.{blob_octets, octet_at}
use Rattle.ion_tokens.proofs.complete.Moves.{Resumes, at}
use Rattle.ion_tokens.proofs.complete.TakesOperators.{resumes_i, resumes_in, resumes_inf}
use Rattle.ion_tokens.proofs.sound.Opens.{AnyBlob, IsOpen, IsUnjudgedToken, solid}
use Rattle.ion_tokens.specs.laws.Each.{all_last, flat_last}

-- behind a blank, an open block comment, which ends in a star or not
pub record IsOpenBlock (since : List ℕ) (star : Bool) : Type 0 where
  pub front : List ℕ
  pub octets : List ℕ
  pub blank : IsBlank front
  pub no_close : HasNoClose octets
  pub last : ends (λ o. o == 42) octets ≡ star
  pub cut : since ≡ front ++ codes "/*" ++ octets

-- a blank and an open token, which begins at this offset
pub record IsBegun (p : Place) (colon : Bool) (k : ℕ) (m : Mode) (kept : List ℕ) (start : ℕ) (since : List ℕ) : Type 0 where
  pub front : List ℕ
  pub token : List ℕ
  pub blank : IsBlank front
  pub cut : since ≡ front ++ token
  pub begins : start ≡ k + length front
  pub is : IsOpen p colon m token kept

-- The octets behind the last token, which ended at k, leave the scanner in this mode.
abbrev pub InMode : Place → Bool → ℕ → Mode → List ℕ → ℕ → List ℕ → Type 0
InMode p colon k Mode.Blank kept start since = (kept ≡ []) × IsBlank since
InMode p colon k Mode.Slash kept start since = (kept ≡ []) × (front : List ℕ) × IsBlank front × (since ≡ front ++ 47 ∷ [])
InMode p colon k Mode.LineComment kept start since = (kept ≡ []) × IsOpenComment since
InMode p colon k Mode.BlockComment kept start since = (kept ≡ []) × IsOpenBlock since false
InMode p colon k Mode.BlockCommentStar kept start since = (kept ≡ []) × IsOpenBlock since true
InMode p colon k m kept start since = IsBegun p colon k m kept start since

-- what the scanner knows is what the octets leave it behind the last token, which ended at k
pub record Holds (p : Place) (colon : Bool) (k : ℕ) (s : Known) (since : List ℕ) : Type 0 where
  pub flag : s.colon ≡ colon
  pub used : s.used ≡ k + length since
  pub mode : InMode p colon k s.mode s.kept s.start since

-- A token was told of the octets, but for those ahead, which were taken up already; these come after them.
pub record IsTold (p : Place) (colon : Bool) (k : ℕ) (octets ahead after : List ℕ) (l : Lexeme) (s : Known) : Type 0 where
  pub front : List ℕ
  pub token : List ℕ
  pub blank : IsBlank front
  pub cut : octets ≡ (front ++ token) ++ ahead
  pub start : l.start ≡ k + length front
  pub end : l.end ≡ (k + length front) + length token
  pub found : (r : List ℕ) → IsUnjudgedToken p colon token (ahead ++ (after ++ r)) l.kind l.octets
  pub rest : (q : Place) → Holds q (takes_colon p l.kind) l.end s ahead
  -- from a blank behind the token, the octets ahead lead to what the scanner knows
  pub again : (q : Place) → run q ahead (at Mode.Blank [] (takes_colon p l.kind) l.end l.end) ≡ Next s

-- what comes of one octet more is so
abbrev pub Sound : Place → Bool → ℕ → List ℕ → ℕ → Outcome → Type 0
Sound p colon k since o (Next s) = Holds p colon k s (since ++ o ∷ [])
Sound p colon k since o (Given l s) = IsTold p colon k (since ++ o ∷ []) [] [] l s
Sound p colon k since o (Left l s) = (ahead : List ℕ) × IsTold p colon k since ahead (o ∷ []) l s
Sound p colon k since o (Refused n r) = Unit {0}

-- no octets are a blank
pub blank_none : IsBlank []
blank_none = record { pieces = []; each = tt; spelled = refl }

-- a blank and one more piece of a blank are a blank
pub blank_more : (w : List ℕ) (b : BlankPiece) → IsBlank w → IsBlankPiece b → IsBlank (w ++ blank_spelling b)
blank_more w b h i = record {
  pieces = h.pieces ++ b ∷ [];
  each = all_last IsBlankPiece h.pieces b h.each i;
  spelled = ap (λ l. l ++ blank_spelling b) h.spelled
      ∙ sym (flat_last blank_spelling h.pieces b);
}

-- blobs
base_octets : (os : List ℕ) → Each is_base64 os → AreOctets os
base_octets [] h = tt
base_octets (o ∷ os) h = (grind (arith, nat_tests, h.0), base_octets os h.1)

solid_base : (os : List ℕ) → Each AnyBlob os → Each is_base64 (solid os)
solid_base [] h = tt
solid_base (o ∷ os) h = by (is_white o) h.0 (solid_base os h.1) where
  by : (b : Bool) → (b || is_base64 o) ≡ true → Each is_base64 (solid os) → Each is_base64 (cond (not b) (o ∷ solid os) (solid os))
  by true g f = f
  by false g f = (g, f)

-- base64 with white space that decodes to octets is the content of a blob that has them
pub blob_sound : (inside octets : List ℕ) → Each AnyBlob inside → blob_of (solid inside) ≡ Some octets → IsBlobContent inside octets
unfolding blob_of decoded_of
blob_sound inside octets h e = (
  h,
  record {
    octets_are = blob_octets (solid inside) octets text e;
    spelled =
        by (decode_of standard (solid inside)) refl e;
  },
) where
  text : AreOctets (solid inside)
  text = base_octets (solid inside) (solid_base inside h)

  by : (r : _) → decode_of standard (solid inside) ≡ r → result_ok r ≡ Some octets → solid inside ≡ base64_of octets
  by (Ok b) d f = let same : b ≡ octets = cc in decode_of_strict standard (solid inside) octets (refl, refl) (octet_at (solid inside) text) (d ∙ ap Ok same)
  by (Err x) d f = cc

-- a token goes on
pub in_mode : (p : Place) (colon : Bool) (k : ℕ) (m : Mode) (kept : List ℕ) (start : ℕ) (front token : List ℕ) → IsBlank front → start ≡ k + length front
    → IsOpen p colon m token kept → InMode p colon k m kept start (front ++ token)
in_mode p colon k Mode.Blank kept start front token b e h = absurd h
in_mode p colon k Mode.Slash kept start front token b e h = absurd h
in_mode p colon k Mode.LineComment kept start front token b e h = absurd h
in_mode p colon k Mode.BlockComment kept start front token b e h = absurd h
in_mode p colon k Mode.BlockCommentStar kept start front token b e h = absurd h
in_mode p colon k _ kept start front token b e h = record { front = front; token = token; blank = b; cut = refl; begins = e; is = h }

-- behind a token
pub blank_behind : (q : Place) (colon : Bool) (end : ℕ) → Holds q colon end (at Mode.Blank [] colon end end) []
blank_behind q colon end = record { flag = refl; used = omega arith; mode = (refl, blank_none) }

-- a number from one to three is one of these
pub one_to_three : (n : ℕ) → 1 ≤ n → n ≤ 3 → (n ≡ 1) ⊎ ((n ≡ 2) ⊎ (n ≡ 3))
one_to_three n a b = grind (arith, nat_tests)

-- the first one, two or three letters of `inf` are a word
pub inf_word : (n : ℕ) → 1 ≤ n → n ≤ 3 → IsWord (take n (codes "inf")) × (length (take n (codes "inf")) ≡ n)
inf_word n a b = ⊎_elim (λ e. subst P (sym e) ((refl, (refl, tt)), refl))
    (λ m. ⊎_elim (λ e. subst P (sym e) ((refl, (refl, (refl, tt))), refl)) (λ e. subst P (sym e) ((refl, (refl, (refl, (refl, tt)))), refl)) m)
    (one_to_three n a b) where
      P : ℕ → Type 0
      P n = IsWord (take n (codes "inf")) × (length (take n (codes "inf")) ≡ n)

-- letters of `inf` behind a token lead into a word
pub inf_again : (q : Place) (colon : Bool) (end n used : ℕ) → 1 ≤ n → n ≤ 3 → used ≡ end + n → run q (take n (codes "inf")) (at Mode.Blank [] colon end end)
    ≡ Next (at Mode.Word (take n (codes "inf")) colon end used)
inf_again q colon end n used a b e = resumes q colon end
    ∙ ap (λ (u : ℕ). Next (at Mode.Word (take n (codes "inf")) colon end u)) (ap (λ (i : ℕ). end + i) (inf_word n a b).1 ∙ sym e)
  where
    P : ℕ → Type 0
    P n = Resumes (take n (codes "inf")) Mode.Word (take n (codes "inf"))

    resumes : P n
    resumes = ⊎_elim (λ f. subst P (sym f) resumes_i) (λ m. ⊎_elim (λ f. subst P (sym f) resumes_in) (λ f. subst P (sym f) resumes_inf) m) (one_to_three n a b)
