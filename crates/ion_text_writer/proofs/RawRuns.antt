-- Octets that stand for themselves between quotes.
use Rattle.std.proofs.Common.{◌≡◌, ℕ, suc, Bool, true, false, cond, List, [], ◌∷◌, ◌++◌, take, drop, None, refl, sym, ap, ap₂, ◌∙◌, append_assoc, arith, ◌+◌, length, subst}
use Rattle.std.specs.Prelude.{◌==◌, not, nat_le}
use Rattle.std.specs.List.{AllByRecursion, prefix_len, take_while}
use Rattle.std.proofs.lemmas.List.Folds.{length-prefix_len}
use Rattle.std.proofs.lemmas.Bool.{and_parts}
use Rattle.std.proofs.lemmas.Bool.Decides.{nat_tests}
use Rattle.std.proofs.lemmas.Grind.{flat_map-append}
use Rattle.std.proofs.lemmas.List.{take-append-drop}
use Rattle.ion_text_writer.specs.Names.{Quotes, escape, escape_by, escaped_text, hexadecimal_escape, is_raw, letter_for}

abbrev pub AreRaw : Quotes → List ℕ → Type 0
AreRaw quotes octets = AllByRecursion (λ o. is_raw quotes o ≡ true) octets

-- those that are counted at the front stand for themselves
raw_prefix : (quotes : Quotes) (octets : List ℕ) → AreRaw quotes (take (prefix_len (is_raw quotes) octets) octets)
raw_prefix quotes [] = tt
raw_prefix quotes (o ∷ os) = by (is_raw quotes o) refl (raw_prefix quotes os) where
  by : (b : Bool) → is_raw quotes o ≡ b → AreRaw quotes (take (prefix_len (is_raw quotes) os) os)
      → AreRaw quotes (take (cond b (1 + prefix_len (is_raw quotes) os) 0) (o ∷ os))
  by true e rest = subst (λ (n : ℕ). AreRaw quotes (take n (o ∷ os))) (let next : suc (prefix_len (is_raw quotes) os) ≡ 1 + prefix_len (is_raw quotes) os =
      omega arith in next) (e, rest)
  by false e rest = tt

-- the octets up to the first that needs an escape stand for themselves
pub raw_run : (quotes : Quotes) (octets : List ℕ) (n : ℕ) → n ≡ length (take_while (is_raw quotes) octets) → AreRaw quotes (take n octets)
raw_run quotes octets n e =
    subst (λ (k : ℕ). AreRaw quotes (take k octets)) (sym (length-prefix_len (is_raw quotes) octets) ∙ sym e) (raw_prefix quotes octets)

raw_letter : (quotes : Quotes) (o : ℕ) → is_raw quotes o ≡ true → letter_for quotes.delimiter o ≡ None
raw_letter quotes o h = let a = and_parts _ _ h in let b = and_parts _ _ a.1 in let c = and_parts _ _ b.1 in by a.0 b.0 c.0 where
  by : not (o == 92) ≡ true → not (o == quotes.delimiter) ≡ true → nat_le 32 o ≡ true → letter_for quotes.delimiter o ≡ None
  by x y z = grind (arith, nat_tests)

-- an octet that stands for itself is written as it is
pub raw_escape : (quotes : Quotes) (o : ℕ) → is_raw quotes o ≡ true → escape quotes o ≡ o ∷ []
raw_escape quotes o h =
    let b = and_parts _ _ (and_parts _ _ h).1 in
    ap (escape_by quotes.ascii o) (raw_letter quotes o h) ∙ ap (λ x. cond x (o ∷ []) (hexadecimal_escape o)) b.1

pub raw_text : (quotes : Quotes) (octets : List ℕ) → AreRaw quotes octets → escaped_text quotes octets ≡ octets
raw_text quotes [] h = refl
raw_text quotes (o ∷ os) h = ap₂ (λ (a b : List ℕ). a ++ b) (raw_escape quotes o h.0) (raw_text quotes os h.1)

-- what is left of octets behind raw ones
pub raw_then : (quotes : Quotes) (n : ℕ) (octets : List ℕ) → AreRaw quotes (take n octets) → escaped_text quotes octets ≡ take n octets
    ++ escaped_text quotes (drop n octets)
raw_then quotes n octets h =
    ap (escaped_text quotes) (sym (take-append-drop n octets))
    ∙ (flat_map-append (escape quotes) (take n octets) (drop n octets)
    ∙ ap (λ (x : List ℕ). x ++ escaped_text quotes (drop n octets)) (raw_text quotes (take n octets) h))

-- raw octets, and then what is left
pub raw_goes : (quotes : Quotes) (rest raw others out new all : List ℕ) (n : ℕ) → raw ≡ take n rest → others ≡ drop n rest → AreRaw quotes (take n rest)
    → out ++ escaped_text quotes rest ≡ all → new ≡ out ++ raw → new ++ escaped_text quotes others ≡ all
raw_goes quotes rest raw others out new all n front back h whole e =
    rw (e, front, back) (append_assoc out (take n rest) (escaped_text quotes (drop n rest))
    ∙ (ap (λ (x : List ℕ). out ++ x) (sym (raw_then quotes n rest h)) ∙ whole))

-- one octet, and then what is left
pub octet_goes : (quotes : Quotes) (others more out new all : List ℕ) (o : ℕ) → others ≡ o ∷ more → out ++ escaped_text quotes others ≡ all
    → new ≡ out ++ escape quotes o → new ++ escaped_text quotes more ≡ all
octet_goes quotes others more out new all o first whole e =
    rw e (append_assoc out (escape quotes o) (escaped_text quotes more) ∙ rw first at whole)
