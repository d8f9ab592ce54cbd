-- Symbols at the front of octets that are annotations if `::` follows.
use Rattle.std.proofs.Common.{◌≡◌, ◌≢◌, ℕ, suc, false, List, [], ◌∷◌, take, drop, get_or, Some, refl, ap, arith}
use Rattle.std.specs.Prelude.{◌==◌, ◌&&◌, codes}
use Rattle.std.specs.Str.{bytes_eq}
use Rattle.std.proofs.lemmas.Bool.Decides.{nat_tests}
use Rattle.ion_text.specs.Names.{names_table}

-- a text that begins with no `$` doesn't name local symbol tables
pub no_table : (w : List ℕ) → get_or w 0 0 ≢ 36 → names_table (Some w) ≡ false
no_table [] h = refl
no_table (o ∷ os) h = ap (λ b. b && bytes_eq os (codes "ion_symbol_table")) (differs o h)
  where
    differs : (o : ℕ) → o ≢ 36 → (o == 36) ≡ false
    differs o h = grind (arith, nat_tests)

-- nor does the front of one
pub word_first : (k : ℕ) (w : List ℕ) → get_or w 0 0 ≢ 36 → get_or (take k w) 0 0 ≢ 36
word_first (suc k) (x ∷ w) h = h
word_first _ _ h = λ e. absurd (omega (arith, e))

-- nor one in quotes whose first octet is none
pub quoted_first : (k : ℕ) (w : List ℕ) → get_or w 1 0 ≢ 36 → get_or (take k (drop 1 w)) 0 0 ≢ 36
quoted_first (suc k) (x ∷ y ∷ w) h = h
quoted_first _ _ h = λ e. absurd (omega (arith, e))
