-- Words that have more octets than each that is no symbol unquoted.
use Rattle.std.proofs.Common.{◌≡◌, ℕ, ◌<◌, ◌≤◌, Bool, true, false, List, length, refl, ap, ◌∙◌, arith}
use Rattle.std.specs.Prelude.{◌||◌, codes}
use Rattle.std.specs.Str.{bytes_eq}
use Rattle.std.proofs.lemmas.Slice.Eq.{bytes_eq-Decides}
use Rattle.ion_spelling.specs.Names.{is_keyword}

differs : (w v : List ℕ) (n : ℕ) → 5 < length w → length v ≡ n → n ≤ 5 → bytes_eq w v ≡ false
differs w v n long size few = by (bytes_eq w v) refl
  where
    by : (b : Bool) → bytes_eq w v ≡ b → bytes_eq w v ≡ false
    by true e = let same : length w ≡ length v = ap (λ (x : List ℕ). length x) ((bytes_eq-Decides w v).0 e) in absurd (omega arith)
    by false e = e

-- a word of more than five octets is no keyword
pub long_free : (w : List ℕ) → 5 < length w → is_keyword w ≡ false
long_free w long =
    ap (λ b. (b || bytes_eq w (codes "true")) || (bytes_eq w (codes "false") || bytes_eq w (codes "nan"))) (differs w (codes "null") 4 long refl (omega arith))
    ∙ (ap (λ b. b || (bytes_eq w (codes "false") || bytes_eq w (codes "nan"))) (differs w (codes "true") 4 long refl (omega arith))
    ∙ (ap (λ b. b || bytes_eq w (codes "nan")) (differs w (codes "false") 5 long refl (omega arith)) ∙ differs w (codes "nan") 3 long refl (omega arith)))
