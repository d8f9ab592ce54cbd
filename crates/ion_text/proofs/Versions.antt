-- Words of the form of a version marker.
use Rattle.std.proofs.Common.{◌≡◌, ℕ, Bool, true, false, List, [], ◌∷◌, length, refl, arith, ap, ◌∙◌}
use Rattle.std.specs.Prelude.{◌==◌, ◌&&◌, ◌||◌}
use Rattle.std.specs.List.{list_all}
use Rattle.std.proofs.lemmas.Bool.Decides.{nat_tests}
use Rattle.ion_text.specs.Names.{is_digit, some_digits, version_parts}

-- a digit in place of those that were passed
abbrev pub since : Bool → List ℕ → List ℕ
since true w = 48 ∷ w
since false w = w

no_underscore : (o : ℕ) → is_digit o ≡ true → (o == 95) ≡ false
no_underscore o h = grind (arith, nat_tests)

digit_passes : (d x u s : Bool) → d ≡ true → u ≡ false → ((d && x) || (u && s)) ≡ x
digit_passes true false true s h k = cc
digit_passes false x u s h k = cc
digit_passes _ _ _ s h k = refl

passes : (d x : Bool) → d ≡ true → (d && x) ≡ x
passes true x h = refl
passes false x h = cc

-- in the form of a version a digit counts as a `0`, with a `0` before it or none
pub version_step : (some : Bool) (o : ℕ) (more : List ℕ) → is_digit o ≡ true → version_parts (since some (o ∷ more)) ≡ version_parts (48 ∷ more)
version_step true o more h = digit_passes (is_digit o) (version_parts (48 ∷ more)) (o == 95) (some_digits more) h (no_underscore o h)
version_step false o more h = passes (is_digit o) (version_parts (48 ∷ more)) h

-- octets that are all digits are some digits, if there is one
pub all_digits : (w : List ℕ) → (length w == 0) ≡ false → list_all is_digit w ≡ some_digits w
all_digits [] h = cc
all_digits (o ∷ []) h = by (is_digit o) where
  by : (b : Bool) → (b && true) ≡ (b && (false || true))
  by true = refl
  by false = refl
all_digits (o ∷ x ∷ w) h = ap (λ b. is_digit o && b) (all_digits (x ∷ w) (some_more x w)
    ∙ more (some_digits (x ∷ w)) (length (x ∷ w) == 0) (some_more x w)) where
      some_more : (y : ℕ) (ys : List ℕ) → (length (y ∷ ys) == 0) ≡ false
      some_more y ys = grind (arith, nat_tests)

      more : (b e : Bool) → e ≡ false → b ≡ (b || e)
      more false true h = cc
      more _ _ h = refl
