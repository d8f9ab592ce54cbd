-- The digits of a number in front of octets, inserted from the last on.
use Rattle.std.proofs.Common.{◌≡◌, ℕ, zero, suc, ◌/◌, ◌%◌, ◌<◌, ◌≤◌, List, [], ◌∷◌, ◌++◌, length, take, drop, refl, ap, append_assoc, arith}
use Rattle.std.specs.List.{insert}
use Rattle.std.specs.Int.Digits.{digits_of}
use Rattle.std.proofs.lemmas.Int.Digits.{digits_of_step}

front_kept : (w : List ℕ) (i o : ℕ) → i ≤ length w → take i (insert w i o) ≡ take i w
front_kept w zero o le = refl
front_kept [] (suc i) o le = absurd (omega arith)
front_kept (x ∷ w) (suc i) o le = ap (λ v. x ∷ v) (front_kept w i o (omega arith))

rest_moved : (w : List ℕ) (i o : ℕ) → i ≤ length w → drop i (insert w i o) ≡ o ∷ drop i w
rest_moved w zero o le = refl
rest_moved [] (suc i) o le = absurd (omega arith)
rest_moved (x ∷ w) (suc i) o le = rest_moved w i o (omega arith)

-- more digits in front of one that was inserted
pub digit_inserted : (w more : List ℕ) (i o : ℕ) → i ≤ length w → take i (insert w i o) ++ (more ++ drop i (insert w i o)) ≡ take i w
    ++ ((more ++ o ∷ []) ++ drop i w)
digit_inserted w more i o le =
    rw (front_kept w i o le, rest_moved w i o le, append_assoc more) refl

-- one digit less is left
pub digit_next : (w all : List ℕ) (i n : ℕ) → i ≤ length w → 0 < n → take i w ++ (digits_of 128 n ++ drop i w) ≡ all
    → take i (insert w i (n % 128)) ++ (digits_of 128 (n / 128) ++ drop i (insert w i (n % 128))) ≡ all
digit_next w all i n le some e =
    rw (digit_inserted w (digits_of 128 (n / 128)) i (n % 128) le, ← digits_of_step 128 n (omega arith) some) e

-- where no digit is left to be inserted, the octets are as they should be
pub digits_done : (w all : List ℕ) (i n : ℕ) → n ≡ 0 → take i w ++ (digits_of 128 n ++ drop i w) ≡ all → w ≡ all
digits_done w all i n none e = rw (none, take_append w i) at e where
  take_append : (w : List ℕ) (i : ℕ) → take i w ++ drop i w ≡ w
  take_append w zero = refl
  take_append [] (suc i) = refl
  take_append (x ∷ w) (suc i) = ap (λ v. x ∷ v) (take_append w i)
