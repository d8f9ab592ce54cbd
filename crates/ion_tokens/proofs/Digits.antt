-- Numbers of digits up to a bound.
use Rattle.std.proofs.Common.{◌≡◌, ℕ, ◌+◌, ◌-◌, ◌*◌, ◌<◌, ◌≤◌, min, List, [], ◌∷◌, length, drop, get_or, sym, ap, ◌∙◌, arith, add-one, drop-cons, suc}
use Rattle.std.proofs.lemmas.List.{drop_all}
use Rattle.ion_tokens.specs.Names.{number_in}

-- bounding a front changes nothing below the bound
pub bounded : (m n : ℕ) (ds : List ℕ) → min (number_in (min n m) ds) m ≡ min (number_in n ds) m
bounded m n [] = omega arith
bounded m n (d ∷ ds) =
    let e : min (min n m * 10 + (d - 48)) m ≡ min (n * 10 + (d - 48)) m = omega arith in
    sym (bounded m (min n m * 10 + (d - 48)) ds) ∙ ap (λ k. min (number_in k ds) m) e ∙ bounded m (n * 10 + (d - 48)) ds

-- one more digit
pub bounded_step : (m v next i : ℕ) (ds : List ℕ) → i < length ds → next ≡ min (v * 10 + (get_or ds i 0 - 48)) m
    → min (number_in next (drop (i + 1) ds)) m ≡ min (number_in v (drop i ds)) m
bounded_step m v next i ds h e =
    rw (e, add-one, drop-cons ds i 0) (bounded m (v * 10 + (get_or ds i 0 - 48)) (drop (suc i) ds))

-- no digit is left
pub bounded_end : (m v i : ℕ) (ds : List ℕ) → length ds ≤ i → v ≤ m → min (number_in v (drop i ds)) m ≡ v
bounded_end m v i ds h k = rw (drop_all i ds h) (omega arith)
