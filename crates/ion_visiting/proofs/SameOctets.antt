-- Octets that are the same in vectors of sixteen.
use Rattle.std.proofs.Common.{◌≡◌, ℕ, ◌+◌, ◌-◌, ◌%◌, ◌^◌, ◌≤◌, ◌<◌, Bool, true, false, not, cond, eqb, nat_eq, List, [], ◌∷◌, ◌++◌, length, map, take, drop, arith, refl, ap, sym, ◌∙◌, w8}
use Rattle.std.proofs.lemmas.Bool.{eqb-true}
use Rattle.std.proofs.lemmas.Grind.{common_steps}
use Rattle.std.proofs.lemmas.List.{length-take-le, take-append-drop, take-append-le}
use Rattle.std.proofs.lemmas.Simd.{length-zip2, mask_l-mod, tops_compared}
use Rattle.std.proofs.Math.Seq.{take-append-add, take-length}
use lib.Lanes.{mask_l, top, zip2}

-- where lanes differ
abbrev others : List ℕ → List ℕ → List Bool
others xs ys = zip2 (λ a b. not (eqb a b)) xs ys

none_other : (xs ys : List ℕ) → length xs ≡ length ys → mask_l (others xs ys) ≡ 0 → xs ≡ ys
none_other [] [] long none = refl
none_other [] (y ∷ ys) long none = absurd (omega (arith, long))
none_other (x ∷ xs) [] long none = absurd (omega (arith, long))
none_other (x ∷ xs) (y ∷ ys) long none = by (eqb x y) refl (none_other xs ys (omega (arith, long)))
  where
    by : (b : Bool) → eqb x y ≡ b → (mask_l (others xs ys) ≡ 0 → xs ≡ ys) → x ∷ xs ≡ y ∷ ys
    by true e rest =
        let first = eqb-true x y e in
        let behind = rest (grind (arith, common_steps, none, e)) in
        cc (first, behind)
    by false e rest = absurd (grind (arith, common_steps, none, e))

-- vectors of no mask are the same
pub same_masked : (xs ys : List ℕ) → length xs ≡ 16 → length ys ≡ 16
    → nat_eq (mask_l (map (top 7) (zip2 (λ a b. cond (not (eqb a b)) 255 0) xs ys)) % 2 ^ 64) 0 ≡ true → xs ≡ ys
same_masked xs ys l m h =
    let tops = tops_compared w8 (λ a b. not (eqb a b)) xs ys in
    let long : length xs ≡ length ys = l ∙ sym m in
    let count = length-zip2 (λ a b. not (eqb a b)) xs ys long in
    let whole = mask_l-mod (others xs ys) 64 (omega (arith, count, l)) in
    none_other xs ys long (sym whole ∙ sym (ap (λ ms. mask_l ms % 2 ^ 64) tops) ∙ eqb-true _ _ h)

-- so many in front are the same, of as many
pub record SameFront (xs ys : List ℕ) (at : ℕ) : Type 0 where
  pub within : at ≤ length xs
  pub as_many : length xs ≡ length ys
  pub same : take at xs ≡ take at ys

more_taken : (xs : List ℕ) (at n : ℕ) → at ≤ length xs → take (at + n) xs ≡ take at xs ++ take n (drop at xs)
more_taken xs at n l =
    let all : take (length (take at xs) + n) (take at xs ++ drop at xs) ≡ take at xs ++ take n (drop at xs) = take-append-add (take at xs) (drop at xs) n in
    rw (take-append-drop at xs, length-take-le at xs l) at all

less_taken : (xs : List ℕ) (at n : ℕ) → at ≤ length xs → n ≤ at → take n (take at xs) ≡ take n xs
less_taken xs at n l k =
    let front : take n (take at xs ++ drop at xs) ≡ take n (take at xs) = take-append-le n (take at xs) (drop at xs) (omega (arith, length-take-le at xs l)) in
    sym (rw (take-append-drop at xs) at front)

-- sixteen more
pub more_same : (xs ys : List ℕ) (at : ℕ) → SameFront xs ys at → at + 16 ≤ length xs → take 16 (drop at xs) ≡ take 16 (drop at ys) → SameFront xs ys (at + 16)
more_same xs ys at h l e = record {
  within = l;
  as_many = h.as_many;
  same = more_taken xs at 16 h.within ∙ cc (h.same, e) ∙ sym (more_taken ys at 16 (omega (arith, h.within, h.as_many)));
}

less_same : (xs ys : List ℕ) (at n : ℕ) → SameFront xs ys at → n ≤ at → SameFront xs ys n
less_same xs ys at n h l = record {
  within = omega (arith, h.within);
  as_many = h.as_many;
  same = sym (less_taken xs at n h.within l) ∙ ap (take n) h.same ∙ less_taken ys at n (omega (arith, h.within, h.as_many)) l;
}

-- with the last sixteen all are
pub all_same : (xs ys : List ℕ) (at : ℕ) → SameFront xs ys at → 16 ≤ length xs → length xs - at < 16
    → take 16 (drop (length xs - 16) xs) ≡ take 16 (drop (length xs - 16) ys) → xs ≡ ys
all_same xs ys at h l k e =
    let last = length xs - 16 in
    let whole = more_same xs ys last (less_same xs ys at last h (omega arith)) (omega arith) e in
    let all : last + 16 ≡ length xs = omega arith in
    sym (take-length xs) ∙ (rw all at whole.same) ∙ ap (λ n. take n ys) h.as_many ∙ take-length ys
