-- Two structs whose fields are paired off, each with an equal one.
use Rattle.std.proofs.Common.{◌≡◌, ℕ, ◌≤◌, ◌+◌, zero, suc, List, [], ◌∷◌, length, drop, slice_get, set, replicate, Bool, true, false, cond, Option, Some, Equal, refl, arith, add-one, ap, ◌∙◌}
use Rattle.std.specs.List.{count_by}
use Rattle.std.proofs.lemmas.List.{drop_all}
use Rattle.ion_model.specs.Names.{Field, Value, field_same, fields_same, order, same, symbol_same}
use Rattle.ion_model.specs.laws.Counts.{alike_from, count_by-cons}
use Rattle.ion_model.specs.laws.OrderEqual.{equal_from_order}
use Rattle.ion_model.specs.laws.Parts.{symbol_from}

module _ {X : Type 0} (p : X → Bool) where
  -- how many of those that aren't paired yet pass
  pub left : List X → List Bool → ℕ
  left [] bs = 0
  left (x ∷ xs) [] = cond (p x) 1 0 + left xs []
  left (x ∷ xs) (b ∷ bs) = cond b 0 (cond (p x) 1 0) + left xs bs

  -- before the first pair all are left
  left-all : (n : ℕ) (xs : List X) → left xs (replicate n false) ≡ count_by p xs
  unfolding left
  left-all n [] = refl
  left-all zero (x ∷ xs) = omega (arith, count_by-cons p x xs, left-all zero xs)
  left-all (suc n) (x ∷ xs) = omega (arith, count_by-cons p x xs, left-all n xs)

  -- one more is paired
  left-pair : (k : ℕ) (x : X) (xs : List X) (bs : List Bool) → slice_get xs k ≡ Some x → slice_get bs k ≡ Some false
      → left xs bs ≡ cond (p x) 1 0 + left xs (set bs k true)
  unfolding left
  left-pair zero x (y ∷ ys) (false ∷ bs) h i = let e : y ≡ x = cc in rw e (omega arith)
  left-pair (suc k) x (y ∷ ys) (b ∷ bs) h i = omega (arith, left-pair k x ys bs h i)
  left-pair _ x _ _ h i = cc

bit-most : (b : Bool) → cond b 1 0 ≤ 1
bit-most true = omega arith
bit-most false = omega arith

-- the field at i is counted beside those behind it
count-next : {X : Type 0} (p : X → Bool) (i : ℕ) (x : X) (xs : List X) → slice_get xs i ≡ Some x
    → count_by p (drop i xs) ≡ cond (p x) 1 0 + count_by p (drop (i + 1) xs)
count-next p i x [] h = cc
count-next p zero x (y ∷ ys) h = let e : y ≡ x = cc in rw e (count_by-cons p x ys)
count-next p (suc i) x (y ∷ ys) h = rw (add-one (suc i)) (rw (add-one i) at (count-next p i x ys h))

-- what is left of all is at least what is left of those that pass
left-most : {X : Type 0} (p : X → Bool) (xs : List X) (bs : List Bool) → left p xs bs ≤ left (λ x. true) xs bs
unfolding left
left-most p [] bs = omega arith
left-most p (x ∷ xs) [] = omega (arith, left-most p xs [], bit-most (p x))
left-most p (x ∷ xs) (true ∷ bs) = omega (arith, left-most p xs bs)
left-most p (x ∷ xs) (false ∷ bs) = omega (arith, left-most p xs bs, bit-most (p x))

count-all : {X : Type 0} (xs : List X) → count_by (λ x. true) xs ≡ length xs
count-all [] = refl
count-all (x ∷ xs) = omega (arith, count_by-cons (λ x. true) x xs, count-all xs)

-- of two structs' fields each but those from i on is paired with an equal one
pub record ArePaired (fs gs : List Field) (bs : List Bool) (i : ℕ) : Type 0 where
  pub counts : (p : Field → Bool) → left p gs bs + count_by p fs ≡ count_by p gs + count_by p (drop i fs)

-- before the first pair
pub paired-none : (n : ℕ) (fs gs : List Field) → ArePaired fs gs (replicate n false) 0
paired-none n fs gs = record { counts = λ p. omega (arith, left-all p n gs) }

-- one more pair
pub paired-more : (fs gs : List Field) (bs : List Bool) (i k : ℕ) (f : Field) → slice_get fs i ≡ Some f → slice_get gs k ≡ Some f → slice_get bs k ≡ Some false
    → ArePaired fs gs bs i → ArePaired fs gs (set bs k true) (i + 1)
paired-more fs gs bs i k f at there free h = record { counts = λ p. omega (arith, h.counts p, left-pair p k f gs bs there free, count-next p i f fs at) }

-- as many fields, which are all paired, are the same
pub paired-all : (fs gs : List Field) (bs : List Bool) (i : ℕ) → length fs ≡ length gs → length fs ≤ i → ArePaired fs gs bs i → fields_same same fs gs ≡ true
paired-all fs gs bs i long end h =
    let none : drop i fs ≡ [] = drop_all i fs end in
    let all : left (λ x. true) gs bs + length fs ≡ length gs + 0 = simp (count-all, none) at (h.counts (λ x. true)) in
    alike_from (field_same same) fs gs (record {
      at = λ f. omega (arith, all, left-most (field_same same f) gs bs, h.counts (field_same same f), ap (count_by (field_same same f)) none);
    })

abbrev named : Option (List ℕ) → Value → Field
named n v = record { name = n; value = v }

-- fields of one name whose values tie are equal
pub field-is : (f g : Field) → symbol_same f.name g.name ≡ true → order f.value g.value ≡ Equal → f ≡ g
field-is f g n v = ap (λ s. named s f.value) (symbol_from f.name g.name n) ∙ ap (named g.name) (equal_from_order f.value g.value v)
