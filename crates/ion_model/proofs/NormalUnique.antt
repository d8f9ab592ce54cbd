-- Two normal forms that are the same tie in the order.
use Rattle.std.proofs.Common.{◌≡◌, ℕ, ◌<◌, suc, List, [], ◌∷◌, length, get_or, Bool, true, false, Ordering, Less, Equal, Greater, refl, arith, add-one, ap, ◌∙◌, sym, subst, true≢false}
use Rattle.std.specs.Cmp.{IsEquivalence, IsTotalOrder}
use Rattle.std.specs.Cmp.Lexicographic.{slice_cmp}
use Rattle.std.specs.List.Sorted.{IsSortedBy}
use Rattle.std.specs.Ordering.{is_lt, ordering_reverse}
use Rattle.std.proofs.lemmas.List.Sorted.{sorted_far, ranks_by}
use Rattle.ion_model.specs.laws.Counts.{bit, count_by-cons, Counts, Found, find, counted}

-- lists in order, whose items stand as often up to E, where E holds just of items that tie
module _ {X : Type 0} (E : X → X → Bool) (e : IsEquivalence E) (R : X → X → Ordering) (o : IsTotalOrder R) where
  abbrev Up : List X → Type 0
  Up xs = IsSortedBy (λ x y. is_lt (R x y)) xs

  -- on the items of these lists, E holds just where R ties
  pub record Ties (xs ys : List X) : Type 0 where
    pub from : (i j : ℕ) (d : X) → i < length xs → j < length ys → E (get_or xs i d) (get_or ys j d) ≡ true → R (get_or xs i d) (get_or ys j d) ≡ Equal
    pub back : (i j : ℕ) (d : X) → i < length xs → j < length ys → R (get_or xs i d) (get_or ys j d) ≡ Equal → E (get_or xs i d) (get_or ys j d) ≡ true

  -- the first of a list in order is not above any of it
  first_least : (x : X) (xs : List X) → Up (x ∷ xs) → (j : ℕ) (d : X) → j < length (x ∷ xs) → is_lt (R (get_or (x ∷ xs) j d) x) ≡ false
  first_least x xs up j d h = sorted_far (λ x y. is_lt (R x y)) (ranks_by o (λ x. x)) (x ∷ xs) up 0 j d (omega arith) h

  not_less : (a b : Ordering) → a ≡ ordering_reverse b → is_lt a ≡ false → is_lt b ≡ false → b ≡ Equal
  not_less a Less r p q = cc
  not_less a Equal r p q = refl
  not_less a Greater r p q = absurd (true≢false (sym (ap is_lt r) ∙ p))

  heads_tie : (x y : X) (xs ys : List X) → Up (x ∷ xs) → Up (y ∷ ys) → Ties (x ∷ xs) (y ∷ ys) → Counts E (x ∷ xs) (y ∷ ys) → R x y ≡ Equal
  heads_tie x y xs ys upx upy ties c =
      let fx : Found E x (y ∷ ys) = find E x (y ∷ ys) (subst (λ n. 0 < n) (c.at x) (counted E e x xs)) in
      let fy : Found E y (x ∷ xs) = find E y (x ∷ xs) (subst (λ n. 0 < n) (sym (c.at y)) (counted E e y ys)) in
      let tx : R x (get_or (y ∷ ys) fx.place y) ≡ Equal = ties.from 0 fx.place y (omega arith) fx.within (fx.alike y) in
      let ty : R (get_or (x ∷ xs) fy.place x) y ≡ Equal = ties.from fy.place 0 x fy.within (omega arith) (e.symm _ y ∙ fy.alike x) in
      -- y is not above what ties with x, and x not above what ties with y
      let a : is_lt (R x y) ≡ false = ap is_lt (o.congr x (get_or (y ∷ ys) fx.place y) y tx) ∙ first_least y ys upy fx.place y fx.within in
      let b : is_lt (R y x) ≡ false = ap is_lt (o.congr y (get_or (x ∷ xs) fy.place x) x (o.antisymm y _ ∙ ap ordering_reverse ty))
      ∙ first_least x xs upx fy.place x fy.within in
      not_less (R y x) (R x y) (o.antisymm y x) b a

  tail_up : (x : X) (xs : List X) → Up (x ∷ xs) → Up xs
  tail_up x xs up = λ k d low h. rw (add-one k) (simp (add-one (suc k)) at (up (suc k) d (omega arith) (omega arith)))

  tail_ties : (x y : X) (xs ys : List X) → Ties (x ∷ xs) (y ∷ ys) → Ties xs ys
  tail_ties x y xs ys t = record {
    from = λ i j d p q h. t.from (suc i) (suc j) d (omega arith) (omega arith) h;
    back = λ i j d p q h. t.back (suc i) (suc j) d (omega arith) (omega arith) h;
  }

  tail_counts : (x y : X) (xs ys : List X) → E x y ≡ true → Counts E (x ∷ xs) (y ∷ ys) → Counts E xs ys
  tail_counts x y xs ys xy c = record {
    at = λ z.
        let same : E z x ≡ E z y = e.symm z x ∙ e.congr x y z xy ∙ e.symm y z in
        let r : bit (E z x) ≡ bit (E z y) = ap bit same in
        omega (arith, c.at z, count_by-cons (E z) x xs, count_by-cons (E z) y ys, r);
  }

  -- lists in order in which each item stands as often tie, where their items tie just if they are the same
  pub tie : (xs ys : List X) → Up xs → Up ys → Ties xs ys → Counts E xs ys → slice_cmp R xs ys ≡ Equal
  tie [] [] upx upy t c = refl
  tie [] (y ∷ ys) upx upy t c = absurd (omega (arith, c.at y, counted E e y ys))
  tie (x ∷ xs) [] upx upy t c = absurd (omega (arith, c.at x, counted E e x xs))
  tie (x ∷ xs) (y ∷ ys) upx upy t c =
      let h : R x y ≡ Equal = heads_tie x y xs ys upx upy t c in
      let xy : E x y ≡ true = t.back 0 0 x (omega arith) (omega arith) h in
      rw h (tie xs ys (tail_up x xs upx) (tail_up y ys upy) (tail_ties x y xs ys t) (tail_counts x y xs ys xy c))
