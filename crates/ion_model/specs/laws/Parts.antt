-- Parts of a payload that agree are equal, and so are parts that tie in the order.
use Rattle.std.proofs.Common.{◌≡◌, ℕ, ◌<◌, suc, length, get_or, List, [], ◌∷◌, Bool, true, Ordering, Equal, Option, Some, None, nat_eq, refl, arith, ap, sym, subst, ◌∙◌, true≢false}
use Rattle.std.specs.Bool.{beq}
use Rattle.std.specs.Cmp.Lexicographic.{slice_cmp}
use Rattle.std.specs.Ordering.{nat_cmp, int_cmp, int_eq, bool_cmp, is_eq}
use Rattle.std.proofs.lemmas.Bool.{eqb-true}
use Rattle.std.proofs.lemmas.Cmp.{tied_itself}
use Rattle.std.proofs.lemmas.Slice.Eq.{bytes_eq-Decides}
use lib.Pointwise.{pointwise}
use Rattle.ion_model.specs.Names.{Scalar, decimal_cmp, decimal_same, scalar_cmp, scalar_same, symbol_cmp, symbol_same, text_cmp, text_same, timestamp_cmp, timestamp_same}
use Rattle.ion_atoms.specs.laws.Tests.{both, first, second}
use Rattle.ion_atoms.specs.laws.Ties.{bool_from, bool_is, decimal_from, decimal_is, int_from, int_is, nat_is, then_first, then_second, then_tie, timestamp_from, timestamp_is}
use Rattle.ion_model.specs.laws.Equivalence.{scalar_same-equiv, symbol_same-equiv}
use Rattle.ion_model.specs.laws.OrderTotal.{scalar_cmp-total, symbol_cmp-total, symbol_ties}

text_from : (s t : List ℕ) → text_same s t ≡ true → s ≡ t
text_from s t h = (bytes_eq-Decides s t).0 h

text_is : (s t : List ℕ) → text_cmp s t ≡ Equal → s ≡ t
text_is s t h = text_from s t (symbol_ties (Some s) (Some t) ∙ ap is_eq h)

-- symbols that are the same are equal
pub symbol_from : (s t : Option (List ℕ)) → symbol_same s t ≡ true → s ≡ t
symbol_from None None h = refl
symbol_from (Some s) (Some t) h = ap Some (text_from s t h)
symbol_from _ _ h = cc

-- symbols that tie in the order are equal
pub symbol_is : (s t : Option (List ℕ)) → symbol_cmp s t ≡ Equal → s ≡ t
symbol_is s t h = symbol_from s t (symbol_ties s t ∙ ap is_eq h)

-- scalars that agree in every part are equal
pub scalar_from : (s t : Scalar) → scalar_same s t ≡ true → s ≡ t
scalar_from s t h =
    let a = second (nat_eq s.kind t.kind) _ h in
    let b = second (beq s.full t.full) _ a in
    let c = second (beq s.truth t.truth) _ b in
    let d = second (int_eq s.int t.int) _ c in
    let e = second (decimal_same s.decimal t.decimal) _ d in
    let f = second (timestamp_same s.timestamp t.timestamp) _ e in
    let kind = eqb-true s.kind t.kind (first (nat_eq s.kind t.kind) _ h) in
    let full = bool_from s.full t.full (first (beq s.full t.full) _ a) in
    let truth = bool_from s.truth t.truth (first (beq s.truth t.truth) _ b) in
    let int = int_from s.int t.int (first (int_eq s.int t.int) _ c) in
    let decimal = decimal_from s.decimal t.decimal (first (decimal_same s.decimal t.decimal) _ d) in
    let timestamp = timestamp_from s.timestamp t.timestamp (first (timestamp_same s.timestamp t.timestamp) _ e) in
    let symbol = symbol_from s.symbol t.symbol (first (symbol_same s.symbol t.symbol) _ f) in
    let text = text_from s.text t.text (second (symbol_same s.symbol t.symbol) _ f) in
    λ i. record { kind = kind i; full = full i; truth = truth i; int = int i; decimal = decimal i; timestamp = timestamp i; symbol = symbol i; text = text i }

-- scalars that tie in the order are equal
pub scalar_is : (s t : Scalar) → scalar_cmp s t ≡ Equal → s ≡ t
scalar_is s t h =
    let a = then_second (nat_cmp s.kind t.kind) _ h in
    let b = then_second (bool_cmp s.full t.full) _ a in
    let c = then_second (bool_cmp s.truth t.truth) _ b in
    let d = then_second (int_cmp s.int t.int) _ c in
    let e = then_second (decimal_cmp s.decimal t.decimal) _ d in
    let f = then_second (timestamp_cmp s.timestamp t.timestamp) _ e in
    let kind = nat_is s.kind t.kind (then_first (nat_cmp s.kind t.kind) _ h) in
    let full = bool_is s.full t.full (then_first (bool_cmp s.full t.full) _ a) in
    let truth = bool_is s.truth t.truth (then_first (bool_cmp s.truth t.truth) _ b) in
    let int = int_is s.int t.int (then_first (int_cmp s.int t.int) _ c) in
    let decimal = decimal_is s.decimal t.decimal (then_first (decimal_cmp s.decimal t.decimal) _ d) in
    let timestamp = timestamp_is s.timestamp t.timestamp (then_first (timestamp_cmp s.timestamp t.timestamp) _ e) in
    let symbol = symbol_is s.symbol t.symbol (then_first (symbol_cmp s.symbol t.symbol) _ f) in
    let text = text_is s.text t.text (then_second (symbol_cmp s.symbol t.symbol) _ f) in
    λ i. record { kind = kind i; full = full i; truth = truth i; int = int i; decimal = decimal i; timestamp = timestamp i; symbol = symbol i; text = text i }

-- symbols that are the same tie in the order
pub symbol_tie : (s t : Option (List ℕ)) → symbol_same s t ≡ true → symbol_cmp s t ≡ Equal
symbol_tie s t h = rw (symbol_from s t h) (tied_itself symbol_cmp-total t)

-- symbols that tie in the order are the same
pub symbol_back : (s t : Option (List ℕ)) → symbol_cmp s t ≡ Equal → symbol_same s t ≡ true
symbol_back s t h = rw (symbol_is s t h) (symbol_same-equiv.refl t)

-- scalars that agree in every part tie in the order
pub scalar_tie : (s t : Scalar) → scalar_same s t ≡ true → scalar_cmp s t ≡ Equal
scalar_tie s t h = subst (λ x. scalar_cmp x t ≡ Equal) (sym (scalar_from s t h)) (tied_itself scalar_cmp-total t)

-- scalars that tie in the order agree in every part
pub scalar_back : (s t : Scalar) → scalar_cmp s t ≡ Equal → scalar_same s t ≡ true
scalar_back s t h = subst (λ x. scalar_same x t ≡ true) (sym (scalar_is s t h)) (scalar_same-equiv.refl t)

-- place by place
pub pointwise_tie : {X : Type 0} (E : X → X → Bool) (R : X → X → Ordering) (xs ys : List X)
    → ((k : ℕ) (d : X) → k < length xs → k < length ys → E (get_or xs k d) (get_or ys k d) ≡ true → R (get_or xs k d) (get_or ys k d) ≡ Equal)
    → pointwise E xs ys ≡ true → slice_cmp R xs ys ≡ Equal
pointwise_tie E R [] [] each h = refl
pointwise_tie E R (x ∷ xs) (y ∷ ys) each h =
    then_tie _ _ (each 0 x (omega arith) (omega arith) (first _ _ h))
    (pointwise_tie E R xs ys (λ k d p q s. each (suc k) d (omega arith) (omega arith) s) (second (E x y) _ h))
pointwise_tie E R _ _ each h = absurd (true≢false (sym h))

-- lists that tie agree place by place, where items that tie are the same
pub pointwise_back : {X : Type 0} (E : X → X → Bool) (R : X → X → Ordering) → ((x y : X) → R x y ≡ Equal → E x y ≡ true) → (xs ys : List X)
    → slice_cmp R xs ys ≡ Equal → pointwise E xs ys ≡ true
pointwise_back E R each [] [] h = refl
pointwise_back E R each (x ∷ xs) (y ∷ ys) h = both _ _ (each x y (then_first _ _ h)) (pointwise_back E R each xs ys (then_second (R x y) _ h))
pointwise_back E R each _ _ h = cc
