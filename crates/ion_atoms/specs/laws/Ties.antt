-- Parts of decimals and timestamps that agree are equal, and so are parts that tie in the order.
use Rattle.std.proofs.Common.{◌≡◌, ℕ, ℤ, ◌+◌, zero, suc, Bool, true, false, ◌&&◌, Ordering, Less, Equal, Greater, Option, Some, None, nat_eq, refl, arith, ap, ◌∙◌, sym, subst, true≢false}
use Rattle.std.specs.Bool.{beq}
use Rattle.std.specs.Cmp.{signed_Decides, booleans_Decides}
use Rattle.std.specs.Option.{option_eq, option_cmp}
use Rattle.std.specs.Ordering.{ordering_then, is_eq, nat_cmp, int_cmp, int_eq, bool_cmp}
use Rattle.std.proofs.lemmas.Bool.{eqb-true}
use Rattle.std.proofs.lemmas.Bool.Decides.{nat_tests}
use Rattle.std.proofs.lemmas.Cmp.{tied_itself}
use Rattle.ion_atoms.specs.Decimals.{DecimalParts, decimal_cmp, decimal_same}
use Rattle.ion_atoms.specs.Timestamps.{TimestampParts, date_cmp, local_same, precision_rank, time_cmp, timestamp_cmp, timestamp_same}
use Rattle.ion_atoms.specs.declared.timestamp.Local.{Local}
use Rattle.ion_atoms.specs.declared.timestamp.Precision.{Precision}
use Rattle.ion_atoms.specs.laws.Equivalence.{timestamp_same-equiv}
use Rattle.ion_atoms.specs.laws.OrderTotal.{timestamp_cmp-total}
use Rattle.ion_atoms.specs.laws.Tests.{first, same_bool, second}

-- a chain of two ties where both do
pub then_tie : (a b : Ordering) → a ≡ Equal → b ≡ Equal → ordering_then a b ≡ Equal
then_tie Less b p q = cc
then_tie Equal b p q = q
then_tie Greater b p q = cc

-- where a chain of two comparisons ties, the first does
pub then_first : (a b : Ordering) → ordering_then a b ≡ Equal → a ≡ Equal
then_first Less b p = cc
then_first Equal b p = refl
then_first Greater b p = cc

-- where a chain of two comparisons ties, the second does
pub then_second : (a b : Ordering) → ordering_then a b ≡ Equal → b ≡ Equal
then_second Less b p = cc
then_second Equal b p = p
then_second Greater b p = cc

-- what tests as a tie is a tie
pub tie_from_is_eq : (o : Ordering) → is_eq o ≡ true → o ≡ Equal
tie_from_is_eq Less p = absurd (true≢false (sym p))
tie_from_is_eq Equal p = refl
tie_from_is_eq Greater p = absurd (true≢false (sym p))

-- numbers that tie in the order test as equal
pub nat_back : (x y : ℕ) → nat_cmp x y ≡ Equal → nat_eq x y ≡ true
nat_back x y h = grind (arith, nat_tests)

-- numbers that tie in the order are equal
pub nat_is : (x y : ℕ) → nat_cmp x y ≡ Equal → x ≡ y
nat_is x y h = eqb-true x y (nat_back x y h)

-- truth values that tie in the order are equal
pub bool_is : (a b : Bool) → bool_cmp a b ≡ Equal → a ≡ b
bool_is true true h = refl
bool_is true false h = cc
bool_is false true h = cc
bool_is false false h = refl

-- truth values that test as equal are equal
pub bool_from : (a b : Bool) → beq a b ≡ true → a ≡ b
bool_from a b h = (booleans_Decides a b).0 h

-- ints that test as equal are equal
pub int_from : (y z : ℤ) → int_eq y z ≡ true → y ≡ z
int_from y z h = (signed_Decides y z).0 h

-- ints that tie in the order are equal
pub int_is : (y z : ℤ) → int_cmp y z ≡ Equal → y ≡ z
int_is y z h = int_from y z (ap is_eq h)

offset_from : (s t : Option ℤ) → option_eq int_eq s t ≡ true → s ≡ t
offset_from None None h = refl
offset_from None (Some z) h = cc
offset_from (Some y) None h = cc
offset_from (Some y) (Some z) h = ap Some (int_from y z h)

offset_is : (s t : Option ℤ) → option_cmp int_cmp s t ≡ Equal → s ≡ t
offset_is None None h = refl
offset_is None (Some z) h = cc
offset_is (Some y) None h = cc
offset_is (Some y) (Some z) h = ap Some (int_is y z h)

-- the precision of a rank
precision_at : ℕ → Precision
precision_at zero = Precision.Year
precision_at (suc zero) = Precision.Month
precision_at (suc (suc zero)) = Precision.Day
precision_at (suc (suc (suc zero))) = Precision.Minute
precision_at (suc (suc (suc (suc zero)))) = Precision.Second
precision_at (suc (suc (suc (suc (suc digits))))) = Precision.Fraction digits

precision_at-rank : (p : Precision) → precision_at (precision_rank p) ≡ p
unfolding precision_at
precision_at-rank Precision.Year = refl
precision_at-rank Precision.Month = refl
precision_at-rank Precision.Day = refl
precision_at-rank Precision.Minute = refl
precision_at-rank Precision.Second = refl
precision_at-rank (Precision.Fraction digits) = let e : 5 + digits ≡ suc (suc (suc (suc (suc digits)))) = omega arith in ap precision_at e

precision_from : (p q : Precision) → precision_rank p ≡ precision_rank q → p ≡ q
precision_from p q h = sym (precision_at-rank p) ∙ ap precision_at h ∙ precision_at-rank q

-- decimals that agree in every part are equal
pub decimal_from : (d e : DecimalParts) → decimal_same d e ≡ true → d ≡ e
decimal_from d e h =
    let a = beq d.negative e.negative in
    let b = nat_eq d.magnitude e.magnitude in
    let ab = first (a && b) (int_eq d.exponent e.exponent) h in
    let p = bool_from _ _ (first a b ab) in
    let q = eqb-true d.magnitude e.magnitude (second a b ab) in
    let r = int_from d.exponent e.exponent (second (a && b) _ h) in
    λ i. record { negative = p i; magnitude = q i; exponent = r i }

-- decimals that tie in the order are equal
pub decimal_is : (d e : DecimalParts) → decimal_cmp d e ≡ Equal → d ≡ e
decimal_is d e h =
    let a = int_cmp d.exponent e.exponent in
    let b = bool_cmp e.negative d.negative in
    let c = nat_cmp d.magnitude e.magnitude in
    let ab = then_first (ordering_then a b) c h in
    let p = sym (bool_is e.negative d.negative (then_second a b ab)) in
    let q = nat_is d.magnitude e.magnitude (then_second (ordering_then a b) c h) in
    let r = int_is d.exponent e.exponent (then_first a b ab) in
    λ i. record { negative = p i; magnitude = q i; exponent = r i }

local_from : (l m : Local) → local_same l m ≡ true → l ≡ m
local_from l m t =
    let a = nat_eq l.year m.year in
    let b = nat_eq l.month m.month in
    let c = nat_eq l.day m.day in
    let d = nat_eq l.hour m.hour in
    let e = nat_eq l.minute m.minute in
    let f = nat_eq l.second m.second in
    let g = nat_eq l.fraction m.fraction in
    let to_f = first (a && b && c && d && e && f) g t in
    let to_e = first (a && b && c && d && e) f to_f in
    let to_d = first (a && b && c && d) e to_e in
    let to_c = first (a && b && c) d to_d in
    let to_b = first (a && b) c to_c in
    let year = eqb-true l.year m.year (first a b to_b) in
    let month = eqb-true l.month m.month (second a b to_b) in
    let day = eqb-true l.day m.day (second (a && b) c to_c) in
    let hour = eqb-true l.hour m.hour (second (a && b && c) d to_d) in
    let minute = eqb-true l.minute m.minute (second (a && b && c && d) e to_e) in
    let seconds = eqb-true l.second m.second (second (a && b && c && d && e) f to_f) in
    let fraction = eqb-true l.fraction m.fraction (second (a && b && c && d && e && f) g t) in
    λ i. record { year = year i; month = month i; day = day i; hour = hour i; minute = minute i; second = seconds i; fraction = fraction i }

local_is : (l m : Local) → date_cmp l m ≡ Equal → time_cmp l m ≡ Equal → l ≡ m
local_is l m s t =
    let a = nat_cmp l.year m.year in
    let b = nat_cmp l.month m.month in
    let d = nat_cmp l.hour m.hour in
    let e = nat_cmp l.minute m.minute in
    let f = nat_cmp l.second m.second in
    let to_b = then_first (ordering_then a b) (nat_cmp l.day m.day) s in
    let to_f = then_first (ordering_then (ordering_then d e) f) (nat_cmp l.fraction m.fraction) t in
    let to_e = then_first (ordering_then d e) f to_f in
    let year = nat_is l.year m.year (then_first a b to_b) in
    let month = nat_is l.month m.month (then_second a b to_b) in
    let day = nat_is l.day m.day (then_second (ordering_then a b) _ s) in
    let hour = nat_is l.hour m.hour (then_first d e to_e) in
    let minute = nat_is l.minute m.minute (then_second d e to_e) in
    let seconds = nat_is l.second m.second (then_second (ordering_then d e) f to_f) in
    let fraction = nat_is l.fraction m.fraction (then_second (ordering_then (ordering_then d e) f) _ t) in
    λ i. record { year = year i; month = month i; day = day i; hour = hour i; minute = minute i; second = seconds i; fraction = fraction i }

-- timestamps that agree in precision, offset and local fields are equal
pub timestamp_from : (s t : TimestampParts) → timestamp_same s t ≡ true → s ≡ t
timestamp_from s t h =
    let a = nat_eq (precision_rank s.precision) (precision_rank t.precision) in
    let b = option_eq int_eq s.offset t.offset in
    let ab = first (a && b) (local_same s.local t.local) h in
    let p = precision_from s.precision t.precision (eqb-true (precision_rank s.precision) (precision_rank t.precision) (first a b ab)) in
    let q = offset_from s.offset t.offset (second a b ab) in
    let r = local_from s.local t.local (second (a && b) _ h) in
    λ i. record { local = r i; precision = p i; offset = q i }

-- timestamps that tie in the order are equal
pub timestamp_is : (s t : TimestampParts) → timestamp_cmp s t ≡ Equal → s ≡ t
timestamp_is s t h =
    let a = nat_cmp (precision_rank s.precision) (precision_rank t.precision) in
    let b = option_cmp int_cmp s.offset t.offset in
    let c = date_cmp s.local t.local in
    let d = time_cmp s.local t.local in
    let abc = then_first (ordering_then (ordering_then a b) c) d h in
    let ab = then_first (ordering_then a b) c abc in
    let p = precision_from s.precision t.precision (nat_is (precision_rank s.precision) (precision_rank t.precision) (then_first a b ab)) in
    let q = offset_is s.offset t.offset (then_second a b ab) in
    let r = local_is s.local t.local (then_second (ordering_then a b) c abc) (then_second (ordering_then (ordering_then a b) c) d h) in
    λ i. record { local = r i; precision = p i; offset = q i }

-- the order of timestamps has no ties but those of the same timestamps
pub timestamp_ties : (s t : TimestampParts) → timestamp_same s t ≡ is_eq (timestamp_cmp s t)
timestamp_ties s t =
    same_bool _ _ (λ h. subst (λ x. is_eq (timestamp_cmp x t) ≡ true) (sym (timestamp_from s t h)) (ap is_eq (tied_itself timestamp_cmp-total t)))
    (λ h. subst (λ x. timestamp_same x t ≡ true) (sym (timestamp_is s t (tie_from_is_eq (timestamp_cmp s t) h))) (timestamp_same-equiv.refl t))
