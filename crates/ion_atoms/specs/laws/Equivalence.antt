-- Whether decimals, or timestamps, agree in every part is reflexive, symmetric and transitive.
use Rattle.std.specs.Cmp.{IsEquivalence, bool_eq_equiv}
use Rattle.std.specs.Cmp.Lexicographic.{options_equiv}
use Rattle.std.proofs.lemmas.Cmp.{and_equiv, on_equiv, nat_eq_equiv, int_eq_equiv}
use Rattle.ion_atoms.specs.Decimals.{decimal_same}
use Rattle.ion_atoms.specs.Timestamps.{local_same, precision_rank, timestamp_same}

-- whether decimals agree in every part is an equivalence
pub decimal_same-equiv : IsEquivalence decimal_same
decimal_same-equiv = and_equiv (and_equiv (on_equiv (λ d. d.negative) bool_eq_equiv) (on_equiv (λ d. d.magnitude) nat_eq_equiv))
    (on_equiv (λ d. d.exponent) int_eq_equiv)

local_same-equiv : IsEquivalence local_same
local_same-equiv =
    and_equiv (and_equiv (and_equiv (and_equiv (and_equiv (and_equiv (on_equiv (λ l. l.year) nat_eq_equiv) (on_equiv (λ l. l.month) nat_eq_equiv))
    (on_equiv (λ l. l.day) nat_eq_equiv))
    (on_equiv (λ l. l.hour) nat_eq_equiv)) (on_equiv (λ l. l.minute) nat_eq_equiv)) (on_equiv (λ l. l.second) nat_eq_equiv))
    (on_equiv (λ l. l.fraction) nat_eq_equiv)

-- whether timestamps agree in every part is an equivalence
pub timestamp_same-equiv : IsEquivalence timestamp_same
timestamp_same-equiv =
    and_equiv (and_equiv (on_equiv (λ t. precision_rank t.precision) nat_eq_equiv) (on_equiv (λ t. t.offset) (options_equiv int_eq_equiv)))
    (on_equiv (λ t. t.local) local_same-equiv)
