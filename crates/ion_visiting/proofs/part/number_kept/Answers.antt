use Rattle.std.proofs.Common.{sym, subst}
use Rattle.ion_visiting.specs.Names.{KeptPayload, kept_decimal, kept_int, kept_timestamp, number_payload}
use Rattle.ion_atoms.specs.Ranges.{IsWhole}
use Rattle.ion_visiting.proofs.part.number_kept.Goals as goal

pub returns-in-Int : goal.returns-in-Int
returns-in-Int c =
    subst (λ n. KeptPayload (number_payload n)) (sym c.in-Int.is) (kept_int c.in-Int.whole (subst IsWhole c.get-value.ensures.same c.get-value.ensures.range))

pub returns-in-Decimal : goal.returns-in-Decimal
returns-in-Decimal c = subst (λ n. KeptPayload (number_payload n)) (sym c.in-Decimal.is) (kept_decimal c.in-Decimal.decimal c.magnitude-magnitude.ensures.kept)

pub returns-in-Timestamp : goal.returns-in-Timestamp
returns-in-Timestamp c = subst (λ n. KeptPayload (number_payload n)) (sym c.in-Timestamp.is)
    (kept_timestamp c.in-Timestamp.timestamp c.local-local.ensures.kept)
