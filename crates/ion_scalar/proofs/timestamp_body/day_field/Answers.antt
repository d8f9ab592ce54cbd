use Rattle.std.proofs.Common.{inl, inr, refl, sym}
use Rattle.std.proofs.lemmas.Bool.{cases_lt}
use Rattle.std.proofs.lemmas.Result.{err_from_is_err_and}
use Rattle.ion_scalar.specs.Names.{month_length}
use Rattle.ion_atoms.specs.laws.Neighbours.{month_most}
use Rattle.ion_scalar.specs.binary.laws.Days.{day_beyond, day_read, day_refused}
use Rattle.ion_scalar.proofs.timestamp_body.day_field.Goals as goal

pub returns-in_err-day-clause-value : goal.returns-in_err-day-clause-value
returns-in_err-day-clause-value c =
    let p = err_from_is_err_and c.from_residual.result c.from_residual.ensures.1 in
    let last = month_length c.args.year c.args.month in
    rw (p.1, p.2) (sym (day_refused last (month_most c.args.year c.args.month) c.args.octets.now c.in_err-day.field-0.0 (sym c.in_err-day.ensures.value)))

pub returns-then-not-has_day-clause-value : goal.returns-then-not-has_day-clause-value
returns-then-not-has_day-clause-value c =
    let last = month_length c.args.year c.args.month in
    elim (cases_lt last c.in_ok-day.day) [
      | inl more ↦ sym (day_beyond last (month_most c.args.year c.args.month) c.args.octets.now (c.in_ok-day.day, c.in_ok-day.used)
          (sym c.in_ok-day.ensures.value) more)
      | inr within ↦ absurd (let some = c.if-not-has_day.ensures.1 (c.in_ok-day.ensures.range.0, within) in cc)
    ]

pub returns-clause-value : goal.returns-clause-value
returns-clause-value c =
    let last = month_length c.args.year c.args.month in
    let has = c.if-not-has_day.ensures.0 refl in
    sym (day_read last (month_most c.args.year c.args.month) c.args.octets.now (c.in_ok-day.day, c.in_ok-day.used) (sym c.in_ok-day.ensures.value) has.1)
