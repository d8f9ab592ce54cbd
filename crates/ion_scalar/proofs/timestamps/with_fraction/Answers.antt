use Rattle.std.proofs.Common.{inl, inr, arith, ◌<◌}
use Rattle.std.proofs.lemmas.List.{take_rest}
use Rattle.ion_scalar.specs.text.laws.TimestampForms.{no_end, end_some, none_some}
use Rattle.ion_scalar.proofs.timestamps.with_fraction.Goals as goal
use Rattle.ion_scalar.proofs.timestamps.with_fraction.Goals.{then-digits-eq0-via-then-digits-eq0, then-digits-eq0-via-else-digits-eq0+then-digits}

pub returns-then-digits-eq0-clause-none : goal.returns-then-digits-eq0-clause-none
returns-then-digits-eq0-clause-none c =
    let os = c.args.octets.now in
    let d = c.digits_at-digits.ensures in
    λ digits rest. no_end os digits rest c.digits_at-digits.result.used c.digits_at-digits.result.count d.digits d.none d.longest d.within d.count
    (elim c.then-digits-eq0.branch [
      | then-digits-eq0-via-then-digits-eq0 w ↦ inl w.if-digits-eq0.true
      | then-digits-eq0-via-else-digits-eq0+then-digits w ↦ inr (inl w.if-digits.true)
    ])

pub returns-clause-some : goal.returns-clause-some
returns-clause-some c =
    let os = c.args.octets.now in
    let d = c.digits_at-digits.ensures in
    let r = c.digits_at-digits.result in
    let some : 0 < r.used = omega (arith, c.if-digits-eq0.false) in
    end_some os c.args.local r.used r.count r.value _ c.with_offset.result (d.digits some) d.within d.count c.if-digits.false d.value c.min.ensures
    (rw (take_rest os r.used) at c.with_offset.ensures)

pub returns-clause-none : goal.returns-clause-none
returns-clause-none c =
    let os = c.args.octets.now in
    let d = c.digits_at-digits.ensures in
    let r = c.digits_at-digits.result in
    none_some c.with_offset.result _ _ _ (rw (take_rest os r.used) at c.with_offset.ensures)
    (λ n digits rest. no_end os digits rest r.used r.count d.digits d.none d.longest d.within d.count (inr (inr n)))
