use Rattle.std.proofs.Common.{ℕ, inl, inr, drop, refl, subst, arith}
use Rattle.std.proofs.lemmas.Bool.{false≢true}
use Rattle.std.proofs.lemmas.List.{take_all}
use Rattle.ion_scalar.specs.Names.{BeginsWithNone}
use Rattle.ion_scalar.specs.text.laws.OneRun.{all_used, none_begins}
use Rattle.ion_scalar.proofs.digits.all_digits.Goals as goal

pub returns-then-digits-octets-clause-digits : goal.returns-then-digits-octets-clause-digits
returns-then-digits-octets-clause-digits c =
    let os = c.args.octets.now in
    let e = c.digits_at-digits.ensures in (
      λ no. absurd (false≢true no),
      λ all. absurd (elim (c.if-digits-octets.either) [
        | inl z ↦ none_begins c.args.base os all (subst (λ (n : ℕ). BeginsWithNone c.args.base (drop n os)) z e.none)
        | inr some ↦
            let whole = all_used c.args.base c.digits_at-digits.result.used os c.requires.1 e.within (e.digits (omega arith)) (e.longest (omega arith)) all in
            absurd (omega arith)
      ]),
    )

pub returns-else-digits-octets-clause-digits : goal.returns-else-digits-octets-clause-digits
returns-else-digits-octets-clause-digits c =
    let whole = take_all c.digits_at-digits.result.used c.args.octets.now (omega arith) in
    (λ some. rw whole at (c.digits_at-digits.ensures.digits (omega arith)), λ all. refl)

pub returns-else-digits-octets-clause-value : goal.returns-else-digits-octets-clause-value
returns-else-digits-octets-clause-value c =
    rw (take_all c.digits_at-digits.result.used c.args.octets.now (omega arith)) at c.digits_at-digits.ensures.value

pub returns-else-digits-octets-clause-count : goal.returns-else-digits-octets-clause-count
returns-else-digits-octets-clause-count c =
    rw (take_all c.digits_at-digits.result.used c.args.octets.now (omega arith)) at c.digits_at-digits.ensures.count
