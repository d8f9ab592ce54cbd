use Rattle.std.proofs.Common.{ℕ, ◌<◌, ◌≤◌, inl, inr, refl, arith}
use Rattle.std.proofs.lemmas.Bool.{cases_lt}
use Rattle.ion_scalar.specs.text.laws.DigitRuns.{run_step, run_end, Run_more}
use Rattle.ion_scalar.proofs.digits.digits_at.Goals as goal
use Rattle.ion_scalar.proofs.digits.digits_at.Goals.{else-at-octets-via-then-at-octets+else-octets-at-eq95, else-at-octets-via-else-at-octets}

-- no digit stands there
none_below : (P : Type 0) (m n : ℕ) → P → (P × (m < n) → ⊥) → n ≤ m
none_below P m n p h = elim (cases_lt m n) [ inl lt ↦ absurd (h (p, lt)) | inr le ↦ le ]

pub loop-digit-preserved-then-octets-at-eq95 : goal.loop-digit-preserved-then-octets-at-eq95
loop-digit-preserved-then-octets-at-eq95 c =
    let l = c.loop-digit in
    let is = c.in-Some.ensures in
    let s = run_step c.args.base l.digits.used l.at c.args.octets.now c.requires.1 l.invariant.place l.invariant.digits is.0.0 is.0.1 in
    record {
      within = omega arith;
      few = omega arith;
      place = inr (refl, omega arith, omega arith, c.if-octets-at-eq95.true);
      digits = λ _. s.0;
      run = rw (c.more.ensures, is.1) (Run_more c.args.base c.args.before _ _ _ _ _ (omega arith) s.1 l.invariant.run);
    }

pub loop-digit-preserved : goal.loop-digit-preserved
loop-digit-preserved c =
    let l = c.loop-digit in
    let is = c.in-Some.ensures in
    let s = run_step c.args.base l.digits.used l.at c.args.octets.now c.requires.1 l.invariant.place l.invariant.digits is.0.0 is.0.1 in
    record {
      within = omega arith;
      few = omega arith;
      place = elim c.else-at-octets.branch [
        | else-at-octets-via-then-at-octets+else-octets-at-eq95 w ↦ inl (refl, λ _ _. w.if-octets-at-eq95.false)
        | else-at-octets-via-else-at-octets w ↦ inl (refl, λ _ lt. absurd (omega arith))
      ];
      digits = λ _. s.0;
      run = rw (c.more.ensures, is.1) (Run_more c.args.base c.args.before _ _ _ _ _ (omega arith) s.1 l.invariant.run);
    }

pub returns-clause-none : goal.returns-clause-none
returns-clause-none c =
    let l = c.loop-digit in
    (run_end c.args.base l.digits.used l.at c.args.octets.now c.requires.1 l.invariant.place (λ lt. none_below _ _ _ lt c.in_default.ensures)).0

pub returns-clause-longest : goal.returns-clause-longest
returns-clause-longest c =
    let l = c.loop-digit in
    (run_end c.args.base l.digits.used l.at c.args.octets.now c.requires.1 l.invariant.place (λ lt. none_below _ _ _ lt c.in_default.ensures)).1
