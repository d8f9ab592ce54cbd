use Rattle.std.proofs.Common.{◌≡◌, ℕ, ◌+◌, ◌-◌, ◌/◌, ◌%◌, ◌<◌, ◌≤◌, ◌⊎◌, drop, length-set, arith, inl, inr, ◌∙◌}
use Rattle.ion_scalar.proofs.Places.{places, put_front, signed_step, signed_last, few_signed}
use Rattle.ion_scalar.proofs.backward.Backward.push_signed.Goals as goal

bit_of : (base : ℕ) → (base ≡ 128) ⊎ (base ≡ 256) → (2 ≤ base) × (base / 2 ≤ base) × (0 < base / 2)
bit_of base (inl e) = (omega arith, omega arith, omega arith)
bit_of base (inr e) = (omega arith, omega arith, omega arith)

pub loop-rest-preserved : goal.loop-rest-preserved
loop-rest-preserved c =
    let l = c.loop-rest in
    let base = c.args.base in
    let octets = l.self-inside.octets in
    let b = bit_of base c.requires.base in
    let p = places base l.rest (l.start - 1) (omega (arith, b.0)) (omega (arith, b.2, c.loop-rest-test.true)) l.invariant.room in
    record {
      within = (omega (arith, p.0), omega arith);
      size = length-set octets (l.start - 1) (l.rest % base) ∙ l.invariant.size;
      room = p.1;
      digits = rw (put_front octets l.start (l.rest % base) l.invariant.within.0 (omega arith))
          (signed_step base (base / 2) l.rest c.args.negative (drop l.start octets) _ b.0 b.2 c.loop-rest-test.true l.invariant.digits);
    }

pub returns-clause-digits : goal.returns-clause-digits
returns-clause-digits c =
    let l = c.loop-rest in
    let base = c.args.base in
    let b = bit_of base c.requires.base in
    let octets = l.self-inside.octets in
    put_front octets l.start (c.sign_bit.result + l.rest) l.invariant.within.0 (omega arith)
    ∙ rw c.sign_bit.ensures
    (signed_last base (base / 2) l.rest c.args.negative (drop l.start octets) _ b.0 b.1 c.loop-rest-test.false l.invariant.digits)

pub returns-clause-few : goal.returns-clause-few
returns-clause-few c =
    let b = bit_of c.args.base c.requires.base in
    λ k small. rw (returns-clause-digits c) (few_signed c.args.base (c.args.base / 2) c.args.value k c.args.negative c.args.self.now b.0 small)
