use Rattle.std.proofs.Common.{◌≡◌, ℕ, ◌^◌, ◌≤◌, inl, inr, Bool, List, [], ◌∷◌, drop, get_or, min, refl, arith}
use Rattle.std.proofs.lemmas.List.{take_rest}
use Rattle.ion_scalar.specs.Names.{IsExponent, IsFraction, IsTail, Shows, Tail, continued, positional_one}
use Rattle.ion_scalar.specs.text.laws.DecimalTails.{no_tail, no_tail_pointed}
use Rattle.ion_scalar.proofs.decimals.tail_of.Goals as goal

-- a point and a fraction
pointed : (tail : List ℕ) (before : ℕ) (t : Tail) → get_or tail 0 0 ≡ 46 → Shows (IsFraction (drop 1 tail)) before t → Shows (IsTail tail) before t
pointed [] before t e s = absurd (omega (arith, e))
pointed (c ∷ os) before t e s = record {
  fraction = s.fraction;
  exponent = s.exponent;
  is = inl (e, s.is);
  coefficient = s.coefficient;
  digits = s.digits;
  bounded = s.bounded;
}

-- an exponent alone
bare : (tail : List ℕ) (before : ℕ) (float below : Bool) (written : ℕ) → before ≤ 2 ^ 127
    → (n : ℕ) × IsExponent tail float below n × (written ≡ min n (2 ^ 127))
    → Shows (IsTail tail) before (record { float = float; value = before; count = 0; below = below; written = written })
bare [] before float below written h e = absurd e.1
bare (c ∷ os) before float below written h e =
    let same : continued 10 before [] ≡ before = positional_one 10 before in record {
      fraction = [];
      exponent = e.0;
      is = inr (refl, e.1);
      coefficient = omega arith;
      digits = refl;
      bounded = e.2;
    }

pub returns-in-Some-clause-some : goal.returns-in-Some-clause-some
returns-in-Some-clause-some c =
    let tail = c.args.tail.now in
    pointed tail c.args.before c.in-Some.read c.if-tail-eq46.true (rw (take_rest tail 1) at c.in-Some.ensures.some)

pub returns-in-Some-exponent_of-clause-some : goal.returns-in-Some-exponent_of-clause-some
returns-in-Some-exponent_of-clause-some c =
    let read = c.in-Some-exponent_of.exponent in
    bare c.args.tail.now c.args.before read.float read.below read.written c.requires c.in-Some-exponent_of.ensures.some

pub returns-in-None-clause-none : goal.returns-in-None-clause-none
returns-in-None-clause-none c = λ f float s n. no_tail_pointed c.args.tail.now f float s n c.if-tail-eq46.true
    (rw (take_rest c.args.tail.now 1) at c.in-None.ensures.none)

pub returns-in-None-exponent_of-clause-none : goal.returns-in-None-exponent_of-clause-none
returns-in-None-exponent_of-clause-none c = λ f float s n. no_tail c.args.tail.now f float s n c.if-tail-eq46.false c.in-None-exponent_of.ensures.none
