use Rattle.std.proofs.Common.{◌≡◌, ◌≤◌, ◌^◌, ◌-◌, min, drop}
use Rattle.ion_tokens.specs.Names.{number_in}
use Rattle.ion_tokens.proofs.body.number_in.Given as goal

-- what is left leads on from the number so far, where both are bounded
abbrev pub invariant-loop-digit : goal.invariant-loop-digit
invariant-loop-digit l = record {
  bounded : l.number ≤ 2 ^ 64 - 1;
  leads : min (number_in l.number (drop l.digit-index l.digits)) (2 ^ 64 - 1) ≡ min (number_in 0 l.digits) (2 ^ 64 - 1);
}
