use Rattle.std.proofs.Common.{◌+◌, ◌≤◌, length, take}
use Rattle.ion_tokens.specs.Names.{HasNoClose}
use Rattle.ion_tokens.proofs.comments.of_block.Given as goal

-- no `*/` stands in front of `at` or begins before it
abbrev pub invariant-loop : goal.invariant-loop
invariant-loop l = (l.at ≤ length l.octets) × HasNoClose (take (l.at + 1) l.octets)
