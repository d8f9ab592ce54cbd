use Rattle.std.proofs.Common.{◌≤◌, ◌-◌, length, take}
use Rattle.ion_tokens.specs.Names.{AddsBase64}
use Rattle.ion_tokens.proofs.lobs_at_once.before_brace.Given as goal

-- the octets so far are content, and its base64 is kept
abbrev pub invariant-loop-at : goal.invariant-loop-at
invariant-loop-at l = record {
  within : l.at ≤ length l.octets;
  adds : AddsBase64 (take l.at l.octets) l.fn.kept.items l.kept.items;
}

abbrev pub decreases-loop-at : goal.decreases-loop-at
decreases-loop-at l = length l.octets - l.at
