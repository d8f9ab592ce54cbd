use Rattle.std.proofs.Common.{◌≤◌, ◌-◌, length, take}
use Rattle.ion_tokens.specs.Names.{LeadsOn}
use Rattle.ion_tokens.proofs.escaped_texts.before_quote.Given as goal

-- the octets so far lead on
abbrev pub invariant-loop-at : goal.invariant-loop-at
invariant-loop-at l = record {
  within : l.at ≤ length l.octets;
  leads : LeadsOn l.style (take l.at l.octets) l.fn.kept.items l.kept.items;
}

abbrev pub decreases-loop-at : goal.decreases-loop-at
decreases-loop-at l = length l.octets - l.at
