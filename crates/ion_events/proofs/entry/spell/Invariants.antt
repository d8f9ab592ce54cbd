use Rattle.std.proofs.Common.{◌≡◌, ◌++◌, take, drop}
use Rattle.std.specs.List.{All}
use Rattle.ion_events.specs.Drafts.{IsSpelled}
use Rattle.ion_events.specs.Names.{spelled}
use Rattle.ion_events.proofs.entry.spell.Given as goal

-- the octets so far and those that are left are all, and each so far gives its entry back
abbrev pub invariant-loop-entry : goal.invariant-loop-entry
invariant-loop-entry l =
    (l.octets.items ++ spelled (drop l.entry-index l.entries) ≡ l.initial.octets.items ++ spelled l.entries) × All IsSpelled (take l.entry-index l.entries)
