use Rattle.std.proofs.Common.{take}
use Rattle.std.specs.List.{flat_map}
use Rattle.std.specs.Option.{option_to_list}
use Rattle.ion_visiting.specs.Names.{Led}
use Rattle.ion_visiting.specs.Tapes.{told}
use Rattle.ion_visiting.proofs.tape.Tape.tell_entries.Given as goal

abbrev pub invariant-loop-entry : goal.invariant-loop-entry
invariant-loop-entry g l = Led g.V.Visitor.takes (flat_map (λ e. option_to_list (told l.self e)) (take l.entry-index l.entries)) l.fn.visitor l.visitor
