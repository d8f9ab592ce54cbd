use Rattle.std.proofs.Common.{take}
use Rattle.std.specs.List.{flat_map}
use Rattle.std.specs.Option.{option_to_list}
use Rattle.ion_visiting.specs.Names.{Led}
use Rattle.ion_visiting.specs.Following.{follows}
use Rattle.ion_visiting.specs.Tapes.{told}
use Rattle.ion_visiting.proofs.following.Following.goes_on.Given as goal

abbrev pub invariant-loop-entry : goal.invariant-loop-entry
invariant-loop-entry l = Led (follows l.tape) (flat_map (λ e. option_to_list (told l.other e)) (take l.entry-index l.entries)) l.fn.self l.self
