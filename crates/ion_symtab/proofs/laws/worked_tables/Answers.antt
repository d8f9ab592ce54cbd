use Rattle.std.proofs.Common.{refl}
use denote.Hole.Carrier as carrier
use Rattle.ion_model.specs.declared.value.Payload.TheViews as views
use Rattle.ion_model.specs.declared.value.Payload.TheBlock as block
use Rattle.ion_symtab.specs.Slots as slots
use Rattle.ion_symtab.specs.Next as next_by
use Rattle.ion_symtab.proofs.laws.worked_tables.Goals as goal

pub returns : goal.returns
unfolding views.out-Payload carrier.out carrier.shown carrier.hidden next_by.next block.shown-the_row-Field-1 slots.system_slots slots.system_texts
returns c = refl
