use Rattle.ion_memory.specs.Outcomes.{IsLaidOut, ended}
use Rattle.ion_memory.proofs.Ended.{none}
use Rattle.ion_memory.proofs.calls.laid_out.Goals as goal

pub returns-in-Ok : goal.returns-in-Ok
returns-in-Ok g c = ended c.in-Ok.setting.catalog c.in-Ok.setting.limits c.in-Ok.ensures.some c.laid_out_in.ensures

pub returns-in-Err : goal.returns-in-Err
returns-in-Err g c = none c.args.catalog.now c.args.depth c.args.item (IsLaidOut c.args.input.now) c.without_text.result.ending c.without_text.result.text.items
    c.in-Err.ending c.in-Err.ensures.none c.without_text.ensures
