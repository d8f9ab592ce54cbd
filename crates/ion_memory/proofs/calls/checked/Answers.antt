use Rattle.ion_memory.specs.Outcomes.{IsChecked, ended}
use Rattle.ion_memory.proofs.Ended.{none}
use Rattle.ion_memory.proofs.calls.checked.Goals as goal

pub returns-in-Ok : goal.returns-in-Ok
returns-in-Ok c = ended c.in-Ok.setting.catalog c.in-Ok.setting.limits c.in-Ok.ensures.some c.checked_in.ensures

pub returns-in-Err : goal.returns-in-Err
returns-in-Err c = none c.args.catalog.now c.args.depth c.args.item (IsChecked c.args.input.now) c.without_text.result.ending c.without_text.result.text.items
    c.in-Err.ending c.in-Err.ensures.none c.without_text.ensures
