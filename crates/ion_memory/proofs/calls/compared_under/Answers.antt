use Rattle.ion_memory.specs.Outcomes.{IsCompared, ended}
use Rattle.ion_memory.proofs.Ended.{none}
use Rattle.ion_memory.proofs.calls.compared_under.Goals as goal

pub returns-in-Ok : goal.returns-in-Ok
returns-in-Ok c catalog depth item set unset =
    ended c.in-Ok.setting.catalog c.in-Ok.setting.limits (let k = rw c.in-Ok.is at set in k) c.compared_in.ensures

pub returns-in-Err : goal.returns-in-Err
returns-in-Err c catalog depth item set unset = none catalog depth item (IsCompared c.args.left.now c.args.right.now) c.without_text.result.ending
    c.without_text.result.text.items c.in-Err.ending (let k = rw c.in-Err.is at unset in k) c.without_text.ensures
