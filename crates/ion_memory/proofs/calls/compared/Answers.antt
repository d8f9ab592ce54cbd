use Rattle.ion_memory.proofs.calls.compared.Goals as goal

pub returns : goal.returns
returns c = c.compared_under.ensures c.args.catalog.now c.args.depth c.args.item c.set_up-setting.ensures.some c.set_up-setting.ensures.none
