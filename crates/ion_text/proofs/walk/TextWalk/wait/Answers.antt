use Rattle.std.proofs.Common.{ap, sym}
use Rattle.ion_text.specs.Names.{Stage, calm}
use Rattle.ion_text.proofs.Ended.{staged_same}
use Rattle.ion_text.proofs.walk.TextWalk.wait.Goals as goal

pub returns-clause-does : goal.returns-clause-does
returns-clause-does c = λ fs ss h.
    staged_same c.args.self.now c.set_stage.new.self fs ss (Stage.Pending c.args.held c.args.end) c.set_stage.ensures (sym (ap calm c.requires)) h
