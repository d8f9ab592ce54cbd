use Rattle.std.proofs.Common.{ap}
use Rattle.ion_text.specs.Names.{scanned}
use Rattle.ion_text.proofs.Taking.{given_gives}
use Rattle.ion_text.proofs.walk.TextWalk.meet_given.Goals as goal

pub returns-in-Gives-clause-did : goal.returns-in-Gives-clause-did
returns-in-Gives-clause-did g c = λ fs ss h.
    given_gives _ c.args.self.now.limits _ _ _ _ _ _ (ap scanned c.in_ok-turn.ensures.setting.scanner) (rw c.in-Gives.is at (c.in_ok-turn.ensures.does fs ss h))
