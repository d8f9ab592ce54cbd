use Rattle.ion_text.proofs.Ends.{settled_gives}
use Rattle.ion_text.proofs.walk.TextWalk.end_settled.Goals as goal

pub returns-in-Ok-Gives : goal.returns-in-Ok-Gives
returns-in-Ok-Gives g c = record {
  did = λ fs ss h used. settled_gives _ _ _ _ _ _ _ (rw c.in-Ok-Gives.field-0-is at (c.in-Ok-Gives.ensures.does fs ss h));
}
