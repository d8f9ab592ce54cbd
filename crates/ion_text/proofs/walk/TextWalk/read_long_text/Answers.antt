use Rattle.ion_text.proofs.LastTokens.{long_answer}
use Rattle.ion_text.proofs.walk.TextWalk.read_long_text.Goals as goal

pub returns : goal.returns
returns g c =
    rw c.value_took.ensures
    (long_answer _ _ _ _ _ _ _ _ _ c.whole.ensures.setting c.begun_at-self.ensures _ c.requires.here c.requires.takes _ c.args.text.now c.whole.result
    c.requires.long c.whole.ensures.does)
