use Rattle.std.proofs.Common.{refl}
use Rattle.ion_text.proofs.WholeTokens.{comma_answer}
use Rattle.ion_text.proofs.walk.TextWalk.read_comma.Goals as goal

pub returns : goal.returns
returns g c =
    rw c.only_goes.ensures
    (comma_answer _ _ _ _ _ _ _ _ c.on_comma.ensures.setting _ c.on_comma.result c.past_token.ensures c.requires.takes c.requires.comma
    c.place-here.ensures refl c.on_comma.ensures.does)
