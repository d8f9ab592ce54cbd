use Rattle.std.proofs.Common.{◌<◌, length, arith, sym, ◌∙◌}
use Rattle.ion_text.specs.Names.{payload_of}
use Rattle.ion_text.proofs.LastTokens.{part_flat, value_answer}
use Rattle.ion_text.proofs.SaidThere.{part_begins}
use Rattle.ion_text.proofs.walk.TextWalk.read_scalar.Goals as goal

pub returns : goal.returns
returns g c =
    let said = c.args.said.now in
    let more : c.args.scalar.token.count < length c.args.octets.now = omega (arith, c.if-token-octets.false) in
    rw c.value_took.ensures
    (value_answer _ _ _ _ _ _ _ _ _ c.whole.ensures.setting c.begun_at-self.ensures _ c.requires.here c.requires.takes (payload_of said)
    (λ fs ss h top. part_flat said (sym c.is_null_struct.ensures ∙ (c.is_left.ensures c.if-is_left.false fs ss h top).1)) c.args.scalar.token c.whole.result
    c.past_token.ensures more (λ fs ss h. part_begins _ _ _ _ _ _ c.requires.found c.requires.waits) c.whole.ensures.does)
