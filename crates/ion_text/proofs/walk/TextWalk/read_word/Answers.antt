use Rattle.std.proofs.Common.{sym, ◌∙◌}
use Rattle.ion_text.specs.Names.{payload_of}
use Rattle.ion_text.proofs.LastTokens.{part_flat, word_answer}
use Rattle.ion_text.proofs.SaidThere.{symbol_waits}
use Rattle.ion_text.proofs.walk.TextWalk.read_word.Goals as goal

pub returns : goal.returns
returns g c =
    let said = c.args.said.now in
    let x = symbol_waits c.args.self.now.context _ _ _ _ _ c.requires.found in
    rw c.value_took.ensures
    (word_answer _ _ _ _ _ _ _ _ _ c.whole.ensures.setting c.begun_at-self.ensures _ c.requires.here c.requires.takes (payload_of said)
    (λ fs ss h top. part_flat said (sym c.is_null_struct.ensures ∙ (c.is_left.ensures c.if-is_left.false fs ss h top).1)) _ _ x.0 c.whole.result
    c.requires.within (λ fs ss h top. (c.is_left.ensures c.if-is_left.false fs ss h top).0) x.1 x.2 x.3 c.requires.rests c.requires.ends
    c.whole.ensures.does)
