use Rattle.std.proofs.Common.{◌<◌, length, arith, ap, ◌∙◌}
use Rattle.ion_text.specs.Names.{TokenKind, past_token}
use Rattle.ion_text.proofs.LastTokens.{container_answer}
use Rattle.ion_text.proofs.WholeTokens.{close_answer}
use Rattle.ion_text.proofs.walk.TextWalk.read_close.Goals as goal

pub returns-in-Ok-Gives : goal.returns-in-Ok-Gives
returns-in-Ok-Gives g c =
    container_answer _ _ _ _ _ _ _ _ c.in-Ok-Gives.ensures.setting _ c.in-Some.bracket
    (c.past_token.ensures ∙ ap (λ m. past_token c.place-here.result c.args.rest.now (TokenKind.Mark m) 1) c.close_mark.ensures) c.requires.more
    c.in-Some.ensures.octet c.in-Some.ensures.closes c.place-here.ensures
    (rw c.in-Ok-Gives.field-0-is at c.in-Ok-Gives.ensures.does)

pub returns-in-Ok-Goes : goal.returns-in-Ok-Goes
returns-in-Ok-Goes g c =
    let nested : 1 < length c.args.self.now.frames.items = omega (arith, c.if-nested.true, c.len-nested.ensures) in
    close_answer _ _ _ _ _ _ _ _ c.in-Ok-Goes.ensures.setting _ c.in-Some.bracket
    (c.past_token.ensures ∙ ap (λ m. past_token c.place-here.result c.args.rest.now (TokenKind.Mark m) 1) c.close_mark.ensures) c.requires.more
    c.in-Some.ensures.octet c.in-Some.ensures.closes c.place-here.ensures nested
    (rw c.in-Ok-Goes.field-0-is at c.in-Ok-Goes.ensures.does)
