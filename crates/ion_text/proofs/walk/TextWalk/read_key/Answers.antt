use Rattle.std.proofs.Common.{ap, ◌∙◌}
use Rattle.ion_text.specs.Names.{Mark, Place, TokenKind, past_blank, past_token}
use Rattle.ion_text.proofs.SaidThere.{begins_name}
use Rattle.ion_text.proofs.WholeTokens.{key_answer}
use Rattle.ion_text.proofs.walk.TextWalk.read_key.Goals as goal

pub returns : goal.returns
returns g c =
    let passed = c.in-Some.ensures in
    rw c.only_goes.ensures
    (key_answer _ _ _ _ _ _ _ _ c.named_by.ensures.setting _ _ _ c.named_by.result
    (c.past_token-2.ensures ∙ ap (λ r. past_token Place.Name r (TokenKind.Mark Mark.Colon) 1)
    (c.past_blank.ensures ∙ ap (λ r. past_blank r c.in-Some.between) c.past_token.ensures))
    passed.within c.requires.takes (begins_name c.args.self.now.context _ _ _ _ c.requires.token) passed.passed passed.colon passed.one
    c.named_by.ensures.does)
