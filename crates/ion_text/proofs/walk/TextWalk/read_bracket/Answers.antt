use Rattle.std.proofs.Common.{ap, sym, ◌∙◌}
use Rattle.ion_text.specs.Names.{TokenKind, past_token}
use Rattle.ion_text.proofs.WholeTokens.{open_answer}
use Rattle.ion_text.proofs.walk.TextWalk.read_bracket.Goals as goal

pub returns : goal.returns
returns g c =
    rw c.only_goes.ensures
    (open_answer _ _ _ _ _ _ _ _ _ c.open.ensures.setting _ c.args.bracket c.open.result
    (c.past_token.ensures ∙ ap (λ m. past_token c.place-here.result c.args.rest.now (TokenKind.Mark m) 1) c.open_mark.ensures) c.requires.takes c.requires.opens
    c.place-here.ensures c.begun_at-self.ensures (λ fs ss h. sym (c.may_deepen.ensures fs ss h) ∙ c.if-not-may_deepen.false) c.open.ensures.does)
