use Rattle.std.proofs.Common.{ap, sym, ◌∙◌, subst}
use Rattle.ion_text.specs.Names.{EndsBy, Mark, TokenKind, past_blank, past_token}
use Rattle.ion_text.proofs.WholeTokens.{symbol_note_answer}
use Rattle.ion_text.proofs.walk.TextWalk.read_known_annotation.Goals as goal

pub returns : goal.returns
returns g c =
    let old = c.args.self.now in
    let new = c.note.new.self in
    let rest = c.args.rest.now in
    let after = c.past_token-2.result in
    let octets = c.args.octets.now in
    let a = c.args.visitor.now in
    let b = c.note.new.visitor in
    let here = c.args.here in
    let m = c.in-Some.between in
    subst (λ x. EndsBy g.V.Visitor.takes old new rest after octets x a b) (sym c.only_goes.ensures)
    (symbol_note_answer g.V.Visitor.takes old new rest after octets a b c.note.ensures.setting here c.args.token m c.args.symbol c.note.result
    (c.past_token-2.ensures
    ∙ ap (λ r. past_token here r (TokenKind.Mark Mark.Colons) 2) (c.past_blank.ensures ∙ ap (λ r. past_blank r m) c.past_token.ensures))
    c.in-Some.ensures.within c.requires.takes (λ fs ss h. sym (c.is_top.ensures fs ss h) ∙ c.if-is_top.false) c.requires.here c.requires.there
    c.in-Some.ensures.passed c.in-Some.ensures.one c.in-Some.ensures.two c.note.ensures.does)
