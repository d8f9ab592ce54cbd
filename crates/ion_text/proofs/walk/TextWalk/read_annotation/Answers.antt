use Rattle.std.proofs.Common.{ap, sym, ◌∙◌}
use Rattle.ion_text.specs.Names.{Mark, TokenKind, names_table, past_blank, past_token}
use Rattle.ion_text.proofs.WholeTokens.{note_answer, settings_begun}
use Rattle.ion_text.proofs.walk.TextWalk.read_annotation.Goals as goal

pub annotated_by-requires-clause-free : goal.annotated_by-requires-clause-free
annotated_by-requires-clause-free g c = ap names_table (sym c.in-Some.ensures.is) ∙ c.in-Some.ensures.token.free

pub returns : goal.returns
returns g c =
    let x = c.in-Some.ensures in
    let s = c.annotated_by.ensures.same in
    note_answer _ _ _ _ _ _ _ _ (settings_begun _ _ c.begun_at-self.result s.setting) _ _ x.token _
    (c.past_token-2.ensures ∙ ap (λ r. past_token c.place-here.result r (TokenKind.Mark Mark.Colons) 2)
    (c.past_blank.ensures ∙ ap (λ r. past_blank r c.in-Some.note.between) c.past_token.ensures))
    x.within c.requires c.annotated_by.ensures.stage c.place-here.ensures (λ fs ss h. s.start ∙ c.begun_at-self.ensures fs ss h) s.context x.passed x.one x.two
    (λ fs ss h. rw (← x.is) at (c.in_ok-annotated_by.ensures.notes fs ss h))
