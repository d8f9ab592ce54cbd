use Rattle.std.proofs.Common.{ap, ◌∙◌}
use Rattle.ion_text.specs.Names.{is_name, number_payload}
use Rattle.ion_text.proofs.LastTokens.{value_answer}
use Rattle.ion_text.proofs.SaidThere.{number_begins}
use Rattle.ion_text.proofs.WholeTokens.{value_place}
use Rattle.ion_text.specs.laws.reading.NoTables.{flat_number}
use Rattle.ion_text.proofs.walk.TextWalk.tell_this_number.Goals as goal

pub returns : goal.returns
returns g c =
    rw c.value_took.ensures
    (value_answer _ _ _ _ _ _ _ _ _ c.number_ended.ensures.setting c.begun_at-self.ensures _ c.place-here.ensures c.requires.takes
    (number_payload c.args.number) (λ fs ss h top. flat_number c.args.number) c.args.token c.number_ended.result c.past_token.ensures c.requires.within
    (λ fs ss h. number_begins _ _ _ _ _ (c.requires.found _ _ (ap is_name (c.place-here.ensures fs ss h) ∙ value_place c.args.self.now fs ss c.requires.takes.stage h)))
    c.number_ended.ensures.does)
