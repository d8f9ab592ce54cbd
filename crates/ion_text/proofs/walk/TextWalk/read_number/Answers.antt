use Rattle.std.proofs.Common.{Some, ap, ◌∙◌}
use Rattle.ion_text.specs.Names.{ended, is_name, number_payload, setting_of, spot_of}
use Rattle.ion_text.proofs.Ended.{whole_does}
use Rattle.ion_text.proofs.Holding.{number_layer}
use Rattle.ion_text.proofs.LastTokens.{value_answer}
use Rattle.ion_text.proofs.SaidThere.{number_begins}
use Rattle.ion_text.proofs.WholeTokens.{value_place}
use Rattle.ion_text.specs.laws.reading.NoTables.{flat_number}
use Rattle.ion_text.proofs.walk.TextWalk.read_number.Goals as goal

pub returns : goal.returns
returns g c =
    let number = c.in-Some.ensures.found.0 in
    let r = c.args.self.now in
    let same = c.ended.ensures.setting in
    rw c.value_took.ensures
    (value_answer g.V.Visitor.takes r c.ended.new.self c.args.rest.now c.past_token.result c.args.octets.now c.args.visitor.now c.any_part.new.visitor
    c.begun_at-start.result
    (record { catalog = same.catalog; limits = same.limits; scanner = same.scanner; awaited = same.awaited; failed = same.failed })
    c.begun_at-start.ensures _ c.place-here.ensures c.requires (number_payload number)
    (λ fs ss h top. flat_number number) c.in-Some.token c.ended.result c.past_token.ensures c.in-Some.ensures.within
    (λ fs ss h. number_begins _ _ _ _ _ (c.in-Some.ensures.found.1 _ _ (ap is_name (c.place-here.ensures fs ss h) ∙ value_place c.args.self.now fs ss c.requires.stage h)))
    (whole_does g.V.Visitor.takes (λ fs v. ended (setting_of r) (spot_of (record r { start = c.begun_at-start.result }) c.past_token.result.used) fs v) r
    (number_payload number) c.any_part.new.self c.ended.result c.ended.new.self c.args.visitor.now c.any_part.new.visitor c.requires.stage (number_layer number)
    (c.in-Some-any_part.ensures.told (ap Some c.in_ok-heard.ensures.ok) (number_payload number)) c.ended.ensures.does))
