use Rattle.std.proofs.Common.{◌≡◌, ◌<◌, ◌-◌, ◌+◌, ◌∙◌, List, ℕ, Some, false, length, take, drop, ap, sym, subst, refl, arith, length-drop}
use Rattle.std.proofs.lemmas.List.{take_rest}
use Rattle.ion_text.specs.Names.{BeginsValue, Place, number_payload, takes_colon}
use Rattle.ion_text.specs.walk.Inside.{StepsTo, behind_now, past_spot, place_now}
use Rattle.ion_text.proofs.Holding.{number_layer}
use Rattle.ion_text.proofs.Inside.{comma_steps, stands_behind, steps_on, value_steps}
use Rattle.ion_text.proofs.SaidThere.{number_begins}
use Rattle.ion_text.proofs.walk.scalars_inside.untold_inside.Goals as goal

pub returns : goal.returns
returns g c = λ ok r stands.
    let takes = g.V.Visitor.takes in
    let s = c.args.spot.now in
    let octets = c.args.octets.now in
    let there = take_rest octets s.at in
    let size : length (drop s.at octets) ≡ length octets - s.at = length-drop s.at octets in
    let front = take (length octets - s.at) (drop s.at octets) in
    let whole : length front ≡ length (drop s.at octets) = ap (λ (w : List ℕ). length w) there in
    let token = c.in-Some.token in
    let n = token.count in
    let x = c.in-Some.ensures in
    let number = x.found.0 in
    let within = x.within in
    let more = c.if-there-token-lt2.false in
    steps_on takes r r r s (past_spot s n (behind_now s.now)) c.value_ended.new.spot octets c.args.visitor.now c.any_part.new.self c.any_part.new.self
    (value_steps takes r s octets (number_payload number) token c.args.visitor.now c.any_part.new.self stands c.requires.value
    (x.found.1 Place.List (record { start = 0; used = 0; colon = false }) refl).found.some (omega arith)
    (ap (takes_colon (place_now s.now)) x.kind) (number_layer number)
    (λ p q name. subst (λ d. BeginsValue false p q d token (number_payload number)) there (number_begins p q front token number (x.found.1 p q name)))
    (c.in-Some-any_part.ensures.told (ap Some c.if-not-went_on.false) (number_payload number)))
    (comma_steps takes r (past_spot s n (behind_now s.now)) c.value_ended.new.spot octets c.any_part.new.self (stands_behind takes r s.now stands)
    c.value_ended.ensures (omega arith))

pub returns-in_default-any_part : goal.returns-in_default-any_part
returns-in_default-any_part g c = λ ok r stands.
    subst (λ v. StepsTo g.V.Visitor.takes r r c.args.spot.now c.number_inside.new.spot c.args.octets.now v
    c.number_inside.new.visitor) (c.in_default-any_part.ensures.none refl) (c.number_inside.ensures ok r stands)
