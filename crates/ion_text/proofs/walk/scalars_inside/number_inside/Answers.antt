use Rattle.std.proofs.Common.{◌≡◌, ◌<◌, ◌-◌, ◌+◌, ◌∙◌, List, ℕ, false, length, take, drop, ap, sym, subst, refl, arith, length-drop}
use Rattle.std.proofs.lemmas.List.{take_rest}
use Rattle.ion_text.specs.Names.{BeginsValue, Place, number_payload, takes_colon}
use Rattle.ion_text.specs.walk.Inside.{behind_now, past_spot, place_now}
use Rattle.ion_text.proofs.Holding.{number_layer}
use Rattle.ion_text.proofs.Inside.{comma_steps, stands_behind, steps_on, value_steps}
use Rattle.ion_text.proofs.SaidThere.{number_begins}
use Rattle.ion_text.proofs.walk.scalars_inside.number_inside.Goals as goal

pub returns : goal.returns
returns g c = λ ok r stands.
    let takes = g.V.Visitor.takes in
    let s = c.args.spot.now in
    let octets = c.args.octets.now in
    let there = take_rest octets s.at in
    let size : length (drop s.at octets) ≡ length octets - s.at = length-drop s.at octets in
    let front = take (length octets - s.at) (drop s.at octets) in
    let whole : length front ≡ length (drop s.at octets) = ap (λ (w : List ℕ). length w) there in
    let token = c.in-Some.token in
    let number = c.in-Some.number in
    let n = token.count in
    let x = c.in-Some.ensures in
    let within = x.within in
    let more = c.if-there-token-lt2.false in
    steps_on takes r r r s (past_spot s n (behind_now s.now)) c.value_ended.new.spot octets c.args.visitor.now c.tell_number.new.visitor
    c.tell_number.new.visitor
    (value_steps takes r s octets (number_payload number) token c.args.visitor.now c.tell_number.new.visitor stands c.requires.value (x.found Place.List (record { start = 0; used = 0; colon = false }) refl).found.some (omega arith)
    (ap (takes_colon (place_now s.now)) x.kind) (number_layer number)
    (λ p q name. subst (λ d. BeginsValue false p q d token (number_payload number)) there (number_begins p q front token number (x.found p q name)))
    (c.tell_number.ensures c.if-not-tell_number.false))
    (comma_steps takes r (past_spot s n (behind_now s.now)) c.value_ended.new.spot octets c.tell_number.new.visitor (stands_behind takes r s.now stands)
    c.value_ended.ensures (omega arith))
