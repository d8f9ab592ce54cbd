use Rattle.std.proofs.Common.{◌≡◌, ◌<◌, ◌-◌, ◌+◌, ◌∙◌, Ok, Some, List, ℕ, true, false, length, take, drop, ap, sym, subst, refl, arith, length-drop}
use Rattle.std.proofs.lemmas.List.{length-take, take_rest}
use Rattle.ion_scalar.specs.text.laws.OneNumber.{one_answer}
use Rattle.ion_text.specs.Names.{BeginsValue, FoundToken, Place, TokenKind, number_payload, number_read, number_reads}
use Rattle.ion_text.specs.walk.Inside.{StepsTo, behind_now, past_spot}
use Rattle.ion_text.proofs.Holding.{number_layer}
use Rattle.ion_text.proofs.Inside.{comma_steps, found_longer, stands_behind, steps_on, value_steps}
use Rattle.ion_text.proofs.SaidThere.{number_begins}
use Rattle.ion_text.proofs.TokenSteps.{number_says}
use Rattle.ion_text.proofs.walk.scalars_inside.int_inside.Goals as goal

pub returns : goal.returns
returns g c = λ ok r stands.
    let takes = g.V.Visitor.takes in
    let s = c.args.spot.now in
    let octets = c.args.octets.now in
    let there = take_rest octets s.at in
    let size : length (drop s.at octets) ≡ length octets - s.at = length-drop s.at octets in
    let front = take (length octets - s.at) (drop s.at octets) in
    let whole : length front ≡ length (drop s.at octets) = ap (λ (w : List ℕ). length w) there in
    let n = c.in-Some.digits in
    let w = c.in-Some.ensures in
    let window = take 20 front in
    let few = length-take 20 front in
    let within = w.within in
    let number = w.reads.0 in
    let token : FoundToken = record { kind = TokenKind.Number; count = n; left = true } in
    let same = one_answer (take n window) (Ok number) (number_read (take n window)) w.reads.1 (number_reads (take n window)) in
    steps_on takes r r r s (past_spot s n (behind_now s.now)) c.value_ended.new.spot octets c.args.visitor.now c.any_part.new.self c.any_part.new.self
    (value_steps takes r s octets (number_payload number) token c.args.visitor.now c.any_part.new.self stands c.requires.value (w.found Place.List (record { start = 0; used = 0; colon = false }) refl).some (omega arith) refl
    (number_layer number)
    (λ p q name. subst (λ d. BeginsValue false p q d token (number_payload number)) there
    (number_begins p q front token number (record { kept = take n window; found = found_longer p q front 20 n TokenKind.Number (take n window) (w.found p q name); says = number_says (take n window) number same })))
    (c.in-Some-any_part.ensures.told (ap Some c.if-not-went_on.false) (number_payload number)))
    (comma_steps takes r (past_spot s n (behind_now s.now)) c.value_ended.new.spot octets c.any_part.new.self (stands_behind takes r s.now stands)
    c.value_ended.ensures (omega arith))

pub returns-in_default-any_part : goal.returns-in_default-any_part
returns-in_default-any_part g c = λ ok r stands.
    subst (λ v. StepsTo g.V.Visitor.takes r r c.args.spot.now c.number_inside-in_default-any_part.new.spot c.args.octets.now v
    c.number_inside-in_default-any_part.new.visitor) (c.in_default-any_part.ensures.none refl) (c.number_inside-in_default-any_part.ensures ok r stands)
