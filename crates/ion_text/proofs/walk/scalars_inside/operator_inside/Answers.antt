use Rattle.std.proofs.Common.{◌≡◌, ◌<◌, ◌-◌, ◌+◌, ◌∙◌, List, ℕ, false, length, take, drop, ap, sym, subst, refl, arith, length-drop}
use Rattle.std.proofs.lemmas.List.{take_rest}
use Rattle.ion_text.specs.Names.{BeginsValue, Place, payload_of, takes_colon}
use Rattle.ion_text.specs.walk.Inside.{behind_now, past_spot, place_now}
use Rattle.ion_text.proofs.Holding.{part_layer}
use Rattle.ion_text.proofs.Inside.{comma_steps, here_steps, stands_behind, steps_on}
use Rattle.ion_text.proofs.SaidThere.{part_begins}
use Rattle.ion_text.proofs.walk.scalars_inside.operator_inside.Goals as goal

pub returns : goal.returns
returns g c = λ ok r stands.
    let takes = g.V.Visitor.takes in
    let s = c.args.spot.now in
    let octets = c.args.octets.now in
    let there = take_rest octets s.at in
    let size : length (drop s.at octets) ≡ length octets - s.at = length-drop s.at octets in
    let front = take (length octets - s.at) (drop s.at octets) in
    let whole : length front ≡ length (drop s.at octets) = ap (λ (w : List ℕ). length w) there in
    let scalar = c.in-Some.scalar in
    let said = c.in-Some.said in
    let token = scalar.token in
    let n = token.count in
    let x = c.in-Some.ensures in
    let within = c.requires.within in
    let more = c.if-there-count-lt2.false in
    steps_on takes r r r s (past_spot s n (behind_now s.now)) c.value_ended.new.spot octets c.args.visitor.now c.tell.new.visitor c.tell.new.visitor
    (here_steps takes r s octets (payload_of said) token c.args.visitor.now c.tell.new.visitor stands c.requires.value
    (x.found (record { start = 0; used = 0; colon = false })).token.found.some (omega arith)
    (ap (λ p. takes_colon p token.kind) c.requires.element ∙ ap (takes_colon Place.Sexp) x.kind) (part_layer said)
    (λ q. subst (λ p. BeginsValue false p q (drop s.at octets) token (payload_of said)) (sym c.requires.element)
    (subst (λ d. BeginsValue false Place.Sexp q d token (payload_of said)) there (part_begins false Place.Sexp q front scalar (payload_of said) (x.found q) x.waits)))
    (c.tell.ensures c.if-not-tell.false))
    (comma_steps takes r (past_spot s n (behind_now s.now)) c.value_ended.new.spot octets c.tell.new.visitor (stands_behind takes r s.now stands)
    c.value_ended.ensures (omega arith))
