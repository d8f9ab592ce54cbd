use Rattle.std.proofs.Common.{◌≡◌, ◌<◌, ◌≤◌, ◌-◌, ◌+◌, ◌∙◌, ℕ, List, false, length, take, drop, ap, sym, subst, refl, arith, length-drop}
use Rattle.std.proofs.lemmas.List.{take_rest}
use Rattle.std.specs.Prelude.{IsUtf8}
use Rattle.ion_model.specs.declared.value.Payload.TheVariants as payloads
use Rattle.ion_model.specs.declared.value.Payload.TheViews as views
use Rattle.ion_text.specs.Names.{IsFound, Place, Rest, Short, TextWalk, layer_events, part, said, takes_colon}
use Rattle.ion_text.specs.walk.Inside.{behind_now, past_spot, place_now}
use Rattle.ion_text.proofs.Inside.{beside_steps, comma_steps, stands_behind, steps_on, value_now, value_steps}
use Rattle.ion_text.proofs.TokenSteps.{short_says}
use Rattle.ion_text.proofs.walk.TextWalk.escaped_inside.Goals as goal

pub returns-in_default-from_utf8-clause-steps : goal.returns-in_default-from_utf8-clause-steps
returns-in_default-from_utf8-clause-steps g c = λ ok.
    let r = c.args.self.now in
    let within : c.args.spot.now.at ≤ length c.args.octets.now = omega (arith, c.requires.ahead) in
    beside_steps g.V.Visitor.takes r (record r { beside = c.text.new.self }) c.args.spot.now c.args.octets.now c.args.visitor.now refl c.requires.stands within

pub returns-clause-steps : goal.returns-clause-steps
returns-clause-steps g c = λ ok.
    let takes = g.V.Visitor.takes in
    let r = c.args.self.now in
    let new : TextWalk = record r { beside = c.text.new.self } in
    let s = c.args.spot.now in
    let octets = c.args.octets.now in
    let a = c.args.visitor.now in
    let b = c.tell.new.visitor in
    let there = take_rest octets s.at in
    let size : length (drop s.at octets) ≡ length octets - s.at = length-drop s.at octets in
    let front = take (length octets - s.at) (drop s.at octets) in
    let whole : length front ≡ length (drop s.at octets) = ap (λ (w : List ℕ). length w) there in
    let token = c.in-Some.token in
    let n = token.count in
    let kept = c.octets.result.now in
    let is = c.in-Ok.ensures.cases in
    let kind = c.in-ShortString.is in
    let within : s.at ≤ length octets = omega (arith, c.requires.ahead) in
    let more = c.if-there-count-lt2.false in
    let found = λ (p : Place) (q : Rest). subst (λ w. IsFound p q front token.kind w n token.left) (sym c.octets.ensures) (c.in-Some.ensures.found p q) in
    let beside = beside_steps takes r new s octets a refl c.requires.stands within in
    steps_on takes r new new s s c.value_ended.new.spot octets a a b beside
    (steps_on takes new new new s (past_spot s n (behind_now s.now)) c.value_ended.new.spot octets a b b
    (value_steps takes new s octets (payloads.Str kept) token a b beside.stands c.requires.value
    (found Place.List (record { start = 0; used = 0; colon = false })).some (omega arith)
    (ap (takes_colon (place_now s.now)) kind ∙ value_now s.now c.requires.value) (ap layer_events (views.outs-Str kept))
    (λ p q name. record {
      kept = kept;
      content = Short kept;
      found = subst (λ d. IsFound p q d token.kind kept n token.left) there (found p q);
      says = ap (λ k. said k kept) kind ∙ short_says kept is.1;
      is = λ setting spot fs ss. refl;
    })
    (subst (λ w. g.V.Visitor.takes a (part (payloads.Str w)) b) is.0 (c.tell.ensures c.if-not-tell.false)))
    (comma_steps takes new (past_spot s n (behind_now s.now)) c.value_ended.new.spot octets b (stands_behind takes new s.now beside.stands)
    c.value_ended.ensures (omega arith)))
