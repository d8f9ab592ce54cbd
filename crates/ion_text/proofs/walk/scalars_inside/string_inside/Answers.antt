use Rattle.std.proofs.Common.{◌≡◌, ◌<◌, ◌-◌, ◌∙◌, ℕ, List, false, length, take, drop, ap, sym, subst, refl, arith, length-drop}
use Rattle.std.proofs.lemmas.List.{take_rest}
use Rattle.std.specs.Prelude.{IsUtf8}
use Rattle.ion_model.specs.declared.value.Payload.TheVariants as payloads
use Rattle.ion_model.specs.declared.value.Payload.TheViews as views
use Rattle.ion_text.specs.Names.{BeginsValue, FoundToken, IsFound, Place, Rest, Short, TokenKind, is_name, layer_events, part}
use Rattle.ion_text.specs.walk.Inside.{behind_now, past_spot, place_now}
use Rattle.ion_text.proofs.Inside.{comma_steps, stands_behind, steps_on, value_now, value_steps}
use Rattle.ion_text.proofs.TokenSteps.{short_says}
use Rattle.ion_text.proofs.walk.scalars_inside.string_inside.Goals as goal

pub returns : goal.returns
returns g c = λ ok r stands.
    let takes = g.V.Visitor.takes in
    let s = c.args.spot.now in
    let octets = c.args.octets.now in
    let n = c.args.count in
    let there = take_rest octets s.at in
    let size : length (drop s.at octets) ≡ length octets - s.at = length-drop s.at octets in
    let kept = take (n - 2) (drop 1 (drop s.at octets)) in
    let token : FoundToken = record { kind = TokenKind.ShortString; count = n; left = false } in
    let more = c.if-there-count-lt2.false in
    let short = c.requires.size in
    let whole : length (take (length octets - s.at) (drop s.at octets)) ≡ length (drop s.at octets) = ap (λ (w : List ℕ). length w) there in
    steps_on takes r r r s (past_spot s n (behind_now s.now)) c.value_ended.new.spot octets c.args.visitor.now c.tell.new.visitor c.tell.new.visitor
    (value_steps takes r s octets (payloads.Str kept) token c.args.visitor.now c.tell.new.visitor stands c.requires.value (omega arith) (omega arith)
    (value_now s.now c.requires.value) (ap layer_events (views.outs-Str kept))
    (λ p q name. record {
      kept = kept;
      content = Short kept;
      found = c.requires.found p q;
      says = short_says kept c.requires.text;
      is = λ setting spot fs ss. refl;
    })
    (subst (λ w. takes c.args.visitor.now (part (payloads.Str w)) c.tell.new.visitor)
    (c.text_of.ensures ∙ ap (λ d. take (n - 2) (drop 1 d)) there) (c.tell.ensures c.if-not-tell.false)))
    (comma_steps takes r (past_spot s n (behind_now s.now)) c.value_ended.new.spot octets c.tell.new.visitor (stands_behind takes r s.now stands)
    c.value_ended.ensures (omega arith))
