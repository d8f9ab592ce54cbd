use Rattle.std.proofs.Common.{◌≡◌, ◌<◌, ◌-◌, ◌+◌, ◌∙◌, List, ℕ, length, take, drop, get_or, ap, sym, subst, arith, length-drop}
use Rattle.std.proofs.lemmas.List.{take_rest}
use Rattle.ion_text.specs.Names.{IsPassed, ends_symbol}
use Rattle.ion_text.specs.walk.Inside.{CommaSteps, past_white, word_spot}
use Rattle.ion_text.proofs.Inside.{comma_steps, steps_none, steps_on, white_by, word_steps}
use Rattle.ion_text.proofs.walk.scalars_inside.symbol_inside.Goals as goal

pub returns : goal.returns
returns g c = λ ok r stands.
    let takes = g.V.Visitor.takes in
    let s = c.args.spot.now in
    let octets = c.args.octets.now in
    let front = take (length octets - s.at) (drop s.at octets) in
    let there = take_rest octets s.at in
    let size : length (drop s.at octets) ≡ length octets - s.at = length-drop s.at octets in
    let whole : length front ≡ length (drop s.at octets) = ap (λ (w : List ℕ). length w) there in
    let scalar = c.args.scalar in
    let n = scalar.token.count in
    let m = c.blanks-between.result in
    let t = past_white (word_spot s n) m in
    let at : t.at ≡ s.at + n + m = (white_by takes (word_spot s n) m).0 in
    let more = c.if-there-count-lt2.false in
    let some = c.if-count-there.false in
    let few = c.blanks-between.ensures.within in
    let steps = word_steps takes r s octets scalar c.args.said.now m c.args.visitor.now c.tell.new.visitor stands c.requires.value c.requires.within (omega arith)
    c.requires.found
    (subst (λ w. IsPassed w m) (take_rest front n ∙ ap (λ w. drop n w) there) c.blanks-between.ensures.passed)
    (sym (ap (λ w. ends_symbol (get_or w (n + m) 0)) there) ∙ (sym c.ends_symbol.ensures ∙ c.if-not-ends_symbol.false))
    (c.tell.ensures c.if-not-tell.false) in
    steps_on takes r r r s t c.comma_at_once.new.spot octets c.args.visitor.now c.tell.new.visitor c.tell.new.visitor steps
    (comma_steps takes r t c.comma_at_once.new.spot octets c.tell.new.visitor steps.stands
    (subst (λ u. CommaSteps u c.comma_at_once.new.spot octets) c.past_word.ensures c.comma_at_once.ensures) (omega arith))

pub returns-then-there-count-lt2 : goal.returns-then-there-count-lt2
returns-then-there-count-lt2 g c = λ ok r stands.
    steps_none g.V.Visitor.takes r c.args.spot.now c.args.octets.now c.args.visitor.now stands c.requires.within
