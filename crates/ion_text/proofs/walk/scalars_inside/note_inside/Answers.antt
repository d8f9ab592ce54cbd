use Rattle.std.proofs.Common.{◌≡◌, ◌<◌, ◌-◌, ◌+◌, ◌∙◌, List, ℕ, Some, length, take, drop, get_or, ap, sym, subst, arith}
use Rattle.std.proofs.lemmas.List.{take_rest}
use Rattle.ion_text.specs.Names.{FoundSymbol, IsPassed, payload_of}
use Rattle.ion_text.specs.walk.Inside.{StepsTo, past_spot}
use Rattle.ion_text.proofs.Inside.{note_steps}
use Rattle.ion_text.proofs.walk.scalars_inside.note_inside.Goals as goal

pub returns : goal.returns
returns g c = λ ok r stands.
    let takes = g.V.Visitor.takes in
    let s = c.args.spot.now in
    let octets = c.args.octets.now in
    let there = take_rest octets s.at in
    let whole : length (take (length octets - s.at) (drop s.at octets)) ≡ length (drop s.at octets) = ap (λ (w : List ℕ). length w) there in
    let scalar = c.args.scalar in
    let n = scalar.token.count in
    let m = c.in-Some.between in
    let e = c.in-Some.ensures in
    let text = c.in-Symbol.text in
    subst (λ t. StepsTo takes r r s t octets c.args.visitor.now c.annotation.new.self) (sym (c.past.ensures ∙ ap (past_spot s (n + m + 2)) c.with_note.ensures))
    (note_steps takes r s octets scalar (Some text.now) m c.args.visitor.now c.annotation.new.self stands c.requires.value c.requires.within
    (omega (arith, whole, e.within))
    (λ p q. subst (λ v. FoundSymbol p q (drop s.at octets) scalar v) (ap payload_of c.in-Symbol.is) (c.requires.found p q))
    (subst (λ d. IsPassed (drop n d) m) there e.passed) (sym (ap (λ d. get_or d (n + m) 0) there) ∙ e.one)
    (sym (ap (λ d. get_or d (n + m + 1) 0) there) ∙ e.two) (c.annotation.ensures c.if-not-annotation.false))
