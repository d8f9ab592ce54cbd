use Rattle.std.proofs.Common.{ap, arith, ◌∙◌, ◌≡◌, ◌+◌, ◌-◌, ◌≤◌, ℕ, List, false, length, length-drop, take, drop, subst}
use Rattle.std.proofs.lemmas.List.{take_rest}
use Rattle.std.specs.Prelude.{IsUtf8}
use Rattle.ion_text.specs.Names.{IsFound, TokenKind}
use Rattle.ion_text.proofs.walk.TextWalk.value_inside.Goals as goal

pub string_inside-requires-clause-found : goal.string_inside-requires-clause-found
string_inside-requires-clause-found g c = λ p q.
    let n = c.in-Some.count in
    subst (λ d. IsFound p q d TokenKind.ShortString (take (n - 2) (drop 1 d)) n false) (take_rest c.args.octets.now c.args.spot.now.at)
    (c.in-Some.ensures.found p q)

pub string_inside-requires-clause-text : goal.string_inside-requires-clause-text
string_inside-requires-clause-text g c =
    subst (λ d. IsUtf8 (take (c.in-Some.count - 2) (drop 1 d))) (take_rest c.args.octets.now c.args.spot.now.at) c.in-Some.ensures.text

pub string_inside-requires-clause-size : goal.string_inside-requires-clause-size
string_inside-requires-clause-size g c =
    let s = c.args.spot.now in
    let octets = c.args.octets.now in
    let size = c.in-Some.ensures.size in
    let front : length (take (length octets - s.at) (drop s.at octets)) ≡ length octets - s.at =
    ap (λ (w : List ℕ). length w) (take_rest octets s.at) ∙ length-drop s.at octets in
    (size.0, omega (arith, size.1, front, c.requires.ahead))

pub returns-in-Some-clause-steps : goal.returns-in-Some-clause-steps
returns-in-Some-clause-steps g c = λ ok. c.string_inside.ensures ok c.args.self.now c.requires.stands

pub returns-then-octet-eq39-clause-steps : goal.returns-then-octet-eq39-clause-steps
returns-then-octet-eq39-clause-steps g c = λ ok. c.other_symbol_inside.ensures ok c.args.self.now c.requires.stands

pub returns-then-octet-lt10-clause-steps : goal.returns-then-octet-lt10-clause-steps
returns-then-octet-lt10-clause-steps g c = λ ok. c.int_inside.ensures ok c.args.self.now c.requires.stands

pub returns-then-begins_symbol-clause-steps : goal.returns-then-begins_symbol-clause-steps
returns-then-begins_symbol-clause-steps g c = λ ok. c.word_inside.ensures ok c.args.self.now c.requires.stands

pub returns-then-octets-spot-lt10-clause-steps : goal.returns-then-octets-spot-lt10-clause-steps
returns-then-octets-spot-lt10-clause-steps g c = λ ok. c.signed_inside.ensures ok c.args.self.now c.requires.stands

pub returns-in-Element-2-clause-steps : goal.returns-in-Element-2-clause-steps
returns-in-Element-2-clause-steps g c = λ ok. c.operator_inside.ensures ok c.args.self.now c.requires.stands
