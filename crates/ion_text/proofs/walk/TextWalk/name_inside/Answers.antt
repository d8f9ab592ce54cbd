use Rattle.std.proofs.Common.{false, sym, subst, refl, ap, arith, ◌∙◌, ◌≡◌, ◌+◌, ◌-◌, ◌<◌, ◌≤◌, get_or, get_or-drop, length, take, drop, Some, inr}
use Rattle.ion_text.specs.walk.Inside.{StepsTo, behind_comma_now}
use Rattle.ion_text.specs.declared.walk.inside.Now.{Now}
use Rattle.ion_text.proofs.Inside.{blank_steps, comma_steps, steps_none, steps_on}
use Rattle.ion_text.proofs.walk.TextWalk.name_inside.Goals as goal
use Rattle.std.proofs.lemmas.List.{take_rest}
use Rattle.ion_text.specs.Names.{BeginsName, Place, TokenKind, FoundToken}
use Rattle.ion_text.proofs.Symbols.{short_name}

pub key_and_value-requires-clause-found : goal.key_and_value-requires-clause-found
key_and_value-requires-clause-found g c = λ rest.
    let s = c.args.spot.now in
    let octets = c.args.octets.now in
    let front = take (length octets - s.at) (drop s.at octets) in
    let n = c.in-Some.count in
    let kept = take (n - 2) (drop 1 front) in
    let token : FoundToken = record { kind = TokenKind.ShortString; count = n; left = false } in
    subst (λ d. BeginsName Place.Name rest d token (Some c.text_of.result.now)) (take_rest octets s.at)
    (subst (λ v. BeginsName Place.Name rest front token (Some v)) (sym c.text_of.ensures)
    (short_name Place.Name rest front n kept (Some kept) c.in-Some.ensures.text refl (c.in-Some.ensures.found Place.Name rest)))

pub returns-in-Some-word_name-clause-steps : goal.returns-in-Some-word_name-clause-steps
returns-in-Some-word_name-clause-steps g c = λ ok. c.key_inside.ensures.steps ok c.args.self.now c.requires.stands

pub returns-then-there-eq39-clause-steps : goal.returns-then-there-eq39-clause-steps
returns-then-there-eq39-clause-steps g c = λ ok. c.quoted_key_inside.ensures ok c.args.self.now c.requires.stands
