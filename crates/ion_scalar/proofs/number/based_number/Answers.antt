use Rattle.std.proofs.Common.{◌∙◌, ℕ, drop, refl, ap, min, ◌^◌}
use Rattle.std.proofs.lemmas.Bool.{false≢true}
use Rattle.std.proofs.lemmas.List.{take_rest}
use Rattle.ion_scalar.specs.Names.{IsDigits, number}
use Rattle.ion_scalar.specs.text.laws.Unsigned.{base_magnitude, continued_none, int_answer, no_based}
use Rattle.ion_scalar.proofs.number.based_number.Goals as goal

pub returns-in-Some : goal.returns-in-Some
returns-in-Some c =
    let body = c.args.body.now in
    let digits : IsDigits c.args.base (drop 2 body) = rw (take_rest body 2) at (c.in-Some.ensures.digits.0 refl) in
    int_answer c.args.negative body (number c.args.base (drop 2 body)) c.in-Some.digits.value c.int_number.result
    (base_magnitude c.args.base body c.requires digits) (c.in-Some.ensures.value
    ∙ (rw (take_rest body 2) (ap (λ (v : ℕ). min v (2 ^ 127)) (continued_none c.args.base (drop 2 body)))))
    c.int_number.ensures.ok c.int_number.ensures.err

pub returns-in-None : goal.returns-in-None
returns-in-None c =
    let body = c.args.body.now in
    no_based c.args.negative c.args.base body c.requires (λ d. false≢true ((rw (take_rest body 2) at c.in-None.ensures.digits).1 d))
