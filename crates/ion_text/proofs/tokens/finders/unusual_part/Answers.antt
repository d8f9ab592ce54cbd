use Rattle.std.proofs.Common.{ap, sym, subst, Some, true, false, refl}
use Rattle.std.specs.Cow.{cow_str_bytes}
use Rattle.ion_text.specs.Names.{IsFree, IsValue, Pays, held_of, on_ready}
use Rattle.ion_model.specs.declared.value.Payload.TheVariants as payloads
use Rattle.ion_tokens.specs.Bodies.{content}
use Rattle.ion_text.proofs.tokens.finders.unusual_part.Goals as goal

pub returns-in-Quoted-clause-value : goal.returns-in-Quoted-clause-value
returns-in-Quoted-clause-value c =
    let w = c.in-Quoted.text in
    subst (λ w. IsValue true (content c.args.body.now) (payloads.Symbol (Some w))) (sym c.as_str.ensures)
    (subst (λ b. Pays (held_of (content b)) (payloads.Symbol (Some w))) (sym c.in-Quoted.is) refl)

pub returns-in-TypedNull-clause-value : goal.returns-in-TypedNull-clause-value
returns-in-TypedNull-clause-value c = subst (λ b. Pays (held_of (content b)) (payloads.Null c.in-TypedNull.kind)) (sym c.in-TypedNull.is) refl

pub returns-in-Short-clause-value : goal.returns-in-Short-clause-value
returns-in-Short-clause-value c =
    subst (λ w. IsValue false (content c.args.body.now) (payloads.Str w)) (sym c.as_str-in-Short.ensures)
    (λ setting spot fs ss. ap (λ b. on_ready setting spot fs ss (content b)) c.in-Short.is)

pub returns-in-Operator-clause-value : goal.returns-in-Operator-clause-value
returns-in-Operator-clause-value c =
    let w = cow_str_bytes c.in-Operator.word in
    subst (λ w. IsValue false (content c.args.body.now) (payloads.Symbol (Some w)))
    (sym c.as_str-in-Operator.ensures.value)
    (λ setting spot fs ss. ap (λ b. on_ready setting spot fs ss (content b)) c.in-Operator.is)

pub returns-in-Quoted-clause-free : goal.returns-in-Quoted-clause-free
returns-in-Quoted-clause-free c = subst (λ b. IsFree (content b)) (sym c.in-Quoted.is) refl

pub returns-in-TypedNull-clause-free : goal.returns-in-TypedNull-clause-free
returns-in-TypedNull-clause-free c = subst (λ b. IsFree (content b)) (sym c.in-TypedNull.is) refl

pub returns-in-Short-clause-free : goal.returns-in-Short-clause-free
returns-in-Short-clause-free c = subst (λ b. IsFree (content b)) (sym c.in-Short.is) tt

pub returns-in-Operator-clause-free : goal.returns-in-Operator-clause-free
returns-in-Operator-clause-free c = subst (λ b. IsFree (content b)) (sym c.in-Operator.is) tt
