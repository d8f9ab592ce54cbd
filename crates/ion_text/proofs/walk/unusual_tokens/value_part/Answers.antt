use Rattle.std.proofs.Common.{ap, sym, subst, false}
use Rattle.ion_text.specs.Names.{IsFree, IsValue, on_ready}
use Rattle.ion_model.specs.declared.value.Payload.TheVariants as payloads
use Rattle.ion_tokens.specs.Bodies.{content}
use Rattle.ion_text.proofs.walk.unusual_tokens.value_part.Goals as goal

pub returns-in-Clob-clause-value : goal.returns-in-Clob-clause-value
returns-in-Clob-clause-value c =
    subst (λ w. IsValue false (content c.args.body.now) (payloads.Clob w)) (sym c.as_slice.ensures)
    (λ setting spot fs ss. ap (λ b. on_ready setting spot fs ss (content b)) c.in-Clob.is)

pub returns-in-Blob-clause-value : goal.returns-in-Blob-clause-value
returns-in-Blob-clause-value c =
    subst (λ w. IsValue false (content c.args.body.now) (payloads.Blob w)) (sym c.as_slice-in-Blob.ensures)
    (λ setting spot fs ss. ap (λ b. on_ready setting spot fs ss (content b)) c.in-Blob.is)

pub returns-in-Clob-clause-free : goal.returns-in-Clob-clause-free
returns-in-Clob-clause-free c = subst (λ b. IsFree (content b)) (sym c.in-Clob.is) tt

pub returns-in-Blob-clause-free : goal.returns-in-Blob-clause-free
returns-in-Blob-clause-free c = subst (λ b. IsFree (content b)) (sym c.in-Blob.is) tt
