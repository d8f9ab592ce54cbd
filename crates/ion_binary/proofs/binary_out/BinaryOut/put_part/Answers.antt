use Rattle.std.proofs.Common.{rules, ◌∷◌, [], ◌∙◌, ap, refl}
use Rattle.ion_binary.specs.Names.{framed, null_octet, payload_of, truth_octet}
use Rattle.ion_model.specs.declared.value.Payload.TheViews as views
use Rattle.ion_binary.proofs.BinaryTold.{scalar_put}
use Rattle.ion_binary.proofs.binary_out.BinaryOut.put_part.Goals as goal

pub returns-in-Null : goal.returns-in-Null
returns-in-Null g c = λ e.
    scalar_put _ c.args.self.now (payload_of c.args.said.now) _ (null_octet c.in-Null.kind ∷ []) c.put_null.new.out.items c.self.view_is
    (ap (λ s. views.out-Payload (payload_of s)) c.in-Null.is ∙ views.outs-Null c.in-Null.kind) refl (λ names. refl) (search rules)

pub returns-in-Truth : goal.returns-in-Truth
returns-in-Truth g c = λ e.
    scalar_put _ c.args.self.now (payload_of c.args.said.now) _ (truth_octet c.in-Truth.truth ∷ []) c.put_truth.new.out.items c.self-in-Truth.view_is
    (ap (λ s. views.out-Payload (payload_of s)) c.in-Truth.is ∙ views.outs-Truth c.in-Truth.truth) refl (λ names. refl) (search rules)

pub returns-in-Str : goal.returns-in-Str
returns-in-Str g c = λ e.
    scalar_put _ c.args.self.now (payload_of c.args.said.now) _ (framed 8 c.in-Str.text.now) c.put_framed.new.out.items c.self-in-Str.view_is
    (ap (λ s. views.out-Payload (payload_of s)) c.in-Str.is ∙ views.outs-Str c.in-Str.text.now) refl (λ names. refl) (search rules)

pub returns-in-Clob : goal.returns-in-Clob
returns-in-Clob g c = λ e.
    scalar_put _ c.args.self.now (payload_of c.args.said.now) _ (framed 9 c.in-Clob.octets.now) c.put_framed-in-Clob.new.out.items c.self-in-Clob.view_is
    (ap (λ s. views.out-Payload (payload_of s)) c.in-Clob.is ∙ views.outs-Clob c.in-Clob.octets.now) refl (λ names. refl) (search rules)

pub returns-in-Blob : goal.returns-in-Blob
returns-in-Blob g c = λ e.
    scalar_put _ c.args.self.now (payload_of c.args.said.now) _ (framed 10 c.in-Blob.octets.now) c.put_framed-in-Blob.new.out.items c.self-in-Blob.view_is
    (ap (λ s. views.out-Payload (payload_of s)) c.in-Blob.is ∙ views.outs-Blob c.in-Blob.octets.now) refl (λ names. refl) (search rules)
