use Rattle.std.proofs.Common.{ℕ, Some, ◌∙◌, ap, drop}
use Rattle.std.specs.Result.{result_ok}
use Rattle.base64.specs.GeneralPurpose.{decoded_of}
use Rattle.ion_tokens.specs.Names.{blob_of}
use Rattle.ion_tokens.proofs.blob.decoded.Goals as goal

pub returns-in-Ok-clause-some : goal.returns-in-Ok-clause-some
unfolding blob_of decoded_of
returns-in-Ok-clause-some c _ =
    ap result_ok c.in-Ok.ensures.ok ∙ ap (λ (n : ℕ). Some (drop n c.decode_vec.new.buffer.items)) c.clear.ensures.len

pub returns-in-Err-DecodeError-clause-none : goal.returns-in-Err-DecodeError-clause-none
unfolding blob_of decoded_of
returns-in-Err-DecodeError-clause-none c _ = ap result_ok (rw c.in-Err-DecodeError.field-0-is at c.in-Err-DecodeError.ensures.err)
