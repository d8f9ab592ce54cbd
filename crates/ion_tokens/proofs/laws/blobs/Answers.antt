use Rattle.ion_tokens.proofs.runs.Cutting.{blob_text}
use Rattle.ion_tokens.proofs.laws.blobs.Goals as goal

pub returns : goal.returns
returns c = blob_text
