use Rattle.ion_docs.specs.laws.Conversion.{written_denotes, again_denotes}
use Rattle.ion_docs.proofs.laws.same_stream.Goals as goal

pub returns : goal.returns
returns c = record {
  written = written_denotes;
  again = again_denotes;
}
