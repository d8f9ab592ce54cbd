use Rattle.ion_text_writer.specs.laws.Rows.{worked_text}
use Rattle.ion_text_writer.proofs.laws.worked_text.Goals as goal

pub returns : goal.returns
returns c = worked_text
