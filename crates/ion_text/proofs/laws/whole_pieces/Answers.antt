use Rattle.ion_text.specs.laws.showing.tokens.Alone.{document_pieces, whole_document}
use Rattle.ion_text.proofs.laws.whole_pieces.Goals as goal

pub returns : goal.returns
returns c = record { documents = document_pieces; pieces = whole_document }
