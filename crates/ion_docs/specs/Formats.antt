-- What octets are to the reader that chooses by the first of them.
use Rattle.ion_docs.specs.Names.Below.{Catalog, Format, Limits}
use Rattle.ion_docs.specs.Documents.{Denotes, Pieces}
use Rattle.ion_docs.specs.reading.Chosen.{chosen}

-- documents of either encoding
abbrev pub documents : Catalog → Limits → Format
documents g l = record { denotes = Denotes g l; pieces = Pieces g l; trace = chosen g l }
