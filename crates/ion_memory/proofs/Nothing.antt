-- That no octets are a document of no values.
use Rattle.std.proofs.Common.{[], inl, refl}
use Rattle.ion_memory.specs.Names.{IsDocumentOf, Limits, documents}
use Rattle.ion_symtab.specs.Slots.{system_slots}
use Rattle.ion_text.specs.Grammar as text
use Rattle.ion_docs.specs.Documents.{in_text}

-- no octets are a document that describes no tables
pub nothing : (l : Limits) → IsDocumentOf (documents [] l) [] []
nothing l = record {
  s = [];
  denoted = in_text refl (record {
    tokens = [];
    context = system_slots;
    lexed = inl (record { pieces = []; each = tt; spelled = refl });
    pieces = text.begins;
  });
  each = refl;
  apart = tt;
}
