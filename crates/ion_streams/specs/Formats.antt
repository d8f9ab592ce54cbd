-- What octets are to a reader of documents.
use Rattle.std.specs.Prelude.{ℕ, List}
use Rattle.ion_streams.specs.Names.Below.{Catalog, Items, Limits, Trace, Value}

-- a format of documents
pub record Format : Type 1 where
  -- the octets are a document, and these values its stream
  pub denotes : List ℕ → List Value → Type 0
  -- the first octets, where the second follow them, are whole pieces at the front of a document, and these values their stream
  pub pieces : List ℕ → List ℕ → List Value → Type 0
  -- what a reader says of octets: the values with the totals of octets behind which they come, the refusal of a step, what the end answers
  pub trace : List ℕ → Trace

-- what a reader reads under this catalog and within these limits
abbrev pub format_of : {X : Type 0} → Items X → Catalog → Limits → Format
format_of I g l = record { denotes = I.denotes g l; pieces = I.pieces g l; trace = I.trace g l }
