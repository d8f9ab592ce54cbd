-- What is printed of what stopped a document.
use Rattle.std.specs.Prelude.{ℕ, List, Option, Some, None}
use Rattle.ion.specs.Names.{Stop}
use Rattle.ion_atoms.specs.Reasons.{refusal_text}

-- the line of a refusal; what is printed of a fault isn't said
abbrev pub stop_text : Stop → Option (List ℕ)
stop_text (Stop.Refused refusal) = Some (refusal_text refusal)
stop_text (Stop.Fault fault) = None
