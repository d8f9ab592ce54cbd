-- What a reader of either encoding says of octets: the first chooses.
use Rattle.std.specs.Prelude.{ℕ, List, if◌then◌else◌}
use Rattle.ion_docs.specs.Names.Below.{Catalog, Limits, Trace}
use Rattle.ion_binary.specs.machine.Run as binary
use Rattle.ion_text.specs.machine.Run as text
use Rattle.ion_docs.specs.Documents.{is_binary}

-- what octets show in the encoding that the first of them chooses
abbrev pub chosen : Catalog → Limits → List ℕ → Trace
chosen g l octets = if is_binary octets then binary.trace g l octets else text.trace g l octets
