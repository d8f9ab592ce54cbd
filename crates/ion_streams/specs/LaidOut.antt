-- What a document is laid out as.
use Rattle.std.specs.Prelude.{◌≡◌, ℕ, List, length, Result, Ok, Err}
use Rattle.ion_streams.specs.Names.{Format, Inlet, Refusal, ToldDocument, ToldRefused, Value}
use Rattle.ion_events.specs.Layouts.{LaysStream}

-- The octets that the device handed over denote a stream, which lies in the layout; or they are no document, and the values before the refusal lie there.
abbrev pub IsLaidOut : {S : Type 0} → Inlet S → Format → S → S → Result ℕ Refusal → List ℕ → Type 0
IsLaidOut R F first now (Ok values) layout = (s : List Value) × ToldDocument R F first now s × (length s ≡ values) × LaysStream s layout
IsLaidOut R F first now (Err refusal) layout = (s : List Value) × ToldRefused R F first now s refusal × LaysStream s layout
