-- What a check of a document answers, and what a visitor is told of it.
use Rattle.std.specs.Prelude.{◌≡◌, ℕ, List, length, Result, Ok, Err}
use Rattle.ion_streams.specs.Names.{Event, Format, Inlet, Led, Refusal, ToldDocument, ToldRefused, Value, stream_events}

-- the octets that the device handed over denote so many values, or they are no document
abbrev pub IsChecked : {S : Type 0} → Inlet S → Format → S → S → Result ℕ Refusal → Type 0
IsChecked R F first now (Ok values) = (s : List Value) × ToldDocument R F first now s × (length s ≡ values)
IsChecked R F first now (Err refusal) = (s : List Value) × ToldRefused R F first now s refusal

-- The octets that the device handed over denote so many values, of which a visitor has heard all events; or they are no document.
abbrev pub IsVisited : {S V : Type 0} → (V → Event → V → Type 0) → Inlet S → Format → S → S → V → V → Result ℕ Refusal → Type 0
IsVisited takes R F first now a b (Ok values) = (s : List Value) × ToldDocument R F first now s × (length s ≡ values) × Led takes (stream_events s) a b
IsVisited takes R F first now a b (Err refusal) = (s : List Value) × ToldRefused R F first now s refusal
