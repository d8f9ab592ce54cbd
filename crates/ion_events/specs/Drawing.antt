-- What a draft does at each event, and what it has laid of those that it was told.
use Rattle.std.specs.Prelude.{◌≡◌, ◌+◌, ◌≤◌, ◌⊎◌, ℕ, List, [], ◌∷◌, ◌++◌, length, take, drop, Option, Some, None}
use Rattle.ion_model.specs.Symbols.{IsText}
use Rattle.ion_events.specs.Drafts.{Adds, Closes, IsBlank, IsEmpty, IsHandedOver, Opens, next_place, text_place}
use Rattle.ion_events.specs.Entries.{annotation_code, code_of, decimal_entries, int_entries, label_entry, name_code, null_entry, plain, timestamp_entries, truth_entry}
use Rattle.ion_events.specs.Layouts.{Around, Stand, Walk, lays_one, texts_of}
use Rattle.ion_events.specs.Names.Below.{Event, KeptPayload, Kind, Layer, Led, Payload-F, Value, annotation, closes, ended, events_of, name, opens, out-Payload, part}
use Rattle.ion_events.specs.declared.draft.Draft.{Draft}
use Rattle.ion_events.specs.declared.entry.Entry.{Entry}
use Rattle.ion_events.specs.declared.laid.Laid.{Laid}

-- 1. At each event. `before` are the texts that were handed over.

-- a text that lies among those so far
pub record Finds (before : List ℕ) (a : Draft) (code : ℕ) (text : List ℕ) (count : ℕ) (b : Draft) : Type 0 where
  pub place : ℕ
  pub adds : Adds a b (plain code (length text) place ∷ []) [] count
  pub within : place + length text ≤ text_place a
  pub is : take (length text) (drop place (before ++ a.texts.items)) ≡ text

-- A symbol as an entry of this code, which is so many values: its text is put behind those so far, or lies among them.
abbrev pub Labels : List ℕ → Draft → ℕ → Option (List ℕ) → ℕ → Draft → Type 0
Labels before a code None count b = Adds a b (label_entry code None ∷ []) [] count
Labels before a code (Some w) count b = Adds a b (plain code (length w) (text_place a) ∷ []) w count ⊎ Finds before a code w count b

-- what has no values inside
abbrev pub draws_part : List ℕ → Draft → Layer → Draft → Type 0
draws_part before a (Payload-F.Null k) b = Adds a b (null_entry k ∷ []) [] 1
draws_part before a (Payload-F.Truth t) b = Adds a b (truth_entry t ∷ []) [] 1
draws_part before a (Payload-F.Int z) b = Adds a b (int_entries z) [] 1
draws_part before a (Payload-F.Decimal d) b = Adds a b (decimal_entries d) [] 1
draws_part before a (Payload-F.Timestamp t) b = Adds a b (timestamp_entries t) [] 1
draws_part before a (Payload-F.Symbol s) b = Labels before a (code_of Kind.Symbol) s 1 b
draws_part before a (Payload-F.Str w) b = Adds a b (plain (code_of Kind.Str) (length w) (text_place a) ∷ []) w 1
draws_part before a (Payload-F.Clob w) b = Adds a b (plain (code_of Kind.Clob) (length w) (text_place a) ∷ []) w 1
draws_part before a (Payload-F.Blob w) b = Adds a b (plain (code_of Kind.Blob) (length w) (text_place a) ∷ []) w 1
draws_part before a _ b = ⊥

-- what a draft does at an event
abbrev pub draws : List ℕ → Draft → Event → Draft → Type 0
draws before a (part p) b = KeptPayload p × draws_part before a (out-Payload p) b
draws before a (annotation s) b = IsText s × Labels before a annotation_code s 0 b
draws before a (name s) b = IsText s × Labels before a name_code s 0 b
draws before a (opens x) b = Opens a b x
draws before a (closes x) b = Closes a b x
draws before a ended b = ⊥

-- 2. What that lays.

-- the texts begin with these
abbrev pub TextsAre : List ℕ → List ℕ → Type 0
TextsAre o w = (rest : List ℕ) × (texts_of o ≡ w ++ rest)

-- so many values more came in the innermost brackets
abbrev pub come : ℕ → List Around → List Around
come n [] = []
come n (x ∷ xs) = record x { came = x.came + n } ∷ xs

-- where a draft stands in a layout, with these brackets around its value
abbrev pub walk : Draft → List Around → Walk
walk a out = record { at = next_place a; around = out; used = text_place a }

-- from one draft to another these events lie in each layout that has the entries and the texts that came between
pub record Drawn (before : List ℕ) (es : List Event) (a b : Draft) (count : ℕ) : Type 0 where
  pub entry : List Entry
  pub text : List ℕ
  pub adds : Adds a b entry text count
  pub lies : (o : List ℕ) (out : List Around) → Stand o (next_place a) entry → TextsAre o (before ++ b.texts.items)
      → Led (lays_one o) es (walk a out) (walk b (come count out))

-- 3. Values one by one, each told to the draft and handed over, from nothing on.
pub data HandedOver : List Value → Laid → Draft → Type 0 where
  none : (laid : Laid) (a : Draft) → IsEmpty laid → IsBlank a → HandedOver [] laid a
  one_more : (s : List Value) (v : Value) (laid more : Laid) (a b c : Draft) → HandedOver s laid a → Led (draws laid.texts.items) (events_of v) a b
      → IsHandedOver b laid c more → HandedOver (s ++ v ∷ []) more c
