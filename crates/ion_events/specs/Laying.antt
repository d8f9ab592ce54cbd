-- What a visitor lays down of the values that it is told, and which symbols it finds again.
use Rattle.std.specs.Prelude.{◌≡◌, ◌+◌, ◌≤◌, ◌<◌, ◌⊎◌, ℕ, List, [], ◌∷◌, ◌++◌, length, take, drop, replicate, set, slice_get, Option, Some, None}
use Rattle.ion_names.specs.Ids.{Names, id_of, system_names, with_name}
use Rattle.ion_events.specs.Drafts.{Adds, IsBlank, IsHandedOver, text_place}
use Rattle.ion_events.specs.Drawing.{HandedOver, draws}
use Rattle.ion_events.specs.Names.Below.{Event, Value}
use Rattle.ion_events.specs.declared.entry.Place.{Place}
use Rattle.ion_events.specs.declared.laid.Laid.{Laid}
use Rattle.ion_events.specs.declared.laying.Laying.{Laying}

-- 1. Where the texts of symbols lie.

-- a text lies at a place among these
pub record LiesAmong (texts text : List ℕ) (p : Place) : Type 0 where
  pub count : p.count ≡ length text
  pub within : p.number + length text ≤ length texts
  pub is : take (length text) (drop p.number texts) ≡ text

-- Where an id has a place, the text of its symbol lies there. No more ids have places than there are.
pub record ArePlaces (texts : List ℕ) (names : Names) (places : List (Option Place)) : Type 0 where
  pub few : length places ≤ length names
  pub each : (id : ℕ) (text : List ℕ) (p : Place) → slice_get names id ≡ Some (Some text) → slice_get places id ≡ Some (Some p) → LiesAmong texts text p

-- a visitor whose open value stands behind these texts, which were handed over
pub record IsBehind {S T : Type 0} (before : List ℕ) (a : Laying S T) : Type 0 where
  pub size : length before ≡ a.draft.texts_before
  pub places : ArePlaces (before ++ a.draft.texts.items) a.names a.places.items

-- 2. The place of a text.

-- it was put behind the texts so far
pub record IsPut {S T : Type 0} (a : Laying S T) (text : List ℕ) (p : Place) (b : Laying S T) : Type 0 where
  pub adds : Adds a.draft b.draft [] text 0
  pub is : p ≡ record { count = length text; number = text_place a.draft }

-- or it lies among them
pub record IsFound {S T : Type 0} (before : List ℕ) (a : Laying S T) (text : List ℕ) (p : Place) (b : Laying S T) : Type 0 where
  pub same : b.draft ≡ a.draft
  pub there : LiesAmong (before ++ a.draft.texts.items) text p

-- behind whatever texts
abbrev pub Shows : {S T : Type 0} → Laying S T → List ℕ → Place → Laying S T → Type 0
Shows a text p b = (before : List ℕ) → IsBehind before a → IsBehind before b × (IsPut a text p b ⊎ IsFound before a text p b)

-- the same of a symbol, whose text may be unknown
abbrev pub ShowsSymbol : {S T : Type 0} → Laying S T → Option (List ℕ) → Option Place → Laying S T → Type 0
ShowsSymbol a None place b = (place ≡ None) × (b ≡ a)
ShowsSymbol a (Some text) place b = (p : Place) × (place ≡ Some p) × Shows a text p b

-- a symbol has this id, which was the next one where it had none; then its text may have no place yet
pub record IsNamed {S T : Type 0} (a : Laying S T) (text : List ℕ) (id : ℕ) (b : Laying S T) : Type 0 where
  pub draft : b.draft ≡ a.draft
  pub names : b.names ≡ with_name a.names (Some text)
  pub is : id ≡ id_of b.names (Some text)
  pub places : ((b.places.items ≡ a.places.items) × (length b.names ≤ length a.places.items))
      ⊎ ((b.places.items ≡ a.places.items ++ None ∷ []) × (length a.places.items < length b.names))

-- the text of an id is put behind those so far, and its place is kept, unless none is kept for the id
pub record PutsAt {S T : Type 0} (a : Laying S T) (id : ℕ) (text : List ℕ) (p : Place) (b : Laying S T) : Type 0 where
  pub adds : Adds a.draft b.draft [] text 0
  pub is : p ≡ record { count = length text; number = text_place a.draft }
  pub names : b.names ≡ a.names
  pub places : (b.places.items ≡ set a.places.items id (Some p)) ⊎ (b.places.items ≡ a.places.items)

-- 3. At each event.

-- behind whatever texts the draft does what is for the event
abbrev pub lays_down : {S T : Type 0} → Laying S T → Event → Laying S T → Type 0
lays_down a e b = (before : List ℕ) → IsBehind before a → draws before a.draft e b.draft × IsBehind before b

-- it is told nothing yet, and no text has a place
pub record IsNew {S T : Type 0} (a : Laying S T) : Type 0 where
  pub draft : IsBlank a.draft
  pub names : a.names ≡ system_names
  pub places : a.places.items ≡ replicate (length a.names) None

-- the value that ended is handed over, and symbols keep their places
pub record HandsOver {S T : Type 0} (a : Laying S T) (laid : Laid) (b : Laying S T) (more : Laid) : Type 0 where
  pub draft : IsHandedOver a.draft laid b.draft more
  pub names : b.names ≡ a.names
  pub places : b.places.items ≡ a.places.items

-- values were told and handed over, one by one and from nothing on, and no other
pub record LaidDown {S T : Type 0} (s : List Value) (laid : Laid) (a : Laying S T) : Type 0 where
  pub over : HandedOver s laid a.draft
  pub behind : IsBehind laid.texts.items a
