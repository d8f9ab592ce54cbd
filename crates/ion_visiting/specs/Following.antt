-- Finding on a tape what another tells, event by event.
use Rattle.std.specs.Prelude.{◌≡◌, ◌+◌, ◌/◌, ◌%◌, ◌^◌, ◌++◌, ℕ, suc, [], ◌∷◌, List, slice_get, Bool, true, false, Option, Some}
use Rattle.ion_visiting.specs.Names.{Bracket, Entry, Event, Following, Frame, Led, Role, Tape, closes, ended, name, opens}
use Rattle.ion_visiting.specs.Tapes.{Tells}

-- what a name is
abbrev pub is_name : Entry → Bool
is_name (Entry.Unknown Role.Name) = true
is_name (Entry.Long Role.Name r) = true
is_name (Entry.Shared Role.Name j) = true
is_name (Entry.Short Role.Name n l f) = true
is_name _ = false

-- a field begins at a place
pub record IsField (t : Tape) (i : ℕ) : Type 0 where
  pub entry : Entry
  pub there : slice_get t.entries.items i ≡ Some entry
  pub is : is_name entry ≡ true

-- what an annotation is
abbrev pub is_annotation : Entry → Bool
is_annotation (Entry.Unknown Role.Annotation) = true
is_annotation (Entry.Long Role.Annotation r) = true
is_annotation (Entry.Shared Role.Annotation j) = true
is_annotation (Entry.Short Role.Annotation n l f) = true
is_annotation _ = false

-- where the payload ends whose front stands at a place
abbrev pub behind_payload : Entry → ℕ → ℕ
behind_payload (Entry.Open x j) i = j
behind_payload _ i = i + 1

-- the value at a place ends before another, as its front says
pub data Behind (t : Tape) : ℕ → ℕ → Type 0 where
  past_annotation : (i j : ℕ) (e : Entry) → slice_get t.entries.items i ≡ Some e → is_annotation e ≡ true → Behind t (i + 1) j → Behind t i j
  past_payload : (i : ℕ) (e : Entry) → slice_get t.entries.items i ≡ Some e → is_annotation e ≡ false → Behind t i (behind_payload e i)

-- so many fields on, each with its bit
pub data Steps (t : Tape) (f n : ℕ) : ℕ → ℕ → ℕ → Type 0 where
  no_step : Steps t f n 0 f n
  one_step : (k g m h : ℕ) → Steps t f n k g m → IsField t g → ((j : ℕ) → Behind t (g + 1) j → h ≡ j) → Steps t f n (suc k) h (m / 2)

-- past fields that are taken
pub data Skips (t : Tape) (f n : ℕ) : ℕ → ℕ → Type 0 where
  none_skipped : Skips t f n f n
  one_skipped : (g m h : ℕ) → Skips t f n g m → IsField t g → m % 2 ≡ 1 → ((j : ℕ) → Behind t (g + 1) j → h ≡ j) → Skips t f n h (m / 2)

-- one entry on
pub record Takes (t : Tape) (a : Following) (e : Entry) (b : Following) : Type 0 where
  pub there : slice_get t.entries.items a.at ≡ Some e
  pub is : b ≡ record a { at = a.at + 1 }

-- a field of this name that isn't taken, at a place, by its bit
pub record Seeks (t : Tape) (f : Frame) (s : Option (List ℕ)) (place bit : ℕ) : Type 0 where
  pub k : ℕ
  pub others : ℕ
  pub steps : Steps t f.free f.taken k place others
  pub is_free : others % 2 ≡ 0
  pub tells : Tells t place (name s)
  pub is_bit : bit ≡ 2 ^ k

-- the event there is this one
pub record Finds (t : Tape) (a : Following) (e : Event) (b : Following) : Type 0 where
  pub tells : Tells t a.at e
  pub is : b ≡ record a { at = a.at + 1 }

-- a field of this name is taken, and those at the front that are taken are passed
pub record Names (t : Tape) (a : Following) (s : Option (List ℕ)) (b : Following) : Type 0 where
  pub place : ℕ
  pub bit : ℕ
  pub seeks : Seeks t a.frame s place bit
  pub skips : Skips t a.frame.free (a.frame.taken + bit) b.frame.free b.frame.taken
  pub at : b.at ≡ place + 1
  pub outer : b.outer ≡ a.outer

-- into brackets; the frame around them is kept
pub record Descends (t : Tape) (a : Following) (x : Bracket) (b : Following) : Type 0 where
  pub tells : Tells t a.at (opens x)
  pub at : b.at ≡ a.at + 1
  pub frame : b.frame ≡ record { free = a.at + 1; taken = 0 }
  pub outer : b.outer.items ≡ a.outer.items ++ a.frame ∷ []

-- where nothing may be left at a close: in a struct at the first field that isn't taken
abbrev pub place_in : Bracket → Following → ℕ
place_in Bracket.Fields a = a.frame.free
place_in _ a = a.at

-- out of brackets
pub record Ascends (t : Tape) (a : Following) (x : Bracket) (b : Following) : Type 0 where
  pub there : slice_get t.entries.items (place_in x a) ≡ Some (Entry.Close x)
  pub at : b.at ≡ place_in x a + 1
  pub outer : a.outer.items ≡ b.outer.items ++ b.frame ∷ []

-- where finding an event on a tape leads
abbrev pub follows : Tape → Following → Event → Following → Type 0
follows t a (name s) b = Names t a s b
follows t a (opens x) b = Descends t a x b
follows t a (closes x) b = Ascends t a x b
follows t a ended b = b ≡ a
follows t a e b = Finds t a e b

-- nothing was looked for yet
pub record Begins (a : Following) : Type 0 where
  pub at : a.at ≡ 0
  pub frame : a.frame ≡ record { free = 0; taken = 0 }
  pub outer : a.outer.items ≡ []

-- events are found on a tape from its front on
pub record IsFound (t : Tape) (es : List Event) : Type 0 where
  pub from : Following
  pub to : Following
  pub begins : Begins from
  pub led : Led (follows t) es from to
