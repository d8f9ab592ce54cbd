-- What is laid of a value that is open yet, behind layouts of the values before it.
use Rattle.std.specs.Prelude.{◌≡◌, ◌+◌, ◌/◌, ℕ, List, [], ◌∷◌, ◌++◌, length, take, drop, set, codes}
use Rattle.std.specs.Int.{to_le_bytes, w64}
use Rattle.std.specs.List.{All}
use Rattle.ion_events.specs.Entries.{close_code, entry_of, octets_of, plain, spelled}
use Rattle.ion_events.specs.Layouts.{bracket_code}
use Rattle.ion_events.specs.Names.Below.{Bracket}
use Rattle.ion_events.specs.declared.draft.Draft.{Draft}
use Rattle.ion_events.specs.declared.draft.Outer.{Outer}
use Rattle.ion_events.specs.declared.entry.Entry.{Entry}
use Rattle.ion_events.specs.declared.laid.Laid.{Laid}

-- where its next entry stands in the layout, and where its next text begins
abbrev pub next_place : Draft → ℕ
next_place a = a.entries_before + length a.entries.items

abbrev pub text_place : Draft → ℕ
text_place a = a.texts_before + length a.texts.items

-- what stands before it is the same
pub record Stays (a b : Draft) : Type 0 where
  pub entries : b.entries_before ≡ a.entries_before
  pub texts : b.texts_before ≡ a.texts_before

-- these entries more, and this text, which are so many values in the innermost brackets
pub record Adds (a b : Draft) (entry : List Entry) (text : List ℕ) (count : ℕ) : Type 0 where
  pub entries : b.entries.items ≡ a.entries.items ++ entry
  pub texts : b.texts.items ≡ a.texts.items ++ text
  pub values : b.values ≡ a.values + count
  pub around : b.around.items ≡ a.around.items
  pub stays : Stays a b

-- brackets open, with nothing yet of what they have and where they close
pub record Opens (a b : Draft) (x : Bracket) : Type 0 where
  pub entries : b.entries.items ≡ a.entries.items ++ plain (bracket_code x) 0 0 ∷ []
  pub texts : b.texts.items ≡ a.texts.items
  pub values : b.values ≡ 0
  pub around : b.around.items ≡ a.around.items ++ record { place = length a.entries.items; values = a.values + 1 } ∷ []
  pub stays : Stays a b

-- the innermost ones close: where they opened, what they have and where they close
pub record Closes (a b : Draft) (x : Bracket) : Type 0 where
  pub outer : Outer
  pub around : a.around.items ≡ b.around.items ++ outer ∷ []
  pub entries : b.entries.items ≡ set a.entries.items outer.place (plain (bracket_code x) a.values (next_place a + 1))
      ++ record { kind = close_code; detail = bracket_code x; more = 0; count = 0; number = a.entries_before + outer.place } ∷ []
  pub texts : b.texts.items ≡ a.texts.items
  pub values : b.values ≡ outer.values
  pub stays : Stays a b

-- its octets give the entry back, as they do where the types keep it
abbrev pub IsSpelled : Entry → Type 0
IsSpelled e = entry_of (octets_of e) ≡ e

-- its entries and texts were handed over, and it is of no value, behind one more
pub record IsHandedOver (a : Draft) (laid : Laid) (b : Draft) (more : Laid) : Type 0 where
  pub entries : more.entries.items ≡ laid.entries.items ++ spelled a.entries.items
  pub each : All IsSpelled a.entries.items
  pub texts : more.texts.items ≡ laid.texts.items ++ a.texts.items
  pub no_entries : b.entries.items ≡ []
  pub no_texts : b.texts.items ≡ []
  pub none : b.values ≡ 0
  pub around : b.around.items ≡ a.around.items
  pub entries_before : b.entries_before ≡ next_place a
  pub texts_before : b.texts_before ≡ text_place a

-- a layout of these entries and texts: how many entries there are stands behind the first eight octets
abbrev pub joined : Laid → List ℕ
joined laid =
    take 8 laid.entries.items ++ (to_le_bytes w64 (length laid.entries.items / 16) ++ (drop 16 laid.entries.items ++ laid.texts.items))

-- a draft of no value, behind none
pub record IsBlank (a : Draft) : Type 0 where
  pub entries : a.entries.items ≡ []
  pub texts : a.texts.items ≡ []
  pub entries_before : a.entries_before ≡ 1
  pub texts_before : a.texts_before ≡ 0

-- a layout of no values yet
pub record IsEmpty (laid : Laid) : Type 0 where
  pub entries : laid.entries.items ≡ codes "pjevent1" ++ to_le_bytes w64 0
  pub texts : laid.texts.items ≡ []
