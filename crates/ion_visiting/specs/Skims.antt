-- The visitor that builds a local symbol table without its open content.
use Rattle.std.specs.Prelude.{◌≡◌, ◌||◌, ℕ, zero, suc, List, Option, Some, None, Bool, true, false, codes}
use Rattle.std.specs.List.{filter}
use Rattle.std.specs.Str.{bytes_eq}
use Rattle.ion_visiting.specs.Names.{Built, Event, Field, Layer, Payload, Payload-F, Place, TableBuilding, Value, annotated, annotation, built, closes, fresh, name, opens, out-Payload, part}
use Rattle.ion_model.specs.declared.value.Payload.TheVariants as payloads

-- whether a field of this name counts; any other is open content
abbrev pub counts_in_table : Option (List ℕ) → Bool
counts_in_table None = false
counts_in_table (Some t) = bytes_eq t (codes "imports") || bytes_eq t (codes "symbols")

-- nothing yet
abbrev pub none_yet : TableBuilding
none_yet = record { building = fresh; place = Place.Around }

-- whether what stands there is open content
abbrev pub is_skipped : Place → Bool
is_skipped (Place.Skipping n) = true
is_skipped _ = false

-- a field of the table begins, which counts or doesn't
abbrev pub field_begun : Bool → Place
field_begun true = Place.Fields
field_begun false = Place.Skipping 0

abbrev pub skip_named : ℕ → Bool → Place
skip_named zero counts = field_begun counts
skip_named (suc n) counts = Place.Skipping (suc n)

-- behind a name
abbrev pub named : Place → Bool → Place
named Place.Fields counts = field_begun counts
named (Place.Skipping n) counts = skip_named n counts
named place counts = place

-- behind the front of a container
abbrev pub place_opened : Place → Place
place_opened Place.Around = Place.Fields
place_opened Place.Fields = Place.Within 0
place_opened (Place.Within n) = Place.Within (suc n)
place_opened (Place.Skipping n) = Place.Skipping (suc n)

abbrev pub within_closed : ℕ → Place
within_closed zero = Place.Fields
within_closed (suc n) = Place.Within n

abbrev pub skip_closed : ℕ → Place
skip_closed zero = Place.Around
skip_closed (suc n) = Place.Skipping n

-- behind the end of one
abbrev pub place_closed : Place → Place
place_closed (Place.Within n) = within_closed n
place_closed (Place.Skipping n) = skip_closed n
place_closed _ = Place.Around

-- behind one event
abbrev pub moved : Place → Event → Place
moved place (name s) = named place (counts_in_table s)
moved place (opens x) = place_opened place
moved place (closes x) = place_closed place
moved place e = place

-- one event more is built, unless it is skipped
abbrev pub built_unless : Bool → Built → Event → Built
built_unless true a e = a
built_unless false a e = built a e

abbrev pub skimmed : TableBuilding → Event → TableBuilding
skimmed a e = record { building = built_unless (is_skipped (moved a.place e)) a.building e; place = moved a.place e }

abbrev pub skims : TableBuilding → Event → TableBuilding → Type 0
skims a e b = b ≡ skimmed a e

-- those fields that count
abbrev pub counted_fields : List Field → List Field
counted_fields fs = filter (λ f. counts_in_table f.name) fs

abbrev pub pruned_payload : Layer → Payload → Payload
pruned_payload (Payload-F.Fields fs) p = payloads.Fields (counted_fields fs)
pruned_payload _ p = p

-- a local symbol table without its open content
abbrev pub pruned : Value → Value
pruned v = annotated v.annotations (pruned_payload (out-Payload v.payload) v.payload)
