-- The slots that the segments of a context stand for.
use Rattle.std.specs.Prelude.{◌≡◌, ◌⊎◌, ℕ, ◌≤◌, ◌<◌, List, map, take, drop, length, Option, Result, Ok, Err, MatchResult, slice_index_or}
use Rattle.std.specs.List.{flat_map}
use Rattle.ion_symtab.specs.Names.Below.{Reason}
use Rattle.ion_symtab.specs.Next.{cut_or_filled, local_slot, shared_slot}
use Rattle.ion_symtab.specs.Slots.{Slot, greatest_id}
use Rattle.ion_symtab.specs.declared.segments.Part.{Part}
use Rattle.ion_symtab.specs.declared.segments.Part.TheVariants.{Import, Local, System}
use Rattle.ion_symtab.specs.declared.segments.Segment.{Segment}

-- the slots of the system, of an import, or of one table
abbrev pub part_slots : Part → List Slot
part_slots (System symbols) = map local_slot symbols
part_slots (Import symbols count) = cut_or_filled count (map shared_slot symbols)
part_slots (Local symbols) = map local_slot symbols.items

-- the slots of a segment's part
abbrev pub segment_slots : Segment → List Slot
segment_slots s = part_slots s.part

-- the slots of segments
abbrev pub slots_of : List Segment → List Slot
slots_of segments = flat_map segment_slots segments

-- the segment of the system slots, of these symbols
abbrev pub system_segment : List (Option (List ℕ)) → Segment
system_segment symbols = record { before = 0; part = System symbols }

-- a segment begins at a place or before it, or behind it
abbrev pub StartsBy : ℕ → List Segment → ℕ → Type 0
StartsBy place segments k = (d : Segment) → (slice_index_or segments k d).before ≤ place

-- a segment begins behind a place
abbrev pub StartsBehind : ℕ → List Segment → ℕ → Type 0
StartsBehind place segments k = (d : Segment) → place < (slice_index_or segments k d).before

-- each segment knows how many slots stand before it, and the number of all slots is in range
pub record Counts (segments : List Segment) (end : ℕ) : Type 0 where
  pub before : (k : ℕ) (d : Segment) → k < length segments → (slice_index_or segments k d).before ≡ length (slots_of (take k segments))
  pub ends : end ≡ length (slots_of segments)
  pub small : end ≤ greatest_id

-- the symbols are local ones of the slots behind so many
pub record Indexes (slots : List Slot) (from : ℕ) (symbols : List (Option (List ℕ))) : Type 0 where
  pub are : map local_slot symbols ≡ take (length symbols) (drop from slots)
  pub within : from ≤ length slots

-- the segments that there were stay, and their slots and those behind are what a function makes of
-- the slots that there were, or the reason is its reason, or memory was refused
pub record Adds (f : List Slot → Result (List Slot) Reason) (old new : List Segment) (result : Result (Unit {0}) Reason) : Type 0 where
  pub kept : take (length old) new ≡ old
  pub gives : MatchResult result (λ _. f (slots_of old) ≡ Ok (slots_of new)) (λ r. (r ≡ Reason.Memory) ⊎ (f (slots_of old) ≡ Err r))
