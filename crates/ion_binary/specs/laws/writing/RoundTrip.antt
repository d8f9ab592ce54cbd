-- What is written of a stream of values is a document with these values.
use Rattle.std.proofs.Common.{◌≡◌, ℕ, suc, ◌≤◌, ◌<◌, true, false, List, [], ◌∷◌, ◌++◌, length, refl, sym, subst, arith, append_assoc, append-nil}
use Rattle.ion_binary.specs.Names.{AreAmong, AreKept, AreKnown, Catalog, Document, FitBehind, FitsIn, Grown, IsKept, Limits, Names, NoTables, Pieces, Progress, Value, ValueFits, all_among_more, begins, bin_from, bin_of, greatest_id, grown, holds, is_table, names_after, names_resolve, slots, slots_system, starts_more, symbols_of, system_names, system_texts, table_octets, the_marker, unknown_among, value_octets}
use Rattle.ion_binary.specs.writer.Names.{Starts}
use Rattle.ion_binary.specs.laws.writing.KeptTexts.{value_texts}
use Rattle.ion_binary.specs.laws.writing.TableWritten.{names_turn, table_symbols}
use Rattle.ion_binary.specs.laws.writing.Written.{value_is}

-- behind a marker
abbrev begun : Names → Progress
begun names = record { names = names; begun = true }

module _ (g : Catalog) (l : Limits) where
  abbrev Turns : List ℕ → List Value → Names → Names → Type 0
  Turns u s names new = length new ≤ suc greatest_id → (length names < length new → 2 ≤ l.depth) → length (table_octets names new) ≤ l.item
      → Pieces g l (u ++ table_octets names new) s (slots new)

  turn : (u : List ℕ) (s : List Value) (names new more : Names) → new ≡ names ++ more → Starts names → AreAmong names table_symbols → AreKnown more
      → Pieces g l u s (slots names) → Turns u s names new
  turn u s names new more e b a k pieces = rw e (λ few deep fits. names_turn g l u s names more b a k few deep fits pieces)

  -- one value more, behind the table that it needs
  one_value : (u : List ℕ) (s : List Value) (names : Names) (v : Value) → Starts names → AreAmong names table_symbols → IsKept v → is_table v ≡ false
      → ValueFits l names v → Grown names (symbols_of v) (names_after names v)
      → Pieces g l u s (slots names) → Pieces g l (u ++ table_octets names (names_after names v) ++ value_octets (names_after names v) v) (s ++ v ∷ [])
      (slots (names_after names v))
  one_value u s names v b a k no_table fits n pieces =
      let new = names_after names v in
      let turned = turn u s names new n.more n.whole b a n.known pieces fits.ids fits.table_deep fits.table in
      let bound = l.long.1 in
      let ids = fits.ids in
      let long = fits.value in
      let starts = subst Starts (sym n.whole) (starts_more names n.more b) in
      let is = value_is (slots new) new v k (names_resolve new (symbols_of v) starts n.among (omega arith)) (omega arith) in
      holds (u ++ table_octets names new) (value_octets new v) s (slots new) v turned is no_table fits.value_deep fits.value

  values_are : (vs : List Value) (u : List ℕ) (s : List Value) (names : Names) → Starts names → AreAmong names table_symbols → AreKept vs → NoTables vs
      → FitBehind l names vs → Pieces g l u s (slots names)
      → Document g l (u ++ bin_from (begun names) vs) (s ++ vs)
  values_are [] u s names b a k no_tables fits pieces = (slots names, rw (append-nil u, append-nil s) pieces)
  values_are (v ∷ vs) u s names b a k no_tables fits pieces =
      let new = names_after names v in
      let t = table_octets names new in
      let w = value_octets new v in
      let n = grown (symbols_of v) names (unknown_among names b) (value_texts v k.0) in
      let starts = subst Starts (sym n.whole) (starts_more names n.more b) in
      let among = subst (λ (ns : Names). AreAmong ns table_symbols) (sym n.whole) (all_among_more names n.more table_symbols a) in
      let all = values_are vs (u ++ t ++ w) (s ++ v ∷ []) new starts among k.1 no_tables.1 fits.1 (one_value u s names v b a k.0 no_tables.0 fits.0 n pieces) in
      rw (append_assoc u t, append_assoc u (t ++ w), append_assoc s) at all

  starts_system : Starts system_names
  unfolding system_names
  starts_system = tt

  among_system : AreAmong system_names table_symbols
  unfolding system_names system_texts
  among_system = (refl, (refl, (refl, (refl, tt))))

  one_marker : (s : List Value) → AreKept s → NoTables s → FitsIn l s → Document g l (the_marker ++ bin_from (begun system_names) s) s
  one_marker s k no_tables fits = values_are s the_marker [] system_names starts_system among_system k no_tables fits
      (rw slots_system begins)

  -- the document that is written for a stream of values has these values
  pub round_trip : (s : List Value) → AreKept s → NoTables s → FitsIn l s → Document g l (bin_of s) s
  unfolding bin_of
  round_trip [] k no_tables fits = one_marker [] k no_tables fits
  round_trip (v ∷ vs) k no_tables fits = one_marker (v ∷ vs) k no_tables fits
