-- The local symbol table that is written makes the context that of the names behind it.
use Rattle.std.proofs.Common.{◌≡◌, ℕ, suc, ◌+◌, ◌≤◌, ◌<◌, true, false, List, [], ◌∷◌, ◌++◌, length, map, drop, Option, None, Some, Ok, codes, refl, sym, ap, subst, ◌∙◌, arith, length-append, append-nil, le-leb, lt-ltb, le-ltb}
use Rattle.std.specs.Prelude.{nat_lt}
use Rattle.std.specs.List.{flat_map}
use Rattle.std.specs.Str.{IsUtf8}
use Rattle.std.proofs.Math.Seq.{drop-append_seam}
use Rattle.std.proofs.lemmas.List.{length-map}
use Rattle.ion_binary.specs.Names.{AreAmong, AreKnown, Catalog, Field, IsKept, KeptItems, Layer, Limits, Names, Pieces, Resolves, Slot, Value, a_field, an_item, bare, depth, field_of, greatest, greatest_id, is_table, is_table_of, joined, kept, kept_fields, kept_list, kept_string, kept_symbol, layer_depth, layer_kind, local_slot, local_slots, name_text, names_resolve_still, next, no_items, slots, slots_more, string_value, symbols_of, table_octets, table_value, turns, value_octets}
use Rattle.ion_model.specs.Kept.{no_fields}
use Rattle.ion_model.specs.declared.value.Payload.TheVariants as payloads
use Rattle.ion_model.specs.declared.value.Payload.TheViews as views
use Rattle.ion_model.specs.laws.Measures.{depth-List, depth-at-Fields, depth-out}
use Rattle.ion_symtab.specs.Fields.{symbol_of}
use Rattle.ion_binary.specs.writer.Names.{Starts}
use Rattle.ion_binary.specs.laws.writing.Output.{symbols-out}
use Rattle.ion_binary.specs.laws.writing.Written.{value_is}

-- the texts of its symbols
abbrev pub table_word : Option (List ℕ)
table_word = Some (codes "$ion_symbol_table")

-- the field's name `imports`
abbrev pub imports_word : Option (List ℕ)
imports_word = Some (codes "imports")

-- the field's name `symbols`
abbrev pub symbols_word : Option (List ℕ)
symbols_word = Some (codes "symbols")

-- the symbols of each table that is written
abbrev pub table_symbols : Names
table_symbols = table_word ∷ imports_word ∷ table_word ∷ symbols_word ∷ []

abbrev imports_value : Value
imports_value = bare (payloads.Symbol table_word)

abbrev symbols_value : Names → Value
symbols_value more = bare (payloads.List (map string_value more))

-- the fields of the table that appends these names
abbrev pub table_fields : Names → List Field
table_fields more = field_of imports_word imports_value ∷ field_of symbols_word (symbols_value more) ∷ []

-- 1. The table is kept, is a table, and is two levels deep.

utf8_table : IsUtf8 (codes "$ion_symbol_table")
unfolding lib.Utf8.encode
utf8_table = (codes "$ion_symbol_table", (refl, refl))

utf8_imports : IsUtf8 (codes "imports")
unfolding lib.Utf8.encode
utf8_imports = (codes "imports", (refl, refl))

utf8_symbols : IsUtf8 (codes "symbols")
unfolding lib.Utf8.encode
utf8_symbols = (codes "symbols", (refl, refl))

kept_strings : (more : Names) → AreKnown more → KeptItems (map string_value more)
kept_strings [] h = no_items
kept_strings (None ∷ more) h = absurd h
kept_strings (Some t ∷ more) h = an_item (string_value (Some t)) (map string_value more) (kept [] (payloads.Str t) tt (kept_string t h.0))
    (kept_strings more h.1)

kept_table : (more : Names) → AreKnown more → IsKept (table_value more)
kept_table more h =
    let imports = kept [] (payloads.Symbol table_word) tt (kept_symbol table_word utf8_table) in
    let symbols = kept [] (payloads.List (map string_value more)) tt (kept_list (map string_value more) (kept_strings more h)) in
    let last = a_field symbols_word (symbols_value more) [] utf8_symbols symbols no_fields in
    kept (table_word ∷ []) (payloads.Fields (table_fields more)) (utf8_table, tt)
    (kept_fields (table_fields more) (a_field imports_word imports_value (field_of symbols_word (symbols_value more) ∷ []) utf8_imports imports last))

is_table_written : (more : Names) → is_table (table_value more) ≡ true
is_table_written more = ap (λ (d : Layer). is_table_of (table_word ∷ []) (layer_kind d)) (views.outs-Fields (table_fields more))

no_depth : (more : Names) → greatest (map depth (map string_value more)) ≡ 0
no_depth [] = refl
no_depth (s ∷ more) =
    let e : depth (string_value s) ≡ 0 = depth-out (string_value s) ∙ ap layer_depth (views.outs-Str (name_text s)) in
    omega (arith, e, no_depth more)

depth_table : (more : Names) → depth (table_value more) ≡ 2
depth_table more =
    let e = depth-at-Fields (table_value more) (table_fields more) refl in
    let i : depth imports_value ≡ 0 = depth-out imports_value ∙ ap layer_depth (views.outs-Symbol table_word) in
    let s = depth-List (map string_value more) in
    omega (arith, e, i, s, no_depth more)

-- 2. Its symbols are system symbols.

string_symbols : (s : Option (List ℕ)) → symbols_of (string_value s) ≡ []
string_symbols s = rw (symbols-out (string_value s), views.outs-Str (name_text s)) refl

no_symbols : (more : Names) → flat_map symbols_of (map string_value more) ≡ []
no_symbols [] = refl
no_symbols (s ∷ more) = rw (string_symbols s) (no_symbols more)

imports_symbols : symbols_of imports_value ≡ table_word ∷ []
imports_symbols = rw (symbols-out imports_value, views.outs-Symbol table_word) refl

list_symbols : (more : Names) → symbols_of (symbols_value more) ≡ []
list_symbols more = rw (symbols-out (symbols_value more), views.outs-List (map string_value more)) (no_symbols more)

symbols_table : (more : Names) → symbols_of (table_value more) ≡ table_symbols
symbols_table more = rw (symbols-out (table_value more), views.outs-Fields (table_fields more), imports_symbols, list_symbols more) refl

-- 3. The context behind it.

texts_back : (more : Names) → AreKnown more → map symbol_of (map string_value more) ≡ more
texts_back [] h = refl
texts_back (None ∷ more) h = absurd h
texts_back (Some t ∷ more) h = rw (views.outs-Str t, texts_back more h.1) refl

local_are : (more : Names) → AreKnown more → local_slots (Some (symbols_value more)) ≡ map local_slot more
local_are more h = rw (views.outs-List (map string_value more), texts_back more h) refl

joined_ok : (c more : List Slot) → length c + length more ≤ greatest_id → joined c more ≡ Ok (c ++ more)
joined_ok c more h = rw (le-leb (length c + length more) greatest_id h) refl

next_is : (c : List Slot) (g : Catalog) (more : Names) → AreKnown more → length c + length more ≤ greatest_id → next c (table_value more) g
    ≡ Ok (c ++ map local_slot more)
unfolding next
next_is c g more h few =
    let n = length-map more local_slot in
    rw (views.outs-Fields (table_fields more), views.outs-Symbol table_word, local_are more h) (joined_ok c (map local_slot more) (omega arith))

-- 4. Pieces.

pub slots_long : (names : Names) → Starts names → suc (length (slots names)) ≡ length names
slots_long (None ∷ names) b = let e = length-map names local_slot in omega arith
slots_long _ b = absurd b

module _ (g : Catalog) (l : Limits) where
  table_turns : (u : List ℕ) (s : List Value) (names more : Names) → Starts names → AreAmong names table_symbols → AreKnown more
      → length (names ++ more) ≤ suc greatest_id → 2 ≤ l.depth
      → length (value_octets (names ++ more) (table_value more)) ≤ l.item → Pieces g l u s (slots names)
      → Pieces g l (u ++ value_octets (names ++ more) (table_value more)) s (slots (names ++ more))
  table_turns u s names more b a k few deep fits pieces =
      let long = slots_long names b in
      let both = length-append names more in
      let bound = l.long.1 in
      let r = subst (Resolves (slots names) (names ++ more)) (sym (symbols_table more)) (names_resolve_still names more table_symbols b a (omega arith)) in
      let is = value_is (slots names) (names ++ more) (table_value more) (kept_table more k) r (omega arith) in
      let d = depth_table more in
      let n = next_is (slots names) g more k (omega arith) in
      turns u (value_octets (names ++ more) (table_value more)) s (slots names) (slots (names ++ more)) (table_value more) pieces is (is_table_written more)
      (n ∙ ap (λ (c : List Slot). Ok c) (sym (slots_more names more b))) (omega arith) fits

  -- what comes before a value where it has new names
  pub names_turn : (u : List ℕ) (s : List Value) (names more : Names) → Starts names → AreAmong names table_symbols → AreKnown more
      → length (names ++ more) ≤ suc greatest_id
      → (length names < length (names ++ more) → 2 ≤ l.depth) → length (table_octets names (names ++ more)) ≤ l.item → Pieces g l u s (slots names)
      → Pieces g l (u ++ table_octets names (names ++ more)) s (slots (names ++ more))
  names_turn u s names [] b a k few deep fits pieces =
      let e = append-nil names in
      let same = ap length e in
      let none : nat_lt (length names) (length (names ++ [])) ≡ false = le-ltb (length names) (length (names ++ [])) (omega arith) in
      rw (none, append-nil u, e) pieces
  names_turn u s names (x ∷ more) b a k few deep fits pieces =
      let both = length-append names (x ∷ more) in
      let longer : length names < length (names ++ x ∷ more) = omega arith in
      let some : nat_lt (length names) (length (names ++ x ∷ more)) ≡ true = lt-ltb (length names) (length (names ++ x ∷ more)) longer in
      let e : drop (length names) (names ++ x ∷ more) ≡ x ∷ more = drop-append_seam names (x ∷ more) in
      let fits' = rw (some, e) at fits in
      rw (some, e) (table_turns u s names (x ∷ more) b a k few (deep longer) fits' pieces)
