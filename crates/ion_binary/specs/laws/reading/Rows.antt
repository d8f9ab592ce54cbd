-- Worked documents, by the grammar.
use Rattle.std.proofs.Common.{◌≡◌, ℕ, pos, ◌+◌, ◌<◌, ◌≤◌, true, false, List, [], ◌∷◌, ◌++◌, length, Some, refl, arith}
use Rattle.std.specs.Prelude.{codes}
use Rattle.ion_binary.specs.Names.{Binary, Catalog, Document, Limits, ListOrSexp, Scalar, Sequence, Slot, Value, VarUInt, annotated, bare, begins, depth, descriptor_of, holds, is_int, is_listing, is_scalar, is_struct, is_symbol, is_table, is_truth, long, no_fields, no_ids, none, nothing, one_id, one_more, opening_of, padded_field, short, skipped, system_slots, system_texts, the_marker, unannotated, wrapped}
use Rattle.ion_model.specs.declared.value.Payload.TheVariants as payloads
use Rattle.ion_model.specs.declared.value.Payload.TheViews as views
use Rattle.ion_model.specs.laws.Measures.{depth-Int, depth-Truth, depth-at, depth-at-Fields, depth-at-List}
use Rattle.ion_symtab.specs.Slots as slots

-- 1. The values.
abbrev int_value : ℕ → Value
int_value n = bare (payloads.Int (pos n))

abbrev true_value : Value
true_value = bare (payloads.Truth true)

abbrev items : List Value
items = int_value 5 ∷ true_value ∷ []

-- [5,true]
abbrev list_value : Value
list_value = bare (payloads.List items)

abbrev empty_struct : Value
empty_struct = bare (payloads.Fields [])

-- name::1
abbrev named_one : Value
named_one = annotated (Some (codes "name") ∷ []) (payloads.Int (pos 1))

abbrev last_system_symbol : Value
last_system_symbol = bare (payloads.Symbol (Some (codes "$ion_shared_symbol_table")))

-- 2. Documents and their streams: none; `[5,true]` with its length in the fewest octets, and in more; a pad behind a field name, whose id stands for nothing;
-- an annotation; the greatest id of the system.
abbrev pub worked_documents : List (List ℕ × List Value)
worked_documents =
    (0xE0 ∷ 0x01 ∷ 0x00 ∷ 0xEA ∷ [], [])
    ∷ (0xE0 ∷ 0x01 ∷ 0x00 ∷ 0xEA ∷ 0xB3 ∷ 0x21 ∷ 0x05 ∷ 0x11 ∷ [], list_value ∷ [])
    ∷ (0xE0 ∷ 0x01 ∷ 0x00 ∷ 0xEA ∷ 0xBE ∷ 0x83 ∷ 0x21 ∷ 0x05 ∷ 0x11 ∷ [], list_value ∷ [])
    ∷ (0xE0 ∷ 0x01 ∷ 0x00 ∷ 0xEA ∷ 0xD2 ∷ 0x8A ∷ 0x00 ∷ [], empty_struct ∷ [])
    ∷ (0xE0 ∷ 0x01 ∷ 0x00 ∷ 0xEA ∷ 0xE4 ∷ 0x81 ∷ 0x84 ∷ 0x21 ∷ 0x01 ∷ [], named_one ∷ [])
    ∷ (0xE0 ∷ 0x01 ∷ 0x00 ∷ 0xEA ∷ 0x71 ∷ 0x09 ∷ [], last_system_symbol ∷ [])
    ∷ []

-- each is a document with these values, where its items may have as many octets
abbrev pub AreDocuments : Catalog → Limits → List (List ℕ × List Value) → Type 0
AreDocuments g l [] = Unit {0}
AreDocuments g l (row ∷ rows) = (length row.0 ≤ l.item → Document g l row.0 row.1) × AreDocuments g l rows

-- 3. By the grammar.
one_digit : (n : ℕ) → n < 128 → VarUInt ((128 + n) ∷ []) n
one_digit n h = record { digits = []; last = n; small = none; octets = refl; value = omega arith; bound = omega arith }

module _ (c : List Slot) where
  five : Binary c (0x21 ∷ 0x05 ∷ []) (int_value 5)
  unfolding opening_of descriptor_of
  five = unannotated (0x21 ∷ 0x05 ∷ []) (payloads.Int (pos 5)) (is_scalar (0x21 ∷ []) (5 ∷ []) Scalar.Int _ (short 0x21 refl) (is_int (omega arith)))

  yes_is : Binary c (0x11 ∷ []) true_value
  unfolding opening_of descriptor_of
  yes_is = unannotated (0x11 ∷ []) (payloads.Truth true) (is_truth 0x11 true refl)

  both : Sequence c (0x21 ∷ 0x05 ∷ 0x11 ∷ []) items
  both = one_more (0x21 ∷ 0x05 ∷ []) (0x11 ∷ []) (int_value 5 ∷ []) true_value (one_more [] (0x21 ∷ 0x05 ∷ []) [] (int_value 5) nothing five) yes_is

  short_list : Binary c (0xB3 ∷ 0x21 ∷ 0x05 ∷ 0x11 ∷ []) list_value
  unfolding opening_of descriptor_of
  short_list = unannotated _ (payloads.List items) (is_listing (0xB3 ∷ []) (0x21 ∷ 0x05 ∷ 0x11 ∷ []) ListOrSexp.List items (short 0xB3 refl) both)

  long_list : Binary c (0xBE ∷ 0x83 ∷ 0x21 ∷ 0x05 ∷ 0x11 ∷ []) list_value
  unfolding opening_of descriptor_of
  long_list = unannotated _ (payloads.List items) (is_listing (0xBE ∷ 0x83 ∷ []) (0x21 ∷ 0x05 ∷ 0x11 ∷ []) ListOrSexp.List items
      (long 0xBE (0x83 ∷ []) refl (one_digit 3 (omega arith))) both)

  only_a_pad : Binary c (0xD2 ∷ 0x8A ∷ 0x00 ∷ []) empty_struct
  unfolding opening_of descriptor_of
  only_a_pad = unannotated _ (payloads.Fields []) (is_struct (0xD2 ∷ []) (0x8A ∷ 0x00 ∷ []) [] (short 0xD2 refl)
      (padded_field [] (0x8A ∷ []) (0x00 ∷ []) [] 10 no_fields (one_digit 10 (omega arith)) (skipped (0x00 ∷ []) [] (short 0x00 refl))))

annotated_one : Binary system_slots (0xE4 ∷ 0x81 ∷ 0x84 ∷ 0x21 ∷ 0x01 ∷ []) named_one
unfolding opening_of descriptor_of system_slots system_texts slots.resolve
annotated_one = wrapped (0xE4 ∷ []) (0x81 ∷ []) (0x84 ∷ []) (0x21 ∷ 0x01 ∷ []) (Some (codes "name") ∷ []) (payloads.Int (pos 1)) (short 0xE4 refl)
    (one_digit 1 (omega arith)) (omega arith)
    (one_id [] (0x84 ∷ []) [] 4 (Some (codes "name")) no_ids (one_digit 4 (omega arith)) refl)
    (is_scalar (0x21 ∷ []) (1 ∷ []) Scalar.Int _ (short 0x21 refl) (is_int (omega arith)))

system_symbol : Binary system_slots (0x71 ∷ 0x09 ∷ []) last_system_symbol
unfolding opening_of descriptor_of system_slots system_texts slots.resolve
system_symbol = unannotated _ (payloads.Symbol (Some (codes "$ion_shared_symbol_table")))
    (is_scalar (0x71 ∷ []) (9 ∷ []) Scalar.Symbol _ (short 0x71 refl) (is_symbol (Some (codes "$ion_shared_symbol_table")) (omega arith) refl))

-- 4. How deep the values go.
list_depth : depth list_value ≤ 1
list_depth = rw (depth-at-List list_value items refl, depth-Int (pos 5), depth-Truth true) (omega arith)

struct_depth : depth empty_struct ≤ 1
struct_depth = rw (depth-at-Fields empty_struct [] refl) (omega arith)

one_depth : depth named_one ≤ 1
one_depth = rw (depth-at named_one (payloads.Int (pos 1)) refl, views.outs-Int (pos 1)) (omega arith)

symbol_depth : depth last_system_symbol ≤ 1
symbol_depth = rw (depth-at last_system_symbol _ refl, views.outs-Symbol (Some (codes "$ion_shared_symbol_table"))) (omega arith)

-- 5. So each is a document.
module _ (g : Catalog) (l : Limits) where
  one_value : (w : List ℕ) (v : Value) → Binary system_slots w v → is_table v ≡ false → depth v ≤ 1 → 4 + length w ≤ l.item
      → Document g l (the_marker ++ w) (v ∷ [])
  one_value w v b t d h = (system_slots, holds the_marker w [] system_slots v begins b t (let deep = l.deep.0 in omega arith) (omega arith))

  -- each of the worked documents is one, where the limit on items has room for it
  pub are_documents : AreDocuments g l worked_documents
  are_documents = (
    λ h. (system_slots, begins),
    (
      λ h. one_value _ list_value (short_list system_slots) refl list_depth h,
      (
        λ h. one_value _ list_value (long_list system_slots) refl list_depth h,
        (
          λ h. one_value _ empty_struct (only_a_pad system_slots) refl struct_depth h,
          (
            λ h. one_value _ named_one annotated_one refl one_depth h,
            (
              λ h. one_value _ last_system_symbol system_symbol refl symbol_depth h,
              tt,
            ),
          ),
        ),
      ),
    ),
  )
