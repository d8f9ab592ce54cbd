-- Ids and symbol tables are refused for no other reasons.
use Rattle.std.proofs.Common.{ℕ, ◌+◌, ◌-◌, List, [], ◌∷◌, length, Result, Ok, Err, Option, Some, None, Bool, true, false, cond, nat_le, ◌==◌, slice_get, codes, map}
use Rattle.std.specs.Prelude.{IfErr}
use Rattle.ion_symtab.specs.Names.{Field, Import, IsIdReason, IsSharedReason, IsTableReason, Layer, Payload-F, Reason, RepeatedField, Slot, Table, Value, and_then, at_most_one, base, chosen, count_of, described, element_added, element_import, elements, extended, find, greatest_id, import_added, import_named, import_of, import_slots, imported, imports_any, instead, is_shared, is_usable, joined, local_slots, newest, next, next_fields, next_layer, only, out-Payload, payload_of, resolve, shared_fields, shared_layer, shared_table, slot_symbol, symbol_at, symbol_of, table_name, text, values_of, version_of}

-- what holds of two things holds of the one that a test picks
pub either : {A : Type 0} (P : A → Type 0) (b : Bool) (x y : A) → P x → P y → P (cond b x y)
either P true x y p q = p
either P false x y p q = q

module _ (P : Reason → Type 0) where
  if_fails : {A : Type 0} (b : Bool) (x y : Result A Reason) → IfErr x P → IfErr y P → IfErr (cond b x y) P
  if_fails b x y p q = either (λ r. IfErr r P) b x y p q

  and_then_fails : {A B : Type 0} (r : Result A Reason) (f : A → Result B Reason) → IfErr r P → ((x : A) → IfErr (f x) P) → IfErr (and_then r f) P
  and_then_fails (Ok x) f p q = q x
  and_then_fails (Err e) f p q = p

  at_most_fails : P RepeatedField → (vs : List Value) → IfErr (at_most_one vs) P
  at_most_fails p (v ∷ w ∷ vs) = p
  at_most_fails p _ = tt

  -- what follows a field that may stand once
  field_fails : {B : Type 0} → P RepeatedField → (name : List ℕ) (fields : List Field) (f : Option Value → Result B Reason)
      → ((o : Option Value) → IfErr (f o) P)
      → IfErr (and_then (only name fields) f) P
  field_fails p name fields f = and_then_fails (only name fields) f (at_most_fails p (values_of name fields))

-- ids

slot_fails : (slot : Slot) → IfErr (slot_symbol slot) IsIdReason
slot_fails (text t) = tt
slot_fails _ = tt

at_fails : (slot : Option Slot) → IfErr (symbol_at slot) IsIdReason
at_fails None = tt
at_fails (Some slot) = slot_fails slot

-- an id is refused only where it is above the greatest or a gap stands there
pub resolve_fails : (c : List Slot) (id : ℕ) → IfErr (resolve c id) IsIdReason
unfolding resolve
resolve_fails c id = if_fails IsIdReason (id == 0) (Ok None) (symbol_at (slice_get c (id - 1))) tt (at_fails (slice_get c (id - 1)))

-- local symbol tables

instead_fails : (t : Option Table) (n : Option ℕ) → IfErr (instead t n) IsTableReason
instead_fails (Some t) (Some n) = tt
instead_fails _ _ = tt

chosen_fails : (t newest : Option Table) (n : Option ℕ) → IfErr (chosen t newest n) IsTableReason
chosen_fails (Some t) newest n = tt
chosen_fails None newest n = instead_fails newest n

named_fails : (tables : List Table) (name : Option (List ℕ)) (version : ℕ) (n : Option ℕ) → IfErr (import_named tables name version n) IsTableReason
named_fails tables None version n = tt
named_fails tables (Some name) version n = chosen_fails (find tables name version) (newest tables name) n

import_fails : (tables : List Table) (fields : List Field) → IfErr (import_of tables fields) IsTableReason
import_fails tables fields =
    field_fails IsTableReason tt (codes "name") fields _ (λ name.
    field_fails IsTableReason tt (codes "version") fields _ (λ version.
    field_fails IsTableReason tt (codes "max_id") fields _ (λ max_id.
    named_fails tables (table_name name) (version_of version) (count_of max_id))))

element_fails : (tables : List Table) (d : Layer) → IfErr (element_import tables d) IsTableReason
element_fails tables (Payload-F.Fields fields) = import_fails tables fields
element_fails tables _ = tt

joined_fails : (slots more : List Slot) → IfErr (joined slots more) IsTableReason
joined_fails slots more = if_fails IsTableReason (nat_le (length slots + length more) greatest_id) _ _ tt tt

added_fails : (slots : List Slot) (import : Option Import) → IfErr (import_added slots import) IsTableReason
added_fails slots None = tt
added_fails slots (Some import) = joined_fails slots (import_slots import)

imported_fails : (tables : List Table) (slots : List Slot) (vs : List Value) → IfErr (imported tables slots vs) IsTableReason
imported_fails tables slots [] = tt
imported_fails tables slots (v ∷ vs) =
    and_then_fails IsTableReason (element_added tables slots v) _
    (and_then_fails IsTableReason (element_import tables (out-Payload v.payload)) _ (element_fails tables (out-Payload v.payload)) (added_fails slots))
    (λ more. imported_fails tables more vs)

extended_fails : (tables : List Table) (slots : List Slot) (imports symbols : Option Value) → IfErr (extended tables slots imports symbols) IsTableReason
extended_fails tables slots imports symbols =
    and_then_fails IsTableReason (imported tables slots (elements imports)) _ (imported_fails tables slots (elements imports))
    (λ more. joined_fails more (local_slots symbols))

fields_fail : (slots : List Slot) (fields : List Field) (tables : List Table) → IfErr (next_fields slots fields tables) IsTableReason
fields_fail slots fields tables =
    field_fails IsTableReason tt (codes "imports") fields _ (λ imports.
    field_fails IsTableReason tt (codes "symbols") fields _ (λ symbols.
    extended_fails tables (base slots imports) imports symbols))

layer_fails : (slots : List Slot) (d : Layer) (tables : List Table) → IfErr (next_layer slots d tables) IsTableReason
layer_fails slots (Payload-F.Fields fields) tables = fields_fail slots fields tables
layer_fails slots _ tables = tt

-- a local symbol table is refused only for the reasons of those
pub next_fails : (slots : List Slot) (v : Value) (tables : List Table) → IfErr (next slots v tables) IsTableReason
unfolding next
next_fails slots v tables = layer_fails slots (out-Payload v.payload) tables

-- shared symbol tables

described_fails : (name : Option (List ℕ)) (version : ℕ) (symbols : List (Option (List ℕ))) → IfErr (described name version symbols) IsSharedReason
described_fails None version symbols = tt
described_fails (Some name) version symbols = if_fails IsSharedReason (is_usable name version symbols) _ _ tt tt

shared_fields_fail : (fields : List Field) → IfErr (shared_fields fields) IsSharedReason
shared_fields_fail fields =
    field_fails IsSharedReason tt (codes "name") fields _ (λ name.
    field_fails IsSharedReason tt (codes "version") fields _ (λ version.
    field_fails IsSharedReason tt (codes "symbols") fields _ (λ symbols.
    field_fails IsSharedReason tt (codes "imports") fields _ (λ imports.
    if_fails IsSharedReason (imports_any (payload_of imports)) _ _ tt
    (described_fails (table_name name) (version_of version) (map symbol_of (elements symbols)))))))

shared_layer_fails : (d : Layer) → IfErr (shared_layer d) IsSharedReason
shared_layer_fails (Payload-F.Fields fields) = shared_fields_fail fields
shared_layer_fails _ = tt

-- a value is refused as a shared table only for the reasons of those
pub shared_fails : (v : Value) → IfErr (shared_table v) IsSharedReason
shared_fails v = if_fails IsSharedReason (is_shared v.annotations) _ _ (shared_layer_fails (out-Payload v.payload)) tt
