-- The texts of a context are UTF-8 behind a local symbol table where they were before it, where those of the catalog's tables are, and where the table is a
-- value that is kept.
use Rattle.std.proofs.Common.{◌≡◌, ℕ, zero, suc, ◌+◌, ◌-◌, ◌==◌, List, [], ◌∷◌, ◌++◌, length, map, take, replicate, Option, None, Some, Result, Ok, Err, codes, slice_get, refl, sym, subst}
use Rattle.std.specs.Prelude.{IfOk, IfSome, nat_le}
use Rattle.std.specs.Str.{IsUtf8, bytes_eq}
use Rattle.ion_symtab.specs.Names.Below.{AreTexts, Field, IsKept, IsText, KeptFields, KeptItems, KeptPayload, Layer, Payload, Payload-F, Reason, Value, a_field, an_item, has_text, kept, kept_blob, kept_clob, kept_decimal, kept_fields, kept_int, kept_list, kept_null, kept_sexp, kept_string, kept_symbol, kept_timestamp, kept_truth, no_fields, no_items, values_of}
use Rattle.ion_model.specs.declared.value.Payload.TheVariants as payloads
use Rattle.ion_model.specs.declared.value.Payload.TheViews as views
use Rattle.ion_symtab.specs.Fields.{at_most_one, count_of, elements, elements_in, layer_symbol, only, symbol_of, table_name, version_of}
use Rattle.ion_symtab.specs.Next.{Import, and_then, appends, base, chosen, element_added, element_import, extended, import_added, import_named, import_of, import_slots, imported, joined, local_slot, local_slots, next, next_fields, next_layer, shared_slot}
use Rattle.ion_symtab.specs.Slots.{Slot, gap, greatest_id, resolve, symbol_at, system_slots, system_texts, text, unknown}
use Rattle.ion_symtab.specs.Tables.{Table, find, is_named, newer, newest}
use Rattle.ion_symtab.specs.laws.Reasons.{either}

-- the texts of a context are UTF-8
abbrev pub AreTextSlots : List Slot → Type 0
AreTextSlots [] = Unit {0}
AreTextSlots (text t ∷ c) = IsUtf8 t × AreTextSlots c
AreTextSlots (_ ∷ c) = AreTextSlots c

-- the texts of a catalog's tables are UTF-8
abbrev pub AreTextTables : List Table → Type 0
AreTextTables [] = Unit {0}
AreTextTables (t ∷ ts) = AreTexts t.symbols × AreTextTables ts

-- the texts of the context are UTF-8, if one is answered
abbrev pub TextAnswer : Result (List Slot) Reason → Type 0
TextAnswer r = IfOk r AreTextSlots

-- 1. The parts of a value that is kept.

abbrev KeptLayer : Layer → Type 0
KeptLayer (Payload-F.Str t) = IsUtf8 t
KeptLayer (Payload-F.List vs) = KeptItems vs
KeptLayer (Payload-F.Fields ms) = KeptFields ms
KeptLayer _ = Unit {0}

by_layer : (p : Payload) (d : Layer) → views.out-Payload p ≡ d → KeptLayer d → KeptLayer (views.out-Payload p)
by_layer p d e h = subst KeptLayer (sym e) h

payload_layer : (p : Payload) → KeptPayload p → KeptLayer (views.out-Payload p)
payload_layer _ (kept_null k) = by_layer (payloads.Null k) _ (views.outs-Null k) tt
payload_layer _ (kept_truth b) = by_layer (payloads.Truth b) _ (views.outs-Truth b) tt
payload_layer _ (kept_int z h) = by_layer (payloads.Int z) _ (views.outs-Int z) tt
payload_layer _ (kept_decimal d h) = by_layer (payloads.Decimal d) _ (views.outs-Decimal d) tt
payload_layer _ (kept_timestamp t h) = by_layer (payloads.Timestamp t) _ (views.outs-Timestamp t) tt
payload_layer _ (kept_symbol s h) = by_layer (payloads.Symbol s) _ (views.outs-Symbol s) tt
payload_layer _ (kept_string t h) = by_layer (payloads.Str t) _ (views.outs-Str t) h
payload_layer _ (kept_clob body h) = by_layer (payloads.Clob body) _ (views.outs-Clob body) tt
payload_layer _ (kept_blob body h) = by_layer (payloads.Blob body) _ (views.outs-Blob body) tt
payload_layer _ (kept_list vs h) = by_layer (payloads.List vs) _ (views.outs-List vs) h
payload_layer _ (kept_sexp vs h) = by_layer (payloads.Sexp vs) _ (views.outs-Sexp vs) tt
payload_layer _ (kept_fields ms h) = by_layer (payloads.Fields ms) _ (views.outs-Fields ms) h

value_layer : (v : Value) → IsKept v → KeptLayer (views.out-Payload v.payload)
value_layer _ (kept ss p t h) = payload_layer p h

layer_text : (d : Layer) → KeptLayer d → IsText (layer_symbol d)
layer_text (Payload-F.Str t) h = h
layer_text _ h = tt

symbols_texts : (vs : List Value) → KeptItems vs → AreTexts (map symbol_of vs)
symbols_texts _ no_items = tt
symbols_texts _ (an_item v vs h hs) = (layer_text (views.out-Payload v.payload) (value_layer v h), symbols_texts vs hs)

elements_layer : (d : Layer) → KeptLayer d → KeptItems (elements_in (Some d))
elements_layer (Payload-F.List vs) h = h
elements_layer _ h = no_items

abbrev KeptOption : Option Value → Type 0
KeptOption o = IfSome o IsKept

elements_kept : (o : Option Value) → KeptOption o → KeptItems (elements o)
elements_kept None h = no_items
elements_kept (Some v) h = elements_layer (views.out-Payload v.payload) (value_layer v h)

values_kept : (name : List ℕ) (ms : List Field) → KeptFields ms → KeptItems (values_of name ms)
values_kept name _ no_fields = no_items
values_kept name _ (a_field s v ms t h hs) =
    either KeptItems (has_text name s) _ _ (an_item v (values_of name ms) h (values_kept name ms hs)) (values_kept name ms hs)

abbrev KeptAnswer : Result (Option Value) Reason → Type 0
KeptAnswer r = IfOk r KeptOption

one_kept : (vs : List Value) → KeptItems vs → KeptAnswer (at_most_one vs)
one_kept _ (an_item v _ h no_items) = h
one_kept _ _ = tt

only_kept : (name : List ℕ) (ms : List Field) → KeptFields ms → KeptAnswer (only name ms)
only_kept name ms h = one_kept (values_of name ms) (values_kept name ms h)

-- 2. Symbols.

text_by : (r s : Option (List ℕ)) → ◌≡◌ {A = Result (Option (List ℕ)) Reason} (Ok r) (Ok s) → IsText r → IsText s
text_by r s e h = let same : r ≡ s = cc in subst IsText same h

text_at : (c : List Slot) (i : ℕ) (s : Option (List ℕ)) → AreTextSlots c → symbol_at (slice_get c i) ≡ Ok s → IsText s
text_at (text t ∷ c) zero s h e = text_by (Some t) s e h.0
text_at (unknown ∷ c) zero s h e = text_by None s e tt
text_at (text t ∷ c) (suc i) s h e = text_at c i s h.1 e
text_at (unknown ∷ c) (suc i) s h e = text_at c i s h e
text_at (gap ∷ c) (suc i) s h e = text_at c i s h e
text_at _ _ s h e = absurd (cc)

-- the text of an id's symbol is UTF-8 where it is known, if those of the context are
pub resolved_text : (c : List Slot) (id : ℕ) (s : Option (List ℕ)) → AreTextSlots c → resolve c id ≡ Ok s → IsText s
unfolding resolve
resolved_text c id s h e = either (λ r. r ≡ Ok s → IsText s) (id == 0) _ _ (λ k. text_by None s k tt) (text_at c (id - 1) s h) e

-- 3. Slots.

slots_both : (c d : List Slot) → AreTextSlots c → AreTextSlots d → AreTextSlots (c ++ d)
slots_both [] d h k = k
slots_both (text t ∷ c) d h k = (h.0, slots_both c d h.1 k)
slots_both (_ ∷ c) d h k = slots_both c d h k

slots_taken : (n : ℕ) (c : List Slot) → AreTextSlots c → AreTextSlots (take n c)
slots_taken (suc n) (text t ∷ c) h = (h.0, slots_taken n c h.1)
slots_taken (suc n) (unknown ∷ c) h = slots_taken n c h
slots_taken (suc n) (gap ∷ c) h = slots_taken n c h
slots_taken _ _ h = tt

gaps_texts : (n : ℕ) → AreTextSlots (replicate n gap)
gaps_texts zero = tt
gaps_texts (suc n) = gaps_texts n

shared_texts : (ss : List (Option (List ℕ))) → AreTexts ss → AreTextSlots (map shared_slot ss)
shared_texts [] h = tt
shared_texts (None ∷ ss) h = shared_texts ss h.1
shared_texts (Some t ∷ ss) h = (h.0, shared_texts ss h.1)

local_texts : (ss : List (Option (List ℕ))) → AreTexts ss → AreTextSlots (map local_slot ss)
local_texts [] h = tt
local_texts (None ∷ ss) h = local_texts ss h.1
local_texts (Some t ∷ ss) h = (h.0, local_texts ss h.1)

-- the texts of the system slots are UTF-8
pub system_are_texts : AreTextSlots system_slots
unfolding system_slots system_texts lib.Utf8.encode
system_are_texts = (
  (codes "$ion", (refl, refl)),
  (
    (codes "$ion_1_0", (refl, refl)),
    (
      (codes "$ion_symbol_table", (refl, refl)),
      (
        (codes "name", (refl, refl)),
        (
          (codes "version", (refl, refl)),
          (
            (codes "imports", (refl, refl)),
            (
              (codes "symbols", (refl, refl)),
              ((codes "max_id", (refl, refl)), ((codes "$ion_shared_symbol_table", (refl, refl)), tt)),
            ),
          ),
        ),
      ),
    ),
  ),
)

joined_texts : (c more : List Slot) → AreTextSlots c → AreTextSlots more → TextAnswer (joined c more)
joined_texts c more h k = either TextAnswer (nat_le (length c + length more) greatest_id) _ _ (slots_both c more h k) tt

-- 4. Imports.

abbrev FoundTexts : Option Table → Type 0
FoundTexts o = IfSome o (λ t. AreTexts t.symbols)

find_texts : (ts : List Table) (name : List ℕ) (version : ℕ) → AreTextTables ts → FoundTexts (find ts name version)
find_texts [] name version h = tt
find_texts (t ∷ ts) name version h = either FoundTexts (is_named name version t) _ _ h.0 (find_texts ts name version h.1)

newer_texts : (t : Table) (o : Option Table) → AreTexts t.symbols → FoundTexts o → FoundTexts (newer (Some t) o)
newer_texts t None h k = h
newer_texts t (Some u) h k = either FoundTexts (nat_le u.version t.version) _ _ h k

newest_texts : (ts : List Table) (name : List ℕ) → AreTextTables ts → FoundTexts (newest ts name)
newest_texts [] name h = tt
newest_texts (t ∷ ts) name h =
    let rest = newest_texts ts name h.1 in
    either FoundTexts (bytes_eq t.name name) _ _ (newer_texts t (newest ts name) h.0 rest) rest

abbrev ImportAnswer : Result (Option Import) Reason → Type 0
ImportAnswer r = IfOk r (λ o. IfSome o (λ i. AreTexts i.table.symbols))

chosen_texts : (o p : Option Table) (most : Option ℕ) → FoundTexts o → FoundTexts p → ImportAnswer (chosen o p most)
chosen_texts (Some t) p None h k = h
chosen_texts (Some t) p (Some count) h k = h
chosen_texts None (Some t) (Some count) h k = k
chosen_texts None _ _ h k = tt

named_texts : (ts : List Table) (name : Option (List ℕ)) (version : ℕ) (most : Option ℕ) → AreTextTables ts → ImportAnswer (import_named ts name version most)
named_texts ts None version most h = tt
named_texts ts (Some name) version most h = chosen_texts (find ts name version) (newest ts name) most (find_texts ts name version h) (newest_texts ts name h)

then_import : {A : Type 0} (r : Result A Reason) (f : A → Result (Option Import) Reason) → ((x : A) → ImportAnswer (f x)) → ImportAnswer (and_then r f)
then_import (Ok x) f h = h x
then_import (Err reason) f h = tt

import_texts : (ts : List Table) (ms : List Field) → AreTextTables ts → ImportAnswer (import_of ts ms)
import_texts ts ms h =
    then_import (only (codes "name") ms) _ (λ name. then_import (only (codes "version") ms) _ (λ version. then_import (only (codes "max_id") ms) _ (λ most.
    named_texts ts (table_name name) (version_of version) (count_of most) h)))

element_texts : (ts : List Table) (d : Layer) → AreTextTables ts → ImportAnswer (element_import ts d)
element_texts ts (Payload-F.Fields ms) h = import_texts ts ms h
element_texts ts _ h = tt

added_texts : (c : List Slot) (r : Result (Option Import) Reason) → AreTextSlots c → ImportAnswer r → TextAnswer (and_then r (import_added c))
added_texts c (Ok None) h k = h
added_texts c (Ok (Some i)) h k =
    let slots = map shared_slot i.table.symbols in
    joined_texts c (import_slots i) h (slots_both (take i.count slots) (replicate (i.count - length slots) gap)
    (slots_taken i.count slots (shared_texts i.table.symbols k)) (gaps_texts (i.count - length slots)))
added_texts c (Err reason) h k = tt

-- what follows an answer of which so much is known
then_so : {A : Type 0} (P : A → Type 0) (r : Result A Reason) (f : A → Result (List Slot) Reason) → IfOk r P → ((x : A) → P x → TextAnswer (f x))
    → TextAnswer (and_then r f)
then_so P (Ok x) f h k = k x h
then_so P (Err reason) f h k = tt

imported_texts : (ts : List Table) (vs : List Value) (c : List Slot) → AreTextTables ts → AreTextSlots c → TextAnswer (imported ts c vs)
imported_texts ts [] c h k = k
imported_texts ts (v ∷ vs) c h k =
    then_so AreTextSlots (element_added ts c v) _ (added_texts c (element_import ts (views.out-Payload v.payload)) k (element_texts ts (views.out-Payload v.payload) h))
    (λ d m. imported_texts ts vs d h m)

-- 5. The context behind a table.

extended_texts : (ts : List Table) (c : List Slot) (imports symbols : Option Value) → AreTextTables ts → AreTextSlots c → KeptOption symbols
    → TextAnswer (extended ts c imports symbols)
extended_texts ts c imports symbols h k m =
    then_so AreTextSlots (imported ts c (elements imports)) _ (imported_texts ts (elements imports) c h k)
    (λ d n. joined_texts d (local_slots symbols) n (local_texts (map symbol_of (elements symbols))
    (symbols_texts (elements symbols) (elements_kept symbols m))))

fields_texts : (c : List Slot) (ms : List Field) (ts : List Table) → AreTextTables ts → AreTextSlots c → KeptFields ms → TextAnswer (next_fields c ms ts)
fields_texts c ms ts h k m =
    then_so KeptOption (only (codes "imports") ms) _ (only_kept (codes "imports") ms m)
    (λ imports i. then_so KeptOption (only (codes "symbols") ms) _ (only_kept (codes "symbols") ms m) (λ symbols n.
    extended_texts ts (base c imports) imports symbols h (either AreTextSlots (appends imports) _ _ k system_are_texts) n))

layer_texts : (c : List Slot) (d : Layer) (ts : List Table) → AreTextTables ts → AreTextSlots c → KeptLayer d → TextAnswer (next_layer c d ts)
layer_texts c (Payload-F.Fields ms) ts h k m = fields_texts c ms ts h k m
layer_texts c _ ts h k m = tt

-- behind a table that is kept the context's texts are UTF-8, where they and the catalog's were
pub next_texts : (c : List Slot) (v : Value) (ts : List Table) → AreTextTables ts → AreTextSlots c → IsKept v → TextAnswer (next c v ts)
unfolding next
next_texts c v ts h k m = layer_texts c (views.out-Payload v.payload) ts h k (value_layer v m)
