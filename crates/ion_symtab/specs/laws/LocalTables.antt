-- What is behind a local symbol table is what the symbols chapter says.
use Rattle.std.proofs.Common.{if◌then◌else◌, ◌≡◌, ◌↔◌, ◌⊎◌, inl, inr, ℕ, ◌+◌, ◌-◌, ◌≤◌, List, [], ◌∷◌, ◌++◌, length, map, take, Option, Some, None, Result, Ok, Err, Bool, true, codes, refl, ap, sym, ◌∙◌, subst, arith, append_assoc, append-nil, length-append}
use Rattle.std.specs.Prelude.{nat_le, replicate}
use Rattle.std.specs.List.{flat_map}
use Rattle.std.proofs.lemmas.List.{take_all}
use Rattle.std.proofs.lemmas.Bool.{cases_lt, cond_both, leb-true, le-leb}
use Rattle.std.proofs.lemmas.List.Concat.{flat_map-cons}
use Rattle.std.proofs.lemmas.Slice.Eq.{bytes_eq-Decides}
use Rattle.ion_symtab.specs.Names.{Field, Import, Layer, Payload-F, Reason, Slot, Table, Value, and_then, appends, appends_in, at_most_one, base, chosen, count_of, cut_or_filled, element_added, element_import, elements, elements_in, extended, find, gap, greatest_id, import_added, import_named, import_of, import_slots, imported, joined, layer_symbol, local_slot, local_slots, newest, next, next_fields, next_layer, only, otherwise, out-Payload, shared_slot, symbol_of, system_slots, table_name, text, unknown, values_of, version_of}
use Rattle.ion_symtab.specs.LocalTables.{EachGives, EachHasSlot, EachShared, HasElements, HasSlots, IsBase, MakesContext, NamedGives, StandsOnce, StructGives}

-- answers that are the same answer the same
ok_is : {A : Type 0} {x y : A} → ◌≡◌ {A = Result A Reason} (Ok x) (Ok y) → x ≡ y
ok_is e = cc

-- where one step behind another answers, the first had answered, too
and_then_ok : {A B : Type 0} (r : Result A Reason) (f : A → Result B Reason) (y : B) → and_then r f ≡ Ok y → (x : A) × (r ≡ Ok x) × (f x ≡ Ok y)
and_then_ok (Ok x) f y e = (x, refl, e)
and_then_ok (Err reason) f y e = absurd cc

-- fields that stand once

stands_once : (name : List ℕ) (fields : List Field) (o : Option Value) → only name fields ≡ Ok o → StandsOnce name fields o
stands_once name fields o = stands (values_of name fields) refl
  where
    stands : (vs : List Value) → values_of name fields ≡ vs → at_most_one vs ≡ Ok o → StandsOnce name fields o
    stands (v ∷ w ∷ vs) is e = absurd cc
    stands [] is e = subst (StandsOnce name fields) (ok_is e) is
    stands (v ∷ []) is e = subst (StandsOnce name fields) (ok_is e) is

only_once : (name : List ℕ) (fields : List Field) (o : Option Value) → StandsOnce name fields o → only name fields ≡ Ok o
only_once name fields None h = ap at_most_one h
only_once name fields (Some v) h = ap at_most_one h

-- the base

abbrev AppendsIn : Layer → Type 0
AppendsIn w = w ≡ Payload-F.Symbol (Some (codes "$ion_symbol_table"))

appends_when : (w : Layer) → appends_in (Some w) ≡ true → AppendsIn w
appends_when (Payload-F.Symbol (Some t)) e = ap (λ (x : List ℕ). Payload-F.Symbol (Some x)) ((bytes_eq-Decides t (codes "$ion_symbol_table")).0 e)
appends_when _ e = absurd cc

when_appends : (w : Layer) → AppendsIn w → appends_in (Some w) ≡ true
when_appends w e = ap (λ x. appends_in (Some x)) e ∙ (bytes_eq-Decides (codes "$ion_symbol_table") (codes "$ion_symbol_table")).1 refl

base_is : (old : List Slot) (imports : Option Value) → IsBase old imports (base old imports)
base_is old None = inr (λ h. h, refl)
base_is old (Some v) = cond_both (appends (Some v)) old system_slots (IsBase old (Some v))
    (λ e. inl (appends_when (out-Payload v.payload) e, refl))
    (λ e. inr (λ h. (let t = when_appends (out-Payload v.payload) h in cc), refl))

is_base : (old : List Slot) (imports : Option Value) (b : List Slot) → IsBase old imports b → base old imports ≡ b
is_base old None b (inl h) = absurd h.0
is_base old None b (inr h) = sym h.1
is_base old (Some v) b h = elim h [
  | inl p ↦ ap (λ (x : Bool). if x then old else system_slots) (when_appends (out-Payload v.payload) p.0) ∙ sym p.1
  | inr p ↦ cond_both (appends (Some v)) old system_slots (λ x. x ≡ b) (λ e. absurd (p.0 (appends_when (out-Payload v.payload) e))) (λ e. sym p.1)
]

-- elements

abbrev AreIn : Layer → List Value → Type 0
AreIn w vs = (w ≡ Payload-F.List vs) ⊎ (((ws : List Value) → w ≡ Payload-F.List ws → ⊥) × (vs ≡ []))

elements_are : (w : Layer) → AreIn w (elements_in (Some w))
elements_are (Payload-F.List vs) = inl refl
elements_are _ = inr (λ ws e. cc, refl)

are_elements : (w : Layer) (vs : List Value) → AreIn w vs → elements_in (Some w) ≡ vs
are_elements w vs (inl e) = ap (λ x. elements_in (Some x)) e
are_elements w vs (inr (other, none)) = by (elements_are w) where
  by : AreIn w (elements_in (Some w)) → elements_in (Some w) ≡ vs
  by (inl e) = absurd (other (elements_in (Some w)) e)
  by (inr h) = h.1 ∙ sym none

has_elements : (o : Option Value) → HasElements o (elements o)
has_elements None = refl
has_elements (Some v) = elements_are (out-Payload v.payload)

elements_has : (o : Option Value) (vs : List Value) → HasElements o vs → elements o ≡ vs
elements_has None vs h = sym h
elements_has (Some v) vs h = are_elements (out-Payload v.payload) vs h

-- the slots of an import

each_shared : (ts : List (Option (List ℕ))) → EachShared ts (map shared_slot ts)
each_shared [] = tt
each_shared (Some t ∷ ts) = (refl, each_shared ts)
each_shared (None ∷ ts) = (refl, each_shared ts)

shared_each : (ts : List (Option (List ℕ))) (slots : List Slot) → EachShared ts slots → map shared_slot ts ≡ slots
shared_each [] [] h = refl
shared_each (Some t ∷ ts) (slot ∷ slots) h = λ i. sym h.0 i ∷ shared_each ts slots h.1 i
shared_each (None ∷ ts) (slot ∷ slots) h = λ i. sym h.0 i ∷ shared_each ts slots h.1 i
shared_each _ _ h = absurd h

cut_off : (count : ℕ) (own : List Slot) → count ≤ length own → cut_or_filled count own ≡ take count own
cut_off count own few = ap (λ (k : ℕ). take count own ++ replicate k gap) (let none : count - length own ≡ 0 = omega arith in none)
    ∙ append-nil (take count own)

filled_up : (count : ℕ) (own : List Slot) → length own ≤ count → cut_or_filled count own ≡ own ++ replicate (count - length own) gap
filled_up count own many = ap (λ w. w ++ replicate (count - length own) gap) (take_all count own many)

slots_are : (t : Table) (count : ℕ) → HasSlots t count (import_slots (record { table = t; count = count }))
slots_are t count = record {
  own = map shared_slot t.symbols;
  each = each_shared t.symbols;
  cut = cut_off count (map shared_slot t.symbols);
  filled = filled_up count (map shared_slot t.symbols);
}

slots_only : (t : Table) (count : ℕ) (slots : List Slot) → HasSlots t count slots → import_slots (record { table = t; count = count }) ≡ slots
slots_only t count slots h =
    let own = ap (λ w. cut_or_filled count w) (shared_each t.symbols h.own h.each) in
    elim (cases_lt count (length h.own)) [
      | inl few ↦ (let less : count ≤ length h.own = omega arith in own ∙ cut_off count h.own less ∙ sym (h.cut less))
      | inr many ↦ own ∙ filled_up count h.own many ∙ sym (h.filled many)
    ]

-- what an import gives

abbrev given : Option Import → List Slot
given None = []
given (Some import) = import_slots import

found_gives : (tables : List Table) (name : List ℕ) (version : ℕ) (f n : Option Table) (max_id : Option ℕ) (i : Option Import) → find tables name version ≡ f
    → newest tables name ≡ n → chosen f n max_id ≡ Ok i
    → NamedGives tables (Some name) version max_id (given i)
found_gives tables name version (Some t) n None i f m e =
    subst (λ x. NamedGives tables (Some name) version None (given x)) (ok_is e)
    (t, length t.symbols, (f, refl), slots_are t (length t.symbols))
found_gives tables name version (Some t) n (Some count) i f m e =
    subst (λ x. NamedGives tables (Some name) version (Some count) (given x)) (ok_is e)
    (t, count, (ap (λ o. otherwise o (newest tables name)) f, refl), slots_are t count)
found_gives tables name version None (Some t) (Some count) i f m e =
    subst (λ x. NamedGives tables (Some name) version (Some count) (given x)) (ok_is e)
    (t, count, (ap (λ o. otherwise o (newest tables name)) f ∙ m, refl), slots_are t count)
found_gives tables name version _ _ _ i f m e = absurd cc

named_gives : (tables : List Table) (name : Option (List ℕ)) (version : ℕ) (max_id : Option ℕ) (i : Option Import) → import_named tables name version max_id
    ≡ Ok i → NamedGives tables name version max_id (given i)
named_gives tables None version max_id i e = subst (λ x. given x ≡ []) (ok_is e) refl
named_gives tables (Some name) version max_id i e = found_gives tables name version (find tables name version) (newest tables name) max_id i refl refl e

-- an import that gives these slots
abbrev GivesSo : Result (Option Import) Reason → List Slot → Type 0
GivesSo r slots = (i : Option Import) × (r ≡ Ok i) × (given i ≡ slots)

gives_chosen : (tables : List Table) (name : List ℕ) (version : ℕ) (f n : Option Table) (max_id : Option ℕ) (slots : List Slot) → find tables name version ≡ f
    → newest tables name ≡ n → NamedGives tables (Some name) version max_id slots
    → GivesSo (chosen f n max_id) slots
gives_chosen tables name version (Some u) n None slots f m (t, count, (is, size), h) =
    let same : u ≡ t = cc in
    (Some (record { table = u; count = length u.symbols }), refl, rw (same, ← size) (slots_only t count slots h))
gives_chosen tables name version (Some u) n (Some k) slots f m (t, count, (is, size), h) =
    let same : u ≡ t = cc in
    (Some (record { table = u; count = k }), refl, rw (same, ← size) (slots_only t count slots h))
gives_chosen tables name version None (Some u) (Some k) slots f m (t, count, (is, size), h) =
    let same : u ≡ t = cc in
    (Some (record { table = u; count = k }), refl, rw (same, ← size) (slots_only t count slots h))
gives_chosen tables name version None (Some u) None slots f m (t, count, (is, size), h) = absurd (let x = sym f ∙ is in cc)
gives_chosen tables name version None None None slots f m (t, count, (is, size), h) = absurd (let x = sym f ∙ is in cc)
gives_chosen tables name version None None (Some k) slots f m (t, count, (is, size), h) =
    absurd (let x = sym (ap (λ o. otherwise o (newest tables name)) f ∙ m) ∙ is in cc)

gives_named : (tables : List Table) (name : Option (List ℕ)) (version : ℕ) (max_id : Option ℕ) (slots : List Slot) → NamedGives tables name version max_id slots
    → GivesSo (import_named tables name version max_id) slots
gives_named tables None version max_id slots h = (None, refl, sym h)
gives_named tables (Some name) version max_id slots h = gives_chosen tables name version _ _ max_id slots refl refl h

struct_gives : (tables : List Table) (fields : List Field) (i : Option Import) → import_of tables fields ≡ Ok i → StructGives tables fields (given i)
struct_gives tables fields i e =
    let p = and_then_ok (only (codes "name") fields) _ i e in
    let q = and_then_ok (only (codes "version") fields) _ i p.2 in
    let r = and_then_ok (only (codes "max_id") fields) _ i q.2 in
    record {
      name = p.0;
      version = q.0;
      max_id = r.0;
      one_name = stands_once (codes "name") fields p.0 p.1;
      one_version = stands_once (codes "version") fields q.0 q.1;
      one_max_id = stands_once (codes "max_id") fields r.0 r.1;
      gives = named_gives tables (table_name p.0) (version_of q.0) (count_of r.0) i r.2;
    }

then_ok : {A B : Type 0} (r : Result A Reason) (f : A → Result B Reason) (x : A) → r ≡ Ok x → and_then r f ≡ f x
then_ok r f x e = ap (λ y. and_then y f) e

gives_struct : (tables : List Table) (fields : List Field) (slots : List Slot) → StructGives tables fields slots → GivesSo (import_of tables fields) slots
gives_struct tables fields slots h =
    let g = gives_named tables _ _ _ slots h.gives in (
      g.0,
      then_ok (only (codes "name") fields) _ h.name (only_once _ fields h.name h.one_name)
          ∙ then_ok (only (codes "version") fields) _ h.version (only_once _ fields h.version h.one_version)
          ∙ then_ok (only (codes "max_id") fields) _ h.max_id (only_once _ fields h.max_id h.one_max_id) ∙ g.1,
      g.2,
    )

-- what an element gives

abbrev GivesIn : List Table → Layer → List Slot → Type 0
GivesIn tables w slots = ((fields : List Field) × (w ≡ Payload-F.Fields fields) × StructGives tables fields slots)
    ⊎ (((fields : List Field) → w ≡ Payload-F.Fields fields → ⊥) × (slots ≡ []))

layer_gives : (tables : List Table) (w : Layer) (i : Option Import) → element_import tables w ≡ Ok i → GivesIn tables w (given i)
layer_gives tables (Payload-F.Fields fields) i e = inl (fields, refl, struct_gives tables fields i e)
layer_gives tables w i e = inr (λ ws f. cc, ap given (sym (ok_is e)))

gives_layer : (tables : List Table) (w : Layer) (slots : List Slot) → GivesIn tables w slots → GivesSo (element_import tables w) slots
gives_layer tables w slots (inl (fields, e, h)) = let g = gives_struct tables fields slots h in (g.0, ap (λ x. element_import tables x) e ∙ g.1, g.2)
gives_layer tables (Payload-F.Fields fields) slots (inr (other, none)) = absurd (other fields refl)
gives_layer tables _ slots (inr (other, none)) = (None, refl, sym none)

-- the slots with more behind them

joined_from : (c more d : List Slot) → joined c more ≡ Ok d → (d ≡ c ++ more) × (length d ≤ greatest_id)
joined_from c more d = cond_both (nat_le (length c + length more) greatest_id) _ _ (λ (r : Result (List Slot) Reason). r ≡ Ok d
    → (d ≡ c ++ more) × (length d ≤ greatest_id))
    (λ n e.
    let s : c ++ more ≡ d = ok_is e in
    (sym s, omega (arith, ap length s, length-append c more, leb-true (length c + length more) greatest_id n)))
    (λ n e. absurd cc)

joined_of : (c more : List Slot) → length (c ++ more) ≤ greatest_id → joined c more ≡ Ok (c ++ more)
joined_of c more few = ap (λ (b : Bool). if b then Ok (c ++ more) else Err Reason.TableTooLarge)
    (le-leb (length c + length more) greatest_id (omega (arith, few, length-append c more)))

added_from : (c : List Slot) (i : Option Import) (d : List Slot) → import_added c i ≡ Ok d → d ≡ c ++ given i
added_from c None d e = sym (ok_is e) ∙ sym (append-nil c)
added_from c (Some i) d e = (joined_from c (import_slots i) d e).0

added_of : (c : List Slot) (i : Option Import) → length (c ++ given i) ≤ greatest_id → import_added c i ≡ Ok (c ++ given i)
added_of c None few = ap Ok (sym (append-nil c))
added_of c (Some i) few = joined_of c (import_slots i) few

abbrev flat : List (List Slot) → List Slot
flat parts = flat_map (λ part. part) parts

imported_from : (tables : List Table) (c : List Slot) (vs : List Value) (d : List Slot) → imported tables c vs ≡ Ok d → (parts : List (List Slot))
    × EachGives tables vs parts × (d ≡ c ++ flat parts)
imported_from tables c [] d e = ([], tt, sym (ok_is e) ∙ sym (append-nil c))
imported_from tables c (v ∷ vs) d e =
    let p = and_then_ok (element_added tables c v) (λ more. imported tables more vs) d e in
    let q = and_then_ok (element_import tables (out-Payload v.payload)) (import_added c) p.0 p.1 in
    let rest = imported_from tables p.0 vs d p.2 in (
      given q.0 ∷ rest.0,
      (layer_gives tables _ q.0 q.1, rest.1),
      rest.2 ∙ ap (λ w. w ++ flat rest.0) (added_from c q.0 p.0 q.2) ∙ append_assoc c (given q.0) (flat rest.0)
          ∙ ap (λ w. c ++ w) (sym (flat_map-cons (λ part. part) (given q.0) rest.0)),
    )

imported_of : (tables : List Table) (c : List Slot) (vs : List Value) (parts : List (List Slot)) → EachGives tables vs parts
    → length (c ++ flat parts) ≤ greatest_id → imported tables c vs ≡ Ok (c ++ flat parts)
imported_of tables c [] [] h few = ap Ok (sym (append-nil c))
imported_of tables c (v ∷ vs) (part ∷ parts) h few =
    let g = gives_layer tables (out-Payload v.payload) part h.0 in
    let whole : c ++ flat (part ∷ parts) ≡ (c ++ part) ++ flat parts = ap (λ w. c ++ w) (flat_map-cons (λ part. part) part parts)
    ∙ sym (append_assoc c part (flat parts)) in
    let front : length (c ++ part) ≤ greatest_id = omega (arith, few, ap length whole, length-append (c ++ part) (flat parts)) in
    let one : element_added tables c v ≡ Ok (c ++ part) =
    then_ok (element_import tables (out-Payload v.payload)) (import_added c) g.0 g.1
    ∙ added_of c g.0 (subst (λ w. length (c ++ w) ≤ greatest_id) (sym g.2) front) ∙ ap (λ w. Ok (c ++ w)) g.2 in
    then_ok (element_added tables c v) (λ more. imported tables more vs) (c ++ part) one
    ∙ imported_of tables (c ++ part) vs parts h.1 (subst (λ w. length w ≤ greatest_id) whole few) ∙ ap Ok (sym whole)
imported_of tables c _ _ h few = absurd h

-- the slots of `symbols`

abbrev SlotIn : Layer → Slot → Type 0
SlotIn w slot = ((t : List ℕ) × (w ≡ Payload-F.Str t) × (slot ≡ text t)) ⊎ (((t : List ℕ) → w ≡ Payload-F.Str t → ⊥) × (slot ≡ unknown))

slot_in : (w : Layer) → SlotIn w (local_slot (layer_symbol w))
slot_in (Payload-F.Str t) = inl (t, refl, refl)
slot_in _ = inr (λ t e. cc, refl)

in_slot : (w : Layer) (slot : Slot) → SlotIn w slot → local_slot (layer_symbol w) ≡ slot
in_slot w slot (inl (t, e, is)) = ap (λ x. local_slot (layer_symbol x)) e ∙ sym is
in_slot (Payload-F.Str t) slot (inr (other, is)) = absurd (other t refl)
in_slot _ slot (inr (other, is)) = sym is

each_slot : (vs : List Value) → EachHasSlot vs (map local_slot (map symbol_of vs))
each_slot [] = tt
each_slot (v ∷ vs) = (slot_in (out-Payload v.payload), each_slot vs)

slots_each : (vs : List Value) (slots : List Slot) → EachHasSlot vs slots → map local_slot (map symbol_of vs) ≡ slots
slots_each [] [] h = refl
slots_each (v ∷ vs) (slot ∷ slots) h = λ i. in_slot (out-Payload v.payload) slot h.0 i ∷ slots_each vs slots h.1 i
slots_each _ _ h = absurd h

-- the whole

all_joined : (c d more local : List Slot) (parts : List (List Slot)) → d ≡ more ++ local → more ≡ c ++ flat parts → d ≡ (c ++ flat parts) ++ local
all_joined c d more local parts e f = e ∙ ap (λ w. w ++ local) f

makes_fields : (tables : List Table) (c : List Slot) (v : Value) (fields : List Field) (d : List Slot) → out-Payload v.payload ≡ Payload-F.Fields fields
    → next_fields c fields tables ≡ Ok d → MakesContext tables c v d
makes_fields tables c v fields d is e =
    let p = and_then_ok (only (codes "imports") fields) (λ imports. and_then (only (codes "symbols") fields)
    (λ symbols. extended tables (base c imports) imports symbols)) d e in
    let q = and_then_ok (only (codes "symbols") fields) (λ symbols. extended tables (base c p.0) p.0 symbols) d p.2 in
    let r = and_then_ok (imported tables (base c p.0) (elements p.0)) (λ more. joined more (local_slots q.0)) d q.2 in
    let parts = imported_from tables (base c p.0) (elements p.0) r.0 r.1 in
    let last = joined_from r.0 (local_slots q.0) d r.2 in
    record {
      fields = fields;
      is_struct = is;
      imports = p.0;
      symbols = q.0;
      one_imports = stands_once (codes "imports") fields p.0 p.1;
      one_symbols = stands_once (codes "symbols") fields q.0 q.1;
      base = base c p.0;
      is_base = base_is c p.0;
      imported = elements p.0;
      are_imported = has_elements p.0;
      parts = parts.0;
      each_gives = parts.1;
      named = elements q.0;
      are_named = has_elements q.0;
      local = local_slots q.0;
      each_has = each_slot (elements q.0);
      joined = all_joined (base c p.0) d r.0 (local_slots q.0) parts.0 last.0 parts.2;
      in_range = last.1;
    }

makes_layer : (tables : List Table) (c : List Slot) (v : Value) (w : Layer) (d : List Slot) → out-Payload v.payload ≡ w → next_layer c w tables ≡ Ok d
    → MakesContext tables c v d
makes_layer tables c v (Payload-F.Fields fields) d is e = makes_fields tables c v fields d is e
makes_layer tables c v _ d is e = absurd cc

makes_context : (tables : List Table) (c : List Slot) (v : Value) (d : List Slot) → next c v tables ≡ Ok d → MakesContext tables c v d
unfolding next
makes_context tables c v d e = makes_layer tables c v (out-Payload v.payload) d refl e

context_made : (tables : List Table) (c : List Slot) (v : Value) (d : List Slot) → MakesContext tables c v d → next c v tables ≡ Ok d
unfolding next
context_made tables c v d h =
    let front : base c h.imports ≡ h.base = is_base c h.imports h.base h.is_base in
    let few : length (h.base ++ flat h.parts) ≤ greatest_id = let n = h.in_range in
    omega (arith, n, ap length h.joined, length-append (h.base ++ flat h.parts) h.local) in
    let more : imported tables (base c h.imports) (elements h.imports) ≡ Ok (h.base ++ flat h.parts) =
    (λ i. imported tables (front i) (elements_has h.imports h.imported h.are_imported i)) ∙ imported_of tables h.base h.imported h.parts h.each_gives few in
    let local : local_slots h.symbols ≡ h.local = ap (λ vs. map local_slot (map symbol_of vs)) (elements_has h.symbols h.named h.are_named)
    ∙ slots_each h.named h.local h.each_has in
    let last : joined (h.base ++ flat h.parts) (local_slots h.symbols) ≡ Ok d =
    ap (λ w. joined (h.base ++ flat h.parts) w) local ∙ joined_of _ h.local (subst (λ w. length w ≤ greatest_id) h.joined h.in_range) ∙ ap Ok (sym h.joined) in
    ap (λ w. next_layer c w tables) h.is_struct ∙ then_ok (only (codes "imports") h.fields) _ h.imports (only_once _ h.fields h.imports h.one_imports)
    ∙ then_ok (only (codes "symbols") h.fields) _ h.symbols (only_once _ h.fields h.symbols h.one_symbols)
    ∙ then_ok (imported tables (base c h.imports) (elements h.imports)) _ (h.base ++ flat h.parts) more ∙ last

-- the context behind a table is the one that the table makes in the words of the symbols chapter
pub next_is : (tables : List Table) (c : List Slot) (v : Value) (d : List Slot) → (next c v tables ≡ Ok d) ↔ MakesContext tables c v d
next_is tables c v d = (makes_context tables c v d, context_made tables c v d)
