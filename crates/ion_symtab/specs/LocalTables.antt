-- What a local symbol table makes of a context, in the words of the symbols chapter and without an order in which anything is done (Ion
-- 1.0, "Symbols", "Local Symbol Tables" and "Imports"). `Next` is the same as a function, with the reasons for which tables are refused.
use Rattle.std.specs.Prelude.{◌≡◌, ◌⊎◌, ◌≤◌, ℕ, ◌-◌, List, [], ◌∷◌, ◌++◌, take, length, replicate, Option, None, Some, codes}
use Rattle.std.specs.List.{flat_map}
use Rattle.ion_symtab.specs.Names.{Field, Payload-F, Slot, Table, Value, count_of, find, find_best, gap, greatest_id, out-Payload, system_slots, table_name, text, unknown, values_of, version_of}

-- A field of this name stands once, with this value, or not at all.
abbrev pub StandsOnce : List ℕ → List Field → Option Value → Type 0
StandsOnce name fields None = values_of name fields ≡ []
StandsOnce name fields (Some v) = values_of name fields ≡ v ∷ []

-- The value of a field is the symbol `$ion_symbol_table`: the table appends to the context.
abbrev pub Appends : Option Value → Type 0
Appends None = ⊥
Appends (Some v) = out-Payload v.payload ≡ Payload-F.Symbol (Some (codes "$ion_symbol_table"))

-- The base: all slots that were before, where the table appends; else the system slots.
abbrev pub IsBase : List Slot → Option Value → List Slot → Type 0
IsBase old imports base = (Appends imports × (base ≡ old)) ⊎ ((Appends imports → ⊥) × (base ≡ system_slots))

-- The elements of a field that is a list. Any other has none.
abbrev pub HasElements : Option Value → List Value → Type 0
HasElements None vs = vs ≡ []
HasElements (Some v) vs = (out-Payload v.payload ≡ Payload-F.List vs) ⊎ (((ws : List Value) → out-Payload v.payload ≡ Payload-F.List ws → ⊥) × (vs ≡ []))

-- Each slot of a shared table has its text. One without a text is a gap.
abbrev pub EachShared : List (Option (List ℕ)) → List Slot → Type 0
EachShared [] [] = Unit {0}
EachShared (Some t ∷ ts) (slot ∷ slots) = (slot ≡ text t) × EachShared ts slots
EachShared (None ∷ ts) (slot ∷ slots) = (slot ≡ gap) × EachShared ts slots
EachShared _ _ = ⊥

-- The slots of a shared table as so many: those behind are cut off, or gaps fill them up.
pub record HasSlots (t : Table) (count : ℕ) (slots : List Slot) : Type 0 where
  pub own : List Slot
  pub each : EachShared t.symbols own
  pub cut : count ≤ length own → slots ≡ take count own
  pub filled : length own ≤ count → slots ≡ own ++ replicate (count - length own) gap

-- The table of the name and version, with all its slots; or, where `max_id` says how many, with so many, and then the newest table of the
-- name stands for one that isn't there.
abbrev pub IsImported : List Table → List ℕ → ℕ → Option ℕ → Table → ℕ → Type 0
IsImported tables name version None t count = (find tables name version ≡ Some t) × (count ≡ length t.symbols)
IsImported tables name version (Some n) t count = (find_best tables name version ≡ Some t) × (count ≡ n)

-- An import without a usable name gives nothing.
abbrev pub NamedGives : List Table → Option (List ℕ) → ℕ → Option ℕ → List Slot → Type 0
NamedGives tables None version max_id slots = slots ≡ []
NamedGives tables (Some name) version max_id slots = (t : Table) × (count : ℕ) × IsImported tables name version max_id t count × HasSlots t count slots

-- what a struct with these fields gives as an import
pub record StructGives (tables : List Table) (fields : List Field) (slots : List Slot) : Type 0 where
  pub name : Option Value
  pub version : Option Value
  pub max_id : Option Value
  pub one_name : StandsOnce (codes "name") fields name
  pub one_version : StandsOnce (codes "version") fields version
  pub one_max_id : StandsOnce (codes "max_id") fields max_id
  pub gives : NamedGives tables (table_name name) (version_of version) (count_of max_id) slots

-- An element of `imports` that is no struct gives nothing.
abbrev pub ElementGives : List Table → Value → List Slot → Type 0
ElementGives tables v slots =
    ((fields : List Field) × (out-Payload v.payload ≡ Payload-F.Fields fields) × StructGives tables fields slots)
    ⊎ (((fields : List Field) → out-Payload v.payload ≡ Payload-F.Fields fields → ⊥) × (slots ≡ []))

-- each of the elements gives its part, in order
abbrev pub EachGives : List Table → List Value → List (List Slot) → Type 0
EachGives tables [] [] = Unit {0}
EachGives tables (v ∷ vs) (part ∷ parts) = ElementGives tables v part × EachGives tables vs parts
EachGives tables _ _ = ⊥

-- An element of `symbols` that is a string has its text. Any other has unknown text.
abbrev pub HasSlot : Value → Slot → Type 0
HasSlot v slot =
    ((t : List ℕ) × (out-Payload v.payload ≡ Payload-F.Str t) × (slot ≡ text t))
    ⊎ (((t : List ℕ) → out-Payload v.payload ≡ Payload-F.Str t → ⊥) × (slot ≡ unknown))

-- each of the elements has its slot, in order
abbrev pub EachHasSlot : List Value → List Slot → Type 0
EachHasSlot [] [] = Unit {0}
EachHasSlot (v ∷ vs) (slot ∷ slots) = HasSlot v slot × EachHasSlot vs slots
EachHasSlot _ _ = ⊥

-- Behind this table the context is the base, then what each element of `imports` gives, then a slot for each element of `symbols`, and all
-- ids are in range. Other fields are open content.
pub record MakesContext (tables : List Table) (old : List Slot) (table : Value) (slots : List Slot) : Type 0 where
  pub fields : List Field
  pub is_struct : out-Payload table.payload ≡ Payload-F.Fields fields
  pub imports : Option Value
  pub symbols : Option Value
  pub one_imports : StandsOnce (codes "imports") fields imports
  pub one_symbols : StandsOnce (codes "symbols") fields symbols
  pub base : List Slot
  pub is_base : IsBase old imports base
  pub imported : List Value
  pub are_imported : HasElements imports imported
  pub parts : List (List Slot)
  pub each_gives : EachGives tables imported parts
  pub named : List Value
  pub are_named : HasElements symbols named
  pub local : List Slot
  pub each_has : EachHasSlot named local
  pub joined : slots ≡ (base ++ flat_map (λ part. part) parts) ++ local
  pub in_range : length slots ≤ greatest_id
