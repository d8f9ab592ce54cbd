-- What a filter of local symbol tables was told, and what a visitor heard.
use Rattle.std.proofs.Common.{◌≡◌, ℕ, List, [], ◌∷◌, ◌++◌, map, Bool, true, false, Option, Some, None, refl, ap, sym, subst, ◌∙◌}
use Rattle.std.specs.Prelude.{◌&&◌, if◌then◌else◌}
use Rattle.std.specs.List.{flat_map}
use Rattle.std.proofs.lemmas.Bool.{false≢true}
use Rattle.std.proofs.lemmas.List.{append-nil, append_assoc, map-append}
use Rattle.ion_visiting.specs.Names.{Bracket, Event, Kind, Layer, Led, Number, Payload, Payload-F, Table, TableBuilding, TableFilter, Value, annotation, closes, events_of, field_events, is_fields, is_table, is_table_of, layer_events, layer_kind, names_table, number_payload, out-Payload, part, value_in, without_value}
use Rattle.ion_model.specs.declared.value.Payload.TheVariants as payloads
use Rattle.ion_visiting.specs.Tables.{AreKept, Hears, IsTable, LetsPass, Symbols, WasTold, begins_struct, heard, heard_by, is_null_struct, is_of_table, table_after, table_behind, table_by, table_of}
use Rattle.ion_visiting.specs.Skims.{none_yet, pruned, skims}
use Rattle.ion_visiting.specs.laws.Skims.{value_skimmed}
use Rattle.ion_visiting.specs.laws.Led.{events_out, led_both, led_more}

-- 1. What is known behind events.

pub after_append : (t : Table) (es fs : List Event) → table_after t (es ++ fs) ≡ table_after (table_after t es) fs
after_append t [] fs = refl
after_append t (e ∷ es) fs = after_append (table_behind t e) es fs

pub by_more : (es : List Event) (e : Event) → table_by (es ++ e ∷ []) ≡ table_behind (table_by es) e
by_more es e = after_append Table.Unknown es (e ∷ [])

behind_no : (e : Event) → table_behind Table.No e ≡ Table.No
behind_no (part p) = refl
behind_no _ = refl

behind_yes : (e : Event) → table_behind Table.Yes e ≡ Table.Yes
behind_yes (part p) = refl
behind_yes _ = refl

after_no : (es : List Event) → table_after Table.No es ≡ Table.No
after_no [] = refl
after_no (e ∷ es) = ap (λ t. table_after t es) (behind_no e) ∙ after_no es

after_yes : (es : List Event) → table_after Table.Yes es ≡ Table.Yes
after_yes [] = refl
after_yes (e ∷ es) = ap (λ t. table_after t es) (behind_yes e) ∙ after_yes es

after_notes : (ss : Symbols) → table_after Table.Noted (map annotation ss) ≡ Table.Noted
after_notes [] = refl
after_notes (s ∷ ss) = after_notes ss

-- behind one event of a payload
if_fields : (k : Kind) → table_behind Table.Noted (part (payloads.Null k)) ≡ (if is_fields k then Table.Yes else Table.No)
if_fields Kind.Null = refl
if_fields _ = refl

noted_layer : (d : Layer) → table_after Table.Noted (layer_events d) ≡ (if is_fields (layer_kind d) then Table.Yes else Table.No)
noted_layer (Payload-F.Null k) = if_fields k
noted_layer (Payload-F.List vs) = after_no (flat_map events_of vs ++ closes Bracket.List ∷ [])
noted_layer (Payload-F.Sexp vs) = after_no (flat_map events_of vs ++ closes Bracket.Sexp ∷ [])
noted_layer (Payload-F.Fields fs) = after_yes (flat_map field_events fs ++ closes Bracket.Fields ∷ [])
noted_layer _ = refl

unknown_layer : (d : Layer) → table_after Table.Unknown (layer_events d) ≡ Table.No
unknown_layer (Payload-F.List vs) = after_no (flat_map events_of vs ++ closes Bracket.List ∷ [])
unknown_layer (Payload-F.Sexp vs) = after_no (flat_map events_of vs ++ closes Bracket.Sexp ∷ [])
unknown_layer (Payload-F.Fields fs) = after_no (flat_map field_events fs ++ closes Bracket.Fields ∷ [])
unknown_layer _ = refl

-- a table, or none, by the first annotation
abbrev by_first : Bool → Bool → Table
by_first names fields = if names && fields then Table.Yes else Table.No

first_told : (names : Bool) (ss : Symbols) (d : Layer)
    → table_after (if names then Table.Noted else Table.No) (map annotation ss ++ layer_events d) ≡ by_first names (is_fields (layer_kind d))
first_told true ss d =
    after_append Table.Noted (map annotation ss) (layer_events d) ∙ (ap (λ t. table_after t (layer_events d)) (after_notes ss) ∙ noted_layer d)
first_told false ss d = after_no (map annotation ss ++ layer_events d)

layers_told : (ss : Symbols) (d : Layer)
    → table_by (map annotation ss ++ layer_events d) ≡ (if is_table_of ss (layer_kind d) then Table.Yes else Table.No)
layers_told [] d = unknown_layer d
layers_told (s ∷ ss) d = first_told (names_table s) ss d

-- the events of a value tell whether it is a table
pub table_told : (v : Value) → table_by (events_of v) ≡ (if is_table v then Table.Yes else Table.No)
table_told v = ap table_by (events_out v) ∙ layers_told v.annotations (out-Payload v.payload)

yes_where : (b : Bool) → Table.Yes ≡ (if b then Table.Yes else Table.No) → b ≡ true
yes_where true e = refl
yes_where false e = absurd cc

no_where : (b : Bool) → Table.No ≡ (if b then Table.Yes else Table.No) → b ≡ false
no_where true e = absurd cc
no_where false e = refl

unknown_nowhere : (b : Bool) → Table.Unknown ≡ (if b then Table.Yes else Table.No) → ⊥
unknown_nowhere true e = absurd cc
unknown_nowhere false e = absurd cc

noted_nowhere : (b : Bool) → Table.Noted ≡ (if b then Table.Yes else Table.No) → ⊥
noted_nowhere true e = absurd cc
noted_nowhere false e = absurd cc

-- a number is no null
pub number_null : (n : Number) → is_null_struct (number_payload n) ≡ false
number_null (Number.Int z) = refl
number_null _ = refl

plain_of : (t : Table) (b : Bool) → is_of_table t true ≡ false → is_of_table t b ≡ false
plain_of Table.Noted b h = absurd (false≢true (sym h))
plain_of Table.Yes b h = absurd (false≢true (sym h))
plain_of _ b h = refl

-- an event that is no annotation
abbrev pub IsOther : Event → Type 0
IsOther (annotation s) = ⊥
IsOther _ = Unit {0}

behind_other : (t : Table) (e : Event) → IsOther e → table_behind t e ≡ (if is_of_table t (begins_struct e) then Table.Yes else Table.No)
behind_other t (annotation s) h = absurd h
behind_other t _ h = refl

-- 2. What a visitor heard.

module _ {V : Type 0} (takes : V → Event → V → Type 0) where
  pub hears_none : (es fs : List Event) (a : V) → fs ≡ es → Hears takes es fs a a
  hears_none es fs a e = record { more = []; is = e ∙ sym (append-nil es); led = refl }

  pub hears_one : (es : List Event) (e : Event) (a b : V) → takes a e b → Hears takes es (es ++ e ∷ []) a b
  hears_one es e a b h = record { more = e ∷ []; is = refl; led = (b, h, refl) }

  pub hears_both : (es fs gs : List Event) (a m b : V) → Hears takes es fs a m → Hears takes fs gs m b → Hears takes es gs a b
  hears_both es fs gs a m b h k = record {
    more = h.more ++ k.more;
    is = k.is ∙ (ap (λ x. x ++ k.more) h.is ∙ append_assoc es h.more k.more);
    led = led_both takes h.more k.more a m b h.led k.led;
  }

  -- 3. What a filter was told.

  module _ (es : List Event) (e : Event) where
    -- an event of a table is built
    table_takes : (f g : TableFilter) (a : V) → IsTable f es → g.table ≡ Table.Yes → g.notes ≡ [] → table_behind (table_by es) e ≡ Table.Yes
        → heard es ≡ [] → skims f.tables e g.tables → WasTold g (es ++ e ∷ []) × Hears takes (heard es) (heard (es ++ e ∷ [])) a a
    table_takes f g a h table notes is none k =
        let by = by_more es e ∙ is in (
          record {
            table = table ∙ sym by;
            kept = subst (λ t. AreKept t (es ++ e ∷ []) g.notes g.tables) (sym table) (notes, led_more skims es e none_yet f.tables g.tables h.built k);
          },
          hears_none (heard es) (heard (es ++ e ∷ [])) a (ap (λ t. heard_by t (es ++ e ∷ [])) by ∙ sym none),
        )

    -- what a visitor heard is told on
    heard_on : (f : TableFilter) (a b : V) → LetsPass f → table_behind (table_by es) e ≡ Table.No → Hears takes (heard es) (es ++ e ∷ []) a b
        → WasTold f (es ++ e ∷ []) × Hears takes (heard es) (heard (es ++ e ∷ [])) a b
    heard_on f a b h is told =
        let by = by_more es e ∙ is in (
          record {
            table = h.table ∙ sym by;
            kept = subst (λ t. AreKept t (es ++ e ∷ []) f.notes f.tables) (sym h.table) (h.notes, h.tables);
          },
          subst (λ fs. Hears takes (heard es) fs a b) (sym (ap (λ t. heard_by t (es ++ e ∷ [])) by)) told,
        )

    behind_is : (f : TableFilter) (b : Bool) → IsOther e → WasTold f es → is_of_table f.table (begins_struct e) ≡ b
        → table_behind (table_by es) e ≡ (if b then Table.Yes else Table.No)
    behind_is f b other h test =
        ap (λ t. table_behind t e) (sym h.table) ∙ (behind_other f.table e other ∙ ap (λ x. if x then Table.Yes else Table.No) test)

  -- an event of a table, which is begun by it or before it
  pub table_tells : (e : Event) (f mid g : TableFilter) (a : V) → IsOther e → is_of_table f.table (begins_struct e) ≡ true
      → ((es : List Event) → WasTold f es → IsTable mid es × (heard es ≡ [])) → g.table ≡ mid.table → g.notes ≡ mid.notes
      → skims mid.tables e g.tables
      → (es : List Event) → WasTold f es → WasTold g (es ++ e ∷ []) × Hears takes (heard es) (heard (es ++ e ∷ [])) a a
  table_tells e f mid g a other test enters table notes k es h =
      let i = enters es h in
      table_takes es e mid g a i.0 (table ∙ i.0.table) (notes ∙ i.0.notes) (behind_is es e f true other h test) i.1 k

  -- an event of no table
  pub visitor_tells : (e : Event) (f mid : TableFilter) (a m b : V) → IsOther e → is_of_table f.table (begins_struct e) ≡ false
      → ((es : List Event) → WasTold f es → LetsPass mid × Hears takes (heard es) es a m) → takes m e b
      → (es : List Event) → WasTold f es → WasTold mid (es ++ e ∷ []) × Hears takes (heard es) (heard (es ++ e ∷ [])) a b
  visitor_tells e f mid a m b other test passes k es h =
      let i = passes es h in
      heard_on es e mid a b i.0 (behind_is es e f false other h test)
      (hears_both (heard es) es (es ++ e ∷ []) a m b i.1 (hears_one es e m b k))

  -- a part of what is seen to be no table
  pub part_passes : (p : Payload) (f mid : TableFilter) (a b : V) → is_of_table f.table true ≡ false
      → ((es : List Event) → WasTold f es → LetsPass mid × (heard es ≡ es)) → takes a (part p) b
      → (es : List Event) → WasTold f es → WasTold mid (es ++ part p ∷ []) × Hears takes (heard es) (heard (es ++ part p ∷ [])) a b
  part_passes p f mid a b plain passes k =
      visitor_tells (part p) f mid a a b tt (plain_of f.table (begins_struct (part p)) plain)
      (λ es h. let i = passes es h in (i.0, hears_none (heard es) es a (sym i.1))) k

  -- 4. Annotations.

  pub noted_passes : (f g : TableFilter) (ss : Symbols) (a b : V) → f.table ≡ Table.Noted → g.table ≡ Table.No → g.notes ≡ [] → g.tables ≡ f.tables
      → ss ≡ f.notes → Led takes (map annotation ss) a b
      → (es : List Event) → WasTold f es → LetsPass g × Hears takes (heard es) es a b
  noted_passes f g ss a b is table notes built same led es h =
      let k = subst (λ t. AreKept t es f.notes f.tables) is h.kept in
      let none : heard es ≡ [] = ap (λ t. heard_by t es) (sym h.table ∙ is) in
      let all : es ≡ map annotation ss = k.0 ∙ ap (map annotation) (sym same) in (
        record { table = table; notes = notes; tables = built ∙ k.1 },
        subst (λ fs. Hears takes fs es a b) (sym none) (record { more = map annotation ss; is = all; led = led }),
      )

  -- an annotation of what is no table is told on
  pub note_passes : (s : Option (List ℕ)) (f mid : TableFilter) (a m b : V)
      → ((es : List Event) → WasTold f es → LetsPass mid × Hears takes (heard es) es a m) → takes m (annotation s) b
      → (es : List Event) → WasTold f es → LetsPass mid × Hears takes (heard es) (es ++ annotation s ∷ []) a b
  note_passes s f mid a m b passes k es h =
      let i = passes es h in
      (i.0, hears_both (heard es) es (es ++ annotation s ∷ []) a m b i.1 (hears_one es (annotation s) m b k))

  no_tells : (s : Option (List ℕ)) (f g : TableFilter) (a b : V) (t : Table) → f.table ≡ t → table_behind t (annotation s) ≡ Table.No
      → ((es : List Event) → WasTold f es → LetsPass g × Hears takes (heard es) (es ++ annotation s ∷ []) a b)
      → (es : List Event) → WasTold f es
      → WasTold g (es ++ annotation s ∷ []) × Hears takes (heard es) (heard (es ++ annotation s ∷ [])) a b
  no_tells s f g a b t is behind passes es h =
      let i = passes es h in
      heard_on es (annotation s) g a b i.0 (ap (λ t. table_behind t (annotation s)) (sym h.table ∙ is) ∙ behind) i.1

  pub none_noted : (s : Option (List ℕ)) (f g : TableFilter) (a b : V) → f.table ≡ Table.No
      → ((es : List Event) → WasTold f es → LetsPass g × Hears takes (heard es) (es ++ annotation s ∷ []) a b)
      → (es : List Event) → WasTold f es
      → WasTold g (es ++ annotation s ∷ []) × Hears takes (heard es) (heard (es ++ annotation s ∷ [])) a b
  none_noted s f g a b is = no_tells s f g a b Table.No is refl

  pub unknown_noted : (s : Option (List ℕ)) (f g : TableFilter) (a b : V) → f.table ≡ Table.Unknown → names_table s ≡ false
      → ((es : List Event) → WasTold f es → LetsPass g × Hears takes (heard es) (es ++ annotation s ∷ []) a b)
      → (es : List Event) → WasTold f es
      → WasTold g (es ++ annotation s ∷ []) × Hears takes (heard es) (heard (es ++ annotation s ∷ [])) a b
  unknown_noted s f g a b is names = no_tells s f g a b Table.Unknown is (ap (λ x. if x then Table.Noted else Table.No) names)

  -- it is kept
  kept_tells : (s : Option (List ℕ)) (es : List Event) (g : TableFilter) (a : V) → g.table ≡ Table.Noted
      → table_by (es ++ annotation s ∷ []) ≡ Table.Noted → heard es ≡ [] → es ++ annotation s ∷ [] ≡ map annotation g.notes → g.tables ≡ none_yet
      → WasTold g (es ++ annotation s ∷ []) × Hears takes (heard es) (heard (es ++ annotation s ∷ [])) a a
  kept_tells s es g a table by none notes built = (
    record {
      table = table ∙ sym by;
      kept = subst (λ t. AreKept t (es ++ annotation s ∷ []) g.notes g.tables) (sym table) (notes, built);
    },
    hears_none (heard es) (heard (es ++ annotation s ∷ [])) a (ap (λ t. heard_by t (es ++ annotation s ∷ [])) by ∙ sym none),
  )

  pub further_kept : (s : Option (List ℕ)) (f g : TableFilter) (a : V) → f.table ≡ Table.Noted → g.table ≡ f.table
      → g.notes ≡ f.notes ++ s ∷ [] → g.tables ≡ f.tables
      → (es : List Event) → WasTold f es
      → WasTold g (es ++ annotation s ∷ []) × Hears takes (heard es) (heard (es ++ annotation s ∷ [])) a a
  further_kept s f g a is table notes built es h =
      let k = subst (λ t. AreKept t es f.notes f.tables) is h.kept in
      let by = by_more es (annotation s) ∙ ap (λ t. table_behind t (annotation s)) (sym h.table ∙ is) in
      kept_tells s es g a (table ∙ is) by (ap (λ t. heard_by t es) (sym h.table ∙ is))
      (ap (λ x. x ++ annotation s ∷ []) k.0 ∙ (sym (map-append annotation f.notes (s ∷ [])) ∙ ap (map annotation) (sym notes))) (built ∙ k.1)

  -- it is built, where a table is told
  pub yes_noted : (s : Option (List ℕ)) (f g : TableFilter) (a : V) → f.table ≡ Table.Yes → g.table ≡ f.table → g.notes ≡ f.notes
      → skims f.tables (annotation s) g.tables
      → (es : List Event) → WasTold f es
      → WasTold g (es ++ annotation s ∷ []) × Hears takes (heard es) (heard (es ++ annotation s ∷ [])) a a
  yes_noted s f g a is table notes k es h =
      let i = subst (λ t. AreKept t es f.notes f.tables) is h.kept in
      table_takes es (annotation s) f g a (record { table = is; notes = i.0; built = i.1 }) (table ∙ is) (notes ∙ i.0)
      (ap (λ t. table_behind t (annotation s)) (sym h.table ∙ is)) (ap (λ t. heard_by t es) (sym h.table ∙ is)) k

-- 5. A table is entered.

-- 6. The end of a value.

-- what was built is taken out
abbrev taken_out : TableBuilding → TableBuilding
taken_out b = record {
  building = record { notes = b.building.notes; place = without_value b.building.place; outer = b.building.outer };
  place = b.place;
}

module _ (v : Value) (f : TableFilter) (h : WasTold f (events_of v)) where
  known : f.table ≡ (if is_table v then Table.Yes else Table.No)
  known = h.table ∙ table_told v

  pub yes_ends : (g : TableFilter) (taken : Option Value) → f.table ≡ Table.Yes → taken ≡ value_in f.tables.building.place → g.table ≡ Table.Unknown
      → g.notes ≡ f.notes → g.tables ≡ taken_out f.tables
      → (taken ≡ table_of v) × WasTold g []
  yes_ends g taken is value table notes left =
      let k = subst (λ t. AreKept t (events_of v) f.notes f.tables) is h.kept in
      let whole = value_skimmed v f.tables k.1 in
      let yes = yes_where (is_table v) (sym is ∙ known) in (
        value ∙ (ap (λ (b : TableBuilding). value_in b.building.place) whole ∙ sym (ap (λ x. if x then Some (pruned v) else None) yes)),
        record {
          table = table;
          kept = subst (λ t. AreKept t [] g.notes g.tables) (sym table) (
            refl,
            notes ∙ k.0,
            left ∙ ap taken_out whole,
          );
        },
      )

  pub no_ends : (g : TableFilter) → f.table ≡ Table.No → g.table ≡ Table.Unknown → g.notes ≡ f.notes → g.tables ≡ f.tables
      → (None ≡ table_of v) × WasTold g []
  no_ends g is table notes built =
      let k = subst (λ t. AreKept t (events_of v) f.notes f.tables) is h.kept in
      let no = no_where (is_table v) (sym is ∙ known) in (
        sym (ap (λ x. if x then Some (pruned v) else None) no),
        record {
          table = table;
          kept = subst (λ t. AreKept t [] g.notes g.tables) (sym table) (refl, notes ∙ k.0, built ∙ k.1);
        },
      )

  pub unknown_ends : f.table ≡ Table.Unknown → ⊥
  unknown_ends is = unknown_nowhere (is_table v) (sym is ∙ known)

  pub noted_ends : f.table ≡ Table.Noted → ⊥
  noted_ends is = noted_nowhere (is_table v) (sym is ∙ known)
