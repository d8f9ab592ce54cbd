-- What the visitor of local symbol tables makes of a value's events is the value without its open content.
use Rattle.std.proofs.Common.{◌≡◌, ℕ, zero, suc, List, [], ◌∷◌, ◌++◌, map, Bool, true, false, cond, Option, Some, refl, ap, sym, subst, ◌∙◌}
use Rattle.std.specs.List.{flat_map}
use Rattle.ion_visiting.specs.Names.{Bracket, Built, Event, Field, Layer, Led, Open, Payload, Payload-F, Place, TableBuilding, Value, annotated, annotation, builds, built, closes, events_of, field_events, fresh, is_table, is_table_of, layer_events, layer_kind, name, opens, out-Payload, outs-Fields, outs-List, outs-Sexp, part, within}
use Rattle.ion_model.specs.declared.value.Payload.TheVariants as payloads
use Rattle.ion_visiting.specs.Skims.{built_unless, counted_fields, counts_in_table, field_begun, is_skipped, moved, named, none_yet, place_closed, place_opened, pruned, pruned_payload, skimmed, skims, within_closed}
use Rattle.ion_visiting.specs.laws.Built.{value_built}
use Rattle.ion_visiting.specs.laws.Led.{events_out, led_both}
use Rattle.ion_visiting.specs.laws.Trees.{Told, ToldFields, ToldItems, ToldPayload, fields_from, in_one, in_sequence, in_struct, items_from, no_fields, no_items, sequence, sequence_bracket, sequence_events, told_by, value_told}

-- 1. What is open content is skipped.

abbrev skipping : Built → ℕ → TableBuilding
skipping b n = record { building = b; place = Place.Skipping n }

notes_skip : (ss : List (Option (List ℕ))) (o : Built) (n : ℕ) (a b : TableBuilding) → Led skims (map annotation ss) a b → a ≡ skipping o n → b ≡ skipping o n
notes_skip [] o n a b h e = sym h ∙ e
notes_skip (s ∷ ss) o n a b h e = notes_skip ss o n h.0 b h.2 (h.1 ∙ ap (λ x. skimmed x (annotation s)) e)

mutual
  value_skips : {v : Value} {a b : TableBuilding} (o : Built) (n : ℕ) → Told skims v a b → a ≡ skipping o n → b ≡ skipping o n
  value_skips o n (value_told ss p a m b h k) e = payload_skips o n k (notes_skip ss o n a m h e)

  payload_skips : {p : Payload} {a b : TableBuilding} (o : Built) (n : ℕ) → ToldPayload skims p a b → a ≡ skipping o n → b ≡ skipping o n
  payload_skips o n (in_one p a b i h) e = h ∙ ap (λ x. skimmed x (part p)) e
  payload_skips o n (in_sequence l vs a m k b h i c) e =
      let start : m ≡ skipping o (suc n) = h ∙ ap (λ x. skimmed x (opens (sequence_bracket l))) e in
      c ∙ ap (λ x. skimmed x (closes (sequence_bracket l))) (items_skip o (suc n) i start)
  payload_skips o n (in_struct ms a m k b h i c) e =
      let start : m ≡ skipping o (suc n) = h ∙ ap (λ x. skimmed x (opens Bracket.Fields)) e in
      c ∙ ap (λ x. skimmed x (closes Bracket.Fields)) (fields_skip o n i start)

  items_skip : {vs : List Value} {a b : TableBuilding} (o : Built) (n : ℕ) → ToldItems skims vs a b → a ≡ skipping o n → b ≡ skipping o n
  items_skip o n (no_items a) e = e
  items_skip o n (items_from v vs a m b x h) e = items_skip o n h (value_skips o n x e)

  fields_skip : {ms : List Field} {a b : TableBuilding} (o : Built) (n : ℕ) → ToldFields skims ms a b → a ≡ skipping o (suc n) → b ≡ skipping o (suc n)
  fields_skip o n (no_fields a) e = e
  fields_skip o n (fields_from f fs a k m b i x h) e = fields_skip o n h (value_skips o (suc n) x (i ∙ ap (λ y. skimmed y (name f.name)) e))

-- 2. What counts is built.

record Keeps (q : Place) (es : List Event) (a b : TableBuilding) : Type 0 where
  led : Led builds es a.building b.building
  place : b.place ≡ q

keeps_one : (q : Place) (e : Event) (a b : TableBuilding) → a.place ≡ q → is_skipped (moved q e) ≡ false → skims a e b → Keeps (moved q e) (e ∷ []) a b
keeps_one q e a b at free h = record {
  led = (
    b.building,
    ap (λ (x : TableBuilding). x.building) h ∙ ap (λ s. built_unless s a.building e) (ap (λ r. is_skipped (moved r e)) at ∙ free),
    refl,
  );
  place = ap (λ (x : TableBuilding). x.place) h ∙ ap (λ r. moved r e) at;
}

keeps_both : {q r : Place} {es fs : List Event} {a m b : TableBuilding} → Keeps q es a m → Keeps r fs m b → Keeps r (es ++ fs) a b
keeps_both {es = es} {fs = fs} {a = a} {m = m} {b = b} h k = record {
  led = led_both builds es fs a.building m.building b.building h.led k.led;
  place = k.place;
}

notes_keep : (q : Place) (ss : List (Option (List ℕ))) (a b : TableBuilding) → is_skipped q ≡ false → a.place ≡ q → Led skims (map annotation ss) a b
    → Keeps q (map annotation ss) a b
notes_keep q [] a b free at h = record { led = ap (λ (x : TableBuilding). x.building) h; place = ap (λ (x : TableBuilding). x.place) (sym h) ∙ at }
notes_keep q (s ∷ ss) a b free at h =
    let one = keeps_one q (annotation s) a h.0 at free h.1 in keeps_both one (notes_keep q ss h.0 b free one.place h.2)

-- so many containers around, from the table's fields on
around_free : (k : ℕ) → is_skipped (within_closed k) ≡ false
around_free zero = refl
around_free (suc n) = refl

around_opened : (k : ℕ) → place_opened (within_closed k) ≡ Place.Within k
around_opened zero = refl
around_opened (suc n) = refl

mutual
  value_keeps : {v : Value} {a b : TableBuilding} (k : ℕ) → Told skims v a b → a.place ≡ within_closed k → Keeps (within_closed k) (events_of v) a b
  value_keeps k (value_told ss p a m b h t) at =
      let notes = notes_keep (within_closed k) ss a m (around_free k) at h in
      subst (λ es. Keeps (within_closed k) es a b) (sym (events_out (annotated ss p))) (keeps_both notes (payload_keeps k t notes.place))

  payload_keeps : {p : Payload} {a b : TableBuilding} (k : ℕ) → ToldPayload skims p a b → a.place ≡ within_closed k
      → Keeps (within_closed k) (layer_events (out-Payload p)) a b
  payload_keeps k (in_one p a b i h) at = subst (λ es. Keeps (within_closed k) es a b) (sym i) (keeps_one (within_closed k) (part p) a b at (around_free k) h)
  payload_keeps k (in_sequence l vs a m n b h i c) at =
      let front = keeps_one (within_closed k) (opens (sequence_bracket l)) a m at (ap is_skipped (around_opened k)) h in
      let inside = items_keep (suc k) i (front.place ∙ around_opened k) in
      let end = keeps_one (Place.Within k) (closes (sequence_bracket l)) n b inside.place (around_free k) c in
      subst (λ es. Keeps (within_closed k) es a b) (sym (sequence_events l vs)) (keeps_both front (keeps_both inside end))
  payload_keeps k (in_struct ms a m n b h i c) at =
      let front = keeps_one (within_closed k) (opens Bracket.Fields) a m at (ap is_skipped (around_opened k)) h in
      let inside = fields_keep k i (front.place ∙ around_opened k) in
      let end = keeps_one (Place.Within k) (closes Bracket.Fields) n b inside.place (around_free k) c in
      subst (λ es. Keeps (within_closed k) es a b) (sym (ap layer_events (outs-Fields ms))) (keeps_both front (keeps_both inside end))

  items_keep : {vs : List Value} {a b : TableBuilding} (k : ℕ) → ToldItems skims vs a b → a.place ≡ within_closed k
      → Keeps (within_closed k) (flat_map events_of vs) a b
  items_keep k (no_items a) at = record { led = refl; place = at }
  items_keep k (items_from v vs a m b x h) at = let one = value_keeps k x at in keeps_both one (items_keep k h one.place)

  fields_keep : {ms : List Field} {a b : TableBuilding} (k : ℕ) → ToldFields skims ms a b → a.place ≡ Place.Within k
      → Keeps (Place.Within k) (flat_map field_events ms) a b
  fields_keep k (no_fields a) at = record { led = refl; place = at }
  fields_keep k (fields_from f fs a n m b i x h) at =
      let front = keeps_one (Place.Within k) (name f.name) a n at refl i in
      let value = value_keeps (suc k) x front.place in
      keeps_both front (keeps_both value (fields_keep k h value.place))

-- 3. The fields of a table.

data Among : Place → Type 0 where
  in_counted : Among Place.Fields
  in_open : Among (Place.Skipping 0)

among_named : (q : Place) (c : Bool) → Among q → named q c ≡ field_begun c
among_named _ c in_counted = refl
among_named _ c in_open = refl

among_closed : (q : Place) → Among q → place_closed q ≡ Place.Around
among_closed _ in_counted = refl
among_closed _ in_open = refl

record Prunes (es : List Event) (a b : TableBuilding) : Type 0 where
  led : Led builds es a.building b.building
  at : Place
  among : Among at
  place : b.place ≡ at

fields_pruned : {ms : List Field} {a b : TableBuilding} (q : Place) → Among q → ToldFields skims ms a b → a.place ≡ q
    → Prunes (flat_map field_events (counted_fields ms)) a b
fields_pruned q among (no_fields a) at = record { led = refl; at = q; among = among; place = at }
fields_pruned q among (fields_from f fs a n m b i x h) at = by (counts_in_table f.name) refl (λ r some there. fields_pruned r some h there)
  where
    begun : (c : Bool) → counts_in_table f.name ≡ c → moved a.place (name f.name) ≡ field_begun c
    begun c e = ap (λ r. named r (counts_in_table f.name)) at ∙ (among_named q (counts_in_table f.name) among ∙ ap field_begun e)

    Rest : Type 0
    Rest = (r : Place) → Among r → m.place ≡ r → Prunes (flat_map field_events (counted_fields fs)) m b

    by : (c : Bool) → counts_in_table f.name ≡ c → Rest → Prunes (flat_map field_events (counted_fields (f ∷ fs))) a b
    by true e rest =
        let there : n.place ≡ Place.Fields = ap (λ (x : TableBuilding). x.place) i ∙ begun true e in
        let taken : n.building ≡ built a.building (name f.name) =
        ap (λ (x : TableBuilding). x.building) i ∙ ap (λ r. built_unless (is_skipped r) a.building (name f.name)) (begun true e) in
        let value = value_keeps 0 x there in
        let others = rest Place.Fields in_counted value.place in
        let events = led_both builds (events_of f.value) (flat_map field_events (counted_fields fs)) n.building m.building b.building value.led others.led in
        record {
          led = subst (λ c. Led builds (flat_map field_events (cond c (f ∷ counted_fields fs) (counted_fields fs))) a.building b.building) (sym e)
              (n.building, taken, events);
          at = others.at;
          among = others.among;
          place = others.place;
        }
    by false e rest =
        let there : n ≡ skipping a.building 0 =
        i ∙ ap (λ r. record { building = built_unless (is_skipped r) a.building (name f.name); place = r }) (begun false e) in
        let passed = value_skips a.building 0 x there in
        let others = rest (Place.Skipping 0) in_open (ap (λ (x : TableBuilding). x.place) passed) in
        record {
          led = subst (λ c. Led builds (flat_map field_events (cond c (f ∷ counted_fields fs) (counted_fields fs))) a.building b.building) (sym e)
              (subst (λ o. Led builds (flat_map field_events (counted_fields fs)) o b.building) (ap (λ (x : TableBuilding). x.building) passed) others.led);
          at = others.at;
          among = others.among;
          place = others.place;
        }

-- 4. The whole value.

one_pruned : (d : Layer) (p : Payload) → layer_events d ≡ part p ∷ [] → pruned_payload d p ≡ p
one_pruned (Payload-F.Fields fs) p h = absurd cc
one_pruned _ p h = refl

sequence_pruned : (l : Bool) (vs : List Value) → pruned_payload (out-Payload (sequence l vs)) (sequence l vs) ≡ sequence l vs
sequence_pruned true vs = ap (λ d. pruned_payload d (payloads.List vs)) (outs-List vs)
sequence_pruned false vs = ap (λ d. pruned_payload d (payloads.Sexp vs)) (outs-Sexp vs)

payload_pruned : {p : Payload} {a b : TableBuilding} → ToldPayload skims p a b → a.place ≡ Place.Around
    → Keeps Place.Around (layer_events (out-Payload (pruned_payload (out-Payload p) p))) a b
payload_pruned (in_one p a b i h) at =
    subst (λ r. Keeps Place.Around (layer_events (out-Payload r)) a b) (sym (one_pruned (out-Payload p) p i))
    (subst (λ es. Keeps Place.Around es a b) (sym i) (keeps_one Place.Around (part p) a b at refl h))
payload_pruned (in_sequence l vs a m n b h i c) at =
    let front = keeps_one Place.Around (opens (sequence_bracket l)) a m at refl h in
    let inside = items_keep 0 i front.place in
    let end = keeps_one Place.Fields (closes (sequence_bracket l)) n b inside.place refl c in
    subst (λ r. Keeps Place.Around (layer_events (out-Payload r)) a b) (sym (sequence_pruned l vs))
    (subst (λ es. Keeps Place.Around es a b) (sym (sequence_events l vs)) (keeps_both front (keeps_both inside end)))
payload_pruned (in_struct ms a m n b h i c) at =
    let front = keeps_one Place.Around (opens Bracket.Fields) a m at refl h in
    let inside = fields_pruned Place.Fields in_counted i front.place in
    let all : Keeps inside.at (flat_map field_events (counted_fields ms)) m n = record { led = inside.led; place = inside.place } in
    let closed = among_closed inside.at inside.among in
    let end = keeps_one inside.at (closes Bracket.Fields) n b inside.place (ap is_skipped closed) c in
    let whole = keeps_both front (keeps_both all end) in
    subst (λ r. Keeps Place.Around (layer_events (out-Payload r)) a b) (sym (ap (λ d. pruned_payload d (payloads.Fields ms)) (outs-Fields ms)))
    (subst (λ es. Keeps Place.Around es a b) (sym (ap layer_events (outs-Fields (counted_fields ms))))
    (subst (λ q. Keeps q (within Bracket.Fields (flat_map field_events (counted_fields ms))) a b) closed whole))

layer_kept : (d : Layer) (p : Payload) → out-Payload p ≡ d → layer_kind (out-Payload (pruned_payload d p)) ≡ layer_kind d
layer_kept (Payload-F.Fields fs) p e = ap layer_kind (outs-Fields (counted_fields fs))
layer_kept _ p e = ap layer_kind e

-- a table is one without its open content, too
pub table_pruned : (v : Value) → is_table (pruned v) ≡ is_table v
table_pruned v = ap (is_table_of v.annotations) (layer_kept (out-Payload v.payload) v.payload refl)

value_pruned : {v : Value} {a b : TableBuilding} → Told skims v a b → a.place ≡ Place.Around → Keeps Place.Around (events_of (pruned v)) a b
value_pruned (value_told ss p a m b h t) at =
    let notes = notes_keep Place.Around ss a m refl at h in
    subst (λ es. Keeps Place.Around es a b) (sym (events_out (pruned (annotated ss p)))) (keeps_both notes (payload_pruned t notes.place))

-- the visitor that was told a value from nothing has built what counts of it
pub value_skimmed : (v : Value) (b : TableBuilding) → Led skims (events_of v) none_yet b
    → b ≡ record { building = record { notes = []; place = Open.Top (Some (pruned v)); outer = [] }; place = Place.Around }
value_skimmed v b h =
    let k = value_pruned (told_by skims v none_yet b h) refl in
    let built_of = value_built (pruned v) b.building k.led in
    ap (λ o. record { building = o; place = b.place }) built_of
    ∙ ap (λ q. record { building = record { notes = []; place = Open.Top (Some (pruned v)); outer = [] }; place = q }) k.place
