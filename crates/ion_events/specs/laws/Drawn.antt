-- What a draft was told of a value lies in each layout that has its entries and texts.
use Rattle.std.proofs.Common.{◌≡◌, ℕ, ◌+◌, ◌≤◌, inl, inr, suc, List, [], ◌∷◌, ◌++◌, length, take, drop, set, map, Option, Some, None, refl, ap, sym, subst, ◌∙◌, arith, append_assoc, append-nil, length-append}
use Rattle.std.specs.List.{flat_map}
use Rattle.std.proofs.Math.Seq.{set-append_seam}
use Rattle.std.proofs.lemmas.Grind.{common_steps}
use Rattle.ion_model.specs.Measures.{annotated}
use Rattle.ion_model.specs.declared.value.Field.{Field}
use Rattle.ion_model.specs.declared.value.Payload.TheViews.{outs-Fields}
use Rattle.ion_visiting.specs.Events.{field_events, within}
use Rattle.ion_visiting.specs.laws.Led.{events_out, led_both}
use Rattle.ion_visiting.specs.laws.Trees.{Told, ToldFields, ToldItems, ToldPayload, fields_from, in_one, in_sequence, in_struct, items_from, no_fields, no_items, sequence_bracket, sequence_events, told_by, value_told}
use Rattle.ion_events.specs.Drafts.{Adds, Closes, Opens, Stays, next_place, text_place}
use Rattle.ion_events.specs.Drawing.{Drawn, Labels, TextsAre, come, draws, draws_part, walk}
use Rattle.ion_events.specs.Entries.{annotation_code, close_code, code_of, label_entry, name_code, plain}
use Rattle.ion_events.specs.Layouts.{Around, IsText, Label, LiesAt, Stand, Walk, bracket_code, entry_at, lays_event, lays_one, lays_part, one_more, past, texts_of}
use Rattle.ion_events.specs.Names.Below.{Bracket, Event, KeptEvent, Kind, Layer, Led, Payload, Payload-F, Value, annotation, closes, events_of, layer_events, name, out-Payload, part}
use Rattle.ion_events.specs.declared.draft.Draft.{Draft}
use Rattle.ion_events.specs.declared.draft.Outer.{Outer}
use Rattle.ion_events.specs.declared.entry.Entry.{Entry}

-- 1. Entries and texts that are there.

pub stand_both : (o : List ℕ) (i : ℕ) (es fs : List Entry) → Stand o i (es ++ fs) → Stand o i es × Stand o (i + length es) fs
stand_both o i [] fs h = (tt, subst (λ j. Stand o j fs) (omega arith) h)
stand_both o i (e ∷ es) fs h =
    let k = stand_both o (i + 1) es fs h.1 in ((h.0, k.0), subst (λ j. Stand o j fs) (omega arith) k.1)

pub fewer_texts : (o v w : List ℕ) → TextsAre o (v ++ w) → TextsAre o v
fewer_texts o v w h = (w ++ h.0, h.1 ∙ append_assoc v w h.0)

there_at : (ts v w rest : List ℕ) → ts ≡ (v ++ w) ++ rest → (length v + length w ≤ length ts) × (take (length w) (drop (length v) ts) ≡ w)
there_at ts v w rest h = (grind (arith, common_steps, h), grind (arith, common_steps, h))

known_at : (ts all rest w : List ℕ) (i : ℕ) → ts ≡ all ++ rest → i + length w ≤ length all → take (length w) (drop i all) ≡ w
    → (i + length w ≤ length ts) × (take (length w) (drop i ts) ≡ w)
known_at ts all rest w i h k l = (grind (arith, common_steps, h, k), grind (arith, common_steps, h, k, l))

come_none : (out : List Around) → come 0 out ≡ out
come_none [] = refl
come_none (x ∷ xs) = λ i. record x { came = (let e : x.came + 0 ≡ x.came = omega arith in e i) } ∷ xs

come_both : (n k : ℕ) (out : List Around) → come k (come n out) ≡ come (n + k) out
come_both n k [] = refl
come_both n k (x ∷ xs) = λ i. record x { came = (let e : x.came + n + k ≡ x.came + (n + k) = omega arith in e i) } ∷ xs

-- 2. From one draft to another.

pub next_is : (a b : Draft) (es : List Entry) (w : List ℕ) (n : ℕ) → Adds a b es w n → next_place b ≡ next_place a + length es
next_is a b es w n h = grind (arith, common_steps, h.entries, h.stays.entries)

pub used_is : (a b : Draft) (es : List Entry) (w : List ℕ) (n : ℕ) → Adds a b es w n → text_place b ≡ text_place a + length w
used_is a b es w n h = grind (arith, common_steps, h.texts, h.stays.texts)

pub adds_both : (a m b : Draft) (es fs : List Entry) (v w : List ℕ) (n k : ℕ) → Adds a m es v n → Adds m b fs w k → Adds a b (es ++ fs) (v ++ w) (n + k)
adds_both a m b es fs v w n k g h = record {
  entries = h.entries ∙ ap (λ x. x ++ fs) g.entries ∙ append_assoc a.entries.items es fs;
  texts = h.texts ∙ ap (λ x. x ++ w) g.texts ∙ append_assoc a.texts.items v w;
  values = omega (arith, g.values, h.values);
  around = h.around ∙ g.around;
  stays = record { entries = h.stays.entries ∙ g.stays.entries; texts = h.stays.texts ∙ g.stays.texts };
}

drawn_none : (t : List ℕ) (a : Draft) → Drawn t [] a a 0
drawn_none t a = record {
  entry = [];
  text = [];
  adds = record {
    entries = sym (append-nil a.entries.items);
    texts = sym (append-nil a.texts.items);
    values = omega arith;
    around = refl;
    stays = record { entries = refl; texts = refl };
  };
  lies = λ o out s k i. walk a (sym (come_none out) i);
}

drawn_both : (t : List ℕ) (es fs : List Event) (a m b : Draft) (n k : ℕ) → Drawn t es a m n → Drawn t fs m b k → Drawn t (es ++ fs) a b (n + k)
drawn_both t es fs a m b n k g h = record {
  entry = g.entry ++ h.entry;
  text = g.text ++ h.text;
  adds = adds_both a m b g.entry h.entry g.text h.text n k g.adds h.adds;
  lies = λ o out s w.
      let s' = stand_both o (next_place a) g.entry h.entry s in
      let here : Stand o (next_place m) h.entry = subst (λ i. Stand o i h.entry) (sym (next_is a m g.entry g.text n g.adds)) s'.1 in
      let texts : TextsAre o (t ++ m.texts.items) =
      fewer_texts o (t ++ m.texts.items) h.text (subst (TextsAre o) (ap (λ x. t ++ x) h.adds.texts ∙ sym (append_assoc t m.texts.items h.text)) w) in
      subst (λ to. Led (lays_one o) (es ++ fs) (walk a out) (walk b to)) (come_both n k out)
      (led_both (lays_one o) es fs (walk a out) (walk m (come n out)) (walk b (come k (come n out))) (g.lies o out s'.0 texts) (h.lies o (come n out) here w));
}

-- one value, and so many behind it
drawn_more : (t : List ℕ) (es fs : List Event) (a m b : Draft) (k : ℕ) → Drawn t es a m 1 → Drawn t fs m b k → Drawn t (es ++ fs) a b (suc k)
drawn_more t es fs a m b k g h = subst (Drawn t (es ++ fs) a b) (omega arith) (drawn_both t es fs a m b 1 k g h)

-- 3. One event.

come_one : (out : List Around) → come 1 out ≡ one_more out
come_one [] = refl
come_one (x ∷ xs) = refl

one_drawn : (t : List ℕ) (a b : Draft) (e : Event) (es : List Entry) (w : List ℕ) (n : ℕ) → Adds a b es w n → KeptEvent e
    → ((o : List ℕ) (out : List Around) → Stand o (next_place a) es → TextsAre o (t ++ b.texts.items) → lays_event o (walk a out) e (walk b (come n out)))
    → Drawn t (e ∷ []) a b n
one_drawn t a b e es w n h k f = record { entry = es; text = w; adds = h; lies = λ o out s x. (walk b (come n out), (k, f o out s x), refl) }

-- a value of these entries
filled : (a b : Draft) (es : List Entry) (out : List Around) → Adds a b es [] 1 → walk b (come 1 out) ≡ past (walk a out) (length es) (text_place a)
filled a b es out h =
    let n = next_is a b es [] 1 h in
    let u : text_place b ≡ text_place a = omega (arith, used_is a b es [] 1 h) in
    λ i. record { at = n i; around = come_one out i; used = u i }

-- a text that was put there
put_there : (t o : List ℕ) (a b : Draft) (es : List Entry) (w : List ℕ) (n : ℕ) → length t ≡ a.texts_before → Adds a b es w n
    → TextsAre o (t ++ b.texts.items) → LiesAt o (text_place a) w
put_there t o a b es w n known h x =
    let all : texts_of o ≡ ((t ++ a.texts.items) ++ w) ++ x.0 =
    x.1 ∙ ap (λ y. y ++ x.0) (ap (λ y. t ++ y) h.texts ∙ sym (append_assoc t a.texts.items w)) in
    let place : length (t ++ a.texts.items) ≡ text_place a = length-append t a.texts.items ∙ ap (λ n. n + length a.texts.items) known in
    subst (λ i. LiesAt o i w) place (let k = there_at (texts_of o) (t ++ a.texts.items) w x.0 all in record { within = k.0; is = k.1 })

text_drawn : (t o : List ℕ) (a b : Draft) (kind : Kind) (w : List ℕ) (out : List Around) → length t ≡ a.texts_before
    → Adds a b (plain (code_of kind) (length w) (text_place a) ∷ []) w 1 → Stand o (next_place a) (plain (code_of kind) (length w) (text_place a) ∷ [])
    → TextsAre o (t ++ b.texts.items) → IsText o (walk a out) kind w (walk b (come 1 out))
text_drawn t o a b kind w out known h s x =
    let n = next_is a b _ w 1 h in
    let u = used_is a b _ w 1 h in
    record { entry = s.0; there = put_there t o a b _ w 1 known h x; is = λ i. record { at = n i; around = come_one out i; used = u i } }

-- a label, which is so many values
record Labelled (t : List ℕ) (a b : Draft) (code : ℕ) (s : Option (List ℕ)) (n : ℕ) : Type 0 where
  entry : Entry
  text : List ℕ
  adds : Adds a b (entry ∷ []) text n
  lies : (o : List ℕ) (out : List Around) → Stand o (next_place a) (entry ∷ []) → TextsAre o (t ++ b.texts.items)
      → Label o (walk a out) code s (text_place b)

labelled : (t : List ℕ) (a b : Draft) (code : ℕ) (s : Option (List ℕ)) (n : ℕ) → length t ≡ a.texts_before → Labels t a code s n b → Labelled t a b code s n
labelled t a b code None n known h = record {
  entry = label_entry code None;
  text = [];
  adds = h;
  lies = λ o out s x. record { entry = s.0; is = omega (arith, used_is a b _ [] n h) };
}
labelled t a b code (Some w) n known (inl h) = record {
  entry = plain code (length w) (text_place a);
  text = w;
  adds = h;
  lies = λ o out s x. record {
    place = text_place a;
    entry = s.0;
    there = put_there t o a b _ w n known h x;
    known = inl refl;
    is = omega (arith, used_is a b _ w n h);
  };
}
labelled t a b code (Some w) n known (inr h) = record {
  entry = plain code (length w) h.place;
  text = [];
  adds = h.adds;
  lies = λ o out s x.
      let all : texts_of o ≡ (t ++ a.texts.items) ++ x.0 = x.1 ∙ ap (λ y. y ++ x.0) (ap (λ y. t ++ y) (h.adds.texts ∙ append-nil a.texts.items)) in
      let place : length (t ++ a.texts.items) ≡ text_place a = length-append t a.texts.items ∙ ap (λ n. n + length a.texts.items) known in
      let k = known_at (texts_of o) (t ++ a.texts.items) x.0 w h.place all (omega (arith, h.within, place)) h.is in
      record {
        place = h.place;
        entry = s.0;
        there = record { within = k.0; is = k.1 };
        known = inr h.within;
        is = omega (arith, used_is a b _ [] n h.adds, h.within);
      };
}

-- an annotation or a name leads on by one entry
behind_label : (a b : Draft) (e : Entry) (w : List ℕ) (out : List Around) → Adds a b (e ∷ []) w 0
    → walk b (come 0 out) ≡ record { at = next_place a + 1; around = out; used = text_place b }
behind_label a b e w out h = let n = next_is a b (e ∷ []) w 0 h in λ i. record { at = n i; around = come_none out i; used = text_place b }

record PartDrawn (t : List ℕ) (a b : Draft) (d : Layer) : Type 0 where
  entry : List Entry
  text : List ℕ
  adds : Adds a b entry text 1
  lies : (o : List ℕ) (out : List Around) → Stand o (next_place a) entry → TextsAre o (t ++ b.texts.items)
      → lays_part o (walk a out) d (walk b (come 1 out))

part_filled : (t : List ℕ) (a b : Draft) (d : Layer) (es : List Entry) → Adds a b es [] 1
    → ((o : List ℕ) (x y : Walk) → Stand o x.at es × (y ≡ past x (length es) x.used) → lays_part o x d y) → PartDrawn t a b d
part_filled t a b d es h f = record { entry = es; text = []; adds = h; lies = λ o out s x. f o (walk a out) (walk b (come 1 out)) (s, filled a b es out h) }

part_drawn : (t : List ℕ) (a b : Draft) (d : Layer) → length t ≡ a.texts_before → draws_part t a d b → PartDrawn t a b d
part_drawn t a b (Payload-F.Null k) known h = part_filled t a b _ _ h (λ o x y k. k)
part_drawn t a b (Payload-F.Truth k) known h = part_filled t a b _ _ h (λ o x y k. k)
part_drawn t a b (Payload-F.Int z) known h = part_filled t a b _ _ h (λ o x y k. k)
part_drawn t a b (Payload-F.Decimal d) known h = part_filled t a b _ _ h (λ o x y k. k)
part_drawn t a b (Payload-F.Timestamp d) known h = part_filled t a b _ _ h (λ o x y k. k)
part_drawn t a b (Payload-F.Symbol s) known h =
    let l = labelled t a b (code_of Kind.Symbol) s 1 known h in
    let n = next_is a b (l.entry ∷ []) l.text 1 l.adds in
    record {
      entry = l.entry ∷ [];
      text = l.text;
      adds = l.adds;
      lies = λ o out s x. (text_place b, l.lies o out s x, λ i. record { at = n i; around = come_one out i; used = text_place b });
    }
part_drawn t a b (Payload-F.Str w) known h = record { entry = _; text = w; adds = h; lies = λ o out s x. text_drawn t o a b Kind.Str w out known h s x }
part_drawn t a b (Payload-F.Clob w) known h = record { entry = _; text = w; adds = h; lies = λ o out s x. text_drawn t o a b Kind.Clob w out known h s x }
part_drawn t a b (Payload-F.Blob w) known h = record { entry = _; text = w; adds = h; lies = λ o out s x. text_drawn t o a b Kind.Blob w out known h s x }
part_drawn t a b (Payload-F.List vs) known h = absurd h
part_drawn t a b (Payload-F.Sexp vs) known h = absurd h
part_drawn t a b (Payload-F.Fields ms) known h = absurd h

payload_drawn : (t : List ℕ) (a b : Draft) (p : Payload) → length t ≡ a.texts_before → draws t a (part p) b → Drawn t (part p ∷ []) a b 1
payload_drawn t a b p known h = let d = part_drawn t a b (out-Payload p) known h.1 in one_drawn t a b (part p) d.entry d.text 1 d.adds h.0 d.lies

note_drawn : (t : List ℕ) (a b : Draft) (s : Option (List ℕ)) → length t ≡ a.texts_before → draws t a (annotation s) b → Drawn t (annotation s ∷ []) a b 0
note_drawn t a b s known h =
    let l = labelled t a b annotation_code s 0 known h.1 in
    one_drawn t a b (annotation s) (l.entry ∷ []) l.text 0 l.adds h.0
    (λ o out s x. (text_place b, l.lies o out s x, behind_label a b l.entry l.text out l.adds))

name_drawn : (t : List ℕ) (a b : Draft) (s : Option (List ℕ)) → length t ≡ a.texts_before → draws t a (name s) b → Drawn t (name s ∷ []) a b 0
name_drawn t a b s known h =
    let l = labelled t a b name_code s 0 known h.1 in
    one_drawn t a b (name s) (l.entry ∷ []) l.text 0 l.adds h.0
    (λ o out s x. (text_place b, l.lies o out s x, behind_label a b l.entry l.text out l.adds))

-- 4. Between brackets.

ends_alike : {X : Type 0} (xs ys : List X) (x y : X) → xs ++ x ∷ [] ≡ ys ++ y ∷ [] → (xs ≡ ys) × (x ≡ y)
ends_alike xs ys x y h = grind (arith, common_steps, h)

within_drawn : (t : List ℕ) (a m n b : Draft) (x : Bracket) (es : List Event) (count : ℕ) → Opens a m x → Drawn t es m n count → Closes n b x
    → Drawn t (within x es) a b 1
within_drawn t a m n b x es count opened d close =
    let around : a.around.items ++ record { place = length a.entries.items; values = a.values + 1 } ∷ [] ≡ b.around.items ++ close.outer ∷ [] =
    sym opened.around ∙ sym d.adds.around ∙ close.around in
    let ends = ends_alike a.around.items b.around.items _ close.outer around in
    let place : length a.entries.items ≡ close.outer.place = ap (λ (y : Outer). y.place) ends.1 in
    let values : a.values + 1 ≡ close.outer.values = ap (λ (y : Outer). y.values) ends.1 in
    let head : Entry = plain (bracket_code x) n.values (next_place n + 1) in
    let last : Entry = record { kind = close_code; detail = bracket_code x; more = 0; count = 0; number = n.entries_before + close.outer.place } in
    let inner : n.entries.items ≡ a.entries.items ++ plain (bracket_code x) 0 0 ∷ d.entry =
    d.adds.entries ∙ ap (λ y. y ++ d.entry) opened.entries ∙ append_assoc a.entries.items (plain (bracket_code x) 0 0 ∷ []) d.entry in
    let filled : set n.entries.items close.outer.place head ≡ a.entries.items ++ head ∷ d.entry =
    (λ i. set (inner i) (sym place i) head) ∙ set-append_seam a.entries.items (plain (bracket_code x) 0 0) d.entry head in
    let entries : b.entries.items ≡ a.entries.items ++ head ∷ (d.entry ++ last ∷ []) =
    close.entries ∙ ap (λ y. y ++ last ∷ []) filled ∙ append_assoc a.entries.items (head ∷ d.entry) (last ∷ []) in
    let texts : b.texts.items ≡ a.texts.items ++ d.text = close.texts ∙ d.adds.texts ∙ ap (λ y. y ++ d.text) opened.texts in
    let stays : Stays a b = record {
      entries = close.stays.entries ∙ d.adds.stays.entries ∙ opened.stays.entries;
      texts = close.stays.texts ∙ d.adds.stays.texts ∙ opened.stays.texts;
    } in
    let adds : Adds a b (head ∷ (d.entry ++ last ∷ [])) d.text 1 =
    record { entries = entries; texts = texts; values = close.values ∙ sym values; around = sym ends.0; stays = stays } in
    let at_m : next_place m ≡ next_place a + 1 = grind (arith, common_steps, opened.entries, opened.stays.entries) in
    let used_m : text_place m ≡ text_place a = λ i. opened.stays.texts i + length (opened.texts i) in
    let at_n : next_place n ≡ next_place m + length d.entry = next_is m n d.entry d.text count d.adds in
    let at_b : next_place b ≡ next_place n + 1 =
    next_is a b _ d.text 1 adds ∙ grind (arith, common_steps, at_n, at_m) in
    let used_b : text_place b ≡ text_place n = λ i. close.stays.texts i + length (close.texts i) in
    let many : 0 + count ≡ n.values = omega (arith, d.adds.values, opened.values) in
    let back : n.entries_before + close.outer.place ≡ next_place a = omega (arith, d.adds.stays.entries, opened.stays.entries, place) in
    record {
      entry = head ∷ (d.entry ++ last ∷ []);
      text = d.text;
      adds = adds;
      lies = λ o out s w.
          let rest = stand_both o (next_place a + 1) d.entry (last ∷ []) s.1 in
          let here : Stand o (next_place m) d.entry = subst (λ i. Stand o i d.entry) (sym at_m) rest.0 in
          let there : entry_at o (next_place n) ≡ last = subst (λ i. entry_at o i ≡ last) (omega (arith, at_n, at_m)) rest.1.0 in
          let inside : Around = record { bracket = x; place = next_place a; behind = next_place n + 1; says = n.values; came = 0 } in
          let texts_n : TextsAre o (t ++ n.texts.items) = subst (TextsAre o) (ap (λ y. t ++ y) close.texts) w in (
            walk m (inside ∷ one_more out),
            (
              tt,
              record {
                behind = next_place n + 1;
                says = n.values;
                entry = s.0;
                is = λ i. record { at = at_m i; around = inside ∷ one_more out; used = used_m i };
              },
            ),
            led_both (lays_one o) es (closes x ∷ []) (walk m (inside ∷ one_more out)) (walk n (come count (inside ∷ one_more out))) (walk b (come 1 out))
                (d.lies o (inside ∷ one_more out) here texts_n) (
                  walk b (come 1 out),
                  (
                    tt,
                    record {
                      place = next_place a;
                      says = n.values;
                      entry = there ∙ (λ i. record { kind = close_code; detail = bracket_code x; more = 0; count = 0; number = back i });
                      around = λ i. record inside { came = many i } ∷ sym (come_one out) i;
                      at = at_b;
                      used = used_b;
                    },
                  ),
                  refl,
                ),
          );
    }

-- 5. Values.

notes_drawn : (t : List ℕ) (ss : List (Option (List ℕ))) (a b : Draft) → length t ≡ a.texts_before → Led (draws t) (map annotation ss) a b
    → Drawn t (map annotation ss) a b 0
notes_drawn t [] a b known h = subst (λ x. Drawn t [] a x 0) h (drawn_none t a)
notes_drawn t (s ∷ ss) a b known h =
    let d = note_drawn t a h.0 s known h.1 in
    drawn_both t (annotation s ∷ []) (map annotation ss) a h.0 b 0 0 d (notes_drawn t ss h.0 b (known ∙ sym d.adds.stays.texts) h.2)

module _ (t : List ℕ) where
  mutual
    value_drawn : {v : Value} {a b : Draft} → Told (draws t) v a b → length t ≡ a.texts_before → Drawn t (events_of v) a b 1
    value_drawn (value_told ss p a m b n h) known =
        let d = notes_drawn t ss a m known n in
        subst (λ es. Drawn t es a b 1) (sym (events_out (annotated ss p)))
        (drawn_both t (map annotation ss) (layer_events (out-Payload p)) a m b 0 1 d (level_drawn h (known ∙ sym d.adds.stays.texts)))

    level_drawn : {p : Payload} {a b : Draft} → ToldPayload (draws t) p a b → length t ≡ a.texts_before → Drawn t (layer_events (out-Payload p)) a b 1
    level_drawn (in_one p a b is h) known = subst (λ es. Drawn t es a b 1) (sym is) (payload_drawn t a b p known h)
    level_drawn (in_sequence l vs a m n b o h c) known =
        subst (λ es. Drawn t es a b 1) (sym (sequence_events l vs))
        (within_drawn t a m n b (sequence_bracket l) (flat_map events_of vs) (length vs) o (items_drawn h (known ∙ sym o.stays.texts)) c)
    level_drawn (in_struct ms a m n b o h c) known =
        subst (λ es. Drawn t es a b 1) (sym (ap layer_events (outs-Fields ms)))
        (within_drawn t a m n b Bracket.Fields (flat_map field_events ms) (length ms) o (fields_drawn h (known ∙ sym o.stays.texts)) c)

    items_drawn : {vs : List Value} {a b : Draft} → ToldItems (draws t) vs a b → length t ≡ a.texts_before
        → Drawn t (flat_map events_of vs) a b (length vs)
    items_drawn (no_items a) known = drawn_none t a
    items_drawn (items_from v vs a m b x h) known =
        let d = value_drawn x known in
        drawn_more t (events_of v) (flat_map events_of vs) a m b (length vs) d (items_drawn h (known ∙ sym d.adds.stays.texts))

    fields_drawn : {ms : List Field} {a b : Draft} → ToldFields (draws t) ms a b → length t ≡ a.texts_before
        → Drawn t (flat_map field_events ms) a b (length ms)
    fields_drawn (no_fields a) known = drawn_none t a
    fields_drawn (fields_from f fs a n m b i x h) known =
        let c = name_drawn t a n f.name known i in
        let d = value_drawn x (known ∙ sym c.adds.stays.texts) in
        let one = drawn_both t (name f.name ∷ []) (events_of f.value) a n m 0 1 c d in
        drawn_more t (field_events f) (flat_map field_events fs) a m b (length fs) one (fields_drawn h (known ∙ sym one.adds.stays.texts))

-- a draft that was told the events of a value lays it: from where it stood to where it stands these lie in each layout with its entries and texts
pub drafted : (before : List ℕ) (v : Value) (a b : Draft) → length before ≡ a.texts_before → Led (draws before) (events_of v) a b
    → Drawn before (events_of v) a b 1
drafted before v a b known h = value_drawn before (told_by (draws before) v a b h) known
