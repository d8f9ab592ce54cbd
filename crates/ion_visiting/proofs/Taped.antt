-- What a tape was told lies there from front to end.
use Rattle.std.proofs.Common.{◌≡◌, ℕ, ◌+◌, ◌-◌, ◌^◌, ◌≤◌, ◌<◌, List, [], ◌∷◌, ◌++◌, length, map, set, slice_get, Option, Some, None, option_map, refl, ap, sym, subst, ◌∙◌, arith}
use Rattle.std.specs.List.{flat_map}
use Rattle.std.proofs.lemmas.Option.{gets}
use Rattle.std.proofs.lemmas.Grind.{common_steps}
use Rattle.ion_visiting.specs.Names.{Bracket, Entry, Event, Field, Great, Led, Number, Payload, Range, Role, Tape, Value, annotated, annotation, closes, events_of, field_events, layer_events, number_payload, opens, out-Payload, outs-Fields, part, within}
use Rattle.ion_visiting.specs.Tapes.{Closes, Grows, Holds, IsBlank, Opens, Passes, Rests, Tells, Walk, Writes, events_before, events_in, range_place, role_event, tapes, text_at, text_event, told, walks}
use Rattle.ion_visiting.specs.laws.Led.{events_out, led_both, led_more}
use Rattle.ion_visiting.specs.laws.Trees.{Told, ToldFields, ToldItems, ToldPayload, fields_from, in_one, in_sequence, in_struct, items_from, no_fields, no_items, sequence_events, told_by, value_told}

-- 1. Lists that end alike.

pub ends_alike : {X : Type 0} (xs ys : List X) (x y : X) → xs ++ x ∷ [] ≡ ys ++ y ∷ [] → (xs ≡ ys) × (x ≡ y)
ends_alike xs ys x y h = grind (arith, common_steps, h)

-- 2. From one tape to another.

-- what an entry tells it tells still
abbrev Keeps : Tape → Tape → Type 0
Keeps t u = (e : Entry) (x : Event) → told t e ≡ Some x → told u e ≡ Some x

-- the entry at a place stands there still
abbrev Stays : Tape → Tape → ℕ → Type 0
Stays t u i = (e : Entry) → slice_get t.entries.items i ≡ Some e → slice_get u.entries.items i ≡ Some e

-- of what was there some is there
pub some_told : {X : Type 0} (o : Option X) (f : X → Event) (x : Event) → option_map f o ≡ Some x → (y : X) × (o ≡ Some y) × (f y ≡ x)
some_told (Some y) f x h = let e : f y ≡ x = cc in (y, refl, e)
some_told None f x h = absurd cc

rests_text : {t u : Tape} → Rests t u → (r : Range) → text_at u r ≡ text_at t r
unfolding text_at
rests_text h r = grind (arith, common_steps, h.octets, h.greats)

rests_keeps : (t u : Tape) → Rests t u → Keeps t u
rests_keeps t u r e x h = grind (arith, common_steps, rests_text r, r.numbers, r.symbols, h)

grows_text : {t u : Tape} → Grows t u → (r : Range) (w : List ℕ) → text_at t r ≡ Some w → text_at u r ≡ Some w
unfolding text_at
grows_text g r w h = grind (arith, common_steps, gets, g.octets, g.greats, h)

grows_keeps : {t u : Tape} → Grows t u → Keeps t u
grows_keeps {t = t} g (Entry.Long x r) e h = let y = some_told (text_at t r) (λ w. role_event x (Some w)) e h in grind (arith, common_steps, grows_text g r y.0 y.1, y.2)
grows_keeps {t = t} g (Entry.Text x r) e h = let y = some_told (text_at t r) (text_event x) e h in grind (arith, common_steps, grows_text g r y.0 y.1, y.2)
grows_keeps g x e h = grind (arith, common_steps, gets, g.numbers, g.symbols, h)

-- octets that were put behind the others are there
pub text_there : (b : Tape) (r : Range) (before w : List ℕ) → b.octets.items ≡ before ++ w → range_place r ≡ length before → r.count ≡ length w
    → length w < 2 ^ 32 - 1 → text_at b r ≡ Some w
unfolding text_at
text_there b r before w o p n l = grind (arith, common_steps, o, p, n, l)

pub great_there : (b : Tape) (r : Range) (before w : List ℕ) (greats : List Great) → b.octets.items ≡ before ++ w
    → b.greats.items ≡ greats ++ (record { from = length before; count = length w }) ∷ [] → range_place r ≡ length greats → r.count ≡ 2 ^ 32 - 1
    → text_at b r ≡ Some w
unfolding text_at
great_there b r before w greats o g p n = grind (arith, common_steps, gets, o, g, p, n)

-- texts that were put behind the others
pub text_grows : (a b : Tape) (w : List ℕ) → b.octets.items ≡ a.octets.items ++ w → b.numbers ≡ a.numbers → b.symbols ≡ a.symbols → b.greats ≡ a.greats
    → b.opened ≡ a.opened → Grows a b
text_grows a b w o n s g k = record {
  text = w;
  octets = o;
  number = [];
  numbers = grind (arith, common_steps, n);
  symbol = [];
  symbols = grind (arith, common_steps, s);
  great = [];
  greats = grind (arith, common_steps, g);
  opened = grind (arith, common_steps, k);
}

-- the same of a great text
pub great_grows : (a b : Tape) (w : List ℕ) (g : Great) → b.octets.items ≡ a.octets.items ++ w → b.numbers ≡ a.numbers → b.symbols ≡ a.symbols
    → b.greats.items ≡ a.greats.items ++ g ∷ [] → b.opened ≡ a.opened → Grows a b
great_grows a b w g o n s all k = record {
  text = w;
  octets = o;
  number = [];
  numbers = grind (arith, common_steps, n);
  symbol = [];
  symbols = grind (arith, common_steps, s);
  great = g ∷ [];
  greats = all;
  opened = grind (arith, common_steps, k);
}

-- an entry whose text was put before it
pub text_writes : (a m b : Tape) (x : Entry) (e : Event) → Grows a m → m.entries ≡ a.entries → b.entries.items ≡ m.entries.items ++ x ∷ [] → Rests m b
    → b.opened ≡ m.opened → told m x ≡ Some e → Writes a b e
text_writes a m b x e g same put r k is = record {
  entry = x;
  entries = grind (arith, common_steps, same, put);
  is = rests_keeps m b r x e is;
  grows = record {
    text = g.text;
    octets = grind (arith, common_steps, r.octets, g.octets);
    number = g.number;
    numbers = grind (arith, common_steps, r.numbers, g.numbers);
    symbol = g.symbol;
    symbols = grind (arith, common_steps, r.symbols, g.symbols);
    great = g.great;
    greats = grind (arith, common_steps, r.greats, g.greats);
    opened = grind (arith, common_steps, k, g.opened);
  };
}

-- an entry alone
pub put_writes : (a b : Tape) (x : Entry) (e : Event) → b.entries.items ≡ a.entries.items ++ x ∷ [] → Rests a b → b.opened ≡ a.opened → told a x ≡ Some e
    → Writes a b e
put_writes a b x e put r k is = text_writes a a b x e (text_grows a a [] (grind (arith, common_steps)) refl refl refl refl) refl put r k is

-- a number and its entry
pub number_writes : (a b : Tape) (n : Number) (i : ℕ) → i ≡ length a.numbers.items → b.entries.items ≡ a.entries.items ++ Entry.Number i ∷ []
    → b.octets ≡ a.octets → b.symbols ≡ a.symbols → b.greats ≡ a.greats → b.opened ≡ a.opened → b.numbers.items ≡ a.numbers.items ++ n ∷ []
    → Writes a b (part (number_payload n))
number_writes a b n i place e o s g k all = record {
  entry = Entry.Number i;
  entries = e;
  is = grind (arith, common_steps, gets, place, all);
  grows = record {
    text = [];
    octets = grind (arith, common_steps, o);
    number = n ∷ [];
    numbers = all;
    symbol = [];
    symbols = grind (arith, common_steps, s);
    great = [];
    greats = grind (arith, common_steps, g);
    opened = grind (arith, common_steps, k);
  };
}

-- a symbol that is shared, and its entry
pub symbol_writes : (a b : Tape) (x : Role) (s : Option (List ℕ)) (i : ℕ) → i ≡ length a.symbols.items → b.entries.items ≡ a.entries.items ++ Entry.Shared x i ∷ []
    → b.octets ≡ a.octets → b.numbers ≡ a.numbers → b.greats ≡ a.greats → b.opened ≡ a.opened → b.symbols.items ≡ a.symbols.items ++ s ∷ []
    → Writes a b (role_event x s)
symbol_writes a b x s i place e o n g k all = record {
  entry = Entry.Shared x i;
  entries = e;
  is = grind (arith, common_steps, gets, place, all);
  grows = record {
    text = [];
    octets = grind (arith, common_steps, o);
    number = [];
    numbers = grind (arith, common_steps, n);
    symbol = s ∷ [];
    symbols = all;
    great = [];
    greats = grind (arith, common_steps, g);
    opened = grind (arith, common_steps, k);
  };
}

-- 3. Along the tape.

abbrev size : Tape → ℕ
size t = length t.entries.items

abbrev at : Tape → List ℕ → Walk
at t s = record { at = size t; ends = s }

step_at : (t : Tape) (e : Event) (a b : Walk) → walks t a e b → b.at ≡ a.at + 1
step_at t (closes x) a b h = h.at
step_at t _ a b h = ap (λ (x : Walk). x.at) h.is

step_kept : (t u : Tape) (e : Event) (a b : Walk) → Keeps t u → Stays t u a.at → walks t a e b → walks u a e b
step_kept t u (opens x) a b keeps stays h = record { end = h.end; there = stays (Entry.Open x h.end) h.there; is = h.is }
step_kept t u (closes x) a b keeps stays h = record { there = stays (Entry.Close x) h.there; at = h.at; ends = h.ends }
step_kept t u e a b keeps stays h = record {
  tells = record { entry = h.tells.entry; there = stays h.tells.entry h.tells.there; is = keeps h.tells.entry e h.tells.is };
  is = h.is;
}

-- only what stands from its start on matters to a walk
walk_kept : (t u : Tape) (es : List Event) (a b : Walk) → Keeps t u → ((i : ℕ) → a.at ≤ i → Stays t u i) → Led (walks t) es a b → Led (walks u) es a b
walk_kept t u [] a b keeps stays h = h
walk_kept t u (e ∷ es) a b keeps stays h = (
  h.0,
  step_kept t u e a h.0 keeps (stays a.at (omega arith)) h.1,
  walk_kept t u es h.0 b keeps (λ i l. stays i (omega (arith, l, step_at t e a h.0 h.1))) h.2,
)

-- 4. The visitor.

-- events were written down behind what was there, where the same brackets are open, and lie there
record Written (es : List Event) (a b : Tape) : Type 0 where
  keeps : Keeps a b
  stays : (i : ℕ) → Stays a b i
  opened : b.opened.items ≡ a.opened.items
  led : (s : List ℕ) → Led (walks b) es (at a s) (at b s)

wrote_none : (a : Tape) → Written [] a a
wrote_none a = record { keeps = λ e x h. h; stays = λ i e h. h; opened = refl; led = λ s. refl }

-- an event that is no bracket
wrote_one : {e : Event} {a b : Tape} → ((x y : Walk) → Passes b x e y → walks b x e y) → Writes a b e → Written (e ∷ []) a b
wrote_one {a = a} {b = b} to w = record {
  keeps = grows_keeps w.grows;
  stays = λ i e h. grind (arith, common_steps, gets, w.entries, h);
  opened = w.grows.opened;
  led = λ s. (
    at b s,
    to (at a s) (at b s) (record {
      tells = record { entry = w.entry; there = grind (arith, common_steps, gets, w.entries); is = w.is };
      is = grind (arith, common_steps, w.entries);
    }),
    refl,
  );
}

-- some events, and others
wrote_both : {es fs : List Event} {a m b : Tape} → Written es a m → Written fs m b → Written (es ++ fs) a b
wrote_both {es = es} {fs = fs} {a = a} {m = m} {b = b} v w = record {
  keeps = λ e x h. w.keeps e x (v.keeps e x h);
  stays = λ i e h. w.stays i e (v.stays i e h);
  opened = w.opened ∙ v.opened;
  led = λ s. led_both (walks b) es fs (at a s) (at m s) (at b s) (walk_kept m b es (at a s) (at m s) w.keeps (λ i l. w.stays i) (v.led s)) (w.led s);
}

-- what stands between brackets
wrote_within : {x : Bracket} {es : List Event} {a m n b : Tape} → Opens a m x → Written es m n → Closes n b x → Written (within x es) a b
wrote_within {x = x} {es = es} {a = a} {m = m} {n = n} {b = b} o w c =
    let same = ends_alike b.opened.items a.opened.items c.place (size a) (sym c.opened ∙ w.opened ∙ o.opened) in
    let head = Entry.Open x (size n + 1) in
    let entries : b.entries.items ≡ set n.entries.items (size a) head ++ Entry.Close x ∷ [] = grind (arith, common_steps, c.entries, same.1) in
    let end : size b ≡ size n + 1 = grind (arith, common_steps, entries) in
    let inside : size a < size n = grind (arith, common_steps, gets, o.entries, w.stays (size a) (Entry.Open x 0)) in
    record {
      keeps = λ e y h. rests_keeps n b c.rests e y (w.keeps e y (rests_keeps a m o.rests e y h));
      stays = λ i e h. grind (arith, common_steps, gets, o.entries, entries, h, w.stays i e);
      opened = same.0;
      led = λ s. let t = (size n + 1) ∷ s in (
        at m t,
        record { end = size n + 1; there = grind (arith, common_steps, gets, entries, inside); is = grind (arith, common_steps, o.entries) },
        led_more (walks b) es (closes x) (at m t) (at n t) (at b s)
            (walk_kept n b es (at m t) (at n t) (rests_keeps n b c.rests) (λ i l e h. grind (arith, common_steps, gets, o.entries, entries, l, h)) (w.led t))
            (record { there = grind (arith, common_steps, gets, entries); at = end; ends = ap (λ i. i ∷ s) (sym end) }),
      );
    }

notes_wrote : (ss : List (Option (List ℕ))) (a b : Tape) → Led tapes (map annotation ss) a b → Written (map annotation ss) a b
notes_wrote [] a b h = subst (Written [] a) h (wrote_none a)
notes_wrote (s ∷ ss) a b h = wrote_both (wrote_one (λ x y z. z) h.1) (notes_wrote ss h.0 b h.2)

mutual
  value_written : {v : Value} {a b : Tape} → Told tapes v a b → Written (events_of v) a b
  value_written (value_told ss p a m b n h) =
      subst (λ es. Written es a b) (sym (events_out (annotated ss p))) (wrote_both (notes_wrote ss a m n) (payload_written h))

  payload_written : {p : Payload} {a b : Tape} → ToldPayload tapes p a b → Written (layer_events (out-Payload p)) a b
  payload_written (in_one p a b i h) = subst (λ es. Written es a b) (sym i) (wrote_one (λ x y z. z) h)
  payload_written (in_sequence l vs a m n b o i c) = subst (λ es. Written es a b) (sym (sequence_events l vs)) (wrote_within o (items_written i) c)
  payload_written (in_struct ms a m n b o i c) = subst (λ es. Written es a b) (sym (ap layer_events (outs-Fields ms))) (wrote_within o (fields_written i) c)

  items_written : {vs : List Value} {a b : Tape} → ToldItems tapes vs a b → Written (flat_map events_of vs) a b
  items_written (no_items a) = wrote_none a
  items_written (items_from v vs a m b x h) = wrote_both (value_written x) (items_written h)

  fields_written : {ms : List Field} {a b : Tape} → ToldFields tapes ms a b → Written (flat_map field_events ms) a b
  fields_written (no_fields a) = wrote_none a
  fields_written (fields_from f fs a n m b i x h) = wrote_both (wrote_one (λ x y z. z) i) (wrote_both (value_written x) (fields_written h))

-- a tape that was told a value's events from nothing holds the value
pub value_wrote : (v : Value) (a t : Tape) → IsBlank a → Led tapes (events_of v) a t → Holds t v
value_wrote v a t blank h =
    subst (λ n. Led (walks t) (events_of v) (record { at = n; ends = [] }) (at t [])) (ap length blank.entries) ((value_written (told_by tapes v a t h)).led [])

-- 5. What a tape tells.

pub walk_tells : (t : Tape) (e : Event) (a b : Walk) → walks t a e b → Tells t a.at e
walk_tells t (opens x) a b h = record { entry = Entry.Open x h.end; there = h.there; is = refl }
walk_tells t (closes x) a b h = record { entry = Entry.Close x; there = h.there; is = refl }
walk_tells t _ a b h = h.tells

events_walked : (t : Tape) (es : List Event) (a b : Walk) → Led (walks t) es a b → events_before t b.at ≡ events_before t a.at ++ es
events_walked t [] a b h = grind (arith, common_steps, h)
events_walked t (e ∷ es) a b h =
    let tells = walk_tells t e a h.0 h.1 in
    grind (arith, common_steps, gets, tells.there, tells.is, step_at t e a h.0 h.1, events_walked t es h.0 b h.2)

-- a tape that holds a value tells its events
pub value_tells : (v : Value) (t : Tape) → Holds t v → events_in t ≡ events_of v
value_tells v t h = grind (arith, common_steps, events_walked t (events_of v) (record { at = 0; ends = [] }) (at t []) h)
