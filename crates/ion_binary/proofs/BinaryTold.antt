-- What the visitor that writes binary values has written of events is the octets of the values that they are told of.
use Rattle.std.proofs.Common.{◌≡◌, ◌+◌, ℕ, ◌<◌, zero, suc, List, [], ◌∷◌, ◌++◌, map, length, take, drop, true, false, Option, refl, ap, sym, ◌∙◌, append_assoc, append-nil, length-append, arith}
use Rattle.std.specs.Prelude.{⊤}
use Rattle.std.specs.List.{flat_map}
use Rattle.std.proofs.lemmas.List.{take_at, drop_at}
use Rattle.std.proofs.lemmas.List.Sums.{fold-append}
use Rattle.ion_binary.specs.Names.{AreKept, AreKeptEvents, Bracket, Event, Field, IsKept, IsLater, Layer, Led, Names, Payload, Payload-F, Progress, Value, adds, after, annotation, behind, closes, code_in, depth, ended, events_of, field_events, field_octets, field_symbols, framed, greatest, id_of, ids_octets, layer_depth, layer_events, layer_octets, layer_symbols, names_after, nothing_yet, part, puts, stream_events, symbols_of, uint_octets, value_octets, var_uint_octets, with_count, with_name, with_names, within}
use Rattle.ion_model.specs.declared.value.Payload.TheVariants as payloads
use Rattle.ion_model.specs.declared.value.Payload.TheViews as views
use Rattle.ion_model.specs.laws.Measures.{depth-out}
use Rattle.ion_visiting.specs.laws.KeptEvents as kept_events
use Rattle.ion_visiting.specs.laws.Led.{events_out, led_both}
use Rattle.ion_binary.specs.Output.{wrapped}
use Rattle.ion_binary.specs.visiting.BinaryOut.{Encoded, Encodes, encoded, no_octets, of_values, with_begun, with_body, with_end, with_ended, with_frame, with_id, with_noted, with_part, with_value, wraps_next}
use Rattle.ion_binary.specs.laws.writing.Output.{octets-out, symbols-out}
use Rattle.ion_binary.proofs.Encoded.{framed_at}
use Rattle.ion_names.specs.laws.Later.{id_later, later_by, later_self}

-- 1. Events one behind the other.

-- what is written once all were told
abbrev encoded_all : List Event → Encoded → Encoded
encoded_all [] a = a
encoded_all (e ∷ es) a = encoded_all es (encoded a e)

led_encoded : (es : List Event) (a b : Encoded) → Led Encodes es a b → b ≡ encoded_all es a
led_encoded [] a b h = sym h
led_encoded (e ∷ es) a b h = led_encoded es h.0 b h.2 ∙ ap (encoded_all es) h.1.is

led_kept : (es : List Event) (a b : Encoded) → Led Encodes es a b → AreKeptEvents es
led_kept = kept_events.led_kept Encodes (λ a b e h. h.kept)

encoded_both : (es fs : List Event) (a : Encoded) → encoded_all (es ++ fs) a ≡ encoded_all fs (encoded_all es a)
encoded_both [] fs a = refl
encoded_both (e ∷ es) fs a = encoded_both es fs (encoded a e)

-- 2. What is put behind what stands there.

-- these symbols got ids, and octets were appended, which are these under whatever names are later; nothing else changed
record Puts (ss : Names) (w : Names → List ℕ) (a b : Encoded) : Type 0 where
  octets : List ℕ
  is : b ≡ record a { names = with_names a.names ss; value = octets }
  value : (later : Names) → IsLater (with_names a.names ss) later → octets ≡ a.value ++ w later

puts_none : (a : Encoded) → Puts [] (λ l. []) a a
puts_none a = record { octets = a.value; is = refl; value = λ later h. sym (append-nil a.value) }

puts_both : {ss ts : Names} {w u : Names → List ℕ} {a m b : Encoded} → Puts ss w a m → Puts ts u m b → Puts (ss ++ ts) (λ l. w l ++ u l) a b
puts_both {ss = ss} {ts = ts} {w = w} {a = a} f g =
    let k = rw f.is at g in
    let names = fold-append with_name a.names ss ts in
    record {
      octets = k.octets;
      is = rw names k.is;
      value = λ later h.
          let l = rw names at h in
          k.value later l ∙ rw (f.value later (later_by (with_names a.names ss) ts _ later refl l), append_assoc a.value (w later)) refl;
    }

-- what is written is what it is under the names behind it
exact : {ss : Names} {w : Names → List ℕ} {a b : Encoded} → Puts ss w a b
    → b ≡ record a { names = with_names a.names ss; value = a.value ++ w (with_names a.names ss) }
exact p = rw (← p.value _ (later_self _)) p.is

id_of_puts : (s : Option (List ℕ)) (a : Encoded) → Puts (s ∷ []) (λ l. var_uint_octets (id_of l s)) a (with_id a s)
id_of_puts s a = record {
  octets = (with_id a s).value;
  is = refl;
  value = λ later h. ap (λ n. a.value ++ var_uint_octets n) (id_later a.names s _ later refl h);
}

-- 3. Payloads.

-- a value may begin, and no annotations stand before it
record IsFree (a : Encoded) : Type 0 where
  noted : a.noted ≡ false
  bare : wraps_next a.frames ≡ false

-- these events, told so, have these symbols and these octets
abbrev PutsTold : List Event → Names → (Names → List ℕ) → Type 0
PutsTold es ss w = (a : Encoded) → IsFree a → Puts ss w a (encoded_all es a)

told_both : (es fs : List Event) {ss ts : Names} {w u : Names → List ℕ} → PutsTold es ss w → PutsTold fs ts u
    → PutsTold (es ++ fs) (ss ++ ts) (λ l. w l ++ u l)
told_both es fs f g a free =
    let one = f a free in
    rw (encoded_both es fs a) (puts_both one (g (encoded_all es a) (rw one.is (record { noted = free.noted; bare = free.bare }))))

-- each of them
abbrev EachPuts : {X : Type 0} → (X → List Event) → (X → Names) → (Names → X → List ℕ) → List X → Type 0
EachPuts events symbols octets [] = ⊤
EachPuts events symbols octets (x ∷ xs) = PutsTold (events x) (symbols x) (λ l. octets l x) × EachPuts events symbols octets xs

items_put : {X : Type 0} (events : X → List Event) (symbols : X → Names) (octets : Names → X → List ℕ) (xs : List X) → EachPuts events symbols octets xs
    → PutsTold (flat_map events xs) (flat_map symbols xs) (λ l. flat_map (octets l) xs)
items_put events symbols octets [] h a free = puts_none a
items_put events symbols octets (x ∷ xs) h a free = told_both (events x) (flat_map events xs) h.0 (items_put events symbols octets xs h.1) a free

-- what events of a payload lead to, before what its annotations are about is ended
record PutsPayload (ss : Names) (w : Names → List ℕ) (es : List Event) (a : Encoded) : Type 0 where
  behind : Encoded
  is : encoded_all es a ≡ with_ended behind
  puts : Puts ss w (with_begun a) behind

within_put : (x : Bracket) (ss : Names) (w : Names → List ℕ) (es : List Event) (a : Encoded) → PutsTold es ss w
    → PutsPayload ss (λ l. framed (code_in x) (w l)) (within x es) a
within_put x ss w es a h =
    let b = with_begun a in
    let p = h (with_frame b false) (record { noted = refl; bare = refl }) in
    record {
      behind = with_body (encoded_all es (with_frame b false)) (code_in x);
      is = encoded_both es (closes x ∷ []) (with_frame b false);
      puts = record {
        octets = take (length b.value) p.octets ++ framed (code_in x) (drop (length b.value + 1) p.octets);
        is = ap (λ m. with_body m (code_in x)) p.is;
        value = λ later l. framed_at (code_in x) (length b.value) b.value (w later) p.octets _ refl (p.value later l) refl;
      };
    }

-- a payload with no value in it, whose octets are the same under later names
part_put : (p : Payload) (d : Layer) (a : Encoded) → views.out-Payload p ≡ d
    → ((names later : Names) → IsLater (with_names names (layer_symbols d)) later → layer_octets (with_names names (layer_symbols d)) d ≡ layer_octets later d)
    → PutsPayload (layer_symbols d) (λ l. layer_octets l d) (part p ∷ []) a
part_put p d a is same = record {
  behind = with_part (with_begun a) p;
  is = refl;
  puts = record {
    octets = (with_begun a).value ++ layer_octets (with_names a.names (layer_symbols d)) d;
    is = rw is refl;
    value = λ later h. ap (λ w. (with_begun a).value ++ w) (same a.names later h);
  };
}

-- values less than n deep are put
record PutsEach (n : ℕ) : Type 0 where
  value : (v : Value) → depth v < n → PutsTold (events_of v) (symbols_of v) (λ l. value_octets l v)

module _ (n : ℕ) (h : PutsEach n) where
  values_put : (vs : List Value) → greatest (map depth vs) < n → EachPuts events_of symbols_of value_octets vs
  values_put [] small = tt
  values_put (v ∷ vs) small = (h.value v (omega (arith, small)), values_put vs (omega (arith, small)))

  fields_put : (ms : List Field) → greatest (map (λ f. depth f.value) ms) < n → EachPuts field_events field_symbols field_octets ms
  fields_put [] small = tt
  fields_put (f ∷ fs) small = (
    told_both (Event.name f.name ∷ []) (events_of f.value) (λ a free. id_of_puts f.name a) (h.value f.value (omega (arith, small))),
    fields_put fs (omega (arith, small)),
  )

  layer_put : (d : Layer) → layer_depth d < suc n → (a : Encoded) → PutsPayload (layer_symbols d) (λ l. layer_octets l d) (layer_events d) a
  layer_put (Payload-F.Null k) small a = part_put _ _ a (views.outs-Null k) (λ names later l. refl)
  layer_put (Payload-F.Truth t) small a = part_put _ _ a (views.outs-Truth t) (λ names later l. refl)
  layer_put (Payload-F.Int z) small a = part_put _ _ a (views.outs-Int z) (λ names later l. refl)
  layer_put (Payload-F.Decimal d) small a = part_put _ _ a (views.outs-Decimal d) (λ names later l. refl)
  layer_put (Payload-F.Timestamp t) small a = part_put _ _ a (views.outs-Timestamp t) (λ names later l. refl)
  layer_put (Payload-F.Symbol s) small a = part_put _ _ a (views.outs-Symbol s)
      (λ names later l. ap (λ i. framed 7 (uint_octets i)) (id_later names s (with_name names s) later refl l))
  layer_put (Payload-F.Str w) small a = part_put _ _ a (views.outs-Str w) (λ names later l. refl)
  layer_put (Payload-F.Clob w) small a = part_put _ _ a (views.outs-Clob w) (λ names later l. refl)
  layer_put (Payload-F.Blob w) small a = part_put _ _ a (views.outs-Blob w) (λ names later l. refl)
  layer_put (Payload-F.List vs) small a = within_put Bracket.List _ _ (flat_map events_of vs) a
      (items_put events_of symbols_of value_octets vs (values_put vs (omega (arith, small))))
  layer_put (Payload-F.Sexp vs) small a = within_put Bracket.Sexp _ _ (flat_map events_of vs) a
      (items_put events_of symbols_of value_octets vs (values_put vs (omega (arith, small))))
  layer_put (Payload-F.Fields ms) small a = within_put Bracket.Fields _ _ (flat_map field_events ms) a
      (items_put field_events field_symbols field_octets ms (fields_put ms (omega (arith, small))))

-- 4. Values.

begun_free : (a : Encoded) → a.noted ≡ false → with_begun a ≡ a
begun_free a free = rw free refl

-- the ids of annotations
notes_put : (ss : Names) (a : Encoded) → a.noted ≡ true → Puts ss (λ l. ids_octets l ss) a (encoded_all (map annotation ss) a)
notes_put [] a is = puts_none a
notes_put (s ∷ ss) a is =
    let noted : with_noted a ≡ a = rw is refl in
    rw (encoded_all, noted) (puts_both (id_of_puts s a) (notes_put ss (with_id a s) is))

-- a number before the octets behind a place
counted_at : (old ids : List ℕ) → let mid = (old ++ 0 ∷ []) ++ ids in
    take (length old + 1) mid ++ with_count (drop (length old + 1) mid) ≡ (old ++ 0 ∷ []) ++ with_count ids
counted_at old ids =
    let long : length (old ++ 0 ∷ []) ≡ length old + 1 = omega (arith, length-append old (0 ∷ [])) in
    rw (take_at (old ++ 0 ∷ []) ids (length old + 1) long, drop_at (old ++ 0 ∷ []) ids (length old + 1) long) refl

-- a payload behind annotations, whose ids stand behind the place of a wrapper's descriptor
wrapped_put : (ss ts : Names) (u w : Names → List ℕ) (es : List Event) (a n : Encoded) → a.noted ≡ false
    → Puts ss u (record (with_frame a true) { noted = true }) n → PutsPayload ts w es n
    → Puts (ss ++ ts) (λ l. framed 14 (with_count (u l) ++ w l)) a (encoded_all es n)
wrapped_put ss ts u w es a n free notes p =
    let names = fold-append with_name a.names ss ts in
    record {
      octets = take (length a.value) p.puts.octets ++ framed 14 (drop (length a.value + 1) p.puts.octets);
      is = rw (p.is, p.puts.is, notes.is, names, free) refl;
      value = λ later h.
          let l = rw names at h in
          let ids = notes.value later (later_by (with_names a.names ss) ts _ later refl l) in
          let told = rw notes.is at (p.puts.value later) in
          framed_at 14 (length a.value) a.value (with_count (u later) ++ w later) p.puts.octets _ refl
          (told l ∙ rw (ids, counted_at a.value (u later)) (append_assoc (a.value ++ 0 ∷ []) (with_count (u later)) (w later))) refl;
    }

-- a payload with its annotations
value_by : (ss ts : Names) (w : Names → List ℕ) (es : List Event) (a : Encoded) → IsFree a → PutsPayload ts w es (encoded_all (map annotation ss) a)
    → Puts (ss ++ ts) (λ l. wrapped l ss (w l)) a (encoded_all es (encoded_all (map annotation ss) a))
value_by [] ts w es a free p =
    let puts = rw (begun_free a free.noted) at p.puts in
    let last : with_ended p.behind ≡ p.behind = rw (puts.is, free.bare) refl in
    rw (p.is, last) puts
value_by (s ∷ ss) ts w es a free p =
    let m = record (with_frame a true) { noted = true } in
    let noted : with_noted a ≡ m = rw free.noted refl in
    wrapped_put (s ∷ ss) ts (λ l. ids_octets l (s ∷ ss)) w es a _ free.noted
    (rw (encoded_all, noted) (notes_put (s ∷ ss) m refl)) p

each_put : (n : ℕ) → PutsEach n
each_put zero = record { value = λ v small a free. absurd (omega (arith, small)) }
each_put (suc n) = record {
  value = λ v small a free.
      let d = views.out-Payload v.payload in
      let p = value_by v.annotations (layer_symbols d) (λ l. layer_octets l d) (layer_events d) a free
      (layer_put n (each_put n) d (omega (arith, small, depth-out v)) (encoded_all (map annotation v.annotations) a)) in
      rw (events_out v, encoded_both (map annotation v.annotations) (layer_events d) a, symbols-out v)
      (record { octets = p.octets; is = p.is; value = λ later h. rw (octets-out later v) (p.value later h) });
}

-- a value gets its symbols and its octets
value_put : (v : Value) (a : Encoded) → IsFree a → encoded_all (events_of v) a ≡ with_value a v
value_put v a free = exact ((each_put (suc (depth v))).value v (omega arith) a free)

-- 5. Values of the top level.

ended_put : (v : Value) (w : List ℕ) (p : Progress) → encoded_all (events_of v ++ ended ∷ []) (of_values w p) ≡ of_values (w ++ adds p v) (after p v)
ended_put v w p =
    encoded_both (events_of v) (ended ∷ []) (of_values w p)
    ∙ (ap with_end (value_put v (of_values w p) (record { noted = refl; bare = refl })) ∙ ap (λ x. of_values x (after p v)) (simp append_assoc))

values_put_behind : (s : List Value) (w : List ℕ) (p : Progress) → encoded_all (stream_events s) (of_values w p) ≡ of_values (w ++ puts p s) (behind p s)
values_put_behind [] w p = ap (λ x. of_values x p) (sym (append-nil w))
values_put_behind (v ∷ s) w p = rw (
  encoded_both (events_of v ++ ended ∷ []) (stream_events s) (of_values w p),
  ended_put v w p,
  values_put_behind s (w ++ adds p v) (after p v),
  append_assoc w (adds p v),
) refl

-- values that were told and ended are written as what they add to a document, and are kept
pub values_told : (s : List Value) (b : Encoded) → Led Encodes (stream_events s) no_octets b
    → (b ≡ of_values (puts nothing_yet s) (behind nothing_yet s)) × AreKept s
values_told s b h = (
  led_encoded (stream_events s) no_octets b h ∙ values_put_behind s [] nothing_yet,
  kept_events.values_kept s (led_kept (stream_events s) no_octets b h),
)

-- a value that is told gets its symbols and its octets, and is kept
pub value_told : (v : Value) (a b : Encoded) → a.noted ≡ false → wraps_next a.frames ≡ false → Led Encodes (events_of v) a b
    → (b ≡ with_value a v) × IsKept v
value_told v a b noted bare h = (
  led_encoded (events_of v) a b h ∙ value_put v a (record { noted = noted; bare = bare }),
  kept_events.value_kept v (led_kept (events_of v) a b h),
)

-- a value is told behind those of which nothing is kept but the ids
module _ (p q : Progress) (is : q ≡ p) (v : Value) (a m : Encoded) (gone : a ≡ of_values [] q) (led : Led Encodes (events_of v) a m) where
  begun_at : Led Encodes (events_of v) (of_values [] p) m
  begun_at = rw is at (rw gone at led)

  -- the symbols that have ids then
  pub names_told : m.names ≡ names_after p.names v
  names_told = ap (λ (x : Encoded). x.names) (value_told v (of_values [] p) m refl refl begun_at).0

  pub value_kept : IsKept v
  value_kept = (value_told v (of_values [] p) m refl refl begun_at).1

  -- its end is behind what it adds
  pub end_told : (b : Encoded) → Encodes m ended b → b ≡ of_values (adds p v) (after p v)
  end_told b end =
      led_encoded (events_of v ++ ended ∷ []) (of_values [] p) b
      (led_both Encodes (events_of v) (ended ∷ []) (of_values [] p) m b begun_at (b, end, refl))
      ∙ ended_put v [] p

-- 6. Parts without symbols.

-- octets behind what stood there are those of a payload with no symbol in it
pub scalar_put : (v a : Encoded) (p : Payload) (d : Layer) (octets w : List ℕ) → v ≡ a → views.out-Payload p ≡ d → layer_symbols d ≡ []
    → ((names : Names) → octets ≡ layer_octets names d) → w ≡ v.value ++ octets → record v { value = w } ≡ with_part a p
scalar_put v a p d octets w e f none same put = rw (put, same a.names, e, f, none) refl

-- 7. Symbols.

-- a symbol's id behind what stood there
pub id_put : (v m a : Encoded) (s : Option (List ℕ)) (id : ℕ) (w : List ℕ) → v ≡ m → m ≡ record a { names = with_name a.names s }
    → ((later : Names) → IsLater m.names later → id ≡ id_of later s) → w ≡ v.value ++ var_uint_octets id → record v { value = w } ≡ with_id a s
id_put v m a s id w e f known put = rw (put, known m.names (later_self m.names), e, f) refl

-- a symbol as a value behind what stood there
pub symbol_put : (v m a : Encoded) (s : Option (List ℕ)) (id : ℕ) (w : List ℕ) → v ≡ m → m ≡ record a { names = with_name a.names s }
    → ((later : Names) → IsLater m.names later → id ≡ id_of later s) → w ≡ v.value ++ framed 7 (uint_octets id)
    → record v { value = w } ≡ with_part a (payloads.Symbol s)
symbol_put v m a s id w e f known put = rw (put, known m.names (later_self m.names), e, f, views.outs-Symbol s) refl
