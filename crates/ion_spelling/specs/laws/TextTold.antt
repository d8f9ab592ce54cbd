-- What the visitor that writes text has written of events is the text of the values that they are told of.
use Rattle.std.proofs.Common.{◌≡◌, ℕ, ◌<◌, zero, suc, List, [], ◌∷◌, ◌++◌, map, length, Option, Some, None, refl, ap, sym, ◌∙◌, append_assoc, append-nil, arith}
use Rattle.std.specs.Prelude.{codes, ⊤}
use Rattle.std.specs.List.{flat_map}
use Rattle.std.proofs.lemmas.List.{take_all}
use Rattle.ion_spelling.specs.Names.{AreKept, AreKeptEvents, Bracket, Event, Field, IsKept, Layer, Led, Payload, Payload-F, Value, Writes, Written, adds, annotation, between, bracket_close, depth, enclosed, events_of, field_events, field_text, front, greatest, layer_depth, layer_events, layer_text, lines, no_text, notes_text, octet_between, open_octet, part, stream_events, symbol_text, text_of, value_text, with_begun, with_close, with_item, with_open, wrote}
use Rattle.ion_model.specs.declared.value.Payload.TheViews as views
use Rattle.ion_model.specs.laws.Measures.{depth-out}
use Rattle.ion_visiting.specs.Events.{closes, ended, within}
use Rattle.ion_visiting.specs.laws.KeptEvents as kept_events
use Rattle.ion_visiting.specs.laws.Led.{events_out}
use Rattle.ion_spelling.specs.laws.Output.{text-out}

-- 1. Events one behind the other.

-- what is written once all were told
abbrev wrote_all : List Event → Written → Written
wrote_all [] a = a
wrote_all (e ∷ es) a = wrote_all es (wrote a e)

led_wrote : (es : List Event) (a b : Written) → Led Writes es a b → b ≡ wrote_all es a
led_wrote [] a b h = sym h
led_wrote (e ∷ es) a b h = led_wrote es h.0 b h.2 ∙ ap (wrote_all es) h.1.is

led_kept : (es : List Event) (a b : Written) → Led Writes es a b → AreKeptEvents es
led_kept = kept_events.led_kept Writes (λ a b e h. h.kept)

wrote_both : (es fs : List Event) (a : Written) → wrote_all (es ++ fs) a ≡ wrote_all fs (wrote_all es a)
wrote_both [] fs a = refl
wrote_both (e ∷ es) fs a = wrote_both es fs (wrote a e)

-- 2. What is written of a value is its text.

abbrev at : List ℕ → ℕ → List Bracket → Option ℕ → Written
at w n xs o = record { octets = w; whole = n; around = xs; before = o }

-- an item that began goes on
item_behind : (a : Written) (u w : List ℕ) → with_item (with_begun a u) w ≡ with_item a (u ++ w)
item_behind a u w =
    ap (λ x. at x a.whole a.around (between a.around)) (ap (λ x. x ++ w) (append-nil (front a ++ u)) ∙ append_assoc (front a) u w)

-- annotations begin the item that follows
notes_wrote : (ss : List (Option (List ℕ))) (a : Written) (w : List ℕ) → with_item (wrote_all (map annotation ss) a) w ≡ with_item a (notes_text ss ++ w)
notes_wrote [] a w = refl
notes_wrote (s ∷ ss) a w =
    let u = symbol_text s ++ codes "::" in
    notes_wrote ss (with_begun a u) w ∙ item_behind a u (notes_text ss ++ w) ∙ ap (with_item a) (sym (append_assoc u (notes_text ss) w))

-- each of these, told so, is written as an item of this text
abbrev EachWrote : {X : Type 0} → (X → List Event) → (X → List ℕ) → List X → Type 0
EachWrote events text [] = ⊤
EachWrote events text (x ∷ xs) = ((a : Written) → wrote_all (events x) a ≡ with_item a (text x)) × EachWrote events text xs

-- items behind a first one, each behind what stands between them
others_wrote : {X : Type 0} (events : X → List Event) (text : X → List ℕ) (x : Bracket) (around : List Bracket) (n : ℕ) (ys : List X)
    → EachWrote events text ys → (w : List ℕ)
    → wrote_all (flat_map events ys) (at w n (x ∷ around) (Some (octet_between x)))
    ≡ at (w ++ flat_map (λ t. octet_between x ∷ t) (map text ys)) n (x ∷ around) (Some (octet_between x))
others_wrote events text x around n [] h w = ap (λ u. at u n (x ∷ around) (Some (octet_between x))) (sym (append-nil w))
others_wrote events text x around n (y ∷ ys) h w =
    let by = octet_between x ∷ [] in
    let rest = flat_map (λ t. octet_between x ∷ t) (map text ys) in
    wrote_both (events y) (flat_map events ys) _
    ∙ ap (wrote_all (flat_map events ys)) (h.0 (at w n (x ∷ around) (Some (octet_between x))))
    ∙ others_wrote events text x around n ys h.1 ((w ++ by) ++ text y)
    ∙ ap (λ u. at u n (x ∷ around) (Some (octet_between x))) (append_assoc (w ++ by) (text y) rest ∙ append_assoc w by (text y ++ rest))

append_five : (f o t r c : List ℕ) → ((((f ++ o) ++ []) ++ t) ++ r) ++ c ≡ f ++ ((o ++ (t ++ r)) ++ c)
append_five f o t r c =
    ap (λ z. ((z ++ t) ++ r) ++ c) (append-nil (f ++ o))
    ∙ ap (λ z. z ++ c) (append_assoc (f ++ o) t r ∙ append_assoc f o (t ++ r))
    ∙ append_assoc f (o ++ (t ++ r)) c

-- what stands between brackets, and they, are one item
closed_wrote : {X : Type 0} (events : X → List Event) (text : X → List ℕ) (x : Bracket) (ys : List X) → EachWrote events text ys → (a : Written)
    → with_close (wrote_all (flat_map events ys) (with_open a x)) x
    ≡ with_item a (enclosed (open_octet x ∷ []) (octet_between x ∷ []) (bracket_close x ∷ []) (map text ys))
closed_wrote events text x [] h a =
    ap (λ u. at u a.whole a.around (between a.around)) (append_assoc (front a) (open_octet x ∷ []) (bracket_close x ∷ []))
closed_wrote events text x (y ∷ ys) h a =
    let first = open_octet x ∷ [] in
    let last = bracket_close x ∷ [] in
    let rest = flat_map (λ t. octet_between x ∷ t) (map text ys) in
    ap (λ b. with_close b x) (wrote_both (events y) (flat_map events ys) (with_open a x)
    ∙ ap (wrote_all (flat_map events ys)) (h.0 (with_open a x))
    ∙ others_wrote events text x a.around a.whole ys h.1 (((front a ++ first) ++ []) ++ text y))
    ∙ ap (λ u. at u a.whole a.around (between a.around)) (append_five (front a) first (text y) rest last)

within_wrote : {X : Type 0} (events : X → List Event) (text : X → List ℕ) (x : Bracket) (ys : List X) → EachWrote events text ys → (a : Written)
    → wrote_all (within x (flat_map events ys)) a
    ≡ with_item a (enclosed (open_octet x ∷ []) (octet_between x ∷ []) (bracket_close x ∷ []) (map text ys))
within_wrote events text x ys h a = wrote_both (flat_map events ys) (closes x ∷ []) (with_open a x) ∙ closed_wrote events text x ys h a

-- values less than n deep are written as items of their texts
record Wrote (n : ℕ) : Type 0 where
  value : (v : Value) → depth v < n → (a : Written) → wrote_all (events_of v) a ≡ with_item a (value_text v)

items_wrote : (n : ℕ) → Wrote n → (vs : List Value) → greatest (map depth vs) < n → EachWrote events_of value_text vs
items_wrote n h [] small = tt
items_wrote n h (v ∷ vs) small = (h.value v (omega (arith, small)), items_wrote n h vs (omega (arith, small)))

fields_wrote : (n : ℕ) → Wrote n → (ms : List Field) → greatest (map (λ f. depth f.value) ms) < n → EachWrote field_events field_text ms
fields_wrote n h [] small = tt
fields_wrote n h (m ∷ ms) small = (
  λ a.
      let u = symbol_text m.name ++ codes ":" in
      h.value m.value (omega (arith, small)) (with_begun a u) ∙ item_behind a u (value_text m.value)
      ∙ ap (with_item a) (append_assoc (symbol_text m.name) (codes ":") (value_text m.value)),
  fields_wrote n h ms (omega (arith, small)),
)

-- a part is an item of its text
part_wrote : (p : Payload) (d : Layer) (a : Written) → views.out-Payload p ≡ d → wrote_all (part p ∷ []) a ≡ with_item a (layer_text d)
part_wrote p d a is = ap (λ l. with_item a (layer_text l)) is

layer_wrote : (n : ℕ) → Wrote n → (d : Layer) → layer_depth d < suc n → (a : Written) → wrote_all (layer_events d) a ≡ with_item a (layer_text d)
layer_wrote n h (Payload-F.Null k) small a = part_wrote _ _ a (views.outs-Null k)
layer_wrote n h (Payload-F.Truth t) small a = part_wrote _ _ a (views.outs-Truth t)
layer_wrote n h (Payload-F.Int z) small a = part_wrote _ _ a (views.outs-Int z)
layer_wrote n h (Payload-F.Decimal d) small a = part_wrote _ _ a (views.outs-Decimal d)
layer_wrote n h (Payload-F.Timestamp t) small a = part_wrote _ _ a (views.outs-Timestamp t)
layer_wrote n h (Payload-F.Symbol t) small a = part_wrote _ _ a (views.outs-Symbol t)
layer_wrote n h (Payload-F.Str w) small a = part_wrote _ _ a (views.outs-Str w)
layer_wrote n h (Payload-F.Clob w) small a = part_wrote _ _ a (views.outs-Clob w)
layer_wrote n h (Payload-F.Blob w) small a = part_wrote _ _ a (views.outs-Blob w)
layer_wrote n h (Payload-F.List vs) small a = within_wrote events_of value_text Bracket.List vs (items_wrote n h vs (omega (arith, small))) a
layer_wrote n h (Payload-F.Sexp vs) small a = within_wrote events_of value_text Bracket.Sexp vs (items_wrote n h vs (omega (arith, small))) a
layer_wrote n h (Payload-F.Fields ms) small a = within_wrote field_events field_text Bracket.Fields ms (fields_wrote n h ms (omega (arith, small))) a

each_wrote : (n : ℕ) → Wrote n
each_wrote zero = record { value = λ v small a. absurd (omega (arith, small)) }
each_wrote (suc n) = record {
  value = λ v small a.
      let d = views.out-Payload v.payload in
      let ss = v.annotations in
      ap (λ es. wrote_all es a) (events_out v) ∙ wrote_both (map annotation ss) (layer_events d) a
      ∙ layer_wrote n (each_wrote n) d (omega (arith, small, depth-out v)) (wrote_all (map annotation ss) a)
      ∙ notes_wrote ss a (layer_text d) ∙ ap (with_item a) (sym (text-out v));
}

value_wrote : (v : Value) (a : Written) → wrote_all (events_of v) a ≡ with_item a (value_text v)
value_wrote v = (each_wrote (suc (depth v))).value v (omega arith)

-- a value that was told is written behind what was, and is kept
pub value_told : (v : Value) (a b : Written) → Led Writes (events_of v) a b → (b ≡ with_item a (value_text v)) × IsKept v
value_told v a b h = (led_wrote (events_of v) a b h ∙ value_wrote v a, kept_events.value_kept v (led_kept (events_of v) a b h))

-- 3. Values of the top level.

-- lines, and nothing behind them
abbrev of_lines : List ℕ → Written
of_lines w = at w (length w) [] None

values_wrote : (s : List Value) (w : List ℕ) → wrote_all (stream_events s) (of_lines w) ≡ of_lines (w ++ text_of s)
values_wrote [] w = ap of_lines (sym (append-nil w))
values_wrote (v ∷ s) w =
    wrote_both (events_of v ++ ended ∷ []) (stream_events s) (of_lines w)
    ∙ ap (wrote_all (stream_events s)) (wrote_both (events_of v) (ended ∷ []) (of_lines w)
    ∙ ap (wrote_all (ended ∷ [])) (value_wrote v (of_lines w))
    ∙ ap of_lines (ap (λ x. (x ++ value_text v) ++ codes "\n") (append-nil w) ∙ append_assoc w (value_text v) (codes "\n")))
    ∙ values_wrote s (w ++ adds v) ∙ ap of_lines (append_assoc w (adds v) (text_of s))

-- values that were told and ended are written as their document, of whole lines, and are kept
pub values_told : (s : List Value) (b : Written) → Led Writes (stream_events s) no_text b
    → (b.octets ≡ text_of s) × (lines b ≡ text_of s) × AreKept s
values_told s b h =
    let end : b ≡ of_lines (text_of s) = led_wrote (stream_events s) no_text b h ∙ values_wrote s [] in (
      ap (λ (x : Written). x.octets) end,
      ap lines end ∙ take_all (length (text_of s)) (text_of s) (omega arith),
      kept_events.values_kept s (led_kept (stream_events s) no_text b h),
    )

-- 4. What is written behind other octets.
pub value_behind : (v : Value) (front : List ℕ) (b : Written) → Led Writes (events_of v) (record no_text { octets = front }) b
    → (b.octets ≡ front ++ value_text v) × IsKept v
value_behind v front b h =
    let k = value_told v (record no_text { octets = front }) b h in
    (ap (λ (x : Written). x.octets) k.0 ∙ ap (λ w. w ++ value_text v) (append-nil front), k.1)
