-- What the visitor that builds makes of a value's events is the value; and so events are those of one value, and tell where it ends.
use Rattle.std.proofs.Common.{◌≡◌, ℕ, ◌<◌, zero, suc, List, [], ◌∷◌, ◌++◌, map, Bool, true, false, Option, Some, None, refl, ap, sym, subst, ◌∙◌, arith}
use Rattle.std.specs.List.{flat_map}
use Rattle.std.specs.Option.{unwrap_or}
use Rattle.std.proofs.lemmas.List.{append-nil, append_assoc}
use Rattle.ion_visiting.specs.Names.{Bracket, Built, Event, Field, Layer, Led, Open, Outer, Payload, Payload-F, Value, annotated, annotation, builds, built, closed, closes, depth, ended, events_of, field_events, fresh, greatest, layer_depth, layer_events, name, opened, opens, out-Payload, roll-out-Payload, value_in, with_closed, with_value, within}
use Rattle.ion_model.specs.declared.value.Payload.TheVariants as payloads
use Rattle.ion_model.specs.declared.value.Payload.TheViews.{roll-Payload}
use Rattle.ion_model.specs.laws.Measures.{depth-out}
use Rattle.ion_visiting.specs.laws.Led.{events_out, led_both}

-- whether an event is the end of a value of the top level
abbrev pub is_end : Event → Bool
is_end ended = true
is_end _ = false

-- an event inside of a value is taken where none of the top level has come yet
pub record Awaits (a : Built) (e : Event) (b : Built) : Type 0 where
  pub open_yet : value_in a.place ≡ None
  pub inside : is_end e ≡ false
  pub is : b ≡ built a e

abbrev at : List (Option (List ℕ)) → Open → List Outer → Built
at ss place outer = record { notes = ss; place = place; outer = outer }

-- one event, and then others
then : (e : Event) (es : List Event) (a b : Built) → is_end e ≡ false → value_in a.place ≡ None → Led Awaits es (built a e) b → Led Awaits (e ∷ es) a b
then e es a b inner free rest = (built a e, record { open_yet = free; inside = inner; is = refl }, rest)

-- annotations are put behind those that came
notes_built : (ss ts : List (Option (List ℕ))) (place : Open) (outer : List Outer) → value_in place ≡ None
    → Led Awaits (map annotation ss) (at ts place outer) (at (ts ++ ss) place outer)
notes_built [] ts place outer free = ap (λ w. at w place outer) (sym (append-nil ts))
notes_built (s ∷ ss) ts place outer free = then (annotation s) (map annotation ss) (at ts place outer) (at (ts ++ s ∷ ss) place outer) refl free
    (subst (λ w. Led Awaits (map annotation ss) (at (ts ++ s ∷ []) place outer) (at w place outer)) (append_assoc ts (s ∷ []) ss)
    (notes_built ss (ts ++ s ∷ []) place outer free))

-- values less than n deep are put into their place
record Puts (n : ℕ) : Type 0 where
  at_value : (v : Value) → depth v < n → (place : Open) (outer : List Outer) → value_in place ≡ None
      → Led Awaits (events_of v) (at [] place outer) (at [] (with_value place v) outer)

items_built : (n : ℕ) → Puts n → (vs ws : List Value) (outer : List Outer) → greatest (map depth vs) < n
    → Led Awaits (flat_map events_of vs) (at [] (Open.Items ws) outer) (at [] (Open.Items (ws ++ vs)) outer)
items_built n h [] ws outer small = ap (λ w. at [] (Open.Items w) outer) (sym (append-nil ws))
items_built n h (v ∷ vs) ws outer small = led_both Awaits (events_of v) (flat_map events_of vs) _ (at [] (Open.Items (ws ++ v ∷ [])) outer) _
    (h.at_value v (omega (arith, small)) (Open.Items ws) outer refl)
    (subst (λ w. Led Awaits (flat_map events_of vs) (at [] (Open.Items (ws ++ v ∷ [])) outer) (at [] (Open.Items w) outer))
    (append_assoc ws (v ∷ []) vs) (items_built n h vs (ws ++ v ∷ []) outer (omega (arith, small))))

fields_built : (n : ℕ) → Puts n → (ms ns : List Field) (outer : List Outer) → greatest (map (λ f. depth f.value) ms) < n
    → Led Awaits (flat_map field_events ms) (at [] (Open.Fields ns None) outer) (at [] (Open.Fields (ns ++ ms) None) outer)
fields_built n h [] ns outer small = ap (λ w. at [] (Open.Fields w None) outer) (sym (append-nil ns))
fields_built n h (m ∷ ms) ns outer small = then (name m.name) (events_of m.value ++ flat_map field_events ms) _ _ refl refl
    (led_both Awaits (events_of m.value) (flat_map field_events ms) _ (at [] (Open.Fields (ns ++ m ∷ []) None) outer) _
    (h.at_value m.value (omega (arith, small)) (Open.Fields ns (Some m.name)) outer refl)
    (subst (λ w. Led Awaits (flat_map field_events ms) (at [] (Open.Fields (ns ++ m ∷ []) None) outer) (at [] (Open.Fields w None) outer))
    (append_assoc ns (m ∷ []) ms) (fields_built n h ms (ns ++ m ∷ []) outer (omega (arith, small)))))

-- what stands between brackets is put as the value of the annotations before it
within_built : (x : Bracket) (es : List Event) (full : Open) (p : Payload) (ss : List (Option (List ℕ))) (place : Open) (outer : List Outer)
    → value_in place ≡ None → value_in full ≡ None → closed x full ≡ Some p
    → Led Awaits es (at [] (opened x) (record { place = place; notes = ss } ∷ outer)) (at [] full (record { place = place; notes = ss } ∷ outer))
    → Led Awaits (within x es) (at ss place outer) (at [] (with_value place (annotated ss p)) outer)
within_built x es full p ss place outer free free_inside is inside =
    let around = record { place = place; notes = ss } ∷ outer in
    then (opens x) (es ++ closes x ∷ []) _ _ refl free
    (led_both Awaits es (closes x ∷ []) _ (at [] full around) _ inside
    (then (closes x) [] (at [] full around) _ refl free_inside (ap (λ o. with_closed (at [] full around) o around) is)))

-- so is each payload, all whose values are less than n deep
layer_built : (n : ℕ) → Puts n → (d : Layer) → layer_depth d < suc n → (ss : List (Option (List ℕ))) (place : Open) (outer : List Outer)
    → value_in place ≡ None → Led Awaits (layer_events d) (at ss place outer) (at [] (with_value place (annotated ss (roll-Payload d))) outer)
unfolding roll-Payload denote.Hole.Carrier.roll
layer_built n h (Payload-F.List vs) small ss place outer free =
    within_built Bracket.List (flat_map events_of vs) (Open.Items vs) (payloads.List vs) ss place outer free refl refl
    (items_built n h vs [] _ (omega (arith, small)))
layer_built n h (Payload-F.Sexp vs) small ss place outer free =
    within_built Bracket.Sexp (flat_map events_of vs) (Open.Items vs) (payloads.Sexp vs) ss place outer free refl refl
    (items_built n h vs [] _ (omega (arith, small)))
layer_built n h (Payload-F.Fields ms) small ss place outer free =
    within_built Bracket.Fields (flat_map field_events ms) (Open.Fields ms None) (payloads.Fields ms) ss place outer free refl refl
    (fields_built n h ms [] _ (omega (arith, small)))
layer_built n h _ small ss place outer free = then _ [] _ _ refl free refl

each_built : (n : ℕ) → Puts n
each_built zero = record { at_value = λ v small place outer free. absurd (omega (arith, small)) }
each_built (suc n) = record {
  at_value = λ v small place outer free.
      let d = out-Payload v.payload in
      let ss = v.annotations in
      let whole = led_both Awaits (map annotation ss) (layer_events d) (at [] place outer) (at ss place outer) _ (notes_built ss [] place outer free)
      (layer_built n (each_built n) d (omega (arith, small, depth-out v)) ss place outer free) in
      subst (λ es. Led Awaits es (at [] place outer) (at [] (with_value place v) outer)) (sym (events_out v))
      (subst (λ p. Led Awaits (map annotation ss ++ layer_events d) (at [] place outer) (at [] (with_value place (annotated ss p)) outer))
      (roll-out-Payload v.payload) whole);
}

-- the events of a value put it into its place, where none has come yet and no annotations are left
pub value_awaited : (v : Value) (place : Open) (outer : List Outer) → value_in place ≡ None
    → Led Awaits (events_of v) (record { notes = []; place = place; outer = outer }) (record { notes = []; place = with_value place v; outer = outer })
value_awaited v = (each_built (suc (depth v))).at_value v (omega arith)

-- events lead to one state
one_way : (es : List Event) (a b c : Built) → Led Awaits es a b → Led builds es a c → c ≡ b
one_way [] a b c h k = sym k ∙ h
one_way (e ∷ es) a b c h k =
    let same : h.0 ≡ k.0 = h.1.is ∙ sym k.1 in one_way es h.0 b c h.2 (subst (λ x. Led builds es x c) (sym same) k.2)

-- the visitor that was told a value from nothing has built it
pub value_built : (v : Value) (b : Built) → Led builds (events_of v) fresh b → b ≡ record { notes = []; place = Open.Top (Some v); outer = [] }
value_built v b h = one_way (events_of v) fresh _ b (value_awaited v (Open.Top None) [] refl) h

abbrev first_or : Event → List Event → Event
first_or e [] = e
first_or e (f ∷ fs) = f

abbrev behind : List Event → List Event
behind [] = []
behind (e ∷ es) = es

not_yet : (a : Built) (v : Value) → value_in a.place ≡ None → value_in a.place ≡ Some v → ⊥
not_yet a v none some = cc

-- Of events that begin alike, those up to the first that ends a value are the same.
ends_once : (es fs gs hs : List Event) (a b c : Built) (v w : Value) → Led Awaits es a b → Led Awaits fs a c → value_in b.place ≡ Some v
    → value_in c.place ≡ Some w → es ++ gs ≡ fs ++ hs → (v ≡ w) × (gs ≡ hs)
ends_once [] [] gs hs a b c v w h k is_v is_w e =
    (ap (λ o. unwrap_or o v) (sym is_v ∙ ap (λ (x : Built). value_in x.place) (sym h ∙ k) ∙ is_w), e)
ends_once [] (f ∷ fs) gs hs a b c v w h k is_v is_w e =
    absurd (not_yet a v k.1.open_yet (ap (λ (x : Built). value_in x.place) h ∙ is_v))
ends_once (e ∷ es) [] gs hs a b c v w h k is_v is_w p =
    absurd (not_yet a w h.1.open_yet (ap (λ (x : Built). value_in x.place) k ∙ is_w))
ends_once (e ∷ es) (f ∷ fs) gs hs a b c v w h k is_v is_w p =
    let same : k.0 ≡ h.0 = k.1.is ∙ ap (built a) (sym (ap (first_or e) p)) ∙ sym h.1.is in
    ends_once es fs gs hs h.0 b c v w h.2 (subst (λ x. Led Awaits fs x c) same k.2) is_v is_w (ap behind p)

-- events are those of one value, whatever follows
pub events_one : (v w : Value) (es fs : List Event) → events_of v ++ es ≡ events_of w ++ fs → (v ≡ w) × (es ≡ fs)
events_one v w es fs e =
    ends_once (events_of v) (events_of w) es fs fresh _ _ v w (value_awaited v (Open.Top None) [] refl) (value_awaited w (Open.Top None) [] refl)
    refl refl e
