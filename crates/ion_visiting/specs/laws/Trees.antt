-- Events that lead from one state to another, as the tree that their value is.
use Rattle.std.proofs.Common.{◌≡◌, ap, ℕ, ◌<◌, zero, suc, List, [], ◌∷◌, map, Bool, true, false, Option, subst, arith}
use Rattle.std.specs.List.{flat_map}
use Rattle.ion_visiting.specs.Names.{Bracket, Event, Field, Layer, Led, Payload, Payload-F, Value, annotated, annotation, closes, depth, events_of, field_events, greatest, layer_depth, layer_events, name, opens, out-Payload, outs-List, outs-Sexp, part, roll-out-Payload, within}
use Rattle.ion_model.specs.declared.value.Payload.TheVariants as payloads
use Rattle.ion_model.specs.declared.value.Payload.TheViews.{out-roll-Payload, roll-Payload}
use Rattle.ion_model.specs.laws.Measures.{depth-out}
use Rattle.ion_visiting.specs.laws.Led.{events_out, led_split}

-- a list, or else an s-expression
abbrev pub sequence : Bool → List Value → Payload
sequence true vs = payloads.List vs
sequence false vs = payloads.Sexp vs

abbrev pub sequence_bracket : Bool → Bracket
sequence_bracket true = Bracket.List
sequence_bracket false = Bracket.Sexp

pub sequence_events : (l : Bool) (vs : List Value) → layer_events (out-Payload (sequence l vs)) ≡ within (sequence_bracket l) (flat_map events_of vs)
sequence_events true vs = ap layer_events (outs-List vs)
sequence_events false vs = ap layer_events (outs-Sexp vs)

mutual
  -- annotations, then a payload
  pub data Told {S : Type 0} (takes : S → Event → S → Type 0) : Value → S → S → Type 0 where
    value_told : (ss : List (Option (List ℕ))) (p : Payload) (a m b : S) → Led takes (map annotation ss) a m → ToldPayload takes p m b
        → Told takes (annotated ss p) a b

  pub data ToldPayload {S : Type 0} (takes : S → Event → S → Type 0) : Payload → S → S → Type 0 where
    in_one : (p : Payload) (a b : S) → layer_events (out-Payload p) ≡ part p ∷ [] → takes a (part p) b → ToldPayload takes p a b
    in_sequence : (l : Bool) (vs : List Value) (a m n b : S) → takes a (opens (sequence_bracket l)) m → ToldItems takes vs m n
        → takes n (closes (sequence_bracket l)) b → ToldPayload takes (sequence l vs) a b
    in_struct : (ms : List Field) (a m n b : S) → takes a (opens Bracket.Fields) m → ToldFields takes ms m n → takes n (closes Bracket.Fields) b
        → ToldPayload takes (payloads.Fields ms) a b

  pub data ToldItems {S : Type 0} (takes : S → Event → S → Type 0) : List Value → S → S → Type 0 where
    no_items : (a : S) → ToldItems takes [] a a
    items_from : (v : Value) (vs : List Value) (a m b : S) → Told takes v a m → ToldItems takes vs m b → ToldItems takes (v ∷ vs) a b

  pub data ToldFields {S : Type 0} (takes : S → Event → S → Type 0) : List Field → S → S → Type 0 where
    no_fields : (a : S) → ToldFields takes [] a a
    fields_from : (f : Field) (fs : List Field) (a n m b : S) → takes a (name f.name) n → Told takes f.value n m → ToldFields takes fs m b
        → ToldFields takes (f ∷ fs) a b

module _ {S : Type 0} (takes : S → Event → S → Type 0) where
  -- values less than n deep
  record Trees (n : ℕ) : Type 0 where
    at_value : (v : Value) → depth v < n → (a b : S) → Led takes (events_of v) a b → Told takes v a b

  of_items : (n : ℕ) → Trees n → (vs : List Value) → greatest (map depth vs) < n → (a b : S) → Led takes (flat_map events_of vs) a b → ToldItems takes vs a b
  of_items n h [] small a b l = subst (ToldItems takes [] a) l (no_items a)
  of_items n h (v ∷ vs) small a b l =
      let s = led_split takes (events_of v) (flat_map events_of vs) a b l in
      items_from v vs a s.0 b (h.at_value v (omega (arith, small)) a s.0 s.1) (of_items n h vs (omega (arith, small)) s.0 b s.2)

  of_fields : (n : ℕ) → Trees n → (ms : List Field) → greatest (map (λ f. depth f.value) ms) < n → (a b : S) → Led takes (flat_map field_events ms) a b
      → ToldFields takes ms a b
  of_fields n h [] small a b l = subst (ToldFields takes [] a) l (no_fields a)
  of_fields n h (m ∷ ms) small a b l =
      let s = led_split takes (events_of m.value) (flat_map field_events ms) l.0 b l.2 in
      fields_from m ms a l.0 s.0 b l.1 (h.at_value m.value (omega (arith, small)) l.0 s.0 s.1) (of_fields n h ms (omega (arith, small)) s.0 b s.2)

  of_one : (p : Payload) (a b : S) → layer_events (out-Payload p) ≡ part p ∷ [] → Led takes (part p ∷ []) a b → ToldPayload takes p a b
  of_one p a b is l = subst (ToldPayload takes p a) l.2 (in_one p a l.0 is l.1)

  of_layer : (n : ℕ) → Trees n → (d : Layer) → layer_depth d < suc n → (a b : S) → Led takes (layer_events d) a b → ToldPayload takes (roll-Payload d) a b
  unfolding roll-Payload denote.Hole.Carrier.roll
  of_layer n h (Payload-F.List vs) small a b l =
      let s = led_split takes (flat_map events_of vs) (closes Bracket.List ∷ []) l.0 b l.2 in
      subst (ToldPayload takes (payloads.List vs) a) s.2.2
      (in_sequence true vs a l.0 s.0 s.2.0 l.1 (of_items n h vs (omega (arith, small)) l.0 s.0 s.1) s.2.1)
  of_layer n h (Payload-F.Sexp vs) small a b l =
      let s = led_split takes (flat_map events_of vs) (closes Bracket.Sexp ∷ []) l.0 b l.2 in
      subst (ToldPayload takes (payloads.Sexp vs) a) s.2.2
      (in_sequence false vs a l.0 s.0 s.2.0 l.1 (of_items n h vs (omega (arith, small)) l.0 s.0 s.1) s.2.1)
  of_layer n h (Payload-F.Fields ms) small a b l =
      let s = led_split takes (flat_map field_events ms) (closes Bracket.Fields ∷ []) l.0 b l.2 in
      subst (ToldPayload takes (payloads.Fields ms) a) s.2.2
      (in_struct ms a l.0 s.0 s.2.0 l.1 (of_fields n h ms (omega (arith, small)) l.0 s.0 s.1) s.2.1)
  of_layer n h d small a b l = of_one (roll-Payload d) a b (ap layer_events (out-roll-Payload d)) l

  trees : (n : ℕ) → Trees n
  trees zero = record { at_value = λ v small a b l. absurd (omega (arith, small)) }
  trees (suc n) = record {
    at_value = λ v small a b l.
        let d = out-Payload v.payload in
        let s = led_split takes (map annotation v.annotations) (layer_events d) a b (subst (λ es. Led takes es a b) (events_out v) l) in
        value_told v.annotations v.payload a s.0 b s.1
        (subst (λ p. ToldPayload takes p s.0 b) (roll-out-Payload v.payload) (of_layer n (trees n) d (omega (arith, small, depth-out v)) s.0 b s.2));
  }

  -- the events of a value
  pub told_by : (v : Value) (a b : S) → Led takes (events_of v) a b → Told takes v a b
  told_by v = (trees (suc (depth v))).at_value v (omega arith)
