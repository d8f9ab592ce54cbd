-- Values whose events are such as the types keep are kept.
use Rattle.std.proofs.Common.{List, [], ◌∷◌, ◌++◌, append_assoc, append-nil, map, true, false, Option, ℕ, refl, sym, subst}
use Rattle.ion_visiting.specs.Names.{AreKept, AreTexts, Event, Field, IsKept, KeptFields, KeptItems, KeptPayload, Led, Payload, Value, annotation, events_of, stream_events}
use Rattle.ion_model.specs.Kept as kepts
use Rattle.ion_visiting.specs.KeptEvents.{AreKeptEvents, KeptEvent}
use Rattle.ion_visiting.specs.laws.Trees.{Told, ToldFields, ToldItems, ToldPayload, fields_from, in_one, in_sequence, in_struct, items_from, no_fields, no_items, told_by, value_told}

-- where a visitor takes only such events, those that led it on are such
pub led_kept : {S : Type 0} (takes : S → Event → S → Type 0) → ((a b : S) (e : Event) → takes a e b → KeptEvent e) → (es : List Event) (a b : S)
    → Led takes es a b → AreKeptEvents es
led_kept takes kept [] a b h = tt
led_kept takes kept (e ∷ es) a b h = (kept a h.0 e h.1, led_kept takes kept es h.0 b h.2)

-- of a visitor that holds nothing and takes only such events
abbrev keeps : Unit {0} → Event → Unit {0} → Type 0
keeps _ e _ = KeptEvent e

kept_led : (es fs : List Event) → AreKeptEvents (es ++ fs) → Led keeps es tt tt × AreKeptEvents fs
kept_led [] fs h = (refl, h)
kept_led (e ∷ es) fs h = let s = kept_led es fs h.1 in ((tt, h.0, s.0), s.1)

notes_kept : (ss : List (Option (List ℕ))) (a b : Unit {0}) → Led keeps (map annotation ss) a b → AreTexts ss
notes_kept [] a b h = tt
notes_kept (s ∷ ss) a b h = (h.1, notes_kept ss h.0 b h.2)

mutual
  told_kept : {v : Value} {a b : Unit {0}} → Told keeps v a b → IsKept v
  told_kept (value_told ss p a m b n h) = kepts.kept ss p (notes_kept ss a m n) (payload_kept h)

  payload_kept : {p : Payload} {a b : Unit {0}} → ToldPayload keeps p a b → KeptPayload p
  payload_kept (in_one p a b _ h) = h
  payload_kept (in_sequence true vs a m n b _ h _) = kepts.kept_list vs (items_kept h)
  payload_kept (in_sequence false vs a m n b _ h _) = kepts.kept_sexp vs (items_kept h)
  payload_kept (in_struct ms a m n b _ h _) = kepts.kept_fields ms (fields_kept h)

  items_kept : {vs : List Value} {a b : Unit {0}} → ToldItems keeps vs a b → KeptItems vs
  items_kept (no_items a) = kepts.no_items
  items_kept (items_from v vs a m b x h) = kepts.an_item v vs (told_kept x) (items_kept h)

  fields_kept : {ms : List Field} {a b : Unit {0}} → ToldFields keeps ms a b → KeptFields ms
  fields_kept (no_fields a) = kepts.no_fields
  fields_kept (fields_from f fs a n m b i x h) = kepts.a_field f.name f.value fs i (told_kept x) (fields_kept h)

pub value_kept : (v : Value) → AreKeptEvents (events_of v) → IsKept v
value_kept v h = told_kept (told_by keeps v tt tt (kept_led (events_of v) [] (subst AreKeptEvents (sym (append-nil (events_of v))) h)).0)

pub values_kept : (s : List Value) → AreKeptEvents (stream_events s) → AreKept s
values_kept [] h = tt
values_kept (v ∷ s) h =
    let k = kept_led (events_of v) _ (subst AreKeptEvents (append_assoc (events_of v) _ _) h) in (told_kept (told_by keeps v tt tt k.0), values_kept s k.1.1)
