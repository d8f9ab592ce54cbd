-- Values that are kept, behind values that are; and by levels.
use Rattle.std.proofs.Common.{ℕ, List, [], ◌∷◌, ◌++◌, Option, subst}
use Rattle.ion_model.specs.Names.{AreTexts, Field, IsText, Layer, Payload-F, Value, field_of, out-Payload, roll-out-Payload}
use Rattle.ion_model.specs.Kept.{AreKept, IsKept, KeptFields, KeptItems, KeptLayer, KeptPayload, a_field, an_item, kept, kept_blob, kept_clob, kept_decimal, kept_fields, kept_int, kept_list, kept_null, kept_sexp, kept_string, kept_symbol, kept_timestamp, kept_truth, no_fields, no_items}
use Rattle.ion_model.specs.declared.value.Payload.TheViews.{roll-Payload}

-- symbols that are kept, behind others that are, are kept
pub texts_both : (ss ts : List (Option (List ℕ))) → AreTexts ss → AreTexts ts → AreTexts (ss ++ ts)
texts_both [] ts h k = k
texts_both (s ∷ ss) ts h k = (h.0, texts_both ss ts h.1 k)

-- symbols that are kept stay so with one more that is
pub texts_last : (ss : List (Option (List ℕ))) (s : Option (List ℕ)) → AreTexts ss → IsText s → AreTexts (ss ++ s ∷ [])
texts_last ss s h k = texts_both ss (s ∷ []) h (k, tt)

pub items_both : (vs ws : List Value) → KeptItems vs → KeptItems ws → KeptItems (vs ++ ws)
items_both _ ws no_items k = k
items_both _ ws (an_item v vs h hs) k = an_item v (vs ++ ws) h (items_both vs ws hs k)

-- items that are kept stay so with one more that is
pub items_last : (vs : List Value) (v : Value) → KeptItems vs → IsKept v → KeptItems (vs ++ v ∷ [])
items_last vs v h k = items_both vs (v ∷ []) h (an_item v [] k no_items)

pub fields_both : (ms ns : List Field) → KeptFields ms → KeptFields ns → KeptFields (ms ++ ns)
fields_both _ ns no_fields k = k
fields_both _ ns (a_field s v ms t h hs) k = a_field s v (ms ++ ns) t h (fields_both ms ns hs k)

-- fields that are kept stay so with one more, of a name and a value that are
pub fields_last : (ms : List Field) (s : Option (List ℕ)) (v : Value) → KeptFields ms → IsText s → IsKept v → KeptFields (ms ++ field_of s v ∷ [])
fields_last ms s v h t k = fields_both ms (field_of s v ∷ []) h (a_field s v [] t k no_fields)

-- values that are kept, behind others that are, are kept
pub kept_both : (s t : List Value) → AreKept s → AreKept t → AreKept (s ++ t)
kept_both [] t h k = k
kept_both (v ∷ s) t h k = (h.0, kept_both s t h.1 k)

-- values that are kept stay so with one more that is
pub kept_last : (s : List Value) (v : Value) → AreKept s → IsKept v → AreKept (s ++ v ∷ [])
kept_last s v h k = kept_both s (v ∷ []) h (k, tt)

-- Lists gone over from the front: what is left of a list being kept makes all of it kept.

-- By levels.

rolled_kept : (d : Layer) → KeptLayer d → KeptPayload (roll-Payload d)
unfolding roll-Payload denote.Hole.Carrier.roll
rolled_kept (Payload-F.Null k) h = kept_null k
rolled_kept (Payload-F.Truth b) h = kept_truth b
rolled_kept (Payload-F.Int z) h = kept_int z h
rolled_kept (Payload-F.Decimal d) h = kept_decimal d h
rolled_kept (Payload-F.Timestamp t) h = kept_timestamp t h
rolled_kept (Payload-F.Symbol s) h = kept_symbol s h
rolled_kept (Payload-F.Str text) h = kept_string text h
rolled_kept (Payload-F.Clob body) h = kept_clob body h
rolled_kept (Payload-F.Blob body) h = kept_blob body h
rolled_kept (Payload-F.List vs) h = kept_list vs h
rolled_kept (Payload-F.Sexp vs) h = kept_sexp vs h
rolled_kept (Payload-F.Fields ms) h = kept_fields ms h

-- a value of annotations and of a level that are kept is kept
pub value_kept : (v : Value) → AreTexts v.annotations → KeptLayer (out-Payload v.payload) → IsKept v
value_kept v h k = kept v.annotations v.payload h (subst KeptPayload (roll-out-Payload v.payload) (rolled_kept (out-Payload v.payload) k))
