-- The symbols of a value that is kept are of unknown text, or their texts are UTF-8.
use Rattle.std.proofs.Common.{◌≡◌, List, sym, subst}
use Rattle.std.specs.List.{flat_map}
use Rattle.ion_binary.specs.Names.{AreTexts, Field, IsKept, KeptFields, KeptItems, KeptPayload, Layer, Payload, Value, a_field, an_item, annotated, field_symbols, kept, kept_blob, kept_clob, kept_decimal, kept_fields, kept_int, kept_list, kept_null, kept_sexp, kept_string, kept_symbol, kept_timestamp, kept_truth, layer_symbols, no_items, symbols_of}
use Rattle.ion_model.specs.Kept.{no_fields}
use Rattle.ion_model.specs.declared.value.Payload.TheVariants as payloads
use Rattle.ion_model.specs.declared.value.Payload.TheViews as views
use Rattle.ion_model.specs.laws.Kept.{texts_both}
use Rattle.ion_binary.specs.laws.writing.Output.{symbols-out}

by_layer : (p : Payload) (d : Layer) → views.out-Payload p ≡ d → AreTexts (layer_symbols d) → AreTexts (layer_symbols (views.out-Payload p))
by_layer p d e h = subst (λ (d : Layer). AreTexts (layer_symbols d)) (sym e) h

mutual
  -- the symbols of a value that is kept are of unknown text or UTF-8
  pub value_texts : (v : Value) → IsKept v → AreTexts (symbols_of v)
  value_texts _ (kept ss p ts k) = subst AreTexts (sym (symbols-out (annotated ss p))) (texts_both ss _ ts (payload_texts p k))

  payload_texts : (p : Payload) → KeptPayload p → AreTexts (layer_symbols (views.out-Payload p))
  payload_texts _ (kept_null k) = by_layer (payloads.Null k) _ (views.outs-Null k) tt
  payload_texts _ (kept_truth b) = by_layer (payloads.Truth b) _ (views.outs-Truth b) tt
  payload_texts _ (kept_int z h) = by_layer (payloads.Int z) _ (views.outs-Int z) tt
  payload_texts _ (kept_decimal d h) = by_layer (payloads.Decimal d) _ (views.outs-Decimal d) tt
  payload_texts _ (kept_timestamp t h) = by_layer (payloads.Timestamp t) _ (views.outs-Timestamp t) tt
  payload_texts _ (kept_symbol s h) = by_layer (payloads.Symbol s) _ (views.outs-Symbol s) (h, tt)
  payload_texts _ (kept_string text h) = by_layer (payloads.Str text) _ (views.outs-Str text) tt
  payload_texts _ (kept_clob body h) = by_layer (payloads.Clob body) _ (views.outs-Clob body) tt
  payload_texts _ (kept_blob body h) = by_layer (payloads.Blob body) _ (views.outs-Blob body) tt
  payload_texts _ (kept_list vs k) = by_layer (payloads.List vs) _ (views.outs-List vs) (items_texts vs k)
  payload_texts _ (kept_sexp vs k) = by_layer (payloads.Sexp vs) _ (views.outs-Sexp vs) (items_texts vs k)
  payload_texts _ (kept_fields ms k) = by_layer (payloads.Fields ms) _ (views.outs-Fields ms) (fields_texts ms k)

  items_texts : (vs : List Value) → KeptItems vs → AreTexts (flat_map symbols_of vs)
  items_texts _ no_items = tt
  items_texts _ (an_item v vs k ks) = texts_both (symbols_of v) (flat_map symbols_of vs) (value_texts v k) (items_texts vs ks)

  fields_texts : (ms : List Field) → KeptFields ms → AreTexts (flat_map field_symbols ms)
  fields_texts _ no_fields = tt
  fields_texts _ (a_field s v ms t k ks) = (t, texts_both (symbols_of v) (flat_map field_symbols ms) (value_texts v k) (fields_texts ms ks))
