-- A value of the grammar has at most as many nodes as tokens, and each token has an octet.
use Rattle.std.proofs.Common.{ℕ, ◌+◌, ◌<◌, ◌≤◌, Bool, List, [], ◌∷◌, ◌++◌, length, Option, refl, ap, arith, length-append}
use Rattle.ion_text.specs.Names.{Annotations, Content, Elements, Field, IsName, IsScalar, Kind, LexesTo, Means, Members, Payload, Place, Placed, Plain, Row, Segments, Slot, Symbols, Value, annotated, by_long, colon_behind, comma, element, field, field_comma, field_of, is_blob, is_clob, is_decimal, is_false, is_int, is_list, is_null, is_operator, is_short, is_struct, is_symbol, is_timestamp, is_true, is_typed_null, item, joined, layer_nodes, long_string, means, no_annotation, no_element, no_field, no_item, nodes, one_annotation, one_token, segment, span}
use Rattle.ion_model.specs.declared.value.Payload.TheVariants as payloads
use Rattle.ion_model.specs.declared.value.Payload.TheViews as views
use Rattle.ion_model.specs.laws.Measures.{nodes-at-Fields, nodes-at-List, nodes-at-Sexp, nodes-more}
use Rattle.ion_text.specs.Grammar.{end_of, is_sexp}
use Rattle.ion_text.specs.laws.reading.small.Sizes.{IsNoContainer, fields_more, flat_nodes, many, many_fields}
use Rattle.ion_text.specs.laws.showing.tokens.Once.{some_token}

scalar_flat : (c : List Slot) (said : Content) (q : Payload) → IsScalar c said q → IsNoContainer q
scalar_flat c _ _ is_null = ap layer_nodes (views.outs-Null Kind.Null)
scalar_flat c _ _ (is_typed_null k) = ap layer_nodes (views.outs-Null k)
scalar_flat c _ _ is_true = ap layer_nodes (views.outs-Truth Bool.true)
scalar_flat c _ _ is_false = ap layer_nodes (views.outs-Truth Bool.false)
scalar_flat c _ _ (is_int z) = ap layer_nodes (views.outs-Int z)
scalar_flat c _ _ (is_decimal d) = ap layer_nodes (views.outs-Decimal d)
scalar_flat c _ _ (is_timestamp t) = ap layer_nodes (views.outs-Timestamp t)
scalar_flat c _ _ (is_symbol said s h) = ap layer_nodes (views.outs-Symbol s)
scalar_flat c _ _ (is_operator w) = ap layer_nodes (views.outs-Symbol (Option.Some w))
scalar_flat c _ _ (is_short w) = ap layer_nodes (views.outs-Str w)
scalar_flat c _ _ (is_clob w) = ap layer_nodes (views.outs-Clob w)
scalar_flat c _ _ (is_blob w) = ap layer_nodes (views.outs-Blob w)

segments_long : (p : Place) (ts : List Placed) (w : List ℕ) → Segments p ts w → 0 < length ts
segments_long p _ _ (segment t w i) = omega arith
segments_long p _ _ (joined ts v w t d i) = omega (arith, length-append ts (t ∷ []))

notes_long : (c : List Slot) (p : Place) (ts : List Placed) (ss : Symbols) → Annotations c p ts ss → length ss ≤ length ts
notes_long c p _ _ no_annotation = omega arith
notes_long c p _ _ (one_annotation ts ss t colons said s d i j k) =
    omega (arith, notes_long c p ts ss d, length-append ts (t ∷ colons ∷ []), length-append ss (s ∷ []))

name_long : (c : List Slot) (ts : List Placed) (s : Option (List ℕ)) → IsName c ts s → 0 < length ts
name_long c _ _ (by_long ts w d) = segments_long _ ts w d
name_long c _ _ _ = omega arith

mutual
  plain_nodes : (c : List Slot) (p : Place) (ts : List Placed) (q : Payload) (ss : Symbols) → Plain c p ts q → nodes (annotated ss q) ≤ length ss + length ts
  plain_nodes c _ _ _ ss (one_token p t said q i j) = omega (arith, flat_nodes ss q (scalar_flat c said q j))
  plain_nodes c _ _ _ ss (long_string p ts w d) = omega (arith, flat_nodes ss (payloads.Str w) (ap layer_nodes (views.outs-Str w)), segments_long p ts w d)
  plain_nodes c _ _ _ ss (is_list p open' close ts vs more i d j) =
      omega (arith, nodes-at-List (annotated ss (payloads.List vs)) vs refl, elements_nodes c ts vs more d, length-append ts (close ∷ []))
  plain_nodes c _ _ _ ss (is_sexp p open' close ts vs i d j) =
      omega (arith, nodes-at-Sexp (annotated ss (payloads.Sexp vs)) vs refl, row_nodes c ts vs d, length-append ts (close ∷ []))
  plain_nodes c _ _ _ ss (is_struct p open' close ts ms more i d j) =
      omega (arith, nodes-at-Fields (annotated ss (payloads.Fields ms)) ms refl, members_nodes c ts ms more d, length-append ts (close ∷ []))

  pub means_nodes : (c : List Slot) (p : Place) (ts : List Placed) (v : Value) → Means c p ts v → nodes v ≤ length ts
  means_nodes c _ _ _ (means p notes ts ss q a d) = omega (arith, plain_nodes c p ts q ss d, notes_long c p notes ss a, length-append notes ts)

  elements_nodes : (c : List Slot) (ts : List Placed) (vs : List Value) (more : Bool) → Elements c ts vs more → many vs ≤ length ts
  elements_nodes c _ _ _ no_element = omega arith
  elements_nodes c _ _ _ (element ts us vs v d m) = omega (arith, elements_nodes c ts vs _ d, means_nodes c _ us v m, nodes-more vs v, length-append ts us)
  elements_nodes c _ _ _ (comma ts vs t d i) = omega (arith, elements_nodes c ts vs _ d, length-append ts (t ∷ []))

  row_nodes : (c : List Slot) (ts : List Placed) (vs : List Value) → Row c ts vs → many vs ≤ length ts
  row_nodes c _ _ no_item = omega arith
  row_nodes c _ _ (item ts us vs v d m e) = omega (arith, row_nodes c ts vs d, means_nodes c _ us v m, nodes-more vs v, length-append ts us)

  members_nodes : (c : List Slot) (ts : List Placed) (ms : List Field) (more : Bool) → Members c ts ms more → many_fields ms ≤ length ts
  members_nodes c _ _ _ no_field = omega arith
  members_nodes c _ _ _ (field ts ns us colon ms s v d n i m) =
      omega (
        arith,
        members_nodes c ts ms _ d,
        name_long c ns s n,
        means_nodes c _ us v m,
        fields_more ms (field_of s v),
        length-append ts (ns ++ colon ∷ us),
        length-append ns (colon ∷ us),
      )
  members_nodes c _ _ _ (field_comma ts ms t d i) = omega (arith, members_nodes c ts ms _ d, length-append ts (t ∷ []))

-- tokens end behind an octet of each of them, and span these
pub tokens_far : (ts : List Placed) (colon : Bool) (before : ℕ) (octets : List ℕ) (after : Bool) (end : ℕ) (rest : List ℕ)
    → LexesTo colon before octets ts after end rest → (before + length ts ≤ end_of before ts) × (length ts ≤ span ts)
tokens_far [] colon before octets after end rest h = (omega arith, omega arith)
tokens_far (t ∷ ts) colon before octets after end rest (q, b, h) =
    let far = (tokens_far ts (colon_behind t) t.lexeme.end q after end rest h).0 in
    let start = b.start in
    let behind = b.end in
    let some = some_token t.place colon b.token q t.lexeme.kind t.lexeme.octets b.is in
    (omega arith, omega arith)

-- a value has at most as many nodes as its tokens span octets
pub value_nodes : (c : List Slot) (p : Place) (ts : List Placed) (v : Value) (colon : Bool) (before : ℕ) (octets : List ℕ) (after : Bool) (end : ℕ)
    (rest : List ℕ)
    → Means c p ts v → LexesTo colon before octets ts after end rest → nodes v ≤ span ts
value_nodes c p ts v colon before octets after end rest m h = omega (arith, means_nodes c p ts v m, (tokens_far ts colon before octets after end rest h).1)
