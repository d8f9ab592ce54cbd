-- A value has at most as many nodes as its item has octets.
use Rattle.std.proofs.Common.{◌≡◌, ℕ, suc, ◌+◌, ◌≤◌, List, [], ◌∷◌, ◌++◌, length, map, sum, Option, refl, ◌∙◌, arith, length-append}
use Rattle.std.specs.List.{sum_by}
use Rattle.std.proofs.lemmas.List.Sums.{sum-map, sum_by-append, sum_by-cons}
use Rattle.ion_binary.specs.Names.{Binary, Field, Fields, HasSpan, Ids, ListOrSexp, Payload, Plain, Sequence, Slot, Spaced, Value, annotated, bare, field_of, is_listing, is_null, is_ordered, is_scalar, is_struct, is_truth, listed, no_fields, no_ids, nodes, nothing, one_field, one_id, one_more, padded, padded_field, unannotated, wrapped}
use Rattle.ion_model.specs.declared.value.Payload.TheVariants as payloads
use Rattle.ion_model.specs.declared.value.Payload.TheViews as views
use Rattle.ion_model.specs.laws.Measures.{nodes-Null, nodes-Truth, nodes-bare, nodes-more, nodes-out}
use Rattle.ion_binary.specs.laws.reading.Complete.{header_some, length_VarUInt}
use Rattle.ion_binary.specs.laws.reading.Judged.{scalar_leaf}

-- a list or an s-expression is a node beside those of its items
pub nodes-listed : (x : ListOrSexp) (vs : List Value) → nodes (bare (listed x vs)) ≡ suc (sum (map nodes vs))
nodes-listed ListOrSexp.List vs = nodes-bare (payloads.List vs) _ (views.outs-List vs)
nodes-listed ListOrSexp.Sexp vs = nodes-bare (payloads.Sexp vs) _ (views.outs-Sexp vs)

-- the name of a field is a node beside those of its value
abbrev pub field_nodes : Field → ℕ
field_nodes f = suc (nodes f.value)

-- a struct is a node beside those of its fields
pub nodes-fields : (ms : List Field) → nodes (bare (payloads.Fields ms)) ≡ suc (sum (map field_nodes ms))
nodes-fields ms = nodes-bare (payloads.Fields ms) _ (views.outs-Fields ms)

-- one field more adds its nodes
pub fields-more : (ms : List Field) (m : Field) → sum (map field_nodes (ms ++ m ∷ [])) ≡ sum (map field_nodes ms) + field_nodes m
fields-more ms m =
    let none : sum_by field_nodes [] ≡ 0 = refl in
    omega (arith, sum-map field_nodes (ms ++ m ∷ []), sum-map field_nodes ms, sum_by-append field_nodes ms (m ∷ []), sum_by-cons field_nodes m [])

-- each annotation is a node
pub nodes-annotated : (ss : List (Option (List ℕ))) (p : Payload) → nodes (annotated ss p) ≡ length ss + nodes (bare p)
nodes-annotated ss p = omega (arith, nodes-out (annotated ss p), nodes-out (bare p))

pub ids_long : (c : List Slot) (us : List ℕ) (ss : List (Option (List ℕ))) → Ids c us ss → length ss ≤ length us
ids_long c _ _ no_ids = omega arith
ids_long c _ _ (one_id us w ss k s b v r) = omega (arith, ids_long c us ss b, length-append us w, length-append ss (s ∷ []), length_VarUInt w k v)

mutual
  plain_nodes : (c : List Slot) (w : List ℕ) (p : Payload) → Plain c w p → nodes (bare p) ≤ length w
  plain_nodes c _ _ (is_null b k d) = let n = nodes-Null k in omega arith
  plain_nodes c _ _ (is_truth b t d) = let n = nodes-Truth t in omega arith
  plain_nodes c _ _ (is_scalar h body t p d i) = let n = nodes-bare p _ refl ∙ (scalar_leaf c body t p i).node in let a = header_some _ _ h d in let e = length-append h body in omega arith
  plain_nodes c _ _ (is_listing h body x vs d q) = omega (arith, nodes-listed x vs, header_some _ _ h d, length-append h body, sequence_nodes c body vs q)
  plain_nodes c _ _ (is_struct h body ms d q) = omega (arith, nodes-fields ms, header_some _ _ h d, length-append h body, fields_nodes c body ms q)
  plain_nodes c _ _ (is_ordered h body ms d k q) = omega (arith, nodes-fields ms, header_some _ _ h d, length-append h body, fields_nodes c body ms q)

  -- a value has at most as many nodes as octets
  pub binary_nodes : (c : List Slot) (w : List ℕ) (v : Value) → Binary c w v → nodes v ≤ length w
  binary_nodes c _ _ (unannotated w p b) = plain_nodes c w p b
  binary_nodes c _ _ (wrapped h count ids w ss p d v n i b) =
      let long = length-append h (count ++ (ids ++ w)) in
      omega (arith, plain_nodes c w p b, nodes-annotated ss p, ids_long c ids ss i, length-append count (ids ++ w), length-append ids w)

  pub sequence_nodes : (c : List Slot) (w : List ℕ) (vs : List Value) → Sequence c w vs → sum (map nodes vs) ≤ length w
  sequence_nodes c _ _ nothing = omega arith
  sequence_nodes c _ _ (one_more us w vs v q b) = omega (arith, sequence_nodes c us vs q, binary_nodes c w v b, length-append us w, nodes-more vs v)
  sequence_nodes c _ _ (padded us w vs q b) = omega (arith, sequence_nodes c us vs q, length-append us w)

  pub fields_nodes : (c : List Slot) (w : List ℕ) (ms : List Field) → Fields c w ms → sum (map field_nodes ms) ≤ length w
  fields_nodes c _ _ no_fields = omega arith
  fields_nodes c _ _ (one_field us id w ms k s v q n r b) =
      let long = length-append us (id ++ w) in
      omega (arith, fields_nodes c us ms q, binary_nodes c w v b, length-append id w, length_VarUInt id k n, fields-more ms (field_of s v))
  fields_nodes c _ _ (padded_field us id w ms k q n b) = omega (arith, fields_nodes c us ms q, length-append us (id ++ w))

-- more octets change nothing
pub spaced_on : (item from : ℕ) (given : List (Value × ℕ)) (to later : ℕ) → Spaced item from given to → to ≤ later → Spaced item from given later
spaced_on item from [] to later h e = omega arith
spaced_on item from ((v, at) ∷ given) to later h e = (h.0, spaced_on item at given to later h.1 e)

-- an item behind octets stands behind fewer of them
span_behind : (item from to at : ℕ) (v : Value) → from ≤ to → HasSpan item to at v → HasSpan item from at v
span_behind item from to at v e h = let behind = h.behind in
    record { start = h.start; end = h.end; behind = omega arith; within = h.within; fits = h.fits; holds = h.holds }

-- one value more, whose item stands behind these octets
pub spaced_more : (item from : ℕ) (given : List (Value × ℕ)) (to : ℕ) (v : Value) (later : ℕ) → Spaced item from given to → HasSpan item to later v
    → Spaced item from (given ++ (v, later) ∷ []) later
spaced_more item from [] to v later h e = (span_behind item from to later v h e, omega arith)
spaced_more item from ((w, at) ∷ given) to v later h e = (h.0, spaced_more item at given to v later h.1 e)
