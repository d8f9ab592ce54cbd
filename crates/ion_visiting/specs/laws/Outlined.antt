-- What the visitor that outlines holds of a value's events is the value's outline.
use Rattle.std.proofs.Common.{◌≡◌, ℕ, ◌<◌, ◌≤◌, ◌+◌, ◌-◌, ◌^◌, ◌==◌, if◌then◌else◌, true, false, suc, min, max, sum, List, [], ◌∷◌, map, length, Option, refl, ap, sym, subst, ◌∙◌, arith}
use Rattle.std.proofs.lemmas.Bool.Decides.{nat_tests}
use Rattle.std.proofs.lemmas.List.Sums.{sum-map, sum_by-cons}
use Rattle.ion_visiting.specs.Names.{Bracket, Field, Kind, Layer, Led, Outlining, Payload, Payload-F, Value, annotated, annotation, closes, depth, events_of, greatest, kind_of, layer_depth, layer_events, layer_kind, layer_nodes, nodes, opens, out-Payload, outline_of, outs-Fields, outs-List, outs-Sexp, part}
use Rattle.ion_model.specs.laws.Measures.{depth-out, nodes-out}
use Rattle.ion_visiting.specs.Outlining.{bracket_kind, more_nodes, no_outline, outline_in, outlines}
use Rattle.ion_visiting.specs.laws.Trees.{Told, ToldFields, ToldItems, ToldPayload, fields_from, in_one, in_sequence, in_struct, items_from, no_fields, no_items, told_by, value_told}

-- From one state to the other so many nodes came, in containers so deep, and the kind is what was made of the level and the kind before.
-- What is counted stops where it should, if it did so before.
record Grown (a b : Outlining) (made : ℕ → Kind → Kind) (deep many : ℕ) : Type 0 where
  kind : b.kind ≡ made a.level a.kind
  level : b.level ≡ a.level
  depth : min a.level (2 ^ 64 - 1) ≤ a.depth → a.depth ≤ 2 ^ 64 - 1 → b.depth ≡ min (max a.depth (a.level + deep)) (2 ^ 64 - 1)
  nodes : a.nodes ≤ 2 ^ 64 - 1 → b.nodes ≡ min (a.nodes + many) (2 ^ 64 - 1)

-- the kind stays
abbrev stays : ℕ → Kind → Kind
stays l k = k

-- outside of brackets the kind is that of the value
abbrev topmost : Kind → ℕ → Kind → Kind
topmost j l k = if l == 0 then j else k

abbrev Whole : Outlining → Outlining → Layer → Type 0
Whole a b d = Grown a b (topmost (layer_kind d)) (layer_depth d) (layer_nodes d)

none_grown : (a : Outlining) → Grown a a stays 0 0
none_grown a = record { kind = refl; level = refl; depth = λ s t. omega (arith, s, t); nodes = λ s. omega (arith, s) }

-- one node came, at this level
node_grown : (a b : Outlining) (f : ℕ → Kind → Kind) {d i : ℕ} → d ≡ 0 → i ≡ 1
    → b ≡ record { kind = f a.level a.kind; level = a.level; depth = a.depth; nodes = more_nodes a 1 } → Grown a b f d i
node_grown a b f {d = d} {i = i} none one e =
    subst (λ x. Grown a x f d i) (sym e)
    (record { kind = refl; level = refl; depth = λ s t. omega (arith, s, t, none); nodes = λ s. omega (arith, one) })

both_grown : {a m b : Outlining} {f : ℕ → Kind → Kind} {d e i j deep many : ℕ} → Grown a m stays d i → Grown m b f e j → deep ≡ max d e → many ≡ i + j
    → Grown a b f deep many
both_grown {f = f} g h most all = record {
  kind = h.kind ∙ (λ i. f (g.level i) (g.kind i));
  level = h.level ∙ g.level;
  depth = λ s t. let k = g.depth s t in omega (arith, k, g.level, most, h.depth (omega (arith, s, k, g.level)) (omega (arith, k)));
  nodes = λ s. let k = g.nodes s in omega (arith, k, all, h.nodes (omega (arith, k)));
}

-- a value between brackets leaves the kind
value_inside : {a b : Outlining} (k : Kind) {d i : ℕ} → 0 < a.level → Grown a b (topmost k) d i → Grown a b stays d i
value_inside {a = a} k some g =
    let no : (a.level == 0) ≡ false = grind (arith, nat_tests) in
    record { kind = g.kind ∙ ap (λ t. if t then k else a.kind) no; level = g.level; depth = g.depth; nodes = g.nodes }

-- what stands between brackets is one level deeper, and a node more
within_grown : (x : Bracket) {a m n b : Outlining} {d i : ℕ} → outlines a (opens x) m → (0 < m.level → Grown m n stays d i) → outlines n (closes x) b
    → Grown a b (topmost (bracket_kind x)) (suc d) (suc i)
within_grown x o each c =
    let level = ap (λ (y : Outlining). y.level) o in
    let deep = ap (λ (y : Outlining). y.depth) o in
    let many = ap (λ (y : Outlining). y.nodes) o in
    let inner = each (omega (arith, level)) in
    record {
      kind = ap (λ (y : Outlining). y.kind) c ∙ inner.kind ∙ ap (λ (y : Outlining). y.kind) o;
      level = omega (arith, ap (λ (y : Outlining). y.level) c, inner.level, level);
      depth = λ s t. ap (λ (y : Outlining). y.depth) c ∙ omega (arith, inner.depth (omega (arith, level, deep)) (omega (arith, deep)), level, deep);
      nodes = λ s. ap (λ (y : Outlining). y.nodes) c ∙ omega (arith, inner.nodes (omega (arith, many)), many);
    }

-- what is told in one event is one node
flat : (d : Layer) (p : Payload) → layer_events d ≡ part p ∷ [] → (layer_depth d ≡ 0) × (layer_nodes d ≡ 1)
flat (Payload-F.List vs) p h = absurd cc
flat (Payload-F.Sexp vs) p h = absurd cc
flat (Payload-F.Fields ms) p h = absurd cc
flat _ p h = (refl, refl)

sum_more : {X : Type 0} (f : X → ℕ) (x : X) (xs : List X) → sum (map f (x ∷ xs)) ≡ f x + sum (map f xs)
sum_more f x xs = sum-map f (x ∷ xs) ∙ sum_by-cons f x xs ∙ ap (λ n. f x + n) (sym (sum-map f xs))

-- annotations are a node each
notes_grown : (ss : List (Option (List ℕ))) (a b : Outlining) → Led outlines (map annotation ss) a b → Grown a b stays 0 (length ss)
notes_grown [] a b h = subst (λ x. Grown a x stays 0 0) h (none_grown a)
notes_grown (s ∷ ss) a b h = both_grown (node_grown a h.0 stays refl refl h.1) (notes_grown ss h.0 b h.2) (omega arith) (omega arith)

mutual
  value_grown : {v : Value} {a b : Outlining} → Told outlines v a b → Grown a b (topmost (kind_of v)) (depth v) (nodes v)
  value_grown (value_told ss p a m b n h) =
      both_grown (notes_grown ss a m n) (payload_grown h) (omega (arith, depth-out (annotated ss p))) (nodes-out (annotated ss p))

  payload_grown : {p : Payload} {a b : Outlining} → ToldPayload outlines p a b → Whole a b (out-Payload p)
  payload_grown (in_one p a b is h) = let k = flat (out-Payload p) p is in node_grown a b (topmost (layer_kind (out-Payload p))) k.0 k.1 h
  payload_grown (in_sequence true vs a m n b o h c) = subst (Whole a b) (sym (outs-List vs)) (within_grown Bracket.List o (items_grown h) c)
  payload_grown (in_sequence false vs a m n b o h c) = subst (Whole a b) (sym (outs-Sexp vs)) (within_grown Bracket.Sexp o (items_grown h) c)
  payload_grown (in_struct ms a m n b o h c) = subst (Whole a b) (sym (outs-Fields ms)) (within_grown Bracket.Fields o (fields_grown h) c)

  items_grown : {vs : List Value} {a b : Outlining} → ToldItems outlines vs a b → 0 < a.level
      → Grown a b stays (greatest (map depth vs)) (sum (map nodes vs))
  items_grown (no_items a) some = none_grown a
  items_grown (items_from v vs a m b x h) some =
      let one = value_inside (kind_of v) some (value_grown x) in
      both_grown one (items_grown h (omega (arith, some, one.level))) refl (sum_more nodes v vs)

  fields_grown : {ms : List Field} {a b : Outlining} → ToldFields outlines ms a b → 0 < a.level
      → Grown a b stays (greatest (map (λ f. depth f.value) ms)) (sum (map (λ f. suc (nodes f.value)) ms))
  fields_grown (no_fields a) some = none_grown a
  fields_grown (fields_from f fs a n m b i x h) some =
      let named = node_grown a n stays refl refl i in
      let one = value_inside (kind_of f.value) (omega (arith, some, named.level)) (value_grown x) in
      let rest = fields_grown h (omega (arith, some, named.level, one.level)) in
      both_grown named (both_grown one rest refl refl) (omega arith) (omega (arith, sum_more (λ f. suc (nodes f.value)) f fs))

-- the visitor that was told a value from nothing has its outline
pub value_outlined : (v : Value) (o : Outlining) → Led outlines (events_of v) no_outline o → outline_in o ≡ outline_of v
value_outlined v o k =
    let g = value_grown (told_by outlines v no_outline o k) in
    let deep : o.depth ≡ min (depth v) (2 ^ 64 - 1) = omega (arith, g.depth (omega arith) (omega arith)) in
    let many : o.nodes ≡ min (nodes v) (2 ^ 64 - 1) = omega (arith, g.nodes (omega arith)) in
    λ i. record { kind = g.kind i; depth = deep i; nodes = many i }
