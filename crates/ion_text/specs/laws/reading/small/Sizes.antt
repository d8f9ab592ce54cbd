-- A value has at most as many nodes as tokens: each token adds one at most to what is open.
use Rattle.std.proofs.Common.{◌≡◌, ℕ, suc, ◌+◌, ◌≤◌, List, [], ◌∷◌, ◌++◌, length, map, sum, Bool, true, false, Some, refl, arith, length-append}
use Rattle.std.specs.List.{sum_by}
use Rattle.std.proofs.lemmas.List.Sums.{sum-map, sum_by-append, sum_by-cons}
use Rattle.ion_text.specs.Names.{Bracket, Catalog, Field, Frame, Held, Limits, ListOrSexp, Payload, Reading, Spot, Stage, Symbols, Token, Turn, Value, annotated, field_of, first_now, fresh, gives, goes, is_top, layer_nodes, nodes, opened, settle, turn, under}
use Rattle.ion_model.specs.declared.value.Payload.TheVariants as payloads
use Rattle.ion_model.specs.declared.value.Payload.TheViews as views
use Rattle.ion_model.specs.laws.Measures.{nodes-at-Fields, nodes-at-List, nodes-at-Sexp, nodes-more, nodes-out}
use Rattle.ion_text.specs.machine.Ways.{IsFree, SettledWay, TokenWay, ValueWay, flat_text, now_way, settled_free, settled_held, settled_marker, settled_name, settled_text, settled_way, start_now, token_colon, token_comma, token_field, token_held, token_list, token_long_name, token_more, token_more_name, token_name, token_noted, token_open, token_sexp, token_struct, token_text, token_value, value_field, value_given, value_item, value_refused, value_table}

-- the nodes of what is open so far: of the containers, of the annotations that wait, and of what waits itself

-- how many nodes these values have together
abbrev pub many : List Value → ℕ
many vs = sum (map nodes vs)

-- how many nodes these fields have together: those of their values, and one for each name
abbrev pub many_fields : List Field → ℕ
many_fields ms = sum (map (λ f. suc (nodes f.value)) ms)

abbrev pub frame_nodes : Frame → ℕ
frame_nodes (Frame.Items listing ss vs) = length ss + suc (many vs)
frame_nodes (Frame.Fields ss ms) = length ss + suc (many_fields ms)
frame_nodes (Frame.Named ss ms s) = suc (length ss + suc (many_fields ms))

-- how many nodes the open containers have so far
abbrev pub frames_nodes : List Frame → ℕ
frames_nodes [] = 0
frames_nodes (f ∷ fs) = frame_nodes f + frames_nodes fs

-- how many nodes what waits has: one, where something does
abbrev pub now_nodes : Stage → ℕ
now_nodes (Stage.Pending h end) = 1
now_nodes (Stage.Long w end) = 1
now_nodes (Stage.LongName w) = 1
now_nodes (Stage.Keyed s) = 1
now_nodes _ = 0

-- how many nodes have come of the open item
abbrev pub open_nodes : Reading → ℕ
open_nodes r = frames_nodes r.frames + length r.notes + now_nodes r.now

-- what waits at the top level ended so, and came of what was at the top level
abbrev pub WaitsSince : ℕ → Bool → Stage → Type 0
WaitsSince end top (Stage.Pending h e) = (e ≡ end) × (top ≡ true)
WaitsSince end top (Stage.Long w e) = (e ≡ end) × (top ≡ true)
WaitsSince end top _ = Unit {0}

-- where a container is open nothing is said of what waits
abbrev pub TopWaits : ℕ → Bool → List Frame → Stage → Type 0
TopWaits end top [] now = WaitsSince end top now
TopWaits end top (f ∷ fs) now = Unit {0}

-- where what waits ended
abbrev pub wait_end : Stage → ℕ
wait_end (Stage.Pending h end) = end
wait_end (Stage.Long w end) = end
wait_end _ = 0

-- A turn leads to at most n nodes, of an item that begins at `start` or before; a value ends at `end`, within the limit on items.
abbrev pub Weighs : ℕ → ℕ → ℕ → ℕ → Bool → Turn → Type 0
Weighs n item start end top (goes r) = (open_nodes r ≤ n) × (r.start ≤ start) × TopWaits end top r.frames r.now
Weighs n item start end top (gives v r) = (nodes v ≤ n) × (end ≤ start + item) × (r ≡ fresh r.context)
Weighs n item start end top _ = Unit {0}

-- a further field adds the nodes of its value and one
pub fields_more : (ms : List Field) (m : Field) → many_fields (ms ++ m ∷ []) ≡ many_fields ms + suc (nodes m.value)
fields_more ms m =
    let all = sum-map (λ (f : Field). suc (nodes f.value)) (ms ++ m ∷ []) in
    let front = sum-map (λ (f : Field). suc (nodes f.value)) ms in
    let cut = sum_by-append (λ (f : Field). suc (nodes f.value)) ms (m ∷ []) in
    let one = sum_by-cons (λ (f : Field). suc (nodes f.value)) m [] in
    let none : sum_by (λ (f : Field). suc (nodes f.value)) [] ≡ 0 = refl in
    omega arith

-- a payload that is no container
abbrev pub IsNoContainer : Payload → Type 0
IsNoContainer q = layer_nodes (views.out-Payload q) ≡ 1

-- what is no container has one node, and one more for each annotation
pub flat_nodes : (ss : Symbols) (q : Payload) → IsNoContainer q → nodes (annotated ss q) ≡ length ss + 1
flat_nodes ss q h = let n = nodes-out (annotated ss q) in omega (arith, n, h)

-- what doesn't wait as a value
free_top : (end : ℕ) (top : Bool) (fs : List Frame) (now : Stage) → IsFree now → TopWaits end top fs now
free_top end top (f ∷ fs) now i = tt
free_top end top [] (Stage.Pending h e) i = absurd i
free_top end top [] (Stage.Long w e) i = absurd i
free_top end top [] _ i = tt

-- a long name is no value
text_top : (end : ℕ) (top : Bool) (fs : List Frame) (w : List ℕ) → TopWaits end top fs (Stage.LongName w)
text_top end top [] w = tt
text_top end top (f ∷ fs) w = tt

-- a token that waits where it stood
waits_top : (end : ℕ) (fs : List Frame) (h : Held) → TopWaits end (is_top fs) fs (Stage.Pending h end)
waits_top end [] h = (refl, refl)
waits_top end (f ∷ fs) h = tt

long_top : (end : ℕ) (fs : List Frame) (w : List ℕ) → TopWaits end (is_top fs) fs (Stage.Long w end)
long_top end [] w = (refl, refl)
long_top end (f ∷ fs) w = tt

-- what is open behind an open that was none before it
first_free : (bracket : Bracket) (ss : Symbols) → (frame_nodes (opened bracket ss) + now_nodes (first_now bracket) ≡ length ss + 1)
first_free Bracket.Fields ss = omega arith
first_free Bracket.List ss = omega arith
first_free Bracket.Sexp ss = omega arith

module _ (g : Catalog) (l : Limits) where
  -- a value is whole
  value_weighs : (spot : Spot) (v : Value) (fs : List Frame) (t : Turn) (n : ℕ) (top : Bool) → ValueWay (under g l) spot v fs t → frames_nodes fs + nodes v ≤ n
      → Weighs n l.item spot.start spot.end top t
  value_weighs spot v _ _ n top (value_refused fs e d) h = tt
  value_weighs spot v _ _ n top (value_table d fits) h = (omega arith, omega arith, tt)
  value_weighs spot v _ _ n top (value_given fits) h = (omega (arith, h), fits, refl)
  value_weighs spot v _ _ n top (value_item ListOrSexp.List ss vs fs) h = (omega (arith, h, nodes-more vs v), omega arith, tt)
  value_weighs spot v _ _ n top (value_item ListOrSexp.Sexp ss vs fs) h = (omega (arith, h, nodes-more vs v), omega arith, tt)
  value_weighs spot v _ _ n top (value_field ss ms s fs) h = (omega (arith, h, fields_more ms (field_of s v)), omega arith, tt)

  -- a value of one node behind its annotations
  flat_weighs : (spot : Spot) (fs : List Frame) (ss : Symbols) (q : Payload) (t : Turn) (n : ℕ) (top : Bool) → IsNoContainer q
      → ValueWay (under g l) spot (annotated ss q) fs t → frames_nodes fs + length ss + 1 ≤ n → Weighs n l.item spot.start spot.end top t
  flat_weighs spot fs ss q t n top f way h = value_weighs spot (annotated ss q) fs t n top way (omega (arith, h, flat_nodes ss q f))

  -- A token adds one node at most.
  pub turn_weighs : (r : Reading) (t : Token) → Weighs (open_nodes r + 1) l.item (start_now r.now r.start t.start r.frames r.notes) t.end (is_top r.frames)
      (turn g l r t)
  turn_weighs r t = by r.frames r.now _ (now_way g l t.start t.end r.start r.context r.frames r.notes t.said r.now)
    where
      by : (fs : List Frame) (now : Stage) (x : Turn) → TokenWay g l t.start t.end r.start r.context t.said r.notes fs now x
          → Weighs (frames_nodes fs + length r.notes + now_nodes now + 1) l.item (start_now now r.start t.start fs r.notes) t.end (is_top fs) x
      by _ _ _ (token_held fs h) = (omega arith, omega arith, waits_top t.end fs h)
      by _ _ _ (token_text fs w) = (omega arith, omega arith, long_top t.end fs w)
      by _ _ _ (token_value fs q x none flat way) = flat_weighs _ fs r.notes q x _ (is_top fs) flat.0 way (omega arith)
      by _ _ _ (token_open fs bracket e k) = (omega (arith, first_free bracket r.notes), omega arith, tt)
      by _ _ _ (token_list rs vs fs now x e way) =
          value_weighs _ _ fs x _ false way (omega (arith, nodes-at-List (annotated rs (payloads.List vs)) vs refl))
      by _ _ _ (token_sexp rs vs fs now x e way) =
          value_weighs _ _ fs x _ false way (omega (arith, nodes-at-Sexp (annotated rs (payloads.Sexp vs)) vs refl))
      by _ _ _ (token_struct rs ms fs now x e way) =
          value_weighs _ _ fs x _ false way (omega (arith, nodes-at-Fields (annotated rs (payloads.Fields ms)) ms refl))
      by _ _ _ (token_noted fs h e s) = (omega (arith, length-append r.notes (s ∷ [])), omega arith, free_top t.end (is_top fs) fs Stage.Ready tt)
      by _ _ _ (token_more fs v e w) = (omega arith, omega arith, long_top t.end fs w)
      by _ _ _ (token_comma rs vs fs) = (omega arith, omega arith, tt)
      by _ _ _ (token_field rs ms fs) = (omega arith, omega arith, tt)
      by _ _ _ (token_name fs s) = (omega arith, omega arith, free_top t.end (is_top fs) fs (Stage.Keyed s) tt)
      by _ _ _ (token_long_name fs w) = (omega arith, omega arith, text_top t.end (is_top fs) fs w)
      by _ _ _ (token_more_name fs v w) = (omega arith, omega arith, text_top t.end (is_top fs) fs w)
      by _ _ _ (token_colon rs ms fs s) = (omega arith, omega arith, tt)
      by _ _ _ _ = tt

  -- What waited adds none, and nothing waits behind it.
  pub settle_weighs : (r : Reading) → Weighs (open_nodes r) l.item r.start (wait_end r.now) false (settle g l r)
  settle_weighs r = by r.frames r.now _ (settled_way g l r.start r.context r.frames r.notes r.now)
    where
      by : (fs : List Frame) (now : Stage) (x : Turn) → SettledWay g l r.start r.context r.notes fs now x
          → Weighs (frames_nodes fs + length r.notes + now_nodes now) l.item r.start (wait_end now) false x
      by _ _ _ (settled_free fs now i e) = (omega arith, omega arith, free_top (wait_end now) false fs now i)
      by _ _ _ (settled_name fs w) = (omega arith, omega arith, free_top 0 false fs (Stage.Keyed (Some w)) tt)
      by _ _ _ (settled_held fs h end q x flat way) = flat_weighs _ fs r.notes q x _ false flat.0 way (omega arith)
      by _ _ _ (settled_text fs w end x way) = flat_weighs _ fs r.notes (payloads.Str w) x _ false (flat_text w).0 way (omega arith)
      by _ _ _ (settled_marker h end fits) = (omega arith, omega arith, tt)
      by _ _ _ _ = tt
