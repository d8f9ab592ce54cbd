-- What the reader gives is no deeper than the limit.
use Rattle.std.proofs.Common.{◌≡◌, ℕ, suc, ◌+◌, ◌<◌, ◌≤◌, List, [], ◌∷◌, length, refl, ◌∙◌, arith}
use Rattle.ion_text.specs.Names.{Bracket, Catalog, Frame, Limits, Payload, Reading, Spot, Stage, Symbols, Token, Turn, Value, annotated, depth, field_of, gives, goes, opened, settle, turn, under}
use Rattle.ion_model.specs.declared.value.Payload.TheVariants as payloads
use Rattle.ion_model.specs.laws.Measures.{deepest-more, depth-at}
use Rattle.ion_text.specs.laws.reading.complete.Complete.{depth-list, depth-sexp, depth-struct, depths, field_deepest-more, field_depths}
use Rattle.ion_text.specs.machine.Ways.{IsFlat, SettledWay, TokenWay, ValueWay, flat_text, now_way, settled_free, settled_held, settled_name, settled_text, settled_way, token_deep, token_list, token_open, token_refused, token_sexp, token_struct, token_unnamed, token_unnoted, token_value, value_field, value_given, value_item}

-- what has come of the open containers stays within so many levels
abbrev pub Deep : ℕ → List Frame → Type 0
Deep n [] = Unit {0}
Deep n (Frame.Items listing ss vs ∷ fs) = (depths vs + suc (length fs) ≤ n) × Deep n fs
Deep n (Frame.Fields ss ms ∷ fs) = (field_depths ms + suc (length fs) ≤ n) × Deep n fs
Deep n (Frame.Named ss ms s ∷ fs) = (field_depths ms + suc (length fs) ≤ n) × Deep n fs

length_deep : (n : ℕ) (fs : List Frame) → Deep n fs → length fs ≤ n
length_deep n [] h = omega arith
length_deep n (Frame.Items listing ss vs ∷ fs) h = let k = h.0 in omega arith
length_deep n _ h = let k = h.0 in omega arith

-- what came of a turn does too
abbrev pub GoesDeep : ℕ → Turn → Type 0
GoesDeep n (goes r) = Deep n r.frames
GoesDeep n (gives v r) = depth v ≤ n
GoesDeep n _ = Unit {0}

-- a payload with nothing inside has no level behind its annotations
pub flat_depth : (ss : Symbols) (q : Payload) → IsFlat q → depth (annotated ss q) ≡ 0
flat_depth ss q flat = depth-at (annotated ss q) _ refl ∙ flat.1

module _ (g : Catalog) (l : Limits) where
  -- a value is whole
  value_deep : (spot : Spot) (v : Value) (fs : List Frame) (t : Turn) → ValueWay (under g l) spot v fs t → Deep l.depth fs → depth v + length fs ≤ l.depth
      → GoesDeep l.depth t
  value_deep spot v _ _ (value_given fits) d h = omega arith
  value_deep spot v _ _ (value_item listing ss vs fs) d h = let k = d.0 in let m = deepest-more vs v in (omega arith, d.1)
  value_deep spot v _ _ (value_field ss ms s fs) d h = let k = d.0 in let m = field_deepest-more ms (field_of s v) in (omega arith, d.1)
  value_deep spot v _ _ _ d h = tt

  flat_deep : (spot : Spot) (fs : List Frame) (ss : Symbols) (q : Payload) (t : Turn) → IsFlat q → ValueWay (under g l) spot (annotated ss q) fs t
      → Deep l.depth fs → GoesDeep l.depth t
  flat_deep spot fs ss q t flat way d =
      let k = length_deep l.depth fs d in
      let n = flat_depth ss q flat in
      value_deep spot (annotated ss q) fs t way d (omega arith)

  opened_deep : (bracket : Bracket) (ss : Symbols) (fs : List Frame) → length fs < l.depth → Deep l.depth fs → Deep l.depth (opened bracket ss ∷ fs)
  opened_deep Bracket.List ss fs k d = (omega arith, d)
  opened_deep Bracket.Sexp ss fs k d = (omega arith, d)
  opened_deep Bracket.Fields ss fs k d = (omega arith, d)

  -- A token leads no deeper.
  pub turn_deep : (r : Reading) (t : Token) → Deep l.depth r.frames → GoesDeep l.depth (turn g l r t)
  turn_deep r t = by r.frames r.now _ (now_way g l t.start t.end r.start r.context r.frames r.notes t.said r.now)
    where
      by : (fs : List Frame) (now : Stage) (x : Turn) → TokenWay g l t.start t.end r.start r.context t.said r.notes fs now x → Deep l.depth fs
          → GoesDeep l.depth x
      by _ _ _ (token_refused fs now e i) d = tt
      by _ _ _ (token_deep fs e i) d = tt
      by _ _ _ (token_unnoted fs h e x i k) d = tt
      by _ _ _ (token_unnamed fs s i) d = tt
      by _ _ _ (token_value fs q x none flat way) d = flat_deep _ fs r.notes q x flat way d
      by _ _ _ (token_open fs bracket e k) d = opened_deep bracket r.notes fs k d
      by _ _ _ (token_list rs vs fs now x e way) d = let k = d.0 in let m = depth-list rs vs in value_deep _ _ fs x way d.1 (omega arith)
      by _ _ _ (token_sexp rs vs fs now x e way) d = let k = d.0 in let m = depth-sexp rs vs in value_deep _ _ fs x way d.1 (omega arith)
      by _ _ _ (token_struct rs ms fs now x e way) d = let k = d.0 in let m = depth-struct rs ms in value_deep _ _ fs x way d.1 (omega arith)
      by _ _ _ _ d = d

  -- What waited leads no deeper.
  pub settle_deep : (r : Reading) → Deep l.depth r.frames → GoesDeep l.depth (settle g l r)
  settle_deep r = by r.frames r.now _ (settled_way g l r.start r.context r.frames r.notes r.now)
    where
      by : (fs : List Frame) (now : Stage) (x : Turn) → SettledWay g l r.start r.context r.notes fs now x → Deep l.depth fs → GoesDeep l.depth x
      by _ _ _ (settled_free fs now i e) d = d
      by _ _ _ (settled_name fs w) d = d
      by _ _ _ (settled_held fs h end q x flat way) d = flat_deep _ fs r.notes q x flat way d
      by _ _ _ (settled_text fs w end x way) d = flat_deep _ fs r.notes (payloads.Str w) x (flat_text w) way d
      by _ _ _ _ d = tt
