-- Where an item begins and ends: each turn leaves it open, or it is no longer than the limit.
use Rattle.std.proofs.Common.{◌≡◌, ℕ, ◌+◌, ◌≤◌, List, [], ◌∷◌, ◌++◌, Bool, true, false, Option, refl, sym, subst, ◌⊎◌, inl, inr}
use Rattle.std.proofs.lemmas.Bool.{false_from_ne_true}
use Rattle.ion_text.specs.Names.{Bracket, Catalog, Content, Frame, Limits, ListOrSexp, Mark, Mark', Reading, Slot, Spot, Stage, Symbols, Token, Turn, Value, annotated, at, close_mark, gives, goes, is_fresh, is_top, settle, spot_at, turn, under}
use Rattle.ion_model.specs.declared.value.Payload.TheVariants as payloads
use Rattle.ion_text.specs.laws.reading.sound.StandsOpen.{EndsAt, end_of_now, start_now}
use Rattle.ion_text.specs.machine.Ways.{SettledWay, TokenWay, ValueWay, now_way, settled_free, settled_held, settled_marker, settled_name, settled_text, settled_way, token_colon, token_comma, token_field, token_held, token_list, token_long_name, token_more, token_more_name, token_name, token_noted, token_open, token_sexp, token_struct, token_text, token_value, value_given, value_item, value_refused, value_table}

-- what closes a container
abbrev pub IsClose : Bool → Content → Type 0
IsClose true said = Unit {0}
IsClose false (Mark' Mark.ListClose) = Unit {0}
IsClose false (Mark' Mark.SexpClose) = Unit {0}
IsClose false (Mark' Mark.FieldsClose) = Unit {0}
IsClose false _ = ⊥

-- what may be read at the top level
abbrev pub IsTopNow : Stage → Type 0
IsTopNow Stage.Ready = Unit {0}
IsTopNow (Stage.Pending h end) = Unit {0}
IsTopNow (Stage.Long w end) = Unit {0}
IsTopNow _ = ⊥

-- an item is open: in a container, or at the top level where none was open before
abbrev pub OpenAs : Bool → Reading → Type 0
OpenAs top r = (is_top r.frames ≡ false) ⊎ ((top ≡ true) × (is_fresh r ≡ false) × IsTopNow r.now)

-- the item that begins at `start` is open up to `end`, or it was whole and isn't too long
abbrev pub Spans : Bool → Content → ℕ → ℕ → ℕ → Turn → Type 0
Spans top said item start end (goes r) = (OpenAs top r × (r.start ≡ start) × EndsAt r.now end) ⊎ ((end ≤ start + item) × IsClose top said × (is_fresh r ≡ true))
Spans top said item start end (gives v r) = (end ≤ start + item) × IsClose top said × (is_fresh r ≡ true)
Spans top said item start end _ = Unit {0}

-- what waits, or a name, is open in all frames
open_now : (start : ℕ) (c : List Slot) (fs : List Frame) (ss : Symbols) (now : Stage) → (is_fresh (at start c [] ss now) ≡ false) → IsTopNow now
    → OpenAs (is_top fs) (at start c fs ss now)
open_now start c [] ss now h k = inr (refl, h, k)
open_now start c (f ∷ fs) ss now h k = inl refl

some_note : (ss : Symbols) (s : Option (List ℕ)) (start : ℕ) (c : List Slot) → is_fresh (at start c [] (ss ++ s ∷ []) Stage.Ready) ≡ false
some_note [] s start c = refl
some_note (x ∷ ss) s start c = refl

any_note : (ss : Symbols) (start : ℕ) (c : List Slot) (now : Stage) → is_fresh (at start c [] [] now) ≡ false → is_fresh (at start c [] ss now) ≡ false
any_note [] start c now h = h
any_note (s ∷ ss) start c now h = refl

module _ (g : Catalog) (l : Limits) where
  -- a value that ends in these frames, which were below `top` before
  value_spans : (top : Bool) (said : Content) (spot : Spot) (v : Value) (fs : List Frame) (t : Turn) → ValueWay (under g l) spot v fs t
      → (is_top fs ≡ true → IsClose top said) → Spans top said l.item spot.start spot.end t
  value_spans top said spot v _ _ (value_refused fs e d) h = tt
  value_spans top said spot v _ _ (value_table d fits) h = inr (fits, h refl, refl)
  value_spans top said spot v _ _ (value_given fits) h = (fits, h refl, refl)
  value_spans top said spot v _ _ (value_item ListOrSexp.List ss vs fs) h = inl (inl refl, refl, tt)
  value_spans top said spot v _ _ _ h = inl (inl refl, refl, tt)

  closing : (said : Content) (bracket : Bracket) → said ≡ Mark' (close_mark bracket) → IsClose false said
  closing said Bracket.List e = subst (IsClose false) (sym e) tt
  closing said Bracket.Sexp e = subst (IsClose false) (sym e) tt
  closing said Bracket.Fields e = subst (IsClose false) (sym e) tt

  -- what waits in the frames that stay
  waits_spans : (start end : ℕ) (c : List Slot) (fs : List Frame) (ss : Symbols) (said : Content) (now : Stage) → is_fresh (at start c [] [] now) ≡ false
      → IsTopNow now → EndsAt now end → Spans (is_top fs) said l.item start end (goes (at start c fs ss now))
  waits_spans start end c fs ss said now new top ends = inl (open_now start c fs ss now (any_note ss start c now new) top, refl, ends)

  -- A token leaves the item open, or ends it within the limit.
  pub turn_spans : (r : Reading) (t : Token) → (is_top r.frames ≡ true → IsTopNow r.now)
      → Spans (is_top r.frames) t.said l.item (start_now r.now r.start t.start r.frames r.notes) t.end (turn g l r t)
  turn_spans r t = by r.frames r.now _ (now_way g l t.start t.end r.start r.context r.frames r.notes t.said r.now)
    where
      by : (fs : List Frame) (now : Stage) (x : Turn) → TokenWay g l t.start t.end r.start r.context t.said r.notes fs now x → (is_top fs ≡ true → IsTopNow now)
          → Spans (is_top fs) t.said l.item (start_now now r.start t.start fs r.notes) t.end x
      by _ _ _ (token_held fs h) k = waits_spans _ t.end r.context fs r.notes t.said (Stage.Pending h t.end) refl tt refl
      by _ _ _ (token_text fs w) k = waits_spans _ t.end r.context fs r.notes t.said (Stage.Long w t.end) refl tt refl
      by _ _ _ (token_value fs q x none flat way) k = value_spans (is_top fs) t.said _ _ fs x way (λ e. subst (λ b. IsClose b t.said) (sym e) tt)
      by _ _ _ (token_open fs Bracket.Fields e i) k = inl (inl refl, refl, tt)
      by _ _ _ (token_open fs _ e i) k = inl (inl refl, refl, tt)
      by _ _ _ (token_list rs vs fs now x e way) k = value_spans false t.said _ _ fs x way (λ i. closing t.said Bracket.List e)
      by _ _ _ (token_sexp rs vs fs now x e way) k = value_spans false t.said _ _ fs x way (λ i. closing t.said Bracket.Sexp e)
      by _ _ _ (token_struct rs ms fs now x e way) k = value_spans false t.said _ _ fs x way (λ i. closing t.said Bracket.Fields e)
      by _ _ _ (token_noted fs h e s) k =
          inl (open_now r.start r.context fs (r.notes ++ s ∷ []) Stage.Ready (some_note r.notes s r.start r.context) tt, refl, tt)
      by _ _ _ (token_more fs v e w) k = waits_spans r.start t.end r.context fs r.notes t.said (Stage.Long w t.end) refl tt refl
      by _ _ _ (token_comma rs vs fs) k = inl (inl refl, refl, tt)
      by _ _ _ (token_field rs ms fs) k = inl (inl refl, refl, tt)
      by _ _ _ (token_name fs s) k = inl (inl (false_from_ne_true (is_top fs) k), refl, tt)
      by _ _ _ (token_long_name fs w) k = inl (inl (false_from_ne_true (is_top fs) k), refl, tt)
      by _ _ _ (token_more_name fs v w) k = inl (inl (false_from_ne_true (is_top fs) k), refl, tt)
      by _ _ _ (token_colon rs ms fs s) k = inl (inl refl, refl, tt)
      by _ _ _ _ k = tt

  -- what waited leaves the container open, or ends an item of the top level
  abbrev pub SettlesWithin : ℕ → ℕ → List Frame → Turn → Type 0
  SettlesWithin start end fs (goes r) = ((is_top fs ≡ false) × (is_top r.frames ≡ false) × (r.start ≡ start)) ⊎ ((is_top fs ≡ true) × (end ≤ start + l.item))
  SettlesWithin start end fs (gives v r) = (is_top fs ≡ true) × (end ≤ start + l.item)
  SettlesWithin start end fs _ = Unit {0}

  value_settles : (spot : Spot) (v : Value) (fs : List Frame) (t : Turn) → ValueWay (under g l) spot v fs t → SettlesWithin spot.start spot.end fs t
  value_settles spot v _ _ (value_refused fs e d) = tt
  value_settles spot v _ _ (value_table d fits) = inr (refl, fits)
  value_settles spot v _ _ (value_given fits) = (refl, fits)
  value_settles spot v _ _ _ = inl (refl, refl, refl)

  -- a symbol or a long string waits
  abbrev pub IsWaiting : Stage → Type 0
  IsWaiting (Stage.Pending h end) = Unit {0}
  IsWaiting (Stage.Long w end) = Unit {0}
  IsWaiting _ = ⊥

  -- What waited for more was within the limit.
  pub settle_spans : (start : ℕ) (c : List Slot) (fs : List Frame) (ss : Symbols) (now : Stage) (end : ℕ) → IsWaiting now
      → SettlesWithin start (end_of_now now end) fs (settle g l (at start c fs ss now))
  settle_spans start c fs ss now end = by fs now _ (settled_way g l start c fs ss now)
    where
      by : (fs : List Frame) (now : Stage) (x : Turn) → SettledWay g l start c ss fs now x → IsWaiting now → SettlesWithin start (end_of_now now end) fs x
      by _ _ _ (settled_held fs h e q x flat way) w = value_settles (spot_at e start c) (annotated ss q) fs x way
      by _ _ _ (settled_text fs v e x way) w = value_settles (spot_at e start c) (annotated ss (payloads.Str v)) fs x way
      by _ _ _ (settled_marker h e fits) w = inr (refl, fits)
      by _ _ _ (settled_free fs (Stage.Pending h e) i f) w = absurd i
      by _ _ _ (settled_free fs (Stage.Long v e) i f) w = absurd i
      by _ _ _ (settled_free fs _ i f) w = absurd w
      by _ _ _ (settled_name fs v) w = absurd w
      by _ _ _ _ w = tt
