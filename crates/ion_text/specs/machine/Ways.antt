-- The ways in which a turn goes: what holds in each of them holds of the turn.
use Rattle.std.proofs.Common.{◌≡◌, ℕ, ◌+◌, ◌<◌, ◌≤◌, nat_le, nat_lt, List, [], ◌∷◌, ◌++◌, length, Bool, true, false, Result, Ok, Err, Option, Some, None, refl, ap, if◌then◌else◌}
use Rattle.std.proofs.lemmas.Bool.{cond_both, leb-true, ltb-true}
use Rattle.ion_text.specs.Names.Below.{Blob, Bracket, Catalog, Clob, Content, Field, Frame, Held, Id, Limits, ListOrSexp, Long, Mark, Mark', Number, Number', Operator, Payload, Quoted, Reason, Short, Slot, Stage, TypedNull, Value, Word, annotated, field_of, is_table, layer_depth, layer_nodes, next, number_payload, resolve, system_slots}
use Rattle.ion_model.specs.declared.value.Payload.TheVariants as payloads
use Rattle.ion_model.specs.declared.value.Payload.TheViews as views
use Rattle.ion_symtab.specs.Decided.{Decides, IsDecided}
use Rattle.ion_symtab.specs.laws.Decided.{next_decides, resolve_decides}
use Rattle.ion_text.specs.Grammar.{IsKeyword}
use Rattle.ion_spelling.specs.Keywords.{is_keyword}
use Rattle.ion_text.specs.machine.EachToken.{Setting, Spot, Symbols, Turn, at, begun_at, behind_item, beyond_depth, closed, ended, first_now, fresh, gives, goes, held_payload, held_symbol, held_word, keyed, late, named, noted, on_after, on_comma, on_name, on_pending, on_ready, opened, opening, paid, refuses, released, resolved, settle, spot_at, token_at, turn_now, turned, under, within}
use Rattle.ion_text.specs.machine.Nested.{close_mark, open_mark}

-- 1. Payloads with nothing inside.

-- it has one node, and no level inside
abbrev pub IsFlat : Payload → Type 0
IsFlat q = (layer_nodes (views.out-Payload q) ≡ 1) × (layer_depth (views.out-Payload q) ≡ 0)

-- a string is one
pub flat_text : (w : List ℕ) → IsFlat (payloads.Str w)
flat_text w = (ap layer_nodes (views.outs-Str w), ap layer_depth (views.outs-Str w))

-- a symbol is one
pub flat_symbol : (s : Option (List ℕ)) → IsFlat (payloads.Symbol s)
flat_symbol s = (ap layer_nodes (views.outs-Symbol s), ap layer_depth (views.outs-Symbol s))

-- a clob is one
pub flat_clob : (w : List ℕ) → IsFlat (payloads.Clob w)
flat_clob w = (ap layer_nodes (views.outs-Clob w), ap layer_depth (views.outs-Clob w))

-- a blob is one
pub flat_blob : (w : List ℕ) → IsFlat (payloads.Blob w)
flat_blob w = (ap layer_nodes (views.outs-Blob w), ap layer_depth (views.outs-Blob w))

-- a number is one
pub flat_number : (n : Number) → IsFlat (number_payload n)
flat_number (Number.Int z) = (ap layer_nodes (views.outs-Int z), ap layer_depth (views.outs-Int z))
flat_number (Number.Decimal d) = (ap layer_nodes (views.outs-Decimal d), ap layer_depth (views.outs-Decimal d))
flat_number (Number.Timestamp t) = (ap layer_nodes (views.outs-Timestamp t), ap layer_depth (views.outs-Timestamp t))

-- what is held is one, or is refused
abbrev pub HeldFlat : Result Payload Reason → Type 0
HeldFlat (Ok q) = IsFlat q
HeldFlat (Err e) = IsDecided e

-- as a value
pub flat_held : (h : Held) → HeldFlat (held_payload h)
flat_held (Held.Symbol s) = flat_symbol s
flat_held (Held.Version b s) = flat_symbol s
flat_held (Held.Null k) = (ap layer_nodes (views.outs-Null k), ap layer_depth (views.outs-Null k))
flat_held (Held.Truth b) = (ap layer_nodes (views.outs-Truth b), ap layer_depth (views.outs-Truth b))
flat_held Held.Nan = tt

-- 2. Where a value ends.

module _ (setting : Setting) (spot : Spot) (v : Value) where
  pub data ValueWay : List Frame → Turn → Type 0 where
    value_refused : (fs : List Frame) (e : Reason) → IsDecided e → ValueWay fs (refuses e)
    value_table : (d : List Slot) → spot.end ≤ spot.start + setting.limits.item → ValueWay [] (goes (fresh d))
    value_given : spot.end ≤ spot.start + setting.limits.item → ValueWay [] (gives v (fresh spot.context))
    value_item : (listing : ListOrSexp) (ss : Symbols) (vs : List Value) (fs : List Frame) → ValueWay (Frame.Items listing ss vs ∷ fs)
        (goes (at spot.start spot.context (Frame.Items listing ss (vs ++ v ∷ []) ∷ fs) [] (behind_item listing)))
    value_field : (ss : Symbols) (ms : List Field) (s : Option (List ℕ)) (fs : List Frame) → ValueWay (Frame.Named ss ms s ∷ fs)
        (goes (at spot.start spot.context (Frame.Fields ss (ms ++ field_of s v ∷ []) ∷ fs) [] Stage.After))

  within_way : (t : Turn) → (spot.end ≤ spot.start + setting.limits.item → ValueWay [] t) → ValueWay [] (within setting.limits.item spot.start spot.end t)
  within_way t h = cond_both (nat_le spot.end (spot.start + setting.limits.item)) t (refuses Reason.ItemTooLong) (ValueWay [])
      (λ e. h (leb-true spot.end (spot.start + setting.limits.item) e)) (λ e. value_refused [] Reason.ItemTooLong tt)

  top_way : (b : Bool) (d : Result (List Slot) Reason) → Decides d → ValueWay []
      (if b then turned setting.limits.item spot.start spot.end d else within setting.limits.item spot.start spot.end (gives v (fresh spot.context)))
  top_way true (Ok d) h = within_way (goes (fresh d)) (λ k. value_table d k)
  top_way true (Err e) h = value_refused [] e h
  top_way false d h = within_way (gives v (fresh spot.context)) (λ k. value_given k)

  -- a value ends so
  pub value_way : (fs : List Frame) → ValueWay fs (ended setting spot fs v)
  value_way [] = top_way (is_table v) (next spot.context v setting.catalog) (next_decides spot.context v setting.catalog)
  value_way (Frame.Items listing ss vs ∷ fs) = value_item listing ss vs fs
  value_way (Frame.Named ss ms s ∷ fs) = value_field ss ms s fs
  value_way (Frame.Fields ss ms ∷ fs) = value_refused (Frame.Fields ss ms ∷ fs) Reason.Unexpected tt

-- nothing is settled here
abbrev pub IsFree : Stage → Type 0
IsFree (Stage.Pending h end) = ⊥
IsFree (Stage.Long w end) = ⊥
IsFree (Stage.LongName w) = ⊥
IsFree _ = Unit {0}

module _ (g : Catalog) (l : Limits) (start : ℕ) (c : List Slot) (ss : Symbols) where
  -- 3. Where what waited is settled.

  pub data SettledWay : List Frame → Stage → Turn → Type 0 where
    settled_free : (fs : List Frame) (now : Stage) → IsFree now → settle g l (at start c fs ss now) ≡ goes (at start c fs ss now)
        → SettledWay fs now (goes (at start c fs ss now))
    settled_name : (fs : List Frame) (w : List ℕ) → SettledWay fs (Stage.LongName w) (goes (at start c fs ss (Stage.Keyed (Some w))))
    settled_held : (fs : List Frame) (h : Held) (end : ℕ) (q : Payload) (t : Turn) → IsFlat q
        → ValueWay (under g l) (spot_at end start c) (annotated ss q) fs t → SettledWay fs (Stage.Pending h end) t
    settled_text : (fs : List Frame) (w : List ℕ) (end : ℕ) (t : Turn)
        → ValueWay (under g l) (spot_at end start c) (annotated ss (payloads.Str w)) fs t → SettledWay fs (Stage.Long w end) t
    settled_marker : (h : Held) (end : ℕ) → end ≤ start + l.item → SettledWay [] (Stage.Pending h end) (goes (fresh system_slots))
    settled_version : (h : Held) (end : ℕ) → SettledWay [] (Stage.Pending h end) (late Reason.Version (fresh c))
    settled_refused : (fs : List Frame) (now : Stage) (e : Reason) → IsDecided e → SettledWay fs now (refuses e)

  paid_way : (fs : List Frame) (h : Held) (end : ℕ) (q : Result Payload Reason) → HeldFlat q
      → SettledWay fs (Stage.Pending h end) (paid (under g l) (spot_at end start c) fs ss q)
  paid_way fs h end (Ok q) flat = settled_held fs h end q _ flat (value_way (under g l) (spot_at end start c) (annotated ss q) fs)
  paid_way fs h end (Err e) d = settled_refused fs (Stage.Pending h end) e d

marker_way : (g : Catalog) (l : Limits) (start : ℕ) (c : List Slot) (h : Held) (end : ℕ)
    → SettledWay g l start c [] [] (Stage.Pending h end) (within l.item start end (goes (fresh system_slots)))
marker_way g l start c h end = cond_both (nat_le end (start + l.item)) (goes (fresh system_slots)) (refuses Reason.ItemTooLong)
    (SettledWay g l start c [] [] (Stage.Pending h end)) (λ e. settled_marker h end (leb-true end (start + l.item) e))
    (λ e. settled_refused [] (Stage.Pending h end) Reason.ItemTooLong tt)

released_way : (g : Catalog) (l : Limits) (start : ℕ) (c : List Slot) (fs : List Frame) (ss : Symbols) (h : Held) (end : ℕ)
    → SettledWay g l start c ss fs (Stage.Pending h end) (released (under g l) (spot_at end start c) fs ss h)
released_way g l start c [] [] (Held.Version true s) end = marker_way g l start c (Held.Version true s) end
released_way g l start c [] [] (Held.Version false s) end = settled_version (Held.Version false s) end
released_way g l start c [] [] Held.Nan end = settled_refused [] (Stage.Pending Held.Nan end) Reason.Float tt
released_way g l start c [] (s ∷ ss) h end = paid_way g l start c (s ∷ ss) [] h end (held_payload h) (flat_held h)
released_way g l start c (f ∷ fs) ss h end = paid_way g l start c ss (f ∷ fs) h end (held_payload h) (flat_held h)
released_way g l start c [] [] h end = paid_way g l start c [] [] h end (held_payload h) (flat_held h)

-- what waited is settled so
pub settled_way : (g : Catalog) (l : Limits) (start : ℕ) (c : List Slot) (fs : List Frame) (ss : Symbols) (now : Stage)
    → SettledWay g l start c ss fs now (settle g l (at start c fs ss now))
settled_way g l start c fs ss (Stage.Pending h end) = released_way g l start c fs ss h end
settled_way g l start c fs ss (Stage.Long w end) = settled_text fs w end _ (value_way (under g l) (spot_at end start c) (annotated ss (payloads.Str w)) fs)
settled_way g l start c fs ss (Stage.LongName w) = settled_name fs w
settled_way g l start c fs ss _ = settled_free fs _ tt refl

-- 4. What a token does.

-- where the open item begins behind the token
abbrev pub start_now : Stage → ℕ → ℕ → List Frame → Symbols → ℕ
start_now Stage.Ready start begin fs ss = begun_at start begin fs ss
start_now _ start begin fs ss = start

module _ (g : Catalog) (l : Limits) (begin end start : ℕ) (c : List Slot) where
  -- a value ends with the token, of an item that begins there
  abbrev pub EndsHere : ℕ → Symbols → Payload → List Frame → Turn → Type 0
  EndsHere from ss q fs t = ValueWay (under g l) (spot_at end from c) (annotated ss q) fs t

  pub data TokenWay (said : Content) (ss : Symbols) : List Frame → Stage → Turn → Type 0 where
    token_refused : (fs : List Frame) (now : Stage) (e : Reason) → IsDecided e → TokenWay said ss fs now (refuses e)
    token_held : (fs : List Frame) (h : Held) → TokenWay said ss fs Stage.Ready (goes (at (begun_at start begin fs ss) c fs ss (Stage.Pending h end)))
    token_text : (fs : List Frame) (w : List ℕ) → TokenWay said ss fs Stage.Ready (goes (at (begun_at start begin fs ss) c fs ss (Stage.Long w end)))
    token_value : (fs : List Frame) (q : Payload) (t : Turn) → ((m : Mark) → said ≡ Mark' m → ⊥) → IsFlat q → EndsHere (begun_at start begin fs ss) ss q fs t → TokenWay said ss fs Stage.Ready t
    token_open : (fs : List Frame) (bracket : Bracket) → said ≡ Mark' (open_mark bracket) → length fs < l.depth
        → TokenWay said ss fs Stage.Ready (goes (at (begun_at start begin fs ss) c (opened bracket ss ∷ fs) [] (first_now bracket)))
    token_deep : (fs : List Frame) → said ≡ Mark' Mark.FieldsOpen → nat_lt (length fs) l.depth ≡ false
        → TokenWay said ss fs Stage.Ready (late Reason.Depth (at (begun_at start begin fs ss) c (Frame.Fields ss [] ∷ fs) [] Stage.Name))
    token_list : (rs : Symbols) (vs : List Value) (fs : List Frame) (now : Stage) (t : Turn) → said ≡ Mark' Mark.ListClose
        → EndsHere (start_now now start begin (Frame.Items ListOrSexp.List rs vs ∷ fs) ss) rs (payloads.List vs) fs t → TokenWay said ss (Frame.Items ListOrSexp.List rs vs ∷ fs) now t
    token_sexp : (rs : Symbols) (vs : List Value) (fs : List Frame) (now : Stage) (t : Turn) → said ≡ Mark' Mark.SexpClose
        → EndsHere (start_now now start begin (Frame.Items ListOrSexp.Sexp rs vs ∷ fs) ss) rs (payloads.Sexp vs) fs t → TokenWay said ss (Frame.Items ListOrSexp.Sexp rs vs ∷ fs) now t
    token_struct : (rs : Symbols) (ms : List Field) (fs : List Frame) (now : Stage) (t : Turn) → said ≡ Mark' Mark.FieldsClose
        → EndsHere (start_now now start begin (Frame.Fields rs ms ∷ fs) ss) rs (payloads.Fields ms) fs t → TokenWay said ss (Frame.Fields rs ms ∷ fs) now t
    token_noted : (fs : List Frame) (h : Held) (e : ℕ) (s : Option (List ℕ))
        → TokenWay said ss fs (Stage.Pending h e) (goes (at start c fs (ss ++ s ∷ []) Stage.Ready))
    token_unnoted : (fs : List Frame) (h : Held) (e : ℕ) (x : Reason) → said ≡ Mark' Mark.Colons → IsDecided x
        → TokenWay said ss fs (Stage.Pending h e) (late x (at start c fs (ss ++ None ∷ []) Stage.Ready))
    token_more : (fs : List Frame) (v : List ℕ) (e : ℕ) (w : List ℕ) → TokenWay said ss fs (Stage.Long v e) (goes (at start c fs ss (Stage.Long w end)))
    token_comma : (rs : Symbols) (vs : List Value) (fs : List Frame)
        → TokenWay said ss (Frame.Items ListOrSexp.List rs vs ∷ fs) Stage.After (goes (at start c (Frame.Items ListOrSexp.List rs vs ∷ fs) [] Stage.Ready))
    token_field : (rs : Symbols) (ms : List Field) (fs : List Frame)
        → TokenWay said ss (Frame.Fields rs ms ∷ fs) Stage.After (goes (at start c (Frame.Fields rs ms ∷ fs) [] Stage.Name))
    token_name : (fs : List Frame) (s : Option (List ℕ)) → TokenWay said ss fs Stage.Name (goes (keyed start c fs s))
    token_unnamed : (fs : List Frame) (s : Option (List ℕ)) → IsKeyword said → TokenWay said ss fs Stage.Name (late Reason.KeywordAsName (keyed start c fs s))
    token_long_name : (fs : List Frame) (w : List ℕ) → TokenWay said ss fs Stage.Name (goes (at start c fs [] (Stage.LongName w)))
    token_more_name : (fs : List Frame) (v w : List ℕ) → TokenWay said ss fs (Stage.LongName v) (goes (at start c fs [] (Stage.LongName w)))
    token_colon : (rs : Symbols) (ms : List Field) (fs : List Frame) (s : Option (List ℕ))
        → TokenWay said ss (Frame.Fields rs ms ∷ fs) (Stage.Keyed s) (goes (at start c (Frame.Named rs ms s ∷ fs) [] Stage.Ready))

  open_way : (fs : List Frame) (ss : Symbols) (bracket : Bracket)
      → TokenWay (Mark' (open_mark bracket)) ss fs Stage.Ready (opening bracket l.depth (begun_at start begin fs ss) c fs ss)
  open_way fs ss bracket =
      cond_both (nat_lt (length fs) l.depth) _ _ (TokenWay (Mark' (open_mark bracket)) ss fs Stage.Ready)
      (λ i. token_open fs bracket refl (ltb-true (length fs) l.depth i)) (λ i. beyond bracket i)
    where
      beyond : (bracket : Bracket) → nat_lt (length fs) l.depth ≡ false → TokenWay (Mark' (open_mark bracket)) ss fs Stage.Ready
          (beyond_depth bracket (at (begun_at start begin fs ss) c (opened bracket ss ∷ fs) [] (first_now bracket)))
      beyond Bracket.Fields i = token_deep fs refl i
      beyond _ i = token_refused fs Stage.Ready Reason.Depth tt

  closed_way : (ss : Symbols) (bracket : Bracket) (fs : List Frame) (now : Stage)
      → TokenWay (Mark' (close_mark bracket)) ss fs now (closed bracket (under g l) (spot_at end (start_now now start begin fs ss) c) fs)
  closed_way ss Bracket.List (Frame.Items ListOrSexp.List rs vs ∷ fs) now = token_list rs vs fs now _ refl (value_way (under g l) _ _ fs)
  closed_way ss Bracket.Sexp (Frame.Items ListOrSexp.Sexp rs vs ∷ fs) now = token_sexp rs vs fs now _ refl (value_way (under g l) _ _ fs)
  closed_way ss Bracket.Fields (Frame.Fields rs ms ∷ fs) now = token_struct rs ms fs now _ refl (value_way (under g l) _ _ fs)
  closed_way ss _ fs now = token_refused fs now Reason.Unexpected tt

  flat_way : (fs : List Frame) (ss : Symbols) (said : Content) (q : Payload) → ((m : Mark) → said ≡ Mark' m → ⊥) → IsFlat q
      → TokenWay said ss fs Stage.Ready (ended (under g l) (spot_at end (begun_at start begin fs ss) c) fs (annotated ss q))
  flat_way fs ss said q none flat = token_value fs q _ none flat (value_way (under g l) (spot_at end (begun_at start begin fs ss) c) (annotated ss q) fs)

  -- what follows from a symbol that an id may have
  resolved_way : (said : Content) (fs : List Frame) (ss : Symbols) (now : Stage) (r : Result (Option (List ℕ)) Reason) (f : Option (List ℕ) → Turn) → Decides r
      → ((s : Option (List ℕ)) → TokenWay said ss fs now (f s)) → TokenWay said ss fs now (resolved r f)
  resolved_way said fs ss now (Ok s) f d h = h s
  resolved_way said fs ss now (Err e) f d h = token_refused fs now e d

  ready_way : (fs : List Frame) (ss : Symbols) (said : Content)
      → TokenWay said ss fs Stage.Ready (on_ready (under g l) (spot_at end (begun_at start begin fs ss) c) fs ss said)
  ready_way fs ss (Word w) = token_held fs (held_word w)
  ready_way fs ss (Id id) = resolved_way (Id id) fs ss Stage.Ready (resolve c id) _ (resolve_decides c id) (λ s. token_held fs (Held.Symbol s))
  ready_way fs ss (Quoted w) = token_held fs (Held.Symbol (Some w))
  ready_way fs ss (TypedNull k) = token_held fs (Held.Null k)
  ready_way fs ss (Long w) = token_text fs w
  ready_way fs ss (Short w) = flat_way fs ss (Short w) (payloads.Str w) (λ m e. cc) (flat_text w)
  ready_way fs ss (Number' n) = flat_way fs ss (Number' n) (number_payload n) (λ m e. cc) (flat_number n)
  ready_way fs ss (Operator w) = flat_way fs ss (Operator w) (payloads.Symbol (Some w)) (λ m e. cc) (flat_symbol (Some w))
  ready_way fs ss (Clob w) = flat_way fs ss (Clob w) (payloads.Clob w) (λ m e. cc) (flat_clob w)
  ready_way fs ss (Blob w) = flat_way fs ss (Blob w) (payloads.Blob w) (λ m e. cc) (flat_blob w)
  ready_way fs ss (Mark' Mark.ListOpen) = open_way fs ss Bracket.List
  ready_way fs ss (Mark' Mark.SexpOpen) = open_way fs ss Bracket.Sexp
  ready_way fs ss (Mark' Mark.FieldsOpen) = open_way fs ss Bracket.Fields
  ready_way fs [] (Mark' Mark.ListClose) = closed_way [] Bracket.List fs Stage.Ready
  ready_way fs [] (Mark' Mark.SexpClose) = closed_way [] Bracket.Sexp fs Stage.Ready
  ready_way fs ss _ = token_refused fs Stage.Ready Reason.Unexpected tt

  pending_way : (fs : List Frame) (ss : Symbols) (h : Held) (e : ℕ) (said : Content) → TokenWay said ss fs (Stage.Pending h e) (on_pending start c fs ss h said)
  pending_way fs ss h e (Mark' Mark.Colons) = by (held_symbol h) (symbol_decides h)
    where
      symbol_decides : (h : Held) → Decides (held_symbol h)
      symbol_decides (Held.Symbol s) = tt
      symbol_decides _ = tt

      by : (r : Result (Option (List ℕ)) Reason) → Decides r → TokenWay (Mark' Mark.Colons) ss fs (Stage.Pending h e) (noted start c fs ss r)
      by (Ok s) d = token_noted fs h e s
      by (Err x) d = token_unnoted fs h e x refl d
  pending_way fs ss h e _ = token_refused fs (Stage.Pending h e) Reason.Unexpected tt

  comma_way : (said : Content) (fs : List Frame) (ss : Symbols) → TokenWay said ss fs Stage.After (on_comma start c fs)
  comma_way said (Frame.Items ListOrSexp.List rs vs ∷ fs) ss = token_comma rs vs fs
  comma_way said (Frame.Fields rs ms ∷ fs) ss = token_field rs ms fs
  comma_way said fs ss = token_refused fs Stage.After Reason.Unexpected tt

  after_way : (fs : List Frame) (ss : Symbols) (said : Content) → TokenWay said ss fs Stage.After (on_after (under g l) (spot_at end start c) fs said)
  after_way fs ss (Mark' Mark.Comma) = comma_way (Mark' Mark.Comma) fs ss
  after_way fs ss (Mark' Mark.ListClose) = closed_way ss Bracket.List fs Stage.After
  after_way fs ss (Mark' Mark.FieldsClose) = closed_way ss Bracket.Fields fs Stage.After
  after_way fs ss _ = token_refused fs Stage.After Reason.Unexpected tt

  name_way : (fs : List Frame) (ss : Symbols) (said : Content) → TokenWay said ss fs Stage.Name (on_name (under g l) (spot_at end start c) fs said)
  name_way fs ss (Word w) = cond_both (is_keyword w) _ _ (TokenWay (Word w) ss fs Stage.Name) (λ e. token_unnamed fs (Some w) e) (λ e. token_name fs (Some w))
  name_way fs ss (TypedNull k) = token_unnamed fs None tt
  name_way fs ss (Id id) = resolved_way (Id id) fs ss Stage.Name (resolve c id) _ (resolve_decides c id) (λ s. token_name fs s)
  name_way fs ss (Quoted w) = token_name fs (Some w)
  name_way fs ss (Short w) = token_name fs (Some w)
  name_way fs ss (Long w) = token_long_name fs w
  name_way fs ss (Mark' Mark.FieldsClose) = closed_way ss Bracket.Fields fs Stage.Name
  name_way fs ss _ = token_refused fs Stage.Name Reason.Unexpected tt

  named_way : (said : Content) (fs : List Frame) (ss : Symbols) (s : Option (List ℕ)) → TokenWay said ss fs (Stage.Keyed s) (named start c fs s)
  named_way said (Frame.Fields rs ms ∷ fs) ss s = token_colon rs ms fs s
  named_way said fs ss s = token_refused fs (Stage.Keyed s) Reason.Unexpected tt

  -- a token goes so
  pub now_way : (fs : List Frame) (ss : Symbols) (said : Content) (now : Stage)
      → TokenWay said ss fs now (turn_now (under g l) (at start c fs ss now) (token_at begin end said) now)
  now_way fs ss said Stage.Ready = ready_way fs ss said
  now_way fs ss said (Stage.Pending h e) = pending_way fs ss h e said
  now_way fs ss (Long w) (Stage.Long v e) = token_more fs v e (v ++ w)
  now_way fs ss said (Stage.Long v e) = token_refused fs (Stage.Long v e) Reason.Unexpected tt
  now_way fs ss said Stage.After = after_way fs ss said
  now_way fs ss said Stage.Name = name_way fs ss said
  now_way fs ss (Long w) (Stage.LongName v) = token_more_name fs v (v ++ w)
  now_way fs ss said (Stage.LongName v) = token_refused fs (Stage.LongName v) Reason.Unexpected tt
  now_way fs ss (Mark' Mark.Colon) (Stage.Keyed s) = named_way (Mark' Mark.Colon) fs ss s
  now_way fs ss said (Stage.Keyed s) = token_refused fs (Stage.Keyed s) Reason.Unexpected tt
