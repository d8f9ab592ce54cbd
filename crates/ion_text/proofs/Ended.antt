-- What a token does to a reader that holds no values: what stages, ends, opens and closes.
use Rattle.std.proofs.Common.{◌≡◌, ◌≢◌, ℕ, ◌+◌, List, [], ◌∷◌, ◌++◌, Bool, true, false, ◌⊎◌, Option, Some, None, Result, Ok, Err, refl, ap, sym, subst, ◌∙◌, inl, inr}
use Rattle.std.specs.Prelude.{if◌then◌else◌, nat_le}
use Rattle.ion_text.specs.Names.{AreAround, AreOpen, Bracket, Does, DoesAlone, Event, Frame, Gives, Goes, Hears, Holds, IsShape, ListOrSexp, Memory, Payload, Reason, Setting, Slot, Spot, Stage, Symbols, TableFilter, TextWalk, Turn, Turned, Value, WasTold, annotated, at, behind_value, brackets_of, calm, ended, events_of, field_of, fresh, gives, goes, has_notes, heard, heard_by, is_inside, is_table, layer_events, next, open_brackets, out-Payload, part, reading_of, refuses, setting_of, spot_of, table_of, told, turned, within}
use Rattle.ion_visiting.specs.declared.table_filter.Table.{Table}
use Rattle.ion_symtab.specs.laws.Pruned.{next_pruned}
use Rattle.ion_visiting.specs.Skims.{pruned}
use Rattle.ion_visiting.specs.laws.Filters.{table_told}
use Rattle.ion_visiting.specs.laws.Skims.{table_pruned}
use Rattle.ion_text.specs.walk.Holds.{told_in}
use Rattle.ion_text.proofs.Holding.{field_told, item_told, part_told}
use Rattle.ion_text.proofs.Taking.{does_behind}

-- 1. Where nothing is told.

-- a reader of another stage, whose containers and annotations are those of before
abbrev pub staged : TextWalk → Stage → TextWalk
staged r s = record r { stage = s }

pub staged_same : (r new : TextWalk) (fs : List Frame) (ss : Symbols) (s : Stage) → new ≡ staged r s → calm s ≡ calm r.stage → Holds r fs ss
    → DoesAlone (told fs ss) (goes (at r.start r.context fs ss s)) (Ok Goes) new
staged_same r new fs ss s is same h =
    subst (λ n. DoesAlone (told fs ss) (goes (at r.start r.context fs ss s)) (Ok Goes) n) (sym is)
    (fs, ss, refl, (subst (λ n. IsShape (open_brackets r) r.noted n fs ss) (sym same) h.0, h.1), refl)

-- 2. Where a value ends.

-- at the top level
pub top_ends : (E : List Frame → Value → Turn) (bs : List Bracket) (f : TableFilter) (result : Result Turned Reason) (new : TextWalk)
    → is_inside bs ≡ false → ((v : Value) → WasTold f (events_of v) → DoesAlone (events_of v) (E [] v) result new)
    → (fs : List Frame) (v : Value) → bs ≡ brackets_of fs → AreAround fs → WasTold f (told_in fs ++ events_of v)
    → DoesAlone (told_in fs ++ events_of v) (E fs v) result new
top_ends E bs f result new none at_top [] v same around told = at_top v told
top_ends E bs f result new none at_top (x ∷ fs) v same around told = let inside = ap is_inside same in absurd cc

-- a reader behind a value in an open container
abbrev pub behind_in : TextWalk → Stage → TextWalk
behind_in r s = record r { noted = false; stage = s }

module _ (r : TextWalk) (end : ℕ) where
  abbrev Ends : List Frame → Value → TextWalk → Type 0
  Ends fs v new = DoesAlone (told_in fs ++ events_of v) (ended (setting_of r) (spot_of r end) fs v) (Ok Goes) new

  -- it is put into a frame
  put : (f g : Frame) (fs : List Frame) (v : Value) (n : Stage) → ended (setting_of r) (spot_of r end) (f ∷ fs) v ≡ goes (at r.start r.context (g ∷ fs) [] n)
      → open_brackets r ≡ brackets_of (g ∷ fs) → AreOpen (g ∷ fs) [] (calm n) → told (g ∷ fs) [] ≡ told_in (f ∷ fs) ++ events_of v
      → WasTold r.filter (told_in (f ∷ fs) ++ events_of v) → Ends (f ∷ fs) v (behind_in r n)
  put f g fs v n does same around e was =
      (g ∷ fs, [], does, (record { frames = same; notes = refl; open_there = around }, subst (λ es. WasTold r.filter es) (sym e) was), ap heard e)

  ends_at : (f : Frame) (fs : List Frame) (v : Value) → open_brackets r ≡ brackets_of (f ∷ fs) → AreAround (f ∷ fs)
      → WasTold r.filter (told_in (f ∷ fs) ++ events_of v) → Ends (f ∷ fs) v (behind_in r (behind_value (brackets_of (f ∷ fs))))
  ends_at (Frame.Items ListOrSexp.List ss vs) fs v same around was =
      put (Frame.Items ListOrSexp.List ss vs) (Frame.Items ListOrSexp.List ss (vs ++ v ∷ [])) fs v Stage.After refl same around (item_told ListOrSexp.List fs ss vs v) was
  ends_at (Frame.Items ListOrSexp.Sexp ss vs) fs v same around was =
      put (Frame.Items ListOrSexp.Sexp ss vs) (Frame.Items ListOrSexp.Sexp ss (vs ++ v ∷ [])) fs v Stage.Ready refl same around (item_told ListOrSexp.Sexp fs ss vs v) was
  ends_at (Frame.Named ss ms s) fs v same around was =
      put (Frame.Named ss ms s) (Frame.Fields ss (ms ++ field_of s v ∷ [])) fs v Stage.After refl same around (field_told fs ss ms s v) was
  ends_at (Frame.Fields ss ms) fs v same around was = absurd around

  -- in an open container
  pub inner_ends : (new : TextWalk) → is_inside (open_brackets r) ≡ true → new ≡ behind_in r (behind_value (open_brackets r))
      → (fs : List Frame) (v : Value) → open_brackets r ≡ brackets_of fs → AreAround fs → WasTold r.filter (told_in fs ++ events_of v) → Ends fs v new
  inner_ends new some is [] v same around was = let none = ap is_inside same in absurd cc
  inner_ends new some is (f ∷ fs) v same around was =
      subst (λ n. Ends (f ∷ fs) v n) (sym (is ∙ ap (λ bs. behind_in r (behind_value bs)) same)) (ends_at f fs v same around was)

-- 3. Where a value of the top level ends.

-- a reader of the top level that gave a value
abbrev pub given : TextWalk → TableFilter → TextWalk
given r f = record r { start = 0; filter = f }

not_table : (v w : Value) (b : Bool) → b ≡ is_table v → None ≡ (if b then Some w else None) → is_table v ≡ false
not_table v w true e n = absurd cc
not_table v w false e n = sym e

a_table : (v w t : Value) (b : Bool) → b ≡ is_table v → Some t ≡ (if b then Some w else None) → (is_table v ≡ true) × (t ≡ w)
a_table v w t true e n = (sym e, cc)
a_table v w t false e n = absurd cc

module _ (setting : Setting) (spot : Spot) (f : TableFilter) (new : TextWalk) (o : Option Value)
    (none : open_brackets new ≡ []) (noted : new.noted ≡ false) (stage : new.stage ≡ Stage.Ready) (start : new.start ≡ 0)
    (fits : nat_le spot.end (spot.start + setting.limits.item) ≡ true)
    (told_end : (v : Value) → WasTold f (events_of v) → (o ≡ table_of v) × WasTold new.filter []) where
  holds_none : (v : Value) → WasTold f (events_of v) → Holds new [] []
  holds_none v h = (
    record { frames = none; notes = noted; open_there = subst (λ n. AreOpen [] [] (calm n)) (sym stage) tt },
    (told_end v h).1,
  )

  fresh_reading : fresh new.context ≡ reading_of new [] []
  fresh_reading = ap (λ x. at x new.context [] [] Stage.Ready) (sym start) ∙ ap (λ x. at new.start new.context [] [] x) (sym stage)

  pub gives_out : new.context ≡ spot.context → o ≡ None → (v : Value) → WasTold f (events_of v)
      → DoesAlone (events_of v) (ended setting spot [] v) (Ok Gives) new
  gives_out context is v h =
      let no = not_table v (pruned v) (is_table v) refl (sym is ∙ (told_end v h).0) in (
        v,
        ap (λ b. if b then turned setting.limits.item spot.start spot.end (next spot.context v setting.catalog)
            else within setting.limits.item spot.start spot.end (gives v (fresh spot.context))) no
            ∙ (ap (λ b. if b then gives v (fresh spot.context) else refuses Reason.ItemTooLong) fits
            ∙ ap (gives v) (ap fresh (sym context) ∙ fresh_reading)),
        holds_none v h,
        sym (ap (λ t. heard_by t (events_of v)) (table_told v ∙ ap (λ b. if b then Table.Yes else Table.No) no)),
      )

  pub table_out : (t : Value) → (is_table t ≡ true → next spot.context t setting.catalog ≡ Ok new.context) → o ≡ Some t
      → (v : Value) → WasTold f (events_of v) → DoesAlone (events_of v) (ended setting spot [] v) (Ok Goes) new
  table_out t applied is v h =
      let yes = a_table v (pruned v) t (is_table v) refl (sym is ∙ (told_end v h).0) in
      let led : next spot.context v setting.catalog ≡ Ok new.context =
      sym (next_pruned spot.context v setting.catalog)
      ∙ (ap (λ x. next spot.context x setting.catalog) (sym yes.1) ∙ applied (ap is_table yes.1 ∙ (table_pruned v ∙ yes.0))) in (
        [],
        [],
        ap (λ b. if b then turned setting.limits.item spot.start spot.end (next spot.context v setting.catalog)
            else within setting.limits.item spot.start spot.end (gives v (fresh spot.context))) yes.0
            ∙ (ap (turned setting.limits.item spot.start spot.end) led
            ∙ (ap (λ b. if b then goes (fresh new.context) else refuses Reason.ItemTooLong) fits ∙ ap goes fresh_reading)),
        holds_none v h,
        sym (ap (λ t. heard_by t (events_of v)) (table_told v ∙ ap (λ b. if b then Table.Yes else Table.No) yes.0)),
      )

-- a table that is refused, or too long
module _ (setting : Setting) (spot : Spot) (new : TextWalk) (o : Option Value) (t : Value) (is : o ≡ Some t) (v : Value) (told_end : o ≡ table_of v) where
  named : (is_table v ≡ true) × (t ≡ pruned v)
  named = a_table v (pruned v) t (is_table v) refl (sym is ∙ told_end)

  pub table_is : is_table t ≡ true
  table_is = ap is_table named.1 ∙ (table_pruned v ∙ named.0)

  table_turns : (d : Result (List Slot) Reason) → next spot.context t setting.catalog ≡ d
      → ended setting spot [] v ≡ turned setting.limits.item spot.start spot.end d
  table_turns d h =
      ap (λ b. if b then turned setting.limits.item spot.start spot.end (next spot.context v setting.catalog)
      else within setting.limits.item spot.start spot.end (gives v (fresh spot.context))) named.0
      ∙ ap (turned setting.limits.item spot.start spot.end)
      (sym (next_pruned spot.context v setting.catalog) ∙ (ap (λ x. next spot.context x setting.catalog) (sym named.1) ∙ h))

  of_two : (reason : Reason) → ((reason ≡ Memory) → ⊥) → (reason ≡ Memory) ⊎ (next spot.context t setting.catalog ≡ Err reason)
      → next spot.context t setting.catalog ≡ Err reason
  of_two reason other (inl m) = absurd (other m)
  of_two reason other (inr e) = e

  pub table_refused : (reason : Reason) → (reason ≡ Memory) ⊎ (next spot.context t setting.catalog ≡ Err reason)
      → DoesAlone (events_of v) (ended setting spot [] v) (Err reason) new
  table_refused reason h = λ other. table_turns (Err reason) (of_two reason other h)

  pub table_too_long : (d : List Slot) → next spot.context t setting.catalog ≡ Ok d → nat_le spot.end (spot.start + setting.limits.item) ≡ false
      → DoesAlone (events_of v) (ended setting spot [] v) (Err Reason.ItemTooLong) new
  table_too_long d h long = λ other.
      table_turns (Ok d) h ∙ ap (λ b. if b then goes (fresh d) else refuses Reason.ItemTooLong) long

-- 4. A part is told, and with it a value ends.

module _ {V : Type 0} (leads : V → Event → V → Type 0) where
  pub whole_does : (E : List Frame → Value → Turn) (r : TextWalk) (p : Payload) (g : TableFilter) (result : Result Turned Reason) (new : TextWalk) (a b : V)
      → r.stage ≡ Stage.Ready → layer_events (out-Payload p) ≡ part p ∷ []
      → ((es : List Event) → WasTold r.filter es → WasTold g (es ++ part p ∷ []) × Hears leads (heard es) (heard (es ++ part p ∷ [])) a b)
      → ((fs : List Frame) (v : Value) → open_brackets r ≡ brackets_of fs → AreAround fs → WasTold g (told_in fs ++ events_of v)
      → DoesAlone (told_in fs ++ events_of v) (E fs v) result new)
      → (fs : List Frame) (ss : Symbols) → Holds r fs ss → Does leads (told fs ss) (E fs (annotated ss p)) result new a b
  whole_does E r p g result new a b ready leaf tells ends fs ss h =
      let i = tells (told fs ss) h.1 in
      let e = part_told fs ss p leaf in
      does_behind leads (told fs ss) (told_in fs ++ events_of (annotated ss p)) (E fs (annotated ss p)) result new a b
      (subst (λ w. Hears leads (heard (told fs ss)) (heard w) a b) e i.1)
      (ends fs (annotated ss p) h.0.frames (subst (λ n. AreOpen fs ss (calm n)) ready h.0.open_there) (subst (λ w. WasTold g w) e i.0))

-- 5. What a token does, where this was expected.

calm_twice : (now : Stage) → calm (calm now) ≡ calm now
calm_twice Stage.Ready = refl
calm_twice _ = refl

-- a reader in which nothing waits any more stands for what it stood for
pub holds_calm : (r mid : TextWalk) → mid ≡ staged r (calm r.stage) → (fs : List Frame) (ss : Symbols) → Holds r fs ss → Holds mid fs ss
holds_calm r mid is fs ss h = subst (λ w. Holds w fs ss) (sym is)
    (subst (λ n. IsShape (open_brackets r) r.noted n fs ss) (sym (calm_twice r.stage)) h.0, h.1)

-- where no value may come no annotations were read
pub open_bare : (fs : List Frame) (ss : Symbols) (now : Stage) → AreOpen fs ss now → now ≢ Stage.Ready → ss ≡ []
open_bare fs ss Stage.Ready h other = absurd (other refl)
open_bare (Frame.Items ListOrSexp.List ns vs ∷ fs) [] Stage.After h other = refl
open_bare (Frame.Fields ns ms ∷ fs) [] Stage.After h other = refl
open_bare (Frame.Fields ns ms ∷ fs) [] Stage.Name h other = refl
open_bare _ _ _ h other = absurd h

-- what a method does where there are no annotations, it does for whatever the reader stood for
pub bare_does : (P : List Frame → Symbols → Type 0) (r mid : TextWalk) → mid ≡ staged r (calm r.stage) → calm r.stage ≢ Stage.Ready
    → ((fs : List Frame) → Holds mid fs [] → P fs []) → (fs : List Frame) (ss : Symbols) → Holds r fs ss → P fs ss
bare_does P r mid is bare does fs ss h =
    let none = open_bare fs ss (calm r.stage) h.0.open_there bare in
    subst (λ w. P fs w) (sym none) (does fs (subst (λ w. Holds mid fs w) none (holds_calm r mid is fs ss h)))

-- no container is open, and no annotation was read

pub bare_alone : (ss : Symbols) → has_notes ss ≡ false → ss ≡ []
bare_alone [] h = refl
bare_alone (s ∷ ss) h = absurd cc
