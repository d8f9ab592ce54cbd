-- Where a reading's open item begins, behind tokens that begin no earlier; and what the scanner may hold while something waits.
use Rattle.std.proofs.Common.{◌≡◌, ℕ, ◌+◌, ◌≤◌, Bool, true, false, ◌||◌, List, [], ◌∷◌, ◌++◌, refl, sym, ap, ◌∙◌, subst, arith, Result, Ok, Err, ◌⊎◌, inl, inr, if◌then◌else◌}
use Rattle.ion_text.specs.Names.{Catalog, Content, Effect, Frame, Given, Known, Leading, Left, Limits, ListOrSexp, Next, Outcome, Placed, Reading, Reason, Refusal, Refused, Slot, Spot, Stage, State, Symbols, Token, Turn, Value, Walk, adds_values, at, continues, eats, fails, feed, gives, goes, is_fresh, is_idle, is_quoting, is_top, late, leaves, on_judged, on_placed, on_turn, once_more, place, reads, refuses, run, run_on, said, same_place, settle, settle_same, spot_at, stopped, takes, tells, token_of, turn, under, uses, waits, waits_now}
use Rattle.ion_text.specs.machine.TokenLists.{walked}
use Rattle.ion_text.specs.machine.Ways.{SettledWay, ValueWay, settled_free, settled_held, settled_marker, settled_name, settled_text, settled_way, value_given, value_item, value_refused, value_table}
use Rattle.ion_text.specs.laws.reading.Effects.{GivesSo, LeavesSo, ScansSo, SettlesSo, takes_each}
use Rattle.ion_text.specs.laws.reading.complete.Meets.{finely_as}
use Rattle.ion_text.specs.laws.reading.complete.Segments.{NotRefused, unsettled_waits}
use Rattle.ion_text.specs.laws.reading.sound.Quotes.{Fine}
use Rattle.ion_text.specs.laws.reading.sound.Spans.{IsTopNow, IsWaiting, OpenAs, Spans, turn_spans}
use Rattle.ion_text.specs.laws.reading.sound.StandsOpen.{start_now}
use Rattle.ion_text.specs.laws.reading.sound.Steps.{After, Stood, eats_after, takes_after}

-- a fresh reading waits for an item
pub fresh_parts : (start : ℕ) (c : List Slot) (fs : List Frame) (ss : Symbols) (now : Stage) → is_fresh (at start c fs ss now) ≡ true → (fs ≡ []) × (ss ≡ [])
    × (now ≡ Stage.Ready)
fresh_parts start c [] [] Stage.Ready h = (refl, refl, refl)
fresh_parts start c _ _ _ h = absurd cc

module _ (g : Catalog) (l : Limits) where
  -- nothing waits
  abbrev pub IsFree : Stage → Type 0
  IsFree (Stage.Pending h end) = ⊥
  IsFree (Stage.Long w end) = ⊥
  IsFree _ = Unit {0}

  -- what waited of an item that began there is settled: no item is open, or it is in a container
  abbrev pub Freed : ℕ → Reading → Type 0
  Freed start n = IsFree n.now × ((is_fresh n ≡ true) ⊎ ((n.start ≡ start) × (is_top n.frames ≡ false)))

  value_freed : (spot : Spot) (v : Value) (fs : List Frame) (t : Turn) → ValueWay (under g l) spot v fs t → Leading g l (Freed spot.start) t
  value_freed spot v _ _ (value_refused fs e d) = tt
  value_freed spot v _ _ (value_table d fits) = (tt, inl refl)
  value_freed spot v _ _ (value_given fits) = (tt, inl refl)
  value_freed spot v _ _ (value_item ListOrSexp.List ss vs fs) = (tt, inr (refl, refl))
  value_freed spot v _ _ _ = (tt, inr (refl, refl))

  -- what waits is settled to where no item is open, or to the same item in a container
  pub waiting_freed : (start : ℕ) (c : List Slot) (fs : List Frame) (ss : Symbols) (now : Stage) → IsWaiting g l now
      → Leading g l (Freed start) (settle g l (at start c fs ss now))
  waiting_freed start c fs ss now = by fs now _ (settled_way g l start c fs ss now)
    where
      by : (fs : List Frame) (now : Stage) (t : Turn) → SettledWay g l start c ss fs now t → IsWaiting g l now → Leading g l (Freed start) t
      by _ _ _ (settled_held fs h end q t flat way) w = value_freed (spot_at end start c) _ fs t way
      by _ _ _ (settled_text fs v end t way) w = value_freed (spot_at end start c) _ fs t way
      by _ _ _ (settled_marker h end fits) w = (tt, inl refl)
      by _ _ _ (settled_name fs v) w = absurd w
      by _ _ _ (settled_free fs (Stage.Pending h end) i e) w = absurd i
      by _ _ _ (settled_free fs (Stage.Long v end) i e) w = absurd i
      by _ _ _ (settled_free fs _ i e) w = absurd w
      by _ _ _ _ w = tt

  -- 1. Where an item begins.

  -- no item is open, or it begins at n or later
  abbrev pub From : ℕ → Reading → Type 0
  From n r = (is_top r.frames ≡ true → IsTopNow r.now) × ((is_fresh r ≡ true) ⊎ (n ≤ r.start))

  freed_from : (n start : ℕ) → n ≤ start → (t : Turn) → Leading g l (Freed start) t → Leading g l (From n) t
  freed_from n start k t h = go t h
    where
      one : (r : Reading) → Freed start r → From n r
      one r (free, inl f) = (λ e. subst IsTopNow (sym (fresh_parts r.start r.context r.frames r.notes r.now f).2) tt, inl f)
      one r (free, inr (e, f)) = (λ i. absurd (let x : true ≡ false = sym i ∙ f in cc), inr (omega (arith, k, e)))

      go : (t : Turn) → Leading g l (Freed start) t → Leading g l (From n) t
      go (goes r) h = one r h
      go (gives v r) h = one r h
      go _ h = tt

  -- an item that isn't fresh is open from there on
  open_from : (n start : ℕ) (c : List Slot) (fs : List Frame) (ss : Symbols) (now : Stage) → (now ≡ Stage.Ready → ⊥) → From n (at start c fs ss now) → n ≤ start
  open_from n start c fs ss now k (ok, inl f) = absurd (k (fresh_parts start c fs ss now f).2)
  open_from n start c fs ss now k (ok, inr h) = h

  -- settling what waits leads to no item that begins earlier
  pub settle_from : (n start : ℕ) (c : List Slot) (fs : List Frame) (ss : Symbols) (now : Stage) → From n (at start c fs ss now)
      → Leading g l (From n) (settle g l (at start c fs ss now))
  settle_from n start c fs ss (Stage.Pending h end) q = freed_from n start (open_from n start c fs ss (Stage.Pending h end) (λ e. cc) q)
      (settle g l (at start c fs ss (Stage.Pending h end))) (waiting_freed start c fs ss (Stage.Pending h end) tt)
  settle_from n start c fs ss (Stage.Long w end) q = freed_from n start (open_from n start c fs ss (Stage.Long w end) (λ e. cc) q)
      (settle g l (at start c fs ss (Stage.Long w end))) (waiting_freed start c fs ss (Stage.Long w end) tt)
  settle_from n start c fs ss (Stage.LongName w) q = (λ e. absurd (q.0 e), inr (open_from n start c fs ss (Stage.LongName w) (λ e. cc) q))
  settle_from n start c fs ss _ q = q

  begun_from : (n start begin : ℕ) (c : List Slot) (fs : List Frame) (ss : Symbols) (now : Stage) → n ≤ begin → From n (at start c fs ss now)
      → n ≤ start_now now start begin fs ss
  begun_from n start begin c [] [] Stage.Ready k q = k
  begun_from n start begin c [] (s ∷ ss) Stage.Ready k (ok, inr h) = h
  begun_from n start begin c (x ∷ fs) [] Stage.Ready k (ok, inr h) = h
  begun_from n start begin c (x ∷ fs) (s ∷ ss) Stage.Ready k (ok, inr h) = h
  begun_from n start begin c _ _ Stage.Ready k (ok, inl f) = absurd cc
  begun_from n start begin c fs ss now k q = open_from n start c fs ss now (λ e. cc) q

  turn_from : (n : ℕ) (r : Reading) (t : Token) → n ≤ t.start → From n r → Leading g l (From n) (turn g l r t)
  turn_from n r t k q = go (turn g l r t) (turn_spans g l r t q.0)
    where
      begin : n ≤ start_now r.now r.start t.start r.frames r.notes
      begin = begun_from n r.start t.start r.context r.frames r.notes r.now k q

      whole : (m : Reading) → is_fresh m ≡ true → From n m
      whole m f = (λ e. subst IsTopNow (sym (fresh_parts m.start m.context m.frames m.notes m.now f).2) tt, inl f)

      opened : (m : Reading) → OpenAs (is_top r.frames) m → n ≤ m.start → From n m
      opened m (inl h) i = (λ e. absurd (let x : true ≡ false = sym e ∙ h in cc), inr i)
      opened m (inr (top, new, ok)) i = (λ e. ok, inr i)

      go : (x : Turn) → Spans (is_top r.frames) t.said l.item (start_now r.now r.start t.start r.frames r.notes) t.end x → Leading g l (From n) x
      go (goes m) (inl (o, e, h)) = opened m o (omega (arith, begin, e))
      go (goes m) (inr h) = whole m h.2
      go (gives v m) h = whole m h.2
      go _ h = tt

  -- tokens that begin no earlier
  abbrev pub AllFrom : ℕ → List Placed → Type 0
  AllFrom n [] = Unit {0}
  AllFrom n (t ∷ ts) = (n ≤ t.lexeme.start) × AllFrom n ts

  abbrev WalkFrom : ℕ → Walk → Type 0
  WalkFrom n (walked vs r) = From n r
  WalkFrom n stopped = Unit {0}

  adds_from : (n : ℕ) (vs : List Value) (w : Walk) → WalkFrom n w → WalkFrom n (adds_values vs w)
  adds_from n vs (walked ws r) h = h
  adds_from n vs stopped h = tt

  on_turn_from : (n : ℕ) (t : Turn) (f : Reading → Walk) → Leading g l (From n) t → ((r : Reading) → From n r → WalkFrom n (f r)) → WalkFrom n (on_turn t f)
  on_turn_from n (goes r) f h k = k r h
  on_turn_from n (gives v r) f h k = adds_from n (v ∷ []) (f r) (k r h)
  on_turn_from n _ f h k = tt

  token_from : (n : ℕ) (r : Reading) (t : Token) (f : Reading → Walk) → n ≤ t.start → From n r → ((r : Reading) → From n r → WalkFrom n (f r)) → (b : Bool)
      → WalkFrom n (if b then on_turn (turn g l r t) f else on_turn (settle g l r) (λ k. on_turn (turn g l k t) f))
  token_from n r t f i q k true = on_turn_from n (turn g l r t) f (turn_from n r t i q) k
  token_from n r t f i q k false =
      on_turn_from n (settle g l r) (λ k. on_turn (turn g l k t) f) (settle_from n r.start r.context r.frames r.notes r.now q)
      (λ m h. on_turn_from n (turn g l m t) f (turn_from n m t i h) k)

  judged_from : (n : ℕ) (r : Reading) (t : Placed) (c : Result Content Reason) (f : Reading → Walk) → n ≤ t.lexeme.start → From n r
      → ((r : Reading) → From n r → WalkFrom n (f r)) → WalkFrom n (on_judged g l r t c f)
  judged_from n r t (Ok c) f i q k = token_from n r (token_of t.lexeme c) f i q k (continues r (token_of t.lexeme c))
  judged_from n r t (Err e) f i q k = tt

  placed_from : (n : ℕ) (b : Bool) (w : Walk) → WalkFrom n w → WalkFrom n (on_placed g l b w)
  placed_from n true w h = h
  placed_from n false w h = tt

  -- Behind tokens that begin no earlier, no item is open that does.
  reads_from : (n : ℕ) (ts : List Placed) (r : Reading) → AllFrom n ts → From n r → WalkFrom n (reads g l r ts)
  reads_from n [] r h q = q
  reads_from n (t ∷ ts) r h q =
      placed_from n (same_place t.place (place r)) (on_judged g l r t (said t.lexeme.kind t.lexeme.octets) (λ k. reads g l k ts))
      (judged_from n r t (said t.lexeme.kind t.lexeme.octets) (λ k. reads g l k ts) h.0 q (λ m i. reads_from n ts m h.1 i))

  -- tokens that begin no earlier lead to no item that begins earlier
  pub walked_from : (n : ℕ) (ts : List Placed) (r m : Reading) (vs : List Value) → AllFrom n ts → From n r → reads g l r ts ≡ walked vs m → From n m
  walked_from n ts r m vs h q e = subst (WalkFrom n) e (reads_from n ts r h q)

  -- 2. While something waits.

  -- behind a symbol no token has begun, and behind a long string none but what may be a segment
  abbrev pub Waits : Known → Stage → Type 0
  Waits s (Stage.Pending h end) = is_idle s.mode ≡ true
  Waits s (Stage.Long w end) = (is_idle s.mode || is_quoting s.mode) ≡ true
  Waits s _ = Unit {0}

  -- where no token has begun, anything may wait
  pub idle_waits : (s : Known) (now : Stage) → is_idle s.mode ≡ true → Waits s now
  idle_waits s (Stage.Pending h end) i = i
  idle_waits s (Stage.Long w end) i = ap (λ b. b || is_quoting s.mode) i
  idle_waits s _ i = tt

  -- where nothing waits, any token may have begun
  pub free_waits : (s : Known) (now : Stage) → IsFree now → Waits s now
  free_waits s (Stage.Pending h end) i = absurd i
  free_waits s (Stage.Long w end) i = absurd i
  free_waits s _ i = tt

  next_waits : (top : Bool) (now : Stage) (s : Known) → waits_now top now (Next s) ≡ true → Waits s now
  next_waits top (Stage.Pending h end) s e = e
  next_waits top (Stage.Long w end) s e = e
  next_waits top _ s e = tt

  -- behind what was settled nothing waits
  pub settle_free : (start : ℕ) (c : List Slot) (fs : List Frame) (ss : Symbols) (now : Stage)
      → Leading g l (λ n. IsFree n.now) (settle g l (at start c fs ss now))
  settle_free start c fs ss now = go now refl
    where
      part : (t : Turn) → Leading g l (Freed start) t → Leading g l (λ n. IsFree n.now) t
      part (refuses e) h = tt
      part (late e r) h = tt
      part _ h = h.0

      go : (n : Stage) → now ≡ n → Leading g l (λ n. IsFree n.now) (settle g l (at start c fs ss now))
      go (Stage.Pending h end) e = subst (λ x. Leading g l (λ n. IsFree n.now) (settle g l (at start c fs ss x))) (sym e)
          (part (settle g l (at start c fs ss (Stage.Pending h end))) (waiting_freed start c fs ss (Stage.Pending h end) tt))
      go (Stage.Long w end) e = subst (λ x. Leading g l (λ n. IsFree n.now) (settle g l (at start c fs ss x))) (sym e)
          (part (settle g l (at start c fs ss (Stage.Long w end))) (waiting_freed start c fs ss (Stage.Long w end) tt))
      go _ e = subst (λ x. Leading g l (λ n. IsFree n.now) (settle g l (at start c fs ss x))) (sym e) tt

  abbrev pub WaitsBehind : Effect → Type 0
  WaitsBehind (uses m) = Waits m.scan m.reading.now
  WaitsBehind (tells v m) = Waits m.scan m.reading.now
  WaitsBehind _ = Unit {0}

  given_waits : (s : Known) (t : Turn) → is_idle s.mode ≡ true → GivesSo g l WaitsBehind (λ e. tt) (λ s r. Fine s) s t
  given_waits s (goes r) i = λ k. idle_waits s r.now i
  given_waits s (gives v r) i = idle_waits s r.now i
  given_waits s _ i = tt

  module _ (o : ℕ) where
    left_waits : (s : Known) (t : Turn) → Fine s → LeavesSo g l WaitsBehind (λ e. tt) (λ s r. Fine s) s t
    left_waits s (goes r) h = h
    left_waits s _ h = tt

    scans_waits : (s : Known) (r : Reading) → Fine s → (x : Outcome) → feed (place r) s o ≡ x → ((t : Known) → x ≡ Next t → Waits t r.now)
        → ScansSo g l WaitsBehind (λ e. tt) (λ s r. Fine s) r x
    scans_waits s r h (Next t) e k = λ i. k t refl
    scans_waits s r h (Given x t) e k = λ c i. given_waits t (turn g l r (token_of x c)) (finely_as (place r) s o (Given x t) h e).3
    scans_waits s r h (Left x t) e k = λ c i. left_waits t (turn g l r (token_of x c)) (finely_as (place r) s o (Left x t) h e).0
    scans_waits s r h (Refused n y) e k = tt

    settles_waits : (s : Known) (r : Reading) → Fine s → (t : Turn) → Leading g l (λ n. IsFree n.now) t
        → Leading g l (λ n. (place n ≡ place r) × (is_top n.frames ≡ is_top r.frames)) t
        → SettlesSo g l WaitsBehind (λ e. tt) (λ s r. Fine s) s (feed (place r) s o) t
    settles_waits s r h (goes n) free same = scans_waits s n h (feed (place r) s o) (ap (λ p. feed p s o) same.0) (λ t e. free_waits t n.now free)
    settles_waits s r h _ free same = tt

    takes_waits : (n : ℕ) (m : State) → Fine m.scan → WaitsBehind (takes g l n m o)
    takes_waits n m =
        takes_each g l WaitsBehind (λ e. tt) (λ s r. Fine s) o
        (λ s r h e. scans_waits s r h (feed (place r) s o) refl
        (λ t i. next_waits (is_top r.frames) r.now t (sym (ap (waits r) i) ∙ unsettled_waits (place r) s r o (subst NotRefused (sym i) tt) e)))
        (λ s r h e. settles_waits s r h (settle g l r) (settle_free r.start r.context r.frames r.notes r.now)
        (settle_same g l r.start r.context r.frames r.notes r.now)) n m

  -- in which octets end
  abbrev pub EndsWaiting : Result State Refusal → Type 0
  EndsWaiting (Ok n) = Waits n.scan n.reading.now
  EndsWaiting (Err e) = Unit {0}

  -- while something waits, behind a run too, no token has begun but what may be a segment
  pub run_waits : (os u : List ℕ) (vs : List Value) (to : ℕ) (m : State) → Stood g l u vs m → Waits m.scan m.reading.now → EndsWaiting (run g l to m os).now
  run_waits [] u vs to m b h = h
  run_waits (o ∷ os) u vs to m b h = step (λ xs n c i. run_waits os (u ++ o ∷ []) xs (to + 1) n c i) (eats g l m o) (eats_after g l u vs m o b)
      (takes_waits o 3 m b.fine)
    where
      Rest : Type 0
      Rest = (xs : List Value) (n : State) → Stood g l (u ++ o ∷ []) xs n → Waits n.scan n.reading.now → EndsWaiting (run g l (to + 1) n os).now

      once : Rest → (ws : List Value) (x : Effect) → After g l u ws o x → WaitsBehind x → EndsWaiting (once_more to (λ n. run g l (to + 1) n os) x).now
      once rest ws (uses n) a i = rest ws n a i
      once rest ws (tells v n) a i = rest (ws ++ v ∷ []) n a i
      once rest ws _ a i = tt

      step : Rest → (x : Effect) → After g l u vs o x → WaitsBehind x → EndsWaiting (run_on to (λ n. eats g l n o) (λ n. run g l (to + 1) n os) x).now
      step rest (uses n) a i = rest vs n a i
      step rest (tells v n) a i = rest (vs ++ v ∷ []) n a i
      step rest (leaves v n) a i = once rest (vs ++ v ∷ []) (eats g l n o) (takes_after g l u (vs ++ v ∷ []) o 3 n.scan n.reading a.0 a.1 a.2)
          (takes_waits o 3 n a.2.fine)
      step rest (fails e) a i = tt
