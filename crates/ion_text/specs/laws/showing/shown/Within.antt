-- Where no octet is refused, the open item is within the limit on items, as far as it is known to go.
use Rattle.std.proofs.Common.{◌≡◌, ℕ, ◌+◌, ◌≤◌, List, [], ◌∷◌, true, ◌&&◌, Result, Ok, Err, Option, Some, None, refl, sym, subst, arith, if◌then◌else◌}
use Rattle.std.proofs.lemmas.Bool.{cond_both, leb-true}
use Rattle.std.specs.Prelude.{◌-◌, ◌==◌, bytes_eq, codes}
use Rattle.ion_text.specs.Names.{Action, Catalog, Content, Effect, Frame, Given, Known, Left, Limits, Mode, Next, Outcome, Place, Reading, Refusal, Refused, Stage, State, Symbols, Turn, acts, at, begun, begun_in, behind, blob_ends, blob_of, eats, fails, feed, form_of, gives, goes, is_fresh, is_idle, is_long_begun, is_top, leaves, longest_top, once_more, place, reaches, run, run_on, settle, takes, tells, token_of, turn, uses, waits, with_scan}
use Rattle.ion_tokens.specs.machine.Table.{next}
use Rattle.ion_text.specs.laws.reading.Effects.{GivesSo, LeavesSo, ScansSo, SettlesSo, takes_each}
use Rattle.ion_text.specs.laws.reading.complete.Accepts.{SettledCalm, idle_calm, settle_settled, turn_ok, waits_calm}
use Rattle.ion_text.specs.laws.reading.complete.Going.{TopOk}
use Rattle.ion_text.specs.laws.reading.complete.Quiet.{CalmNow, calm_now}
use Rattle.ion_text.specs.laws.reading.complete.Segments.{NotRefused, unsettled_waits}
use Rattle.ion_text.specs.laws.reading.sound.Spans.{Spans, turn_spans}
use Rattle.ion_text.specs.laws.reading.sound.StandsOpen.{start_now}

-- behind a token that ended with its last octet none has begun
abbrev IdleBehind : Outcome → Type 0
IdleBehind (Given x t) = is_idle t.mode ≡ true
IdleBehind _ = Unit {0}

blob_idle : (s : Known) (b : Option (List ℕ)) → IdleBehind (blob_ends s b)
blob_idle s None = tt
blob_idle s (Some b) = tt

acts_idle : (p : Place) (s : Known) (o : ℕ) (a : Action) → IdleBehind (acts p s o a)
acts_idle p s o (Action.Give kind k) = refl
acts_idle p s o Action.EndWord = cond_both ((o == 46) && bytes_eq s.kept (codes "null")) _ _ IdleBehind (λ e. tt) (λ e. tt)
acts_idle p s o Action.EndBlob = blob_idle s (blob_of s.kept)
acts_idle p s o _ = tt

feed_idle : (p : Place) (s : Known) (o : ℕ) → IdleBehind (feed p s o)
feed_idle p s o = acts_idle p s o (next p s.colon s.mode o)

module _ (g : Catalog) (l : Limits) where
  -- the open item is within the limit, and what waits at the top level is calm
  abbrev pub Within : State → Type 0
  Within m = (reaches m.reading.frames m.reading m.scan ≤ l.item) × (is_top m.reading.frames ≡ true → CalmNow m.reading.now m.scan.mode)

  -- what came of an octet
  abbrev WithinBehind : Effect → Type 0
  WithinBehind (uses m) = Within m
  WithinBehind (tells v m) = Within m
  WithinBehind (leaves v m) = TopOk g l m.reading
  WithinBehind (fails e) = Unit {0}

  -- where nothing is open
  fresh_within : (s : Known) (r : Reading) → is_fresh r ≡ true → is_idle s.mode ≡ true → Within (with_scan s r)
  fresh_within s r h idle = go r.frames r.notes r.now h
    where
      none : longest_top r.start s.used Stage.Ready [] (begun_in s) (is_long_begun (begun_in s)) ≤ l.item
      none = subst (λ i. longest_top r.start s.used Stage.Ready []
          (if i then None else Some (record { start = s.start; end = s.used - behind s.mode; form = form_of s.mode })) (is_long_begun (begun_in s)) ≤ l.item)
          (sym idle) (omega arith)

      go : (fs : List Frame) (ss : Symbols) (n : Stage) → is_fresh (at r.start r.context fs ss n) ≡ true → (reaches fs (at r.start r.context fs ss n) s ≤ l.item)
          × (is_top fs ≡ true → CalmNow n s.mode)
      go [] [] Stage.Ready h = (none, λ k. tt)
      go _ _ _ h = absurd cc

  given_within : (s : Known) (r : Reading) (c : Content) (start end : ℕ) (t : Turn) → is_idle s.mode ≡ true → Spans (is_top r.frames) c l.item start end t
      → GivesSo g l WithinBehind (λ e. tt) (λ s r. TopOk g l r) s t
  given_within s r c start end (goes n) idle h = λ k. (
    leb-true (reaches n.frames n s) l.item k,
    λ i. idle_calm n.now s.mode (turn_ok g l r c l.item start end (goes n) h i).0 idle,
  )
  given_within s r c start end (gives v n) idle h = fresh_within s n h.2 idle
  given_within s r c start end _ idle h = tt

  left_within : (s : Known) (r : Reading) (c : Content) (start end : ℕ) (t : Turn) → Spans (is_top r.frames) c l.item start end t
      → LeavesSo g l WithinBehind (λ e. tt) (λ s r. TopOk g l r) s t
  left_within s r c start end (goes n) h = λ k. (turn_ok g l r c l.item start end (goes n) h k).0
  left_within s r c start end (gives v n) h = λ k. (turn_ok g l r c l.item start end (gives v n) h k).0
  left_within s r c start end _ h = tt

  scans_within : (r : Reading) → TopOk g l r → (x : Outcome) → IdleBehind x → ((t : Known) → x ≡ Next t → is_top r.frames ≡ true → CalmNow r.now t.mode)
      → ScansSo g l WithinBehind (λ e. tt) (λ s r. TopOk g l r) r x
  scans_within r ok (Next t) i c = λ k. (leb-true (reaches r.frames r t) l.item k, c t refl)
  scans_within r ok (Given x t) i c = λ k e.
      given_within t r k (start_now r.now r.start x.start r.frames r.notes) x.end (turn g l r (token_of x k)) i (turn_spans g l r (token_of x k) ok)
  scans_within r ok (Left x t) i c = λ k e.
      left_within t r k (start_now r.now r.start x.start r.frames r.notes) x.end (turn g l r (token_of x k)) (turn_spans g l r (token_of x k) ok)
  scans_within r ok (Refused n e) i c = tt

  settles_within : (s : Known) (x : Outcome) → IdleBehind x → (t : Turn) → SettledCalm g l t
      → SettlesSo g l WithinBehind (λ e. tt) (λ s r. TopOk g l r) s x t
  settles_within s x i (goes n) c = scans_within n (λ k. calm_now n.now Mode.Blank (c Mode.Blank k)) x i (λ t e k. c t.mode k)
  settles_within s x i (gives v n) c = λ k. calm_now n.now Mode.Blank (c Mode.Blank k)
  settles_within s x i _ c = tt

  takes_within : (n : ℕ) (m : State) (o : ℕ) → TopOk g l m.reading → WithinBehind (takes g l n m o)
  takes_within n m o =
      takes_each g l WithinBehind (λ e. tt) (λ s r. TopOk g l r) o
      (λ s r ok e. scans_within r ok (feed (place r) s o) (feed_idle (place r) s o)
      (λ t h k. waits_calm g l r.frames r.now t ok (subst (λ y. waits r y ≡ true) h (unsettled_waits (place r) s r o (subst NotRefused (sym h) tt) e)) k))
      (λ s r ok e. settles_within s (feed (place r) s o) (feed_idle (place r) s o) (settle g l r)
      (settle_settled g l r.start r.context r.frames r.notes r.now ok)) n m

  -- in which octets end
  abbrev pub EndsWithin : Result State Refusal → Type 0
  EndsWithin (Ok n) = Within n
  EndsWithin (Err e) = Unit {0}

  run_within : (os : List ℕ) (to : ℕ) (m : State) → Within m → EndsWithin (run g l to m os).now
  run_within [] to m h = h
  run_within (o ∷ os) to m h = step (λ n i. run_within os (to + 1) n i) (eats g l m o) (takes_within 3 m o (λ k. calm_now m.reading.now m.scan.mode (h.1 k)))
    where
      Rest : Type 0
      Rest = (n : State) → Within n → EndsWithin (run g l (to + 1) n os).now

      once : Rest → (x : Effect) → WithinBehind x → EndsWithin (once_more to (λ n. run g l (to + 1) n os) x).now
      once rest (uses n) i = rest n i
      once rest (tells v n) i = rest n i
      once rest _ i = tt

      step : Rest → (x : Effect) → WithinBehind x → EndsWithin (run_on to (λ n. eats g l n o) (λ n. run g l (to + 1) n os) x).now
      step rest (uses n) i = rest n i
      step rest (tells v n) i = rest n i
      step rest (leaves v n) i = once rest (eats g l n o) (takes_within 3 n o i)
      step rest (fails e) i = tt

  -- Octets lead to what is within the limit.
  pub begun_within : (u : List ℕ) → EndsWithin (run g l 0 begun u).now
  begun_within u = run_within u 0 begun (omega arith, λ k. tt)
