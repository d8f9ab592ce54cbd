-- Each value has at most as many nodes as octets were used since the value before it, and as the limit on items allows octets.
use Rattle.std.proofs.Common.{◌≡◌, ℕ, ◌+◌, ◌≤◌, max, List, [], ◌∷◌, ◌++◌, length, Bool, true, false, Result, Ok, Err, Option, Some, None, refl, ap, sym, ◌∙◌, subst, arith, if◌then◌else◌, ◌⊎◌, inl, inr}
use Rattle.ion_text.specs.laws.reading.Effects.{GivesSo, LeavesSo, ScansSo, SettlesSo, scan_each, takes_each}
use Rattle.std.proofs.lemmas.Bool.{both_ways, or_cases, or_parts}
use Rattle.ion_text.specs.Names.{Catalog, Content, Effect, Frame, Given, HasSpan, IsBody, IsSmall, Known, Leading, Left, Lexeme, Limits, Mark, Mark', Mode, Next, Operator, Outcome, Place, Reading, Reason, Refusal, Refused, Run, Slot, Spaced, Stage, State, Symbols, TokenKind, Turn, Value, at, at_end, begun, cut_short, eats, end_late, end_now, end_of, end_ready, end_said, end_settled, end_turned, end_waiting, ends_of, fails, feed, fresh, gives, goes, in_segment, is_fresh, is_idle, is_quoted, is_quoting, is_sexp, is_top, late, leaves, long_waits, once_more, place, place_in, refuses, run, run_on, said, said_body, settle, settle_same, takes, tells, token_at, token_of, trace, turn, turn_now, under, uses, waits, waits_now, with_scan}
use Rattle.ion_text.specs.laws.reading.complete.Meets.{IdleLeft, end_spans, idle_left}
use Rattle.ion_text.specs.laws.reading.complete.Segments.{NotRefused, unsettled_waits}
use Rattle.ion_text.specs.laws.reading.small.Lengths.{EndedToken, Measured, Sized, feed_measured, idle_next, next_wants, quoting_next, sized_initial, token_wants, wants, wants_next}
use Rattle.ion_text.specs.laws.reading.small.Sizes.{TopWaits, WaitsSince, Weighs, frames_nodes, now_nodes, open_nodes, settle_weighs, turn_weighs, wait_end}
use Rattle.ion_text.specs.laws.reading.sound.StandsOpen.{start_now}

-- what waits ended behind so many octets, and within those used
abbrev pub WaitsFrom : ℕ → ℕ → Stage → Type 0
WaitsFrom b used (Stage.Pending h end) = (b ≤ end) × (end ≤ used)
WaitsFrom b used (Stage.Long w end) = (b ≤ end) × (end ≤ used)
WaitsFrom b used _ = Unit {0}

-- behind it no token is open, but quotes behind a long string
abbrev pub WaitsIn : Stage → Mode → Type 0
WaitsIn (Stage.Pending h end) m = is_idle m ≡ true
WaitsIn (Stage.Long w end) m = (is_idle m ≡ true) ⊎ (is_quoting m ≡ true)
WaitsIn _ m = Unit {0}

-- Behind `from` octets, which were used when the value before came, there is an octet for each node of what is open. They are counted from
-- `base`: where the item begins or, if its first quote was used before that value came, one octet later.
pub record Near (from : ℕ) (s : Known) (r : Reading) : Type 0 where
  pub base : ℕ
  pub behind : from ≤ base
  pub starts : r.start ≤ base
  pub far : base + open_nodes r + wants s.mode ≤ s.used
  pub waiting : is_top r.frames ≡ true → WaitsFrom (base + open_nodes r) s.used r.now
  pub quiet : is_top r.frames ≡ true → WaitsIn r.now s.mode
  pub sized : Sized s

-- the same where a token ended
pub record EndedNear (from : ℕ) (r : Reading) (x : Lexeme) (t : Known) : Type 0 where
  pub base : ℕ
  pub behind : from ≤ base
  pub starts : r.start ≤ base
  pub far : base + open_nodes r + 1 ≤ x.end
  pub some : x.start + 1 ≤ x.end
  pub rest : x.end + wants t.mode ≤ t.used
  pub idle : is_top r.frames ≡ true → is_idle t.mode ≡ true
  pub sized : Sized t

-- Where no item is open, one begins with the token. Its octets count from where it begins, but for those used before.
opened : (now : Stage) (fs : List Frame) (ss : Symbols) (start begin base end : ℕ) → start ≤ base → base + (frames_nodes fs + length ss + now_nodes now) + 1 ≤ end
    → begin + 1 ≤ end
    → (b : ℕ) × (base ≤ b) × (start_now now start begin fs ss ≤ b) × (b + (frames_nodes fs + length ss + now_nodes now) + 1 ≤ end)
opened Stage.Ready [] [] start begin base end h k n = (max base begin, omega arith, omega arith, omega (arith, k, n))
opened _ _ _ start begin base end h k n = (base, omega arith, h, k)

-- what is said of the top level
at_top : (end : ℕ) (top : Bool) (fs : List Frame) (now : Stage) → TopWaits end top fs now → is_top fs ≡ true → WaitsSince end top now
at_top end top [] now h e = h
at_top end top (f ∷ fs) now h e = absurd cc

-- what began to wait with a token
since_behind : (b used end : ℕ) (top : Bool) (now : Stage) → WaitsSince end top now → b ≤ end → end ≤ used → WaitsFrom b used now
since_behind b used end top (Stage.Pending h e) w k n = (omega (arith, w.0, k), omega (arith, w.0, n))
since_behind b used end top (Stage.Long v e) w k n = (omega (arith, w.0, k), omega (arith, w.0, n))
since_behind b used end top _ w k n = tt

since_in : (end : ℕ) (top : Bool) (now : Stage) (m : Mode) → WaitsSince end top now → (top ≡ true → is_idle m ≡ true) → WaitsIn now m
since_in end top (Stage.Pending h e) m w i = i w.1
since_in end top (Stage.Long v e) m w i = inl (i w.1)
since_in end top _ m w i = tt

-- nothing was told to wait behind what didn't stand at the top level
none_since : (b used end : ℕ) (now : Stage) → WaitsSince end false now → WaitsFrom b used now
none_since b used end (Stage.Pending h e) w = absurd (let n : false ≡ true = w.1 in cc)
none_since b used end (Stage.Long v e) w = absurd (let n : false ≡ true = w.1 in cc)
none_since b used end _ w = tt

none_in : (end : ℕ) (now : Stage) (m : Mode) → WaitsSince end false now → WaitsIn now m
none_in end now m w = since_in end false now m w (λ e. absurd cc)

-- more octets change nothing
longer : (b used later : ℕ) (now : Stage) → WaitsFrom b used now → used ≤ later → WaitsFrom b later now
longer b used later (Stage.Pending h e) w k = (w.0, omega (arith, w.1, k))
longer b used later (Stage.Long v e) w k = (w.0, omega (arith, w.1, k))
longer b used later _ w k = tt

-- no item is open, and no octet behind the values before belongs to one
near_fresh : (from : ℕ) (s : Known) (r : Reading) → r ≡ fresh r.context → from + wants s.mode ≤ s.used → Sized s → Near from s r
near_fresh from s r e h z = subst (Near from s) (sym e) (record {
  base = from;
  behind = omega arith;
  starts = omega arith;
  far =
      omega (arith, h);
  waiting = λ _. tt;
  quiet = λ _. tt;
  sized = z;
})

-- what waits goes on to wait at an octet
waits_in : (now : Stage) (top : Bool) (t : Known) → waits_now top now (Next t) ≡ true → WaitsIn now t.mode
waits_in (Stage.Pending h e) top t w = w
waits_in (Stage.Long v e) top t w = or_cases (is_idle t.mode) (is_quoting t.mode) w
waits_in _ top t w = tt

-- no operators stand at the top level
top_sexp : (fs : List Frame) (now : Stage) → is_top fs ≡ true → is_sexp (place_in fs now) ≡ false
top_sexp [] now h = refl
top_sexp (f ∷ fs) now h = absurd cc

-- where no operator may end, none is open behind a token
ended_idle : (p : Place) (x : Lexeme) (m : Mode) → (is_idle m ≡ true) ⊎ ((x.kind ≡ TokenKind.Operator) × (is_sexp p ≡ true)) → is_sexp p ≡ false → is_idle m ≡ true
ended_idle p x m (inl h) e = h
ended_idle p x m (inr h) e = absurd (let n : true ≡ false = sym h.1 ∙ e in cc)

-- an operator in a container ends no value of the top level
abbrev GivesNone : Turn → Type 0
GivesNone (gives v r) = ⊥
GivesNone _ = Unit {0}

operator_body : (octets : List ℕ) (c : Content) → IsBody TokenKind.Operator octets (Ok c) → c ≡ Operator octets
operator_body octets c h = h.0

colon_body : (octets : List ℕ) (c : Content) → IsBody (TokenKind.Mark Mark.Colon) octets (Ok c) → c ≡ Mark' Mark.Colon
colon_body octets c h = let e : Ok c ≡ Ok (Mark' Mark.Colon) = h in cc

module _ (g : Catalog) (l : Limits) where
  -- what a token leads to
  abbrev TurnNear : ℕ → Known → Turn → Type 0
  TurnNear from t (goes r) = Near from t r
  TurnNear from t (gives v r) = HasSpan l.item from t.used v × (r ≡ fresh r.context)
  TurnNear from t _ = Unit {0}

  led_near : (from : ℕ) (r : Reading) (x : Lexeme) (t : Known) (turned : Turn) (e : EndedNear from r x t)
      → Weighs (open_nodes r + 1) l.item (start_now r.now r.start x.start r.frames r.notes) x.end (is_top r.frames) turned → TurnNear from t turned
  led_near from r x t (goes n) e w =
      let b = opened r.now r.frames r.notes r.start x.start e.base x.end e.starts e.far e.some in
      let less : b.0 + open_nodes n ≤ x.end = omega (arith, b.3, w.0) in
      record {
        base = b.0;
        behind = omega (arith, e.behind, b.1);
        starts = omega (arith, w.1, b.2);
        far = omega (arith, less, e.rest);
        waiting = λ i. since_behind (b.0 + open_nodes n) t.used x.end (is_top r.frames) n.now (at_top x.end (is_top r.frames) n.frames n.now w.2 i) less
            (omega (arith, e.rest));
        quiet = λ i. since_in x.end (is_top r.frames) n.now t.mode (at_top x.end (is_top r.frames) n.frames n.now w.2 i) e.idle;
        sized = e.sized;
      }
  led_near from r x t (gives v n) e w =
      let b = opened r.now r.frames r.notes r.start x.start e.base x.end e.starts e.far e.some in (
        record {
          start = b.0;
          end = x.end;
          behind = omega (arith, e.behind, b.1);
          within = omega (arith, e.rest);
          fits =
              omega (arith, w.1, b.2);
          holds = omega (arith, w.0, b.3);
        },
        w.2,
      )
  led_near from r x t _ e w = tt

  token_near : (from : ℕ) (r : Reading) (x : Lexeme) (t : Known) (c : Content) → EndedNear from r x t → TurnNear from t (turn g l r (token_of x c))
  token_near from r x t c e = led_near from r x t (turn g l r (token_of x c)) e (turn_weighs g l r (token_of x c))

  -- what settling leads to
  settled_near : (from : ℕ) (s : Known) (r : Reading) (turned : Turn) (h : Near from s r) → Weighs (open_nodes r) l.item r.start (wait_end r.now) false turned
      → (GivesNone turned ⊎ ((h.base + open_nodes r ≤ wait_end r.now) × (wait_end r.now ≤ s.used))) → TurnNear from s turned
  settled_near from s r (goes n) h w k = record {
    base = h.base;
    behind = h.behind;
    starts = omega (arith, h.starts, w.1);
    far = omega (arith, h.far, w.0);
    waiting = λ i. none_since (h.base + open_nodes n) s.used (wait_end r.now) n.now (at_top (wait_end r.now) false n.frames n.now w.2 i);
    quiet = λ i. none_in (wait_end r.now) n.now s.mode (at_top (wait_end r.now) false n.frames n.now w.2 i);
    sized = h.sized;
  }
  settled_near from s r (gives v n) h w (inl k) = absurd k
  settled_near from s r (gives v n) h w (inr k) = (
    record { start = h.base; end = wait_end r.now; behind = h.behind; within = k.1; fits = omega (arith, w.1, h.starts); holds = omega (arith, w.0, k.0) },
    w.2,
  )
  settled_near from s r (refuses e) h w k = tt
  settled_near from s r (late e n) h w k = tt

  -- where a container is open settling gives no value
  inside : (n start end : ℕ) (fs : List Frame) (now : Stage) (turned : Turn)
      → Leading g l (λ (r : Reading). (place r ≡ place_in fs now) × (is_top r.frames ≡ is_top fs)) turned → Weighs n l.item start end false turned
      → is_top fs ≡ false → GivesNone turned
  inside n start end fs now (gives v r) h w e = absurd (let k : true ≡ false = sym (ap (λ (x : Reading). is_top x.frames) w.2) ∙ (h.1 ∙ e) in cc)
  inside n start end fs now _ h w e = tt

  open_none : (start : ℕ) (c : List Slot) (f : Frame) (fs : List Frame) (ss : Symbols) (now : Stage) → GivesNone (settle g l (at start c (f ∷ fs) ss now))
  open_none start c f fs ss now =
      inside (open_nodes (at start c (f ∷ fs) ss now)) start (wait_end now) (f ∷ fs) now (settle g l (at start c (f ∷ fs) ss now))
      (settle_same g l start c (f ∷ fs) ss now) (settle_weighs g l (at start c (f ∷ fs) ss now)) refl

  -- what gives a value waited
  waited_near : (from : ℕ) (s : Known) (start : ℕ) (c : List Slot) (fs : List Frame) (ss : Symbols) (now : Stage) (h : Near from s (at start c fs ss now))
      → GivesNone (settle g l (at start c fs ss now)) ⊎ ((h.base + open_nodes (at start c fs ss now) ≤ wait_end now) × (wait_end now ≤ s.used))
  waited_near from s start c (f ∷ fs) ss now h = inl (open_none start c f fs ss now)
  waited_near from s start c [] ss (Stage.Pending k e) h = inr (h.waiting refl)
  waited_near from s start c [] ss (Stage.Long w e) h = inr (h.waiting refl)
  waited_near from s start c [] ss _ h = inl tt

  settle_near : (from : ℕ) (s : Known) (r : Reading) → Near from s r → TurnNear from s (settle g l r)
  settle_near from s r h = settled_near from s r (settle g l r) h (settle_weighs g l r) (waited_near from s r.start r.context r.frames r.notes r.now h)

  -- nothing waits behind what was settled
  abbrev SettledNear : Turn → Type 0
  SettledNear (goes r) = (m : Mode) → is_top r.frames ≡ true → WaitsIn r.now m
  SettledNear _ = Unit {0}

  settled_in : (n start end : ℕ) (turned : Turn) → Weighs n l.item start end false turned → SettledNear turned
  settled_in n start end (goes r) w = λ m i. none_in end r.now m (at_top end false r.frames r.now w.2 i)
  settled_in n start end _ w = tt

  -- what came of an octet at the scanner: where an octet showed the end of a value, it may be a colon, which is refused
  abbrev ScannedNear : ℕ → Reading → Outcome → Type 0
  ScannedNear from r (Next t) = Near from t r
  ScannedNear from r (Given x t) = EndedNear from r x t
  ScannedNear from r (Left x t) = EndedNear from r x t ⊎ ((x.kind ≡ TokenKind.Mark Mark.Colon) × (r ≡ fresh r.context))
  ScannedNear from r (Refused n e) = Unit {0}

  module _ (from : ℕ) (s : Known) (r : Reading) (h : Near from s r) where
    idle_ended : (x : Lexeme) (t : Known) → EndedToken (place r) s x t → is_top r.frames ≡ true → is_idle t.mode ≡ true
    idle_ended x t e i = ended_idle (place r) x t.mode e.idle (top_sexp r.frames r.now i)

    ends_near : (x : Lexeme) (t : Known) → EndedToken (place r) s x t → EndedNear from r x t
    ends_near x t e = record {
      base = h.base;
      behind = h.behind;
      starts = h.starts;
      far = omega (arith, h.far, e.behind);
      some = e.some;
      rest =
          e.rest;
      idle = idle_ended x t e;
      sized = e.sized;
    }

    comes_near : (x : Outcome) → Measured (place r) s x → ((t : Known) → x ≡ Next t → is_top r.frames ≡ true → WaitsIn r.now t.mode) → ScannedNear from r x
    comes_near (Next t) z w = record {
      base = h.base;
      behind = h.behind;
      starts = h.starts;
      far = omega (arith, h.far, z.1, z.2, next_wants s.mode);
      waiting = λ i. longer (h.base + open_nodes r) s.used t.used r.now (h.waiting i) (omega (arith, z.1));
      quiet = w t refl;
      sized = z.0;
    }
    comes_near (Given x t) z w = ends_near x t z.0
    comes_near (Left x t) z w = inl (ends_near x t z.0)
    comes_near (Refused n e) z w = tt

  -- Behind a value, at the octet that showed its end. Behind a long string one quote may be used then: of the symbol that it begins an
  -- octet more comes before the token ends, so that the octets from here on suffice.
  comes_again : (p : Place) (s : Known) (r : Reading) (x : Outcome) → r ≡ fresh r.context → p ≡ Place.Top → wants_next s.mode ≡ 1 → Measured p s x
      → ((y : Lexeme) (t : Known) → x ≡ Left y t → y.kind ≡ TokenKind.Mark Mark.Colon) → ScannedNear s.used r x
  comes_again p s r (Next t) e q m z k = near_fresh s.used t r e (omega (arith, z.1, z.2, m)) z.0
  comes_again p s r (Given y t) e q m z k =
      subst (λ n. EndedNear s.used n y t) (sym e)
      (record {
        base = s.used;
        behind = omega arith;
        starts = omega arith;
        far = omega (arith, z.2);
        some = z.0.some;
        rest = z.0.rest;
        idle =
            λ _. ended_idle p y t.mode z.0.idle (ap is_sexp q);
        sized = z.0.sized;
      })
  comes_again p s r (Left y t) e q m z k = inr (k y t refl, e)
  comes_again p s r (Refused n y) e q m z k = tt

  idle_colon : (s : Known) (o : ℕ) → is_idle s.mode ≡ true → (y : Lexeme) (t : Known) → feed Place.Top s o ≡ Left y t → y.kind ≡ TokenKind.Mark Mark.Colon
  idle_colon s o h y t e =
      elim (subst (IdleLeft Place.Top s.used) e (idle_left Place.Top s o h)) [ inl k ↦ k.0 | inr k ↦ absurd (let n : false ≡ true = k.1 in cc) ]

  -- a value came of an octet, or what is read goes on
  abbrev CameNear : ℕ → ℕ → ℕ → Effect → Type 0
  CameNear from used o (uses m) = Near from m.scan m.reading × (m.scan.used ≡ used + 1)
  CameNear from used o (tells v m) = HasSpan l.item from (used + 1) v × Near (used + 1) m.scan m.reading × (m.scan.used ≡ used + 1)
  CameNear from used o (leaves v m) = HasSpan l.item from used v × (m.scan.used ≡ used) × (m.reading ≡ fresh m.reading.context)
      × ScannedNear used m.reading (feed (place m.reading) m.scan o) × Sized m.scan
  CameNear from used o (fails e) = Unit {0}

  module _ (from used o : ℕ) where
    -- what is known where the octet comes again
    abbrev NearAgain : Known → Reading → Type 0
    NearAgain s r = Near from s r × (s.used ≡ used)

    given_came : (t : Known) (turned : Turn) → TurnNear from t turned → t.used ≡ used + 1 → wants t.mode ≡ 0 → Sized t
        → GivesSo g l (CameNear from used o) (λ e. tt) NearAgain t turned
    given_came t (goes r) h e w z = λ k. (h, e)
    given_came t (gives v r) h e w z = (subst (λ n. HasSpan l.item from n v) e h.0, near_fresh (used + 1) t r h.1 (omega (arith, e, w)) z, e)
    given_came t _ h e w z = tt

    -- What gives a value before the octet waited, and the octet ends no token behind it but a colon.
    abbrev ShowsEnd : Known → Type 0
    ShowsEnd s = (wants_next s.mode ≡ 1) × ((y : Lexeme) (t : Known) → feed Place.Top s o ≡ Left y t → y.kind ≡ TokenKind.Mark Mark.Colon)

    leaves_came : (s : Known) (r : Reading) (v : Value) → HasSpan l.item from s.used v × (r ≡ fresh r.context) → s.used ≡ used → ShowsEnd s → Sized s
        → CameNear from used o (leaves v (with_scan s r))
    leaves_came s r v h e w z =
        let top : place r ≡ Place.Top = ap place h.1 in (
          subst (λ n. HasSpan l.item from n v) e h.0,
          e,
          h.1,
          subst (λ n. ScannedNear n r (feed (place r) s o)) e (comes_again (place r) s r (feed (place r) s o) h.1 top w.0 (feed_measured (place r) s o z)
              (λ y t q. w.1 y t (ap (λ p. feed p s o) (sym top) ∙ q))),
          z,
        )

    left_came : (t : Known) (turned : Turn) → TurnNear from t turned → t.used ≡ used → (GivesNone turned ⊎ (is_idle t.mode ≡ true)) → Sized t
        → LeavesSo g l (CameNear from used o) (λ e. tt) NearAgain t turned
    left_came t (goes r) h e i z = (h, e)
    left_came t (gives v r) h e (inl i) z = absurd i
    left_came t (gives v r) h e (inr i) z = leaves_came t r v h e (idle_next t.mode i, idle_colon t o i) z
    left_came t _ h e i z = tt

    -- a colon where no item is open
    colon_fails : (t : Known) (r : Reading) (x : Lexeme) (c : Content) → r ≡ fresh r.context → c ≡ Mark' Mark.Colon
        → LeavesSo g l (CameNear from used o) (λ e. tt) NearAgain t (turn g l r (token_of x c))
    colon_fails t r x c e k =
        subst (λ n. LeavesSo g l (CameNear from used o) (λ e. tt) NearAgain t (turn g l n (token_of x c))) (sym e)
        (subst (λ b. LeavesSo g l (CameNear from used o) (λ e. tt) NearAgain t (turn g l (fresh r.context) (token_of x b))) (sym k) tt)

    operator_gives : (begin end start : ℕ) (c : List Slot) (fs : List Frame) (ss : Symbols) (now : Stage) (w : List ℕ) → is_top fs ≡ false
        → GivesNone (turn_now (under g l) (at start c fs ss now) (token_at begin end (Operator w)) now)
    operator_gives begin end start c (f ∷ fs) ss (Stage.Pending k e) w h = tt
    operator_gives begin end start c [] ss now w h = absurd cc
    operator_gives begin end start c (Frame.Items listing xs vs ∷ fs) ss Stage.Ready w h = tt
    operator_gives begin end start c _ ss _ w h = tt

    -- a token that is left gives a value where none is open behind it
    left_idle : (p : Place) (r : Reading) (x : Lexeme) (t : Known) (c : Content) → p ≡ place r → (is_idle t.mode ≡ true)
        ⊎ ((x.kind ≡ TokenKind.Operator) × (is_sexp p ≡ true)) → said x.kind x.octets ≡ Ok c → GivesNone (turn g l r (token_of x c)) ⊎ (is_idle t.mode ≡ true)
    left_idle p r x t c q (inl i) e = inr i
    left_idle p r x t c q (inr i) e = by (is_top r.frames) refl
      where
        by : (b : Bool) → is_top r.frames ≡ b → GivesNone (turn g l r (token_of x c)) ⊎ (is_idle t.mode ≡ true)
        by true k = absurd (let n : true ≡ false = sym i.1 ∙ (ap is_sexp q ∙ top_sexp r.frames r.now k) in cc)
        by false k =
            let operator : c ≡ Operator x.octets = operator_body x.octets c (subst (λ y. IsBody y x.octets (Ok c)) i.0 (said_body x.kind x.octets c e)) in
            inl (subst (λ y. GivesNone (turn g l r (token_of x y))) (sym operator)
            (operator_gives x.start x.end r.start r.context r.frames r.notes r.now x.octets k))

    -- An octet at the scanner.
    scans_came : (p : Place) (s : Known) (r : Reading) (x : Outcome) → p ≡ place r → s.used ≡ used → Measured p s x → ScannedNear from r x
        → ScansSo g l (CameNear from used o) (λ e. tt) NearAgain r x
    scans_came p s r (Next t) q e z h = λ k. (h, omega (arith, z.1, e))
    scans_came p s r (Given x t) q e z h = λ c k.
        given_came t (turn g l r (token_of x c)) (token_near from r x t c h) (omega (arith, z.1, e)) (omega (arith, z.1, z.2, h.rest)) h.sized
    scans_came p s r (Left x t) q e z (inl h) = λ c k.
        left_came t (turn g l r (token_of x c)) (token_near from r x t c h) (omega (arith, z.1, e)) (left_idle p r x t c q z.0.idle k) h.sized
    scans_came p s r (Left x t) q e z (inr h) = λ c k.
        colon_fails t r x c h.1 (colon_body x.octets c (subst (λ y. IsBody y x.octets (Ok c)) h.0 (said_body x.kind x.octets c k)))
    scans_came p s r (Refused n y) q e z h = tt

    long_shows : (s : Known) → Sized s → long_waits true (feed Place.Top s o) ≡ false → (is_idle s.mode ≡ true) ⊎ (is_quoting s.mode ≡ true) → ShowsEnd s
    long_shows s z w (inl i) = (idle_next s.mode i, idle_colon s o i)
    long_shows s z w (inr q) = (quoting_next s.mode q, λ y t e. absurd (quoted (feed Place.Top s o) (feed_measured Place.Top s o z) w y t e))
      where
        quoted : (x : Outcome) → Measured Place.Top s x → long_waits true x ≡ false → (y : Lexeme) (t : Known) → x ≡ Left y t → ⊥
        quoted (Left x k) h w y t e = both_ways (is_quoted x.kind) w (h.2 q)
        quoted _ h w y t e = cc

    shown_before : (s : Known) (start : ℕ) (c : List Slot) (fs : List Frame) (ss : Symbols) (now : Stage) → Near from s (at start c fs ss now)
        → waits (at start c fs ss now) (feed (place_in fs now) s o) ≡ false
        → GivesNone (settle g l (at start c fs ss now)) ⊎ ShowsEnd s
    shown_before s start c (f ∷ fs) ss now h w = inl (open_none start c f fs ss now)
    shown_before s start c [] ss (Stage.Pending k e) h w = inr (idle_next s.mode (h.quiet refl), idle_colon s o (h.quiet refl))
    shown_before s start c [] ss (Stage.Long v e) h w = inr (long_shows s h.sized w (h.quiet refl))
    shown_before s start c [] ss _ h w = inl tt

    on_place : (p q : Place) (s : Known) → p ≡ q → Sized s → Measured q s (feed p s o)
    on_place p q s e z = subst (λ k. Measured k s (feed p s o)) e (feed_measured p s o z)

    -- where it was settled before the octet
    settles_came : (s : Known) (fs : List Frame) (now : Stage) (turned : Turn) → s.used ≡ used → Sized s → TurnNear from s turned → SettledNear turned
        → Leading g l (λ (r : Reading). (place r ≡ place_in fs now) × (is_top r.frames ≡ is_top fs)) turned → GivesNone turned ⊎ ShowsEnd s
        → SettlesSo g l (CameNear from used o) (λ e. tt) NearAgain s (feed (place_in fs now) s o) turned
    settles_came s fs now (goes r) e z h i k w =
        let x : Outcome = feed (place_in fs now) s o in
        let there = on_place (place_in fs now) (place r) s (sym k.0) z in
        scans_came (place r) s r x refl e there (comes_near from s r h x there (λ t q j. i t.mode j))
    settles_came s fs now (gives v r) e z h i k (inl w) = absurd w
    settles_came s fs now (gives v r) e z h i k (inr w) = leaves_came s r v h e w z
    settles_came s fs now _ e z h i k w = tt

    -- An octet behind what is read.
    takes_came : (n : ℕ) (s : Known) (r : Reading) → Near from s r → s.used ≡ used → CameNear from used o (takes g l n (with_scan s r) o)
    takes_came n s r h e =
        takes_each g l (CameNear from used o) (λ e. tt) NearAgain o
        (λ s r a w. scans_came (place r) s r (feed (place r) s o) refl a.1 (feed_measured (place r) s o a.0.sized)
        (comes_near from s r a.0 (feed (place r) s o) (feed_measured (place r) s o a.0.sized) (λ t q i.
        waits_in r.now (is_top r.frames) t (subst (λ x. waits r x ≡ true) q (unsettled_waits (place r) s r o (subst NotRefused (sym q) tt) w)))))
        (λ s r a w. settles_came s r.frames r.now (settle g l r) a.1 a.0.sized (settle_near from s r a.0)
        (settled_in (open_nodes r) r.start (wait_end r.now) (settle g l r) (settle_weighs g l r))
        (settle_same g l r.start r.context r.frames r.notes r.now)
        (shown_before s r.start r.context r.frames r.notes r.now a.0 (or_parts (waits r (feed (place r) s o)) (in_segment r.now s) w).0))
        n (with_scan s r) (h, e)

    -- the octet that showed the end of a value, again
    fresh_came : (s : Known) (c : List Slot) → ScannedNear from (fresh c) (feed Place.Top s o) → s.used ≡ used → Sized s
        → CameNear from used o (takes g l 3 (with_scan s (fresh c)) o)
    fresh_came s c h e z =
        scan_each g l (CameNear from used o) (λ e. tt) NearAgain (λ k. takes g l 2 k o) (λ k i. takes_came 2 k.scan k.reading i.0 i.1) (fresh c)
        (feed Place.Top s o) (scans_came Place.Top s (fresh c) (feed Place.Top s o) refl e (feed_measured Place.Top s o z) h)

    again_came : (m : State) → m.reading ≡ fresh m.reading.context → ScannedNear from m.reading (feed (place m.reading) m.scan o) → m.scan.used ≡ used
        → Sized m.scan → CameNear from used o (eats g l m o)
    again_came m f h e z = subst (λ r. ScannedNear from r (feed (place r) m.scan o) → CameNear from used o (takes g l 3 (with_scan m.scan r) o)) (sym f)
        (λ k. fresh_came m.scan m.reading.context k e z) h

  -- of runs

  -- behind the values given, of which the last came at `from`, n octets are used in all
  abbrev Led : ℕ → List (Value × ℕ) → Result State Refusal → ℕ → Type 0
  Led from [] (Ok m) n = Near from m.scan m.reading × (m.scan.used ≡ n)
  Led from [] (Err e) n = from ≤ n
  Led from ((v, at) ∷ given) now n = HasSpan l.item from at v × Led at given now n

  more_led : (from to n o : ℕ) (rest : State → Run) (x : Effect) → from ≤ n
      → ((k : ℕ) (m : State) → Near k m.scan m.reading → m.scan.used ≡ to + 1 → Led k (rest m).given (rest m).now n) → CameNear from to o x
      → Led from (once_more to rest x).given (once_more to rest x).now n
  more_led from to n o rest (uses m) k f h = f from m h.0 h.1
  more_led from to n o rest (tells v m) k f h = (h.0, f (to + 1) m h.1 h.2)
  more_led from to n o rest _ k f h = k

  octet_led : (from to n o : ℕ) (rest : State → Run) (x : Effect) → from ≤ n → to ≤ n
      → ((k : ℕ) (m : State) → Near k m.scan m.reading → m.scan.used ≡ to + 1 → Led k (rest m).given (rest m).now n) → CameNear from to o x
      → Led from (run_on to (λ m. eats g l m o) rest x).given (run_on to (λ m. eats g l m o) rest x).now n
  octet_led from to n o rest (uses m) j k f h = f from m h.0 h.1
  octet_led from to n o rest (tells v m) j k f h = (h.0, f (to + 1) m h.1 h.2)
  octet_led from to n o rest (leaves v m) j k f h = (h.0, more_led to to n o rest (eats g l m o) k f (again_came to to o m h.2 h.3 h.1 h.4))
  octet_led from to n o rest (fails e) j k f h = j

  run_led : (os : List ℕ) (from to n : ℕ) (m : State) → n ≡ to + length os → Near from m.scan m.reading → m.scan.used ≡ to
      → Led from (run g l to m os).given (run g l to m os).now n
  run_led [] from to n m e h u = (h, omega (arith, e, u))
  run_led (o ∷ os) from to n m e h u =
      octet_led from to n o (λ k. run g l (to + 1) k os) (eats g l m o) (omega (arith, e, u, h.behind, h.far)) (omega (arith, e))
      (λ k i j w. run_led os k (to + 1) n i (omega (arith, e)) j w) (takes_came from to o 3 m.scan m.reading h u)

  -- the end

  abbrev EndHas : ℕ → ℕ → Result (Option Value) Refusal → Type 0
  EndHas from used (Ok (Some v)) = HasSpan l.item from used v
  EndHas from used _ = Unit {0}

  module _ (from : ℕ) where
    late_has : (used : ℕ) (e : Reason) → EndHas from used (end_late used e)
    late_has used Reason.Depth = tt
    late_has used _ = tt

    fresh_has : (used : ℕ) (b : Bool) → EndHas from used (if b then Ok None else cut_short used)
    fresh_has used true = tt
    fresh_has used false = tt

    settled_has : (s : Known) (turned : Turn) → TurnNear from s turned → EndHas from s.used (end_settled s.used turned)
    settled_has s (goes r) h = fresh_has s.used (is_fresh r)
    settled_has s (gives v r) h = h.0
    settled_has s (refuses e) h = tt
    settled_has s (late e r) h = late_has s.used e

    turned_has : (s : Known) (turned : Turn) → TurnNear from s turned → EndHas from s.used (end_turned g l s.used turned)
    turned_has s (goes r) h = settled_has s (settle g l r) (settle_near from s r h)
    turned_has s (gives v r) h = h.0
    turned_has s (refuses e) h = tt
    turned_has s (late e r) h = late_has s.used e

    -- behind the last token
    abbrev behind_last : ℕ → Known
    behind_last used = record { mode = Mode.Blank; kept = []; colon = false; start = used; used = used }

    last_ended : (s : Known) (r : Reading) (x : Lexeme) → Near from s r → at_end (place r) s ≡ Ok (Some x) → EndedNear from r x (behind_last s.used)
    last_ended s r x h e =
        let k = end_spans s (end_of (place r) s.mode) x e in
        let n = token_wants (place r) s x e in
        let z = h.sized in
        let i = z.enough in
        record {
          base = h.base;
          behind = h.behind;
          starts = h.starts;
          far = omega (arith, h.far, k.1, n);
          some = omega (arith, k.0, k.1, i, n);
          rest =
              omega (arith, k.1);
          idle = λ _. refl;
          sized = record { enough = omega arith; letters = refl };
        }

    said_has : (s : Known) (r : Reading) (x : Lexeme) (c : Result Content Reason) → EndedNear from r x (behind_last s.used)
        → EndHas from s.used (end_said g l s.used r x c)
    said_has s r x (Ok c) h = turned_has (behind_last s.used) (turn g l r (token_of x c)) (token_near from r x (behind_last s.used) c h)
    said_has s r x (Err e) h = tt

    waiting_has : (s : Known) (x : Result (Option Lexeme) Reason) (turned : Turn) → TurnNear from s turned
        → EndHas from s.used (end_waiting g l s.used x turned)
    waiting_has s (Ok None) t h = settled_has s t h
    waiting_has s (Ok (Some x)) (late e r) h = late_has s.used e
    waiting_has s (Err y) (late e r) h = late_has s.used e
    waiting_has s _ _ h = tt

    ready_has : (s : Known) (r : Reading) (x : Result (Option Lexeme) Reason) → Near from s r → at_end (place r) s ≡ x
        → EndHas from s.used (end_ready g l s.used r x)
    ready_has s r (Ok None) h e = fresh_has s.used (is_fresh r)
    ready_has s r (Ok (Some x)) h e = said_has s r x (said x.kind x.octets) (last_ended s r x h e)
    ready_has s r (Err y) h e = tt

    ends_has : (s : Known) (r : Reading) (now : Stage) → Near from s r → EndHas from s.used (end_now g l s.used r (at_end (place r) s) now)
    ends_has s r (Stage.Pending k e) h = waiting_has s (at_end (place r) s) (settle g l r) (settle_near from s r h)
    ends_has s r (Stage.Long w e) h = waiting_has s (at_end (place r) s) (settle g l r) (settle_near from s r h)
    ends_has s r (Stage.LongName w) h = tt
    ends_has s r _ h = ready_has s r (at_end (place r) s) h refl

  led_spaced : (from n : ℕ) (given : List (Value × ℕ)) (now : Result State Refusal) → Led from given now n → Spaced l.item from given n
  led_spaced from n [] (Ok m) h = let k = h.0 in omega (arith, k.behind, k.far, h.1)
  led_spaced from n [] (Err e) h = h
  led_spaced from n ((v, at) ∷ given) now h = (h.0, led_spaced at n given now h.1)

  last_spaced : (from n : ℕ) (given : List (Value × ℕ)) (now : Result State Refusal) (v : Value) → Led from given now n → ends_of g l now ≡ Ok (Some v)
      → Spaced l.item from (given ++ (v, n) ∷ []) n
  last_spaced from n [] (Ok m) v h e = (
    subst (λ k. HasSpan l.item from k v) h.1
        (subst (EndHas from m.scan.used) e (ends_has from m.scan m.reading m.reading.now h.0)),
    omega arith,
  )
  last_spaced from n [] (Err x) v h e = absurd cc
  last_spaced from n ((w, at) ∷ given) now v h e = (h.0, last_spaced at n given now v h.1 e)

  -- A value has at most as many nodes as octets were used since the value before it, and as the limit allows octets.
  pub is_small : (u : List ℕ) → IsSmall l.item u (trace g l u)
  is_small u =
      let x = run g l 0 begun u in
      let h = run_led u 0 0 (length u) begun (omega arith) (near_fresh 0 begun.scan begun.reading refl (omega arith) sized_initial) refl in
      record { given = led_spaced 0 (length u) x.given x.now h; last = λ v e. last_spaced 0 (length u) x.given x.now v h e }
