-- The reader of octets accepts each document, and gives its values.
use Rattle.std.proofs.Common.{◌≡◌, ℕ, ◌+◌, ◌≤◌, ◌==◌, List, [], ◌∷◌, ◌++◌, Bool, true, false, ◌&&◌, ◌||◌, Ok, Option, Some, None, refl, ap, sym, ◌∙◌, subst, arith, option_to_list, if◌then◌else◌, ◌⊎◌, inl, inr}
use Rattle.std.proofs.lemmas.Bool.{and_right, true_from_ne_false}
use Rattle.ion_text.specs.Names.{Catalog, Content, Document, Effect, Frame, Given, IsBody, IsLastBlank, Known, Leading, Left, Lexeme, Limits, Long, Mark, Mark', Mode, Next, Outcome, Place, Placed, Reading, Reason, Run, Slot, Spot, Stage, State, Streams, Symbols, TokenKind, Turn, Value, at, at_end, behind_given, behind_left, continues, continues_now, cut_short, eats, end_now, end_of, end_ready, end_said, end_settled, end_turned, end_waiting, ended, ends_of, feed, follow, fresh, gives, goes, initial, is_colons, is_fresh, is_idle, is_quoted, is_quoting, is_sane, is_segment, is_sexp, is_top, is_two_quotes, on_said, on_scan, on_settled, once_more, place, plain, refuses, run, run_on, said, said_body, settle, settle_same, settle_still, start_of, system_slots, takes, tells, token_at, token_of, trace, turn, turn_now, under, unsettled, uses, waits, waits_now, with_scan, with_value}
use Rattle.ion_tokens.proofs.runs.Runs.{feed_used, given_used}
use Rattle.ion_text.specs.machine.Run.{ends}
use Rattle.ion_text.specs.machine.Ways.{SettledWay, ValueWay, settled_free, settled_held, settled_marker, settled_name, settled_text, settled_way, value_given, value_refused, value_table}
use Rattle.ion_text.specs.laws.reading.complete.Exact.{Exact, Exactly, feed_exact}
use Rattle.ion_text.specs.laws.reading.complete.Found.{finds_met, lexes_finds, lexes_operators}
use Rattle.ion_text.specs.laws.reading.complete.Fuel.{Leaving, UsedHere, eats_stays, feed_leaves, more_same, twice_fuel}
use Rattle.ion_text.specs.laws.reading.complete.Going.{Direct, Going, Operators, TopOk, TurnEnds, TurnGoes, closes_kind, gives_top, going_ends, going_said, going_settle, going_turn, inside_end, next_inside, no_operator, top_place}
pub use Rattle.ion_text.specs.laws.reading.complete.Going.{ready_still}
use Rattle.ion_text.specs.laws.reading.complete.Meets.{IdleLeft, Meets, at_blank, at_token, end_spans, finely_as, follows_as, goes_on, idle_left, in_blank, is_given, is_left, meets_next}
use Rattle.ion_text.specs.laws.reading.complete.Pieces.{pieces_read}
use Rattle.ion_text.specs.laws.reading.complete.Quiet.{Calm, CalmNow, EndedIn, blank_idle, calm_now, calm_ok, ended_at, ended_more, quiet}
use Rattle.ion_text.specs.laws.reading.complete.Segments.{NotRefused, settles_then, waits_unsettled}
use Rattle.ion_text.specs.laws.reading.complete.Tokens.{colons_agree, given_agrees, is_long_said, left_agrees, left_colons, left_two, long_goes, next_agrees, quotes_end, quoting_left, segment_agree, two_test}
use Rattle.ion_text.specs.laws.reading.sound.Admits.{at_end_fine}
use Rattle.ion_text.specs.laws.reading.sound.Quotes.{Fine, Finely, given_far}
use Rattle.ion_text.specs.laws.reading.sound.Spans.{IsClose, IsTopNow, Spans, turn_spans}
use Rattle.ion_text.specs.laws.reading.sound.StandsOpen.{start_now}

-- nothing waits at the top level behind what was settled, and what waits is calm where no token has begun

-- where no token has begun, what waits at the top level is calm
pub idle_calm : (n : Stage) (m : Mode) → IsTopNow n → is_idle m ≡ true → CalmNow n m
idle_calm Stage.Ready m k i = tt
idle_calm (Stage.Pending h e) m k i = i
idle_calm (Stage.Long w e) m k i = ap (λ b. b || is_quoting m) i
idle_calm _ m k i = k

-- behind a whole value a value may come
pub fresh_top : (r : Reading) → is_fresh r ≡ true → r.now ≡ Stage.Ready
fresh_top r h = go r.frames r.notes r.now h
  where
    go : (fs : List Frame) (ss : Symbols) (n : Stage) → is_fresh (at r.start r.context fs ss n) ≡ true → n ≡ Stage.Ready
    go [] [] Stage.Ready h = refl
    go _ _ _ h = absurd cc

-- a mark's kind says the mark
pub mark_said : (k : TokenKind) (octets : List ℕ) (m : Mark) (c : Content) → k ≡ TokenKind.Mark m → IsBody k octets (Ok c) → c ≡ Mark' m
mark_said k octets m c e h = let b : Ok c ≡ Ok (Mark' m) = subst (λ x. IsBody x octets (Ok c)) e h in cc

module _ (g : Catalog) (l : Limits) where
  -- a reading at the top level where something may come with any octet
  abbrev pub SettledCalm : Turn → Type 0
  SettledCalm t = Leading g l (λ k. (m : Mode) → is_top k.frames ≡ true → CalmNow k.now m) t

  value_settled : (spot : Spot) (v : Value) (fs : List Frame) (t : Turn) → ValueWay (under g l) spot v fs t → SettledCalm t
  value_settled spot v _ _ (value_refused fs e d) = tt
  value_settled spot v _ _ (value_table d fits) = λ m h. tt
  value_settled spot v _ _ (value_given fits) = λ m h. tt
  value_settled spot v _ _ _ = λ m h. absurd cc

  -- behind what was settled at the top level it is calm, whatever token has begun
  pub settle_settled : (start : ℕ) (c : List Slot) (fs : List Frame) (ss : Symbols) (now : Stage) → (is_top fs ≡ true → IsTopNow now)
      → SettledCalm (settle g l (at start c fs ss now))
  settle_settled start c fs ss now = by fs now _ (settled_way g l start c fs ss now)
    where
      by : (fs : List Frame) (now : Stage) (t : Turn) → SettledWay g l start c ss fs now t → (is_top fs ≡ true → IsTopNow now) → SettledCalm t
      by _ _ _ (settled_held fs h end q t flat way) k = value_settled _ _ fs t way
      by _ _ _ (settled_text fs w end t way) k = value_settled _ _ fs t way
      by _ _ _ (settled_marker h end fits) k = λ m h. tt
      by _ _ _ (settled_name fs w) k = λ m h. k h
      by _ _ _ (settled_free fs Stage.Ready i e) k = λ m h. tt
      by _ _ _ (settled_free fs (Stage.Pending h end) i e) k = absurd i
      by _ _ _ (settled_free fs (Stage.Long w end) i e) k = absurd i
      by _ _ _ (settled_free fs _ i e) k = λ m h. k h
      by _ _ _ _ k = tt

  -- where nothing waits it is calm, whatever token has begun
  pub still_calm : (r : Reading) (m : Mode) → TopOk g l r → settle g l r ≡ goes r → is_top r.frames ≡ true → CalmNow r.now m
  still_calm r m k e = subst SettledCalm e (settle_settled r.start r.context r.frames r.notes r.now k) m

  -- what is calm in each mode isn't waiting
  pub always_calm : (n : Stage) → ((m : Mode) → CalmNow n m) → n ≡ Stage.Ready
  always_calm Stage.Ready h = refl
  always_calm (Stage.Pending k e) h = absurd (let n : false ≡ true = h Mode.Word in cc)
  always_calm (Stage.Long w e) h = absurd (let n : false ≡ true = h Mode.Word in cc)
  always_calm _ h = absurd (h Mode.Blank)

  -- what was settled doesn't wait
  settled_ended : (k : Reading) (used : ℕ) → ((m : Mode) → is_top k.frames ≡ true → CalmNow k.now m) → is_top k.frames ≡ true → EndedIn used k.now
  settled_ended k used c h = subst (EndedIn used) (sym (always_calm k.now (λ m. c m h))) tt

  -- what waits at the top level ended within the octets used
  abbrev EndedBy : Known → Reading → Type 0
  EndedBy s r = is_top r.frames ≡ true → EndedIn s.used r.now

  calm_ended : (s : Known) (r : Reading) → Calm s r → EndedBy s r
  calm_ended s r calm h = (calm h).1

  -- what a run comes to that is accepted in the end with all these values
  abbrev pub Streamed : Run → List Value → Type 0
  Streamed R all = (last : Option Value) × (ends_of g l R.now ≡ Ok last) × (all ≡ plain R.given ++ option_to_list last)

  with_streamed : (v : Value) (to : ℕ) (R : Run) (rest all : List Value) → Streamed R rest → all ≡ v ∷ rest → Streamed (with_value v to R) all
  with_streamed v to R rest all h e = (h.0, h.1, e ∙ ap (λ x. v ∷ x) h.2)

  -- an octet that is used, and what comes of the others
  abbrev Went : Effect → (State → Run) → List Value → Type 0
  Went x rest all = ((n : State) × (x ≡ uses n) × Streamed (rest n) all)
      ⊎ ((v : Value) × (n : State) × (others : List Value) × (x ≡ tells v n) × (all ≡ v ∷ others) × Streamed (rest n) others)

  went_run : (to : ℕ) (again : State → Effect) (rest : State → Run) (x : Effect) (all : List Value) → Went x rest all → Streamed (run_on to again rest x) all
  went_run to again rest x all (inl (n, e, h)) = subst (λ y. Streamed (run_on to again rest y) all) (sym e) h
  went_run to again rest x all (inr (v, n, others, e, f, h)) =
      subst (λ y. Streamed (run_on to again rest y) all) (sym e) (with_streamed v (to + 1) (rest n) others all h f)

  went_more : (to : ℕ) (rest : State → Run) (x : Effect) (all : List Value) → Went x rest all → Streamed (once_more to rest x) all
  went_more to rest x all (inl (n, e, h)) = subst (λ y. Streamed (once_more to rest y) all) (sym e) h
  went_more to rest x all (inr (v, n, others, e, f, h)) = subst (λ y. Streamed (once_more to rest y) all) (sym e)
      (with_streamed v (to + 1) (rest n) others all h f)

  -- the octet shows that what waits goes on, or nothing waits
  abbrev pub DirectAt : Reading → Outcome → Type 0
  DirectAt r x = (waits r x ≡ true) ⊎ (settle g l r ≡ goes r)

  module _ (s : Known) (o : ℕ) where
    -- it is taken up at once
    pub eats_direct : (r : Reading) (x : Outcome) → feed (place r) s o ≡ x → DirectAt r x → eats g l (with_scan s r) o ≡ on_scan g l (λ k. takes g l 2 k o) r x
    eats_direct r x e w = subst (λ y. eats g l (with_scan s r) o ≡ on_scan g l (λ k. takes g l 2 k o) r y) e
        (go (unsettled s r (feed (place r) s o)) refl (subst (DirectAt r) (sym e) w))
      where
        go : (b : Bool) → unsettled s r (feed (place r) s o) ≡ b → DirectAt r (feed (place r) s o)
            → (if b then on_scan g l (λ k. takes g l 2 k o) r (feed (place r) s o) else on_settled g l (λ k. takes g l 2 k o) s (feed (place r) s o)
            (settle g l r)) ≡ on_scan g l (λ k. takes g l 2 k o) r (feed (place r) s o)
        go true f d = refl
        go false f (inl d) = absurd (let n : true ≡ false = sym (waits_unsettled s r (feed (place r) s o) d) ∙ f in cc)
        go false f (inr d) = ap (on_settled g l (λ k. takes g l 2 k o) s (feed (place r) s o)) d

    -- or behind what was settled
    pub eats_settled : (r : Reading) (x : Outcome) (t : Turn) → feed (place r) s o ≡ x → NotRefused x → waits r x ≡ false → settle g l r ≡ t
        → eats g l (with_scan s r) o ≡ on_settled g l (λ k. takes g l 2 k o) s x t
    eats_settled r x t e told w f = subst (λ y. eats g l (with_scan s r) o ≡ on_settled g l (λ k. takes g l 2 k o) s y t) e
        (go (unsettled s r (feed (place r) s o)) (ap (unsettled s r) e ∙ settles_then (place r) s r o x e told w))
      where
        go : (b : Bool) → b ≡ false → (if b then on_scan g l (λ k. takes g l 2 k o) r (feed (place r) s o) else on_settled g l (λ k. takes g l 2 k o) s
            (feed (place r) s o) (settle g l r)) ≡ on_settled g l (λ k. takes g l 2 k o) s (feed (place r) s o) t
        go true h = absurd cc
        go false h = ap (on_settled g l (λ k. takes g l 2 k o) s (feed (place r) s o)) f

    -- An octet that is used, by what comes of it at the scanner.
    used_run : (to : ℕ) (rest : State → Run) (x : Outcome) (ts : List Placed) (r : Reading) (all : List Value) → feed (place r) s o ≡ x → NotRefused x
        → TopOk g l r → EndedBy s r → Going g l r ts all → (waits r x ≡ false → TurnGoes g l (settle g l r) ts all)
        → ((k : Reading) (all : List Value) → place k ≡ place r → TopOk g l k → EndedBy s k → Going g l k ts all → DirectAt k x
        → Went (on_scan g l (λ k. takes g l 2 k o) k x) rest all)
        → Streamed (run_on to (λ n. eats g l n o) rest (eats g l (with_scan s r) o)) all
    used_run to rest x ts r all e told ok ended d settled went = go (waits r x) refl
      where
        direct : (k : Reading) (all : List Value) → place k ≡ place r → TopOk g l k → EndedBy s k → Going g l k ts all → DirectAt k x
            → Went (eats g l (with_scan s k) o) rest all
        direct k all p ok ended d w = subst (λ y. Went y rest all) (sym (eats_direct k x (ap (λ q. feed q s o) p ∙ e) w)) (went k all p ok ended d w)

        by : (t : Turn) → settle g l r ≡ t → waits r x ≡ false → Leading g l (λ n. (place n ≡ place r) × (is_top n.frames ≡ is_top r.frames)) t
            → Leading g l (λ n. settle g l n ≡ goes n) t → SettledCalm t → TurnGoes g l t ts all
            → Streamed (run_on to (λ n. eats g l n o) rest (eats g l (with_scan s r) o)) all
        by (goes k) f w a b c i =
            let scan : eats g l (with_scan s r) o ≡ eats g l (with_scan s k) o =
            eats_settled r x (goes k) e told w f ∙ sym (eats_direct k x (ap (λ q. feed q s o) a.0 ∙ e) (inr b)) in
            subst (λ y. Streamed (run_on to (λ n. eats g l n o) rest y) all) (sym scan)
            (went_run to (λ n. eats g l n o) rest (eats g l (with_scan s k) o) all
            (direct k all a.0 (λ h. calm_now k.now Mode.Blank (c Mode.Blank h)) (settled_ended k s.used c) i (inr b)))
        by (gives v k) f w a b c i =
            subst (λ y. Streamed (run_on to (λ n. eats g l n o) rest y) all) (sym (eats_settled r x (gives v k) e told w f))
            (with_streamed v to (once_more to rest (eats g l (with_scan s k) o)) i.0 all
            (went_more to rest (eats g l (with_scan s k) o) i.0
            (direct k i.0 a.0 (λ h. calm_now k.now Mode.Blank (c Mode.Blank h)) (settled_ended k s.used c) i.2 (inr b))) i.1)
        by _ f w a b c i = absurd i

        go : (b : Bool) → waits r x ≡ b → Streamed (run_on to (λ n. eats g l n o) rest (eats g l (with_scan s r) o)) all
        go true w = went_run to (λ n. eats g l n o) rest (eats g l (with_scan s r) o) all (direct r all refl ok ended d (inl w))
        go false w = by (settle g l r) refl w (settle_same g l r.start r.context r.frames r.notes r.now)
            (settle_still g l r.start r.context r.frames r.notes r.now) (settle_settled r.start r.context r.frames r.notes r.now ok) (settled w)

  -- what goes on to wait at the top level at an octet that ends no token is calm
  pub waits_calm : (fs : List Frame) (now : Stage) (s : Known) → (is_top fs ≡ true → IsTopNow now) → waits_now (is_top fs) now (Next s) ≡ true → is_top fs ≡ true
      → CalmNow now s.mode
  waits_calm fs (Stage.Pending h e) s k w top = w
  waits_calm fs (Stage.Long v e) s k w top = w
  waits_calm fs Stage.Ready s k w top = tt
  waits_calm fs _ s k w top = k top

  -- where the scanner goes on
  next_went : (s s' : Known) (os : List ℕ) (ts : List Placed) (o : ℕ) (rest : State → Run) → Meets s' os ts → is_sane s'.mode ≡ true → Fine s'
      → s'.used ≡ s.used + 1 → Operators ts
      → ((k : Reading) (all : List Value) → Calm s' k → Going g l k ts all → Streamed (rest (with_scan s' k)) all)
      → (k : Reading) (all : List Value) → TopOk g l k → EndedBy s k → Going g l k ts all → DirectAt k (Next s')
      → Went (on_scan g l (λ k. takes g l 2 k o) k (Next s')) rest all
  next_went s s' os ts o rest m sane fine used ops more k all ok ended d w =
      inl (with_scan s' k, quiet g l s' os sane fine (omega (arith, used)) k all (calm w) ts m ops d, more k all (calm w) d)
    where
      calm : DirectAt k (Next s') → Calm s' k
      calm (inl h) = λ top. (waits_calm k.frames k.now s' ok h top, ended_more k.now s.used s'.used (omega (arith, used)) (ended top))
      calm (inr h) = λ top. (still_calm k s'.mode ok h top, ended_more k.now s.used s'.used (omega (arith, used)) (ended top))

  -- what a turn leads to may stand at the top level, and ended with the token
  pub turn_ok : (r : Reading) (c : Content) (item start end : ℕ) (t : Turn) → Spans (is_top r.frames) c item start end t
      → Leading g l (λ n. is_top n.frames ≡ true → IsTopNow n.now × EndedIn end n.now) t
  turn_ok r c item start end (goes n) (inl (inl h, from, to)) = λ k. absurd (let x : true ≡ false = sym k ∙ h in cc)
  turn_ok r c item start end (goes n) (inl (inr (top, new, ok), from, to)) = λ k. (ok, ended_at n.now end to)
  turn_ok r c item start end (goes n) (inr h) = λ k. subst (λ x. IsTopNow x × EndedIn end x) (sym (fresh_top n h.2)) (tt, tt)
  turn_ok r c item start end (gives v n) h = λ k. subst (λ x. IsTopNow x × EndedIn end x) (sym (fresh_top n h.2)) (tt, tt)
  turn_ok r c item start end _ h = tt

  -- where a token is given
  given_went : (s s' : Known) (os : List ℕ) (t : Placed) (ts : List Placed) (o : ℕ) (rest : State → Run) → Meets s' os ts → is_sane s'.mode ≡ true
      → is_idle s'.mode ≡ true → Fine s' → 1 ≤ s'.used → t.lexeme.end ≡ s'.used → Operators ts → is_two_quotes t.lexeme.kind t.lexeme.start t.lexeme.end ≡ false
      → ((k : Reading) (all : List Value) → Calm s' k → Going g l k ts all → Streamed (rest (with_scan s' k)) all)
      → (k : Reading) (all : List Value) → TopOk g l k → EndedBy s k → Going g l k (t ∷ ts) all → DirectAt k (Given t.lexeme s')
      → Went (on_scan g l (λ k. takes g l 2 k o) k (Given t.lexeme s')) rest all
  given_went s s' os t ts o rest m sane idle fine used last ops two more k all ok ended d w =
      subst (λ y. Went y rest all) (sym (ap (λ y. on_said y (λ c. behind_given l s' (turn g l k (token_of t.lexeme c)))) p.2))
      (by (turn g l k (token_of t.lexeme p.1)) (turn_ok k p.1 l.item (start_now k.now k.start t.lexeme.start k.frames k.notes) t.lexeme.end
      (turn g l k (token_of t.lexeme p.1)) (turn_spans g l k (token_of t.lexeme p.1) ok)) (going_turn g l k t ts all p.1 d p.2 (direct w)))
    where
      p : (t.place ≡ place k) × (c : Content) × (said t.lexeme.kind t.lexeme.octets ≡ Ok c)
      p = going_said g l k t ts all d

      direct : DirectAt k (Given t.lexeme s') → Direct g l k (token_of t.lexeme p.1)
      direct (inl h) = inl (sym (given_agrees k.frames k.now s' t.lexeme p.1 (said_body t.lexeme.kind t.lexeme.octets p.1 p.2) two) ∙ h)
      direct (inr h) = inr h

      calm : (n : Reading) → (is_top n.frames ≡ true → IsTopNow n.now × EndedIn t.lexeme.end n.now) → Calm s' n
      calm n h top = (idle_calm n.now s'.mode (h top).0 idle, ended_more n.now t.lexeme.end s'.used (omega (arith, last)) (h top).1)

      by : (x : Turn) → Leading g l (λ n. is_top n.frames ≡ true → IsTopNow n.now × EndedIn t.lexeme.end n.now) x → TurnGoes g l x ts all
          → Went (behind_given l s' x) rest all
      by (goes n) h e = inl (with_scan s' n, quiet g l s' os sane fine used n all (calm n h) ts m ops e, more n all (calm n h) e)
      by (gives v n) h e = inr (v, with_scan s' n, e.0, refl, e.1, more n e.0 (calm n h) e.2)
      by _ h e = absurd e

  -- a long string goes on with its segments alone
  pub long_refused : (begin end start : ℕ) (slots : List Slot) (fs : List Frame) (ss : Symbols) (c : Content) (w : List ℕ) (e : ℕ) → is_long_said c ≡ false
      → turn_now (under g l) (at start slots fs ss (Stage.Long w e)) (token_at begin end c) (Stage.Long w e) ≡ refuses Reason.Unexpected
  long_refused begin end start slots fs ss (Long v) w e h = absurd cc
  long_refused begin end start slots fs ss _ w e h = refl

  -- What is carried over tokens: where a value comes, it is taken from what is still to come.
  module _ (X : Type 0) (Comes : X → Value → X → Type 0) where
    -- a turn leads on to where this holds
    abbrev pub Onto : (X → Reading → Type 0) → X → Turn → Type 0
    Onto P x (goes n) = P x n
    Onto P x (gives v n) = (y : X) × Comes x v y × P y n
    Onto P x _ = ⊥

    -- one of this holds before a token, and the other behind it
    module _ (t : Placed) (Before After : X → Reading → Type 0)
        (says : (x : X) (r : Reading) → Before x r → (t.place ≡ place r) × (c : Content) × (said t.lexeme.kind t.lexeme.octets ≡ Ok c))
        (turns : (x : X) (r : Reading) (b : Before x r) → Direct g l r (token_of t.lexeme (says x r b).1)
        → Onto After x (turn g l r (token_of t.lexeme (says x r b).1)))
        (settles : (x : X) (r : Reading) (b : Before x r) → continues r (token_of t.lexeme (says x r b).1) ≡ false → Onto Before x (settle g l r)) where
      body : (y : X) (k : Reading) (d : Before y k) → IsBody t.lexeme.kind t.lexeme.octets (Ok (says y k d).1)
      body y k d = said_body t.lexeme.kind t.lexeme.octets (says y k d).1 (says y k d).2

      -- no colon stands where a value may come
      no_colon : (y : X) (k : Reading) → Before y k → k.now ≡ Stage.Ready → t.lexeme.kind ≡ TokenKind.Mark Mark.Colon → ⊥
      no_colon y k d n i =
          subst (λ m. Onto After y (turn_now (under g l) k (token_at t.lexeme.start t.lexeme.end (Mark' Mark.Colon)) m)) n
          (subst (λ c. Onto After y (turn g l k (token_of t.lexeme c)))
          (mark_said t.lexeme.kind t.lexeme.octets Mark.Colon (says y k d).1 i (body y k d)) (turns y k d (inr (ready_still g l k n))))

      -- where what waited at the top level is settled, a colon doesn't follow
      settled_colon : (x : X) (r : Reading) → is_top r.frames ≡ true → TopOk g l r → Onto Before x (settle g l r) → t.lexeme.kind ≡ TokenKind.Mark Mark.Colon
          → ⊥
      settled_colon x r top ok d i = by (settle g l r) (settle_same g l r.start r.context r.frames r.notes r.now)
          (settle_settled r.start r.context r.frames r.notes r.now ok) d
        where
          by : (z : Turn) → Leading g l (λ n. (place n ≡ place r) × (is_top n.frames ≡ is_top r.frames)) z → SettledCalm z → Onto Before x z → ⊥
          by (goes k) a c d = no_colon x k d (always_calm k.now (λ m. c m (a.1 ∙ top))) i
          by (gives v k) a c d = no_colon d.0 k d.2 (always_calm k.now (λ m. c m (a.1 ∙ top))) i
          by _ a c d = d

      -- a token that goes on with a long string is a segment
      long_turn : (x : X) (r : Reading) (b : Before x r) (v : List ℕ) (q : ℕ) → r.now ≡ Stage.Long v q → is_segment t.lexeme.kind ≡ false
          → Onto After x (turn g l r (token_of t.lexeme (says x r b).1)) → ⊥
      long_turn x r b v q i h y =
          subst (Onto After x)
          (ap (turn_now (under g l) r (token_of t.lexeme (says x r b).1)) i
          ∙ long_refused t.lexeme.start t.lexeme.end r.start r.context r.frames r.notes (says x r b).1 v q
          (sym (segment_agree t.lexeme.kind t.lexeme.octets (says x r b).1 (body x r b)) ∙ h)) y

      -- A token is left before the octet; `Good` of what is still to come is said of a run.
      module _ (Good : X → Run → Type 0) (more : (x y : X) (v : Value) (to : ℕ) (R : Run) → Comes x v y → Good y R → Good x (with_value v to R))
          (s s' : Known) (o : ℕ) (sane : is_sane s.mode ≡ true) (fine : Fine s) (exactly : Exact s)
          (ops : t.lexeme.kind ≡ TokenKind.Operator → is_sexp t.place ≡ true) (to : ℕ) (os : List ℕ) (x : X) (r : Reading) (e : feed (place r) s o ≡ Left t.lexeme s')
          (calm : is_top r.frames ≡ true → CalmNow r.now s.mode) (b : Before x r) (onward : (y : X) (k : Reading) → Calm s' k → After y k → Good y (run g l to (with_scan s' k) (o ∷ os))) where
        abbrev p : (t.place ≡ place r) × (c : Content) × (said t.lexeme.kind t.lexeme.octets ≡ Ok c)
        p = says x r b

        f : Finely s.mode (Left t.lexeme s')
        f = finely_as (place r) s o (Left t.lexeme s') fine e

        agree : waits r (Left t.lexeme s') ≡ continues r (token_of t.lexeme p.1)
        agree = left_agrees r.frames r.now s' t.lexeme p.1 (body x r b) (left_colons (place r) s s' o t.lexeme sane e) f.1
            (left_two (place r) s s' o t.lexeme fine exactly e)

        ok : TopOk g l r
        ok top = calm_now r.now s.mode (calm top)

        abbrev next : State → Run
        next = λ n. run g l (to + 1) n os

        leaving : Leaving o (Left t.lexeme s')
        leaving = subst (Leaving o) e (feed_leaves (place r) s o fine)

        -- behind what was settled
        behind : (y : X) (k : Reading) → Before y k → TopOk g l k → settle g l k ≡ goes k → (z : Effect)
            → z ≡ on_scan g l (λ k. takes g l 2 k o) k (Left t.lexeme s') → Good y (run_on to (λ n. eats g l n o) next z)
        behind y k d ok still z same =
            subst (λ z. Good y (run_on to (λ n. eats g l n o) next z))
            (sym (same ∙ ap (λ y. on_said y (λ c. behind_left (λ k. takes g l 2 k o) s' (turn g l k (token_of t.lexeme c)))) q.2))
            (by (turn g l k (token_of t.lexeme q.1)) (turn_spans g l k (token_of t.lexeme q.1) ok) (turns y k d (inr still)))
          where
            q : (t.place ≡ place k) × (c : Content) × (said t.lexeme.kind t.lexeme.octets ≡ Ok c)
            q = says y k d

            start : ℕ
            start = start_now k.now k.start t.lexeme.start k.frames k.notes

            no_close : IsClose false q.1 → ⊥
            no_close i = let n : true ≡ false = sym (closes_kind t.lexeme.kind t.lexeme.octets q.1 i (body y k d)) ∙ f.5 in cc

            top_of : (n : Reading) → Spans (is_top k.frames) q.1 l.item start t.lexeme.end (goes n) → is_top n.frames ≡ true → (b : Bool) → is_top k.frames ≡ b
                → b ≡ true
            top_of n h i true j = refl
            top_of n (inl (inl h, from, to)) i false j = absurd (let x : true ≡ false = sym i ∙ h in cc)
            top_of n (inl (inr (h, new, ok), from, to)) i false j = absurd (let x : true ≡ false = sym h ∙ j in cc)
            top_of n (inr h) i false j = absurd (no_close (subst (λ b. IsClose b q.1) j h.1))

            idle : (is_top k.frames ≡ true) → is_idle s'.mode ≡ true
            idle h = elim f.4 [
              | inl i ↦ i
              | inr i ↦ absurd (no_operator g l k t h q.0 ops i)
            ]

            calm' : (n : Reading) → Spans (is_top k.frames) q.1 l.item start t.lexeme.end (goes n) → Calm s' n
            calm' n h i =
                let o = turn_ok k q.1 l.item start t.lexeme.end (goes n) h i in
                (idle_calm n.now s'.mode o.0 (idle (top_of n h i (is_top k.frames) refl)), ended_more n.now t.lexeme.end s'.used f.6 o.1)

            used : (b : Bool) → is_top k.frames ≡ b → IsClose (is_top k.frames) q.1 → UsedHere s' o
            used b j h = elim leaving.0 [
              | inl i ↦ i
              | inr i ↦ absurd (by' b j i)
            ]
              where
                by' : (b : Bool) → is_top k.frames ≡ b → t.lexeme.kind ≡ TokenKind.Operator → ⊥
                by' true j i = no_operator g l k t j q.0 ops i
                by' false j i = no_close (subst (λ b. IsClose b q.1) j h)

            by : (z : Turn) → Spans (is_top k.frames) q.1 l.item start t.lexeme.end z → Onto After y z
                → Good y (run_on to (λ n. eats g l n o) next (behind_left (λ k. takes g l 2 k o) s' z))
            by (goes n) h i = subst (λ z. Good y (run_on to (λ n. eats g l n o) next z)) (sym (twice_fuel g l (with_scan s' n) o leaving.1))
                (onward y n (calm' n h) i)
            by (gives v n) h i =
                let ready = fresh_top n h.2 in
                more y i.0 v to (once_more to next (eats g l (with_scan s' n) o)) i.1
                (subst (Good i.0) (sym (more_same g l to (λ n. eats g l n o) next (eats g l (with_scan s' n) o)
                (eats_stays g l n s' o (ready_still g l n ready) (used (is_top k.frames) refl h.1 (place n)))))
                (onward i.0 n (λ j. subst (λ z. CalmNow z s'.mode × EndedIn s'.used z) (sym ready) (tt, tt)) i.2))
            by _ h i = absurd i

        -- where what waited at the top level is settled, no token was idle
        idle_never : is_top r.frames ≡ true → Onto Before x (settle g l r) → is_idle s.mode ≡ true → ⊥
        idle_never top y i = elim (subst (IdleLeft (place r) s.used) e (idle_left (place r) s o i)) [
          | inl j ↦ settled_colon x r top ok y j.0
          | inr j ↦ no_operator g l r t top p.0 ops j.0
        ]

        -- nothing that waits at the top level is ended by a token that is left
        never_gives : (n : Stage) → r.now ≡ n → is_top r.frames ≡ true → waits r (Left t.lexeme s') ≡ false → Onto Before x (settle g l r)
            → CalmNow n s.mode → (n ≡ Stage.Ready → ⊥) → ⊥
        never_gives Stage.Ready i top w y c z = z refl
        never_gives (Stage.Pending h b) i top w y c z = idle_never top y c
        never_gives (Stage.Long v b) i top w y c z = by (is_idle s.mode) refl
          where
            by : (j : Bool) → is_idle s.mode ≡ j → ⊥
            by true j = idle_never top y j
            by false j =
                let q : is_quoting s.mode ≡ true = sym (ap (λ b. b || is_quoting s.mode) j) ∙ c in
                let k = quoting_left (place r) s s' o t.lexeme exactly q e in
                let n : true ≡ false = sym (ap is_quoted k.0) ∙ (sym (ap (λ b. b && is_quoted t.lexeme.kind) top)
                ∙ (ap (λ b. waits_now (is_top r.frames) b (Left t.lexeme s')) (sym i) ∙ w)) in cc
        never_gives _ i top w y c z = c

        settled : (z : Turn) → settle g l r ≡ z → waits r (Left t.lexeme s') ≡ false → Leading g l (λ n. settle g l n ≡ goes n) z → SettledCalm z
            → Onto Before x z → Good x (run g l to (with_scan s r) (o ∷ os))
        settled (goes k) i w still c y =
            behind x k y (λ h. calm_now k.now Mode.Blank (c Mode.Blank h)) still (eats g l (with_scan s r) o)
            (eats_settled s o r (Left t.lexeme s') (goes k) e tt w i)
        settled (gives v k) i w still c y = absurd (never r.now refl)
          where
            top : is_top r.frames ≡ true
            top = true_from_ne_false (is_top r.frames) (λ j. gives_top g l r v k j i)

            never : (n : Stage) → r.now ≡ n → ⊥
            never n z = never_gives n z top w (subst (Onto Before x) (sym i) y) (subst (λ z. CalmNow z s.mode) z (calm top))
                (λ j. let q : goes r ≡ gives v k = sym (ready_still g l r (z ∙ j)) ∙ i in cc)
        settled _ i w still c y = absurd y

        waited : (n : Stage) → r.now ≡ n → waits_now (is_top r.frames) n (Left t.lexeme s') ≡ true → Onto After x (turn g l r (token_of t.lexeme p.1)) → ⊥
        waited (Stage.Long v q) i w y = long_turn x r b v q i f.1 y
        waited _ i w y = absurd cc

        -- what is read on so is good
        pub left_run : Good x (run g l to (with_scan s r) (o ∷ os))
        left_run = go (waits r (Left t.lexeme s')) refl
          where
            go : (q : Bool) → waits r (Left t.lexeme s') ≡ q → Good x (run g l to (with_scan s r) (o ∷ os))
            go true w = absurd (waited r.now refl w (turns x r b (inl (sym agree ∙ w))))
            go false w =
                let y = settles x r b (sym agree ∙ w) in
                settled (settle g l r) refl w (settle_still g l r.start r.context r.frames r.notes r.now)
                (settle_settled r.start r.context r.frames r.notes r.now ok) y

  with_streamed' : (all others : List Value) (v : Value) (to : ℕ) (R : Run) → all ≡ v ∷ others → Streamed R others → Streamed (with_value v to R) all
  with_streamed' all others v to R e h = with_streamed v to R others all h e

  -- where values go on so, the tokens do
  abbrev GoesOnto : List Placed → List Value → Turn → Type 0
  GoesOnto ts = Onto (List Value) (λ all v others. all ≡ v ∷ others) (λ all r. Going g l r ts all)

  goes_onto : (ts : List Placed) (all : List Value) (x : Turn) → TurnGoes g l x ts all → GoesOnto ts all x
  goes_onto ts all (goes n) h = h
  goes_onto ts all (gives v n) h = h
  goes_onto ts all _ h = absurd h

  module _ (t : Placed) (ts : List Placed) where
    abbrev says_onto : (all : List Value) (r : Reading) → Going g l r (t ∷ ts) all
        → (t.place ≡ place r) × (c : Content) × (said t.lexeme.kind t.lexeme.octets ≡ Ok c)
    says_onto all r d = going_said g l r t ts all d

    turns_onto : (all : List Value) (r : Reading) (d : Going g l r (t ∷ ts) all) → Direct g l r (token_of t.lexeme (says_onto all r d).1)
        → GoesOnto ts all (turn g l r (token_of t.lexeme (says_onto all r d).1))
    turns_onto all r d w = goes_onto ts all _ (going_turn g l r t ts all (says_onto all r d).1 d (says_onto all r d).2 w)

    settles_onto : (all : List Value) (r : Reading) (d : Going g l r (t ∷ ts) all) → continues r (token_of t.lexeme (says_onto all r d).1) ≡ false
        → GoesOnto (t ∷ ts) all (settle g l r)
    settles_onto all r d w = goes_onto (t ∷ ts) all _ (going_settle g l r t ts all (says_onto all r d).1 d (says_onto all r d).2 w)

  -- what the end answers of a reading that is settled
  settled_ends : (used : ℕ) (all : List Value) (x : Turn) → TurnEnds g l x all → (last : Option Value) × (end_settled used x ≡ Ok last)
      × (all ≡ option_to_list last)
  settled_ends used all (goes m) d = (None, ap (λ b. if b then Ok None else cut_short used) (ap is_fresh d.0.1), d.1)
  settled_ends used all (gives v m) d = (Some v, refl, d.1)
  settled_ends used all _ d = absurd d

  turned_ends : (used : ℕ) (all : List Value) (x : Turn) (top : Bool) (c : Content) (start end : ℕ) → Spans top c l.item start end x → TurnGoes g l x [] all
      → (last : Option Value) × (end_turned g l used x ≡ Ok last) × (all ≡ option_to_list last)
  turned_ends used all (goes n) top c start end s d = settled_ends used all (settle g l n) (going_ends g l n all d)
  turned_ends used all (gives v n) top c start end s d =
      let e = subst (λ y. TurnEnds g l y d.0) (ready_still g l n (fresh_top n s.2)) (going_ends g l n d.0 d.2) in
      (Some v, refl, d.1 ∙ ap (λ x. v ∷ x) e.1)
  turned_ends used all _ top c start end s d = absurd d

  -- the end ends a token
  module _ (s : Known) (t : Placed) (fine : Fine s) (exactly : Exact s) (ops : Operators (t ∷ [])) (r : Reading) (all : List Value) (calm : Calm s r)
      (d : Going g l r (t ∷ []) all) (e : at_end t.place s ≡ Ok (Some t.lexeme)) where
    abbrev said_here : (t.place ≡ place r) × (c : Content) × (said t.lexeme.kind t.lexeme.octets ≡ Ok c)
    said_here = going_said g l r t [] all d

    body_here : IsBody t.lexeme.kind t.lexeme.octets (Ok said_here.1)
    body_here = said_body t.lexeme.kind t.lexeme.octets said_here.1 said_here.2

    ends_here : at_end (place r) s ≡ Ok (Some t.lexeme)
    ends_here = ap (λ p. at_end p s) (sym said_here.0) ∙ e

    top_here : is_top r.frames ≡ true
    top_here = true_from_ne_false (is_top r.frames) (λ h.
        next_inside g l r t [] all h d (λ m rest a b x. inside_end g l m rest a x)
        (λ a b. let n : true ≡ false = sym b ∙ (at_end_fine t.place s t.lexeme e).3 in cc))

    ok_here : TopOk g l r
    ok_here = calm_ok g l s r calm

    -- where no token was open, a last token ends what waits, and is refused
    none_idle : is_idle s.mode ≡ true → (t.lexeme.kind ≡ TokenKind.Mark Mark.Colon → continues r (token_of t.lexeme said_here.1) ≡ false) → ⊥
    none_idle i shut = elim ((at_end_fine t.place s t.lexeme e).4 i) [
      | inl k ↦ settled_colon (List Value) (λ all v others. all ≡ v ∷ others) t (λ all k. Going g l k (t ∷ []) all) (λ all k. Going g l k [] all)
          (says_onto t []) (turns_onto t []) (settles_onto t []) all r top_here ok_here (settles_onto t [] all r d (shut k)) k
      | inr k ↦ no_operator g l r t top_here said_here.0 ops.0 k
    ]

    -- nothing that waits is followed by a last token
    no_waiting : (n : Stage) → r.now ≡ n → CalmNow n s.mode → n ≡ Stage.Ready
    no_waiting Stage.Ready x c = refl
    no_waiting (Stage.Pending h y) x c = absurd (none_idle c (λ k. ap (λ z. continues_now (is_top r.frames) z (token_of t.lexeme said_here.1)) x
        ∙ (sym (colons_agree (is_top r.frames) h y t.lexeme.start t.lexeme.end t.lexeme.kind t.lexeme.octets said_here.1 body_here) ∙ ap is_colons k)))
    no_waiting (Stage.Long w y) x c = absurd (mode (is_idle s.mode) refl)
      where
        long : continues r (token_of t.lexeme said_here.1) ≡ (is_segment t.lexeme.kind ||
            (is_top r.frames && is_two_quotes t.lexeme.kind t.lexeme.start t.lexeme.end))
        long = ap (λ z. continues_now (is_top r.frames) z (token_of t.lexeme said_here.1)) x
            ∙ long_goes (is_top r.frames) w y t.lexeme.start t.lexeme.end t.lexeme.kind t.lexeme.octets said_here.1 body_here

        quoted : is_quoting s.mode ≡ true → ⊥
        quoted q =
            let k = (at_end_fine t.place s t.lexeme e).5 q in
            let span = end_spans s (end_of t.place s.mode) t.lexeme e in
            let two : is_two_quotes t.lexeme.kind t.lexeme.start t.lexeme.end ≡ true = ap (λ z. is_two_quotes z t.lexeme.start t.lexeme.end) k
            ∙ ended span (quotes_end t.place s t.lexeme q exactly e) in
            let on : continues r (token_of t.lexeme said_here.1) ≡ true =
            long ∙ (ap (λ z. is_segment z || (is_top r.frames && is_two_quotes t.lexeme.kind t.lexeme.start t.lexeme.end)) k
            ∙ (ap (λ z. z && is_two_quotes t.lexeme.kind t.lexeme.start t.lexeme.end) top_here ∙ two)) in
            long_turn (List Value) (λ all v others. all ≡ v ∷ others) t (λ all k. Going g l k (t ∷ []) all) (λ all k. Going g l k [] all) (says_onto t [])
            (turns_onto t []) (settles_onto t []) all r d w y x (ap is_segment k) (turns_onto t [] all r d (inl on))
          where
            ended : (t.lexeme.start ≡ start_of s.mode s.start s.used) × (t.lexeme.end ≡ s.used) → (s.used ≡ start_of s.mode s.start s.used + 2)
                → (t.lexeme.end == t.lexeme.start + 2) ≡ true
            ended h k = two_test t.lexeme.start t.lexeme.end (omega (arith, h.0, h.1, k))

        mode : (b : Bool) → is_idle s.mode ≡ b → ⊥
        mode true i = none_idle i (λ k. long ∙ (ap (λ z. is_segment z || (is_top r.frames && is_two_quotes z t.lexeme.start t.lexeme.end)) k
            ∙ and_right (is_top r.frames) false refl))
        mode false i = quoted (sym (ap (λ b. b || is_quoting s.mode) i) ∙ c)
    no_waiting _ x c = absurd c

    ready_here : r.now ≡ Stage.Ready
    ready_here = no_waiting r.now refl (calm top_here).0

    token_ends : (last : Option Value) × (ends g l (with_scan s r) ≡ Ok last) × (all ≡ option_to_list last)
    token_ends =
        let h = turned_ends s.used all (turn g l r (token_of t.lexeme said_here.1)) (is_top r.frames) said_here.1
        (start_now r.now r.start t.lexeme.start r.frames r.notes) t.lexeme.end (turn_spans g l r (token_of t.lexeme said_here.1) ok_here)
        (going_turn g l r t [] all said_here.1 d said_here.2 (inr (ready_still g l r ready_here))) in (
          h.0,
          ap (λ n. end_now g l s.used r (at_end (place r) s) n) ready_here
              ∙ (ap (end_ready g l s.used r) ends_here ∙ (ap (end_said g l s.used r t.lexeme) said_here.2 ∙ h.1)),
          h.2,
        )

  -- where no token is left
  nothing_top : (r : Reading) (all : List Value) → Going g l r [] all → is_top r.frames ≡ true
  nothing_top r all d = true_from_ne_false (is_top r.frames) (λ h. inside_end g l r all h d)

  blank_ends : (s : Known) (r : Reading) (all : List Value) → Calm s r → Going g l r [] all → at_end Place.Top s ≡ Ok None → (last : Option Value)
      × (ends g l (with_scan s r) ≡ Ok last) × (all ≡ option_to_list last)
  blank_ends s r all calm d e = by r.now refl (calm top).0
    where
      top : is_top r.frames ≡ true
      top = nothing_top r all d

      here : at_end (place r) s ≡ Ok None
      here = ap (λ p. at_end p s) (top_place r.frames r.now top) ∙ e

      by : (n : Stage) → r.now ≡ n → CalmNow n s.mode → (last : Option Value) × (ends g l (with_scan s r) ≡ Ok last) × (all ≡ option_to_list last)
      by (Stage.Pending h y) x c = let z = settled_ends s.used all (settle g l r) (going_ends g l r all d) in
          (z.0, ap (λ n. end_now g l s.used r (at_end (place r) s) n) x ∙ (ap (λ w. end_waiting g l s.used w (settle g l r)) here ∙ z.1), z.2)
      by (Stage.Long w y) x c = let z = settled_ends s.used all (settle g l r) (going_ends g l r all d) in
          (z.0, ap (λ n. end_now g l s.used r (at_end (place r) s) n) x ∙ (ap (λ w. end_waiting g l s.used w (settle g l r)) here ∙ z.1), z.2)
      by Stage.Ready x c =
          let z = subst (λ y. TurnEnds g l y all) (ready_still g l r x) (going_ends g l r all d) in (
            None,
            ap (λ n. end_now g l s.used r (at_end (place r) s) n) x
                ∙ (ap (end_ready g l s.used r) here ∙ ap (λ b. if b then Ok None else cut_short s.used) (ap is_fresh z.0.1)),
            z.1,
          )
      by _ x c = absurd c

  -- a blank octet doesn't settle what waits
  blank_settled : (r : Reading) (s : Known) (all : List Value) → TopOk g l r → Going g l r [] all → is_idle s.mode ≡ true → waits r (Next s) ≡ false
      → TurnGoes g l (settle g l r) [] all
  blank_settled r s all ok d i w = by r.now refl (ok (nothing_top r all d))
    where
      by : (n : Stage) → r.now ≡ n → IsTopNow n → TurnGoes g l (settle g l r) [] all
      by Stage.Ready x k = subst (λ t. TurnGoes g l t [] all) (sym (ready_still g l r x)) d
      by (Stage.Pending h y) x k = absurd (let n : true ≡ false = sym i ∙ (sym (ap (λ z. waits_now (is_top r.frames) z (Next s)) x) ∙ w) in cc)
      by (Stage.Long v y) x k = absurd (let n : true ≡ false = sym (ap (λ b. b || is_quoting s.mode) i)
          ∙ (sym (ap (λ z. waits_now (is_top r.frames) z (Next s)) x) ∙ w) in cc)
      by _ x k = absurd k

  one_more : (p : Place) (s s' : Known) (o : ℕ) (x : Lexeme) → feed p s o ≡ Given x s' → 1 ≤ s'.used
  one_more p s s' o x e = let k = given_used p (o ∷ []) s s' x (sym (ap (λ y. follow y (λ t. Next t)) e)) in omega (arith, k.0)

  -- whatever outcome an octet has is as exact as what it came of
  pub exactly_as : (p : Place) (s : Known) (o : ℕ) (x : Outcome) → Exact s → feed p s o ≡ x → Exactly x
  exactly_as p s o x h e = subst Exactly e (feed_exact p s o h)

  -- Octets in which the scanner meets tokens that go on to the end are accepted, with all their values.
  pub streams : (s : Known) (os : List ℕ) (ts : List Placed) → Meets s os ts → is_sane s.mode ≡ true → Fine s → Exact s → Operators ts
      → (to : ℕ) (r : Reading) (all : List Value) → Calm s r → Going g l r ts all → Streamed (run g l to (with_scan s r) os) all
  streams _ _ _ (at_blank s e) sane fine ex ops to r all calm d = blank_ends s r all calm d e
  streams _ _ _ (at_token s t e) sane fine ex ops to r all calm d = token_ends s t fine ex ops r all calm d e
  streams _ _ _ (in_blank s o os s' e m) sane fine ex ops to r all calm d =
      let here : feed (place r) s o ≡ Next s' = ap (λ p. feed p s o) (top_place r.frames r.now (nothing_top r all d)) ∙ e in
      let a = follows_as (place r) s o (Next s') sane here in
      let f = finely_as (place r) s o (Next s') fine here in
      let i = blank_idle s' os m a.0 in
      used_run s o to (λ n. run g l (to + 1) n os) (Next s') [] r all here tt (calm_ok g l s r calm) (calm_ended s r calm) d
      (blank_settled r s' all (calm_ok g l s r calm) d i)
      (λ k rest p ok ended d w. next_went s s' os [] o (λ n. run g l (to + 1) n os) m a.0 f (feed_used (place r) s s' o here) tt
      (λ k rest c d. streams s' os [] m a.0 f (exactly_as (place r) s o (Next s') ex here) tt (to + 1) k rest c d) k rest ok ended d w)
  streams _ _ _ (goes_on s o os t ts s' e m) sane fine ex ops to r all calm d =
      let p = going_said g l r t ts all d in
      let here : feed (place r) s o ≡ Next s' = ap (λ q. feed q s o) (sym p.0) ∙ e in
      let a = follows_as (place r) s o (Next s') sane here in
      let f = finely_as (place r) s o (Next s') fine here in
      used_run s o to (λ n. run g l (to + 1) n os) (Next s') (t ∷ ts) r all here tt (calm_ok g l s r calm) (calm_ended s r calm) d
      (λ w. going_settle g l r t ts all p.1 d p.2 (next_agrees r.frames r.now s' t p.1 (meets_next s' os t ts m) a.0 f (said_body t.lexeme.kind t.lexeme.octets p.1 p.2) w))
      (λ k rest q ok ended d w. next_went s s' os (t ∷ ts) o (λ n. run g l (to + 1) n os) m a.0 f (feed_used (place r) s s' o here) ops
      (λ k rest c d. streams s' os (t ∷ ts) m a.0 f (exactly_as (place r) s o (Next s') ex here) ops (to + 1) k rest c d) k rest ok ended d w)
  streams _ _ _ (is_given s o os t ts s' e m) sane fine ex ops to r all calm d =
      let p = going_said g l r t ts all d in
      let here : feed (place r) s o ≡ Given t.lexeme s' = ap (λ q. feed q s o) (sym p.0) ∙ e in
      let f = finely_as (place r) s o (Given t.lexeme s') fine here in
      let two = given_far t.lexeme f.1 in
      used_run s o to (λ n. run g l (to + 1) n os) (Given t.lexeme s') (t ∷ ts) r all here tt (calm_ok g l s r calm) (calm_ended s r calm) d
      (λ w. going_settle g l r t ts all p.1 d p.2 (sym (given_agrees r.frames r.now s' t.lexeme p.1 (said_body t.lexeme.kind t.lexeme.octets p.1 p.2) two) ∙ w))
      (λ k rest q ok ended d w. given_went s s' os t ts o (λ n. run g l (to + 1) n os) m f.2 f.3 f.0 (one_more (place r) s s' o t.lexeme here) f.4 ops.1 two
      (λ k rest c d. streams s' os ts m f.2 f.0 (exactly_as (place r) s o (Given t.lexeme s') ex here) ops.1 (to + 1) k rest c d) k rest ok ended d w)
  streams _ _ _ (is_left s o os t ts s' e m) sane fine ex ops to r all calm d =
      let p = going_said g l r t ts all d in
      let here : feed (place r) s o ≡ Left t.lexeme s' = ap (λ q. feed q s o) (sym p.0) ∙ e in
      let f = finely_as (place r) s o (Left t.lexeme s') fine here in
      left_run (List Value) (λ all v others. all ≡ v ∷ others) t (λ all k. Going g l k (t ∷ ts) all) (λ all k. Going g l k ts all) (says_onto t ts)
      (turns_onto t ts) (settles_onto t ts) (λ all R. Streamed R all) with_streamed' s s' o sane fine ex ops.0 to os all r here (λ top. (calm top).0) d
      (λ rest k c d. streams s' (o ∷ os) ts m f.3 f.0 (exactly_as (place r) s o (Left t.lexeme s') ex here) ops.1 to k rest c d)

  -- Each document is accepted, with its values.
  pub accepts : (u : List ℕ) (s : List Value) → Document g l u s → Streams (trace g l u) s
  accepts u s d =
      let r = pieces_read g l d.tokens s d.context d.pieces in
      let going : Going g l (fresh system_slots) d.tokens s =
      record { vs = r.given; later = r.later; n = r.now; c = d.context; read = r.read; ends = r.settles; whole = r.all } in
      let ops = lexes_operators IsLastBlank' d.tokens false 0 u d.lexed in
      let met = finds_met g l initial u d.tokens (lexes_finds u d.tokens d.lexed) ops (fresh system_slots, s, going) in
      let x = streams initial u d.tokens met refl (record { enough = omega arith }) (record { is = tt }) ops 0 (fresh system_slots) s (λ h. (tt, tt)) going in
      record { last = x.0; ends = x.1; values = x.2 }
    where
      IsLastBlank' : Bool → ℕ → List ℕ → Type 0
      IsLastBlank' = λ colon before octets. IsLastBlank octets
