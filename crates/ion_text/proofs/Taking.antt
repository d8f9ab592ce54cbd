-- What a reader that holds no values does, over what it did before.
use Rattle.std.proofs.Common.{◌≡◌, ◌≢◌, ℕ, ◌-◌, ◌<◌, Bool, true, false, List, [], ◌∷◌, Some, None, Result, Ok, Err, refl, sym, ap, ◌∙◌, subst}
use Rattle.ion_text.specs.Names.{Catalog, DidMeet, DidTake, Does, DoesAlone, Effect, Event, Found, Frame, GaveOut, Gives, Goes, Hears, Holds, IsBehind, IsMet, Known, Late, Limits, MeetsWith, Met, Outcome, Place, Reading, Reason, Refusal, Scanner, State, Stepped, Symbols, Taken, TextWalk, Turn, Turned, Value, WentOn, behind_given, behind_left, comes_again, events_of, fails, feed, gives, goes, heard, is_left, late, leaves, lesser, noticed, on_scan, or_worse, place, reading_of, refuses, scan as run, scanned, settle, state_of, takes, tells, told, turn, unsettled, uses, with_scan, worse}
use Rattle.ion_tokens.specs.machine.Steps.{Answers}
use Rattle.ion_visiting.specs.laws.Filters.{hears_both, hears_none}
use Rattle.ion_text.specs.machine.Views.{token_in}
use Rattle.ion_text.proofs.Meetings.{behind_token, came_turns, no_token, token_came}
use Rattle.ion_text.proofs.Octets.{goes_on_takes, least, one_octet, same_scan, same_takes, settles}

module _ {V : Type 0} (leads : V → Event → V → Type 0) where
  -- 1. Tokens.

  -- a visitor heard what it was to hear before a method that tells nothing
  pub does_behind : (es fs : List Event) (t : Turn) (result : Result Turned Reason) (r : TextWalk) (a b : V) → Hears leads (heard es) (heard fs) a b
      → DoesAlone fs t result r → Does leads es t result r a b
  does_behind es fs t (Ok Gives) r a b h d =
      (d.0, d.1, record { holds = d.2; hears = subst (λ w. Hears leads (heard es) w a b) (sym d.3) h })
  does_behind es fs t (Err e) r a b h d = d
  does_behind es fs t _ r a b h d =
      (d.0, d.1, d.2, record { holds = d.3; hears = subst (λ w. Hears leads (heard es) w a b) (sym d.4) h })

  -- it heard nothing
  pub does_alone : (es : List Event) (t : Turn) (result : Result Turned Reason) (r : TextWalk) (a : V) → DoesAlone es t result r
      → Does leads es t result r a a
  does_alone es t result r a d = does_behind es es t result r a a (hears_none leads (heard es) (heard es) a refl) d

  -- 2. Octets.

  pub went_behind : (es fs : List Event) (r : TextWalk) (gs : List Frame) (ss : Symbols) (a m b : V) → Hears leads (heard es) (heard fs) a m
      → WentOn leads fs r gs ss m b → WentOn leads es r gs ss a b
  went_behind es fs r gs ss a m b h w =
      record { holds = w.holds; hears = hears_both leads (heard es) (heard fs) (heard (told gs ss)) a m b h w.hears }

  pub gave_behind : (es fs : List Event) (r : TextWalk) (v : Value) (a m b : V) → Hears leads (heard es) (heard fs) a m
      → GaveOut leads fs r v m b → GaveOut leads es r v a b
  gave_behind es fs r v a m b h w = record { holds = w.holds; hears = hears_both leads (heard es) (heard fs) (events_of v) a m b h w.hears }

  pub take_same : (es : List Event) (e f : Effect) (result : Result Taken Reason) (r : TextWalk) (a b : V) → e ≡ f → DidTake leads es f result r a b
      → DidTake leads es e result r a b
  take_same es e f result r a b h d = subst (λ e. DidTake leads es e result r a b) (sym h) d

  pub take_behind : (es fs : List Event) (e : Effect) (result : Result Taken Reason) (r : TextWalk) (a m b : V) → Hears leads (heard es) (heard fs) a m
      → DidTake leads fs e result r m b → DidTake leads es e result r a b
  take_behind es fs e (Ok Taken.Uses) r a m b h d = (d.0, d.1, d.2, went_behind es fs r d.0 d.1 a m b h d.3)
  take_behind es fs e (Err reason) r a m b h d = d
  take_behind es fs e _ r a m b h d = (d.0, d.1, gave_behind es fs r d.0 a m b h d.2)

  -- an octet that was refused already and comes again is refused for the smaller of the reasons
  pub take_worse : (es : List Event) (reason : Reason) (e : Effect) (again : Result Taken Reason) (r : TextWalk) (a b : V) → DidTake leads es e again r a b
      → (worse reason again ≢ Reason.Memory) → or_worse reason e ≡ fails (worse reason again)
  take_worse es reason e (Ok Taken.Uses) r a b d other = ap (or_worse reason) d.2
  take_worse es reason e (Err f) r a b d other = ap (or_worse reason) (d (λ m. other (ap (lesser reason) m ∙ least reason)))
  take_worse es reason e _ r a b d other = ap (or_worse reason) d.1

  pub meet_same : (es : List Event) (e f : (State → Effect) → Effect) (result : Result Met Reason) (r : TextWalk) (a b : V)
      → ((again : State → Effect) → e again ≡ f again) → DidMeet leads es f result r a b → DidMeet leads es e result r a b
  meet_same es e f (Ok Met.Tells) r a b h d = (d.0, (λ again. h again ∙ d.1 again), d.2)
  meet_same es e f (Ok Met.Leaves) r a b h d = (d.0, (λ again. h again ∙ d.1 again), d.2)
  meet_same es e f (Err reason) r a b h d = λ other again. h again ∙ d other again
  meet_same es e f _ r a b h d = (d.0, d.1, (λ again. h again ∙ d.2 again), d.3)

  -- 3. One octet at the scanner.

  module _ (g : Catalog) (l : Limits) (n o : ℕ) (es : List Event) (q : Reading) (p : Place) (s : Known) where
    abbrev after : Effect
    after = on_scan g l (λ m. takes g l n m o) q (feed p s o)

    here : after ≡ on_scan g l (λ m. takes g l n m o) q (run p (o ∷ []) s)
    here = ap (on_scan g l (λ m. takes g l n m o) q) (sym (one_octet p s o))

    abbrev Met_it : Result Met Reason → TextWalk → V → V → Type 0
    Met_it result mid a b = DidMeet leads es (λ again. on_scan g l again q (run p (o ∷ []) s)) result mid a b

    -- it is used
    pub uses_octet : (y : Met) (mid : TextWalk) (a b : V) → y ≡ Met.Uses → Met_it (Ok y) mid a b
        → DidTake leads es (on_scan g l (λ m. takes g l n m o) q (feed p s o)) (Ok Taken.Uses) mid a b
    uses_octet y mid a b is d = let h = subst (λ (y : Met). Met_it (Ok y) mid a b) is d in (h.0, h.1, here ∙ h.2 (λ m. takes g l n m o), h.3)

    -- it ends a value
    pub tells_octet : (y : Met) (mid : TextWalk) (a b : V) → y ≡ Met.Tells → Met_it (Ok y) mid a b
        → DidTake leads es (on_scan g l (λ m. takes g l n m o) q (feed p s o)) (Ok Taken.Tells) mid a b
    tells_octet y mid a b is d = let h = subst (λ (y : Met). Met_it (Ok y) mid a b) is d in (h.0, here ∙ h.1 (λ m. takes g l n m o), h.2)

    -- it shows the end of one
    pub leaves_octet : (y : Met) (mid : TextWalk) (a b : V) → y ≡ Met.Leaves → Met_it (Ok y) mid a b
        → DidTake leads es (on_scan g l (λ m. takes g l n m o) q (feed p s o)) (Ok Taken.Leaves) mid a b
    leaves_octet y mid a b is d = let h = subst (λ (y : Met). Met_it (Ok y) mid a b) is d in (h.0, here ∙ h.1 (λ m. takes g l n m o), h.2)

    -- it is refused
    pub err_octet : (refusal : Refusal) (mid new : TextWalk) (a b : V) → MeetsWith leads es g l q (run p (o ∷ []) s) (Err refusal) mid a b
        → DidTake leads es (on_scan g l (λ m. takes g l n m o) q (feed p s o)) (Err refusal.reason) new a b
    err_octet refusal mid new a b h = λ other. here ∙ (h other).1 (λ m. takes g l n m o)

    -- where it comes again, a reader of the same setting takes it up
    module _ (y : Met) (mid : TextWalk) (a m : V) (d : Met_it (Ok y) mid a m) (same_catalog : mid.catalog.now ≡ g) (same_limits : mid.limits ≡ l)
        (result : Result Taken Reason) (new : TextWalk) (b : V)
        (again : (fs : List Frame) (ss : Symbols) → Holds mid fs ss →
        DidTake leads (told fs ss) (takes mid.catalog.now mid.limits n (state_of mid fs ss) o) result new m b) where
      pub again_octet : y ≡ Met.Again → DidTake leads es (on_scan g l (λ m. takes g l n m o) q (feed p s o)) result new a b
      again_octet is =
          let h = subst (λ (y : Met). Met_it (Ok y) mid a m) is d in
          let fs = h.0 in
          let ss = h.1 in
          take_same es _ (takes mid.catalog.now mid.limits n (state_of mid fs ss) o) result new a b
          (here ∙ (h.2 (λ m. takes g l n m o) ∙ same_takes g mid.catalog.now l mid.limits n o (state_of mid fs ss) same_catalog same_limits))
          (take_behind es (told fs ss) _ result new a m b h.3.hears (again fs ss h.3.holds))

      -- behind a late refusal it is refused for the smaller of both reasons
      pub late_octet : (reason cause : Reason) → y ≡ Met.Late reason → cause ≡ worse reason result → cause ≢ Reason.Memory
          → on_scan g l (λ m. takes g l n m o) q (feed p s o) ≡ fails cause
      late_octet reason cause is same other =
          let h = subst (λ (y : Met). Met_it (Ok y) mid a m) is d in
          let fs = h.0 in
          let ss = h.1 in
          here
          ∙ (h.2 (λ m. takes g l n m o)
          ∙ (ap (or_worse reason) (same_takes g mid.catalog.now l mid.limits n o (state_of mid fs ss) same_catalog same_limits)
          ∙ (take_worse (told fs ss) reason (takes mid.catalog.now mid.limits n (state_of mid fs ss) o) result new m b (again fs ss h.3.holds)
          (λ m. other (same ∙ m))
          ∙ ap fails (sym same))))

  -- 4. One octet, before which what waits is settled.

  module _ (g : Catalog) (l : Limits) (n o : ℕ) (es : List Event) (m : State) (p : Place) (place_is : p ≡ place m.reading) (some : 0 < n) where
    -- what waits goes on
    pub goes_on_octet : (result : Result Taken Reason) (new : TextWalk) (a b : V) → unsettled m.scan m.reading (feed p m.scan o) ≡ true
        → DidTake leads es (on_scan g l (λ k. takes g l (n - 1) k o) m.reading (feed p m.scan o)) result new a b
        → DidTake leads es (takes g l n m o) result new a b
    goes_on_octet result new a b w d = take_same es _ _ result new a b (goes_on_takes g l n o m p place_is some w) d

    module _ (w : unsettled m.scan m.reading (feed p m.scan o) ≡ false) where
      -- it is refused
      pub settles_err : (reason : Reason) (mid new : TextWalk) (a b : V) → Does leads es (settle g l m.reading) (Err reason) mid a b
          → DidTake leads es (takes g l n m o) (Err reason) new a b
      settles_err reason mid new a b d = λ other. settles g l n o m p place_is some (refuses reason) w (d other)

      -- it is a value, whose end the octet shows, which isn't used
      pub settles_gives : (mid : TextWalk) (a b : V) → scanned mid.scanner ≡ m.scan → Does leads es (settle g l m.reading) (Ok Gives) mid a b
          → DidTake leads es (takes g l n m o) (Ok Taken.Leaves) mid a b
      settles_gives mid a b scan d = (
        d.0,
        settles g l n o m p place_is some (gives d.0 (reading_of mid [] [])) w d.1
            ∙ ap (λ s. leaves d.0 (with_scan s (reading_of mid [] []))) (sym scan),
        d.2,
      )

      module _ (mid : TextWalk) (h : Catalog) (k : Limits) (same_catalog : h ≡ g) (same_limits : k ≡ l) (scan : scanned mid.scanner ≡ m.scan)
          (result : Result Taken Reason) (new : TextWalk) (a c b : V)
          (behind_it : (fs : List Frame) (ss : Symbols) → Holds mid fs ss →
          DidTake leads (told fs ss) (on_scan h k (λ j. takes h k (n - 1) j o) (reading_of mid fs ss) (feed p (scanned mid.scanner) o)) result new c b)
        where
          -- behind it the octet does what it does
          pub settles_goes : Does leads es (settle g l m.reading) (Ok Goes) mid a c → DidTake leads es (takes g l n m o) result new a b
          settles_goes d =
              let q = reading_of mid d.0 d.1 in
              take_same es _ _ result new a b
              (settles g l n o m p place_is some (goes q) w d.2 ∙ same_scan g h l k (n - 1) o p m.scan (scanned mid.scanner) q same_catalog same_limits scan)
              (take_behind es (told d.0 d.1) _ result new a c b d.3.hears (behind_it d.0 d.1 d.3.holds))

          -- where it is refused late, the octet is refused for the smaller of both reasons
          pub settles_late : (reason cause : Reason) → Does leads es (settle g l m.reading) (Ok (Late reason)) mid a c → cause ≡ worse reason result
              → cause ≢ Reason.Memory → takes g l n m o ≡ fails cause
          settles_late reason cause d same other =
              let q = reading_of mid d.0 d.1 in
              settles g l n o m p place_is some (late reason q) w d.2
              ∙ (ap (or_worse reason) (same_scan g h l k (n - 1) o p m.scan (scanned mid.scanner) q same_catalog same_limits scan)
              ∙ (take_worse (told d.0 d.1) reason _ result new c b (behind_it d.0 d.1 d.3.holds) (λ m. other (same ∙ m)) ∙ ap fails (sym same)))

  -- 5. What came of a token.

  module _ (l : Limits) (s : Known) (es : List Event) (t : Turn) (mid : TextWalk) (a b : V) where
    -- it ended with the last octet
    pub given_gives : scanned mid.scanner ≡ s → Does leads es t (Ok Gives) mid a b → DidMeet leads es (λ _. behind_given l s t) (Ok Met.Tells) mid a b
    given_gives scan d = (d.0, (λ again. ap (behind_given l s) d.1 ∙ ap (λ x. tells d.0 (with_scan x (reading_of mid [] []))) (sym scan)), d.2)

    -- it ended before the last octet
    pub left_gives : scanned mid.scanner ≡ s → Does leads es t (Ok Gives) mid a b → DidMeet leads es (λ again. behind_left again s t) (Ok Met.Leaves) mid a b
    left_gives scan d = (d.0, (λ again. ap (behind_left again s) d.1 ∙ ap (λ x. leaves d.0 (with_scan x (reading_of mid [] []))) (sym scan)), d.2)

  -- 6. What the scanner answered.

  module _ (g : Catalog) (l : Limits) (es : List Event) (q : Reading) (before : ℕ) (x : Outcome) (scan : Stepped) (now : Known) (answers : Answers before x (Ok scan) now)
    where
      -- no token
      pub no_token_meets : (r : TextWalk) (fs : List Frame) (ss : Symbols) (a : V) → scan.token ≡ None → told fs ss ≡ es → Holds r fs ss
          → noticed l q now ≡ uses (state_of r fs ss) → DidMeet leads es (λ again. on_scan g l again q x) (Ok Met.Uses) r a a
      no_token_meets r fs ss a none same h notices = (
        fs,
        ss,
        (λ again. ap (λ y. on_scan g l again q y) (no_token before x scan now answers none) ∙ notices),
        record { holds = h; hears = hears_none leads (heard es) (heard (told fs ss)) a (ap heard same) },
      )

      -- a token
      pub token_meets : (left : Bool) (t : Found) (result : Result Met Reason) (r : TextWalk) (a b : V) → scan.token ≡ Some t → scan.left ≡ left
          → DidMeet leads es (λ again. behind_token l left again now (turn g l q (token_in t))) result r a b
          → DidMeet leads es (λ again. on_scan g l again q x) result r a b
      token_meets left t result r a b some is d =
          let h = token_came before x scan t now left answers some is in
          meet_same es _ _ result r a b (λ again. came_turns g l q left again x t now h) d

-- the reader with this scanner in place of its own
abbrev pub with_scanner : TextWalk → Scanner → TextWalk
with_scanner r s = record r { scanner = s }

-- how many octets are used then
module _ (before : ℕ) (x : Outcome) (scan : Stepped) (now : Known) (answers : Answers before x (Ok scan) now) (new : TextWalk)
    (same : scanned new.scanner ≡ now) where
  pub no_token_met : scan.token ≡ None → IsMet x Met.Uses new
  no_token_met none =
      let h = no_token before x scan now answers none in (subst (λ y. IsBehind y (scanned new.scanner)) (sym h) same, ap is_left h)

  pub token_met : (left : Bool) (t : Found) (m : Met) → scan.token ≡ Some t → scan.left ≡ left → comes_again m ≡ left → IsMet x m new
  token_met true t m some is again =
      let h = token_came before x scan t now true answers some is in
      (subst (λ y. IsBehind y (scanned new.scanner)) (sym h.is) same, ap is_left h.is ∙ sym again)
  token_met false t m some is again =
      let h = token_came before x scan t now false answers some is in
      (subst (λ y. IsBehind y (scanned new.scanner)) (sym h.is) same, ap is_left h.is ∙ sym again)
