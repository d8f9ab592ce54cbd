-- Octets that are handed to the scanner at once: what comes of them is what a run over them does.
use Rattle.std.proofs.Common.{◌≡◌, ℕ, suc, ◌+◌, ◌-◌, ◌<◌, ◌≤◌, Bool, true, false, cond, List, [], ◌∷◌, ◌++◌, length, take, get_or, Option, Some, None, Ok, Err, refl, ap, sym, ◌∙◌, subst, arith, length-append, inl}
use Rattle.std.proofs.lemmas.Bool.{le-leb}
use Rattle.std.specs.Prelude.{◌==◌, ◌&&◌, not, nat_le, bytes_eq, codes, if◌then◌else◌}
use Rattle.std.proofs.Math.Seq.{take-append-add, take-append_seam}
use Rattle.std.proofs.lemmas.List.{get_or-append-add, take_all}
use Rattle.ion_text.specs.Names.{Action, Begun, Catalog, Effect, Frame, Given, GivesOver, IsBehind, IsCalm, Known, LeadsOver, LeavesBehind, Left, Limits, Mode, Next, OnNext, Outcome, Place, Quiet, Reading, Reason, Refusal, Refused, Setting, Slot, Stage, State, Symbols, TokenKind, Value, acts, at, base, begun_in, behind, blob_ends, blob_of, cut, decided, drive, eats, failed_at, fails, feed, floor, follow, form_of, go_to, goes, is_idle, is_left, is_long_begun, leaves, led, longest_top, noticed, on_scan, on_settled, or_worse, past, place, reaches, run, run-append, run_on, settle, settled, shut, start_of, takes, tells, then_run, under, unsettled, uses, with_scan}
use Rattle.ion_tokens.specs.machine.Scanning as scanning
use Rattle.ion_tokens.specs.machine.Table.{next}
use Rattle.ion_tokens.proofs.runs.LastOctets.{IsLast, last_octet, refused_here}
use Rattle.ion_tokens.proofs.runs.Runs.{feed_used, next_used}
use Rattle.ion_tokens.proofs.runs.Splits.{given_one, left_one}
use Rattle.ion_text.specs.laws.reading.complete.Found.{next_is}

blob_start : (s t : Known) (b : Option (List ℕ)) → blob_ends s b ≡ Next t → t.start ≡ floor s
blob_start s t None e = cc
blob_start s t (Some b) e = sym (ap (λ (x : Known). x.start) (next_is _ t e))

acts_start : (p : Place) (s t : Known) (o : ℕ) (a : Action) → acts p s o a ≡ Next t → t.start ≡ floor s
acts_start p s t o (Action.Go m k) e = sym (ap (λ (x : Known). x.start) (next_is _ t e))
acts_start p s t o Action.EndWord e = sym (one ((o == 46) && bytes_eq s.kept (codes "null")) e) where
  one : (b : Bool) → cond b (Next (go_to s Mode.KindName [])) (Left (cut s TokenKind.Word s.kept s.used) (past p TokenKind.Word Mode.Blank [] s.used s.used)) ≡ Next t
      → floor s ≡ t.start
  one true h = ap (λ (x : Known). x.start) (next_is _ t h)
  one false h = cc
acts_start p s t o Action.EndBlob e = blob_start s t (blob_of s.kept) e
acts_start p s t o _ e = cc

feed_start : (p : Place) (s t : Known) (o : ℕ) → feed p s o ≡ Next t → t.start ≡ floor s
feed_start p s t o e = acts_start p s t o (next p s.colon s.mode o) e

start_later : (m : Mode) (f u : ℕ) → f ≤ u → (f ≤ start_of m f (u + 1)) × (start_of m f (u + 1) ≤ u + 1)
start_later Mode.Blank f u h = (omega arith, omega arith)
start_later _ f u h = (omega arith, omega arith)

-- it never moves back
floor_later : (p : Place) (s t : Known) (o : ℕ) → feed p s o ≡ Next t → floor s ≤ s.used → (floor s ≤ t.start) × (floor s ≤ floor t) × (floor t ≤ t.used)
floor_later p s t o e h =
    let start = feed_start p s t o e in
    let used = feed_used p s t o e in
    let later = start_later t.mode (floor s) s.used h in
    let same : start_of t.mode (floor s) (s.used + 1) ≡ floor t = ap (λ k. start_of t.mode k (s.used + 1)) (sym start)
    ∙ ap (start_of t.mode t.start) (sym used) in
    (omega (arith, start), subst (λ (k : ℕ). floor s ≤ k) same later.0, omega (arith, used, same, later.1))

calm_open : (n : Stage) → IsCalm n → shut n ≡ false
calm_open Stage.Ready h = refl
calm_open Stage.Name h = refl
calm_open _ h = absurd h

top_span : (idle : Bool) (s : Known) (from lo : ℕ) → lo ≤ s.start → (b : Option Begun)
    → b ≡ (if idle then None else Some (record { start = s.start; end = s.used - behind s.mode; form = form_of s.mode })) → (n : ℕ)
    → longest_top from s.used Stage.Ready [] b n ≤ s.used - lo
top_span true s from lo h None e n = omega arith
top_span false s from lo h (Some b) e n =
    let start : b.start ≡ s.start = cc in
    let end : b.end ≡ s.used - behind s.mode = cc in
    omega arith
top_span _ s from lo h _ e n = absurd cc

-- how many octets the open item has is known by how many are used
reach_bound : (r : Reading) (s : Known) (lo : ℕ) → IsCalm r.now → lo ≤ s.start → (fs : List Frame) (ss : Symbols) → r.notes ≡ ss
    → reaches fs r s ≤ s.used - base fs ss r.start lo
reach_bound r s lo calm h [] [] e = by r.now calm
  where
    by : (n : Stage) → IsCalm n → longest_top r.start s.used n r.notes (begun_in s) (is_long_begun (begun_in s)) ≤ s.used - lo
    by Stage.Ready c = subst (λ (ss : Symbols). longest_top r.start s.used Stage.Ready ss (begun_in s) (is_long_begun (begun_in s)) ≤ s.used - lo) (sym e)
        (top_span (is_idle s.mode) s r.start lo h (begun_in s) refl (is_long_begun (begun_in s)))
    by Stage.Name c = omega arith
    by _ c = absurd c
reach_bound r s lo calm h [] (x ∷ xs) e = by r.now calm
  where
    noted : (idle : Bool) (b : Option Begun) → b ≡ (if idle then None else Some
        (record { start = s.start; end = s.used - behind s.mode; form = form_of s.mode })) → (n : ℕ)
        → longest_top r.start s.used Stage.Ready (x ∷ xs) b n ≤ s.used - r.start
    noted true None i n = omega arith
    noted false (Some b) i n = let end : b.end ≡ s.used - behind s.mode = cc in omega arith
    noted _ _ i n = absurd cc

    by : (n : Stage) → IsCalm n → longest_top r.start s.used n r.notes (begun_in s) (is_long_begun (begun_in s)) ≤ s.used - r.start
    by Stage.Ready c = subst (λ (ss : Symbols). longest_top r.start s.used Stage.Ready ss (begun_in s) (is_long_begun (begun_in s)) ≤ s.used - r.start) (sym e)
        (noted (is_idle s.mode) (begun_in s) refl (is_long_begun (begun_in s)))
    by Stage.Name c = omega arith
    by _ c = absurd c
reach_bound r s lo calm h (f ∷ fs) ss e = omega arith

module _ (g : Catalog) (l : Limits) (r : Reading) (lo : ℕ) (calm : IsCalm r.now) where
  fits_noticed : (s : Known) → reaches r.frames r s ≤ l.item → noticed l r s ≡ uses (with_scan s r)
  fits_noticed s h =
      ap (λ b. if b && not (is_idle s.mode) then fails Reason.Unexpected else
      (if nat_le (reaches r.frames r s) l.item then uses (with_scan s r) else fails Reason.ItemTooLong)) (calm_open r.now calm)
      ∙ ap (λ b. if b then uses (with_scan s r) else fails Reason.ItemTooLong) (le-leb (reaches r.frames r s) l.item h)

  -- octets with which the item stays within the limit give no reason to refuse
  pub quiet_within : (p : Place) (os : List ℕ) (s : Known) → lo ≤ floor s → floor s ≤ s.used → s.used + length os ≤ l.item + base r.frames r.notes r.start lo
      → Quiet g l r p s os
  quiet_within p [] s low high room = tt
  quiet_within p (o ∷ os) s low high room = by (feed p s o) refl (λ t. quiet_within p os t)
    where
      by : (x : Outcome) → feed p s o ≡ x → ((t : Known) → lo ≤ floor t → floor t ≤ t.used → t.used + length os ≤ l.item + base r.frames r.notes r.start lo
          → Quiet g l r p t os) → OnNext x (λ t. (noticed l r t ≡ uses (with_scan t r)) × Quiet g l r p t os)
      by (Next t) e more =
          let later = floor_later p s t o e high in
          let used = feed_used p s t o e in
          let bound = reach_bound r t lo calm (omega arith) r.frames r.notes refl in
          (fits_noticed t (omega arith), more t (omega arith) later.2 (omega (arith, used)))
      by _ e more = tt

calm_settled : (setting : Setting) (start : ℕ) (c : List Slot) (fs : List Frame) (ss : Symbols) (n : Stage) → IsCalm n → settled setting start c fs ss n
    ≡ goes (at start c fs ss n)
calm_settled setting start c fs ss Stage.Ready h = refl
calm_settled setting start c fs ss Stage.Name h = refl
calm_settled setting start c fs ss _ h = absurd h

module _ (g : Catalog) (l : Limits) (r : Reading) (calm : IsCalm r.now) (s : Known) (piece : List ℕ) (high : floor s ≤ s.used)
    (room : s.used + length piece ≤ l.item + base r.frames r.notes r.start (floor s)) where
  settles : settle g l r ≡ goes r
  settles = calm_settled (under g l) r.start r.context r.frames r.notes r.now calm

  quiet : (os : List ℕ) → length os ≤ length piece → Quiet g l r (place r) s os
  quiet os few = quiet_within g l r (floor s) calm (place r) os s (omega arith) high (omega arith)

  -- at each octet nothing waits
  calm_octet : (again : State → Effect) (k : Known) (x : Outcome) (b : Bool) → (if b then on_scan g l again r x else on_settled g l again k x (settle g l r))
      ≡ on_scan g l again r x
  calm_octet again k x true = refl
  calm_octet again k x false = ap (on_settled g l again k x) settles

  eaten : (k : Known) (o : ℕ) (y : Outcome) → feed (place r) k o ≡ y → eats g l (with_scan k r) o ≡ on_scan g l (λ m. takes g l 2 m o) r y
  eaten k o y f = calm_octet (λ m. takes g l 2 m o) k (feed (place r) k o) (unsettled k r (feed (place r) k o)) ∙ ap (on_scan g l (λ m. takes g l 2 m o) r) f

  -- where all octets are used and end nothing
  pub all_led : (t : Known) → scanning.run (place r) piece s ≡ Next t → run g l s.used (with_scan s r) piece ≡ led (with_scan t r)
  all_led t e = drive g l piece s.used r s t e (quiet piece (omega arith)) (inl settles)

  last_noticed : (os : List ℕ) (k t : Known) → 0 < length os → scanning.run (place r) os k ≡ Next t → Quiet g l r (place r) k os
      → noticed l r t ≡ uses (with_scan t r)
  last_noticed [] k t some e q = absurd (omega arith)
  last_noticed (o ∷ os) k t some e q = by (feed (place r) k o) refl e q (λ m. last_noticed os m t)
    where
      ends : (m : Known) (ws : List ℕ) → scanning.run (place r) ws m ≡ Next t → Quiet g l r (place r) m ws → noticed l r m ≡ uses (with_scan m r)
          → ((m : Known) → 0 < length ws → scanning.run (place r) ws m ≡ Next t → Quiet g l r (place r) m ws → noticed l r t ≡ uses (with_scan t r))
          → noticed l r t ≡ uses (with_scan t r)
      ends m [] e q n more = subst (λ (y : Known). noticed l r y ≡ uses (with_scan y r)) (next_is m t e) n
      ends m (w ∷ ws) e q n more = more m (omega arith) e q

      by : (x : Outcome) → feed (place r) k o ≡ x → follow x (λ m. scanning.run (place r) os m) ≡ Next t
          → OnNext x (λ m. (noticed l r m ≡ uses (with_scan m r)) × Quiet g l r (place r) m os)
          → ((m : Known) → 0 < length os → scanning.run (place r) os m ≡ Next t → Quiet g l r (place r) m os → noticed l r t ≡ uses (with_scan t r))
          → noticed l r t ≡ uses (with_scan t r)
      by (Next m) f e q more = ends m os e q.1 q.0 more
      by _ f e q more = absurd cc

  pub all_noticed : (t : Known) → 0 < length piece → scanning.run (place r) piece s ≡ Next t → noticed l r t ≡ uses (with_scan t r)
  all_noticed t some e = last_noticed piece s t some (subst (λ (x : Outcome). scanning.run (place r) piece s ≡ x) e refl) (quiet piece (omega arith))

  -- the octet with which something comes, and what is before it
  pub record AtLast (x : Outcome) : Type 0 where
    pub count : ℕ
    pub octet : ℕ
    pub known : Known
    pub inside : count < length piece
    pub read : get_or piece count 0 ≡ octet
    pub before : run g l s.used (with_scan s r) (take count piece) ≡ led (with_scan known r)
    pub with_it : run g l s.used (with_scan s r) (take (count + 1) piece) ≡ run_on (s.used + count) (λ n. eats g l n octet) led
        (on_scan g l (λ m. takes g l 2 m octet) r x)
    pub does : eats g l (with_scan known r) octet ≡ on_scan g l (λ m. takes g l 2 m octet) r x
    pub refuses : (e : Reason) → on_scan g l (λ m. takes g l 2 m octet) r x ≡ fails e → run g l s.used (with_scan s r) piece ≡ failed_at (s.used + count + 1) e
    pub fed : feed (place r) known octet ≡ x
    pub counted : known.used ≡ s.used + count

  pub at_last : (x : Outcome) → IsLast x → scanning.run (place r) piece s ≡ x → AtLast x
  at_last x is e =
      let p = last_octet (place r) piece s x is e in
      let n = length p.before in
      let size : length piece ≡ n + suc (length p.rest) = ap (λ (w : List ℕ). length w) p.cut ∙ length-append p.before (p.octet ∷ p.rest) in
      let led_before = drive g l p.before s.used r s p.known p.ran (quiet p.before (omega arith)) (inl settles) in
      let front : take n piece ≡ p.before = ap (take n) p.cut ∙ take-append_seam p.before (p.octet ∷ p.rest) in
      let more : take (n + 1) piece ≡ p.before ++ p.octet ∷ [] = ap (take (n + 1)) p.cut ∙ take-append-add p.before (p.octet ∷ p.rest) 1 in
      let does = eaten p.known p.octet x p.fed in
      let behind = λ (ws : List ℕ). run-append g l s.used (s.used + n) p.before (p.octet ∷ ws) refl (with_scan s r)
      ∙ (ap (λ y. then_run y (λ m. run g l (s.used + n) m (p.octet ∷ ws))) led_before
      ∙ ap (run_on (s.used + n) (λ m. eats g l m p.octet) (λ m. run g l (s.used + n + 1) m ws)) does) in
      record {
        count = n;
        octet = p.octet;
        known = p.known;
        inside = omega arith;
        read = ap (λ w. get_or w n 0) p.cut ∙ seam p.before (p.octet ∷ p.rest);
        before = ap (run g l s.used (with_scan s r)) front ∙ led_before;
        with_it = ap (run g l s.used (with_scan s r)) more ∙ behind [];
        does = does;
        refuses = λ y h. ap (run g l s.used (with_scan s r)) p.cut
            ∙ (behind p.rest ∙ ap (run_on (s.used + n) (λ m. eats g l m p.octet) (λ m. run g l (s.used + n + 1) m p.rest)) h);
        fed = p.fed;
        counted = p.counted;
      }
    where
      seam : (xs ys : List ℕ) → get_or (xs ++ ys) (length xs) 0 ≡ get_or ys 0 0
      seam xs ys = let same : length xs ≡ length xs + 0 = omega arith in ap (λ k. get_or (xs ++ ys) k 0) same ∙ get_or-append-add xs ys 0 0

  uses_same : (a b : State) → uses a ≡ uses b → a ≡ b
  uses_same a b e = cc

  no_telling : (v : Value) (a b : State) → uses a ≡ tells v b → ⊥
  no_telling v a b e = absurd cc

  no_failing : (f : Reason) (a : State) → uses a ≡ fails f → ⊥
  no_failing f a e = absurd cc

  module _ (some : 0 < length piece) where
    next_count : (t now : Known) (count : ℕ) → scanning.run (place r) piece s ≡ Next t → now ≡ t → now.used ≡ s.used + count → count ≡ length piece
    next_count t now count e b u = let n = next_used (place r) piece s t (sym e) in let m = ap (λ (k : Known). k.used) b in omega arith

    -- where the octets handed over at once were used, a run over them leads where what came of them does
    pub uses_front : (x : Outcome) (now : Known) (count : ℕ) (n : State) → scanning.run (place r) piece s ≡ x → IsBehind x now → is_left x ≡ false
        → now.used ≡ s.used + count → ((again : State → Effect) → on_scan g l again r x ≡ uses n) → LeadsOver g l s.used (with_scan s r) piece count n
    uses_front (Next t) now count n e b f u d =
        let k = next_count t now count e b u in
        let same = uses_same (with_scan t r) n (sym (all_noticed t some e) ∙ d (λ m. fails Reason.Memory)) in (
          omega arith,
          omega arith,
          ap (λ k. run g l s.used (with_scan s r) (take k piece)) k
              ∙ (ap (run g l s.used (with_scan s r)) (take_all (length piece) piece (omega arith)) ∙ (all_led t e ∙ ap led same)),
        )
    uses_front (Given y t) now count n e b f u d =
        let a = at_last (Given y t) tt e in
        let m = ap (λ (k : Known). k.used) b in
        let k : count ≡ a.count + 1 = omega (arith, given_one (place r) a.octet a.known t y a.fed, a.counted) in
        let i = a.inside in (
          omega arith,
          omega arith,
          ap (λ k. run g l s.used (with_scan s r) (take k piece)) k
              ∙ (a.with_it ∙ ap (run_on (s.used + a.count) (λ n. eats g l n a.octet) led) (d (λ m. takes g l 2 m a.octet))),
        )
    uses_front (Left y t) now count n e b f u d = absurd cc
    uses_front (Refused k y) now count n e b f u d = absurd b

    -- where the last of the octets handed over ended a value, a run over them gives it with that octet
    pub tells_front : (x : Outcome) (now : Known) (count : ℕ) (v : Value) (n : State) → scanning.run (place r) piece s ≡ x → IsBehind x now → is_left x ≡ false
        → now.used ≡ s.used + count → ((again : State → Effect) → on_scan g l again r x ≡ tells v n) → GivesOver g l s.used (with_scan s r) piece count v n
    tells_front (Next t) now count v n e b f u d = absurd (no_telling v (with_scan t r) n (sym (all_noticed t some e) ∙ d (λ m. fails Reason.Memory)))
    tells_front (Given y t) now count v n e b f u d =
        let a = at_last (Given y t) tt e in
        let m = ap (λ (k : Known). k.used) b in
        let k : count ≡ a.count + 1 = omega (arith, given_one (place r) a.octet a.known t y a.fed, a.counted) in
        let i = a.inside in
        let place : s.used + a.count + 1 ≡ s.used + count = omega arith in (
          omega arith,
          omega arith,
          ap (λ k. run g l s.used (with_scan s r) (take k piece)) k
              ∙ (a.with_it ∙ (ap (run_on (s.used + a.count) (λ n. eats g l n a.octet) led) (d (λ m. takes g l 2 m a.octet))
              ∙ ap (λ k. record { given = (v, k) ∷ []; now = Ok n }) place)),
        )
    tells_front (Left y t) now count v n e b f u d = absurd cc
    tells_front (Refused k y) now count v n e b f u d = absurd b

    -- a token ended before the last octet that was looked at
    pub record AtLeft (x : Outcome) (count : ℕ) : Type 0 where
      pub at : AtLast x
      pub same : count ≡ at.count

    pub left_at : (x : Outcome) (now : Known) (count : ℕ) → scanning.run (place r) piece s ≡ x → IsBehind x now → is_left x ≡ true → now.used ≡ s.used + count
        → AtLeft x count
    left_at (Left z t) now count e b f u =
        let a = at_last (Left z t) tt e in
        let m = ap (λ (k : Known). k.used) b in
        record { at = a; same = omega (arith, left_one (place r) a.octet a.known t z a.fed, a.counted) }
    left_at (Refused n z) now count e b f u = absurd b
    left_at _ now count e b f u = absurd cc

    -- what the octet does that comes again is what these octets do
    module _ (x : Outcome) (a : AtLast x) (e : Effect) (same : on_scan g l (λ m. takes g l 2 m a.octet) r x ≡ e) where
      left_uses : (n : State) → e ≡ uses n → run g l s.used (with_scan s r) (take (a.count + 1) piece) ≡ led n
      left_uses n h = a.with_it ∙ ap (run_on (s.used + a.count) (λ n. eats g l n a.octet) led) (same ∙ h)

      left_tells : (v : Value) (n : State) → e ≡ tells v n
          → run g l s.used (with_scan s r) (take (a.count + 1) piece) ≡ record { given = (v, s.used + a.count + 1) ∷ []; now = Ok n }
      left_tells v n h = a.with_it ∙ ap (run_on (s.used + a.count) (λ n. eats g l n a.octet) led) (same ∙ h)

      left_leaves : (v : Value) (n : State) → e ≡ leaves v n → LeavesBehind g l s.used (with_scan s r) piece a.count v n
      left_leaves v n h = record {
        within = a.inside;
        before = with_scan a.known r;
        ran = a.before;
        left = ap (eats g l (with_scan a.known r)) a.read ∙ (a.does ∙ (same ∙ h));
      }

    -- where the octet behind those used showed a value's end, a run leads up to it, and there it does
    pub leaves_front : (x : Outcome) (now : Known) (count : ℕ) (v : Value) (n : State) → scanning.run (place r) piece s ≡ x → IsBehind x now → is_left x ≡ true
        → now.used ≡ s.used + count → ((again : State → Effect) → on_scan g l again r x ≡ leaves v n) → LeavesBehind g l s.used (with_scan s r) piece count v n
    leaves_front x now count v n e b f u d =
        let a = left_at x now count e b f u in
        subst (λ (k : ℕ). LeavesBehind g l s.used (with_scan s r) piece k v n) (sym a.same)
        (left_leaves x a.at (on_scan g l (λ m. takes g l 2 m a.at.octet) r x) refl v n (d (λ m. takes g l 2 m a.at.octet)))

    -- so do they where they are refused
    at_refused : (x : Outcome) (a : AtLast x) (e : Reason) (refusal : Refusal) → refusal ≡ record { offset = s.used + a.count + 1; reason = e }
        → on_scan g l (λ m. takes g l 2 m a.octet) r x ≡ fails e → run g l s.used (with_scan s r) piece ≡ record { given = []; now = Err refusal }
    at_refused x a e refusal i h = a.refuses e h ∙ ap (λ q. record { given = []; now = Err q }) (sym i)

    refusal_same : (refusal : Refusal) (n : ℕ) → refusal.offset ≡ n → refusal ≡ record { offset = n; reason = refusal.reason }
    refusal_same refusal n e = ap (λ k. record { offset = k; reason = refusal.reason }) e

    -- where what came of the octets is refused, a run over the piece is refused so
    pub refused_front : (x : Outcome) (refusal : Refusal) → scanning.run (place r) piece s ≡ x → refusal.offset ≡ decided x
        → ((again : State → Effect) → on_scan g l again r x ≡ fails refusal.reason) → run g l s.used (with_scan s r) piece ≡ record { given = []; now = Err refusal }
    refused_front (Next t) refusal e offset d = absurd (no_failing refusal.reason (with_scan t r) (sym (all_noticed t some e) ∙ d (λ m. fails Reason.Memory)))
    refused_front (Given y t) refusal e offset d =
        let a = at_last (Given y t) tt e in
        let n : refusal.offset ≡ s.used + a.count + 1 = omega (arith, offset, given_one (place r) a.octet a.known t y a.fed, a.counted) in
        at_refused (Given y t) a refusal.reason refusal (refusal_same refusal (s.used + a.count + 1) n) (d (λ m. takes g l 2 m a.octet))
    refused_front (Left y t) refusal e offset d =
        let a = at_last (Left y t) tt e in
        let n : refusal.offset ≡ s.used + a.count + 1 = omega (arith, offset, left_one (place r) a.octet a.known t y a.fed, a.counted) in
        at_refused (Left y t) a refusal.reason refusal (refusal_same refusal (s.used + a.count + 1) n) (d (λ m. takes g l 2 m a.octet))
    refused_front (Refused k y) refusal e offset d =
        let a = at_last (Refused k y) tt e in
        let n : refusal.offset ≡ s.used + a.count + 1 = omega (arith, offset, refused_here (place r) a.known a.octet k y a.fed, a.counted) in
        at_refused (Refused k y) a refusal.reason refusal (refusal_same refusal (s.used + a.count + 1) n) (d (λ m. takes g l 2 m a.octet))

    -- the octet behind those used comes again
    module _ (x : Outcome) (now : Known) (count : ℕ) (came : scanning.run (place r) piece s ≡ x) (b : IsBehind x now) (f : is_left x ≡ true)
        (u : now.used ≡ s.used + count) where
      there : AtLeft x count
      there = left_at x now count came b f u

      -- an octet that comes again stands in the piece, behind those that were used
      pub inside_front : count < length piece
      inside_front = let i = there.at.inside in let n = there.same in omega arith

      at_count : (offset : ℕ) → offset ≡ now.used + 1 → offset ≡ s.used + there.at.count + 1
      at_count offset e = let n = there.same in omega arith

      -- in this state, where a catalog and limits are the same
      module _ (mid : State) (cat : Catalog) (lim : Limits) (same_catalog : cat ≡ g) (same_limits : lim ≡ l) where
        abbrev after : Effect
        after = takes cat lim 2 mid (get_or piece count 0)

        took_again : takes g l 2 mid there.at.octet ≡ after
        took_again =
            ap (takes g l 2 mid) (sym there.at.read ∙ ap (λ k. get_or piece k 0) (sym there.same))
            ∙ (ap (λ x. takes x l 2 mid (get_or piece count 0)) (sym same_catalog)
            ∙ ap (λ x. takes cat x 2 mid (get_or piece count 0)) (sym same_limits))

        -- behind a late refusal it is refused for the smaller reason
        pub late_front : (offset : ℕ) (reason cause : Reason) → offset ≡ now.used + 1
            → ((again : State → Effect) → on_scan g l again r x ≡ or_worse reason (again mid))
            → or_worse reason (takes cat lim 2 mid (get_or piece count 0)) ≡ fails cause
            → run g l s.used (with_scan s r) piece ≡ record { given = []; now = Err (record { offset = offset; reason = cause }) }
        late_front offset reason cause o d e =
            at_refused x there.at cause (record { offset = offset; reason = cause }) (ap (λ k. record { offset = k; reason = cause }) (at_count offset o))
            (d (λ m. takes g l 2 m there.at.octet) ∙ (ap (or_worse reason) took_again ∙ e))

        module _ (d : (again : State → Effect) → on_scan g l again r x ≡ again mid) where
          comes : on_scan g l (λ m. takes g l 2 m there.at.octet) r x ≡ after
          comes = d (λ m. takes g l 2 m there.at.octet) ∙ took_again

          -- where it is used, a run up to and with it leads there
          pub again_uses_front : (n : State) → takes cat lim 2 mid (get_or piece count 0) ≡ uses n → LeadsOver g l s.used (with_scan s r) piece (count + 1) n
          again_uses_front n h =
              let inside = inside_front in (
                omega arith,
                omega arith,
                ap (λ k. run g l s.used (with_scan s r) (take (k + 1) piece)) there.same ∙ left_uses x there.at after comes n h,
              )

          -- where it ends a value, a run up to and with it gives this value
          pub again_tells_front : (v : Value) (n : State) → takes cat lim 2 mid (get_or piece count 0) ≡ tells v n
              → GivesOver g l s.used (with_scan s r) piece (count + 1) v n
          again_tells_front v n h =
              let inside = inside_front in
              let same = there.same in
              let total : s.used + there.at.count + 1 ≡ s.used + (count + 1) = omega arith in (
                omega arith,
                omega arith,
                ap (λ k. run g l s.used (with_scan s r) (take (k + 1) piece)) there.same
                    ∙ (left_tells x there.at after comes v n h ∙ ap (λ k. record { given = (v, k) ∷ []; now = Ok n }) total),
              )

          -- where it shows a value's end, a run leads up to it, and there it does
          pub again_leaves_front : (v : Value) (n : State) → takes cat lim 2 mid (get_or piece count 0) ≡ leaves v n
              → LeavesBehind g l s.used (with_scan s r) piece count v n
          again_leaves_front v n h =
              subst (λ (k : ℕ). LeavesBehind g l s.used (with_scan s r) piece k v n) (sym there.same) (left_leaves x there.at after comes v n h)

          -- where it is refused, a run over the piece is refused at it
          pub again_refused_front : (offset : ℕ) (reason : Reason) → offset ≡ now.used + 1 → takes cat lim 2 mid (get_or piece count 0) ≡ fails reason
              → run g l s.used (with_scan s r) piece ≡ record { given = []; now = Err (record { offset = offset; reason = reason }) }
          again_refused_front offset reason o h =
              at_refused x there.at reason (record { offset = offset; reason = reason }) (ap (λ k. record { offset = k; reason = reason }) (at_count offset o))
              (comes ∙ h)
