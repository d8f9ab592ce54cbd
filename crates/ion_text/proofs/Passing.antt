-- Octets that are taken up at once where a container is open.
use Rattle.std.proofs.Common.{◌≡◌, ℕ, zero, suc, ◌+◌, ◌-◌, ◌<◌, ◌≤◌, Bool, true, false, List, [], ◌∷◌, ◌++◌, length, take, drop, get_or, Ok, refl, ap, sym, ◌∙◌, subst, arith, length-drop, inl, inr}
use Rattle.std.proofs.lemmas.Bool.{le-leb, true_from_ne_false}
use Rattle.std.specs.Prelude.{◌&&◌, ◌||◌, not, nat_le, if◌then◌else◌}
use Rattle.std.proofs.lemmas.Grind.{common_steps}
use Rattle.std.proofs.lemmas.List.{length-take-le, take-append-drop, drop-take}
use Rattle.ion_text.specs.Names.{Catalog, Content, Effect, Frame, Given, Held, IsCalm, Known, LeadsTo, Left, Lexeme, Limits, Mode, Next, OnNext, Outcome, Passes, Place, Quiet, Reading, Reason, Stage, State, Stays, Symbols, Waiting, base, behind_given, behind_left, drive, eats, fails, feed, floor, followed, go_on, goes, in_segment, is_colons, is_idle, is_sane, is_top, led, noticed, on_said, on_scan, on_settled, place, reaches, run, run-append, run_on, said, settle, shut, symbol_waits, takes, then_run, token_of, turn, unsettled, uses, waits, waits_now, with_scan}
use Rattle.ion_tokens.specs.machine.Scanning as scanning
use Rattle.ion_tokens.specs.laws.Again.{blank_uses}
use Rattle.ion_tokens.proofs.runs.Runs.{feed_used, next_used}
use Rattle.ion_text.specs.laws.reading.complete.Found.{begun_stays, run_keeps}
use Rattle.ion_text.specs.laws.reading.complete.Fuel.{Twice, twice_fuel, used_then}
use Rattle.ion_text.specs.laws.reading.complete.Meets.{follows_as}
use Rattle.ion_text.proofs.Fronts.{quiet_within}

agree_less : (j k : ℕ) (w os : List ℕ) → j ≤ k → take k w ≡ take k os → take j w ≡ take j os
agree_less j k w os h e = sym (front w) ∙ (ap (take j) e ∙ front os)
  where
    front : (v : List ℕ) → take j (take k v) ≡ take j v
    front v = grind (arith, common_steps)

agree_behind : (a j : ℕ) (w os : List ℕ) → take (a + j) w ≡ take (a + j) os → take j (drop a w) ≡ take j (drop a os)
agree_behind a j w os e = sym (drop-take a j w) ∙ (ap (drop a) e ∙ drop-take a j os)

agree_length : (k : ℕ) (w os : List ℕ) → k ≤ length os → take k w ≡ take k os → k ≤ length w
agree_length k w os h e =
    let a = length-take-le k os h in
    let b : length (take k w) ≡ length (take k os) = ap (λ (v : List ℕ). length v) e in
    let c : length (take k w) ≤ length w = shorter k w in
    omega arith
  where
    shorter : (k : ℕ) (v : List ℕ) → length (take k v) ≤ length v
    shorter (suc k) (x ∷ v) = let i = shorter k v in omega arith
    shorter _ _ = omega arith

-- the octet behind so many
pub next_octet : (k : ℕ) (w os : List ℕ) → k < length os → take (k + 1) w ≡ take (k + 1) os → drop k w ≡ get_or os k 0 ∷ drop (k + 1) w
next_octet k w os h e =
    let long = agree_length (k + 1) w os (omega arith) e in
    let same : get_or w k 0 ≡ get_or os k 0 = sym (kept w) ∙ (ap (λ v. get_or v k 0) e ∙ kept os) in
    let one : suc k ≡ k + 1 = omega arith in
    cut w k (omega arith) ∙ (ap (λ o. o ∷ drop (suc k) w) same ∙ ap (λ j. get_or os k 0 ∷ drop j w) one)
  where
    kept : (v : List ℕ) → get_or (take (k + 1) v) k 0 ≡ get_or v k 0
    kept v = grind (arith, common_steps)

    cut : (v : List ℕ) (k : ℕ) → k < length v → drop k v ≡ get_or v k 0 ∷ drop (suc k) v
    cut [] k i = absurd (omega arith)
    cut (x ∷ v) zero i = refl
    cut (x ∷ v) (suc k) i = cut v k (omega arith)

module _ (g : Catalog) (l : Limits) where
  -- no octets lead a run from a state to itself
  pub passes_none : (m : State) (octets : List ℕ) → Passes g l m octets 0 m
  passes_none m octets w e = refl

  -- one behind the other
  pub passes_on : (m n p : State) (octets : List ℕ) (a b : ℕ) → Passes g l m octets a n → Passes g l n (drop a octets) b p → Passes g l m octets (a + b) p
  passes_on m n p octets a b h k = λ w e.
      h w (agree_less (a + 1) (a + b + 1) w octets (omega arith) e)
      ∙ (k (drop a w) (agree_behind a (b + 1) w octets (let i : a + b + 1 ≡ a + (b + 1) = omega arith in subst (λ (j : ℕ). take j w ≡ take j octets) i e))
      ∙ ap (run g l p.scan.used p) (behind w))
    where
      behind : (w : List ℕ) → drop b (drop a w) ≡ drop (a + b) w
      behind w = grind (arith, common_steps)

  -- octets that are used and give nothing
  pub passes_led : (m n : State) (octets : List ℕ) (count : ℕ) → count ≤ length octets → n.scan.used ≡ m.scan.used + count
      → LeadsTo g l m octets count n → Passes g l m octets count n
  passes_led m n octets count within counted e = λ w same.
      let front = agree_less count (count + 1) w octets (omega arith) same in
      let size = length-take-le count octets within in
      ap (run g l m.scan.used m) (sym (take-append-drop count w) ∙ ap (λ v. v ++ drop count w) front)
      ∙ (run-append g l m.scan.used n.scan.used (take count octets) (drop count w) (omega arith) m
      ∙ ap (λ r. then_run r (λ k. run g l n.scan.used k (drop count w))) e)

  -- octets that lead somewhere, and more of them behind these
  pub leads_on : (m n p : State) (octets : List ℕ) (a b : ℕ) → a ≤ length octets → n.scan.used ≡ m.scan.used + a → LeadsTo g l m octets a n
      → LeadsTo g l n (drop a octets) b p → LeadsTo g l m octets (a + b) p
  leads_on m n p octets a b within counted h k =
      let size = length-take-le a octets within in
      ap (run g l m.scan.used m) (sym (take-append-drop a (take (a + b) octets)) ∙ (ap (λ w. w ++ drop a (take (a + b) octets)) (front a b octets)
      ∙ ap (λ w. take a octets ++ w) (drop-take a b octets)))
      ∙ (run-append g l m.scan.used n.scan.used (take a octets) (take b (drop a octets)) (omega arith) m
      ∙ (ap (λ r. then_run r (λ q. run g l n.scan.used q (take b (drop a octets)))) h ∙ k))
    where
      front : (a b : ℕ) (w : List ℕ) → take a (take (a + b) w) ≡ take a w
      front a b w = grind (arith, common_steps)

  -- one octet that is used and gives nothing
  pub leads_one : (m n : State) (octets : List ℕ) → 0 < length octets → eats g l m (get_or octets 0 0) ≡ uses n → LeadsTo g l m octets 1 n
  leads_one m n [] some h = absurd (omega arith)
  leads_one m n (o ∷ os) some h = ap (run_on m.scan.used (λ j. eats g l j o) (λ j. led j)) h

  -- a run over octets behind it goes on from there
  pub passes_one : (m n : State) (octets : List ℕ) → 0 < length octets → n.scan.used ≡ m.scan.used + 1 → eats g l m (get_or octets 0 0) ≡ uses n
      → Passes g l m octets 1 n
  passes_one m n octets some counted h = passes_led m n octets 1 (omega arith) counted (leads_one m n octets some h)

  -- the octet there does the same from another state
  pub passes_same : (m n p : State) (octets : List ℕ) (k : ℕ) → k < length octets → n.scan.used ≡ p.scan.used → eats g l n (get_or octets k 0)
      ≡ eats g l p (get_or octets k 0) → Passes g l m octets k n → Passes g l m octets k p
  passes_same m n p octets k within counted same h = λ w e.
      let o = get_or octets k 0 in
      let next = next_octet k w octets within e in
      h w e
      ∙ (ap (run g l n.scan.used n) next
      ∙ (ap (run_on n.scan.used (λ j. eats g l j o) (λ j. run g l (n.scan.used + 1) j (drop (k + 1) w))) same
      ∙ (ap (λ j. run g l j p (o ∷ drop (k + 1) w)) counted
      ∙ ap (run g l p.scan.used p) (sym next))))

-- an octet behind a token is used where the scanner rests
blank_twice : (s : Known) (o : ℕ) → s.mode ≡ Mode.Blank → Twice s o
blank_twice s o e p = used_then o (feed p s o) (blank_uses p s o e)

base_open : (fs : List Frame) (ss : Symbols) (start lo : ℕ) → is_top fs ≡ false → base fs ss start lo ≡ start
base_open [] ss start lo h = absurd cc
base_open (f ∷ fs) ss start lo h = refl

reaches_open : (fs : List Frame) (r : Reading) (s : Known) → is_top fs ≡ false → reaches fs r s ≡ s.used - r.start
reaches_open [] r s h = absurd cc
reaches_open (f ∷ fs) r s h = refl

module _ (l : Limits) where
  -- where no token has begun that surely is one
  pub idle_noticed : (r : Reading) (s : Known) → is_idle s.mode ≡ true → is_top r.frames ≡ false → s.used ≤ l.item + r.start
      → noticed l r s ≡ uses (with_scan s r)
  idle_noticed r s idle inner room =
      ap (λ b. if shut r.now && not b then fails Reason.Unexpected else
      (if nat_le (reaches r.frames r s) l.item then uses (with_scan s r) else fails Reason.ItemTooLong)) idle
      ∙ (ap (λ b. if b then fails Reason.Unexpected else (if nat_le (reaches r.frames r s) l.item then uses (with_scan s r) else fails Reason.ItemTooLong))
      (never (shut r.now))
      ∙ ap (λ b. if b then uses (with_scan s r) else fails Reason.ItemTooLong)
      (le-leb (reaches r.frames r s) l.item (let e = reaches_open r.frames r s inner in omega arith)))
    where
      never : (b : Bool) → (b && not true) ≡ false
      never true = refl
      never false = refl

-- a test of what the scanner is in that fails behind an octet where it failed before it
module _ (test : Mode → Bool)
    (stays : (p : Place) (s t : Known) (o : ℕ) → is_sane s.mode ≡ true → feed p s o ≡ Next t → test s.mode ≡ false → test t.mode ≡ false) where
  -- holds before octets behind which it holds
  pub held_first : (p : Place) (os : List ℕ) (s t : Known) → is_sane s.mode ≡ true → test t.mode ≡ true → scanning.run p os s ≡ Next t → test s.mode ≡ true
  held_first p os s t sane held e =
      true_from_ne_false (test s.mode) (λ h. let n : true ≡ false = sym held ∙ run_keeps (λ m. test m ≡ false) stays p os s t sane h e in cc)

  module _ (g : Catalog) (l : Limits) (r : Reading) where
    -- so what is no reason to refuse where it holds is none behind any of them
    pub quiet_as : (most : ℕ) → ((s : Known) → test s.mode ≡ true → s.used ≤ most → noticed l r s ≡ uses (with_scan s r))
        → (p : Place) (os : List ℕ) (s t : Known) → is_sane s.mode ≡ true → test t.mode ≡ true → scanning.run p os s ≡ Next t
        → s.used + length os ≤ most → Quiet g l r p s os
    quiet_as most notices p [] s t sane held e room = tt
    quiet_as most notices p (o ∷ os) s t sane held e room =
        let f = followed (feed p s o) (λ k. scanning.run p os k) t e in
        let x = follows_as p s o (Next f.0) sane f.1 in
        let used = feed_used p s f.0 o f.1 in
        subst (λ x. OnNext x (λ t. (noticed l r t ≡ uses (with_scan t r)) × Quiet g l r p t os)) (sym f.1)
        (notices f.0 (held_first p os f.0 t x.0 held f.2) (omega (arith, used)), quiet_as most notices p os f.0 t x.0 held f.2 (omega (arith, used)))

    -- and what waits where it holds goes on to wait
    pub waits_as : ((s : Known) → test s.mode ≡ true → waits r (Next s) ≡ true) → (p : Place) (os : List ℕ) (s t : Known) → is_sane s.mode ≡ true
        → test t.mode ≡ true → scanning.run p os s ≡ Next t → Waiting g l r p s os
    waits_as wait p [] s t sane held e = tt
    waits_as wait p (o ∷ os) s t sane held e =
        let f = followed (feed p s o) (λ k. scanning.run p os k) t e in
        let x = follows_as p s o (Next f.0) sane f.1 in (
          ap (λ y. waits r y) f.1 ∙ wait f.0 (held_first p os f.0 t x.0 held f.2),
          subst (λ x. OnNext x (λ t. Waiting g l r p t os)) (sym f.1) (waits_as wait p os f.0 t x.0 held f.2),
        )

-- what is noticed where no token has begun that surely is one, as long as no more octets than these were used
abbrev pub NoticesNothing : Limits → Reading → ℕ → Type 0
NoticesNothing l r most = (s : Known) → is_idle s.mode ≡ true → s.used ≤ most → noticed l r s ≡ uses (with_scan s r)

-- where a container is open, that the item isn't too long yet
pub inner_notices : (l : Limits) (r : Reading) → is_top r.frames ≡ false → NoticesNothing l r (l.item + r.start)
inner_notices l r inner s idle room = idle_noticed l r s idle inner room

module _ (g : Catalog) (l : Limits) (r : Reading) where
  -- a blank behind what may be a symbol goes on to wait
  pub blank_waits : (h : Held) (end : ℕ) → r.now ≡ Stage.Pending h end → (p : Place) (os : List ℕ) (s t : Known) → is_sane s.mode ≡ true → is_idle t.mode ≡ true
      → scanning.run p os s ≡ Next t → Waiting g l r p s os
  blank_waits h end now = waits_as is_idle begun_stays g l r (λ k idle. ap (λ n. waits_now (is_top r.frames) n (Next k)) now ∙ idle)

  module _ (most : ℕ) (notices : NoticesNothing l r most) where
    -- where no token has surely begun behind octets, the reader has no reason to refuse, within a limit
    pub blank_quiet : (p : Place) (os : List ℕ) (s t : Known) → is_sane s.mode ≡ true → is_idle t.mode ≡ true → scanning.run p os s ≡ Next t
        → s.used + length os ≤ most → Quiet g l r p s os
    blank_quiet = quiet_as is_idle begun_stays g l r most notices

    module _ (s t : Known) (octets : List ℕ) (n : ℕ) (within : n ≤ length octets) (sane : is_sane s.mode ≡ true) (idle : is_idle t.mode ≡ true)
        (e : scanning.run (place r) (take n octets) s ≡ Next t) (room : s.used + n ≤ most) where
      blank_led : Stays g l r (place r) s (take n octets) → Passes g l (with_scan s r) octets n (with_scan t r)
      blank_led stays =
          let size = length-take-le n octets within in
          let used = next_used (place r) (take n octets) s t (sym e) in
          passes_led g l (with_scan s r) (with_scan t r) octets n within (omega arith)
          (drive g l (take n octets) s.used r s t e (blank_quiet (place r) (take n octets) s t sane idle e (omega arith)) stays)

      -- a blank where nothing waits
      pub passes_blank : settle g l r ≡ goes r → Passes g l (with_scan s r) octets n (with_scan t r)
      passes_blank still = blank_led (inl still)

      -- a blank behind what may be a symbol
      pub passes_waiting : (h : Held) (end : ℕ) → r.now ≡ Stage.Pending h end → Passes g l (with_scan s r) octets n (with_scan t r)
      passes_waiting h end now = blank_led (inr (blank_waits h end now (place r) (take n octets) s t sane idle e))

module _ (g : Catalog) (l : Limits) (r : Reading) (inner : is_top r.frames ≡ false) where
  -- where values or names may come
  pub calm_quiet : IsCalm r.now → (s : Known) → s.mode ≡ Mode.Blank → (octets : List ℕ) (n : ℕ) → n ≤ length octets → s.used + n ≤ l.item + r.start
      → Quiet g l r (place r) s (take n octets)
  calm_quiet calm s rests octets n within room =
      let size = length-take-le n octets within in
      let floor_is : floor s ≡ s.used = ap (λ m. scanning.start_of m s.start s.used) rests in
      let counts = base_open r.frames r.notes r.start (floor s) inner in
      quiet_within g l r (floor s) calm (place r) (take n octets) s (omega arith) (omega arith) (omega arith)

-- a token whose end the octet behind it shows, or its last
module _ (g : Catalog) (l : Limits) (r : Reading) where
  module _ (still : settle g l r ≡ goes r) (s k b : Known) (octets : List ℕ) (n : ℕ) (x : Lexeme) (c : Content) (q : Reading)
      (shown : n < length octets) (quiet : Quiet g l r (place r) s (take n octets)) (e : scanning.run (place r) (take n octets) s ≡ Next k)
      (says : said x.kind x.octets ≡ Ok c) (turns : turn g l r (token_of x c) ≡ goes q) where
    abbrev pub octet : ℕ
    octet = get_or octets n 0

    counted : k.used ≡ s.used + n
    counted =
        let size = length-take-le n octets (omega arith) in
        let used = next_used (place r) (take n octets) s k (sym e) in
        omega arith

    before : Passes g l (with_scan s r) octets n (with_scan k r)
    before =
        let size = length-take-le n octets (omega arith) in
        passes_led g l (with_scan s r) (with_scan k r) octets n (omega arith) counted
        (drive g l (take n octets) s.used r s k e quiet (inl still))

    abbrev again : State → Effect
    again = λ m. takes g l 2 m octet

    scans : (y : Outcome) → feed (place r) k octet ≡ y → eats g l (with_scan k r) octet ≡ on_scan g l again r y
    scans y f = go_on g l again r k (feed (place r) k octet) (unsettled k r (feed (place r) k octet)) (inr still) ∙ ap (on_scan g l again r) f

    -- a token that the octet behind it ends leads a run behind it
    pub passes_left : b.mode ≡ Mode.Blank → b.used ≡ s.used + n → feed (place r) k octet ≡ Left x b → Passes g l (with_scan s r) octets n (with_scan b q)
    passes_left blank used f =
        passes_same g l (with_scan s r) (with_scan k r) (with_scan b q) octets n shown (let i = counted in omega arith)
        (scans (Left x b) f
        ∙ (ap (λ a. on_said a (λ c. behind_left again b (turn g l r (token_of x c)))) says
        ∙ (ap (behind_left again b) turns ∙ twice_fuel g l (with_scan b q) octet (blank_twice b octet blank)))) before

    -- a token that its last octet ends leads a run behind it, if nothing is refused then
    pub passes_given : is_idle b.mode ≡ true → b.used ≡ s.used + n + 1 → (most : ℕ) → NoticesNothing l q most → b.used ≤ most
        → feed (place r) k octet ≡ Given x b → Passes g l (with_scan s r) octets (n + 1) (with_scan b q)
    passes_given idle used most notices room f =
        passes_on g l (with_scan s r) (with_scan k r) (with_scan b q) octets n 1 before
        (passes_octet (drop n octets) (let i = length_drop n octets in omega arith) octet (get_drop n octets shown)
        (scans (Given x b) f
        ∙ (ap (λ a. on_said a (λ c. behind_given l b (turn g l r (token_of x c)))) says
        ∙ (ap (behind_given l b) turns ∙ notices b idle room))))
      where
        passes_octet : (os : List ℕ) → 0 < length os → (o : ℕ) → get_or os 0 0 ≡ o → eats g l (with_scan k r) o ≡ uses (with_scan b q)
            → Passes g l (with_scan k r) os 1 (with_scan b q)
        passes_octet os some o e h = passes_one g l (with_scan k r) (with_scan b q) os some (let i = counted in omega (arith, used))
            (ap (eats g l (with_scan k r)) e ∙ h)

        length_drop : (n : ℕ) (os : List ℕ) → length (drop n os) ≡ length os - n
        length_drop n os = length-drop n os

        get_drop : (n : ℕ) (os : List ℕ) → n < length os → get_or (drop n os) 0 0 ≡ get_or os n 0
        get_drop n [] h = absurd (omega arith)
        get_drop zero (y ∷ os) h = refl
        get_drop (suc n) (y ∷ os) h = get_drop n os (omega arith)

module _ (g : Catalog) (l : Limits) (r : Reading) where
  -- `::` behind what may be a symbol: its last octet, where the scanner knows this before it
  pub passes_colons : (h : Held) (end : ℕ) → r.now ≡ Stage.Pending h end → (k b : Known) (octets : List ℕ) (x : Lexeme) (c : Content) (q : Reading)
      → 0 < length octets → feed (place r) k (get_or octets 0 0) ≡ Given x b → is_colons x.kind ≡ true → said x.kind x.octets ≡ Ok c → turn g l r (token_of x c)
      ≡ goes q
      → is_idle b.mode ≡ true → b.used ≡ k.used + 1 → (most : ℕ) → NoticesNothing l q most → b.used ≤ most → Passes g l (with_scan k r) octets 1 (with_scan b q)
  passes_colons h end now k b octets x c q some f colons says turns idle used most notices room =
      passes_one g l (with_scan k r) (with_scan b q) octets some used
      (go_on g l (λ m. takes g l 2 m (get_or octets 0 0)) r k (feed (place r) k (get_or octets 0 0)) (unsettled k r (feed (place r) k (get_or octets 0 0)))
      (inl waits_on)
      ∙ (ap (on_scan g l (λ m. takes g l 2 m (get_or octets 0 0)) r) f
      ∙ (ap (λ a. on_said a (λ c. behind_given l b (turn g l r (token_of x c)))) says
      ∙ (ap (behind_given l b) turns ∙ notices b idle room))))
    where
      waits_on : unsettled k r (feed (place r) k (get_or octets 0 0)) ≡ true
      waits_on = ap (λ y. unsettled k r y) f ∙ (ap (λ n. waits_now (is_top r.frames) n (Given x b) || in_segment n k) now ∙ ap (λ b. b || false) colons)

  -- an octet that shows that what may be a symbol is none before `::`
  pub passes_settled : (s : Known) (h : Held) (end : ℕ) (octets : List ℕ) (q : Reading) → 0 < length octets → r.now ≡ Stage.Pending h end
      → symbol_waits (feed (place r) s (get_or octets 0 0)) ≡ false → settle g l r ≡ goes q → settle g l q ≡ goes q → place q ≡ place r
      → Passes g l (with_scan s r) octets 0 (with_scan s q)
  passes_settled s h end octets q some now ends settles still same =
      passes_same g l (with_scan s r) (with_scan s r) (with_scan s q) octets 0 some refl (here ∙ sym there) (passes_none g l (with_scan s r) octets)
    where
      here : eats g l (with_scan s r) (get_or octets 0 0) ≡ on_scan g l (λ m. takes g l 2 m (get_or octets 0 0)) q (feed (place r) s (get_or octets 0 0))
      here =
          ap (λ b. if b then on_scan g l (λ m. takes g l 2 m (get_or octets 0 0)) r (feed (place r) s (get_or octets 0 0)) else on_settled g l
          (λ m. takes g l 2 m (get_or octets 0 0)) s (feed (place r) s (get_or octets 0 0)) (settle g l r)) (free r.now now ∙ ends)
          ∙ ap (on_settled g l (λ m. takes g l 2 m (get_or octets 0 0)) s (feed (place r) s (get_or octets 0 0))) settles
        where
          free : (n : Stage) → n ≡ Stage.Pending h end → (waits_now (is_top r.frames) n (feed (place r) s (get_or octets 0 0)) || in_segment n s)
              ≡ symbol_waits (feed (place r) s (get_or octets 0 0))
          free n e = ap (λ k. waits_now (is_top r.frames) k (feed (place r) s (get_or octets 0 0)) || in_segment k s) e
              ∙ none (symbol_waits (feed (place r) s (get_or octets 0 0)))
            where
              none : (b : Bool) → (b || false) ≡ b
              none true = refl
              none false = refl

      there : eats g l (with_scan s q) (get_or octets 0 0) ≡ on_scan g l (λ m. takes g l 2 m (get_or octets 0 0)) q (feed (place r) s (get_or octets 0 0))
      there = go_on g l (λ m. takes g l 2 m (get_or octets 0 0)) q s (feed (place q) s (get_or octets 0 0))
          (unsettled s q (feed (place q) s (get_or octets 0 0))) (inr still)
          ∙ ap (λ p. on_scan g l (λ m. takes g l 2 m (get_or octets 0 0)) q (feed p s (get_or octets 0 0))) same
