-- Octets that a reader without values hands to the scanner at once.
use Rattle.std.proofs.Common.{◌≡◌, ◌≢◌, ℕ, ◌+◌, ◌<◌, ◌≤◌, true, false, List, [], length, get_or, Result, Ok, Err, refl, ap, sym, ◌∙◌, subst, arith}
use Rattle.ion_text.specs.Names.{Catalog, DidMeet, DidTake, Event, Frame, Given, Holds, IsBehind, IsCalm, IsMet, Known, Left, Limits, MeetsWith, Memory, Met, Next, Outcome, Place, Reached, Reading, Reason, Refusal, Refused, Symbols, Taken, TextWalk, base, comes_again, fails, floor, is_left, on_scan, place, run, scanned, state_of, takes, told, with_scan, worse}
use Rattle.ion_tokens.specs.machine.Scanning as scanning
use Rattle.ion_tokens.proofs.runs.Runs.{given_used, left_used, next_used}
use Rattle.ion_text.proofs.Fronts.{again_leaves_front, again_refused_front, again_tells_front, again_uses_front, late_front, leaves_front, refused_front, tells_front, uses_front}
use Rattle.ion_text.proofs.Taking.{take_behind, take_worse}

-- how many octets are used

used_by : (p : Place) (os : List ℕ) (s now : Known) (x : Outcome) → scanning.run p os s ≡ x → IsBehind x now → is_left x ≡ false → 0 < length os
    → (s.used < now.used) × (now.used ≤ s.used + length os)
used_by p os s now (Next t) e b f some =
    let u = next_used p os s t (sym e) in
    let m = ap (λ (k : Known). k.used) b in
    (omega arith, omega arith)
used_by p os s now (Given y t) e b f some =
    let u = given_used p os s t y (sym e) in
    let m = ap (λ (k : Known). k.used) b in
    (omega (arith, u.0, u.1), omega (arith, u.0, u.1))
used_by p os s now (Left y t) e b f some = absurd cc
used_by p os s now (Refused n y) e b f some = absurd b

left_by : (p : Place) (os : List ℕ) (s now : Known) (x : Outcome) → scanning.run p os s ≡ x → IsBehind x now → is_left x ≡ true
    → now.used < s.used + length os
left_by p os s now (Left y t) e b f =
    let u = left_used p os s t y (sym e) in
    let m = ap (λ (k : Known). k.used) b in
    omega (arith, u.0, u.1)
left_by p os s now (Refused n y) e b f = absurd b
left_by p os s now _ e b f = absurd cc

module _ (p : Place) (os : List ℕ) (s : Known) (y : Met) (mid : TextWalk) (count : ℕ) (m : IsMet (scanning.run p os s) y mid)
    (u : (scanned mid.scanner).used ≡ s.used + count) where
  -- where none comes again, some are
  pub used_within : comes_again y ≡ false → 0 < length os → (0 < count) × (count ≤ length os)
  used_within f some =
      let h = used_by p os s (scanned mid.scanner) (scanning.run p os s) refl m.0 (m.1 ∙ f) some in
      (omega (arith, h.0, u), omega (arith, h.1, u))

  -- the one that comes again isn't
  pub left_within : comes_again y ≡ true → count < length os
  left_within f =
      let h = left_by p os s (scanned mid.scanner) (scanning.run p os s) refl m.0 (m.1 ∙ f) in
      omega (arith, h, u)

module _ {V : Type 0} (leads : V → Event → V → Type 0) (g : Catalog) (l : Limits) (es : List Event) (q : Reading) (calm : IsCalm q.now) (s : Known)
    (piece : List ℕ) (high : floor s ≤ s.used) (room : s.used + length piece ≤ l.item + base q.frames q.notes q.start (floor s)) (some : 0 < length piece)
    (p : Place) (here : p ≡ place q) where
  came : scanning.run (place q) piece s ≡ scanning.run p piece s
  came = ap (λ p. scanning.run p piece s) (sym here)

  abbrev Met_it : Met → TextWalk → V → V → Type 0
  Met_it y mid a b = DidMeet leads es (λ again. on_scan g l again q (scanning.run p piece s)) (Ok y) mid a b

  module _ (y : Met) (mid : TextWalk) (count : ℕ) (a b : V) (d : Met_it y mid a b) (m : IsMet (scanning.run p piece s) y mid)
      (u : (scanned mid.scanner).used ≡ s.used + count) where
    -- they are used
    pub uses_reached : y ≡ Met.Uses → Reached leads es g l s.used (with_scan s q) piece count Taken.Uses mid a b
    uses_reached is =
        let h = subst (λ (y : Met). Met_it y mid a b) is d in (
          h.0,
          h.1,
          uses_front g l q calm s piece high room some _ (scanned mid.scanner) count (state_of mid h.0 h.1) came m.0 (m.1 ∙ ap comes_again is) u h.2,
          h.3,
        )

    -- the last of them ends a value
    pub tells_reached : y ≡ Met.Tells → Reached leads es g l s.used (with_scan s q) piece count Taken.Tells mid a b
    tells_reached is =
        let h = subst (λ (y : Met). Met_it y mid a b) is d in (
          h.0,
          tells_front g l q calm s piece high room some _ (scanned mid.scanner) count h.0 (state_of mid [] []) came m.0 (m.1 ∙ ap comes_again is) u h.1,
          h.2,
        )

    -- the one behind them shows the end of one
    pub leaves_reached : y ≡ Met.Leaves → Reached leads es g l s.used (with_scan s q) piece count Taken.Leaves mid a b
    leaves_reached is =
        let h = subst (λ (y : Met). Met_it y mid a b) is d in (
          h.0,
          leaves_front g l q calm s piece high room some _ (scanned mid.scanner) count h.0 (state_of mid [] []) came m.0 (m.1 ∙ ap comes_again is) u h.1,
          h.2,
        )

  -- they are refused
  pub refused_reached : (refusal : Refusal) (mid : TextWalk) (a b : V) → MeetsWith leads es g l q (scanning.run p piece s) (Err refusal) mid a b
      → refusal.reason ≢ Memory → run g l s.used (with_scan s q) piece ≡ record { given = []; now = Err refusal }
  refused_reached refusal mid a b h other =
      refused_front g l q calm s piece high room some (scanning.run p piece s) refusal came (h other).0 (h other).1

  -- the one behind them comes again
  module _ (y : Met) (mid : TextWalk) (count : ℕ) (a m : V) (d : Met_it y mid a m) (met_so : IsMet (scanning.run p piece s) y mid)
      (u : (scanned mid.scanner).used ≡ s.used + count) (same_catalog : mid.catalog.now ≡ g) (same_limits : mid.limits ≡ l)
      (result : Result Taken Reason) (new : TextWalk) (b : V)
      (behind : (fs : List Frame) (ss : Symbols) → Holds mid fs ss →
      DidTake leads (told fs ss) (takes mid.catalog.now mid.limits 2 (state_of mid fs ss) (get_or piece count 0)) result new m b) where
    module _ (is : y ≡ Met.Again) where
      met_it : Met_it Met.Again mid a m
      met_it = subst (λ (y : Met). Met_it y mid a m) is d

      did : (t : Result Taken Reason) → result ≡ t
          → DidTake leads es (takes mid.catalog.now mid.limits 2 (state_of mid met_it.0 met_it.1) (get_or piece count 0)) t new a b
      did t i =
          let h = met_it in
          subst (λ (t : Result Taken Reason). DidTake leads es (takes mid.catalog.now mid.limits 2 (state_of mid h.0 h.1) (get_or piece count 0)) t new a b) i
          (take_behind leads es (told h.0 h.1) (takes mid.catalog.now mid.limits 2 (state_of mid h.0 h.1) (get_or piece count 0)) result new a m b h.3.hears
          (behind h.0 h.1 h.3.holds))

      left : is_left (scanning.run p piece s) ≡ true
      left = met_so.1 ∙ ap comes_again is

      -- and is used
      pub again_uses_reached : result ≡ Ok Taken.Uses → Reached leads es g l s.used (with_scan s q) piece (count + 1) Taken.Uses new a b
      again_uses_reached i =
          let h = met_it in
          let j = did (Ok Taken.Uses) i in (
            j.0,
            j.1,
            again_uses_front g l q calm s piece high room some (scanning.run p piece s) (scanned mid.scanner) count came met_so.0 left u
                (state_of mid h.0 h.1) mid.catalog.now mid.limits same_catalog same_limits h.2 (state_of new j.0 j.1) j.2,
            j.3,
          )

      -- and ends a value
      pub again_tells_reached : result ≡ Ok Taken.Tells → Reached leads es g l s.used (with_scan s q) piece (count + 1) Taken.Tells new a b
      again_tells_reached i =
          let h = met_it in
          let j = did (Ok Taken.Tells) i in (
            j.0,
            again_tells_front g l q calm s piece high room some (scanning.run p piece s) (scanned mid.scanner) count came met_so.0 left u
                (state_of mid h.0 h.1) mid.catalog.now mid.limits same_catalog same_limits h.2 j.0 (state_of new [] []) j.1,
            j.2,
          )

      -- and shows the end of one
      pub again_leaves_reached : result ≡ Ok Taken.Leaves → Reached leads es g l s.used (with_scan s q) piece count Taken.Leaves new a b
      again_leaves_reached i =
          let h = met_it in
          let j = did (Ok Taken.Leaves) i in (
            j.0,
            again_leaves_front g l q calm s piece high room some (scanning.run p piece s) (scanned mid.scanner) count came met_so.0 left u
                (state_of mid h.0 h.1) mid.catalog.now mid.limits same_catalog same_limits h.2 j.0 (state_of new [] []) j.1,
            j.2,
          )

      -- and is refused
      pub again_refused_reached : (offset : ℕ) (reason : Reason) → offset ≡ (scanned mid.scanner).used + 1 → result ≡ Err reason → reason ≢ Memory
          → run g l s.used (with_scan s q) piece ≡ record { given = []; now = Err (record { offset = offset; reason = reason }) }
      again_refused_reached offset reason o i other =
          let h = met_it in
          again_refused_front g l q calm s piece high room some (scanning.run p piece s) (scanned mid.scanner) count came met_so.0 left u
          (state_of mid h.0 h.1) mid.catalog.now mid.limits same_catalog same_limits h.2 offset reason o (did (Err reason) i other)

    -- behind a late refusal it is refused for the smaller reason
    pub late_reached : (offset : ℕ) (reason cause : Reason) → offset ≡ (scanned mid.scanner).used + 1 → y ≡ Met.Late reason → cause ≡ worse reason result
        → cause ≢ Memory → run g l s.used (with_scan s q) piece ≡ record { given = []; now = Err (record { offset = offset; reason = cause }) }
    late_reached offset reason cause o is w other =
        let h = subst (λ (y : Met). Met_it y mid a m) is d in
        late_front g l q calm s piece high room some (scanning.run p piece s) (scanned mid.scanner) count came met_so.0 (met_so.1 ∙ ap comes_again is) u
        (state_of mid h.0 h.1) mid.catalog.now mid.limits same_catalog same_limits offset reason cause o h.2
        (take_worse leads (told h.0 h.1) reason (takes mid.catalog.now mid.limits 2 (state_of mid h.0 h.1) (get_or piece count 0)) result new m b
        (behind h.0 h.1 h.3.holds) (λ x. other (w ∙ x)) ∙ ap fails (sym w))
