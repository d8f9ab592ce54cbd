-- No more octets are kept than an item may have.
use Rattle.std.proofs.Common.{◌≡◌, ℕ, ◌+◌, ◌-◌, ◌≤◌, Bool, true, false, ◌||◌, List, [], ◌∷◌, ◌++◌, length, Ok, Option, Some, None, refl, sym, ap, ◌∙◌, subst, arith, ◌⊎◌, inl, inr, if◌then◌else◌}
use Rattle.ion_text.specs.laws.reading.Effects.{GivesSo, LeavesSo, ScansSo, SettlesSo, takes_each}
use Rattle.std.proofs.lemmas.Bool.{cond_both}
use Rattle.ion_text.specs.Names.{Begun, Catalog, Content, Effect, Follows, Form, Frame, Given, IsBody, IsSteady, Known, Leading, Left, Lexeme, LexesTo, Limits, Mode, Next, Operator, Outcome, Place, Placed, Ran, Reading, Refused, Run, Slot, Spot, Stage, State, Style, Symbols, TokenKind, Turn, Value, at, begun, begun_in, behind, ended, feed, form_of, gives, goes, held_in, is_idle, is_long_begun, is_long_form, is_sane, is_sexp, is_top, leaves, longest_top, place, place_in, plain, reaches, run, said, said_body, settle, settle_same, takes, token_at, token_of, turn, turn_now, under, unkept}
use Rattle.ion_tokens.specs.laws.Follows.{feed_follows}
use Rattle.ion_tokens.proofs.foreseen.Reaches.{begun_stays}
use Rattle.ion_tokens.proofs.sound.Holds.{InMode}
use Rattle.ion_text.specs.laws.reading.complete.Quiet.{CalmNow}
use Rattle.ion_text.specs.laws.reading.sound.Held.{IsFirst, none_open}
use Rattle.ion_text.specs.laws.reading.sound.Quotes.{Fine, Finely, feed_fine}
use Rattle.ion_text.specs.laws.reading.sound.StandsOpen.{NowStands}
use Rattle.ion_text.specs.laws.reading.sound.Steps.{Stood, StoodBehind, begun_stood, run_ran}
use Rattle.ion_text.specs.machine.Ways.{SettledWay, ValueWay, settled_held, settled_text, settled_way, value_given}
use Rattle.ion_text.specs.laws.showing.shown.OpenRests.{start_before}
use Rattle.ion_text.specs.laws.showing.shown.Within.{EndsWithin, Within, begun_within}
use Rattle.ion_text.specs.laws.showing.tokens.Cuts.{OpenBehind, behind_tokens}

-- 1. Where no octet is awaited, the open token is in the open item.

-- where a `/` isn't counted, it isn't kept
slash_unkept : (m : Mode) → behind m ≤ unkept m
slash_unkept Mode.NumberSlash = omega arith
slash_unkept _ = omega arith

-- nothing is kept of quotes of which it isn't known yet what they open
quote_kept : (p : Place) (colon : Bool) (k : ℕ) (m : Mode) (kept : List ℕ) (start : ℕ) (since : List ℕ) → form_of m ≡ Form.Quote
    → InMode p colon k m kept start since → kept ≡ []
quote_kept p colon k Mode.Quote kept start since e h = h.is.1
quote_kept p colon k Mode.Quotes kept start since e h = h.is.1
quote_kept p colon k (Mode.Text Style.LongString w) kept start since e h = absurd cc
quote_kept p colon k _ kept start since e h = absurd cc

module _ (g : Catalog) (l : Limits) (u : List ℕ) (vs : List Value) (m : State) (b : Stood g l u vs m) (within : Within g l m) (looked : ℕ)
    (steady : IsSteady m.scan looked) where
  open m use {scan as s, reading as r}

  abbrev p : Place
  p = place m.reading

  abbrev ts : List Placed
  ts = b.front ++ b.item

  k : OpenBehind p s u ts []
  k = behind_tokens p s u ts [] b.scanned

  module _ (open' : is_idle s.mode ≡ false) where
    sizes : (length s.kept + behind s.mode + s.start ≤ s.used) × (s.start ≡ k.end + length k.fronted.blank)
    sizes =
        let begins = begun_stays s.mode s.start s.used open' in
        (omega (arith, steady.within, slash_unkept s.mode, begins), omega (arith, k.fronted.at, begins))

    abbrev token : Form → Begun
    token f = record { start = s.start; end = s.used - behind s.mode; form = f }

    seen : (P : Option Begun → Type 0) → P (begun_in s) → P (Some (token (form_of s.mode)))
    seen P h = subst (λ i. P (if i then None else Some (token (form_of s.mode)))) open' h

    -- as much of it is kept as counts, at most
    counted : (from : ℕ) → from ≤ s.start → (s.used - behind s.mode) - from ≤ l.item → length s.kept ≤ l.item
    counted from h fits = omega (arith, sizes.0, h, fits)

    -- where no item is open
    none_kept : b.item ≡ [] → length s.kept ≤ l.item
    none_kept none =
        let o : (r.frames ≡ []) × (r.notes ≡ []) × (r.now ≡ Stage.Ready) =
        none_open r.context r.frames r.notes r.now (subst (λ x. NowStands r.context r.frames r.notes x r.now) none b.stands) in
        let reach : longest_top r.start s.used Stage.Ready [] (begun_in s) (is_long_begun (begun_in s)) ≤ l.item =
        subst (λ n. longest_top r.start s.used n [] (begun_in s) (is_long_begun (begun_in s)) ≤ l.item) o.2
        (subst (λ n. longest_top r.start s.used r.now n (begun_in s) (is_long_begun (begun_in s)) ≤ l.item) o.1
        (subst (λ fs. reaches fs r s ≤ l.item) o.0 within.0)) in
        counted s.start (omega arith) (seen (λ x. longest_top r.start s.used Stage.Ready [] x (is_long_begun x) ≤ l.item) reach)

    -- the item begins no later than the token
    begins_before : (t : Placed) (us : List Placed) → b.item ≡ t ∷ us → r.start ≤ s.start
    begins_before t us e =
        let lexes = subst (λ x. LexesTo false 0 (u ++ []) (b.front ++ x) k.colon k.end (k.since ++ [])) e (k.lexes [] ([], refl)) in
        let first : t.lexeme.start ≡ r.start = subst (λ x. IsFirst x r.start) e b.begins in
        omega (arith, start_before b.front t us false 0 (u ++ []) k.colon k.end (k.since ++ []) lexes, first, sizes.1)

    module _ (before : r.start ≤ s.start) where
      ready_kept : (ss : Symbols) → longest_top r.start s.used Stage.Ready ss (Some (token (form_of s.mode))) (is_long_begun (Some (token (form_of s.mode)))) ≤
          l.item → length s.kept ≤ l.item
      ready_kept [] h = counted s.start (omega arith) h
      ready_kept (x ∷ ss) h = counted r.start before h

      long_kept : (w : List ℕ) (last : ℕ) (ss : Symbols) (f : Form) → form_of s.mode ≡ f → is_long_form f ≡ true
          → longest_top r.start s.used (Stage.Long w last) ss (Some (token f)) (is_long_begun (Some (token f))) ≤ l.item → length s.kept ≤ l.item
      long_kept w last ss Form.Quote e q h = omega (arith, ap length (quote_kept p k.colon k.end s.mode s.kept s.start k.since e k.holds.mode))
      long_kept w last ss Form.Long e q h = counted r.start before h
      long_kept w last ss Form.Other e q h = absurd cc

      top_kept : (n : Stage) (ss : Symbols) → CalmNow n s.mode
          → longest_top r.start s.used n ss (Some (token (form_of s.mode))) (is_long_begun (Some (token (form_of s.mode)))) ≤ l.item → length s.kept ≤ l.item
      top_kept Stage.Ready ss c h = ready_kept ss h
      top_kept (Stage.Pending x last) ss c h = absurd (let n : false ≡ true = sym open' ∙ c in cc)
      top_kept (Stage.Long w last) ss c h = long_kept w last ss (form_of s.mode) refl (sym (ap (λ i. i || is_long_form (form_of s.mode)) open') ∙ c) h
      top_kept _ ss c h = absurd c

      some_kept : (fs : List Frame) → r.frames ≡ fs → length s.kept ≤ l.item
      some_kept (f ∷ fs) e = let h = subst (λ x. reaches x r s ≤ l.item) e within.0 in omega (arith, h, sizes.0, before)
      some_kept [] e =
          top_kept r.now r.notes (within.1 (ap is_top e))
          (seen (λ x. longest_top r.start s.used r.now r.notes x (is_long_begun x) ≤ l.item) (subst (λ fs. reaches fs r s ≤ l.item) e within.0))

    open_kept : length s.kept ≤ l.item
    open_kept = go b.item refl
      where
        go : (us : List Placed) → b.item ≡ us → length s.kept ≤ l.item
        go [] e = none_kept e
        go (t ∷ us) e = some_kept (begins_before t us e) r.frames refl

  stood_kept : held_in s ≤ l.item
  stood_kept = cond_both (is_idle s.mode) 0 (length s.kept) (λ n. n ≤ l.item) (λ e. omega arith) open_kept

-- 2. Where an octet is awaited, the scanner knows what it knew before it, or nothing is kept.

sexp_open : (fs : List Frame) (now : Stage) → is_sexp (place_in fs now) ≡ true → is_top fs ≡ false
sexp_open [] now h = absurd cc
sexp_open (f ∷ fs) now h = refl

operator_says : (x : Lexeme) (c : Content) → x.kind ≡ TokenKind.Operator → said x.kind x.octets ≡ Ok c → c ≡ Operator x.octets
operator_says x c k e = let h : IsBody TokenKind.Operator x.octets (Ok c) = subst (λ y. IsBody y x.octets (Ok c)) k (said_body x.kind x.octets c e) in h.0

idle_held : (s : Known) → is_idle s.mode ≡ true → held_in s ≡ 0
idle_held s e = ap (λ (i : Bool). if i then 0 else length s.kept) e

module _ (g : Catalog) (l : Limits) where
  -- a value of the top level is given where no container is open
  abbrev TopGives : List Frame → Turn → Type 0
  TopGives fs (gives v n) = is_top fs ≡ true
  TopGives fs _ = Unit {0}

  value_top : (spot : Spot) (v : Value) (fs : List Frame) (t : Turn) → ValueWay (under g l) spot v fs t → TopGives fs t
  value_top spot v _ _ (value_given fits) = refl
  value_top spot v _ _ _ = tt

  settled_top : (start : ℕ) (c : List Slot) (fs : List Frame) (ss : Symbols) (now : Stage) → TopGives fs (settle g l (at start c fs ss now))
  settled_top start c fs ss now = by fs now _ (settled_way g l start c fs ss now)
    where
      by : (fs : List Frame) (now : Stage) (t : Turn) → SettledWay g l start c ss fs now t → TopGives fs t
      by _ _ _ (settled_held fs h end q t flat way) = value_top _ _ fs t way
      by _ _ _ (settled_text fs w end t way) = value_top _ _ fs t way
      by _ _ _ _ = tt

  -- in a container it stays open, and gives nothing
  abbrev StaysInside : Turn → Type 0
  StaysInside (goes n) = is_top n.frames ≡ false
  StaysInside (gives v n) = ⊥
  StaysInside _ = Unit {0}

  ended_inside : (spot : Spot) (fs : List Frame) (v : Value) → is_top fs ≡ false → StaysInside (ended (under g l) spot fs v)
  ended_inside spot [] v h = absurd cc
  ended_inside spot (Frame.Fields ss ms ∷ fs) v h = tt
  ended_inside spot _ v h = refl

  operator_inside : (begin end start : ℕ) (c : List Slot) (fs : List Frame) (ss : Symbols) (w : List ℕ) (now : Stage) → is_top fs ≡ false
      → StaysInside (turn_now (under g l) (at start c fs ss now) (token_at begin end (Operator w)) now)
  operator_inside begin end start c fs ss w Stage.Ready h = ended_inside _ fs _ h
  operator_inside begin end start c fs ss w _ h = tt

  module _ (first : Known) where
    abbrev NoneOrFirst : Known → Type 0
    NoneOrFirst s = (held_in s ≡ 0) ⊎ (s ≡ first)

    abbrev KeptTop : Known → Reading → Type 0
    KeptTop s r = is_top r.frames ≡ true → NoneOrFirst s

    abbrev KeptBehind : Effect → Type 0
    KeptBehind (leaves v m) = NoneOrFirst m.scan
    KeptBehind _ = Unit {0}

    -- what is known where the octet comes again
    abbrev Stands : Known → Reading → Type 0
    Stands s r = (is_sane s.mode ≡ true) × Fine s × KeptTop s r

    given_kept : (s : Known) (t : Turn) → GivesSo g l KeptBehind (λ e. tt) Stands s t
    given_kept s (goes r) = λ k. tt
    given_kept s _ = tt

    abbrev LeftKept : Known → Turn → Type 0
    LeftKept s t = LeavesSo g l KeptBehind (λ e. tt) Stands s t

    -- behind a token that was left none is open
    left_idle : (s : Known) (t : Turn) → is_sane s.mode ≡ true → Fine s → held_in s ≡ 0 → LeftKept s t
    left_idle s (goes r) sane fine h = (sane, fine, λ _. inl h)
    left_idle s (gives v r) sane fine h = inl h
    left_idle s _ sane fine h = tt

    -- or it is an operator in an s-expression
    left_inside : (s : Known) (t : Turn) → is_sane s.mode ≡ true → Fine s → StaysInside t → LeftKept s t
    left_inside s (goes r) sane fine h = (sane, fine, λ e. absurd (let n : true ≡ false = sym e ∙ h in cc))
    left_inside s (gives v r) sane fine h = absurd h
    left_inside s _ sane fine h = tt

    module _ (r : Reading) (p : Place) (inside : is_sexp p ≡ true → is_top r.frames ≡ false) where
      left_kept : (m : Mode) (x : Lexeme) (s : Known) → Follows p m (Left x s) → Finely m (Left x s) → (c : Content) → said x.kind x.octets ≡ Ok c
          → LeftKept s (turn g l r (token_of x c))
      left_kept m x s fo fi c e = by fi.4 (is_sexp p) refl
        where
          idle : is_idle s.mode ≡ true → LeftKept s (turn g l r (token_of x c))
          idle i = left_idle s (turn g l r (token_of x c)) fi.3 fi.0 (idle_held s i)

          by : (is_idle s.mode ≡ true) ⊎ (x.kind ≡ TokenKind.Operator) → (b : Bool) → is_sexp p ≡ b → LeftKept s (turn g l r (token_of x c))
          by (inl i) b q = idle i
          by (inr k) false q = idle (fo.0 q)
          by (inr k) true q =
              left_inside s (turn g l r (token_of x c)) fi.3 fi.0
              (subst (λ y. StaysInside (turn g l r (token_of x y))) (sym (operator_says x c k e))
              (operator_inside x.start x.end r.start r.context r.frames r.notes x.octets r.now (inside q)))

      scans_kept : (m : Mode) (x : Outcome) → Follows p m x → Finely m x → ScansSo g l KeptBehind (λ e. tt) Stands r x
      scans_kept m (Next s) fo fi = λ k. tt
      scans_kept m (Given x s) fo fi = λ c e. given_kept s (turn g l r (token_of x c))
      scans_kept m (Left x s) fo fi = left_kept m x s fo fi
      scans_kept m (Refused n e) fo fi = tt

    settles_kept : (s : Known) (r : Reading) → KeptTop s r → (x : Outcome) → Follows (place r) s.mode x → Finely s.mode x → (t : Turn)
        → Leading g l (λ n. (place n ≡ place r) × (is_top n.frames ≡ is_top r.frames)) t → TopGives r.frames t
        → SettlesSo g l KeptBehind (λ e. tt) Stands s x t
    settles_kept s r kept x fo fi (goes n) same top = scans_kept n (place r) (λ h. same.1 ∙ sexp_open r.frames r.now h) s.mode x fo fi
    settles_kept s r kept x fo fi (gives v n) same top = kept top
    settles_kept s r kept x fo fi _ same top = tt

    takes_kept : (n : ℕ) (m : State) (o : ℕ) → is_sane m.scan.mode ≡ true → Fine m.scan → KeptTop m.scan m.reading → KeptBehind (takes g l n m o)
    takes_kept n m o sane fine kept =
        takes_each g l KeptBehind (λ e. tt) Stands o
        (λ s r h e. scans_kept r (place r) (λ h. sexp_open r.frames r.now h) s.mode (feed (place r) s o) (feed_follows (place r) s o h.0)
        (feed_fine (place r) s o h.1))
        (λ s r h e. settles_kept s r h.2 (feed (place r) s o) (feed_follows (place r) s o h.0) (feed_fine (place r) s o h.1) (settle g l r)
        (settle_same g l r.start r.context r.frames r.notes r.now) (settled_top r.start r.context r.frames r.notes r.now)) n m (sane, fine, kept)

  -- 3. What is held stands for octets.

  -- behind octets of which none is refused
  led_stood : (u : List ℕ) (s : List (Value × ℕ)) (m : State) → run g l 0 begun u ≡ record { given = s; now = Ok m } → Stood g l u (plain s) m
  led_stood u s m h = subst (StoodBehind g l u []) h (run_ran g l u [] [] 0 begun (begun_stood g l))

  led_within : (u : List ℕ) (s : List (Value × ℕ)) (m : State) → run g l 0 begun u ≡ record { given = s; now = Ok m } → Within g l m
  led_within u s m h = subst (λ (x : Run). EndsWithin g l x.now) h (begun_within g l u)

  led_kept : (u : List ℕ) (s : List (Value × ℕ)) (m : State) (looked : ℕ) → run g l 0 begun u ≡ record { given = s; now = Ok m } → IsSteady m.scan looked
      → held_in m.scan ≤ l.item
  led_kept u s m looked h steady = let b = led_stood u s m h in stood_kept g l u (plain s) m b (led_within u s m h) looked steady

  pub ran_kept : (u : List ℕ) (s : List (Value × ℕ)) (m : State) (awaited : Option ℕ) (looked : ℕ) → Ran g l u s m awaited → IsSteady m.scan looked
      → held_in m.scan ≤ l.item
  ran_kept u s m None looked h steady = led_kept u s m looked h steady
  ran_kept u s m (Some o) looked h steady = elim left [
    | inl e ↦ omega (arith, e)
    | inr e ↦ subst (λ k. held_in k ≤ l.item) (sym e) (led_kept u h.given h.before looked h.ran (subst (λ k. IsSteady k looked) e steady))
  ]
    where
      b : Stood g l u (plain h.given) h.before
      b = led_stood u h.given h.before h.ran

      left : NoneOrFirst h.before.scan m.scan
      left = subst (KeptBehind h.before.scan) h.left (takes_kept h.before.scan 3 h.before o b.sane b.fine (λ e. inr refl))
