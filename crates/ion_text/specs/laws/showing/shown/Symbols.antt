-- Behind a symbol that no longer waits at the top level, a token has begun.
use Rattle.std.proofs.Common.{◌≡◌, ℕ, ◌+◌, List, [], ◌∷◌, ◌++◌, Bool, true, false, Result, Ok, Err, Option, Some, None, refl, sym, ap, ◌∙◌, subst, if◌then◌else◌, inl, inr}
use Rattle.ion_text.specs.Names.{Blob, Catalog, Clob, Content, Effect, Follows, Frame, Given, Held, Id, IsBody, IsWordBody, Known, Leading, Left, Lexeme, Limits, Long, Mark', Next, Number', Operator, Outcome, Place, Quoted, Reading, Reason, Refusal, Refused, Short, Slot, Stage, State, Symbols, TokenKind, Turn, TypedNull, Value, Word, at, begun_at, eats, fails, feed, gives, goes, held_word, id_of, in_segment, is_fresh, is_idle, is_keyword, is_name, is_quoting, is_sane, is_top, keyed, kind_named, late, leaves, long_waits, null_of, once_more, place, place_in, resolve, resolved, run, run_on, said, said_body, settle, settle_same, symbol_waits, takes, takes_colon, tells, token_at, token_of, turn, turn_now, under, uses, waits, waits_now}
use Rattle.ion_tokens.specs.laws.Follows.{feed_follows}
use Rattle.ion_text.specs.laws.reading.complete.Segments.{never}
use Rattle.ion_text.specs.laws.reading.sound.Held.{any_turn, map_turn, or_parts}
use Rattle.ion_text.specs.laws.reading.Effects.{GivesSo, LeavesSo, ScansSo, SettlesSo, takes_each}
use Rattle.ion_text.specs.laws.reading.sound.Spans.{IsClose, Spans, turn_spans}
use Rattle.ion_text.specs.laws.reading.sound.StandsOpen.{start_now, symbol_said}
use Rattle.ion_text.specs.laws.reading.sound.Steps.{After, Stood, eats_after, takes_after}
use Rattle.ion_text.specs.laws.showing.tokens.Cuts.{Keeps, feed_keeps}

-- what is no fresh reading

pending_unfresh : (start : ℕ) (c : List Slot) (fs : List Frame) (ss : Symbols) (h : Held) (end : ℕ) → is_fresh (at start c fs ss (Stage.Pending h end)) ≡ false
pending_unfresh start c [] [] h end = refl
pending_unfresh start c _ _ h end = refl

pub keyed_unfresh : (start : ℕ) (c : List Slot) (fs : List Frame) (ss : Symbols) (s : Option (List ℕ)) → is_fresh (at start c fs ss (Stage.Keyed s)) ≡ false
keyed_unfresh start c [] [] s = refl
keyed_unfresh start c _ _ s = refl

inside_unfresh : (r : Reading) → is_top r.frames ≡ false → is_fresh r ≡ false
inside_unfresh r h = go r.frames h
  where
    go : (fs : List Frame) → is_top fs ≡ false → is_fresh (at r.start r.context fs r.notes r.now) ≡ false
    go [] h = absurd cc
    go (f ∷ fs) h = refl

-- tokens that may be symbols

word_symbol : (octets : List ℕ) (id : Option ℕ) (c : Content) → IsWordBody octets id (Ok c) → symbol_said c ≡ true
word_symbol octets None c h = ap symbol_said h.0
word_symbol octets (Some id) c h = let e : c ≡ Id id = cc in ap symbol_said e

null_symbol : (k : Option _) (c : Content) → Ok c ≡ null_of k → symbol_said c ≡ true
null_symbol None c h = absurd cc
null_symbol (Some k) c h = let e : c ≡ TypedNull k = cc in ap symbol_said e

-- a struct's field name is looked for in a struct
name_inside : (fs : List Frame) (now : Stage) → is_name (place_in fs now) ≡ true → is_top fs ≡ false
name_inside [] now h = absurd cc
name_inside (f ∷ fs) now h = refl

module _ (g : Catalog) (l : Limits) where
  abbrev Unfresh : Turn → Type 0
  Unfresh t = Leading g l (λ n. is_fresh n ≡ false) t

  resolved_unfresh : (r : Result (Option (List ℕ)) Reason) (f : Option (List ℕ) → Turn) → ((s : Option (List ℕ)) → Unfresh (f s)) → Unfresh (resolved r f)
  resolved_unfresh (Ok s) f h = h s
  resolved_unfresh (Err e) f h = tt

  keyword_unfresh : (start : ℕ) (c : List Slot) (fs : List Frame) (w : List ℕ) (b : Bool)
      → Unfresh (if b then late Reason.KeywordAsName (keyed start c fs (Some w)) else goes (keyed start c fs (Some w)))
  keyword_unfresh start c fs w true = tt
  keyword_unfresh start c fs w false = keyed_unfresh start c fs [] (Some w)

  symbol_unfresh : (begin end start : ℕ) (c : List Slot) (fs : List Frame) (ss : Symbols) (said : Content) (now : Stage) → symbol_said said ≡ true
      → Unfresh (turn_now (under g l) (at start c fs ss now) (token_at begin end said) now)
  symbol_unfresh begin end start c fs ss (Word w) Stage.Ready h = pending_unfresh (begun_at start begin fs ss) c fs ss (held_word w) end
  symbol_unfresh begin end start c fs ss (Id id) Stage.Ready h =
      resolved_unfresh (resolve c id) _ (λ s. pending_unfresh (begun_at start begin fs ss) c fs ss (Held.Symbol s) end)
  symbol_unfresh begin end start c fs ss (Quoted w) Stage.Ready h = pending_unfresh (begun_at start begin fs ss) c fs ss (Held.Symbol (Some w)) end
  symbol_unfresh begin end start c fs ss (TypedNull k) Stage.Ready h = pending_unfresh (begun_at start begin fs ss) c fs ss (Held.Null k) end
  symbol_unfresh begin end start c fs ss (Word w) Stage.Name h = keyword_unfresh start c fs w (is_keyword w)
  symbol_unfresh begin end start c fs ss (Id id) Stage.Name h = resolved_unfresh (resolve c id) _ (λ s. keyed_unfresh start c fs [] s)
  symbol_unfresh begin end start c fs ss (Quoted w) Stage.Name h = keyed_unfresh start c fs [] (Some w)
  symbol_unfresh begin end start c fs ss (Short w) now h = absurd cc
  symbol_unfresh begin end start c fs ss (Long w) now h = absurd cc
  symbol_unfresh begin end start c fs ss (Number' w) now h = absurd cc
  symbol_unfresh begin end start c fs ss (Operator w) now h = absurd cc
  symbol_unfresh begin end start c fs ss (Clob w) now h = absurd cc
  symbol_unfresh begin end start c fs ss (Blob w) now h = absurd cc
  symbol_unfresh begin end start c fs ss (Mark' w) now h = absurd cc
  symbol_unfresh begin end start c fs ss _ _ h = tt

  -- a token that closes nothing ends no item in a container
  inside_open : (c : Content) (item start end : ℕ) (t : Turn) → (IsClose false c → ⊥) → Spans false c item start end t → Unfresh t
  inside_open c item start end (goes n) k (inl (inl h, from, to)) = inside_unfresh n h
  inside_open c item start end (goes n) k (inl (inr (h, new, ok), from, to)) = absurd (let x : false ≡ true = h in cc)
  inside_open c item start end (goes n) k (inr h) = absurd (k h.1)
  inside_open c item start end (gives v n) k h = absurd (k h.1)
  inside_open c item start end _ k h = tt

  -- behind a token with which an item ends, no colon may stand
  abbrev NoColon : Place → Lexeme → Turn → Type 0
  NoColon p x t = Leading g l (λ n. is_fresh n ≡ true → takes_colon p x.kind ≡ false) t

  turn_colon : (r : Reading) (x : Lexeme) (c : Content) → IsBody x.kind x.octets (Ok c) → NoColon (place r) x (turn g l r (token_of x c))
  turn_colon r x c b = go x.kind refl b
    where
      t : Turn
      t = turn g l r (token_of x c)

      none : Unfresh t → NoColon (place r) x t
      none h = map_turn g l (λ n. is_fresh n ≡ false) (λ n. is_fresh n ≡ true → takes_colon (place r) x.kind ≡ false) (λ n e f. absurd (never (is_fresh n) e f))
          t h

      symbol : symbol_said c ≡ true → NoColon (place r) x t
      symbol h = none (symbol_unfresh x.start x.end r.start r.context r.frames r.notes c r.now h)

      free : takes_colon (place r) x.kind ≡ false → NoColon (place r) x t
      free h = any_turn g l (λ n. is_fresh n ≡ true → takes_colon (place r) x.kind ≡ false) (λ n f. h) t

      name : (IsClose false c → ⊥) → (b : Bool) → is_name (place r) ≡ b → takes_colon (place r) x.kind ≡ b → NoColon (place r) x t
      name k false e f = free f
      name k true e f =
          let i = name_inside r.frames r.now e in
          none (inside_open c l.item (start_now r.now r.start x.start r.frames r.notes) x.end t k
          (subst (λ b. Spans b c l.item (start_now r.now r.start x.start r.frames r.notes) x.end t) i
          (turn_spans g l r (token_of x c) (λ h. absurd (never (is_top r.frames) i h)))))

      go : (k : TokenKind) → x.kind ≡ k → IsBody k x.octets (Ok c) → NoColon (place r) x t
      go TokenKind.Word e h = symbol (word_symbol x.octets (id_of x.octets) c h)
      go TokenKind.KindName e h = symbol (null_symbol (kind_named x.octets) c h)
      go TokenKind.QuotedSymbol e h = symbol (ap symbol_said h.0)
      go TokenKind.ShortString e h = name (λ i. subst (IsClose false) h.0 i) (is_name (place r)) refl (ap (takes_colon (place r)) e)
      go TokenKind.LongString e h = name (λ i. subst (IsClose false) h.0 i) (is_name (place r)) refl (ap (takes_colon (place r)) e)
      go _ e h = free (ap (takes_colon (place r)) e)

  -- where nothing is open, and the last token may have a colon behind it, a token has begun
  abbrev pub HasBegun : Known → Reading → Type 0
  HasBegun s r = is_fresh r ≡ true → s.colon ≡ true → is_idle s.mode ≡ false

  -- an octet begins one, or ends one
  abbrev BeginsOne : Outcome → Type 0
  BeginsOne (Next t) = is_idle t.mode ≡ false
  BeginsOne _ = Unit {0}

  abbrev pub StillAt : ℕ → Known → Reading → Type 0
  StillAt o s r = is_fresh r ≡ true → s.colon ≡ true → BeginsOne (feed (place r) s o)

  still_at : (o : ℕ) (s : Known) (r : Reading) → is_sane s.mode ≡ true → HasBegun s r → StillAt o s r
  still_at o s r sane h f c = go (feed (place r) s o) (feed_follows (place r) s o sane)
    where
      go : (x : Outcome) → Follows (place r) s.mode x → BeginsOne x
      go (Next t) k = k.1 (h f c)
      go _ k = tt

  -- what came of an octet
  abbrev pub StillBehind : ℕ → Effect → Type 0
  StillBehind o (uses m) = HasBegun m.scan m.reading
  StillBehind o (tells v m) = HasBegun m.scan m.reading
  StillBehind o (leaves v m) = StillAt o m.scan m.reading
  StillBehind o (fails e) = Unit {0}

  module _ (o : ℕ) where
    given_still : (s : Known) (t : Turn) → Leading g l (λ n. is_fresh n ≡ true → s.colon ≡ false) t
        → GivesSo g l (StillBehind o) (λ e. tt) (StillAt o) s t
    given_still s (goes r) h = λ k f c. absurd (never s.colon (h f) c)
    given_still s (gives v r) h = λ f c. absurd (never s.colon (h f) c)
    given_still s _ h = tt

    left_still : (s : Known) (t : Turn) → Leading g l (λ n. is_fresh n ≡ true → s.colon ≡ false) t
        → LeavesSo g l (StillBehind o) (λ e. tt) (StillAt o) s t
    left_still s (goes r) h = λ x c. absurd (never s.colon (h x) c)
    left_still s (gives v r) h = λ x c. absurd (never s.colon (h x) c)
    left_still s _ h = tt

    -- behind a token that is told where nothing is open no colon may stand
    pub colon_free : (r : Reading) (x : Lexeme) (t : Known) (c : Content) → t.colon ≡ takes_colon (place r) x.kind → said x.kind x.octets ≡ Ok c
        → Leading g l (λ n. is_fresh n ≡ true → t.colon ≡ false) (turn g l r (token_of x c))
    colon_free r x t c e f = map_turn g l (λ n. is_fresh n ≡ true → takes_colon (place r) x.kind ≡ false) (λ n. is_fresh n ≡ true → t.colon ≡ false)
        (λ n h i. e ∙ h i) (turn g l r (token_of x c)) (turn_colon r x c (said_body x.kind x.octets c f))

    scans_still : (s : Known) (r : Reading) → StillAt o s r → (x : Outcome) → feed (place r) s o ≡ x → Keeps (place r) s x
        → ScansSo g l (StillBehind o) (λ e. tt) (StillAt o) r x
    scans_still s r h (Next t) e k = λ j i c. subst BeginsOne e (h i (sym k.1 ∙ c))
    scans_still s r h (Given x t) e k = λ c i. given_still t (turn g l r (token_of x c)) (colon_free r x t c k.2 i)
    scans_still s r h (Left x t) e k = λ c i. left_still t (turn g l r (token_of x c)) (colon_free r x t c k.2 i)
    scans_still s r h (Refused n y) e k = tt

    -- what waited is settled by an octet that begins a token, or ends one
    settles_still : (s : Known) (p : Place) (t : Turn)
        → Leading g l (λ n. (place n ≡ p) × (is_fresh n ≡ true → s.colon ≡ true → BeginsOne (feed p s o))) t
        → SettlesSo g l (StillBehind o) (λ e. tt) (StillAt o) s (feed p s o) t
    settles_still s p (goes r) h =
        scans_still s r (subst (λ q. is_fresh r ≡ true → s.colon ≡ true → BeginsOne (feed q s o)) (sym h.0) h.1) (feed p s o)
        (ap (λ q. feed q s o) h.0) (subst (λ q. Keeps q s (feed p s o)) (sym h.0) (feed_keeps p s o))
    settles_still s p (gives v r) h = subst (λ q. is_fresh r ≡ true → s.colon ≡ true → BeginsOne (feed q s o)) (sym h.0) h.1
    settles_still s p _ h = tt

    symbol_begins : (x : Outcome) → symbol_waits x ≡ false → BeginsOne x
    symbol_begins (Next t) h = h
    symbol_begins _ h = tt

    long_begins : (top : Bool) (x : Outcome) → long_waits top x ≡ false → BeginsOne x
    long_begins top (Next t) h = (or_parts (is_idle t.mode) (is_quoting t.mode) h).0
    long_begins top _ h = tt

    abbrev SettledIn : Place → Known → Reading → Type 0
    SettledIn p s n = (place n ≡ p) × (is_fresh n ≡ true → s.colon ≡ true → BeginsOne (feed p s o))

    settling : (start : ℕ) (c : List Slot) (fs : List Frame) (ss : Symbols) (now : Stage) (s : Known) → StillAt o s (at start c fs ss now)
        → waits_now (is_top fs) now (feed (place_in fs now) s o) ≡ false
        → Leading g l (SettledIn (place_in fs now) s) (settle g l (at start c fs ss now))
    settling start c fs ss now s h w = go now refl
      where
        p : Place
        p = place_in fs now

        by : BeginsOne (feed p s o) → Leading g l (SettledIn p s) (settle g l (at start c fs ss now))
        by b = map_turn g l (λ n. (place n ≡ p) × (is_top n.frames ≡ is_top fs)) (SettledIn p s) (λ n e. (e.0, λ f i. b)) (settle g l (at start c fs ss now))
            (settle_same g l start c fs ss now)

        same : (n : Stage) → now ≡ n → settle g l (at start c fs ss n) ≡ goes (at start c fs ss n)
            → Leading g l (SettledIn p s) (settle g l (at start c fs ss now))
        same n e f = subst (Leading g l (SettledIn p s)) (sym (ap (λ m. settle g l (at start c fs ss m)) e ∙ f))
            (ap (place_in fs) (sym e), λ i k. h (ap (λ m. is_fresh (at start c fs ss m)) e ∙ i) k)

        go : (n : Stage) → now ≡ n → Leading g l (SettledIn p s) (settle g l (at start c fs ss now))
        go (Stage.Pending k end) e = by (symbol_begins (feed p s o) (sym (ap (λ m. waits_now (is_top fs) m (feed p s o)) e) ∙ w))
        go (Stage.Long v end) e = by (long_begins (is_top fs) (feed p s o) (sym (ap (λ m. waits_now (is_top fs) m (feed p s o)) e) ∙ w))
        go (Stage.LongName v) e = by (long_begins false (feed p s o) (sym (ap (λ m. waits_now (is_top fs) m (feed p s o)) e) ∙ w))
        go n e = same n e refl

    pub takes_still : (n : ℕ) (m : State) → StillAt o m.scan m.reading → StillBehind o (takes g l n m o)
    takes_still n m =
        takes_each g l (StillBehind o) (λ e. tt) (StillAt o) o
        (λ s r h e. scans_still s r h (feed (place r) s o) refl (feed_keeps (place r) s o))
        (λ s r h e. settles_still s (place r) (settle g l r)
        (settling r.start r.context r.frames r.notes r.now s h (or_parts (waits r (feed (place r) s o)) (in_segment r.now s) e).0)) n m

    pub eats_still : (m : State) → is_sane m.scan.mode ≡ true → HasBegun m.scan m.reading → StillBehind o (eats g l m o)
    eats_still m sane h = takes_still 3 m (still_at o m.scan m.reading sane h)

  -- in which octets end
  abbrev pub EndsStill : Result State Refusal → Type 0
  EndsStill (Ok n) = HasBegun n.scan n.reading
  EndsStill (Err e) = Unit {0}

  -- where a token has begun behind each symbol that no longer waits, one has behind a run too
  pub run_still : (os u : List ℕ) (vs : List Value) (to : ℕ) (m : State) → Stood g l u vs m → HasBegun m.scan m.reading → EndsStill (run g l to m os).now
  run_still [] u vs to m b h = h
  run_still (o ∷ os) u vs to m b h = step (λ xs n c i. run_still os (u ++ o ∷ []) xs (to + 1) n c i) (eats g l m o) (eats_after g l u vs m o b)
      (eats_still o m b.sane h)
    where
      Rest : Type 0
      Rest = (xs : List Value) (n : State) → Stood g l (u ++ o ∷ []) xs n → HasBegun n.scan n.reading → EndsStill (run g l (to + 1) n os).now

      once : Rest → (ws : List Value) (x : Effect) → After g l u ws o x → StillBehind o x → EndsStill (once_more to (λ n. run g l (to + 1) n os) x).now
      once rest ws (uses n) a i = rest ws n a i
      once rest ws (tells v n) a i = rest (ws ++ v ∷ []) n a i
      once rest ws _ a i = tt

      step : Rest → (x : Effect) → After g l u vs o x → StillBehind o x → EndsStill (run_on to (λ n. eats g l n o) (λ n. run g l (to + 1) n os) x).now
      step rest (uses n) a i = rest vs n a i
      step rest (tells v n) a i = rest (vs ++ v ∷ []) n a i
      step rest (leaves v n) a i = once rest (vs ++ v ∷ []) (eats g l n o) (takes_after g l u (vs ++ v ∷ []) o 3 n.scan n.reading a.0 a.1 a.2)
          (takes_still o 3 n i)
      step rest (fails e) a i = tt
