-- An octet that is left is taken up at most twice more, so that three tries are enough.
use Rattle.std.proofs.Common.{◌≡◌, ℕ, suc, Bool, true, false, refl, sym, ap, subst, Result, Ok, Err, if◌then◌else◌, ◌⊎◌, inl, inr}
use Rattle.ion_text.specs.laws.reading.Effects.{noticed_each, said_each, worse_each}
use Rattle.std.proofs.lemmas.Bool.{cond_both}
use Rattle.ion_text.specs.Names.{Catalog, Content, Effect, Given, IsUsed, Known, LeavesIn, Left, LeftIn, Lexeme, Limits, Mode, Next, Outcome, Place, Reading, Reason, Refused, Run, State, TokenKind, Turn, behind_given, behind_left, eats, feed, goes, is_idle, late, leaves, noticed, on_octet, on_said, on_scan, on_settled, once_more, or_worse, place, run_on, said, settle, takes, token_of, turn, unsettled, with_scan}
use Rattle.ion_tokens.specs.laws.Again as again
use Rattle.ion_tokens.specs.laws.Again.{blank_uses, slash_uses, word_leaves}
use Rattle.ion_text.specs.laws.reading.sound.Quotes.{Fine, Finely, feed_fine}

-- the octet is used from here in each place
abbrev pub UsedHere : Known → ℕ → Type 0
UsedHere s o = (p : Place) → IsUsed (feed p s o)

-- it is used, or left where it is used next
abbrev pub UsedThen : ℕ → Outcome → Type 0
UsedThen o (Left x t) = UsedHere t o
UsedThen o _ = Unit {0}

-- it is used, or left once more
abbrev pub Twice : Known → ℕ → Type 0
Twice s o = (p : Place) → UsedThen o (feed p s o)

-- what comes of an octet that ended a token before it
abbrev pub Leaving : ℕ → Outcome → Type 0
Leaving o (Left x s) = (UsedHere s o ⊎ (x.kind ≡ TokenKind.Operator)) × Twice s o
Leaving o _ = Unit {0}

pub used_then : (o : ℕ) (x : Outcome) → IsUsed x → UsedThen o x
used_then o (Left x t) u = absurd u
used_then o _ u = tt

used_twice : (s : Known) (o : ℕ) → UsedHere s o → Twice s o
used_twice s o h p = used_then o (feed p s o) (h p)

word_twice : (s : Known) (o : ℕ) → s.mode ≡ Mode.Word → Twice s o
word_twice s o e p = go (feed p s o) refl
  where
    go : (x : Outcome) → feed p s o ≡ x → UsedThen o x
    go (Left x t) f = λ q. blank_uses q t o (word_leaves p s t o x e f)
    go _ f = tt

by_mode : (s : Known) (x : Lexeme) (o : ℕ) → LeftIn o s.mode → (is_idle s.mode ≡ true) ⊎ (x.kind ≡ TokenKind.Operator) → Leaving o (Left x s)
by_mode s x o = go s.mode refl
  where
    once : UsedHere s o → Leaving o (Left x s)
    once f = (inl f, used_twice s o f)

    go : (m : Mode) → s.mode ≡ m → LeftIn o m → (is_idle m ≡ true) ⊎ (x.kind ≡ TokenKind.Operator) → Leaving o (Left x s)
    go Mode.Blank e h i = once (λ p. blank_uses p s o e)
    go Mode.Slash e h i = once (λ p. slash_uses p s o e h)
    go Mode.Word e h (inl i) = absurd cc
    go Mode.Word e h (inr i) = (inr i, word_twice s o e)
    go _ e h i = absurd h

-- an octet that is left is used next, or behind an operator left once more at most
pub feed_leaves : (p : Place) (s : Known) (o : ℕ) → Fine s → Leaving o (feed p s o)
feed_leaves p s o f = go (feed p s o) (again.feed_leaves p s o) (feed_fine p s o f)
  where
    go : (x : Outcome) → LeavesIn o x → Finely s.mode x → Leaving o x
    go (Left x t) h k = by_mode t x o h k.4
    go _ h k = tt

module _ (g : Catalog) (l : Limits) where
  -- where the octet is used, it isn't taken up again
  scan_used : (a b : State → Effect) (r : Reading) (x : Outcome) → IsUsed x → on_scan g l a r x ≡ on_scan g l b r x
  scan_used a b r (Left x s) u = absurd u
  scan_used a b r _ u = refl

  settled_used : (a b : State → Effect) (s : Known) (x : Outcome) (t : Turn) → ((r : Reading) → on_scan g l a r x ≡ on_scan g l b r x)
      → on_settled g l a s x t ≡ on_settled g l b s x t
  settled_used a b s x (goes r) h = h r
  settled_used a b s x (late e r) h = ap (or_worse e) (h r)
  settled_used a b s x _ h = refl

  octet_used : (a b : State → Effect) (m : State) (x : Outcome) → ((r : Reading) → on_scan g l a r x ≡ on_scan g l b r x)
      → on_octet g l a m x ≡ on_octet g l b m x
  octet_used a b m x h = go (unsettled m.scan m.reading x)
    where
      go : (w : Bool) → (if w then on_scan g l a m.reading x else on_settled g l a m.scan x (settle g l m.reading))
          ≡ (if w then on_scan g l b m.reading x else on_settled g l b m.scan x (settle g l m.reading))
      go true = h m.reading
      go false = settled_used a b m.scan x (settle g l m.reading) h

  once_fuel : (n k : ℕ) (m : State) (o : ℕ) → UsedHere m.scan o → takes g l (suc n) m o ≡ takes g l (suc k) m o
  once_fuel n k m o u = octet_used (λ x. takes g l n x o) (λ x. takes g l k x o) m (feed (place m.reading) m.scan o)
      (λ r. scan_used (λ x. takes g l n x o) (λ x. takes g l k x o) r (feed (place m.reading) m.scan o) (u (place m.reading)))

  left_same : (a b : State → Effect) (s : Known) (t : Turn) → ((r : Reading) → a (with_scan s r) ≡ b (with_scan s r)) → behind_left a s t ≡ behind_left b s t
  left_same a b s (goes r) h = h r
  left_same a b s (late e r) h = ap (or_worse e) (h r)
  left_same a b s _ h = refl

  said_same : (f h : Content → Effect) (c : Result Content Reason) → ((c : Content) → f c ≡ h c) → on_said c f ≡ on_said c h
  said_same f h (Ok c) e = e c
  said_same f h (Err x) e = refl

  -- two tries more are as good as three
  pub twice_fuel : (m : State) (o : ℕ) → Twice m.scan o → takes g l 2 m o ≡ takes g l 3 m o
  twice_fuel m o u = octet_used (λ x. takes g l 1 x o) (λ x. takes g l 2 x o) m (feed (place m.reading) m.scan o)
      (λ r. same r (feed (place m.reading) m.scan o) (u (place m.reading)))
    where
      same : (r : Reading) (x : Outcome) → UsedThen o x → on_scan g l (λ x. takes g l 1 x o) r x ≡ on_scan g l (λ x. takes g l 2 x o) r x
      same r (Left x s) h =
          said_same (λ c. behind_left (λ x. takes g l 1 x o) s (turn g l r (token_of x c)))
          (λ c. behind_left (λ x. takes g l 2 x o) s (turn g l r (token_of x c))) (said x.kind x.octets)
          (λ c. left_same (λ x. takes g l 1 x o) (λ x. takes g l 2 x o) s (turn g l r (token_of x c)) (λ n. once_fuel 0 1 (with_scan s n) o h))
      same r _ h = refl

  -- where an octet is used and nothing waits, it ends no value before it
  abbrev pub NotLeaves : Effect → Type 0
  NotLeaves (leaves v m) = ⊥
  NotLeaves _ = Unit {0}

  -- an octet that ends no token ends no value before it
  pub noticed_stays : (r : Reading) (s : Known) → NotLeaves (noticed l r s)
  noticed_stays r s = noticed_each NotLeaves l r s tt tt tt

  -- an octet that is the last of a token ends no value before it
  pub given_stays : (s : Known) (t : Turn) → NotLeaves (behind_given l s t)
  given_stays s (goes r) = noticed_stays r s
  given_stays s (late e r) = worse_each NotLeaves e (noticed l r s) (λ f. tt)
  given_stays s _ = tt

  -- where what a token says ends no value before its octet, neither does the token
  pub said_stays : (c : Result Content Reason) (f : Content → Effect) → ((c : Content) → NotLeaves (f c)) → NotLeaves (on_said c f)
  said_stays c f h = said_each NotLeaves c f (λ d k. h d) (λ e k. tt)

  scan_stays : (again : State → Effect) (r : Reading) (x : Outcome) → IsUsed x → NotLeaves (on_scan g l again r x)
  scan_stays again r (Next s) u = noticed_stays r s
  scan_stays again r (Given x s) u = said_stays (said x.kind x.octets) _ (λ c. given_stays s (turn g l r (token_of x c)))
  scan_stays again r (Left x s) u = absurd u
  scan_stays again r (Refused n e) u = tt

  -- where nothing waits, an octet that the scanner uses ends no value before it
  pub eats_stays : (r : Reading) (s : Known) (o : ℕ) → settle g l r ≡ goes r → IsUsed (feed (place r) s o) → NotLeaves (eats g l (with_scan s r) o)
  eats_stays r s o e u =
      let x = feed (place r) s o in
      let again = λ (k : State). takes g l 2 k o in
      let scan = scan_stays again r x u in
      cond_both (unsettled s r x) (on_scan g l again r x) (on_settled g l again s x (settle g l r)) NotLeaves (λ w. scan)
      (λ w. subst (λ t. NotLeaves (on_settled g l again s x t)) (sym e) scan)

  -- then once more is as at the first time
  pub more_same : (to : ℕ) (again : State → Effect) (rest : State → Run) (x : Effect) → NotLeaves x → once_more to rest x ≡ run_on to again rest x
  more_same to again rest (leaves v m) h = absurd h
  more_same to again rest _ h = refl
