-- Two lists of tokens that go on from one reading, in the same octets, and one of them to the end of a document: one is the front of the
-- other.
use Rattle.std.proofs.Common.{◌≡◌, ℕ, ◌+◌, ◌-◌, ◌≤◌, Bool, true, false, List, [], ◌∷◌, ◌++◌, length, drop, refl, sym, ap, ◌∙◌, subst, arith, length-append, Ok, Some, ◌⊎◌, inl, inr}
use Rattle.ion_text.specs.Names.{BeginsWith, Catalog, Content, Given, IsBlank, Known, Leading, Left, Lexeme, LexesTo, Limits, Mode, Next, Outcome, Place, Placed, Reading, Refused, TokenKind, Turn, Value, at_end, colon_behind, continues, end_of, feed, follow, gives, goes, is_top, place, said, scan as run, settle, settle_still, start_of, token_of, turn}
use Rattle.ion_tokens.proofs.complete.Found.{FindsUpTo, Gives, Last, Leaves, Nothing, Unclosed, in_word}
use Rattle.ion_tokens.proofs.complete.Moves.{at, blank}
use Rattle.ion_tokens.proofs.complete.TakesBlanks.{passes_blank}
use Rattle.ion_tokens.proofs.runs.Runs.{feed_used}
use Rattle.ion_text.specs.laws.reading.complete.Found.{never_unclosed, next_is}
use Rattle.ion_text.specs.laws.reading.complete.Going.{Going, Operators, TurnGoes, going_said, going_settle, going_turn, inside_end, next_inside, no_operator, top_place}
use Rattle.ion_text.specs.laws.reading.complete.Meets.{end_spans, finely_as}
use Rattle.ion_text.specs.laws.reading.sound.Quotes.{Fine, is_close}
use Rattle.ion_text.specs.laws.showing.tokens.Cuts.{Is, Keeps, feed_keeps, one_found, parts_same}
use Rattle.ion_text.specs.laws.showing.tokens.Walks.{TurnWalks, Walking, walking_said, walking_settle, walking_turn}

-- 1. Where the next token begins.

-- a token that is open behind octets, or ends in them, begins no earlier
abbrev pub TokenFrom : ℕ → Outcome → Type 0
TokenFrom n (Next t) = n ≤ start_of t.mode t.start t.used
TokenFrom n (Given x t) = n ≤ x.start
TokenFrom n (Left x t) = n ≤ x.start
TokenFrom n (Refused k e) = Unit {0}

start_from : (n : ℕ) (m : Mode) (start used : ℕ) → n ≤ start → n + 1 ≤ used → n ≤ start_of m start used
start_from n Mode.Blank start used h k = omega (arith, k)
start_from n Mode.Slash start used h k = omega (arith, k)
start_from n _ start used h k = h

-- where the next token begins at `n` or later, so does the one that a run ends or leaves open
pub run_from : (p : Place) (os : List ℕ) (n : ℕ) (s : Known) → Fine s → n ≤ start_of s.mode s.start s.used → TokenFrom n (run p os s)
run_from p [] n s f h = h
run_from p (o ∷ os) n s f h = go (feed p s o) refl (feed_keeps p s o) (λ t i k. run_from p os n t i k)
  where
    go : (x : Outcome) → feed p s o ≡ x → Keeps p s x → ((t : Known) → Fine t → n ≤ start_of t.mode t.start t.used → TokenFrom n (run p os t))
        → TokenFrom n (follow x (λ t. run p os t))
    go (Next t) e k more =
        let used = feed_used p s t o e in
        more t (finely_as p s o (Next t) f e) (start_from n t.mode t.start t.used (omega (arith, h, k.0)) (let i = f.enough in omega (arith, h, i, used)))
    go (Refused i y) e k more = tt
    go _ e k more = omega (arith, h, k.0)

pub is_from : (p : Place) (n : ℕ) (x : Lexeme) (o : Outcome) → TokenFrom n o → Is p x o → (x.kind ≡ TokenKind.Operator → ⊥) → n ≤ x.start
is_from p n x (Next t) f (inl e) k = let i = end_spans t (end_of p t.mode) x e in omega (arith, f, i.0)
is_from p n x (Next t) f (inr e) k = absurd (k e.1)
is_from p n x (Refused i y) f e k = absurd e
is_from p n x _ f e k = omega (arith, f, ap (λ (z : Lexeme). z.start) e)

-- 2. Two lists of tokens.

-- the first of them, if there is one, stands at the top level
abbrev pub TopFirst : List Placed → Type 0
TopFirst [] = Unit {0}
TopFirst (t ∷ ts) = t.place ≡ Place.Top

-- one is the front of the other, which goes on at the top level
abbrev pub Compared : List Placed → List Placed → Type 0
Compared ts ws = ((more : List Placed) × (ws ≡ ts ++ more) × TopFirst more) ⊎ ((more : List Placed) × (ts ≡ ws ++ more) × TopFirst more)

-- one list is the front of the other, of which the first one goes on at the top level
abbrev pub OneIsFront : List Placed → List Placed → Type 0
OneIsFront ts ws = ((more : List Placed) × (ws ≡ ts ++ more)) ⊎ ((more : List Placed) × (ts ≡ ws ++ more) × TopFirst more)

one_met : (t : Placed) (us ws : List Placed) → OneIsFront us ws → OneIsFront (t ∷ us) (t ∷ ws)
one_met t us ws (inl (more, e)) = inl (more, ap (λ l. t ∷ l) e)
one_met t us ws (inr (more, e, h)) = inr (more, ap (λ l. t ∷ l) e, h)

-- tokens in the same place with the same lexeme are the same
pub placed_same : (t u : Placed) → t.place ≡ u.place → t.lexeme ≡ u.lexeme → t ≡ u
placed_same t u e f = ap (λ p. record { place = p; lexeme = t.lexeme }) e ∙ ap (λ x. record { place = u.place; lexeme = x }) f

-- a run ended this token, and this is known behind it
abbrev pub IsThis : Outcome → Lexeme → Known → Type 0
IsThis (Given y t) x s = (y ≡ x) × (t ≡ s)
IsThis (Left y t) x s = (y ≡ x) × (t ≡ s)
IsThis _ x s = ⊥

-- tokens end in one place alone
pub lexes_once : (ts : List Placed) (colon : Bool) (k : ℕ) (octets : List ℕ) (c d : Bool) (e f : ℕ) (r s : List ℕ) → LexesTo colon k octets ts c e r
    → LexesTo colon k octets ts d f s → (c ≡ d) × (e ≡ f) × (r ≡ s)
lexes_once [] colon k octets c d e f r s (a, b, o) (a', b', o') = (sym a ∙ a', sym b ∙ b', sym o ∙ o')
lexes_once (t ∷ ts) colon k octets c d e f r s (q, b, h) (q', b', h') =
    let n : length (b.blank ++ b.token) ≡ length (b'.blank ++ b'.token) =
    omega (arith, b.end, b'.end, b.start, b'.start, length-append b.blank b.token, length-append b'.blank b'.token) in
    let same = parts_same (b.blank ++ b.token) q (b'.blank ++ b'.token) q' (sym b.cut ∙ b'.cut) n in
    lexes_once ts (colon_behind t) t.lexeme.end q c d e f r s h (subst (λ x. LexesTo (colon_behind t) t.lexeme.end x ts d f s) (sym same.1) h')

-- behind a blank a token begins
pub begins_after : (colon : Bool) (k : ℕ) (octets : List ℕ) (t : Placed) (r w more : List ℕ) → BeginsWith colon k octets t r
    → (t.lexeme.kind ≡ TokenKind.Operator → ⊥) → IsBlank w → octets ≡ w ++ more → k + length w ≤ t.lexeme.start
begins_after colon k octets t r w more b plain is e =
    let x = passes_blank t.place colon w is k k in
    let ran : run t.place octets (at Mode.Blank [] colon k k) ≡ run t.place more (blank colon x.0 (k + length w)) =
    ap (λ o. run t.place o (at Mode.Blank [] colon k k)) e ∙ x.1 more in
    is_from t.place (k + length w) t.lexeme (run t.place more (blank colon x.0 (k + length w)))
    (run_from t.place more (k + length w) (blank colon x.0 (k + length w)) (record { enough = omega arith }) (omega arith))
    (subst (Is t.place t.lexeme) ran (one_found colon k octets t r b)) plain

module _ (R : Known → List ℕ → Type 0) where
  -- the scanner finds these tokens in the octets, and what it comes to where none is left is as `R` says
  abbrev pub Found' : Known → List ℕ → List Placed → Type 0
  Found' = FindsUpTo R (Unit {0})

  module _ (g : Catalog) (l : Limits) where
    -- where the others end well, the tokens go on at the top level
    first_top : (r : Reading) (ts : List Placed) (b : List Value) → Walking g l r ts → Going g l r [] b → TopFirst ts
    first_top r [] b d e = tt
    first_top r (t ∷ ts) b d e = (walking_said g l r t ts d).0 ∙ by (is_top r.frames) refl
      where
        by : (x : Bool) → is_top r.frames ≡ x → place r ≡ Place.Top
        by true h = top_place r.frames r.now h
        by false h = absurd (inside_end g l r b h e)

    abbrev Meeting : List Placed → List Placed → Type 0
    Meeting us ws = (n : Reading) (b : List Value) → Walking g l n us → Going g l n ws b → OneIsFront us ws

    turn_met : (x : Turn) (us ws : List Placed) (b : List Value) → Meeting us ws → TurnWalks g l x us → TurnGoes g l x ws b → OneIsFront us ws
    turn_met (goes n) us ws b f d e = f n b d e
    turn_met (gives v n) us ws b f d e = f n e.0 d e.2
    turn_met _ us ws b f d e = absurd d

    -- behind the same token
    token_met : (t : Placed) (us ws : List Placed) → Meeting us ws → Meeting (t ∷ us) (t ∷ ws)
    token_met t us ws f r b d e = one_met t us ws (go (continues r (token_of t.lexeme c)) refl)
      where
        c : Content
        c = (walking_said g l r t us d).1

        is : said t.lexeme.kind t.lexeme.octets ≡ Ok c
        is = (walking_said g l r t us d).2

        direct : (n : Reading) (b : List Value) → settle g l n ≡ goes n → Walking g l n (t ∷ us) → Going g l n (t ∷ ws) b → OneIsFront us ws
        direct n b s d e = turn_met (turn g l n (token_of t.lexeme c)) us ws b f (walking_turn g l n t us c d is (inr s)) (going_turn g l n t ws b c e is (inr s))

        settled : (x : Turn) → Leading g l (λ n. settle g l n ≡ goes n) x → TurnWalks g l x (t ∷ us) → TurnGoes g l x (t ∷ ws) b → OneIsFront us ws
        settled (goes n) s d e = direct n b s d e
        settled (gives v n) s d e = direct n e.0 s d e.2
        settled _ s d e = absurd d

        go : (w : Bool) → continues r (token_of t.lexeme c) ≡ w → OneIsFront us ws
        go true w = turn_met (turn g l r (token_of t.lexeme c)) us ws b f (walking_turn g l r t us c d is (inl w)) (going_turn g l r t ws b c e is (inl w))
        go false w = settled (settle g l r) (settle_still g l r.start r.context r.frames r.notes r.now) (walking_settle g l r t us c d is w)
            (going_settle g l r t ws b c e is w)

    -- an s-expression is closed behind its operators
    one_operator : (t : Placed) (r : Reading) (a : List Value) → Operators (t ∷ []) → t.lexeme.kind ≡ TokenKind.Operator → Going g l r (t ∷ []) a → ⊥
    one_operator t r a ops k d = by (is_top r.frames) refl
      where
        by : (b : Bool) → is_top r.frames ≡ b → ⊥
        by true h = no_operator g l r t h (going_said g l r t [] a d).0 ops.0 k
        by false h =
            next_inside g l r t [] a h d (λ m rest i j x. inside_end g l m rest i x) (λ e i. let n : true ≡ false = sym i ∙ ap is_close k in cc)

    -- in a word behind which no octets come, this word is the one token, or there is none
    pub alone : (letters : List ℕ) (colon : Bool) (start used : ℕ) (ts : List Placed) → Found' (in_word letters colon start used) [] ts → (ts ≡ [])
        ⊎ ((w : Placed) × (ts ≡ w ∷ []) × (w.lexeme.kind ≡ TokenKind.Word) × (w.lexeme.end ≡ used))
    alone letters colon start used _ (Nothing _ _ f) = inl refl
    alone letters colon start used _ (Last _ _ t s' e f) =
        let here = ap (at_end t.place) (next_is (in_word letters colon start used) s' e) ∙ f in
        inr (t, refl, kind_of t.lexeme here, (end_spans (in_word letters colon start used) (end_of t.place Mode.Word) t.lexeme here).1)
      where
        kind_of : (x : Lexeme) → at_end t.place (in_word letters colon start used) ≡ Ok (Some x) → x.kind ≡ TokenKind.Word
        kind_of x h = cc
    alone letters colon start used _ (Unclosed _ _ t ts s' c more bare e f first operator rest) =
        absurd (let h = ap (at_end t.place) (next_is (in_word letters colon start used) s' e) ∙ f in cc)
    alone letters colon start used _ (Gives _ _ t ts s' e f) = absurd cc
    alone letters colon start used _ (Leaves _ _ t ts s' e f) = absurd cc

    -- an operator behind which a word is open at the end goes on to no whole document
    pub unclosed_never : (t : Placed) (ts : List Placed) (letters : List ℕ) (colon : Bool) (start used : ℕ) (r : Reading) (a : List Value)
        → t.lexeme.kind ≡ TokenKind.Operator → Found' (in_word letters colon start used) [] ts → Operators (t ∷ ts) → Going g l r (t ∷ ts) a → ⊥
    unclosed_never t ts letters colon start used r a k f ops d = by (alone letters colon start used ts f)
      where
        by : (ts ≡ []) ⊎ ((w : Placed) × (ts ≡ w ∷ []) × (w.lexeme.kind ≡ TokenKind.Word) × (w.lexeme.end ≡ used)) → ⊥
        by (inl e) = one_operator t r a (subst (λ x. Operators (t ∷ x)) e ops) k (subst (λ x. Going g l r (t ∷ x) a) e d)
        by (inr (w, e, j, n)) = never_unclosed g l t w (subst (λ x. Operators (t ∷ x)) e ops) k j (r, a, subst (λ x. Going g l r (t ∷ x) a) e d)

    -- the other tokens, behind the first one's run
    module _ (s s' : Known) (octets : List ℕ) (t : Placed) (ts : List Placed) (x : Outcome) (ran : run t.place octets s ≡ x) (r : Reading) (b : List Value)
        (d : Walking g l r (t ∷ ts)) where
      here : (u : Placed) (us : List Placed) → Going g l r (u ∷ us) b → t.place ≡ u.place
      here u us e = (walking_said g l r t ts d).0 ∙ sym (going_said g l r u us b e).0

      there : (u : Placed) (us : List Placed) (y : Outcome) → Going g l r (u ∷ us) b → run u.place octets s ≡ y → x ≡ y
      there u us y e f = sym ran ∙ (ap (λ p. run p octets s) (here u us e) ∙ f)

      -- where it was given or left
      module _ (this : IsThis x t.lexeme s') (rest : (ws : List Placed) → Found' s' (drop (s'.used - s.used) octets) ws → Operators ws → Meeting ts ws) where
        found : (u : Placed) (us : List Placed) (y : Outcome) → Going g l r (u ∷ us) b → run u.place octets s ≡ y → IsThis y t.lexeme s'
        found u us y e f = subst (λ z. IsThis z t.lexeme s') (there u us y e f) this

        matched : (u : Placed) (us : List Placed) (s'' : Known) → (u.lexeme ≡ t.lexeme) × (s'' ≡ s') → Found' s'' (drop (s''.used - s.used) octets) us
            → Operators us → Going g l r (u ∷ us) b → OneIsFront (t ∷ ts) (u ∷ us)
        matched u us s'' i f ops e =
            let same = placed_same t u (here u us e) (sym i.0) in
            subst (λ z. OneIsFront (t ∷ ts) (z ∷ us)) same (token_met t ts us
            (rest us (subst (λ (z : Known). Found' z (drop (z.used - s.used) octets) us) i.1 f) ops) r b d (subst (λ z. Going g l r (z ∷ us) b) (sym same) e))

        told : (ws : List Placed) → Found' s octets ws → Operators ws → Going g l r ws b → OneIsFront (t ∷ ts) ws
        told _ (Nothing _ _ n) o e = inr (t ∷ ts, refl, first_top r (t ∷ ts) b d e)
        told _ (Last _ _ u s'' ran' at') o e = absurd (found u [] (Next s'') e ran')
        told _ (Gives _ _ u us s'' ran' f) o e = matched u us s'' (found u us (Given u.lexeme s'') e ran') f o.1 e
        told _ (Leaves _ _ u us s'' ran' f) o e = matched u us s'' (found u us (Left u.lexeme s'') e ran') f o.1 e
        told _ (Unclosed _ _ u us s'' colon letters bare ran' at' first operator f) o e = absurd (found u us (Next s'') e ran')

      -- where it is open at the end
      unended : x ≡ Next s' → ((u : Placed) → t.place ≡ u.place → at_end t.place s' ≡ Ok (Some u.lexeme) → OneIsFront (t ∷ ts) (u ∷ []))
          → (ws : List Placed) → Found' s octets ws → Operators ws → Going g l r ws b → OneIsFront (t ∷ ts) ws
      unended open' last _ (Nothing _ _ n) o e = inr (t ∷ ts, refl, first_top r (t ∷ ts) b d e)
      unended open' last _ (Last _ _ u s'' ran' at') o e =
          let p = here u [] e in
          let same = next_is s' s'' (sym open' ∙ there u [] (Next s'') e ran') in
          last u p (ap (at_end t.place) same ∙ (ap (λ q. at_end q s'') p ∙ at'))
      unended open' last _ (Gives _ _ u us s'' ran' f) o e = absurd (let y = sym open' ∙ there u us (Given u.lexeme s'') e ran' in cc)
      unended open' last _ (Leaves _ _ u us s'' ran' f) o e = absurd (let y = sym open' ∙ there u us (Left u.lexeme s'') e ran' in cc)
      unended open' last _ (Unclosed _ _ u us s'' colon letters bare ran' at' first operator f) o e =
          absurd (unclosed_never u us letters colon u.lexeme.end s''.used r b operator f o e)

    -- of tokens read without a refusal and a document's in the same octets, one list is the other's front
    pub meet : (s : Known) (octets : List ℕ) (ts : List Placed) → Found' s octets ts → (ws : List Placed) → Found' s octets ws → Operators ws → Meeting ts ws
    meet _ _ _ (Nothing s octets n) ws f o = λ r b d e. inl (ws, refl)
    meet _ _ _ (Last s octets t s' ran at) ws f o = λ r b d e. unended s s' octets t [] (Next s') ran r b d refl one ws f o e
      where
        one : (u : Placed) → t.place ≡ u.place → at_end t.place s' ≡ Ok (Some u.lexeme) → OneIsFront (t ∷ []) (u ∷ [])
        one u p at' =
            let same = sym at ∙ at' in
            let lexeme : t.lexeme ≡ u.lexeme = cc in
            inl ([], ap (λ z. z ∷ []) (sym (placed_same t u p lexeme)))
    meet _ _ _ (Gives s octets t ts s' ran f) ws f' o =
        λ r b d e. told s s' octets t ts (Given t.lexeme s') ran r b d (refl, refl) (λ ws f' o'. meet s' (drop (s'.used - s.used) octets) ts f ws f' o') ws f' o e
    meet _ _ _ (Leaves s octets t ts s' ran f) ws f' o =
        λ r b d e. told s s' octets t ts (Left t.lexeme s') ran r b d (refl, refl) (λ ws f' o'. meet s' (drop (s'.used - s.used) octets) ts f ws f' o') ws f' o e
    meet _ _ _ (Unclosed s octets t ts s' colon letters bare ran at first operator f) ws f' o =
        λ r b d e. unended s s' octets t ts (Next s') ran r b d refl (λ u p at'. absurd (let n = sym at ∙ at' in cc)) ws f' o e

    -- of two lists of tokens that go on to a document's end in the same octets, one is the front of the other
    pub compare : (s : Known) (octets : List ℕ) (ts : List Placed) → Found' s octets ts → (ws : List Placed) → Found' s octets ws → Operators ts → Operators ws
        → (r : Reading) (a b : List Value) → Going g l r ts a → Going g l r ws b → Compared ts ws
    compare s octets ts f ws f' o o' r a b d e =
        by (meet s octets ts f ws f' o' r b (walks ts a d) e) (meet s octets ws f' ts f o r a (walks ws b e) d)
      where
        walks : (us : List Placed) (c : List Value) → Going g l r us c → Walking g l r us
        walks us c h = record { vs = h.vs; n = h.n; read = h.read }

        by : OneIsFront ts ws → OneIsFront ws ts → Compared ts ws
        by (inr x) y = inr x
        by (inl x) (inr y) = inl y
        by (inl ([], i)) (inl y) = inl ([], i, tt)
        by (inl (x ∷ more, i)) (inl (less, j)) = absurd (omega (arith, ap length i, ap length j, length-append ts (x ∷ more), length-append ws less))
