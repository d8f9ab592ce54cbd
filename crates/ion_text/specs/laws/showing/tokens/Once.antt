-- Whole pieces at the front of octets have one list of values.
use Rattle.std.proofs.Common.{◌≡◌, ℕ, ◌+◌, ◌<◌, Bool, true, false, List, [], ◌∷◌, ◌++◌, length, refl, sym, ap, ◌∙◌, subst, arith, append-nil, length-append, inl, inr}
use Rattle.ion_text.specs.Names.{BeginsLexed, Catalog, IsLexeme, LexesTo, Limits, Place, Placed, Reading, Shown, TokenKind, Value, Whole, colon_behind, done, fresh, initial, is_sexp, on_turn, settle, system_slots}
use Rattle.ion_tokens.proofs.complete.Wholes.{some_octet}
use Rattle.ion_tokens.proofs.histories.Histories.{begins_completes}
use Rattle.ion_symtab.specs.laws.Promises.{shown_once}
use Rattle.ion_text.specs.laws.reading.complete.Found.{lexes_operators}
use Rattle.ion_text.specs.laws.reading.complete.Going.{Going, Operators}
use Rattle.ion_text.specs.laws.reading.complete.Pieces.{pieces_read, walked_now}
use Rattle.ion_text.specs.laws.showing.tokens.Compare.{Compared, Found', TopFirst, begins_after, compare, lexes_once}
use Rattle.ion_text.specs.laws.showing.tokens.Cuts.{lexed_front, parted}

-- tokens at the front of octets, whatever is left
pub begins_lexed : (ts : List Placed) (colon : Bool) (before : ℕ) (octets : List ℕ) (after : Bool) (end : ℕ) (rest : List ℕ)
    → LexesTo colon before octets ts after end rest → BeginsLexed colon before octets ts
begins_lexed [] colon before octets after end rest h = tt
begins_lexed (t ∷ ts) colon before octets after end rest (q, b, h) = (q, b, begins_lexed ts (colon_behind t) t.lexeme.end q after end rest h)

-- a token has an octet
pub some_token : (p : Place) (colon : Bool) (w r : List ℕ) (k : TokenKind) (kept : List ℕ) → IsLexeme p colon w r k kept → 0 < length w
some_token p colon [] r k kept h = absurd (some_octet p colon r k kept h)
some_token p colon (o ∷ os) r k kept h = omega arith

-- an operator stands in an s-expression
pub operator_inside : (p : Place) (colon : Bool) (w r : List ℕ) (k : TokenKind) (kept : List ℕ) → IsLexeme p colon w r k kept → is_sexp p ≡ false
    → k ≡ TokenKind.Operator → ⊥
operator_inside p colon w r k kept h n e = let i = subst (λ x. IsLexeme p colon w r x kept) e h in let never : true ≡ false = sym i.1 ∙ n in cc

module _ (g : Catalog) (l : Limits) where
  -- tokens that go on to an end give one list of values
  pub going_once : (r : Reading) (ts : List Placed) (a b : List Value) → Going g l r ts a → Going g l r ts b → a ≡ b
  going_once r ts a b d e =
      let walk = walked_now g l d.vs e.vs d.n e.n (sym d.read ∙ e.read) in
      let ends = sym d.ends ∙ (ap (λ x. on_turn (settle g l x) done) walk.1 ∙ e.ends) in
      let later = (walked_now g l d.later e.later (fresh d.c) (fresh e.c) ends).0 in
      d.whole ∙ (ap (λ x. x ++ d.later) walk.0 ∙ (ap (λ x. e.vs ++ x) later ∙ sym e.whole))

  module _ (front following : List ℕ) where
    -- the tokens of whole pieces go on to an end
    pub whole_going : (s : List Value) (w : Whole g l front following s) → Going g l (fresh system_slots) w.tokens s
    whole_going s w = let r = pieces_read g l w.tokens s w.context w.pieces in
        record { vs = r.given; later = r.later; n = r.now; c = w.context; read = r.read; ends = r.settles; whole = r.all }

    -- the scanner finds the tokens of whole pieces in their octets
    pub whole_found : (s : List Value) (w : Whole g l front following s) → Found' (λ s octets. Unit {0}) initial (front ++ following) w.tokens
    whole_found s w = begins_completes w.tokens false 0 (front ++ following) [] (front ++ following) initial
        (begins_lexed w.tokens false 0 (front ++ following) w.colon w.end (w.blank ++ following) w.lexed) refl (λ p. refl)

    -- in whole pieces no operator stands outside an s-expression
    pub whole_operators : (s : List Value) (w : Whole g l front following s) → Operators w.tokens
    whole_operators s w = lexes_operators (λ c b o. (c ≡ w.colon) × (b ≡ w.end) × (o ≡ w.blank ++ following)) w.tokens false 0 (front ++ following) w.lexed

    -- whole pieces end where the blank behind their tokens does
    pub whole_ends : (s : List Value) (w : Whole g l front following s) → w.end + length w.blank ≡ length front
    whole_ends s w =
        let x = lexed_front w.tokens false 0 (front ++ following) w.colon w.end (w.blank ++ following) w.lexed in
        omega (arith, x.2, ap length x.1, length-append front following, length-append x.0 (w.blank ++ following), length-append w.blank following)

    -- a front has no more tokens
    no_more : (s t : List Value) (a : Whole g l front following s) (b : Whole g l front following t) (more : List Placed) → b.tokens ≡ a.tokens ++ more
        → TopFirst more → a.tokens ≡ b.tokens
    no_more s t a b [] e h = sym (e ∙ append-nil a.tokens)
    no_more s t a b (u ∷ us) e h =
        let x = parted a.tokens (u ∷ us) false 0 (front ++ following) b.colon b.end (b.blank ++ following)
        (subst (λ z. LexesTo false 0 (front ++ following) z b.colon b.end (b.blank ++ following)) e b.lexed) in
        let same = lexes_once a.tokens false 0 (front ++ following) x.flag a.colon x.mid a.end x.left (a.blank ++ following) x.first a.lexed in
        let c = x.second.1 in
        let starts = begins_after x.flag x.mid x.left u (x.second).0 a.blank following c
        (operator_inside u.place x.flag c.token (x.second).0 u.lexeme.kind u.lexeme.octets c.is (ap is_sexp h)) a.is_blank same.2 in
        let some = some_token u.place x.flag c.token (x.second).0 u.lexeme.kind u.lexeme.octets c.is in
        let rest = lexed_front us (colon_behind u) u.lexeme.end (x.second).0 b.colon b.end (b.blank ++ following) (x.second).2 in
        absurd (omega (arith, starts, some, rest.2, same.1, whole_ends s a, whole_ends t b, c.start, c.end))

    -- Whole pieces have one list of values.
    pub one_whole : (s t : List Value) → Whole g l front following s → Whole g l front following t → s ≡ t
    one_whole s t a b = by (compare (λ s octets. Unit {0}) g l initial (front ++ following) a.tokens (whole_found s a) b.tokens (whole_found t b)
        (whole_operators s a) (whole_operators t b) (fresh system_slots) s t (whole_going s a) (whole_going t b))
      where
        same : a.tokens ≡ b.tokens → s ≡ t
        same e = going_once (fresh system_slots) b.tokens s t (subst (λ z. Going g l (fresh system_slots) z s) e (whole_going s a)) (whole_going t b)

        by : Compared a.tokens b.tokens → s ≡ t
        by (inl (more, e, h)) = same (no_more s t a b more e h)
        by (inr (more, e, h)) = same (sym (no_more t s b a more e h))

-- Octets show one stream.
pub one_shown : (g : Catalog) (l : Limits) (u : List ℕ) (s t : List Value) → Shown (Whole g l) u s → Shown (Whole g l) u t → s ≡ t
one_shown g l u s t a b = shown_once (Whole g l) u s t (λ front following p q. one_whole g l front following s t p q) a b
