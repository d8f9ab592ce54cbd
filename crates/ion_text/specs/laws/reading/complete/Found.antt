-- The scanner meets the tokens that octets are.
use Rattle.std.proofs.Common.{◌≡◌, ℕ, ◌+◌, ◌-◌, Bool, true, false, List, [], ◌∷◌, ◌++◌, length, drop, refl, sym, ap, ◌∙◌, subst, arith, Ok, Some, None, ◌⊎◌, inl, inr}
use Rattle.ion_text.specs.Names.{Catalog, Given, IsLexeme, Known, Leading, Left, Lexeme, Lexes, LexesBefore, Limits, Mode, Next, Outcome, Place, Placed, Reading, TokenKind, Turn, Value, at_end, continues, feed, follow, followed, gives, goes, initial, is_idle, is_sane, is_sexp, is_top, scan as run, settle, settle_still, token_of, turn}
use Rattle.ion_tokens.specs.machine.Told.{Begun}
use Rattle.ion_tokens.proofs.complete.Found as found
use Rattle.ion_tokens.proofs.histories.Histories.{behind_front, stands_finds}
use Rattle.ion_tokens.proofs.runs.Runs.{feed_used}
use Rattle.ion_tokens.proofs.runs.Splits.{given_one, given_split, left_one, left_split}
use Rattle.ion_text.specs.laws.reading.complete.Going.{Going, Operators, TurnGoes, going_said, going_settle, going_turn, inside_end, next_inside, top_place}
use Rattle.ion_text.specs.laws.reading.complete.Meets.{Meets, at_blank, at_token, follows_as, goes_on, in_blank, is_given, is_left}
use Rattle.ion_text.specs.laws.reading.sound.Quotes.{is_close}

-- What the scanner finds in octets up to the end of the input. An operator before a last word that begins as `inf` is told by neither.
pub data Finds : Known → List ℕ → List Placed → Type 0 where
  nothing : (s : Known) (octets : List ℕ) → ((p : Place) → (s' : Known) × (run p octets s ≡ Next s') × (at_end p s' ≡ Ok None)) → Finds s octets []
  last : (s : Known) (octets : List ℕ) (t : Placed) (s' : Known) → run t.place octets s ≡ Next s' → at_end t.place s' ≡ Ok (Some t.lexeme)
      → Finds s octets (t ∷ [])
  gives' : (s : Known) (octets : List ℕ) (t : Placed) (ts : List Placed) (s' : Known) → run t.place octets s ≡ Given t.lexeme s'
      → Finds s' (drop (s'.used - s.used) octets) ts → Finds s octets (t ∷ ts)
  leaves' : (s : Known) (octets : List ℕ) (t : Placed) (ts : List Placed) (s' : Known) → run t.place octets s ≡ Left t.lexeme s'
      → Finds s' (drop (s'.used - s.used) octets) ts → Finds s octets (t ∷ ts)
  unclosed : (s : Known) (octets : List ℕ) (t w : Placed) → t.lexeme.kind ≡ TokenKind.Operator → w.lexeme.kind ≡ TokenKind.Word → Finds s octets (t ∷ w ∷ [])

-- where the same outcome goes on, the scanner knows the same
pub next_is : (s t : Known) → Next s ≡ Next t → s ≡ t
next_is s t e = cc

-- what each octet keeps that goes on, octets keep that go on
pub run_keeps : (P : Mode → Type 0) → ((p : Place) (s t : Known) (o : ℕ) → is_sane s.mode ≡ true → feed p s o ≡ Next t → P s.mode → P t.mode)
    → (p : Place) (os : List ℕ) (s t : Known) → is_sane s.mode ≡ true → P s.mode → run p os s ≡ Next t → P t.mode
run_keeps P keeps p [] s t sane h e = subst (λ (x : Known). P x.mode) (next_is s t e) h
run_keeps P keeps p (o ∷ os) s t sane h e =
    let f = followed (feed p s o) (λ k. run p os k) t e in
    run_keeps P keeps p os f.0 t (follows_as p s o (Next f.0) sane f.1).0 (keeps p s f.0 o sane f.1 h) f.2

pub run_sane : (p : Place) (os : List ℕ) (s t : Known) → is_sane s.mode ≡ true → run p os s ≡ Next t → is_sane t.mode ≡ true
run_sane p os s t sane e =
    run_keeps (λ m. is_sane m ≡ true) (λ p s t o sane e h. (follows_as p s o (Next t) sane e).0) p os s t sane sane e

-- a token that has begun isn't forgotten
pub begun_stays : (p : Place) (s t : Known) (o : ℕ) → is_sane s.mode ≡ true → feed p s o ≡ Next t → is_idle s.mode ≡ false → is_idle t.mode ≡ false
begun_stays p s t o sane e h = (follows_as p s o (Next t) sane e).1 h

-- Behind letters of a word, at the end of the input, there is no token, or that word alone.
pub alone_word : (letters : List ℕ) (colon : Bool) (start used : ℕ) (ts : List Placed) → found.Finds (found.in_word letters colon start used) [] ts → (ts ≡ [])
    ⊎ ((w : Placed) × (ts ≡ w ∷ []) × (w.lexeme.kind ≡ TokenKind.Word))
alone_word letters colon start used _ (found.Nothing _ _ f) = inl refl
alone_word letters colon start used _ (found.Last _ _ t s' e f) =
    inr (t, refl, kind_of t.lexeme (ap (at_end t.place) (next_is (found.in_word letters colon start used) s' e) ∙ f))
  where
    kind_of : (x : Lexeme) → at_end t.place (found.in_word letters colon start used) ≡ Ok (Some x) → x.kind ≡ TokenKind.Word
    kind_of x h = cc
alone_word letters colon start used _ (found.Gives _ _ t ts s' e f) = absurd cc
alone_word letters colon start used _ (found.Leaves _ _ t ts s' e f) = absurd cc
alone_word letters colon start used _ (found.Unclosed _ _ t ts s' c more bare e f first operator rest) =
    absurd (let h = ap (at_end t.place) (next_is (found.in_word letters colon start used) s' e) ∙ f in cc)

lexes_found : (s : Known) (octets : List ℕ) (ts : List Placed) → found.Finds s octets ts → Finds s octets ts
lexes_found _ _ _ (found.Nothing s octets f) = nothing s octets f
lexes_found _ _ _ (found.Last s octets t s' e f) = last s octets t s' e f
lexes_found _ _ _ (found.Gives s octets t ts s' e f) = gives' s octets t ts s' e (lexes_found s' (drop (s'.used - s.used) octets) ts f)
lexes_found _ _ _ (found.Leaves s octets t ts s' e f) = leaves' s octets t ts s' e (lexes_found s' (drop (s'.used - s.used) octets) ts f)
lexes_found _ _ _ (found.Unclosed s octets t ts s' colon letters bare e f first operator rest) = by (alone_word letters colon t.lexeme.end s'.used ts rest)
  where
    by : (ts ≡ []) ⊎ ((w : Placed) × (ts ≡ w ∷ []) × (w.lexeme.kind ≡ TokenKind.Word)) → Finds s octets (t ∷ ts)
    by (inl none) = absurd (bare none)
    by (inr (w, alone, word)) = subst (λ y. Finds s octets (t ∷ y)) (sym alone) (unclosed s octets t w operator word)

-- the scanner finds the tokens that octets are, up to their end
pub lexes_finds : (octets : List ℕ) (ts : List Placed) → Lexes false 0 octets ts → Finds initial octets ts
lexes_finds octets ts h = lexes_found initial octets ts (stands_finds initial [] [] [] octets ts Begun octets refl h)

blank_met : (os : List ℕ) (s s' : Known) → run Place.Top os s ≡ Next s' → at_end Place.Top s' ≡ Ok None → Meets s os []
blank_met [] s s' e f = at_blank s (ap (at_end Place.Top) (next_is s s' e) ∙ f)
blank_met (o ∷ os) s s' e f =
    let h = followed (feed Place.Top s o) (λ k. run Place.Top os k) s' e in
    in_blank s o os h.0 h.1 (blank_met os h.0 s' h.2 f)

last_met : (os : List ℕ) (s s' : Known) (t : Placed) → run t.place os s ≡ Next s' → at_end t.place s' ≡ Ok (Some t.lexeme) → Meets s os (t ∷ [])
last_met [] s s' t e f = at_token s t (ap (at_end t.place) (next_is s s' e) ∙ f)
last_met (o ∷ os) s s' t e f =
    let h = followed (feed t.place s o) (λ k. run t.place os k) s' e in
    goes_on s o os t [] h.0 h.1 (last_met os h.0 s' t h.2 f)

-- so many octets are none
pub no_more : (os : List ℕ) → length os ≡ 0 → os ≡ []
no_more [] h = refl
no_more (o ∷ os) h = absurd (omega arith)

-- what holds of the octets from the last one of a token on holds of them all, where it goes on over each before
module _ (t : Placed) (P : Known → List ℕ → Type 0)
    (on : (s : Known) (o : ℕ) (os : List ℕ) (k : Known) → feed t.place s o ≡ Next k → P k os → P s (o ∷ os)) where
  -- up to the octet with which it ends
  pub given_so : (os rest : List ℕ) (s s' : Known) → run t.place os s ≡ Given t.lexeme s' → s'.used ≡ s.used + length os
      → ((k : Known) (o : ℕ) → feed t.place k o ≡ Given t.lexeme s' → P k (o ∷ rest)) → P s (os ++ rest)
  given_so [] rest s s' e n q = absurd cc
  given_so (o ∷ os) rest s s' e n q = go (feed t.place s o) refl e (λ k i m. given_so os rest k s' i m q)
    where
      go : (x : Outcome) → feed t.place s o ≡ x → follow x (λ k. run t.place os k) ≡ Given t.lexeme s'
          → ((k : Known) → run t.place os k ≡ Given t.lexeme s' → s'.used ≡ k.used + length os → P k (os ++ rest)) → P s (o ∷ os ++ rest)
      go (Next k) f h more = on s o (os ++ rest) k f (more k h (let u = feed_used t.place s k o f in omega (arith, u, n)))
      go (Given x k) f h more =
          let u = given_one t.place o s s' t.lexeme (f ∙ h) in
          let none : os ≡ [] = no_more os (omega (arith, u, n)) in
          subst (λ y. P s (o ∷ y ++ rest)) (sym none) (q s o (f ∙ h))
      go _ f h more = absurd cc

  -- up to the octet before which it ended
  pub left_so : (os : List ℕ) (x : ℕ) (rest : List ℕ) (s s' : Known) → run t.place (os ++ x ∷ []) s ≡ Left t.lexeme s' → s'.used ≡ s.used + length os
      → ((k : Known) → feed t.place k x ≡ Left t.lexeme s' → P k (x ∷ rest)) → P s (os ++ x ∷ rest)
  left_so [] x rest s s' e n q = go (feed t.place s x) refl e
    where
      go : (y : Outcome) → feed t.place s x ≡ y → follow y (λ k. Next k) ≡ Left t.lexeme s' → P s (x ∷ rest)
      go (Left l k) f h = q s (f ∙ h)
      go _ f h = absurd cc
  left_so (o ∷ os) x rest s s' e n q = go (feed t.place s o) refl e (λ k i m. left_so os x rest k s' i m q)
    where
      go : (y : Outcome) → feed t.place s o ≡ y → follow y (λ k. run t.place (os ++ x ∷ []) k) ≡ Left t.lexeme s'
          → ((k : Known) → run t.place (os ++ x ∷ []) k ≡ Left t.lexeme s' → s'.used ≡ k.used + length os → P k (os ++ x ∷ rest))
          → P s (o ∷ os ++ x ∷ rest)
      go (Next k) f h more = on s o (os ++ x ∷ rest) k f (more k h (let u = feed_used t.place s k o f in omega (arith, u, n)))
      go (Left l k) f h more = let u = left_one t.place o s s' t.lexeme (f ∙ h) in absurd (omega (arith, u, n))
      go _ f h more = absurd cc

given_met : (os rest : List ℕ) (s s' : Known) (t : Placed) (ts : List Placed) → run t.place os s ≡ Given t.lexeme s' → s'.used ≡ s.used + length os
    → Meets s' rest ts → Meets s (os ++ rest) (t ∷ ts)
given_met os rest s s' t ts e n m =
    given_so t (λ k us. Meets k us (t ∷ ts)) (λ k o us k' f. goes_on k o us t ts k' f) os rest s s' e n (λ k o f. is_given k o rest t ts s' f m)

left_met : (os : List ℕ) (x : ℕ) (rest : List ℕ) (s s' : Known) (t : Placed) (ts : List Placed) → run t.place (os ++ x ∷ []) s ≡ Left t.lexeme s'
    → s'.used ≡ s.used + length os → Meets s' (x ∷ rest) ts → Meets s (os ++ x ∷ rest) (t ∷ ts)
left_met os x rest s s' t ts e n m =
    left_so t (λ k us. Meets k us (t ∷ ts)) (λ k o us k' f. goes_on k o us t ts k' f) os x rest s s' e n (λ k f. is_left k x rest t ts s' f m)

module _ (g : Catalog) (l : Limits) where
  -- some reading from which the tokens go on
  abbrev pub Goes : List Placed → Type 0
  Goes ts = (r : Reading) × (all : List Value) × Going g l r ts all

  turned_goes : (t : Turn) (ts : List Placed) (all : List Value) → TurnGoes g l t ts all → Goes ts
  turned_goes (goes r) ts all d = (r, all, d)
  turned_goes (gives v r) ts all d = (r, d.0, d.2)
  turned_goes _ ts all d = absurd d

  -- from the tokens behind one
  next_goes : (t : Placed) (ts : List Placed) → Goes (t ∷ ts) → Goes ts
  next_goes t ts (r, all, d) = go (continues r (token_of t.lexeme (going_said g l r t ts all d).1)) refl
    where
      settled : (x : Turn) → Leading g l (λ n. settle g l n ≡ goes n) x → TurnGoes g l x (t ∷ ts) all → Goes ts
      settled (goes m) k e = let p = going_said g l m t ts all e in
          turned_goes (turn g l m (token_of t.lexeme p.1)) ts all (going_turn g l m t ts all p.1 e p.2 (inr k))
      settled (gives v m) k e = let p = going_said g l m t ts e.0 e.2 in
          turned_goes (turn g l m (token_of t.lexeme p.1)) ts e.0 (going_turn g l m t ts e.0 p.1 e.2 p.2 (inr k))
      settled _ k e = absurd e

      go : (b : Bool) → continues r (token_of t.lexeme (going_said g l r t ts all d).1) ≡ b → Goes ts
      go true w = let p = going_said g l r t ts all d in turned_goes (turn g l r (token_of t.lexeme p.1)) ts all (going_turn g l r t ts all p.1 d p.2 (inl w))
      go false w = let p = going_said g l r t ts all d in settled (settle g l r) (settle_still g l r.start r.context r.frames r.notes r.now)
          (going_settle g l r t ts all p.1 d p.2 w)

  -- an s-expression is closed behind its operators
  pub never_unclosed : (t w : Placed) → Operators (t ∷ w ∷ []) → t.lexeme.kind ≡ TokenKind.Operator → w.lexeme.kind ≡ TokenKind.Word → Goes (t ∷ w ∷ []) → ⊥
  never_unclosed t w ops k j (r, all, d) = by (is_top r.frames) refl
    where
      no_close : (x : Placed) → is_close x.lexeme.kind ≡ false → is_close x.lexeme.kind ≡ true → ⊥
      no_close x f i = let n : true ≡ false = sym i ∙ f in cc

      by : (b : Bool) → is_top r.frames ≡ b → ⊥
      by true h = let p = going_said g l r t (w ∷ []) all d in let n : true ≡ false = sym (ops.0 k) ∙ ap is_sexp (p.0 ∙ top_place r.frames r.now h) in cc
      by false h =
          next_inside g l r t (w ∷ []) all h d
          (λ m rest a i x. next_inside g l m w [] rest a x (λ n others b i y. inside_end g l n others b y) (λ e i. no_close w (ap is_close j) i))
          (λ e i. no_close t (ap is_close k) i)

  -- Of a document the scanner meets the tokens octet by octet.
  pub finds_met : (s : Known) (os : List ℕ) (ts : List Placed) → Finds s os ts → Operators ts → Goes ts → Meets s os ts
  finds_met _ _ _ (nothing s os f) ops d = let h = f Place.Top in blank_met os s h.0 h.1 h.2
  finds_met _ _ _ (last s os t s' e f) ops d = last_met os s s' t e f
  finds_met _ _ _ (gives' s os t ts s' e f) ops d =
      let x = given_split t.place os s s' t.lexeme e in
      let rest = finds_met s' (drop (s'.used - s.used) os) ts f ops.1 (next_goes t ts d) in
      let same : drop (s'.used - s.used) os ≡ x.rest = ap (λ y. drop (s'.used - s.used) y) x.cut ∙ behind_front x.octets x.rest s.used s'.used x.used in
      subst (λ y. Meets s y (t ∷ ts)) (sym x.cut) (given_met x.octets x.rest s s' t ts x.ran x.used (subst (λ y. Meets s' y ts) same rest))
  finds_met _ _ _ (leaves' s os t ts s' e f) ops d =
      let x = left_split t.place os s s' t.lexeme e in
      let rest = finds_met s' (drop (s'.used - s.used) os) ts f ops.1 (next_goes t ts d) in
      let same : drop (s'.used - s.used) os ≡ x.octet ∷ x.rest = ap (λ y. drop (s'.used - s.used) y) x.cut
      ∙ behind_front x.octets (x.octet ∷ x.rest) s.used s'.used x.used in
      subst (λ y. Meets s y (t ∷ ts)) (sym x.cut) (left_met x.octets x.octet x.rest s s' t ts x.ran x.used (subst (λ y. Meets s' y ts) same rest))
  finds_met _ _ _ (unclosed s os t w k j) ops d = absurd (never_unclosed t w ops k j d)

-- operators stand in s-expressions
pub lexes_operators : (End : Bool → ℕ → List ℕ → Type 0) (ts : List Placed) (colon : Bool) (before : ℕ) (octets : List ℕ)
    → LexesBefore End colon before octets ts → Operators ts
lexes_operators End [] colon before octets h = tt
lexes_operators End (t ∷ ts) colon before octets (rest, b, more) =
    ((λ e. (subst (λ k. IsLexeme t.place colon b.token rest k t.lexeme.octets) e b.is).1), lexes_operators End ts _ t.lexeme.end rest more)
