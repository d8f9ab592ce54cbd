-- Tokens that lead the reader of tokens up to one that it refuses, or to where something waits.
use Rattle.std.proofs.Common.{◌≡◌, List, [], ◌∷◌, ◌++◌, Bool, true, false, Ok, refl, sym, ap, ◌∙◌, subst, append-nil, inl, inr}
use Rattle.ion_refusals.specs.Names.{Catalog, Content, Leading, Lexeme, Limits, Long, Mark, Mark', Placed, Quoted, Reading, Reason, Stage, Turn, Value, continues, continues_now, done, first_token, gives, goes, is_top, late, on_turn, place, reads, refuses, said, settle, settle_same, settle_still, token_of, turn}
use Rattle.ion_text.specs.machine.TokenLists.{walked}
use Rattle.ion_refusals.proofs.deciding.Comings.{JoinsNothing}
use Rattle.ion_refusals.proofs.deciding.Fronts.{Came, origin}
use Rattle.ion_refusals.proofs.deciding.Tokens.{Refusing, Why, as_colons, by_itself}
use Rattle.ion_text.specs.laws.reading.complete.Going.{Direct, added, says_so, settled_reads}
use Rattle.ion_text.specs.laws.reading.complete.Pieces.{walked_now}
use Rattle.ion_text.specs.laws.showing.tokens.Walks.{walking_said}

-- what says nothing that goes on joins nothing that waits
pub joins_none : (top : Bool) (now : Stage) (x : Lexeme) (c : Content) → JoinsNothing c → continues_now top now (token_of x c) ≡ false
joins_none top (Stage.Pending h end) x c a = go c a
  where
    go : (c : Content) → JoinsNothing c → continues_now top (Stage.Pending h end) (token_of x c) ≡ false
    go (Mark' Mark.Colons) a = absurd (a.colons refl)
    go _ a = refl
joins_none top (Stage.Long w end) x c a = go c a
  where
    go : (c : Content) → JoinsNothing c → continues_now top (Stage.Long w end) (token_of x c) ≡ false
    go (Long v) a = absurd (a.long v refl)
    go (Quoted v) a = absurd (a.quoted v refl)
    go _ a = refl
joins_none top (Stage.LongName w) x c a = go c a
  where
    go : (c : Content) → JoinsNothing c → continues_now top (Stage.LongName w) (token_of x c) ≡ false
    go (Long v) a = absurd (a.long v refl)
    go _ a = refl
joins_none top Stage.Ready x c a = refl
joins_none top _ x c a = refl

-- What is so where no token is left, and whether the last token is refused for the reason, or none is.
module _ (g : Catalog) (l : Limits) (e : Reason) (Done : Reading → Type 0) (Refused : Type 0) where
  -- no token stands behind the refused one
  abbrev pub IsLast : List Placed → Type 0
  IsLast [] = Refused
  IsLast (t ∷ ts) = ⊥

  -- a turn leads to where this is so, or refuses for the reason, where it may
  abbrev pub TurnsTo : (Reading → Type 0) → Type 0 → Turn → Type 0
  TurnsTo P may (goes r) = P r
  TurnsTo P may (gives v r) = P r
  TurnsTo P may (refuses f) = may × (f ≡ e)
  TurnsTo P may (late f r) = may × (f ≡ e)

  -- the tokens lead on from the reading, and the last one is refused, or behind it is done what was to be done
  abbrev pub Heads : Reading → List Placed → Type 0
  Heads r [] = Done r
  Heads r (t ∷ ts) = (t.place ≡ place r) × (c : Content) × (said t.lexeme.kind t.lexeme.octets ≡ Ok c)
      × (Direct g l r (token_of t.lexeme c) → TurnsTo (λ n. Heads n ts) (IsLast ts) (turn g l r (token_of t.lexeme c)))
      × (continues r (token_of t.lexeme c) ≡ false
      → TurnsTo (λ k. TurnsTo (λ n. Heads n ts) (IsLast ts) (turn g l k (token_of t.lexeme c))) ⊥ (settle g l r))

  -- what a turn leads to goes on with the tokens so
  abbrev pub Turned : Turn → List Placed → Type 0
  Turned x ts = TurnsTo (λ n. Heads n ts) (IsLast ts) x

  -- where what waited is settled, the tokens lead on from there
  pub settled_heads : (r k : Reading) (t : Placed) (ts : List Placed) (h : Heads r (t ∷ ts)) → place k ≡ place r → settle g l k ≡ goes k
      → Turned (turn g l k (token_of t.lexeme h.1)) ts → Heads k (t ∷ ts)
  settled_heads r k t ts h p still d = (
    h.0 ∙ sym p,
    h.1,
    h.2,
    λ w. d,
    λ w. subst (TurnsTo (λ m. Turned (turn g l m (token_of t.lexeme h.1)) ts) ⊥) (sym still) d,
  )

  -- tokens that are read lead on to where others do
  pub read_heads : (front rest : List Placed) (r n : Reading) (vs : List Value) → reads g l r front ≡ walked vs n → Heads n rest → Heads r (front ++ rest)
  read_heads [] rest r n vs i h = subst (λ k. Heads k rest) (sym (walked_now g l [] vs r n i).1) h
  read_heads (t ∷ front) rest r n vs i h =
      let more = λ (m : Reading) (ws : List Value) (j : reads g l m front ≡ walked ws n). read_heads front rest m n ws j h in
      (p.0, p.1, p.2, direct more, settled more)
    where
      p : (t.place ≡ place r) × (c : Content) × (said t.lexeme.kind t.lexeme.octets ≡ Ok c)
      p = walking_said g l r t front (record { vs = vs; n = n; read = i })

      turned : ((m : Reading) (ws : List Value) → reads g l m front ≡ walked ws n → Heads m (front ++ rest)) → (x : Turn) (ws : List Value)
          → on_turn x (λ k. reads g l k front) ≡ walked ws n → Turned x (front ++ rest)
      turned more (goes m) ws j = more m ws j
      turned more (gives v m) ws j = let a = added g l (v ∷ []) ws n (reads g l m front) j in more m a.0 a.1
      turned more _ ws j = absurd cc

      from : ((m : Reading) (ws : List Value) → reads g l m front ≡ walked ws n → Heads m (front ++ rest)) → (k : Reading) → place k ≡ place r
          → Direct g l k (token_of t.lexeme p.1) → (ws : List Value) → reads g l k (t ∷ front) ≡ walked ws n
          → Turned (turn g l k (token_of t.lexeme p.1)) (front ++ rest)
      from more k same w ws j = turned more (turn g l k (token_of t.lexeme p.1)) ws
          (sym (first_token g l (place r) k t p.1 front (says_so g l r t p.1 p.0 p.2) (sym same) w) ∙ j)

      direct : ((m : Reading) (ws : List Value) → reads g l m front ≡ walked ws n → Heads m (front ++ rest)) → Direct g l r (token_of t.lexeme p.1)
          → Turned (turn g l r (token_of t.lexeme p.1)) (front ++ rest)
      direct more w = from more r refl w vs i

      settled : ((m : Reading) (ws : List Value) → reads g l m front ≡ walked ws n → Heads m (front ++ rest)) → continues r (token_of t.lexeme p.1) ≡ false
          → TurnsTo (λ k. Turned (turn g l k (token_of t.lexeme p.1)) (front ++ rest)) ⊥ (settle g l r)
      settled more w =
          by (settle g l r) (sym (settled_reads g l r t front p.1 p.0 p.2 w) ∙ i) (settle_same g l r.start r.context r.frames r.notes r.now)
          (settle_still g l r.start r.context r.frames r.notes r.now)
        where
          by : (x : Turn) → on_turn x (λ k. reads g l k (t ∷ front)) ≡ walked vs n → Leading g l (λ k. (place k ≡ place r) × (is_top k.frames ≡ is_top r.frames)) x
              → Leading g l (λ k. settle g l k ≡ goes k) x → TurnsTo (λ k. Turned (turn g l k (token_of t.lexeme p.1)) (front ++ rest)) ⊥ x
          by (goes k) j a b = from more k a.0 (inr b) vs j
          by (gives v k) j a b = let x = added g l (v ∷ []) vs n (reads g l k (t ∷ front)) j in from more k a.0 (inr b) x.0 x.1
          by _ j a b = absurd cc

module _ (g : Catalog) (l : Limits) (e : Reason) where
  -- nothing is to be done behind a token that is refused
  abbrev pub Never : Reading → Type 0
  Never r = ⊥

  refusing_turned : (x : Turn) → Refusing e x → Turned g l e Never (Unit {0}) x []
  refusing_turned (goes r) h = absurd h
  refusing_turned (gives v r) h = absurd h
  refusing_turned _ h = (tt, h)

  -- The tokens up to one that is refused lead there.
  pub refused_heads : (front : List Placed) (t : Placed) → Came g l front t.place → Why g l front t e
      → Heads g l e Never (Unit {0}) (origin g l) (front ++ t ∷ [])
  refused_heads front t came why = read_heads g l e Never (Unit {0}) front (t ∷ []) (origin g l) came.now came.values came.read (by why)
    where
      by : Why g l front t e → Heads g l e Never (Unit {0}) came.now (t ∷ [])
      by (by_itself m c settles k none h apart) = (sym came.here, c, k, direct, λ w. settled (settle g l came.now) s.1)
        where
          s : (later : List Value) × (on_turn (settle g l came.now) done ≡ walked later m)
          s = settles came.values came.now came.read

          here : Turned g l e Never (Unit {0}) (turn g l m (token_of t.lexeme c)) []
          here = refusing_turned (turn g l m (token_of t.lexeme c)) h

          at : (k : Reading) → k ≡ m → Turned g l e Never (Unit {0}) (turn g l k (token_of t.lexeme c)) []
          at k i = subst (λ x. Turned g l e Never (Unit {0}) (turn g l x (token_of t.lexeme c)) []) (sym i) here

          settled : (x : Turn) → on_turn x done ≡ walked s.0 m → TurnsTo g l e Never (Unit {0}) (λ k. Turned g l e Never (Unit {0}) (turn g l k (token_of t.lexeme c)) [])
              ⊥ x
          settled (goes k) i = at k (walked_now g l [] s.0 k m i).1
          settled (gives v k) i = at k (walked_now g l (v ∷ []) s.0 k m i).1
          settled _ i = absurd cc

          direct : Direct g l came.now (token_of t.lexeme c) → Turned g l e Never (Unit {0}) (turn g l came.now (token_of t.lexeme c)) []
          direct (inl w) = absurd (let n : true ≡ false = sym w ∙ joins_none (is_top came.now.frames) came.now.now t.lexeme c apart in cc)
          direct (inr still) = at came.now (walked_now g l [] s.0 came.now m (sym (ap (λ x. on_turn x done) still) ∙ s.1)).1
      by (as_colons n vs read kind h says on) =
          subst (λ k. Heads g l e Never (Unit {0}) k (t ∷ [])) (walked_now g l vs came.values n came.now (sym read ∙ came.read)).1 (
            sym came.here ∙ ap place (walked_now g l came.values vs came.now n (sym came.read ∙ read)).1,
            Mark' Mark.Colons,
            says,
            λ w. refusing_turned (turn g l n (token_of t.lexeme (Mark' Mark.Colons))) h,
            λ w. absurd (let n : true ≡ false = sym on ∙ w in cc),
          )

  -- tokens that are read lead to where something waits
  pub waiting_heads : (ts : List Placed) (n : Reading) (vs : List Value) → reads g l (origin g l) ts ≡ walked vs n
      → Heads g l e (λ k. k ≡ n) ⊥ (origin g l) ts
  waiting_heads ts n vs i = subst (Heads g l e (λ k. k ≡ n) ⊥ (origin g l)) (append-nil ts) (read_heads g l e (λ k. k ≡ n) ⊥ ts [] (origin g l) n vs i refl)
