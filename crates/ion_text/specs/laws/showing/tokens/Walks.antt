-- Tokens that are read without a refusal.
use Rattle.std.proofs.Common.{◌≡◌, false, List, [], ◌∷◌, ◌++◌, refl, sym, ap, ◌∙◌, Ok}
use Rattle.ion_text.specs.Names.{Catalog, Content, Limits, Placed, Reading, Turn, Value, continues, first_token, gives, goes, on_turn, place, reads, reads-append, said, settle, then_walk, token_of, turn}
use Rattle.ion_text.specs.machine.TokenLists.{walked}
use Rattle.ion_text.specs.laws.reading.complete.Going.{Direct, added, reads_said, says_so, settled_reads}

module _ (g : Catalog) (l : Limits) where
  -- the tokens are read from here without a refusal
  pub record Walking (r : Reading) (ts : List Placed) : Type 0 where
    pub vs : List Value
    pub n : Reading
    pub read : reads g l r ts ≡ walked vs n

  -- what a turn leads to is so
  abbrev pub TurnWalks : Turn → List Placed → Type 0
  TurnWalks (goes r) ts = Walking r ts
  TurnWalks (gives v r) ts = Walking r ts
  TurnWalks _ ts = ⊥

  turn_walks : (t : Turn) (ts : List Placed) (vs : List Value) (n : Reading) → on_turn t (λ k. reads g l k ts) ≡ walked vs n → TurnWalks t ts
  turn_walks (goes r) ts vs n e = record { vs = vs; n = n; read = e }
  turn_walks (gives v r) ts vs n e = let a = added g l (v ∷ []) vs n (reads g l r ts) e in record { vs = a.0; n = n; read = a.1 }
  turn_walks _ ts vs n e = absurd cc

  -- the first of tokens that are read without a refusal stands where the reader looks, and says something
  pub walking_said : (r : Reading) (t : Placed) (ts : List Placed) → Walking r (t ∷ ts) → (t.place ≡ place r) × (c : Content)
      × (said t.lexeme.kind t.lexeme.octets ≡ Ok c)
  walking_said r t ts d = reads_said g l r d.n t ts d.vs d.read

  pub walking_turn : (r : Reading) (t : Placed) (ts : List Placed) (c : Content) → Walking r (t ∷ ts) → said t.lexeme.kind t.lexeme.octets ≡ Ok c
      → Direct g l r (token_of t.lexeme c) → TurnWalks (turn g l r (token_of t.lexeme c)) ts
  walking_turn r t ts c d e w =
      let p = (walking_said r t ts d).0 in
      turn_walks (turn g l r (token_of t.lexeme c)) ts d.vs d.n (sym (first_token g l (place r) r t c ts (says_so g l r t c p e) refl w) ∙ d.read)

  pub walking_settle : (r : Reading) (t : Placed) (ts : List Placed) (c : Content) → Walking r (t ∷ ts) → said t.lexeme.kind t.lexeme.octets ≡ Ok c
      → continues r (token_of t.lexeme c) ≡ false → TurnWalks (settle g l r) (t ∷ ts)
  walking_settle r t ts c d e w = turn_walks (settle g l r) (t ∷ ts) d.vs d.n (sym (settled_reads g l r t ts c (walking_said r t ts d).0 e w) ∙ d.read)

  -- tokens behind others that are read
  pub behind_read : (ts us : List Placed) (r m n : Reading) (xs vs : List Value) → reads g l r ts ≡ walked xs m → reads g l r (ts ++ us) ≡ walked vs n
      → (ws : List Value) × (reads g l m us ≡ walked ws n)
  behind_read ts us r m n xs vs e f = let a = added g l xs vs n (reads g l m us) (sym (reads-append g l ts us r ∙ ap (λ x. then_walk x (λ k. reads g l k us)) e) ∙ f) in (a.0, a.1)
