-- The reader of tokens over lists of tokens.
use Rattle.std.proofs.Common.{◌≡◌, ◌+◌, ◌==◌, List, [], ◌∷◌, ◌++◌, Bool, true, false, ◌&&◌, Result, Ok, Err, refl, ap, sym, ◌∙◌, subst, append_assoc, if◌then◌else◌, ◌⊎◌, inl, inr}
use Rattle.ion_text.specs.Names.Below.{Catalog, Content, Limits, Long, Mark, Mark', Place, Placed, Quoted, Reason, Stage, Value, said, says}
use Rattle.ion_tokens.proofs.runs.Cutting.{one_body}
use Rattle.ion_text.specs.Grammar.{Says}
use Rattle.ion_text.specs.machine.EachToken.{Reading, Token, Turn, gives, goes, late, place, refuses, settle, turn}
use Rattle.ion_text.specs.machine.Places.{Leading, same_itself, same_place, settle_same}
use Rattle.ion_text.specs.machine.Run.{is_top, token_of}

-- values given, and where it led; or a refusal
pub data Walk : Type 0 where
  walked : List Value → Reading → Walk
  stopped : Walk

-- a walk before which these values came
abbrev pub adds_values : List Value → Walk → Walk
adds_values vs (walked ws r) = walked (vs ++ ws) r
adds_values vs stopped = stopped

-- a walk that ends here, without values
abbrev pub done : Reading → Walk
done r = walked [] r

-- what follows a turn that goes on, behind the value that it gives; none follows a refusal
abbrev pub on_turn : Turn → (Reading → Walk) → Walk
on_turn (goes r) f = f r
on_turn (gives v r) f = adds_values (v ∷ []) (f r)
on_turn (refuses e) f = stopped
on_turn (late e r) f = stopped

-- a walk, and behind it another from where the first led
abbrev pub then_walk : Walk → (Reading → Walk) → Walk
then_walk (walked vs r) f = adds_values vs (f r)
then_walk stopped f = stopped

-- what waits goes on with the token
abbrev pub continues_now : Bool → Stage → Token → Bool
continues_now top (Stage.Pending h end) t = of_said t.said
  where
    of_said : Content → Bool
    of_said (Mark' Mark.Colons) = true
    of_said _ = false
continues_now top (Stage.Long w end) t = of_said t.said
  where
    of_said : Content → Bool
    of_said (Long v) = true
    of_said (Quoted v) = top && (t.end == t.start + 2)
    of_said _ = false
continues_now top (Stage.LongName w) t = of_said t.said
  where
    of_said : Content → Bool
    of_said (Long v) = true
    of_said _ = false
continues_now top _ t = false

-- what waits in a reading goes on with the token
abbrev pub continues : Reading → Token → Bool
continues r t = continues_now (is_top r.frames) r.now t

module _ (g : Catalog) (l : Limits) where
  abbrev pub on_token : Reading → Token → (Reading → Walk) → Walk
  on_token r t f = if continues r t then on_turn (turn g l r t) f else on_turn (settle g l r) (λ k. on_turn (turn g l k t) f)

  -- a token by what it says; none is read on that is refused
  abbrev pub on_judged : Reading → Placed → Result Content Reason → (Reading → Walk) → Walk
  on_judged r t (Ok c) f = on_token r (token_of t.lexeme c) f
  on_judged r t (Err e) f = stopped

  -- a token in its place
  abbrev pub on_placed : Bool → Walk → Walk
  on_placed b w = if b then w else stopped

  -- the tokens one by one, each in the place in which the reader looks
  abbrev pub reads : Reading → List Placed → Walk
  reads r [] = done r
  reads r (t ∷ ts) = on_placed (same_place t.place (place r)) (on_judged r t (said t.lexeme.kind t.lexeme.octets) (λ k. reads k ts))

  -- values added before others are added with them at once
  pub adds_adds : (us vs : List Value) (w : Walk) → adds_values us (adds_values vs w) ≡ adds_values (us ++ vs) w
  adds_adds us vs (walked ws r) = ap (λ x. walked x r) (sym (append_assoc us vs ws))
  adds_adds us vs stopped = refl

  adds_then : (vs : List Value) (w : Walk) (h : Reading → Walk) → adds_values vs (then_walk w h) ≡ then_walk (adds_values vs w) h
  adds_then vs (walked ws r) h = adds_adds vs ws (h r)
  adds_then vs stopped h = refl

  -- no values added change nothing
  pub adds_none : (w : Walk) → adds_values [] w ≡ w
  adds_none (walked ws r) = refl
  adds_none stopped = refl

  turn_then : (t : Turn) (f k h : Reading → Walk) → ((r : Reading) → f r ≡ then_walk (k r) h) → on_turn t f ≡ then_walk (on_turn t k) h
  turn_then (goes r) f k h e = e r
  turn_then (gives v r) f k h e = ap (adds_values (v ∷ [])) (e r) ∙ adds_then (v ∷ []) (k r) h
  turn_then (refuses x) f k h e = refl
  turn_then (late x r) f k h e = refl

  token_then : (r : Reading) (t : Token) (f k h : Reading → Walk) → ((r : Reading) → f r ≡ then_walk (k r) h) → (b : Bool)
      → (if b then on_turn (turn g l r t) f else on_turn (settle g l r) (λ n. on_turn (turn g l n t) f))
      ≡ then_walk (if b then on_turn (turn g l r t) k else on_turn (settle g l r) (λ n. on_turn (turn g l n t) k)) h
  token_then r t f k h e true = turn_then (turn g l r t) f k h e
  token_then r t f k h e false = turn_then (settle g l r) (λ n. on_turn (turn g l n t) f) (λ n. on_turn (turn g l n t) k) h
      (λ n. turn_then (turn g l n t) f k h e)

  judged_then : (r : Reading) (t : Placed) (c : Result Content Reason) (f k h : Reading → Walk) → ((r : Reading) → f r ≡ then_walk (k r) h)
      → on_judged r t c f ≡ then_walk (on_judged r t c k) h
  judged_then r t (Ok c) f k h e = token_then r (token_of t.lexeme c) f k h e (continues r (token_of t.lexeme c))
  judged_then r t (Err x) f k h e = refl

  placed_then : (b : Bool) (x y : Walk) (h : Reading → Walk) → x ≡ then_walk y h → on_placed b x ≡ then_walk (on_placed b y) h
  placed_then true x y h e = e
  placed_then false x y h e = refl

  -- tokens in two parts
  pub reads-append : (ts us : List Placed) (r : Reading) → reads r (ts ++ us) ≡ then_walk (reads r ts) (λ k. reads k us)
  reads-append [] us r = sym (adds_none (reads r us))
  reads-append (t ∷ ts) us r =
      placed_then (same_place t.place (place r)) (on_judged r t (said t.lexeme.kind t.lexeme.octets) (λ k. reads k (ts ++ us)))
      (on_judged r t (said t.lexeme.kind t.lexeme.octets) (λ k. reads k ts)) (λ k. reads k us)
      (judged_then r t (said t.lexeme.kind t.lexeme.octets) (λ k. reads k (ts ++ us)) (λ k. reads k ts) (λ k. reads k us) (reads-append ts us))

  -- what a token says by the grammar is what it is read as
  pub said_ok : (p : Place) (t : Placed) (c : Content) → Says p t c → said t.lexeme.kind t.lexeme.octets ≡ Ok c
  said_ok p t c h = one_body t.lexeme.kind t.lexeme.octets (said t.lexeme.kind t.lexeme.octets) (Ok c) (says t.lexeme.kind t.lexeme.octets) h.body

  at_token : (r : Reading) (t : Token) (f : Reading → Walk) (b : Bool) → (b ≡ true) ⊎ (settle g l r ≡ goes r)
      → (if b then on_turn (turn g l r t) f else on_turn (settle g l r) (λ k. on_turn (turn g l k t) f)) ≡ on_turn (turn g l r t) f
  at_token r t f true h = refl
  at_token r t f false (inl e) = absurd cc
  at_token r t f false (inr e) = ap (λ x. on_turn x (λ k. on_turn (turn g l k t) f)) e

  -- a token stands in its place
  pub in_place : (p : Place) (r : Reading) (t : Placed) (c : Content) (w : Walk) → Says p t c → p ≡ place r → on_placed (same_place t.place (place r)) w ≡ w
  in_place p r t c w h here = ap (λ q. on_placed (same_place q (place r)) w) (h.place ∙ here) ∙ ap (λ b. on_placed b w) (same_itself (place r))

  settled_place : (r n : Reading) → settle g l r ≡ goes n → place n ≡ place r
  settled_place r n e = let h = subst (Leading g l (λ m. (place m ≡ place r) × (is_top m.frames ≡ is_top r.frames))) e
      (settle_same g l r.start r.context r.frames r.notes r.now) in h.0

  -- the token is one with which what waits goes on, or nothing waits
  pub first_token : (p : Place) (r : Reading) (t : Placed) (c : Content) (ts : List Placed) → Says p t c → p ≡ place r
      → (continues r (token_of t.lexeme c) ≡ true) ⊎ (settle g l r ≡ goes r) → reads r (t ∷ ts) ≡ on_turn (turn g l r (token_of t.lexeme c)) (λ k. reads k ts)
  first_token p r t c ts h here w = in_place p r t c (on_judged r t (said t.lexeme.kind t.lexeme.octets) (λ k. reads k ts)) h here
      ∙ ap (λ x. on_judged r t x (λ k. reads k ts)) (said_ok p t c h) ∙ at_token r (token_of t.lexeme c) (λ k. reads k ts) (continues r (token_of t.lexeme c)) w

  -- the token shows that what waited is whole
  pub behind_waiting : (p : Place) (r n : Reading) (t : Placed) (c : Content) (ts : List Placed) → Says p t c → p ≡ place n → continues r (token_of t.lexeme c)
      ≡ false → settle g l r ≡ goes n → reads r (t ∷ ts) ≡ on_turn (turn g l n (token_of t.lexeme c)) (λ k. reads k ts)
  behind_waiting p r n t c ts h here w e =
      in_place p r t c (on_judged r t (said t.lexeme.kind t.lexeme.octets) (λ k. reads k ts)) h (here ∙ settled_place r n e)
      ∙ (ap (λ x. on_judged r t x (λ k. reads k ts)) (said_ok p t c h)
      ∙ (ap (λ (b : Bool). if b then on_turn (turn g l r (token_of t.lexeme c)) (λ k. reads k ts) else on_turn (settle g l r)
      (λ k. on_turn (turn g l k (token_of t.lexeme c)) (λ k. reads k ts))) w
      ∙ ap (λ x. on_turn x (λ k. on_turn (turn g l k (token_of t.lexeme c)) (λ k. reads k ts))) e))
