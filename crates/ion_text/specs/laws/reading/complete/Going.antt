-- Tokens that go on to the end of a document, read one by one, and that the reader of octets has no reason to refuse before.
use Rattle.std.proofs.Common.{◌≡◌, ℕ, ◌+◌, ◌≤◌, List, [], ◌∷◌, ◌++◌, Bool, true, false, Result, Ok, refl, ap, sym, ◌∙◌, subst, arith, ◌⊎◌, inl, inr}
use Rattle.std.proofs.lemmas.Bool.{cond-false}
use Rattle.ion_text.specs.Names.{Catalog, Content, Frame, Given, IsBody, Known, Leading, Left, Lexeme, Limits, Mark, Mark', Mode, Next, Place, Placed, Reading, Reason, Says, Slot, Stage, Symbols, Token, TokenKind, Turn, Value, Walk, adds_values, at, begun_at, continues, done, end_of, feed, first_token, follow, fresh, gives, goes, in_place, is_fresh, is_idle, is_sexp, is_top, on_judged, on_placed, on_turn, place, place_in, reads, said, said_body, same_is, same_place, settle, settle_same, settle_still, stopped, token_of, turn}
use Rattle.ion_tokens.proofs.runs.Runs.{feed_used, left_used}
use Rattle.ion_text.specs.machine.TokenLists.{walked}
use Rattle.ion_text.specs.laws.reading.complete.Complete.{body_kind}
use Rattle.ion_text.specs.laws.reading.complete.Pieces.{walked_now}
use Rattle.ion_text.specs.laws.reading.complete.Meets.{Meets, at_blank, at_token, end_spans, finely_as, goes_on, idle_span, is_given, is_left, one_given}
use Rattle.ion_text.specs.laws.reading.sound.Quotes.{Fine, is_close}
use Rattle.ion_text.specs.laws.reading.sound.Spans.{IsClose, IsTopNow, IsWaiting, OpenAs, SettlesWithin, Spans, settle_spans, turn_spans}
use Rattle.ion_text.specs.laws.reading.sound.StandsOpen.{EndsAt, end_of_now, start_now}

-- no operator stands outside an s-expression
abbrev pub Operators : List Placed → Type 0
Operators [] = Unit {0}
Operators (t ∷ ts) = (t.lexeme.kind ≡ TokenKind.Operator → is_sexp t.place ≡ true) × Operators ts

-- where no container is open, the place is the top level
pub top_place : (fs : List Frame) (now : Stage) → is_top fs ≡ true → place_in fs now ≡ Place.Top
top_place [] now h = refl
top_place (f ∷ fs) now h = absurd cc

start_inside : (now : Stage) (start begin : ℕ) (fs : List Frame) (ss : Symbols) → is_top fs ≡ false → start_now now start begin fs ss ≡ start
start_inside Stage.Ready start begin (f ∷ fs) [] h = refl
start_inside Stage.Ready start begin [] ss h = absurd cc
start_inside _ start begin _ _ h = refl

-- a mark is said by a mark alone
pub mark_kind : (k : TokenKind) (octets : List ℕ) (m : _) → IsBody k octets (Ok (Mark' m)) → k ≡ TokenKind.Mark m
mark_kind k octets m h = body_kind k octets (Mark' m) h

-- what closes a container is a close
pub closes_kind : (k : TokenKind) (octets : List ℕ) (said : Content) → IsClose false said → IsBody k octets (Ok said) → is_close k ≡ true
closes_kind k octets (Mark' Mark.ListClose) c h = ap is_close (mark_kind k octets Mark.ListClose h)
closes_kind k octets (Mark' Mark.SexpClose) c h = ap is_close (mark_kind k octets Mark.SexpClose h)
closes_kind k octets (Mark' Mark.FieldsClose) c h = ap is_close (mark_kind k octets Mark.FieldsClose h)
closes_kind k octets _ c h = absurd c

module _ (g : Catalog) (l : Limits) where
  -- the tokens lead from the reading to the end of a document, with all these values
  pub record Going (r : Reading) (ts : List Placed) (all : List Value) : Type 0 where
    pub vs : List Value
    pub later : List Value
    pub n : Reading
    pub c : List Slot
    pub read : reads g l r ts ≡ walked vs n
    pub ends : on_turn (settle g l n) done ≡ walked later (fresh c)
    pub whole : all ≡ vs ++ later

  -- what a turn leads to goes on with the tokens
  abbrev pub TurnGoes : Turn → List Placed → List Value → Type 0
  TurnGoes (goes r) ts all = Going r ts all
  TurnGoes (gives v r) ts all = (rest : List Value) × (all ≡ v ∷ rest) × Going r ts rest
  TurnGoes _ ts all = ⊥

  -- what is added in front changes nothing else
  pub added : (us vs : List Value) (n : Reading) (w : Walk) → adds_values us w ≡ walked vs n → (ws : List Value) × (w ≡ walked ws n) × (vs ≡ us ++ ws)
  added us vs n (walked ws m) e = let same = walked_now g l (us ++ ws) vs m n e in (ws, ap (walked ws) same.1, sym same.0)
  added us vs n stopped e = absurd cc

  turn_goes : (t : Turn) (ts : List Placed) (vs later all : List Value) (n : Reading) (c : List Slot) → on_turn t (λ k. reads g l k ts) ≡ walked vs n
      → on_turn (settle g l n) done ≡ walked later (fresh c) → all ≡ vs ++ later → TurnGoes t ts all
  turn_goes (goes r) ts vs later all n c e f h = record { vs = vs; later = later; n = n; c = c; read = e; ends = f; whole = h }
  turn_goes (gives v r) ts vs later all n c e f h =
      let a = added (v ∷ []) vs n (reads g l r ts) e in
      (a.0 ++ later, h ∙ ap (λ x. x ++ later) a.2, record { vs = a.0; later = later; n = n; c = c; read = a.1; ends = f; whole = refl })
  turn_goes _ ts vs later all n c e f h = absurd cc

  -- a token that is read next stands in its place and says something
  pub reads_said : (r n : Reading) (t : Placed) (ts : List Placed) (vs : List Value) → reads g l r (t ∷ ts) ≡ walked vs n → (t.place ≡ place r) × (c : Content)
      × (said t.lexeme.kind t.lexeme.octets ≡ Ok c)
  reads_said r n t ts vs read = go (same_place t.place (place r)) refl (said t.lexeme.kind t.lexeme.octets) refl read
    where
      go : (b : Bool) → same_place t.place (place r) ≡ b → (s : Result Content Reason) → said t.lexeme.kind t.lexeme.octets ≡ s
          → on_placed g l b (on_judged g l r t s (λ k. reads g l k ts)) ≡ walked vs n → (t.place ≡ place r) × (c : Content)
          × (said t.lexeme.kind t.lexeme.octets ≡ Ok c)
      go true e (Ok c) f h = (same_is t.place (place r) e, c, f)
      go _ e _ f h = absurd cc

  -- so does one from which the tokens go on
  pub going_said : (r : Reading) (t : Placed) (ts : List Placed) (all : List Value) → Going r (t ∷ ts) all → (t.place ≡ place r) × (c : Content)
      × (said t.lexeme.kind t.lexeme.octets ≡ Ok c)
  going_said r t ts all d = reads_said r d.n t ts d.vs d.read

  -- where a value may come, settling changes nothing
  pub ready_still : (r : Reading) → r.now ≡ Stage.Ready → settle g l r ≡ goes r
  ready_still r e = subst (λ n. settle g l (at r.start r.context r.frames r.notes n) ≡ goes (at r.start r.context r.frames r.notes n)) (sym e) refl

  -- what waits goes on with the token, or nothing waits
  abbrev pub Direct : Reading → Token → Type 0
  Direct r t = (continues r t ≡ true) ⊎ (settle g l r ≡ goes r)

  -- what is said of a token in the place that the reader looks in, it says there
  pub says_so : (r : Reading) (t : Placed) (c : Content) → t.place ≡ place r → said t.lexeme.kind t.lexeme.octets ≡ Ok c → Says (place r) t c
  says_so r t c e f = record { place = e; body = said_body t.lexeme.kind t.lexeme.octets c f }

  -- a token with which what waits goes on, or where nothing does, leads to where the others go on
  pub going_turn : (r : Reading) (t : Placed) (ts : List Placed) (all : List Value) (c : Content) → Going r (t ∷ ts) all → said t.lexeme.kind t.lexeme.octets
      ≡ Ok c → Direct r (token_of t.lexeme c) → TurnGoes (turn g l r (token_of t.lexeme c)) ts all
  going_turn r t ts all c d e w =
      let p = (going_said r t ts all d).0 in
      turn_goes (turn g l r (token_of t.lexeme c)) ts d.vs d.later all d.n d.c (sym (first_token g l (place r) r t c ts (says_so r t c p e) refl w) ∙ d.read)
      d.ends d.whole

  -- what waits is settled by a token that doesn't go on with it
  pub settled_reads : (r : Reading) (t : Placed) (ts : List Placed) (c : Content) → t.place ≡ place r → said t.lexeme.kind t.lexeme.octets ≡ Ok c
      → continues r (token_of t.lexeme c) ≡ false → reads g l r (t ∷ ts) ≡ on_turn (settle g l r) (λ k. reads g l k (t ∷ ts))
  settled_reads r t ts c p e w =
      in_place g l (place r) r t c (on_judged g l r t (said t.lexeme.kind t.lexeme.octets) (λ k. reads g l k ts)) (says_so r t c p e) refl
      ∙ (ap (λ x. on_judged g l r t x (λ k. reads g l k ts)) e
      ∙ (cond-false _ _ _ w
      ∙ same (settle g l r) (settle_same g l r.start r.context r.frames r.notes r.now) (settle_still g l r.start r.context r.frames r.notes r.now)))
    where
      F : Reading → Walk
      F = λ k. on_turn (turn g l k (token_of t.lexeme c)) (λ k. reads g l k ts)

      same : (x : Turn) → Leading g l (λ n. (place n ≡ place r) × (is_top n.frames ≡ is_top r.frames)) x → Leading g l (λ n. settle g l n ≡ goes n) x
          → on_turn x F ≡ on_turn x (λ k. reads g l k (t ∷ ts))
      same (goes n) h k = sym (first_token g l (place r) n t c ts (says_so r t c p e) (sym h.0) (inr k))
      same (gives v n) h k = ap (adds_values (v ∷ [])) (sym (first_token g l (place r) n t c ts (says_so r t c p e) (sym h.0) (inr k)))
      same _ h k = refl

  -- where what waits doesn't go on with the token, it is settled to where the tokens go on
  pub going_settle : (r : Reading) (t : Placed) (ts : List Placed) (all : List Value) (c : Content) → Going r (t ∷ ts) all → said t.lexeme.kind t.lexeme.octets
      ≡ Ok c → continues r (token_of t.lexeme c) ≡ false → TurnGoes (settle g l r) (t ∷ ts) all
  going_settle r t ts all c d e w =
      turn_goes (settle g l r) (t ∷ ts) d.vs d.later all d.n d.c (sym (settled_reads r t ts c (going_said r t ts all d).0 e w) ∙ d.read) d.ends d.whole

  -- what is settled at the end
  abbrev pub TurnEnds : Turn → List Value → Type 0
  TurnEnds (goes r) all = ((c : List Slot) × (r ≡ fresh c)) × (all ≡ [])
  TurnEnds (gives v r) all = ((c : List Slot) × (r ≡ fresh c)) × (all ≡ v ∷ [])
  TurnEnds _ all = ⊥

  turn_ends : (t : Turn) (all : List Value) (c : List Slot) → on_turn t done ≡ walked all (fresh c) → TurnEnds t all
  turn_ends (goes r) all c e = let same = walked_now g l [] all r (fresh c) e in ((c, same.1), sym same.0)
  turn_ends (gives v r) all c e = let same = walked_now g l (v ∷ []) all r (fresh c) e in ((c, same.1), sym same.0)
  turn_ends _ all c e = absurd cc

  -- where no token is left, what waits is settled to a whole document
  pub going_ends : (r : Reading) (all : List Value) → Going r [] all → TurnEnds (settle g l r) all
  going_ends r all d =
      let walk = walked_now g l [] d.vs r d.n d.read in
      turn_ends (settle g l r) all d.c (ap (λ x. on_turn (settle g l x) done) walk.1
      ∙ (d.ends ∙ ap (λ x. walked x (fresh d.c)) (sym (d.whole ∙ ap (λ x. x ++ d.later) (sym walk.0)))))

  -- in a container the tokens aren't at an end
  pub inside_end : (r : Reading) (all : List Value) → is_top r.frames ≡ false → Going r [] all → ⊥
  inside_end r all h d = go (settle g l r) (settle_same g l r.start r.context r.frames r.notes r.now) (going_ends r all d)
    where
      never : (n : Reading) (c : List Slot) → n ≡ fresh c → is_top n.frames ≡ is_top r.frames → ⊥
      never n c e f = let k : true ≡ false = sym (ap (λ (x : Reading). is_top x.frames) e) ∙ (f ∙ h) in cc

      go : (t : Turn) → Leading g l (λ n. (place n ≡ place r) × (is_top n.frames ≡ is_top r.frames)) t → TurnEnds t all → ⊥
      go (goes n) a b = never n b.0.0 b.0.1 a.1
      go (gives v n) a b = never n b.0.0 b.0.1 a.1
      go _ a b = b

  -- what waited in a container is settled there
  abbrev pub InsideTurn : ℕ → Turn → Type 0
  InsideTurn start (goes r) = (is_top r.frames ≡ false) × (r.start ≡ start)
  InsideTurn start (gives v r) = ⊥
  InsideTurn start _ = Unit {0}

  -- what waits in a container is settled there, in the same item
  pub settle_inside : (start : ℕ) (c : List Slot) (fs : List Frame) (ss : Symbols) (now : Stage) → is_top fs ≡ false
      → InsideTurn start (settle g l (at start c fs ss now))
  settle_inside start c fs ss now h = go now refl
    where
      waited : (t : Turn) (end : ℕ) → SettlesWithin g l start end fs t → InsideTurn start t
      waited (goes r) end (inl k) = (k.1, k.2)
      waited (goes r) end (inr k) = absurd (let n : true ≡ false = sym k.0 ∙ h in cc)
      waited (gives v r) end k = let n : true ≡ false = sym k.0 ∙ h in cc
      waited _ end k = tt

      go : (n : Stage) → now ≡ n → InsideTurn start (settle g l (at start c fs ss now))
      go (Stage.Pending x end) e = waited (settle g l (at start c fs ss now)) (end_of_now now 0)
          (settle_spans g l start c fs ss now 0 (subst (IsWaiting g l) (sym e) tt))
      go (Stage.Long w end) e = waited (settle g l (at start c fs ss now)) (end_of_now now 0)
          (settle_spans g l start c fs ss now 0 (subst (IsWaiting g l) (sym e) tt))
      go _ e = subst (λ n. InsideTurn start (settle g l (at start c fs ss n))) (sym e) (h, refl)

  -- behind a token in a container the item is open still, or the token closed it
  pub data InsideNext (start : ℕ) (t : Placed) (c : Content) (ts : List Placed) : Type 0 where
    stays : (m : Reading) (all : List Value) → is_top m.frames ≡ false → m.start ≡ start → Going m ts all → InsideNext start t c ts
    closed : t.lexeme.end ≤ start + l.item → IsClose false c → InsideNext start t c ts

  inside_turn : (r : Reading) (t : Placed) (c : Content) (ts : List Placed) (all : List Value) → is_top r.frames ≡ false → (x : Turn)
      → Spans (is_top r.frames) c l.item (start_now r.now r.start t.lexeme.start r.frames r.notes) t.lexeme.end x → TurnGoes x ts all
      → InsideNext r.start t c ts
  inside_turn r t c ts all h x s d =
      let e = start_inside r.now r.start t.lexeme.start r.frames r.notes h in
      go x (subst (λ (n : ℕ). Spans false c l.item n t.lexeme.end x) e
      (subst (λ b. Spans b c l.item (start_now r.now r.start t.lexeme.start r.frames r.notes) t.lexeme.end x) h s)) d
    where
      go : (x : Turn) → Spans false c l.item r.start t.lexeme.end x → TurnGoes x ts all → InsideNext r.start t c ts
      go (goes m) (inl (inl k, e, f)) d = stays m all k e d
      go (goes m) (inl (inr k, e, f)) d = absurd (let n : false ≡ true = k.0 in cc)
      go (goes m) (inr k) d = closed k.0 k.1
      go (gives v m) k d = closed k.0 k.1
      go _ k d = absurd d

  -- where a container is open, nothing is asked of what waits at the top level
  pub never_top : (r : Reading) → is_top r.frames ≡ false → is_top r.frames ≡ true → IsTopNow r.now
  never_top r h k = let n : true ≡ false = sym k ∙ h in absurd cc

  inside_direct : (r : Reading) (t : Placed) (c : Content) (ts : List Placed) (all : List Value) → is_top r.frames ≡ false → Going r (t ∷ ts) all
      → said t.lexeme.kind t.lexeme.octets ≡ Ok c → Direct r (token_of t.lexeme c) → InsideNext r.start t c ts
  inside_direct r t c ts all h d e w = inside_turn r t c ts all h (turn g l r (token_of t.lexeme c)) (turn_spans g l r (token_of t.lexeme c) (never_top r h))
      (going_turn r t ts all c d e w)

  -- behind a token in a container the item is open still, or the token closed it
  pub inside_token : (r : Reading) (t : Placed) (c : Content) (ts : List Placed) (all : List Value) → is_top r.frames ≡ false → Going r (t ∷ ts) all
      → said t.lexeme.kind t.lexeme.octets ≡ Ok c → InsideNext r.start t c ts
  inside_token r t c ts all h d e = go (continues r (token_of t.lexeme c)) refl
    where
      settled : (x : Turn) → InsideTurn r.start x → Leading g l (λ n. settle g l n ≡ goes n) x → TurnGoes x (t ∷ ts) all → InsideNext r.start t c ts
      settled (goes m) a b f = subst (λ (n : ℕ). InsideNext n t c ts) a.1 (inside_direct m t c ts all a.0 f e (inr b))
      settled (gives v m) a b f = absurd a
      settled _ a b f = absurd f

      go : (b : Bool) → continues r (token_of t.lexeme c) ≡ b → InsideNext r.start t c ts
      go true w = inside_direct r t c ts all h d e (inl w)
      go false w = settled (settle g l r) (settle_inside r.start r.context r.frames r.notes r.now h) (settle_still g l r.start r.context r.frames r.notes r.now)
          (going_settle r t ts all c d e w)

  one_left : (p : Place) (s s' : Known) (o : ℕ) (x : Lexeme) → feed p s o ≡ Left x s' → s.used ≤ s'.used
  one_left p s s' o x e = let k = left_used p (o ∷ []) s s' x (sym (ap (λ y. follow y (λ t. Next t)) e)) in k.0

  -- so what follows in both cases follows; what closes a container is a close
  pub next_inside : {P : Type 0} (r : Reading) (t : Placed) (ts : List Placed) (all : List Value) → is_top r.frames ≡ false → Going r (t ∷ ts) all
      → ((m : Reading) (others : List Value) → is_top m.frames ≡ false → m.start ≡ r.start → Going m ts others → P)
      → (t.lexeme.end ≤ r.start + l.item → is_close t.lexeme.kind ≡ true → P) → P
  next_inside {P = P} r t ts all h d more last = go (inside_token r t (going_said r t ts all d).1 ts all h d (going_said r t ts all d).2)
    where
      go : InsideNext r.start t (going_said r t ts all d).1 ts → P
      go (stays m others k i x) = more m others k i x
      go (closed k i) = last k (closes_kind t.lexeme.kind t.lexeme.octets (going_said r t ts all d).1 i
          (said_body t.lexeme.kind t.lexeme.octets (going_said r t ts all d).1 (going_said r t ts all d).2))

  -- Where a container is open, the octets used are within the limit of the item.
  pub used_inside : (s : Known) (os : List ℕ) (ts : List Placed) → Meets s os ts → Fine s → (r : Reading) (all : List Value) → is_top r.frames ≡ false
      → Going r ts all → s.used ≤ r.start + l.item
  used_inside _ _ _ (at_token s t e) f r all h d =
      next_inside r t [] all h d (λ m rest k i j. absurd (inside_end m rest k j))
      (λ k i. let x = end_spans s (end_of t.place s.mode) t.lexeme e in omega (arith, x.1, k))
  used_inside _ _ _ (goes_on s o os t ts s' e m) f r all h d = let k = used_inside s' os (t ∷ ts) m (finely_as t.place s o (Next s') f e) r all h d in
      omega (arith, k, feed_used t.place s s' o e)
  used_inside _ _ _ (is_given s o os t ts s' e m) f r all h d =
      let fine = finely_as t.place s o (Given t.lexeme s') f e in
      let used = one_given t.place s s' o t.lexeme e in
      next_inside r t ts all h d (λ n rest k i j. omega (arith, used_inside s' os ts m fine.0 n rest k j, i, used)) (λ k i. omega (arith, fine.4, k, used))
  used_inside _ _ _ (is_left s o os t ts s' e m) f r all h d =
      let fine = finely_as t.place s o (Left t.lexeme s') f e in
      let used = one_left t.place s s' o t.lexeme e in
      next_inside r t ts all h d (λ n rest k i j. omega (arith, used_inside s' (o ∷ os) ts m fine.0 n rest k j, i, used))
      (λ k i. absurd (let n : true ≡ false = sym i ∙ fine.5 in cc))
  used_inside _ _ _ _ f r all h d = absurd (inside_end r all h d)

  -- at the top level a value or an annotation may come, or something waits
  abbrev pub TopOk : Reading → Type 0
  TopOk r = is_top r.frames ≡ true → IsTopNow r.now

  -- the first token is within the limit of its item
  abbrev pub LimitFor : List Placed → Type 0
  LimitFor [] = Unit {0}
  LimitFor (t ∷ ts) = (r : Reading) (all : List Value) (c : Content) → TopOk r → Going r (t ∷ ts) all → said t.lexeme.kind t.lexeme.octets ≡ Ok c
      → Direct r (token_of t.lexeme c) → t.lexeme.end ≤ start_now r.now r.start t.lexeme.start r.frames r.notes + l.item

  noted_start : (start begin : ℕ) (c : List Slot) (ss : Symbols) → is_fresh (at start c [] ss Stage.Ready) ≡ false → begun_at start begin [] ss ≡ start
  noted_start start begin c [] h = absurd cc
  noted_start start begin c (s ∷ ss) h = refl

  waiting_start : (now : Stage) (start begin : ℕ) (fs : List Frame) (ss : Symbols) → IsWaiting g l now → start_now now start begin fs ss ≡ start
  waiting_start (Stage.Pending h end) start begin fs ss w = refl
  waiting_start (Stage.Long v end) start begin fs ss w = refl
  waiting_start _ start begin fs ss w = absurd w

  waiting_end : (now : Stage) (end d : ℕ) → IsWaiting g l now → EndsAt now end → end_of_now now d ≡ end
  waiting_end (Stage.Pending h e) end d w k = k
  waiting_end (Stage.Long v e) end d w k = k
  waiting_end _ end d w k = absurd w

  -- what is settled at the top level, and then goes on or ends, is within the limit on items
  pub settled_bound : (start end : ℕ) (fs : List Frame) (t : Turn) (ts : List Placed) (all : List Value) → is_top fs ≡ true → SettlesWithin g l start end fs t
      → TurnGoes t ts all ⊎ TurnEnds t all → end ≤ start + l.item
  settled_bound start end fs (goes r) ts all h (inl k) d = absurd (let n : true ≡ false = sym h ∙ k.0 in cc)
  settled_bound start end fs (goes r) ts all h (inr k) d = k.1
  settled_bound start end fs (gives v r) ts all h k d = k.1
  settled_bound start end fs _ ts all h k (inl d) = absurd d
  settled_bound start end fs _ ts all h k (inr d) = absurd d

  -- no operator at the top level
  pub no_operator : (r : Reading) (t : Placed) → is_top r.frames ≡ true → t.place ≡ place r → (t.lexeme.kind ≡ TokenKind.Operator → is_sexp t.place ≡ true)
      → t.lexeme.kind ≡ TokenKind.Operator → ⊥
  no_operator r t h e f k = let n : true ≡ false = sym (f k) ∙ ap is_sexp (e ∙ top_place r.frames r.now h) in cc

  -- the first token ends behind these octets, unless it is an operator
  abbrev pub EndsPast : ℕ → List Placed → Type 0
  EndsPast used [] = Unit {0}
  EndsPast used (t ∷ ts) = (used ≤ t.lexeme.end) ⊎ (t.lexeme.kind ≡ TokenKind.Operator)

  -- where no token has begun, the next ends behind the octets used, unless it is an operator
  pub idle_past : (s : Known) (os : List ℕ) (ts : List Placed) → Meets s os ts → Fine s → is_idle s.mode ≡ true → EndsPast s.used ts
  idle_past s os [] meets f idle = tt
  idle_past s os (t ∷ ts) meets f idle = idle_span s os t ts meets f idle

  module _ (s : Known) (os : List ℕ) (end : ℕ) (f : Fine s) (later : end ≤ s.used) where
    -- an item that is open up to a token at the top level is within the limit there
    pub top_limit : (ts : List Placed) → Meets s os ts → Operators ts → LimitFor ts → EndsPast s.used ts → (m : Reading) (all : List Value)
        → is_top m.frames ≡ true → is_fresh m ≡ false → IsTopNow m.now → EndsAt m.now end → Going m ts all → end ≤ m.start + l.item
    top_limit ts meets ops rest past m all h new ok at' d = go m.now refl ok
      where
        waited : IsWaiting g l m.now → end ≤ m.start + l.item
        waited w = by ts meets ops rest past d
          where
            same : end_of_now m.now 0 ≡ end
            same = waiting_end m.now end 0 w at'

            bound : (us : List Placed) → TurnGoes (settle g l m) us all ⊎ TurnEnds (settle g l m) all → end ≤ m.start + l.item
            bound us x = let k = settled_bound m.start (end_of_now m.now 0) m.frames (settle g l m) us all h
                (settle_spans g l m.start m.context m.frames m.notes m.now 0 w) x in omega (arith, k, same)

            by : (ts : List Placed) → Meets s os ts → Operators ts → LimitFor ts → EndsPast s.used ts → Going m ts all → end ≤ m.start + l.item
            by [] meets ops rest past d = bound [] (inr (going_ends m all d))
            by (t ∷ ts) meets ops rest past d =
                let p = going_said m t ts all d in
                one p.0 p.1 p.2 (continues m (token_of t.lexeme p.1)) refl
              where
                one : t.place ≡ place m → (c : Content) → said t.lexeme.kind t.lexeme.octets ≡ Ok c → (b : Bool) → continues m (token_of t.lexeme c) ≡ b
                    → end ≤ m.start + l.item
                one p c e true w' =
                    let k = rest m all c (λ x. ok) d e (inl w') in
                    let i = waiting_start m.now m.start t.lexeme.start m.frames m.notes w in
                    elim past [
                      | inl j ↦ omega (arith, j, k, i, later)
                      | inr j ↦ absurd (no_operator m t h p ops.0 j)
                    ]
                one p c e false w' = bound (t ∷ ts) (inl (going_settle m t ts all c d e w'))

        ready : m.now ≡ Stage.Ready → (fs : List Frame) → m.frames ≡ fs → end ≤ m.start + l.item
        ready e (x ∷ fs) k = absurd (let n : false ≡ true = sym (ap is_top k) ∙ h in cc)
        ready e [] k = by ts meets ops rest past d
          where
            whole : m ≡ at m.start m.context [] m.notes Stage.Ready
            whole = ap (λ x. at m.start m.context x m.notes m.now) k ∙ ap (λ x. at m.start m.context [] m.notes x) e

            by : (ts : List Placed) → Meets s os ts → Operators ts → LimitFor ts → EndsPast s.used ts → Going m ts all → end ≤ m.start + l.item
            by [] meets ops rest past d =
                let x = subst (λ y. TurnEnds y all) (ready_still m e) (going_ends m all d) in
                absurd (let n : false ≡ true = sym new ∙ ap is_fresh x.0.1 in cc)
            by (t ∷ ts) meets ops rest past d =
                let p = going_said m t ts all d in
                let c = rest m all p.1 (λ x. ok) d p.2 (inr (ready_still m e)) in
                let i : start_now m.now m.start t.lexeme.start m.frames m.notes ≡ m.start =
                ap (λ (x : Reading). start_now x.now x.start t.lexeme.start x.frames x.notes) whole
                ∙ noted_start m.start t.lexeme.start m.context m.notes (sym (ap is_fresh whole) ∙ new) in
                elim past [
                  | inl j ↦ omega (arith, j, c, i, later)
                  | inr j ↦ absurd (no_operator m t h p.0 ops.0 j)
                ]

        go : (n : Stage) → m.now ≡ n → IsTopNow n → end ≤ m.start + l.item
        go (Stage.Pending k e) x y = waited (subst (IsWaiting g l) (sym x) tt)
        go (Stage.Long w e) x y = waited (subst (IsWaiting g l) (sym x) tt)
        go Stage.Ready x y = ready x m.frames refl
        go _ x y = absurd y

    -- behind a token
    turn_limit : (r : Reading) (t : Placed) (c : Content) (ts : List Placed) (all : List Value) → t.lexeme.end ≡ end → Meets s os ts → Operators ts
        → LimitFor ts → (is_top r.frames ≡ true → is_idle s.mode ≡ true) → (x : Turn) (start : ℕ) → Spans (is_top r.frames) c l.item start t.lexeme.end x
        → TurnGoes x ts all → t.lexeme.end ≤ start + l.item
    turn_limit r t c ts all same meets ops rest idle (goes m) start (inl (o, from, to)) d = go o
      where
        inside : is_top m.frames ≡ false → t.lexeme.end ≤ start + l.item
        inside h = let k = used_inside s os ts meets f m all h d in omega (arith, k, from, later, same)

        go : OpenAs (is_top r.frames) m → t.lexeme.end ≤ start + l.item
        go (inl h) = inside h
        go (inr (top, new, ok)) = by (is_top m.frames) refl
          where
            by : (b : Bool) → is_top m.frames ≡ b → t.lexeme.end ≤ start + l.item
            by false h = inside h
            by true h = let k = top_limit ts meets ops rest (idle_past s os ts meets f (idle top)) m all h new ok (subst (EndsAt m.now) same to) d in
                omega (arith, k, from, same)
    turn_limit r t c ts all same meets ops rest idle (goes m) start (inr k) d = k.0
    turn_limit r t c ts all same meets ops rest idle (gives v m) start k d = k.0
    turn_limit r t c ts all same meets ops rest idle _ start k d = absurd d

  -- Each token is within the limit of its item.
  pub limit : (s : Known) (os : List ℕ) (ts : List Placed) → Meets s os ts → Fine s → Operators ts → LimitFor ts
  limit _ _ _ (at_token s t e) f ops =
      -- behind the last token only blanks could stand
      let k : Known = record { mode = Mode.Blank; kept = []; colon = false; start = t.lexeme.end; used = t.lexeme.end } in
      λ r all c ok d i w. turn_limit k [] t.lexeme.end (record { enough = omega arith }) (omega arith) r t c [] all refl (at_blank k refl) tt tt (λ h. refl)
      (turn g l r (token_of t.lexeme c)) (start_now r.now r.start t.lexeme.start r.frames r.notes) (turn_spans g l r (token_of t.lexeme c) ok)
      (going_turn r t [] all c d i w)
  limit _ _ _ (goes_on s o os t ts s' e m) f ops = limit s' os (t ∷ ts) m (finely_as t.place s o (Next s') f e) ops
  limit _ _ _ (is_given s o os t ts s' e m) f ops =
      let x = finely_as t.place s o (Given t.lexeme s') f e in
      let rest = limit s' os ts m x.0 ops.1 in
      λ r all c ok d i w. turn_limit s' os t.lexeme.end x.0 (omega (arith, x.4)) r t c ts all refl m ops.1 rest (λ h. x.3) (turn g l r (token_of t.lexeme c))
      (start_now r.now r.start t.lexeme.start r.frames r.notes) (turn_spans g l r (token_of t.lexeme c) ok) (going_turn r t ts all c d i w)
  limit _ _ _ (is_left s o os t ts s' e m) f ops =
      let x = finely_as t.place s o (Left t.lexeme s') f e in
      let rest = limit s' (o ∷ os) ts m x.0 ops.1 in
      λ r all c ok d i w. turn_limit s' (o ∷ os) t.lexeme.end x.0 x.6 r t c ts all refl m ops.1 rest (idle x.4 r (going_said r t ts all d).0)
      (turn g l r (token_of t.lexeme c)) (start_now r.now r.start t.lexeme.start r.frames r.notes) (turn_spans g l r (token_of t.lexeme c) ok)
      (going_turn r t ts all c d i w)
    where
      idle : (is_idle s'.mode ≡ true) ⊎ (t.lexeme.kind ≡ TokenKind.Operator) → (r : Reading) → t.place ≡ place r → is_top r.frames ≡ true → is_idle s'.mode ≡ true
      idle (inl h) r p k = h
      idle (inr h) r p k = absurd (no_operator r t k p ops.0 h)
  limit _ _ _ _ f ops = tt

  -- in a container no value of the top level is whole
  pub gives_top : (r : Reading) (v : Value) (k : Reading) → is_top r.frames ≡ false → settle g l r ≡ gives v k → ⊥
  gives_top r v k h e = subst (InsideTurn r.start) e (settle_inside r.start r.context r.frames r.notes r.now h)
