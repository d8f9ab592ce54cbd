-- Where an octet is refused and an item is open, no whole pieces go on behind the tokens told before it.
use Rattle.std.proofs.Common.{◌≡◌, ℕ, ◌≤◌, Bool, true, false, ◌||◌, List, [], ◌∷◌, ◌++◌, length, Ok, Some, refl, sym, ap, ◌∙◌, subst, arith, append_assoc, length-append, ◌⊎◌, inl, inr}
use Rattle.ion_text.specs.Names.{BeginsWith, Catalog, Content, Frame, Known, Leading, Left, LexesTo, Limits, Mode, Next, Place, Placed, Stage, Turn, Value, Whole, at, colon_behind, continues, continues_now, feed, follow, goes, in_segment, is_fresh, is_top, place, place_in, said, said_body, scan as run, settle, takes_colon, token_of, turn, unsettled, waits}
use Rattle.ion_tokens.proofs.complete.Moves.{at as scanning}
use Rattle.ion_tokens.proofs.histories.Histories.{begins_completes}
use Rattle.ion_tokens.proofs.runs.Runs.{left_used}
use Rattle.ion_tokens.proofs.sound.Holds.{IsTold, Sound}
use Rattle.ion_tokens.proofs.sound.Sounds.{feed_sound}
use Rattle.ion_text.specs.laws.reading.complete.Complete.{starts}
use Rattle.ion_text.specs.laws.reading.complete.Going.{Going, InsideNext, Operators, TurnGoes, closed, closes_kind, going_said, going_settle, going_turn, inside_token, stays, top_place}
use Rattle.ion_text.specs.laws.reading.complete.Meets.{finely_as}
use Rattle.ion_text.specs.laws.reading.complete.Segments.{NotRefused, never, unsettled_waits}
use Rattle.ion_text.specs.laws.reading.complete.Tokens.{left_agrees, left_colons, left_two}
use Rattle.ion_text.specs.laws.reading.sound.Quotes.{Finely, is_close}
use Rattle.ion_text.specs.laws.reading.sound.Spans.{IsWaiting}
use Rattle.ion_text.specs.laws.reading.sound.StandsOpen.{NowStands}
use Rattle.ion_text.specs.laws.showing.refused.Halting.{follows}
use Rattle.ion_text.specs.laws.showing.refused.Halts.{Halted, ScanRefused, StopsAt, TurnRefuses}
use Rattle.ion_text.specs.laws.showing.refused.Stuck.{ends_goes}
use Rattle.ion_text.specs.laws.showing.shown.Opened.{a as arrival, begins as item_begins, going_behind, inside_place, long, new as unfresh, ours, size, theirs}
use Rattle.ion_text.specs.laws.showing.tokens.Compare.{Found', lexes_once}
use Rattle.ion_text.specs.laws.showing.tokens.Cuts.{OpenBehind, Parted, behind_tokens, parted, parts_same}
use Rattle.ion_text.specs.laws.showing.tokens.Exacts.{behind_used, exact_at, top_none}
use Rattle.ion_text.specs.laws.showing.tokens.Froms.{Freed, waiting_freed}
use Rattle.ion_text.specs.laws.showing.tokens.Inside.{closes_past, never_past}
use Rattle.ion_text.specs.laws.showing.tokens.Once.{begins_lexed, whole_operators}
use Rattle.ion_text.specs.laws.showing.tokens.Stays.{Arrived}

module _ (g : Catalog) (l : Limits) (u : List ℕ) (o : ℕ) (vs : List Value) (h : Halted g l u o vs) (x : Placed) (xs : List Placed)
    (some : h.b.item ≡ x ∷ xs) where
  open h use {s, r}

  abbrev p : Place
  p = place h.r

  -- the scanner has used the octets before the refused one, and no more
  pub used : s.used ≡ length u
  used = behind_used g l u vs s r h.ahead _ h.b

  abbrev k : OpenBehind p s u (h.b.front ++ h.b.item) h.ahead
  k = behind_tokens p s u (h.b.front ++ h.b.item) h.ahead h.b.scanned

  abbrev pub a : Arrived g l r.context r.frames r.notes r.now h.b.item
  a = arrival g l u vs s r h.ahead _ h.b used x xs some

  new : is_fresh r ≡ false
  new = unfresh g l u vs s r h.ahead _ h.b used x xs some

  started : starts g l 0 [] h.b.item ≡ r.start
  started = item_begins g l u vs s r h.ahead _ h.b used x xs some

  -- the tokens lead to the reading itself where something waits
  pub waited : IsWaiting g l r.now → a.r ≡ r
  waited w = a.waited w h.b.ends ∙ ap (λ (n : ℕ). at n r.context r.frames r.notes r.now) started

  -- and to what settles to it where a value may come
  ready : r.now ≡ Stage.Ready → settle g l a.r ≡ goes r
  ready e =
      a.ready e ∙ ap goes (ap (λ (n : ℕ). at n r.context r.frames r.notes Stage.Ready) started ∙ ap (λ n. at r.start r.context r.frames r.notes n) (sym e))

  -- where something is open at the top level, it waits, or a value may come
  top_now : is_top r.frames ≡ true → (r.now ≡ Stage.Ready) ⊎ IsWaiting g l r.now
  top_now top = go r.now refl
    where
      stands : (n : Stage) → r.now ≡ n → NowStands r.context [] r.notes h.b.item n
      stands n e = subst (λ m. NowStands r.context [] r.notes h.b.item m) e
          (subst (λ fs. NowStands r.context fs r.notes h.b.item r.now) (top_none r.frames top) h.b.stands)

      go : (n : Stage) → r.now ≡ n → (r.now ≡ Stage.Ready) ⊎ IsWaiting g l r.now
      go Stage.Ready e = inl e
      go Stage.After e = absurd (stands Stage.After e).2
      go Stage.Name e = absurd (stands Stage.Name e).1
      go (Stage.LongName w) e = absurd (stands (Stage.LongName w) e).struct
      go (Stage.Keyed q) e = absurd (stands (Stage.Keyed q) e).struct
      go _ e = inr (subst (IsWaiting g l) (sym e) tt)

  -- the reading that tokens lead to is in a container where this one is
  inside : is_top r.frames ≡ false → is_top (a.r).frames ≡ false
  inside e = go (is_top (a.r).frames) refl r.frames refl
    where
      go : (b : Bool) → is_top (a.r).frames ≡ b → (fs : List Frame) → r.frames ≡ fs → b ≡ false
      go false f fs i = refl
      go true f [] i = absurd (never (is_top r.frames) e (ap is_top i))
      go true f (y ∷ fs) i = absurd (inside_place y fs r.now (sym (top_place (a.r).frames (a.r).now f) ∙ (a.here ∙ ap (λ q. place_in q r.now) i)))

  module _ (following : List ℕ) (v rest : List ℕ) (t : List Value) (cut : u ≡ v ++ rest) (w : Whole g l v (rest ++ o ∷ following) t) where
    -- a token that is left before the octet
    module _ (z : Placed) (zs : List Placed) (e : w.tokens ≡ (h.b.front ++ h.b.item) ++ z ∷ zs) (n : Known) (left : feed p s o ≡ Left z.lexeme n) where
      on : (all : List Value) × Going g l a.r (z ∷ zs) all
      on = going_behind g l u vs s r h.ahead _ h.b used x xs some (o ∷ following) (follows g l u o vs h following) v rest t cut w (z ∷ zs) e

      abbrev says : (z.place ≡ place a.r) × (c : Content) × (said z.lexeme.kind z.lexeme.octets ≡ Ok c)
      says = going_said g l a.r z zs on.0 on.1

      abbrev d : Content
      d = says.1

      fine : Finely s.mode (Left z.lexeme n)
      fine = finely_as p s o (Left z.lexeme n) h.b.fine left

      -- the octet shows of what waits what the token does
      agree : waits r (Left z.lexeme n) ≡ continues r (token_of z.lexeme d)
      agree =
          left_agrees r.frames r.now n z.lexeme d (said_body z.lexeme.kind z.lexeme.octets d says.2) (left_colons p s n o z.lexeme h.b.sane left) fine.1
          (left_two p s n o z.lexeme h.b.fine (exact_at p k.colon k.end s k.since k.holds) left)

      stopped : ScanRefused g l r (feed p s o) → TurnRefuses g l (turn g l r (token_of z.lexeme d))
      stopped i = subst (ScanRefused g l r) left i d says.2

      -- from the reading itself
      from_here : Going g l r (z ∷ zs) on.0 → ⊥
      from_here f = by h.stops
        where
          shut : unsettled s r (feed p s o) ≡ false → continues r (token_of z.lexeme d) ≡ false
          shut q = sym agree ∙ go (waits r (Left z.lexeme n)) (in_segment r.now s) (ap (unsettled s r) (sym left) ∙ q)
            where
              go : (b y : Bool) → (b || y) ≡ false → b ≡ false
              go false y q = refl
              go true y q = absurd cc

          direct : (unsettled s r (feed p s o) ≡ true) ⊎ (settle g l r ≡ goes r) → (continues r (token_of z.lexeme d) ≡ true) ⊎ (settle g l r ≡ goes r)
          direct (inl q) = inl (sym agree ∙ (ap (waits r) (sym left) ∙ unsettled_waits p s r o (subst NotRefused (sym left) tt) q))
          direct (inr q) = inr q

          by : StopsAt g l s r (feed p s o) → ⊥
          by (inl (q, i)) = ends_goes g l (turn g l r (token_of z.lexeme d)) zs on.0 (stopped i) (going_turn g l r z zs on.0 d f says.2 (direct q))
          by (inr (q, i)) = ends_goes g l (settle g l r) (z ∷ zs) on.0 i (going_settle g l r z zs on.0 d f says.2 (shut q))

      -- behind annotations the reading settles to itself
      never_continues : r.now ≡ Stage.Ready → is_top r.frames ≡ true → continues a.r (token_of z.lexeme d) ≡ true → ⊥
      never_continues now top q = go (a.r).now refl
        where
          led : (y : ℕ) → Leading g l (Freed g l y) (settle g l a.r) → ⊥
          led y m = by (subst (Leading g l (Freed g l y)) (ready now) m).1
            where
              by : (is_fresh r ≡ true) ⊎ ((r.start ≡ y) × (is_top r.frames ≡ false)) → ⊥
              by (inl i) = never (is_fresh r) new i
              by (inr i) = never (is_top r.frames) i.1 top

          waiting : (m : Stage) → (a.r).now ≡ m → IsWaiting g l m → ⊥
          waiting m i f = led (a.r).start (waiting_freed g l (a.r).start (a.r).context (a.r).frames (a.r).notes (a.r).now (subst (IsWaiting g l) (sym i) f))

          none : (m : Stage) → (a.r).now ≡ m → continues_now (is_top (a.r).frames) m (token_of z.lexeme d) ≡ false → ⊥
          none m i f = never (continues a.r (token_of z.lexeme d)) (ap (λ m. continues_now (is_top (a.r).frames) m (token_of z.lexeme d)) i ∙ f) q

          named : (y : List ℕ) → (a.r).now ≡ Stage.LongName y → ⊥
          named y i =
              let settles : settle g l a.r ≡ goes (at (a.r).start (a.r).context (a.r).frames (a.r).notes (Stage.Keyed (Some y))) =
              ap (λ m. settle g l (at (a.r).start (a.r).context (a.r).frames (a.r).notes m)) i in
              let same : goes r ≡ goes (at (a.r).start (a.r).context (a.r).frames (a.r).notes (Stage.Keyed (Some y))) = sym (ready now) ∙ settles in
              let keyed : Stage.Ready ≡ Stage.Keyed (Some y) = sym now ∙ ap (λ (m : Turn). now_in m) same in
              cc
            where
              now_in : Turn → Stage
              now_in (goes m) = m.now
              now_in _ = Stage.Ready

          go : (m : Stage) → (a.r).now ≡ m → ⊥
          go (Stage.Pending q' end) i = waiting (Stage.Pending q' end) i tt
          go (Stage.Long y end) i = waiting (Stage.Long y end) i tt
          go (Stage.LongName y) i = named y i
          go n i = none n i refl

      -- where a value may come
      at_ready : r.now ≡ Stage.Ready → is_top r.frames ≡ true → ⊥
      at_ready now top = go (continues a.r (token_of z.lexeme d)) refl
        where
          go : (b : Bool) → continues a.r (token_of z.lexeme d) ≡ b → ⊥
          go true q = never_continues now top q
          go false q = from_here (subst (λ m. TurnGoes g l m (z ∷ zs) on.0) (ready now) (going_settle g l a.r z zs on.0 d on.1 says.2 q))

      -- at the top level
      at_top : is_top r.frames ≡ true → ⊥
      at_top top = by (top_now top)
        where
          by : (r.now ≡ Stage.Ready) ⊎ IsWaiting g l r.now → ⊥
          by (inl now) = at_ready now top
          by (inr wait) = from_here (subst (λ m. Going g l m (z ∷ zs) on.0) (waited wait) on.1)

      -- in a container what closes it ends behind the octets
      at_inside : is_top r.frames ≡ false → ⊥
      at_inside inner = by (inside_token g l a.r z d zs on.0 (inside inner) on.1 says.2)
        where
          b : (ahead : List ℕ) × IsTold p k.colon k.end k.since ahead (o ∷ []) z.lexeme n
          b = subst (λ y. Sound p k.colon k.end k.since o y) left (feed_sound p k.colon k.end s k.since o k.holds)

          cut' : Parted false 0 (u ++ o ∷ following) (h.b.front ++ h.b.item) (z ∷ zs) w.colon w.end (w.blank ++ (rest ++ o ∷ following))
          cut' =
              parted (h.b.front ++ h.b.item) (z ∷ zs) false 0 (u ++ o ∷ following) w.colon w.end (w.blank ++ (rest ++ o ∷ following))
              (subst (λ y. LexesTo false 0 (u ++ o ∷ following) y w.colon w.end (w.blank ++ (rest ++ o ∷ following))) e
              (theirs g l u vs s r h.ahead _ h.b used x xs some (o ∷ following) (follows g l u o vs h following) v rest t cut w))

          one : (cut'.flag ≡ k.colon) × (cut'.mid ≡ k.end) × (cut'.left ≡ k.since ++ o ∷ following)
          one = lexes_once (h.b.front ++ h.b.item) false 0 (u ++ o ∷ following) cut'.flag k.colon cut'.mid k.end cut'.left (k.since ++ o ∷ following) cut'.first
              (ours g l u vs s r h.ahead _ h.b used x xs some (o ∷ following) (follows g l u o vs h following) v rest t cut w)

          here : z.place ≡ p
          here = says.0 ∙ a.here

          -- the octets behind the token
          behind : List ℕ
          behind = cut'.second.0

          token : BeginsWith cut'.flag cut'.mid cut'.left z behind
          token = cut'.second.1

          sizes : length (token.blank ++ token.token) ≡ length ((b.1).front ++ (b.1).token)
          sizes = omega (
            arith,
            token.start,
            token.end,
            (b.1).start,
            (b.1).end,
            one.1,
            length-append token.blank token.token,
            length-append (b.1).front (b.1).token,
          )

          after : behind ≡ b.0 ++ o ∷ following
          after =
              (parts_same (token.blank ++ token.token) behind ((b.1).front ++ (b.1).token) (b.0 ++ o ∷ following)
              (sym token.cut ∙ (one.2 ∙ (ap (λ y. y ++ o ∷ following) (b.1).cut ∙ append_assoc ((b.1).front ++ (b.1).token) b.0 (o ∷ following)))) sizes).1

          found : Found' (λ s octets. Unit {0}) n (o ∷ following) zs
          found =
              begins_completes zs (colon_behind z) z.lexeme.end behind b.0 (o ∷ following) n
              (begins_lexed zs (colon_behind z) z.lexeme.end behind w.colon w.end (w.blank ++ (rest ++ o ∷ following)) cut'.second.2) after
              (λ q. subst (λ y. run q b.0 (scanning Mode.Blank [] (takes_colon y z.lexeme.kind) z.lexeme.end z.lexeme.end) ≡ Next n) (sym here)
              ((b.1).again q))

          kept : s.used ≤ n.used
          kept = (left_used p (o ∷ []) s n z.lexeme (sym (ap (λ y. follow y (λ t. Next t)) left))).0

          operators : Operators zs
          operators = last_operators (h.b.front ++ h.b.item) z zs (subst Operators e (whole_operators g l v (rest ++ o ∷ following) t w))
            where
              last_operators : (front : List Placed) (z : Placed) (zs : List Placed) → Operators (front ++ z ∷ zs) → Operators zs
              last_operators [] z zs i = i.1
              last_operators (y ∷ ys) z zs i = last_operators ys z zs i.1

          bound : w.end ≤ length u
          bound = omega (
            arith,
            size g l u vs s r h.ahead _ h.b used x xs some (o ∷ following) (follows g l u o vs h following) v rest t cut w,
            long g l u vs s r h.ahead _ h.b used x xs some (o ∷ following) (follows g l u o vs h following) v rest t cut w,
          )

          by : InsideNext g l (a.r).start z d zs → ⊥
          by (closed i j) = never (is_close z.lexeme.kind) fine.5
              (closes_kind z.lexeme.kind z.lexeme.octets d j (said_body z.lexeme.kind z.lexeme.octets d says.2))
          by (stays m others i j q) =
              never_past (length u) zs (colon_behind z) z.lexeme.end behind w.colon w.end (w.blank ++ (rest ++ o ∷ following)) cut'.second.2 bound
              (closes_past (λ s octets. Unit {0}) g l (length u) n (o ∷ following) zs found fine.0 operators (omega (arith, kept, used))
              (omega (arith, kept, used)) m others i q)

      -- where an item is open and the octet is refused, a token that it leaves goes on in no piece
      pub item_left : ⊥
      item_left = go (is_top r.frames) refl
        where
          go : (b : Bool) → is_top r.frames ≡ b → ⊥
          go true i = at_top i
          go false i = at_inside i
