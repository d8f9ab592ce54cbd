-- Tokens that are read lead the reader to where the next one is looked for; and where the last of them has ended, it isn't open still.
use Rattle.std.proofs.Common.{◌≡◌, ℕ, Bool, true, false, ◌&&◌, List, [], ◌∷◌, ◌++◌, length, refl, sym, ap, ◌∙◌, subst, append-nil, Ok, Some, ◌⊎◌, inl, inr}
use Rattle.std.proofs.lemmas.Bool.{false_from_ne_true}
use Rattle.ion_refusals.specs.Names.{Catalog, Field, Frame, Given, Known, Left, Limits, Next, Pieces, Place, Placed, Reading, Slot, Stage, Symbols, TokenKind, Value, at, at_end, begins_as_long, done, ends_long, fresh, goes, is_fresh, on_turn, place, place_in, reads, scan as run, settle, system_slots}
use Rattle.ion_tokens.proofs.complete.Found.{Gives, Last, Leaves, Unclosed}
use Rattle.ion_text.specs.machine.TokenLists.{walked}
use Rattle.ion_text.specs.laws.reading.complete.Complete.{starts}
use Rattle.ion_text.specs.laws.reading.complete.Found.{next_is}
use Rattle.ion_text.specs.laws.reading.complete.Pieces.{pieces_read, top_now, walked_now}
use Rattle.ion_text.specs.laws.reading.sound.Admits.{fresh_empty}
use Rattle.ion_text.specs.laws.reading.sound.Depths.{Deep}
use Rattle.ion_text.specs.laws.reading.sound.Held.{none_open, opened_some}
use Rattle.ion_text.specs.laws.reading.sound.StandsOpen.{NowStands, Opened}
use Rattle.ion_text.specs.laws.showing.tokens.Compare.{Found', alone}
use Rattle.ion_text.specs.laws.showing.tokens.Stays.{Arrived, arrived, item_read, opened_read}

-- nothing is asked of the scanner and the octets
abbrev pub Any : Known → List ℕ → Type 0
Any s octets = Unit {0}

-- the last of tokens
abbrev pub last_of : Placed → List Placed → Placed
last_of t [] = t
last_of t (u ∷ us) = last_of u us

-- the last of the tokens is the last of those behind a front
pub last_behind : (front : List Placed) (x : Placed) (ts : List Placed) (d : Placed) → last_of d (front ++ x ∷ ts) ≡ last_of x ts
last_behind [] x ts d = refl
last_behind (y ∷ front) x ts d = last_behind front x ts y

none_there : (front : List Placed) (x : Placed) (after : List Placed) → [] ≡ front ++ x ∷ after → ⊥
none_there [] x after e = cc
none_there (y ∷ front) x after e = cc

-- one of tokens and one behind them: that one, or one of those
pub split : (before : List Placed) (t : Placed) (front : List Placed) (x : Placed) (after : List Placed) → before ++ t ∷ [] ≡ front ++ x ∷ after
    → ((before ≡ front) × (t ≡ x)) ⊎ ((more : List Placed) × (before ≡ front ++ x ∷ more))
split [] t [] x after e = inl (refl, let h : t ≡ x = cc in h)
split [] t (y ∷ front) x after e = absurd (none_there front x after (let h : [] ≡ front ++ x ∷ after = cc in h))
split (y ∷ before) t [] x after e = inr (before, let h : y ≡ x = cc in ap (λ z. z ∷ before) h)
split (y ∷ before) t (z ∷ front) x after e =
    let h : y ≡ z = cc in
    let k : before ++ t ∷ [] ≡ front ++ x ∷ after = cc in
    by h (split before t front x after k)
  where
    by : y ≡ z → ((before ≡ front) × (t ≡ x)) ⊎ ((more : List Placed) × (before ≡ front ++ x ∷ more)) → ((y ∷ before ≡ z ∷ front) × (t ≡ x))
        ⊎ ((more : List Placed) × (y ∷ before ≡ z ∷ (front ++ x ∷ more)))
    by h (inl (i, j)) = inl (ap (λ l. y ∷ l) i ∙ ap (λ w. w ∷ front) h, j)
    by h (inr (more, i)) = inr (more, ap (λ l. y ∷ l) i ∙ ap (λ w. w ∷ (front ++ x ∷ more)) h)

module _ (g : Catalog) (l : Limits) where
  -- the reader of tokens where a document begins
  abbrev pub origin : Reading
  origin = fresh system_slots

  -- tokens that are read without a refusal lead to a reader that looks in this place
  pub record Came (ts : List Placed) (p : Place) : Type 0 where
    pub values : List Value
    pub now : Reading
    pub read : reads g l origin ts ≡ walked values now
    pub here : place now ≡ p

  -- one list is the front of the other
  abbrev pub Either : List Placed → List Placed → Type 0
  Either ts ws = ((ms : List Placed) × (ws ≡ ts ++ ms)) ⊎ ((ms : List Placed) × (ts ≡ ws ++ ms))

  -- a token has ended in the octets, whatever a scanner holds that used them
  pub record HasEnded (u : List ℕ) (t : Placed) : Type 0 where
    pub plain : t.lexeme.kind ≡ TokenKind.Operator → ⊥
    pub word : t.lexeme.kind ≡ TokenKind.Word → t.lexeme.end ≡ length u → ⊥
    pub closed : (p : Place) (s : Known) → s.used ≡ length u → at_end p s ≡ Ok (Some t.lexeme) → ⊥

  -- it isn't open
  pub found_open : (u : List ℕ) (t : Placed) → HasEnded u t → (s n : Known) (octets : List ℕ) (x : Placed) (ms : List Placed) → Found' Any s octets (x ∷ ms)
      → run x.place octets s ≡ Next n → n.used ≡ length u → last_of x ms ≡ t → ⊥
  found_open u t h s n _ _ _ (Last _ octets x s' f e) ran used is =
      let same : s' ≡ n = next_is s' n (sym f ∙ ran) in
      h.closed x.place n used (ap (at_end x.place) (sym same) ∙ (e ∙ ap (λ (y : Placed). Ok (Some y.lexeme)) is))
  found_open u t h s n _ _ _ (Gives _ octets x ms s' f e) ran used is = let k : Given x.lexeme s' ≡ Next n = sym f ∙ ran in absurd cc
  found_open u t h s n _ _ _ (Leaves _ octets x ms s' f e) ran used is = let k : Left x.lexeme s' ≡ Next n = sym f ∙ ran in absurd cc
  found_open u t h s n _ _ _ (Unclosed _ octets x ms s' colon letters bare f e first operator rest) ran used is =
      by (alone Any g l letters colon x.lexeme.end s'.used ms rest)
    where
      same : s' ≡ n
      same = next_is s' n (sym f ∙ ran)

      by : (ms ≡ []) ⊎ ((w : Placed) × (ms ≡ w ∷ []) × (w.lexeme.kind ≡ TokenKind.Word) × (w.lexeme.end ≡ s'.used)) → ⊥
      by (inl k) = h.plain (ap (λ (y : Placed). y.lexeme.kind) (sym is ∙ ap (last_of x) k) ∙ operator)
      by (inr (w, k, word, end)) =
          let it : t ≡ w = sym is ∙ ap (last_of x) k in
          h.word (ap (λ (y : Placed). y.lexeme.kind) it ∙ word) (ap (λ (y : Placed). y.lexeme.end) it ∙ (end ∙ (ap (λ (y : Known). y.used) same ∙ used)))

  -- The tokens of an open item are read.
  pub item_arrived : (c : List Slot) (fs : List Frame) (ss : Symbols) (now : Stage) (x : Placed) (xs : List Placed) → Deep l.depth fs
      → NowStands c fs ss (x ∷ xs) now → Arrived g l c fs ss now (x ∷ xs)
  item_arrived c fs ss now x xs deep d = arrived g l c fs ss now (x ∷ xs) deep d (false_from_ne_true (is_fresh (at 0 c fs ss now))
      (λ e. let n : x ∷ xs ≡ [] = fresh_empty 0 c fs ss now (x ∷ xs) e d in cc))

  -- The tokens of pieces and of an open item are read.
  pub stands_read : (c : List Slot) (front : List Placed) (vs : List Value) (fs : List Frame) (ss : Symbols) (now : Stage) (item : List Placed)
      → Pieces g l front vs c → Deep l.depth fs → NowStands c fs ss item now → (ends_long front && begins_as_long item) ≡ false
      → Came (front ++ item) (place_in fs now)
  stands_read c front vs fs ss now [] pieces deep d apart =
      let r = pieces_read g l front vs c pieces in
      let none = none_open c fs ss now d in
      record {
        values = r.given;
        now = r.now;
        read = ap (reads g l origin) (append-nil front) ∙ r.read;
        here = sym (top_now g l r.now r.later c r.settles)
            ∙ ap (λ x. place_in x now) (sym none.0);
      }
  stands_read c front vs fs ss now (x ∷ xs) pieces deep d apart =
      let a = item_arrived c fs ss now x xs deep d in
      record { values = vs ++ []; now = a.r; read = item_read g l c front vs fs ss now (x ∷ xs) tt pieces d apart a; here = a.here }

  -- behind the tokens the reader comes to this, once it has settled what waits
  abbrev pub SettlesTo : List Placed → Reading → Type 0
  SettlesTo ts m = (vs : List Value) (n : Reading) → reads g l origin ts ≡ walked vs n → (later : List Value) × (on_turn (settle g l n) done ≡ walked later m)

  item_settles : (c : List Slot) (front : List Placed) (vs : List Value) (fs : List Frame) (ss : Symbols) (now : Stage) (x : Placed) (xs : List Placed)
      (m : Reading) → Pieces g l front vs c → NowStands c fs ss (x ∷ xs) now → (ends_long front && begins_as_long (x ∷ xs)) ≡ false
      → (a : Arrived g l c fs ss now (x ∷ xs)) → settle g l a.r ≡ goes m → SettlesTo (front ++ x ∷ xs) m
  item_settles c front vs fs ss now x xs m pieces d apart a e ws n read =
      let same = walked_now g l (vs ++ []) ws a.r n (sym (item_read g l c front vs fs ss now (x ∷ xs) tt pieces d apart a) ∙ read) in
      ([], ap (λ k. on_turn (settle g l k) done) (sym same.1) ∙ ap (λ y. on_turn y done) e)

  -- where a value may come
  pub ready_settles : (c : List Slot) (front : List Placed) (vs : List Value) (fs : List Frame) (ss : Symbols) (item : List Placed) → Pieces g l front vs c
      → Deep l.depth fs → NowStands c fs ss item Stage.Ready → (ends_long front && begins_as_long item) ≡ false
      → (s : ℕ) × SettlesTo (front ++ item) (at s c fs ss Stage.Ready)
  ready_settles c front vs fs ss [] pieces deep d apart =
      let none = none_open c fs ss Stage.Ready d in (
        0,
        λ ws n e.
            let r = pieces_read g l front vs c pieces in
            let same = walked_now g l r.given ws r.now n (sym r.read ∙ (ap (reads g l origin) (sym (append-nil front)) ∙ e)) in (
              r.later,
              ap (λ k. on_turn (settle g l k) done) (sym same.1)
                  ∙ (r.settles ∙ (ap (λ y. walked r.later (at 0 c y [] Stage.Ready)) (sym none.0)
                  ∙ ap (λ y. walked r.later (at 0 c fs y Stage.Ready)) (sym none.1))),
            ),
      )
  ready_settles c front vs fs ss (x ∷ xs) pieces deep d apart =
      let a = item_arrived c fs ss Stage.Ready x xs deep d in (
        starts g l 0 [] (x ∷ xs),
        item_settles c front vs fs ss Stage.Ready x xs (at (starts g l 0 [] (x ∷ xs)) c fs ss Stage.Ready) pieces d apart a
            (a.ready refl),
      )

  -- what a struct waits for: a name, or what stands behind a field
  abbrev pub struct_now : Bool → Stage
  struct_now true = Stage.Name
  struct_now false = Stage.After

  -- in a struct
  pub struct_settles : (c : List Slot) (front : List Placed) (vs : List Value) (rs : Symbols) (ms : List Field) (fs : List Frame) (item : List Placed)
      (more : Bool) → Pieces g l front vs c → Deep l.depth (Frame.Fields rs ms ∷ fs) → Opened c (Frame.Fields rs ms ∷ fs) item more
      → (ends_long front && begins_as_long item) ≡ false → (s : ℕ) × SettlesTo (front ++ item) (at s c (Frame.Fields rs ms ∷ fs) [] (struct_now more))
  struct_settles c front vs rs ms fs [] more pieces deep o apart = absurd (let e = opened_some c (Frame.Fields rs ms ∷ fs) more o in cc)
  struct_settles c front vs rs ms fs (x ∷ xs) true pieces deep o apart =
      let a = item_arrived c (Frame.Fields rs ms ∷ fs) [] Stage.Name x xs deep (o, tt) in
      let r = opened_read g l c (Frame.Fields rs ms ∷ fs) (x ∷ xs) true deep o in
      let same = walked_now g l [] [] r.now a.r (sym r.read ∙ a.read) in
      let there = at (starts g l 0 [] (x ∷ xs)) c (Frame.Fields rs ms ∷ fs) [] Stage.Name in (
        starts g l 0 [] (x ∷ xs),
        item_settles c front vs (Frame.Fields rs ms ∷ fs) [] Stage.Name x xs there pieces (o, tt) apart a
            (subst (λ k. settle g l k ≡ goes there) same.1 r.settles),
      )
  struct_settles c front vs rs ms fs (x ∷ xs) false pieces deep o apart =
      let a = item_arrived c (Frame.Fields rs ms ∷ fs) [] Stage.After x xs deep (o, refl, tt) in
      let r = opened_read g l c (Frame.Fields rs ms ∷ fs) (x ∷ xs) false deep o in
      let same = walked_now g l [] [] r.now a.r (sym r.read ∙ a.read) in
      let there = at (starts g l 0 [] (x ∷ xs)) c (Frame.Fields rs ms ∷ fs) [] Stage.After in (
        starts g l 0 [] (x ∷ xs),
        item_settles c front vs (Frame.Fields rs ms ∷ fs) [] Stage.After x xs there pieces (o, refl, tt) apart a
            (subst (λ k. settle g l k ≡ goes there) same.1 r.settles),
      )
