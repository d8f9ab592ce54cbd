-- What the reader of octets holds stands for the octets: whole pieces, and the tokens of the open item.
use Rattle.std.proofs.Common.{◌≡◌, ℕ, ◌+◌, ◌≤◌, List, [], ◌∷◌, ◌++◌, Bool, true, false, ◌&&◌, ◌||◌, Ok, refl, ap, sym, ◌∙◌, subst, arith, append_assoc, append-nil, ◌⊎◌, inl, inr}
use Rattle.std.proofs.lemmas.Bool.{and_right}
pub use Rattle.std.proofs.lemmas.Bool.{or_parts}
use Rattle.ion_text.specs.Names.{Annotations, Catalog, Content, Follows, Frame, Given, IsBody, Known, Leading, Left, Lexeme, Limits, ListOrSexp, Long, Mode, Next, Outcome, Pieces, Place, Placed, Reading, Refused, Says, Segments, Slot, Stage, Symbols, TokenKind, Turn, Value, at, begins_as_long, begins_long, begun_at, ends_long, feed, fresh, gives, goes, holds, is_fresh, is_idle, is_long, is_quoted, is_quoting, is_sane, is_segment, is_top, is_two_quotes, joined, late, long_waits, marked, no_annotation, one_annotation, place, place_in, refuses, said, said_body, segment, settle, settle_same, span, system_slots, token_at, token_of, turn, turn_now, turns, under, waits, waits_now}
use Rattle.ion_tokens.specs.laws.Follows.{feed_follows}
use Rattle.ion_tokens.proofs.runs.Scans.{placed}
use Rattle.ion_text.specs.Grammar.{end_of}
use Rattle.ion_text.specs.laws.reading.complete.Complete.{end_more, ends_behind}
use Rattle.ion_text.specs.laws.reading.sound.Depths.{Deep, GoesDeep, settle_deep, turn_deep}
use Rattle.ion_text.specs.laws.reading.sound.Quotes.{Fine, Finely, feed_fine}
use Rattle.ion_text.specs.laws.reading.sound.Sound.{Sounds, settle_sounds, turn_sounds}
use Rattle.ion_text.specs.laws.reading.sound.StandsOpen.{EndsAt, IsInside, IsStruct, NoSegmentComes, NowStands, Opened, end_of_now, long_behind, not_long, notes_not_long, start_now, symbol_no_long, value_place}

-- a long string waits for more
abbrev pub IsLongNow : Stage → Type 0
IsLongNow (Stage.Long w end) = Unit {0}
IsLongNow (Stage.LongName w) = Unit {0}
IsLongNow _ = ⊥

-- a token has begun that becomes no segment
abbrev pub NoLongText : Mode → Type 0
NoLongText m = (is_idle m ≡ false) × (is_quoting m ≡ false)

-- what comes of an octet goes on with no long string
abbrev pub NoSegment : Bool → Outcome → Type 0
NoSegment top (Next s) = NoLongText s.mode
NoSegment top (Given x s) = is_segment x.kind ≡ false
NoSegment top (Left x s) = (top && is_quoted x.kind) ≡ false
NoSegment top (Refused n e) = Unit {0}

-- what comes of this octet goes on with no long string
abbrev pub ApartAt : ℕ → Known → Reading → Type 0
ApartAt o s r = NoSegment (is_top r.frames) (feed (place r) s o)

-- where a token has begun that becomes no segment, the next octet goes on with no long string
pub open_apart : (top : Bool) (p : Place) (s : Known) (o : ℕ) → is_sane s.mode ≡ true → Fine s → NoLongText s.mode → NoSegment top (feed p s o)
open_apart top p s o h f k = go (feed p s o) (feed_follows p s o h) (feed_fine p s o f)
  where
    go : (x : Outcome) → Follows p s.mode x → Finely s.mode x → NoSegment top x
    go (Next t) a b = (a.1 k.0, a.2 k.0 k.1)
    go (Given x t) a b = a.1 k.0 k.1
    go (Left x t) a b = and_right top (is_quoted x.kind) (b.2 k.1)
    go (Refused n e) a b = tt

-- a token that has begun with no quote, or shows that nothing goes on
long_apart : (top : Bool) (x : Outcome) → long_waits top x ≡ false → NoSegment top x
long_apart top (Next s) h = or_parts (is_idle s.mode) (is_quoting s.mode) h
long_apart top (Refused n e) h = tt
long_apart top _ h = h

-- in a container, where a left token was no segment
name_apart : (top : Bool) (x : Outcome) → top ≡ false → long_waits false x ≡ false → NoSegment top x
name_apart top (Next s) t h = or_parts (is_idle s.mode) (is_quoting s.mode) h
name_apart top (Given x s) t h = h
name_apart top (Left x s) t h = ap (λ b. b && is_quoted x.kind) t
name_apart top (Refused n e) t h = tt

-- of tokens in a row

-- tokens end in a long string just where the last of them is a segment
pub last_long : (ts : List Placed) (t : Placed) → ends_long (ts ++ t ∷ []) ≡ is_long t
last_long (x ∷ y ∷ ts) t = last_long (y ∷ ts) t
last_long _ t = refl

-- where the first of the tokens begins, if there is one
abbrev pub IsFirst : List Placed → ℕ → Type 0
IsFirst [] n = Unit {0}
IsFirst (t ∷ ts) n = t.lexeme.start ≡ n

-- there is a token
abbrev pub IsSome : List Placed → Type 0
IsSome [] = ⊥
IsSome (t ∷ ts) = Unit {0}

-- tokens with one among them aren't none
pub some_more : (ts us : List Placed) (t : Placed) → IsSome (ts ++ t ∷ us)
some_more [] us t = tt
some_more (x ∷ ts) us t = tt

no_middle : (a b c : List Placed) (t : Placed) → [] ≡ a ++ (b ++ t ∷ c) → ⊥
no_middle [] (x ∷ b) c t e = cc
no_middle _ _ c t e = cc

pub no_last : (a : List Placed) (t : Placed) → [] ≡ a ++ t ∷ [] → ⊥
no_last [] t e = cc
no_last (x ∷ a) t e = cc

pub none_front : (a b : List Placed) → [] ≡ a ++ b → ([] ≡ a) × ([] ≡ b)
none_front [] b e = (refl, e)
none_front (x ∷ a) b e = absurd cc

no_segments : (p : Place) (ts : List Placed) (w : List ℕ) → Segments p ts w → [] ≡ ts → ⊥
no_segments p _ _ (segment t w h) e = cc
no_segments p _ _ (joined ts v w t d h) e = no_last ts t e

-- where a container is open there are tokens
pub opened_some : (c : List Slot) (fs : List Frame) (more : Bool) → Opened c fs [] more → fs ≡ []
opened_some c [] more o = refl
opened_some c (Frame.Named ss ms s ∷ fs) more o = absurd (no_middle o.front o.notes (o.body ++ (o.name ++ o.colon ∷ [])) o.open' o.whole)
opened_some c _ more o = absurd (no_middle o.front o.notes o.body o.open' o.whole)

-- where there are no tokens, there are no annotations
pub no_notes : (c : List Slot) (p : Place) (ts : List Placed) (ss : Symbols) → Annotations c p ts ss → [] ≡ ts → ss ≡ []
no_notes c p _ _ no_annotation e = refl
no_notes c p _ _ (one_annotation ts ss t colons said s d i j k) e = absurd (no_middle [] ts (colons ∷ []) t e)

-- where there are no annotations, there are no tokens of them
pub none_noted : (c : List Slot) (p : Place) (ts : List Placed) (ss : Symbols) → Annotations c p ts ss → ss ≡ [] → ts ≡ []
none_noted c p _ _ no_annotation e = refl
none_noted c p _ _ (one_annotation ts ss t u said s d h i j) e = absurd (none ss e)
  where
    none : (ss : Symbols) → ss ++ s ∷ [] ≡ [] → ⊥
    none [] e = cc
    none (x ∷ ss) e = cc

-- where a field's name may come, tokens have come
pub name_some : (c : List Slot) (fs : List Frame) (ts : List Placed) → Opened c fs ts true → IsStruct fs → [] ≡ ts → ⊥
name_some c (Frame.Fields ss ms ∷ fs) ts o k e = no_middle o.front o.notes o.body o.open' (e ∙ o.whole)
name_some c _ ts o k e = k

not_inside : (fs : List Frame) → IsInside fs → fs ≡ [] → ⊥
not_inside [] h e = h
not_inside (f ∷ fs) h e = cc

-- where no token is open, nothing is
pub none_open : (c : List Slot) (fs : List Frame) (ss : Symbols) (now : Stage) → NowStands c fs ss [] now → (fs ≡ []) × (ss ≡ []) × (now ≡ Stage.Ready)
none_open c fs ss Stage.Ready d =
    let e = none_front d.front d.notes d.whole in
    (opened_some c fs true (subst (λ x. Opened c fs x true) (sym e.0) d.outer), no_notes c (value_place fs) d.notes ss d.noted e.1, refl)
none_open c fs ss (Stage.Pending h end) d = absurd (no_last d.before d.token d.whole)
none_open c fs ss (Stage.Long w end) d = absurd (no_segments (value_place fs) d.segments w d.are (none_front d.before d.segments d.whole).1)
none_open c fs ss Stage.After d = absurd (not_inside fs d.2 (opened_some c fs false d.0))
none_open c fs ss Stage.Name d = absurd (name_some c fs [] d.0 d.1 refl)
none_open c fs ss _ d = absurd (name_some c fs d.before d.outer d.struct (none_front d.before d.name d.whole).0)

-- the item began at its first token
start_kept : (c : List Slot) (fs : List Frame) (ss : Symbols) (now : Stage) (t : Placed) (ts : List Placed) (start begin : ℕ) → NowStands c fs ss (t ∷ ts) now
    → start_now now start begin fs ss ≡ start
start_kept c fs ss (Stage.Pending h end) t ts start begin d = refl
start_kept c [] [] Stage.Ready t ts start begin d =
    let none : d.notes ≡ [] = none_noted c Place.Top d.notes [] d.noted refl in
    absurd (let e : t ∷ ts ≡ [] = d.whole ∙ (ap (λ x. x ++ d.notes) d.outer ∙ none) in cc)
start_kept c _ _ _ t ts start begin d = refl

-- an s-expression whose body ends long ends the item so
long_tokens : (c : List Slot) (fs : List Frame) (ts : List Placed) → (o : Opened c fs ts true) → long_behind c fs ts o ≡ true → ends_long ts ≡ true
long_tokens c (Frame.Items ListOrSexp.Sexp ss vs ∷ fs) ts o h = ap ends_long o.whole
    ∙ ends_behind o.front (o.notes ++ o.open' ∷ o.body) (ends_behind o.notes (o.open' ∷ o.body) (ends_behind (o.open' ∷ []) o.body h))
long_tokens c _ ts o h = absurd cc

-- a token behind annotations, or one that is no segment
notes_apart : (c : List Slot) (p : Place) (notes : List Placed) (ss : Symbols) (t : Placed) → Annotations c p notes ss → (notes ≡ [] → is_long t ≡ false)
    → begins_long (notes ++ t ∷ []) ≡ false
notes_apart c p _ _ t no_annotation h = h refl
notes_apart c p _ _ t (one_annotation ts ss a colons said s d i j k) h =
    ap begins_long (append_assoc ts (a ∷ colons ∷ []) (t ∷ []))
    ∙ notes_not_long c p ts (colons ∷ t ∷ []) ss a d (not_long p a said i (symbol_no_long c said s j))

-- a segment leads to a long string
abbrev LongTurn : Turn → Type 0
LongTurn (goes r) = IsLongNow r.now
LongTurn (gives v r) = ⊥
LongTurn _ = Unit {0}

now_long : (g : Catalog) (l : Limits) (begin end start : ℕ) (c : List Slot) (fs : List Frame) (ss : Symbols) (w : List ℕ) (now : Stage)
    → LongTurn (turn_now (under g l) (at start c fs ss now) (token_at begin end (Long w)) now)
now_long g l begin end start c fs ss w Stage.Ready = tt
now_long g l begin end start c fs ss w _ = tt

-- what a segment says
pub segment_says : (k : TokenKind) (octets : List ℕ) (said : Content) → is_segment k ≡ true → IsBody k octets (Ok said) → said ≡ Long octets
segment_says TokenKind.LongString octets said e h = h.0
segment_says _ octets said e h = absurd cc

-- how a scanner stands to octets and tokens
abbrev pub Scans : Type 1
Scans = Place → Known → List ℕ → List Placed → List ℕ → Type 0

module _ (g : Catalog) (l : Limits) where
  -- Behind octets u, with values vs given: whole pieces, and the tokens of the open item. One octet may be ahead; A says that no
  -- segment follows there.
  pub record Behind (S : Scans) (u : List ℕ) (vs : List Value) (s : Known) (r : Reading) (ahead : List ℕ) (A : Type 0) : Type 0 where
    pub front : List Placed
    pub item : List Placed
    pub scanned : S (place r) s u (front ++ item) ahead
    pub pieces : Pieces g l front vs r.context
    pub stands : NowStands r.context r.frames r.notes item r.now
    pub begins : IsFirst item r.start
    pub ends : EndsAt r.now (end_of 0 item)
    pub deep : Deep l.depth r.frames
    pub apart : ends_long (front ++ item) ≡ true → IsLongNow r.now ⊎ A
    pub first : (ends_long front && begins_as_long item) ≡ false
    pub sane : is_sane s.mode ≡ true
    pub fine : Fine s

  -- the same of other octets that are scanned to the same tokens
  abbrev pub behind_as : (S S' : Scans) (u u' : List ℕ) (vs : List Value) (s s' : Known) (r : Reading) (ahead ahead' : List ℕ) (A A' : Type 0)
      → (b : Behind S u vs s r ahead A) → S' (place r) s' u' (b.front ++ b.item) ahead' → (IsLongNow r.now ⊎ A → IsLongNow r.now ⊎ A')
      → is_sane s'.mode ≡ true → Fine s' → Behind S' u' vs s' r ahead' A'
  behind_as S S' u u' vs s s' r ahead ahead' A A' b scanned f sane fine = record {
    front = b.front;
    item = b.item;
    scanned = scanned;
    pieces = b.pieces;
    stands = b.stands;
    begins = b.begins;
    ends = b.ends;
    deep = b.deep;
    apart = λ e. f (b.apart e);
    first = b.first;
    sane = sane;
    fine = fine;
  }

  -- what a turn leads to
  abbrev pub Reads : Scans → List ℕ → List Value → Known → List ℕ → (Reading → Type 0) → Turn → Type 0
  Reads S u vs s ahead A (goes r) = Behind S u vs s r ahead (A r)
  Reads S u vs s ahead A (gives v r) = Behind S u (vs ++ v ∷ []) s r ahead (A r) × (is_fresh r ≡ true)
  Reads S u vs s ahead A _ = Unit {0}

  pub fresh_stands : (c : List Slot) → NowStands c [] [] [] Stage.Ready
  fresh_stands c = record { front = []; notes = []; whole = refl; outer = refl; receives = tt; noted = no_annotation }

  -- behind a whole item nothing is open
  pub nothing_open : (S : Scans) (u : List ℕ) (vs : List Value) (s : Known) (c : List Slot) (front : List Placed) (ahead : List ℕ) (A : Type 0)
      → S Place.Top s u front ahead → Pieces g l front vs c → (ends_long front ≡ true → ⊥ ⊎ A) → is_sane s.mode ≡ true → Fine s
      → Behind S u vs s (fresh c) ahead A
  nothing_open S u vs s c front ahead A scanned pieces apart sane fine = record {
    front = front;
    item = [];
    scanned = subst (λ x. S Place.Top s u x ahead) (sym (append-nil front)) scanned;
    pieces = pieces;
    stands = fresh_stands c;
    begins = tt;
    ends = tt;
    deep = tt;
    apart = λ e. apart (sym (ap ends_long (append-nil front)) ∙ e);
    first = and_right (ends_long front) false refl;
    sane = sane;
    fine = fine;
  }

  pub span_fits : (item : List Placed) (start end : ℕ) → IsFirst item start → end ≡ end_of 0 item → end ≤ start + l.item → span item ≤ l.item
  span_fits [] start end f e h = omega arith
  span_fits (t ∷ ts) start end f e h = omega arith

  -- What a turn leads to stands for the octets, where the tokens of the open item led to it.
  pub sounds_read : (S : Scans) (u : List ℕ) (vs : List Value) (s : Known) (ahead : List ℕ) (A : Reading → Type 0) (c : List Slot) (front item : List Placed)
      (start end : ℕ) (t : Turn)
      → Pieces g l front vs c → Sounds g l c start end item t → GoesDeep l.depth t → IsFirst item start → end ≡ end_of 0 item
      → Leading g l (λ r. S (place r) s u (front ++ item) ahead) t → Leading g l (λ r. ends_long (front ++ item) ≡ true → IsLongNow r.now ⊎ A r) t
      → (ends_long front && begins_as_long item) ≡ false → is_sane s.mode ≡ true → Fine s → Reads S u vs s ahead A t
  sounds_read S u vs s ahead A c front item start end (goes r) p (inl ((same, stands), from, to)) deep first last scanned apart long sane fine = record {
    front = front;
    item = item;
    scanned = scanned;
    pieces = subst (Pieces g l front vs) (sym same) p;
    stands = subst (λ c. NowStands c r.frames r.notes item r.now) (sym same) stands;
    begins = subst (IsFirst item) (sym from) first;
    ends = subst (EndsAt r.now) last to;
    deep = deep;
    apart = apart;
    first = long;
    sane = sane;
    fine = fine;
  }
  sounds_read S u vs s ahead A c front item start end (goes r) p (inr (inl (v, d, m, table, n, levels, fits, e))) deep first last scanned apart long sane fine =
      subst (λ x. Behind S u vs s x ahead (A x)) (sym e)
      (nothing_open S u vs s d (front ++ item) ahead (A (fresh d)) (subst (λ x. S (place x) s u (front ++ item) ahead) e scanned)
      (turns front item vs c d v p m table n levels (span_fits item start end first last fits) long)
      (subst (λ (x : Reading). ends_long (front ++ item) ≡ true → IsLongNow x.now ⊎ A x) e apart) sane fine)
  sounds_read S u vs s ahead A c front item start end (goes r) p (inr (inr (t, one, m, fits, e))) deep first last scanned apart long sane fine =
      subst (λ x. Behind S u vs s x ahead (A x)) (sym e)
      (nothing_open S u vs s system_slots (front ++ item) ahead (A (fresh system_slots)) (subst (λ x. S (place x) s u (front ++ item) ahead) e scanned)
      (subst (λ x. Pieces g l (front ++ x) vs system_slots) (sym one)
      (marked front vs c t p m (subst (λ x. span x ≤ l.item) one (span_fits item start end first last fits))))
      (subst (λ (x : Reading). ends_long (front ++ item) ≡ true → IsLongNow x.now ⊎ A x) e apart) sane fine)
  sounds_read S u vs s ahead A c front item start end (gives v r) p (m, table, word, levels, fits, e) deep first last scanned apart long sane fine = (
    subst (λ x. Behind S u (vs ++ v ∷ []) s x ahead (A x)) (sym e)
        (nothing_open S u (vs ++ v ∷ []) s c (front ++ item) ahead (A (fresh c)) (subst (λ x. S (place x) s u (front ++ item) ahead) e scanned)
        (holds front item vs c v p m table word levels (span_fits item start end first last fits) long)
        (subst (λ (x : Reading). ends_long (front ++ item) ≡ true → IsLongNow x.now ⊎ A x) e apart) sane fine),
    ap is_fresh e,
  )
  sounds_read S u vs s ahead A c front item start end (refuses e) p h deep first last scanned apart long sane fine = tt
  sounds_read S u vs s ahead A c front item start end (late e r) p h deep first last scanned apart long sane fine = tt

  pub any_turn : (P : Reading → Type 0) → ((r : Reading) → P r) → (t : Turn) → Leading g l P t
  any_turn P h (goes r) = h r
  any_turn P h (gives v r) = h r
  any_turn P h _ = tt

  from_long : (A : Reading → Type 0) (B : Type 0) (t : Turn) → LongTurn t → Leading g l (λ r. B → IsLongNow r.now ⊎ A r) t
  from_long A B (goes r) h = λ b. inl h
  from_long A B (gives v r) h = absurd h
  from_long A B _ h = tt

  -- no token, before which a long string stands that doesn't wait, goes on with it
  abbrev pub NotLong : Bool → Lexeme → Type 0
  NotLong top x = (is_segment x.kind ≡ false) × (top ≡ true → is_two_quotes x.kind x.start x.end ≡ false)

  module _ (S : Scans) (u : List ℕ) (vs : List Value) (s : Known) (r : Reading) (ahead : List ℕ) (A : Type 0) (b : Behind S u vs s r ahead A) (x : Lexeme)
      (alone : A → NotLong (is_top r.frames) x) where
    not_segment : ends_long (b.front ++ b.item) ≡ true → IsLongNow r.now ⊎ NotLong (is_top r.frames) x
    not_segment e = elim (b.apart e) [ inl h ↦ inl h | inr h ↦ inr (alone h) ]

    -- a segment doesn't stand where a value may come behind one
    ready_apart : (fs : List Frame) (ss : Symbols) (now : Stage) (d : NowStands r.context fs ss b.item now)
        → (ends_long (b.front ++ b.item) ≡ true → IsLongNow now ⊎ (is_segment x.kind ≡ false)) → (c : Content)
        → NoSegmentComes r.context fs ss b.item (placed (place_in fs now) x) c now d
    ready_apart fs ss Stage.Ready d h c = λ w e. go (long_behind r.context fs d.front d.outer) refl
      where
        none : ends_long d.front ≡ true → d.notes ≡ [] → is_segment x.kind ≡ false
        none e n = elim (h (ends_behind b.front b.item (ap ends_long (d.whole ∙ (ap (λ y. d.front ++ y) n ∙ append-nil d.front)) ∙ e))) [
          | inl k ↦ absurd k
          | inr k ↦ k
        ]

        go : (y : Bool) → long_behind r.context fs d.front d.outer ≡ y → (y && begins_long (d.notes ++ placed (place_in fs Stage.Ready) x ∷ [])) ≡ false
        go false e = refl
        go true e = notes_apart r.context (value_place fs) d.notes ss (placed (place_in fs Stage.Ready) x) d.noted
            (none (long_tokens r.context fs d.front d.outer e))
    ready_apart fs ss _ d h c = tt

    segment_part : IsLongNow r.now ⊎ NotLong (is_top r.frames) x → IsLongNow r.now ⊎ (is_segment x.kind ≡ false)
    segment_part h = elim h [ inl k ↦ inl k | inr k ↦ inr k.0 ]

    first_more : (item : List Placed) → b.item ≡ item → (ends_long b.front && begins_as_long (item ++ placed (place r) x ∷ [])) ≡ false
    first_more (t ∷ ts) e = ap (λ y. ends_long b.front && begins_as_long y) (sym e) ∙ b.first
    first_more [] e = go (ends_long b.front) refl
      where
        open' : (r.frames ≡ []) × (r.notes ≡ []) × (r.now ≡ Stage.Ready)
        open' = none_open r.context r.frames r.notes r.now (subst (λ y. NowStands r.context r.frames r.notes y r.now) e b.stands)

        go : (y : Bool) → ends_long b.front ≡ y → (y && (is_segment x.kind || is_two_quotes x.kind x.start x.end)) ≡ false
        go false f = refl
        go true f = elim (not_segment (ap ends_long (ap (λ y. b.front ++ y) e ∙ append-nil b.front) ∙ f)) [
          | inl k ↦ absurd (subst IsLongNow open'.2 k)
          | inr k ↦ ap (λ y. y || is_two_quotes x.kind x.start x.end) k.0 ∙ k.1 (ap is_top open'.0)
        ]

    starts_more : (item : List Placed) → b.item ≡ item → IsFirst (item ++ placed (place r) x ∷ []) (start_now r.now r.start x.start r.frames r.notes)
    starts_more [] e =
        let o = none_open r.context r.frames r.notes r.now (subst (λ y. NowStands r.context r.frames r.notes y r.now) e b.stands) in
        sym (ap (λ y. start_now y r.start x.start r.frames r.notes) o.2
        ∙ (ap (λ y. begun_at r.start x.start y r.notes) o.0 ∙ ap (λ y. begun_at r.start x.start [] y) o.1))
    starts_more (t ∷ ts) e = subst (λ y. IsFirst y r.start) e b.begins
        ∙ sym (start_kept r.context r.frames r.notes r.now t ts r.start x.start (subst (λ y. NowStands r.context r.frames r.notes y r.now) e b.stands))

    -- A token is read.
    pub token_read : (S' : Scans) (v : List ℕ) (s' : Known) (ahead' : List ℕ) (A' : Reading → Type 0) (c : Content) → said x.kind x.octets ≡ Ok c
        → ((q : Place) → S' q s' v ((b.front ++ b.item) ++ placed (place r) x ∷ []) ahead') → is_sane s'.mode ≡ true → Fine s'
        → Reads S' v vs s' ahead' A' (turn g l r (token_of x c))
    token_read S' v s' ahead' A' c e scan sane fine =
        let t = placed (place r) x in
        let body = said_body x.kind x.octets c e in
        let says' : Says (place r) t c = record { place = refl; body = body } in
        let cut : (b.front ++ b.item) ++ t ∷ [] ≡ b.front ++ (b.item ++ t ∷ []) = append_assoc b.front b.item (t ∷ []) in
        sounds_read S' v vs s' ahead' A' r.context b.front (b.item ++ t ∷ []) (start_now r.now r.start x.start r.frames r.notes) x.end
        (turn g l r (token_of x c)) b.pieces
        (turn_sounds g l r.context r.frames r.notes r.now b.item t c r.start b.deep b.stands says'
        (ready_apart r.frames r.notes r.now b.stands (λ h. segment_part (not_segment h)) c))
        (turn_deep g l r (token_of x c) b.deep) (starts_more b.item refl) (sym (end_more b.item t 0))
        (any_turn (λ n. S' (place n) s' v (b.front ++ (b.item ++ t ∷ [])) ahead') (λ n. subst (λ y. S' (place n) s' v y ahead') cut (scan (place n)))
        (turn g l r (token_of x c)))
        (long (is_segment x.kind) refl body)
        (first_more b.item refl) sane fine
      where
        long : (y : Bool) → is_segment x.kind ≡ y → IsBody x.kind x.octets (Ok c)
            → Leading g l (λ n. ends_long (b.front ++ (b.item ++ placed (place r) x ∷ [])) ≡ true → IsLongNow n.now ⊎ A' n) (turn g l r (token_of x c))
        long true k h =
            from_long A' (ends_long (b.front ++ (b.item ++ placed (place r) x ∷ [])) ≡ true) (turn g l r (token_of x c))
            (subst (λ y. LongTurn (turn g l r (token_of x y))) (sym (segment_says x.kind x.octets c k h))
            (now_long g l x.start x.end r.start r.context r.frames r.notes x.octets r.now))
        long false k h =
            any_turn (λ n. ends_long (b.front ++ (b.item ++ placed (place r) x ∷ [])) ≡ true → IsLongNow n.now ⊎ A' n)
            (λ n i. absurd (let never : false ≡ true = sym (ap ends_long (sym (append_assoc b.front b.item (placed (place r) x ∷ [])))
            ∙ (last_long (b.front ++ b.item) (placed (place r) x) ∙ k)) ∙ i in cc))
            (turn g l r (token_of x c))

  -- what follows for each reading follows for the one that a turn leads to
  pub map_turn : (P Q : Reading → Type 0) → ((r : Reading) → P r → Q r) → (t : Turn) → Leading g l P t → Leading g l Q t
  map_turn P Q f (goes r) h = f r h
  map_turn P Q f (gives v r) h = f r h
  map_turn P Q f _ h = tt

  name_inside : (fs : List Frame) → IsStruct fs → is_top fs ≡ false
  name_inside (f ∷ fs) h = refl
  name_inside [] h = absurd h

  module _ (S : Scans) (u : List ℕ) (vs : List Value) (s : Known) (ahead : List ℕ) (o : ℕ) where
    same_apart : (n : Reading) (p : Place) (top : Bool) (y : Outcome) → place n ≡ p → is_top n.frames ≡ top → feed p s o ≡ y → NoSegment top y → ApartAt o s n
    same_apart n p top y e f k h = subst (λ q. NoSegment (is_top n.frames) (feed q s o)) (sym e)
        (subst (λ b. NoSegment b (feed p s o)) (sym f) (subst (NoSegment top) (sym k) h))

    -- What waited is settled before the octet, with which it doesn't go on.
    pub settled_read : (start : ℕ) (c : List Slot) (fs : List Frame) (ss : Symbols) (now : Stage)
        → Behind S u vs s (at start c fs ss now) ahead (ApartAt o s (at start c fs ss now)) → waits (at start c fs ss now) (feed (place_in fs now) s o) ≡ false
        → Reads S u vs s ahead (λ n. ApartAt o s n) (settle g l (at start c fs ss now))
    settled_read start c fs ss now b w = go now refl
      where
        r : Reading
        r = at start c fs ss now

        some : (now' : Stage) → now ≡ now' → (now' ≡ Stage.Ready → ⊥) → (item : List Placed) → b.item ≡ item → IsFirst item start
        some now' e n [] f = tt
        some now' e n (t ∷ ts) f = subst (λ x. IsFirst x start) f b.begins

        waited : (IsLongNow now → NoSegment (is_top fs) (feed (place_in fs now) s o)) → (d : NowStands c fs ss b.item now)
            → Reads S u vs s ahead (λ n. ApartAt o s n) (settle g l (at start c fs ss now))
        waited f d =
            sounds_read S u vs s ahead (λ n. ApartAt o s n) c b.front b.item start (end_of_now now (end_of 0 b.item)) (settle g l (at start c fs ss now))
            b.pieces
            (settle_sounds g l c fs ss now b.item start (end_of 0 b.item) d)
            (settle_deep g l (at start c fs ss now) b.deep) b.begins (last now b.ends)
            (map_turn (λ n. (place n ≡ place_in fs now) × (is_top n.frames ≡ is_top fs)) (λ n. S (place n) s u (b.front ++ b.item) ahead)
            (λ n e. subst (λ q. S q s u (b.front ++ b.item) ahead) (sym e.0) b.scanned) (settle g l (at start c fs ss now))
            (settle_same g l start c fs ss now))
            (map_turn (λ n. (place n ≡ place_in fs now) × (is_top n.frames ≡ is_top fs)) (λ n. ends_long (b.front ++ b.item) ≡ true → IsLongNow n.now
            ⊎ ApartAt o s n) (λ n e k. inr (same_apart n (place_in fs now) (is_top fs) (feed (place_in fs now) s o) e.0 e.1 refl
            (elim (b.apart k) [ inl h ↦ f h | inr h ↦ h ])))
            (settle g l (at start c fs ss now)) (settle_same g l start c fs ss now))
            b.first b.sane b.fine
          where
            last : (n : Stage) → EndsAt n (end_of 0 b.item) → end_of_now n (end_of 0 b.item) ≡ end_of 0 b.item
            last (Stage.Pending h end) e = e
            last (Stage.Long w end) e = e
            last _ e = refl

        go : (n : Stage) → now ≡ n → Reads S u vs s ahead (λ n. ApartAt o s n) (settle g l (at start c fs ss now))
        go (Stage.Pending h end) e = waited (λ k. absurd (subst IsLongNow e k)) b.stands
        go (Stage.Long v end) e = waited (λ k. long_apart (is_top fs) (feed (place_in fs now) s o)
            (ap (λ m. waits_now (is_top fs) m (feed (place_in fs now) s o)) (sym e) ∙ w)) b.stands
        go (Stage.LongName v) e = waited (λ k. name_apart (is_top fs) (feed (place_in fs now) s o)
            (name_inside fs (subst (λ m. NowStands c fs ss b.item m) e b.stands).struct) (ap (λ m. waits_now (is_top fs) m (feed (place_in fs now) s o)) (sym e)
            ∙ w)) b.stands
        go _ e = subst (λ m. Reads S u vs s ahead (λ n. ApartAt o s n) (settle g l (at start c fs ss m))) (sym e)
            (subst (λ m. Behind S u vs s (at start c fs ss m) ahead (ApartAt o s (at start c fs ss m))) e b)

  -- What waited is settled by the end.
  module _ (S : Scans) (u : List ℕ) (vs : List Value) (s : Known) (ahead : List ℕ) (A : Type 0) where
    anywhere : (r : Reading) → Behind S u vs s r ahead A → Behind S u vs s r ahead (Unit {0})
    anywhere r b = behind_as S S u u vs s s r ahead ahead A (Unit {0}) b b.scanned (λ h. inr tt) b.sane b.fine

    -- where what waited is settled by the end, what the reader holds stands for the octets still
    pub settled_end : (r : Reading) → Behind S u vs s r ahead A → Reads S u vs s ahead (λ n. Unit {0}) (settle g l r)
    settled_end r b = go r.now refl
      where
        waited : (n : Stage) → r.now ≡ n → end_of_now n (end_of 0 b.item) ≡ end_of 0 b.item → Reads S u vs s ahead (λ n. Unit {0}) (settle g l r)
        waited n e f =
            sounds_read S u vs s ahead (λ n. Unit {0}) r.context b.front b.item r.start (end_of_now r.now (end_of 0 b.item)) (settle g l r) b.pieces
            (settle_sounds g l r.context r.frames r.notes r.now b.item r.start (end_of 0 b.item) b.stands)
            (settle_deep g l r b.deep) b.begins (ap (λ m. end_of_now m (end_of 0 b.item)) e ∙ f)
            (map_turn (λ n. (place n ≡ place_in r.frames r.now) × (is_top n.frames ≡ is_top r.frames)) (λ n. S (place n) s u (b.front ++ b.item) ahead)
            (λ n e. subst (λ q. S q s u (b.front ++ b.item) ahead) (sym e.0) b.scanned) (settle g l r)
            (settle_same g l r.start r.context r.frames r.notes r.now))
            (any_turn (λ n. ends_long (b.front ++ b.item) ≡ true → IsLongNow n.now ⊎ Unit {0}) (λ n k. inr tt) (settle g l r))
            b.first b.sane b.fine

        held : (n : Stage) → r.now ≡ n → settle g l (at r.start r.context r.frames r.notes n) ≡ goes (at r.start r.context r.frames r.notes n)
            → Reads S u vs s ahead (λ n. Unit {0}) (settle g l r)
        held n e f = subst (λ m. Reads S u vs s ahead (λ n. Unit {0}) (settle g l (at r.start r.context r.frames r.notes m))) (sym e)
            (subst (λ t. Reads S u vs s ahead (λ n. Unit {0}) t) (sym f)
            (anywhere (at r.start r.context r.frames r.notes n) (subst (λ m. Behind S u vs s (at r.start r.context r.frames r.notes m) ahead A) e b)))

        go : (n : Stage) → r.now ≡ n → Reads S u vs s ahead (λ n. Unit {0}) (settle g l r)
        go (Stage.Pending h end) e = waited (Stage.Pending h end) e (subst (λ m. EndsAt m (end_of 0 b.item)) e b.ends)
        go (Stage.Long w end) e = waited (Stage.Long w end) e (subst (λ m. EndsAt m (end_of 0 b.item)) e b.ends)
        go (Stage.LongName w) e = waited (Stage.LongName w) e refl
        go x e = held x e refl
