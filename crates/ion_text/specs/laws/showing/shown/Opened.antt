-- No longer front of octets is whole pieces whatever follows, where an item is open behind them.
use Rattle.std.proofs.Common.{◌≡◌, ℕ, ◌+◌, ◌≤◌, ◌==◌, Bool, true, false, ◌||◌, List, [], ◌∷◌, ◌++◌, length, refl, sym, ap, ◌∙◌, subst, arith, append_assoc, append-nil, length-append, Ok, ◌⊎◌, inl, inr, codes}
use Rattle.std.proofs.lemmas.Bool.{false_from_ne_true}
use Rattle.std.proofs.lemmas.Bool.Decides.{nat_tests}
use Rattle.ion_text.specs.Names.{ArePieces, BeginsWith, BlankThen, Catalog, Content, Continues, Frame, Held, IsBody, IsLexeme, Known, Leading, LexesTo, Limits, ListOrSexp, Long, Mark, Mark', Place, Placed, Quoted, Reading, Scanned, Segments, Stage, State, Symbols, TokenKind, Value, Whole, adds_values, colon_behind, continues, done, ends_long, fresh, goes, initial, is_fresh, is_idle, is_quoting, is_segment, is_sexp, joined, on_turn, place, place_in, reads, said, said_body, scan as run, segment, settle, system_slots, takes_colon, token_of}
use Rattle.ion_tokens.proofs.complete.Moves.{at as scanning}
use Rattle.ion_tokens.proofs.histories.Escapes.{Escape, Escapes, escape}
use Rattle.ion_tokens.proofs.histories.Histories.{begins_completes}
use Rattle.ion_tokens.proofs.sound.Holds.{InMode}
use Rattle.ion_text.specs.machine.TokenLists.{walked}
use Rattle.ion_text.specs.laws.reading.Stops.{stood_used}
use Rattle.ion_text.specs.laws.reading.complete.Complete.{ends_behind, segment_kind, segments_long, starts}
use Rattle.ion_text.specs.laws.reading.complete.Going.{Going, added, going_said, mark_kind, settled_reads}
use Rattle.ion_text.specs.laws.reading.complete.Pieces.{GoesOn, ReadSoFar, pieces_read, quoted_kind, settled_first, top_now, walked_now}
use Rattle.ion_text.specs.laws.reading.sound.Admits.{no_item}
use Rattle.ion_text.specs.laws.reading.sound.Held.{Behind, IsFirst, IsSome, NoLongText}
use Rattle.ion_text.specs.laws.reading.sound.Spans.{IsWaiting}
use Rattle.ion_text.specs.laws.reading.sound.StandsOpen.{LongFor, NowStands, PendingFor, symbol_said}
use Rattle.ion_text.specs.laws.reading.sound.Steps.{Stood}
use Rattle.ion_text.specs.laws.showing.shown.Longest.{escaped, k as behind_all, long as their_long, octets as all_octets, size as their_size, theirs as their_tokens, token_more}
use Rattle.ion_text.specs.laws.showing.tokens.Closing.{Closing, colons_close, quotes_close}
use Rattle.ion_text.specs.laws.showing.tokens.Compare.{Found', OneIsFront, begins_after, lexes_once, meet}
use Rattle.ion_text.specs.laws.showing.tokens.Cuts.{Is, OpenBehind, Parted, parted}
use Rattle.ion_text.specs.laws.showing.tokens.Firsts.{opens_item, symbol_kind}
use Rattle.ion_text.specs.laws.showing.tokens.Froms.{AllFrom, From, Waits, fresh_parts, settle_from, walked_from}
use Rattle.ion_text.specs.laws.showing.tokens.Once.{begins_lexed, operator_inside, whole_found, whole_going, whole_operators}
use Rattle.ion_text.specs.laws.showing.tokens.Stays.{Arrived, arrived, item_read}
use Rattle.ion_text.specs.laws.showing.tokens.Walks.{behind_read, walking_said}

-- tokens in a row begin one behind the other
lexed_from : (n : ℕ) (ts : List Placed) (colon : Bool) (before : ℕ) (octets : List ℕ) (after : Bool) (end : ℕ) (rest : List ℕ) (g : Catalog) (l : Limits)
    → n ≤ before → LexesTo colon before octets ts after end rest → AllFrom g l n ts
lexed_from n [] colon before octets after end rest g l k h = tt
lexed_from n (t ∷ ts) colon before octets after end rest g l k (q, b, h) =
    (omega (arith, k, b.start), lexed_from n ts (colon_behind t) t.lexeme.end q after end rest g l (omega (arith, k, b.end)) h)

-- a segment is the token of a long string
pub segment_is : (k : TokenKind) → is_segment k ≡ true → k ≡ TokenKind.LongString
segment_is TokenKind.LongString h = refl
segment_is _ h = absurd cc

-- a token behind a blank that begins with these octets
pub blank_token : (more x octets left rest : List ℕ) (colon : Bool) (n : ℕ) (t : Placed) (b : BeginsWith colon n octets t rest) → b.token ≡ more ++ x
    → octets ≡ left → BlankThen more left
blank_token more x octets left rest colon n t b e f = (
  b.blank,
  x ++ rest,
  b.is_blank,
  sym f ∙ (b.cut ∙ (ap (λ z. (b.blank ++ z) ++ rest) e ∙ (ap (λ z. z ++ rest) (sym (append_assoc b.blank more x)) ∙ append_assoc (b.blank ++ more) x rest))),
)

-- what stands behind a symbol, or a string
pub colons_token : (p : Place) (colon : Bool) (w r : List ℕ) (k : TokenKind) (kept : List ℕ) → IsLexeme p colon w r k kept → k ≡ TokenKind.Mark Mark.Colons
    → (w ≡ codes "::") × (colon ≡ true)
colons_token p colon w r k kept h e = let i = subst (λ x. IsLexeme p colon w r x kept) e h in (i.1, i.2)

-- a segment of a long string begins with `''`
pub long_token : (p : Place) (colon : Bool) (w r : List ℕ) (k : TokenKind) (kept : List ℕ) → IsLexeme p colon w r k kept → k ≡ TokenKind.LongString → (x : List ℕ)
    × (w ≡ codes "''" ++ x)
long_token p colon w r k kept h e = let i = subst (λ x. IsLexeme p colon w r x kept) e h in (39 ∷ (i.0 ++ codes "'''"), i.2)

-- a quoted symbol of two octets is `''`
pub quoted_token : (p : Place) (colon : Bool) (w r : List ℕ) (k : TokenKind) (kept : List ℕ) → IsLexeme p colon w r k kept → k ≡ TokenKind.QuotedSymbol
    → length w ≡ 2 → w ≡ codes "''" ++ []
quoted_token p colon w r k kept h e n = let i = subst (λ x. IsLexeme p colon w r x kept) e h in by (i.0) (i.2)
  where
    by : (content : List ℕ) → w ≡ (39 ∷ content) ++ 39 ∷ [] → w ≡ codes "''" ++ []
    by [] f = f
    by (o ∷ os) f = absurd (omega (arith, n, ap length f, length-append os (39 ∷ [])))

-- behind a symbol a colon may stand
pub symbol_colon : (p : Place) (k : TokenKind) (octets : List ℕ) (c : Content) → IsBody k octets (Ok c) → symbol_said c ≡ true → takes_colon p k ≡ true
symbol_colon p k octets c h e = go k (symbol_kind k octets c h e) h
  where
    go : (k : TokenKind) → opens_item k ≡ true → IsBody k octets (Ok c) → takes_colon p k ≡ true
    go TokenKind.Word i h = refl
    go TokenKind.KindName i h = refl
    go TokenKind.QuotedSymbol i h = refl
    go TokenKind.LongString i h = absurd (let n : false ≡ true = sym (ap symbol_said h.0) ∙ e in cc)
    go (TokenKind.Mark m) i h = absurd (let j : c ≡ Mark' m = cc in let n : false ≡ true = sym (ap symbol_said j) ∙ e in cc)
    go _ i h = absurd cc

-- the last of a long string's tokens
pub segments_last : (p : Place) (ts : List Placed) (w : List ℕ) → Segments p ts w → (front : List Placed) × (z : Placed) × (ts ≡ front ++ z ∷ [])
    × (z.place ≡ p) × (z.lexeme.kind ≡ TokenKind.LongString)
segments_last p _ _ (segment t w h) = ([], t, refl, h.place, segment_is t.lexeme.kind (segment_kind t.lexeme.kind t.lexeme.octets w h.body))
segments_last p _ _ (joined ts v w t d h) = (ts, t, refl, h.place, segment_is t.lexeme.kind (segment_kind t.lexeme.kind t.lexeme.octets w h.body))

last_colon : (z : Placed) (colon : Bool) (before : ℕ) (octets : List ℕ) (after : Bool) (end : ℕ) (rest : List ℕ)
    → LexesTo colon before octets (z ∷ []) after end rest → colon_behind z ≡ after
last_colon z colon before octets after end rest (q, b, h) = h.0

-- in a container the place isn't the top level
pub inside_place : (f : Frame) (fs : List Frame) (now : Stage) → Place.Top ≡ place_in (f ∷ fs) now → ⊥
inside_place (Frame.Items ListOrSexp.List ss vs) fs now e = cc
inside_place (Frame.Fields ss ms) fs Stage.Ready e = cc
inside_place _ fs _ e = cc

module _ (g : Catalog) (l : Limits) (u : List ℕ) (vs : List Value) (s : Known) (r : Reading) (ahead : List ℕ) (A : Type 0)
    (b : Behind g l Scanned u vs s r ahead A) (used : s.used ≡ length u) (x : Placed) (xs : List Placed) (some : b.item ≡ x ∷ xs) where
  abbrev p : Place
  p = place r

  abbrev pub k : OpenBehind p s u (b.front ++ b.item) ahead
  k = behind_all g l u vs s r ahead A b used

  -- an item is open
  pub new : is_fresh r ≡ false
  new = false_from_ne_true (is_fresh r) (λ e. let n : [] ≡ x ∷ xs = sym (no_item g l Scanned u vs s r ahead A b e) ∙ some in cc)

  -- the tokens of the open item lead the reader of tokens to where it stands
  pub a : Arrived g l r.context r.frames r.notes r.now b.item
  a = arrived g l r.context r.frames r.notes r.now b.item b.deep b.stands new

  -- all tokens are read
  read : reads g l (fresh system_slots) (b.front ++ b.item) ≡ walked (vs ++ []) a.r
  read = item_read g l r.context b.front vs r.frames r.notes r.now b.item (subst IsSome (sym some) tt) b.pieces b.stands b.first a

  -- the open item begins where the first of its tokens does
  pub begins : starts g l 0 [] b.item ≡ r.start
  begins = subst (λ y. IsFirst y r.start → starts g l 0 [] y ≡ r.start) (sym some) (λ e. e) b.begins

  -- where an item begins that no earlier token begins
  begins_from : (n : ℕ) → From g l n a.r → n ≤ r.start
  begins_from n f = by a.is
    where
      settled : (y : Reading) → is_fresh y ≡ false → y.start ≡ starts g l 0 [] b.item → From g l n y → n ≤ r.start
      settled y h e (ok, inl i) = absurd (let never : true ≡ false = sym i ∙ h in cc)
      settled y h e (ok, inr i) = omega (arith, i, e, begins)

      waiting : IsWaiting g l a.r.now → a.r.start ≡ starts g l 0 [] b.item → From g l n a.r → n ≤ r.start
      waiting w e (ok, inl i) = absurd (subst (IsWaiting g l) (fresh_parts a.r.start a.r.context a.r.frames a.r.notes a.r.now i).2 w)
      waiting w e (ok, inr i) = omega (arith, i, e, begins)

      by : ((y : Reading) × (settle g l a.r ≡ goes y) × (is_fresh y ≡ false) × (y.start ≡ starts g l 0 [] b.item))
          ⊎ (IsWaiting g l r.now × IsWaiting g l a.r.now × (a.r.start ≡ starts g l 0 [] b.item)) → n ≤ r.start
      by (inl (y, e, h, i)) = settled y h i (subst (Leading g l (From g l n)) e (settle_from g l n a.r.start a.r.context a.r.frames a.r.notes a.r.now f))
      by (inr (w, w', e)) = waiting w' e f

  -- whole pieces at the front of the octets, before octets that go on with those ahead
  module _ (more : List ℕ) (c : Continues more ahead) (v rest : List ℕ) (t : List Value) (cut : u ≡ v ++ rest) (w : Whole g l v (rest ++ more) t) where
    -- the tokens of the whole pieces are those of the octets and what follows
    pub theirs : LexesTo false 0 (u ++ more) w.tokens w.colon w.end (w.blank ++ (rest ++ more))
    theirs = their_tokens g l u vs s r ahead A b used v rest more t cut w

    -- the whole pieces end where the blank behind their tokens does
    pub size : w.end + length w.blank ≡ length v
    size = their_size g l u vs s r ahead A b used v rest more t cut w

    -- the whole pieces have no more octets than there are
    pub long : length v ≤ length u
    long = their_long g l u vs s r ahead A b used v rest more t cut w

    -- the tokens that were told are those of the octets and what follows
    pub ours : LexesTo false 0 (u ++ more) (b.front ++ b.item) k.colon k.end (k.since ++ more)
    ours = k.lexes more c

    going : Going g l (fresh system_slots) w.tokens t
    going = whole_going g l v (rest ++ more) t w

    met : OneIsFront (b.front ++ b.item) w.tokens
    met =
        meet (λ s octets. Unit {0}) g l initial (u ++ more) (b.front ++ b.item)
        (begins_completes (b.front ++ b.item) false 0 (u ++ more) [] (u ++ more) initial
        (begins_lexed (b.front ++ b.item) false 0 (u ++ more) k.colon k.end (k.since ++ more) ours) refl (λ p. refl))
        w.tokens (subst (λ y. Found' (λ s octets. Unit {0}) initial y w.tokens) (all_octets g l u vs s r ahead A b used v rest more t cut w)
        (whole_found g l v (rest ++ more) t w))
        (whole_operators g l v (rest ++ more) t w) (fresh system_slots) t (record { vs = vs ++ []; n = a.r; read = read }) going

    -- where they have more tokens, the reading goes on with those
    pub going_behind : (ws : List Placed) → w.tokens ≡ (b.front ++ b.item) ++ ws → (all : List Value) × Going g l a.r ws all
    going_behind ws e =
        let more = behind_read g l (b.front ++ b.item) ws (fresh system_slots) a.r going.n (vs ++ []) going.vs read
        (ap (reads g l (fresh system_slots)) (sym e) ∙ going.read) in
        (more.0 ++ going.later, record { vs = more.0; later = going.later; n = going.n; c = going.c; read = more.1; ends = going.ends; whole = refl })

    -- where they have, the next one ends behind the octets
    abbrev pub NoneEnds : Type 0
    NoneEnds = (z : Placed) (zs : List Placed) → w.tokens ≡ (b.front ++ b.item) ++ z ∷ zs → Is p z.lexeme (run p more s) → z.lexeme.end ≤ s.used → ⊥

    never_more : NoneEnds → (z : Placed) (zs : List Placed) → w.tokens ≡ (b.front ++ b.item) ++ z ∷ zs → ⊥
    never_more ended z zs e =
        let behind = going_behind (z ∷ zs) e in
        let here = (going_said g l a.r z zs behind.0 behind.1).0 ∙ a.here in
        let y = token_more g l u vs s r ahead A b used v rest more t cut w (b.front ++ b.item) ours z zs e here in
        ended z zs e y.0 y.1

    -- where they are the fewer, they end before the next token, and the open item begins no earlier
    fewer : (y : Placed) (ys : List Placed) → b.front ++ b.item ≡ w.tokens ++ y ∷ ys → y.place ≡ Place.Top → length v ≤ r.start
    fewer y ys e top = by (continues d.now (token_of y.lexeme content)) refl
      where
        parts : Parted false 0 (u ++ more) w.tokens (y ∷ ys) k.colon k.end (k.since ++ more)
        parts = parted w.tokens (y ∷ ys) false 0 (u ++ more) k.colon k.end (k.since ++ more)
            (subst (λ z. LexesTo false 0 (u ++ more) z k.colon k.end (k.since ++ more)) e ours)

        one : (parts.flag ≡ w.colon) × (parts.mid ≡ w.end) × (parts.left ≡ w.blank ++ (rest ++ more))
        one = lexes_once w.tokens false 0 (u ++ more) parts.flag w.colon parts.mid w.end parts.left (w.blank ++ (rest ++ more)) parts.first theirs

        token : BeginsWith parts.flag parts.mid parts.left y (parts.second).0
        token = (parts.second).1

        behind : length v ≤ y.lexeme.start
        behind =
            let plain = operator_inside y.place parts.flag token.token (parts.second).0 y.lexeme.kind y.lexeme.octets token.is (ap is_sexp top) in
            let starts = begins_after parts.flag parts.mid parts.left y (parts.second).0 w.blank (rest ++ more) token plain w.is_blank one.2 in
            omega (arith, starts, one.1, size)

        d : ReadSoFar g l w.tokens t w.context
        d = pieces_read g l w.tokens t w.context w.pieces

        others : (ws : List Value) × (reads g l d.now (y ∷ ys) ≡ walked ws a.r)
        others = behind_read g l w.tokens (y ∷ ys) (fresh system_slots) d.now a.r d.given (vs ++ []) d.read (ap (reads g l (fresh system_slots)) (sym e) ∙ read)

        is : (y.place ≡ place d.now) × (c : Content) × (said y.lexeme.kind y.lexeme.octets ≡ Ok c)
        is = walking_said g l d.now y ys (record { vs = others.0; n = a.r; read = others.1 })

        content : Content
        content = is.1

        body : (c' : Content) → content ≡ c' → IsBody y.lexeme.kind y.lexeme.octets (Ok c')
        body c' h = subst (λ z. IsBody y.lexeme.kind y.lexeme.octets (Ok z)) h (said_body y.lexeme.kind y.lexeme.octets content is.2)

        quotes : ends_long w.tokens ≡ true → (z : List ℕ) → token.token ≡ codes "''" ++ z → ⊥
        quotes h z i = w.no_segment h (blank_token (codes "''") z parts.left (w.blank ++ (rest ++ more)) (parts.second).0 parts.flag parts.mid y token i one.2)

        goes_on : (content ≡ Mark' Mark.Colons) ⊎ ((ends_long w.tokens ≡ true) × GoesOn (token_of y.lexeme content)) → ⊥
        goes_on (inl h) =
            let i = colons_token y.place parts.flag token.token (parts.second).0 y.lexeme.kind y.lexeme.octets token.is
            (mark_kind y.lexeme.kind y.lexeme.octets Mark.Colons (body (Mark' Mark.Colons) h)) in
            w.no_annotation (sym one.0 ∙ i.1) (blank_token (codes "::") [] parts.left (w.blank ++ (rest ++ more)) (parts.second).0 parts.flag parts.mid y token
            (i.0 ∙ sym (append-nil (codes "::"))) one.2)
        goes_on (inr (h, inl (z, i))) =
            let j = long_token y.place parts.flag token.token (parts.second).0 y.lexeme.kind y.lexeme.octets token.is
            (segment_is y.lexeme.kind (segment_kind y.lexeme.kind y.lexeme.octets z (body (Long z) i))) in
            quotes h j.0 j.1
        goes_on (inr (h, inr (z, i, n))) =
            quotes h [] (quoted_token y.place parts.flag token.token (parts.second).0 y.lexeme.kind y.lexeme.octets token.is
            (quoted_kind y.lexeme.kind y.lexeme.octets z (body (Quoted z) i)) (wide y.lexeme.start y.lexeme.end n (omega (arith, token.start, token.end))))
          where
            wide : (start end : ℕ) → (end == start + 2) ≡ true → end ≡ start + length token.token → length token.token ≡ 2
            wide start end h i = grind (arith, nat_tests)

        by : (z : Bool) → continues d.now (token_of y.lexeme content) ≡ z → length v ≤ r.start
        by true h = absurd (goes_on (d.shuts (token_of y.lexeme content) h))
        by false h =
            let there : adds_values d.later (reads g l (fresh w.context) (y ∷ ys)) ≡ walked others.0 a.r =
            sym (settled_reads g l d.now y ys content is.0 is.2 h
            ∙ settled_first g l (settle g l d.now) d.later (fresh w.context) (λ z. reads g l z (y ∷ ys)) d.settles) ∙ others.1 in
            let walk = added g l d.later others.0 a.r (reads g l (fresh w.context) (y ∷ ys)) there in
            let all : AllFrom g l y.lexeme.start (y ∷ ys) = (
              omega arith,
              lexed_from y.lexeme.start ys (colon_behind y) y.lexeme.end (parts.second).0 k.colon
                  k.end (k.since ++ more) g l (omega (arith, token.start, token.end)) (parts.second).2,
            ) in
            let from = begins_from y.lexeme.start (walked_from g l y.lexeme.start (y ∷ ys) (fresh w.context) a.r walk.0 all (λ i. tt, inl refl) walk.1) in
            omega (arith, from, behind)

    -- they end before the open item, or with its last token
    pub ends_before : NoneEnds → (length v ≤ r.start) ⊎ (w.tokens ≡ b.front ++ b.item)
    ends_before ended = by met
      where
        by : OneIsFront (b.front ++ b.item) w.tokens → (length v ≤ r.start) ⊎ (w.tokens ≡ b.front ++ b.item)
        by (inl ([], e)) = inr (e ∙ append-nil (b.front ++ b.item))
        by (inl (z ∷ zs, e)) = absurd (never_more ended z zs e)
        by (inr ([], e, h)) = inr (sym (e ∙ append-nil w.tokens))
        by (inr (y ∷ ys, e, h)) = inl (fewer y ys e h)

    -- with its last token they end only where it waits at the top level
    pub waits_there : w.tokens ≡ b.front ++ b.item → IsWaiting g l r.now × (Place.Top ≡ p)
    waits_there e = by a.is
      where
        n : going.n ≡ a.r
        n = (walked_now g l going.vs (vs ++ []) going.n a.r (sym going.read ∙ (ap (reads g l (fresh system_slots)) e ∙ read))).1

        ends : on_turn (settle g l a.r) done ≡ walked going.later (fresh going.c)
        ends = ap (λ y. on_turn (settle g l y) done) (sym n) ∙ going.ends

        by : ((y : Reading) × (settle g l a.r ≡ goes y) × (is_fresh y ≡ false) × (y.start ≡ starts g l 0 [] b.item))
            ⊎ (IsWaiting g l r.now × IsWaiting g l a.r.now × (a.r.start ≡ starts g l 0 [] b.item)) → IsWaiting g l r.now × (Place.Top ≡ p)
        by (inl (y, h, i, j)) = absurd (let q = walked_now g l [] going.later y (fresh going.c) (ap (λ z. on_turn z done) (sym h) ∙ ends) in
            let never : false ≡ true = sym i ∙ ap is_fresh q.1 in cc)
        by (inr (h, h', i)) = (h, top_now g l a.r going.later going.c ends ∙ a.here)

    module _ (e : w.tokens ≡ b.front ++ b.item) where
      pub one_end : (k.colon ≡ w.colon) × (k.end ≡ w.end) × (k.since ++ more ≡ w.blank ++ (rest ++ more))
      one_end =
          lexes_once (b.front ++ b.item) false 0 (u ++ more) k.colon w.colon k.end w.end (k.since ++ more) (w.blank ++ (rest ++ more)) ours
          (subst (λ z. LexesTo false 0 (u ++ more) z w.colon w.end (w.blank ++ (rest ++ more))) e theirs)

      -- where the pieces have all tokens told, no `::` follows where a colon may stand
      pub no_colons : k.colon ≡ true → BlankThen (codes "::") (k.since ++ more) → ⊥
      no_colons h q = w.no_annotation (sym one_end.0 ∙ h) (subst (BlankThen (codes "::")) one_end.2 q)

      -- where the pieces have all tokens told, no `''` follows a long string
      pub no_quotes : ends_long (b.front ++ b.item) ≡ true → BlankThen (codes "''") (k.since ++ more) → ⊥
      no_quotes h q = w.no_segment (ap ends_long e ∙ h) (subst (BlankThen (codes "''")) one_end.2 q)

  -- whether a colon may stand behind the last token
  pub colon_last : (before : List Placed) (z : Placed) → b.front ++ b.item ≡ before ++ z ∷ [] → colon_behind z ≡ k.colon
  colon_last before z e =
      let d = parted before (z ∷ []) false 0 (u ++ (ahead ++ [])) k.colon k.end (k.since ++ (ahead ++ []))
      (subst (λ y. LexesTo false 0 (u ++ (ahead ++ [])) y k.colon k.end (k.since ++ (ahead ++ []))) e (k.lexes (ahead ++ []) ([], refl))) in
      last_colon z d.flag d.mid d.left k.colon k.end (k.since ++ (ahead ++ [])) d.second

  -- where no octet is refused, whatever follows
  module _ (free : (octets : List ℕ) → Continues octets ahead) (wait : Waits g l s r.now) (v rest : List ℕ) (t : List Value) (cut : u ≡ v ++ rest)
      (whole : ArePieces (Whole g l) v rest t) where
    bare : Escape p s
    bare = escape p k.colon k.end s k.since k.holds

    -- octets that show that no token has ended
    shown : (f : Escape p s) (z : Placed) → Is p z.lexeme (run p f.octets s) → z.lexeme.end ≤ s.used → ⊥
    shown f z i n = escaped p s f.octets z.lexeme f.escapes i n

    otherwise : (IsWaiting g l r.now → Place.Top ≡ p → ⊥) → length v ≤ r.start
    otherwise n = by (ends_before bare.octets (free bare.octets) v rest t cut (whole bare.octets bare.are) (λ z zs e. shown bare z))
      where
        by : (length v ≤ r.start) ⊎ ((whole bare.octets bare.are).tokens ≡ b.front ++ b.item) → length v ≤ r.start
        by (inl h) = h
        by (inr e) = let q = waits_there bare.octets (free bare.octets) v rest t cut (whole bare.octets bare.are) e in absurd (n q.0 q.1)

    -- octets behind which what stands at the end of the pieces goes on
    closed : (more : List ℕ) → p ≡ Place.Top → (c : Closing s k.since more)
        → ((w : Whole g l v (rest ++ c.octets) t) → w.tokens ≡ b.front ++ b.item → ⊥) → length v ≤ r.start
    closed more top c n = by (ends_before c.octets (free c.octets) v rest t cut (whole c.octets c.are) (λ z zs e. shown f z))
      where
        f : Escape p s
        f = record { octets = c.octets; are = c.are; escapes = subst (λ q. Escapes q s c.octets) (sym top) c.escapes }

        by : (length v ≤ r.start) ⊎ ((whole c.octets c.are).tokens ≡ b.front ++ b.item) → length v ≤ r.start
        by (inl h) = h
        by (inr e) = absurd (n (whole c.octets c.are) e)

    mode_at : (colon : Bool) → k.colon ≡ colon → p ≡ Place.Top → InMode Place.Top colon k.end s.mode s.kept s.start k.since
    mode_at colon e top = subst (λ q. InMode q colon k.end s.mode s.kept s.start k.since) top
        (subst (λ c. InMode p c k.end s.mode s.kept s.start k.since) e k.holds.mode)

    closing_at : (colon : Bool) (more : List ℕ) → k.colon ≡ colon → Closing (scanning s.mode s.kept colon s.start s.used) k.since more → Closing s k.since more
    closing_at colon more e c = subst (λ y. Closing (scanning s.mode s.kept y s.start s.used) k.since more) (sym (k.holds.flag ∙ e)) c

    -- behind a symbol
    behind_symbol : (h : Held) (ss : Symbols) → p ≡ Place.Top → PendingFor r.context [] ss h b.item → is_idle s.mode ≡ true → length v ≤ r.start
    behind_symbol h ss top d idle =
        closed (codes "::") top c
        (λ w i. no_colons c.octets (free c.octets) v rest t cut w i colon c.shows)
      where
        colon : k.colon ≡ true
        colon = sym (colon_last (b.front ++ d.before) d.token (ap (λ y. b.front ++ y) d.whole ∙ sym (append_assoc b.front d.before (d.token ∷ []))))
            ∙ symbol_colon d.token.place d.token.lexeme.kind d.token.lexeme.octets d.said d.says.body d.named

        c : Closing s k.since (codes "::")
        c = closing_at true (codes "::") colon (colons_close k.end s.kept s.start s.used k.since s.mode idle (mode_at true colon top))

    -- behind a long string
    behind_long : (z : List ℕ) (ss : Symbols) → p ≡ Place.Top → LongFor r.context [] ss z b.item → (is_idle s.mode || is_quoting s.mode) ≡ true
        → length v ≤ r.start
    behind_long z ss top d waits =
        closed (codes "''") top c
        (λ w i. no_quotes c.octets (free c.octets) v rest t cut w i long_there c.shows)
      where
        last : (front : List Placed) × (y : Placed) × (d.segments ≡ front ++ y ∷ []) × (y.place ≡ Place.Top) × (y.lexeme.kind ≡ TokenKind.LongString)
        last = segments_last Place.Top d.segments z d.are

        long_there : ends_long (b.front ++ b.item) ≡ true
        long_there = ends_behind b.front b.item (ap ends_long d.whole ∙ ends_behind d.before d.segments (segments_long Place.Top d.segments z d.are))

        all : b.front ++ b.item ≡ (b.front ++ (d.before ++ last.0)) ++ last.1 ∷ []
        all = ap (λ y. b.front ++ y) (d.whole ∙ (ap (λ y. d.before ++ y) last.2 ∙ sym (append_assoc d.before last.0 (last.1 ∷ []))))
            ∙ sym (append_assoc b.front (d.before ++ last.0) (last.1 ∷ []))

        colon : k.colon ≡ false
        colon = sym (colon_last (b.front ++ (d.before ++ last.0)) last.1 all)
            ∙ (ap (λ q. takes_colon q (last.1).lexeme.kind) last.3 ∙ ap (takes_colon Place.Top) last.4)

        c : Closing s k.since (codes "''")
        c =
            closing_at false (codes "''") colon (quotes_close k.end s.kept s.start s.used k.since s.mode waits
            (subst (λ y. Escape Place.Top (scanning s.mode s.kept y s.start s.used)) (k.holds.flag ∙ colon) (subst (λ q. Escape q s) top bare))
            (mode_at false colon top))

    -- Where an item is open, the pieces in front of it are the longest.
    pub longest_item : length v ≤ r.start
    longest_item = choose r.now refl r.frames refl
      where
        stands : (n : Stage) → r.now ≡ n → r.frames ≡ [] → NowStands r.context [] r.notes b.item n
        stands n e i = subst (λ y. NowStands r.context [] r.notes b.item y) e (subst (λ y. NowStands r.context y r.notes b.item r.now) i b.stands)

        top : (n : Stage) → r.frames ≡ [] → p ≡ Place.Top
        top n i = ap (λ y. place_in y r.now) i

        choose : (n : Stage) → r.now ≡ n → (fs : List Frame) → r.frames ≡ fs → length v ≤ r.start
        choose (Stage.Pending h end) e [] i = behind_symbol h r.notes (top r.now i) (stands (Stage.Pending h end) e i) (subst (Waits g l s) e wait)
        choose (Stage.Long z end) e [] i = behind_long z r.notes (top r.now i) (stands (Stage.Long z end) e i) (subst (Waits g l s) e wait)
        choose n e (f ∷ fs) i = otherwise (λ w q. inside_place f fs r.now (q ∙ ap (λ y. place_in y r.now) i))
        choose _ e [] i = otherwise (λ w q. subst (IsWaiting g l) e w)

-- where no octet is refused
pub longest_open : (g : Catalog) (l : Limits) (u : List ℕ) (vs : List Value) (m : State) (b : Stood g l u vs m) (x : Placed) (xs : List Placed)
    → b.item ≡ x ∷ xs → Waits g l m.scan m.reading.now → (v rest : List ℕ) (t : List Value) → u ≡ v ++ rest → ArePieces (Whole g l) v rest t
    → length v ≤ m.reading.start
longest_open g l u vs m b x xs some wait v rest t cut whole =
    longest_item g l u vs m.scan m.reading [] (NoLongText m.scan.mode) b (stood_used g l u vs m b) x xs some (λ octets. (octets, refl)) wait v rest t cut whole
