-- Where a row of the table stands whose last token is refused, octets are refused.
use Rattle.std.proofs.Common.{◌≡◌, ℕ, ◌+◌, ◌≤◌, nat_lt, Bool, true, false, ◌&&◌, ◌||◌, List, [], ◌∷◌, ◌++◌, length, refl, sym, ap, ◌∙◌, subst, arith, append_assoc, length-append, Result, Ok, Err, Option, Some, if◌then◌else◌, inl, inr, codes}
use Rattle.std.proofs.lemmas.Bool.{cond-true}
use Rattle.std.proofs.lemmas.Bool.Decides.{nat_tests}
use Rattle.std.specs.Str.{bytes_eq}
use Rattle.ion_refusals.specs.Names.{Annotations, Are, Bracket, Catalog, Comes, Container, Content, Field, Frame, Held, Id, InStruct, IsBody, IsKeyword, IsScalar, Kind, Known, Layer, Limits, Mark, Mark', Means, Members, Payload, Payload-F, Place, Placed, Plain, Reading, Reason, Says, Slot, Stage, Symbols, TakesValue, TokenKind, Turn, TypedNull, Value, Walk, Word, adds_values, annotated, at, at_end, begins_as_long, begun_at, close_place, continues, depth, done, end_of, ended, ends_long, first_token, fresh, gives, goes, held_symbol, held_word, is_blob, is_clob, is_closing, is_decimal, is_false, is_idle, is_int, is_keyword, is_list, is_null, is_operator, is_short, is_struct, is_symbol, is_table, is_timestamp, is_true, is_typed_null, is_version, late, long_string, means, next, noted, on_ready, on_turn, one_token, open_mark, pending_at, place, place_of, reads, refuses, resolve, resolved, said, said_ok, spot_at, stopped, the_marker, token_of, turn, turned, under}
use Rattle.ion_model.specs.declared.value.Payload.TheVariants as payloads
use Rattle.ion_model.specs.declared.value.Payload.TheViews as views
use Rattle.ion_refusals.specs.Deciding.{Ends}
use Rattle.ion_text.specs.Grammar.{is_sexp}
use Rattle.ion_text.specs.machine.TokenLists.{walked}
use Rattle.ion_refusals.proofs.deciding.AtEnd.{last_ends}
use Rattle.ion_refusals.proofs.deciding.Comings.{JoinsNothing, before, came, came_name, cut, cut_name, f, go_on, go_on_name, here, same_levels, settles, settles_name, struct, up_to}
use Rattle.ion_refusals.proofs.deciding.Fronts.{Came, HasEnded, SettlesTo, origin, stands_read, struct_now, struct_settles}
use Rattle.ion_refusals.proofs.deciding.Openings.{begins_so}
use Rattle.ion_refusals.proofs.deciding.Shows.{BareSaid, IsBare, neither, said_bare}
use Rattle.ion_text.specs.laws.reading.Brackets.{no_colons}
use Rattle.ion_text.specs.laws.reading.complete.Complete.{depth-struct, means_begins, members_read, notes_read, open_read, read_behind, starts, struct_ends}
use Rattle.ion_text.specs.laws.reading.complete.Going.{mark_kind}
use Rattle.ion_text.specs.laws.reading.complete.Meets.{end_spans}
use Rattle.ion_text.specs.laws.reading.complete.Pieces.{more_read, pieces_read, walked_now}
use Rattle.ion_text.specs.laws.reading.complete.Segments.{never}
use Rattle.ion_text.specs.laws.reading.sound.Admits.{at_end_fine}
use Rattle.ion_text.specs.laws.reading.sound.Depths.{Deep}
use Rattle.ion_text.specs.laws.reading.sound.StandsOpen.{Opened}
use Rattle.ion_text.specs.laws.showing.tokens.Cuts.{lexed_front}

-- 1. Tokens that have ended.

-- where octets are left behind the last token, it has ended
pub ended_by_rest : (g : Catalog) (l : Limits) (u : List ℕ) (ts : List Placed) (t : Placed) (o : ℕ) (rest : List ℕ) → (t.lexeme.kind ≡ TokenKind.Operator → ⊥)
    → Are u (ts ++ t ∷ []) (rest ++ o ∷ []) → HasEnded g l u t
ended_by_rest g l u ts t o rest plain (colon, end, lexes) = record {
  plain = plain;
  word = λ k e. absurd (omega (arith, e, size));
  closed = λ p s used e. let x = (end_spans s (end_of p s.mode) t.lexeme e).1 in absurd (omega (arith, x, used, size));
}
  where
    size : t.lexeme.end + (length rest + 1) ≡ length u
    size =
        let x = lexed_front (ts ++ t ∷ []) false 0 u colon end (rest ++ o ∷ []) lexes in
        omega (
          arith,
          last_ends ts t false 0 u colon end (rest ++ o ∷ []) lexes,
          x.2,
          ap length x.1,
          length-append x.0 (rest ++ o ∷ []),
          length-append rest (o ∷ []),
        )

-- what says a word or opens a struct is no operator
pub bare_plain : (k : TokenKind) → IsBare k → k ≡ TokenKind.Operator → ⊥
bare_plain TokenKind.Word b e = cc
bare_plain TokenKind.KindName b e = cc
bare_plain (TokenKind.Mark m) b e = cc
bare_plain _ b e = absurd b

-- a token that the octet behind it shows has ended where an octet stands behind it
pub bare_ended : (g : Catalog) (l : Limits) (u : List ℕ) (ts : List Placed) (t : Placed) (p : Place) (d : Content) (o : ℕ) (rest : List ℕ) → Says p t d
    → BareSaid d → Are u (ts ++ t ∷ []) (rest ++ o ∷ []) → HasEnded g l u t
bare_ended g l u ts t p d o rest says b are = ended_by_rest g l u ts t o rest (bare_plain t.lexeme.kind (said_bare t.lexeme.kind t.lexeme.octets d says.body b))
    are

-- a mark that the end doesn't end has ended with its last octet
pub mark_ended : (g : Catalog) (l : Limits) (u : List ℕ) (p : Place) (t : Placed) (m : Mark) → Says p t (Mark' m) → is_closing (TokenKind.Mark m) ≡ true
    → (m ≡ Mark.Colon → ⊥) → HasEnded g l u t
mark_ended g l u p t m says closing n = record {
  plain = λ e. let k : TokenKind.Mark m ≡ TokenKind.Operator = sym kind ∙ e in absurd cc;
  word = λ e i. let k : TokenKind.Mark m ≡ TokenKind.Word = sym kind ∙ e in absurd cc;
  closed = λ q s used e. go q s e (is_idle s.mode) refl;
}
  where
    kind : t.lexeme.kind ≡ TokenKind.Mark m
    kind = mark_kind t.lexeme.kind t.lexeme.octets m says.body

    go : (q : Place) (s : Known) → at_end q s ≡ Ok (Some t.lexeme) → (b : Bool) → is_idle s.mode ≡ b → ⊥
    go q s e false h = never (is_closing t.lexeme.kind) ((at_end_fine q s t.lexeme e).2 h) (ap is_closing kind ∙ closing)
    go q s e true h = neither m t.lexeme.kind kind n ((at_end_fine q s t.lexeme e).4 h)

-- 2. Contents that end what waits.

-- nothing that waits goes on with a word
pub word_apart : (w : List ℕ) → JoinsNothing (Word w)
word_apart w = record { long = λ v e. cc; quoted = λ v e. cc; colons = λ e. cc }

id_apart : (id : ℕ) → JoinsNothing (Id id)
id_apart id = record { long = λ v e. cc; quoted = λ v e. cc; colons = λ e. cc }

-- nothing that waits goes on with a typed null
pub null_apart : (k : _) → JoinsNothing (TypedNull k)
null_apart k = record { long = λ v e. cc; quoted = λ v e. cc; colons = λ e. cc }

mark_apart : (m : Mark) → (m ≡ Mark.Colons → ⊥) → JoinsNothing (Mark' m)
mark_apart m n = record { long = λ v e. cc; quoted = λ v e. cc; colons = λ e. n (let h : m ≡ Mark.Colons = cc in h) }

too_many : (a b depth : ℕ) → depth ≤ b → a ≡ b → nat_lt a depth ≡ false
too_many a b depth h e = grind (arith, nat_tests)

abbrev pub has_fields : Layer → Bool
has_fields (Payload-F.Fields fs) = true
has_fields _ = false

abbrev fields_in : Layer → List Field
fields_in (Payload-F.Fields fs) = fs
fields_in _ = []

-- a keyword is held as no symbol
keyword_held : (w : List ℕ) → is_keyword w ≡ true → held_symbol (held_word w) ≡ Err Reason.KeywordAsName
keyword_held w h = go (bytes_eq w (codes "null")) (bytes_eq w (codes "true")) (bytes_eq w (codes "false")) (bytes_eq w (codes "nan")) h
  where
    go : (a b c d : Bool) → ((a || b) || (c || d)) ≡ true
        → held_symbol (if a then Held.Null Kind.Null else (if b then Held.Truth true else
        (if c then Held.Truth false else (if d then Held.Nan else
        (if is_version w then Held.Version (bytes_eq w the_marker) (Some w) else Held.Symbol (Some w)))))) ≡ Err Reason.KeywordAsName
    go false false false false h = absurd cc
    go _ _ _ _ h = refl

-- 3. Why a token is refused.

-- refused for this reason
abbrev pub Refusing : Reason → Turn → Type 0
Refusing e (refuses f) = f ≡ e
Refusing e (late f r) = f ≡ e
Refusing e _ = ⊥

-- behind a turn that refuses no token is read
pub refusing_stops : (e : Reason) (t : Turn) (more : Reading → Walk) → Refusing e t → on_turn t more ≡ stopped
refusing_stops e (goes r) more h = absurd h
refusing_stops e (gives v r) more h = absurd h
refusing_stops e _ more h = refl

-- a turn refuses for one reason
pub one_refusing : (d e : Reason) (t : Turn) → Refusing d t → Refusing e t → d ≡ e
one_refusing d e (goes r) h k = absurd h
one_refusing d e (gives v r) h k = absurd h
one_refusing d e _ h k = sym h ∙ k

-- a turn that is the refusal for a reason refuses for this reason
pub refusing_is : (e : Reason) (t : Turn) → t ≡ refuses e → Refusing e t
refusing_is e t h = subst (Refusing e) (sym h) refl

refusing_then : (e : Reason) (b : Bool) (t u : Turn) → b ≡ true → Refusing e t → Refusing e (if b then t else u)
refusing_then e true t u i h = h
refusing_then e false t u i h = absurd cc

refusing_else : (e : Reason) (b : Bool) (t u : Turn) → b ≡ false → Refusing e u → Refusing e (if b then t else u)
refusing_else e false t u i h = h
refusing_else e true t u i h = absurd cc

refusing_unresolved : (e : Reason) (r : Result (Option (List ℕ)) Reason) (f : Option (List ℕ) → Turn) → r ≡ Err e → Refusing e (resolved r f)
refusing_unresolved e r f h = subst (λ x. Refusing e (resolved x f)) (sym h) refl

-- a token behind others is refused where it comes by itself, or as the `::` behind what waits
pub data Why (g : Catalog) (l : Limits) (ts : List Placed) (t : Placed) (e : Reason) : Type 0 where
  by_itself : (m : Reading) (c : Content) → SettlesTo g l ts m → said t.lexeme.kind t.lexeme.octets ≡ Ok c → (t.lexeme.kind ≡ TokenKind.Mark Mark.Colons → ⊥)
      → Refusing e (turn g l m (token_of t.lexeme c)) → JoinsNothing c → Why g l ts t e
  as_colons : (n : Reading) (vs : List Value) → reads g l (origin g l) ts ≡ walked vs n → t.lexeme.kind ≡ TokenKind.Mark Mark.Colons
      → Refusing e (turn g l n (token_of t.lexeme (Mark' Mark.Colons))) → said t.lexeme.kind t.lexeme.octets ≡ Ok (Mark' Mark.Colons)
      → continues n (token_of t.lexeme (Mark' Mark.Colons)) ≡ true → Why g l ts t e

not_colons : (p : Place) (t : Placed) (d : Content) → Says p t d → (d ≡ Mark' Mark.Colons → ⊥) → t.lexeme.kind ≡ TokenKind.Mark Mark.Colons → ⊥
not_colons p t d says n k = let b : IsBody (TokenKind.Mark Mark.Colons) t.lexeme.octets (Ok d) = subst (λ y. IsBody y t.lexeme.octets (Ok d)) k says.body in
    n (let e : d ≡ Mark' Mark.Colons = cc in e)

-- for one reason
pub why_once : (g : Catalog) (l : Limits) (ts : List Placed) (t : Placed) (d e : Reason) (p : Place) → Came g l ts p → Why g l ts t d → Why g l ts t e → d ≡ e
why_once g l ts t d e p came (by_itself m c s i n h a) (by_itself m' c' s' i' n' h' a') =
    let a = s came.values came.now came.read in
    let b = s' came.values came.now came.read in
    let same = walked_now g l a.0 b.0 m m' (sym a.1 ∙ b.1) in
    let k : Ok c ≡ Ok c' = sym i ∙ i' in
    let one : c ≡ c' = cc in
    one_refusing d e (turn g l m' (token_of t.lexeme c')) (subst (λ x. Refusing d (turn g l x (token_of t.lexeme c'))) same.1
    (subst (λ x. Refusing d (turn g l m (token_of t.lexeme x))) one h)) h'
why_once g l ts t d e p came (as_colons n vs r k h i w) (as_colons n' vs' r' k' h' i' w') =
    one_refusing d e (turn g l n' (token_of t.lexeme (Mark' Mark.Colons)))
    (subst (λ x. Refusing d (turn g l x (token_of t.lexeme (Mark' Mark.Colons)))) (walked_now g l vs vs' n n' (sym r ∙ r')).1 h) h'
why_once g l ts t d e p came (by_itself m c s i n h a) (as_colons n' vs r k h' i' w) = absurd (n k)
why_once g l ts t d e p came (as_colons n vs r k h i' w) (by_itself m c s i n' h' a) = absurd (n' k)

-- behind others that are read the last of the tokens is refused for this reason
pub record Stops (g : Catalog) (l : Limits) (ts : List Placed) (t : Placed) (e : Reason) : Type 0 where
  pub front : List Placed
  pub is : ts ≡ front ++ t ∷ []
  pub came : Came g l front t.place
  pub stops : reads g l (origin g l) ts ≡ stopped
  pub why : Why g l front t e

module _ (g : Catalog) (l : Limits) where
  -- 4. A token where a value may come.

  module _ (c : List Slot) (ks : List Container) (said : Content) (ts : List Placed) (h : Comes g l c ks said ts) (takes : TakesValue ks) where
    abbrev held : List Frame
    held = (f g l c ks said ts h).held

    -- which is refused there
    value_stops : (e : Reason) → JoinsNothing said → ((s : ℕ) → Refusing e (turn g l (at s c held h.symbols Stage.Ready) (token_of h.token.lexeme said)))
        → Stops g l ts h.token e
    value_stops e a refused =
        let w = settles g l c ks said ts h takes in
        let front = before g l c ks said ts h in
        let is = cut g l c ks said ts h in
        let x = go_on g l c ks said ts h takes h.token said [] h.says a in
        record {
          front = front;
          is = is;
          came = subst (Came g l front) (sym h.says.place) (came g l c ks said ts h takes);
          stops = ap (reads g l (origin g l)) is ∙ (x.1 ∙ ap (adds_values h.values)
              (first_token g l (place_of ks) (at x.0 c held h.symbols Stage.Ready) h.token said [] h.says (here g l c ks said ts h takes) (inr refl)
              ∙ refusing_stops e (turn g l (at x.0 c held h.symbols Stage.Ready) (token_of h.token.lexeme said)) done (refused x.0)));
          why = by_itself (at w.0 c held h.symbols Stage.Ready) said w.1 (said_ok g l (place_of ks) h.token said h.says)
              (not_colons (place_of ks) h.token said h.says a.colons) (refused w.0) a;
        }

    -- a container that would be too deep
    levels : l.depth ≤ length ks → nat_lt (length held) l.depth ≡ false
    levels deep = too_many (length held) (length ks) l.depth deep (same_levels l c ks held (f g l c ks said ts h).same)

    -- a mark that opens a container beyond the limit on levels is refused
    pub open_stops : (bracket : Bracket) → said ≡ Mark' (open_mark bracket) → l.depth ≤ length ks → Stops g l ts h.token Reason.Depth
    open_stops bracket e deep =
        value_stops Reason.Depth (subst JoinsNothing (sym e) (mark_apart (open_mark bracket) (λ k. no_colons bracket (ap Mark' k))))
        (λ s. subst (λ d. Refusing Reason.Depth (turn g l (at s c held h.symbols Stage.Ready) (token_of h.token.lexeme d))) (sym e) (by bracket s))
      where
        by : (bracket : Bracket) (s : ℕ)
            → Refusing Reason.Depth (turn g l (at s c held h.symbols Stage.Ready) (token_of h.token.lexeme (Mark' (open_mark bracket))))
        by Bracket.Fields s = refusing_else Reason.Depth (nat_lt (length held) l.depth) _ (late Reason.Depth _) (levels deep) refl
        by _ s = refusing_else Reason.Depth (nat_lt (length held) l.depth) _ (refuses Reason.Depth) (levels deep) refl

    -- one that waits for `::`
    module _ (word : Held) (waits : (start end : ℕ) → on_ready (under g l) (spot_at end start c) held h.symbols said
        ≡ goes (at start c held h.symbols (Stage.Pending word end))) (apart : JoinsNothing said) where
      abbrev pub front : List Placed
      front = before g l c ks said ts h

      abbrev pub pending_word : ℕ → Reading
      pending_word s = at (begun_at s h.token.lexeme.start held h.symbols) c held h.symbols (Stage.Pending word h.token.lexeme.end)

      -- where the token that comes waits for `::`, the tokens up to it lead to where it waits
      pub read_to : (more : List Placed) → (s : ℕ) × (reads g l (origin g l) (front ++ h.token ∷ more) ≡ adds_values h.values (reads g l (pending_word s) more))
      read_to more =
          let x = go_on g l c ks said ts h takes h.token said more h.says apart in (
            x.0,
            x.1
                ∙ ap (adds_values h.values)
                (first_token g l (place_of ks) (at x.0 c held h.symbols Stage.Ready) h.token said more h.says (here g l c ks said ts h takes) (inr refl)
                ∙ ap (λ y. on_turn y (λ k. reads g l k more)) (waits (begun_at x.0 h.token.lexeme.start held h.symbols) h.token.lexeme.end)),
          )

      at_pending : (s : ℕ) → place_of ks ≡ place (pending_word s)
      at_pending s = here g l c ks said ts h takes ∙ sym (pending_at held word h.token.lexeme.end)

      came_pending : Came g l (front ++ h.token ∷ []) (place_of ks)
      came_pending = let x = read_to [] in record { values = h.values ++ []; now = pending_word x.0; read = x.1; here = sym (at_pending x.0) }

      -- an annotation that is a keyword
      note_stops : (colons : Placed) → Says (place_of ks) colons (Mark' Mark.Colons) → held_symbol word ≡ Err Reason.KeywordAsName
          → Stops g l (ts ++ colons ∷ []) colons Reason.KeywordAsName
      note_stops colons says none =
          let x = read_to (colons ∷ []) in
          let y = read_to [] in
          let whole : ts ++ colons ∷ [] ≡ (front ++ h.token ∷ []) ++ colons ∷ [] = ap (λ y. y ++ colons ∷ []) (cut g l c ks said ts h) in
          record {
            front = front ++ h.token ∷ [];
            is = whole;
            came = subst (Came g l (front ++ h.token ∷ [])) (sym says.place) came_pending;
            stops =
                ap (reads g l (origin g l)) (whole ∙ append_assoc front (h.token ∷ []) (colons ∷ []))
                ∙ (x.1 ∙ ap (adds_values h.values)
                (first_token g l (place_of ks) (pending_word x.0) colons (Mark' Mark.Colons) [] says (at_pending x.0) (inl refl)
                ∙ ap (λ y. on_turn (noted (begun_at x.0 h.token.lexeme.start held h.symbols) c held h.symbols y) done) none));
            why =
                as_colons (pending_word y.0) (h.values ++ []) y.1 (mark_kind colons.lexeme.kind colons.lexeme.octets Mark.Colons says.body)
                (subst (λ z. Refusing Reason.KeywordAsName (noted (begun_at y.0 h.token.lexeme.start held h.symbols) c held h.symbols z)) (sym none) refl)
                (said_ok g l (place_of ks) colons (Mark' Mark.Colons) says) refl;
          }

  -- 5. A token where a name may come.

  module _ (c : List Slot) (ks : List Container) (said : Content) (ts : List Placed) (h : Comes g l c (InStruct ∷ ks) said ts) where
    abbrev inside : List Frame
    inside = let s = struct g l c ks said ts h in Frame.Fields s.notes s.fields ∷ s.outer

    name_stops : (e : Reason) → JoinsNothing said → ((s : ℕ) → Refusing e (turn g l (at s c inside [] Stage.Name) (token_of h.token.lexeme said)))
        → Stops g l ts h.token e
    name_stops e a refused =
        let w = settles_name g l c ks said ts h in
        let front = up_to g l c ks said ts h in
        let is = cut_name g l c ks said ts h in
        let x = go_on_name g l c ks said ts h h.token said h.says a in
        record {
          front = front;
          is = is;
          came = subst (Came g l front) (sym h.says.place) (came_name g l c ks said ts h);
          stops = ap (reads g l (origin g l)) is ∙ (x.1 ∙ ap (adds_values h.values)
              (first_token g l Place.Name (at x.0 c inside [] Stage.Name) h.token said [] h.says refl (inr refl)
              ∙ refusing_stops e (turn g l (at x.0 c inside [] Stage.Name) (token_of h.token.lexeme said)) done (refused x.0)));
          why = by_itself (at w.0 c inside [] Stage.Name) said w.1 (said_ok g l Place.Name h.token said h.says)
              (not_colons Place.Name h.token said h.says a.colons) (refused w.0) a;
        }

  -- 6. The rows of one token.

  id_value : (ts : List Placed) (c : List Slot) (ks : List Container) (id : ℕ) (e : Reason) → TakesValue ks → (h : Comes g l c ks (Id id) ts)
      → resolve c id ≡ Err e → Stops g l ts h.token e
  id_value ts c ks id e takes h fails = value_stops c ks (Id id) ts h takes e (id_apart id) (λ s. refusing_unresolved e (resolve c id) _ fails)

  -- an id for which the context has no symbol is refused, for the reason that the context gives
  pub id_stops : (ts : List Placed) (c : List Slot) (ks : List Container) (id : ℕ) (e : Reason) → (h : Comes g l c ks (Id id) ts) → resolve c id ≡ Err e
      → Stops g l ts h.token e
  id_stops ts c (InStruct ∷ ks) id e h fails = name_stops c ks (Id id) ts h e (id_apart id) (λ s. refusing_unresolved e (resolve c id) _ fails)
  id_stops ts c [] id e h fails = id_value ts c [] id e tt h fails
  id_stops ts c k id e h fails = id_value ts c k id e tt h fails

  -- a keyword where a field's name comes is refused
  pub keyword_stops : (ts : List Placed) (c : List Slot) (ks : List Container) (said : Content) → (h : Comes g l c (InStruct ∷ ks) said ts) → IsKeyword said
      → Stops g l ts h.token Reason.KeywordAsName
  keyword_stops ts c ks (Word w) h k = name_stops c ks (Word w) ts h Reason.KeywordAsName (word_apart w)
      (λ s. refusing_then Reason.KeywordAsName (is_keyword w) _ _ k refl)
  keyword_stops ts c ks (TypedNull k) h i = name_stops c ks (TypedNull k) ts h Reason.KeywordAsName (null_apart k) (λ s. refl)
  keyword_stops ts c ks _ h k = absurd k

  -- the `::` behind a keyword is refused
  pub keyword_note_stops : (ts : List Placed) (colons : Placed) (c : List Slot) (ks : List Container) (said : Content) → Comes g l c ks said ts → TakesValue ks
      → IsKeyword said → Says (place_of ks) colons (Mark' Mark.Colons) → Stops g l (ts ++ colons ∷ []) colons Reason.KeywordAsName
  keyword_note_stops ts colons c ks (Word w) h takes k says =
      note_stops c ks (Word w) ts h takes (held_word w) (λ start end. refl) (word_apart w) colons says (keyword_held w k)
  keyword_note_stops ts colons c ks (TypedNull k) h takes i says =
      note_stops c ks (TypedNull k) ts h takes (Held.Null k) (λ start end. refl) (null_apart k) colons says refl
  keyword_note_stops ts colons c ks _ h takes k says = absurd k

  -- 7. A local symbol table.

  -- the fields of a value
  payload_same : (ss rs : Symbols) (q r : Payload) → annotated ss q ≡ annotated rs r → (ss ≡ rs) × (q ≡ r)
  payload_same ss rs q r e = (ap (λ (v : Value). v.annotations) e, ap (λ (v : Value). v.payload) e)

  -- the tokens end with the close of a struct, at which they are refused
  pub record TableStops (ts : List Placed) (e : Reason) : Type 0 where
    pub close : Placed
    pub more : Bool
    pub closes : Says (close_place more) close (Mark' Mark.FieldsClose)
    pub at_close : Stops g l ts close e

  -- a local symbol table that the context doesn't take is refused at its `}`
  pub table_stops : (ts : List Placed) (c : List Slot) (ss : Symbols) (ms : List Field) (e : Reason) → Ends g l c (annotated ss (payloads.Fields ms)) ts
      → is_table (annotated ss (payloads.Fields ms)) ≡ true
      → next c (annotated ss (payloads.Fields ms)) g ≡ Err e → TableStops ts e
  table_stops ts c ss ms e h table fails = value Place.Top h.item (annotated ss (payloads.Fields ms)) h.means refl refl refl
    where
      -- what has no fields isn't such a value
      other : (q : Payload) → q ≡ payloads.Fields ms → has_fields (views.out-Payload q) ≡ false → ⊥
      other q e n = never (has_fields (views.out-Payload q)) n (ap (λ x. has_fields (views.out-Payload x)) e ∙ ap has_fields (views.outs-Fields ms))

      struct' : (notes body : List Placed) (rs : Symbols) (open' close : Placed) (more : Bool) → rs ≡ ss → Annotations c Place.Top notes rs
          → Says Place.Top open' (Mark' Mark.FieldsOpen) → Members c body ms more → Says (close_place more) close (Mark' Mark.FieldsClose)
          → h.item ≡ notes ++ open' ∷ (body ++ close ∷ []) → TableStops ts e
      struct' notes body rs open' close more same a opens members closes cut =
          record {
            close = close;
            more = more;
            closes = closes;
            at_close =
                record { front = front; is = whole; came = subst (Came g l front) (sym closes.place) (came' more members closes); stops = stops; why = why };
          }
        where
          inner : List Placed
          inner = notes ++ open' ∷ body

          front : List Placed
          front = h.front ++ inner

          item_is : h.item ≡ inner ++ close ∷ []
          item_is = cut ∙ sym (append_assoc notes (open' ∷ body) (close ∷ []))

          whole : ts ≡ front ++ close ∷ []
          whole = h.parts ∙ (ap (λ x. h.front ++ x) item_is ∙ sym (append_assoc h.front inner (close ∷ [])))

          deep : Deep l.depth (Frame.Fields rs ms ∷ [])
          deep = let k = h.deep in (omega (arith, k, depth-struct ss ms), tt)

          opened : (more : Bool) → Members c body ms more → Opened c (Frame.Fields rs ms ∷ []) inner more
          opened more members = record {
            front = [];
            notes = notes;
            body = body;
            open' = open';
            whole = refl;
            outer = refl;
            receives =
                tt;
            noted = a;
            opens = opens;
            items = members;
          }

          apart : (ends_long h.front && begins_as_long inner) ≡ false
          apart = begins_so (ends_long h.front) inner (close ∷ []) (subst (λ x. (ends_long h.front && begins_as_long x) ≡ false) item_is h.apart)

          came' : (more : Bool) → Members c body ms more → Says (close_place more) close (Mark' Mark.FieldsClose) → Came g l front (close_place more)
          came' true members closes = stands_read g l c h.front h.values (Frame.Fields rs ms ∷ []) [] Stage.Name inner h.pieces deep (opened true members, tt)
              apart
          came' false members closes = stands_read g l c h.front h.values (Frame.Fields rs ms ∷ []) [] Stage.After inner h.pieces deep
              (opened false members, refl, tt) apart

          refused : (s : ℕ) → ended (under g l) (spot_at close.lexeme.end s c) [] (annotated rs (payloads.Fields ms)) ≡ refuses e
          refused s = subst (λ y. ended (under g l) (spot_at close.lexeme.end s c) [] (annotated y (payloads.Fields ms)) ≡ refuses e) (sym same)
              (cond-true _ _ _ table ∙ ap (turned l.item s close.lexeme.end) fails)

          closed : (more : Bool) (s : ℕ) → Refusing e (turn g l (at s c (Frame.Fields rs ms ∷ []) [] (struct_now g l more))
              (token_of close.lexeme (Mark' Mark.FieldsClose)))
          closed true s = refusing_is e _ (refused s)
          closed false s = refusing_is e _ (refused s)

          why : Why g l front close e
          why =
              let w = struct_settles g l c h.front h.values rs ms [] inner more h.pieces deep (opened more members) apart in
              by_itself (at w.0 c (Frame.Fields rs ms ∷ []) [] (struct_now g l more)) (Mark' Mark.FieldsClose) w.1
              (said_ok g l (close_place more) close (Mark' Mark.FieldsClose) closes)
              (not_colons (close_place more) close (Mark' Mark.FieldsClose) closes (λ k. cc)) (closed more w.0) (mark_apart Mark.FieldsClose (λ k. cc))

          s : ℕ
          s = begun_at (starts g l 0 [] notes) open'.lexeme.start [] rs

          stops : reads g l (origin g l) ts ≡ stopped
          stops =
              ap (reads g l (origin g l)) h.parts
              ∙ (more_read g l h.front h.item h.values c (pieces_read g l h.front h.values c h.pieces)
              (means_begins g l c Place.Top h.item (annotated ss (payloads.Fields ms)) h.means) h.apart
              ∙ ap (adds_values h.values)
              (ap (reads g l (fresh c)) cut
              ∙ (read_behind g l (fresh c) (at (starts g l 0 [] notes) c [] rs Stage.Ready) notes (open' ∷ (body ++ close ∷ []))
              (notes_read g l c Place.Top 0 [] notes rs refl a)
              ∙ (open_read g l Bracket.Fields c Place.Top (starts g l 0 [] notes) s [] rs open' (body ++ close ∷ []) refl (omega (arith, deep.0)) opens refl
              ∙ (struct_ends g l c s [] rs body ms more close (members_read g l c s [] rs body ms more members deep.0) closes
              ∙ ap (λ x. on_turn x done) (refused s))))))

      plain : (p : Place) (notes us : List Placed) (rs : Symbols) (q : Payload) → p ≡ Place.Top → rs ≡ ss → Annotations c p notes rs → Plain c p us q
          → q ≡ payloads.Fields ms → h.item ≡ notes ++ us → TableStops ts e
      plain p notes _ rs _ top same a (is_struct p' open' close body fs more opens members closes) is cut =
          let k : fs ≡ ms = sym (ap fields_in (views.outs-Fields fs)) ∙ (ap (λ x. fields_in (views.out-Payload x)) is ∙ ap fields_in (views.outs-Fields ms)) in
          struct' notes body rs open' close more same (subst (λ x. Annotations c x notes rs) top a)
          (subst (λ x. Says x open' (Mark' Mark.FieldsOpen)) top opens) (subst (λ x. Members c body x more) k members) closes cut
      plain p notes _ rs _ top same a (one_token p' t said q says scalar) is cut = absurd (no_fields said q scalar is)
        where
          no_fields : (said : Content) (q : Payload) → IsScalar c said q → q ≡ payloads.Fields ms → ⊥
          no_fields _ _ is_null e = other _ e (ap has_fields (views.outs-Null Kind.Null))
          no_fields _ _ (is_typed_null k) e = other _ e (ap has_fields (views.outs-Null k))
          no_fields _ _ is_true e = other _ e (ap has_fields (views.outs-Truth true))
          no_fields _ _ is_false e = other _ e (ap has_fields (views.outs-Truth false))
          no_fields _ _ (is_int z) e = other _ e (ap has_fields (views.outs-Int z))
          no_fields _ _ (is_decimal z) e = other _ e (ap has_fields (views.outs-Decimal z))
          no_fields _ _ (is_timestamp z) e = other _ e (ap has_fields (views.outs-Timestamp z))
          no_fields _ _ (is_symbol said s d) e = other _ e (ap has_fields (views.outs-Symbol s))
          no_fields _ _ (is_operator w) e = other _ e (ap has_fields (views.outs-Symbol (Some w)))
          no_fields _ _ (is_short w) e = other _ e (ap has_fields (views.outs-Str w))
          no_fields _ _ (is_clob w) e = other _ e (ap has_fields (views.outs-Clob w))
          no_fields _ _ (is_blob w) e = other _ e (ap has_fields (views.outs-Blob w))
      plain p notes us rs _ top same a (long_string p' _ w d) is cut = absurd (other _ is (ap has_fields (views.outs-Str w)))
      plain p notes _ rs _ top same a (is_list p' open' close body xs more opens items closes) is cut = absurd (other _ is (ap has_fields (views.outs-List xs)))
      plain p notes _ rs _ top same a (is_sexp p' open' close body xs opens items closes) is cut = absurd (other _ is (ap has_fields (views.outs-Sexp xs)))

      value : (p : Place) (us : List Placed) (v : Value) → Means c p us v → p ≡ Place.Top → v ≡ annotated ss (payloads.Fields ms) → us ≡ h.item
          → TableStops ts e
      value p _ _ (means p' notes us rs q a d) top is cut =
          let k = payload_same rs ss q (payloads.Fields ms) is in
          plain p notes us rs q top k.0 a d k.1 (sym cut)
