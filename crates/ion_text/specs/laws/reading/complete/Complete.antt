-- The tokens of a value lead the reader to that value.
use Rattle.std.proofs.Common.{◌≡◌, ℕ, suc, max, ◌+◌, ◌≤◌, ◌<◌, List, [], ◌∷◌, ◌++◌, length, map, Bool, true, false, ◌&&◌, ◌||◌, Ok, Option, Some, None, refl, ap, sym, ◌∙◌, subst, arith, append_assoc, if◌then◌else◌, ◌⊎◌, inl, inr, codes}
use Rattle.std.proofs.lemmas.Bool.{cond-false, cond-true, false_from_ne_true, lt-ltb}
use Rattle.std.specs.Str.{bytes_eq}
use Rattle.ion_text.specs.Names.{Annotations, Blob, Bracket, Catalog, Clob, Content, Elements, Field, Frame, Held, Id, IsBody, IsName, IsScalar, IsSymbol, IsWordBody, Kind, Limits, ListOrSexp, Long, Mark, Mark', Means, Members, Number', Operator, Payload, Place, Placed, Plain, Quoted, Reading, Row, Says, Segments, Short, Slot, Stage, Symbols, Token, TokenKind, Turn, TypedNull, Value, Word, adds_none, annotated, at, begins_long, begun_at, behind_waiting, by_long, by_short, by_symbol, close_place, comma, continues, continues_now, depth, done, element, ended, ends_long, field, field_comma, field_of, first_now, first_token, goes, greatest, held_payload, held_symbol, held_word, id_of, is_false, is_id, is_keyword, is_list, is_null, is_segment, is_struct, is_symbol, is_top, is_true, is_typed_null, is_version, is_version_word, is_word, item, joined, kind_named, long_at, long_string, means, name_at, no_annotation, no_element, no_field, no_item, noted, null_of, on_name, on_ready, on_turn, one_annotation, one_token, open_mark, opened, paid, pending_at, place, place_in, reads, reads-append, released, resolved, segment, settle, spot_at, the_marker, then_walk, token_of, turn, under}
use Rattle.ion_model.specs.declared.value.Payload.TheVariants as payloads
use Rattle.ion_model.specs.laws.Measures.{deepest-more, depth-at-Fields, depth-at-List, depth-at-Sexp}
use Rattle.ion_text.specs.Grammar.{end_of, is_quoted, is_sexp}
use Rattle.ion_text.specs.laws.reading.Brackets.{open_turns}

-- how deep the deepest of these values is
abbrev pub depths : List Value → ℕ
depths vs = greatest (map depth vs)

-- a list is one level deeper than its deepest element
pub depth-list : (ss : Symbols) (vs : List Value) → depth (annotated ss (payloads.List vs)) ≡ suc (depths vs)
depth-list ss vs = depth-at-List (annotated ss (payloads.List vs)) vs refl

-- an s-expression is one level deeper than its deepest element
pub depth-sexp : (ss : Symbols) (vs : List Value) → depth (annotated ss (payloads.Sexp vs)) ≡ suc (depths vs)
depth-sexp ss vs = depth-at-Sexp (annotated ss (payloads.Sexp vs)) vs refl

-- how deep the deepest of these fields' values is
abbrev pub field_depths : List Field → ℕ
field_depths ms = greatest (map (λ f. depth f.value) ms)

-- a struct is one level deeper than the deepest value of its fields
pub depth-struct : (ss : Symbols) (ms : List Field) → depth (annotated ss (payloads.Fields ms)) ≡ suc (field_depths ms)
depth-struct ss ms = depth-at-Fields (annotated ss (payloads.Fields ms)) ms refl

-- tokens whose last ones end in a long string end in one
pub ends_behind : (ts us : List Placed) → ends_long us ≡ true → ends_long (ts ++ us) ≡ true
ends_behind (x ∷ []) [] h = absurd cc
ends_behind (x ∷ y ∷ ts) us h = ends_behind (y ∷ ts) us h
ends_behind _ _ h = h

-- tokens end with the last one
pub last_end : (front : List Placed) (t : Placed) (ts : List Placed) (k d : ℕ) → end_of k (front ++ t ∷ ts) ≡ end_of d (t ∷ ts)
last_end [] t ts k d = refl
last_end (x ∷ xs) t ts k d = last_end xs t ts x.lexeme.end d

-- tokens end where the last of them ends
pub end_more : (ts : List Placed) (t : Placed) (d : ℕ) → end_of d (ts ++ t ∷ []) ≡ t.lexeme.end
end_more [] t d = refl
end_more (u ∷ ts) t d = end_more ts t u.lexeme.end

-- with one field more the deepest is the deeper of those before and that one's value
pub field_deepest-more : (ms : List Field) (m : Field) → field_depths (ms ++ m ∷ []) ≡ max (field_depths ms) (depth m.value)
field_deepest-more [] m = omega arith
field_deepest-more (n ∷ ms) m = omega (arith, field_deepest-more ms m)

-- the kind of the tokens that say this
abbrev pub kind_said : Content → TokenKind
kind_said (Word w) = TokenKind.Word
kind_said (Id id) = TokenKind.Word
kind_said (TypedNull k) = TokenKind.KindName
kind_said (Number' n) = TokenKind.Number
kind_said (Operator w) = TokenKind.Operator
kind_said (Quoted w) = TokenKind.QuotedSymbol
kind_said (Short w) = TokenKind.ShortString
kind_said (Long w) = TokenKind.LongString
kind_said (Clob w) = TokenKind.Clob
kind_said (Blob w) = TokenKind.Blob
kind_said (Mark' m) = TokenKind.Mark m

-- a token is of the kind of what it says
pub body_kind : (k : TokenKind) (octets : List ℕ) (c : Content) → IsBody k octets (Ok c) → k ≡ kind_said c
body_kind TokenKind.Word octets c h = go (id_of octets) h
  where
    go : (id : Option ℕ) → IsWordBody octets id (Ok c) → TokenKind.Word ≡ kind_said c
    go None h = sym (ap kind_said h.0)
    go (Some id) h = let e : c ≡ Id id = cc in sym (ap kind_said e)
body_kind TokenKind.KindName octets c h = go (kind_named octets) h
  where
    go : (k : Option Kind) → Ok c ≡ null_of k → TokenKind.KindName ≡ kind_said c
    go None h = absurd cc
    go (Some k) h = let e : c ≡ TypedNull k = cc in sym (ap kind_said e)
body_kind TokenKind.Number octets (Number' n) h = refl
body_kind TokenKind.Number octets _ h = absurd h
body_kind TokenKind.Clob octets c h = let e : c ≡ Clob octets = cc in sym (ap kind_said e)
body_kind TokenKind.Blob octets c h = let e : c ≡ Blob octets = cc in sym (ap kind_said e)
body_kind (TokenKind.Mark m) octets c h = let e : c ≡ Mark' m = cc in sym (ap kind_said e)
body_kind _ octets c h = sym (ap kind_said h.0)

-- what says a segment is a token of one
pub segment_kind : (k : TokenKind) (octets w : List ℕ) → IsBody k octets (Ok (Long w)) → is_segment k ≡ true
segment_kind k octets w h = ap is_segment (body_kind k octets (Long w) h)

-- the segments of a long string end in a long string
pub segments_long : (p : Place) (ts : List Placed) (w : List ℕ) → Segments p ts w → ends_long ts ≡ true
segments_long p _ _ (segment t w h) = segment_kind t.lexeme.kind t.lexeme.octets w h.body
segments_long p _ _ (joined ts v w t d h) = ends_long_more ts t ∙ segment_kind t.lexeme.kind t.lexeme.octets w h.body
  where
    ends_long_more : (ts : List Placed) (t : Placed) → ends_long (ts ++ t ∷ []) ≡ ends_long (t ∷ [])
    ends_long_more (u ∷ v ∷ ts) t = ends_long_more (v ∷ ts) t
    ends_long_more _ t = refl

-- what says a word is the token of a word, of these octets
pub word_token : (k : TokenKind) (octets w : List ℕ) → IsBody k octets (Ok (Word w)) → (k ≡ TokenKind.Word) × (octets ≡ w)
word_token k octets w h = (kind, go (id_of octets) (subst (λ k. IsBody k octets (Ok (Word w))) kind h))
  where
    kind : k ≡ TokenKind.Word
    kind = body_kind k octets (Word w) h

    go : (id : Option ℕ) → IsWordBody octets id (Ok (Word w)) → octets ≡ w
    go None h = let e : Word w ≡ Word octets = h.0 in cc
    go (Some id) h = absurd cc

-- an unannotated word of the form of a marker is held as one, and nothing else
abbrev pub is_unmarked : Held → Bool
is_unmarked (Held.Version ours s) = false
is_unmarked _ = true

word_not_version : (w : List ℕ) → is_version w ≡ false → is_unmarked (held_word w) ≡ true
word_not_version w h = go (bytes_eq w (codes "null")) (bytes_eq w (codes "true")) (bytes_eq w (codes "false")) (bytes_eq w (codes "nan")) (is_version w) h
  where
    go : (a b c d e : Bool) → e ≡ false → is_unmarked (if a then Held.Null Kind.Null else
        (if b then Held.Truth true else (if c then Held.Truth false else
        (if d then Held.Nan else (if e then Held.Version (bytes_eq w the_marker) (Some w) else Held.Symbol (Some w)))))) ≡ true
    go false false false false true h = absurd cc
    go _ _ _ _ _ h = refl

version_word : (p : Place) (t : Placed) (w : List ℕ) → Says p t (Word w) → is_version_word (t ∷ []) ≡ is_version w
version_word p t w h = let e = word_token t.lexeme.kind t.lexeme.octets w h.body in
    ap (λ k. is_version_word (record { place = t.place; lexeme = record { start = t.lexeme.start; end = t.lexeme.end; kind = k; octets = t.lexeme.octets } }
    ∷ [])) e.0 ∙ ap is_version e.1

-- a word that is no keyword is held as its symbol
abbrev IsHeldAs : Held → Option (List ℕ) → Type 0
IsHeldAs h s = (held_symbol h ≡ Ok s) × (held_payload h ≡ Ok (payloads.Symbol s))

word_held : (w : List ℕ) → is_keyword w ≡ false → IsHeldAs (held_word w) (Some w)
word_held w h = go (bytes_eq w (codes "null")) (bytes_eq w (codes "true")) (bytes_eq w (codes "false")) (bytes_eq w (codes "nan")) (is_version w) h
  where
    go : (a b c d e : Bool) → ((a || b) || (c || d)) ≡ false
        → IsHeldAs (if a then Held.Null Kind.Null else (if b then Held.Truth true else
        (if c then Held.Truth false else (if d then Held.Nan else (if e then Held.Version (bytes_eq w the_marker) (Some w) else Held.Symbol (Some w))))))
        (Some w)
    go false false false false true h = (refl, refl)
    go false false false false false h = (refl, refl)
    go _ _ _ _ e h = absurd cc

-- where the first of the tokens begins, or else this
abbrev pub first_start : ℕ → List Placed → ℕ
first_start d [] = d
first_start d (t ∷ ts) = t.lexeme.start

module _ (g : Catalog) (l : Limits) where
  -- a symbol, where a value may come, waits for `::`
  record Holds (end start : ℕ) (c : List Slot) (fs : List Frame) (ss : Symbols) (said : Content) (s : Option (List ℕ)) : Type 0 where
    held : Held
    waits : on_ready (under g l) (spot_at end start c) fs ss said ≡ goes (at start c fs ss (Stage.Pending held end))
    is : IsHeldAs held s

  symbol_held : (end start : ℕ) (c : List Slot) (fs : List Frame) (ss : Symbols) (said : Content) (s : Option (List ℕ)) → IsSymbol c said s
      → Holds end start c fs ss said s
  symbol_held end start c fs ss _ _ (is_word w h) = record { held = held_word w; waits = refl; is = word_held w h }
  symbol_held end start c fs ss _ _ (is_id id s h) = record {
    held = Held.Symbol s;
    waits =
        ap (λ r. resolved r (λ s. goes (at start c fs ss (Stage.Pending (Held.Symbol s) end)))) h;
    is = (refl, refl);
  }
  symbol_held end start c fs ss _ _ (is_quoted w) = record { held = Held.Symbol (Some w); waits = refl; is = (refl, refl) }

  -- where the item begins once these tokens have come
  abbrev pub starts : ℕ → List Frame → List Placed → ℕ
  starts start fs [] = start
  starts start fs (t ∷ ts) = begun_at start t.lexeme.start fs []

  begun_some : (x b : ℕ) (fs : List Frame) (ss : Symbols) (s : Option (List ℕ)) → begun_at x b fs (ss ++ s ∷ []) ≡ x
  begun_some x b [] [] s = refl
  begun_some x b _ _ s = refl

  starts_more : (start : ℕ) (fs : List Frame) (ts us : List Placed) (t : Placed) (ws : List Placed) → starts start fs (ts ++ t ∷ ws)
      ≡ starts start fs ((ts ++ t ∷ ws) ++ us)
  starts_more start fs [] us t ws = refl
  starts_more start fs (x ∷ ts) us t ws = refl

  -- the item begins at its first token
  pub begun_behind : (c : List Slot) (p : Place) (start : ℕ) (fs : List Frame) (ts : List Placed) (ss : Symbols) (t : Placed) (us : List Placed)
      → Annotations c p ts ss → begun_at (starts start fs ts) t.lexeme.start fs ss ≡ starts start fs (ts ++ t ∷ us)
  begun_behind c p start fs _ _ t us no_annotation = refl
  begun_behind c p start fs _ _ t us (one_annotation ts ss u colons said s d h i j) =
      begun_some _ t.lexeme.start fs ss s ∙ starts_more start fs ts (t ∷ us) u (colons ∷ [])

  -- tokens behind others are read from where these lead
  pub read_behind : (r n : Reading) (ts us : List Placed) → reads g l r ts ≡ done n → reads g l r (ts ++ us) ≡ reads g l n us
  read_behind r n ts us e = reads-append g l ts us r ∙ (ap (λ x. then_walk x (λ k. reads g l k us)) e ∙ adds_none g l (reads g l n us))

  -- Annotations are read.
  pub notes_read : (c : List Slot) (p : Place) (start : ℕ) (fs : List Frame) (ts : List Placed) (ss : Symbols) → p ≡ place_in fs Stage.Ready
      → Annotations c p ts ss → reads g l (at start c fs [] Stage.Ready) ts ≡ done (at (starts start fs ts) c fs ss Stage.Ready)
  notes_read c p start fs _ _ here no_annotation = refl
  notes_read c p start fs _ _ here (one_annotation ts ss t colons said s d h i j) =
      let w = symbol_held t.lexeme.end (begun_at (starts start fs ts) t.lexeme.start fs ss) c fs ss said s i in
      read_behind _ _ ts (t ∷ colons ∷ []) (notes_read c p start fs ts ss here d)
      ∙ (first_token g l p _ t said (colons ∷ []) h here (inr refl)
      ∙ rw w.waits (first_token g l p _ colons (Mark' Mark.Colons) [] j (here ∙ sym (pending_at fs w.held t.lexeme.end)) (inl refl)
      ∙ rw (w.is.0, begun_behind c p start fs ts ss t (colons ∷ []) d) refl))

  -- The tokens lead to this turn: with the last of them, or once it is known that nothing of what waits goes on.
  pub data LeadsToTurn (c : List Slot) (fs : List Frame) (r : Reading) (ts : List Placed) (t : Turn) : Type 0 where
    at_once : reads g l r ts ≡ on_turn t done → LeadsToTurn c fs r ts t
    by_held : (start : ℕ) (ss : Symbols) (h : Held) (end : ℕ) → reads g l r ts ≡ done (at start c fs ss (Stage.Pending h end))
        → released (under g l) (spot_at end start c) fs ss h ≡ t → LeadsToTurn c fs r ts t
    by_long' : (start : ℕ) (ss : Symbols) (w : List ℕ) (end : ℕ) → reads g l r ts ≡ done (at start c fs ss (Stage.Long w end))
        → ended (under g l) (spot_at end start c) fs (annotated ss (payloads.Str w)) ≡ t → ends_long ts ≡ true → LeadsToTurn c fs r ts t

  -- Segments of a long string are read.
  pub segments_read : (c : List Slot) (p : Place) (start : ℕ) (fs : List Frame) (ss : Symbols) (ts : List Placed) (w : List ℕ) → p ≡ place_in fs Stage.Ready
      → Segments p ts w
      → reads g l (at start c fs ss Stage.Ready) ts ≡ done (at (begun_at start (first_start 0 ts) fs ss) c fs ss (Stage.Long w (end_of 0 ts)))
  segments_read c p start fs ss _ _ here (segment t w h) = first_token g l p (at start c fs ss Stage.Ready) t (Long w) [] h here (inr refl)
  segments_read c p start fs ss _ _ here (joined ts v w t d h) =
      read_behind _ _ ts (t ∷ []) (segments_read c p start fs ss ts v here d)
      ∙ (first_token g l p _ t (Long w) [] h (here ∙ sym (long_at fs v (end_of 0 ts))) (inl refl)
      ∙ rw (end_more ts t 0, ← first_more ts (segments_some ts v d)) refl)
    where
      first_more : (ts : List Placed) → (first : Placed) × (more : List Placed) × (ts ≡ first ∷ more) → first_start 0 ts ≡ first_start 0 (ts ++ t ∷ [])
      first_more [] h = absurd cc
      first_more (u ∷ ts) h = refl

      segments_some : (ts : List Placed) (v : List ℕ) → Segments p ts v → (first : Placed) × (more : List Placed) × (ts ≡ first ∷ more)
      segments_some _ _ (segment t w h) = (t, [], refl)
      segments_some _ _ (joined [] v w t d h) = (t, [], refl)
      segments_some _ _ (joined (u ∷ ts) v w t d h) = (u, ts ++ t ∷ [], refl)

  -- what was held is taken for a value unless it is a bare word of a marker's form at the top level
  pub released_paid : (end start : ℕ) (c : List Slot) (fs : List Frame) (ss : Symbols) (h : Held) → (fs ≡ [] → ss ≡ [] → is_unmarked h ≡ true)
      → released (under g l) (spot_at end start c) fs ss h ≡ paid (under g l) (spot_at end start c) fs ss (held_payload h)
  released_paid end start c [] [] (Held.Version b s) n = absurd (let e : false ≡ true = n refl refl in cc)
  released_paid end start c _ _ _ n = refl

  -- a token of which it isn't known whether `::` follows
  held_leads : (c : List Slot) (p : Place) (start : ℕ) (fs : List Frame) (ss : Symbols) (t : Placed) (said : Content) (h : Held) (q : Payload)
      → p ≡ place_in fs Stage.Ready → Says p t said
      → on_ready (under g l) (spot_at t.lexeme.end (begun_at start t.lexeme.start fs ss) c) fs ss said
      ≡ goes (at (begun_at start t.lexeme.start fs ss) c fs ss (Stage.Pending h t.lexeme.end))
      → held_payload h ≡ Ok q → (fs ≡ [] → ss ≡ [] → is_unmarked h ≡ true)
      → LeadsToTurn c fs (at start c fs ss Stage.Ready) (t ∷ [])
      (ended (under g l) (spot_at t.lexeme.end (begun_at start t.lexeme.start fs ss) c) fs (annotated ss q))
  held_leads c p start fs ss t said h q here i w e n =
      by_held (begun_at start t.lexeme.start fs ss) ss h t.lexeme.end
      (first_token g l p (at start c fs ss Stage.Ready) t said [] i here (inr refl) ∙ ap (λ x. on_turn x done) w)
      (released_paid t.lexeme.end (begun_at start t.lexeme.start fs ss) c fs ss h n
      ∙ ap (paid (under g l) (spot_at t.lexeme.end (begun_at start t.lexeme.start fs ss) c) fs ss) e)

  symbol_not_version : (c : List Slot) (p : Place) (start : ℕ) (fs : List Frame) (ss : Symbols) (t : Placed) (said : Content) (s : Option (List ℕ))
      → Says p t said → (d : IsSymbol c said s) → is_version_word (t ∷ []) ≡ false
      → is_unmarked (symbol_held t.lexeme.end start c fs ss said s d).held ≡ true
  unfolding symbol_held
  symbol_not_version c p start fs ss t _ _ h (is_word w k) v = word_not_version w (sym (version_word p t w h) ∙ v)
  symbol_not_version c p start fs ss t _ _ h _ v = refl

  -- One token that is a value is read.
  pub scalar_read : (c : List Slot) (p : Place) (start : ℕ) (fs : List Frame) (ss : Symbols) (t : Placed) (said : Content) (q : Payload)
      → p ≡ place_in fs Stage.Ready → Says p t said → IsScalar c said q → (fs ≡ [] → ss ≡ [] → is_version_word (t ∷ []) ≡ false)
      → LeadsToTurn c fs (at start c fs ss Stage.Ready) (t ∷ [])
      (ended (under g l) (spot_at t.lexeme.end (begun_at start t.lexeme.start fs ss) c) fs (annotated ss q))
  scalar_read c p start fs ss t _ _ here h is_null v = held_leads c p start fs ss t _ (Held.Null Kind.Null) _ here h refl refl (λ i j. refl)
  scalar_read c p start fs ss t _ _ here h (is_typed_null k) v = held_leads c p start fs ss t _ (Held.Null k) _ here h refl refl (λ i j. refl)
  scalar_read c p start fs ss t _ _ here h is_true v = held_leads c p start fs ss t _ (Held.Truth true) _ here h refl refl (λ i j. refl)
  scalar_read c p start fs ss t _ _ here h is_false v = held_leads c p start fs ss t _ (Held.Truth false) _ here h refl refl (λ i j. refl)
  scalar_read c p start fs ss t _ _ here h (is_symbol said s d) v =
      let w = symbol_held t.lexeme.end (begun_at start t.lexeme.start fs ss) c fs ss said s d in
      held_leads c p start fs ss t said w.held _ here h w.waits w.is.1
      (λ i j. symbol_not_version c p (begun_at start t.lexeme.start fs ss) fs ss t said s h d (v i j))
  scalar_read c p start fs ss t _ _ here h _ v = at_once (first_token g l p (at start c fs ss Stage.Ready) t _ [] h here (inr refl))

  end_of_front : (ts us : List Placed) (t : Placed) (d : ℕ) → end_of d (ts ++ t ∷ us) ≡ end_of 0 (t ∷ us)
  end_of_front [] us t d = refl
  end_of_front (x ∷ ts) us t d = end_of_front ts us t x.lexeme.end

  -- behind tokens that led somewhere
  leads_as : (c : List Slot) (fs : List Frame) (r n : Reading) (ts us : List Placed) (t : Turn) → reads g l r (ts ++ us) ≡ reads g l n us
      → LeadsToTurn c fs n us t → LeadsToTurn c fs r (ts ++ us) t
  leads_as c fs r n ts us t e (at_once h) = at_once (e ∙ h)
  leads_as c fs r n ts us t e (by_held start ss h end i j) = by_held start ss h end (e ∙ i) j
  leads_as c fs r n ts us t e (by_long' start ss w end i j k) = by_long' start ss w end (e ∙ i) j (ends_behind ts us k)

  leads_behind : (c : List Slot) (fs : List Frame) (r n : Reading) (ts us : List Placed) (t : Turn) → reads g l r ts ≡ done n → LeadsToTurn c fs n us t
      → LeadsToTurn c fs r (ts ++ us) t
  leads_behind c fs r n ts us t e d = leads_as c fs r n ts us t (read_behind r n ts us e) d

  -- In a container a value leads to one state, though what waits may not be put into it yet.
  pub record Reached (c : List Slot) (r : Reading) (ts : List Placed) (n : Reading) : Type 0 where
    pub now : Reading
    pub read : reads g l r ts ≡ done now
    pub settles : settle g l now ≡ goes n
    -- what may go on
    pub shuts : (t : Token) → continues now t ≡ true → (t.said ≡ Mark' Mark.Colons) ⊎ ((ends_long ts ≡ true) × (w : List ℕ) × (t.said ≡ Long w))

  -- a symbol that waits goes on with `::` alone
  pub pending_goes : (start : ℕ) (c : List Slot) (fs : List Frame) (ss : Symbols) (h : Held) (end : ℕ) (t : Token)
      → continues (at start c fs ss (Stage.Pending h end)) t ≡ true → t.said ≡ Mark' Mark.Colons
  pending_goes start c fs ss h end t e = go t.said e
    where
      go : (s : Content) → continues_now (is_top fs) (Stage.Pending h end) (record { start = 0; end = 0; said = s }) ≡ true → s ≡ Mark' Mark.Colons
      go (Mark' Mark.Colons) e = refl
      go _ e = absurd cc

  long_goes : (start : ℕ) (c : List Slot) (f : Frame) (fs : List Frame) (ss : Symbols) (w : List ℕ) (end : ℕ) (t : Token)
      → continues (at start c (f ∷ fs) ss (Stage.Long w end)) t ≡ true → (v : List ℕ) × (t.said ≡ Long v)
  long_goes start c f fs ss w end t e = go t.said e
    where
      go : (s : Content) → continues_now false (Stage.Long w end) (record { start = t.start; end = t.end; said = s }) ≡ true → (v : List ℕ) × (s ≡ Long v)
      go (Long v) e = (v, refl)
      go _ e = absurd cc

  reached : (c : List Slot) (f : Frame) (fs : List Frame) (r n : Reading) (ts : List Placed) → settle g l n ≡ goes n → ((t : Token) → continues n t ≡ false)
      → LeadsToTurn c (f ∷ fs) r ts (goes n) → Reached c r ts n
  reached c f fs r n ts s k (at_once h) = record { now = n; read = h; settles = s; shuts = λ t e. absurd (let i : true ≡ false = sym e ∙ k t in cc) }
  reached c f fs r n ts s k (by_held start ss h end i j) =
      record { now = at start c (f ∷ fs) ss (Stage.Pending h end); read = i; settles = j; shuts = λ t e. inl (pending_goes start c (f ∷ fs) ss h end t e) }
  reached c f fs r n ts s k (by_long' start ss w end i j m) =
      record {
        now = at start c (f ∷ fs) ss (Stage.Long w end);
        read = i;
        settles = j;
        shuts = λ t e. let x = long_goes start c f fs ss w end t e in
            inr (m, x.0, x.1);
      }

  -- a mark that is no `::` ends what waits
  mark_shut : (top : Bool) (n : Stage) (start end : ℕ) (m : Mark) → (m ≡ Mark.Colons → ⊥)
      → continues_now top n (record { start = start; end = end; said = Mark' m }) ≡ false
  mark_shut top (Stage.Pending h e) start end Mark.Colons k = absurd (k refl)
  mark_shut top _ start end _ k = refl

  -- behind what was reached, a mark is read where nothing waits
  mark_behind : (c : List Slot) (p : Place) (r n : Reading) (ts : List Placed) (t : Placed) (m : Mark) → p ≡ place n → Reached c r ts n → Says p t (Mark' m)
      → (m ≡ Mark.Colons → ⊥) → reads g l r (ts ++ t ∷ []) ≡ on_turn (turn g l n (token_of t.lexeme (Mark' m))) done
  mark_behind c p r n ts t m here d h k =
      read_behind r d.now ts (t ∷ []) d.read
      ∙ behind_waiting g l p d.now n t (Mark' m) [] h here (mark_shut (is_top d.now.frames) d.now.now t.lexeme.start t.lexeme.end m k) d.settles

  starts_in : (start : ℕ) (f : Frame) (fs : List Frame) (ts : List Placed) → starts start (f ∷ fs) ts ≡ start
  starts_in start f fs [] = refl
  starts_in start f fs (t ∷ ts) = refl

  -- the first token of a value, and that it is neither `::` nor, where no long string comes first, a segment
  pub record Begins (p : Place) (ts : List Placed) : Type 0 where
    pub first : Placed
    pub later : List Placed
    pub said : Content
    pub cut : ts ≡ first ∷ later
    pub says : Says p first said
    pub no_colons : said ≡ Mark' Mark.Colons → ⊥

  -- no symbol is `::`
  pub symbol_no_colons : (c : List Slot) (said : Content) (s : Option (List ℕ)) → IsSymbol c said s → said ≡ Mark' Mark.Colons → ⊥
  symbol_no_colons c _ _ (is_word w h) e = cc
  symbol_no_colons c _ _ _ e = cc

  scalar_no_colons : (c : List Slot) (said : Content) (q : Payload) → IsScalar c said q → said ≡ Mark' Mark.Colons → ⊥
  scalar_no_colons c _ _ (is_symbol said s d) e = symbol_no_colons c said s d e
  scalar_no_colons c _ _ _ e = cc

  begins_more : (p : Place) (ts us : List Placed) → Begins p ts → Begins p (ts ++ us)
  begins_more p ts us b = record {
    first = b.first;
    later = b.later ++ us;
    said = b.said;
    cut = rw b.cut refl;
    says = b.says;
    no_colons = b.no_colons;
  }

  -- segments begin with a token, which isn't `::`
  pub segments_begin : (p : Place) (ts : List Placed) (w : List ℕ) → Segments p ts w → Begins p ts
  segments_begin p _ _ (segment t w h) = record { first = t; later = []; said = Long w; cut = refl; says = h; no_colons = λ e. cc }
  segments_begin p _ _ (joined ts v w t d h) = begins_more p ts (t ∷ []) (segments_begin p ts v d)

  plain_begins : (c : List Slot) (p : Place) (ts : List Placed) (q : Payload) → Plain c p ts q → Begins p ts
  plain_begins c p _ _ (one_token p' t said q h i) =
      record { first = t; later = []; said = said; cut = refl; says = h; no_colons = scalar_no_colons c said q i }
  plain_begins c p ts _ (long_string p' _ w d) = segments_begin p ts w d
  plain_begins c p _ _ (is_list p' o e ts vs more h d i) = record { first = o; later = ts ++ e ∷ []; said = _; cut = refl; says = h; no_colons = λ e. cc }
  plain_begins c p _ _ (is_sexp p' o e ts vs h d i) = record { first = o; later = ts ++ e ∷ []; said = _; cut = refl; says = h; no_colons = λ e. cc }
  plain_begins c p _ _ (is_struct p' o e ts ms more h d i) = record { first = o; later = ts ++ e ∷ []; said = _; cut = refl; says = h; no_colons = λ e. cc }

  -- annotations and what stands behind them begin with a token, which isn't `::`
  pub notes_begin : (c : List Slot) (p : Place) (ts us : List Placed) (ss : Symbols) → Annotations c p ts ss → Begins p us → Begins p (ts ++ us)
  notes_begin c p _ us _ no_annotation b = b
  notes_begin c p _ us _ (one_annotation ts ss t colons said s d h i j) b =
      rw (append_assoc ts (t ∷ colons ∷ []) us) (notes_begin c p ts (t ∷ colons ∷ us) ss d
      (record { first = t; later = colons ∷ us; said = said; cut = refl; says = h; no_colons = symbol_no_colons c said s i }))

  -- a value begins with a token, which isn't `::`
  pub means_begins : (c : List Slot) (p : Place) (ts : List Placed) (v : Value) → Means c p ts v → Begins p ts
  means_begins c p _ _ (means p' notes ts ss q a d) = notes_begin c p notes ts ss a (plain_begins c p ts q d)

  -- the first token of a value doesn't go on with what waits
  first_shut : (c : List Slot) (p : Place) (r n : Reading) (ts us : List Placed) (d : Reached c r ts n) (b : Begins p us) → (ends_long ts && begins_long us)
      ≡ false → continues d.now (token_of b.first.lexeme b.said) ≡ false
  first_shut c p r n ts us d b e =
      let t = token_of b.first.lexeme b.said in
      false_from_ne_true (continues d.now t) (λ k. none t refl (d.shuts t k))
    where
      segment_first : (w : List ℕ) → b.said ≡ Long w → begins_long us ≡ true
      segment_first w h = ap begins_long b.cut ∙ segment_kind b.first.lexeme.kind b.first.lexeme.octets w
          (subst (λ x. IsBody b.first.lexeme.kind b.first.lexeme.octets (Ok x)) h b.says.body)

      none : (t : Token) → t ≡ token_of b.first.lexeme b.said → (t.said ≡ Mark' Mark.Colons) ⊎ ((ends_long ts ≡ true) × (w : List ℕ) × (t.said ≡ Long w)) → ⊥
      none t k (inl h) = b.no_colons (sym (ap (λ (x : Token). x.said) k) ∙ h)
      none t k (inr (long, w, h)) =
          let first = segment_first w (sym (ap (λ (x : Token). x.said) k) ∙ h) in
          let both : (ends_long ts && begins_long us) ≡ true = ap (λ x. x && begins_long us) long ∙ first in
          let never : true ≡ false = sym both ∙ e in
          cc

  -- a value behind what was reached in an s-expression
  pub item_behind : (c : List Slot) (p : Place) (r n : Reading) (ts us : List Placed) → settle g l n ≡ goes n → p ≡ place n → Reached c r ts n → Begins p us
      → (ends_long ts && begins_long us) ≡ false → reads g l r (ts ++ us) ≡ reads g l n us
  item_behind c p r n ts us s here d b e =
      read_behind r d.now ts us d.read ∙ rw b.cut (behind_waiting g l p d.now n b.first b.said b.later b.says here (first_shut c p r n ts us d b e) d.settles
      ∙ sym (first_token g l p n b.first b.said b.later b.says here (inr s)))

  -- without annotations the payload's tokens are the value's
  unnoted : (c : List Slot) (p : Place) (notes ts : List Placed) (ss : Symbols) (fs : List Frame) → Annotations c p notes ss
      → (fs ≡ [] → is_version_word (notes ++ ts) ≡ false) → fs ≡ [] → ss ≡ [] → is_version_word ts ≡ false
  unnoted c p _ ts _ fs no_annotation v i j = v i
  unnoted c p _ ts _ fs (one_annotation us ss t colons said s d h k m) v i j = absurd (none ss j)
    where
      none : (ss : Symbols) → ss ++ s ∷ [] ≡ [] → ⊥
      none [] e = cc
      none (x ∷ ss) e = cc

  -- notes and a payload behind them
  noted_leads : (c : List Slot) (p : Place) (start : ℕ) (fs : List Frame) (notes : List Placed) (t : Placed) (us : List Placed) (ss : Symbols) (q : Payload)
      → p ≡ place_in fs Stage.Ready → Annotations c p notes ss
      → LeadsToTurn c fs (at (starts start fs notes) c fs ss Stage.Ready) (t ∷ us)
      (ended (under g l) (spot_at (end_of 0 (t ∷ us)) (begun_at (starts start fs notes) t.lexeme.start fs ss) c) fs (annotated ss q))
      → LeadsToTurn c fs (at start c fs [] Stage.Ready) (notes ++ t ∷ us)
      (ended (under g l) (spot_at (end_of 0 (notes ++ t ∷ us)) (starts start fs (notes ++ t ∷ us)) c) fs (annotated ss q))
  noted_leads c p start fs notes t us ss q here a d =
      rw (end_of_front notes us t 0, ← begun_behind c p start fs notes ss t us a)
      (leads_behind c fs _ _ notes (t ∷ us) _ (notes_read c p start fs notes ss here a) d)

  -- what stands between brackets, and the close
  closed_by : (c : List Slot) (p : Place) (r n : Reading) (ts : List Placed) (t : Placed) (m : Mark) (x : Turn) → p ≡ place n → Reached c r ts n
      → Says p t (Mark' m) → (m ≡ Mark.Colons → ⊥) → turn g l n (token_of t.lexeme (Mark' m)) ≡ x → reads g l r (ts ++ t ∷ []) ≡ on_turn x done
  closed_by c p r n ts t m x here d h k e = rw (← e) (mark_behind c p r n ts t m here d h k)

  -- tokens behind which nothing waits lead to the state that they are read to
  pub ready_reached : (c : List Slot) (r n : Reading) (ts : List Placed) → settle g l n ≡ goes n → ((t : Token) → continues n t ≡ false)
      → reads g l r ts ≡ done n → Reached c r ts n
  ready_reached c r n ts s k e = record { now = n; read = e; settles = s; shuts = λ t i. absurd (let j : true ≡ false = sym i ∙ k t in cc) }

  -- in a list: where another element may come, or behind one
  abbrev pub InList : List Slot → ℕ → List Frame → Symbols → List Placed → List Value → Bool → Type 0
  InList c start fs ss ts vs true = reads g l (at start c (opened Bracket.List ss ∷ fs) [] Stage.Ready) ts
      ≡ done (at start c (Frame.Items ListOrSexp.List ss vs ∷ fs) [] Stage.Ready)
  InList c start fs ss ts vs false = Reached c (at start c (opened Bracket.List ss ∷ fs) [] Stage.Ready) ts
      (at start c (Frame.Items ListOrSexp.List ss vs ∷ fs) [] Stage.After)

  list_ends : (c : List Slot) (start : ℕ) (fs : List Frame) (ss : Symbols) (ts : List Placed) (vs : List Value) (more : Bool) (t : Placed)
      → InList c start fs ss ts vs more → Says Place.List t (Mark' Mark.ListClose)
      → reads g l (at start c (opened Bracket.List ss ∷ fs) [] Stage.Ready) (ts ++ t ∷ [])
      ≡ on_turn (ended (under g l) (spot_at t.lexeme.end start c) fs (annotated ss (payloads.List vs))) done
  list_ends c start fs ss ts vs true t h i =
      closed_by c Place.List _ (at start c (Frame.Items ListOrSexp.List ss vs ∷ fs) [] Stage.Ready) ts t Mark.ListClose _ refl
      (ready_reached c _ _ ts refl (λ t. refl) h) i (λ e. cc) refl
  list_ends c start fs ss ts vs false t h i =
      closed_by c Place.List _ (at start c (Frame.Items ListOrSexp.List ss vs ∷ fs) [] Stage.After) ts t Mark.ListClose _ refl h i (λ e. cc) refl

  -- the open of a container is read
  pub open_read : (bracket : Bracket) (c : List Slot) (p : Place) (start s : ℕ) (fs : List Frame) (ss : Symbols) (o : Placed) (us : List Placed)
      → p ≡ place_in fs Stage.Ready → length fs < l.depth → Says p o (Mark' (open_mark bracket)) → begun_at start o.lexeme.start fs ss ≡ s
      → reads g l (at start c fs ss Stage.Ready) (o ∷ us) ≡ reads g l (at s c (opened bracket ss ∷ fs) [] (first_now bracket)) us
  open_read bracket c p start s fs ss o us here deep h e =
      first_token g l p _ o (Mark' (open_mark bracket)) us h here (inr refl)
      ∙ rw (open_turns bracket (under g l) (spot_at o.lexeme.end (begun_at start o.lexeme.start fs ss) c) fs ss, lt-ltb (length fs) l.depth deep, e) refl

  -- in a struct: where a name may come, or behind a field
  abbrev pub InStruct : List Slot → ℕ → List Frame → Symbols → List Placed → List Field → Bool → Type 0
  InStruct c start fs ss ts ms true = reads g l (at start c (Frame.Fields ss [] ∷ fs) [] Stage.Name) ts
      ≡ done (at start c (Frame.Fields ss ms ∷ fs) [] Stage.Name)
  InStruct c start fs ss ts ms false = Reached c (at start c (Frame.Fields ss [] ∷ fs) [] Stage.Name) ts (at start c (Frame.Fields ss ms ∷ fs) [] Stage.After)

  -- the `}` behind the fields of a struct ends it with these fields
  pub struct_ends : (c : List Slot) (start : ℕ) (fs : List Frame) (ss : Symbols) (ts : List Placed) (ms : List Field) (more : Bool) (t : Placed)
      → InStruct c start fs ss ts ms more → Says (close_place more) t (Mark' Mark.FieldsClose)
      → reads g l (at start c (Frame.Fields ss [] ∷ fs) [] Stage.Name) (ts ++ t ∷ [])
      ≡ on_turn (ended (under g l) (spot_at t.lexeme.end start c) fs (annotated ss (payloads.Fields ms))) done
  struct_ends c start fs ss ts ms true t h i =
      closed_by c Place.Name _ (at start c (Frame.Fields ss ms ∷ fs) [] Stage.Name) ts t Mark.FieldsClose _ refl
      (ready_reached c _ _ ts refl (λ t. refl) h) i (λ e. cc) refl
  struct_ends c start fs ss ts ms false t h i =
      closed_by c Place.FieldValue _ (at start c (Frame.Fields ss ms ∷ fs) [] Stage.After) ts t Mark.FieldsClose _ refl h i (λ e. cc) refl

  -- a symbol is a name
  pub symbol_named : (c : List Slot) (start end : ℕ) (fs : List Frame) (said : Content) (s : Option (List ℕ)) → IsSymbol c said s
      → on_name (under g l) (spot_at end start c) fs said ≡ goes (at start c fs [] (Stage.Keyed s))
  symbol_named c start end fs _ _ (is_word w h) = cond-false _ _ _ h
  symbol_named c start end fs _ _ (is_id id s h) = ap (λ r. resolved r (λ s. goes (at start c fs [] (Stage.Keyed s)))) h
  symbol_named c start end fs _ _ (is_quoted w) = refl

  -- segments where a field's name may come are read as a long name, which waits
  pub long_named : (c : List Slot) (start : ℕ) (fs : List Frame) (ts : List Placed) (w : List ℕ) → Place.Name ≡ place_in fs Stage.Name
      → Segments Place.Name ts w → reads g l (at start c fs [] Stage.Name) ts ≡ done (at start c fs [] (Stage.LongName w))
  long_named c start fs _ _ here (segment t w h) = first_token g l Place.Name (at start c fs [] Stage.Name) t (Long w) [] h here (inr refl)
  long_named c start fs _ _ here (joined ts v w t d h) =
      read_behind _ _ ts (t ∷ []) (long_named c start fs ts v here d)
      ∙ first_token g l Place.Name (at start c fs [] (Stage.LongName v)) t (Long w) [] h (here ∙ sym (name_at fs v)) (inl refl)

  -- A name and its colon are read.
  pub name_read : (c : List Slot) (start : ℕ) (fs : List Frame) (ss : Symbols) (ms : List Field) (ns : List Placed) (s : Option (List ℕ)) (colon : Placed)
      (us : List Placed) → IsName c ns s → Says Place.Name colon (Mark' Mark.Colon)
      → reads g l (at start c (Frame.Fields ss ms ∷ fs) [] Stage.Name) (ns ++ colon ∷ us) ≡ reads g l (at start c (Frame.Named ss ms s ∷ fs) [] Stage.Ready) us
  name_read c start fs ss ms _ _ colon us (by_symbol t said s h i) k =
      first_token g l Place.Name (at start c (Frame.Fields ss ms ∷ fs) [] Stage.Name) t said (colon ∷ us) h refl (inr refl)
      ∙ rw (symbol_named c start t.lexeme.end (Frame.Fields ss ms ∷ fs) said s i)
      (first_token g l Place.Name (at start c (Frame.Fields ss ms ∷ fs) [] (Stage.Keyed s)) colon (Mark' Mark.Colon) us k refl (inr refl))
  name_read c start fs ss ms _ _ colon us (by_short t w h) k =
      first_token g l Place.Name (at start c (Frame.Fields ss ms ∷ fs) [] Stage.Name) t (Short w) (colon ∷ us) h refl (inr refl)
      ∙ first_token g l Place.Name (at start c (Frame.Fields ss ms ∷ fs) [] (Stage.Keyed (Some w))) colon (Mark' Mark.Colon) us k refl (inr refl)
  name_read c start fs ss ms _ _ colon us (by_long ts w d) k =
      read_behind _ _ ts (colon ∷ us) (long_named c start (Frame.Fields ss ms ∷ fs) ts w refl d)
      ∙ behind_waiting g l Place.Name (at start c (Frame.Fields ss ms ∷ fs) [] (Stage.LongName w))
      (at start c (Frame.Fields ss ms ∷ fs) [] (Stage.Keyed (Some w))) colon (Mark' Mark.Colon) us k refl refl refl

  mutual
    -- A value without annotations is read.
    plain_read : (c : List Slot) (p : Place) (start : ℕ) (fs : List Frame) (ss : Symbols) (ts : List Placed) (q : Payload) → p ≡ place_in fs Stage.Ready
        → Plain c p ts q → (fs ≡ [] → ss ≡ [] → is_version_word ts ≡ false) → depth (annotated ss q) + length fs ≤ l.depth
        → LeadsToTurn c fs (at start c fs ss Stage.Ready) ts (ended (under g l) (spot_at (end_of 0 ts) (begun_at start (first_start 0 ts) fs ss) c) fs
        (annotated ss q))
    plain_read c p start fs ss _ _ here (one_token p' t said q h i) v deep = scalar_read c p start fs ss t said q here h i v
    plain_read c p start fs ss ts _ here (long_string p' _ w d) v deep =
        by_long' (begun_at start (first_start 0 ts) fs ss) ss w (end_of 0 ts) (segments_read c p start fs ss ts w here d) refl (segments_long p ts w d)
    plain_read c p start fs ss _ _ here (is_list p' o e ts vs more h d i) v deep =
        let s = begun_at start o.lexeme.start fs ss in
        let dl = depth-list ss vs in
        at_once (open_read Bracket.List c p start s fs ss o (ts ++ e ∷ []) here (omega arith) h refl
        ∙ rw (end_of_front (o ∷ ts) [] e 0) (list_ends c s fs ss ts vs more e (elements_read c s fs ss ts vs more d (omega arith)) i))
    plain_read c p start fs ss _ _ here (is_sexp p' o e ts vs h d i) v deep =
        let s = begun_at start o.lexeme.start fs ss in
        let dl = depth-sexp ss vs in
        at_once (open_read Bracket.Sexp c p start s fs ss o (ts ++ e ∷ []) here (omega arith) h refl
        ∙ rw (end_of_front (o ∷ ts) [] e 0)
        (closed_by c Place.Sexp _ _ ts e Mark.SexpClose _ refl (row_read c s fs ss ts vs d (omega arith)) i (λ e. cc) refl))
    plain_read c p start fs ss _ _ here (is_struct p' o e ts ms more h d i) v deep =
        let s = begun_at start o.lexeme.start fs ss in
        let dl = depth-struct ss ms in
        at_once (open_read Bracket.Fields c p start s fs ss o (ts ++ e ∷ []) here (omega arith) h refl
        ∙ rw (end_of_front (o ∷ ts) [] e 0) (struct_ends c s fs ss ts ms more e (members_read c s fs ss ts ms more d (omega arith)) i))

    -- A value is read.
    pub means_read : (c : List Slot) (p : Place) (start : ℕ) (fs : List Frame) (ts : List Placed) (v : Value) → p ≡ place_in fs Stage.Ready → Means c p ts v
        → (fs ≡ [] → is_version_word ts ≡ false) → depth v + length fs ≤ l.depth
        → LeadsToTurn c fs (at start c fs [] Stage.Ready) ts (ended (under g l) (spot_at (end_of 0 ts) (starts start fs ts) c) fs v)
    means_read c p start fs _ _ here (means p' notes ts ss q a d) v deep =
        let b = plain_begins c p ts q d in
        rw b.cut (noted_leads c p start fs notes b.first b.later ss q here a
        (rw b.cut at (plain_read c p (starts start fs notes) fs ss ts q here d (unnoted c p notes ts ss fs a v) deep)))

    -- the elements of a list lead the reader from its `[` to a list of them
    pub elements_read : (c : List Slot) (start : ℕ) (fs : List Frame) (ss : Symbols) (ts : List Placed) (vs : List Value) (more : Bool) → Elements c ts vs more
        → depths vs + suc (length fs) ≤ l.depth → InList c start fs ss ts vs more
    elements_read c start fs ss _ _ _ no_element deep = refl
    elements_read c start fs ss _ _ _ (element ts us vs v d m) deep =
        let k = deepest-more vs v in
        let f = Frame.Items ListOrSexp.List ss vs in
        reached c f fs _ _ (ts ++ us) refl (λ t. refl) (leads_behind c (f ∷ fs) _ _ ts us _ (elements_read c start fs ss ts vs true d (omega arith))
        (rw (starts_in start f fs us) at (means_read c Place.List start (f ∷ fs) us v refl m (λ e. absurd cc) (omega arith))))
    elements_read c start fs ss _ _ _ (comma ts vs t d h) deep =
        mark_behind c Place.List _ _ ts t Mark.Comma refl (elements_read c start fs ss ts vs false d deep) h (λ e. cc)

    -- the elements of an s-expression lead the reader from its `(` to an s-expression of them
    pub row_read : (c : List Slot) (start : ℕ) (fs : List Frame) (ss : Symbols) (ts : List Placed) (vs : List Value) → Row c ts vs
        → depths vs + suc (length fs) ≤ l.depth
        → Reached c (at start c (opened Bracket.Sexp ss ∷ fs) [] Stage.Ready) ts (at start c (Frame.Items ListOrSexp.Sexp ss vs ∷ fs) [] Stage.Ready)
    row_read c start fs ss _ _ no_item deep = ready_reached c _ _ [] refl (λ t. refl) refl
    row_read c start fs ss _ _ (item ts us vs v d m apart) deep =
        let k = deepest-more vs v in
        let f = Frame.Items ListOrSexp.Sexp ss vs in
        reached c f fs _ _ (ts ++ us) refl (λ t. refl) (leads_as c (f ∷ fs) _ (at start c (f ∷ fs) [] Stage.Ready) ts us _
        (item_behind c Place.Sexp _ _ ts us refl refl (row_read c start fs ss ts vs d (omega arith)) (means_begins c Place.Sexp us v m) apart)
        (rw (starts_in start f fs us) at (means_read c Place.Sexp start (f ∷ fs) us v refl m (λ e. absurd cc) (omega arith))))

    -- the fields of a struct lead the reader from its `{` to a struct of them
    pub members_read : (c : List Slot) (start : ℕ) (fs : List Frame) (ss : Symbols) (ts : List Placed) (ms : List Field) (more : Bool) → Members c ts ms more
        → field_depths ms + suc (length fs) ≤ l.depth → InStruct c start fs ss ts ms more
    members_read c start fs ss _ _ _ no_field deep = refl
    members_read c start fs ss _ _ _ (field ts ns us colon ms s v d m i w) deep =
        let k = field_deepest-more ms (field_of s v) in
        let f = Frame.Named ss ms s in
        let cut : ts ++ (ns ++ colon ∷ us) ≡ (ts ++ (ns ++ colon ∷ [])) ++ us = simp append_assoc in
        rw cut (reached c f fs _ _ ((ts ++ (ns ++ colon ∷ [])) ++ us) refl (λ t. refl)
        (leads_as c (f ∷ fs) _ (at start c (f ∷ fs) [] Stage.Ready) (ts ++ (ns ++ colon ∷ [])) us _
        (rw (← cut) (read_behind _ _ ts (ns ++ colon ∷ us) (members_read c start fs ss ts ms true d (omega arith)) ∙ name_read c start fs ss ms ns s colon us m i))
        (rw (starts_in start f fs us) at (means_read c Place.FieldValue start (f ∷ fs) us v refl w (λ e. absurd cc) (omega arith)))))
    members_read c start fs ss _ _ _ (field_comma ts ms t d h) deep =
        mark_behind c Place.FieldValue _ _ ts t Mark.Comma refl (members_read c start fs ss ts ms false d deep) h (λ e. cc)
