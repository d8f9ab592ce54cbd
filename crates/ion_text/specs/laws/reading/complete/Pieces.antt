-- The tokens of a document lead the reader to its stream.
use Rattle.std.proofs.Common.{◌≡◌, ℕ, ◌+◌, ◌-◌, ◌≤◌, ◌==◌, nat_le, List, [], ◌∷◌, ◌++◌, Bool, true, false, ◌&&◌, ◌||◌, Ok, refl, ap, sym, ◌∙◌, subst, arith, append-nil, if◌then◌else◌, ◌⊎◌, inl, inr}
use Rattle.std.proofs.lemmas.Bool.{cond-false, cond-true, false_from_ne_true}
use Rattle.std.proofs.lemmas.Bool.Decides.{nat_tests}
use Rattle.ion_text.specs.Names.{Annotations, Catalog, Content, IsBody, Leading, Limits, Long, Mark, Mark', Means, Pieces, Place, Placed, Quoted, Reading, Says, Slot, Stage, Symbols, Token, TokenKind, Turn, Value, Walk, Word, adds_adds, adds_none, adds_values, annotated, at, begins, begins_as_long, continues, done, ends_long, first_token, fresh, gives, goes, held_word, holds, in_place, is_segment, is_table, is_top, is_two_quotes, is_version_word, marked, means, no_annotation, on_judged, on_turn, one_annotation, place, reads, reads-append, released, said, said_ok, settle, settle_same, span, spot_at, system_slots, the_marker, then_walk, token_of, turn, turned, turns, under}
use Rattle.ion_text.specs.Grammar.{end_of}
use Rattle.ion_text.specs.machine.TokenLists.{walked}
use Rattle.ion_text.specs.laws.reading.complete.Complete.{Begins, LeadsToTurn, at_once, body_kind, by_held, by_long', means_begins, means_read, pending_goes, segment_kind, starts, word_token}

-- a token that goes on behind a long string at the top level: a segment, or `''`
abbrev pub GoesOn : Token → Type 0
GoesOn t = ((w : List ℕ) × (t.said ≡ Long w)) ⊎ ((w : List ℕ) × (t.said ≡ Quoted w) × ((t.end == t.start + 2) ≡ true))

-- what says a quoted symbol is the token of one
pub quoted_kind : (k : TokenKind) (octets w : List ℕ) → IsBody k octets (Ok (Quoted w)) → k ≡ TokenKind.QuotedSymbol
quoted_kind k octets w h = body_kind k octets (Quoted w) h

begins_so : (t : Placed) (ts : List Placed) (c : Content) → Says Place.Top t c → GoesOn (token_of t.lexeme c) → begins_as_long (t ∷ ts) ≡ true
begins_so t ts c h (inl (w, e)) = ap (λ (b : Bool). b || is_two_quotes t.lexeme.kind t.lexeme.start t.lexeme.end)
    (segment_kind t.lexeme.kind t.lexeme.octets w (subst (λ x. IsBody t.lexeme.kind t.lexeme.octets (Ok x)) e h.body))
begins_so t ts c h (inr (w, e, n)) = ap (λ k. is_segment k || is_two_quotes k t.lexeme.start t.lexeme.end)
    (quoted_kind t.lexeme.kind t.lexeme.octets w (subst (λ x. IsBody t.lexeme.kind t.lexeme.octets (Ok x)) e h.body)) ∙ n

module _ (g : Catalog) (l : Limits) where
  -- the pieces so far, of which the last may wait still
  pub record ReadSoFar (ts : List Placed) (s : List Value) (c : List Slot) : Type 0 where
    pub given : List Value
    pub later : List Value
    pub now : Reading
    pub read : reads g l (fresh system_slots) ts ≡ walked given now
    pub settles : on_turn (settle g l now) done ≡ walked later (fresh c)
    pub all : s ≡ given ++ later
    pub shuts : (t : Token) → continues now t ≡ true → (t.said ≡ Mark' Mark.Colons) ⊎ ((ends_long ts ≡ true) × GoesOn t)

  -- walks that are the same gave the same values, and led to the same reading
  pub walked_now : (vs ws : List Value) (r n : Reading) → walked vs r ≡ walked ws n → (vs ≡ ws) × (r ≡ n)
  walked_now vs ws r n e = (cc, cc)

  -- what waited comes first, and then the reader goes on
  pub settled_first : (x : Turn) (later : List Value) (n : Reading) (f : Reading → Walk) → on_turn x done ≡ walked later n
      → on_turn x f ≡ adds_values later (f n)
  settled_first (goes r) later n f e = let w = walked_now [] later r n e in ap f w.1 ∙ (sym (adds_none g l (f n)) ∙ ap (λ vs. adds_values vs (f n)) w.0)
  settled_first (gives v r) later n f e = let w = walked_now (v ∷ []) later r n e in ap (λ k. adds_values (v ∷ []) (f k)) w.1
      ∙ ap (λ vs. adds_values vs (f n)) w.0
  settled_first _ later n f e = absurd cc

  -- what may wait behind a piece stands at the top level
  pub top_now : (r : Reading) (later : List Value) (c : List Slot) → on_turn (settle g l r) done ≡ walked later (fresh c) → Place.Top ≡ place r
  top_now r later c e = go (settle g l r) (settle_same g l r.start r.context r.frames r.notes r.now) e
    where
      go : (t : Turn) → Leading g l (λ m. (place m ≡ place r) × (is_top m.frames ≡ is_top r.frames)) t → on_turn t done ≡ walked later (fresh c)
          → Place.Top ≡ place r
      go (goes n) h e = let w = walked_now [] later n (fresh c) e in ap place (sym w.1) ∙ h.0
      go (gives v n) h e = let w = walked_now (v ∷ []) later n (fresh c) e in ap place (sym w.1) ∙ h.0
      go _ h e = absurd cc

  shut_here : (ts us : List Placed) (s : List Value) (c : List Slot) (d : ReadSoFar ts s c) (b : Begins g l Place.Top us) → (ends_long ts && begins_as_long us)
      ≡ false → continues d.now (token_of b.first.lexeme b.said) ≡ false
  shut_here ts us s c d b e =
      let t = token_of b.first.lexeme b.said in
      false_from_ne_true (continues d.now t) (λ k. none t refl (d.shuts t k))
    where
      none : (t : Token) → t ≡ token_of b.first.lexeme b.said → (t.said ≡ Mark' Mark.Colons) ⊎ ((ends_long ts ≡ true) × GoesOn t) → ⊥
      none t k (inl h) = b.no_colons (sym (ap (λ (x : Token). x.said) k) ∙ h)
      none t k (inr (long, on)) =
          let first : begins_as_long us ≡ true = ap begins_as_long b.cut ∙ begins_so b.first b.later b.said b.says (subst GoesOn k on) in
          let both : (ends_long ts && begins_as_long us) ≡ true = ap (λ x. x && begins_as_long us) long ∙ first in
          let never : true ≡ false = sym both ∙ e in
          cc

  -- Behind pieces, more tokens that don't go on with what waits are read where nothing is open.
  pub more_read : (ts us : List Placed) (s : List Value) (c : List Slot) (d : ReadSoFar ts s c) → (b : Begins g l Place.Top us)
      → (ends_long ts && begins_as_long us) ≡ false → reads g l (fresh system_slots) (ts ++ us) ≡ adds_values s (reads g l (fresh c) us)
  more_read ts us s c d b e =
      let shut = shut_here ts us s c d b e in
      let f : Reading → Walk = λ k. on_turn (turn g l k (token_of b.first.lexeme b.said)) (λ n. reads g l n b.later) in
      let here : reads g l d.now (b.first ∷ b.later) ≡ on_turn (settle g l d.now) f =
      in_place g l Place.Top d.now b.first b.said (on_judged g l d.now b.first (said b.first.lexeme.kind b.first.lexeme.octets) (λ n. reads g l n b.later))
      b.says (top_now d.now d.later c d.settles)
      ∙ ap (λ x. on_judged g l d.now b.first x (λ n. reads g l n b.later)) (said_ok g l Place.Top b.first b.said b.says)
      ∙ ap (λ (x : Bool). if x then on_turn (turn g l d.now (token_of b.first.lexeme b.said)) (λ n. reads g l n b.later) else on_turn (settle g l d.now) f)
      shut in
      let there : reads g l (fresh c) (b.first ∷ b.later) ≡ f (fresh c) = first_token g l Place.Top (fresh c) b.first b.said b.later b.says refl (inr refl) in
      reads-append g l ts us (fresh system_slots)
      ∙ (ap (λ x. then_walk x (λ k. reads g l k us)) d.read
      ∙ (ap (λ x. adds_values d.given (reads g l d.now x)) b.cut
      ∙ (ap (adds_values d.given) (here ∙ settled_first (settle g l d.now) d.later (fresh c) f d.settles)
      ∙ (adds_adds g l d.given d.later (f (fresh c))
      ∙ (ap (λ x. adds_values x (f (fresh c))) (sym d.all)
      ∙ ap (adds_values s) (sym there ∙ sym (ap (reads g l (fresh c)) b.cut)))))))

  ends_with : (ts us : List Placed) (b : Begins g l Place.Top us) → ends_long (ts ++ us) ≡ ends_long us
  ends_with ts us b = ap (λ x. ends_long (ts ++ x)) b.cut ∙ (front ts b.first b.later ∙ sym (ap ends_long b.cut))
    where
      front : (ts : List Placed) (t : Placed) (us : List Placed) → ends_long (ts ++ t ∷ us) ≡ ends_long (t ∷ us)
      front (x ∷ y ∷ ts) t us = front (y ∷ ts) t us
      front _ t us = refl

  long_goes_top : (start : ℕ) (c : List Slot) (ss : Symbols) (w : List ℕ) (end : ℕ) (t : Token) → continues (at start c [] ss (Stage.Long w end)) t ≡ true
      → GoesOn t
  long_goes_top start c ss w end t e = go t.said refl e
    where
      go : (s : Content) → t.said ≡ s → continues (at start c [] ss (Stage.Long w end)) (record { start = t.start; end = t.end; said = s }) ≡ true → GoesOn t
      go (Long v) k e = inl (v, k)
      go (Quoted v) k e = inr (v, k, e)
      go _ k e = absurd cc

  -- one more piece, by the turn that completes it
  piece_more : (ts us : List Placed) (s more : List Value) (c d : List Slot) (t : Turn) → ReadSoFar ts s c → (b : Begins g l Place.Top us)
      → (ends_long ts && begins_as_long us) ≡ false → LeadsToTurn g l c [] (fresh c) us t → on_turn t done ≡ walked more (fresh d)
      → ReadSoFar (ts ++ us) (s ++ more) d
  piece_more ts us s more c d t r b e (at_once h) k = record {
    given = s ++ more;
    later = [];
    now = fresh d;
    read = more_read ts us s c r b e ∙ ap (adds_values s) (h ∙ k);
    settles = refl;
    all = sym (append-nil (s ++ more));
    shuts = λ t i. absurd cc;
  }
  piece_more ts us s more c d t r b e (by_held start ss h end i j) k = record {
    given = s ++ [];
    later = more;
    now = at start c [] ss (Stage.Pending h end);
    read = more_read ts us s c r b e ∙ ap (adds_values s) i;
    settles = ap (λ x. on_turn x done) j ∙ k;
    all = ap (λ x. x ++ more) (sym (append-nil s));
    shuts = λ t m. inl (pending_goes g l start c [] ss h end t m);
  }
  piece_more ts us s more c d t r b e (by_long' start ss w end i j n) k = record {
    given = s ++ [];
    later = more;
    now = at start c [] ss (Stage.Long w end);
    read = more_read ts us s c r b e ∙ ap (adds_values s) i;
    settles = ap (λ x. on_turn x done) j ∙ k;
    all = ap (λ x. x ++ more) (sym (append-nil s));
    shuts = λ t m. inr (ends_with ts us b ∙ n, long_goes_top start c ss w end t m);
  }

  -- a span within the limit
  fits_span : (us : List Placed) (b : Begins g l Place.Top us) → span us ≤ l.item → nat_le (end_of 0 us) (starts g l 0 [] us + l.item) ≡ true
  fits_span us b h =
      ap (λ x. nat_le (end_of 0 x) (starts g l 0 [] x + l.item)) b.cut
      ∙ fits (end_of b.first.lexeme.end b.later) b.first.lexeme.start (subst (λ x. span x ≤ l.item) b.cut h)
    where
      fits : (end start : ℕ) → end - start ≤ l.item → nat_le end (start + l.item) ≡ true
      fits end start h = grind (arith, nat_tests)

  -- a table isn't one word, which has no annotation
  table_no_word : (c : List Slot) (us : List Placed) (v : Value) → Means c Place.Top us v → is_table v ≡ true → is_version_word us ≡ false
  table_no_word c _ _ (means p notes ts ss q a d) h = go notes ss a h
    where
      go : (notes : List Placed) (ss : Symbols) → Annotations c Place.Top notes ss → is_table (annotated ss q) ≡ true → is_version_word (notes ++ ts) ≡ false
      go _ _ no_annotation h = absurd cc
      go _ _ (one_annotation (x ∷ []) rs t colons said s e i j k) h = refl
      go _ _ _ h = refl

  -- The tokens of pieces give their values.
  pub pieces_read : (ts : List Placed) (s : List Value) (c : List Slot) → Pieces g l ts s c → ReadSoFar ts s c
  pieces_read _ _ _ begins = record { given = []; later = []; now = fresh system_slots; read = refl; settles = refl; all = refl; shuts = λ t e. absurd cc }
  pieces_read _ _ _ (marked ts s c t d h i) =
      let b : Begins g l Place.Top (t ∷ []) = record { first = t; later = []; said = Word the_marker; cut = refl; says = h; no_colons = λ e. cc } in
      subst (λ x. ReadSoFar (ts ++ t ∷ []) x system_slots) (append-nil s)
      (piece_more ts (t ∷ []) s [] c system_slots (released (under g l) (spot_at t.lexeme.end t.lexeme.start c) [] [] (held_word the_marker))
      (pieces_read ts s c d) b (no_long (ends_long ts) t h)
      (by_held t.lexeme.start [] (held_word the_marker) t.lexeme.end (first_token g l Place.Top (fresh c) t (Word the_marker) [] h refl (inr refl)) refl)
      (ap (λ x. on_turn x done) (cond-true _ _ _ (fits_span (t ∷ []) b i))))
    where
      no_long : (x : Bool) (t : Placed) → Says Place.Top t (Word the_marker) → (x && begins_as_long (t ∷ [])) ≡ false
      no_long false t h = refl
      no_long true t h = ap (λ k. is_segment k || is_two_quotes k t.lexeme.start t.lexeme.end) (word_token t.lexeme.kind t.lexeme.octets the_marker h.body).0
  pieces_read _ _ _ (turns ts us s c e v d m t n p i a) =
      let b = means_begins g l c Place.Top us v m in
      subst (λ x. ReadSoFar (ts ++ us) x e) (append-nil s)
      (piece_more ts us s [] c e _ (pieces_read ts s c d) b a (means_read g l c Place.Top 0 [] us v refl m (λ x. table_no_word c us v m t) (omega arith))
      (ap (λ x. on_turn x done) (cond-true _ _ _ t ∙ (ap (turned l.item (starts g l 0 [] us) (end_of 0 us)) n ∙ cond-true _ _ _ (fits_span us b i)))))
  pieces_read _ _ _ (holds ts us s c v d m t w p i a) =
      let b = means_begins g l c Place.Top us v m in
      piece_more ts us s (v ∷ []) c c _ (pieces_read ts s c d) b a (means_read g l c Place.Top 0 [] us v refl m (λ x. w) (omega arith))
      (ap (λ x. on_turn x done) (cond-false _ _ _ t ∙ cond-true _ _ _ (fits_span us b i)))
