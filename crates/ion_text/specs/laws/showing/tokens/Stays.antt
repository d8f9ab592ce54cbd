-- The tokens of an open item lead the reader of tokens to where it stands, though what waits may not be put there yet.
use Rattle.std.proofs.Common.{◌≡◌, ℕ, suc, ◌+◌, ◌≤◌, Bool, true, false, ◌&&◌, List, [], ◌∷◌, ◌++◌, length, refl, sym, ap, ◌∙◌, subst, arith, append_assoc, append-nil, Option, Some, Ok, ◌⊎◌, inl, inr}
use Rattle.std.proofs.lemmas.Bool.{and_right}
use Rattle.ion_text.specs.laws.reading.complete.Segments.{never}
use Rattle.ion_text.specs.Names.{Annotations, Bracket, Catalog, Content, Elements, Field, Frame, Held, Id, IsBody, IsName, Leading, Limits, ListOrSexp, Long, Mark, Mark', Members, Pieces, Place, Placed, Quoted, Reading, Says, Segments, Short, Slot, Stage, Symbols, Token, TypedNull, Value, Word, adds_values, at, begins_as_long, begins_long, begun_at, behind_item, bracket_in, by_long, by_short, by_symbol, comma, done, ends_long, field_comma, first_now, first_token, fresh, goes, is_fresh, is_long, is_top, long_at, no_annotation, no_element, no_field, on_ready, on_turn, one_annotation, open_mark, opened, pending_at, place, place_in, reads, resolved, said_body, settle, settle_same, spot_at, system_slots, under}
use Rattle.ion_text.specs.Grammar.{end_of}
use Rattle.ion_text.specs.machine.TokenLists.{walked}
use Rattle.ion_text.specs.laws.reading.Brackets.{no_colons}
use Rattle.ion_text.specs.laws.reading.complete.Complete.{Begins, InStruct, Reached, begun_behind, elements_read, ends_behind, field_depths, first_start, item_behind, last_end, long_named, members_read, name_read, notes_begin, notes_read, open_read, read_behind, ready_reached, row_read, segments_begin, segments_read, starts, symbol_named, symbol_no_colons}
use Rattle.ion_text.specs.laws.reading.complete.Going.{mark_kind, says_so}
use Rattle.ion_text.specs.laws.reading.complete.Pieces.{more_read, pieces_read}
use Rattle.ion_text.specs.laws.reading.sound.Depths.{Deep}
use Rattle.ion_text.specs.laws.reading.sound.Held.{IsSome, last_long, name_some, opened_some, some_more}
use Rattle.ion_text.specs.laws.reading.sound.Spans.{IsWaiting}
use Rattle.ion_text.specs.laws.reading.sound.StandsOpen.{EndsAt, IsHeld, IsInside, Items, LongFor, NowStands, Opened, PendingFor, ReadyFor, Receives, long_behind, not_long, notes_not_long, symbol_no_long, symbol_said, value_place}
use Rattle.ion_text.specs.laws.showing.tokens.Firsts.{now_first, opens_item}
use Rattle.ion_text.specs.laws.showing.tokens.Walks.{walking_said}

module _ (g : Catalog) (l : Limits) where
  -- what the containers wait for
  abbrev target : List Frame → Bool → Stage
  target (Frame.Items listing ss vs ∷ fs) false = behind_item listing
  target (Frame.Fields ss ms ∷ fs) true = Stage.Name
  target (Frame.Fields ss ms ∷ fs) false = Stage.After
  target _ _ = Stage.Ready

  received : (fs : List Frame) → Receives fs → target fs true ≡ Stage.Ready
  received (Frame.Fields ss ms ∷ fs) r = absurd r
  received _ r = refl

  -- the item begins at its first token
  starts_join : (c : List Slot) (fs : List Frame) (front us : List Placed) → Opened c fs front true → starts g l (starts g l 0 [] front) fs us
      ≡ starts g l 0 [] (front ++ us)
  starts_join c fs front [] o = ap (starts g l 0 []) (sym (append-nil front))
  starts_join c [] front (u ∷ us) o = ap (λ x. starts g l 0 [] (x ++ u ∷ us)) (sym o)
  starts_join c (f ∷ fs) [] (u ∷ us) o = absurd (let e = opened_some c (f ∷ fs) true o in cc)
  starts_join c (f ∷ fs) (t ∷ ts) (u ∷ us) o = refl

  module _ (c : List Slot) (fs : List Frame) (front : List Placed) (o : Opened c fs front true)
      (d : Reached g l c (fresh c) front (at (starts g l 0 [] front) c fs [] Stage.Ready)) where
    abbrev p : Place
    p = value_place fs

    abbrev start : ℕ
    start = starts g l 0 [] front

    module _ (notes : List Placed) (ss : Symbols) (a : Annotations c p notes ss) where
      -- behind annotations
      noted_behind : (us : List Placed) → Begins g l p (notes ++ us) → (ends_long front && begins_long (notes ++ us)) ≡ false
          → reads g l (fresh c) (front ++ (notes ++ us)) ≡ reads g l (at (starts g l start fs notes) c fs ss Stage.Ready) us
      noted_behind us b e =
          item_behind g l c p (fresh c) (at start c fs [] Stage.Ready) front (notes ++ us) refl refl d b e
          ∙ read_behind g l (at start c fs [] Stage.Ready) (at (starts g l start fs notes) c fs ss Stage.Ready) notes us
          (notes_read g l c p start fs notes ss refl a)

      begun_there : (t : Placed) (us : List Placed) → begun_at (starts g l start fs notes) t.lexeme.start fs ss ≡ starts g l 0 [] (front ++ (notes ++ t ∷ us))
      begun_there t us = begun_behind g l c p start fs notes ss t us a ∙ starts_join c fs front (notes ++ t ∷ us) o

      -- one token behind them that is no segment
      pub token_behind : (t : Placed) (said : Content) (us : List Placed) → Says p t said → (said ≡ Mark' Mark.Colons → ⊥) → ((w : List ℕ) → said ≡ Long w → ⊥)
          → reads g l (fresh c) (front ++ (notes ++ t ∷ us)) ≡ reads g l (at (starts g l start fs notes) c fs ss Stage.Ready) (t ∷ us)
      token_behind t said us h n k =
          noted_behind (t ∷ us) (notes_begin g l c p notes (t ∷ us) ss a (record { first = t; later = us; said = said; cut = refl; says = h; no_colons = n }))
          (and_right (ends_long front) (begins_long (notes ++ t ∷ us)) (notes_not_long c p notes us ss t a (not_long p t said h k)))

  -- what is reached by the last tokens is reached by all
  reached_behind : (c : List Slot) (r m n : Reading) (ts us : List Placed) → reads g l r (ts ++ us) ≡ reads g l m us → Reached g l c m us n
      → Reached g l c r (ts ++ us) n
  reached_behind c r m n ts us e d = record { now = d.now; read = e ∙ d.read; settles = d.settles; shuts = λ t k. longer t (d.shuts t k) }
    where
      longer : (t : Token) → (t.said ≡ Mark' Mark.Colons) ⊎ ((ends_long us ≡ true) × (w : List ℕ) × (t.said ≡ Long w)) → (t.said ≡ Mark' Mark.Colons)
          ⊎ ((ends_long (ts ++ us) ≡ true) × (w : List ℕ) × (t.said ≡ Long w))
      longer t (inl h) = inl h
      longer t (inr (h, w, k)) = inr (ends_behind ts us h, w, k)

  regroup : (front notes body : List Placed) (t : Placed) → front ++ (notes ++ t ∷ body) ≡ (front ++ (notes ++ t ∷ [])) ++ body
  regroup front notes body t = ap (λ x. front ++ x) (sym (append_assoc notes (t ∷ []) body)) ∙ sym (append_assoc front (notes ++ t ∷ []) body)

  -- where the innermost container's tokens lead, so do all
  into : (c : List Slot) (m n : Reading) (front notes body : List Placed) (t : Placed) → reads g l (fresh c) (front ++ (notes ++ t ∷ body)) ≡ reads g l m body
      → Reached g l c m body n → Reached g l c (fresh c) (front ++ (notes ++ t ∷ body)) n
  into c m n front notes body t e d =
      subst (λ x. Reached g l c (fresh c) x n) (sym (regroup front notes body t))
      (reached_behind c (fresh c) m n (front ++ (notes ++ t ∷ [])) body (ap (reads g l (fresh c)) (sym (regroup front notes body t)) ∙ e) d)

  abbrev Outer : List Slot → List Frame → List Placed → Type 0
  Outer c fs front = Reached g l c (fresh c) front (at (starts g l 0 [] front) c fs [] Stage.Ready)

  items_read : (c : List Slot) (listing : ListOrSexp) (ss : Symbols) (vs : List Value) (fs : List Frame) (ts : List Placed) (more : Bool)
      → Deep l.depth (Frame.Items listing ss vs ∷ fs) → (o : Opened c (Frame.Items listing ss vs ∷ fs) ts more) → Outer c fs o.front
      → Reached g l c (fresh c) ts (at (starts g l 0 [] ts) c (Frame.Items listing ss vs ∷ fs) [] (target (Frame.Items listing ss vs ∷ fs) more))
  items_read c listing ss vs fs ts more deep o d =
      subst (λ x. Reached g l c (fresh c) x (at (starts g l 0 [] x) c (Frame.Items listing ss vs ∷ fs) [] (target (Frame.Items listing ss vs ∷ fs) more)))
      (sym o.whole)
      (into c (at begin c (Frame.Items listing ss [] ∷ fs) [] Stage.Ready)
      (at begin c (Frame.Items listing ss vs ∷ fs) [] (target (Frame.Items listing ss vs ∷ fs) more)) o.front o.notes o.body o.open'
      (there listing o.opens) (inside listing more o.items))
    where
      begin : ℕ
      begin = starts g l 0 [] (o.front ++ (o.notes ++ o.open' ∷ o.body))

      opens : (bracket : Bracket) → Says (value_place fs) o.open' (Mark' (open_mark bracket))
          → reads g l (fresh c) (o.front ++ (o.notes ++ o.open' ∷ o.body))
          ≡ reads g l (at begin c (opened bracket ss ∷ fs) [] (first_now bracket)) o.body
      opens bracket says =
          let k = deep.0 in
          token_behind c fs o.front o.outer d o.notes ss o.noted o.open' (Mark' (open_mark bracket)) o.body says (no_colons bracket) (λ w e. cc)
          ∙ open_read g l bracket c (value_place fs) (starts g l (starts g l 0 [] o.front) fs o.notes) begin fs ss o.open' o.body refl (omega (arith, k)) says
          (begun_there c fs o.front o.outer d o.notes ss o.noted o.open' o.body)

      there : (listing : ListOrSexp) → Says (value_place fs) o.open' (Mark' (open_mark (bracket_in listing)))
          → reads g l (fresh c) (o.front ++ (o.notes ++ o.open' ∷ o.body)) ≡ reads g l (at begin c (Frame.Items listing ss [] ∷ fs) [] Stage.Ready) o.body
      there ListOrSexp.List = opens Bracket.List
      there ListOrSexp.Sexp = opens Bracket.Sexp

      inside : (listing : ListOrSexp) (more : Bool) → Items c listing vs more o.body
          → Reached g l c (at begin c (Frame.Items listing ss [] ∷ fs) [] Stage.Ready) o.body
          (at begin c (Frame.Items listing ss vs ∷ fs) [] (target (Frame.Items listing ss vs ∷ fs) more))
      inside ListOrSexp.List true h =
          ready_reached g l c (at begin c (opened Bracket.List ss ∷ fs) [] Stage.Ready) (at begin c (Frame.Items ListOrSexp.List ss vs ∷ fs) [] Stage.Ready)
          o.body
          refl (λ t. refl) (elements_read g l c begin fs ss o.body vs true h (deep.0))
      inside ListOrSexp.List false h = elements_read g l c begin fs ss o.body vs false h (deep.0)
      inside ListOrSexp.Sexp true h = row_read g l c begin fs ss o.body vs h (deep.0)
      inside ListOrSexp.Sexp false h = row_read g l c begin fs ss o.body vs h (deep.0)

  -- behind the open brace of a struct
  struct_there : (c : List Slot) (ss : Symbols) (ms : List Field) (fs : List Frame) (front notes us : List Placed) (t : Placed) → Opened c fs front true
      → field_depths ms + suc (length fs) ≤ l.depth → Outer c fs front → Annotations c (value_place fs) notes ss
      → Says (value_place fs) t (Mark' Mark.FieldsOpen)
      → reads g l (fresh c) (front ++ (notes ++ t ∷ us)) ≡ reads g l
      (at (starts g l 0 [] (front ++ (notes ++ t ∷ us))) c (Frame.Fields ss [] ∷ fs) [] Stage.Name) us
  struct_there c ss ms fs front notes us t o k d a i =
      token_behind c fs front o d notes ss a t (Mark' Mark.FieldsOpen) us i (λ e. cc) (λ w e. cc)
      ∙ open_read g l Bracket.Fields c (value_place fs) (starts g l (starts g l 0 [] front) fs notes) (starts g l 0 [] (front ++ (notes ++ t ∷ us))) fs ss t
      us refl
      (omega (arith, k)) i (begun_there c fs front o d notes ss a t us)

  fields_read : (c : List Slot) (ss : Symbols) (ms : List Field) (fs : List Frame) (ts : List Placed) (more : Bool) → Deep l.depth (Frame.Fields ss ms ∷ fs)
      → (o : Opened c (Frame.Fields ss ms ∷ fs) ts more) → Outer c fs o.front
      → Reached g l c (fresh c) ts (at (starts g l 0 [] ts) c (Frame.Fields ss ms ∷ fs) [] (target (Frame.Fields ss ms ∷ fs) more))
  fields_read c ss ms fs ts more deep o d =
      subst (λ x. Reached g l c (fresh c) x (at (starts g l 0 [] x) c (Frame.Fields ss ms ∷ fs) [] (target (Frame.Fields ss ms ∷ fs) more))) (sym o.whole)
      (into c (at begin c (Frame.Fields ss [] ∷ fs) [] Stage.Name) (at begin c (Frame.Fields ss ms ∷ fs) [] (target (Frame.Fields ss ms ∷ fs) more)) o.front
      o.notes o.body o.open'
      (struct_there c ss ms fs o.front o.notes o.body o.open' o.outer (deep.0) d o.noted o.opens)
      (inside more (members_read g l c begin fs ss o.body ms more o.items (deep.0))))
    where
      begin : ℕ
      begin = starts g l 0 [] (o.front ++ (o.notes ++ o.open' ∷ o.body))

      inside : (more : Bool) → InStruct g l c begin fs ss o.body ms more
          → Reached g l c (at begin c (Frame.Fields ss [] ∷ fs) [] Stage.Name) o.body
          (at begin c (Frame.Fields ss ms ∷ fs) [] (target (Frame.Fields ss ms ∷ fs) more))
      inside true h = ready_reached g l c (at begin c (Frame.Fields ss [] ∷ fs) [] Stage.Name) (at begin c (Frame.Fields ss ms ∷ fs) [] Stage.Name) o.body refl
          (λ t. refl) h
      inside false h = h

  named_read : (c : List Slot) (ss : Symbols) (ms : List Field) (s : Option (List ℕ)) (fs : List Frame) (ts : List Placed) (more : Bool)
      → Deep l.depth (Frame.Named ss ms s ∷ fs) → (o : Opened c (Frame.Named ss ms s ∷ fs) ts more) → Outer c fs o.front
      → Reached g l c (fresh c) ts (at (starts g l 0 [] ts) c (Frame.Named ss ms s ∷ fs) [] Stage.Ready)
  named_read c ss ms s fs ts more deep o d =
      subst (λ x. Reached g l c (fresh c) x (at (starts g l 0 [] x) c (Frame.Named ss ms s ∷ fs) [] Stage.Ready)) (sym o.whole)
      (ready_reached g l c (fresh c) (at begin c (Frame.Named ss ms s ∷ fs) [] Stage.Ready)
      (o.front ++ (o.notes ++ o.open' ∷ (o.body ++ (o.name ++ o.colon ∷ [])))) refl (λ t. refl)
      (struct_there c ss ms fs o.front o.notes (o.body ++ (o.name ++ o.colon ∷ [])) o.open' o.outer (deep.0) d o.noted o.opens
      ∙ (read_behind g l (at begin c (Frame.Fields ss [] ∷ fs) [] Stage.Name) (at begin c (Frame.Fields ss ms ∷ fs) [] Stage.Name) o.body
      (o.name ++ o.colon ∷ []) (members_read g l c begin fs ss o.body ms true o.items (deep.0))
      ∙ name_read g l c begin fs ss ms o.name s o.colon [] o.named o.colons)))
    where
      begin : ℕ
      begin = starts g l 0 [] (o.front ++ (o.notes ++ o.open' ∷ (o.body ++ (o.name ++ o.colon ∷ []))))

  outer : (c : List Slot) (fs : List Frame) (front : List Placed) → Receives fs
      → Reached g l c (fresh c) front (at (starts g l 0 [] front) c fs [] (target fs true)) → Outer c fs front
  outer c fs front r = subst (λ n. Reached g l c (fresh c) front (at (starts g l 0 [] front) c fs [] n)) (received fs r)

  -- The tokens up to what has come of the innermost container are read.
  pub opened_read : (c : List Slot) (fs : List Frame) (ts : List Placed) (more : Bool) → Deep l.depth fs → Opened c fs ts more
      → Reached g l c (fresh c) ts (at (starts g l 0 [] ts) c fs [] (target fs more))
  opened_read c [] ts more deep o = subst (λ x. Reached g l c (fresh c) x (at (starts g l 0 [] x) c [] [] Stage.Ready)) (sym o)
      (ready_reached g l c (fresh c) (fresh c) [] refl (λ t. refl) refl)
  opened_read c (Frame.Items listing ss vs ∷ fs) ts more deep o =
      items_read c listing ss vs fs ts more deep o (outer c fs o.front o.receives (opened_read c fs o.front true deep.1 o.outer))
  opened_read c (Frame.Fields ss ms ∷ fs) ts more deep o =
      fields_read c ss ms fs ts more deep o (outer c fs o.front o.receives (opened_read c fs o.front true deep.1 o.outer))
  opened_read c (Frame.Named ss ms s ∷ fs) ts more deep o =
      named_read c ss ms s fs ts more deep o (outer c fs o.front o.receives (opened_read c fs o.front true deep.1 o.outer))

  -- where the reader of tokens is, or what it settles to, in this place
  pub record Arrived (c : List Slot) (fs : List Frame) (ss : Symbols) (now : Stage) (ts : List Placed) : Type 0 where
    pub r : Reading
    pub read : reads g l (fresh c) ts ≡ done r
    pub here : place r ≡ place_in fs now
    pub is : ((n : Reading) × (settle g l r ≡ goes n) × (is_fresh n ≡ false) × (n.start ≡ starts g l 0 [] ts))
        ⊎ (IsWaiting g l now × IsWaiting g l r.now × (r.start ≡ starts g l 0 [] ts))
    -- where a value may come it settles to that, and what waits waits so
    pub ready : now ≡ Stage.Ready → settle g l r ≡ goes (at (starts g l 0 [] ts) c fs ss Stage.Ready)
    pub waited : IsWaiting g l now → EndsAt now (end_of 0 ts) → r ≡ at (starts g l 0 [] ts) c fs ss now

  settled_place : (r n : Reading) → settle g l r ≡ goes n → place r ≡ place n
  settled_place r n e = sym (subst (Leading g l (λ m. (place m ≡ place r) × (is_top m.frames ≡ is_top r.frames))) e
      (settle_same g l r.start r.context r.frames r.notes r.now)).0

  by_reached : (c : List Slot) (fs : List Frame) (ss : Symbols) (now : Stage) (ts : List Placed) (n : Reading) → Reached g l c (fresh c) ts n
      → place n ≡ place_in fs now → is_fresh n ≡ false → n.start ≡ starts g l 0 [] ts → (now ≡ Stage.Ready → n ≡ at (starts g l 0 [] ts) c fs ss Stage.Ready)
      → (IsWaiting g l now → ⊥) → Arrived c fs ss now ts
  by_reached c fs ss now ts n d h new k same free = record {
    r = d.now;
    read = d.read;
    here = settled_place d.now n d.settles ∙ h;
    is = inl (n, d.settles, new, k);
    ready = λ e. d.settles ∙ ap goes (same e);
    waited = λ w e. absurd (free w);
  }

  -- a long string that ends what has come of the open containers ends the innermost s-expression so far
  ends_some : (ts us : List Placed) → IsSome us → ends_long (ts ++ us) ≡ ends_long us
  ends_some (t ∷ []) [] h = absurd h
  ends_some (t ∷ x ∷ ts) us h = ends_some (x ∷ ts) us h
  ends_some _ _ h = refl

  ends_open : (front notes us : List Placed) (t : Placed) → ends_long (front ++ (notes ++ t ∷ us)) ≡ ends_long (t ∷ us)
  ends_open front notes us t = ends_some front (notes ++ t ∷ us) (some_more notes us t) ∙ ends_some notes (t ∷ us) tt

  mark_not_long : (p : Place) (t : Placed) (m : Mark) → Says p t (Mark' m) → is_long t ≡ false
  mark_not_long p t m h = not_long p t (Mark' m) h (λ w e. cc)

  elements_short : (c : List Slot) (p : Place) (t : Placed) (m : Mark) (ts : List Placed) (vs : List Value) → Says p t (Mark' m) → Elements c ts vs true
      → ends_long (t ∷ ts) ≡ false
  elements_short c p t m _ _ h no_element = mark_not_long p t m h
  elements_short c p t m _ _ h (comma ts vs u d i) = last_long (t ∷ ts) u ∙ mark_not_long Place.List u Mark.Comma i

  members_short : (c : List Slot) (p : Place) (t : Placed) (m : Mark) (ts : List Placed) (ms : List Field) → Says p t (Mark' m) → Members c ts ms true
      → ends_long (t ∷ ts) ≡ false
  members_short c p t m _ _ h no_field = mark_not_long p t m h
  members_short c p t m _ _ h (field_comma ts ms u d i) = last_long (t ∷ ts) u ∙ mark_not_long Place.FieldValue u Mark.Comma i

  long_outer : (c : List Slot) (fs : List Frame) (ts : List Placed) → (o : Opened c fs ts true) → ends_long ts ≡ true → long_behind c fs ts o ≡ true
  long_outer c [] ts o h = absurd (never (ends_long ts) (ap ends_long o) h)
  long_outer c (Frame.Items ListOrSexp.List ss vs ∷ fs) ts o h = absurd (never (ends_long ts)
      (ap ends_long o.whole ∙ (ends_open o.front o.notes o.body o.open' ∙ elements_short c (value_place fs) o.open' Mark.ListOpen o.body vs o.opens o.items))
      h)
  long_outer c (Frame.Fields ss ms ∷ fs) ts o h = absurd (never (ends_long ts)
      (ap ends_long o.whole ∙ (ends_open o.front o.notes o.body o.open' ∙ members_short c (value_place fs) o.open' Mark.FieldsOpen o.body ms o.opens o.items))
      h)
  long_outer c (Frame.Named ss ms s ∷ fs) ts o h =
      absurd (never (ends_long ts) (ap ends_long o.whole ∙ (ends_open o.front o.notes (o.body ++ (o.name ++ o.colon ∷ [])) o.open'
      ∙ (ends_some (o.open' ∷ o.body) (o.name ++ o.colon ∷ []) (some_more o.name [] o.colon)
      ∙ (ends_some o.name (o.colon ∷ []) tt ∙ mark_not_long Place.Name o.colon Mark.Colon o.colons)))) h)
  long_outer c (Frame.Items ListOrSexp.Sexp ss vs ∷ fs) ts o h = by o.body (sym (ends_open o.front o.notes o.body o.open') ∙ (sym (ap ends_long o.whole) ∙ h))
    where
      by : (body : List Placed) → ends_long (o.open' ∷ body) ≡ true → ends_long body ≡ true
      by [] k = absurd (never (is_long o.open') (mark_not_long (value_place fs) o.open' Mark.SexpOpen o.opens) k)
      by (x ∷ xs) k = k

  -- annotations behind what has come
  noted_arrives : (c : List Slot) (fs : List Frame) (front notes : List Placed) (ss : Symbols) → Opened c fs front true → Outer c fs front
      → Annotations c (value_place fs) notes ss → is_fresh (at 0 c fs ss Stage.Ready) ≡ false → Arrived c fs ss Stage.Ready (front ++ notes)
  noted_arrives c fs front _ _ o d no_annotation new =
      subst (Arrived c fs [] Stage.Ready) (sym (append-nil front))
      (by_reached c fs [] Stage.Ready front (at (starts g l 0 [] front) c fs [] Stage.Ready) d refl new refl (λ e. refl) (λ w. w))
  noted_arrives c fs front _ _ o d (one_annotation ts ss t colons said s a i j k) new = record {
    r = at (starts g l (starts g l 0 [] front) fs (ts ++ t ∷ colons ∷ [])) c fs (ss ++ s ∷ []) Stage.Ready;
    read =
        item_behind g l c (value_place fs) (fresh c) (at (starts g l 0 [] front) c fs [] Stage.Ready) front (ts ++ t ∷ colons ∷ []) refl refl d
        (notes_begin g l c (value_place fs) ts (t ∷ colons ∷ []) ss a
        (record { first = t; later = colons ∷ []; said = said; cut = refl; says = i; no_colons = symbol_no_colons g l c said s j }))
        (and_right (ends_long front) (begins_long (ts ++ t ∷ colons ∷ []))
        (notes_not_long c (value_place fs) ts (colons ∷ []) ss t a (not_long (value_place fs) t said i (symbol_no_long c said s j))))
        ∙ notes_read g l c (value_place fs) (starts g l 0 [] front) fs (ts ++ t ∷ colons ∷ []) (ss ++ s ∷ []) refl
        (one_annotation ts ss t colons said s a i j k);
    here = refl;
    is = inl (
      at (starts g l (starts g l 0 [] front) fs (ts ++ t ∷ colons ∷ [])) c fs (ss ++ s ∷ []) Stage.Ready,
      refl,
      new,
      starts_join c fs front (ts ++ t ∷ colons ∷ []) o,
    );
    ready = λ e. ap (λ (x : ℕ). goes (at x c fs (ss ++ s ∷ []) Stage.Ready)) (starts_join c fs front (ts ++ t ∷ colons ∷ []) o);
    waited = λ w e. absurd w;
  }

  -- where a value may come, the tokens before its annotations lead the reader to its containers
  pub ready_outer : (c : List Slot) (fs : List Frame) (ss : Symbols) (ts : List Placed) → Deep l.depth fs → (d : ReadyFor c fs ss ts) → Outer c fs d.front
  ready_outer c fs ss ts deep d = outer c fs d.front d.receives (opened_read c fs d.front true deep d.outer)

  -- what may be a symbol waits for `::`
  symbol_waits : (end start : ℕ) (c : List Slot) (fs : List Frame) (ss : Symbols) (said : Content) (h : Held) → symbol_said said ≡ true → IsHeld c said h
      → on_ready (under g l) (spot_at end start c) fs ss said ≡ goes (at start c fs ss (Stage.Pending h end))
  symbol_waits end start c fs ss (Word w) h e k = ap (λ x. goes (at start c fs ss (Stage.Pending x end))) (sym k)
  symbol_waits end start c fs ss (Id id) h e k =
      ap (λ r. resolved r (λ s. goes (at start c fs ss (Stage.Pending (Held.Symbol s) end)))) k.1
      ∙ ap (λ x. goes (at start c fs ss (Stage.Pending x end))) (sym k.2)
  symbol_waits end start c fs ss (Quoted w) h e k = ap (λ x. goes (at start c fs ss (Stage.Pending x end))) (sym k)
  symbol_waits end start c fs ss (TypedNull n) h e k = ap (λ x. goes (at start c fs ss (Stage.Pending x end))) (sym k)
  symbol_waits end start c fs ss _ h e k = absurd cc

  said_no_colons : (said : Content) → symbol_said said ≡ true → said ≡ Mark' Mark.Colons → ⊥
  said_no_colons said h e = never (symbol_said said) (ap symbol_said e) h

  pending_arrives : (c : List Slot) (fs : List Frame) (ss : Symbols) (h : Held) (end : ℕ) (ts : List Placed) → Deep l.depth fs → PendingFor c fs ss h ts
      → Arrived c fs ss (Stage.Pending h end) ts
  pending_arrives c fs ss h end ts deep d =
      let e = d.ready in
      let t = d.token in
      let o = ready_outer c fs ss d.before deep e in
      let begin = begun_at (starts g l (starts g l 0 [] e.front) fs e.notes) t.lexeme.start fs ss in
      let w = symbol_waits t.lexeme.end begin c fs ss d.said h d.named d.known in
      let whole : e.front ++ (e.notes ++ t ∷ []) ≡ ts = sym (d.whole ∙ (ap (λ x. x ++ t ∷ []) e.whole ∙ append_assoc e.front e.notes (t ∷ []))) in
      subst (Arrived c fs ss (Stage.Pending h end)) whole (record {
        r = at begin c fs ss (Stage.Pending h t.lexeme.end);
        read =
            token_behind c fs e.front e.outer o e.notes ss e.noted t d.said [] d.says (said_no_colons d.said d.named) d.other
            ∙ (first_token g l (value_place fs) (at (starts g l (starts g l 0 [] e.front) fs e.notes) c fs ss Stage.Ready) t d.said [] d.says refl (inr refl)
            ∙ ap (λ x. on_turn x done) w);
        here = pending_at fs h t.lexeme.end ∙ sym (pending_at fs h end);
        is = inr (tt, tt, begun_there c fs e.front e.outer o e.notes ss e.noted t []);
        ready = λ e. absurd cc;
        waited = λ w last.
            ap (λ (x : ℕ). at x c fs ss (Stage.Pending h t.lexeme.end)) (begun_there c fs e.front e.outer o e.notes ss e.noted t [])
            ∙ ap (λ (x : ℕ). at (starts g l 0 [] (e.front ++ (e.notes ++ t ∷ []))) c fs ss (Stage.Pending h x))
            (sym (last ∙ (ap (end_of 0) (sym (append_assoc e.front e.notes (t ∷ []))) ∙ last_end (e.front ++ e.notes) t [] 0 0)));
      })

  long_arrives : (c : List Slot) (fs : List Frame) (ss : Symbols) (w : List ℕ) (end : ℕ) (ts : List Placed) → Deep l.depth fs → LongFor c fs ss w ts
      → Arrived c fs ss (Stage.Long w end) ts
  long_arrives c fs ss w end ts deep d =
      subst (Arrived c fs ss (Stage.Long w end)) whole (record {
        r = at begin c fs ss (Stage.Long w (end_of 0 d.segments));
        read =
            noted_behind c fs e.front e.outer o e.notes ss e.noted d.segments (notes_begin g l c (value_place fs) e.notes d.segments ss e.noted b)
            (apart (ends_long e.front) refl)
            ∙ segments_read g l c (value_place fs) (starts g l (starts g l 0 [] e.front) fs e.notes) fs ss d.segments w refl d.are;
        here = long_at fs w (end_of 0 d.segments) ∙ sym (long_at fs w end);
        is = inr (
          tt,
          tt,
          subst (λ x. begun_at (starts g l (starts g l 0 [] e.front) fs e.notes) (first_start 0 x) fs ss
              ≡ starts g l 0 [] (e.front ++ (e.notes ++ x))) (sym b.cut) (begun_there c fs e.front e.outer o e.notes ss e.noted b.first b.later),
        );
        ready = λ e. absurd cc;
        waited = λ x last.
            ap (λ (x : ℕ). at x c fs ss (Stage.Long w (end_of 0 d.segments)))
            (subst (λ x. begun_at (starts g l (starts g l 0 [] e.front) fs e.notes) (first_start 0 x) fs ss ≡ starts g l 0 [] (e.front ++ (e.notes ++ x)))
            (sym b.cut) (begun_there c fs e.front e.outer o e.notes ss e.noted b.first b.later))
            ∙ ap (λ (x : ℕ). at (starts g l 0 [] (e.front ++ (e.notes ++ d.segments))) c fs ss (Stage.Long w x)) (sym (last ∙ segments_end));
      })
    where
      e : ReadyFor c fs ss d.before
      e = d.ready

      o : Outer c fs e.front
      o = ready_outer c fs ss d.before deep e

      b : Begins g l (value_place fs) d.segments
      b = segments_begin g l (value_place fs) d.segments w d.are

      begin : ℕ
      begin = begun_at (starts g l (starts g l 0 [] e.front) fs e.notes) (first_start 0 d.segments) fs ss

      whole : e.front ++ (e.notes ++ d.segments) ≡ ts
      whole = sym (d.whole ∙ (ap (λ x. x ++ d.segments) e.whole ∙ append_assoc e.front e.notes d.segments))

      segments_end : end_of 0 (e.front ++ (e.notes ++ d.segments)) ≡ end_of 0 d.segments
      segments_end =
          ap (end_of 0) (sym (append_assoc e.front e.notes d.segments))
          ∙ subst (λ x. end_of 0 ((e.front ++ e.notes) ++ x) ≡ end_of 0 x) (sym b.cut) (last_end (e.front ++ e.notes) b.first b.later 0 0)

      apart : (x : Bool) → ends_long e.front ≡ x → (x && begins_long (e.notes ++ d.segments)) ≡ false
      apart false k = refl
      apart true k = ap (λ x. x && begins_long (e.notes ++ d.segments)) (sym (long_outer c fs e.front e.outer k)) ∙ d.apart

  starts_front : (ts us : List Placed) → ([] ≡ ts → ⊥) → starts g l 0 [] ts ≡ starts g l 0 [] (ts ++ us)
  starts_front [] us n = absurd (n refl)
  starts_front (t ∷ ts) us n = refl

  -- in a struct, a name behind what has come
  module _ (c : List Slot) (ss : Symbols) (ms : List Field) (fs : List Frame) (before : List Placed) (deep : Deep l.depth (Frame.Fields ss ms ∷ fs))
      (o : Opened c (Frame.Fields ss ms ∷ fs) before true) (notes : Symbols) where
    -- a name behind what has come of a struct is read from where a name may come
    pub name_there : (name : List Placed) → Begins g l Place.Name name → reads g l (fresh c) (before ++ name)
        ≡ reads g l (at (starts g l 0 [] before) c (Frame.Fields ss ms ∷ fs) [] Stage.Name) name
    name_there name b = item_behind g l c Place.Name (fresh c) (at (starts g l 0 [] before) c (Frame.Fields ss ms ∷ fs) [] Stage.Name) before name refl refl
        (opened_read c (Frame.Fields ss ms ∷ fs) before true deep o) b (apart (ends_long before) refl)
      where
        apart : (x : Bool) → ends_long before ≡ x → (x && begins_long name) ≡ false
        apart false k = refl
        apart true k = absurd (let n : false ≡ true = long_outer c (Frame.Fields ss ms ∷ fs) before o k in cc)

    named_arrives : (now : Stage) → (now ≡ Stage.Ready → ⊥) → (IsWaiting g l now → ⊥) → (name : List Placed) (r : Reading) (s : Option (List ℕ))
        → Place.Name ≡ place_in (Frame.Fields ss ms ∷ fs) now → Begins g l Place.Name name
        → reads g l (at (starts g l 0 [] before) c (Frame.Fields ss ms ∷ fs) [] Stage.Name) name ≡ done r → place r ≡ Place.Name
        → settle g l r ≡ goes (at (starts g l 0 [] before) c (Frame.Fields ss ms ∷ fs) [] (Stage.Keyed s))
        → Arrived c (Frame.Fields ss ms ∷ fs) notes now (before ++ name)
    named_arrives now unready free name r s q b e h k = record {
      r = r;
      read = name_there name b ∙ e;
      here = h ∙ q;
      is = inl (
        at (starts g l 0 [] before) c (Frame.Fields ss ms ∷ fs) [] (Stage.Keyed s),
        k,
        refl,
        starts_front before name (name_some c (Frame.Fields ss ms ∷ fs) before o tt),
      );
      ready = λ e. absurd (unready e);
      waited = λ w e. absurd (free w);
    }

    long_name_arrives : (now : Stage) → (now ≡ Stage.Ready → ⊥) → (IsWaiting g l now → ⊥) → (name : List Placed) (w : List ℕ)
        → Place.Name ≡ place_in (Frame.Fields ss ms ∷ fs) now → Segments Place.Name name w → Arrived c (Frame.Fields ss ms ∷ fs) notes now (before ++ name)
    long_name_arrives now unready free name w q d =
        named_arrives now unready free name (at (starts g l 0 [] before) c (Frame.Fields ss ms ∷ fs) [] (Stage.LongName w)) (Some w) q
        (segments_begin g l Place.Name name w d) (long_named g l c (starts g l 0 [] before) (Frame.Fields ss ms ∷ fs) name w refl d) refl refl

    keyed_arrives : (s : Option (List ℕ)) (name : List Placed) → IsName c name s → Arrived c (Frame.Fields ss ms ∷ fs) notes (Stage.Keyed s) (before ++ name)
    keyed_arrives _ _ (by_long ts w d) = long_name_arrives (Stage.Keyed (Some w)) (λ e. cc) (λ w. w) ts w refl d
    keyed_arrives _ _ (by_short t w h) =
        named_arrives (Stage.Keyed (Some w)) (λ e. cc) (λ w. w) (t ∷ []) (at (starts g l 0 [] before) c (Frame.Fields ss ms ∷ fs) [] (Stage.Keyed (Some w)))
        (Some w) refl (record { first = t; later = []; said = Short w; cut = refl; says = h; no_colons = λ e. cc })
        (first_token g l Place.Name (at (starts g l 0 [] before) c (Frame.Fields ss ms ∷ fs) [] Stage.Name) t (Short w) [] h refl (inr refl)) refl refl
    keyed_arrives s _ (by_symbol t said _ h i) =
        named_arrives (Stage.Keyed s) (λ e. cc) (λ w. w) (t ∷ []) (at (starts g l 0 [] before) c (Frame.Fields ss ms ∷ fs) [] (Stage.Keyed s)) s refl
        (record { first = t; later = []; said = said; cut = refl; says = h; no_colons = symbol_no_colons g l c said s i })
        (first_token g l Place.Name (at (starts g l 0 [] before) c (Frame.Fields ss ms ∷ fs) [] Stage.Name) t said [] h refl (inr refl)
        ∙ ap (λ x. on_turn x done) (symbol_named g l c (starts g l 0 [] before) t.lexeme.end (Frame.Fields ss ms ∷ fs) said s i)) refl refl

  inside_place : (fs : List Frame) → IsInside fs → place_in fs (target fs false) ≡ place_in fs Stage.After
  inside_place (Frame.Items listing ss vs ∷ fs) i = refl
  inside_place [] i = absurd i
  inside_place _ i = refl

  inside_new : (begin : ℕ) (c : List Slot) (fs : List Frame) (ss : Symbols) (now : Stage) → IsInside fs → is_fresh (at begin c fs ss now) ≡ false
  inside_new begin c (f ∷ fs) ss now i = refl
  inside_new begin c [] ss now i = absurd i

  -- The tokens of an open item are read.
  pub arrived : (c : List Slot) (fs : List Frame) (ss : Symbols) (now : Stage) (ts : List Placed) → Deep l.depth fs → NowStands c fs ss ts now
      → is_fresh (at 0 c fs ss now) ≡ false → Arrived c fs ss now ts
  arrived c fs ss Stage.Ready ts deep d new = subst (Arrived c fs ss Stage.Ready) (sym d.whole)
      (noted_arrives c fs d.front d.notes ss d.outer (ready_outer c fs ss ts deep d) d.noted new)
  arrived c fs ss (Stage.Pending h end) ts deep d new = pending_arrives c fs ss h end ts deep d
  arrived c fs ss (Stage.Long w end) ts deep d new = long_arrives c fs ss w end ts deep d
  arrived c fs ss Stage.After ts deep d new = by_reached c fs ss Stage.After ts (at (starts g l 0 [] ts) c fs [] (target fs false))
      (opened_read c fs ts false deep d.0) (inside_place fs d.2) (inside_new (starts g l 0 [] ts) c fs [] (target fs false) d.2) refl (λ e. absurd cc) (λ w. w)
  arrived c (Frame.Fields xs ms ∷ fs) ss Stage.Name ts deep d new =
      by_reached c (Frame.Fields xs ms ∷ fs) ss Stage.Name ts (at (starts g l 0 [] ts) c (Frame.Fields xs ms ∷ fs) [] Stage.Name)
      (opened_read c (Frame.Fields xs ms ∷ fs) ts true deep d.0) refl refl refl (λ e. absurd cc) (λ w. w)
  arrived c (Frame.Fields xs ms ∷ fs) ss (Stage.LongName w) ts deep d new =
      subst (Arrived c (Frame.Fields xs ms ∷ fs) ss (Stage.LongName w)) (sym d.whole)
      (long_name_arrives c xs ms fs d.before deep d.outer ss (Stage.LongName w) (λ e. cc) (λ w. w) d.name w refl d.is)
  arrived c (Frame.Fields xs ms ∷ fs) ss (Stage.Keyed s) ts deep d new =
      subst (Arrived c (Frame.Fields xs ms ∷ fs) ss (Stage.Keyed s)) (sym d.whole) (keyed_arrives c xs ms fs d.before deep d.outer ss s d.name d.is)
  arrived c _ ss Stage.Name ts deep d new = absurd (d.1)
  arrived c _ ss _ ts deep d new = absurd d.struct

  -- and those of pieces before it
  pub item_read : (c : List Slot) (front : List Placed) (vs : List Value) (fs : List Frame) (ss : Symbols) (now : Stage) (item : List Placed) → IsSome item
      → Pieces g l front vs c → NowStands c fs ss item now → (ends_long front && begins_as_long item) ≡ false → (a : Arrived c fs ss now item)
      → reads g l (fresh system_slots) (front ++ item) ≡ walked (vs ++ []) a.r
  item_read c front vs fs ss now [] some pieces d apart a = absurd some
  item_read c front vs fs ss now (x ∷ xs) some pieces d apart a =
      more_read g l front (x ∷ xs) vs c (pieces_read g l front vs c pieces) first apart ∙ ap (adds_values vs) a.read
    where
      -- an item's first token is no `::`
      first : Begins g l Place.Top (x ∷ xs)
      first =
          let q = walking_said g l (fresh c) x xs (record { vs = []; n = a.r; read = a.read }) in
          let opens : opens_item x.lexeme.kind ≡ true = now_first c fs ss now (x ∷ xs) d in
          record {
            first = x;
            later = xs;
            said = q.1;
            cut = refl;
            says = says_so g l (fresh c) x q.1 q.0 q.2;
            no_colons = λ e.
                let kind = mark_kind x.lexeme.kind x.lexeme.octets Mark.Colons
                (subst (λ y. IsBody x.lexeme.kind x.lexeme.octets (Ok y)) e (said_body x.lexeme.kind x.lexeme.octets q.1 q.2)) in
                let n : false ≡ true = sym (ap opens_item kind) ∙ opens in
                cc;
          }
