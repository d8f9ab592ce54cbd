-- What the reader of tokens holds stands for the tokens of the open item, and what it gives they mean.
use Rattle.std.proofs.Common.{◌≡◌, ℕ, ◌+◌, ◌≤◌, arith, nat_le, nat_lt, List, [], ◌∷◌, ◌++◌, length, Bool, true, false, Result, Ok, Err, Option, Some, refl, ap, sym, ◌∙◌, subst, append_assoc, append-nil, if◌then◌else◌, ◌⊎◌, inl, inr, ◌&&◌}
use Rattle.std.proofs.lemmas.Bool.{and_right, cond_both, leb-true}
use Rattle.ion_text.specs.Names.{Blob, Bracket, Catalog, Clob, Content, Field, Frame, Held, Id, IsName, IsScalar, IsSymbol, Limits, ListOrSexp, Long, Mark, Mark', Means, Members, Number, Number', Operator, Payload, Place, Placed, Plain, Quoted, Reason, Says, Segments, Short, Slot, Stage, Symbols, Turn, TypedNull, Value, Word, annotated, at, begins_long, begun_at, beyond_depth, by_long, by_short, by_symbol, close_mark, close_place, closed, comma, depth, element, ended, field, field_comma, first_now, fresh, gives, goes, held_payload, held_symbol, held_word, is_blob, is_clob, is_decimal, is_id, is_int, is_keyword, is_list, is_operator, is_short, is_struct, is_table, is_timestamp, is_typed_null, is_version_word, is_word, item, joined, keyed, late, long_at, long_string, means, next, no_element, no_field, no_item, noted, on_after, on_name, on_ready, one_annotation, one_token, open_mark, opened, paid, pending_at, place_in, refuses, released, resolve, resolved, segment, settle, spot_at, system_slots, the_marker, token_of, turn, turned, under, within}
use Rattle.ion_model.specs.declared.value.Payload.TheVariants as payloads
use Rattle.ion_text.specs.Grammar.{is_quoted, is_sexp}
use Rattle.ion_text.specs.laws.reading.Brackets.{Closes, closes_or_not, ends_list, ends_none, ends_sexp, ends_struct}
use Rattle.ion_text.specs.laws.reading.complete.Complete.{depth-list, depth-sexp, depth-struct, is_unmarked}
use Rattle.ion_text.specs.laws.reading.sound.Depths.{Deep, flat_depth}
use Rattle.ion_text.specs.laws.reading.sound.MarkerWords.{id_no_word, more_words, noted_no_word, other_word, segments_no_word, word_no_word}
use Rattle.ion_text.specs.laws.reading.sound.StandsOpen.{Around, EndsAt, HoldsWhatIsSaid, IsHeld, Items, LongFor, NameFor, NoSegmentComes, NowStands, Opened, PendingFor, ReadingStands, ReadyFor, Receives, begins_long_more, end_of_now, long_behind, more_around, no_note, not_long, notes_not_long, nothing_noted, opened_around, start_now, symbol_said, symbol_stood, value_place, whole_behind, word_stood}
use Rattle.ion_text.specs.machine.Ways.{HeldFlat, IsFlat, flat_blob, flat_clob, flat_held, flat_number, flat_symbol, flat_text}

module _ (g : Catalog) (l : Limits) where
  -- what came of the tokens of the open item
  abbrev pub Sounds : List Slot → ℕ → ℕ → List Placed → Turn → Type 0
  Sounds c start end ts (goes r) =
      (ReadingStands c r ts × (r.start ≡ start) × EndsAt r.now end)
      ⊎ (((v : Value) × (d : List Slot) × Means c Place.Top ts v × (is_table v ≡ true) × (next c v g ≡ Ok d) × (depth v ≤ l.depth) × (end ≤ start + l.item)
      × (r ≡ fresh d))
      ⊎ ((t : Placed) × (ts ≡ t ∷ []) × Says Place.Top t (Word the_marker) × (end ≤ start + l.item) × (r ≡ fresh system_slots)))
  Sounds c start end ts (gives v r) = Means c Place.Top ts v × (is_table v ≡ false) × (is_version_word ts ≡ false) × (depth v ≤ l.depth)
      × (end ≤ start + l.item) × (r ≡ fresh c)
  Sounds c start end ts _ = Unit {0}

  -- a value with nothing inside
  flat_level : (ss : Symbols) (q : Payload) → IsFlat q → depth (annotated ss q) ≤ l.depth
  flat_level ss q flat = let e = flat_depth ss q flat in omega arith

  within_sounds : (c : List Slot) (ts : List Placed) (start end : ℕ) (t : Turn) → (end ≤ start + l.item → Sounds c start end ts t)
      → Sounds c start end ts (within l.item start end t)
  within_sounds c ts start end t h = cond_both (nat_le end (start + l.item)) t (refuses Reason.ItemTooLong) (Sounds c start end ts)
      (λ e. h (leb-true end (start + l.item) e)) (λ e. tt)

  top_sounds : (c : List Slot) (us : List Placed) (v : Value) (start end : ℕ) (b : Bool) (d : Result (List Slot) Reason) → Means c Place.Top us v
      → is_table v ≡ b → next c v g ≡ d → is_version_word us ≡ false → depth v ≤ l.depth
      → Sounds c start end us (if b then turned l.item start end d else within l.item start end (gives v (fresh c)))
  top_sounds c us v start end true (Ok d) m h k w q = within_sounds c us start end (goes (fresh d)) (λ i. inr (inl (v, d, m, h, k, q, i, refl)))
  top_sounds c us v start end true (Err e) m h k w q = tt
  top_sounds c us v start end false d m h k w q = within_sounds c us start end (gives v (fresh c)) (λ i. (m, h, w, q, i, refl))

  -- A value is whole.
  pub ended_sounds : (c : List Slot) (fs : List Frame) (front us : List Placed) (v : Value) (start end : ℕ) → (o : Opened c fs front true) → Receives fs
      → Means c (value_place fs) us v → (long_behind c fs front o && begins_long us) ≡ false → (fs ≡ [] → is_version_word us ≡ false)
      → (fs ≡ [] → depth v ≤ l.depth) → Sounds c start end (front ++ us) (ended (under g l) (spot_at end start c) fs v)
  ended_sounds c [] front us v start end o r m a n q =
      subst (λ x. Sounds c start end (x ++ us) (ended (under g l) (spot_at end start c) [] v)) (sym o)
      (top_sounds c us v start end (is_table v) (next c v g) m refl refl (n refl) (q refl))
  ended_sounds c (Frame.Items ListOrSexp.List ss vs ∷ fs) front us v start end o r m a n q =
      let around = more_around c fs ss Bracket.List (Items c ListOrSexp.List vs true) (Items c ListOrSexp.List (vs ++ v ∷ []) false) front us o
      (element o.body us vs v o.items m) in
      inl ((refl, (around, refl, tt)), refl, tt)
  ended_sounds c (Frame.Items ListOrSexp.Sexp ss vs ∷ fs) front us v start end o r m a n q =
      let around = more_around c fs ss Bracket.Sexp (Items c ListOrSexp.Sexp vs true) (Items c ListOrSexp.Sexp (vs ++ v ∷ []) true) front us o
      (item o.body us vs v o.items m a) in
      inl ((refl, nothing_noted c (Frame.Items ListOrSexp.Sexp ss (vs ++ v ∷ []) ∷ fs) (front ++ us) around tt), refl, tt)
  ended_sounds c (Frame.Named ss ms s ∷ fs) front us v start end o r m a n q =
      inl (
        (
          refl,
          (
            record {
              front = o.front;
              notes = o.notes;
              body = o.body ++ (o.name ++ o.colon ∷ us);
              open' = o.open';
              whole = ap (λ x. x ++ us) o.whole
                  ∙ (append_assoc o.front (o.notes ++ (o.open' ∷ (o.body ++ (o.name ++ o.colon ∷ [])))) us
                  ∙ ap (λ x. o.front ++ x) (append_assoc o.notes (o.open' ∷ (o.body ++ (o.name ++ o.colon ∷ []))) us
                  ∙ ap (λ x. o.notes ++ (o.open' ∷ x)) (append_assoc o.body (o.name ++ o.colon ∷ []) us
                  ∙ ap (λ x. o.body ++ x) (append_assoc o.name (o.colon ∷ []) us))));
              outer = o.outer;
              receives = o.receives;
              noted = o.noted;
              opens = o.opens;
              items = field o.body o.name us o.colon ms s v o.items o.named o.colons m;
            },
            refl,
            tt,
          ),
        ),
        refl,
        tt,
      )
  ended_sounds c (Frame.Fields ss ms ∷ fs) front us v start end o r m a n q = absurd r

  -- a payload behind its annotations is whole
  plain_sounds : (c : List Slot) (fs : List Frame) (ss : Symbols) (before us : List Placed) (q : Payload) (start end : ℕ) → (d : ReadyFor c fs ss before)
      → Plain c (value_place fs) us q → (long_behind c fs d.front d.outer && begins_long (d.notes ++ us)) ≡ false
      → (fs ≡ [] → ss ≡ [] → is_version_word us ≡ false) → (fs ≡ [] → depth (annotated ss q) ≤ l.depth)
      → Sounds c start end (before ++ us) (ended (under g l) (spot_at end start c) fs (annotated ss q))
  plain_sounds c fs ss before us q start end d m a n k =
      subst (λ x. Sounds c start end x (ended (under g l) (spot_at end start c) fs (annotated ss q)))
      (sym (ap (λ x. x ++ us) d.whole ∙ append_assoc d.front d.notes us))
      (ended_sounds c fs d.front (d.notes ++ us) (annotated ss q) start end d.outer d.receives (means (value_place fs) d.notes us ss q d.noted m) a
      (λ i. noted_no_word c (value_place fs) d.notes us ss d.noted (n i)) k)

  one_apart : (c : List Slot) (fs : List Frame) (ss : Symbols) (ts : List Placed) (t : Placed) (said : Content) (d : ReadyFor c fs ss ts)
      → Says (value_place fs) t said → ((w : List ℕ) → said ≡ Long w → ⊥) → (long_behind c fs d.front d.outer && begins_long (d.notes ++ t ∷ [])) ≡ false
  one_apart c fs ss ts t said d i n = and_right (long_behind c fs d.front d.outer) (begins_long (d.notes ++ t ∷ []))
      (notes_not_long c (value_place fs) d.notes [] ss t d.noted (not_long (value_place fs) t said i n))

  paid_sounds : (c : List Slot) (fs : List Frame) (ss : Symbols) (h : Held) (ts : List Placed) (start end : ℕ) (d : PendingFor c fs ss h ts)
      (q : Result Payload Reason) → held_payload h ≡ q → (fs ≡ [] → ss ≡ [] → is_version_word (d.token ∷ []) ≡ false)
      → Sounds c start end ts (paid (under g l) (spot_at end start c) fs ss q)
  paid_sounds c fs ss h ts start end d (Ok q) e n =
      subst (λ x. Sounds c start end x (ended (under g l) (spot_at end start c) fs (annotated ss q))) (sym d.whole)
      (plain_sounds c fs ss d.before (d.token ∷ []) q start end d.ready (one_token (value_place fs) d.token d.said q d.says (d.stood.value q e))
      (one_apart c fs ss d.before d.token d.said d.ready d.says d.other) n (λ i. flat_level ss q (subst HeldFlat e (flat_held h))))
  paid_sounds c fs ss h ts start end d (Err x) e n = tt

  -- an unannotated marker at the top level
  top_token : (c : List Slot) (h : Held) (ts : List Placed) (d : PendingFor c [] [] h ts) → ts ≡ d.token ∷ []
  top_token c h ts d = d.whole ∙ ap (λ x. x ++ d.token ∷ [])
      (d.ready.whole ∙ (ap (λ x. x ++ d.ready.notes) d.ready.outer ∙ no_note c Place.Top d.ready.notes d.ready.noted))

  -- what waited is whole
  pub released_sounds : (c : List Slot) (fs : List Frame) (ss : Symbols) (h : Held) (ts : List Placed) (start end : ℕ) → PendingFor c fs ss h ts
      → Sounds c start end ts (released (under g l) (spot_at end start c) fs ss h)
  released_sounds c [] [] (Held.Version true s) ts start end d =
      within_sounds c ts start end (goes (fresh system_slots))
      (λ i. inr (inr (d.token, top_token c _ ts d, subst (Says Place.Top d.token) (d.stood.marker s refl) d.says, i, refl)))
  released_sounds c [] [] (Held.Version false s) ts start end d = tt
  released_sounds c [] [] Held.Nan ts start end d = tt
  released_sounds c [] (x ∷ ss) h ts start end d = paid_sounds c [] (x ∷ ss) h ts start end d _ refl (λ i j. absurd cc)
  released_sounds c (f ∷ fs) ss h ts start end d = paid_sounds c (f ∷ fs) ss h ts start end d _ refl (λ i j. absurd cc)
  released_sounds c [] [] h ts start end d = paid_sounds c [] [] h ts start end d _ refl (λ i j. d.unmarked refl)

  pub long_sounds : (c : List Slot) (fs : List Frame) (ss : Symbols) (w : List ℕ) (ts : List Placed) (start end : ℕ) → LongFor c fs ss w ts
      → Sounds c start end ts (ended (under g l) (spot_at end start c) fs (annotated ss (payloads.Str w)))
  long_sounds c fs ss w ts start end d =
      subst (λ x. Sounds c start end x (ended (under g l) (spot_at end start c) fs (annotated ss (payloads.Str w)))) (sym d.whole)
      (plain_sounds c fs ss d.before d.segments (payloads.Str w) start end d.ready (long_string (value_place fs) d.segments w d.are) d.apart
      (λ i j. segments_no_word (value_place fs) d.segments w d.are) (λ i. flat_level ss (payloads.Str w) (flat_text w)))

  waits_sounds : (c : List Slot) (fs : List Frame) (ss : Symbols) (ts : List Placed) (t : Placed) (said : Content) (h : Held) (start end : ℕ)
      → ReadyFor c fs ss ts → Says (value_place fs) t said → HoldsWhatIsSaid c said h → ((w : List ℕ) → said ≡ Long w → ⊥) → (symbol_said said ≡ true)
      → IsHeld c said h → (is_unmarked h ≡ true → is_version_word (t ∷ []) ≡ false)
      → Sounds c start end (ts ++ t ∷ []) (goes (at start c fs ss (Stage.Pending h end)))
  waits_sounds c fs ss ts t said h start end d i s n k f m =
      inl (
        (refl, record { before = ts; ready = d; token = t; said = said; whole = refl; says = i; stood = s; other = n; named = k; known = f; unmarked = m }),
        refl,
        refl,
      )

  id_sounds : (c : List Slot) (fs : List Frame) (ss : Symbols) (ts : List Placed) (t : Placed) (id start end : ℕ) (r : Result (Option (List ℕ)) Reason)
      → ReadyFor c fs ss ts → Says (value_place fs) t (Id id) → resolve c id ≡ r
      → Sounds c start end (ts ++ t ∷ []) (resolved r (λ s. goes (at start c fs ss (Stage.Pending (Held.Symbol s) end))))
  id_sounds c fs ss ts t id start end (Ok s) d i e = waits_sounds c fs ss ts t (Id id) (Held.Symbol s) start end d i (symbol_stood c (Id id) s (is_id id s e))
      (λ w x. cc) refl (s, e, refl) (λ x. id_no_word t id i.body)
  id_sounds c fs ss ts t id start end (Err x) d i e = tt

  opens_sounds : (bracket : Bracket) (c : List Slot) (fs : List Frame) (ss : Symbols) (ts : List Placed) (t : Placed) (start end : ℕ) (b : Bool)
      → ReadyFor c fs ss ts → Says (value_place fs) t (Mark' (open_mark bracket)) → Sounds c start end (ts ++ t ∷ [])
      (if b then goes (at start c (opened bracket ss ∷ fs) [] (first_now bracket)) else
      beyond_depth bracket (at start c (opened bracket ss ∷ fs) [] (first_now bracket)))
  opens_sounds Bracket.List c fs ss ts t start end true d i =
      let around = opened_around c fs ss Bracket.List (Items c ListOrSexp.List [] true) ts t d i no_element in
      inl ((refl, nothing_noted c (Frame.Items ListOrSexp.List ss [] ∷ fs) (ts ++ t ∷ []) around tt), refl, tt)
  opens_sounds Bracket.Sexp c fs ss ts t start end true d i =
      let around = opened_around c fs ss Bracket.Sexp (Items c ListOrSexp.Sexp [] true) ts t d i no_item in
      inl ((refl, nothing_noted c (Frame.Items ListOrSexp.Sexp ss [] ∷ fs) (ts ++ t ∷ []) around tt), refl, tt)
  opens_sounds Bracket.Fields c fs ss ts t start end true d i =
      inl ((refl, (opened_around c fs ss Bracket.Fields (λ body. Members c body [] true) ts t d i no_field, tt)), refl, tt)
  opens_sounds _ c fs ss ts t start end _ d i = tt

  -- with its close a container is this value
  closes_sounds : (bracket : Bracket) (c : List Slot) (fs : List Frame) (ss : Symbols) (q : Payload) (Body : List Placed → Type 0) (ts : List Placed)
      (t : Placed) (start end : ℕ) → (o : Around c fs ss ts bracket (λ front. Opened c fs front true) Body)
      → Plain c (value_place fs) (o.open' ∷ (o.body ++ t ∷ [])) q → depth (annotated ss q) + length fs ≤ l.depth
      → Sounds c start end (ts ++ t ∷ []) (ended (under g l) (spot_at end start c) fs (annotated ss q))
  closes_sounds bracket c fs ss q Body ts t start end o d deep =
      subst (λ x. Sounds c start end x (ended (under g l) (spot_at end start c) fs (annotated ss q))) (sym (whole_behind c fs ss bracket Body ts (t ∷ []) o))
      (ended_sounds c fs o.front (o.notes ++ (o.open' ∷ (o.body ++ t ∷ []))) (annotated ss q) start end o.outer o.receives
      (means (value_place fs) o.notes (o.open' ∷ (o.body ++ t ∷ [])) ss q o.noted d)
      (and_right (long_behind c fs o.front o.outer) _ (notes_not_long c (value_place fs) o.notes (o.body ++ t ∷ []) ss o.open' o.noted
      (not_long (value_place fs) o.open' _ o.opens (λ w e. cc))))
      (λ x. noted_no_word c (value_place fs) o.notes (o.open' ∷ (o.body ++ t ∷ [])) ss o.noted (λ y. more_words o.open' o.body t)) (λ x. omega arith))

  -- The close of the innermost container. In a struct the place says whether it stands behind a field.
  close_sounds : (bracket : Bracket) (c : List Slot) (fs : List Frame) (ts : List Placed) (t : Placed) (now : Stage) (more : Bool) (start end : ℕ)
      → ((ss : Symbols) (ms : List Field) (fs : List Frame) → place_in (Frame.Fields ss ms ∷ fs) now ≡ close_place more)
      → Deep l.depth fs → Opened c fs ts more → Says (place_in fs now) t (Mark' (close_mark bracket))
      → Sounds c start end (ts ++ t ∷ []) (closed bracket (under g l) (spot_at end start c) fs)
  close_sounds bracket c fs ts t now more start end there = by bracket fs (closes_or_not bracket fs)
    where
      by : (bracket : Bracket) (fs : List Frame) → Closes bracket fs → Deep l.depth fs → Opened c fs ts more
          → Says (place_in fs now) t (Mark' (close_mark bracket)) → Sounds c start end (ts ++ t ∷ []) (closed bracket (under g l) (spot_at end start c) fs)
      by _ _ (ends_list ss vs fs) deep o i =
          let k = deep.0 in
          let m = depth-list ss vs in
          closes_sounds Bracket.List c fs ss (payloads.List vs) (Items c ListOrSexp.List vs more) ts t start end o
          (is_list (value_place fs) o.open' t o.body vs more o.opens o.items i) (omega arith)
      by _ _ (ends_sexp ss vs fs) deep o i =
          let k = deep.0 in
          let m = depth-sexp ss vs in
          closes_sounds Bracket.Sexp c fs ss (payloads.Sexp vs) (Items c ListOrSexp.Sexp vs more) ts t start end o
          (is_sexp (value_place fs) o.open' t o.body vs o.opens o.items i) (omega arith)
      by _ _ (ends_struct ss ms fs) deep o i =
          let k = deep.0 in
          let m = depth-struct ss ms in
          closes_sounds Bracket.Fields c fs ss (payloads.Fields ms) (λ body. Members c body ms more) ts t start end o
          (is_struct (value_place fs) o.open' t o.body ms more o.opens o.items (subst (λ p. Says p t (Mark' Mark.FieldsClose)) (there ss ms fs) i))
          (omega arith)
      by _ _ (ends_none bracket fs e) deep o i = subst (Sounds c start end (ts ++ t ∷ [])) (sym (e (under g l) (spot_at end start c))) tt

  -- where a value may come and no annotation has
  bare_sounds : (bracket : Bracket) (c : List Slot) (fs : List Frame) (ts : List Placed) (t : Placed) (start : ℕ) → Deep l.depth fs
      → ReadyFor c fs [] ts → Says (value_place fs) t (Mark' (close_mark bracket))
      → Sounds c start t.lexeme.end (ts ++ t ∷ []) (closed bracket (under g l) (spot_at t.lexeme.end start c) fs)
  bare_sounds bracket c fs ts t start deep d i =
      let e = no_note c (value_place fs) d.notes d.noted in
      subst (λ x. Sounds c start t.lexeme.end (x ++ t ∷ []) (closed bracket (under g l) (spot_at t.lexeme.end start c) fs))
      (sym (d.whole ∙ (ap (λ x. d.front ++ x) e ∙ append-nil d.front)))
      (close_sounds bracket c fs d.front t Stage.Ready true start t.lexeme.end (λ ss ms fs. refl) deep d.outer i)

  -- a token where a value may come
  pub ready_sounds : (c : List Slot) (fs : List Frame) (ss : Symbols) (ts : List Placed) (t : Placed) (said : Content) (start : ℕ) → Deep l.depth fs
      → (d : ReadyFor c fs ss ts) → Says (value_place fs) t said
      → ((w : List ℕ) → said ≡ Long w → (long_behind c fs d.front d.outer && begins_long (d.notes ++ t ∷ [])) ≡ false)
      → Sounds c start t.lexeme.end (ts ++ t ∷ []) (on_ready (under g l) (spot_at t.lexeme.end start c) fs ss said)
  ready_sounds c fs ss ts t (Word w) start dd d i n = waits_sounds c fs ss ts t (Word w) (held_word w) start t.lexeme.end d i (word_stood c w) (λ v x. cc) refl
      refl (λ x. word_no_word t w i.body x)
  ready_sounds c fs ss ts t (Id id) start dd d i n = id_sounds c fs ss ts t id start t.lexeme.end (resolve c id) d i refl
  ready_sounds c fs ss ts t (Quoted w) start dd d i n = waits_sounds c fs ss ts t (Quoted w) (Held.Symbol (Some w)) start t.lexeme.end d i
      (symbol_stood c (Quoted w) (Some w) (is_quoted w)) (λ v x. cc) refl refl (λ x. other_word t (Quoted w) (λ v e. cc) (λ id e. cc) i.body)
  ready_sounds c fs ss ts t (TypedNull k) start dd d i n =
      waits_sounds c fs ss ts t (TypedNull k) (Held.Null k) start t.lexeme.end d i
      (record {
        value = λ q h. subst (IsScalar c (TypedNull k)) (let n : payloads.Null k ≡ q = cc in n) (is_typed_null k);
        marker = λ s h. absurd cc;
        note =
            λ s h. absurd cc;
      }) (λ v x. cc) refl refl (λ x. other_word t (TypedNull k) (λ v e. cc) (λ id e. cc) i.body)
  ready_sounds c fs ss ts t (Long w) start dd d i n = inl (
    (
      refl,
      record { before = ts; ready = d; segments = t ∷ []; whole = refl; are = segment t w i; apart = n w refl },
    ),
    refl,
    refl,
  )
  ready_sounds c fs ss ts t (Short w) start dd d i n = plain_sounds c fs ss ts (t ∷ []) (payloads.Str w) start t.lexeme.end d
      (one_token (value_place fs) t (Short w) (payloads.Str w) i (is_short w)) (one_apart c fs ss ts t _ d i (λ v x. cc))
      (λ a b. other_word t (Short w) (λ v e. cc) (λ id e. cc) i.body) (λ a. flat_level ss (payloads.Str w) (flat_text w))
  ready_sounds c fs ss ts t (Number' (Number.Int z)) start dd d i n =
      plain_sounds c fs ss ts (t ∷ []) (payloads.Int z) start t.lexeme.end d (one_token (value_place fs) t _ _ i (is_int z))
      (one_apart c fs ss ts t _ d i (λ v x. cc)) (λ a b. other_word t (Number' (Number.Int z)) (λ v e. cc) (λ id e. cc) i.body)
      (λ a. flat_level ss (payloads.Int z) (flat_number (Number.Int z)))
  ready_sounds c fs ss ts t (Number' (Number.Decimal z)) start dd d i n =
      plain_sounds c fs ss ts (t ∷ []) (payloads.Decimal z) start t.lexeme.end d (one_token (value_place fs) t _ _ i (is_decimal z))
      (one_apart c fs ss ts t _ d i (λ v x. cc)) (λ a b. other_word t (Number' (Number.Decimal z)) (λ v e. cc) (λ id e. cc) i.body)
      (λ a. flat_level ss (payloads.Decimal z) (flat_number (Number.Decimal z)))
  ready_sounds c fs ss ts t (Number' (Number.Timestamp z)) start dd d i n =
      plain_sounds c fs ss ts (t ∷ []) (payloads.Timestamp z) start t.lexeme.end d (one_token (value_place fs) t _ _ i (is_timestamp z))
      (one_apart c fs ss ts t _ d i (λ v x. cc)) (λ a b. other_word t (Number' (Number.Timestamp z)) (λ v e. cc) (λ id e. cc) i.body)
      (λ a. flat_level ss (payloads.Timestamp z) (flat_number (Number.Timestamp z)))
  ready_sounds c fs ss ts t (Operator w) start dd d i n = plain_sounds c fs ss ts (t ∷ []) (payloads.Symbol (Some w)) start t.lexeme.end d
      (one_token (value_place fs) t _ _ i (is_operator w)) (one_apart c fs ss ts t _ d i (λ v x. cc))
      (λ a b. other_word t (Operator w) (λ v e. cc) (λ id e. cc) i.body) (λ a. flat_level ss (payloads.Symbol (Some w)) (flat_symbol (Some w)))
  ready_sounds c fs ss ts t (Clob w) start dd d i n = plain_sounds c fs ss ts (t ∷ []) (payloads.Clob w) start t.lexeme.end d
      (one_token (value_place fs) t _ _ i (is_clob w)) (one_apart c fs ss ts t _ d i (λ v x. cc)) (λ a b. other_word t (Clob w) (λ v e. cc) (λ id e. cc) i.body)
      (λ a. flat_level ss (payloads.Clob w) (flat_clob w))
  ready_sounds c fs ss ts t (Blob w) start dd d i n = plain_sounds c fs ss ts (t ∷ []) (payloads.Blob w) start t.lexeme.end d
      (one_token (value_place fs) t _ _ i (is_blob w)) (one_apart c fs ss ts t _ d i (λ v x. cc)) (λ a b. other_word t (Blob w) (λ v e. cc) (λ id e. cc) i.body)
      (λ a. flat_level ss (payloads.Blob w) (flat_blob w))
  ready_sounds c fs ss ts t (Mark' Mark.ListOpen) start dd d i n = opens_sounds Bracket.List c fs ss ts t start t.lexeme.end (nat_lt (length fs) l.depth) d i
  ready_sounds c fs ss ts t (Mark' Mark.SexpOpen) start dd d i n = opens_sounds Bracket.Sexp c fs ss ts t start t.lexeme.end (nat_lt (length fs) l.depth) d i
  ready_sounds c fs ss ts t (Mark' Mark.FieldsOpen) start dd d i n = opens_sounds Bracket.Fields c fs ss ts t start t.lexeme.end
      (nat_lt (length fs) l.depth) d i
  ready_sounds c fs [] ts t (Mark' Mark.ListClose) start dd d i n = bare_sounds Bracket.List c fs ts t start dd d i
  ready_sounds c fs [] ts t (Mark' Mark.SexpClose) start dd d i n = bare_sounds Bracket.Sexp c fs ts t start dd d i
  ready_sounds c fs _ ts t _ start dd d i n = tt

  -- `::` behind a symbol
  pub noted_sounds : (c : List Slot) (fs : List Frame) (ss : Symbols) (ts : List Placed) (t : Placed) (h : Held) (start end : ℕ)
      (r : Result (Option (List ℕ)) Reason) → PendingFor c fs ss h ts → Says (value_place fs) t (Mark' Mark.Colons) → held_symbol h ≡ r
      → Sounds c start end (ts ++ t ∷ []) (noted start c fs ss r)
  noted_sounds c fs ss ts t h start end (Err e) d i k = tt
  noted_sounds c fs ss ts t h start end (Ok s) d i k =
      inl (
        (
          refl,
          record {
            front = d.ready.front;
            notes = d.ready.notes ++ d.token ∷ t ∷ [];
            whole = ap (λ x. x ++ t ∷ []) (d.whole ∙ ap (λ x. x ++ d.token ∷ []) d.ready.whole)
                ∙ (append_assoc (d.ready.front ++ d.ready.notes) (d.token ∷ []) (t ∷ []) ∙ append_assoc d.ready.front d.ready.notes (d.token ∷ t ∷ []));
            outer = d.ready.outer;
            receives = d.ready.receives;
            noted = one_annotation d.ready.notes ss d.token t d.said s d.ready.noted d.says (d.stood.note s k) i;
          },
        ),
        refl,
        tt,
      )

  -- one more segment
  pub joined_sounds : (c : List Slot) (fs : List Frame) (ss : Symbols) (ts : List Placed) (t : Placed) (v w : List ℕ) (start end : ℕ) → LongFor c fs ss v ts
      → Says (value_place fs) t (Long w) → Sounds c start end (ts ++ t ∷ []) (goes (at start c fs ss (Stage.Long (v ++ w) end)))
  joined_sounds c fs ss ts t v w start end d i = inl (
    (
      refl,
      record {
        before = d.before;
        ready = d.ready;
        segments = d.segments ++ t ∷ [];
        whole =
            ap (λ x. x ++ t ∷ []) d.whole ∙ append_assoc d.before d.segments (t ∷ []);
        are = joined d.segments v w t d.are i;
        apart =
            ap (λ x. long_behind c fs d.ready.front d.ready.outer && x) (begins_long_more d.ready.notes d.segments (t ∷ []) (value_place fs) v d.are) ∙ d.apart;
      },
    ),
    refl,
    refl,
  )

  -- behind an element or a field
  pub after_sounds : (c : List Slot) (fs : List Frame) (ts : List Placed) (t : Placed) (said : Content) (start end : ℕ) → Deep l.depth fs → Opened c fs ts false
      → Says (place_in fs Stage.After) t said → Sounds c start end (ts ++ t ∷ []) (on_after (under g l) (spot_at end start c) fs said)
  after_sounds c (Frame.Items ListOrSexp.List ss vs ∷ fs) ts t (Mark' Mark.Comma) start end dd o i =
      let around = more_around c fs ss Bracket.List (Items c ListOrSexp.List vs false) (Items c ListOrSexp.List vs true) ts (t ∷ []) o (comma o.body vs t o.items i) in
      inl ((refl, nothing_noted c (Frame.Items ListOrSexp.List ss vs ∷ fs) (ts ++ t ∷ []) around tt), refl, tt)
  after_sounds c (Frame.Fields ss ms ∷ fs) ts t (Mark' Mark.Comma) start end dd o i =
      let around = more_around c fs ss Bracket.Fields (λ body. Members c body ms false) (λ body. Members c body ms true) ts (t ∷ []) o
      (field_comma o.body ms t o.items i) in
      inl ((refl, (around, tt)), refl, tt)
  after_sounds c fs ts t (Mark' Mark.ListClose) start end dd o i =
      close_sounds Bracket.List c fs ts t Stage.After false start end (λ ss ms fs. refl) dd o i
  after_sounds c fs ts t (Mark' Mark.FieldsClose) start end dd o i =
      close_sounds Bracket.Fields c fs ts t Stage.After false start end (λ ss ms fs. refl) dd o i
  after_sounds c fs ts t _ start end dd o i = tt

  -- a symbol is a field's name
  symbol_sounds : (c : List Slot) (ss : Symbols) (ms : List Field) (fs : List Frame) (ts : List Placed) (t : Placed) (said : Content) (s : Option (List ℕ))
      (start end : ℕ) → Opened c (Frame.Fields ss ms ∷ fs) ts true → Says Place.Name t said → IsSymbol c said s
      → Sounds c start end (ts ++ t ∷ []) (goes (keyed start c (Frame.Fields ss ms ∷ fs) s))
  symbol_sounds c ss ms fs ts t said s start end o i k =
      inl ((refl, record { before = ts; name = t ∷ []; whole = refl; outer = o; struct = tt; is = by_symbol t said s i k }), refl, tt)

  pub name_sounds : (c : List Slot) (ss : Symbols) (ms : List Field) (fs : List Frame) (ts : List Placed) (t : Placed) (said : Content) (start end : ℕ)
      → Deep l.depth (Frame.Fields ss ms ∷ fs) → Opened c (Frame.Fields ss ms ∷ fs) ts true → Says Place.Name t said
      → Sounds c start end (ts ++ t ∷ []) (on_name (under g l) (spot_at end start c) (Frame.Fields ss ms ∷ fs) said)
  name_sounds c ss ms fs ts t (Word w) start end dd o i =
      let k = keyed start c (Frame.Fields ss ms ∷ fs) (Some w) in
      cond_both (is_keyword w) (late Reason.KeywordAsName k) (goes k) (Sounds c start end (ts ++ t ∷ [])) (λ e. tt)
      (λ e. symbol_sounds c ss ms fs ts t (Word w) (Some w) start end o i (is_word w e))
  name_sounds c ss ms fs ts t (Id id) start end dd o i = id_name (resolve c id) refl
    where
      id_name : (r : Result (Option (List ℕ)) Reason) → resolve c id ≡ r
          → Sounds c start end (ts ++ t ∷ []) (resolved r (λ s. goes (keyed start c (Frame.Fields ss ms ∷ fs) s)))
      id_name (Ok s) k = symbol_sounds c ss ms fs ts t (Id id) s start end o i (is_id id s k)
      id_name (Err e) k = tt
  name_sounds c ss ms fs ts t (Quoted w) start end dd o i = symbol_sounds c ss ms fs ts t (Quoted w) (Some w) start end o i (is_quoted w)
  name_sounds c ss ms fs ts t (Short w) start end dd o i =
      inl ((refl, record { before = ts; name = t ∷ []; whole = refl; outer = o; struct = tt; is = by_short t w i }), refl, tt)
  name_sounds c ss ms fs ts t (Long w) start end dd o i = inl
      ((refl, record { before = ts; name = t ∷ []; whole = refl; outer = o; struct = tt; is = segment t w i }), refl, tt)
  name_sounds c ss ms fs ts t (Mark' Mark.FieldsClose) start end dd o i =
      close_sounds Bracket.Fields c (Frame.Fields ss ms ∷ fs) ts t Stage.Name true start end (λ rs ns fs. refl) dd o i
  name_sounds c ss ms fs ts t _ start end dd o i = tt

  -- the colon behind a name
  pub keyed_sounds : (c : List Slot) (ss : Symbols) (ms : List Field) (fs : List Frame) (ts : List Placed) (t : Placed) (s : Option (List ℕ)) (start end : ℕ)
      → NameFor c (Frame.Fields ss ms ∷ fs) (λ n. IsName c n s) ts → Says Place.Name t (Mark' Mark.Colon)
      → Sounds c start end (ts ++ t ∷ []) (goes (at start c (Frame.Named ss ms s ∷ fs) [] Stage.Ready))
  keyed_sounds c ss ms fs ts t s start end d i = inl ((refl, nothing_noted c (Frame.Named ss ms s ∷ fs) (ts ++ t ∷ []) named tt), refl, tt)
    where
      named : Opened c (Frame.Named ss ms s ∷ fs) (ts ++ t ∷ []) true
      named = record {
        front = d.outer.front;
        notes = d.outer.notes;
        body = d.outer.body;
        name = d.name;
        open' = d.outer.open';
        colon = t;
        whole = ap (λ x. x ++ t ∷ []) (d.whole ∙ ap (λ x. x ++ d.name) d.outer.whole)
            ∙ (append_assoc (d.outer.front ++ (d.outer.notes ++ (d.outer.open' ∷ d.outer.body))) d.name (t ∷ [])
            ∙ (append_assoc d.outer.front (d.outer.notes ++ (d.outer.open' ∷ d.outer.body)) (d.name ++ t ∷ [])
            ∙ ap (λ x. d.outer.front ++ x) (append_assoc d.outer.notes (d.outer.open' ∷ d.outer.body) (d.name ++ t ∷ []))));
        outer = d.outer.outer;
        receives = d.outer.receives;
        noted = d.outer.noted;
        opens = d.outer.opens;
        items = d.outer.items;
        named = d.is;
        colons = i;
      }

  -- one more segment of a name
  long_name_sounds : (c : List Slot) (fs : List Frame) (ts : List Placed) (t : Placed) (v w : List ℕ) (start end : ℕ)
      → NameFor c fs (λ n. Segments Place.Name n v) ts → Says Place.Name t (Long w)
      → Sounds c start end (ts ++ t ∷ []) (goes (at start c fs [] (Stage.LongName (v ++ w))))
  long_name_sounds c fs ts t v w start end d i = inl (
    (
      refl,
      record {
        before = d.before;
        name = d.name ++ t ∷ [];
        whole = ap (λ x. x ++ t ∷ []) d.whole ∙ append_assoc d.before d.name (t ∷ []);
        outer =
            d.outer;
        struct = d.struct;
        is = joined d.name v w t d.is i;
      },
    ),
    refl,
    tt,
  )

  -- What a token does stands for the tokens with it.
  pub turn_sounds : (c : List Slot) (fs : List Frame) (ss : Symbols) (now : Stage) (ts : List Placed) (t : Placed) (said : Content) (start : ℕ) → Deep l.depth fs
      → (d : NowStands c fs ss ts now) → Says (place_in fs now) t said → NoSegmentComes c fs ss ts t said now d
      → Sounds c (start_now now start t.lexeme.start fs ss) t.lexeme.end (ts ++ t ∷ []) (turn g l (at start c fs ss now) (token_of t.lexeme said))
  turn_sounds c fs ss Stage.Ready ts t said start dd d i a = ready_sounds c fs ss ts t said (begun_at start t.lexeme.start fs ss) dd d i a
  turn_sounds c fs ss (Stage.Pending h end) ts t (Mark' Mark.Colons) start dd d i a =
      noted_sounds c fs ss ts t h start t.lexeme.end (held_symbol h) d (subst (λ p. Says p t (Mark' Mark.Colons)) (pending_at fs h end) i) refl
  turn_sounds c fs ss (Stage.Pending h end) ts t _ start dd d i a = tt
  turn_sounds c fs ss (Stage.Long v end) ts t (Long w) start dd d i a =
      joined_sounds c fs ss ts t v w start t.lexeme.end d (subst (λ p. Says p t (Long w)) (long_at fs v end) i)
  turn_sounds c fs ss (Stage.Long v end) ts t _ start dd d i a = tt
  turn_sounds c fs ss Stage.After ts t said start dd d i a = after_sounds c fs ts t said start t.lexeme.end dd d.0 i
  turn_sounds c (Frame.Fields rs ms ∷ fs) ss Stage.Name ts t said start dd d i a = name_sounds c rs ms fs ts t said start t.lexeme.end dd d.0 i
  turn_sounds c (Frame.Fields rs ms ∷ fs) ss (Stage.LongName v) ts t (Long w) start dd d i a =
      long_name_sounds c (Frame.Fields rs ms ∷ fs) ts t v w start t.lexeme.end d i
  turn_sounds c (Frame.Fields rs ms ∷ fs) ss (Stage.LongName v) ts t _ start dd d i a = tt
  turn_sounds c (Frame.Fields rs ms ∷ fs) ss (Stage.Keyed s) ts t (Mark' Mark.Colon) start dd d i a = keyed_sounds c rs ms fs ts t s start t.lexeme.end d i
  turn_sounds c (Frame.Fields rs ms ∷ fs) ss (Stage.Keyed s) ts t _ start dd d i a = tt
  turn_sounds c [] ss Stage.Name ts t said start dd d i a = absurd d.1
  turn_sounds c (Frame.Items listing rs vs ∷ fs) ss Stage.Name ts t said start dd d i a = absurd d.1
  turn_sounds c (Frame.Named rs ms y ∷ fs) ss Stage.Name ts t said start dd d i a = absurd d.1
  turn_sounds c _ ss _ ts t said start dd d i a = absurd d.struct

  -- What waited is settled.
  pub settle_sounds : (c : List Slot) (fs : List Frame) (ss : Symbols) (now : Stage) (ts : List Placed) (start end : ℕ) → NowStands c fs ss ts now
      → Sounds c start (end_of_now now end) ts (settle g l (at start c fs ss now))
  settle_sounds c fs ss (Stage.Pending h end) ts start last d = released_sounds c fs ss h ts start end d
  settle_sounds c fs ss (Stage.Long w end) ts start last d = long_sounds c fs ss w ts start end d
  settle_sounds c fs ss (Stage.LongName w) ts start last d =
      inl ((refl, record { before = d.before; name = d.name; whole = d.whole; outer = d.outer; struct = d.struct; is = by_long d.name w d.is }), refl, tt)
  settle_sounds c fs ss _ ts start last d = inl ((refl, d), refl, tt)
