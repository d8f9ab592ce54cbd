-- What a token is refused for, and what waits, is a row of the table.
use Rattle.std.proofs.Common.{◌≡◌, ℕ, ◌+◌, ◌≤◌, nat_le, nat_lt, List, [], ◌∷◌, ◌++◌, length, Bool, true, false, ◌&&◌, ◌||◌, Result, Ok, Err, Option, Some, refl, sym, ap, ◌∙◌, subst, append_assoc, arith, codes, if◌then◌else◌, inl, inr}
use Rattle.std.proofs.lemmas.Bool.{cond_both, ltb-false}
use Rattle.std.specs.Str.{bytes_eq}
use Rattle.std.proofs.lemmas.Slice.Eq.{bytes_eq-Decides}
use Rattle.ion_refusals.specs.Names.{Blob, Bracket, Catalog, Clob, Content, Field, Frame, HasRow, Held, Id, InStruct, IsKeyword, Kind, Limits, ListOrSexp, Long, Mark, Mark', Means, Number', Operator, Payload, Pieces, Place, Placed, Quoted, Reason, Says, Short, Sight, Slot, Stage, Symbols, Turn, TypedNull, Value, Word, annotated, at, bad_table, begins_as_long, begun_at, bracket_in, close_place, closed, deeper, ended, ends_long, fresh, gives, goes, held_symbol, held_word, is_fields, is_keyword, is_table, is_version, keyed, keyword_as_annotation, keyword_as_name, late, layer_kind, means, named, next, no_symbol, noted, null_table, number_payload, on_after, on_comma, on_keyed, on_long, on_long_name, on_name, on_pending, on_ready, one_token, other_version, pending_at, place_in, refuses, released, resolve, resolved, settle, spot_at, struct_too_deep, system_slots, the_marker, token_at, too_deep, turn_now, turned, under, within}
use Rattle.ion_text.specs.machine.Ways.{flat_held}
use Rattle.ion_model.specs.declared.value.Payload.TheVariants as payloads
use Rattle.ion_model.specs.declared.value.Payload.TheViews as views
use Rattle.ion_refusals.specs.Deciding.{Ends, Gives}
use Rattle.ion_refusals.proofs.deciding.Openings.{begins_so, containers, levels_same, name_comes, says_there, struct_ends, takes_value, value_comes}
use Rattle.ion_refusals.proofs.deciding.Shows.{Shown}
use Rattle.ion_text.specs.laws.reading.Brackets.{Closes, closes_or_not, ends_list, ends_none, ends_sexp, ends_struct}
use Rattle.ion_text.specs.laws.reading.NoTables.{flat_number, no_table}
use Rattle.ion_text.specs.laws.reading.complete.Segments.{never}
use Rattle.ion_text.specs.laws.reading.sound.Depths.{Deep, flat_depth}
use Rattle.ion_text.specs.laws.reading.sound.Held.{none_noted}
use Rattle.ion_text.specs.laws.reading.sound.StandsOpen.{IsHeld, NowStands, Opened, PendingFor, ReadyFor, symbol_said, value_place}

-- 1. Of what is no local symbol table, and of words.

-- a word that is held as no symbol
word_keyword : (w : List ℕ) (e : Reason) → held_symbol (held_word w) ≡ Err e → (is_keyword w ≡ true) × (Reason.KeywordAsName ≡ e)
word_keyword w e h = go (bytes_eq w (codes "null")) (bytes_eq w (codes "true")) (bytes_eq w (codes "false")) (bytes_eq w (codes "nan")) (is_version w) h
  where
    go : (a b c d v : Bool) → held_symbol (if a then Held.Null Kind.Null else
        (if b then Held.Truth true else (if c then Held.Truth false else
        (if d then Held.Nan else (if v then Held.Version (bytes_eq w the_marker) (Some w) else Held.Symbol (Some w)))))) ≡ Err e
        → (((a || b) || (c || d)) ≡ true) × (Reason.KeywordAsName ≡ e)
    go false false false false true h = absurd cc
    go false false false false false h = absurd cc
    go _ _ _ _ v h = (refl, let k : Reason.KeywordAsName ≡ e = cc in k)

held_keyword : (c : List Slot) (said : Content) (h : Held) (e : Reason) → symbol_said said ≡ true → IsHeld c said h → held_symbol h ≡ Err e → IsKeyword said
    × (Reason.KeywordAsName ≡ e)
held_keyword c (Word w) h e n k f = word_keyword w e (ap held_symbol (sym k) ∙ f)
held_keyword c (Id id) h e n k f = absurd (let x : Ok k.0 ≡ Err e = ap held_symbol (sym k.2) ∙ f in cc)
held_keyword c (Quoted w) h e n k f = absurd (let x : Ok (Some w) ≡ Err e = ap held_symbol (sym k) ∙ f in cc)
held_keyword c (TypedNull kind) h e n k f = (
  tt,
  let x : Err Reason.KeywordAsName ≡ Err e = ap held_symbol (sym k) ∙ f in let y : Reason.KeywordAsName ≡ e =
      cc in y,
)
held_keyword c _ h e n k f = absurd cc

-- what is held as the marker of another version is such a word
record OtherVersion (said : Content) : Type 0 where
  word : List ℕ
  is : said ≡ Word word
  version : is_version word ≡ true
  other : bytes_eq word the_marker ≡ false

word_other : (w : List ℕ) (s : Option (List ℕ)) → Held.Version false s ≡ held_word w → OtherVersion (Word w)
word_other w s h = go (bytes_eq w (codes "null")) (bytes_eq w (codes "true")) (bytes_eq w (codes "false")) (bytes_eq w (codes "nan")) (is_version w) refl h
  where
    which : Held → Bool
    which (Held.Version b s) = b
    which _ = true

    go : (a b c d v : Bool) → is_version w ≡ v → Held.Version false s
        ≡ (if a then Held.Null Kind.Null else (if b then Held.Truth true else
        (if c then Held.Truth false else (if d then Held.Nan else (if v then Held.Version (bytes_eq w the_marker) (Some w) else Held.Symbol (Some w))))))
        → OtherVersion (Word w)
    go false false false false true f h = record { word = w; is = refl; version = f; other = sym (ap which h) }
    go _ _ _ _ _ f h = absurd cc

held_other : (c : List Slot) (said : Content) (s : Option (List ℕ)) → symbol_said said ≡ true → IsHeld c said (Held.Version false s) → OtherVersion said
held_other c (Word w) s n k = word_other w s k
held_other c (Id id) s n k = absurd (let x : Held.Version false s ≡ Held.Symbol k.0 = k.2 in cc)
held_other c _ s n k = absurd cc

-- 2. Turns.

module _ (g : Catalog) (l : Limits) (sight : Sight) where
  -- if rows have such a reason, one of them says that this is seen
  abbrev pub Decided : Reason → Type 0
  Decided e = HasRow e → Gives g l sight e

  -- where the turn refuses for a reason that rows have, one of them says that this is seen
  abbrev pub TurnDecided : Turn → Type 0
  TurnDecided (refuses e) = Decided e
  TurnDecided (late e r) = Decided e
  TurnDecided _ = Unit {0}

  within_decided : (item start end : ℕ) (t : Turn) → TurnDecided t → TurnDecided (within item start end t)
  within_decided item start end t h = cond_both (nat_le end (start + item)) t (refuses Reason.ItemTooLong) TurnDecided (λ e. h) (λ e i. absurd i)

  top_decided : (item start end : ℕ) (c : List Slot) (v : Value) (d : Result (List Slot) Reason) (b : Bool) → ((e : Reason) → b ≡ true → d ≡ Err e → Decided e)
      → TurnDecided (if b then turned item start end d else within item start end (gives v (fresh c)))
  top_decided item start end c v (Ok d) true f = within_decided item start end (goes (fresh d)) tt
  top_decided item start end c v (Err e) true f = f e refl refl
  top_decided item start end c v d false f = within_decided item start end (gives v (fresh c)) tt

  ended_decided : (start end : ℕ) (c : List Slot) (fs : List Frame) (v : Value) → ((e : Reason) → fs ≡ [] → is_table v ≡ true → next c v g ≡ Err e → Decided e)
      → TurnDecided (ended (under g l) (spot_at end start c) fs v)
  ended_decided start end c [] v f = top_decided l.item start end c v (next c v g) (is_table v) (λ e i j. f e refl i j)
  ended_decided start end c (Frame.Fields ss ms ∷ fs) v f = λ i. absurd i
  ended_decided start end c _ v f = tt

  flat_decided : (start end : ℕ) (c : List Slot) (fs : List Frame) (ss : Symbols) (q : Payload) → is_fields (layer_kind (views.out-Payload q)) ≡ false
      → TurnDecided (ended (under g l) (spot_at end start c) fs (annotated ss q))
  flat_decided start end c fs ss q h = ended_decided start end c fs (annotated ss q) (λ e i j k. absurd (never (is_table (annotated ss q)) (no_table ss q h) j))

  inside_decided : (start end : ℕ) (c : List Slot) (f : Frame) (fs : List Frame) (v : Value) → TurnDecided (ended (under g l) (spot_at end start c) (f ∷ fs) v)
  inside_decided start end c f fs v = ended_decided start end c (f ∷ fs) v (λ e i j k. absurd (let n : f ∷ fs ≡ [] = i in cc))

  deeper_decided : (fs : List Frame) (t deep : Turn) → TurnDecided t → (l.depth ≤ length (containers fs) → TurnDecided deep)
      → TurnDecided (deeper l.depth fs t deep)
  deeper_decided fs t deep h k =
      cond_both (nat_lt (length fs) l.depth) t deep TurnDecided (λ e. h) (λ e. k (omega (arith, ltb-false (length fs) l.depth e, levels_same fs)))

  -- a list or an s-expression is closed
  items_decided : (start end : ℕ) (c : List Slot) (listing : ListOrSexp) (fs : List Frame)
      → TurnDecided (closed (bracket_in listing) (under g l) (spot_at end start c) fs)
  items_decided start end c listing fs = by (bracket_in listing) fs (closes_or_not (bracket_in listing) fs) (no_struct listing)
    where
      no_struct : (listing : ListOrSexp) → bracket_in listing ≡ Bracket.Fields → ⊥
      no_struct ListOrSexp.List e = cc
      no_struct ListOrSexp.Sexp e = cc

      by : (bracket : Bracket) (fs : List Frame) → Closes bracket fs → (bracket ≡ Bracket.Fields → ⊥)
          → TurnDecided (closed bracket (under g l) (spot_at end start c) fs)
      by _ _ (ends_list ss vs fs) n = flat_decided start end c fs ss (payloads.List vs) (ap (λ y. is_fields (layer_kind y)) (views.outs-List vs))
      by _ _ (ends_sexp ss vs fs) n = flat_decided start end c fs ss (payloads.Sexp vs) (ap (λ y. is_fields (layer_kind y)) (views.outs-Sexp vs))
      by _ _ (ends_struct ss ms fs) n = absurd (n refl)
      by _ _ (ends_none bracket fs e) n = subst TurnDecided (sym (e (under g l) (spot_at end start c))) (λ i. absurd i)

  module _ (c : List Slot) (front : List Placed) (vs : List Value) (pieces : Pieces g l front vs c) where
    -- a struct is closed
    closed_decided : (start end : ℕ) (ss : Symbols) (ms : List Field) (fs : List Frame) (item : List Placed) (more : Bool) (t : Placed)
        → Deep l.depth (Frame.Fields ss ms ∷ fs) → (ends_long front && begins_as_long item) ≡ false → Opened c (Frame.Fields ss ms ∷ fs) item more
        → Says (close_place more) t (Mark' Mark.FieldsClose)
        → sight.mark (front ++ (item ++ t ∷ [])) → TurnDecided (ended (under g l) (spot_at end start c) fs (annotated ss (payloads.Fields ms)))
    closed_decided start end ss ms fs item more t deep apart o says shown =
        ended_decided start end c fs (annotated ss (payloads.Fields ms))
        (λ e none i j k. bad_table (front ++ (item ++ t ∷ [])) c ss ms e shown
        (struct_ends g l c front vs ss ms item more t pieces (subst (λ y. Deep l.depth (Frame.Fields ss ms ∷ y)) none deep) apart
        (subst (λ y. Opened c (Frame.Fields ss ms ∷ y) item more) none o) says) i j)

    module _ (t : Placed) (start end : ℕ) (item : List Placed) (apart : (ends_long front && begins_as_long item) ≡ false) where
      abbrev ts : List Placed
      ts = front ++ (item ++ t ∷ [])

      -- where a value may come
      ready_decided : (fs : List Frame) (ss : Symbols) (said : Content) → Deep l.depth fs → ReadyFor c fs ss item → Says (value_place fs) t said
          → Shown sight ts said → TurnDecided (on_ready (under g l) (spot_at end start c) fs ss said)
      ready_decided fs ss (Word x) deep d says shown = tt
      ready_decided fs ss (Id id) deep d says shown = go (resolve c id) refl
        where
          go : (r : Result (Option (List ℕ)) Reason) → resolve c id ≡ r
              → TurnDecided (resolved r (λ s. goes (at start c fs ss (Stage.Pending (Held.Symbol s) end))))
          go (Ok s) e = tt
          go (Err e) f = λ i. no_symbol ts c (containers fs) id e shown (value_comes g l c front vs pieces t (Id id) fs ss item deep apart d says) f
      ready_decided fs ss (Short x) deep d says shown = flat_decided start end c fs ss (payloads.Str x) (ap (λ y. is_fields (layer_kind y)) (views.outs-Str x))
      ready_decided fs ss (Number' n) deep d says shown = flat_decided start end c fs ss (number_payload n) (flat_number n)
      ready_decided fs ss (Operator x) deep d says shown = flat_decided start end c fs ss (payloads.Symbol (Some x))
          (ap (λ y. is_fields (layer_kind y)) (views.outs-Symbol (Some x)))
      ready_decided fs ss (Clob x) deep d says shown = flat_decided start end c fs ss (payloads.Clob x) (ap (λ y. is_fields (layer_kind y)) (views.outs-Clob x))
      ready_decided fs ss (Blob x) deep d says shown = flat_decided start end c fs ss (payloads.Blob x) (ap (λ y. is_fields (layer_kind y)) (views.outs-Blob x))
      ready_decided fs ss (Mark' Mark.ListOpen) deep d says shown =
          deeper_decided fs _ _ tt (λ k i. too_deep ts c (containers fs) (Mark' Mark.ListOpen) shown
          (value_comes g l c front vs pieces t (Mark' Mark.ListOpen) fs ss item deep apart d says) (takes_value fs d.receives) (inl refl) k)
      ready_decided fs ss (Mark' Mark.SexpOpen) deep d says shown =
          deeper_decided fs _ _ tt (λ k i. too_deep ts c (containers fs) (Mark' Mark.SexpOpen) shown
          (value_comes g l c front vs pieces t (Mark' Mark.SexpOpen) fs ss item deep apart d says) (takes_value fs d.receives) (inr refl) k)
      ready_decided fs ss (Mark' Mark.FieldsOpen) deep d says shown =
          deeper_decided fs _ _ tt (λ k i. struct_too_deep ts c (containers fs) shown
          (value_comes g l c front vs pieces t (Mark' Mark.FieldsOpen) fs ss item deep apart d says) (takes_value fs d.receives) k)
      ready_decided fs [] (Mark' Mark.ListClose) deep d says shown = items_decided start end c ListOrSexp.List fs
      ready_decided fs (s ∷ ss) (Mark' Mark.ListClose) deep d says shown = λ i. absurd i
      ready_decided fs [] (Mark' Mark.SexpClose) deep d says shown = items_decided start end c ListOrSexp.Sexp fs
      ready_decided fs (s ∷ ss) (Mark' Mark.SexpClose) deep d says shown = λ i. absurd i
      ready_decided fs ss (Mark' _) deep d says shown = λ i. absurd i
      ready_decided fs ss _ deep d says shown = tt

      before_apart : (fs : List Frame) (ss : Symbols) (h : Held) (d : PendingFor c fs ss h item) → (ends_long front && begins_as_long d.before) ≡ false
      before_apart fs ss h d = begins_so (ends_long front) d.before (d.token ∷ []) (subst (λ x. (ends_long front && begins_as_long x) ≡ false) d.whole apart)

      -- behind what may be an annotation
      pending_decided : (fs : List Frame) (ss : Symbols) (h : Held) (said : Content) → Deep l.depth fs → PendingFor c fs ss h item
          → Says (value_place fs) t said → Shown sight ts said → TurnDecided (on_pending start c fs ss h said)
      pending_decided fs ss h (Mark' Mark.Colons) deep d says shown = go (held_symbol h) refl
        where
          whole : ts ≡ (front ++ (d.before ++ d.token ∷ [])) ++ t ∷ []
          whole = sym (append_assoc front item (t ∷ [])) ∙ ap (λ x. (front ++ x) ++ t ∷ []) d.whole

          go : (r : Result (Option (List ℕ)) Reason) → held_symbol h ≡ r → TurnDecided (noted start c fs ss r)
          go (Ok s) e = tt
          go (Err e) f =
              let k = held_keyword c d.said h e d.named d.known f in
              subst Decided k.1
              (λ i. keyword_as_annotation (front ++ (d.before ++ d.token ∷ [])) t c (containers fs) d.said (subst sight.mark whole shown)
              (value_comes g l c front vs pieces d.token d.said fs ss d.before deep (before_apart fs ss h d) d.ready d.says) (takes_value fs d.ready.receives)
              k.0 (says_there fs t (Mark' Mark.Colons) says))
      pending_decided fs ss h _ deep d says shown = λ i. absurd i

      comma_decided : (fs : List Frame) → TurnDecided (on_comma start c fs)
      comma_decided (Frame.Items ListOrSexp.List ss vs ∷ fs) = tt
      comma_decided (Frame.Fields ss ms ∷ fs) = tt
      comma_decided _ = λ i. absurd i

      -- behind an element or a field
      after_decided : (fs : List Frame) (said : Content) → Deep l.depth fs → Opened c fs item false → Says (place_in fs Stage.After) t said → Shown sight ts said
          → TurnDecided (on_after (under g l) (spot_at end start c) fs said)
      after_decided fs (Mark' Mark.Comma) deep o says shown = comma_decided fs
      after_decided fs (Mark' Mark.ListClose) deep o says shown = items_decided start end c ListOrSexp.List fs
      after_decided (Frame.Fields ss ms ∷ fs) (Mark' Mark.FieldsClose) deep o says shown =
          closed_decided start end ss ms fs item false t deep apart o says shown
      after_decided _ _ deep o says shown = λ i. absurd i

      -- where a name may come
      name_decided : (ss : Symbols) (ms : List Field) (fs : List Frame) (said : Content) → Deep l.depth (Frame.Fields ss ms ∷ fs)
          → Opened c (Frame.Fields ss ms ∷ fs) item true → Says Place.Name t said → Shown sight ts said
          → TurnDecided (on_name (under g l) (spot_at end start c) (Frame.Fields ss ms ∷ fs) said)
      name_decided ss ms fs (Word x) deep o says shown =
          cond_both (is_keyword x) _ _ TurnDecided
          (λ e i. keyword_as_name ts c (containers fs) (Word x) shown (name_comes g l c front vs pieces t (Word x) ss ms fs item deep apart o says) e) (λ e. tt)
      name_decided ss ms fs (TypedNull k) deep o says shown =
          λ i. keyword_as_name ts c (containers fs) (TypedNull k) shown (name_comes g l c front vs pieces t (TypedNull k) ss ms fs item deep apart o says) tt
      name_decided ss ms fs (Id id) deep o says shown = go (resolve c id) refl
        where
          go : (r : Result (Option (List ℕ)) Reason) → resolve c id ≡ r → TurnDecided (resolved r (λ s. goes (keyed start c (Frame.Fields ss ms ∷ fs) s)))
          go (Ok s) e = tt
          go (Err e) f = λ i. no_symbol ts c (InStruct ∷ containers fs) id e shown (name_comes g l c front vs pieces t (Id id) ss ms fs item deep apart o says)
              f
      name_decided ss ms fs (Quoted x) deep o says shown = tt
      name_decided ss ms fs (Short x) deep o says shown = tt
      name_decided ss ms fs (Long x) deep o says shown = tt
      name_decided ss ms fs (Mark' Mark.FieldsClose) deep o says shown = closed_decided start end ss ms fs item true t deep apart o says shown
      name_decided ss ms fs _ deep o says shown = λ i. absurd i

      -- behind a segment of a long name
      long_name_decided : (fs : List Frame) (v : List ℕ) (said : Content) → TurnDecided (on_long_name start c fs v said)
      long_name_decided fs v (Long x) = tt
      long_name_decided fs v _ = λ i. absurd i

      named_decided : (fs : List Frame) (s : Option (List ℕ)) → TurnDecided (named start c fs s)
      named_decided (Frame.Fields ss ms ∷ fs) s = tt
      named_decided _ s = λ i. absurd i

      keyed_decided : (fs : List Frame) (s : Option (List ℕ)) (said : Content) → TurnDecided (on_keyed start c fs s said)
      keyed_decided fs s (Mark' Mark.Colon) = named_decided fs s
      keyed_decided fs s _ = λ i. absurd i

      long_decided : (fs : List Frame) (ss : Symbols) (v : List ℕ) (said : Content) → TurnDecided (on_long (spot_at end start c) fs ss v said)
      long_decided fs ss v (Long x) = tt
      long_decided fs ss v _ = λ i. absurd i

    -- What a token is refused for is a row.
    pub token_decided : (t : Placed) (begin end start : ℕ) (item : List Placed) (fs : List Frame) (ss : Symbols) (said : Content) (now : Stage) → Deep l.depth fs
        → (ends_long front && begins_as_long item) ≡ false → NowStands c fs ss item now → Says (place_in fs now) t said
        → Shown sight (front ++ (item ++ t ∷ [])) said → TurnDecided (turn_now (under g l) (at start c fs ss now) (token_at begin end said) now)
    token_decided t begin end start item fs ss said Stage.Ready deep apart d says shown =
        ready_decided t (begun_at start begin fs ss) end item apart fs ss said deep d says shown
    token_decided t begin end start item fs ss said (Stage.Pending h e) deep apart d says shown =
        pending_decided t start end item apart fs ss h said deep d (subst (λ p. Says p t said) (pending_at fs h e) says) shown
    token_decided t begin end start item fs ss said (Stage.Long v e) deep apart d says shown = long_decided t start end item apart fs ss v said
    token_decided t begin end start item fs ss said Stage.After deep apart d says shown = after_decided t start end item apart fs said deep d.0 says shown
    token_decided t begin end start item (Frame.Fields rs ms ∷ fs) ss said Stage.Name deep apart d says shown =
        name_decided t start end item apart rs ms fs said deep d.0 says shown
    token_decided t begin end start item _ ss said Stage.Name deep apart d says shown = absurd d.1
    token_decided t begin end start item fs ss said (Stage.LongName v) deep apart d says shown = long_name_decided t start end item apart fs v said
    token_decided t begin end start item fs ss said (Stage.Keyed x) deep apart d says shown = keyed_decided t start end item apart fs x said

    -- 3. What waited.

    module _ (start end : ℕ) (item : List Placed) (apart : (ends_long front && begins_as_long item) ≡ false) where
      -- a null of structs may be a local symbol table
      null_decided : (ss : Symbols) (k : Kind) → PendingFor c [] ss (Held.Null k) item → sight.alone (front ++ item)
          → TurnDecided (ended (under g l) (spot_at end start c) [] (annotated ss (payloads.Null k)))
      null_decided ss k d shown = ended_decided start end c [] v (λ e i j f h. null_table (front ++ item) c ss k e shown there j f)
        where
          v : Value
          v = annotated ss (payloads.Null k)

          alone : d.ready.notes ++ d.token ∷ [] ≡ item
          alone = sym (d.whole ∙ ap (λ x. x ++ d.token ∷ []) (d.ready.whole ∙ ap (λ x. x ++ d.ready.notes) d.ready.outer))

          there : Ends g l c v (front ++ item)
          there = record {
            front = front;
            item = item;
            values = vs;
            parts = refl;
            pieces = pieces;
            means =
                subst (λ x. Means c Place.Top x v) alone
                (means Place.Top d.ready.notes (d.token ∷ []) ss (payloads.Null k) d.ready.noted
                (one_token Place.Top d.token d.said (payloads.Null k) d.says (d.stood.value (payloads.Null k) refl)));
            deep = let flat = flat_depth ss (payloads.Null k) (flat_held (Held.Null k)) in omega (arith, flat);
            apart = apart;
          }

      version_decided : (s : Option (List ℕ)) → PendingFor c [] [] (Held.Version false s) item → sight.alone (front ++ item) → Decided Reason.Version
      version_decided s d shown i =
          let x = held_other c d.said s d.named d.known in
          let says = subst (Says Place.Top d.token) x.is d.says in
          let none : d.ready.notes ≡ [] = none_noted c Place.Top d.ready.notes [] d.ready.noted refl in
          other_version (front ++ (d.before ++ d.token ∷ [])) c x.word (subst sight.alone (ap (λ y. front ++ y) d.whole) shown)
          (value_comes g l c front vs pieces d.token (Word x.word) [] [] d.before tt
          (begins_so (ends_long front) d.before (d.token ∷ []) (subst (λ y. (ends_long front && begins_as_long y) ≡ false) d.whole apart)) d.ready says)
          none x.version (λ q. never (bytes_eq x.word the_marker) x.other ((bytes_eq-Decides x.word the_marker).1 q))

      released_decided : (fs : List Frame) (ss : Symbols) (h : Held) → PendingFor c fs ss h item → (fs ≡ [] → sight.alone (front ++ item))
          → TurnDecided (released (under g l) (spot_at end start c) fs ss h)
      released_decided [] [] (Held.Version true s) d f = within_decided l.item start end (goes (fresh system_slots)) tt
      released_decided [] [] (Held.Version false s) d f = version_decided s d (f refl)
      released_decided [] [] (Held.Symbol s) d f = flat_decided start end c [] [] (payloads.Symbol s)
          (ap (λ y. is_fields (layer_kind y)) (views.outs-Symbol s))
      released_decided [] [] (Held.Null k) d f = null_decided [] k d (f refl)
      released_decided [] [] (Held.Truth b) d f = flat_decided start end c [] [] (payloads.Truth b) (ap (λ y. is_fields (layer_kind y)) (views.outs-Truth b))
      released_decided [] (x ∷ ss) (Held.Version b s) d f =
          flat_decided start end c [] (x ∷ ss) (payloads.Symbol s) (ap (λ y. is_fields (layer_kind y)) (views.outs-Symbol s))
      released_decided [] (x ∷ ss) (Held.Symbol s) d f = flat_decided start end c [] (x ∷ ss) (payloads.Symbol s)
          (ap (λ y. is_fields (layer_kind y)) (views.outs-Symbol s))
      released_decided [] (x ∷ ss) (Held.Null k) d f = null_decided (x ∷ ss) k d (f refl)
      released_decided [] (x ∷ ss) (Held.Truth b) d f = flat_decided start end c [] (x ∷ ss) (payloads.Truth b)
          (ap (λ y. is_fields (layer_kind y)) (views.outs-Truth b))
      released_decided [] [] Held.Nan d f = λ i. absurd i
      released_decided [] (x ∷ ss) Held.Nan d f = λ i. absurd i
      released_decided (y ∷ fs) ss Held.Nan d f = λ i. absurd i
      released_decided (y ∷ fs) ss h d f = inside_decided start end c y fs _

    -- What is refused of what waited is a row.
    pub settled_decided : (start : ℕ) (item : List Placed) (fs : List Frame) (ss : Symbols) (now : Stage) → (ends_long front && begins_as_long item) ≡ false
        → NowStands c fs ss item now → ((h : Held) (end : ℕ) → now ≡ Stage.Pending h end → fs ≡ [] → sight.alone (front ++ item))
        → TurnDecided (settle g l (at start c fs ss now))
    settled_decided start item fs ss (Stage.Pending h end) apart d f = released_decided start end item apart fs ss h d (f h end refl)
    settled_decided start item fs ss (Stage.Long v end) apart d f =
        flat_decided start end c fs ss (payloads.Str v) (ap (λ y. is_fields (layer_kind y)) (views.outs-Str v))
    settled_decided start item fs ss _ apart d f = tt
