-- What stands open for the tokens of the open item: the containers, the annotations, and what waits.
use Rattle.std.proofs.Common.{◌≡◌, ℕ, List, [], ◌∷◌, ◌++◌, Bool, true, false, Ok, Option, Some, refl, ap, sym, ◌∙◌, subst, append_assoc, append-nil, if◌then◌else◌, codes, ◌||◌, ◌&&◌}
use Rattle.std.proofs.lemmas.Slice.Eq.{bytes_eq-Decides}
use Rattle.std.specs.Str.{bytes_eq}
use Rattle.ion_text.specs.Names.{Annotations, Bracket, Content, Elements, Frame, Held, Id, IsBody, IsName, IsScalar, IsSymbol, Kind, ListOrSexp, Long, Mark, Mark', Members, Payload, Place, Placed, Quoted, Reading, Row, Says, Segments, Slot, Stage, Symbols, TokenKind, TypedNull, Value, Word, begins_long, bracket_in, ends_long, held_payload, held_symbol, held_word, is_false, is_long, is_null, is_segment, is_symbol, is_true, is_version, is_version_word, is_word, joined, no_annotation, one_annotation, open_mark, place_in, resolve, the_marker}
use Rattle.ion_model.specs.declared.value.Payload.TheVariants as payloads
use Rattle.ion_text.specs.laws.reading.complete.Complete.{is_unmarked}
pub use Rattle.ion_text.specs.machine.Ways.{start_now}

-- where a value of the innermost container stands
abbrev pub value_place : List Frame → Place
value_place fs = place_in fs Stage.Ready

-- a value may come in the innermost container
abbrev pub Receives : List Frame → Type 0
Receives (Frame.Fields ss ms ∷ fs) = ⊥
Receives _ = Unit {0}

-- a container whose close hasn't come: the tokens around it, its annotations, its open and the tokens behind that
pub record Around (c : List Slot) (fs : List Frame) (ss : Symbols) (ts : List Placed) (bracket : Bracket) (Front Body : List Placed → Type 0) : Type 0 where
  pub front : List Placed
  pub notes : List Placed
  pub body : List Placed
  pub open' : Placed
  pub whole : ts ≡ front ++ (notes ++ (open' ∷ body))
  pub outer : Front front
  pub receives : Receives fs
  pub noted : Annotations c (value_place fs) notes ss
  pub opens : Says (value_place fs) open' (Mark' (open_mark bracket))
  pub items : Body body

-- the items of a list or an s-expression; the Bool says whether an element of a list may come
abbrev pub Items : List Slot → ListOrSexp → List Value → Bool → List Placed → Type 0
Items c ListOrSexp.List vs more body = Elements c body vs more
Items c ListOrSexp.Sexp vs more body = Row c body vs

-- the tokens of the open item, up to what has come of the innermost container; the Bool says whether an element may come there
abbrev pub Opened : List Slot → List Frame → List Placed → Bool → Type 0
Opened c [] ts more = ts ≡ []
Opened c (Frame.Items listing ss vs ∷ fs) ts more = Around c fs ss ts (bracket_in listing) (λ front. Opened c fs front true) (Items c listing vs more)
Opened c (Frame.Fields ss ms ∷ fs) ts more = Around c fs ss ts Bracket.Fields (λ front. Opened c fs front true) (λ body. Members c body ms more)
Opened c (Frame.Named ss ms s ∷ fs) ts more =
    record {
      front : List Placed;
      notes : List Placed;
      body : List Placed;
      name : List Placed;
      open' : Placed;
      colon : Placed;
      whole : ts ≡ front ++ (notes ++ (open' ∷ (body ++ (name ++ colon ∷ []))));
      outer : Opened c fs front true;
      receives : Receives fs;
      noted : Annotations c (value_place fs) notes ss;
      opens : Says (value_place fs) open' (Mark' Mark.FieldsOpen);
      items : Members c body ms true;
      named : IsName c name s;
      colons : Says Place.Name colon (Mark' Mark.Colon);
    }

-- the innermost container is a struct where no value is open
abbrev pub IsStruct : List Frame → Type 0
IsStruct (Frame.Fields ss ms ∷ fs) = Unit {0}
IsStruct _ = ⊥

-- a container is open
abbrev pub IsInside : List Frame → Type 0
IsInside [] = ⊥
IsInside (f ∷ fs) = Unit {0}

-- where the last token of what waits ended
abbrev pub EndsAt : Stage → ℕ → Type 0
EndsAt (Stage.Pending h e) end = e ≡ end
EndsAt (Stage.Long w e) end = e ≡ end
EndsAt _ end = Unit {0}

-- in an s-expression, whether the tokens of its elements end in a long string
abbrev pub long_behind : (c : List Slot) (fs : List Frame) (ts : List Placed) → Opened c fs ts true → Bool
long_behind c (Frame.Items ListOrSexp.Sexp ss vs ∷ fs) ts o = ends_long o.body
long_behind c _ ts o = false

-- a token that says something else is no segment
pub no_segment : (k : TokenKind) (octets : List ℕ) (said : Content) → ((w : List ℕ) → said ≡ Long w → ⊥) → IsBody k octets (Ok said) → is_segment k ≡ false
no_segment TokenKind.LongString octets said n h = absurd (n octets h.0)
no_segment _ octets said n h = refl

-- no symbol is a segment
pub symbol_no_long : (c : List Slot) (said : Content) (s : Option (List ℕ)) → IsSymbol c said s → (w : List ℕ) → said ≡ Long w → ⊥
symbol_no_long c _ _ (is_word v h) w e = cc
symbol_no_long c _ _ _ w e = cc

-- a token that says no segment is none
pub not_long : (p : Place) (t : Placed) (said : Content) → Says p t said → ((w : List ℕ) → said ≡ Long w → ⊥) → is_long t ≡ false
not_long p t said h n = no_segment t.lexeme.kind t.lexeme.octets said n h.body

-- behind annotations nothing begins long, and without them what is no segment
pub notes_not_long : (c : List Slot) (p : Place) (notes us : List Placed) (ss : Symbols) (t : Placed) → Annotations c p notes ss → is_long t ≡ false
    → begins_long (notes ++ t ∷ us) ≡ false
notes_not_long c p _ us _ t no_annotation h = h
notes_not_long c p _ us _ t (one_annotation ts ss a colons said s d i j k) h =
    ap begins_long (append_assoc ts (a ∷ colons ∷ []) (t ∷ us))
    ∙ notes_not_long c p ts (colons ∷ t ∷ us) ss a d (not_long p a said i (symbol_no_long c said s j))

-- whether an item begins with a long string is seen from its first segments
pub begins_long_more : (notes segments us : List Placed) (p : Place) (w : List ℕ) → Segments p segments w → begins_long (notes ++ (segments ++ us))
    ≡ begins_long (notes ++ segments)
begins_long_more [] _ us p w (joined [] v x t d h) = refl
begins_long_more _ _ us p w _ = refl

-- what is held is what the token says
pub record HoldsWhatIsSaid (c : List Slot) (said : Content) (h : Held) : Type 0 where
  pub value : (q : Payload) → held_payload h ≡ Ok q → IsScalar c said q
  pub marker : (s : Option (List ℕ)) → h ≡ Held.Version true s → said ≡ Word the_marker
  pub note : (s : Option (List ℕ)) → held_symbol h ≡ Ok s → IsSymbol c said s

-- the open item's tokens where a value may come: those of its containers, and annotations of the value
pub record ReadyFor (c : List Slot) (fs : List Frame) (ss : Symbols) (ts : List Placed) : Type 0 where
  pub front : List Placed
  pub notes : List Placed
  pub whole : ts ≡ front ++ notes
  pub outer : Opened c fs front true
  pub receives : Receives fs
  pub noted : Annotations c (value_place fs) notes ss

-- no annotation has come
pub nothing_noted : (c : List Slot) (fs : List Frame) (ts : List Placed) → Opened c fs ts true → Receives fs → ReadyFor c fs [] ts
nothing_noted c fs ts o r = record { front = ts; notes = []; whole = sym (append-nil ts); outer = o; receives = r; noted = no_annotation }

module _ (c : List Slot) (fs : List Frame) (ss : Symbols) (bracket : Bracket) where
  -- a container behind its open
  pub opened_around : (Body : List Placed → Type 0) (ts : List Placed) (t : Placed) → ReadyFor c fs ss ts → Says (value_place fs) t (Mark' (open_mark bracket))
      → Body [] → Around c fs ss (ts ++ t ∷ []) bracket (λ front. Opened c fs front true) Body
  opened_around Body ts t d i none = record {
    front = d.front;
    notes = d.notes;
    body = [];
    open' = t;
    whole = ap (λ x. x ++ t ∷ []) d.whole ∙ append_assoc d.front d.notes (t ∷ []);
    outer = d.outer;
    receives = d.receives;
    noted = d.noted;
    opens = i;
    items = none;
  }

  -- tokens behind what has come of a container
  pub whole_behind : (Body : List Placed → Type 0) (ts us : List Placed) (o : Around c fs ss ts bracket (λ front. Opened c fs front true) Body)
      → ts ++ us ≡ o.front ++ (o.notes ++ (o.open' ∷ (o.body ++ us)))
  whole_behind Body ts us o = ap (λ x. x ++ us) o.whole ∙ (append_assoc o.front (o.notes ++ (o.open' ∷ o.body)) us
      ∙ ap (λ x. o.front ++ x) (append_assoc o.notes (o.open' ∷ o.body) us))

  -- the tokens of an open container go on, where those in it do
  pub more_around : (Body More : List Placed → Type 0) (ts us : List Placed) (o : Around c fs ss ts bracket (λ front. Opened c fs front true) Body)
      → More (o.body ++ us) → Around c fs ss (ts ++ us) bracket (λ front. Opened c fs front true) More
  more_around Body More ts us o more = record {
    front = o.front;
    notes = o.notes;
    body = o.body ++ us;
    open' = o.open';
    whole = whole_behind Body ts us o;
    outer = o.outer;
    receives = o.receives;
    noted = o.noted;
    opens = o.opens;
    items = more;
  }

-- what a token says that may be an annotation, or a word that may not
abbrev pub symbol_said : Content → Bool
symbol_said (Word w) = true
symbol_said (Id id) = true
symbol_said (Quoted w) = true
symbol_said (TypedNull k) = true
symbol_said _ = false

-- this is held of such a token, where a value may come
abbrev pub IsHeld : List Slot → Content → Held → Type 0
IsHeld c (Word w) h = h ≡ held_word w
IsHeld c (Id id) h = (s : Option (List ℕ)) × (resolve c id ≡ Ok s) × (h ≡ Held.Symbol s)
IsHeld c (Quoted w) h = h ≡ Held.Symbol (Some w)
IsHeld c (TypedNull k) h = h ≡ Held.Null k
IsHeld c _ h = Unit {0}

-- the open item's tokens where the last of them waits for `::`, which would make it an annotation
pub record PendingFor (c : List Slot) (fs : List Frame) (ss : Symbols) (h : Held) (ts : List Placed) : Type 0 where
  pub before : List Placed
  pub ready : ReadyFor c fs ss before
  pub token : Placed
  pub said : Content
  pub whole : ts ≡ before ++ token ∷ []
  pub says : Says (value_place fs) token said
  pub stood : HoldsWhatIsSaid c said h
  pub other : (w : List ℕ) → said ≡ Long w → ⊥
  pub named : symbol_said said ≡ true
  pub known : IsHeld c said h
  pub unmarked : is_unmarked h ≡ true → is_version_word (token ∷ []) ≡ false

-- the open item's tokens where the last of them are a long string that waits for a further segment
pub record LongFor (c : List Slot) (fs : List Frame) (ss : Symbols) (w : List ℕ) (ts : List Placed) : Type 0 where
  pub before : List Placed
  pub ready : ReadyFor c fs ss before
  pub segments : List Placed
  pub whole : ts ≡ before ++ segments
  pub are : Segments (value_place fs) segments w
  pub apart : (long_behind c fs ready.front ready.outer && begins_long (ready.notes ++ segments)) ≡ false

-- the open item's tokens where the last of them are a field's name of this sort
pub record NameFor (c : List Slot) (fs : List Frame) (P : List Placed → Type 0) (ts : List Placed) : Type 0 where
  pub before : List Placed
  pub name : List Placed
  pub whole : ts ≡ before ++ name
  pub outer : Opened c fs before true
  pub struct : IsStruct fs
  pub is : P name

-- what the reader holds of the open item stands for these tokens
abbrev pub NowStands : List Slot → List Frame → Symbols → List Placed → Stage → Type 0
NowStands c fs ss ts Stage.Ready = ReadyFor c fs ss ts
NowStands c fs ss ts (Stage.Pending h end) = PendingFor c fs ss h ts
NowStands c fs ss ts (Stage.Long w end) = LongFor c fs ss w ts
NowStands c fs ss ts Stage.After = Opened c fs ts false × (ss ≡ []) × IsInside fs
NowStands c fs ss ts Stage.Name = Opened c fs ts true × IsStruct fs
NowStands c fs ss ts (Stage.LongName w) = NameFor c fs (λ n. Segments Place.Name n w) ts
NowStands c fs ss ts (Stage.Keyed s) = NameFor c fs (λ n. IsName c n s) ts

-- the same with the context of symbols
abbrev pub ReadingStands : List Slot → Reading → List Placed → Type 0
ReadingStands c r ts = (r.context ≡ c) × NowStands c r.frames r.notes ts r.now

-- where what waits ended
abbrev pub end_of_now : Stage → ℕ → ℕ
end_of_now (Stage.Pending h e) end = e
end_of_now (Stage.Long w e) end = e
end_of_now _ end = end

-- the words of keywords, and what else is held
pub word_stood : (c : List Slot) (w : List ℕ) → HoldsWhatIsSaid c (Word w) (held_word w)
word_stood c w = go (bytes_eq w (codes "null")) (bytes_eq w (codes "true")) (bytes_eq w (codes "false")) (bytes_eq w (codes "nan")) (is_version w) refl refl
    refl refl
  where
    is : (w v : List ℕ) → bytes_eq w v ≡ true → w ≡ v
    is w v e = (bytes_eq-Decides w v).0 e

    ours : {s : Option (List ℕ)} → Held.Version (bytes_eq w the_marker) (Some w) ≡ Held.Version true s → bytes_eq w the_marker ≡ true
    ours h = ap (λ (x : Held). which x) h
      where
        which : Held → Bool
        which (Held.Version b s) = b
        which _ = false

    symbol : (a b d e : Bool) → bytes_eq w (codes "null") ≡ false → bytes_eq w (codes "true") ≡ false → bytes_eq w (codes "false") ≡ false
        → bytes_eq w (codes "nan") ≡ false → IsSymbol c (Word w) (Some w)
    symbol a b d e i j k m = is_word w (ap (λ x. (x || bytes_eq w (codes "true")) || (bytes_eq w (codes "false") || bytes_eq w (codes "nan"))) i
        ∙ (ap (λ x. (false || x) || (bytes_eq w (codes "false") || bytes_eq w (codes "nan"))) j
        ∙ (ap (λ x. (false || false) || (x || bytes_eq w (codes "nan"))) k ∙ ap (λ x. (false || false) || (false || x)) m)))

    go : (a b d e f : Bool) → bytes_eq w (codes "null") ≡ a → bytes_eq w (codes "true") ≡ b → bytes_eq w (codes "false") ≡ d → bytes_eq w (codes "nan") ≡ e
        → HoldsWhatIsSaid c (Word w) (if a then Held.Null Kind.Null else
        (if b then Held.Truth true else (if d then Held.Truth false else
        (if e then Held.Nan else (if f then Held.Version (bytes_eq w the_marker) (Some w) else Held.Symbol (Some w))))))
    go true b d e f i j k m = record {
      value = λ q h. subst (λ x. IsScalar c (Word x) q) (sym (is w (codes "null") i))
          (subst (IsScalar c (Word (codes "null"))) (let n : payloads.Null Kind.Null ≡ q = cc in n) is_null);
      marker = λ s h. absurd cc;
      note =
          λ s h. absurd cc;
    }
    go false true d e f i j k m = record {
      value = λ q h. subst (λ x. IsScalar c (Word x) q) (sym (is w (codes "true") j))
          (subst (IsScalar c (Word (codes "true"))) (let n : payloads.Truth true ≡ q = cc in n) is_true);
      marker = λ s h. absurd cc;
      note = λ s h. absurd cc;
    }
    go false false true e f i j k m = record {
      value = λ q h. subst (λ x. IsScalar c (Word x) q) (sym (is w (codes "false") k))
          (subst (IsScalar c (Word (codes "false"))) (let n : payloads.Truth false ≡ q = cc in n) is_false);
      marker = λ s h. absurd cc;
      note =
          λ s h. absurd cc;
    }
    go false false false true f i j k m = record { value = λ q h. absurd cc; marker = λ s h. absurd cc; note = λ s h. absurd cc }
    go false false false false true i j k m = record {
      value =
          λ q h. subst (IsScalar c (Word w)) (let n : payloads.Symbol (Some w) ≡ q = cc in n)
          (is_symbol (Word w) (Some w) (symbol false false false false i j k m));
      marker = λ s h. ap Word (is w the_marker (ours h));
      note =
          λ s h. subst (IsSymbol c (Word w)) (let n : Some w ≡ s = cc in n) (symbol false false false false i j k m);
    }
    go false false false false false i j k m = record {
      value =
          λ q h. subst (IsScalar c (Word w)) (let n : payloads.Symbol (Some w) ≡ q = cc in n)
          (is_symbol (Word w) (Some w) (symbol false false false false i j k m));
      marker = λ s h. absurd cc;
      note =
          λ s h. subst (IsSymbol c (Word w)) (let n : Some w ≡ s = cc in n) (symbol false false false false i j k m);
    }

-- a symbol that is held stands for what is said
pub symbol_stood : (c : List Slot) (said : Content) (s : Option (List ℕ)) → IsSymbol c said s → HoldsWhatIsSaid c said (Held.Symbol s)
symbol_stood c said s d = record {
  value = λ q h. subst (IsScalar c said) (let n : payloads.Symbol s ≡ q = cc in n) (is_symbol said s d);
  marker =
      λ s h. absurd cc;
  note = λ t h. subst (IsSymbol c said) (let n : s ≡ t = cc in n) d;
}

-- where there are no annotations there are no tokens of any
pub no_note : (c : List Slot) (p : Place) (notes : List Placed) → Annotations c p notes [] → notes ≡ []
no_note c p _ a = go _ [] a refl
  where
    go : (ts : List Placed) (ss : Symbols) → Annotations c p ts ss → ss ≡ [] → ts ≡ []
    go _ _ no_annotation e = refl
    go _ _ (one_annotation ts ss t u said s d h i j) e = absurd (none ss e)
      where
        none : (ss : Symbols) → ss ++ s ∷ [] ≡ [] → ⊥
        none [] e = cc
        none (x ∷ ss) e = cc

-- behind an element that ends long, a segment may not come where a value may
abbrev pub NoSegmentComes : (c : List Slot) (fs : List Frame) (ss : Symbols) (ts : List Placed) (t : Placed) (said : Content) (now : Stage)
    → NowStands c fs ss ts now → Type 0
NoSegmentComes c fs ss ts t said Stage.Ready d = (w : List ℕ) → said ≡ Long w → (long_behind c fs d.front d.outer && begins_long (d.notes ++ t ∷ [])) ≡ false
NoSegmentComes c fs ss ts t said _ d = Unit {0}
