-- Rows of the table whose last token waits for `::` and is refused where none follows.
use Rattle.std.proofs.Common.{◌≡◌, ◌≢◌, ℕ, Bool, true, false, ◌&&◌, List, [], ◌∷◌, ◌++◌, refl, sym, ap, ◌∙◌, subst, Ok, Err, Some, if◌then◌else◌, codes}
use Rattle.std.proofs.lemmas.Bool.{cond-true, or_right}
use Rattle.std.specs.Str.{bytes_eq}
use Rattle.std.proofs.lemmas.Slice.Eq.{bytes_eq-Decides}
use Rattle.ion_refusals.specs.Names.{Annotations, BlankThen, Catalog, Comes, Content, Frame, Held, IsBody, IsScalar, Kind, Layer, LexesTo, Limits, Mark, Means, Payload, Payload-F, Place, Placed, Plain, Reading, Reason, Says, Slot, Stage, Symbols, TokenKind, TypedNull, Value, Version, Walk, Word, annotated, at, begins_as_long, begun_at, colon_behind, continues, ended, ends_long, goes, held_word, is_blob, is_clob, is_decimal, is_false, is_int, is_keyword, is_list, is_null, is_operator, is_short, is_struct, is_symbol, is_table, is_timestamp, is_true, is_typed_null, is_version, long_string, means, next, none_open, on_ready, on_turn, one_token, place, reads, said, said_body, settle, spot_at, stopped, the_marker, token_of, turned, under}
use Rattle.ion_model.specs.declared.value.Payload.TheVariants as payloads
use Rattle.ion_model.specs.declared.value.Payload.TheViews as views
use Rattle.ion_refusals.specs.Deciding.{Ends}
use Rattle.ion_text.specs.Grammar.{is_sexp}
use Rattle.ion_text.specs.machine.TokenLists.{walked}
use Rattle.ion_refusals.proofs.deciding.Comings.{JoinsNothing, before, came, cut, f}
use Rattle.ion_refusals.proofs.deciding.Fronts.{Came, origin}
use Rattle.ion_refusals.proofs.deciding.Openings.{begins_so, containers}
use Rattle.ion_refusals.proofs.deciding.Shows.{EndSaid, IsBare, NoLetters, end_bare, k, no_letters, said_bare}
use Rattle.ion_refusals.proofs.deciding.Tokens.{Refusing, null_apart, read_to, refusing_is, refusing_stops, word_apart}
use Rattle.ion_text.specs.laws.reading.complete.Complete.{pending_goes, released_paid}
use Rattle.ion_text.specs.laws.reading.complete.Going.{mark_kind, settled_reads}
use Rattle.ion_text.specs.laws.reading.complete.Segments.{never}
use Rattle.ion_text.specs.laws.reading.sound.Held.{no_notes}
use Rattle.ion_text.specs.laws.reading.sound.StandsOpen.{symbol_said}
use Rattle.ion_text.specs.laws.showing.shown.Opened.{blank_token, colons_token, symbol_colon}
use Rattle.ion_text.specs.laws.showing.tokens.Compare.{lexes_once}
use Rattle.ion_text.specs.laws.showing.tokens.Cuts.{parted}
use Rattle.ion_text.specs.laws.showing.tokens.Walks.{behind_read, walking_said}

-- a word of the form of a marker is held as one
version_held : (w : List ℕ) → is_version w ≡ true → w ≢ the_marker → held_word w ≡ Held.Version false (Some w)
version_held w v n =
    go (bytes_eq w (codes "null")) (bytes_eq w (codes "true")) (bytes_eq w (codes "false")) (bytes_eq w (codes "nan")) (bytes_eq w the_marker)
    (not_word (codes "null") refl) (not_word (codes "true") refl) (not_word (codes "false") refl) (not_word (codes "nan") refl)
    (λ e. n ((bytes_eq-Decides w the_marker).0 e))
  where
    not_word : (k : List ℕ) → is_version k ≡ false → bytes_eq w k ≡ true → ⊥
    not_word k f e = never (is_version w) (ap is_version ((bytes_eq-Decides w k).0 e) ∙ f) v

    go : (a b c d e : Bool) → (a ≡ true → ⊥) → (b ≡ true → ⊥) → (c ≡ true → ⊥) → (d ≡ true → ⊥) → (e ≡ true → ⊥)
        → (if a then Held.Null Kind.Null else (if b then Held.Truth true else
        (if c then Held.Truth false else (if d then Held.Nan else (if is_version w then Held.Version e (Some w) else Held.Symbol (Some w))))))
        ≡ Held.Version false (Some w)
    go true b c d e i j k m n = absurd (i refl)
    go false true c d e i j k m n = absurd (j refl)
    go false false true d e i j k m n = absurd (k refl)
    go false false false true e i j k m n = absurd (m refl)
    go false false false false true i j k m n = absurd (n refl)
    go false false false false false i j k m n = cond-true _ _ _ v

-- an item without tokens
no_frames : (fs : List Frame) → containers fs ≡ [] → fs ≡ []
no_frames [] e = refl
no_frames (f ∷ fs) e = absurd cc

-- The last of the tokens, behind others that are read, waits for `::`, and is refused for this reason if none follows.
pub record Pends (g : Catalog) (l : Limits) (ts : List Placed) (e : Reason) : Type 0 where
  pub front : List Placed
  pub token : Placed
  pub is : ts ≡ front ++ token ∷ []
  pub came : Came g l front token.place
  pub colon : colon_behind token ≡ true
  pub bare : IsBare token.lexeme.kind
  pub letters : NoLetters token.lexeme
  pub start : ℕ
  pub end : ℕ
  pub context : List Slot
  pub notes : Symbols
  pub held : Held
  pub values : List Value
  pub read : reads g l (origin g l) ts ≡ walked values (at start context [] notes (Stage.Pending held end))
  pub why : Refusing e (settle g l (at start context [] notes (Stage.Pending held end)))

-- `::` behind tokens
pub colons_shown : (u : List ℕ) (ws : List Placed) (x : Placed) (ys : List Placed) (colon after : Bool) (end k : ℕ) (rest left : List ℕ)
    → LexesTo false 0 u ws colon end rest → LexesTo false 0 u (ws ++ x ∷ ys) after k left → x.lexeme.kind ≡ TokenKind.Mark Mark.Colons
    → BlankThen (codes "::") rest
colons_shown u ws x ys colon after end k rest left here lexes kind =
    let d = parted ws (x ∷ ys) false 0 u after k left lexes in
    let one = lexes_once ws false 0 u d.flag colon d.mid end d.left rest d.first here in
    let b = d.second.1 in
    blank_token (codes "::") [] d.left rest d.second.0 d.flag d.mid x b
    (colons_token x.place d.flag b.token d.second.0 x.lexeme.kind x.lexeme.octets b.is kind).0 one.2

module _ (g : Catalog) (l : Limits) (ws : List Placed) (reason : Reason) (p : Pends g l ws reason) where
  -- the reader of tokens that waits for `::` behind these tokens
  abbrev pub pend : Reading
  pend = at p.start p.context [] p.notes (Stage.Pending p.held p.end)

  -- where what waits is settled without `::`, no token is read behind it
  pub settling_stops : (f : Reading → Walk) → on_turn (settle g l pend) f ≡ stopped
  settling_stops f = refusing_stops reason (settle g l pend) f p.why

  -- What comes next of tokens that are read is `::`.
  pub colons_next : (x : Placed) (ys : List Placed) (zs : List Value) (n : Reading) → reads g l (origin g l) (ws ++ x ∷ ys) ≡ walked zs n
      → x.lexeme.kind ≡ TokenKind.Mark Mark.Colons
  colons_next x ys zs n e = go (continues pend (token_of x.lexeme q.1)) refl
    where
      rest : (zs : List Value) × (reads g l pend (x ∷ ys) ≡ walked zs n)
      rest = behind_read g l ws (x ∷ ys) (origin g l) pend n p.values zs p.read e

      q : (x.place ≡ place pend) × (d : Content) × (said x.lexeme.kind x.lexeme.octets ≡ Ok d)
      q = walking_said g l pend x ys (record { vs = rest.0; n = n; read = rest.1 })

      go : (y : Bool) → continues pend (token_of x.lexeme q.1) ≡ y → x.lexeme.kind ≡ TokenKind.Mark Mark.Colons
      go true f =
          let colons = pending_goes g l p.start p.context [] p.notes p.held p.end (token_of x.lexeme q.1) f in
          mark_kind x.lexeme.kind x.lexeme.octets Mark.Colons (subst (λ y. IsBody x.lexeme.kind x.lexeme.octets (Ok y)) colons
          (said_body x.lexeme.kind x.lexeme.octets q.1 q.2))
      go false f = absurd (let never : walked rest.0 n ≡ stopped =
          sym rest.1 ∙ (settled_reads g l pend x ys q.1 q.0 q.2 f ∙ settling_stops (λ k. reads g l k (x ∷ ys))) in cc)

module _ (g : Catalog) (l : Limits) where
  -- a token that is held
  module _ (c : List Slot) (said : Content) (ts : List Placed) (h : Comes g l c [] said ts) (ends : EndSaid said) (symbol : symbol_said said ≡ true)
      (apart : JoinsNothing said) (word : Held)
      (waits : (start end : ℕ) → on_ready (under g l) (spot_at end start c) (f g l c [] said ts h).held h.symbols said
      ≡ goes (at start c (f g l c [] said ts h).held h.symbols (Stage.Pending word end)))
      (reason : Reason) (refused : (start end : ℕ) → Refusing reason (settle g l (at start c [] h.symbols (Stage.Pending word end)))) where
    held_pends : Pends g l ts reason
    held_pends =
        let front = before g l c [] said ts h in
        let is = cut g l c [] said ts h in
        let held = (f g l c [] said ts h).held in
        let x = read_to g l c [] said ts h tt word waits apart [] in
        let start = begun_at x.0 h.token.lexeme.start held h.symbols in
        let end = h.token.lexeme.end in
        record {
          front = front;
          token = h.token;
          is = is;
          came = subst (Came g l front) (sym h.says.place) (came g l c [] said ts h tt);
          colon = symbol_colon h.token.place h.token.lexeme.kind h.token.lexeme.octets said h.says.body symbol;
          bare = said_bare h.token.lexeme.kind h.token.lexeme.octets said h.says.body (end_bare said ends);
          letters = no_letters h.token.lexeme said h.says.body ends;
          start = start;
          end = end;
          context = c;
          notes = h.symbols;
          held = word;
          values = h.values ++ [];
          read = ap (reads g l (origin g l)) is ∙ (x.1 ∙ ap (λ fs. walked (h.values ++ []) (at start c fs h.symbols (Stage.Pending word end)))
              (no_frames held (f g l c [] said ts h).same));
          why = refused start end;
        }

  -- the marker of another version waits for `::`, and is refused where none follows
  pub version_pends : (ts : List Placed) (c : List Slot) (w : List ℕ) → (h : Comes g l c [] (Word w) ts) → h.notes ≡ [] → is_version w ≡ true → w ≢ the_marker
      → Pends g l ts Version
  version_pends ts c w h bare version other =
      held_pends c (Word w) ts h (or_right (is_keyword w) (is_version w) version) refl (word_apart w) (held_word w) (λ start end. refl)
      Version
      (λ start end. subst (λ ss. Refusing Version (settle g l (at start c [] ss (Stage.Pending (held_word w) end))))
      (sym (no_notes c Place.Top h.notes h.symbols h.noted (sym bare)))
      (subst (λ x. Refusing Version (settle g l (at start c [] [] (Stage.Pending x end)))) (sym (version_held w version other)) refl))

  abbrev has_null : Layer → Bool
  has_null (Payload-F.Null k) = true
  has_null _ = false

  -- a null that is a local symbol table, which is refused, waits for `::`
  pub null_pends : (ts : List Placed) (c : List Slot) (ss : Symbols) (k : Kind) (e : Reason) → Ends g l c (annotated ss (payloads.Null k)) ts
      → is_table (annotated ss (payloads.Null k)) ≡ true → next c (annotated ss (payloads.Null k)) g ≡ Err e → Pends g l ts e
  null_pends ts c ss k e h table fails = value Place.Top h.item (annotated ss (payloads.Null k)) h.means refl refl refl
    where
      v : Value
      v = annotated ss (payloads.Null k)

      other : (q : Payload) → q ≡ payloads.Null k → has_null (views.out-Payload q) ≡ false → ⊥
      other q e n = never (has_null (views.out-Payload q)) n (ap (λ x. has_null (views.out-Payload x)) e ∙ ap has_null (views.outs-Null k))

      refused : (rs : Symbols) (kind : Kind) → annotated rs (payloads.Null kind) ≡ v → (start end : ℕ)
          → Refusing e (settle g l (at start c [] rs (Stage.Pending (Held.Null kind) end)))
      refused rs kind is start end =
          refusing_is e (settle g l (at start c [] rs (Stage.Pending (Held.Null kind) end)))
          (released_paid g l end start c [] rs (Held.Null kind) (λ i j. refl)
          ∙ (ap (λ x. ended (under g l) (spot_at end start c) [] x) is ∙ (cond-true _ _ _ table ∙ ap (turned l.item start end) fails)))

      comes : (notes : List Placed) (t : Placed) (said : Content) (rs : Symbols) → Annotations c Place.Top notes rs → Says Place.Top t said
          → h.item ≡ notes ++ t ∷ [] → Comes g l c [] said ts
      comes notes t said rs a says whole = record {
        front = h.front;
        item = [];
        notes = notes;
        token = t;
        values = h.values;
        symbols = rs;
        parts = h.parts ∙ ap (λ x. h.front ++ x) whole;
        pieces = h.pieces;
        open' = none_open;
        noted = a;
        may = tt;
        apart = begins_so (ends_long h.front) notes (t ∷ []) (subst (λ x. (ends_long h.front && begins_as_long x) ≡ false) whole h.apart);
        says = says;
      }

      scalar : (notes : List Placed) (t : Placed) (said : Content) (rs : Symbols) (q : Payload) → Annotations c Place.Top notes rs → Says Place.Top t said
          → IsScalar c said q → q ≡ payloads.Null k → annotated rs q ≡ v → h.item ≡ notes ++ t ∷ [] → Pends g l ts e
      scalar notes t _ rs _ a says is_null n is whole = held_pends c (Word (codes "null")) ts (comes notes t (Word (codes "null")) rs a says whole) refl refl
          (word_apart (codes "null")) (Held.Null Kind.Null) (λ start end. refl) e (refused rs Kind.Null is)
      scalar notes t _ rs _ a says (is_typed_null kind) n is whole =
          held_pends c (TypedNull kind) ts (comes notes t (TypedNull kind) rs a says whole) tt refl (null_apart kind) (Held.Null kind) (λ start end. refl) e
          (refused rs kind is)
      scalar notes t _ rs _ a says is_true e is whole = absurd (other _ e (ap has_null (views.outs-Truth true)))
      scalar notes t _ rs _ a says is_false e is whole = absurd (other _ e (ap has_null (views.outs-Truth false)))
      scalar notes t _ rs _ a says (is_int z) e is whole = absurd (other _ e (ap has_null (views.outs-Int z)))
      scalar notes t _ rs _ a says (is_decimal z) e is whole = absurd (other _ e (ap has_null (views.outs-Decimal z)))
      scalar notes t _ rs _ a says (is_timestamp z) e is whole = absurd (other _ e (ap has_null (views.outs-Timestamp z)))
      scalar notes t _ rs _ a says (is_symbol said s d) e is whole = absurd (other _ e (ap has_null (views.outs-Symbol s)))
      scalar notes t _ rs _ a says (is_operator w) e is whole = absurd (other _ e (ap has_null (views.outs-Symbol (Some w))))
      scalar notes t _ rs _ a says (is_short w) e is whole = absurd (other _ e (ap has_null (views.outs-Str w)))
      scalar notes t _ rs _ a says (is_clob w) e is whole = absurd (other _ e (ap has_null (views.outs-Clob w)))
      scalar notes t _ rs _ a says (is_blob w) e is whole = absurd (other _ e (ap has_null (views.outs-Blob w)))

      plain : (p : Place) (notes us : List Placed) (rs : Symbols) (q : Payload) → p ≡ Place.Top → Annotations c p notes rs → Plain c p us q
          → q ≡ payloads.Null k → annotated rs q ≡ v → h.item ≡ notes ++ us → Pends g l ts e
      plain p notes _ rs _ top a (one_token p' t said q says s) n is whole =
          scalar notes t said rs q (subst (λ x. Annotations c x notes rs) top a) (subst (λ x. Says x t said) top says) s n is whole
      plain p notes us rs _ top a (long_string p' _ w d) e is whole = absurd (other _ e (ap has_null (views.outs-Str w)))
      plain p notes _ rs _ top a (is_list p' open' close body xs more opens items closes) e is whole = absurd (other _ e (ap has_null (views.outs-List xs)))
      plain p notes _ rs _ top a (is_sexp p' open' close body xs opens items closes) e is whole = absurd (other _ e (ap has_null (views.outs-Sexp xs)))
      plain p notes _ rs _ top a (is_struct p' open' close body fs more opens items closes) e is whole = absurd (other _ e (ap has_null (views.outs-Fields fs)))

      value : (p : Place) (us : List Placed) (w : Value) → Means c p us w → p ≡ Place.Top → w ≡ v → us ≡ h.item → Pends g l ts e
      value p _ _ (means p' notes us rs q a d) top is whole = plain p notes us rs q top a d (ap (λ (x : Value). x.payload) is) is (sym whole)
