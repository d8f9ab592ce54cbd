-- With what an open item begins, and with which octets none does.
use Rattle.std.proofs.Common.{◌≡◌, ℕ, ◌+◌, ◌-◌, Bool, true, false, List, [], ◌∷◌, ◌++◌, length, refl, sym, ap, ◌∙◌, subst, arith, Ok, Option, Some, inl, inr, if◌then◌else◌}
use Rattle.std.specs.Prelude.{◌==◌, ◌||◌}
use Rattle.ion_text.specs.Names.{Annotations, BeginsWith, Bracket, Content, Frame, Given, Id, IsBlank, IsBody, IsSymbol, Known, Left, Lexeme, Long, Mark, Mark', Mode, Next, Outcome, Place, Placed, Quoted, Refused, Says, Segments, Slot, Stage, Style, Symbols, TokenKind, TypedNull, Within, Word, acts, before, begins_as_long, end_of, ends_at, feed, follow, is_id, is_idle, is_quoting, is_segment, is_two_quotes, is_word, joined, no_annotation, one_annotation, open_mark, scan as run, segment}
use Rattle.ion_tokens.specs.machine.Table.{go as go_on}
use Rattle.ion_tokens.proofs.complete.Moves.{at, blank}
use Rattle.ion_tokens.proofs.complete.TakesBlanks.{passes_blank}
use Rattle.ion_text.specs.Grammar.{is_quoted}
use Rattle.ion_text.specs.laws.reading.complete.Complete.{body_kind, kind_said, segment_kind}
use Rattle.ion_text.specs.laws.reading.complete.Found.{next_is}
use Rattle.ion_text.specs.laws.reading.complete.Going.{mark_kind}
use Rattle.ion_text.specs.laws.reading.complete.Meets.{LongOn, is_long_text, long_feed}
use Rattle.ion_text.specs.laws.reading.complete.Segments.{long_quoting}
use Rattle.ion_text.specs.laws.reading.complete.Tokens.{two_test}
use Rattle.ion_text.specs.laws.reading.sound.Held.{name_some}
use Rattle.ion_text.specs.laws.reading.sound.StandsOpen.{Around, NowStands, Opened, ReadyFor, symbol_said, value_place}
use Rattle.ion_text.specs.laws.showing.tokens.Cuts.{Is, one_found}

-- 1. The first token of an open item.

-- what may begin an item that is open: a symbol, a segment of a long string, or what opens a container
abbrev pub opens_item : TokenKind → Bool
opens_item TokenKind.Word = true
opens_item TokenKind.KindName = true
opens_item TokenKind.QuotedSymbol = true
opens_item TokenKind.LongString = true
opens_item (TokenKind.Mark Mark.ListOpen) = true
opens_item (TokenKind.Mark Mark.SexpOpen) = true
opens_item (TokenKind.Mark Mark.FieldsOpen) = true
opens_item _ = false

-- the first of the tokens, if there is one, may begin an item that is open
abbrev pub OpensItem : List Placed → Type 0
OpensItem [] = Unit {0}
OpensItem (t ∷ ts) = opens_item t.lexeme.kind ≡ true

opens_more : (ts us : List Placed) → OpensItem ts → OpensItem us → OpensItem (ts ++ us)
opens_more [] us a b = b
opens_more (t ∷ ts) us a b = a

said_opens : (c : Content) → symbol_said c ≡ true → opens_item (kind_said c) ≡ true
said_opens (Word w) e = refl
said_opens (Id id) e = refl
said_opens (TypedNull k) e = refl
said_opens (Quoted w) e = refl
said_opens _ e = absurd cc

-- a token that says a symbol may begin an item that is open
pub symbol_kind : (k : TokenKind) (octets : List ℕ) (c : Content) → IsBody k octets (Ok c) → symbol_said c ≡ true → opens_item k ≡ true
symbol_kind k octets c h e = ap opens_item (body_kind k octets c h) ∙ said_opens c e

is_said : (c : List Slot) (said : Content) (s : Option (List ℕ)) → IsSymbol c said s → symbol_said said ≡ true
is_said c _ _ (is_word w h) = refl
is_said c _ _ (is_id id s h) = refl
is_said c _ _ (is_quoted w) = refl

symbol_first : (p : Place) (t : Placed) (said : Content) → Says p t said → symbol_said said ≡ true → opens_item t.lexeme.kind ≡ true
symbol_first p t said i h = symbol_kind t.lexeme.kind t.lexeme.octets said i.body h

segment_opens : (k : TokenKind) → is_segment k ≡ true → opens_item k ≡ true
segment_opens TokenKind.LongString h = refl
segment_opens _ h = absurd cc

long_first : (p : Place) (t : Placed) (w : List ℕ) → Says p t (Long w) → opens_item t.lexeme.kind ≡ true
long_first p t w i = segment_opens t.lexeme.kind (segment_kind t.lexeme.kind t.lexeme.octets w i.body)

notes_first : (c : List Slot) (p : Place) (ts : List Placed) (ss : Symbols) → Annotations c p ts ss → OpensItem ts
notes_first c p _ _ no_annotation = tt
notes_first c p _ _ (one_annotation ts ss t colons said s d i j k) =
    opens_more ts (t ∷ colons ∷ []) (notes_first c p ts ss d) (symbol_first p t said i (is_said c said s j))

segments_first : (p : Place) (ts : List Placed) (w : List ℕ) → Segments p ts w → OpensItem ts
segments_first p _ _ (segment t w i) = long_first p t w i
segments_first p _ _ (joined ts v w t d i) = opens_more ts (t ∷ []) (segments_first p ts v d) (long_first p t w i)

mark_first : (p : Place) (t : Placed) (m : _) → Says p t (Mark' m) → opens_item (TokenKind.Mark m) ≡ true → opens_item t.lexeme.kind ≡ true
mark_first p t m i h = ap opens_item (mark_kind t.lexeme.kind t.lexeme.octets m i.body) ∙ h

open_first : (bracket : Bracket) → opens_item (TokenKind.Mark (open_mark bracket)) ≡ true
open_first Bracket.List = refl
open_first _ = refl

around_first : (c : List Slot) (fs : List Frame) (ss : Symbols) (ts : List Placed) (bracket : Bracket) (Front Body : List Placed → Type 0)
    → (o : Around c fs ss ts bracket Front Body) → OpensItem o.front → OpensItem ts
around_first c fs ss ts bracket Front Body o h = subst OpensItem (sym o.whole)
    (opens_more o.front _ h (opens_more o.notes (o.open' ∷ o.body) (notes_first c (value_place fs) o.notes ss o.noted)
    (mark_first (value_place fs) o.open' (open_mark bracket) o.opens (open_first bracket))))

opened_first : (c : List Slot) (fs : List Frame) (ts : List Placed) (more : Bool) → Opened c fs ts more → OpensItem ts
opened_first c [] ts more o = subst OpensItem (sym o) tt
opened_first c (Frame.Items listing ss vs ∷ fs) ts more o = around_first c fs ss ts _ _ _ o (opened_first c fs o.front true o.outer)
opened_first c (Frame.Fields ss ms ∷ fs) ts more o = around_first c fs ss ts _ _ _ o (opened_first c fs o.front true o.outer)
opened_first c (Frame.Named ss ms s ∷ fs) ts more o = subst OpensItem (sym o.whole)
    (opens_more o.front _ (opened_first c fs o.front true o.outer)
    (opens_more o.notes (o.open' ∷ (o.body ++ (o.name ++ o.colon ∷ []))) (notes_first c (value_place fs) o.notes ss o.noted)
    (mark_first (value_place fs) o.open' Mark.FieldsOpen o.opens refl)))

ready_first : (c : List Slot) (fs : List Frame) (ss : Symbols) (ts : List Placed) → ReadyFor c fs ss ts → OpensItem ts
ready_first c fs ss ts d = subst OpensItem (sym d.whole)
    (opens_more d.front d.notes (opened_first c fs d.front true d.outer) (notes_first c (value_place fs) d.notes ss d.noted))

-- in a struct something stands before a name
behind_first : (ts us : List Placed) → OpensItem ts → ([] ≡ ts → ⊥) → OpensItem (ts ++ us)
behind_first [] us a n = absurd (n refl)
behind_first (t ∷ ts) us a n = a

-- the tokens that the reader's open item stands for begin with one that may begin it
pub now_first : (c : List Slot) (fs : List Frame) (ss : Symbols) (now : Stage) (ts : List Placed) → NowStands c fs ss ts now → OpensItem ts
now_first c fs ss Stage.Ready ts d = ready_first c fs ss ts d
now_first c fs ss (Stage.Pending h end) ts d = subst OpensItem (sym d.whole)
    (opens_more d.before (d.token ∷ []) (ready_first c fs ss d.before d.ready) (symbol_first (value_place fs) d.token d.said d.says d.named))
now_first c fs ss (Stage.Long w end) ts d = subst OpensItem (sym d.whole)
    (opens_more d.before d.segments (ready_first c fs ss d.before d.ready) (segments_first (value_place fs) d.segments w d.are))
now_first c fs ss Stage.After ts d = opened_first c fs ts false d.0
now_first c fs ss Stage.Name ts d = opened_first c fs ts true d.0
now_first c fs ss _ ts d = subst OpensItem (sym d.whole)
    (behind_first d.before d.name (opened_first c fs d.before true d.outer) (name_some c fs d.before d.outer d.struct))

-- 2. Octets with which a token begins.

-- a run over octets in a long string goes on with it, ends the segment or is refused
pub long_run : (p : Place) (os : List ℕ) (s : Known) → is_long_text s.mode ≡ true → LongOn (run p os s)
long_run p [] s h = h
long_run p (o ∷ os) s h = go (feed p s o) (long_feed p s o h) (λ t i. long_run p os t i)
  where
    go : (x : Outcome) → LongOn x → ((t : Known) → is_long_text t.mode ≡ true → LongOn (run p os t)) → LongOn (follow x (λ t. run p os t))
    go (Next t) h f = f t h
    go (Refused n e) h f = tt
    go _ h f = h

-- `::` behind a blank is no token that has begun
pub colons_never : (p : Place) (now used : ℕ) (token r more : List ℕ) (s : Known) → token ++ r ≡ 58 ∷ 58 ∷ more → run p token (blank true now used) ≡ Next s
    → is_idle s.mode ≡ false → ⊥
colons_never p now used [] r more s e ran i = let n : true ≡ false = ap (λ (x : Known). is_idle x.mode) (next_is _ s ran) ∙ i in cc
colons_never p now used (o ∷ []) r more s e ran i =
    let head : o ≡ 58 = cc in
    let n : true ≡ false = ap (λ (x : Known). is_idle x.mode) (next_is _ s (ap (λ (x : ℕ). run p (x ∷ []) (blank true now used)) (sym head) ∙ ran)) ∙ i in cc
colons_never p now used (o ∷ o' ∷ os) r more s e ran i =
    let head : o ≡ 58 = cc in
    let second : o' ≡ 58 = cc in
    let never = ap (λ (x : ℕ). run p (x ∷ 58 ∷ os) (blank true now used)) (sym head)
    ∙ (ap (λ (x : ℕ). run p (o ∷ x ∷ os) (blank true now used)) (sym second) ∙ ran) in
    absurd (is_given p now used os s never)
  where
    is_given : (p : Place) (now used : ℕ) (os : List ℕ) (s : Known) → run p (58 ∷ 58 ∷ os) (blank true now used) ≡ Next s → ⊥
    is_given p now used os s e = cc

-- `''` behind a blank is no token that has begun without quotes
pub quotes_never : (p : Place) (colon : Bool) (now used : ℕ) (token r more : List ℕ) (s : Known) → token ++ r ≡ 39 ∷ 39 ∷ more
    → run p token (blank colon now used) ≡ Next s → is_idle s.mode ≡ false → is_quoting s.mode ≡ false → ⊥
quotes_never p colon now used [] r more s e ran i q = let n : true ≡ false = ap (λ (x : Known). is_idle x.mode) (next_is _ s ran) ∙ i in cc
quotes_never p colon now used (o ∷ []) r more s e ran i q =
    let head : o ≡ 39 = cc in
    let n : true ≡ false = ap (λ (x : Known). is_quoting x.mode) (next_is _ s (ap (λ (x : ℕ). run p (x ∷ []) (blank colon now used)) (sym head) ∙ ran)) ∙ q in
    cc
quotes_never p colon now used (o ∷ o' ∷ os) r more s e ran i q =
    let head : o ≡ 39 = cc in
    let second : o' ≡ 39 = cc in
    by os (ap (λ (x : ℕ). run p (x ∷ 39 ∷ os) (blank colon now used)) (sym head)
    ∙ (ap (λ (x : ℕ). run p (o ∷ x ∷ os) (blank colon now used)) (sym second) ∙ ran))
  where
    two : Known
    two = at Mode.Quotes [] colon used (used + 1 + 1)

    long : Known
    long = at (Mode.Text Style.LongString Within.Plain) [] colon used (used + 1 + 1 + 1)

    third : (o : ℕ) (os : List ℕ) (b : Bool)
        → follow (acts p two o (if b then go_on (Mode.Text Style.LongString Within.Plain) else before TokenKind.QuotedSymbol)) (λ t. run p os t) ≡ Next s → ⊥
    third o os true f =
        let k = long_quoting s.mode (subst LongOn f (long_run p os long refl)) in
        let n : true ≡ false = sym k ∙ q in cc
    third o os false f = cc

    by : (os : List ℕ) → run p (39 ∷ 39 ∷ os) (blank colon now used) ≡ Next s → ⊥
    by [] f = let n : true ≡ false = ap (λ (x : Known). is_quoting x.mode) (next_is _ s f) ∙ q in cc
    by (o ∷ os) f = third o os (o == 39) f

-- the end of the input ends no long text
long_end : (p : Place) (s : Known) (x : Lexeme) (m : Mode) → is_long_text m ≡ true → ends_at s (end_of p m) ≡ Ok (Some x) → ⊥
long_end p s x (Mode.Text y w) h k = cc
long_end p s x _ h k = absurd cc

-- a token that begins with `''` is a segment, or that symbol
pub quotes_first : (colon : Bool) (k : ℕ) (octets w more : List ℕ) (t : Placed) (r : List ℕ) → BeginsWith colon k octets t r
    → (t.lexeme.kind ≡ TokenKind.Operator → ⊥) → IsBlank w → octets ≡ w ++ 39 ∷ 39 ∷ more → begins_as_long (t ∷ []) ≡ true
quotes_first colon k octets w more t r b plain blanks e = by more (subst (Is t.place t.lexeme) run_is (one_found colon k octets t r b))
  where
    p : Place
    p = t.place

    used : ℕ
    used = k + length w

    x : Lexeme
    x = t.lexeme

    two : Known
    two = at Mode.Quotes [] colon used (used + 1 + 1)

    long : Known
    long = at (Mode.Text Style.LongString Within.Plain) [] colon used (used + 1 + 1 + 1)

    run_is : run p octets (at Mode.Blank [] colon k k) ≡ run p more two
    run_is = ap (λ o. run p o (at Mode.Blank [] colon k k)) e ∙ (passes_blank p colon w blanks k k).1 (39 ∷ 39 ∷ more)

    wide : (y : Lexeme) → y.kind ≡ TokenKind.QuotedSymbol → y.start ≡ used → y.end ≡ used + 2 → y ≡ x → begins_as_long (t ∷ []) ≡ true
    wide y a b d f =
        let kind : x.kind ≡ TokenKind.QuotedSymbol = sym (ap (λ (z : Lexeme). z.kind) f) ∙ a in
        let span : x.end ≡ x.start + 2 = omega (arith, b, d, ap (λ (z : Lexeme). z.start) f, ap (λ (z : Lexeme). z.end) f) in
        ap (λ z. is_segment z || is_two_quotes z x.start x.end) kind ∙ two_test x.start x.end span

    segment_is : is_segment x.kind ≡ true → begins_as_long (t ∷ []) ≡ true
    segment_is h = ap (λ z. z || is_two_quotes x.kind x.start x.end) h

    found_long : (o : Outcome) → LongOn o → Is p x o → begins_as_long (t ∷ []) ≡ true
    found_long (Given y s) h i = segment_is (ap (λ (z : Lexeme). is_segment z.kind) (sym i) ∙ h)
    found_long (Left y s) h i = absurd h
    found_long (Next s) h (inl i) = absurd (long_end p s x s.mode h i)
    found_long (Next s) h (inr i) = absurd (plain i.1)
    found_long (Refused n f) h i = absurd i

    third : (o : ℕ) (os : List ℕ) (b : Bool)
        → Is p x (follow (acts p two o (if b then go_on (Mode.Text Style.LongString Within.Plain) else before TokenKind.QuotedSymbol)) (λ t. run p os t))
        → begins_as_long (t ∷ []) ≡ true
    third o os true i = found_long (run p os long) (long_run p os long refl) i
    third o os false i = wide (record { start = used; end = used + 1 + 1 - 0; kind = TokenKind.QuotedSymbol; octets = [] }) refl refl (omega arith) i

    by : (more : List ℕ) → Is p x (run p more two) → begins_as_long (t ∷ []) ≡ true
    by [] (inl i) = wide (record { start = used; end = used + 1 + 1; kind = TokenKind.QuotedSymbol; octets = [] }) refl refl (omega arith) (cc)
    by [] (inr i) = absurd (plain i.1)
    by (o ∷ os) i = third o os (o == 39) i
