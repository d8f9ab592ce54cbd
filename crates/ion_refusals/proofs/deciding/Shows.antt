-- What octets show of a token that ends with the last of them, or before it.
use Rattle.std.proofs.Common.{◌≡◌, ℕ, zero, suc, ◌+◌, List, [], ◌∷◌, ◌++◌, length, take, Bool, true, false, ◌||◌, Ok, refl, sym, ap, ◌∙◌, subst, append-nil, length-append, arith, ◌⊎◌, inl, inr, codes}
use Rattle.ion_refusals.specs.Names.{Are, AwaitsColons, BeginsWith, BlankThen, Content, Continues, Given, Id, IsBody, IsLexeme, Known, Left, Lexeme, LexesTo, Mark, Mark', Mode, Next, NoColons, Place, Placed, Scanned, Sight, TokenKind, TypedNull, Word, by_octet, colon_behind, end_of, feed, is_closing, is_idle, is_keyword, is_sane, is_version, scan as run, symbol_waits}
use Rattle.ion_tokens.specs.Lexed.{Passes}
use Rattle.ion_tokens.proofs.complete.Moves.{at}
use Rattle.ion_tokens.proofs.runs.Scans.{placed}
use Rattle.ion_tokens.proofs.sound.Holds.{InMode, IsTold, Sound}
use Rattle.ion_tokens.proofs.sound.Sounds.{feed_sound}
use Rattle.ion_text.specs.laws.reading.complete.Complete.{body_kind, kind_said}
use Rattle.ion_text.specs.laws.reading.complete.Going.{mark_kind}
use Rattle.ion_text.specs.laws.reading.complete.Meets.{IdleLeft, end_spans, follows_as, idle_left}
use Rattle.ion_text.specs.laws.reading.complete.Segments.{never}
use Rattle.ion_text.specs.laws.reading.sound.Admits.{at_end_fine}
use Rattle.ion_text.specs.laws.showing.refused.Ahead.{octet_colons}
use Rattle.ion_text.specs.laws.showing.refused.Halts.{symbol_colons}
use Rattle.ion_text.specs.laws.showing.tokens.Closing.{colons_close}
use Rattle.ion_text.specs.laws.showing.tokens.Cuts.{Is, OpenBehind, behind_tokens, one_found}
use Rattle.ion_tokens.proofs.sound.SoundHistories.{lexes_more}

-- whether a colon may stand behind the last of them
pub last_flag : (ts : List Placed) (t : Placed) (colon : Bool) (before : ℕ) (octets : List ℕ) (after : Bool) (end : ℕ) (rest : List ℕ)
    → LexesTo colon before octets (ts ++ t ∷ []) after end rest → colon_behind t ≡ after
last_flag [] t colon before octets after end rest (q, b, h) = h.0
last_flag (x ∷ ts) t colon before octets after end rest (q, b, h) = last_flag ts t (colon_behind x) x.lexeme.end q after end rest h

-- tokens whose end the octet directly behind them shows
abbrev pub IsBare : TokenKind → Type 0
IsBare TokenKind.Word = Unit {0}
IsBare TokenKind.KindName = Unit {0}
IsBare (TokenKind.Mark Mark.FieldsOpen) = Unit {0}
IsBare _ = ⊥

-- the first octet behind them shows it
shorter : (p : Place) (colon : Bool) (w : List ℕ) (a : ℕ) (as' r : List ℕ) (k : TokenKind) (kept : List ℕ) → IsBare k
    → IsLexeme p colon w (a ∷ (as' ++ r)) k kept → IsLexeme p colon w (a ∷ as') k kept
shorter p colon w a as' r TokenKind.Word kept b h = h
shorter p colon w a as' r TokenKind.KindName kept b h = h
shorter p colon w a as' r (TokenKind.Mark Mark.FieldsOpen) kept b h = h
shorter p colon w a as' r _ kept b h = absurd b

-- what such a token says
abbrev pub BareSaid : Content → Type 0
BareSaid (Word w) = Unit {0}
BareSaid (Id id) = Unit {0}
BareSaid (TypedNull k) = Unit {0}
BareSaid (Mark' Mark.FieldsOpen) = Unit {0}
BareSaid _ = ⊥

kind_bare : (c : Content) → BareSaid c → IsBare (kind_said c)
kind_bare (Word w) h = tt
kind_bare (Id id) h = tt
kind_bare (TypedNull k) h = tt
kind_bare (Mark' Mark.FieldsOpen) h = tt
kind_bare _ h = absurd h

-- what says a word, an id, a typed null or the `{` of a struct is a token that the octet behind it shows
pub said_bare : (k : TokenKind) (octets : List ℕ) (c : Content) → IsBody k octets (Ok c) → BareSaid c → IsBare k
said_bare k octets c b h = subst IsBare (sym (body_kind k octets c b)) (kind_bare c h)

-- what says a keyword, a version, an id or a typed null, of which alone the end decides
abbrev pub EndSaid : Content → Type 0
EndSaid (Word w) = (is_keyword w || is_version w) ≡ true
EndSaid (Id id) = Unit {0}
EndSaid (TypedNull k) = Unit {0}
EndSaid _ = ⊥

pub end_bare : (c : Content) → EndSaid c → BareSaid c
end_bare (Word w) h = tt
end_bare (Id id) h = tt
end_bare (TypedNull k) h = tt
end_bare _ h = absurd h

-- the token isn't the word that letters of `inf` behind a sign are
abbrev pub NoLetters : Lexeme → Type 0
NoLetters x = (n : ℕ) → x.kind ≡ TokenKind.Word → x.octets ≡ take n (codes "inf") → ⊥

pub no_letters : (x : Lexeme) (c : Content) → IsBody x.kind x.octets (Ok c) → EndSaid c → NoLetters x
no_letters x c b h n kind letters =
    go n (subst (λ y. IsBody TokenKind.Word y (Ok c)) letters (subst (λ k. IsBody k x.octets (Ok c)) kind b))
  where
    other : (w : List ℕ) → c ≡ Word w → (is_keyword w || is_version w) ≡ false → ⊥
    other w e f = never (is_keyword w || is_version w) f (subst EndSaid e h)

    go : (n : ℕ) → IsBody TokenKind.Word (take n (codes "inf")) (Ok c) → ⊥
    go zero b = other [] b.0 refl
    go (suc zero) b = other (codes "i") b.0 refl
    go (suc (suc zero)) b = other (codes "in") b.0 refl
    go (suc (suc (suc zero))) b = other (codes "inf") b.0 refl
    go (suc (suc (suc (suc n)))) b = other (codes "inf") b.0 refl

-- `::` would have been told
colons_told : (p : Place) (k : ℕ) (since : List ℕ) (s : Known) → is_idle s.mode ≡ true → run p since (at Mode.Blank [] true k k) ≡ Next s
    → BlankThen (codes "::") since → ⊥
colons_told p k since s idle ran (w, more, is, e) = by (subst (Is p x) ran (one_found true k since (placed p x) more token))
  where
    x : Lexeme
    x = record { start = k + length w; end = (k + length w) + 2; kind = TokenKind.Mark Mark.Colons; octets = [] }

    token : BeginsWith true k since (placed p x) more
    token = record { blank = w; token = codes "::"; is_blank = is; cut = e; start = refl; end = refl; is = (refl, refl, refl, tt) }

    by : Is p x (Next s) → ⊥
    by (inl e) = go ((at_end_fine p s x e).4 idle)
      where
        go : (x.kind ≡ TokenKind.Mark Mark.Colon) ⊎ (x.kind ≡ TokenKind.Operator) → ⊥
        go (inl y) = cc
        go (inr y) = cc
    by (inr e) = let n : x.kind ≡ TokenKind.Operator = e.1 in cc

module _ (p : Place) (s : Known) (u : List ℕ) (ts : List Placed) (ahead : List ℕ) (h : Scanned p s u ts ahead) (o : ℕ) (next : Continues (o ∷ []) ahead) where
  -- the tokens that a scanner was told of, and what is open behind them, before the octet
  abbrev pub k : OpenBehind p s u ts ahead
  k = behind_tokens p s u ts ahead h

  all : LexesTo false 0 (u ++ o ∷ []) ts k.colon k.end (k.since ++ o ∷ [])
  all = k.lexes (o ∷ []) next

  -- behind a symbol at the top level an octet shows that no `::` follows
  pub no_colons : p ≡ Place.Top → k.colon ≡ true → is_idle s.mode ≡ true → is_sane s.mode ≡ true → symbol_waits (feed p s o) ≡ false
      → NoColons (u ++ o ∷ []) ts
  no_colons top colon idle sane shut =
      let mode : InMode Place.Top true k.end s.mode s.kept s.start k.since =
      subst (λ c. InMode Place.Top c k.end s.mode s.kept s.start k.since) colon
      (subst (λ q. InMode q k.colon k.end s.mode s.kept s.start k.since) top k.holds.mode) in
      let close = colons_close k.end s.kept s.start s.used k.since s.mode idle mode in
      record {
        rest = k.since;
        o = o;
        are = (k.colon, k.end, all);
        before = (close.octets, close.shows);
        after = octet_colons p k.end k.since s o sane (subst (λ c. run p k.since (at Mode.Blank [] c k.end k.end) ≡ Next s) colon k.reached)
            (symbol_colons (feed p s o) shut);
      }

  -- behind one `::` may follow
  pub awaits_colons : p ≡ Place.Top → k.colon ≡ true → is_idle s.mode ≡ true → ahead ≡ [] → AwaitsColons u ts
  awaits_colons top colon idle none =
      let mode : InMode Place.Top true k.end s.mode s.kept s.start k.since =
      subst (λ c. InMode Place.Top c k.end s.mode s.kept s.start k.since) colon
      (subst (λ q. InMode q k.colon k.end s.mode s.kept s.start k.since) top k.holds.mode) in
      let close = colons_close k.end s.kept s.start s.used k.since s.mode idle mode in
      let here : LexesTo false 0 (u ++ []) ts k.colon k.end (k.since ++ []) = k.lexes [] ([], sym (append-nil ahead ∙ none)) in
      record {
        rest = k.since;
        are = (
          k.colon,
          k.end,
          subst (λ x. LexesTo false 0 x ts k.colon k.end k.since) (append-nil u)
              (subst (λ x. LexesTo false 0 (u ++ []) ts k.colon k.end x) (append-nil k.since) here),
        );
        before = (close.octets, close.shows);
        after = colons_told p k.end k.since s idle (subst (λ c. run p k.since (at Mode.Blank [] c k.end k.end) ≡ Next s) colon k.reached);
      }

  -- where a colon may stand behind the last token, it may behind all of them
  pub flag : (us : List Placed) (t : Placed) → ts ≡ us ++ t ∷ [] → colon_behind t ≡ true → k.colon ≡ true
  flag us t e c = sym (last_flag us t false 0 (u ++ o ∷ []) k.colon k.end (k.since ++ o ∷ [])
      (subst (λ x. LexesTo false 0 (u ++ o ∷ []) x k.colon k.end (k.since ++ o ∷ [])) e all)) ∙ c

  module _ (x : Lexeme) (s' : Known) (pass : Passes x.kind x.octets) where
    -- 1. A token that ends with the octet.

    told : feed p s o ≡ Given x s' → IsTold p k.colon k.end (k.since ++ o ∷ []) [] [] x s'
    told e = subst (λ y. Sound p k.colon k.end k.since o y) e (feed_sound p k.colon k.end s k.since o k.holds)

    pub given_ends : feed p s o ≡ Given x s' → Are (u ++ o ∷ []) (ts ++ placed p x ∷ []) []
    given_ends e =
        let i = told e in (
          colon_behind (placed p x),
          x.end,
          lexes_more ts false 0 (u ++ o ∷ []) k.colon k.end (k.since ++ o ∷ []) (placed p x) [] all
              (record { blank = i.front; token = i.token; is_blank = i.blank; cut = i.cut; start = i.start; end = i.end; is = i.found [] pass }),
        )

    -- Its end isn't shown by the octet behind it.
    pub given_bare : feed p s o ≡ Given x s' → IsBare x.kind → ⊥
    given_bare e b = go x.kind refl b
      where
        i : IsTold p k.colon k.end (k.since ++ o ∷ []) [] [] x s'
        i = told e

        more : (n : ℕ) (kind : TokenKind) → x.kind ≡ kind → IsLexeme p k.colon i.token (n ∷ []) kind x.octets
        more n kind f = subst (λ y. IsLexeme p k.colon i.token (n ∷ []) y x.octets) f (i.found (n ∷ []) pass)

        go : (kind : TokenKind) → x.kind ≡ kind → IsBare kind → ⊥
        go TokenKind.Word f b = let w = more 97 TokenKind.Word f in let n : true ≡ false = w.2 in cc
        go TokenKind.KindName f b = let w = more 97 TokenKind.KindName f in let n : true ≡ false = w.2 in cc
        go (TokenKind.Mark Mark.FieldsOpen) f b = let w = more 123 (TokenKind.Mark Mark.FieldsOpen) f in let n : true ≡ false = w.3 in cc
        go _ f b = absurd b

    -- 2. One that ended before the octet.

    left_told : feed p s o ≡ Left x s' → (over : List ℕ) × IsTold p k.colon k.end k.since over (o ∷ []) x s'
    left_told e = subst (λ y. Sound p k.colon k.end k.since o y) e (feed_sound p k.colon k.end s k.since o k.holds)

    -- directly before it
    none_over : IsBare x.kind → (over : List ℕ) → IsTold p k.colon k.end k.since over (o ∷ []) x s' → over ≡ []
    none_over b [] i = refl
    none_over b (a ∷ as') i =
        absurd (by (subst (Is p x) k.reached (one_found k.colon k.end k.since (placed p x) (a ∷ as')
        (record {
          blank = i.front;
          token = i.token;
          is_blank = i.blank;
          cut = i.cut;
          start = i.start;
          end = i.end;
          is =
              shorter p k.colon i.token a as' (o ∷ []) x.kind x.octets b (i.found [] pass);
        }))))
      where
        by : Is p x (Next s) → ⊥
        by (inl e) = omega (
          arith,
          (end_spans s (end_of p s.mode) x e).1,
          i.end,
          k.holds.used,
          ap length i.cut,
          length-append (i.front ++ i.token) (a ∷ as'),
          length-append i.front i.token,
        )
        by (inr e) = subst IsBare e.1 b

    pub left_ends : feed p s o ≡ Left x s' → IsBare x.kind → (z : ℕ) × Are (u ++ o ∷ []) (ts ++ placed p x ∷ []) (z ∷ [])
    left_ends e b =
        let d = left_told e in
        let i : IsTold p k.colon k.end k.since [] (o ∷ []) x s' = subst (λ a. IsTold p k.colon k.end k.since a (o ∷ []) x s') (none_over b d.0 d.1) d.1 in (
          o,
          (
            colon_behind (placed p x),
            x.end,
            lexes_more ts false 0 (u ++ o ∷ []) k.colon k.end (k.since ++ o ∷ []) (placed p x) (o ∷ []) all
                (record {
                  blank = i.front;
                  token = i.token;
                  is_blank = i.blank;
                  cut = ap (λ y. y ++ o ∷ []) (i.cut ∙ append-nil (i.front ++ i.token));
                  start =
                      i.start;
                  end = i.end;
                  is = i.found [] pass;
                }),
          ),
        )

    -- No mark but `{` and a colon is left.
    pub left_mark : is_sane s.mode ≡ true → feed p s o ≡ Left x s' → is_closing x.kind ≡ true → x.kind ≡ TokenKind.Mark Mark.Colon ⊎ (x.kind ≡ TokenKind.Operator)
    left_mark sane e c = go (is_idle s.mode) refl
      where
        by : IdleLeft p s.used (Left x s') → x.kind ≡ TokenKind.Mark Mark.Colon ⊎ (x.kind ≡ TokenKind.Operator)
        by (inl y) = inl y.0
        by (inr y) = inr y.0

        go : (b : Bool) → is_idle s.mode ≡ b → x.kind ≡ TokenKind.Mark Mark.Colon ⊎ (x.kind ≡ TokenKind.Operator)
        go true i = by (subst (IdleLeft p s.used) e (idle_left p s o i))
        go false i = absurd (never (is_closing x.kind) ((follows_as p s o (Left x s') sane e).1 i) c)

-- 3. What is shown of a token that says this.

abbrev pub MarkShown : Sight → List Placed → Mark → Type 0
MarkShown sight ts Mark.FieldsOpen = sight.struct ts
MarkShown sight ts Mark.Comma = Unit {0}
MarkShown sight ts Mark.Colon = Unit {0}
MarkShown sight ts _ = sight.mark ts

-- what is seen of a token that says this: a word, a struct's `{` or another mark, and nothing of others
abbrev pub Shown : Sight → List Placed → Content → Type 0
Shown sight ts (Word v) = sight.word ts
Shown sight ts (Id id) = sight.word ts
Shown sight ts (TypedNull k) = sight.word ts
Shown sight ts (Mark' m) = MarkShown sight ts m
Shown sight ts _ = Unit {0}

-- It is seen where it is of a word, of a struct's `{`, and of another mark but a comma and a colon.
pub shown_by : (sight : Sight) (ts : List Placed) (c : Content) → (BareSaid c → sight.word ts) → (c ≡ Mark' Mark.FieldsOpen → sight.struct ts)
    → ((m : Mark) → c ≡ Mark' m → is_closing (TokenKind.Mark m) ≡ true → (m ≡ Mark.Colon → ⊥) → sight.mark ts) → Shown sight ts c
shown_by sight ts (Word v) word struct mark = word tt
shown_by sight ts (Id id) word struct mark = word tt
shown_by sight ts (TypedNull k) word struct mark = word tt
shown_by sight ts (Mark' Mark.FieldsOpen) word struct mark = struct refl
shown_by sight ts (Mark' Mark.Comma) word struct mark = tt
shown_by sight ts (Mark' Mark.Colon) word struct mark = tt
shown_by sight ts (Mark' m) word struct mark = mark m refl refl (λ q. cc)
shown_by sight ts _ word struct mark = tt

-- a mark that is no colon is neither a colon nor an operator
pub neither : (m : Mark) (k : TokenKind) → k ≡ TokenKind.Mark m → (m ≡ Mark.Colon → ⊥) → (k ≡ TokenKind.Mark Mark.Colon) ⊎ (k ≡ TokenKind.Operator) → ⊥
neither m k e n (inl y) = n (let q : TokenKind.Mark m ≡ TokenKind.Mark Mark.Colon = sym e ∙ y in let q' : m ≡ Mark.Colon = cc in q')
neither m k e n (inr y) = absurd (let q : TokenKind.Mark m ≡ TokenKind.Operator = sym e ∙ y in cc)

module _ (p : Place) (s : Known) (u : List ℕ) (ts : List Placed) (ahead : List ℕ) (h : Scanned p s u ts ahead) (o : ℕ) (next : Continues (o ∷ []) ahead)
    (x : Lexeme) (s' : Known) (pass : Passes x.kind x.octets) (c : Content) (body : IsBody x.kind x.octets (Ok c)) where
  -- of a token that ends with the octet, this octet shows what is to be seen
  pub given_shown : feed p s o ≡ Given x s' → Shown (by_octet (u ++ o ∷ [])) (ts ++ placed p x ∷ []) c
  given_shown e =
      shown_by (by_octet (u ++ o ∷ [])) (ts ++ placed p x ∷ []) c (λ b. absurd (bare b)) (λ f. absurd (bare (subst BareSaid (sym f) tt)))
      (λ m f i n. given_ends p s u ts ahead h o next x s' pass e)
    where
      bare : BareSaid c → ⊥
      bare b = given_bare p s u ts ahead h o next x s' pass e (said_bare x.kind x.octets c body b)

  -- of a token that ended before the octet, this octet shows what is to be seen
  pub left_shown : is_sane s.mode ≡ true → feed p s o ≡ Left x s' → Shown (by_octet (u ++ o ∷ [])) (ts ++ placed p x ∷ []) c
  left_shown sane e = shown_by (by_octet (u ++ o ∷ [])) (ts ++ placed p x ∷ []) c ends (λ f. ends (subst BareSaid (sym f) tt)) closing
    where
      ends : BareSaid c → (z : ℕ) × Are (u ++ o ∷ []) (ts ++ placed p x ∷ []) (z ∷ [])
      ends b = left_ends p s u ts ahead h o next x s' pass e (said_bare x.kind x.octets c body b)

      closing : (m : Mark) → c ≡ Mark' m → is_closing (TokenKind.Mark m) ≡ true → (m ≡ Mark.Colon → ⊥) → Are (u ++ o ∷ []) (ts ++ placed p x ∷ []) []
      closing m f i n =
          let kind : x.kind ≡ TokenKind.Mark m = mark_kind x.kind x.octets m (subst (λ y. IsBody x.kind x.octets (Ok y)) f body) in
          absurd (neither m x.kind kind n (left_mark p s u ts ahead h o next x s' pass sane e (ap is_closing kind ∙ i)))
