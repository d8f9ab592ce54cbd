-- What the scanner meets in octets with the end of a line behind them it meets in the octets, and the last token at their end.
use Rattle.std.proofs.Common.{◌≡◌, ℕ, ◌-◌, ◌<◌, ◌==◌, Bool, true, false, ◌&&◌, ◌||◌, not, List, [], ◌∷◌, ◌++◌, length, take, Ok, Option, Some, None, refl, sym, ap, ◌∙◌, subst, length-append, arith, codes}
use Rattle.std.proofs.lemmas.Bool.{cond_both}
use Rattle.std.proofs.lemmas.List.{append_cancel_right}
use Rattle.std.specs.Str.{bytes_eq}
use Rattle.ion_refusals.specs.Names.{Action, Known, LeavesIn, Left, LeftIn, Lexeme, Mark, Mode, Next, Outcome, Place, Placed, TokenKind, acts, at_end, blob_ends, blob_of, cut, end_of, ends_at, feed, line_feed, past}
use Rattle.ion_tokens.specs.machine.Table.{next}
use Rattle.ion_tokens.specs.laws.Again.{feed_leaves, word_leaves}
use Rattle.ion_tokens.specs.laws.ByRows.{by_rows_where}
use Rattle.ion_refusals.proofs.deciding.Finding.{EndsThere, ends_there}
use Rattle.ion_refusals.proofs.deciding.Fronts.{last_behind, last_of}
use Rattle.ion_refusals.proofs.deciding.Lines.{line}
use Rattle.ion_refusals.proofs.deciding.Reaching.{Sees, last_ends, last_given, last_left, rests, sees_given, sees_left, sees_on, sees_some}
use Rattle.ion_refusals.proofs.deciding.Shows.{IsBare, NoLetters}
use Rattle.ion_text.specs.laws.reading.complete.Segments.{never}

-- 1. What the scanner's table has for the end of a line.

-- a word, the name of a kind or one `{` has begun
abbrev is_bare : Mode → Bool
is_bare Mode.Word = true
is_bare Mode.KindName = true
is_bare Mode.Brace = true
is_bare _ = false

-- none of these is left
abbrev leaves_other : Action → Bool
leaves_other (Action.Before TokenKind.Word k m) = false
leaves_other (Action.Before TokenKind.KindName k m) = false
leaves_other (Action.Before (TokenKind.Mark Mark.FieldsOpen) k m) = false
leaves_other Action.EndWord = false
leaves_other _ = true

abbrev LeavesOther : Outcome → Type 0
LeavesOther (Left x t) = IsBare x.kind → ⊥
LeavesOther _ = Unit {0}

blob_other : (s : Known) (b : Option (List ℕ)) → LeavesOther (blob_ends s b)
blob_other s (Some b) = tt
blob_other s None = tt

acts_other : (p : Place) (s : Known) (o : ℕ) (a : Action) → leaves_other a ≡ true → LeavesOther (acts p s o a)
acts_other p s o (Action.Before TokenKind.Word k m) h = absurd cc
acts_other p s o (Action.Before TokenKind.KindName k m) h = absurd cc
acts_other p s o (Action.Before (TokenKind.Mark Mark.FieldsOpen) k m) h = absurd cc
acts_other p s o (Action.Before _ k m) h = λ b. b
acts_other p s o (Action.Split n) h = λ b. b
acts_other p s o Action.EndWord h = absurd cc
acts_other p s o Action.EndBlob h = blob_other s (blob_of s.kept)
acts_other p s o _ h = tt

other_left : (p : Place) (s : Known) (o : ℕ) → not (is_bare s.mode) ≡ true → LeavesOther (feed p s o)
other_left p s o h = acts_other p s o (next p s.colon s.mode o)
    (by_rows_where (λ m. not (is_bare m)) (λ sexp m. leaves_other) (λ c t. refl) p s.colon s.mode o h)

-- A token that is left before the end of a line, and that the octet behind it shows, is one that the end of the octets ends.
pub line_ends : (p : Place) (s t : Known) (x : Lexeme) → feed p s line_feed ≡ Left x t → IsBare x.kind → at_end p s ≡ Ok (Some x)
line_ends p s t x f b = go s.mode refl
  where
    fed : (m : Mode) → s.mode ≡ m → acts p s line_feed (next p s.colon m line_feed) ≡ Left x t
    fed m e = sym (ap (λ n. acts p s line_feed (next p s.colon n line_feed)) e) ∙ f

    ended : (m : Mode) → s.mode ≡ m → (y : Lexeme) → ends_at s (end_of p m) ≡ Ok (Some y) → y ≡ x → at_end p s ≡ Ok (Some x)
    ended m e y i j = ap (λ n. ends_at s (end_of p n)) e ∙ (i ∙ ap (λ z. Ok (Some z)) j)

    whole : s.used - 0 ≡ s.used
    whole = omega arith

    go : (m : Mode) → s.mode ≡ m → at_end p s ≡ Ok (Some x)
    go Mode.Word e =
        let h : Left (cut s TokenKind.Word s.kept s.used) (past p TokenKind.Word Mode.Blank [] s.used s.used) ≡ Left x t = fed Mode.Word e in
        ended Mode.Word e (cut s TokenKind.Word s.kept s.used) refl cc
    go Mode.KindName e =
        let h : Left (cut s TokenKind.KindName s.kept (s.used - 0)) (past p TokenKind.KindName Mode.Blank [] (s.used - 0) s.used) ≡ Left x t = fed Mode.KindName e in
        ended Mode.KindName e (cut s TokenKind.KindName s.kept s.used) refl (ap (cut s TokenKind.KindName s.kept) (sym whole) ∙ cc)
    go Mode.Brace e =
        let brace = TokenKind.Mark Mark.FieldsOpen in
        let h : Left (cut s brace s.kept (s.used - 0)) (past p brace Mode.Blank [] (s.used - 0) s.used) ≡ Left x t = fed Mode.Brace e in
        ended Mode.Brace e (cut s brace s.kept s.used) refl (ap (cut s brace s.kept) (sym whole) ∙ cc)
    go _ e = absurd (subst LeavesOther f (other_left p s line_feed (ap (λ m. not (is_bare m)) e)) b)

-- no word begins where a token is left
abbrev begins_none : Action → Bool
begins_none (Action.Before kind k Mode.Word) = false
begins_none _ = true

-- but that of the letters of `inf`
abbrev LeavesLetters : Outcome → Type 0
LeavesLetters (Left x t) = t.mode ≡ Mode.Word → (n : ℕ) × (t.kept ≡ take n (codes "inf"))
LeavesLetters _ = Unit {0}

blob_letters : (s : Known) (b : Option (List ℕ)) → LeavesLetters (blob_ends s b)
blob_letters s (Some b) = tt
blob_letters s None = tt

acts_letters : (p : Place) (s : Known) (o : ℕ) (a : Action) → begins_none a ≡ true → LeavesLetters (acts p s o a)
acts_letters p s o (Action.Before kind k m) h = λ e. absurd (never (begins_none (Action.Before kind k m)) (ap (λ n. begins_none (Action.Before kind k n)) e) h)
acts_letters p s o (Action.Split n) h = λ e. (n, refl)
acts_letters p s o Action.EndBlob h = blob_letters s (blob_of s.kept)
acts_letters p s o Action.EndWord h = cond_both ((o == 46) && bytes_eq s.kept (codes "null")) _ _ LeavesLetters (λ i. tt) (λ i e. absurd cc)
acts_letters p s o _ h = tt

letters_left : (p : Place) (s : Known) (o : ℕ) → LeavesLetters (feed p s o)
letters_left p s o = acts_letters p s o (next p s.colon s.mode o)
    (by_rows_where (λ m. true) (λ sexp m. begins_none) (λ c t. refl) p s.colon s.mode o refl)

abbrev IsNext : Outcome → Type 0
IsNext (Next s) = Unit {0}
IsNext _ = ⊥

blank_next : (p : Place) (s : Known) (o : ℕ) → o ≡ line_feed → s.mode ≡ Mode.Blank → IsNext (feed p s o)
blank_next p s o e m =
    subst (λ y. IsNext (feed p s y)) (sym e) (subst (λ n. IsNext (acts p s line_feed (next p s.colon n line_feed))) (sym m) tt)

-- the word is left
abbrev LeavesWord : List ℕ → Outcome → Type 0
LeavesWord letters (Left x s) = (x.kind ≡ TokenKind.Word) × (x.octets ≡ letters)
LeavesWord letters _ = ⊥

word_left : (p : Place) (s : Known) (o : ℕ) → o ≡ line_feed → s.mode ≡ Mode.Word → LeavesWord s.kept (feed p s o)
word_left p s o e m =
    subst (λ y. LeavesWord s.kept (feed p s y)) (sym e)
    (subst (λ n. LeavesWord s.kept (acts p s line_feed (next p s.colon n line_feed))) (sym m) (refl, refl))

-- 2. Tokens in octets with the end of a line behind them.

module _ (Rest : Known → List ℕ → Type 0) (last : Placed) (bare : IsBare last.lexeme.kind) (letters : NoLetters last.lexeme) where
  -- what was asked for is so in the octets before the end of a line
  abbrev pub Lined : Known → List ℕ → Type 0
  Lined s os = (xs : List ℕ) × (os ≡ xs ++ line) × Rest s xs

  -- the last of tokens is that one
  abbrev IsLastOf : List Placed → Type 0
  IsLastOf [] = Unit {0}
  IsLastOf (t ∷ ts) = last_of t ts ≡ last

  is_last : (front : List Placed) → IsLastOf (front ++ last ∷ [])
  is_last [] = refl
  is_last (t ∷ front) = last_behind front last [] t

  behind : (t : Placed) (ts : List Placed) → IsLastOf (t ∷ ts) → IsLastOf ts
  behind t [] h = tt
  behind t (x ∷ xs) h = h

  abbrev L : Known → List ℕ → List Placed → Type 0
  L = Sees (Unit {0}) ⊥ Lined

  lined_some : (s : Known) (os : List ℕ) → Lined s os → 0 < length os
  lined_some s os (xs, e, w) = omega (arith, ap length e, length-append xs line)

  some : (s : Known) (os : List ℕ) (ts : List Placed) → L s os ts → 0 < length os
  some = sees_some (Unit {0}) Lined lined_some

  here : (o : ℕ) (os : List ℕ) → o ∷ os ≡ line → o ≡ line_feed
  here o os e = cc

  none_behind : (s : Known) (o : ℕ) (os : List ℕ) (ts : List Placed) → L s os ts → o ∷ os ≡ line → ⊥
  none_behind s o os ts m e = omega (arith, ap length e, some s os ts m)

  -- in a blank none is met
  blank_meets : (s : Known) (os : List ℕ) (x : Placed) (xs : List Placed) → L s os (x ∷ xs) → os ≡ line → s.mode ≡ Mode.Blank → ⊥
  blank_meets _ _ _ _ (last_given s o t s' b f) e m = subst IsNext f (blank_next t.place s o (here o [] e) m)
  blank_meets _ _ _ _ (last_left s o t s' b f) e m = subst IsNext f (blank_next t.place s o (here o [] e) m)
  blank_meets _ _ _ _ (last_ends s t b i f) e m = b
  blank_meets _ _ _ _ (sees_on s o os t ts s' f w) e m = none_behind s' o os (t ∷ ts) w e
  blank_meets _ _ _ _ (sees_given s o os t ts s' f w) e m = none_behind s' o os ts w e
  blank_meets _ _ _ _ (sees_left s o os t ts s' f w) e m = subst IsNext f (blank_next t.place s o (here o os e) m)

  -- the last token isn't a word of letters of `inf`
  no_word : (s : Known) (o : ℕ) (os : List ℕ) (t : Placed) (s' : Known) → feed t.place s o ≡ Left t.lexeme s' → o ∷ os ≡ line → s.mode ≡ Mode.Word
      → (n : ℕ) × (s.kept ≡ take n (codes "inf")) → t ≡ last → ⊥
  no_word s o os t s' f e m n is =
      let w = subst (LeavesWord s.kept) f (word_left t.place s o (here o os e) m) in
      letters n.0 (ap (λ (y : Placed). y.lexeme.kind) (sym is) ∙ w.0) (ap (λ (y : Placed). y.lexeme.octets) (sym is) ∙ (w.1 ∙ n.1))

  word_meets : (s : Known) (os : List ℕ) (x : Placed) (xs : List Placed) → L s os (x ∷ xs) → os ≡ line → s.mode ≡ Mode.Word
      → (n : ℕ) × (s.kept ≡ take n (codes "inf")) → IsLastOf (x ∷ xs) → ⊥
  word_meets _ _ _ _ (last_given s o t s' b f) e m n is = subst (LeavesWord s.kept) f (word_left t.place s o (here o [] e) m)
  word_meets _ _ _ _ (last_left s o t s' b f) e m n is = no_word s o [] t s' f e m n is
  word_meets _ _ _ _ (last_ends s t b i f) e m n is = b
  word_meets _ _ _ _ (sees_on s o os t ts s' f w) e m n is = none_behind s' o os (t ∷ ts) w e
  word_meets _ _ _ _ (sees_given s o os t ts s' f w) e m n is = none_behind s' o os ts w e
  word_meets _ _ _ _ (sees_left s o os t [] s' f w) e m n is = no_word s o os t s' f e m n is
  word_meets _ _ _ _ (sees_left s o os t (x ∷ xs) s' f w) e m n is = blank_meets s' (o ∷ os) x xs w e (word_leaves t.place s s' o t.lexeme m f)

  -- behind a token that the end of the line shows no other stands
  left_meets : (s : Known) (o : ℕ) (os : List ℕ) (t : Placed) (s' : Known) (x : Placed) (xs : List Placed) → feed t.place s o ≡ Left t.lexeme s'
      → L s' (o ∷ os) (x ∷ xs) → o ∷ os ≡ line → IsLastOf (x ∷ xs) → ⊥
  left_meets s o os t s' x xs f w e is = by s'.mode refl (subst (LeavesIn o) f (feed_leaves t.place s o))
    where
      by : (m : Mode) → s'.mode ≡ m → LeftIn o m → ⊥
      by Mode.Blank m h = blank_meets s' (o ∷ os) x xs w e m
      by Mode.Word m h = word_meets s' (o ∷ os) x xs w e m (subst LeavesLetters f (letters_left t.place s o) m) is
      by Mode.Slash m h = absurd (let n : false ≡ true = subst (λ y. ((y == 47) || (y == 42)) ≡ true) (here o os e) h in cc)
      by _ m h = absurd h

  line_seen : (s : Known) (all : List ℕ) (ts : List Placed) → L s all ts → (os : List ℕ) → all ≡ os ++ line → IsLastOf ts
      → Sees ⊥ (Unit {0}) Rest s os ts
  line_seen _ _ _ (rests s all (xs, e, w)) os cut is = rests s os (subst (Rest s) (append_cancel_right xs os line (sym e ∙ cut)) w)
  line_seen _ _ _ (last_given s o t s' b f) os cut is =
      absurd ((subst EndsThere f (ends_there t.place s o)).0 (subst (λ (y : Placed). IsBare y.lexeme.kind) (sym is) bare))
  line_seen _ _ _ (last_left s o t s' b f) [] cut is =
      let shown = subst (λ (y : Placed). IsBare y.lexeme.kind) (sym is) bare in
      last_ends s t tt shown (line_ends t.place s s' t.lexeme (ap (feed t.place s) (sym (here o [] cut)) ∙ f) shown)
  line_seen _ _ _ (last_left s o t s' b f) (y ∷ ys) cut is = absurd (omega (arith, ap length cut, length-append ys line))
  line_seen _ _ _ (last_ends s t b i f) os cut is = absurd b
  line_seen _ _ _ (sees_on s o os' t ts s' f w) [] cut is = absurd (none_behind s' o os' (t ∷ ts) w cut)
  line_seen _ _ _ (sees_on s o os' t ts s' f w) (y ∷ ys) cut is =
      let same : o ≡ y = cc in
      let more : os' ≡ ys ++ line = cc in
      sees_on s y ys t ts s' (ap (feed t.place s) (sym same) ∙ f) (line_seen s' os' (t ∷ ts) w ys more is)
  line_seen _ _ _ (sees_given s o os' t ts s' f w) [] cut is = absurd (none_behind s' o os' ts w cut)
  line_seen _ _ _ (sees_given s o os' t ts s' f w) (y ∷ ys) cut is =
      let same : o ≡ y = cc in
      let more : os' ≡ ys ++ line = cc in
      sees_given s y ys t ts s' (ap (feed t.place s) (sym same) ∙ f) (line_seen s' os' ts w ys more (behind t ts is))
  line_seen _ _ _ (sees_left s o os' t [] s' f w) [] cut is =
      let shown = subst (λ (y : Placed). IsBare y.lexeme.kind) (sym is) bare in
      last_ends s t tt shown (line_ends t.place s s' t.lexeme (ap (feed t.place s) (sym (here o os' cut)) ∙ f) shown)
  line_seen _ _ _ (sees_left s o os' t (x ∷ xs) s' f w) [] cut is = absurd (left_meets s o os' t s' x xs f w cut is)
  line_seen _ _ _ (sees_left s o os' t ts s' f w) (y ∷ ys) cut is =
      let same : o ≡ y = cc in
      sees_left s y ys t ts s' (ap (feed t.place s) (sym same) ∙ f) (line_seen s' (o ∷ os') ts w (y ∷ ys) cut (behind t ts is))

  -- Where the scanner meets tokens up to the end of the line, it meets them up to the end of the octets.
  pub seen_before : (s : Known) (os : List ℕ) (front : List Placed) → L s (os ++ line) (front ++ last ∷ [])
      → Sees ⊥ (Unit {0}) Rest s os (front ++ last ∷ [])
  seen_before s os front m = line_seen s (os ++ line) (front ++ last ∷ []) m os refl (is_last front)
