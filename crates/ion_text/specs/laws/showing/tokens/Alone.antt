-- Whole pieces are a document by themselves, and a document is whole pieces, with a comment behind them that the end of the input ends.
use Rattle.std.proofs.Common.{◌≡◌, ℕ, ◌<◌, eqb-true, Bool, true, false, List, [], ◌∷◌, ◌++◌, length, refl, sym, ap, ◌∙◌, subst, arith, append_assoc, append-nil, length-append, ◌⊎◌, inl, inr}
use Rattle.std.specs.Prelude.{◌==◌, ◌&&◌, ◌||◌, not, codes}
use Rattle.std.specs.List.{flat_map, AllByRecursion}
use Rattle.std.proofs.lemmas.Bool.{and_parts, or_from, or_parts}
use Rattle.ion_text.specs.Names.{BlankPiece, BlankThen, Catalog, Document, HasPieces, IsBlank, IsBlankPiece, IsLastBlank, IsLexeme, IsNumeric, IsOperator, Lexes, LexesTo, Limits, LineComment, Mark, MarkEnds, OpenRest, Pieces, Place, Placed, Slot, TokenKind, Value, White, Whole, among, begins_comment, begins_infinity, blank_spelling, colon_behind, comment_within, is_operator_octet, is_stop, is_white, is_word_octet, mark_spelling}
use Rattle.ion_tokens.specs.Lexemes.{begins}
use Rattle.ion_tokens.proofs.sound.Holds.{blank_more, blank_none}
use Rattle.ion_text.specs.laws.showing.shown.OpenRests.{blank_follows}
use Rattle.ion_text.specs.laws.showing.tokens.Cuts.{lexed_front, parts_same}
use Rattle.ion_text.specs.laws.showing.tokens.Once.{some_token}

-- 1. What a token asks of the octets behind it, it asks of a front of them that ends where tokens do.

begins_front : (class : ℕ → Bool) (x f : List ℕ) → begins class (x ++ f) ≡ false → begins class x ≡ false
begins_front class [] f h = refl
begins_front class (o ∷ x) f h = h

never_both : (b : Bool) → (b && false) ≡ false
never_both true = refl
never_both false = refl

comment_front : (x f : List ℕ) → begins_comment (x ++ f) ≡ false → begins_comment x ≡ false
comment_front [] f h = refl
comment_front (o ∷ []) f h = never_both (o == 47)
comment_front (o ∷ p ∷ x) f h = h

within_front : (w x f : List ℕ) → comment_within w (x ++ f) ≡ false → comment_within w x ≡ false
within_front [] x f h = refl
within_front (o ∷ os) x f h =
    let k = or_parts _ _ h in
    or_from _ _ (comment_front (o ∷ os ++ x) f (ap (λ y. begins_comment (o ∷ y)) (append_assoc os x f) ∙ k.0)) (within_front os x f k.1)

nothing_before : (x f : List ℕ) → x ++ f ≡ [] → x ≡ []
nothing_before [] f e = refl
nothing_before (o ∷ x) f e = cc

-- where a comment begins, there are no octets, or it begins in them
abbrev MayComment : List ℕ → List ℕ → Type 0
MayComment x f = begins_comment (x ++ f) ≡ true → (x ≡ []) ⊎ (begins_comment x ≡ true)

abbrev NoInfinity : List ℕ → List ℕ → Type 0
NoInfinity x f = begins_infinity (x ++ f) ≡ false → begins_infinity x ≡ false

numeric_front : (w x f : List ℕ) → MayComment x f → IsNumeric w (x ++ f) → IsNumeric w x
numeric_front w x f may n = record { begun = n.begun; each = n.each; longest = go x may n.longest }
  where
    go : (x : List ℕ) → MayComment x f → (x ++ f ≡ []) ⊎ ((begins is_stop (x ++ f) ≡ true) ⊎ (begins_comment (x ++ f) ≡ true)) → (x ≡ [])
        ⊎ ((begins is_stop x ≡ true) ⊎ (begins_comment x ≡ true))
    go x may (inl e) = inl (nothing_before x f e)
    go [] may (inr (inl h)) = inl refl
    go (o ∷ x) may (inr (inl h)) = inr (inl h)
    go x may (inr (inr h)) = elim (may h) [ inl e ↦ inl e | inr c ↦ inr (inr c) ]

operator_front : (w x f : List ℕ) → MayComment x f → NoInfinity x f → IsOperator w (x ++ f) → IsOperator w x
operator_front w x f may none n = record {
  some = n.some;
  each = n.each;
  apart = within_front w x f n.apart;
  longest = go n.longest;
  no_number = λ e. begins_front _ x f (n.no_number e);
  no_float = λ e. none (n.no_float e);
}
  where
    go : (begins is_operator_octet (x ++ f) ≡ false) ⊎ (begins_comment (x ++ f) ≡ true) → (begins is_operator_octet x ≡ false) ⊎ (begins_comment x ≡ true)
    go (inl h) = inl (begins_front is_operator_octet x f h)
    go (inr h) = elim (may h) [ inl e ↦ inl (ap (begins is_operator_octet) e) | inr c ↦ inr c ]

mark_front : (m : Mark) (x f : List ℕ) → MarkEnds m (x ++ f) → MarkEnds m x
mark_front Mark.FieldsOpen x f h = begins_front _ x f h
mark_front Mark.Colon x f h = begins_front _ x f h
mark_front _ x f h = tt

lexeme_front : (p : Place) (colon : Bool) (w x f : List ℕ) (k : TokenKind) (kept : List ℕ) → MayComment x f → NoInfinity x f
    → IsLexeme p colon w (x ++ f) k kept → IsLexeme p colon w x k kept
lexeme_front p colon w x f TokenKind.Word kept may none h = (h.0, h.1, begins_front is_word_octet x f h.2, λ e. begins_front _ x f (h.3 e))
lexeme_front p colon w x f TokenKind.KindName kept may none h = (h.0, h.1, begins_front is_word_octet x f h.2)
lexeme_front p colon w x f TokenKind.Number kept may none h = (h.0, h.1, numeric_front w x f may h.2)
lexeme_front p colon w x f TokenKind.Operator kept may none h = (h.0, h.1, operator_front w x f may none h.2)
lexeme_front p colon w x f TokenKind.QuotedSymbol kept may none h = (h.0, h.1, h.2, λ e. begins_front _ x f (h.3 e))
lexeme_front p colon w x f (TokenKind.Mark m) kept may none h = (h.0, h.1, h.2, mark_front m x f h.3)
lexeme_front p colon w x f _ kept may none h = h

-- 2. No front of octets ends within a token, nor within a blank.

blank_first : (o : ℕ) (w : List ℕ) → IsBlank (o ∷ w) → (is_white o ≡ true) ⊎ (o ≡ 47)
blank_first o w b = go b.pieces b.each b.spelled
  where
    go : (bs : List BlankPiece) → AllByRecursion IsBlankPiece bs → o ∷ w ≡ flat_map blank_spelling bs → (is_white o ≡ true) ⊎ (o ≡ 47)
    go [] h e = cc
    go (White x ∷ bs) h e = let k : x ≡ o = cc in inl (subst (λ y. is_white y ≡ true) k h.0)
    go _ h e = let k : o ≡ 47 = cc in inr k

lone_slash : IsBlank (47 ∷ []) → ⊥
lone_slash b = go b.pieces b.each b.spelled
  where
    go : (bs : List BlankPiece) → AllByRecursion IsBlankPiece bs → 47 ∷ [] ≡ flat_map blank_spelling bs → ⊥
    go (White x ∷ bs) h e = let k : x ≡ 47 = cc in let n : is_white 47 ≡ true = subst (λ y. is_white y ≡ true) k h.0 in cc
    go _ h e = cc

heads : (x y : ℕ) (xs ys : List ℕ) → x ∷ xs ≡ y ∷ ys → x ≡ y
heads x y xs ys e = cc

tails : (x y : ℕ) (xs ys : List ℕ) → x ∷ xs ≡ y ∷ ys → xs ≡ ys
tails x y xs ys e = cc

-- with what a mark begins
abbrev is_mark : ℕ → Bool
is_mark o = among (codes "{}[](),:") o

marked : (m : Mark) → begins is_mark (mark_spelling m) ≡ true
marked Mark.FieldsOpen = refl
marked _ = refl

mark_octet : (m : Mark) (o : ℕ) (w : List ℕ) → o ∷ w ≡ mark_spelling m → is_mark o ≡ true
mark_octet m o w e = ap (begins is_mark) e ∙ marked m

slash_token : (p : Place) (colon : Bool) (f : List ℕ) (k : TokenKind) (kept : List ℕ) → IsLexeme p colon (47 ∷ []) f k kept → begins_comment (47 ∷ f) ≡ true → ⊥
slash_token p colon f TokenKind.Word kept h c = let n : false ≡ true = h.1.0 in cc
slash_token p colon f TokenKind.KindName kept h c = absurd (omega (arith, heads 47 110 _ _ h.0))
slash_token p colon f TokenKind.Number kept h c = let n : false ≡ true = h.2.begun in cc
slash_token p colon f TokenKind.Operator kept h c = let n : true ≡ false = sym c ∙ (or_parts (begins_comment (47 ∷ f)) false h.2.apart).0 in cc
slash_token p colon f TokenKind.ShortString kept h c = absurd (omega (arith, heads 47 34 _ _ h.2))
slash_token p colon f TokenKind.Clob kept h c = absurd (omega (arith, heads 47 123 _ _ h.3))
slash_token p colon f TokenKind.Blob kept h c = absurd (omega (arith, heads 47 123 _ _ h.3))
slash_token p colon f (TokenKind.Mark m) kept h c = let n : false ≡ true = mark_octet m 47 [] h.1 in cc
slash_token p colon f _ kept h c = absurd (omega (arith, heads 47 39 _ _ h.2))

-- what begins with `i` is a word
word_token : (p : Place) (colon : Bool) (w f : List ℕ) (k : TokenKind) (kept : List ℕ) → IsLexeme p colon (105 ∷ w) f k kept → begins is_word_octet f ≡ false
word_token p colon w f TokenKind.Number kept h = absurd (let n : false ≡ true = h.2.begun in cc)
word_token p colon w f TokenKind.Operator kept h = absurd (let n : false ≡ true = h.2.each.0 in cc)
word_token p colon w f TokenKind.QuotedSymbol kept h = absurd (omega (arith, heads 105 39 _ _ h.2))
word_token p colon w f TokenKind.ShortString kept h = absurd (omega (arith, heads 105 34 _ _ h.2))
word_token p colon w f TokenKind.LongString kept h = absurd (omega (arith, heads 105 39 _ _ h.2))
word_token p colon w f TokenKind.Clob kept h = absurd (omega (arith, heads 105 123 _ _ h.3))
word_token p colon w f TokenKind.Blob kept h = absurd (omega (arith, heads 105 123 _ _ h.3))
word_token p colon w f (TokenKind.Mark m) kept h = absurd (let n : false ≡ true = mark_octet m 105 w h.1 in cc)
word_token p colon w f _ kept h = h.2

-- the octets x before f are these tokens and a blank
abbrev Fronts : Bool → ℕ → List ℕ → List ℕ → List Placed → Bool → ℕ → List ℕ → Type 0
Fronts colon before x f ts after end blank = LexesTo colon before (x ++ f) ts after end (blank ++ f) × IsBlank blank

same_front : (x y f : List ℕ) → x ++ f ≡ y ++ f → x ≡ y
same_front x y f e = (parts_same x f y f e (omega (arith, ap length e, length-append x f, length-append y f))).0

-- tokens that stand in octets before f: the blank and the octets of the first, and what is left before f
record FirstToken (colon : Bool) (x f : List ℕ) (t : Placed) : Type 0 where
  blank : List ℕ
  token : List ℕ
  left : List ℕ
  is_blank : IsBlank blank
  cut : x ≡ blank ++ (token ++ left)
  some : 0 < length token
  is : IsLexeme t.place colon token (left ++ f) t.lexeme.kind t.lexeme.octets

first_token : (colon : Bool) (before : ℕ) (x f : List ℕ) (t : Placed) (ts : List Placed) (after : Bool) (end : ℕ) (blank : List ℕ)
    → Fronts colon before x f (t ∷ ts) after end blank → FirstToken colon x f t
first_token colon before x f t ts after end blank ((q, b, h), k) =
    let p = lexed_front ts (colon_behind t) t.lexeme.end q after end (blank ++ f) h in
    let left = p.0 ++ blank in
    let is : q ≡ left ++ f = p.1 ∙ sym (append_assoc p.0 blank f) in
    let whole : x ++ f ≡ ((b.blank ++ b.token) ++ left) ++ f =
    b.cut ∙ (ap (λ y. (b.blank ++ b.token) ++ y) is ∙ sym (append_assoc (b.blank ++ b.token) left f)) in
    record {
      blank = b.blank;
      token = b.token;
      left = left;
      is_blank = b.is_blank;
      cut = same_front x ((b.blank ++ b.token) ++ left) f whole ∙ append_assoc b.blank b.token left;
      some = some_token t.place colon b.token q t.lexeme.kind t.lexeme.octets b.is;
      is = subst (λ y. IsLexeme t.place colon b.token y t.lexeme.kind t.lexeme.octets) is b.is;
    }

slash_is : (o : ℕ) (f : List ℕ) → begins_comment (o ∷ f) ≡ true → o ≡ 47
slash_is o f c = eqb-true o 47 (and_parts (o == 47) (begins (λ p. (p == 47) || (p == 42)) f) c).0

-- no comment begins with the last of the octets
slash_last : (colon : Bool) (before : ℕ) (o : ℕ) (f : List ℕ) (ts : List Placed) (after : Bool) (end : ℕ) (blank : List ℕ)
    → Fronts colon before (o ∷ []) f ts after end blank → begins_comment (o ∷ f) ≡ true → ⊥
slash_last colon before o f [] after end blank (h, k) c =
    lone_slash (subst (λ x. IsBlank x) (sym (same_front (o ∷ []) blank f h.2) ∙ ap (λ y. y ∷ []) (slash_is o f c)) k)
slash_last colon before o f (t ∷ ts) after end blank h c = go n.blank n.token n.left n.cut n.some n.is
  where
    n : FirstToken colon (o ∷ []) f t
    n = first_token colon before (o ∷ []) f t ts after end blank h

    go : (front token left : List ℕ) → o ∷ [] ≡ front ++ (token ++ left) → 0 < length token
        → IsLexeme t.place colon token (left ++ f) t.lexeme.kind t.lexeme.octets → ⊥
    go (x ∷ front) token left e s i = absurd (omega (arith, ap length e, s, length-append front (token ++ left), length-append token left))
    go [] [] left e s i = absurd (omega (arith, s))
    go [] (x ∷ y ∷ token) left e s i = absurd (omega (arith, ap length e))
    go [] (x ∷ []) (y ∷ left) e s i = absurd (omega (arith, ap length e))
    go [] (x ∷ []) [] e s i =
        let same : x ≡ 47 = sym (heads o x [] [] e) ∙ slash_is o f c in
        slash_token t.place colon f t.lexeme.kind t.lexeme.octets (subst (λ y. IsLexeme t.place colon (y ∷ []) f t.lexeme.kind t.lexeme.octets) same i)
        (ap (λ y. begins_comment (y ∷ f)) (sym (slash_is o f c)) ∙ c)

may_comment : (colon : Bool) (before : ℕ) (x f : List ℕ) (ts : List Placed) (after : Bool) (end : ℕ) (blank : List ℕ)
    → Fronts colon before x f ts after end blank → MayComment x f
may_comment colon before [] f ts after end blank h c = inl refl
may_comment colon before (o ∷ []) f ts after end blank h c = absurd (slash_last colon before o f ts after end blank h c)
may_comment colon before (o ∷ p ∷ x) f ts after end blank h c = inr c

-- where a word goes on, no octets end in `inf`
no_blank : (i : ℕ) (w : List ℕ) → i ≡ 105 → IsBlank (i ∷ w) → ⊥
no_blank i w is b = elim (blank_first i w b) [
  | inl e ↦ let n : false ≡ true = subst (λ x. is_white x ≡ true) is e in cc
  | inr e ↦ absurd (omega (arith, is, e))
]

word_behind : (n p : ℕ) (f w left : List ℕ) → is_word_octet n ≡ true → is_word_octet p ≡ true → begins is_word_octet f ≡ true → n ∷ p ∷ [] ≡ w ++ left
    → begins is_word_octet (left ++ f) ≡ true
word_behind n p f [] left hn hp c e = subst (λ y. begins is_word_octet (y ++ f) ≡ true) e hn
word_behind n p f (x ∷ []) left hn hp c e = subst (λ y. begins is_word_octet (y ++ f) ≡ true) (tails n x (p ∷ []) left e) hp
word_behind n p f (x ∷ y ∷ []) left hn hp c e = subst (λ y. begins is_word_octet (y ++ f) ≡ true) (tails p y [] left (tails n x (p ∷ []) (y ∷ left) e)) c
word_behind n p f (x ∷ y ∷ z ∷ w) left hn hp c e = absurd (omega (arith, ap length e, length-append w left))

module _ (i n p : ℕ) (f : List ℕ) (hi : i ≡ 105) (hn : is_word_octet n ≡ true) (hp : is_word_octet p ≡ true) (c : begins is_word_octet f ≡ true) where
  infinity_token : (q : Place) (colon : Bool) (k : TokenKind) (kept front token left : List ℕ) → IsBlank front → i ∷ n ∷ p ∷ [] ≡ front ++ (token ++ left)
      → 0 < length token → IsLexeme q colon token (left ++ f) k kept → ⊥
  infinity_token q colon k kept (x ∷ front) token left b e s h = no_blank x front (sym (heads i x (n ∷ p ∷ []) (front ++ (token ++ left)) e) ∙ hi) b
  infinity_token q colon k kept [] [] left b e s h = absurd (omega (arith, s))
  infinity_token q colon k kept [] (x ∷ w) left b e s h =
      let same : x ≡ 105 = sym (heads i x (n ∷ p ∷ []) (w ++ left) e) ∙ hi in
      let more : n ∷ p ∷ [] ≡ w ++ left = tails i x (n ∷ p ∷ []) (w ++ left) e in
      let ends = word_token q colon w (left ++ f) k kept (subst (λ y. IsLexeme q colon (y ∷ w) (left ++ f) k kept) same h) in
      let never : true ≡ false = sym (word_behind n p f w left hn hp c more) ∙ ends in
      cc

  infinity_last : (colon : Bool) (before : ℕ) (ts : List Placed) (after : Bool) (end : ℕ) (blank : List ℕ)
      → Fronts colon before (i ∷ n ∷ p ∷ []) f ts after end blank → ⊥
  infinity_last colon before [] after end blank (h, k) = no_blank i (n ∷ p ∷ []) hi (subst (λ x. IsBlank x) (sym (same_front (i ∷ n ∷ p ∷ []) blank f h.2)) k)
  infinity_last colon before (t ∷ ts) after end blank h =
      let k = first_token colon before (i ∷ n ∷ p ∷ []) f t ts after end blank h in
      infinity_token t.place colon t.lexeme.kind t.lexeme.octets k.blank k.token k.left k.is_blank k.cut k.some k.is

abbrev spelled : ℕ → ℕ → ℕ → Bool → Bool
spelled i n p goes_on = (i == 105) && ((n == 110) && ((p == 102) && not goes_on))

no_infinity : (colon : Bool) (before : ℕ) (x f : List ℕ) (ts : List Placed) (after : Bool) (end : ℕ) (blank : List ℕ)
    → Fronts colon before x f ts after end blank → NoInfinity x f
no_infinity colon before [] f ts after end blank h e = refl
no_infinity colon before (i ∷ []) f ts after end blank h e = refl
no_infinity colon before (i ∷ n ∷ []) f ts after end blank h e = refl
no_infinity colon before (i ∷ n ∷ p ∷ q ∷ x) f ts after end blank h e = e
no_infinity colon before (i ∷ n ∷ p ∷ []) f ts after end blank h e = by (begins is_word_octet f) refl (begins_infinity (i ∷ n ∷ p ∷ [])) refl
  where
    by : (b : Bool) → begins is_word_octet f ≡ b → (c : Bool) → begins_infinity (i ∷ n ∷ p ∷ []) ≡ c → c ≡ false
    by b w false g = refl
    by false w true g = let k : true ≡ false = sym g ∙ (ap (spelled i n p) (sym w) ∙ e) in cc
    by true w true g =
        let a = and_parts (i == 105) ((n == 110) && ((p == 102) && not (begins is_word_octet []))) g in
        let b = and_parts (n == 110) ((p == 102) && not (begins is_word_octet [])) a.1 in
        let d = and_parts (p == 102) (not (begins is_word_octet [])) b.1 in
        absurd (infinity_last i n p f (eqb-true i 105 a.0) (subst (λ x. is_word_octet x ≡ true) (sym (eqb-true n 110 b.0)) refl)
        (subst (λ x. is_word_octet x ≡ true) (sym (eqb-true p 102 d.0)) refl) w colon before ts after end blank h)

-- 3. Whole pieces by themselves.

-- tokens before a blank and further octets are tokens before the blank alone
lexes_alone : (ts : List Placed) (colon : Bool) (before : ℕ) (x f : List ℕ) (after : Bool) (end : ℕ) (blank : List ℕ)
    → Fronts colon before x f ts after end blank → LexesTo colon before x ts after end blank
lexes_alone [] colon before x f after end blank ((c, b, o), k) = (c, b, same_front x blank f o)
lexes_alone (t ∷ ts) colon before x f after end blank ((q, b, h), k) =
    let p = lexed_front ts (colon_behind t) t.lexeme.end q after end (blank ++ f) h in
    let left = p.0 ++ blank in
    let is : q ≡ left ++ f = p.1 ∙ sym (append_assoc p.0 blank f) in
    let whole : x ++ f ≡ ((b.blank ++ b.token) ++ left) ++ f =
    b.cut ∙ (ap (λ y. (b.blank ++ b.token) ++ y) is ∙ sym (append_assoc (b.blank ++ b.token) left f)) in
    let rest : Fronts (colon_behind t) t.lexeme.end left f ts after end blank =
    (subst (λ y. LexesTo (colon_behind t) t.lexeme.end y ts after end (blank ++ f)) is h, k) in (
      left,
      record {
        blank = b.blank;
        token = b.token;
        is_blank = b.is_blank;
        cut = same_front x ((b.blank ++ b.token) ++ left) f whole;
        start = b.start;
        end = b.end;
        is =
            lexeme_front t.place colon b.token left f t.lexeme.kind t.lexeme.octets (may_comment (colon_behind t) t.lexeme.end left f ts after end blank rest)
            (no_infinity (colon_behind t) t.lexeme.end left f ts after end blank rest)
            (subst (λ y. IsLexeme t.place colon b.token y t.lexeme.kind t.lexeme.octets) is b.is);
      },
      lexes_alone ts (colon_behind t) t.lexeme.end left f after end blank rest,
    )

-- tokens up to a blank are all tokens
lexes_whole : (ts : List Placed) (colon : Bool) (before : ℕ) (octets : List ℕ) (after : Bool) (end : ℕ) (rest : List ℕ)
    → LexesTo colon before octets ts after end rest → IsBlank rest → Lexes colon before octets ts
lexes_whole [] colon before octets after end rest (c, b, o) k = inl (subst IsBlank (sym o) k)
lexes_whole (t ∷ ts) colon before octets after end rest (q, b, h) k = (q, b, lexes_whole ts (colon_behind t) t.lexeme.end q after end rest h k)

-- whole pieces are a document, whatever octets follow them
pub whole_document : (g : Catalog) (l : Limits) (front following : List ℕ) (s : List Value) → Whole g l front following s → Document g l front s
whole_document g l front following s w = record {
  tokens = w.tokens;
  context = w.context;
  lexed = lexes_whole w.tokens false 0 front w.colon w.end w.blank (lexes_alone w.tokens false 0 front following w.colon w.end w.blank (w.lexed, w.is_blank))
      w.is_blank;
  pieces = w.pieces;
}

-- 4. A document is whole pieces, and a comment that the end ends, if there is one.

-- where the tokens end
record LastBlank (colon : Bool) (before : ℕ) (octets : List ℕ) (ts : List Placed) : Type 0 where
  after : Bool
  end : ℕ
  rest : List ℕ
  lexes : LexesTo colon before octets ts after end rest
  is_last : IsLastBlank rest

last_blank : (ts : List Placed) (colon : Bool) (before : ℕ) (octets : List ℕ) → Lexes colon before octets ts → LastBlank colon before octets ts
last_blank [] colon before octets h = record { after = colon; end = before; rest = octets; lexes = (refl, refl, refl); is_last = h }
last_blank (t ∷ ts) colon before octets (q, b, h) =
    let k = last_blank ts (colon_behind t) t.lexeme.end q h in
    record { after = k.after; end = k.end; rest = k.rest; lexes = (q, b, k.lexes); is_last = k.is_last }

-- in what may become a blank nothing else stands behind a blank
blank_alone : (x more : List ℕ) (o : ℕ) (octets : List ℕ) → IsBlank (x ++ more) → is_white o ≡ false → (o ≡ 47 → ⊥) → BlankThen (o ∷ octets) x → ⊥
blank_alone x more o octets b white slash (w, after, k, e) =
    let cut : x ++ more ≡ w ++ (((o ∷ octets) ++ after) ++ more) = ap (λ y. y ++ more) (e ∙ append_assoc w (o ∷ octets) after)
    ∙ append_assoc w ((o ∷ octets) ++ after) more in
    elim (blank_first o ((octets ++ after) ++ more) (blank_follows w (((o ∷ octets) ++ after) ++ more) k (subst IsBlank cut b))) [
      | inl h ↦ let n : true ≡ false = sym h ∙ white in cc
      | inr h ↦ slash h
    ]

module _ (g : Catalog) (l : Limits) (s : List Value) (ts : List Placed) (c : List Slot) (pieces : Pieces g l ts s c) where
  -- whole pieces, where what is behind the last token may become a blank
  may_follow : (front open_rest blank more : List ℕ) (after : Bool) (end : ℕ) → LexesTo false 0 (front ++ open_rest) ts after end (blank ++ open_rest)
      → IsBlank blank → IsBlank ((blank ++ open_rest) ++ more) → Whole g l front open_rest s
  may_follow front open_rest blank more after end h b k = record {
    tokens = ts;
    context = c;
    colon = after;
    end = end;
    blank = blank;
    lexed = h;
    is_blank = b;
    pieces = pieces;
    no_annotation = λ e. blank_alone (blank ++ open_rest) more 58 (58 ∷ []) k refl (λ e. cc);
    no_segment = λ e. blank_alone (blank ++ open_rest) more 39 (39 ∷ []) k refl (λ e. cc);
  }

  by_last : (u : List ℕ) → (k : LastBlank false 0 u ts) → IsLastBlank k.rest → HasPieces (Whole g l) (λ front rest. OpenRest l rest) u s
  by_last u k (inl b) = record {
    front = u;
    open_rest = [];
    parts = sym (append-nil u);
    whole =
        may_follow u [] k.rest [] k.after k.end (subst (λ y. LexesTo false 0 y ts k.after k.end (k.rest ++ [])) (sym (append-nil u))
        (subst (λ y. LexesTo false 0 u ts k.after k.end y) (sym (append-nil k.rest)) k.lexes)) b
        (subst IsBlank (sym (append-nil (k.rest ++ []) ∙ append-nil k.rest)) b);
    rest = record {
      before = [];
      item = [];
      blank = [];
      behind = [];
      parts = refl;
      is_before = blank_none;
      fits =
          omega arith;
      is_blank = ([], blank_none);
      shut = inl refl;
    };
  }
  by_last u k (inr o) =
      let p = lexed_front ts false 0 u k.after k.end k.rest k.lexes in
      let comment = codes "//" ++ o.octets in
      let cut : k.rest ≡ o.front ++ comment = o.cut ∙ append_assoc o.front (codes "//") o.octets in
      let whole : u ≡ (p.0 ++ o.front) ++ comment = p.1 ∙ (ap (λ y. p.0 ++ y) cut ∙ sym (append_assoc p.0 o.front comment)) in
      let closed : IsBlank ((o.front ++ comment) ++ 10 ∷ []) =
      subst IsBlank (sym (append_assoc o.front comment (10 ∷ []))) (blank_more o.front (LineComment o.octets 10) o.blank (o.one_line, refl)) in
      record {
        front = p.0 ++ o.front;
        open_rest = comment;
        parts = whole;
        whole = may_follow (p.0 ++ o.front) comment o.front (10 ∷ []) k.after k.end
            (subst (λ y. LexesTo false 0 y ts k.after k.end (o.front ++ comment)) whole (subst (λ y. LexesTo false 0 u ts k.after k.end y) cut k.lexes)) o.blank
            closed;
        rest = record {
          before = [];
          item = [];
          blank = comment;
          behind = [];
          parts = sym (append-nil comment);
          is_before = blank_none;
          fits = omega arith;
          is_blank = (10 ∷ [], blank_more [] (LineComment o.octets 10) blank_none (o.one_line, refl));
          shut = inl refl;
        };
      }

-- a document is whole pieces, and behind them what may stand open
pub document_pieces : (g : Catalog) (l : Limits) (u : List ℕ) (s : List Value) → Document g l u s → HasPieces (Whole g l) (λ front rest. OpenRest l rest) u s
document_pieces g l u s d = let k = last_blank d.tokens false 0 u d.lexed in by_last g l s d.tokens d.context d.pieces u k k.is_last
