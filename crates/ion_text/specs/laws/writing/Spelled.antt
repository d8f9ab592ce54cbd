-- What is written of a symbol, number, text or lob is one token that says it, before what may follow.
use Rattle.std.proofs.Common.{◌≡◌, ℕ, ◌<◌, ◌⊎◌, inl, inr, Bool, true, false, List, [], ◌∷◌, ◌++◌, Option, Some, None, Ok, refl, ap, subst, arith, IsUtf8}
use Rattle.std.specs.Prelude.{◌==◌, ◌||◌, nat_lt, not, codes}
use Rattle.std.specs.List.{list_all, filter}
use Rattle.std.proofs.lemmas.Bool.{and_parts, false≢true, not-true, or_right}
use Rattle.std.proofs.lemmas.Bool.Decides.{nat_tests}
use Rattle.std.proofs.lemmas.Str.{IsUtf8-append, IsUtf8-nil, IsUtf8-encode, encode_ascii}
use lib.Utf8.{low_scalar}
use Rattle.ion_text.specs.Names.{AreOctets, Blob, Clob, Content, Each, Id, IsBase64, IsBody, IsLexeme, IsSymbol, IsText, Kind, Number, Number', Place, Quoted, ReadsNumber, Short, ShortText, Slot, Style, TokenKind, TypedNull, Word, base64_of, begins_comment, begins_word, blob_text, clob_text, escaped_text, id_of, is_base64, is_digit, is_id, is_identifier, is_keyword, is_letter, is_name, is_segment, is_stop, is_unquoted, is_white, is_word, is_word_octet, kind_name, kind_named, null_text, number_text, of_clob, of_string, of_symbol, quoted, resolve, symbol_text, takes_colon, truth_text}
use Rattle.ion_tokens.specs.Lexemes.{begins}
use Rattle.ion_tokens.specs.laws.Blobs.{base64_each}
use Rattle.ion_tokens.specs.laws.Numerals.{numeric_run}
use Rattle.ion_text.specs.Grammar.{is_quoted}
use Rattle.ion_spelling.specs.laws.Quoted.{clob_quoted, string_between, symbol_between, text_quoted}

-- 1. What may follow.

-- no octet of a word, no dot, no `'`
pub record EndsWords (r : List ℕ) : Type 0 where
  pub word : begins is_word_octet r ≡ false
  pub dot : begins (λ o. o == 46) r ≡ false
  pub quote : begins (λ o. o == 39) r ≡ false

-- nothing, or an octet that ends a number
abbrev pub StopsOrEnds : List ℕ → Type 0
StopsOrEnds [] = Unit {0}
StopsOrEnds (o ∷ os) = is_stop o ≡ true

-- and what ends a number
pub record EndsNumbers (r : List ℕ) : Type 0 where
  pub apart : EndsWords r
  pub stop : StopsOrEnds r

-- The octets w before r are a token of this place, whether or not a colon may stand there, and say this. None is a long string.
pub record Spelling (p : Place) (w r : List ℕ) (said : Content) : Type 0 where
  pub kind : TokenKind
  pub octets : List ℕ
  pub lexeme : (colon : Bool) → IsLexeme p colon w r kind octets
  pub body : IsBody kind octets (Ok said)
  pub short : is_segment kind ≡ false

-- 2. Symbols.

-- a symbol's token, behind which a colon may stand
pub record SymbolSpelling (c : List Slot) (p : Place) (s : Option (List ℕ)) (r : List ℕ) : Type 0 where
  pub said : Content
  pub token : Spelling p (symbol_text s) r said
  pub takes : takes_colon p token.kind ≡ true
  pub is : IsSymbol c said s

first_of_word : (o : ℕ) → (is_letter o || (o == 95)) ≡ true → begins_word o ≡ true
first_of_word o h = grind (arith, nat_tests)

no_dollar : (o : ℕ) → (is_letter o || (o == 95)) ≡ true → (o == 36) ≡ false
no_dollar o h = grind (arith, nat_tests)

word_first : (o : ℕ) → begins_word o ≡ true → is_word_octet o ≡ true
word_first o h = ap (λ b. b || is_digit o) h

all_each : (class : ℕ → Bool) (os : List ℕ) → list_all class os ≡ true → Each class os
all_each class [] h = tt
all_each class (o ∷ os) h = let p = and_parts _ _ h in (p.0, all_each class os p.1)

word_is : (p : Place) (w r : List ℕ) → is_identifier w ≡ true → EndsWords r → (colon : Bool) → IsLexeme p colon w r TokenKind.Word w
word_is p [] r h a colon = absurd (false≢true h)
word_is p (o ∷ os) r h a colon =
    let q = and_parts _ _ h in
    let f = first_of_word o q.0 in
    (refl, (f, (word_first o f, all_each is_word_octet os q.1)), a.word, λ e. a.dot)

no_id : (w : List ℕ) → is_identifier w ≡ true → id_of w ≡ None
no_id [] h = refl
no_id (o ∷ os) h = let q = and_parts _ _ h in rw (no_dollar o q.0) refl

quoted_is : (p : Place) (w r : List ℕ) → IsUtf8 w → EndsWords r → (colon : Bool) → IsLexeme p colon (quoted of_symbol w) r TokenKind.QuotedSymbol w
quoted_is p w r u a colon = (escaped_text of_symbol w, text_quoted Style.QuotedSymbol 39 symbol_between w u, refl, λ e. a.quote)

word_spelled : (p : Place) (w r : List ℕ) → is_identifier w ≡ true → IsUtf8 w → EndsWords r → Spelling p w r (Word w)
word_spelled p w r h u a = record {
  kind = TokenKind.Word;
  octets = w;
  lexeme = λ colon. word_is p w r h a colon;
  body = rw (no_id w h) (refl, u);
  short = refl;
}

unquoted_spelled : (c : List Slot) (p : Place) (w r : List ℕ) → IsUtf8 w → EndsWords r → is_unquoted w ≡ true → SymbolSpelling c p (Some w) r
unfolding symbol_text
unquoted_spelled c p w r u a h =
    let q = and_parts _ _ h in
    record {
      said = Word w;
      token = record {
        kind = TokenKind.Word;
        octets = w;
        lexeme = λ colon. rw h (word_is p w r q.0 a colon);
        body = rw (no_id w q.0) (refl, u);
        short = refl;
      };
      takes = refl;
      is = is_word w (not-true (is_keyword w) q.1);
    }

quoted_spelled : (c : List Slot) (p : Place) (w r : List ℕ) → IsUtf8 w → EndsWords r → is_unquoted w ≡ false → SymbolSpelling c p (Some w) r
unfolding symbol_text
quoted_spelled c p w r u a h = record {
  said = Quoted w;
  token = record {
    kind = TokenKind.QuotedSymbol;
    octets = w;
    lexeme = λ colon. rw h (quoted_is p w r u a colon);
    body = (refl, u);
    short = refl;
  };
  takes = refl;
  is = is_quoted w;
}

unknown_spelled : (c : List Slot) (p : Place) (r : List ℕ) → EndsWords r → SymbolSpelling c p None r
unfolding symbol_text resolve
unknown_spelled c p r a = record {
  said = Id 0;
  token = record {
    kind = TokenKind.Word;
    octets = codes "$0";
    lexeme = λ colon. (refl, (refl, (refl, (refl, tt))), a.word, λ e. a.dot);
    body = refl;
    short = refl;
  };
  takes = refl;
  is = is_id 0 None refl;
}

-- what is written of a symbol is one token that says it, where nothing follows that goes on with words
pub symbol_spelled : (c : List Slot) (p : Place) (s : Option (List ℕ)) (r : List ℕ) → IsText s → EndsWords r → SymbolSpelling c p s r
symbol_spelled c p None r t a = unknown_spelled c p r a
symbol_spelled c p (Some w) r u a = by (is_unquoted w) refl where
  by : (b : Bool) → is_unquoted w ≡ b → SymbolSpelling c p (Some w) r
  by true h = unquoted_spelled c p w r u a h
  by false h = quoted_spelled c p w r u a h

-- 3. Numbers, bools, nulls and strings.

-- what is written of a number is one token that says it, before what ends numbers
pub number_spelled : (p : Place) (n : Number) (r : List ℕ) → is_name p ≡ false → ReadsNumber (number_text n) (Ok n) → EndsNumbers r
    → Spelling p (number_text n) r (Number' n)
number_spelled p n r place h s =
    let run = numeric_run (number_text n) n h in
    record {
      kind = TokenKind.Number;
      octets = number_text n;
      lexeme = λ colon. (refl, place, record { begun = run.begun; each = run.each; longest = longest r s.stop });
      body = h;
      short = refl;
    }
  where
    longest : (r : List ℕ) → StopsOrEnds r → (r ≡ []) ⊎ ((begins is_stop r ≡ true) ⊎ (begins_comment r ≡ true))
    longest [] h = inl refl
    longest (o ∷ os) h = inr (inl h)

ascii_text : (w : List ℕ) → list_all (λ o. nat_lt o 128) w ≡ true → IsUtf8 w
ascii_text [] h = IsUtf8-nil
ascii_text (o ∷ os) h =
    let q = and_parts _ _ h in
    let small : o < 128 = by o q.0 in
    IsUtf8-append (o ∷ []) os (subst IsUtf8 (encode_ascii o small) (IsUtf8-encode o (low_scalar o (omega arith)))) (ascii_text os q.1) where
      by : (o : ℕ) → nat_lt o 128 ≡ true → o < 128
      by o h = grind (arith, nat_tests)

-- what is written of a boolean is one word, where nothing follows that goes on with words
pub truth_spelled : (p : Place) (b : Bool) (r : List ℕ) → EndsWords r → Spelling p (truth_text b) r (Word (truth_text b))
truth_spelled p false r a = word_spelled p (codes "false") r refl (ascii_text (codes "false") refl) a
truth_spelled p true r a = word_spelled p (codes "true") r refl (ascii_text (codes "true") refl) a

-- what the token of a null says
abbrev pub null_said : Kind → Content
null_said Kind.Null = Word (codes "null")
null_said k = TypedNull k

typed_null : (p : Place) (k : Kind) (r : List ℕ) → Each is_word_octet (kind_name k) → kind_named (kind_name k) ≡ Some k → EndsWords r
    → Spelling p (codes "null." ++ kind_name k) r (TypedNull k)
typed_null p k r e f a = record {
  kind = TokenKind.KindName;
  octets = kind_name k;
  lexeme = λ colon. (refl, e, a.word);
  body = rw f refl;
  short = refl;
}

-- what is written of a null is one token that says it, where nothing follows that goes on with words
pub null_spelled : (p : Place) (k : Kind) (r : List ℕ) → EndsWords r → Spelling p (null_text k) r (null_said k)
null_spelled p Kind.Null r a = word_spelled p (codes "null") r refl (ascii_text (codes "null") refl) a
null_spelled p x r a = typed_null p x r (all_each is_word_octet (kind_name x) refl) refl a

-- what is written of a string is one token of a short string that says its text
pub string_spelled : (p : Place) (text r : List ℕ) → IsUtf8 text → Spelling p (quoted of_string text) r (Short text)
string_spelled p text r u = record {
  kind = TokenKind.ShortString;
  octets = text;
  lexeme = λ colon. (escaped_text of_string text, text_quoted Style.ShortString 34 string_between text u, refl);
  body = (refl, u);
  short = refl;
}

-- 4. Lobs.

-- what is written of a clob is one token that says its octets
pub clob_spelled : (p : Place) (octets r : List ℕ) → is_name p ≡ false → AreOctets octets → Spelling p (clob_text octets) r (Clob octets)
clob_spelled p octets r place h = record {
  kind = TokenKind.Clob;
  octets = octets;
  lexeme = λ colon. (place, quoted of_clob octets, ShortText [] (escaped_text of_clob octets) [] tt (clob_quoted octets h) tt refl, refl);
  body = refl;
  short = refl;
}

no_white : (o : ℕ) → is_base64 o ≡ true → not (is_white o) ≡ true
no_white o h = grind (arith, nat_tests)

may_stand : (o : ℕ) → is_base64 o ≡ true → (is_white o || is_base64 o) ≡ true
may_stand o h = or_right (is_white o) (is_base64 o) h

stand_all : (os : List ℕ) → Each is_base64 os → Each (λ o. is_white o || is_base64 o) os
stand_all [] h = tt
stand_all (o ∷ os) h = (may_stand o h.0, stand_all os h.1)

unfiltered : (os : List ℕ) → Each is_base64 os → filter (λ o. not (is_white o)) os ≡ os
unfiltered [] h = refl
unfiltered (o ∷ os) h = rw (no_white o h.0) (ap (λ (x : List ℕ). o ∷ x) (unfiltered os h.1))

-- what is written of a blob is one token that says its octets
pub blob_spelled : (p : Place) (octets r : List ℕ) → is_name p ≡ false → AreOctets octets → Spelling p (blob_text octets) r (Blob octets)
blob_spelled p octets r place h =
    let e = base64_each octets h in
    let is : IsBase64 (filter (λ o. not (is_white o)) (base64_of octets)) octets = record { octets_are = h; spelled = unfiltered (base64_of octets) e } in
    record {
      kind = TokenKind.Blob;
      octets = octets;
      lexeme = λ colon. (place, base64_of octets, (stand_all (base64_of octets) e, is), refl);
      body = refl;
      short = refl;
    }
