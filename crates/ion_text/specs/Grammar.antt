-- What text documents are (Ion 1.0, "Ion Text Encoding" and "Symbols"), over tokens with blanks alone between them.
use Rattle.std.specs.Prelude.{◌≡◌, ◌⊎◌, ℕ, ◌+◌, ◌-◌, ◌≤◌, ◌==◌, Bool, true, false, ◌&&◌, ◌||◌, List, [], ◌∷◌, ◌++◌, length, Option, Some, Ok, codes}
use Rattle.ion_text.specs.Names.Below.{Blob, Catalog, Clob, Content, Field, Id, IsBlank, IsBody, Kind, Lexes, LexesTo, Limits, Long, Mark, Mark', Number, Number', Operator, Payload, Place, Placed, Quoted, Short, Slot, TokenKind, TypedNull, Value, Word, annotated, depth, field_of, is_digit, is_keyword, is_segment, is_table, next, resolve, system_slots, underscore}
use Rattle.ion_model.specs.declared.value.Payload.TheVariants as payloads

-- 1. Values of one token.

-- the token stands in this place and says this
pub record Says (p : Place) (t : Placed) (said : Content) : Type 0 where
  pub place : t.place ≡ p
  pub body : IsBody t.lexeme.kind t.lexeme.octets (Ok said)

-- a word that is no symbol, or a typed null
abbrev pub IsKeyword : Content → Type 0
IsKeyword (Word w) = is_keyword w ≡ true
IsKeyword (TypedNull k) = Unit {0}
IsKeyword _ = ⊥

-- the token is this symbol: a word, an id of the context, or a text between quotes
pub data IsSymbol (c : List Slot) : Content → Option (List ℕ) → Type 0 where
  is_word : (w : List ℕ) → is_keyword w ≡ false → IsSymbol c (Word w) (Some w)
  is_id : (id : ℕ) (s : Option (List ℕ)) → resolve c id ≡ Ok s → IsSymbol c (Id id) s
  is_quoted : (w : List ℕ) → IsSymbol c (Quoted w) (Some w)

-- one token that is a value by itself, without annotations
pub data IsScalar (c : List Slot) : Content → Payload → Type 0 where
  is_null : IsScalar c (Word (codes "null")) (payloads.Null Kind.Null)
  is_typed_null : (k : Kind) → IsScalar c (TypedNull k) (payloads.Null k)
  is_true : IsScalar c (Word (codes "true")) (payloads.Truth true)
  is_false : IsScalar c (Word (codes "false")) (payloads.Truth false)
  is_int : (z : _) → IsScalar c (Number' (Number.Int z)) (payloads.Int z)
  is_decimal : (d : _) → IsScalar c (Number' (Number.Decimal d)) (payloads.Decimal d)
  is_timestamp : (t : _) → IsScalar c (Number' (Number.Timestamp t)) (payloads.Timestamp t)
  is_symbol : (said : Content) (s : Option (List ℕ)) → IsSymbol c said s → IsScalar c said (payloads.Symbol s)
  is_operator : (w : List ℕ) → IsScalar c (Operator w) (payloads.Symbol (Some w))
  is_short : (w : List ℕ) → IsScalar c (Short w) (payloads.Str w)
  is_clob : (w : List ℕ) → IsScalar c (Clob w) (payloads.Clob w)
  is_blob : (w : List ℕ) → IsScalar c (Blob w) (payloads.Blob w)

-- 2. Annotations, long strings and field names.

-- symbols, each with `::` behind it
pub data Annotations (c : List Slot) (p : Place) : List Placed → List (Option (List ℕ)) → Type 0 where
  no_annotation : Annotations c p [] []
  one_annotation : (ts : List Placed) (ss : List (Option (List ℕ))) (t colons : Placed) (said : Content) (s : Option (List ℕ))
      → Annotations c p ts ss → Says p t said → IsSymbol c said s → Says p colons (Mark' Mark.Colons)
      → Annotations c p (ts ++ t ∷ colons ∷ []) (ss ++ s ∷ [])

-- segments of a long string, which are one text together
pub data Segments (p : Place) : List Placed → List ℕ → Type 0 where
  segment : (t : Placed) (w : List ℕ) → Says p t (Long w) → Segments p (t ∷ []) w
  joined : (ts : List Placed) (v w : List ℕ) (t : Placed) → Segments p ts v → Says p t (Long w) → Segments p (ts ++ t ∷ []) (v ++ w)

-- a field's name: a symbol, a short string, or a long one
pub data IsName (c : List Slot) : List Placed → Option (List ℕ) → Type 0 where
  by_symbol : (t : Placed) (said : Content) (s : Option (List ℕ)) → Says Place.Name t said → IsSymbol c said s → IsName c (t ∷ []) s
  by_short : (t : Placed) (w : List ℕ) → Says Place.Name t (Short w) → IsName c (t ∷ []) (Some w)
  by_long : (ts : List Placed) (w : List ℕ) → Segments Place.Name ts w → IsName c ts (Some w)

-- a segment of a long string
abbrev pub is_long : Placed → Bool
is_long t = is_segment t.lexeme.kind

-- the last of the tokens is such a segment
abbrev pub ends_long : List Placed → Bool
ends_long [] = false
ends_long (t ∷ []) = is_long t
ends_long (t ∷ u ∷ ts) = ends_long (u ∷ ts)

-- the first of them is
abbrev pub begins_long : List Placed → Bool
begins_long [] = false
begins_long (t ∷ ts) = is_long t

-- 3. Values.

-- where a struct's `}` stands: where a name may come, or behind a field
abbrev pub close_place : Bool → Place
close_place true = Place.Name
close_place false = Place.FieldValue

mutual
  -- these tokens in this place are a value of this payload without annotations
  pub data Plain (c : List Slot) : Place → List Placed → Payload → Type 0 where
    one_token : (p : Place) (t : Placed) (said : Content) (q : Payload) → Says p t said → IsScalar c said q → Plain c p (t ∷ []) q
    long_string : (p : Place) (ts : List Placed) (w : List ℕ) → Segments p ts w → Plain c p ts (payloads.Str w)
    is_list : (p : Place) (open' close : Placed) (ts : List Placed) (vs : List Value) (more : Bool)
        → Says p open' (Mark' Mark.ListOpen) → Elements c ts vs more → Says Place.List close (Mark' Mark.ListClose)
        → Plain c p (open' ∷ (ts ++ close ∷ [])) (payloads.List vs)
    is_sexp : (p : Place) (open' close : Placed) (ts : List Placed) (vs : List Value)
        → Says p open' (Mark' Mark.SexpOpen) → Row c ts vs → Says Place.Sexp close (Mark' Mark.SexpClose)
        → Plain c p (open' ∷ (ts ++ close ∷ [])) (payloads.Sexp vs)
    is_struct : (p : Place) (open' close : Placed) (ts : List Placed) (ms : List Field) (more : Bool)
        → Says p open' (Mark' Mark.FieldsOpen) → Members c ts ms more → Says (close_place more) close (Mark' Mark.FieldsClose)
        → Plain c p (open' ∷ (ts ++ close ∷ [])) (payloads.Fields ms)

  -- these tokens in this place are this value
  pub data Means (c : List Slot) : Place → List Placed → Value → Type 0 where
    means : (p : Place) (notes ts : List Placed) (ss : List (Option (List ℕ))) (q : Payload)
        → Annotations c p notes ss → Plain c p ts q → Means c p (notes ++ ts) (annotated ss q)

  -- The elements of a list with commas between, of which one may stand behind the last. The Bool says whether another element may come.
  pub data Elements (c : List Slot) : List Placed → List Value → Bool → Type 0 where
    no_element : Elements c [] [] true
    element : (ts us : List Placed) (vs : List Value) (v : Value)
        → Elements c ts vs true → Means c Place.List us v → Elements c (ts ++ us) (vs ++ v ∷ []) false
    comma : (ts : List Placed) (vs : List Value) (t : Placed)
        → Elements c ts vs false → Says Place.List t (Mark' Mark.Comma) → Elements c (ts ++ t ∷ []) vs true

  -- the elements of an s-expression; no long string stands directly behind a long string, which would be one with it
  pub data Row (c : List Slot) : List Placed → List Value → Type 0 where
    no_item : Row c [] []
    item : (ts us : List Placed) (vs : List Value) (v : Value)
        → Row c ts vs → Means c Place.Sexp us v → (ends_long ts && begins_long us) ≡ false → Row c (ts ++ us) (vs ++ v ∷ [])

  -- the fields of a struct, with commas as in a list
  pub data Members (c : List Slot) : List Placed → List Field → Bool → Type 0 where
    no_field : Members c [] [] true
    field : (ts ns us : List Placed) (colon : Placed) (ms : List Field) (s : Option (List ℕ)) (v : Value)
        → Members c ts ms true → IsName c ns s → Says Place.Name colon (Mark' Mark.Colon) → Means c Place.FieldValue us v
        → Members c (ts ++ (ns ++ colon ∷ us)) (ms ++ field_of s v ∷ []) false
    field_comma : (ts : List Placed) (ms : List Field) (t : Placed)
        → Members c ts ms false → Says Place.FieldValue t (Mark' Mark.Comma) → Members c (ts ++ t ∷ []) ms true

-- 4. Version markers.

-- digits, at least one, and behind them what `rest` tests
abbrev pub digits_then : (List ℕ → Bool) → List ℕ → Bool
digits_then rest [] = false
digits_then rest (o ∷ os) = is_digit o && (digits_then rest os || rest os)

-- digits alone, at least one
abbrev pub some_digits : List ℕ → Bool
some_digits = digits_then (λ os. length os == 0)

-- digits, `_` and digits
abbrev pub version_parts : List ℕ → Bool
version_parts = digits_then behind where
  behind : List ℕ → Bool
  behind [] = false
  behind (o ∷ os) = (o == underscore) && some_digits os

-- these octets, and behind them what f tests
abbrev pub behind_front : List ℕ → List ℕ → (List ℕ → Bool) → Bool
behind_front [] w f = f w
behind_front (o ∷ os) [] f = false
behind_front (o ∷ os) (x ∷ xs) f = (o == x) && behind_front os xs f

-- `$ion_`, digits, `_` and digits
abbrev pub is_version : List ℕ → Bool
is_version w = behind_front (codes "$ion_") w version_parts

-- the version marker of Ion 1.0
abbrev pub the_marker : List ℕ
the_marker = codes "$ion_1_0"

-- the tokens are one word of that form: neither annotated nor between quotes
abbrev pub is_version_word : List Placed → Bool
is_version_word (t ∷ []) = of_kind t.lexeme.kind where
  of_kind : TokenKind → Bool
  of_kind TokenKind.Word = is_version t.lexeme.octets
  of_kind _ = false
is_version_word _ = false

-- 5. Documents.

-- `''`, the symbol of empty text
abbrev pub is_two_quotes : TokenKind → ℕ → ℕ → Bool
is_two_quotes TokenKind.QuotedSymbol start end = end == start + 2
is_two_quotes _ start end = false

-- the first of the tokens is a segment of a long string or begins like one; behind a long string at the top level none may stand
abbrev pub begins_as_long : List Placed → Bool
begins_as_long [] = false
begins_as_long (t ∷ ts) = is_long t || is_two_quotes t.lexeme.kind t.lexeme.start t.lexeme.end

-- how many octets the tokens span, those between them counted
abbrev pub end_of : ℕ → List Placed → ℕ
end_of end [] = end
end_of end (t ∷ ts) = end_of t.lexeme.end ts

-- how many octets the tokens span, from where the first begins to where the last ends
abbrev pub span : List Placed → ℕ
span [] = 0
span (t ∷ ts) = end_of t.lexeme.end ts - t.lexeme.start

-- The tokens are version markers, local symbol tables and values, each of at most the depth and the octets of the limits. These are the
-- values, and this is the context behind them: a marker makes it that of the system slots, a table changes it.
pub data Pieces (g : Catalog) (l : Limits) : List Placed → List Value → List Slot → Type 0 where
  begins : Pieces g l [] [] system_slots
  marked : (ts : List Placed) (s : List Value) (c : List Slot) (t : Placed)
      → Pieces g l ts s c → Says Place.Top t (Word the_marker) → span (t ∷ []) ≤ l.item → Pieces g l (ts ++ t ∷ []) s system_slots
  turns : (ts us : List Placed) (s : List Value) (c d : List Slot) (v : Value)
      → Pieces g l ts s c → Means c Place.Top us v → is_table v ≡ true → next c v g ≡ Ok d → depth v ≤ l.depth → span us ≤ l.item
      → (ends_long ts && begins_as_long us) ≡ false → Pieces g l (ts ++ us) s d
  holds : (ts us : List Placed) (s : List Value) (c : List Slot) (v : Value)
      → Pieces g l ts s c → Means c Place.Top us v → is_table v ≡ false → is_version_word us ≡ false → depth v ≤ l.depth
      → span us ≤ l.item → (ends_long ts && begins_as_long us) ≡ false → Pieces g l (ts ++ us) (s ++ v ∷ []) c

-- the octets are a document with these values
pub record Document (g : Catalog) (l : Limits) (w : List ℕ) (s : List Value) : Type 0 where
  pub tokens : List Placed
  pub context : List Slot
  pub lexed : Lexes false 0 w tokens
  pub pieces : Pieces g l tokens s context

-- 6. What is read of a document so far.

-- r is a blank and then these octets
abbrev pub BlankThen : List ℕ → List ℕ → Type 0
BlankThen octets r = (blank more : List ℕ) × IsBlank blank × (r ≡ blank ++ octets ++ more)

-- The first octets, where the second follow them, are whole pieces at the front of a document, with these values: behind the last piece
-- stands a blank, and what follows doesn't make it longer. A colon may stand behind a symbol, and there `::` would make it an annotation.
pub record Whole (g : Catalog) (l : Limits) (front following : List ℕ) (s : List Value) : Type 0 where
  pub tokens : List Placed
  pub context : List Slot
  pub colon : Bool
  pub end : ℕ
  pub blank : List ℕ
  pub lexed : LexesTo false 0 (front ++ following) tokens colon end (blank ++ following)
  pub is_blank : IsBlank blank
  pub pieces : Pieces g l tokens s context
  pub no_annotation : colon ≡ true → BlankThen (codes "::") (blank ++ following) → ⊥
  pub no_segment : ends_long tokens ≡ true → BlankThen (codes "''") (blank ++ following) → ⊥

-- Behind whole pieces these octets may stand open: a blank and an item's octets, at most as many as the limit, and behind them a
-- prefix of a blank, or a blank and `:`, `'` or `''`.
pub record OpenRest (l : Limits) (rest : List ℕ) : Type 0 where
  pub before : List ℕ
  pub item : List ℕ
  pub blank : List ℕ
  pub behind : List ℕ
  pub parts : rest ≡ (before ++ item) ++ (blank ++ behind)
  pub is_before : IsBlank before
  pub fits : length item ≤ l.item
  pub is_blank : (more : List ℕ) × IsBlank (blank ++ more)
  pub shut : (behind ≡ []) ⊎ (IsBlank blank × ((behind ≡ codes ":") ⊎ ((behind ≡ codes "'") ⊎ (behind ≡ codes "''"))))
