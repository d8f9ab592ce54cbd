-- What is written of a stream of values is a document with these values.
use Rattle.std.proofs.Common.{◌≡◌, ℕ, ◌+◌, Bool, true, false, List, [], ◌∷◌, ◌++◌, length, inl, refl, sym, ◌∙◌, subst, arith, append_assoc, append-nil}
use Rattle.std.specs.Prelude.{◌==◌, ◌||◌, ◌&&◌}
use Rattle.std.specs.List.{flat_map, AllByRecursion}
use Rattle.std.proofs.lemmas.Bool.{and_right, false≢true, or_parts}
use Rattle.std.proofs.lemmas.Bool.Decides.{nat_tests}
use Rattle.ion_text.specs.Names.{AreKept, BlankPiece, Catalog, Document, FitsIn, IsBlank, IsBlankPiece, IsKept, IsLastBlank, IsLexeme, Lexes, LexesTo, Limits, Means, NoTables, Pieces, Place, Placed, TokenKind, Value, ValueFits, White, begins, begins_as_long, blank_spelling, ends_long, holds, is_table, is_version, is_version_word, is_white, system_slots, text_of, value_text}
use Rattle.ion_text.specs.laws.writing.ValuesWritten.{bad_octet, line_stops, nothing_stops, starts_badly, value_no_colon, value_written}
use Rattle.ion_text.specs.laws.writing.Written.{NoneLong, Written, lexes_end, none_long, span_within, tokens, white_before}

-- 1. No value is written as the marker of a version.

no_version : (w : List ℕ) → starts_badly w ≡ false → is_version w ≡ false
no_version [] h = refl
no_version (o ∷ []) h = and_right (36 == o) false refl
no_version (o ∷ p ∷ os) h = by (bad_octet o) (36 == o) (105 == p) _ h where
  by : (k x y z : Bool) → (k || (x && y)) ≡ false → (x && (y && z)) ≡ false
  by true true true z h = absurd (false≢true (sym h))
  by false true true z h = absurd (false≢true (sym h))
  by k _ _ z h = refl

-- a blank in front begins badly
blank_badly : (w r : List ℕ) → IsBlank w → starts_badly (w ++ r) ≡ false → w ≡ []
blank_badly w r b h = by b.pieces b.each b.spelled where
  first : (o : ℕ) (os : List ℕ) → bad_octet o ≡ true → w ≡ o ∷ os → w ≡ []
  first o os bad e = absurd (clash (os ++ r) (subst (λ (x : List ℕ). starts_badly (x ++ r) ≡ false) e h)) where
    clash : (x : List ℕ) → starts_badly (o ∷ x) ≡ false → ⊥
    clash [] g = false≢true (sym g ∙ bad)
    clash (p ∷ x) g = false≢true (sym (or_parts (bad_octet o) _ g).0 ∙ bad)

  white : (o : ℕ) → is_white o ≡ true → bad_octet o ≡ true
  white o g = grind (arith, nat_tests)

  by : (ps : List BlankPiece) → AllByRecursion IsBlankPiece ps → w ≡ flat_map blank_spelling ps → w ≡ []
  by [] each e = e
  by (White o ∷ ps) each e = first o _ (white o each.0) e
  by _ each e = first 47 _ refl e

bad_front : (w r : List ℕ) → starts_badly (w ++ r) ≡ false → starts_badly w ≡ false
bad_front [] r h = refl
bad_front (a ∷ []) (b ∷ r) h = (or_parts (bad_octet a) _ h).0
bad_front _ _ h = h

-- a token of these parts
abbrev placed_token : Place → ℕ → ℕ → TokenKind → List ℕ → Placed
placed_token p start end kind octets = record { place = p; lexeme = record { start = start; end = end; kind = kind; octets = octets } }

-- the octets of a token at the front
word_of : (p : Place) (start end : ℕ) (kind : TokenKind) (octets : List ℕ) (colon : Bool) (w r : List ℕ) → IsLexeme p colon w r kind octets
    → starts_badly (w ++ r) ≡ false → is_version_word (placed_token p start end kind octets ∷ []) ≡ false
word_of p start end TokenKind.Word octets colon w r h g = no_version octets (subst (λ (x : List ℕ). starts_badly x ≡ false) (sym h.0) (bad_front w r g))
word_of p start end _ octets colon w r h g = refl

no_marker : (colon : Bool) (before : ℕ) (octets : List ℕ) (t : Placed) (ts : List Placed) (after : Bool) (end : ℕ) (rest : List ℕ)
    → LexesTo colon before octets (t ∷ ts) after end rest → starts_badly octets ≡ false → is_version_word (t ∷ ts) ≡ false
no_marker colon before octets t (u ∷ ts) after end rest h g = refl
no_marker colon before octets t [] after end rest (others, b, h) g =
    let whole = b.cut ∙ append_assoc b.blank b.token others in
    let g' = subst (λ (x : List ℕ). starts_badly x ≡ false) whole g in
    let none = blank_badly b.blank (b.token ++ others) b.is_blank g' in
    word_of t.place t.lexeme.start t.lexeme.end t.lexeme.kind t.lexeme.octets colon b.token others b.is
    (subst (λ (x : List ℕ). starts_badly (x ++ (b.token ++ others)) ≡ false) none g')

-- 2. Lines.

-- no long string ends tokens of which none is one
ends_short : (ts : List Placed) → NoneLong ts → ends_long ts ≡ false
ends_short [] h = refl
ends_short (t ∷ []) h = h.0
ends_short (t ∷ u ∷ ts) h = ends_short (u ∷ ts) h.1

behind_short : (ts us : List Placed) → NoneLong ts → (ends_long ts && begins_as_long us) ≡ false
behind_short ts us h = rw (ends_short ts h) refl

no_more : IsLastBlank []
no_more = inl (record { pieces = []; each = tt; spelled = refl })

last_line : IsLastBlank (10 ∷ [])
last_line = inl (record { pieces = White 10 ∷ []; each = (refl, tt); spelled = refl })

one_line : (v : Value) (vs : List Value) → text_of (v ∷ vs) ≡ value_text v ++ (10 ∷ text_of vs)
one_line v vs = append_assoc (value_text v) (10 ∷ []) (text_of vs)

module _ (g : Catalog) (l : Limits) where
  -- pieces of what is written: no table among them, no marker, and no long string
  record WrittenPieces (ts : List Placed) (s : List Value) : Type 0 where
    pieces : Pieces g l ts s system_slots
    short : NoneLong ts

  -- behind a value: its line's end, and the lines of the other values
  record Lines (us : List Placed) (done vs : List Value) (colon : Bool) (before : ℕ) : Type 0 where
    tokens : List Placed
    lexes : Lexes colon before (10 ∷ text_of vs) tokens
    pieces : Pieces g l (us ++ tokens) (done ++ vs) system_slots

  abbrev MeansAtTop : Value → List Placed → Type 0
  MeansAtTop v ts = Means system_slots Place.Top ts v

  -- one value more
  value_holds : (us : List Placed) (done : List Value) (v : Value) (at : ℕ) (rest : List ℕ) → WrittenPieces us done → IsKept v → is_table v ≡ false
      → ValueFits l v → (h : Written (MeansAtTop v) at (value_text v) rest) → WrittenPieces (us ++ tokens h) (done ++ v ∷ [])
  value_holds us done v at rest w k no_table fits h =
      let n = no_marker false at (value_text v ++ rest) h.first h.others h.after (at + length (value_text v)) rest (h.lexes false) (value_no_colon v k rest) in
      let s = span_within false at (value_text v ++ rest) (tokens h) h.after (at + length (value_text v)) rest (h.lexes false) in
      let long = fits.long in
      record {
        pieces = holds us (tokens h) done system_slots v w.pieces h.is no_table n fits.deep (omega arith) (behind_short us (tokens h) w.short);
        short = none_long us (tokens h) w.short h.short;
      }

  lines : (us : List Placed) (done : List Value) → WrittenPieces us done → (vs : List Value) → AreKept vs → NoTables vs → FitsIn l vs
      → (colon : Bool) (before : ℕ) → Lines us done vs colon before
  lines us done w [] k n f colon before = record {
    tokens = [];
    lexes = last_line;
    pieces = subst (λ (x : List Placed). Pieces g l x (done ++ []) system_slots) (sym (append-nil us))
        (subst (λ (x : List Value). Pieces g l us x system_slots) (sym (append-nil done)) w.pieces);
  }
  lines us done w (v ∷ vs) k n f colon before =
      let rest = 10 ∷ text_of vs in
      let h = value_written system_slots v k.0 Place.Top refl (before + 1) rest (line_stops (text_of vs)) in
      let ts = tokens h in
      let more = lines (us ++ ts) (done ++ v ∷ []) (value_holds us done v (before + 1) rest w k.0 n.0 f.0 h) vs k.1 n.1 f.1 h.after
      (before + 1 + length (value_text v)) in
      record {
        tokens = ts ++ more.tokens;
        lexes = subst (λ (x : List ℕ). Lexes colon before (10 ∷ x) (ts ++ more.tokens)) (sym (one_line v vs))
            (white_before 10 refl (λ c b o. IsLastBlank o) colon before (value_text v ++ rest) h.first (h.others ++ more.tokens)
            (lexes_end (λ c b o. IsLastBlank o) colon (before + 1) (value_text v ++ rest) ts more.tokens h.after (before + 1 + length (value_text v)) rest
            (h.lexes colon) more.lexes));
        pieces = subst (λ (x : List Placed). Pieces g l x (done ++ v ∷ vs) system_slots) (append_assoc us ts more.tokens)
            (subst (λ (x : List Value). Pieces g l ((us ++ ts) ++ more.tokens) x system_slots) (append_assoc done (v ∷ []) vs) more.pieces);
      }

  -- the text that is written of a stream of values is a document with these values
  pub round_trip : (s : List Value) → AreKept s → NoTables s → FitsIn l s → Document g l (text_of s) s
  round_trip [] k n f = record { tokens = []; context = system_slots; lexed = no_more; pieces = begins }
  round_trip (v ∷ vs) k n f =
      let rest = 10 ∷ text_of vs in
      let h = value_written system_slots v k.0 Place.Top refl 0 rest (line_stops (text_of vs)) in
      let ts = tokens h in
      let more = lines ts (v ∷ []) (value_holds [] [] v 0 rest (record { pieces = begins; short = tt }) k.0 n.0 f.0 h) vs k.1 n.1 f.1 h.after
      (0 + length (value_text v)) in
      record {
        tokens = ts ++ more.tokens;
        context = system_slots;
        lexed = subst (λ (x : List ℕ). Lexes false 0 x (ts ++ more.tokens)) (sym (one_line v vs))
            (lexes_end (λ c b o. IsLastBlank o) false 0 (value_text v ++ rest) ts more.tokens h.after (0 + length (value_text v)) rest (h.lexes false)
            more.lexes);
        pieces = more.pieces;
      }

  -- the text of one value, without its line's end, is a document with this value
  pub value_alone : (v : Value) → AreKept (v ∷ []) → NoTables (v ∷ []) → FitsIn l (v ∷ []) → Document g l (value_text v) (v ∷ [])
  value_alone v k n f =
      let h = value_written system_slots v k.0 Place.Top refl 0 [] nothing_stops in
      let ts = tokens h in
      record {
        tokens = ts;
        context = system_slots;
        lexed = subst (λ (x : List ℕ). Lexes false 0 x ts) (append-nil (value_text v))
            (subst (Lexes false 0 (value_text v ++ [])) (append-nil ts)
            (lexes_end (λ c b o. IsLastBlank o) false 0 (value_text v ++ []) ts [] h.after (0 + length (value_text v)) [] (h.lexes false) no_more));
        pieces = (value_holds [] [] v 0 [] (record { pieces = begins; short = tt }) k.0 n.0 f.0 h).pieces;
      }
