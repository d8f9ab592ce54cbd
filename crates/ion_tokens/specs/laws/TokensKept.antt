-- What the tokens of a document say is kept: texts are UTF-8, numbers are in range, and lobs have octets. Crates above cite these names.
use Rattle.std.proofs.Common.{◌≡◌, ℕ, ◌<◌, Bool, true, List, [], ◌∷◌, ◌++◌, length, Option, Some, None, Result, Ok, refl, sym, ◌∙◌, subst, arith, IsUtf8}
use Rattle.std.specs.List.{flat_map, AllByRecursion}
use Rattle.std.proofs.lemmas.Bool.{false≢true}
use Rattle.std.proofs.lemmas.Bool.Decides.{nat_tests}
use Rattle.std.proofs.lemmas.Str.{encode_ascii}
use Rattle.ion_tokens.specs.Names.{AreOctets, Blob, Clob, Content, Element, Fits, Hex, Hidden, Id, IsBody, IsClobContent, IsElement, IsHexAfter, IsLexeme, IsQuoted, IsSegment, IsThere, IsWordBody, Kind, LexesBefore, Long, LongTexts, Mark', Number', Operator, Pair, Place, Placed, Quoted, Raw, RawLine, Reason, SaysNumber, Segment, Short, ShortText, Simple, Style, TokenKind, TypedNull, Word, colon_behind, hex_length, hexadecimal_digit, id_of, is_clob, kind_named, meaning, null_of}
use Rattle.ion_tokens.specs.laws.Blobs.{octets_append}

-- 1. The octets of a lob.

-- a hexadecimal digit is below sixteen
pub digit_small : (o d : ℕ) → hexadecimal_digit o ≡ Some d → d < 16
digit_small o d e = grind (arith, nat_tests)

two_long : (n : ℕ) → hex_length 120 ≡ Some n → n ≡ 2
two_long n e = cc

-- two of them are an octet
pub hex_small : (digits : List ℕ) (c : ℕ) → length digits ≡ 2 → IsHexAfter 0 digits c → c < 256
hex_small [] c e h = absurd (omega arith)
hex_small (a ∷ []) c e h = absurd (omega arith)
hex_small (a ∷ b ∷ []) c e (d, x, (f, y, z)) = let p = digit_small a d x in let q = digit_small b f y in omega arith
hex_small (a ∷ b ∷ x ∷ os) c e h = absurd (omega arith)

by_letter : (letter : ℕ) (digits : List ℕ) (c : ℕ) → letter ≡ 120 → hex_length letter ≡ Some (length digits) → IsHexAfter 0 digits c → c < 256
by_letter letter digits c e l h = hex_small digits c (two_long (length digits) (subst (λ (x : ℕ). hex_length x ≡ Some (length digits)) e l)) h

element_octets : (s : Style) (e : Element) → is_clob s ≡ true → IsElement s e → AreOctets (meaning s e)
element_octets s (Raw c) k h = let low = h.4 k in subst AreOctets (sym (encode_ascii c low)) (omega arith, tt)
element_octets s (RawLine _) k h = (omega arith, tt)
element_octets s (Simple letter o) k h = (grind (arith, nat_tests), tt)
element_octets s (Hidden _) k h = tt
element_octets s (Hex letter digits c) k h = rw k (by_letter letter digits c (h.3 k) h.0 h.1, tt)
element_octets s (Pair _ _ _ _) k h = absurd (false≢true (sym h.0 ∙ k))

elements_octets : (s : Style) (es : List Element) → is_clob s ≡ true → AllByRecursion (IsElement s) es → AreOctets (flat_map (meaning s) es)
elements_octets s [] k h = tt
elements_octets s (e ∷ es) k h = octets_append (meaning s e) (flat_map (meaning s) es) (element_octets s e k h.0) (elements_octets s es k h.1)

quoted_octets : (s : Style) (w octets : List ℕ) → is_clob s ≡ true → IsQuoted s w octets → AreOctets octets
quoted_octets s w octets k h = subst AreOctets (sym h.means) (elements_octets s h.elements k h.each)

segments_octets : (gs : List Segment) → AllByRecursion IsSegment gs → AreOctets (flat_map (λ (g : Segment). g.octets) gs)
segments_octets [] h = tt
segments_octets (g ∷ gs) h = octets_append g.octets _ (quoted_octets Style.LongClob g.content g.octets refl h.0.0) (segments_octets gs h.1)

clob_octets : (content octets : List ℕ) → IsClobContent content octets → AreOctets octets
clob_octets content octets (ShortText before text after b q a e) = quoted_octets Style.ShortClob text octets refl q
clob_octets content octets (LongTexts before gs b n h e f) = subst AreOctets (sym f) (segments_octets gs h)

-- what is known of what is kept of a token of that kind: of a clob and a blob, octets
abbrev pub IsLobKept : TokenKind → List ℕ → Type 0
IsLobKept TokenKind.Clob octets = AreOctets octets
IsLobKept TokenKind.Blob octets = AreOctets octets
IsLobKept _ octets = Unit {0}

-- The octets of the lobs of the grammar are octets.
pub lexeme_kept : (p : Place) (colon : Bool) (w r : List ℕ) (k : TokenKind) (octets : List ℕ) → IsLexeme p colon w r k octets → IsLobKept k octets
lexeme_kept p colon w r TokenKind.Clob octets (n, content, h, e) = clob_octets content octets h
lexeme_kept p colon w r TokenKind.Blob octets (n, content, h, e) = h.1.octets_are
lexeme_kept p colon w r _ octets h = tt

-- 2. What a token says.

-- a text is UTF-8, a number is there and in range, and a lob has octets
abbrev pub IsContentKept : Content → Type 0
IsContentKept (Word w) = IsUtf8 w
IsContentKept (Quoted w) = IsUtf8 w
IsContentKept (Short w) = IsUtf8 w
IsContentKept (Long w) = IsUtf8 w
IsContentKept (Operator w) = IsUtf8 w
IsContentKept (Number' n) = Fits n × IsThere n
IsContentKept (Clob octets) = AreOctets octets
IsContentKept (Blob octets) = AreOctets octets
IsContentKept _ = Unit {0}

number_kept : (octets : List ℕ) (c : Content) → SaysNumber octets c → IsContentKept c
number_kept octets (Number' n) h = (h.1, h.2)
number_kept octets _ h = absurd h

said_by : (c said : Content) → c ≡ said → IsContentKept said → IsContentKept c
said_by c said e h = subst IsContentKept (sym e) h

ok_same : (c said : Content) → Path (Result Content Reason) (Ok c) (Ok said) → c ≡ said
ok_same c said e = cc

word_kept : (octets : List ℕ) (c : Content) (i : Option ℕ) → IsWordBody octets i (Ok c) → IsContentKept c
word_kept octets c None (e, u) = said_by c (Word octets) e u
word_kept octets c (Some n) e = said_by c (Id n) (ok_same c (Id n) e) tt

null_kept : (c : Content) (k : Option Kind) → Ok c ≡ null_of k → IsContentKept c
null_kept c None e = cc
null_kept c (Some k) e = said_by c (TypedNull k) (ok_same c (TypedNull k) e) tt

-- Texts are UTF-8, and numbers are there and in range.
pub body_kept : (k : TokenKind) (octets : List ℕ) (c : Content) → IsLobKept k octets → IsBody k octets (Ok c) → IsContentKept c
body_kept TokenKind.Word octets c l h = word_kept octets c (id_of octets) h
body_kept TokenKind.KindName octets c l h = null_kept c (kind_named octets) h
body_kept TokenKind.Number octets c l h = number_kept octets c h
body_kept TokenKind.Operator octets c l (e, u) = said_by c (Operator octets) e u
body_kept TokenKind.QuotedSymbol octets c l (e, u) = said_by c (Quoted octets) e u
body_kept TokenKind.ShortString octets c l (e, u) = said_by c (Short octets) e u
body_kept TokenKind.LongString octets c l (e, u) = said_by c (Long octets) e u
body_kept TokenKind.Clob octets c l e = said_by c (Clob octets) (ok_same c (Clob octets) e) l
body_kept TokenKind.Blob octets c l e = said_by c (Blob octets) (ok_same c (Blob octets) e) l
body_kept (TokenKind.Mark m) octets c l e = said_by c (Mark' m) (ok_same c (Mark' m) e) tt

-- 3. The tokens of a document.

-- the lobs among the tokens have octets
abbrev pub AreLobsKept : List Placed → Type 0
AreLobsKept ts = AllByRecursion (λ (t : Placed). IsLobKept t.lexeme.kind t.lexeme.octets) ts

-- where the lobs among tokens have octets, those among the first of them do
pub lobs_front : (ts us : List Placed) → AreLobsKept (ts ++ us) → AreLobsKept ts
lobs_front [] us h = tt
lobs_front (t ∷ ts) us h = (h.0, lobs_front ts us h.1)

-- where the lobs among tokens have octets, those among the others behind the first do
pub lobs_rest : (ts us : List Placed) → AreLobsKept (ts ++ us) → AreLobsKept us
lobs_rest [] us h = h
lobs_rest (t ∷ ts) us h = lobs_rest ts us h.1

-- The lobs among the tokens of octets have octets, whatever is left.
pub lexes_lobs : (rest : Bool → ℕ → List ℕ → Type 0) (colon : Bool) (before : ℕ) (octets : List ℕ) (ts : List Placed) → LexesBefore rest colon before octets ts
    → AreLobsKept ts
lexes_lobs rest colon before octets [] h = tt
lexes_lobs rest colon before octets (t ∷ ts) (others, is, h) =
    (lexeme_kept t.place colon is.token others t.lexeme.kind t.lexeme.octets is.is, lexes_lobs rest (colon_behind t) t.lexeme.end others ts h)
