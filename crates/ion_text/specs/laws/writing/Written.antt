-- Octets that are written one behind the other are tokens one behind the other.
use Rattle.std.proofs.Common.{◌≡◌, ℕ, ◌+◌, ◌-◌, ◌≤◌, Bool, true, false, List, [], ◌∷◌, ◌++◌, length, refl, sym, ap, subst, arith, append_assoc, length-append}
use Rattle.std.specs.List.{AllByRecursion}
use Rattle.ion_text.specs.Names.{Content, IsBlank, IsLexeme, LexesBefore, LexesTo, Mark, Mark', MarkEnds, MarkStands, Place, Placed, Says, TokenKind, White, is_long, is_white, mark_spelling, span, takes_colon}
use Rattle.ion_text.specs.Grammar.{end_of}
use Rattle.ion_text.specs.laws.writing.Spelled.{Spelling}

-- 1. Tokens of octets.

-- the token of these octets behind so many others, in this place
abbrev pub placed : Place → ℕ → List ℕ → TokenKind → List ℕ → Placed
placed p before w kind kept = record { place = p; lexeme = record { start = before; end = before + length w; kind = kind; octets = kept } }

no_blank : IsBlank []
no_blank = record { pieces = []; each = tt; spelled = refl }

-- a token with nothing in front
pub token_lexes : (p : Place) (colon : Bool) (before : ℕ) (w rest : List ℕ) (kind : TokenKind) (kept : List ℕ) → IsLexeme p colon w rest kind kept
    → LexesTo colon before (w ++ rest) (placed p before w kind kept ∷ []) (takes_colon p kind) (before + length w) rest
token_lexes p colon before w rest kind kept h =
    (rest, record { blank = []; token = w; is_blank = no_blank; cut = refl; start = omega arith; end = omega arith; is = h }, (refl, refl, refl))

-- tokens behind tokens
pub lexes_then : (colon : Bool) (before : ℕ) (octets : List ℕ) (ts us : List Placed) (c : Bool) (e : ℕ) (mid : List ℕ) (after : Bool) (end : ℕ) (rest : List ℕ)
    → LexesTo colon before octets ts c e mid → LexesTo c e mid us after end rest → LexesTo colon before octets (ts ++ us) after end rest
lexes_then colon before octets [] us c e mid after end rest h k =
    subst (λ (x : Bool). LexesTo x before octets us after end rest) (sym h.0)
    (subst (λ (x : ℕ). LexesTo c x octets us after end rest) (sym h.1) (subst (λ (x : List ℕ). LexesTo c e x us after end rest) (sym h.2) k))
lexes_then colon before octets (t ∷ ts) us c e mid after end rest (others, b, h) k =
    (others, b, lexes_then (takes_colon t.place t.lexeme.kind) t.lexeme.end others ts us c e mid after end rest h k)

-- tokens, and what goes on behind them
pub lexes_end : (R : Bool → ℕ → List ℕ → Type 0) (colon : Bool) (before : ℕ) (octets : List ℕ) (ts us : List Placed) (c : Bool) (e : ℕ) (mid : List ℕ)
    → LexesTo colon before octets ts c e mid → LexesBefore R c e mid us → LexesBefore R colon before octets (ts ++ us)
lexes_end R colon before octets [] us c e mid h k =
    subst (λ (x : Bool). LexesBefore R x before octets us) (sym h.0)
    (subst (λ (x : ℕ). LexesBefore R c x octets us) (sym h.1) (subst (λ (x : List ℕ). LexesBefore R c e x us) (sym h.2) k))
lexes_end R colon before octets (t ∷ ts) us c e mid (others, b, h) k =
    (others, b, lexes_end R (takes_colon t.place t.lexeme.kind) t.lexeme.end others ts us c e mid h k)

-- the last token ends where the rest begins
end_is : (from : ℕ) (ts : List Placed) (colon : Bool) (octets : List ℕ) (after : Bool) (end : ℕ) (rest : List ℕ) → LexesTo colon from octets ts after end rest
    → end_of from ts ≡ end
end_is from [] colon octets after end rest h = h.1
end_is from (t ∷ ts) colon octets after end rest (others, b, h) = end_is t.lexeme.end ts _ others after end rest h

-- tokens span no more than the octets between where they may begin and where they end
pub span_within : (colon : Bool) (before : ℕ) (octets : List ℕ) (ts : List Placed) (after : Bool) (end : ℕ) (rest : List ℕ)
    → LexesTo colon before octets ts after end rest → span ts ≤ end - before
span_within colon before octets [] after end rest h = omega arith
span_within colon before octets (t ∷ ts) after end rest (others, b, h) =
    let e = end_is t.lexeme.end ts _ others after end rest h in
    let s = b.start in
    omega arith

-- 2. What is written.

-- none of them is a segment of a long string
abbrev pub NoneLong : List Placed → Type 0
NoneLong ts = AllByRecursion (λ (t : Placed). is_long t ≡ false) ts

-- tokens and others behind them have no segment where none of either has
pub none_long : (ts us : List Placed) → NoneLong ts → NoneLong us → NoneLong (ts ++ us)
none_long [] us h k = k
none_long (t ∷ ts) us h k = (h.0, none_long ts us h.1 k)

-- Behind `before` octets, w before rest is one or more tokens, with blanks between, of which `Is` holds. None is long.
pub record Written (Is : List Placed → Type 0) (before : ℕ) (w rest : List ℕ) : Type 0 where
  pub first : Placed
  pub others : List Placed
  pub after : Bool
  pub lexes : (colon : Bool) → LexesTo colon before (w ++ rest) (first ∷ others) after (before + length w) rest
  pub short : NoneLong (first ∷ others)
  pub is : Is (first ∷ others)

-- its tokens
abbrev pub tokens : {Is : List Placed → Type 0} {before : ℕ} {w rest : List ℕ} → Written Is before w rest → List Placed
tokens h = h.first ∷ h.others

-- octets behind octets
pub both_lex : (colon : Bool) (before : ℕ) (x y rest : List ℕ) (ts us : List Placed) (c after : Bool)
    → LexesTo colon before (x ++ (y ++ rest)) ts c (before + length x) (y ++ rest)
    → LexesTo c (before + length x) (y ++ rest) us after ((before + length x) + length y) rest
    → LexesTo colon before ((x ++ y) ++ rest) (ts ++ us) after (before + length (x ++ y)) rest
both_lex colon before x y rest ts us c after h k =
    let longer : (before + length x) + length y ≡ before + length (x ++ y) = omega (arith, length-append x y) in
    subst (λ (n : ℕ). LexesTo colon before ((x ++ y) ++ rest) (ts ++ us) after n rest) longer
    (subst (λ (o : List ℕ). LexesTo colon before o (ts ++ us) after ((before + length x) + length y) rest) (sym (append_assoc x y rest))
    (lexes_then colon before (x ++ (y ++ rest)) ts us c (before + length x) (y ++ rest) after ((before + length x) + length y) rest h k))

-- what is written as tokens, and what is behind it as others, is written as all of them
pub both : (Is Js Ks : List Placed → Type 0) (before : ℕ) (x y rest : List ℕ) (h : Written Is before x (y ++ rest)) (k : Written Js (before + length x) y rest)
    → Ks (tokens h ++ tokens k) → Written Ks before (x ++ y) rest
both Is Js Ks before x y rest h k is = record {
  first = h.first;
  others = h.others ++ tokens k;
  after = k.after;
  lexes = λ colon. both_lex colon before x y rest (tokens h) (tokens k) h.after k.after (h.lexes colon) (k.lexes h.after);
  short = none_long (tokens h) (tokens k) h.short k.short;
  is = is;
}

-- what is written as tokens is so for whatever else holds of them
pub written_as : (Is Js : List Placed → Type 0) (before : ℕ) (w rest : List ℕ) (h : Written Is before w rest) → Js (tokens h) → Written Js before w rest
written_as Is Js before w rest h is = record { first = h.first; others = h.others; after = h.after; lexes = h.lexes; short = h.short; is = is }

-- one white octet in front
white_blank : (o : ℕ) (b : List ℕ) → is_white o ≡ true → IsBlank b → IsBlank (o ∷ b)
white_blank o b h k = record { pieces = White o ∷ k.pieces; each = (h, k.each); spelled = ap (λ (x : List ℕ). o ∷ x) k.spelled }

-- a white octet may stand before tokens
pub white_before : (o : ℕ) → is_white o ≡ true → (R : Bool → ℕ → List ℕ → Type 0) (colon : Bool) (before : ℕ) (octets : List ℕ) (t : Placed) (ts : List Placed)
    → LexesBefore R colon (before + 1) octets (t ∷ ts) → LexesBefore R colon before (o ∷ octets) (t ∷ ts)
white_before o white R colon before octets t ts (others, b, h) = (
  others,
  record {
    blank = o ∷ b.blank;
    token = b.token;
    is_blank = white_blank o b.blank white b.is_blank;
    cut = ap (λ (x : List ℕ). o ∷ x) b.cut;
    start =
        omega (arith, b.start);
    end = omega (arith, b.end);
    is = b.is;
  },
  h,
)

-- the same of what is written
pub white_written : (o : ℕ) → is_white o ≡ true → (Is : List Placed → Type 0) (before : ℕ) (w rest : List ℕ) → Written Is (before + 1) w rest
    → Written Is before (o ∷ w) rest
white_written o white Is before w rest h = record {
  first = h.first;
  others = h.others;
  after = h.after;
  lexes = λ colon. subst (λ (n : ℕ). LexesTo colon before (o ∷ (w ++ rest)) (tokens h) h.after n rest) (omega arith)
      (white_before o white _ colon before (w ++ rest) h.first h.others (h.lexes colon));
  short = h.short;
  is = h.is;
}

-- 3. One token, and a mark before others.

-- one token that says this
pub data One (p : Place) (said : Content) : List Placed → Type 0 where
  one : (t : Placed) → Says p t said → One p said (t ∷ [])

-- the spelling of what a token says is written as one token
pub one_written : (p : Place) (before : ℕ) (w rest : List ℕ) (said : Content) → Spelling p w rest said → Written (One p said) before w rest
one_written p before w rest said h = record {
  first = placed p before w h.kind h.octets;
  others = [];
  after = takes_colon p h.kind;
  lexes = λ colon. token_lexes p colon before w rest h.kind h.octets (h.lexeme colon);
  short = (h.short, tt);
  is = one (placed p before w h.kind h.octets) (record { place = refl; body = h.body });
}

-- a mark that stands wherever a colon may or may not
pub free_mark : (p : Place) (m : Mark) (before : ℕ) (rest : List ℕ) → ((colon : Bool) → MarkStands p colon m) → MarkEnds m rest
    → Written (One p (Mark' m)) before (mark_spelling m) rest
free_mark p m before rest stands ends =
    one_written p before (mark_spelling m) rest (Mark' m) (record {
      kind = TokenKind.Mark m;
      octets = [];
      lexeme =
          λ colon. (refl, refl, stands colon, ends);
      body = refl;
      short = refl;
    })

-- a mark, wherever it stands
pub record MarkWritten (p : Place) (m : Mark) (before : ℕ) (rest : List ℕ) : Type 0 where
  pub token : Placed
  pub is : Says p token (Mark' m)
  pub short : is_long token ≡ false
  pub lexes : (colon : Bool) → MarkStands p colon m → LexesTo colon before (mark_spelling m ++ rest) (token ∷ []) false (before + length (mark_spelling m)) rest

-- a mark before octets that don't make it longer is written as one token
pub mark_written : (p : Place) (m : Mark) (before : ℕ) (rest : List ℕ) → MarkEnds m rest → MarkWritten p m before rest
mark_written p m before rest ends = record {
  token = placed p before (mark_spelling m) (TokenKind.Mark m) [];
  is = record { place = refl; body = refl };
  short = refl;
  lexes = λ colon stands. token_lexes p colon before (mark_spelling m) rest (TokenKind.Mark m) [] (refl, refl, stands, ends);
}

-- a mark, and what is written behind it
pub mark_then : (p : Place) (m : Mark) (Js Ks : List Placed → Type 0) (before : ℕ) (y rest : List ℕ) → ((colon : Bool) → MarkStands p colon m)
    → (k : MarkWritten p m before (y ++ rest)) (h : Written Js (before + length (mark_spelling m)) y rest) → Ks (k.token ∷ tokens h)
    → Written Ks before (mark_spelling m ++ y) rest
mark_then p m Js Ks before y rest stands k h is = record {
  first = k.token;
  others = tokens h;
  after = h.after;
  lexes = λ colon. both_lex colon before (mark_spelling m) y rest (k.token ∷ []) (tokens h) false h.after (k.lexes colon (stands colon)) (h.lexes false);
  short = (k.short, h.short);
  is = is;
}
