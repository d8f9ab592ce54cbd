-- A word or an operator is borrowed of the piece in which it lies whole.
use Rattle.std.proofs.Common.{◌≡◌, ◌≢◌, ℕ, ◌+◌, ◌-◌, ◌<◌, ◌≤◌, Bool, false, List, [], ◌∷◌, ◌++◌, length, take, drop, refl, sym, ap, ◌∙◌, subst, arith, append_assoc, append-nil, length-append, Option, Some, None, Ok}
use Rattle.std.specs.Cow.{cow_str_bytes}
use Rattle.std.proofs.lemmas.List.{take-append-drop}
use Rattle.std.proofs.Math.Seq.{drop-append_seam, drop-append-add}
use Rattle.ion_tokens.specs.Names.{Blob, Clob, Id, Mark', Number', BeginsLexed, Body, BorrowsAt, BorrowsFrom, Content, EndsSo, IsBody, IsLentBody, IsLexeme, IsOwnedBody, IsWordBody, Kind, Known, Lexeme, LexesBefore, Operator, Place, Placed, Scanned, StandIn, Stepped, Tells, Token, TokenKind, TypedNull, Word, id_of, kind_named, null_of}
use Rattle.ion_tokens.specs.Bodies.{content}
use Rattle.ion_tokens.proofs.complete.Wholes.{some_octet}
use Rattle.ion_tokens.proofs.histories.Stepped.{begins_told, front_is, scanned_used}

-- the kinds whose octets are kept as they are
abbrev IsKept : TokenKind → Type 0
IsKept TokenKind.Word = Unit {0}
IsKept TokenKind.Operator = Unit {0}
IsKept _ = ⊥

-- The last of the tokens that octets begin with: what stands before it, and its octets, of which there is one at least.
pub record LastOf (before : ℕ) (octets : List ℕ) (l : Lexeme) : Type 0 where
  pub front : List ℕ
  pub token : List ℕ
  pub rest : List ℕ
  pub cut : octets ≡ front ++ (token ++ rest)
  pub start : l.start ≡ before + length front
  pub end : l.end ≡ (before + length front) + length token
  pub some : token ≢ []
  pub kept : IsKept l.kind → l.octets ≡ token

kept_is : (p : Place) (colon : Bool) (w r : List ℕ) (kind : TokenKind) (kept : List ℕ) → IsLexeme p colon w r kind kept → IsKept kind → kept ≡ w
kept_is p colon w r TokenKind.Word kept h k = h.0
kept_is p colon w r TokenKind.Operator kept h k = h.0
kept_is p colon w r _ kept h k = absurd k

last_of : (End : Bool → ℕ → List ℕ → Type 0) (ts : List Placed) (t : Placed) (colon : Bool) (before : ℕ) (octets : List ℕ)
    → LexesBefore End colon before octets (ts ++ t ∷ []) → LastOf before octets t.lexeme
last_of End [] t colon before octets (rest, b, l) = record {
  front = b.blank;
  token = b.token;
  rest = rest;
  cut = b.cut ∙ append_assoc b.blank b.token rest;
  start = b.start;
  end = b.end;
  some = λ none. some_octet t.place colon rest t.lexeme.kind t.lexeme.octets
      (subst (λ w. IsLexeme t.place colon w rest t.lexeme.kind t.lexeme.octets) none b.is);
  kept = λ k. kept_is t.place colon b.token rest t.lexeme.kind t.lexeme.octets b.is k;
}
last_of End (x ∷ ts) t colon before octets (rest, b, l) =
    let h = last_of End ts t _ x.lexeme.end rest l in
    let size = length-append b.blank b.token in
    let longer = length-append (b.blank ++ b.token) h.front in
    record {
      front = (b.blank ++ b.token) ++ h.front;
      token = h.token;
      rest = h.rest;
      cut = b.cut ∙ ap (λ o. (b.blank ++ b.token) ++ o) h.cut ∙ sym (append_assoc (b.blank ++ b.token) h.front (h.token ++ h.rest));
      start = omega (arith, h.start, b.end, size, longer);
      end = omega (arith, h.end, b.end, size, longer);
      some = h.some;
      kept = h.kept;
    }

-- what a word or an operator says
abbrev named : Content → Option (List ℕ)
named (Word w) = Some w
named (Operator w) = Some w
named _ = None

-- that is its octets
kept_octets : (k : TokenKind) (octets w : List ℕ) (c : Content) → named c ≡ Some w → IsBody k octets (Ok c) → (w ≡ octets) × IsKept k
kept_octets TokenKind.Word octets w c n h = by (id_of octets) h where
  by : (id : Option ℕ) → IsWordBody octets id (Ok c) → (w ≡ octets) × Unit {0}
  by None h = (let e : Some w ≡ Some octets = sym n ∙ ap named h.0 in cc, tt)
  by (Some id) h = let e : c ≡ Id id = cc in let f : Some w ≡ None = sym n ∙ ap named e in cc
kept_octets TokenKind.KindName octets w c n h = by (kind_named octets) h where
  by : (kind : Option Kind) → Ok c ≡ null_of kind → (w ≡ octets) × ⊥
  by None e = cc
  by (Some kind) e = let f : c ≡ TypedNull kind = cc in let g : Some w ≡ None = sym n ∙ ap named f in cc
kept_octets TokenKind.Number octets w (Number' x) n h = cc
kept_octets TokenKind.Number octets w _ n h = absurd h
kept_octets TokenKind.Operator octets w c n h = (let e : Some w ≡ Some octets = sym n ∙ ap named h.0 in cc, tt)
kept_octets TokenKind.Clob octets w c n h = let e : c ≡ Clob octets = cc in let f : Some w ≡ None = sym n ∙ ap named e in cc
kept_octets TokenKind.Blob octets w c n h = let e : c ≡ Blob octets = cc in let f : Some w ≡ None = sym n ∙ ap named e in cc
kept_octets (TokenKind.Mark m) octets w c n h = let e : c ≡ Mark' m = cc in let f : Some w ≡ None = sym n ∙ ap named e in cc
kept_octets _ octets w c n h = let f : Some w ≡ None = sym n ∙ ap named h.0 in cc

module _ (before : ℕ) (u piece : List ℕ) (l : Lexeme) (start end : ℕ) (used : before ≡ length u) (h : LastOf 0 (u ++ piece) l) (first : start ≡ l.start)
    (last : end ≡ l.end) where
  -- The octets of the token stand in the piece, if it begins there.
  in_piece : before ≤ start → h.token ≡ take (end - start) (drop (start - before) piece)
  in_piece le =
      let size : end - start ≡ length h.token = omega (arith, first, last, h.start, h.end) in
      let far : length u + (start - before) ≡ length h.front = omega (arith, used, first, h.start) in
      let behind : drop (start - before) piece ≡ h.token ++ h.rest =
      sym (drop-append-add u piece (start - before)) ∙ ap (λ (n : ℕ). drop n (u ++ piece)) far ∙ ap (λ o. drop (length h.front) o) h.cut
      ∙ drop-append_seam h.front (h.token ++ h.rest) in
      sym (front_is (drop (start - before) piece) h.token h.rest (end - start) behind size)

  all_long : length u + length piece ≡ length h.front + (length h.token + length h.rest)
  all_long = let e = ap length h.cut in omega (arith, e, length-append u piece, length-append h.front (h.token ++ h.rest), length-append h.token h.rest)

  lent_is : (lent w : List ℕ) → StandIn before start end piece lent → w ≡ h.token → before ≤ start → w ≡ lent
  lent_is lent w s e le = e ∙ in_piece le ∙ sym (s.here le (omega (arith, first, last, h.start, h.end))
      (omega (arith, first, last, h.start, h.end, used, all_long)))

  lent_not : (lent w : List ℕ) → StandIn before start end piece lent → w ≡ h.token → start < before → w ≢ lent
  lent_not lent w s e lt same = h.some (sym e ∙ same ∙ s.none lt)

  pub lends : (b : Body) → IsBody l.kind l.octets (Ok (content b)) → BorrowsAt before start end piece b → IsLentBody before start b
  lends (Body.Word w) says (lent, s, from) =
      let is = kept_octets l.kind l.octets (cow_str_bytes w) (Word (cow_str_bytes w)) refl says in
      let same : cow_str_bytes w ≡ h.token = is.0 ∙ h.kept is.1 in
      (λ le. from.0 (lent_is lent (cow_str_bytes w) s same le), λ lt. from.1 (lent_not lent (cow_str_bytes w) s same lt))
  lends (Body.Operator w) says (lent, s, from) =
      let is = kept_octets l.kind l.octets (cow_str_bytes w) (Operator (cow_str_bytes w)) refl says in
      let same : cow_str_bytes w ≡ h.token = is.0 ∙ h.kept is.1 in
      (λ le. from.0 (lent_is lent (cow_str_bytes w) s same le), λ lt. from.1 (lent_not lent (cow_str_bytes w) s same lt))
  lends _ says b = tt

-- What a step's token is lent.
pub step_lends : (p : Place) (s : Known) (u : List ℕ) (ts : List Placed) (ahead : List ℕ) → Scanned p s u ts ahead
    → (piece : List ℕ) (scan : Stepped) (t : Token) (now : Known)
    → Tells p u piece ts scan t now → BorrowsAt s.used t.start t.end piece t.body → IsLentBody s.used t.start t.body
step_lends p s u ts ahead h piece scan t now tells b =
    let l = tells.lexeme in
    let front = u ++ take scan.used piece in
    let whole : front ++ drop scan.used piece ≡ u ++ piece = append_assoc u (take scan.used piece) (drop scan.used piece)
    ∙ ap (λ o. u ++ o) (take-append-drop scan.used piece) in
    let told = begins_told p now front (ts ++ record { place = p; lexeme = l } ∷ []) tells.ahead (tells.scanned p) (drop scan.used piece) tells.again in
    let last = last_of _ ts (record { place = p; lexeme = l }) false 0 (u ++ piece)
    (subst (λ o. BeginsLexed false 0 o (ts ++ record { place = p; lexeme = l } ∷ [])) whole told) in
    lends s.used u piece l t.start t.end (scanned_used p s u ts ahead h) last tells.is.start tells.is.end t.body tells.is.says b

owned : (before start : ℕ) (b : Body) → start < before → IsLentBody before start b → IsOwnedBody b
owned before start (Body.Word w) lt h = h.1 lt
owned before start (Body.Operator w) lt h = h.1 lt
owned before start _ lt h = tt

some_long : (w : List ℕ) → w ≢ [] → 1 ≤ length w
some_long [] n = absurd (n refl)
some_long (o ∷ os) n = omega arith

-- What an end's is.
pub end_owns : (p : Place) (s : Known) (u : List ℕ) (ts : List Placed) → Scanned p s u ts [] → (t : Token) → EndsSo p u ts (Some t)
    → BorrowsAt s.used t.start t.end [] t.body → IsOwnedBody t.body
end_owns p s u ts h t (l, is, lexes) b =
    let last : LastOf 0 u l = last_of _ ts (record { place = p; lexeme = l }) false 0 u lexes in
    let there : LastOf 0 (u ++ []) l = subst (λ o. LastOf 0 o l) (sym (append-nil u)) last in
    let used = scanned_used p s u ts [] h in
    let long = ap length last.cut in
    let some = some_long last.token last.some in
    let before : t.start < s.used = omega (
      arith,
      used,
      long,
      some,
      is.start,
      last.start,
      length-append last.front (last.token ++ last.rest),
      length-append last.token last.rest,
    ) in
    owned s.used t.start t.body before (lends s.used u [] l t.start t.end used there is.start is.end t.body is.says b)

-- what is borrowed with octets that stand where the token does
pub lends_there : (before start end : ℕ) (piece lent : List ℕ) (b : Body) → StandIn before start end piece lent → BorrowsFrom lent b
    → BorrowsAt before start end piece b
lends_there before start end piece lent (Body.Word w) s b = (lent, s, b)
lends_there before start end piece lent (Body.Operator w) s b = (lent, s, b)
lends_there before start end piece lent _ s b = tt
