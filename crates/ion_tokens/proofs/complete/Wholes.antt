-- Over octets up to the end of the input, the scanner finds the tokens that they are.
use Rattle.std.proofs.Common.{◌≡◌, ℕ, ◌+◌, ◌-◌, ◌≤◌, inl, inr, Bool, true, false, List, [], ◌∷◌, ◌++◌, length, drop, refl, sym, ap, ◌∙◌, subst, arith, append_assoc, append-nil, length-append}
use Rattle.std.specs.Prelude.{codes, Some, Ok}
use Rattle.std.proofs.lemmas.Bool.{false≢true, true≢false}
use Rattle.std.proofs.Math.Seq.{drop-append_seam, drop-append-add}
use Rattle.std.specs.List.{flat_map, AllByRecursion}
use Rattle.std.proofs.lemmas.Bool.Decides.{nat_tests}
use Rattle.ion_tokens.specs.Names.{BeginsWith, BlankPiece, Given, IsBlank, IsBlankPiece, IsLastBlank, IsLexeme, Known, Left, Lexeme, LexesBefore, Mark, Mode, Next, Outcome, Place, Placed, TokenKind, White, begins, begins_word, blank_spelling, colon_behind, follow, mark_spelling, past, run, takes_colon}
use Rattle.ion_tokens.proofs.complete.Found.{FindsUpTo, Gives, Last, Leaves, Unclosed, in_word}
use Rattle.ion_tokens.proofs.complete.Moves.{AtEnd, Later, Now, Open, Takes, at, blank, lexeme}
use Rattle.ion_tokens.proofs.complete.TakesAll.{takes_lexeme}
use Rattle.ion_tokens.proofs.complete.TakesBlanks.{passes_blank}
use Rattle.ion_tokens.proofs.runs.Cutting.{run-append}
use Rattle.ion_tokens.proofs.runs.Runs.{given_used, left_used, next_used}

-- behind octets that are all used, a run goes on from what the scanner knows there
pub run_behind : (p : Place) (xs ys : List ℕ) (s t : Known) → run p xs s ≡ Next t → run p (xs ++ ys) s ≡ run p ys t
run_behind p xs ys s t e = run-append p xs ys s ∙ ap (λ x. follow x (λ t. run p ys t)) e

-- a token has an octet
pub some_octet : (p : Place) (colon : Bool) (r : List ℕ) (kind : TokenKind) (kept : List ℕ) → IsLexeme p colon [] r kind kept → ⊥
some_octet p colon r TokenKind.Word kept h = false≢true h.1.0
some_octet p colon r TokenKind.Number kept h = false≢true h.2.begun
some_octet p colon r TokenKind.Operator kept h = h.2.some refl
some_octet p colon r (TokenKind.Mark m) kept h = by m h.1 where
  by : (m : Mark) → [] ≡ mark_spelling m → ⊥
  by Mark.FieldsOpen e = cc
  by _ e = cc
some_octet p colon r _ kept h = cc

nothing_left : (xs ys : List ℕ) → xs ++ ys ≡ [] → ys ≡ []
nothing_left [] ys e = e
nothing_left (x ∷ xs) ys e = cc

front_empty : (xs ys : List ℕ) → xs ++ ys ≡ [] → xs ≡ []
front_empty [] ys e = refl
front_empty (x ∷ xs) ys e = cc

-- no token begins where no octet is
no_more : (colon : Bool) (before : ℕ) (t : Placed) (rest : List ℕ) → BeginsWith colon before [] t rest → ⊥
no_more colon before t rest b =
    let none : b.token ≡ [] = nothing_left b.blank b.token (front_empty (b.blank ++ b.token) rest (sym b.cut)) in
    some_octet t.place colon rest t.lexeme.kind t.lexeme.octets (subst (λ w. IsLexeme t.place colon w rest t.lexeme.kind t.lexeme.octets) none b.is)

all_found : (End : Bool → ℕ → List ℕ → Type 0) (colon : Bool) (before : ℕ) (ts : List Placed) → LexesBefore End colon before [] ts → ts ≡ []
all_found End colon before [] h = refl
all_found End colon before (t ∷ ts) h = absurd (no_more colon before t h.0 h.1)

same_lexeme : (l : Lexeme) (w : List ℕ) (start : ℕ) → l.start ≡ start → l.end ≡ start + length w → l ≡ lexeme w l.kind l.octets start
same_lexeme l w start e f = λ i. record { start = e i; end = f i; kind = l.kind; octets = l.octets }

-- no blank begins with a letter
piece_first : (b : BlankPiece) (more : List ℕ) → IsBlankPiece b → begins begins_word (blank_spelling b ++ more) ≡ false
piece_first (White o) more h = grind (arith, nat_tests)
piece_first _ more h = refl

pieces_first : (bs : List BlankPiece) (more : List ℕ) → AllByRecursion IsBlankPiece bs → begins begins_word more ≡ false
    → begins begins_word (flat_map blank_spelling bs ++ more) ≡ false
pieces_first [] more h e = e
pieces_first (b ∷ bs) more h e = subst (λ l. begins begins_word l ≡ false) (sym (append_assoc (blank_spelling b) (flat_map blank_spelling bs) more))
    (piece_first b (flat_map blank_spelling bs ++ more) h.0)

blank_first : (w more : List ℕ) → IsBlank w → begins begins_word more ≡ false → begins begins_word (w ++ more) ≡ false
blank_first w more b e = subst (λ l. begins begins_word (l ++ more) ≡ false) (sym b.spelled) (pieces_first b.pieces more b.each e)

-- a blank up to the end of the input doesn't begin with a letter, `_` or `$`
pub no_word : (w : List ℕ) → IsLastBlank w → begins begins_word w ≡ true → ⊥
no_word w (inl b) h = true≢false (sym h ∙ ap (begins begins_word) (sym (append-nil w)) ∙ blank_first w [] b refl)
no_word w (inr c) h = true≢false (sym h ∙ ap (begins begins_word) (c.cut ∙ append_assoc c.front (codes "//") c.octets)
    ∙ blank_first c.front (codes "//" ++ c.octets) c.blank refl)

-- what is left behind a token, some octets before which were taken up already
left_over : (ahead rest front r : List ℕ) (used now k : ℕ) → ahead ++ rest ≡ front ++ r → used ≡ k + length ahead → now ≡ k + length front → used ≤ now
    → drop (now - used) rest ≡ r
left_over ahead rest front r used now k e f g h =
    let n : ℕ = now - used in
    let size : length ahead + n ≡ length front = omega arith in
    sym (drop-append-add ahead rest n) ∙ ap (λ (i : ℕ). drop i (ahead ++ rest)) size ∙ ap (drop (length front)) e ∙ drop-append_seam front r

module _ (colon : Bool) (k : ℕ) (ahead rest : List ℕ) (s : Known) (reached : (p : Place) → run p ahead (at Mode.Blank [] colon k k) ≡ Next s) where
  pub used_is : (p : Place) → s.used ≡ k + length ahead
  used_is p = next_used p ahead (at Mode.Blank [] colon k k) s (sym (reached p))

  -- the run goes on from where it stands as from the blank
  pub goes_on : (p : Place) (octets : List ℕ) (x : Outcome) → octets ≡ ahead ++ rest → run p octets (at Mode.Blank [] colon k k) ≡ x → run p rest s ≡ x
  goes_on p octets x e h = sym (run_behind p ahead rest (at Mode.Blank [] colon k k) s (reached p)) ∙ ap (λ l. run p l (at Mode.Blank [] colon k k)) (sym e)
      ∙ h

-- the tokens found from a blank with octets ahead
abbrev pub FindsFrom : (Bool → ℕ → List ℕ → Type 0) → (Known → List ℕ → Type 0) → Type 0 → List Placed → Type 0
FindsFrom End Rests Bare ts = (colon : Bool) (k : ℕ) (octets ahead rest : List ℕ) (s : Known) → LexesBefore End colon k octets ts → octets ≡ ahead ++ rest
    → ((p : Place) → run p ahead (at Mode.Blank [] colon k k) ≡ Next s) → FindsUpTo Rests Bare s rest ts

module _ (End : Bool → ℕ → List ℕ → Type 0) (Rests : Known → List ℕ → Type 0) (Bare : Type 0) (bare : (colon : Bool) (before : ℕ) (octets : List ℕ)
    → End colon before octets → begins begins_word octets ≡ true → Bare) where
  -- a token in front of tokens that are found is found, too
  pub find_token : (t : Placed) (ts : List Placed) → FindsFrom End Rests Bare ts → FindsFrom End Rests Bare (t ∷ ts)
  find_token t ts more colon k octets ahead rest s (r, b, lexes) e reached =
      by t.lexeme.kind t.lexeme.octets (same_lexeme t.lexeme b.token (k + length b.blank) b.start b.end)
      (takes_lexeme t.place colon b.token r t.lexeme.kind t.lexeme.octets b.is) refl
    where
      passed : (now : ℕ) × ((r : List ℕ) → run t.place (b.blank ++ r) (at Mode.Blank [] colon k k) ≡ run t.place r (blank colon now (k + length b.blank)))
      passed = passes_blank t.place colon b.blank b.is_blank k k

      size : k + length (b.blank ++ b.token) ≡ (k + length b.blank) + length b.token
      size = omega (arith, length-append b.blank b.token)

      start : ℕ
      start = passed.0

      from_blank : (x : Outcome) → ((start : ℕ) → run t.place (b.token ++ r) (blank colon start (k + length b.blank)) ≡ x) → run t.place rest s ≡ x
      from_blank x h = goes_on colon k ahead rest s reached t.place octets x e
          (ap (λ l. run t.place l (at Mode.Blank [] colon k k)) (b.cut ∙ append_assoc b.blank b.token r) ∙ passed.1 (b.token ++ r) ∙ h passed.0)

      end_is : (k + length b.blank) + length b.token ≡ t.lexeme.end
      end_is = sym b.end

      -- behind the token a blank begins
      behind : (kind : TokenKind) → kind ≡ t.lexeme.kind → (q : Place) (ahead' : List ℕ) (x : Outcome)
          → run q ahead' (at Mode.Blank [] (takes_colon t.place kind) ((k + length b.blank) + length b.token) ((k + length b.blank) + length b.token)) ≡ x
          → run q ahead' (at Mode.Blank [] (colon_behind t) t.lexeme.end t.lexeme.end) ≡ x
      behind kind f q ahead' x h = ap (λ (i : ℕ). run q ahead' (at Mode.Blank [] (colon_behind t) i i)) b.end
          ∙ ap (λ k'. run q ahead' (at Mode.Blank [] (takes_colon t.place k') ((k + length b.blank) + length b.token) ((k + length b.blank) + length b.token)))
          (sym f) ∙ h

      by : (kind : TokenKind) (kept : List ℕ) → t.lexeme ≡ lexeme b.token kind kept (k + length b.blank) → Takes t.place colon b.token r kind kept
          → kind ≡ t.lexeme.kind → FindsUpTo Rests Bare s rest (t ∷ ts)
      by kind kept same (Now f) f' =
          let end : ℕ = (k + length b.blank) + length b.token in
          let s' : Known = past t.place kind Mode.Blank [] end end in
          let found : run t.place rest s ≡ Given t.lexeme s' = from_blank (Given t.lexeme s')
          (λ start. f start (k + length b.blank) ∙ ap (λ l. Given l s') (sym same)) in
          let less = given_used t.place rest s s' t.lexeme (sym found) in
          let over : drop (end - s.used) rest ≡ r = left_over ahead rest (b.blank ++ b.token) r s.used end k (sym e ∙ b.cut)
          (used_is colon k ahead rest s reached t.place) (sym size) (omega (arith, less.0)) in
          Gives s rest t ts s' found (subst (λ l. FindsUpTo Rests Bare s' l ts) (sym over)
          (more (colon_behind t) t.lexeme.end r [] r s' lexes refl (λ q. behind kind f' q [] (Next s') refl)))
      by kind kept same (Later ahead' x rest' m k' cut resumes f) f' =
          let end : ℕ = (k + length b.blank) + length b.token in
          let now : ℕ = end + length ahead' in
          let s' : Known = past t.place kind m k' end now in
          let found : run t.place rest s ≡ Left t.lexeme s' = from_blank (Left t.lexeme s')
          (λ start. f start (k + length b.blank) ∙ ap (λ l. Left l s') (sym same)) in
          let less = left_used t.place rest s s' t.lexeme (sym found) in
          let whole : ahead ++ rest ≡ ((b.blank ++ b.token) ++ ahead') ++ x ∷ rest' = sym e ∙ b.cut ∙ ap (λ l. (b.blank ++ b.token) ++ l) cut
          ∙ sym (append_assoc (b.blank ++ b.token) ahead' (x ∷ rest')) in
          let longer : now ≡ k + length ((b.blank ++ b.token) ++ ahead') = omega (arith, size, length-append (b.blank ++ b.token) ahead') in
          let over : drop (now - s.used) rest ≡ x ∷ rest' = left_over ahead rest ((b.blank ++ b.token) ++ ahead') (x ∷ rest') s.used now k whole
          (used_is colon k ahead rest s reached t.place) longer (omega (arith, less.0)) in
          Leaves s rest t ts s' found (subst (λ l. FindsUpTo Rests Bare s' l ts) (sym over)
          (more (colon_behind t) t.lexeme.end r ahead' (x ∷ rest') s' lexes cut
          (λ q. behind kind f' q ahead' (Next s') (resumes q (takes_colon t.place kind) end))))
      by kind kept same (AtEnd none f) f' =
          let ended = f start (k + length b.blank) in
          let last : ts ≡ [] = all_found End (colon_behind t) t.lexeme.end ts (subst (λ l. LexesBefore End (colon_behind t) t.lexeme.end l ts) none lexes) in
          let found : run t.place rest s ≡ Next ended.0 = goes_on colon k ahead rest s reached t.place octets (Next ended.0) e
          (ap (λ l. run t.place l (at Mode.Blank [] colon k k)) (b.cut ∙ append_assoc b.blank b.token r) ∙ passed.1 (b.token ++ r) ∙ ended.1) in
          subst (λ l. FindsUpTo Rests Bare s rest (t ∷ l)) (sym last) (Last s rest t ended.0 found (ended.2 ∙ ap (λ l. Ok (Some l)) (sym same)))
      by kind kept same (Open some operator resumes f) f' =
          let ended = f start (k + length b.blank) in
          let found : run t.place rest s ≡ Next ended.0 = goes_on colon k ahead rest s reached t.place octets (Next ended.0) e
          (ap (λ l. run t.place l (at Mode.Blank [] colon k k)) (b.cut ∙ append_assoc b.blank b.token r) ∙ passed.1 (b.token ++ r) ∙ ended.2) in
          let used = next_used t.place (b.token ++ r) (blank colon start (k + length b.blank)) ended.0 (sym ended.2) in
          let all : t.lexeme.end + length r ≡ ended.0.used = omega (arith, used, b.end, length-append b.token r) in
          let word = more (colon_behind t) t.lexeme.end r r [] (in_word r (colon_behind t) t.lexeme.end (t.lexeme.end + length r)) lexes (sym (append-nil r))
          (λ q. resumes q (colon_behind t) t.lexeme.end) in
          Unclosed s rest t ts ended.0 (colon_behind t) r (λ none.
          bare (colon_behind t) t.lexeme.end r (subst (λ x. LexesBefore End (colon_behind t) t.lexeme.end r x) none lexes) some) found ended.3
          (b.start ∙ sym ended.1) (sym f' ∙ operator)
          (subst (λ (n : ℕ). FindsUpTo Rests Bare (in_word r (colon_behind t) t.lexeme.end n) [] ts) all word)
