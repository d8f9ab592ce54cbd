-- What is known of a token that has begun.
use Rattle.std.proofs.Common.{◌≡◌, ℕ, ◌+◌, ◌-◌, ◌≤◌, ◌⊎◌, inl, inr, Bool, true, false, cond, List, [], ◌∷◌, ◌++◌, length, drop, refl, sym, ap, ◌∙◌, subst, arith, append_assoc, append-nil, length-append}
use Rattle.std.specs.Prelude.{◌==◌, ◌&&◌, ◌||◌, not, codes, take, Option, Some, None, Result, Ok}
use Rattle.std.proofs.lemmas.Bool.{cond_both, true≢false}
use Rattle.std.proofs.lemmas.Bool.Decides.{nat_tests}
use Rattle.ion_tokens.specs.Names.{Begun, BegunSo, BlockComment, Continues, Covers, End, Form, Given, HasBegun, IsBlank, IsFirstColon, IsForm, Known, Left, Lexeme, Lexes, LexesTo, LineComment, LooksIn, Mark, MayComment, Mode, Next, Outcome, Place, Placed, Reason, Scanned, ShowsBegun, Style, TokenKind, begins, begins_number, begins_word, begun_in, behind, end_of, ends_at, form_of, is_digit, is_idle, is_operator_octet, is_sexp, run, start_of}
use Rattle.ion_tokens.proofs.complete.Found.{Finds, Gives, Last, Leaves, Nothing, Unclosed, in_word}
use Rattle.ion_tokens.proofs.complete.Wholes.{run_behind}
use Rattle.ion_tokens.proofs.foreseen.Reaches.{Reaches, begun_stays, run_reaches}
use Rattle.ion_tokens.proofs.foreseen.Slashes.{EndsBeforeComment, slash_comments}
use Rattle.ion_tokens.proofs.histories.Histories.{end_token, stands_finds}
use Rattle.ion_tokens.proofs.histories.Stepped.{all_since}
use Rattle.ion_tokens.proofs.sound.Holds.{Holds, InMode, IsBegun, blank_more, blank_none}
use Rattle.ion_tokens.proofs.sound.Opens.{IsOpen, IsOpenRun}
use Rattle.ion_tokens.proofs.sound.SoundHistories.{stands_tells}
use Rattle.ion_tokens.proofs.sound.Sounds.{RunSound, run_sound}
use Rattle.ion_tokens.proofs.sound.Told.{lexes_behind}
use Rattle.ion_tokens.specs.laws.Each.{begins_more}

-- what doesn't begin with a quote
other_if : (f : List ℕ → Bool) (w : List ℕ) → f w ≡ true → ((x : List ℕ) → f (39 ∷ x) ≡ false) → IsForm Form.Other w
other_if f w h n = (
  λ e. true≢false (sym h ∙ ap f e ∙ n []),
  λ e. true≢false (sym h ∙ ap f e ∙ n (39 ∷ [])),
  λ part e. true≢false (sym h ∙ ap f e ∙ n (39 ∷ 39 ∷ part)),
)

no_quote : ℕ → Bool
no_quote o = not (o == 39)

run_begins : (w : List ℕ) → IsOpenRun w → begins is_operator_octet w ≡ true
run_begins [] h = absurd (h.some refl)
run_begins (o ∷ os) h = h.each.0

number_begins : (w : List ℕ) → begins_number w ≡ true → begins no_quote w ≡ true
unfolding no_quote
number_begins [] h = cc
number_begins (o ∷ os) h = first o (begins is_digit os) h where
  first : (o : ℕ) (b : Bool) → (is_digit o || ((o == 45) && b)) ≡ true → not (o == 39) ≡ true
  first o b h = grind (arith, nat_tests)

symbol_form : (part w : List ℕ) → w ≡ 39 ∷ part → begins no_quote part ≡ true → IsForm Form.Other w
unfolding no_quote
symbol_form part w e n = (
  λ f. true≢false (sym n ∙ ap (begins (λ o. not (o == 39))) (tail [] f)),
  λ f. true≢false (sym n ∙ ap (begins (λ o. not (o == 39))) (tail (39 ∷ []) f)),
  λ x f. true≢false (sym n ∙ ap (begins (λ o. not (o == 39))) (tail (39 ∷ 39 ∷ x) f)),
) where
  tail : (x : List ℕ) → w ≡ 39 ∷ x → part ≡ x
  tail x f = ap (λ l. drop 1 l) (sym e ∙ f)

form_is : (p : Place) (colon : Bool) (m : Mode) (w kept : List ℕ) → IsOpen p colon m w kept → is_idle m ≡ false → IsForm (form_of m) w
unfolding no_quote
form_is p colon Mode.Word w kept (e, h) i = other_if (begins begins_word) w h.0 (λ x. refl)
form_is p colon Mode.KindName w kept (e, h) i = other_if (begins (λ o. o == 110)) w (ap (begins (λ o. o == 110)) e) (λ x. refl)
form_is p colon Mode.Number w kept (e, n) i = other_if begins_number w n.begun (λ x. refl)
form_is p colon Mode.NumberSlash w kept (e, n) i = other_if (begins no_quote) w
    (ap (begins no_quote) e ∙ begins_more no_quote kept (47 ∷ []) (number_begins kept n.begun)) (λ x. refl)
form_is p colon (Mode.Operator x) w kept (e, n, h, s) i = other_if (begins is_operator_octet) w (run_begins w h) (λ x. refl)
form_is p colon Mode.OperatorSlash w kept (e, s, h) i =
    other_if (begins is_operator_octet) w (ap (begins is_operator_octet) e ∙ begins_more is_operator_octet kept (47 ∷ []) (run_begins kept h)) (λ x. refl)
form_is p colon (Mode.Infinity n) w kept (e, h, a, b) i =
    other_if (begins is_operator_octet) w (ap (begins is_operator_octet) e ∙ begins_more is_operator_octet kept (take n (codes "inf")) (run_begins kept h))
    (λ x. refl)
form_is p colon Mode.Quote w kept (e, k) i = inl e
form_is p colon Mode.Quotes w kept (e, k) i = inr e
form_is p colon (Mode.Text Style.ShortString v) w kept (part, h, e) i = other_if (begins (λ o. o == 34)) w (ap (begins (λ o. o == 34)) e) (λ x. refl)
form_is p colon (Mode.Text Style.QuotedSymbol v) w kept (part, h, e, n) i = symbol_form part w e n
form_is p colon (Mode.Text Style.LongString v) w kept (part, h, e) i = (part, e)
form_is p colon (Mode.Text Style.ShortClob v) w kept (n, before, part, b, h, e) i =
    other_if (begins (λ o. o == 123)) w (ap (begins (λ o. o == 123)) e) (λ x. refl)
form_is p colon (Mode.Text Style.LongClob v) w kept (n, front, kept', part, q, f, h, e, k) i =
    other_if (begins (λ o. o == 123)) w (ap (begins (λ o. o == 123)) e) (λ x. refl)
form_is p colon Mode.Brace w kept (e, k, n) i = other_if (begins (λ o. o == 123)) w (ap (begins (λ o. o == 123)) e) (λ x. refl)
form_is p colon (Mode.Lob l) w kept (n, inside, e, h) i = other_if (begins (λ o. o == 123)) w (ap (begins (λ o. o == 123)) e) (λ x. refl)
form_is p colon Mode.Colon w kept h i = cc
form_is p colon _ w kept h i = absurd h

-- a / at the end of the token may open a comment
slash_behind : (p : Place) (colon : Bool) (m : Mode) (w kept : List ℕ) → IsOpen p colon m w kept → (behind m ≡ 0)
    ⊎ ((behind m ≡ 1) × (front : List ℕ) × (w ≡ front ++ codes "/"))
slash_behind p colon Mode.NumberSlash w kept (e, n) = inr (refl, kept, e)
slash_behind p colon Mode.OperatorSlash w kept (e, s, h) = inr (refl, kept, e)
slash_behind p colon _ w kept h = inl refl

-- a token has begun
open_token : (p : Place) (colon : Bool) (k : ℕ) (m : Mode) (kept : List ℕ) (start : ℕ) (since : List ℕ) → is_idle m ≡ false
    → InMode p colon k m kept start since → IsBegun p colon k m kept start since
open_token p colon k Mode.Colon kept start since i h = cc
open_token p colon k Mode.Blank kept start since i h = cc
open_token p colon k Mode.Slash kept start since i h = cc
open_token p colon k Mode.LineComment kept start since i h = cc
open_token p colon k Mode.BlockComment kept start since i h = cc
open_token p colon k Mode.BlockCommentStar kept start since i h = cc
open_token p colon k _ kept start since i h = h

block_closes : (since front octets : List ℕ) → since ≡ front ++ codes "/*" ++ octets → since ++ codes "*/" ≡ front ++ (codes "/*" ++ octets ++ codes "*/")
block_closes since front octets e = ap (λ l. l ++ codes "*/") e ∙ append_assoc (front ++ codes "/*") octets (codes "*/")
    ∙ append_assoc front (codes "/*") (octets ++ codes "*/")

-- no token has begun
none_begun : (p : Place) (u : List ℕ) (ts : List Placed) (colon : Bool) (k : ℕ) (m : Mode) (kept : List ℕ) (start : ℕ) (since : List ℕ) → is_idle m ≡ true
    → InMode p colon k m kept start since → BegunSo p u ts colon k since None
none_begun p u ts colon k Mode.Blank kept start since i (e, b) = inl ([], subst IsBlank (sym (append-nil since)) b)
none_begun p u ts colon k Mode.Slash kept start since i (e, front, b, c) =
    inl (
      47 ∷ 10 ∷ [],
      subst IsBlank (sym (ap (λ l. l ++ 47 ∷ 10 ∷ []) c ∙ append_assoc front (47 ∷ []) (47 ∷ 10 ∷ [])))
          (blank_more front (LineComment [] 10) b (tt, refl)),
    )
none_begun p u ts colon k Mode.LineComment kept start since i (e, c) =
    inl (
      10 ∷ [],
      subst IsBlank (sym (ap (λ l. l ++ 10 ∷ []) c.cut ∙ append_assoc (c.front ++ codes "//") c.octets (10 ∷ [])
          ∙ append_assoc c.front (codes "//") (c.octets ++ 10 ∷ []))) (blank_more c.front (LineComment c.octets 10) c.blank (c.one_line, refl)),
    )
none_begun p u ts colon k Mode.BlockComment kept start since i (e, c) =
    inl (codes "*/", subst IsBlank (sym (block_closes since c.front c.octets c.cut)) (blank_more c.front (BlockComment c.octets) c.blank c.no_close))
none_begun p u ts colon k Mode.BlockCommentStar kept start since i (e, c) =
    inl (codes "*/", subst IsBlank (sym (block_closes since c.front c.octets c.cut)) (blank_more c.front (BlockComment c.octets) c.blank c.no_close))
none_begun p u ts colon k Mode.Colon kept start since i h = let (w, kept, flag) = h.is in inr (flag, h.front, h.blank, h.cut ∙ ap (λ l. h.front ++ l) w)
none_begun p u ts colon k _ kept start since i h = cc

-- at the end no token shows, or a colon
abbrev is_colon : TokenKind → Bool
is_colon (TokenKind.Mark Mark.Colon) = true
is_colon _ = false

abbrev shows_colon : Result (Option Lexeme) Reason → Bool
shows_colon (Ok None) = true
shows_colon (Ok (Some l)) = is_colon l.kind
shows_colon _ = false

-- then none has begun
shown_idle : (p : Place) (s : Known) (m : Mode) → shows_colon (ends_at s (end_of p m)) ≡ true → is_idle m ≡ true
shown_idle p s (Mode.Operator x) e = cond_both (is_sexp p) _ _ (λ x. shows_colon (ends_at s x) ≡ true → false ≡ true) (λ _ f. f) (λ _ f. f) e
shown_idle p s Mode.OperatorSlash e = cond_both (is_sexp p) _ _ (λ x. shows_colon (ends_at s x) ≡ true → false ≡ true) (λ _ f. f) (λ _ f. f) e
shown_idle p s _ e = cc

-- where the end shows no token, none has begun
pub end_idle : (p : Place) (s : Known) (m : Mode) → ends_at s (end_of p m) ≡ Ok None → is_idle m ≡ true
end_idle p s m e = shown_idle p s m (ap shows_colon e)

-- a token at the end of the input
end_token_is : (s : Known) (e : End) (l : Lexeme) → ends_at s e ≡ Ok (Some l) → (l.start ≡ start_of s.mode s.start s.used) × (l.end ≡ s.used)
end_token_is s (End.Token kind k) l h = (sym (ap (λ x. (lexeme_in x l).start) h), sym (ap (λ x. (lexeme_in x l).end) h)) where
  lexeme_in : Result (Option Lexeme) Reason → Lexeme → Lexeme
  lexeme_in (Ok (Some l)) m = l
  lexeme_in _ m = m
end_token_is s _ l h = cc

-- where the end shows a colon, no token has begun
colon_idle : (p : Place) (s : Known) (m : Mode) (l : Lexeme) → l.kind ≡ TokenKind.Mark Mark.Colon → ends_at s (end_of p m) ≡ Ok (Some l) → is_idle m ≡ true
colon_idle p s m l k e = shown_idle p s m (ap shows_colon e ∙ ap is_colon k)

-- what comes of octets behind some that left a token open
reached : (p : Place) (s0 s : Known) (octets rest : List ℕ) (start end : ℕ) → run p octets s0 ≡ Next s → Reaches start end (Next s) → (q : Place) (x : Outcome)
    → q ≡ p → run q (octets ++ rest) s0 ≡ x → Reaches start end x
reached p s0 s octets rest start end ran reaches q x e f =
    subst (λ y. Reaches start end y) (sym (run_behind p octets rest s0 s ran) ∙ ap (λ q'. run q' (octets ++ rest) s0) (sym e) ∙ f)
    (run_reaches p rest s start end reaches)

-- the place in which the first token is looked for
looked_in : (ts : List Placed) → (q : Place) × LooksIn q ts
looked_in [] = (Place.Top, tt)
looked_in (t ∷ ts) = (t.place, refl)

-- the next token begins there, and tokens follow it up to there
covers : (p : Place) (s0 s : Known) (octets rest : List ℕ) (start end : ℕ) → run p octets s0 ≡ Next s → Reaches start end (Next s) → (others : List Placed)
    → LooksIn p others → Finds s0 (octets ++ rest) others → Covers start end others
unfolding Reaches
covers p s0 s octets rest start end ran reaches [] looks (Nothing _ _ f) =
    let (s', e, n) = f p in
    let (from, begun, r) = reached p s0 s octets rest start end ran reaches p (Next s') refl e in
    true≢false (sym (end_idle p s' s'.mode n) ∙ begun)
covers p s0 s octets rest start end ran reaches (t ∷ ts) looks (Last _ _ _ s' e f) =
    let (from, begun, r) = reached p s0 s octets rest start end ran reaches t.place (Next s') looks e in
    let (first, last) = end_token_is s' (end_of t.place s'.mode) t.lexeme f in
    (first ∙ begun_stays s'.mode s'.start s'.used begun ∙ from, inl (omega (arith, last, r)))
covers p s0 s octets rest start end ran reaches (t ∷ ts) looks (Gives _ _ _ _ s' e f) =
    let (from, r) = reached p s0 s octets rest start end ran reaches t.place (Given t.lexeme s') looks e in (from, inl r)
covers p s0 s octets rest start end ran reaches (t ∷ ts) looks (Leaves _ _ _ _ s' e f) =
    let (from, r) = reached p s0 s octets rest start end ran reaches t.place (Left t.lexeme s') looks e in
    let (q, at) = looked_in ts in
    let more : Reaches t.lexeme.end end (Next s') → Covers t.lexeme.end end ts =
    λ on. covers q s' s' [] (drop (s'.used - s0.used) (octets ++ rest)) t.lexeme.end end refl on ts at f in
    (from, by more r)
  where
    by : (Reaches t.lexeme.end end (Next s') → Covers t.lexeme.end end ts)
        → (end ≤ t.lexeme.end) ⊎ ((t.lexeme.kind ≡ TokenKind.Operator) × (s'.start ≡ t.lexeme.end) × (is_idle s'.mode ≡ false) × (end + behind s'.mode ≤ s'.used))
        → (end ≤ t.lexeme.end) ⊎ ((t.lexeme.kind ≡ TokenKind.Operator) × Covers t.lexeme.end end ts)
    by more (inl r) = inl r
    by more (inr (operator, from, begun, r)) = inr (operator, more (from, begun, r))
covers p s0 s octets rest start end ran reaches (t ∷ ts) looks (Unclosed _ _ _ _ s' colon letters m e f first operator g) =
    let (from, begun, r) = reached p s0 s octets rest start end ran reaches t.place (Next s') looks e in
    let (q, at) = looked_in ts in
    let now = in_word letters colon t.lexeme.end s'.used in
    (first ∙ from, inr (operator, covers q now now [] [] t.lexeme.end end refl (refl, refl, omega (arith, r)) ts at g))

-- The octets behind the tokens told, and that the scanner holds them.
pub record HoldsBehind (p : Place) (s : Known) (u : List ℕ) (ts : List Placed) : Type 0 where
  pub colon : Bool
  pub end : ℕ
  pub since : List ℕ
  pub lexes : LexesTo false 0 u ts colon end since
  pub longer : (rest : List ℕ) → LexesTo false 0 (u ++ rest) ts colon end (since ++ rest)
  pub holds : Holds p colon end s since

-- what a scanner knows is what the octets behind the tokens told leave it
pub begun_holds : (p : Place) (s : Known) (u : List ℕ) (ts : List Placed) → Scanned p s u ts [] → HoldsBehind p s u ts
begun_holds p s u ts h =
    let since = all_since p s u ts h in
    let tells = stands_tells h.behind h.front ts h.left h.told h.pass in
    record {
      colon = tells.colon;
      end = tells.end;
      since = tells.since ++ h.since;
      lexes = subst (λ o. LexesTo false 0 o ts tells.colon tells.end (tells.since ++ h.since)) (sym h.cut) (tells.lexes h.since since.0 since.1);
      longer = λ rest.
          subst (λ o. LexesTo false 0 o ts tells.colon tells.end ((tells.since ++ h.since) ++ rest))
          (sym (ap (λ l. l ++ rest) h.cut ∙ append_assoc h.front h.since rest))
          (subst (λ o. LexesTo false 0 (h.front ++ (h.since ++ rest)) ts tells.colon tells.end o) (sym (append_assoc tells.since h.since rest))
          (tells.lexes (h.since ++ rest) (since.0 ++ rest) (ap (λ l. l ++ rest) since.1 ∙ append_assoc h.left since.0 rest)));
      holds = subst (λ x. RunSound p tells.colon tells.end tells.since h.since x) h.ran
          (run_sound p tells.colon tells.end h.since tells.since h.behind (tells.holds p));
    }

-- what is known of the token that has begun
pub begun_right : (p : Place) (s : Known) (u : List ℕ) (ts : List Placed) → Scanned p s u ts [] → ShowsBegun p u ts (begun_in s)
unfolding Reaches
begun_right p s u ts h = (there.colon, there.end, there.since, there.lexes, by (is_idle s.mode) refl) where
  there : HoldsBehind p s u ts
  there = begun_holds p s u ts h

  since : Continues h.since h.left
  since = all_since p s u ts h

  within : (w : List ℕ) → (behind s.mode ≡ 0) ⊎ ((behind s.mode ≡ 1) × (front : List ℕ) × (w ≡ front ++ codes "/")) → length w ≤ s.used → behind s.mode ≤ s.used
  within w (inl e) h = omega (arith, e)
  within w (inr (e, front, f)) h = omega (arith, e, h, ap length f, length-append front (codes "/"))

  begun : Begun
  begun = record { start = s.start; end = s.used - behind s.mode; form = form_of s.mode }

  may_comment : is_idle s.mode ≡ false → behind s.mode ≡ 1 → MayComment p u ts begun
  may_comment i one = by (slash_comments p s u ts h one) where
    by : EndsBeforeComment p s u ts ⊎ ((rest : List ℕ) (others : List Placed) → LooksIn p others → Lexes false 0 (u ++ rest) (ts ++ others) → ⊥)
        → MayComment p u ts begun
    by (inl x) = inl (x.lexeme, x.start ∙ begun_stays s.mode s.start s.used i, x.end ∙ ap (λ (n : ℕ). s.used - n) (sym one), x.lexes)
    by (inr never) = inr never

  reaching : (w : List ℕ) → is_idle s.mode ≡ false → (behind s.mode ≡ 0) ⊎ ((behind s.mode ≡ 1) × (front : List ℕ) × (w ≡ front ++ codes "/"))
      → behind s.mode ≤ s.used
      → (s.used - behind s.mode ≡ there.end + length there.since)
      ⊎ ((s.used - behind s.mode + 1 ≡ there.end + length there.since) × (front : List ℕ) × (w ≡ front ++ codes "/") × MayComment p u ts begun)
  reaching w i (inl e) less = let used = there.holds.used in inl (omega (arith, e, used))
  reaching w i (inr (e, front, f)) less = let used = there.holds.used in inr (omega (arith, e, less, used), front, f, may_comment i e)

  -- a colon there is a token up to the end of the input
  no_colon : is_idle s.mode ≡ false → IsFirstColon there.colon there.since → ⊥
  no_colon i (flag, blank, is_blank, cut) =
      let start : ℕ = there.end + length blank in
      let colon : Lexeme = record { start = start; end = start + 1; kind = TokenKind.Mark Mark.Colon; octets = [] } in
      let behind = lexes_behind ts (record { place = p; lexeme = colon } ∷ []) false 0 u there.colon there.end there.since there.lexes (
        [],
        record {
          blank = blank;
          token = codes ":";
          is_blank = is_blank;
          cut = cut ∙ sym (append-nil (blank ++ codes ":"));
          start = refl;
          end = refl;
          is =
              (refl, refl, flag, refl);
        },
        inl blank_none,
      ) in
      let shown = end_token h.behind s h.front ts (record { place = p; lexeme = colon }) h.left h.since since.0 p h.told since.1 h.ran refl
      (subst (λ o. Lexes false 0 o (ts ++ record { place = p; lexeme = colon } ∷ [])) h.cut behind) in
      true≢false (sym (colon_idle p s s.mode colon refl shown) ∙ i)

  always : is_idle s.mode ≡ false → behind s.mode ≤ s.used → (rest : List ℕ) (others : List Placed) → LooksIn p others
      → Lexes false 0 (u ++ rest) (ts ++ others) → Covers begun.start begun.end others
  always i less = λ rest others looks lexes.
      covers p h.behind s h.since rest s.start (s.used - behind s.mode) h.ran (refl, i, omega (arith, less)) others looks
      (stands_finds h.behind h.front ts h.left (h.since ++ rest) others h.told (since.0 ++ rest)
      (ap (λ l. l ++ rest) since.1 ∙ append_assoc h.left since.0 rest)
      (subst (λ o. Lexes false 0 o (ts ++ others)) (ap (λ l. l ++ rest) h.cut ∙ append_assoc h.front h.since rest) lexes))

  token : is_idle s.mode ≡ false → HasBegun p u ts there.colon there.end there.since begun
  token i =
      let b = open_token p there.colon there.end s.mode s.kept s.start there.since i there.holds.mode in
      let size : length there.since ≡ length b.front + length b.token = ap length b.cut ∙ length-append b.front b.token in
      let slash = slash_behind p there.colon s.mode b.token s.kept b.is in
      let used = there.holds.used in
      let less : behind s.mode ≤ s.used = within b.token slash (omega (arith, size, used)) in
      record {
        blank = b.front;
        token = b.token;
        is_blank = b.blank;
        cut = b.cut;
        form = form_is p there.colon s.mode b.token s.kept b.is i;
        start = b.begins;
        reaches = reaching b.token i slash less;
        always = always i less;
        no_blank = λ rest blank. always i less rest [] tt (lexes_behind ts [] false 0 (u ++ rest) there.colon there.end (there.since ++ rest)
            (there.longer rest) (inl blank));
        no_colon = no_colon i;
      }

  by : (b : Bool) → is_idle s.mode ≡ b → BegunSo p u ts there.colon there.end there.since (cond b None (Some begun))
  by true i = none_begun p u ts there.colon there.end s.mode s.kept s.start there.since i there.holds.mode
  by false i = token i
