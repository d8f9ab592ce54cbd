-- A `/` behind a number or a run of operator characters: another one makes a comment of it, unless no document goes on so.
use Rattle.std.proofs.Common.{◌≡◌, ℕ, ◌-◌, ◌⊎◌, inl, inr, Bool, true, false, cond, List, [], ◌∷◌, ◌++◌, refl, sym, ap, ◌∙◌, subst, append_assoc}
use Rattle.std.specs.Prelude.{◌==◌, ◌||◌, codes, Option, Some, None, Result, Ok, Err}
use Rattle.std.specs.List.{list_any}
use Rattle.std.proofs.lemmas.Bool.{cond_both, false≢true, or_cases, or_left, or_right, true≢false}
use Rattle.ion_tokens.specs.Names.{Action, Given, IsLexeme, Keep, Known, Leaved, Left, Lexeme, Lexes, LooksIn, Mode, Next, Outcome, Passes, Place, Placed, Reason, Refused, Scanned, Stands, TokenKind, acts, behind, cut, end_of, ends_at, feed, follow, go_to, in_number, in_number_slash, is_stop, past, run, start_of}
use Rattle.ion_tokens.specs.machine.Table.{next}
use Rattle.ion_tokens.specs.laws.Numerals.{run_without_slash}
use Rattle.ion_tokens.proofs.complete.Found.{Finds, Gives, Last, Leaves, Nothing, Unclosed}
use Rattle.ion_tokens.proofs.complete.Wholes.{run_behind}
use Rattle.ion_tokens.proofs.histories.Histories.{stands_finds}
use Rattle.ion_tokens.proofs.histories.Stepped.{all_since, pass_more}
use Rattle.ion_tokens.proofs.runs.Runs.{next_used}
use Rattle.ion_tokens.proofs.sound.Told.{ends_in_blank}

abbrev has_slash : List ℕ → Bool
has_slash w = list_any (λ o. o == 47) w

has_longer : (w r : List ℕ) → has_slash w ≡ true → has_slash (w ++ r) ≡ true
has_longer [] r h = absurd (false≢true h)
has_longer (o ∷ w) r h = elim (or_cases (o == 47) (has_slash w) h) [
  | inl e ↦ or_left (o == 47) (has_slash (w ++ r)) e
  | inr e ↦ or_right (o == 47) (has_slash (w ++ r)) (has_longer w r e)
]

abbrev in_numeric : Mode → Bool
in_numeric Mode.Number = true
in_numeric Mode.NumberSlash = true
in_numeric _ = false

-- a numeric token in which a `/` stands goes on, or has ended
unfoldable Slashed : Outcome → Type 0
Slashed (Next s) = (in_numeric s.mode ≡ true) × (has_slash s.kept ≡ true)
Slashed (Given l s) = ⊥
Slashed (Left l s) = (l.kind ≡ TokenKind.Number) × (has_slash l.octets ≡ true)
Slashed (Refused n e) = Unit {0}

module _ (p : Place) (s : Known) (o : ℕ) (has : has_slash s.kept ≡ true) where
  on : (test : Bool) (x y : Action) → (test ≡ true → Slashed (acts p s o x)) → (test ≡ false → Slashed (acts p s o y)) → Slashed (acts p s o (cond test x y))
  on test x y = cond_both test x y (λ a. Slashed (acts p s o a))

  number_slashed : Slashed (acts p s o (in_number o))
  unfolding Slashed
  number_slashed = on (is_stop o) _ _ (λ _. (refl, has)) (λ _. on (o == 47) _ _ (λ _. (refl, has)) (λ _. (refl, has_longer s.kept (o ∷ []) has)))

  number_slash_slashed : Slashed (acts p s o (in_number_slash o))
  unfolding Slashed
  number_slash_slashed = let longer = has_longer s.kept (47 ∷ []) has in on ((o == 47) || (o == 42)) _ _ (λ _. (refl, has))
      (λ _. on (is_stop o) _ _ (λ _. (refl, longer)) (λ _. (refl, has_longer (s.kept ++ 47 ∷ []) (o ∷ []) longer)))

  mode_slashed : (m : Mode) → in_numeric m ≡ true → Slashed (acts p s o (next p s.colon m o))
  mode_slashed Mode.Number h = number_slashed
  mode_slashed Mode.NumberSlash h = number_slash_slashed
  mode_slashed _ h = cc

follow_slashed : (x : Outcome) (f : Known → Outcome) → Slashed x → ((s : Known) → Slashed (Next s) → Slashed (f s)) → Slashed (follow x f)
follow_slashed (Next s) f h k = k s h
follow_slashed _ f h k = h

run_slashed : (p : Place) (os : List ℕ) (s : Known) → Slashed (Next s) → Slashed (run p os s)
unfolding Slashed
run_slashed p [] s h = h
run_slashed p (o ∷ os) s h = follow_slashed (feed p s o) (λ t. run p os t) (mode_slashed p s o h.1 s.mode h.0) (λ t k. run_slashed p os t k)

-- at the end of the input too
abbrev EndSlashed : Result (Option Lexeme) Reason → Type 0
EndSlashed (Ok None) = ⊥
EndSlashed (Ok (Some l)) = (l.kind ≡ TokenKind.Number) × (has_slash l.octets ≡ true)
EndSlashed (Err e) = ⊥

end_slashed : (s : Known) (p : Place) (m : Mode) → in_numeric m ≡ true → has_slash s.kept ≡ true → EndSlashed (ends_at s (end_of p m))
end_slashed s p Mode.Number h has = (refl, has)
end_slashed s p Mode.NumberSlash h has = (refl, has_longer s.kept (47 ∷ []) has)
end_slashed s p _ h has = cc

-- the next token is a number in which a `/` stands
abbrev NextSlashed : List Placed → Type 0
NextSlashed [] = ⊥
NextSlashed (t ∷ ts) = (t.lexeme.kind ≡ TokenKind.Number) × (has_slash t.lexeme.octets ≡ true)

finds_slashed : (p : Place) (s0 s : Known) (octets rest : List ℕ) → run p octets s0 ≡ Next s → Slashed (Next s) → (others : List Placed) → LooksIn p others
    → Finds s0 (octets ++ rest) others → NextSlashed others
unfolding Slashed
finds_slashed p s0 s octets rest ran slashed others looks found = by others looks found where
  comes : (q : Place) (x : Outcome) → q ≡ p → run q (octets ++ rest) s0 ≡ x → Slashed x
  comes q x e f = subst (λ y. Slashed y) (sym (run_behind p octets rest s0 s ran) ∙ ap (λ q'. run q' (octets ++ rest) s0) (sym e) ∙ f)
      (run_slashed p rest s slashed)

  by : (others : List Placed) → LooksIn p others → Finds s0 (octets ++ rest) others → NextSlashed others
  by [] looks (Nothing _ _ f) =
      let (s', e, none) = f p in
      let (number, has) = comes p (Next s') refl e in
      subst (λ x. EndSlashed x) none (end_slashed s' p s'.mode number has)
  by (t ∷ ts) looks (Last _ _ _ s' e f) =
      let (number, has) = comes t.place (Next s') looks e in
      subst (λ x. EndSlashed x) f (end_slashed s' t.place s'.mode number has)
  by (t ∷ ts) looks (Gives _ _ _ _ s' e f) = absurd (comes t.place (Given t.lexeme s') looks e)
  by (t ∷ ts) looks (Leaves _ _ _ _ s' e f) = comes t.place (Left t.lexeme s') looks e
  by (t ∷ ts) looks (Unclosed _ _ _ _ s' _ _ m e f _ _ _) =
      let (number, has) = comes t.place (Next s') looks e in
      absurd (subst (λ x. EndSlashed x) f (end_slashed s' t.place s'.mode number has))

not_slashed : (ts others : List Placed) (colon : Bool) (k : ℕ) (octets : List ℕ) → Lexes colon k octets (ts ++ others) → NextSlashed others → ⊥
not_slashed [] [] colon k octets lexes slashed = slashed
not_slashed [] (t ∷ others) colon k octets (rest, b, more) (number, has) =
    let is : IsLexeme t.place colon b.token rest TokenKind.Number t.lexeme.octets =
    subst (λ kind. IsLexeme t.place colon b.token rest kind t.lexeme.octets) number b.is in
    true≢false (sym has ∙ ap has_slash is.0 ∙ run_without_slash b.token is.2.each)
not_slashed (t ∷ ts) others colon k octets (rest, b, more) slashed = not_slashed ts others _ t.lexeme.end rest more slashed

-- the kind of the token that the `/` is behind
abbrev kind_behind : Mode → TokenKind
kind_behind Mode.NumberSlash = TokenKind.Number
kind_behind _ = TokenKind.Operator

slash_ends : (p : Place) (colon : Bool) (m : Mode) → behind m ≡ 1 → next p colon m 47 ≡ Action.Before (kind_behind m) Keep.Nothing Mode.Slash
slash_ends p colon Mode.NumberSlash h = refl
slash_ends p colon Mode.OperatorSlash h = refl
slash_ends p colon _ h = cc

-- the octets but for the last one are a token, and it begins a comment
pub record EndsBeforeComment (p : Place) (s : Known) (u : List ℕ) (ts : List Placed) : Type 0 where
  pub lexeme : Lexeme
  pub start : lexeme.start ≡ start_of s.mode s.start s.used
  pub end : lexeme.end ≡ s.used - 1
  pub lexes : Lexes false 0 (u ++ codes "/") (ts ++ record { place = p; lexeme = lexeme } ∷ [])

module _ (p : Place) (s : Known) (u : List ℕ) (ts : List Placed) (h : Scanned p s u ts []) (one : behind s.mode ≡ 1) where
  abbrev kind : TokenKind
  kind = kind_behind s.mode

  abbrev token : Placed
  token = record { place = p; lexeme = cut s kind s.kept (s.used - 1) }

  abbrev now : Known
  now = past p kind Mode.Slash [] (s.used - 1) s.used

  left : run p (47 ∷ []) s ≡ Left token.lexeme now
  left = ap (λ a. follow (acts p s 47 a) (λ t. Next t)) (slash_ends p s.colon s.mode one)

  stands : Stands now u (ts ++ token ∷ []) (47 ∷ [])
  stands =
      let (more, since) = all_since p s u ts h in
      subst (λ l. Stands now l (ts ++ token ∷ []) (47 ∷ [])) (sym h.cut)
      (Leaved h.behind h.front ts h.left token h.since (more ++ 47 ∷ []) 47 now h.told (ap (λ l. l ++ 47 ∷ []) since ∙ append_assoc h.left more (47 ∷ []))
      (run_behind p h.since (47 ∷ []) h.behind s h.ran ∙ left) (next_used p h.since h.behind s (sym h.ran)))

  -- where the token passes, it ends before the `/`
  pub ends_before : Passes kind s.kept → EndsBeforeComment p s u ts
  ends_before passes = record {
    lexeme = token.lexeme;
    start = refl;
    end = refl;
    lexes = ends_in_blank now (go_to now Mode.LineComment []) u (ts ++ token ∷ []) (47 ∷ []) (47 ∷ []) [] p stands (pass_more ts token h.pass passes) refl refl
        refl;
  }

-- A `/` that isn't counted, as a comment may begin with it: a token ends before it, or no document goes on so.
pub slash_comments : (p : Place) (s : Known) (u : List ℕ) (ts : List Placed) → Scanned p s u ts [] → behind s.mode ≡ 1
    → EndsBeforeComment p s u ts ⊎ ((rest : List ℕ) (others : List Placed) → LooksIn p others → Lexes false 0 (u ++ rest) (ts ++ others) → ⊥)
unfolding Slashed
slash_comments p s u ts h one = by s.mode one refl (has_slash s.kept) refl where
  never : (in_numeric s.mode ≡ true) → has_slash s.kept ≡ true → (rest : List ℕ) (others : List Placed) → LooksIn p others
      → Lexes false 0 (u ++ rest) (ts ++ others) → ⊥
  never number has = λ rest others looks lexes.
      let (more, since) = all_since p s u ts h in
      let there = subst (λ o. Lexes false 0 o (ts ++ others)) (ap (λ l. l ++ rest) h.cut ∙ append_assoc h.front h.since rest) lexes in
      not_slashed ts others false 0 (h.front ++ (h.since ++ rest)) there
      (finds_slashed p h.behind s h.since rest h.ran (number, has) others looks
      (stands_finds h.behind h.front ts h.left (h.since ++ rest) others h.told (more ++ rest) (ap (λ l. l ++ rest) since ∙ append_assoc h.left more rest)
      there))

  by : (m : Mode) → behind m ≡ 1 → s.mode ≡ m → (b : Bool) → has_slash s.kept ≡ b
      → EndsBeforeComment p s u ts ⊎ ((rest : List ℕ) (others : List Placed) → LooksIn p others → Lexes false 0 (u ++ rest) (ts ++ others) → ⊥)
  by Mode.NumberSlash f e true has = inr (never (ap in_numeric e) has)
  by Mode.NumberSlash f e false has = inl (ends_before p s u ts h one (subst (λ m. Passes (kind_behind m) s.kept) (sym e) has))
  by Mode.OperatorSlash f e b has = inl (ends_before p s u ts h one (subst (λ m. Passes (kind_behind m) s.kept) (sym e) tt))
  by _ f e b has = cc
