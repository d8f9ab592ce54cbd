-- Operators are read as they are spelled.
use Rattle.std.proofs.Common.{◌≡◌, ◌≢◌, ℕ, ◌+◌, ◌-◌, ◌<◌, ◌⊎◌, inl, inr, ⊎_elim, Bool, true, false, List, [], ◌∷◌, ◌++◌, length, refl, sym, ap, ◌∙◌, subst, arith, append_assoc, append-nil, length-append, cond}
use Rattle.std.specs.Prelude.{◌==◌, ◌||◌, not, codes, take, Some, Ok}
use Rattle.std.proofs.lemmas.Bool.{and_parts, eqb-false, eqb-true, false≢true, ne_eqb, not-true, or_parts, true≢false}
use Rattle.std.proofs.lemmas.Bool.Decides.{nat_tests}
use Rattle.ion_tokens.specs.Names.{Action, Each, Ending, IsOperator, Keep, Left, Mode, Next, Place, TokenKind, acts, begins, begins_comment, begins_infinity, comment_within, follow, in_blank, in_infinity, in_operator, in_operator_slash, in_slash, is_digit, is_operator_octet, is_plain_operator, is_sexp, is_word_octet, past, run, run_ending}
use Rattle.ion_tokens.specs.Lexemes.{ends}
use Rattle.ion_tokens.proofs.complete.Moves.{AtEnd, Later, Moves, Open, Opens, Resumes, Takes, at, blank, moves_none, moves_one, moves_then, moves_to, opens_one, opens_then, takes_end, takes_left}
use Rattle.ion_tokens.proofs.complete.TakesWords.{takes_before_slash}
use Rattle.ion_tokens.proofs.texts.TextsComplete.{bool_cases, eq_or}

-- what the ending says of the run
abbrev EndsAs : Ending → List ℕ → Type 0
EndsAs Ending.LoneMinus w = (ends (λ o. o == 45) w ≡ true) × (ends (λ o. (o == 43) || (o == 45)) w ≡ true)
EndsAs Ending.Minus w = (ends (λ o. o == 45) w ≡ true) × (ends (λ o. (o == 43) || (o == 45)) w ≡ true)
EndsAs Ending.Plus w = ends (λ o. (o == 43) || (o == 45)) w ≡ true
EndsAs Ending.Other w = Unit {0}

-- how octets end, with one more behind them
pub ends_last : (class : ℕ → Bool) (xs : List ℕ) (o : ℕ) → ends class (xs ++ o ∷ []) ≡ class o
ends_last class [] o = refl
ends_last class (x ∷ []) o = refl
ends_last class (x ∷ y ∷ xs) o = ends_last class (y ∷ xs) o

run_ends : (xs : List ℕ) (o : ℕ) → EndsAs (run_ending o) (xs ++ o ∷ [])
run_ends xs o = by (o == 43) (o == 45) refl refl where
  by : (b c : Bool) → (o == 43) ≡ b → (o == 45) ≡ c → EndsAs (cond b Ending.Plus (cond c Ending.Minus Ending.Other)) (xs ++ o ∷ [])
  by true c e f = ends_last (λ o. (o == 43) || (o == 45)) xs o ∙ ap (λ b. b || (o == 45)) e
  by false true e f = (ends_last (λ o. o == 45) xs o ∙ f, ends_last (λ o. (o == 43) || (o == 45)) xs o ∙ (λ i. e i || f i))
  by false false e f = tt

-- how the run goes on over these octets
data OpTo (front : List ℕ) (e : Ending) (os r : List ℕ) : Type 0 where
  InRun : (e' : Ending) → EndsAs e' (front ++ os) → Moves Place.Sexp (Mode.Operator e) front os (Mode.Operator e') (front ++ os) → OpTo front e os r
  InSlash : (kept : List ℕ) → front ++ os ≡ kept ++ 47 ∷ [] → begins_comment (47 ∷ r) ≡ false
      → Moves Place.Sexp (Mode.Operator e) front os Mode.OperatorSlash kept → OpTo front e os r

op_behind : (front xs ys r : List ℕ) (e e1 : Ending) → Moves Place.Sexp (Mode.Operator e) front xs (Mode.Operator e1) (front ++ xs)
    → OpTo (front ++ xs) e1 ys r → OpTo front e (xs ++ ys) r
op_behind front xs ys r e e1 m (InRun e' h n) = InRun e' (subst (λ l. EndsAs e' l) (append_assoc front xs ys) h) (moves_to (append_assoc front xs ys)
    (moves_then m n))
op_behind front xs ys r e e1 m (InSlash kept h c n) = InSlash kept (sym (append_assoc front xs ys) ∙ h) c (moves_then m n)

op_one : (front : List ℕ) (e : Ending) (o : ℕ) → is_operator_octet o ≡ true → o ≢ 47
    → Moves Place.Sexp (Mode.Operator e) front (o ∷ []) (Mode.Operator (run_ending o)) (front ++ o ∷ [])
op_one front e o h n = moves_one Place.Sexp (Mode.Operator e) o front (Mode.Operator (run_ending o)) (Keep.One o) (λ s u. refl) (λ c. grind (arith, nat_tests))

slash_one : (front : List ℕ) (e : Ending) → Moves Place.Sexp (Mode.Operator e) front (47 ∷ []) Mode.OperatorSlash front
slash_one front e = moves_one Place.Sexp (Mode.Operator e) 47 front Mode.OperatorSlash Keep.Nothing (λ s u. refl) (λ c. refl)

two_kept : (front : List ℕ) (a b : ℕ) → (front ++ a ∷ []) ++ b ∷ [] ≡ front ++ a ∷ b ∷ []
two_kept front a b = append_assoc front (a ∷ []) (b ∷ [])

op_two : (front : List ℕ) (e : Ending) (c : ℕ) → is_operator_octet c ≡ true → c ≢ 47 → c ≢ 42
    → Moves Place.Sexp (Mode.Operator e) front (47 ∷ c ∷ []) (Mode.Operator (run_ending c)) (front ++ 47 ∷ c ∷ [])
op_two front e c h n m = moves_to (two_kept front 47 c) (moves_then (slash_one front e)
    (moves_one Place.Sexp Mode.OperatorSlash c front (Mode.Operator (run_ending c)) (Keep.Two 47 c) (λ s u. refl) (λ b. grind (arith, nat_tests))))

-- behind a / within an operator no comment's second octet stands
no_comment : (c : ℕ) → ((c == 47) || (c == 42)) ≡ false → (c ≢ 47) × (c ≢ 42)
no_comment c h = (grind (arith, nat_tests), grind (arith, nat_tests))

op_moves : (os front r : List ℕ) (e : Ending) → EndsAs e front → Each is_operator_octet os → comment_within os r ≡ false → OpTo front e os r
op_moves [] front r e h each apart = InRun e (subst (λ l. EndsAs e l) (sym (append-nil front)) h) (moves_to (sym (append-nil front)) (moves_none))
op_moves (o ∷ []) front r e h each apart = ⊎_elim (λ (i : o ≡ 47). subst (λ (x : ℕ). OpTo front e (x ∷ []) r) (sym i)
    (InSlash front refl (or_parts (begins_comment (47 ∷ r)) false (subst (λ (x : ℕ). comment_within (x ∷ []) r ≡ false) i apart)).0 (slash_one front e)))
    (λ n. InRun (run_ending o) (run_ends front o) (op_one front e o each.0 n)) (eq_or o 47)
op_moves (o ∷ c ∷ os) front r e h each apart = ⊎_elim (λ i. slash i (op_moves os (front ++ 47 ∷ c ∷ []) r (run_ending c)))
    (λ n. op_behind front (o ∷ []) (c ∷ os) r e (run_ending o) (op_one front e o each.0 n)
    (op_moves (c ∷ os) (front ++ o ∷ []) r (run_ending o) (run_ends front o) each.1
    (or_parts (begins_comment (o ∷ c ∷ os ++ r)) (comment_within (c ∷ os) r) apart).1)) (eq_or o 47)
  where
    slash : o ≡ 47 → (EndsAs (run_ending c) (front ++ 47 ∷ c ∷ []) → Each is_operator_octet os → comment_within os r ≡ false
        → OpTo (front ++ 47 ∷ c ∷ []) (run_ending c) os r) → OpTo front e (o ∷ c ∷ os) r
    slash i f =
        let within : comment_within (47 ∷ c ∷ os) r ≡ false = subst (λ (x : ℕ). comment_within (x ∷ c ∷ os) r ≡ false) i apart in
        let parts : (((c == 47) || (c == 42)) ≡ false) × (comment_within (c ∷ os) r ≡ false) =
        or_parts ((c == 47) || (c == 42)) (comment_within (c ∷ os) r) within in
        let n : (c ≢ 47) × (c ≢ 42) = no_comment c parts.0 in
        let last : EndsAs (run_ending c) (front ++ 47 ∷ c ∷ []) = subst (λ l. EndsAs (run_ending c) l) (two_kept front 47 c) (run_ends (front ++ 47 ∷ []) c) in
        subst (λ (x : ℕ). OpTo front e (x ∷ c ∷ os) r) (sym i)
        (op_behind front (47 ∷ c ∷ []) os r e (run_ending c) (op_two front e c each.1.0 n.0 n.1)
        (f last each.1.1 (or_parts (begins_comment (c ∷ os ++ r)) (comment_within os r) parts.1).1))

-- what ends a run
abbrev Run : Bool → List ℕ → Ending → Type 0
Run colon w e = Opens Place.Sexp colon w (Mode.Operator e) w

digit_ends : (e : Ending) (x : ℕ) → is_digit x ≡ true → (e ≡ Ending.Plus) ⊎ (e ≡ Ending.Other) → in_operator Place.Sexp e x
    ≡ Action.Before TokenKind.Operator Keep.Nothing Mode.Blank
digit_ends e x d (inl i) = subst (λ e. in_operator Place.Sexp e x ≡ Action.Before TokenKind.Operator Keep.Nothing Mode.Blank) (sym i) (rw d)
digit_ends e x d (inr i) = subst (λ e. in_operator Place.Sexp e x ≡ Action.Before TokenKind.Operator Keep.Nothing Mode.Blank) (sym i) (rw d)

-- an octet of no operator that begins neither a number nor `inf` nor a comment ends one
pub other_ends : (e : Ending) (x : ℕ) → is_digit x ≡ false → x ≢ 105 → x ≢ 47 → is_operator_octet x ≡ false → in_operator Place.Sexp e x
    ≡ Action.Before TokenKind.Operator Keep.Nothing Mode.Blank
other_ends e x d i s o = rw (o, d, ne_eqb x 105 i, ne_eqb x 47 s) refl

-- an operator, read from a blank in an s-expression
abbrev Read : Bool → List ℕ → List ℕ → Type 0
Read colon w r = Takes Place.Sexp colon w r TokenKind.Operator w

-- behind a sign stands the front of `inf`, which turns out to be a word
takes_split : (colon : Bool) (w ahead : List ℕ) (n x : ℕ) (rest : List ℕ) → Opens Place.Sexp colon (w ++ ahead) (Mode.Infinity n) w
    → in_infinity Place.Sexp n x ≡ Action.Split n → n ≡ length ahead
    → take n (codes "inf") ≡ ahead → Resumes ahead Mode.Word ahead → Read colon w (ahead ++ x ∷ rest)
takes_split colon w ahead n x rest f e size letters resumes = Later ahead x rest Mode.Word ahead refl resumes (λ start used.
    let longer : used + length (w ++ ahead) ≡ (used + length w) + length ahead = omega (arith, length-append w ahead) in
    let back : ((used + length w) + length ahead) - n ≡ used + length w = omega arith in
    ap (λ os. run Place.Sexp os (blank colon start used)) (sym (append_assoc w ahead (x ∷ rest))) ∙ f.on start used (x ∷ rest)
    ∙ ap (λ (i : ℕ). run Place.Sexp (x ∷ rest) (at (Mode.Infinity n) w colon used i)) longer
    ∙ ap (λ a. follow (acts Place.Sexp (at (Mode.Infinity n) w colon used ((used + length w) + length ahead)) x a) (λ t. run Place.Sexp rest t)) e
    ∙ (λ i. Left (record { start = used; end = back i; kind = TokenKind.Operator; octets = w })
    (past Place.Sexp TokenKind.Operator Mode.Word (letters i) (back i) ((used + length w) + length ahead))))

-- the first letters of `inf` lead into a word
pub resumes_i : Resumes (105 ∷ []) Mode.Word (105 ∷ [])
resumes_i p colon end = refl

-- so do two
pub resumes_in : Resumes (105 ∷ 110 ∷ []) Mode.Word (105 ∷ 110 ∷ [])
resumes_in p colon end = let two : (end + 1) + 1 ≡ end + 2 = omega arith in ap (λ (n : ℕ). Next (at Mode.Word (105 ∷ 110 ∷ []) colon end n)) two

-- and all
pub resumes_inf : Resumes (105 ∷ 110 ∷ 102 ∷ []) Mode.Word (105 ∷ 110 ∷ 102 ∷ [])
resumes_inf p colon end = let three : ((end + 1) + 1) + 1 ≡ end + 3 = omega arith in
    ap (λ (n : ℕ). Next (at Mode.Word (105 ∷ 110 ∷ 102 ∷ []) colon end n)) three

split_one : (x : ℕ) → x ≢ 110 → in_infinity Place.Sexp 1 x ≡ Action.Split 1
split_one x n = rw (ne_eqb x 110 n)

split_two : (x : ℕ) → x ≢ 102 → in_infinity Place.Sexp 2 x ≡ Action.Split 2
split_two x n = rw (ne_eqb x 102 n)

i_opens : (e : Ending) → (e ≢ Ending.Other) → in_operator Place.Sexp e 105 ≡ Action.Go (Mode.Infinity 1) Keep.Nothing
i_opens Ending.Other n = absurd (n refl)
i_opens _ n = refl

letter_on : (w : List ℕ) (n m x : ℕ) → in_infinity Place.Sexp n x ≡ Action.Go (Mode.Infinity m) Keep.Nothing
    → Moves Place.Sexp (Mode.Infinity n) w (x ∷ []) (Mode.Infinity m) w
letter_on w n m x e = moves_one Place.Sexp (Mode.Infinity n) x w (Mode.Infinity m) Keep.Nothing (λ s u. refl) (λ c. e)

takes_infinity : (colon : Bool) (w : List ℕ) (e : Ending) (rest : List ℕ) → Run colon w e → e ≢ Ending.Other → begins_infinity (105 ∷ rest) ≡ false
    → Read colon w (105 ∷ rest)
takes_infinity colon w e rest f n h = one rest h where
  opens1 : Opens Place.Sexp colon (w ++ 105 ∷ []) (Mode.Infinity 1) w
  opens1 = opens_then f (moves_one Place.Sexp (Mode.Operator e) 105 w (Mode.Infinity 1) Keep.Nothing (λ s u. refl) (λ c. i_opens e n))

  opens2 : Opens Place.Sexp colon (w ++ 105 ∷ 110 ∷ []) (Mode.Infinity 2) w
  opens2 = subst (λ l. Opens Place.Sexp colon l (Mode.Infinity 2) w) (append_assoc w (105 ∷ []) (110 ∷ []))
      (opens_then opens1 (letter_on w 1 2 110 refl))

  opens3 : Opens Place.Sexp colon (w ++ 105 ∷ 110 ∷ 102 ∷ []) (Mode.Infinity 3) w
  opens3 = subst (λ l. Opens Place.Sexp colon l (Mode.Infinity 3) w) (append_assoc w (105 ∷ 110 ∷ []) (102 ∷ []))
      (opens_then opens2 (letter_on w 2 3 102 refl))

  three : (rest : List ℕ) → begins_infinity (105 ∷ 110 ∷ 102 ∷ rest) ≡ false → Read colon w (105 ∷ 110 ∷ 102 ∷ rest)
  three [] h = absurd (true≢false h)
  three (x ∷ rest) h = ⊎_elim (λ word. takes_split colon w (105 ∷ 110 ∷ 102 ∷ []) 3 x rest opens3 (rw word) refl refl resumes_inf)
      (λ none. absurd (true≢false (sym (ap not none) ∙ h))) (bool_cases (is_word_octet x))

  two : (rest : List ℕ) → begins_infinity (105 ∷ 110 ∷ rest) ≡ false → Read colon w (105 ∷ 110 ∷ rest)
  two [] h = Open refl refl resumes_in (λ start used. (
    at (Mode.Infinity 2) w colon used (used + length (w ++ 105 ∷ 110 ∷ [])),
    refl,
    ap (λ l. run Place.Sexp l (blank colon start used)) (sym (append-nil (w ++ 105 ∷ 110 ∷ []))) ∙ opens2.on start used [],
    refl,
  ))
  two (x ∷ rest) h = ⊎_elim (λ (i : x ≡ 102). subst (λ (y : ℕ). Read colon w (105 ∷ 110 ∷ y ∷ rest)) (sym i)
      (three rest (subst (λ (y : ℕ). begins_infinity (105 ∷ 110 ∷ y ∷ rest) ≡ false) i h)))
      (λ n. takes_split colon w (105 ∷ 110 ∷ []) 2 x rest opens2 (split_two x n) refl refl resumes_in) (eq_or x 102)

  one : (rest : List ℕ) → begins_infinity (105 ∷ rest) ≡ false → Read colon w (105 ∷ rest)
  one [] h = Open refl refl resumes_i (λ start used. (
    at (Mode.Infinity 1) w colon used (used + length (w ++ 105 ∷ [])),
    refl,
    ap (λ l. run Place.Sexp l (blank colon start used)) (sym (append-nil (w ++ 105 ∷ []))) ∙ opens1.on start used [],
    refl,
  ))
  one (x ∷ rest) h = ⊎_elim (λ (i : x ≡ 110). subst (λ (y : ℕ). Read colon w (105 ∷ y ∷ rest)) (sym i)
      (two rest (subst (λ (y : ℕ). begins_infinity (105 ∷ y ∷ rest) ≡ false) i h)))
      (λ n. takes_split colon w (105 ∷ []) 1 x rest opens1 (split_one x n) refl refl resumes_i) (eq_or x 110)

-- a comment behind the operator
comment_ends : (colon : Bool) (w : List ℕ) (e : Ending) (rest : List ℕ) → Run colon w e → begins_comment (47 ∷ rest) ≡ true → Read colon w (47 ∷ rest)
comment_ends colon w e [] f h = absurd (false≢true h)
comment_ends colon w e (x ∷ rest) f h = takes_before_slash Place.Sexp colon w x rest TokenKind.Operator Mode.OperatorSlash w (λ s u. refl)
    (opens_then f (slash_one w e)) (λ c. rw h)

comment_first : (x : ℕ) (rest : List ℕ) → begins_comment (x ∷ rest) ≡ true → x ≡ 47
comment_first x rest h = eqb-true x 47 (and_parts (x == 47) (begins (λ p. (p == 47) || (p == 42)) rest) h).0

-- a run of which no / is pending
run_read : (colon : Bool) (w : List ℕ) (e : Ending) (r : List ℕ) → Run colon w e → EndsAs e w → IsOperator w r → Read colon w r
run_read colon w e [] f h o = takes_end f (λ start used. refl)
run_read colon w e (x ∷ rest) f h o =
    ⊎_elim (λ d. digit e f h d) (λ d.
    ⊎_elim (λ (i : x ≡ 105). subst (λ (y : ℕ). Read colon w (y ∷ rest)) (sym i)
    (letter e f h (λ s. subst (λ (y : ℕ). begins_infinity (y ∷ rest) ≡ false) i (o.no_float s)))) (λ i.
    ⊎_elim (λ (s : x ≡ 47). subst (λ (y : ℕ). Read colon w (y ∷ rest)) (sym s) (comment_ends colon w e rest f (slash s o.longest))) (λ s.
    left d i s o.longest) (eq_or x 47)) (eq_or x 105)) (bool_cases (is_digit x))
  where
    left_by : (e : Ending) → Run colon w e → in_operator Place.Sexp e x ≡ Action.Before TokenKind.Operator Keep.Nothing Mode.Blank → Read colon w (x ∷ rest)
    left_by e f g = takes_left Keep.Nothing (λ s u. refl) f (λ c. g)

    digit : (e : Ending) → Run colon w e → EndsAs e w → is_digit x ≡ true → Read colon w (x ∷ rest)
    digit Ending.Plus f h d = left_by Ending.Plus f (digit_ends Ending.Plus x d (inl refl))
    digit Ending.Other f h d = left_by Ending.Other f (digit_ends Ending.Other x d (inr refl))
    digit _ f h d = absurd (true≢false (sym d ∙ o.no_number h.0))

    letter : (e : Ending) → Run colon w e → EndsAs e w → (ends (λ o. (o == 43) || (o == 45)) w ≡ true → begins_infinity (105 ∷ rest) ≡ false)
        → Read colon w (105 ∷ rest)
    letter Ending.LoneMinus f h g = takes_infinity colon w Ending.LoneMinus rest f (λ i. cc) (g h.1)
    letter Ending.Minus f h g = takes_infinity colon w Ending.Minus rest f (λ i. cc) (g h.1)
    letter Ending.Plus f h g = takes_infinity colon w Ending.Plus rest f (λ i. cc) (g h)
    letter Ending.Other f h g = takes_left Keep.Nothing (λ s u. refl) f (λ c. refl)

    slash : x ≡ 47 → (is_operator_octet x ≡ false) ⊎ (begins_comment (x ∷ rest) ≡ true) → begins_comment (47 ∷ rest) ≡ true
    slash s (inl n) = absurd (true≢false (subst (λ (y : ℕ). is_operator_octet y ≡ false) s n))
    slash s (inr c) = subst (λ (y : ℕ). begins_comment (y ∷ rest) ≡ true) s c

    left : is_digit x ≡ false → x ≢ 105 → x ≢ 47 → (is_operator_octet x ≡ false) ⊎ (begins_comment (x ∷ rest) ≡ true) → Read colon w (x ∷ rest)
    left d i s (inl n) = left_by e f (other_ends e x d i s n)
    left d i s (inr c) = absurd (s (comment_first x rest c))

-- a run that ends in a / behind other characters
slash_left : (x : ℕ) → x ≢ 47 → x ≢ 42 → is_operator_octet x ≡ false → in_operator_slash x ≡ Action.Before TokenKind.Operator (Keep.One 47) Mode.Blank
slash_left x n m o = rw (o, ne_eqb x 47 n, ne_eqb x 42 m)

after_slash : (r : List ℕ) (x : ℕ) (rest : List ℕ) → r ≡ x ∷ rest → begins_comment (47 ∷ r) ≡ false → (begins is_operator_octet r ≡ false)
    ⊎ (begins_comment r ≡ true) → (x ≢ 47) × (x ≢ 42) × (is_operator_octet x ≡ false)
after_slash r x rest e c l =
    let none : ((x == 47) || (x == 42)) ≡ false = subst (λ l. begins_comment (47 ∷ l) ≡ false) e c in
    let n : (x ≢ 47) × (x ≢ 42) = no_comment x none in (
      n.0,
      n.1,
      ⊎_elim (λ h. subst (λ l. begins is_operator_octet l ≡ false) e h)
          (λ h. absurd (n.0 (comment_first x rest (subst (λ l. begins_comment l ≡ true) e h)))) l,
    )

slash_read : (colon : Bool) (w kept r : List ℕ) → w ≡ kept ++ 47 ∷ [] → Opens Place.Sexp colon w Mode.OperatorSlash kept → begins_comment (47 ∷ r) ≡ false
    → IsOperator w r → Read colon w r
slash_read colon w kept [] e f c o = subst (λ l. Takes Place.Sexp colon w [] TokenKind.Operator l) (sym e) (takes_end f (λ start used. refl))
slash_read colon w kept (x ∷ r) e f c o =
    let n = after_slash (x ∷ r) x r refl c o.longest in
    subst (λ l. Takes Place.Sexp colon w (x ∷ r) TokenKind.Operator l) (sym e)
    (takes_left (Keep.One 47) (λ s u. refl) f (λ b. slash_left x n.0 n.1 n.2))

-- how a run begins
first_ending : ℕ → Ending
first_ending o = cond (o == 45) Ending.LoneMinus (cond (o == 43) Ending.Plus Ending.Other)

op_first : (colon : Bool) (o : ℕ) → is_operator_octet o ≡ true → o ≢ 47 → in_blank Place.Sexp colon o
    ≡ Action.Go (Mode.Operator (first_ending o)) (Keep.One o)
unfolding first_ending
op_first colon o h n = grind (arith, nat_tests)

first_ends : (o : ℕ) → EndsAs (first_ending o) (o ∷ [])
unfolding first_ending
first_ends o = by (o == 45) (o == 43) refl refl where
  by : (b c : Bool) → (o == 45) ≡ b → (o == 43) ≡ c → EndsAs (cond b Ending.LoneMinus (cond c Ending.Plus Ending.Other)) (o ∷ [])
  by true c e f = (e, by_or (o == 43) e) where
    by_or : (x : Bool) → (o == 45) ≡ true → (x || (o == 45)) ≡ true
    by_or true e = refl
    by_or false e = e
  by false true e f = ap (λ b. b || (o == 45)) f
  by false false e f = tt

slash_first : (c : ℕ) → is_operator_octet c ≡ true → c ≢ 47 → c ≢ 42 → in_slash Place.Sexp c ≡ Action.Go (Mode.Operator (run_ending c)) (Keep.Two 47 c)
slash_first c h n m = grind (arith, nat_tests)

opens_slashed : (colon : Bool) (c : ℕ) → is_operator_octet c ≡ true → c ≢ 47 → c ≢ 42 → Run colon (47 ∷ c ∷ []) (run_ending c)
opens_slashed colon c h n m = record {
  on = λ start used r.
      let two : (used + 1) + 1 ≡ used + 2 = omega arith in
      let one : (used + 1) - 1 ≡ used = omega arith in
      ap (λ a. follow (acts Place.Sexp (at Mode.Slash [] colon used (used + 1)) c a) (λ t. run Place.Sexp r t)) (slash_first c h n m)
      ∙ (λ i. run Place.Sexp r (at (Mode.Operator (run_ending c)) (47 ∷ c ∷ []) colon (one i) (two i)));
}

run_on : (colon : Bool) (front os r : List ℕ) (e : Ending) → Run colon front e → OpTo front e os r → IsOperator (front ++ os) r → Read colon (front ++ os) r
run_on colon front os r e f (InRun e' h m) o = run_read colon (front ++ os) e' r (opens_then f m) h o
run_on colon front os r e f (InSlash kept h c m) o = slash_read colon (front ++ os) kept r h (opens_then f m) c o

lone_slash : (colon : Bool) (r : List ℕ) → IsOperator (47 ∷ []) r → Read colon (47 ∷ []) r
lone_slash colon [] o = AtEnd refl (λ start used. (
  at Mode.Slash [] colon used (used + 1),
  refl,
  let one : (used + 1) - 1 ≡ used = omega arith in ap (λ (n : ℕ). Ok (Some (record { start = n; end = used + 1; kind = TokenKind.Operator; octets = 47 ∷ [] })))
      one,
))
lone_slash colon (x ∷ r) o =
    let n = after_slash (x ∷ r) x r refl (or_parts (begins_comment (47 ∷ x ∷ r)) false o.apart).0 o.longest in
    Later [] x r Mode.Blank [] refl Rattle.ion_tokens.proofs.complete.Moves.resumes_none (λ start used.
    let one : (used + 1) - 1 ≡ used = omega arith in
    let whole : (used + 1) - 0 ≡ used + 1 = omega arith in
    let none : used + 1 ≡ (used + 1) + 0 = omega arith in
    ap (λ a. follow (acts Place.Sexp (at Mode.Slash [] colon used (used + 1)) x a) (λ t. run Place.Sexp r t)) (slash_lone x n.0 n.1 n.2)
    ∙ (λ i. Left (record { start = one i; end = whole i; kind = TokenKind.Operator; octets = 47 ∷ [] })
    (past Place.Sexp TokenKind.Operator Mode.Blank [] (whole i) (none i))))
  where
    slash_lone : (x : ℕ) → x ≢ 47 → x ≢ 42 → is_operator_octet x ≡ false → in_slash Place.Sexp x ≡ Action.Before TokenKind.Operator (Keep.One 47) Mode.Blank
    slash_lone x n m o = rw (o, ne_eqb x 47 n, ne_eqb x 42 m)

in_sexp : (colon : Bool) (w r : List ℕ) → IsOperator w r → Read colon w r
in_sexp colon [] r o = absurd (o.some refl)
in_sexp colon (x ∷ []) r o = ⊎_elim
    (λ (i : x ≡ 47). subst (λ (y : ℕ). Read colon (y ∷ []) r) (sym i) (lone_slash colon r (subst (λ (y : ℕ). IsOperator (y ∷ []) r) i o)))
    (λ n. run_read colon (x ∷ []) (first_ending x) r (opens_one Place.Sexp colon x (Mode.Operator (first_ending x)) (Keep.One x)
    (op_first colon x o.each.0 n)) (first_ends x) o) (eq_or x 47)
in_sexp colon (x ∷ c ∷ os) r o = ⊎_elim
    (λ (i : x ≡ 47). subst (λ (y : ℕ). Read colon (y ∷ c ∷ os) r) (sym i) (slashed (subst (λ (y : ℕ). IsOperator (y ∷ c ∷ os) r) i o)))
    (λ n. run_on colon (x ∷ []) (c ∷ os) r (first_ending x)
    (opens_one Place.Sexp colon x (Mode.Operator (first_ending x)) (Keep.One x) (op_first colon x o.each.0 n))
    (op_moves (c ∷ os) (x ∷ []) r (first_ending x) (first_ends x) o.each.1 (or_parts (begins_comment (x ∷ c ∷ os ++ r)) (comment_within (c ∷ os) r) o.apart).1)
    o) (eq_or x 47)
  where
    slashed : IsOperator (47 ∷ c ∷ os) r → Read colon (47 ∷ c ∷ os) r
    slashed o =
        let parts : (((c == 47) || (c == 42)) ≡ false) × (comment_within (c ∷ os) r ≡ false) =
        or_parts ((c == 47) || (c == 42)) (comment_within (c ∷ os) r) o.apart in
        let n = no_comment c parts.0 in
        run_on colon (47 ∷ c ∷ []) os r (run_ending c) (opens_slashed colon c o.each.1.0 n.0 n.1)
        (op_moves os (47 ∷ c ∷ []) r (run_ending c) (run_ends (47 ∷ []) c) o.each.1.1 (or_parts (begins_comment (c ∷ os ++ r)) (comment_within os r) parts.1).1)
        o

sexp_only : (p : Place) → is_sexp p ≡ true → p ≡ Place.Sexp
sexp_only Place.Sexp h = refl
sexp_only _ h = absurd (false≢true h)

-- in an s-expression an operator is read as it is spelled, before what ends it
pub takes_operator : (p : Place) (colon : Bool) (w r : List ℕ) → is_sexp p ≡ true → IsOperator w r → Takes p colon w r TokenKind.Operator w
takes_operator p colon w r s o = subst (λ q. Takes q colon w r TokenKind.Operator w) (sym (sexp_only p s)) (in_sexp colon w r o)

-- octets of operators are ASCII
pub low_operator : (o : ℕ) → is_operator_octet o ≡ true → o < 128
low_operator o h = grind (arith, nat_tests)

-- octets of an operator that begin no comment

pub plain_is : (o : ℕ) → is_plain_operator o ≡ true → (is_operator_octet o ≡ true) × (o ≢ 47)
plain_is o h = let p = and_parts (is_operator_octet o) (not (o == 47)) h in (p.0, eqb-false o 47 (not-true (o == 47) p.1))

plain_moves : (os front : List ℕ) (e : Ending) → Each is_plain_operator os
    → (e' : Ending) × Moves Place.Sexp (Mode.Operator e) front os (Mode.Operator e') (front ++ os)
plain_moves [] front e h = (
  e,
  moves_to (sym (append-nil front)) (moves_none),
)
plain_moves (o ∷ os) front e h =
    let is = plain_is o h.0 in
    let m = plain_moves os (front ++ o ∷ []) (run_ending o) h.1 in (
      m.0,
      moves_to (append_assoc front (o ∷ []) os) (moves_then (op_one front e o is.0 is.1) m.1),
    )

-- such octets open an operator
pub plain_opens : (colon : Bool) (w : List ℕ) → 0 < length w → Each is_plain_operator w
    → (e : Ending) × Opens Place.Sexp colon w (Mode.Operator e) w
plain_opens colon [] some h = absurd (omega arith)
plain_opens colon (o ∷ os) some h =
    let is = plain_is o h.0 in
    let m = plain_moves os (o ∷ []) (first_ending o) h.1 in (
      m.0,
      opens_then (opens_one Place.Sexp colon o (Mode.Operator (first_ending o)) (Keep.One o) (op_first colon o is.0 is.1)) m.1,
    )
