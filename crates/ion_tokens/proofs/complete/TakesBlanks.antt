-- Blanks are passed over.
use Rattle.std.proofs.Common.{◌≡◌, ◌≢◌, ℕ, ◌+◌, ◌-◌, inl, inr, ⊎_elim, Bool, true, false, List, [], ◌∷◌, ◌++◌, length, refl, sym, ap, ◌∙◌, subst, arith, append_assoc, append-nil, length-append, cond}
use Rattle.std.specs.Prelude.{◌==◌, ◌&&◌, not, codes, None, Ok}
use Rattle.std.specs.List.{flat_map, AllByRecursion}
use Rattle.std.proofs.lemmas.Bool.{false≢true, ne_eqb, not-true, true≢false}
use Rattle.ion_tokens.specs.Names.{Action, BlankPiece, BlockComment, HasNoClose, HasNoLineEnd, IsBlank, IsBlankPiece, IsLastBlank, Keep, Known, LineComment, Mode, Next, Place, White, acts, at_end, blank_spelling, follow, go, in_blank, is_line_end, is_white, run}
use Rattle.ion_tokens.specs.machine.Table.{next}
use Rattle.ion_tokens.proofs.complete.Moves.{Moves, Opens, at, blank, moves_one, moves_past, moves_then, opens_then}
use Rattle.ion_tokens.proofs.texts.TextsComplete.{eq_or}

-- over these octets a blank goes on
abbrev pub PassesBlank : Place → Bool → List ℕ → Type 0
PassesBlank p colon os = (start used : ℕ) → (now : ℕ) × ((r : List ℕ) → run p (os ++ r) (blank colon start used) ≡ run p r (blank colon now (used + length os)))

passes_none : (p : Place) (colon : Bool) → PassesBlank p colon []
passes_none p colon start used = (start, λ r. let none : used ≡ used + length {A = ℕ} [] = omega arith in ap (λ (n : ℕ). run p r (blank colon start n)) none)

passes_then : (p : Place) (colon : Bool) (xs ys : List ℕ) → PassesBlank p colon xs → PassesBlank p colon ys → PassesBlank p colon (xs ++ ys)
passes_then p colon xs ys f g start used =
    let first = f start used in
    let second = g first.0 (used + length xs) in
    let longer : (used + length xs) + length ys ≡ used + length (xs ++ ys) = omega (arith, length-append xs ys) in (
      second.0,
      λ r. ap (λ os. run p os (blank colon start used)) (append_assoc xs ys r) ∙ first.1 (ys ++ r) ∙ second.1 r
          ∙ ap (λ (n : ℕ). run p r (blank colon second.0 n)) longer,
    )

passes_opened : (p : Place) (colon : Bool) (os : List ℕ) → Opens p colon os Mode.Blank [] → PassesBlank p colon os
passes_opened p colon os f start used = (used, f.on start used)

white_first : (p : Place) (colon : Bool) (o : ℕ) → is_white o ≡ true → in_blank p colon o ≡ Action.Go Mode.Blank Keep.Nothing
white_first p colon o h = rw h

passes_white : (p : Place) (colon : Bool) (o : ℕ) → is_white o ≡ true → PassesBlank p colon (o ∷ [])
passes_white p colon o h start used = (used, λ r. ap (λ a. follow (acts p (blank colon start used) o a) (λ t. run p r t)) (white_first p colon o h))

opened : (p : Place) (colon : Bool) (m : Mode) (used : ℕ) (r : List ℕ)
    → run p r (at m [] colon ((used + 1) - 1) ((used + 1) + 1)) ≡ run p r (at m [] colon used (used + 2))
opened p colon m used r =
    let two : (used + 1) + 1 ≡ used + 2 = omega arith in
    let one : (used + 1) - 1 ≡ used = omega arith in
    λ i. run p r (at m [] colon (one i) (two i))

opens_line : (p : Place) (colon : Bool) → Opens p colon (codes "//") Mode.LineComment []
opens_line p colon = record { on = λ start used r. opened p colon Mode.LineComment used r }

opens_block : (p : Place) (colon : Bool) → Opens p colon (codes "/*") Mode.BlockComment []
opens_block p colon = record { on = λ start used r. opened p colon Mode.BlockComment used r }

line_on : (o : ℕ) → not (is_line_end o) ≡ true → (c : Bool) (p : Place) → next p c Mode.LineComment o ≡ Action.Go Mode.LineComment Keep.Nothing
line_on o h c p = rw (not-true (is_line_end o) h)

line_ends : (o : ℕ) → is_line_end o ≡ true → (c : Bool) (p : Place) → next p c Mode.LineComment o ≡ Action.Go Mode.Blank Keep.Nothing
line_ends o h c p = ap (λ b. go (cond b Mode.Blank Mode.LineComment)) h

each_not : (os : List ℕ) → HasNoLineEnd os → AllByRecursion (λ o. not (is_line_end o) ≡ true) os
each_not [] h = tt
each_not (o ∷ os) h = (ap not h.0, each_not os h.1)

line_moves : (p : Place) (os : List ℕ) → HasNoLineEnd os → Moves p Mode.LineComment [] os Mode.LineComment []
line_moves p os h = moves_past p Mode.LineComment (λ o. not (is_line_end o)) os [] (λ s u. refl) (λ o g c. line_on o g c p) (each_not os h)

no_close_behind : (o : ℕ) (os : List ℕ) → HasNoClose (o ∷ os) → HasNoClose os
no_close_behind o [] h = tt
no_close_behind o (p ∷ os) h = h.1

-- in a block comment, behind a star or not
abbrev block_mode : Bool → Mode
block_mode true = Mode.BlockCommentStar
block_mode false = Mode.BlockComment

abbrev GoesOn : Bool → List ℕ → Type 0
GoesOn true os = HasNoClose (42 ∷ os)
GoesOn false os = HasNoClose os

block_one : (p : Place) (star star' : Bool) (o : ℕ) → ((c : Bool) → next p c (block_mode star) o ≡ Action.Go (block_mode star') Keep.Nothing)
    → Moves p (block_mode star) [] (o ∷ []) (block_mode star') []
block_one p false star' o f = moves_one p Mode.BlockComment o [] (block_mode star') Keep.Nothing (λ s u. refl) f
block_one p true star' o f = moves_one p Mode.BlockCommentStar o [] (block_mode star') Keep.Nothing (λ s u. refl) f

block_star : (p : Place) (star : Bool) (c : Bool) → next p c (block_mode star) 42 ≡ Action.Go Mode.BlockCommentStar Keep.Nothing
block_star p false c = refl
block_star p true c = refl

block_other : (p : Place) (star : Bool) (o : ℕ) (c : Bool) → o ≢ 42 → (star ≡ true → o ≢ 47) → next p c (block_mode star) o
    ≡ Action.Go Mode.BlockComment Keep.Nothing
block_other p false o c n h = ap (λ b. go (cond b Mode.BlockCommentStar Mode.BlockComment)) (ne_eqb o 42 n)
block_other p true o c n h = rw (ne_eqb o 42 n, ne_eqb o 47 (h refl))

no_slash : (star : Bool) (o : ℕ) (os : List ℕ) → GoesOn star (o ∷ os) → star ≡ true → o ≢ 47
no_slash true o os h s e = absurd (true≢false (sym (ap (λ (x : ℕ). (42 == 42) && (x == 47)) e) ∙ h.0))
no_slash false o os h s e = absurd (false≢true s)

goes_star : (star : Bool) (os : List ℕ) → GoesOn star (42 ∷ os) → HasNoClose (42 ∷ os)
goes_star true os h = h.1
goes_star false os h = h

goes_other : (star : Bool) (o : ℕ) (os : List ℕ) → GoesOn star (o ∷ os) → HasNoClose os
goes_other true o os h = no_close_behind o os h.1
goes_other false o os h = no_close_behind o os h

block_moves : (p : Place) (os : List ℕ) (star : Bool) → GoesOn star os → Moves p (block_mode star) [] (os ++ codes "*/") Mode.Blank []
block_moves p [] star h = moves_then (block_one p star true 42 (λ c. block_star p star c))
    (moves_one p Mode.BlockCommentStar 47 [] Mode.Blank Keep.Nothing (λ s u. refl) (λ c. refl))
block_moves p (o ∷ os) star h = ⊎_elim (λ i. starred i (block_moves p os true)) (λ n. moves_then
    (block_one p star false o (λ c. block_other p star o c n (no_slash star o os h))) (block_moves p os false (goes_other star o os h))) (eq_or o 42)
  where
    starred : o ≡ 42 → (HasNoClose (42 ∷ os) → Moves p Mode.BlockCommentStar [] (os ++ codes "*/") Mode.Blank [])
        → Moves p (block_mode star) [] (o ∷ os ++ codes "*/") Mode.Blank []
    starred i f = subst (λ (x : ℕ). Moves p (block_mode star) [] (x ∷ os ++ codes "*/") Mode.Blank []) (sym i) (moves_then
        (block_one p star true 42 (λ c. block_star p star c)) (f (goes_star star os (subst (λ (x : ℕ). GoesOn star (x ∷ os)) i h))))

-- a line comment leads from its first slash back to a blank
pub line_opens : (p : Place) (colon : Bool) (os : List ℕ) (last : ℕ) → HasNoLineEnd os → is_line_end last ≡ true
    → Opens p colon (codes "//" ++ os ++ last ∷ []) Mode.Blank []
line_opens p colon os last h e = opens_then (opens_then (opens_line p colon) (line_moves p os h))
    (moves_one p Mode.LineComment last [] Mode.Blank Keep.Nothing (λ s u. refl) (λ c. line_ends last e c p))

-- a block comment, too
pub block_opens : (p : Place) (colon : Bool) (os : List ℕ) → HasNoClose os → Opens p colon (codes "/*" ++ os ++ codes "*/") Mode.Blank []
block_opens p colon os h = opens_then (opens_block p colon) (block_moves p os false h)

passes_piece : (p : Place) (colon : Bool) (b : BlankPiece) → IsBlankPiece b → PassesBlank p colon (blank_spelling b)
passes_piece p colon (White o) h = passes_white p colon o h
passes_piece p colon (LineComment os last) h = passes_opened p colon (codes "//" ++ os ++ last ∷ []) (line_opens p colon os last h.0 h.1)
passes_piece p colon (BlockComment os) h = passes_opened p colon (codes "/*" ++ os ++ codes "*/") (block_opens p colon os h)

passes_pieces : (p : Place) (colon : Bool) (bs : List BlankPiece) → AllByRecursion IsBlankPiece bs → PassesBlank p colon (flat_map blank_spelling bs)
passes_pieces p colon [] h = passes_none p colon
passes_pieces p colon (b ∷ bs) h = passes_then p colon (blank_spelling b) (flat_map blank_spelling bs) (passes_piece p colon b h.0)
    (passes_pieces p colon bs h.1)

-- over white space and comments a blank goes on
pub passes_blank : (p : Place) (colon : Bool) (w : List ℕ) → IsBlank w → PassesBlank p colon w
passes_blank p colon w b = subst (λ l. PassesBlank p colon l) (sym b.spelled) (passes_pieces p colon b.pieces b.each)

-- at the end of the input a blank is no token
pub last_blank : (p : Place) (colon : Bool) (w : List ℕ) (start used : ℕ) → IsLastBlank w → (s : Known) × (run p w (blank colon start used) ≡ Next s)
    × (at_end p s ≡ Ok None)
last_blank p colon w start used (inl b) =
    let f = passes_blank p colon w b start used in
    (blank colon f.0 (used + length w), ap (λ l. run p l (blank colon start used)) (sym (append-nil w)) ∙ f.1 [], refl)
last_blank p colon w start used (inr c) =
    let f = passes_blank p colon c.front c.blank start used in
    let line : Opens p colon (codes "//" ++ c.octets) Mode.LineComment [] = opens_then (opens_line p colon) (line_moves p c.octets c.one_line) in
    let rest : List ℕ = codes "//" ++ c.octets in
    let now : ℕ = used + length c.front in (
      at Mode.LineComment [] colon now (now + length rest),
      ap (λ l. run p l (blank colon start used)) (c.cut ∙ append_assoc c.front (codes "//") c.octets) ∙ f.1 rest
          ∙ ap (λ l. run p l (blank colon f.0 now)) (sym (append-nil rest)) ∙ line.on f.0 now [],
      refl,
    )
