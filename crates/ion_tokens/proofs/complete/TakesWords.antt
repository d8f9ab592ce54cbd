-- Words, typed nulls, numbers and marks are read as they are spelled.
use Rattle.std.proofs.Common.{◌≡◌, ℕ, ◌+◌, ◌-◌, ⊎_elim, Bool, true, false, List, [], ◌∷◌, ◌++◌, length, refl, sym, ap, ◌∙◌, subst, arith, append_assoc, length-append, cond}
use Rattle.std.specs.Prelude.{◌==◌, ◌&&◌, ◌||◌, not, codes}
use Rattle.std.specs.Str.{bytes_eq}
use Rattle.std.proofs.lemmas.Bool.{and_parts, eqb-true, false≢true, not-true, or_parts}
use Rattle.std.proofs.lemmas.Bool.Decides.{nat_tests}
use Rattle.std.proofs.lemmas.Slice.Eq.{bytes_eq-Decides}
use Rattle.ion_tokens.specs.Names.{Action, Each, Ending, IsNumeric, IsWord, Keep, Known, Left, Mark, MarkEnds, MarkStands, Mode, Next, Place, TokenKind, acts, add, before, begins, begins_comment, begins_number, cut, follow, give, go, go_to, in_blank, in_kind_name, in_number, in_word, is_digit, is_name, is_stop, is_word_octet, mark_spelling, past, run}
use Rattle.ion_tokens.specs.machine.Table.{next}
use Rattle.ion_tokens.proofs.complete.Moves.{Later, Moves, Now, Opens, Resumes, Stays, Takes, at, blank, lexeme, moves_each, moves_one, opens_one, opens_then, resumes_none, takes_end, takes_left, takes_now}

word_more : (o : ℕ) → is_word_octet o ≡ true → in_word o ≡ Action.Go Mode.Word (Keep.One o)
word_more o h = ap (λ b. cond b (add Mode.Word o) Action.EndWord) h

-- an octet of no word ends a word
pub word_ends : (o : ℕ) → is_word_octet o ≡ false → in_word o ≡ Action.EndWord
word_ends o h = ap (λ b. cond b (add Mode.Word o) Action.EndWord) h

-- from a blank the octets of a word open it, and all of them are kept
pub opens_word : (p : Place) (colon : Bool) (w : List ℕ) → IsWord w → Opens p colon w Mode.Word w
opens_word p colon [] h = absurd (false≢true h.0)
opens_word p colon (o ∷ os) h = opens_then (opens_one p colon o Mode.Word (Keep.One o) (grind (arith, nat_tests, h.0)))
    (moves_each p Mode.Word is_word_octet os (o ∷ []) (λ s u. refl) (λ x g c. word_more x g) h.1.1)

-- the octet behind isn't the dot of a typed null
pub no_dot : (w : List ℕ) (x : ℕ) → (w ≡ codes "null" → (x == 46) ≡ false) → ((x == 46) && bytes_eq w (codes "null")) ≡ false
no_dot w x h = by (x == 46) (bytes_eq w (codes "null")) refl h where
  by : (b c : Bool) → bytes_eq w (codes "null") ≡ c → (w ≡ codes "null" → b ≡ false) → (b && c) ≡ false
  by true true e g = g ((bytes_eq-Decides w (codes "null")).0 e)
  by _ _ e g = refl

-- a word is read as it is spelled, before no octet of a word and, if it is `null`, no dot
pub takes_word : (p : Place) (colon : Bool) (w r : List ℕ) → IsWord w → begins is_word_octet r ≡ false → (w ≡ codes "null" → begins (λ o. o == 46) r ≡ false)
    → Takes p colon w r TokenKind.Word w
takes_word p colon w [] h ends dot = takes_end (opens_word p colon w h) (λ start used. refl)
takes_word p colon w (x ∷ r) h ends dot = Later [] x r Mode.Blank [] refl resumes_none (λ start used.
    let none : used + length w ≡ (used + length w) + length {A = ℕ} [] = omega arith in
    let s : Known = at Mode.Word w colon used (used + length w) in
    (opens_word p colon w h).on start used (x ∷ r)
    ∙ ap (λ a. follow (acts p s x a) (λ t. run p r t)) (word_ends x ends)
    ∙ ap (λ b. follow (cond b (Next (go_to s Mode.KindName []))
    (Left (cut s TokenKind.Word w (used + length w)) (past p TokenKind.Word Mode.Blank [] (used + length w) (used + length w)))) (λ t. run p r t)) (no_dot w x dot)
    ∙ ap (λ (n : ℕ). Left (lexeme w TokenKind.Word w used) (past p TokenKind.Word Mode.Blank [] (used + length w) n)) none)

-- the name behind `null.`
null_word : IsWord (codes "null")
null_word = (refl, (refl, (refl, (refl, (refl, tt)))))

dot_moves : (p : Place) → Moves p Mode.Word (codes "null") (46 ∷ []) Mode.KindName []
dot_moves p = record { on = λ colon start used r. refl }

kind_more : (o : ℕ) → is_word_octet o ≡ true → in_kind_name o ≡ Action.Go Mode.KindName (Keep.One o)
kind_more o h = ap (λ b. cond b (add Mode.KindName o) (before TokenKind.KindName)) h

-- an octet of no word ends the name behind `null.`
pub kind_ends : (o : ℕ) → is_word_octet o ≡ false → in_kind_name o ≡ Action.Before TokenKind.KindName Keep.Nothing Mode.Blank
kind_ends o h = ap (λ b. cond b (add Mode.KindName o) (before TokenKind.KindName)) h

-- from a blank `null.` and the octets of a name open a typed null, of which the name is kept
pub opens_kind : (p : Place) (colon : Bool) (name : List ℕ) → Each is_word_octet name → Opens p colon (codes "null." ++ name) Mode.KindName name
opens_kind p colon name h = opens_then (opens_then (opens_word p colon (codes "null") null_word) (dot_moves p))
    (moves_each p Mode.KindName is_word_octet name [] (λ s u. refl) (λ x g c. kind_more x g) h)

-- `null.` and a name are read as that name, before no octet of a word
pub takes_kind : (p : Place) (colon : Bool) (name r : List ℕ) → Each is_word_octet name → begins is_word_octet r ≡ false
    → Takes p colon (codes "null." ++ name) r TokenKind.KindName name
takes_kind p colon name [] h ends = takes_end (opens_kind p colon name h) (λ start used. refl)
takes_kind p colon name (x ∷ r) h ends = takes_left Keep.Nothing (λ s u. refl) (opens_kind p colon name h) (λ c. kind_ends x ends)

-- numbers
number_more : (o : ℕ) → not (is_stop o || (o == 47)) ≡ true → in_number o ≡ Action.Go Mode.Number (Keep.One o)
number_more o h = let p = or_parts (is_stop o) (o == 47) (not-true (is_stop o || (o == 47)) h) in rw (p.0, p.1)

-- a stop character ends a number
pub number_stops : (o : ℕ) → is_stop o ≡ true → in_number o ≡ Action.Before TokenKind.Number Keep.Nothing Mode.Blank
number_stops o h = ap (λ b. cond b (before TokenKind.Number) (cond (o == 47) (go Mode.NumberSlash) (add Mode.Number o))) h

pub digit_first : (p : Place) (colon : Bool) (o : ℕ) → is_name p ≡ false → is_digit o ≡ true → in_blank p colon o ≡ Action.Go Mode.Number (Keep.One o)
digit_first p colon o n h = grind (arith, nat_tests)

digits_move : (p : Place) (os kept : List ℕ) → Each (λ o. not (is_stop o || (o == 47))) os → Moves p Mode.Number kept os Mode.Number (kept ++ os)
digits_move p os kept h = moves_each p Mode.Number (λ o. not (is_stop o || (o == 47))) os kept (λ s u. refl) (λ x g c. number_more x g) h

-- octets that begin a number and have no stop character and no `/` open it, and are kept
pub opens_number : (p : Place) (colon : Bool) (w : List ℕ) → is_name p ≡ false → begins_number w ≡ true → Each (λ o. not (is_stop o || (o == 47))) w
    → Opens p colon w Mode.Number w
opens_number p colon [] n b h = absurd (false≢true b)
opens_number p colon (o ∷ os) n b h = by (is_digit o) refl where
  signed : (x : ℕ) (rest : List ℕ) → x ≡ 45 → begins is_digit rest ≡ true → Each (λ o. not (is_stop o || (o == 47))) rest
      → Opens p colon (x ∷ rest) Mode.Number (x ∷ rest)
  signed x [] e g k = absurd (false≢true g)
  signed x (d ∷ rest) e g k = subst (λ (y : ℕ). Opens p colon (y ∷ d ∷ rest) Mode.Number (y ∷ d ∷ rest)) (sym e) (opens_then (opens_then
      (opens_one p colon 45 (Mode.Operator Ending.LoneMinus) (Keep.One 45) (grind (arith, nat_tests)))
      (moves_one p (Mode.Operator Ending.LoneMinus) d (45 ∷ []) Mode.Number (Keep.One d) (λ s u. refl) (λ c. rw g)))
      (digits_move p rest (45 ∷ d ∷ []) k.1))

  by : (c : Bool) → is_digit o ≡ c → Opens p colon (o ∷ os) Mode.Number (o ∷ os)
  by true e = opens_then (opens_one p colon o Mode.Number (Keep.One o) (digit_first p colon o n e)) (digits_move p os (o ∷ []) h.1)
  by false e =
      let both : ((o == 45) && begins is_digit os) ≡ true = sym (ap (λ c. c || ((o == 45) && begins is_digit os)) e) ∙ b in
      let parts = and_parts (o == 45) (begins is_digit os) both in
      signed o os (eqb-true o 45 parts.0) parts.1 h.1

-- a comment behind the number
slash_goes : (p : Place) (kept : List ℕ) → Moves p Mode.Number kept (47 ∷ []) Mode.NumberSlash kept
slash_goes p kept = moves_one p Mode.Number 47 kept Mode.NumberSlash Keep.Nothing (λ s u. refl) (λ c. refl)

pub resumes_slash : Resumes (47 ∷ []) Mode.Slash []
resumes_slash p colon end = refl

-- the slash of a comment was taken up already
pub takes_before_slash : (p : Place) (colon : Bool) (w : List ℕ) (x : ℕ) (r : List ℕ) (kind : TokenKind) (m : Mode) (kept : List ℕ) → Stays m
    → Opens p colon (w ++ 47 ∷ []) m kept → ((c : Bool) → next p c m x ≡ Action.Before kind Keep.Nothing Mode.Slash) → Takes p colon w (47 ∷ x ∷ r) kind kept
takes_before_slash p colon w x r kind m kept stays f e = Later (47 ∷ []) x r Mode.Slash [] refl resumes_slash (λ start used.
    let longer : used + length (w ++ 47 ∷ []) ≡ (used + length w) + 1 = omega (arith, length-append w (47 ∷ [])) in
    let one : ((used + length w) + 1) - 1 ≡ used + length w = omega arith in
    ap (λ os. run p os (blank colon start used)) (sym (append_assoc w (47 ∷ []) (x ∷ r))) ∙ f.on start used (x ∷ r)
    ∙ ap (λ (n : ℕ). run p (x ∷ r) (at m kept colon used n)) longer
    ∙ ap (λ a. follow (acts p (at m kept colon used ((used + length w) + 1)) x a) (λ t. run p r t)) (e colon)
    ∙ ap (λ (n : ℕ). Left (record { start = n; end = ((used + length w) + 1) - 1; kind = kind; octets = kept })
    (past p kind Mode.Slash [] (((used + length w) + 1) - 1) ((used + length w) + 1))) (stays used ((used + length w) + 1))
    ∙ ap (λ (n : ℕ). Left (record { start = used; end = n; kind = kind; octets = kept }) (past p kind Mode.Slash [] n ((used + length w) + 1))) one)

-- where no field's name stands, a number is read as it is spelled, before what ends it
pub takes_number : (p : Place) (colon : Bool) (w r : List ℕ) → is_name p ≡ false → IsNumeric w r → Takes p colon w r TokenKind.Number w
takes_number p colon w [] n h = takes_end (opens_number p colon w n h.begun h.each) (λ start used. refl)
takes_number p colon w (x ∷ r) n h = ⊎_elim (λ e. cc) (λ e. ⊎_elim stop (λ c. comment x r c) e) h.longest where
  stop : is_stop x ≡ true → Takes p colon w (x ∷ r) TokenKind.Number w
  stop e = takes_left Keep.Nothing (λ s u. refl) (opens_number p colon w n h.begun h.each) (λ c. number_stops x e)

  comment : (x : ℕ) (r : List ℕ) → begins_comment (x ∷ r) ≡ true → Takes p colon w (x ∷ r) TokenKind.Number w
  comment x [] e = absurd (false≢true ((and_parts (x == 47) false e).1))
  comment x (y ∷ r) e = subst (λ (z : ℕ). Takes p colon w (z ∷ y ∷ r) TokenKind.Number w) (sym (eqb-true x 47 (and_parts (x == 47) _ e).0))
      (takes_before_slash p colon w y r TokenKind.Number Mode.NumberSlash w (λ s u. refl)
      (opens_then (opens_number p colon w n h.begun h.each) (slash_goes p w)) (λ c. rw (and_parts (x == 47) ((y == 47) || (y == 42)) e).1))

-- marks
mark_one : (p : Place) (colon : Bool) (o : ℕ) (m : Mark) (r : List ℕ) → in_blank p colon o ≡ give m → Takes p colon (o ∷ []) r (TokenKind.Mark m) []
mark_one p colon o m r e = Now (λ start used. ap (λ a. follow (acts p (blank colon start used) o a) (λ t. run p r t)) e)

-- a `{` opens a struct or a lob, where no field's name stands
pub opens_brace : (p : Place) (colon : Bool) → is_name p ≡ false → Opens p colon (123 ∷ []) Mode.Brace []
opens_brace p colon n = opens_one p colon 123 Mode.Brace Keep.Nothing (rw n)

-- a colon opens `:` or `::`, where it may stand
pub opens_colon : (p : Place) (colon : Bool) → colon ≡ true → Opens p colon (58 ∷ []) Mode.Colon []
opens_colon p colon c = opens_one p colon 58 Mode.Colon Keep.Nothing (rw c)

-- behind `{`, an octet other than `{` shows that it opens a struct
pub brace_ends : (x : ℕ) → (x == 123) ≡ false → (c : Bool) (p : Place) → next p c Mode.Brace x ≡ Action.Before (TokenKind.Mark Mark.FieldsOpen) Keep.Nothing
    Mode.Blank
brace_ends x h c p = rw h

-- behind one colon, an octet other than a colon shows that it is alone
pub colon_ends : (x : ℕ) → (x == 58) ≡ false → (c : Bool) (p : Place) → next p c Mode.Colon x ≡ Action.Before (TokenKind.Mark Mark.Colon) Keep.Nothing
    Mode.Blank
colon_ends x h c p = rw h

-- a mark is read where it may stand, before what doesn't make it longer
pub takes_mark : (p : Place) (colon : Bool) (m : Mark) (r : List ℕ) → MarkStands p colon m → MarkEnds m r → Takes p colon (mark_spelling m) r (TokenKind.Mark m) []
takes_mark p colon Mark.FieldsOpen [] s e = takes_end (opens_brace p colon s) (λ start used. refl)
takes_mark p colon Mark.FieldsOpen (x ∷ r) s e = takes_left Keep.Nothing (λ s u. refl) (opens_brace p colon s) (λ c. brace_ends x e c p)
takes_mark p colon Mark.FieldsClose r s e = mark_one p colon 125 Mark.FieldsClose r refl
takes_mark p colon Mark.ListOpen r s e = mark_one p colon 91 Mark.ListOpen r (rw s)
takes_mark p colon Mark.ListClose r s e = mark_one p colon 93 Mark.ListClose r (rw s)
takes_mark p colon Mark.SexpOpen r s e = mark_one p colon 40 Mark.SexpOpen r (rw s)
takes_mark p colon Mark.SexpClose r s e = mark_one p colon 41 Mark.SexpClose r (rw s)
takes_mark p colon Mark.Comma r s e = mark_one p colon 44 Mark.Comma r refl
takes_mark p colon Mark.Colon [] s e = takes_end (opens_colon p colon s) (λ start used. refl)
takes_mark p colon Mark.Colon (x ∷ r) s e = takes_left Keep.Nothing (λ s u. refl) (opens_colon p colon s) (λ c. colon_ends x e c p)
takes_mark p colon Mark.Colons r s e = takes_now 58 Keep.Nothing (λ s u. refl) (opens_colon p colon s) (λ c. refl)
