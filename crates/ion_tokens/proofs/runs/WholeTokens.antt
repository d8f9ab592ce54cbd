-- How octets in memory show that a blank or a token stands whole at their front. Crates above cite these names.
use Rattle.std.proofs.Common.{◌≡◌, ◌≢◌, ◌⊎◌, inl, inr, ℕ, ◌+◌, ◌-◌, ◌<◌, ◌≤◌, zero, suc, Bool, true, false, cond, List, [], ◌∷◌, ◌++◌, length, take, drop, refl, sym, ap, ◌∙◌, subst, arith, append-nil, append_assoc, length-append, length-drop, take-append-drop}
use Rattle.std.specs.Prelude.{◌==◌, ◌&&◌, ◌||◌, not, slice_index, IsUtf8}
use Rattle.std.specs.List.{take_while, prefix_len}
use Rattle.std.proofs.lemmas.Bool.Decides.{nat_tests}
use Rattle.std.proofs.Math.Seq.{take-append_seam, get_or-append_seam, take-nil}
use Rattle.std.proofs.lemmas.List.{length-take, length-take-le}
use Rattle.std.proofs.lemmas.List.Folds.{length-prefix_len}
use Rattle.std.proofs.lemmas.List.Sums.{prefix_len_stops, prefix_len-le-length}
use Rattle.std.proofs.lemmas.Str.{IsUtf8-from_ascii}
use Rattle.std.proofs.lemmas.Bool.{and_cases, eqb-true, ne_eqb, not-false, or_cases}
use Rattle.ion_tokens.specs.Names.{Action, AreKept, Each, Given, IsFound, IsPassed, IsWord, Keep, Known, LeadsOn, Left, Mark, Mode, Next, Place, Rest, Style, TokenKind, Within, acts, begins, begins_number, begins_word, cut, feed, go_to, in_blank, is_digit, is_name, is_numeric, is_operator_octet, is_plain_operator, is_raw, is_stop, is_white, is_word_octet, kept_after, past, past_blank, quote_of, resting, run}
use Rattle.ion_tokens.specs.machine.Table.{next}
use Rattle.ion_tokens.proofs.complete.Moves.{Opens, Stays, at, opens_one, opens_then}
use Rattle.ion_tokens.proofs.complete.TakesOperators.{low_operator, other_ends, plain_is, plain_opens}
use Rattle.ion_tokens.proofs.complete.TakesTexts.{BeginsOther, drops_two, from_quote, long_quotes, opens_long, opens_quote}
use Rattle.ion_tokens.proofs.complete.TakesWords.{brace_ends, colon_ends, no_dot, number_stops, opens_brace, opens_colon, opens_number, opens_word, word_ends}
use Rattle.ion_tokens.proofs.runs.GoesOn.{each_front, front_all, front_on, rest_is}
use Rattle.ion_tokens.proofs.texts.Characters.{ascii_each, kept_goes}
use Rattle.ion_tokens.proofs.texts.TextElements.{led}

-- a blank

-- white space at the front of octets is passed as a blank
pub blank_passed : (octets : List ℕ) (n : ℕ) → n ≡ length (take_while is_white octets) → IsPassed octets n
blank_passed octets n e p r = by n e where
  by : (n : ℕ) → n ≡ length (take_while is_white octets) → run p (take n octets) (resting r) ≡ Next (resting (past_blank r n))
  by zero e = refl
  by (suc k) e =
      let size : length (take (suc k) octets) ≡ suc k = ap (λ (l : List ℕ). length l) (front_all is_white octets (suc k) e) ∙ sym e in
      let far : (suc k == 0) ≡ false = grind (arith, nat_tests) in
      front_on p octets (suc k) (resting r) e (omega arith)
      ∙ ap (λ (n : ℕ). Next (at Mode.Blank [] r.colon (r.used + (n - 1)) (r.used + n))) size
      ∙ sym (ap (λ b. Next (resting (cond b r (record { start = r.used + (suc k - 1); used = r.used + suc k; colon = r.colon })))) far)

-- a token that is open behind these octets
ran : (p : Place) (r : Rest) (w : List ℕ) (n : ℕ) (m : Mode) (kept : List ℕ) → Opens p r.colon w m kept → length w ≡ n
    → run p w (resting r) ≡ Next (at m kept r.colon r.used (r.used + n))
ran p r w n m kept f e = ap (λ l. run p l (resting r)) (sym (append-nil w)) ∙ f.on r.start r.used []
    ∙ ap (λ (i : ℕ). Next (at m kept r.colon r.used (r.used + i))) e

-- the octet behind it ends it
pub opened_left : (p : Place) (r : Rest) (octets : List ℕ) (n : ℕ) (kind : TokenKind) (m : Mode) (kept : List ℕ) (k : Keep)
    → Opens p r.colon (take n octets) m kept → Stays m → 0 < n → n < length octets
    → next p r.colon m (slice_index octets n) ≡ Action.Before kind k Mode.Blank → IsFound p r octets kind (kept_after k kept) n true
opened_left p r octets n kind m kept k f h some more e = record {
  some = some;
  shown = more;
  known = at m kept r.colon r.used (r.used + n);
  ran = ran p r (take n octets) n m kept f (let l = length-take n octets in omega arith);
  ends =
      let whole : (r.used + n) - 0 ≡ r.used + n = omega arith in
      ap (λ a. acts p (at m kept r.colon r.used (r.used + n)) (slice_index octets n) a) e
      ∙ ap (λ (i : ℕ). Left (record { start = i; end = (r.used + n) - 0; kind = kind; octets = kept_after k kept })
      (past p kind Mode.Blank [] ((r.used + n) - 0) (r.used + n))) (h r.used (r.used + n))
      ∙ ap (λ (i : ℕ). Left (record { start = r.used; end = i; kind = kind; octets = kept_after k kept }) (past p kind Mode.Blank [] i (r.used + n))) whole;
}

-- its last octet ends it
pub opened_given : (p : Place) (r : Rest) (octets : List ℕ) (n : ℕ) (kind : TokenKind) (m : Mode) (kept : List ℕ) (k : Keep)
    → Opens p r.colon (take n octets) m kept → Stays m → n < length octets
    → next p r.colon m (slice_index octets n) ≡ Action.Give kind k → IsFound p r octets kind (kept_after k kept) (n + 1) false
opened_given p r octets n kind m kept k f h more e =
    let one : n + 1 - 1 ≡ n = omega arith in
    record {
      some = omega arith;
      shown = omega arith;
      known = at m kept r.colon r.used (r.used + n);
      ran = ap (λ (i : ℕ). run p (take i octets) (resting r)) one ∙ ran p r (take n octets) n m kept f (let l = length-take n octets in omega arith);
      ends =
          let more : (r.used + n) + 1 ≡ r.used + (n + 1) = omega arith in
          ap (λ (i : ℕ). feed p (at m kept r.colon r.used (r.used + n)) (slice_index octets i)) one
          ∙ ap (λ a. acts p (at m kept r.colon r.used (r.used + n)) (slice_index octets n) a) e
          ∙ ap (λ (i : ℕ). Given (record { start = i; end = (r.used + n) + 1; kind = kind; octets = kept_after k kept })
          (past p kind Mode.Blank [] ((r.used + n) + 1) ((r.used + n) + 1))) (h r.used (r.used + n))
          ∙ ap (λ (i : ℕ). Given (record { start = r.used; end = i; kind = kind; octets = kept_after k kept }) (past p kind Mode.Blank [] i i)) more;
    }

-- octets that open a token, and its last behind them
pub given_behind : (p : Place) (r : Rest) (w us : List ℕ) (o : ℕ) (kind : TokenKind) (m : Mode) (kept : List ℕ) (k : Keep)
    → Opens p r.colon w m kept → Stays m → next p r.colon m o ≡ Action.Give kind k → IsFound p r (w ++ o ∷ us) kind (kept_after k kept) (length w + 1) false
given_behind p r w us o kind m kept k f h e =
    opened_given p r (w ++ o ∷ us) (length w) kind m kept k (subst (λ l. Opens p r.colon l m kept) (sym (take-append_seam w (o ∷ us))) f) h
    (omega (arith, length-append w (o ∷ us))) (ap (λ (x : ℕ). next p r.colon m x) (get_or-append_seam w o us 0) ∙ e)

-- The front of a class.

pub front_length : (class : ℕ → Bool) (octets : List ℕ) (n : ℕ) → n ≡ length (take_while class octets) → n ≡ prefix_len class octets
front_length class octets n e = e ∙ length-prefix_len class octets

front_some : (class : ℕ → Bool) (octets : List ℕ) (n : ℕ) → 0 < length octets → class (slice_index octets 0) ≡ true → n ≡ length (take_while class octets)
    → 0 < n
front_some class [] n some h e = absurd (omega arith)
front_some class (o ∷ os) n some h e =
    let is = front_length class (o ∷ os) n e in
    let one : prefix_len class (o ∷ os) ≡ 1 + prefix_len class os = ap (λ b. cond b (1 + prefix_len class os) 0) h in
    omega arith

-- a class has no more octets at the front than there are
pub front_within : (class : ℕ → Bool) (octets : List ℕ) (n : ℕ) → n ≡ length (take_while class octets) → n ≤ length octets
front_within class octets n e = let is = front_length class octets n e in let l = prefix_len-le-length class octets in omega arith

-- each octet that was counted at the front is of the class
pub front_each : (class : ℕ → Bool) (octets : List ℕ) (n : ℕ) → n ≡ length (take_while class octets) → Each class (take n octets)
front_each class octets n e = subst (λ l. Each class l) (sym (front_all class octets n e)) (each_front class octets)

-- the octet behind those that were counted is none of the class
pub front_stops : (class : ℕ → Bool) (octets : List ℕ) (n : ℕ) → n ≡ length (take_while class octets) → n < length octets → class (slice_index octets n) ≡ false
front_stops class octets n e more =
    let is = front_length class octets n e in
    subst (λ (i : ℕ). class (slice_index octets i) ≡ false) (sym is) (prefix_len_stops class octets 0 (omega arith))

front_begins : (class : ℕ → Bool) (octets : List ℕ) (n : ℕ) → 0 < n → 0 < length octets → begins class (take n octets) ≡ class (slice_index octets 0)
front_begins class (o ∷ os) (suc k) some more = refl
front_begins class _ _ some more = absurd (omega arith)

-- octets of a class of ASCII are a text
front_text : (class : ℕ → Bool) (octets : List ℕ) (n : ℕ) → ((o : ℕ) → class o ≡ true → o < 128) → n ≡ length (take_while class octets) → IsUtf8 (take n octets)
front_text class octets n f e = IsUtf8-from_ascii (take n octets) (ascii_each class (take n octets) f (front_each class octets n e))

-- A word.

word_ascii : (o : ℕ) → is_word_octet o ≡ true → o < 128
word_ascii o h = grind (arith, nat_tests)

-- octets of words are a text
pub word_text : (octets : List ℕ) (n : ℕ) → n ≡ length (take_while is_word_octet octets) → IsUtf8 (take n octets)
word_text octets n e = front_text is_word_octet octets n word_ascii e

first_in_word : (o : ℕ) → begins_word o ≡ true → is_word_octet o ≡ true
first_in_word o h = ap (λ b. b || is_digit o) h

-- a word stands whole before an octet of no word that is no dot
pub word_found : (octets : List ℕ) (n : ℕ) → 0 < length octets → begins_word (slice_index octets 0) ≡ true → n ≡ length (take_while is_word_octet octets)
    → n < length octets → slice_index octets n ≢ 46
    → (p : Place) (r : Rest) → IsFound p r octets TokenKind.Word (take n octets) n true
word_found octets n first begun e more dot p r =
    let w = take n octets in
    let x = slice_index octets n in
    let u = r.used + n in
    let some : 0 < n = front_some is_word_octet octets n first (first_in_word (slice_index octets 0) begun) e in
    let is : IsWord w = (front_begins begins_word octets n some first ∙ begun, front_each is_word_octet octets n e) in
    let s : Known = at Mode.Word w r.colon r.used u in
    record {
      some = some;
      shown = more;
      known = s;
      ran = ran p r w n Mode.Word w (opens_word p r.colon w is) (let l = length-take n octets in omega arith);
      ends =
          ap (λ a. acts p s x a) (word_ends x (front_stops is_word_octet octets n e more))
          ∙ ap (λ b. cond b (Next (go_to s Mode.KindName [])) (Left (cut s TokenKind.Word w u) (past p TokenKind.Word Mode.Blank [] u u)))
          (no_dot w x (λ _. ne_eqb x 46 dot));
    }

-- A number.

digit_numeric : (o : ℕ) → is_digit o ≡ true → is_numeric o ≡ true
digit_numeric o h = grind (arith, nat_tests)

stop_is : (o : ℕ) → is_numeric o ≡ false → o ≢ 47 → is_stop o ≡ true
stop_is o h n = elim (or_cases (is_stop o) (o == 47) (not-false (is_stop o || (o == 47)) h)) [ inl s ↦ s | inr e ↦ absurd (n (eqb-true o 47 e)) ]

-- a digit, or `-` and a digit
abbrev pub StartsNumber : List ℕ → Type 0
StartsNumber octets = (is_digit (slice_index octets 0) ≡ true) ⊎ ((slice_index octets 0 ≡ 45) × (is_digit (slice_index octets 1) ≡ true))

number_begins : (octets : List ℕ) (n : ℕ) → 1 < length octets → StartsNumber octets → n ≡ length (take_while is_numeric octets) → (0 < n)
    × (begins_number (take n octets) ≡ true)
number_begins [] n more h e = absurd (omega arith)
number_begins (o ∷ []) n more h e = absurd (omega arith)
number_begins (o ∷ d ∷ os) n more (inl h) e = by n (front_some is_numeric (o ∷ d ∷ os) n (omega arith) (digit_numeric o h) e) where
  by : (n : ℕ) → 0 < n → (0 < n) × (begins_number (take n (o ∷ d ∷ os)) ≡ true)
  by zero some = absurd (omega arith)
  by (suc k) some = (some, ap (λ b. b || ((o == 45) && begins is_digit (take k (d ∷ os)))) h)
number_begins (o ∷ d ∷ os) n more (inr h) e = by n size where
  two : prefix_len is_numeric (o ∷ d ∷ os) ≡ 1 + (1 + prefix_len is_numeric os)
  two = ap (λ (x : ℕ). prefix_len is_numeric (x ∷ d ∷ os)) h.0 ∙ ap (λ b. 1 + cond b (1 + prefix_len is_numeric os) 0) (digit_numeric d h.1)

  size : 1 < n
  size = let is = front_length is_numeric (o ∷ d ∷ os) n e in let t = two in omega arith

  by : (n : ℕ) → 1 < n → (0 < n) × (begins_number (take n (o ∷ d ∷ os)) ≡ true)
  by zero some = absurd (omega arith)
  by (suc zero) some = absurd (omega arith)
  by (suc (suc k)) some = (omega arith, ap (λ (x : ℕ). begins_number (x ∷ d ∷ take k os)) h.0 ∙ h.1)

-- a number stands whole before a stop character
pub number_found : (octets : List ℕ) (n : ℕ) → 1 < length octets → StartsNumber octets → n ≡ length (take_while is_numeric octets) → n < length octets
    → slice_index octets n ≢ 47
    → (p : Place) (r : Rest) → is_name p ≡ false → IsFound p r octets TokenKind.Number (take n octets) n true
number_found octets n first begun e more slash p r name =
    let b = number_begins octets n first begun e in
    let x = slice_index octets n in
    opened_left p r octets n TokenKind.Number Mode.Number (take n octets) Keep.Nothing
    (opens_number p r.colon (take n octets) name b.1 (front_each is_numeric octets n e)) (λ s u. refl) b.0 more
    (number_stops x (stop_is x (front_stops is_numeric octets n e more) slash))

-- An operator.

no_operator : (o : ℕ) → is_plain_operator o ≡ false → o ≢ 47 → is_operator_octet o ≡ false
no_operator o h n =
    elim (and_cases (is_operator_octet o) (not (o == 47)) h) [ inl e ↦ e | inr e ↦ absurd (n (eqb-true o 47 (not-false (o == 47) e))) ]

operator_ascii : (o : ℕ) → is_plain_operator o ≡ true → o < 128
operator_ascii o h = low_operator o (plain_is o h).0

-- an operator without `/` stands whole in an s-expression before an octet of none that begins neither a number nor `inf`
pub operator_found : (octets : List ℕ) (n : ℕ) → 0 < n → n ≡ length (take_while is_plain_operator octets) → n < length octets
    → is_digit (slice_index octets n) ≡ false → slice_index octets n ≢ 105 → slice_index octets n ≢ 47
    → (r : Rest) → IsFound Place.Sexp r octets TokenKind.Operator (take n octets) n true
operator_found octets n some e more digit i slash r =
    let x = slice_index octets n in
    let size = length-take n octets in
    let opens = plain_opens r.colon (take n octets) (omega arith) (front_each is_plain_operator octets n e) in
    opened_left Place.Sexp r octets n TokenKind.Operator (Mode.Operator opens.0) (take n octets) Keep.Nothing opens.1 (λ s u. refl) some more
    (other_ends opens.0 x digit i slash (no_operator x (front_stops is_plain_operator octets n e more) slash))

-- octets of operators are a text
pub operator_text : (octets : List ℕ) (n : ℕ) → n ≡ length (take_while is_plain_operator octets) → IsUtf8 (take n octets)
operator_text octets n e = front_text is_plain_operator octets n operator_ascii e

-- What stands between quotes.

-- a text of one quote that is open up to its quote stands whole
quote_closes : (s : Style) (kind : TokenKind) (content kept : List ℕ) (n : ℕ) → n < length content → slice_index content n ≡ quote_of s
    → ((p : Place) (colon : Bool) → next p colon (Mode.Text s Within.Plain) (quote_of s) ≡ Action.Give kind Keep.Nothing)
    → (p : Place) (r : Rest) → Opens p r.colon (quote_of s ∷ take n content) (Mode.Text s Within.Plain) kept
    → IsFound p r (quote_of s ∷ content) kind kept (n + 2) false
quote_closes s kind content kept n more last gives p r opens =
    let size : suc n + 1 ≡ n + 2 = omega arith in
    subst (λ (i : ℕ). IsFound p r (quote_of s ∷ content) kind kept i false) size
    (opened_given p r (quote_of s ∷ content) (suc n) kind (Mode.Text s Within.Plain) kept Keep.Nothing opens (λ s u. refl) (omega arith)
    (ap (λ (x : ℕ). next p r.colon (Mode.Text s Within.Plain) x) last ∙ gives p r.colon))

-- what leads on up to a quote stands whole behind another as a short string
pub string_stands : (content kept : List ℕ) (n : ℕ) → n < length content → slice_index content n ≡ 34
    → LeadsOn Style.ShortString (take n content) [] kept
    → (p : Place) (r : Rest) → IsFound p r (34 ∷ content) TokenKind.ShortString kept (n + 2) false
string_stands content kept n more last leads p r =
    quote_closes Style.ShortString TokenKind.ShortString content kept n more last (λ p colon. refl) p r
    (opens_then (opens_one p r.colon 34 (Mode.Text Style.ShortString Within.Plain) Keep.Nothing refl)
    (led Style.ShortString (take n content) [] kept leads p))

-- so does what begins with no quote as a quoted symbol
symbol_closes : (content kept : List ℕ) (n : ℕ) → n < length content → slice_index content n ≡ 39 → take n content ≢ [] → BeginsOther (take n content)
    → LeadsOn Style.QuotedSymbol (take n content) [] kept
    → (p : Place) (r : Rest) → IsFound p r (39 ∷ content) TokenKind.QuotedSymbol kept (n + 2) false
symbol_closes content kept n more last full other leads p r =
    quote_closes Style.QuotedSymbol TokenKind.QuotedSymbol content kept n more last (λ p colon. refl) p r
    (opens_then (opens_quote p r.colon)
    (from_quote p (take n content) kept Within.Plain full other (led Style.QuotedSymbol (take n content) [] kept leads p)))

full_front : (n : ℕ) (content : List ℕ) → n ≢ 0 → n < length content → take n content ≢ []
full_front n content some more e = let none = ap (λ (l : List ℕ). length l) e in let l = length-take n content in some (omega arith)

begins_other : (content : List ℕ) (n : ℕ) → slice_index content 0 ≢ 39 → BeginsOther (take n content)
begins_other [] n h = subst BeginsOther (sym (take-nil n)) tt
begins_other (o ∷ os) zero h = tt
begins_other (o ∷ os) (suc n) h = h

-- what begins with no quote and leads on up to one stands whole behind another as a quoted symbol
pub symbol_stands : (content kept : List ℕ) (n : ℕ) → n < length content → slice_index content n ≡ 39 → slice_index content 0 ≢ 39
    → LeadsOn Style.QuotedSymbol (take n content) [] kept
    → (p : Place) (r : Rest) → IsFound p r (39 ∷ content) TokenKind.QuotedSymbol kept (n + 2) false
symbol_stands content kept n more last first =
    let some : n ≢ 0 = λ e. first (subst (λ (i : ℕ). slice_index content i ≡ 39) e last) in
    symbol_closes content kept n more last (full_front n content some more) (begins_other content n first)

-- three quotes, octets that lead from between two characters to between two, and three quotes stand whole as a segment of a long string
pub long_closes : (w us kept : List ℕ) → LeadsOn Style.LongString w [] kept
    → (p : Place) (r : Rest) → IsFound p r (39 ∷ 39 ∷ 39 ∷ (w ++ 39 ∷ 39 ∷ 39 ∷ us)) TokenKind.LongString kept (length w + 6) false
long_closes w us kept leads p r =
    let front : List ℕ = 39 ∷ 39 ∷ 39 ∷ (w ++ 39 ∷ 39 ∷ []) in
    let inside : List ℕ = (kept ++ 39 ∷ []) ++ 39 ∷ [] in
    let size : length front + 1 ≡ length w + 6 = omega (arith, length-append w (39 ∷ 39 ∷ [])) in
    let whole : front ++ 39 ∷ us ≡ 39 ∷ 39 ∷ 39 ∷ (w ++ 39 ∷ 39 ∷ 39 ∷ us) = ap (λ l. 39 ∷ 39 ∷ 39 ∷ l) (append_assoc w (39 ∷ 39 ∷ []) (39 ∷ us)) in
    subst (λ (i : ℕ). IsFound p r (39 ∷ 39 ∷ 39 ∷ (w ++ 39 ∷ 39 ∷ 39 ∷ us)) TokenKind.LongString kept i false) size
    (subst (λ l. IsFound p r l TokenKind.LongString kept (length front + 1) false) whole
    (subst (λ k. IsFound p r (front ++ 39 ∷ us) TokenKind.LongString k (length front + 1) false) (drops_two kept 39 39)
    (given_behind p r front us 39 TokenKind.LongString (Mode.Text Style.LongString Within.TwoQuotes) inside Keep.DropQuotes
    (opens_then (opens_long p r.colon) (long_quotes p Style.LongString Within.Plain w [] kept refl tt (led Style.LongString w [] kept leads p)))
    (λ s u. refl) refl)))

-- what leads on up to three quotes stands whole behind three as a segment of a long string
pub segment_stands : (content kept us : List ℕ) (n : ℕ) → n < length content → drop n content ≡ 39 ∷ 39 ∷ 39 ∷ us
    → LeadsOn Style.LongString (take n content) [] kept
    → (p : Place) (r : Rest) → IsFound p r (39 ∷ 39 ∷ 39 ∷ content) TokenKind.LongString kept (n + 6) false
segment_stands content kept us n more shuts leads p r =
    let whole : take n content ++ 39 ∷ 39 ∷ 39 ∷ us ≡ content = ap (λ x. take n content ++ x) (sym shuts) ∙ take-append-drop n content in
    let size : length (take n content) ≡ n = length-take-le n content (omega arith) in
    subst (λ (i : ℕ). IsFound p r (39 ∷ 39 ∷ 39 ∷ content) TokenKind.LongString kept (i + 6) false) size
    (subst (λ x. IsFound p r (39 ∷ 39 ∷ 39 ∷ x) TokenKind.LongString kept (length (take n content) + 6) false) whole
    (long_closes (take n content) us kept leads p r))

-- What stands behind the first quote, as `&octets[1..]` has it.
abbrev pub behind_first : List ℕ → List ℕ
behind_first octets = take (length octets - 1) (drop 1 octets)

-- what stands whole behind its first quote does so where that is the first octet
quoted_in : (octets : List ℕ) (quote n : ℕ) (kind : TokenKind) (p : Place) (r : Rest) → 0 < length octets → slice_index octets 0 ≡ quote
    → IsFound p r (quote ∷ drop 1 octets) kind (take n (drop 1 octets)) (n + 2) false
    → IsFound p r octets kind (take (n + 2 - 2) (drop 1 octets)) (n + 2) false
quoted_in [] quote n kind p r some first h = absurd (omega arith)
quoted_in (o ∷ os) quote n kind p r some first h =
    let same : n ≡ n + 2 - 2 = omega arith in
    subst (λ (x : ℕ). IsFound p r (x ∷ os) kind (take (n + 2 - 2) os) (n + 2) false) (sym first)
    (subst (λ (i : ℕ). IsFound p r (quote ∷ os) kind (take i os) (n + 2) false) same h)

-- octets that a text keeps as they are, up to a quote behind another
record KeptBehind (s : Style) (octets : List ℕ) (n : ℕ) : Type 0 where
  more : n < length (drop 1 octets)
  last : slice_index (drop 1 octets) n ≡ quote_of s
  kept : AreKept s (take n (drop 1 octets))

kept_behind : (s : Style) (octets : List ℕ) (n : ℕ) → AreKept s (take n (behind_first octets)) → n < length (behind_first octets)
    → slice_index (behind_first octets) n ≡ quote_of s → KeptBehind s octets n
kept_behind s octets n kept more last =
    let tail = rest_is octets 1 in
    record {
      more = subst (λ (w : List ℕ). n < length w) tail more;
      last = subst (λ w. slice_index w n ≡ quote_of s) tail last;
      kept = subst (λ w. AreKept s (take n w)) tail kept;
    }

-- a short string stands whole where it has characters alone that are kept as they are
pub short_found : (octets : List ℕ) (n : ℕ) → 0 < length octets → slice_index octets 0 ≡ 34 → AreKept Style.ShortString (take n (behind_first octets))
    → n < length (behind_first octets) → slice_index (behind_first octets) n ≡ 34
    → (p : Place) (r : Rest) → IsFound p r octets TokenKind.ShortString (take (n + 2 - 2) (drop 1 octets)) (n + 2) false
short_found octets n some first kept more last p r =
    let h = kept_behind Style.ShortString octets n kept more last in
    quoted_in octets 34 n TokenKind.ShortString p r some first
    (string_stands (drop 1 octets) (take n (drop 1 octets)) n h.more h.last (λ q. (kept_goes q Style.ShortString _ [] h.kept).on) p r)

raw_begins : (w : List ℕ) → Each (is_raw false 39) w → BeginsOther w
raw_begins [] h = tt
raw_begins (o ∷ os) h = λ e. let never : is_raw false 39 39 ≡ true = subst (λ (x : ℕ). is_raw false 39 x ≡ true) e h.0 in cc

-- a quoted symbol that isn't empty stands whole where its characters are kept as they are
pub quoted_found : (octets : List ℕ) (n : ℕ) → 0 < length octets → slice_index octets 0 ≡ 39 → AreKept Style.QuotedSymbol (take n (behind_first octets))
    → n ≢ 0 → n < length (behind_first octets) → slice_index (behind_first octets) n ≡ 39
    → (p : Place) (r : Rest) → IsFound p r octets TokenKind.QuotedSymbol (take (n + 2 - 2) (drop 1 octets)) (n + 2) false
quoted_found octets n some first kept one more last p r =
    let h = kept_behind Style.QuotedSymbol octets n kept more last in
    quoted_in octets 39 n TokenKind.QuotedSymbol p r some first
    (symbol_closes (drop 1 octets) (take n (drop 1 octets)) n h.more h.last (full_front n _ one h.more) (raw_begins _ h.kept.0)
    (λ q. (kept_goes q Style.QuotedSymbol _ [] h.kept).on) p r)

-- characters that are kept as they are, behind the first quote, are a text
pub quoted_text : (s : Style) (octets : List ℕ) (n : ℕ) → AreKept s (take n (behind_first octets)) → IsUtf8 (take (n + 2 - 2) (drop 1 octets))
quoted_text s octets n kept =
    let same : n ≡ n + 2 - 2 = omega arith in
    subst (λ (i : ℕ). IsUtf8 (take i (drop 1 octets))) same (subst (λ w. IsUtf8 (take n w)) (rest_is octets 1) kept.1)

-- a segment of a long string stands whole where its characters are kept as they are
pub long_found : (octets content behind us : List ℕ) (n : ℕ) → octets ≡ 39 ∷ 39 ∷ 39 ∷ behind → content ≡ drop 3 octets
    → AreKept Style.LongString (take n content) → n ≤ length content → drop n content ≡ 39 ∷ 39 ∷ 39 ∷ us
    → (p : Place) (r : Rest) → IsFound p r octets TokenKind.LongString (take (n + 6 - 6) (drop 3 octets)) (n + 6) false
long_found octets content behind us n opens is kept within shuts p r =
    let same : n ≡ n + 6 - 6 = omega arith in
    let more : n < length content = omega (arith, length-drop n content, ap (λ (w : List ℕ). length w) shuts) in
    let all : 39 ∷ 39 ∷ 39 ∷ content ≡ octets = ap (λ w. 39 ∷ 39 ∷ 39 ∷ w) (is ∙ ap (drop 3) opens) ∙ sym opens in
    subst (λ o. IsFound p r o TokenKind.LongString (take (n + 6 - 6) (drop 3 octets)) (n + 6) false) all
    (subst (λ w. IsFound p r (39 ∷ 39 ∷ 39 ∷ content) TokenKind.LongString (take (n + 6 - 6) w) (n + 6) false) is
    (subst (λ (i : ℕ). IsFound p r (39 ∷ 39 ∷ 39 ∷ content) TokenKind.LongString (take i content) (n + 6) false) same
    (segment_stands content (take n content) us n more shuts (λ q. (kept_goes q Style.LongString _ [] kept).on) p r)))

-- and says a text
pub long_text : (octets content : List ℕ) (n : ℕ) → content ≡ drop 3 octets → AreKept Style.LongString (take n content)
    → IsUtf8 (take (n + 6 - 6) (drop 3 octets))
long_text octets content n is kept =
    let m : n ≡ n + 6 - 6 = omega arith in
    subst (λ (i : ℕ). IsUtf8 (take i (drop 3 octets))) m (subst (λ w. IsUtf8 (take n w)) is kept.1)

-- Marks.

mark_given : (p : Place) (r : Rest) (octets : List ℕ) (m : Mark) → 0 < length octets → in_blank p r.colon (slice_index octets 0)
    ≡ Action.Give (TokenKind.Mark m) Keep.Nothing → IsFound p r octets (TokenKind.Mark m) [] 1 false
mark_given p r octets m some e = record {
  some = omega arith;
  shown = some;
  known = resting r;
  ran = refl;
  ends =
      ap (λ a. acts p (resting r) (slice_index octets 0) a) e;
}

-- a `,` stands whole
pub comma_found : (p : Place) (r : Rest) (octets : List ℕ) → 0 < length octets → slice_index octets 0 ≡ 44
    → IsFound p r octets (TokenKind.Mark Mark.Comma) [] 1 false
comma_found p r octets some e = mark_given p r octets Mark.Comma some (ap (λ (x : ℕ). in_blank p r.colon x) e)

-- a `}` stands whole
pub fields_close_found : (p : Place) (r : Rest) (octets : List ℕ) → 0 < length octets → slice_index octets 0 ≡ 125
    → IsFound p r octets (TokenKind.Mark Mark.FieldsClose) [] 1 false
fields_close_found p r octets some e = mark_given p r octets Mark.FieldsClose some (ap (λ (x : ℕ). in_blank p r.colon x) e)

-- a `[` stands whole, where no field's name stands
pub list_open_found : (p : Place) (r : Rest) (octets : List ℕ) → is_name p ≡ false → 0 < length octets → slice_index octets 0 ≡ 91
    → IsFound p r octets (TokenKind.Mark Mark.ListOpen) [] 1 false
list_open_found p r octets name some e = mark_given p r octets Mark.ListOpen some (ap (λ (x : ℕ). in_blank p r.colon x) e ∙ rw name refl)

-- a `]` stands whole, where no field's name stands
pub list_close_found : (p : Place) (r : Rest) (octets : List ℕ) → is_name p ≡ false → 0 < length octets → slice_index octets 0 ≡ 93
    → IsFound p r octets (TokenKind.Mark Mark.ListClose) [] 1 false
list_close_found p r octets name some e = mark_given p r octets Mark.ListClose some (ap (λ (x : ℕ). in_blank p r.colon x) e ∙ rw name refl)

-- a `(` stands whole, where no field's name stands
pub sexp_open_found : (p : Place) (r : Rest) (octets : List ℕ) → is_name p ≡ false → 0 < length octets → slice_index octets 0 ≡ 40
    → IsFound p r octets (TokenKind.Mark Mark.SexpOpen) [] 1 false
sexp_open_found p r octets name some e = mark_given p r octets Mark.SexpOpen some (ap (λ (x : ℕ). in_blank p r.colon x) e ∙ rw name refl)

-- a `)` stands whole, where no field's name stands
pub sexp_close_found : (p : Place) (r : Rest) (octets : List ℕ) → is_name p ≡ false → 0 < length octets → slice_index octets 0 ≡ 41
    → IsFound p r octets (TokenKind.Mark Mark.SexpClose) [] 1 false
sexp_close_found p r octets name some e = mark_given p r octets Mark.SexpClose some (ap (λ (x : ℕ). in_blank p r.colon x) e ∙ rw name refl)

first_of : (octets : List ℕ) (o : ℕ) → 0 < length octets → slice_index octets 0 ≡ o → take 1 octets ≡ o ∷ []
first_of [] o some e = absurd (omega arith)
first_of (x ∷ os) o some e = ap (λ (y : ℕ). y ∷ []) e

-- a `{` stands whole before an octet other than `{`, where no field's name stands
pub fields_open_found : (p : Place) (r : Rest) (octets : List ℕ) → is_name p ≡ false → 1 < length octets → slice_index octets 0 ≡ 123
    → slice_index octets 1 ≢ 123 → IsFound p r octets (TokenKind.Mark Mark.FieldsOpen) [] 1 true
fields_open_found p r octets name some e n =
    opened_left p r octets 1 (TokenKind.Mark Mark.FieldsOpen) Mode.Brace [] Keep.Nothing
    (subst (λ w. Opens p r.colon w Mode.Brace []) (sym (first_of octets 123 (omega arith) e)) (opens_brace p r.colon name)) (λ s u. refl) (omega arith)
    some
    (brace_ends (slice_index octets 1) (ne_eqb (slice_index octets 1) 123 n) r.colon p)

-- a single colon stands whole before an octet other than a colon, where one may stand
pub colon_found : (p : Place) (r : Rest) (octets : List ℕ) → r.colon ≡ true → 1 < length octets → slice_index octets 0 ≡ 58 → slice_index octets 1 ≢ 58
    → IsFound p r octets (TokenKind.Mark Mark.Colon) [] 1 true
colon_found p r octets stands some e n =
    opened_left p r octets 1 (TokenKind.Mark Mark.Colon) Mode.Colon [] Keep.Nothing
    (subst (λ w. Opens p r.colon w Mode.Colon []) (sym (first_of octets 58 (omega arith) e)) (opens_colon p r.colon stands)) (λ s u. refl) (omega arith)
    some
    (colon_ends (slice_index octets 1) (ne_eqb (slice_index octets 1) 58 n) r.colon p)

-- two colons stand whole, where one may stand
pub colons_found : (p : Place) (r : Rest) (octets : List ℕ) → r.colon ≡ true → 1 < length octets → slice_index octets 0 ≡ 58 → slice_index octets 1 ≡ 58
    → IsFound p r octets (TokenKind.Mark Mark.Colons) [] 2 false
colons_found p r octets stands some e f =
    opened_given p r octets 1 (TokenKind.Mark Mark.Colons) Mode.Colon [] Keep.Nothing
    (subst (λ w. Opens p r.colon w Mode.Colon []) (sym (first_of octets 58 (omega arith) e)) (opens_colon p r.colon stands)) (λ s u. refl) some
    (ap (λ (x : ℕ). next p r.colon Mode.Colon x) f)
