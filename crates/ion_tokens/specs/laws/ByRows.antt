-- The scanner's table walked once: a test that each row of it passes (`machine/Rows`) is passed by whatever an octet does.
use Rattle.std.proofs.Common.{◌≡◌, ℕ, zero, suc, ◌+◌, ◌-◌, ◌*◌, Bool, true, false, cond, List, [], ◌∷◌, refl, sym, ◌∙◌, subst, arith, Option, Some, None}
use Rattle.std.specs.Prelude.{◌==◌, ◌&&◌, ◌||◌, not, nat_le, nat_lt, ◌%◌}
use Rattle.std.specs.List.{list_all}
use Rattle.std.proofs.lemmas.Bool.{and_parts}
use Rattle.std.proofs.lemmas.Bool.Decides.{nat_tests}
use lib.Utf8.{scalar}
use Rattle.ion_tokens.specs.Names.{Action, Digits, Ending, Lob, Mode, Place, Style, Within, add, after_digits, begins_value, begins_word, character, digit_behind, go, grow, hexadecimal_digit, in_blank, in_escape, in_infinity, in_lob, in_operator, in_text, is_base64, is_clob, is_digit, is_high, is_line_end, is_long, is_low, is_name, is_operator_octet, is_other, is_sexp, is_stop, is_white, is_word_octet, lead, meant, quote_of, raw, refused, stands, with_digit}
use Rattle.ion_tokens.specs.Octets.{escaped}
use Rattle.ion_tokens.specs.machine.Rows.{Parts, Taken, all_lobs, all_modes, all_rows, all_styles, at_quote, blank_rows, digit_rows, in_sexp, infinity_rows, inside, is_last, lob_rows, mode_rows, operator_rows, place_rows, plain_modes, rows, text_rows, withins}
use Rattle.ion_tokens.specs.machine.Table.{next}

-- the element at a place passes, where one is
abbrev PassesAt : {A : Type 0} → (A → Bool) → List A → ℕ → Type 0
PassesAt f [] k = Unit {0}
PassesAt f (x ∷ xs) zero = f x ≡ true
PassesAt f (x ∷ xs) (suc k) = PassesAt f xs k

at : {A : Type 0} (f : A → Bool) (xs : List A) → list_all f xs ≡ true → (k : ℕ) → PassesAt f xs k
at f [] h k = tt
at f (x ∷ xs) h zero = (and_parts (f x) (list_all f xs) h).0
at f (x ∷ xs) h (suc k) = at f xs (and_parts (f x) (list_all f xs) h).1 k

-- the parts of a mode that has these numbers, and of one that has none
abbrev numbered : ℕ → ℕ → ℕ → Parts
numbered x y z = record { ending = Ending.Other; digits = Digits.Octet; first = x; second = y; third = z }

module _ (f : Mode → Bool) (h : (c : Parts) → all_modes f c ≡ true) where
  texts : Parts → Style → Bool
  texts c s = list_all (λ w. f (Mode.Text s w)) (withins c)

  parts : (c : Parts) → (list_all f (plain_modes c) ≡ true) × ((list_all (texts c) all_styles && list_all (λ l. f (Mode.Lob l)) all_lobs) ≡ true)
  unfolding texts
  parts c = and_parts (list_all f (plain_modes c)) (list_all (texts c) all_styles && list_all (λ l. f (Mode.Lob l)) all_lobs) (h c)

  plain : (c : Parts) (k : ℕ) → PassesAt f (plain_modes c) k
  plain c = at f (plain_modes c) (parts c).0

  styled : (c : Parts) (k : ℕ) → PassesAt (texts c) all_styles k
  styled c = at (texts c) all_styles (and_parts (list_all (texts c) all_styles) (list_all (λ l. f (Mode.Lob l)) all_lobs) (parts c).1).0

  lob : (k : ℕ) → PassesAt (λ l. f (Mode.Lob l)) all_lobs k
  lob =
      let c = numbered 0 0 0 in
      at (λ l. f (Mode.Lob l)) all_lobs (and_parts (list_all (texts c) all_styles) (list_all (λ l. f (Mode.Lob l)) all_lobs) (parts c).1).1

  style : (s : Style) (c : Parts) → texts c s ≡ true
  style Style.ShortString c = styled c 0
  style Style.QuotedSymbol c = styled c 1
  style Style.LongString c = styled c 2
  style Style.ShortClob c = styled c 3
  style Style.LongClob c = styled c 4

  text : (s : Style) (c : Parts) (k : ℕ) → PassesAt (λ w. f (Mode.Text s w)) (withins c) k
  unfolding texts
  text s c = at (λ w. f (Mode.Text s w)) (withins c) (style s c)

  -- A test that each mode passes is passed by a mode.
  pub by_modes : (m : Mode) → f m ≡ true
  by_modes Mode.Blank = plain (numbered 0 0 0) 0
  by_modes Mode.Slash = plain (numbered 0 0 0) 1
  by_modes Mode.LineComment = plain (numbered 0 0 0) 2
  by_modes Mode.BlockComment = plain (numbered 0 0 0) 3
  by_modes Mode.BlockCommentStar = plain (numbered 0 0 0) 4
  by_modes Mode.Colon = plain (numbered 0 0 0) 5
  by_modes Mode.Word = plain (numbered 0 0 0) 6
  by_modes Mode.KindName = plain (numbered 0 0 0) 7
  by_modes Mode.Number = plain (numbered 0 0 0) 8
  by_modes Mode.NumberSlash = plain (numbered 0 0 0) 9
  by_modes (Mode.Operator e) = plain (record { ending = e; digits = Digits.Octet; first = 0; second = 0; third = 0 }) 10
  by_modes Mode.OperatorSlash = plain (numbered 0 0 0) 11
  by_modes (Mode.Infinity letters) = plain (numbered letters 0 0) 12
  by_modes Mode.Quote = plain (numbered 0 0 0) 13
  by_modes Mode.Quotes = plain (numbered 0 0 0) 14
  by_modes Mode.Brace = plain (numbered 0 0 0) 15
  by_modes (Mode.Text s Within.Plain) = text s (numbered 0 0 0) 0
  by_modes (Mode.Text s Within.AfterReturn) = text s (numbered 0 0 0) 1
  by_modes (Mode.Text s Within.OneQuote) = text s (numbered 0 0 0) 2
  by_modes (Mode.Text s Within.TwoQuotes) = text s (numbered 0 0 0) 3
  by_modes (Mode.Text s (Within.Utf8 left least most)) = text s (numbered left least most) 4
  by_modes (Mode.Text s Within.Escape) = text s (numbered 0 0 0) 5
  by_modes (Mode.Text s (Within.Hexadecimal d left n)) = text s (record { ending = Ending.Other; digits = d; first = left; second = n; third = 0 }) 6
  by_modes (Mode.Text s (Within.HighSurrogate h)) = text s (numbered h 0 0) 7
  by_modes (Mode.Text s (Within.HighSurrogateEscape h)) = text s (numbered h 0 0) 8
  by_modes (Mode.Lob Lob.Start) = lob 0
  by_modes (Mode.Lob Lob.StartQuote) = lob 1
  by_modes (Mode.Lob Lob.StartQuotes) = lob 2
  by_modes (Mode.Lob Lob.Base64) = lob 3
  by_modes (Mode.Lob Lob.BlobClose) = lob 4
  by_modes (Mode.Lob Lob.AfterShort) = lob 5
  by_modes (Mode.Lob Lob.AfterLong) = lob 6
  by_modes (Mode.Lob Lob.AfterQuote) = lob 7
  by_modes (Mode.Lob Lob.AfterQuotes) = lob 8
  by_modes (Mode.Lob Lob.ClobClose) = lob 9

-- one octet, or one character
abbrev taken : ℕ → Taken
taken o = record { octet = o; left = 0; least = 0; most = 0 }

-- each row passes
abbrev Pass : (Action → Bool) → (Taken → List Action) → Type 0
Pass f xs = (t : Taken) (k : ℕ) → PassesAt f (xs t) k

module _ (f : Action → Bool) where
  both : {x y : Action} (b : Bool) → f x ≡ true → f y ≡ true → f (cond b x y) ≡ true
  both true h k = h
  both false h k = k

  both_when : {x y : Action} (b : Bool) → (b ≡ true → f x ≡ true) → (b ≡ false → f y ≡ true) → f (cond b x y) ≡ true
  both_when true h k = h refl
  both_when false h k = k refl

  value : (p : Place) (o : ℕ) → ((k : ℕ) → PassesAt f (blank_rows (taken o)) k) → f (begins_value p o) ≡ true
  value p o g =
      both (is_digit o) (g 9) (both (o == 123) (g 10) (both (o == 91) (g 11) (both (o == 93) (g 12) (both (o == 40) (g 13) (both (o == 41) (g 14)
      (both (o == 45) (g 15) (both (o == 43) (g 16) (both (is_sexp p && is_operator_octet o) (g 17) (g 8)))))))))

  blank : (p : Place) (colon : Bool) (o : ℕ) → ((k : ℕ) → PassesAt f (blank_rows (taken o)) k) → f (in_blank p colon o) ≡ true
  blank p colon o g =
      both (is_white o) (g 0) (both (begins_word o) (g 1) (both (o == 47) (g 2) (both (o == 34) (g 3) (both (o == 39) (g 4) (both (o == 44) (g 5)
      (both (o == 125) (g 6) (both (o == 58) (both colon (g 7) (g 8)) (both (is_name p) (g 8) (value p o g)))))))))

  slash : (sexp other : Bool) (x y : Action) → ((k : ℕ) → PassesAt f (go Mode.LineComment ∷ go Mode.BlockComment ∷ refused ∷ in_sexp sexp (x ∷ y ∷ [])) k)
      → f (cond (not sexp) refused (cond other x y)) ≡ true
  slash true other x y g = both other (g 3) (g 4)
  slash false other x y g = g 2

  digit : (p : Place) (e : Ending) (o : ℕ) → ((k : ℕ) → PassesAt f (operator_rows (taken o)) k) → f (digit_behind p e o) ≡ true
  digit p Ending.LoneMinus o g = g 0
  digit p Ending.Minus o g = g 1
  digit p Ending.Plus o g = both (is_sexp p) (g 2) (g 3)
  digit p Ending.Other o g = g 2

  operator : (p : Place) (e : Ending) (o : ℕ) → ((k : ℕ) → PassesAt f (operator_rows (taken o)) k) → f (in_operator p e o) ≡ true
  operator p e o g =
      both (is_digit o) (digit p e o g) (both ((o == 105) && not (is_other e)) (g 4)
      (both (not (is_sexp p)) (g 3) (both (o == 47) (g 5) (both (is_operator_octet o) (g 6) (g 2)))))

  split : (sexp : Bool) (letters : ℕ) → ((k : ℕ) → PassesAt f (infinity_rows sexp letters) k) → f (cond sexp (Action.Split letters) refused) ≡ true
  split true letters g = g 3
  split false letters g = g 2

  letter : (letters n : ℕ) (b : Bool) → ((letters == n) && b) ≡ true → suc letters ≡ suc n
  letter letters n b h = grind (arith, nat_tests)

  infinity : (p : Place) (letters o : ℕ) → ((k : ℕ) → PassesAt f (infinity_rows (is_sexp p) letters) k) → f (in_infinity p letters o) ≡ true
  infinity p letters o g =
      both_when ((letters == 1) && (o == 110)) (λ e. one_more 1 (o == 110) e) (λ _.
      both_when ((letters == 2) && (o == 102)) (λ e. one_more 2 (o == 102) e) (λ _.
      both ((letters == 3) && not (is_word_octet o)) (g 1) (split (is_sexp p) letters g)))
    where
      one_more : (n : ℕ) (b : Bool) → ((letters == n) && b) ≡ true → f (go (Mode.Infinity (suc n))) ≡ true
      one_more n b e = subst (λ k. f (go (Mode.Infinity k)) ≡ true) (letter letters n b e) (g 0)

  module _ (s : Style) (g : Pass f (inside s)) where
    further : (o left least most : ℕ) → f (add (Mode.Text s (Within.Utf8 left least most)) o) ≡ true
    further o left least most = g (record { octet = o; left = left; least = least; most = most }) 5

    leading : (o : ℕ) → f (lead s o) ≡ true
    leading o =
        both (nat_lt o 0xc2 || nat_lt 0xf4 o) (g (taken o) 4)
        (both (nat_lt o 0xe0) (further o 1 _ _) (both (nat_lt o 0xf0) (further o 2 _ _) (further o 3 _ _)))

    -- where it is the quote, it does what that does
    raw_octet : (o : ℕ) → ((o == quote_of s) ≡ true → f (at_quote s (taken o)) ≡ true) → f (raw s o) ≡ true
    raw_octet o q =
        both (o == 92) (g (taken o) 0) (both_when (o == quote_of s) q (λ _. both (is_long s && (o == 13)) (g (taken o) 1)
        (both (stands o || (is_long s && (o == 10))) (g (taken o) 2) (both (nat_lt o 128 || is_clob s) (g (taken o) 3) (leading o)))))

  module _ (s : Style) (d : Digits) (left : ℕ) where
    character_of : Pass f (digit_rows true s d left) → (n : ℕ) → f (character s n) ≡ true
    character_of g n = both (scalar n) (g (taken n) 2) (g (taken n) 0)

    last_digit : Pass f (digit_rows true s d left) → (e : Digits) (n : ℕ) → f (after_digits s e n) ≡ true
    last_digit g Digits.Octet n = both (is_clob s) (g (taken (n % 256)) 1) (character_of g n)
    last_digit g Digits.Unit n = both (is_high n) (g (taken n) 3) (character_of g n)
    last_digit g Digits.Scalar n = character_of g n
    last_digit g (Digits.LowSurrogate high) n =
        both (is_high high && is_low n) (character_of g (0x10000 + (high - 0xd800) * 1024 + (n - 0xdc00))) (g (taken n) 0)

    one_digit : (last : Bool) (n : ℕ) → Pass f (digit_rows last s d left)
        → f (cond last (after_digits s d n) (go (Mode.Text s (Within.Hexadecimal d (left - 1) n)))) ≡ true
    one_digit true n g = last_digit g d n
    one_digit false n g = g (taken n) 1

    hexadecimal : (n : ℕ) (digit : Option ℕ) → Pass f (digit_rows (nat_le left 1) s d left) → f (with_digit s d left n digit) ≡ true
    hexadecimal n None g = g (taken 0) 0
    hexadecimal n (Some digit) g = one_digit (nat_le left 1) (grow n digit) g

  letter_meant : (s : Style) (m : Option ℕ) → Pass f (text_rows false s Within.Escape) → f (meant s m) ≡ true
  letter_meant s None g = g (taken 0) 6
  letter_meant s (Some o) g = g (taken o) 5

  escape : (s : Style) (o : ℕ) → Pass f (text_rows false s Within.Escape) → f (in_escape s o) ≡ true
  escape s o g =
      both (o == 10) (g (taken o) 0) (both (o == 13) (g (taken o) 1) (both (o == 120) (g (taken o) 2) (both ((o == 117) && not (is_clob s)) (g (taken o) 3)
      (both ((o == 85) && not (is_clob s)) (g (taken o) 4) (letter_meant s (escaped o) g)))))

  text_octet : (s : Style) (w : Within) (o : ℕ) → Pass f (text_rows (is_last (Mode.Text s w)) s w) → f (in_text s w o) ≡ true
  text_octet s Within.Plain o g = raw_octet s (λ t k. g t (suc k)) o (λ _. g (taken o) 0)
  text_octet s Within.AfterReturn o g = both (o == 10) (g (taken o) 1) (raw_octet s (λ t k. g t (suc (suc k))) o (λ _. g (taken o) 0))
  text_octet s (Within.Utf8 left least most) o g =
      both (nat_lt o least || nat_lt most o) (g (taken o) 0)
      (both (nat_le left 1) (g (taken o) 1) (g (record { octet = o; left = left - 1; least = 0x80; most = 0xbf }) 2))
  text_octet s Within.Escape o g = escape s o g
  text_octet s (Within.Hexadecimal d left n) o g = hexadecimal s d left n (hexadecimal_digit o) g
  text_octet s (Within.HighSurrogate high) o g = both (o == 92) (g (taken o) 1) (g (taken o) 0)
  text_octet s (Within.HighSurrogateEscape high) o g = both (o == 117) (g (taken o) 1) (g (taken o) 0)
  text_octet s _ o g = both (o == 39) (g (taken o) 1) (raw_octet s (λ t k. g t (suc (suc k))) o (λ _. g (taken o) 0))

  lob_octet : (l : Lob) (o : ℕ) → ((k : ℕ) → PassesAt f (lob_rows l (taken o)) k) → f (in_lob l o) ≡ true
  lob_octet Lob.Start o g = both (is_white o) (g 3) (both (o == 34) (g 4) (both (o == 39) (g 5) (both (o == 125) (g 0) (both (is_base64 o) (g 1) (g 2)))))
  lob_octet Lob.Base64 o g = both (is_white o) (g 3) (both (o == 125) (g 0) (both (is_base64 o) (g 1) (g 2)))
  lob_octet Lob.BlobClose o g = both (o == 125) (g 1) (g 0)
  lob_octet Lob.AfterShort o g = both (is_white o) (g 1) (both (o == 125) (g 2) (g 0))
  lob_octet Lob.AfterLong o g = both (is_white o) (g 1) (both (o == 125) (g 2) (both (o == 39) (g 3) (g 0)))
  lob_octet Lob.ClobClose o g = both (o == 125) (g 1) (g 0)
  lob_octet _ o g = both (o == 39) (g 1) (g 0)

  walk : (p : Place) (colon : Bool) (m : Mode) (o : ℕ) → Pass f (rows (is_sexp p) (is_last m) m) → f (next p colon m o) ≡ true
  walk p colon Mode.Blank o g = blank p colon o (g (taken o))
  walk p colon Mode.Slash o g =
      both (o == 47) (g (taken o) 0) (both (o == 42) (g (taken o) 1) (slash (is_sexp p) (is_operator_octet o) _ _ (g (taken o))))
  walk p colon Mode.LineComment o g =
      elim (is_line_end o) as (λ b. f (go (cond b Mode.Blank Mode.LineComment)) ≡ true) [ true ↦ g (taken o) 0 | false ↦ g (taken o) 1 ]
  walk p colon Mode.BlockComment o g =
      elim (o == 42) as (λ b. f (go (cond b Mode.BlockCommentStar Mode.BlockComment)) ≡ true) [ true ↦ g (taken o) 0 | false ↦ g (taken o) 1 ]
  walk p colon Mode.BlockCommentStar o g = both (o == 47) (g (taken o) 0) (both (o == 42) (g (taken o) 1) (g (taken o) 2))
  walk p colon Mode.Colon o g = both (o == 58) (g (taken o) 0) (g (taken o) 1)
  walk p colon Mode.Number o g = both (is_stop o) (g (taken o) 0) (both (o == 47) (g (taken o) 1) (g (taken o) 2))
  walk p colon Mode.NumberSlash o g = both ((o == 47) || (o == 42)) (g (taken o) 0) (both (is_stop o) (g (taken o) 1) (g (taken o) 2))
  walk p colon (Mode.Operator e) o g = operator p e o (g (taken o))
  walk p colon Mode.OperatorSlash o g = both ((o == 47) || (o == 42)) (g (taken o) 0) (both (is_operator_octet o) (g (taken o) 1) (g (taken o) 2))
  walk p colon (Mode.Infinity letters) o g = infinity p letters o (g (taken o))
  walk p colon Mode.Quote o g = first (o == 39) refl
    where
      -- a second quote isn't taken for the close of the text
      first : (b : Bool) → (o == 39) ≡ b → f (cond b (go Mode.Quotes) (raw Style.QuotedSymbol o)) ≡ true
      first true e = g (taken o) 0
      first false e = raw_octet Style.QuotedSymbol (λ t k. g t (suc k)) o (λ q. absurd (let n : true ≡ false = sym q ∙ e in cc))
  walk p colon Mode.Quotes o g = both (o == 39) (g (taken o) 0) (g (taken o) 1)
  walk p colon (Mode.Text s w) o g = text_octet s w o g
  walk p colon Mode.Brace o g = both (o == 123) (g (taken o) 0) (g (taken o) 1)
  walk p colon (Mode.Lob l) o g = lob_octet l o (g (taken o))
  walk p colon _ o g = both (is_word_octet o) (g (taken o) 0) (g (taken o) 1)

  -- What passes in each row of a mode passes for what an octet does there.
  pub by_mode : (p : Place) (colon : Bool) (m : Mode) (o : ℕ) → ((t : Taken) → list_all f (rows (is_sexp p) (is_last m) m t) ≡ true)
      → f (next p colon m o) ≡ true
  by_mode p colon m o h = walk p colon m o (λ t. at f (rows (is_sexp p) (is_last m) m t) (h t))

either : (f : Bool → Bool) → list_all f (true ∷ false ∷ []) ≡ true → (b : Bool) → f b ≡ true
either f h true = at f (true ∷ false ∷ []) h 0
either f h false = at f (true ∷ false ∷ []) h 1

implied : (a b : Bool) → (not a || b) ≡ true → a ≡ true → b ≡ true
implied true b h e = h
implied false b h e = absurd cc

-- Of modes, what follows from another test.
pub modes_imply : (f g : Mode → Bool) → ((c : Parts) → all_modes (λ m. not (f m) || g m) c ≡ true) → (m : Mode) → f m ≡ true → g m ≡ true
modes_imply f g h m = implied (f m) (g m) (by_modes (λ n. not (f n) || g n) h m)

-- What passes in each row of the table passes for what an octet does.
pub by_rows : (test : Bool → Mode → Action → Bool) → ((c : Parts) (t : Taken) → all_rows test c t ≡ true)
    → (p : Place) (colon : Bool) (m : Mode) (o : ℕ) → test (is_sexp p) m (next p colon m o) ≡ true
by_rows test h p colon m o = by_mode (test (is_sexp p) m) p colon m o each
  where
    each : (t : Taken) → list_all (test (is_sexp p) m) (rows (is_sexp p) (is_last m) m t) ≡ true
    each t =
        let place = either (place_rows test t m) (by_modes (mode_rows test t) (λ c. h c t) m) (is_sexp p) in
        either (λ last. list_all (test (is_sexp p) m) (rows (is_sexp p) last m t)) place (is_last m)

-- The same of the modes that pass a test.
pub by_rows_where : (which : Mode → Bool) (test : Bool → Mode → Action → Bool)
    → ((c : Parts) (t : Taken) → all_rows (λ sexp m a. not (which m) || test sexp m a) c t ≡ true)
    → (p : Place) (colon : Bool) (m : Mode) (o : ℕ) → which m ≡ true → test (is_sexp p) m (next p colon m o) ≡ true
by_rows_where which test h p colon m o =
    implied (which m) (test (is_sexp p) m (next p colon m o)) (by_rows (λ sexp n a. not (which n) || test sexp n a) h p colon m o)
