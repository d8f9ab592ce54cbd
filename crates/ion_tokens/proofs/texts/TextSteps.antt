-- What an octet does within a quoted text, in each style.
use Rattle.std.proofs.Common.{◌≡◌, ◌≢◌, ℕ, ◌+◌, ◌-◌, ◌*◌, ◌<◌, ◌≤◌, ◌⊎◌, inl, inr, ⊎_elim, true, false, refl, sym, ap, ◌∙◌, arith, nat_eq, cond}
use Rattle.std.specs.Prelude.{Option, Some, None}
use Rattle.std.proofs.lemmas.Bool.Decides.{nat_tests}
use lib.Utf8.{scalar}
use native.Mathlib.Decide.{dec_lt}
use Rattle.ion_tokens.specs.Names.{Action, Digits, Keep, Mode, Reason, Style, Within, after_digits, character, grow, hexadecimal_digit, in_escape, in_text, in_utf8, is_clob, is_long, meant, quote_of, raw, with_digit}
use Rattle.ion_tokens.specs.Octets.{escaped}

-- an ASCII character that stands for itself
abbrev pub StandsRaw : ℕ → Type 0
StandsRaw o = (o ≡ 9) ⊎ (o ≡ 11) ⊎ (o ≡ 12) ⊎ (32 ≤ o)

-- an ASCII character that stands for itself is kept
pub raw_one : (s : Style) (o : ℕ) → o < 128 → o ≢ 92 → o ≢ quote_of s → StandsRaw o → raw s o ≡ Action.Go (Mode.Text s Within.Plain) (Keep.One o)
raw_one s o low slash quote stands = grind (arith, nat_tests)

-- the first octet of a character of two is kept, and one more must come
pub raw_two : (s : Style) (o : ℕ) → is_clob s ≡ false → quote_of s < 128 → 194 ≤ o → o < 224
    → raw s o ≡ Action.Go (Mode.Text s (Within.Utf8 1 128 191)) (Keep.One o)
raw_two s o text quote low high = grind (arith, nat_tests)

-- which octet may be the second
abbrev pub least_three : ℕ → ℕ
least_three x = cond (nat_eq x 0xe0) 0xa0 0x80

-- the greatest second octet, behind this first one of three
abbrev pub most_three : ℕ → ℕ
most_three x = cond (nat_eq x 0xed) 0x9f 0xbf

-- the least second octet, behind this first one of four
abbrev pub least_four : ℕ → ℕ
least_four x = cond (nat_eq x 0xf0) 0x90 0x80

-- the greatest second octet, behind this first one of four
abbrev pub most_four : ℕ → ℕ
most_four x = cond (nat_eq x 0xf4) 0x8f 0xbf

-- the first octet of a character of three is kept, and says which second one may come
pub raw_three : (s : Style) (x : ℕ) → is_clob s ≡ false → quote_of s < 128 → 224 ≤ x → x < 240
    → raw s x ≡ Action.Go (Mode.Text s (Within.Utf8 2 (least_three x) (most_three x))) (Keep.One x)
raw_three s x text quote low high = grind (arith, nat_tests)

-- the first octet of a character of four is kept, and says which second one may come
pub raw_four : (s : Style) (x : ℕ) → is_clob s ≡ false → quote_of s < 128 → 240 ≤ x → x ≤ 244
    → raw s x ≡ Action.Go (Mode.Text s (Within.Utf8 3 (least_four x) (most_four x))) (Keep.One x)
raw_four s x text quote low high = grind (arith, nat_tests)

-- the last octet of a character, in its range, is kept and completes it
pub utf8_last : (s : Style) (least most o : ℕ) → least ≤ o → o ≤ most → in_utf8 s 1 least most o ≡ Action.Go (Mode.Text s Within.Plain) (Keep.One o)
utf8_last s least most o l h = grind (arith, nat_tests)

-- an octet within a character, in its range, is kept, and the next may be any later one
pub utf8_more : (s : Style) (left least most o : ℕ) → 1 < left → least ≤ o → o ≤ most → in_utf8 s left least most o
    ≡ Action.Go (Mode.Text s (Within.Utf8 (left - 1) 128 191)) (Keep.One o)
utf8_more s left least most o m l h = grind (arith, nat_tests)

-- an octet of a character out of its range is refused as no UTF-8
pub utf8_wrong : (s : Style) (left least most o : ℕ) → (o < least) ⊎ (most < o) → in_utf8 s left least most o ≡ Action.Refuse Reason.BadUtf8
utf8_wrong s left least most o (inl h) = grind (arith, nat_tests)
utf8_wrong s left least most o (inr h) = grind (arith, nat_tests)

-- a quote in a long text is kept, and may be the first of its close
pub raw_quote : (s : Style) → is_long s ≡ true → raw s 39 ≡ Action.Go (Mode.Text s Within.OneQuote) (Keep.One 39)
raw_quote Style.LongString h = refl
raw_quote Style.LongClob h = refl
raw_quote _ h = cc

-- an LF in a long text is kept
pub raw_lf : (s : Style) → is_long s ≡ true → raw s 10 ≡ Action.Go (Mode.Text s Within.Plain) (Keep.One 10)
raw_lf Style.LongString h = refl
raw_lf Style.LongClob h = refl
raw_lf _ h = cc

-- a CR in a long text is kept as LF, and takes an LF behind it
pub raw_cr : (s : Style) → is_long s ≡ true → raw s 13 ≡ Action.Go (Mode.Text s Within.AfterReturn) (Keep.One 10)
raw_cr Style.LongString h = refl
raw_cr Style.LongClob h = refl
raw_cr _ h = cc

-- the quote of each style is `"` or `'`
pub quote_low : (s : Style) → (quote_of s ≡ 34) ⊎ (quote_of s ≡ 39)
quote_low Style.ShortString = inl refl
quote_low Style.ShortClob = inl refl
quote_low _ = inr refl

-- the quote of each style is ASCII
pub quote_small : (s : Style) → quote_of s < 128
quote_small s = ⊎_elim (λ e. omega arith) (λ e. omega arith) (quote_low s)

-- an octet that the state between two elements takes as it stands
abbrev pub Admits : Within → ℕ → Type 0
Admits Within.Plain o = Unit {0}
Admits Within.AfterReturn o = o ≢ 10
Admits Within.OneQuote o = o ≢ 39
Admits Within.TwoQuotes o = o ≢ 39
Admits _ o = ⊥

-- between two elements
abbrev pub Between : Within → Type 0
Between Within.Plain = Unit {0}
Between Within.AfterReturn = Unit {0}
Between Within.OneQuote = Unit {0}
Between Within.TwoQuotes = Unit {0}
Between _ = ⊥

-- an octet that the state takes as it stands does there what it does between two characters
pub as_raw : (s : Style) (w : Within) (o : ℕ) → Admits w o → in_text s w o ≡ raw s o
as_raw s Within.Plain o a = refl
as_raw s Within.AfterReturn o a = grind (arith, nat_tests)
as_raw s Within.OneQuote o a = grind (arith, nat_tests)
as_raw s Within.TwoQuotes o a = grind (arith, nat_tests)
as_raw s _ o a = absurd a

-- the number so far is right, or both are too great
abbrev pub Caps : ℕ → ℕ → Type 0
Caps m n = (m ≡ n) ⊎ ((0x110000 ≤ m) × (0x110000 ≤ n))

-- with one digit more the number so far stays right, or both stay too great
pub caps_grow : (m n d : ℕ) → Caps m n → Caps (grow m d) (n * 16 + d)
caps_grow m n d (inl e) = elim (dec_lt m 0x110000) [ yes h ↦ inl (grind (arith, nat_tests)) | no h ↦ inr (grind (arith, nat_tests)) ]
caps_grow m n d (inr h) = inr (grind (arith, nat_tests))

-- where the right number is no greater than characters have, the number so far is right
pub exact : (m n : ℕ) → Caps m n → n < 0x110000 → m ≡ n
exact m n (inl e) h = e
exact m n (inr b) h = absurd (omega arith)

-- an escape by a letter
no_letter : (o m x : ℕ) → escaped o ≡ Some m → escaped x ≡ None → o ≢ x
no_letter o m x e n is = let f : Some m ≡ None = sym e ∙ ap escaped is ∙ n in cc

-- behind a backslash, what is no line end, `x`, `u` or `U` does what the letter means
pub letter_only : (s : Style) (o : ℕ) (r : Option ℕ) → o ≢ 10 → o ≢ 13 → o ≢ 120 → o ≢ 117 → o ≢ 85 → escaped o ≡ r → in_escape s o ≡ meant s r
letter_only s o r a b c d f e = grind (arith, nat_tests)

-- behind a backslash, a letter that means an octet is kept as that octet
pub in_simple : (s : Style) (o m : ℕ) → escaped o ≡ Some m → in_escape s o ≡ Action.Go (Mode.Text s Within.Plain) (Keep.One m)
in_simple s o m e = letter_only s o (Some m) (no_letter o m 10 e refl) (no_letter o m 13 e refl) (no_letter o m 120 e refl) (no_letter o m 117 e refl)
    (no_letter o m 85 e refl) e

-- the digits of an escape, and what their number says
pub in_digit : (s : Style) (d : Digits) (left m o v : ℕ) → hexadecimal_digit o ≡ Some v → in_text s (Within.Hexadecimal d left m) o
    ≡ with_digit s d left m (Some v)
in_digit s d left m o v e = ap (with_digit s d left m) e

-- the last digit of an escape leads on with its number
pub last_digit : (s : Style) (d : Digits) (m v : ℕ) → with_digit s d 1 m (Some v) ≡ after_digits s d (grow m v)
last_digit s d m v = refl

-- a digit that isn't the last of an escape goes into its number
pub more_digits : (s : Style) (d : Digits) (left m v : ℕ) → 1 < left → with_digit s d left m (Some v)
    ≡ Action.Go (Mode.Text s (Within.Hexadecimal d (left - 1) (grow m v))) Keep.Nothing
more_digits s d left m v h = grind (arith, nat_tests)

-- the number of a character is kept as that character
pub char_is : (s : Style) (c : ℕ) → scalar c ≡ true → character s c ≡ Action.Go (Mode.Text s Within.Plain) (Keep.Character c)
char_is s c e = ap (λ b. cond b (Action.Go (Mode.Text s Within.Plain) (Keep.Character c)) (Action.Refuse Reason.BadEscape)) e

-- four digits of a character that is no surrogate are kept as that character
pub after_unit : (s : Style) (c : ℕ) → scalar c ≡ true → ((c < 55296) ⊎ ((57344 ≤ c) × (c < 1114112))) → after_digits s Digits.Unit c
    ≡ Action.Go (Mode.Text s Within.Plain) (Keep.Character c)
after_unit s c e k = no_high s c k ∙ char_is s c e where
  no_high : (s : Style) (c : ℕ) → ((c < 55296) ⊎ ((57344 ≤ c) × (c < 1114112))) → after_digits s Digits.Unit c ≡ character s c
  no_high s c k = grind (arith, nat_tests)

-- four digits of a high surrogate leave a low one to come
pub after_high : (s : Style) (h : ℕ) → h < 1024 → after_digits s Digits.Unit (0xd800 + h) ≡ Action.Go (Mode.Text s (Within.HighSurrogate (0xd800 + h)))
    Keep.Nothing
after_high s h l = grind (arith, nat_tests)

-- the digits of a low surrogate behind a high one are kept as the pair's character
pub after_low : (s : Style) (h l : ℕ) → h < 1024 → l < 1024 → after_digits s (Digits.LowSurrogate (0xd800 + h)) (0xdc00 + l)
    ≡ Action.Go (Mode.Text s Within.Plain) (Keep.Character (0x10000 + h * 1024 + l))
after_low s h l a b = let high : (0xd800 + h) - 0xd800 ≡ h = omega arith in let low : (0xdc00 + l) - 0xdc00 ≡ l = omega arith in
    after_pair (0xd800 + h) (0xdc00 + l) (omega arith) (omega arith) (omega arith) (omega arith) ∙ ap (character s) ((λ i. 0x10000 + high i * 1024 + low i))
    ∙ char_is s (0x10000 + h * 1024 + l) (grind (arith, nat_tests))
  where
    after_pair : (x y : ℕ) → 0xd800 ≤ x → x ≤ 0xdbff → 0xdc00 ≤ y → y ≤ 0xdfff → after_digits s (Digits.LowSurrogate x) y
        ≡ character s (0x10000 + (x - 0xd800) * 1024 + (y - 0xdc00))
    after_pair x y a b c d = grind (arith, nat_tests)
