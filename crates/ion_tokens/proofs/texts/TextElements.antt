-- Each element of a quoted text is read as what it means, in each style.
use Rattle.std.proofs.Common.{◌≡◌, ◌≢◌, ℕ, ◌+◌, ◌-◌, ◌*◌, ◌%◌, ◌<◌, ◌≤◌, ◌⊎◌, inl, inr, ⊎_elim, Bool, true, false, List, [], ◌∷◌, ◌++◌, length, refl, sym, ap, ◌∙◌, subst, arith, append_assoc, IsTrue, cond}
use Rattle.std.specs.Prelude.{Some}
use Rattle.std.specs.Char.{IsScalar}
use Rattle.std.proofs.lemmas.Bool.Decides.{nat_tests}
use Rattle.std.proofs.lemmas.Bool.{false_from_ne_true}
use lib.Utf8.{encode, scalar, scalar_cases}
use Rattle.ion_tokens.specs.Names.{Action, LeadsOn, Digits, Hex, IsElement, IsHexAfter, Keep, Mode, Pair, Place, Style, Within, after_digits, grow, hex_length, in_escape, in_text, is_clob, kept_after, meaning, quote_of, raw}
use Rattle.ion_tokens.proofs.texts.Encodings as law
use Rattle.ion_tokens.proofs.texts.Encodings.{Encoding, four_octets, one_octet, order, three_octets, two_octets}
use Rattle.ion_tokens.proofs.texts.TextSteps.{Admits, Caps, StandsRaw, after_high, after_low, after_unit, as_raw, caps_grow, char_is, exact, in_digit, last_digit, least_four, least_three, more_digits, most_four, most_three, quote_small, raw_four, raw_one, raw_three, raw_two, utf8_last, utf8_more}
use Rattle.ion_tokens.specs.laws.TokensKept.{hex_small}
use Rattle.ion_tokens.proofs.complete.Moves.{Moves, moves_one, moves_then, moves_to}

-- over these octets a text comes from the one state to the other, whatever follows
abbrev pub GoesInText : Place → Style → Within → List ℕ → List ℕ → Within → List ℕ → Type 0
GoesInText p s w kept os v kept' = Moves p (Mode.Text s w) kept os (Mode.Text s v) kept'

-- octets that lead on do so from each place
pub led : (s : Style) (w kept kept' : List ℕ) → LeadsOn s w kept kept' → (p : Place) → GoesInText p s Within.Plain kept w Within.Plain kept'
led s w kept kept' f p = record { on = f p }

-- one octet leads from state to state as the table says
pub goes_one : (p : Place) (s : Style) (w : Within) (o : ℕ) (kept : List ℕ) (v : Within) (k : Keep) → in_text s w o ≡ Action.Go (Mode.Text s v) k
    → GoesInText p s w kept (o ∷ []) v (kept_after k kept)
goes_one p s w o kept v k e = moves_one p (Mode.Text s w) o kept (Mode.Text s v) k (λ start used. refl) (λ c. e)

raw_step : (p : Place) (s : Style) (w : Within) (o : ℕ) (kept : List ℕ) (v : Within) (k : Keep) → Admits w o → raw s o ≡ Action.Go (Mode.Text s v) k
    → GoesInText p s w kept (o ∷ []) v (kept_after k kept)
raw_step p s w o kept v k a e = goes_one p s w o kept v k (as_raw s w o a ∙ e)

pub between_three : (x y : ℕ) → (x ≡ 224 → 160 ≤ y) → (x ≡ 237 → y ≤ 159) → 128 ≤ y → y < 192 → (least_three x ≤ y) × (y ≤ most_three x)
between_three x y l m a b = (grind (arith, nat_tests), grind (arith, nat_tests))

pub between_four : (x y : ℕ) → (x ≡ 240 → 144 ≤ y) → (x ≡ 244 → y ≤ 143) → 128 ≤ y → y < 192 → (least_four x ≤ y) × (y ≤ most_four x)
between_four x y l m a b = (grind (arith, nat_tests), grind (arith, nat_tests))

at_least_128 : (c : ℕ) → 1 < length (encode c) → 128 ≤ c
at_least_128 c h = ⊎_elim (λ l. absurd (omega (arith, ap length (law.one c l)))) (λ l. l) (order c 128)

at_least_2048 : (c : ℕ) → 2 < length (encode c) → 2048 ≤ c
at_least_2048 c h = ⊎_elim (λ l. absurd (omega (arith, ap length (law.two c (at_least_128 c (omega arith)) l)))) (λ l. l) (order c 2048)

at_least_65536 : (c : ℕ) → 3 < length (encode c) → 65536 ≤ c
at_least_65536 c h = ⊎_elim (λ l. absurd (omega (arith, ap length (law.three c (at_least_2048 c (omega arith)) l)))) (λ l. l) (order c 65536)

no_clob : (s : Style) (c : ℕ) → (IsTrue (is_clob s) → c < 128) → 128 ≤ c → is_clob s ≡ false
no_clob s c h l = false_from_ne_true (is_clob s) (λ e. omega (arith, h e))

-- a raw character that isn't a long string's quote
pub read_raw : (p : Place) (s : Style) (c : ℕ) (w : Within) (kept : List ℕ) → ((o : ℕ) → (o ≡ c) ⊎ (128 ≤ o) → Admits w o) → IsScalar c → c ≢ 92
    → c ≢ quote_of s → StandsRaw c → (IsTrue (is_clob s) → c < 128) → Encoding c
    → GoesInText p s w kept (encode c) Within.Plain (kept ++ encode c)
read_raw p s c w kept a scalar slash quote stands clob (one_octet low e) =
    rw e (raw_step p s w c kept Within.Plain (Keep.One c) (a c (inl refl)) (raw_one s c low slash quote stands))
read_raw p s c w kept a scalar slash quote stands clob (two_octets x y l u f t e) =
    let least : 128 ≤ c = at_least_128 c (omega (arith, ap length e)) in
    let text : is_clob s ≡ false = no_clob s c clob least in
    rw e (moves_to (append_assoc kept (x ∷ []) (y ∷ [])) (moves_then
    (raw_step p s w x kept (Within.Utf8 1 128 191) (Keep.One x) (a x (inr (omega arith))) (raw_two s x text (quote_small s) (omega arith) u))
    (goes_one p s (Within.Utf8 1 128 191) y (kept ++ x ∷ []) Within.Plain (Keep.One y) (utf8_last s 128 191 y f.0 (omega arith)))))
read_raw p s c w kept a scalar slash quote stands clob (three_octets x y z l u f g t e) =
    let least : 2048 ≤ c = at_least_2048 c (omega (arith, ap length e)) in
    let text : is_clob s ≡ false = no_clob s c clob (omega arith) in
    let k : (c < 55296) ⊎ ((57344 ≤ c) × (c < 1114112)) = scalar_cases c scalar in
    let second : (least_three x ≤ y) × (y ≤ most_three x) =
    between_three x y (λ h. omega arith) (λ h. ⊎_elim (λ i. omega arith) (λ i. omega arith) k) f.0 f.1 in
    rw e (moves_to (simp append_assoc) (moves_then
    (raw_step p s w x kept (Within.Utf8 2 (least_three x) (most_three x)) (Keep.One x) (a x (inr (omega arith))) (raw_three s x text (quote_small s) l u))
    (moves_then (goes_one p s (Within.Utf8 2 (least_three x) (most_three x)) y (kept ++ x ∷ []) (Within.Utf8 1 128 191) (Keep.One y)
    (utf8_more s 2 (least_three x) (most_three x) y (omega arith) second.0 second.1))
    (goes_one p s (Within.Utf8 1 128 191) z ((kept ++ x ∷ []) ++ y ∷ []) Within.Plain (Keep.One z) (utf8_last s 128 191 z g.0 (omega arith))))))
read_raw p s c w kept a scalar slash quote stands clob (four_octets x y z v l u f g h t e) =
    let least : 65536 ≤ c = at_least_65536 c (omega (arith, ap length e)) in
    let text : is_clob s ≡ false = no_clob s c clob (omega arith) in
    let k : (c < 55296) ⊎ ((57344 ≤ c) × (c < 1114112)) = scalar_cases c scalar in
    let most : c < 1114112 = ⊎_elim (λ i. omega arith) (λ i. i.1) k in
    let second : (least_four x ≤ y) × (y ≤ most_four x) = between_four x y (λ is_f0. omega arith) (λ is_f4. omega arith) f.0 f.1 in
    rw e (moves_to (simp append_assoc) (moves_then
    (raw_step p s w x kept (Within.Utf8 3 (least_four x) (most_four x)) (Keep.One x) (a x (inr (omega arith)))
    (raw_four s x text (quote_small s) l (omega arith))) (moves_then
    (goes_one p s (Within.Utf8 3 (least_four x) (most_four x)) y (kept ++ x ∷ []) (Within.Utf8 2 128 191) (Keep.One y)
    (utf8_more s 3 (least_four x) (most_four x) y (omega arith) second.0 second.1)) (moves_then
    (goes_one p s (Within.Utf8 2 128 191) z ((kept ++ x ∷ []) ++ y ∷ []) (Within.Utf8 1 128 191) (Keep.One z)
    (utf8_more s 2 128 191 z (omega arith) g.0 (omega arith)))
    (goes_one p s (Within.Utf8 1 128 191) v (((kept ++ x ∷ []) ++ y ∷ []) ++ z ∷ []) Within.Plain (Keep.One v) (utf8_last s 128 191 v h.0 (omega arith)))))))

-- the digits of an escape, whose number leads on
read_digits : (p : Place) (s : Style) (os : List ℕ) (d : Digits) (left m n c : ℕ) (kept : List ℕ) (v : Within) (k : Keep) → length os ≡ left → 0 < left
    → IsHexAfter n os c → Caps m n
    → ((c' : ℕ) → Caps c' c → after_digits s d c' ≡ Action.Go (Mode.Text s v) k) → GoesInText p s (Within.Hexadecimal d left m) kept os v (kept_after k kept)
read_digits p s [] d left m n c kept v k e some h caps f = absurd (omega arith)
read_digits p s (o ∷ []) d left m n c kept v k e some (x, digit, last) caps f =
    subst (λ (l : ℕ). GoesInText p s (Within.Hexadecimal d l m) kept (o ∷ []) v (kept_after k kept)) e
    (goes_one p s (Within.Hexadecimal d 1 m) o kept v k (in_digit s d 1 m o x digit ∙ last_digit s d m x
    ∙ f (grow m x) (subst (Caps (grow m x)) last (caps_grow m n x caps))))
read_digits p s (o ∷ o' ∷ os) d left m n c kept v k e some (x, digit, last) caps f =
    moves_then (goes_one p s (Within.Hexadecimal d left m) o kept (Within.Hexadecimal d (left - 1) (grow m x)) Keep.Nothing
    (in_digit s d left m o x digit ∙ more_digits s d left m x (omega arith)))
    (read_digits p s (o' ∷ os) d (left - 1) (grow m x) (n * 16 + x) c kept v k (omega arith) (omega arith) last (caps_grow m n x caps) f)

-- a character's number is below 0x110000
pub below_max : (c : ℕ) → ((c < 55296) ⊎ ((57344 ≤ c) × (c < 1114112))) → c < 0x110000
below_max c (inl h) = omega arith
below_max c (inr h) = h.1

-- an escape by digits
letters : (letter n : ℕ) → hex_length letter ≡ Some n → ((letter ≡ 120) × (n ≡ 2)) ⊎ (((letter ≡ 117) × (n ≡ 4)) ⊎ ((letter ≡ 85) × (n ≡ 8)))
letters letter n e = grind (arith, nat_tests)

abbrev keep_of : Style → ℕ → Keep
keep_of s c = cond (is_clob s) (Keep.One (c % 256)) (Keep.Character c)

hex_keeps : (s : Style) (letter c : ℕ) (os kept : List ℕ) → (IsTrue (is_clob s) → c < 256) → kept_after (keep_of s c) kept ≡ kept ++ meaning s (Hex letter os c)
hex_keeps s letter c os kept h = by (is_clob s) h where
  by : (b : Bool) → (IsTrue b → c < 256) → kept_after (cond b (Keep.One (c % 256)) (Keep.Character c)) kept ≡ kept ++ cond b (c ∷ []) (encode c)
  by false h = refl
  by true h = let small : c < 256 = h refl in let same : c % 256 ≡ c = omega arith in ap (λ (n : ℕ). kept ++ n ∷ []) same

pub record HexKind (s : Style) (letter n : ℕ) : Type 0 where
  pub kind : Digits
  pub opened : in_escape s letter ≡ Action.Go (Mode.Text s (Within.Hexadecimal kind n 0)) Keep.Nothing
  pub some : 0 < n
  pub means : (c : ℕ) → scalar c ≡ true → ((c < 55296) ⊎ ((57344 ≤ c) × (c < 1114112)))
      → after_digits s kind c ≡ Action.Go (Mode.Text s Within.Plain) (keep_of s c)

octet_means : (s : Style) (c : ℕ) → scalar c ≡ true → after_digits s Digits.Octet c ≡ Action.Go (Mode.Text s Within.Plain) (keep_of s c)
octet_means s c e = grind (arith, nat_tests, e)

in_text_style : (s : Style) (c : ℕ) → is_clob s ≡ false → Action.Go (Mode.Text s Within.Plain) (Keep.Character c)
    ≡ Action.Go (Mode.Text s Within.Plain) (keep_of s c)
in_text_style s c e = ap (λ b. Action.Go (Mode.Text s Within.Plain) (cond b (Keep.One (c % 256)) (Keep.Character c))) (sym e)

no_clob_letter : (s : Style) (letter : ℕ) → (IsTrue (is_clob s) → letter ≡ 120) → letter ≢ 120 → is_clob s ≡ false
no_clob_letter s letter h n = false_from_ne_true (is_clob s) (λ e. n (h e))

opens_unit : (s : Style) → is_clob s ≡ false → in_escape s 117 ≡ Action.Go (Mode.Text s (Within.Hexadecimal Digits.Unit 4 0)) Keep.Nothing
opens_unit s e = grind (arith, nat_tests)

opens_scalar : (s : Style) → is_clob s ≡ false → in_escape s 85 ≡ Action.Go (Mode.Text s (Within.Hexadecimal Digits.Scalar 8 0)) Keep.Nothing
opens_scalar s e = grind (arith, nat_tests)

hex_kind : (s : Style) (letter n : ℕ) → (IsTrue (is_clob s) → letter ≡ 120) → ((letter ≡ 120) × (n ≡ 2))
    ⊎ (((letter ≡ 117) × (n ≡ 4)) ⊎ ((letter ≡ 85) × (n ≡ 8))) → HexKind s letter n
hex_kind s letter n h (inl (l, e)) = record { kind = Digits.Octet; opened = rw (l, e) refl; some = omega arith; means = λ c e k. octet_means s c e }
hex_kind s letter n h (inr (inl (l, e))) =
    let text : is_clob s ≡ false = no_clob_letter s letter h (λ i. omega arith) in
    record { kind = Digits.Unit; opened = rw (l, e) (opens_unit s text); some = omega arith; means = λ c e k. after_unit s c e k ∙ in_text_style s c text }
hex_kind s letter n h (inr (inr (l, e))) =
    let text : is_clob s ≡ false = no_clob_letter s letter h (λ i. omega arith) in
    record { kind = Digits.Scalar; opened = rw (l, e) (opens_scalar s text); some = omega arith; means = λ c e k. char_is s c e ∙ in_text_style s c text }

-- behind a backslash
pub goes_slash : {p : Place} {s : Style} {w v : Within} {os kept kept' : List ℕ} → Admits w 92 → GoesInText p s Within.Escape kept os v kept'
    → GoesInText p s w kept (92 ∷ os) v kept'
goes_slash {p = p} {s = s} {w = w} {kept = kept} a f = moves_then (raw_step p s w 92 kept Within.Escape Keep.Nothing a refl) f

clob_small : (s : Style) (letter : ℕ) (os : List ℕ) (c : ℕ) → hex_length letter ≡ Some (length os) → (IsTrue (is_clob s) → letter ≡ 120) → IsHexAfter 0 os c
    → IsTrue (is_clob s) → c < 256
clob_small s letter os c k h g clob =
    let same : Some (length os) ≡ Some 2 = sym k ∙ ap hex_length (h clob) in
    let two : length os ≡ 2 = cc in hex_small os c two g

-- an escape by digits is read as its character, in a clob as its octet
pub read_hex : (p : Place) (s : Style) (w : Within) (kept : List ℕ) (letter : ℕ) (os : List ℕ) (c : ℕ) → Admits w 92 → IsElement s (Hex letter os c)
    → GoesInText p s w kept (92 ∷ letter ∷ os) Within.Plain (kept ++ meaning s (Hex letter os c))
read_hex p s w kept letter os c a i =
    let k : HexKind s letter (length os) = hex_kind s letter (length os) i.3 (letters letter (length os) i.0) in
    let cases = scalar_cases c i.2 in
    goes_slash a (moves_then (goes_one p s Within.Escape letter kept (Within.Hexadecimal k.kind (length os) 0) Keep.Nothing k.opened) (moves_to
    (hex_keeps s letter c os kept (clob_small s letter os c i.0 i.3 i.1))
    (read_digits p s os k.kind (length os) 0 0 c kept Within.Plain (keep_of s c) refl k.some i.1 (inl refl)
    (λ c' caps. ap (after_digits s k.kind) (exact c' c caps (below_max c cases)) ∙ k.means c i.2 cases))))

-- two escapes of a surrogate pair are read as its character
pub read_pair : (p : Place) (s : Style) (w : Within) (kept first second : List ℕ) (high low : ℕ) → Admits w 92 → IsElement s (Pair first second high low)
    → GoesInText p s w kept (92 ∷ 117 ∷ first ++ 92 ∷ 117 ∷ second) Within.Plain (kept ++ encode (0x10000 + high * 1024 + low))
read_pair p s w kept first second high low a (text, l, m, h, hs, k, ks) =
    let unit : Within = Within.Hexadecimal Digits.Unit 4 0 in
    let is_high : Within = Within.HighSurrogate (0xd800 + high) in
    let escape : Within = Within.HighSurrogateEscape (0xd800 + high) in
    let last : Within = Within.Hexadecimal (Digits.LowSurrogate (0xd800 + high)) 4 0 in
    let end : List ℕ = kept ++ encode (0x10000 + high * 1024 + low) in
    goes_slash a (moves_then (goes_one p s Within.Escape 117 kept unit Keep.Nothing (opens_unit s text)) (moves_then
    (read_digits p s first Digits.Unit 4 0 0 (0xd800 + high) kept is_high Keep.Nothing l (omega arith) h (inl refl)
    (λ c' caps. ap (after_digits s Digits.Unit) (exact c' (0xd800 + high) caps (omega arith)) ∙ after_high s high hs)) (moves_then
    (goes_one p s is_high 92 kept escape Keep.Nothing refl) (moves_then (goes_one p s escape 117 kept last Keep.Nothing refl)
    (read_digits p s second (Digits.LowSurrogate (0xd800 + high)) 4 0 0 (0xdc00 + low) kept Within.Plain (Keep.Character (0x10000 + high * 1024 + low)) m
    (omega arith) k (inl refl)
    (λ c' caps. ap (after_digits s (Digits.LowSurrogate (0xd800 + high))) (exact c' (0xdc00 + low) caps (omega arith)) ∙ after_low s high low hs ks))))))
