-- Characters that a quoted text keeps as they are.
use Rattle.std.proofs.Common.{◌≡◌, ℕ, zero, suc, ◌+◌, ◌<◌, ◌≤◌, ◌⊎◌, inl, inr, Bool, true, false, cond, List, [], ◌∷◌, ◌++◌, take, drop, refl, sym, ap, ◌∙◌, subst, arith, append-nil, append_assoc, IsTrue}
use Rattle.std.specs.Prelude.{◌==◌, ◌&&◌, ◌||◌, not, nat_le, IsUtf8}
use Rattle.std.specs.Str.{IsAscii}
use Rattle.std.proofs.Math.Seq.{take-nil, take-add}
use Rattle.std.proofs.lemmas.Bool.{true≢false, and_parts}
use Rattle.std.proofs.lemmas.Bool.Decides.{nat_tests}
use Rattle.std.proofs.lemmas.Str.{IsUtf8-from_ascii, IsUtf8-append}
use lib.Utf8.{encode, encodes, scalar, scalars, scalar_cases}
use Rattle.ion_tokens.specs.Names.{Action, AreKept, Each, GoesOver, Keep, Mode, Place, Style, Within, goes_on, in_text, is_clob, is_long, is_plain, is_raw, quote_of, stands}
use Rattle.ion_tokens.specs.laws.Each.{each_append, each_split}
use Rattle.ion_tokens.proofs.texts.Encodings.{encoding, one, order}
use Rattle.ion_tokens.proofs.texts.TextElements.{GoesInText, goes_one, read_raw}
use Rattle.ion_tokens.proofs.texts.TextSteps.{quote_small}
use Rattle.ion_tokens.proofs.complete.Moves.{moves_none, moves_then, moves_to}

-- octets of a class of ASCII
pub ascii_each : (class : ℕ → Bool) (w : List ℕ) → ((o : ℕ) → class o ≡ true → o < 128) → Each class w → IsAscii w
ascii_each class [] f h i = omega arith
ascii_each class (o ∷ os) f h zero = f o h.0
ascii_each class (o ∷ os) f h (suc i) = ascii_each class os f h.1 i

pub plain_ascii : (s : Style) (o : ℕ) → is_plain s o ≡ true → o < 128
plain_ascii s o h = grind (arith, nat_tests)

-- fewer octets of a class
pub each_shorter : (class : ℕ → Bool) (w : List ℕ) (m n : ℕ) → m ≤ n → Each class (take n w) → Each class (take m w)
each_shorter class [] m n le h = subst (Each class) (sym (take-nil m)) tt
each_shorter class (o ∷ os) zero n le h = tt
each_shorter class (o ∷ os) (suc m) zero le h = absurd (omega arith)
each_shorter class (o ∷ os) (suc m) (suc n) le h = (h.0, each_shorter class os m n (omega arith) h.1)

-- ASCII characters that a text keeps are characters that it keeps

between_raw : (a b c d : Bool) → ((a || b) && d) ≡ true → ((a || b || c) && d) ≡ true
between_raw true b c true h = refl
between_raw false true c true h = refl
between_raw _ _ c _ h = cc

plain_raw : (s : Style) (w : List ℕ) → Each (is_plain s) w → Each (is_raw (is_long s) (quote_of s)) w
plain_raw s [] h = tt
plain_raw s (o ∷ os) h = (between_raw (stands o) (is_long s && (o == 10)) (nat_le 128 o) (not ((o == 92) || (o == quote_of s))) h.0, plain_raw s os h.1)

-- ASCII characters that a text keeps as they are, and no quotes, are octets that it keeps
pub plain_kept : (s : Style) (w : List ℕ) → Each (is_plain s) w → AreKept s w
plain_kept s w h = (plain_raw s w h, IsUtf8-from_ascii w (ascii_each (is_plain s) w (plain_ascii s) h), λ clob. h)

-- octets with which the mode goes on are some over which it does
pub each_over : (m : Mode) (w : List ℕ) → Each (goes_on m) w → GoesOver m w
each_over (Mode.Text s Within.Plain) w h = plain_kept s w h
each_over _ w h = h

-- behind ASCII characters others are kept, where the text is no clob
pub more_kept : (s : Style) (xs ys : List ℕ) → is_clob s ≡ false → Each (is_plain s) xs → Each (is_raw (is_long s) (quote_of s)) ys → IsUtf8 ys
    → AreKept s (xs ++ ys)
more_kept s xs ys text h raw utf8 =
    let front = plain_kept s xs h in
    (each_append (is_raw (is_long s) (quote_of s)) xs ys front.0 raw, IsUtf8-append xs ys front.1 utf8, λ clob. absurd (true≢false (sym clob ∙ text)))

-- so are those of what is left of a piece behind them
pub behind_kept : (s : Style) (long : Bool) (quote : ℕ) (octets rest : List ℕ) (ascii k : ℕ) → rest ≡ drop ascii octets → is_clob s ≡ false → long ≡ is_long s
    → quote ≡ quote_of s
    → Each (is_plain s) (take ascii octets) → Each (is_raw long quote) (take k rest) → IsUtf8 (take k rest) → AreKept s (take (ascii + k) octets)
behind_kept s long quote octets rest ascii k e text l q h raw utf8 =
    subst (AreKept s) (ap (λ w. take ascii octets ++ take k w) e ∙ sym (take-add ascii k octets))
    (more_kept s (take ascii octets) (take k rest) text h
    (subst (λ b. Each (is_raw b (quote_of s)) (take k rest)) l (subst (λ (n : ℕ). Each (is_raw long n) (take k rest)) q raw)) utf8)

-- Octets that are kept lead to the text's state between two characters.

-- what the table says of a plain character
no_return : (long : Bool) (o : ℕ) → (stands o || (long && (o == 10))) ≡ true → (long && (o == 13)) ≡ false
no_return true o h = grind (arith, nat_tests)
no_return false o h = refl

text_more : (a b c d : Bool) (x y z w v : Action) → (d && not (a || b)) ≡ true → (d ≡ true → c ≡ false) → cond a x (cond b y (cond c z (cond d w v))) ≡ w
text_more false false c true x y z w v h f = ap (λ e. cond e z w) (f refl)
text_more false true c true x y z w v h f = cc
text_more true b c true x y z w v h f = cc
text_more a b c false x y z w v h f = cc

-- an ASCII character that a text keeps as it is leaves it between two characters
pub plain_stays : (s : Style) (o : ℕ) → is_plain s o ≡ true → in_text s Within.Plain o ≡ Action.Go (Mode.Text s Within.Plain) (Keep.One o)
plain_stays s o h = text_more (o == 92) (o == quote_of s) (is_long s && (o == 13)) (stands o || (is_long s && (o == 10))) _ _ _ _ _ h (no_return (is_long s) o)

raw_low : (a b c d : Bool) → c ≡ false → ((a || b || c) && d) ≡ true → ((a || b) && d) ≡ true
raw_low false false true d e h = cc
raw_low _ _ _ d e h = h

-- an ASCII one
low_plain : (s : Style) (c : ℕ) → c < 128 → is_raw (is_long s) (quote_of s) c ≡ true → is_plain s c ≡ true
low_plain s c low h = raw_low (stands c) (is_long s && (c == 10)) (nat_le 128 c) (not ((c == 92) || (c == quote_of s))) (grind (arith, nat_tests)) h

text_no_clob : (s : Style) (c : ℕ) → is_clob s ≡ false → IsTrue (is_clob s) → c < 128
text_no_clob s c text clob = absurd (true≢false (sym clob ∙ text))

one_kept : (p : Place) (s : Style) (c : ℕ) (kept : List ℕ) → is_clob s ≡ false → scalar c ≡ true → Each (is_raw (is_long s) (quote_of s)) (encode c)
    → GoesInText p s Within.Plain kept (encode c) Within.Plain (kept ++ encode c)
one_kept p s c kept text u h = by (order c 128) where
  by : (c < 128) ⊎ (128 ≤ c) → GoesInText p s Within.Plain kept (encode c) Within.Plain (kept ++ encode c)
  by (inl low) =
      let is = one c low in
      subst (λ l. GoesInText p s Within.Plain kept l Within.Plain (kept ++ l)) (sym is)
      (goes_one p s Within.Plain c kept Within.Plain (Keep.One c)
      (plain_stays s c (low_plain s c low (subst (Each (is_raw (is_long s) (quote_of s))) is h).0)))
  by (inr high) =
      let quote = quote_small s in
      read_raw p s c Within.Plain kept (λ o is. tt) u (λ e. omega arith) (λ e. omega arith) (inr (inr (inr (omega arith)))) (text_no_clob s c text)
      (encoding c (scalar_cases c u))

chars_kept : (p : Place) (s : Style) (cs kept : List ℕ) → is_clob s ≡ false → scalars cs ≡ true → Each (is_raw (is_long s) (quote_of s)) (encodes cs)
    → GoesInText p s Within.Plain kept (encodes cs) Within.Plain (kept ++ encodes cs)
chars_kept p s [] kept text u h = moves_to (sym (append-nil kept)) (moves_none)
chars_kept p s (c ∷ cs) kept text u h =
    let parts = each_split (is_raw (is_long s) (quote_of s)) (encode c) (encodes cs) h in
    let each = and_parts (scalar c) (scalars cs) u in
    moves_to (append_assoc kept (encode c) (encodes cs)) (moves_then
    (one_kept p s c kept text each.0 parts.0) (chars_kept p s cs (kept ++ encode c) text each.1 parts.1))

each_kept : (p : Place) (s : Style) (w kept : List ℕ) → Each (is_plain s) w → GoesInText p s Within.Plain kept w Within.Plain (kept ++ w)
each_kept p s [] kept h = moves_to (sym (append-nil kept)) (moves_none)
each_kept p s (o ∷ os) kept h =
    moves_to (append_assoc kept (o ∷ []) os) (moves_then
    (goes_one p s Within.Plain o kept Within.Plain (Keep.One o) (plain_stays s o h.0)) (each_kept p s os (kept ++ o ∷ []) h.1))

-- octets that a text keeps as they are lead from between two characters to between two, and are kept
pub kept_goes : (p : Place) (s : Style) (w kept : List ℕ) → AreKept s w → GoesInText p s Within.Plain kept w Within.Plain (kept ++ w)
kept_goes p s w kept h = by (is_clob s) refl where
  by : (clob : Bool) → is_clob s ≡ clob → GoesInText p s Within.Plain kept w Within.Plain (kept ++ w)
  by true e = each_kept p s w kept (h.2 e)
  by false e =
      let is = h.1.1.1 in
      subst (λ l. GoesInText p s Within.Plain kept l Within.Plain (kept ++ l)) is
      (chars_kept p s h.1.0 kept e h.1.1.0 (subst (Each (is_raw (is_long s) (quote_of s))) (sym is) h.0))
