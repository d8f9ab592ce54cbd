-- What is written between quotes means the text or the octets that it was written of.
use Rattle.std.proofs.Common.{◌≡◌, ◌≢◌, ℕ, suc, ◌/◌, ◌%◌, ◌<◌, ◌≤◌, ◌⊎◌, inl, inr, Bool, true, false, cond, List, [], ◌∷◌, ◌++◌, length, map, get_or, Option, Some, None, refl, sym, ap, ap₂, ◌∙◌, subst, arith, append-nil, IsTrue, IsUtf8}
use Rattle.std.specs.Prelude.{encode_utf8}
use Rattle.std.specs.List.{flat_map, AllByRecursion}
use Rattle.std.proofs.lemmas.Bool.{and_parts, cases_lt, false≢true}
use Rattle.std.proofs.lemmas.Bool.Decides.{nat_tests}
use Rattle.std.proofs.lemmas.Grind.{flat_map-append}
use Rattle.std.proofs.lemmas.Str.{IsUtf8-append, IsUtf8-nil, IsUtf8-encode, encode_ascii, inside_one}
use lib.Utf8.{scalar, scalars, encode, encodes, low_scalar}
use Rattle.ion_spelling.specs.Names.{AreOctets, Quotes, Style, escape, escape_by, escaped_text, hexadecimal_digit, hexadecimal_escape, hexadecimal_of, is_unquoted, known_text, letter_for, of_clob, of_symbol, quoted, stands_raw}
use Rattle.ion_tokens.specs.Octets.{escaped}
use Rattle.ion_tokens.specs.Quoted.{ClosesFirst, CrTakesLf, Element, Hex, IsElement, IsQuoted, IsRaw, Raw, Simple, ends_in_cr, meaning, spelling}
use Rattle.ion_tokens.specs.Styles.{is_clob, is_long, quote_of}

-- 1. Octets.

letter_means : (q c letter : ℕ) → (q ≡ 34) ⊎ (q ≡ 39) → letter_for q c ≡ Some letter → escaped letter ≡ Some c
letter_means q c letter (inl h) e = grind (arith, nat_tests)
letter_means q c letter (inr h) e = grind (arith, nat_tests)

letter_small : (q c letter : ℕ) → (q ≡ 34) ⊎ (q ≡ 39) → letter_for q c ≡ Some letter → c < 128
letter_small q c letter (inl h) e = grind (arith, nat_tests)
letter_small q c letter (inr h) e = grind (arith, nat_tests)

none_backslash : (q c : ℕ) → letter_for q c ≡ None → c ≢ 92
none_backslash q c e h = grind (arith, nat_tests)

none_quote : (q c : ℕ) → letter_for q c ≡ None → c ≢ q
none_quote q c e h = grind (arith, nat_tests)

raw_low : (ascii : Bool) (c : ℕ) → stands_raw ascii c ≡ true → 32 ≤ c
raw_low ascii c e = grind (arith, nat_tests)

raw_high : (c : ℕ) → stands_raw true c ≡ true → c < 128
raw_high c e = grind (arith, nat_tests)

hidden_low : (c : ℕ) → stands_raw false c ≡ false → c < 128
hidden_low c e = grind (arith, nat_tests)

digit_means : (d : ℕ) → d < 16 → hexadecimal_digit (hexadecimal_of d) ≡ Some d
digit_means d h = grind (arith, nat_tests)

high_letter : (q c : ℕ) → (q ≡ 34) ⊎ (q ≡ 39) → 128 ≤ c → letter_for q c ≡ None
high_letter q c (inl h) k = grind (arith, nat_tests)
high_letter q c (inr h) k = grind (arith, nat_tests)

high_raw : (c : ℕ) → 128 ≤ c → stands_raw false c ≡ true
high_raw c h = grind (arith, nat_tests)

-- 2. Elements: what a character is written as.

abbrev pub element_by : Bool → ℕ → Option ℕ → Element
element_by ascii c (Some letter) = Simple letter c
element_by ascii c None = cond (stands_raw ascii c) (Raw c) (Hex 120 (hexadecimal_of (c / 16) ∷ hexadecimal_of (c % 16) ∷ []) c)

abbrev pub element_of : ℕ → Bool → ℕ → Element
element_of q ascii c = element_by ascii c (letter_for q c)

-- the quotes of a text and of a short clob
pub record Between (s : Style) (q : ℕ) (ascii : Bool) : Type 0 where
  pub quote : quote_of s ≡ q
  pub either : (q ≡ 34) ⊎ (q ≡ 39)
  pub short : is_long s ≡ false
  pub clob : is_clob s ≡ ascii

module _ (s : Style) (q : ℕ) (ascii : Bool) (b : Between s q ascii) where
  raw_is : (c : ℕ) → scalar c ≡ true → letter_for q c ≡ None → stands_raw ascii c ≡ true → IsRaw s c
  raw_is c u none raw = (
    u,
    none_backslash q c none,
    inr (λ e. none_quote q c none (e ∙ b.quote)),
    inr (inr (inr (raw_low ascii c raw))),
    λ k. raw_high c (subst (λ a. stands_raw a c ≡ true) (sym b.clob ∙ k) raw),
  )

  hex_is : (c : ℕ) → scalar c ≡ true → c < 256 → IsElement s (Hex 120 (hexadecimal_of (c / 16) ∷ hexadecimal_of (c % 16) ∷ []) c)
  hex_is c u small =
      (refl, (c / 16, digit_means (c / 16) (omega arith), (c % 16, digit_means (c % 16) (omega arith), omega arith)), u, λ k. refl)

  element_by_is : (c : ℕ) → scalar c ≡ true → (stands_raw ascii c ≡ false → c < 256) → (l : Option ℕ) → letter_for q c ≡ l → IsElement s (element_by ascii c l)
  element_by_is c u small (Some letter) e = letter_means q c letter b.either e
  element_by_is c u small None e = by (stands_raw ascii c) refl where
    by : (x : Bool) → stands_raw ascii c ≡ x → IsElement s (cond x (Raw c) (Hex 120 (hexadecimal_of (c / 16) ∷ hexadecimal_of (c % 16) ∷ []) c))
    by true f = raw_is c u e f
    by false f = hex_is c u (small f)

  element_is : (c : ℕ) → scalar c ≡ true → (stands_raw ascii c ≡ false → c < 256) → IsElement s (element_of q ascii c)
  element_is c u small = element_by_is c u small (letter_for q c) refl

  no_cr_by : (c : ℕ) (l : Option ℕ) → ends_in_cr (element_by ascii c l) ≡ false
  no_cr_by c (Some letter) = refl
  no_cr_by c None = by (stands_raw ascii c) where
    by : (x : Bool) → ends_in_cr (cond x (Raw c) (Hex 120 (hexadecimal_of (c / 16) ∷ hexadecimal_of (c % 16) ∷ []) c)) ≡ false
    by true = refl
    by false = refl

  abbrev elements : List ℕ → List Element
  elements cs = map (element_of q ascii) cs

  no_crs : (cs : List ℕ) → CrTakesLf (elements cs)
  no_crs (c ∷ d ∷ cs) = (λ e. absurd (false≢true (sym (no_cr_by c (letter_for q c)) ∙ e)), no_crs (d ∷ cs))
  no_crs _ = tt

  no_close : (es : List Element) → IsTrue (is_long s) → ClosesFirst es
  no_close es e = absurd (false≢true (sym b.short ∙ e))

  -- 3. An ASCII character, and any octet of a clob.

  spelled_by : (c : ℕ) → (stands_raw ascii c ≡ true → encode_utf8 c ≡ c ∷ []) → (l : Option ℕ) → spelling (element_by ascii c l) ≡ escape_by ascii c l
  spelled_by c small (Some letter) = refl
  spelled_by c small None = by (stands_raw ascii c) refl where
    by : (x : Bool) → stands_raw ascii c ≡ x → spelling (cond x (Raw c) (Hex 120 (hexadecimal_of (c / 16) ∷ hexadecimal_of (c % 16) ∷ []) c))
        ≡ cond x (c ∷ []) (hexadecimal_escape c)
    by true f = small f
    by false f = refl

-- 4. Clobs.

meant_octet : (c : ℕ) (l : Option ℕ) → meaning Style.ShortClob (element_by true c l) ≡ c ∷ []
meant_octet c (Some letter) = refl
meant_octet c None = by (stands_raw true c) refl where
  by : (x : Bool) → stands_raw true c ≡ x → meaning Style.ShortClob (cond x (Raw c) (Hex 120 (hexadecimal_of (c / 16) ∷ hexadecimal_of (c % 16) ∷ []) c)) ≡ c
      ∷ []
  by true f = encode_ascii c (raw_high c f)
  by false f = refl

clob_between : Between Style.ShortClob 34 true
clob_between = record { quote = refl; either = inl refl; short = refl; clob = refl }

clob_each : (octets : List ℕ) → AreOctets octets → AllByRecursion (IsElement Style.ShortClob) (map (element_of 34 true) octets)
clob_each [] h = tt
clob_each (c ∷ cs) h = (element_is Style.ShortClob 34 true clob_between c (low_scalar c (omega (arith, h.0))) (λ f. h.0), clob_each cs h.1)

clob_spelled : (octets : List ℕ) → flat_map (escape of_clob) octets ≡ flat_map spelling (map (element_of 34 true) octets)
clob_spelled [] = refl
clob_spelled (c ∷ cs) = ap₂ (λ (a b : List ℕ). a ++ b) (sym
    (spelled_by Style.ShortClob 34 true clob_between c (λ f. encode_ascii c (raw_high c f)) (letter_for 34 c))) (clob_spelled cs)

clob_means : (octets : List ℕ) → octets ≡ flat_map (meaning Style.ShortClob) (map (element_of 34 true) octets)
clob_means [] = refl
clob_means (c ∷ cs) = ap₂ (λ (a b : List ℕ). a ++ b) (sym (meant_octet c (letter_for 34 c))) (clob_means cs)

-- the octets of a clob, written between quotes
pub clob_quoted : (octets : List ℕ) → AreOctets octets → IsQuoted Style.ShortClob (escaped_text of_clob octets) octets
clob_quoted octets h = record {
  elements = map (element_of 34 true) octets;
  each = clob_each octets h;
  crs = no_crs Style.ShortClob 34 true clob_between octets;
  close = no_close Style.ShortClob 34 true clob_between (map (element_of 34 true) octets);
  spelled = clob_spelled octets;
  means = clob_means octets;
}

-- 5. Texts.

-- quotes between which a character from 80 on stands as it is
abbrev all_raw : ℕ → Quotes
all_raw q = record { delimiter = q; ascii = false }

escape_high_octet : (q : ℕ) → (q ≡ 34) ⊎ (q ≡ 39) → (x : ℕ) → 128 ≤ x → escape (all_raw q) x ≡ x ∷ []
escape_high_octet q e x h = ap (escape_by false x) (high_letter q x e h) ∙ ap (λ b. cond b (x ∷ []) (hexadecimal_escape x)) (high_raw x h)

escape_high : (q : ℕ) → (q ≡ 34) ⊎ (q ≡ 39) → (xs : List ℕ) → ((k : ℕ) → k < length xs → 128 ≤ get_or xs k 0) → escaped_text (all_raw q) xs ≡ xs
escape_high q e [] h = refl
escape_high q e (x ∷ xs) h =
    let high : 128 ≤ x = h 0 (omega arith) in
    ap₂ (λ (a b : List ℕ). a ++ b) (escape_high_octet q e x high) (escape_high q e xs (λ k below. h (suc k) (omega arith)))

high_octets : (c : ℕ) → 128 ≤ c → (k : ℕ) → k < length (encode c) → 128 ≤ get_or (encode c) k 0
high_octets c big k below =
    elim (cases_lt (get_or (encode c) k 0) 128) [
      | inl low ↦ absurd (omega (arith, inside_one c [] (encode c) k (sym (append-nil _)) below low))
      | inr h ↦ h
    ]

module _ (s : Style) (q : ℕ) (b : Between s q false) where
  high_element : (c : ℕ) → 128 ≤ c → element_of q false c ≡ Raw c
  high_element c h = ap (element_by false c) (high_letter q c b.either h)
      ∙ ap (λ x. cond x (Raw c) (Hex 120 (hexadecimal_of (c / 16) ∷ hexadecimal_of (c % 16) ∷ []) c)) (high_raw c h)

  char_spelled : (c : ℕ) → scalar c ≡ true → escaped_text (all_raw q) (encode c) ≡ spelling (element_of q false c)
  char_spelled c u =
      elim (cases_lt c 128) [
        | inl small ↦ rw (encode_ascii c small, append-nil) (sym (spelled_by s q false b c (λ f. encode_ascii c small) (letter_for q c)))
        | inr big ↦ escape_high q b.either (encode c) (high_octets c big) ∙ sym (ap spelling (high_element c big))
      ]

  meant_by : (c : ℕ) (l : Option ℕ) → letter_for q c ≡ l → encode c ≡ meaning s (element_by false c l)
  meant_by c (Some letter) e = encode_ascii c (letter_small q c letter b.either e)
  meant_by c None e = by (stands_raw false c) refl where
    by : (x : Bool) → stands_raw false c ≡ x → encode c ≡ meaning s (cond x (Raw c) (Hex 120 (hexadecimal_of (c / 16) ∷ hexadecimal_of (c % 16) ∷ []) c))
    by true f = refl
    by false f = sym (ap (λ x. cond x (c ∷ []) (encode c)) b.clob)

  text_each : (cs : List ℕ) → scalars cs ≡ true → AllByRecursion (IsElement s) (map (element_of q false) cs)
  text_each [] h = tt
  text_each (c ∷ cs) h = let p = and_parts _ _ h in (element_is s q false b c p.0 (λ f. let small = hidden_low c f in omega arith), text_each cs p.1)

  text_spelled : (cs : List ℕ) → scalars cs ≡ true → escaped_text (all_raw q) (encodes cs) ≡ flat_map spelling (map (element_of q false) cs)
  text_spelled [] h = refl
  text_spelled (c ∷ cs) h =
      let p = and_parts _ _ h in
      flat_map-append (escape (all_raw q)) (encode c) (encodes cs) ∙ ap₂ (λ (x y : List ℕ). x ++ y) (char_spelled c p.0) (text_spelled cs p.1)

  text_means : (cs : List ℕ) → encodes cs ≡ flat_map (meaning s) (map (element_of q false) cs)
  text_means [] = refl
  text_means (c ∷ cs) = ap₂ (λ (x y : List ℕ). x ++ y) (meant_by c (letter_for q c) refl) (text_means cs)

  -- a text written between quotes
  pub text_quoted : (text : List ℕ) → IsUtf8 text → IsQuoted s (escaped_text (all_raw q) text) text
  text_quoted text (cs, h) = let u = h.0 in let e = h.1 in record {
    elements = map (element_of q false) cs;
    each = text_each cs u;
    crs = no_crs s q false b cs;
    close = no_close s q false b (map (element_of q false) cs);
    spelled = ap (escaped_text (all_raw q)) (sym e) ∙ text_spelled cs u;
    means = sym e ∙ text_means cs;
  }

-- the quotes of a string are double, and characters beyond ASCII may stand between them
pub string_between : Between Style.ShortString 34 false
string_between = record { quote = refl; either = inl refl; short = refl; clob = refl }

-- the quotes of a symbol are single, and characters beyond ASCII may stand between them
pub symbol_between : Between Style.QuotedSymbol 39 false
symbol_between = record { quote = refl; either = inr refl; short = refl; clob = refl }

-- 6. What is written of a text is UTF-8.

ascii_then : (x : ℕ) (xs : List ℕ) → x < 128 → IsUtf8 xs → IsUtf8 (x ∷ xs)
ascii_then x xs small u = IsUtf8-append (x ∷ []) xs (subst IsUtf8 (encode_ascii x small) (IsUtf8-encode x (low_scalar x (omega arith)))) u

letter_ascii : (q c letter : ℕ) → (q ≡ 34) ⊎ (q ≡ 39) → letter_for q c ≡ Some letter → letter < 128
letter_ascii q c letter (inl h) e = grind (arith, nat_tests)
letter_ascii q c letter (inr h) e = grind (arith, nat_tests)

digit_ascii : (d : ℕ) → d < 16 → hexadecimal_of d < 128
digit_ascii d h = grind (arith, nat_tests)

module _ (s : Style) (q : ℕ) (b : Between s q false) where
  element_utf8 : (c : ℕ) → scalar c ≡ true → (l : Option ℕ) → letter_for q c ≡ l → IsUtf8 (spelling (element_by false c l))
  element_utf8 c u (Some letter) e = ascii_then 92 (letter ∷ []) (omega arith) (ascii_then letter [] (letter_ascii q c letter b.either e) IsUtf8-nil)
  element_utf8 c u None e = by (stands_raw false c) refl where
    by : (x : Bool) → stands_raw false c ≡ x → IsUtf8 (spelling (cond x (Raw c) (Hex 120 (hexadecimal_of (c / 16) ∷ hexadecimal_of (c % 16) ∷ []) c)))
    by true f = IsUtf8-encode c u
    by false f =
        let small = hidden_low c f in
        ascii_then 92 _ (omega arith) (ascii_then 120 _ (omega arith)
        (ascii_then _ _ (digit_ascii (c / 16) (omega arith)) (ascii_then _ [] (digit_ascii (c % 16) (omega arith)) IsUtf8-nil)))

  chars_utf8 : (cs : List ℕ) → scalars cs ≡ true → IsUtf8 (escaped_text (all_raw q) (encodes cs))
  chars_utf8 [] h = IsUtf8-nil
  chars_utf8 (c ∷ cs) h =
      let p = and_parts _ _ h in
      subst IsUtf8 (sym (flat_map-append (escape (all_raw q)) (encode c) (encodes cs)))
      (IsUtf8-append (escaped_text (all_raw q) (encode c)) (escaped_text (all_raw q) (encodes cs))
      (subst IsUtf8 (sym (char_spelled s q b c p.0)) (element_utf8 c p.0 (letter_for q c) refl)) (chars_utf8 cs p.1))

-- a symbol between quotes
pub quoted_utf8 : (text : List ℕ) → IsUtf8 text → IsUtf8 (quoted of_symbol text)
quoted_utf8 text (cs, h) =
    let whole = subst (λ (w : List ℕ). IsUtf8 (escaped_text of_symbol w)) h.1 (chars_utf8 Style.QuotedSymbol 39 symbol_between cs h.0) in
    ascii_then 39 _ (omega arith) (IsUtf8-append (escaped_text of_symbol text) (39 ∷ []) whole (ascii_then 39 [] (omega arith) IsUtf8-nil))

-- a symbol of a known text
pub known_utf8 : (text : List ℕ) → IsUtf8 text → IsUtf8 (known_text text)
known_utf8 text h = by (is_unquoted text) where
  by : (b : Bool) → IsUtf8 (cond b text (quoted of_symbol text))
  by true = h
  by false = quoted_utf8 text h
