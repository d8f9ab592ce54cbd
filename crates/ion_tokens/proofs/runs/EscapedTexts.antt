-- How octets in memory show that a quoted text with escapes, or a typed null, stands whole at their front.
use Rattle.std.proofs.Common.{◌≡◌, ◌≢◌, ℕ, ◌+◌, ◌-◌, ◌*◌, ◌<◌, ◌≤◌, suc, Bool, true, false, cond, List, [], ◌∷◌, ◌++◌, length, take, drop, refl, sym, ap, ◌∙◌, subst, arith, length-append, IsTrue}
use Rattle.std.specs.Prelude.{slice_index, Some, codes}
use Rattle.std.specs.List.{take_while}
use Rattle.std.proofs.lemmas.Bool.Decides.{nat_tests}
use Rattle.std.proofs.Math.Seq.{take-add}
use Rattle.std.specs.Char.{IsScalar}
use Rattle.std.proofs.lemmas.List.{length-take-le}
use Rattle.std.proofs.lemmas.Bool.{ne_eqb}
use lib.Utf8.{encode}
use Rattle.ion_tokens.specs.Names.{AreKept, FoundToken, Hex, IsElement, IsFound, IsHexAfter, Keep, LeadsOn, Mode, Place, Rest, StandsWhole, Style, TokenKind, Within, hex_length, is_clob, is_high, is_low, is_word_octet}
use Rattle.ion_tokens.specs.Octets.{escaped}
use Rattle.ion_tokens.specs.machine.Table.{next}
use Rattle.ion_tokens.proofs.complete.Moves.{Opens, moves_then}
use Rattle.ion_tokens.proofs.complete.TakesTexts.{opens_quotes, quotes_end}
use Rattle.ion_tokens.proofs.complete.TakesWords.{kind_ends, opens_kind}
use Rattle.ion_tokens.proofs.runs.WholeTokens.{front_each, front_stops, opened_left}
use Rattle.ion_tokens.proofs.texts.Characters.{kept_goes}
use Rattle.ion_tokens.proofs.texts.TextElements.{goes_one, read_hex, read_pair, led}
use Rattle.ion_tokens.proofs.texts.TextSteps.{in_simple}

-- octets that a text keeps as they are lead on, and are kept
pub characters_lead : (s : Style) (w kept kept' : List ℕ) → AreKept s w → kept' ≡ kept ++ w → LeadsOn s w kept kept'
characters_lead s w kept kept' h e = subst (LeadsOn s w kept) (sym e) (λ p. (kept_goes p s w kept h).on)

-- a backslash and a letter lead on, and what the letter means is kept
pub escape_leads : (s : Style) (octets kept kept' : List ℕ) (o : ℕ) → 1 < length octets → slice_index octets 0 ≡ 92 → escaped (slice_index octets 1) ≡ Some o
    → kept' ≡ kept ++ o ∷ [] → LeadsOn s (take 2 octets) kept kept'
escape_leads s [] kept kept' o more slash means e = absurd (omega arith)
escape_leads s (x ∷ []) kept kept' o more slash means e = absurd (omega arith)
escape_leads s (x ∷ letter ∷ octets) kept kept' o more slash means e =
    subst (LeadsOn s (x ∷ letter ∷ []) kept) (sym e) (subst (λ (y : ℕ). LeadsOn s (y ∷ letter ∷ []) kept (kept ++ o ∷ [])) (sym slash)
    (λ p. (moves_then (goes_one p s Within.Plain 92 kept Within.Escape Keep.Nothing refl)
    (goes_one p s Within.Escape letter kept Within.Plain (Keep.One o) (in_simple s letter o means))).on))

-- a backslash, a letter and digits lead on, and what their number means is kept
pub digits_lead : (s : Style) (octets digits kept kept' : List ℕ) (n c : ℕ) → slice_index octets 0 ≡ 92 → n + 2 ≤ length octets
    → digits ≡ take n (drop 2 octets) → hex_length (slice_index octets 1) ≡ Some n → (IsTrue (is_clob s) → slice_index octets 1 ≡ 120)
    → IsHexAfter 0 digits c → IsScalar c → kept' ≡ kept ++ cond (is_clob s) (c ∷ []) (encode c) → LeadsOn s (take (n + 2) octets) kept kept'
digits_lead s [] digits kept kept' n c slash fits are size clob number scalar e = absurd (omega arith)
digits_lead s (x ∷ []) digits kept kept' n c slash fits are size clob number scalar e = absurd (omega arith)
digits_lead s (x ∷ letter ∷ octets) digits kept kept' n c slash fits are size clob number scalar e =
    let os : List ℕ = take n octets in
    let end : List ℕ = kept ++ cond (is_clob s) (c ∷ []) (encode c) in
    let two : suc (suc n) ≡ n + 2 = omega arith in
    let all : length os ≡ n = length-take-le n octets (omega arith) in
    let element : IsElement s (Hex letter os c) =
    (size ∙ ap (λ (i : ℕ). Some i) (sym all), subst (λ ds. IsHexAfter 0 ds c) are number, scalar, clob) in
    subst (λ l. LeadsOn s (take (n + 2) (x ∷ letter ∷ octets)) kept l) (sym e)
    (subst (λ (i : ℕ). LeadsOn s (take i (x ∷ letter ∷ octets)) kept end) two (subst (λ (y : ℕ). LeadsOn s (y ∷ letter ∷ os) kept end) (sym slash)
    (λ p. (read_hex p s Within.Plain kept letter os c tt element).on)))

pair_leads_on : (s : Style) (first second kept : List ℕ) (h l : ℕ) → is_clob s ≡ false → length first ≡ 4 → length second ≡ 4
    → IsHexAfter 0 first h → IsHexAfter 0 second l → is_high h ≡ true → is_low l ≡ true
    → LeadsOn s ((92 ∷ 117 ∷ first) ++ (92 ∷ 117 ∷ second)) kept (kept ++ encode (0x10000 + (h - 0xd800) * 1024 + (l - 0xdc00)))
pair_leads_on s first second kept h l text four four' high low is_h is_l =
    let above : h ≡ 0xd800 + (h - 0xd800) = grind (arith, nat_tests) in
    let above' : l ≡ 0xdc00 + (l - 0xdc00) = grind (arith, nat_tests) in
    λ p. (read_pair p s Within.Plain kept first second (h - 0xd800) (l - 0xdc00) tt (
      text,
      four,
      four',
      subst (λ (n : ℕ). IsHexAfter 0 first n) above high,
      grind (arith, nat_tests),
      subst (λ (n : ℕ). IsHexAfter 0 second n) above' low,
      grind (arith, nat_tests),
    )).on

-- two escapes of a surrogate pair lead on, and their character is kept
pub pair_leads : (s : Style) (octets first second kept kept' : List ℕ) (h l : ℕ) → is_clob s ≡ false → take 6 octets ≡ 92 ∷ 117 ∷ first
    → take 6 (drop 6 octets) ≡ 92 ∷ 117 ∷ second → length first ≡ 4 → length second ≡ 4 → IsHexAfter 0 first h → IsHexAfter 0 second l
    → is_high h ≡ true → is_low l ≡ true
    → kept' ≡ kept ++ cond (is_clob s) ((0x10000 + (h - 0xd800) * 1024 + (l - 0xdc00)) ∷ []) (encode (0x10000 + (h - 0xd800) * 1024 + (l - 0xdc00)))
    → LeadsOn s (take 12 octets) kept kept'
pair_leads s octets first second kept kept' h l text is is' four four' high low is_h is_l e =
    let c : ℕ = 0x10000 + (h - 0xd800) * 1024 + (l - 0xdc00) in
    let same : kept' ≡ kept ++ encode c = e ∙ ap (λ b. kept ++ cond b (c ∷ []) (encode c)) text in
    let whole : (92 ∷ 117 ∷ first) ++ (92 ∷ 117 ∷ second) ≡ take 12 octets =
    ap (λ w. w ++ (92 ∷ 117 ∷ second)) (sym is) ∙ ap (λ w. take 6 octets ++ w) (sym is') ∙ sym (take-add 6 6 octets) in
    subst (λ w. LeadsOn s w kept kept') whole
    (subst (λ k. LeadsOn s ((92 ∷ 117 ∷ first) ++ (92 ∷ 117 ∷ second)) kept k) (sym same)
    (pair_leads_on s first second kept h l text four four' high low is_h is_l))

-- octets that lead on behind others that do lead on with them
pub leads_then : (s : Style) (octets rest kept kept' kept'' : List ℕ) (at n : ℕ) → rest ≡ drop at octets → LeadsOn s (take at octets) kept kept'
    → LeadsOn s (take n rest) kept' kept'' → LeadsOn s (take (at + n) octets) kept kept''
leads_then s octets rest kept kept' kept'' at n is f g =
    subst (λ w. LeadsOn s w kept kept'') (ap (λ w. take at octets ++ take n w) is ∙ sym (take-add at n octets))
    (λ p. (moves_then (led s (take at octets) kept kept' f p) (led s (take n rest) kept' kept'' g p)).on)

-- a token that was found is known by what it has
pub found_as : (p : Place) (r : Rest) (octets kept kept' : List ℕ) (found : FoundToken) (kind : TokenKind) (n : ℕ) (left : Bool)
    → found ≡ record { kind = kind; count = n; left = left } → kept' ≡ kept → IsFound p r octets kind kept n left
    → IsFound p r octets found.kind kept' found.count found.left
found_as p r octets kept kept' found kind n left is e f =
    subst (λ (t : FoundToken). IsFound p r octets t.kind kept' t.count t.left) (sym is)
    (subst (λ (l : List ℕ). IsFound p r octets kind l n left) (sym e) f)

-- so is one that stands whole in each place
pub stands_as : (octets kept kept' : List ℕ) (found : FoundToken) (kind : TokenKind) (n : ℕ) (left : Bool)
    → found ≡ record { kind = kind; count = n; left = left } → kept' ≡ kept
    → ((p : Place) (r : Rest) → IsFound p r octets kind kept n left) → StandsWhole octets kept' found
stands_as octets kept kept' found kind n left is e f p r = found_as p r octets kept kept' found kind n left is e (f p r)

-- two single quotes stand whole as the empty symbol before an octet that is none
pub empty_stands : (x : ℕ) (os : List ℕ) → x ≢ 39 → (p : Place) (r : Rest) → IsFound p r (39 ∷ 39 ∷ x ∷ os) TokenKind.QuotedSymbol [] 2 true
empty_stands x os other p r =
    opened_left p r (39 ∷ 39 ∷ x ∷ os) 2 TokenKind.QuotedSymbol Mode.Quotes [] Keep.Nothing (opens_quotes p r.colon) (λ s u. refl) (omega arith) (omega arith)
    (quotes_end x (ne_eqb x 39 other) r.colon p)

-- `null.` and the name behind it stand whole before an octet of no word
pub null_stands : (name : List ℕ) (n : ℕ) → n ≡ length (take_while is_word_octet name) → n < length name
    → (p : Place) (r : Rest) → IsFound p r (codes "null." ++ name) TokenKind.KindName (take n name) (n + 5) true
null_stands name n e more p r =
    let octets : List ℕ = codes "null." ++ name in
    let five : n + 5 ≡ suc (suc (suc (suc (suc n)))) = omega arith in
    let front : take (n + 5) octets ≡ codes "null." ++ take n name = ap (λ (i : ℕ). take i octets) five in
    let behind : slice_index octets (n + 5) ≡ slice_index name n = ap (λ (i : ℕ). slice_index octets i) five in
    let size : length octets ≡ length name + 5 = omega (arith, length-append (codes "null.") name) in
    opened_left p r octets (n + 5) TokenKind.KindName Mode.KindName (take n name) Keep.Nothing
    (subst (λ w. Opens p r.colon w Mode.KindName (take n name)) (sym front) (opens_kind p r.colon (take n name) (front_each is_word_octet name n e)))
    (λ s u. refl) (omega arith) (omega arith)
    (ap (λ (x : ℕ). next p r.colon Mode.KindName x) behind ∙ kind_ends (slice_index name n) (front_stops is_word_octet name n e more))
