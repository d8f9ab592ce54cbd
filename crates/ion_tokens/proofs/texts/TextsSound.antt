-- What is read as a quoted text is spelled so, in each style.
use Rattle.std.proofs.Common.{◌≡◌, ◌≢◌, ℕ, zero, suc, ◌+◌, ◌-◌, ◌*◌, ◌/◌, ◌%◌, ◌<◌, ◌≤◌, ◌⊎◌, inl, inr, ⊎_elim, true, false, List, [], ◌∷◌, ◌++◌, length, refl, sym, ap, ◌∙◌, subst, arith, append_assoc, append-nil, cond}
use Rattle.std.specs.Prelude.{◌==◌}
use Rattle.std.specs.List.{flat_map}
use Rattle.std.specs.Char.{IsScalar}
use Rattle.std.proofs.lemmas.Bool.{true≢false}
use Rattle.std.proofs.lemmas.Bool.Decides.{nat_tests}
use lib.Utf8.{encode}
use Rattle.ion_tokens.specs.Names.{Action, Digits, Element, IsElement, IsHexAfter, IsQuoted, IsRaw, Keep, Lf, Lob, Mode, Raw, RawLine, Reason, Style, TokenKind, Within, ends_in_cr, is_clob, is_long, is_raw_lf, is_raw_quote, kept_after, meaning, quote_of, raw, spelling}
use Rattle.ion_tokens.proofs.complete.TakesTexts.{drops_two}
use Rattle.ion_tokens.proofs.texts.Encodings as law
use Rattle.ion_tokens.proofs.texts.Encodings.{order}
use Rattle.ion_tokens.proofs.texts.TextOrders.{Base, base_more, last_is, last_is_last, quoted}
use Rattle.ion_tokens.proofs.texts.TextSteps.{Caps, StandsRaw, least_four, least_three, most_four, most_three, quote_small, raw_cr, raw_four, raw_lf, raw_one, raw_quote, raw_three, raw_two}
use Rattle.ion_tokens.proofs.texts.TextsComplete.{bool_cases, eq_or, long_quote}
use Rattle.ion_tokens.specs.laws.Each.{flat_last}

-- the octets are a character beyond ASCII
abbrev pub Whole : List ℕ → Type 0
Whole p = (c : ℕ) × IsScalar c × (128 ≤ c) × (encode c ≡ p)

-- so many octets in their ranges make it one
abbrev pub EndsAfter : ℕ → ℕ → ℕ → List ℕ → Type 0
EndsAfter zero lo hi p = Whole p
EndsAfter (suc n) lo hi p = (o : ℕ) → lo ≤ o → o ≤ hi → EndsAfter n 128 191 (p ++ o ∷ [])

-- digits so far, with some to come, and their number
abbrev pub SoFar : ℕ → ℕ → ℕ → List ℕ → Type 0
SoFar total left m os = (n : ℕ) × (length os + left ≡ total) × (0 < left) × IsHexAfter 0 os n × Caps m n

-- four digits are the number of a high surrogate, which is h
abbrev pub IsHigh : ℕ → List ℕ → Type 0
IsHigh h first = (length first ≡ 4) × (high : ℕ) × IsHexAfter 0 first (0xd800 + high) × (h ≡ 0xd800 + high) × (high < 1024)

-- the octets are an escape some digits of which are still to come
abbrev pub HexPart : Digits → List ℕ → ℕ → ℕ → Type 0
HexPart Digits.Octet p left m = (os : List ℕ) × (p ≡ 92 ∷ 120 ∷ os) × SoFar 2 left m os
HexPart Digits.Unit p left m = (os : List ℕ) × (p ≡ 92 ∷ 117 ∷ os) × SoFar 4 left m os
HexPart Digits.Scalar p left m = (os : List ℕ) × (p ≡ 92 ∷ 85 ∷ os) × SoFar 8 left m os
HexPart (Digits.LowSurrogate h) p left m = (first os : List ℕ) × (p ≡ 92 ∷ 117 ∷ first ++ 92 ∷ 117 ∷ os) × IsHigh h first × SoFar 4 left m os

-- `\x` alone may stand in a clob
abbrev pub TextOnly : Style → Digits → Type 0
TextOnly s Digits.Octet = Unit {0}
TextOnly s _ = is_clob s ≡ false

-- what has been read of the next element, and kept of it
abbrev pub Part : Style → Within → List ℕ → List ℕ → Type 0
Part s Within.Plain p q = (p ≡ []) × (q ≡ [])
Part s Within.AfterReturn p q = ((p ≡ 92 ∷ 13 ∷ []) × (q ≡ [])) ⊎ ((is_long s ≡ true) × (p ≡ 13 ∷ []) × (q ≡ 10 ∷ []))
Part s Within.OneQuote p q = (is_long s ≡ true) × (p ≡ 39 ∷ []) × (q ≡ 39 ∷ [])
Part s Within.TwoQuotes p q = (is_long s ≡ true) × (p ≡ 39 ∷ 39 ∷ []) × (q ≡ 39 ∷ 39 ∷ [])
Part s (Within.Utf8 left lo hi) p q = (is_clob s ≡ false) × (q ≡ p) × (0 < left) × EndsAfter left lo hi p
Part s Within.Escape p q = (p ≡ 92 ∷ []) × (q ≡ [])
Part s (Within.Hexadecimal d left m) p q = (q ≡ []) × TextOnly s d × HexPart d p left m
Part s (Within.HighSurrogate h) p q = (q ≡ []) × (is_clob s ≡ false) × (first : List ℕ) × (p ≡ 92 ∷ 117 ∷ first) × IsHigh h first
Part s (Within.HighSurrogateEscape h) p q = (q ≡ []) × (is_clob s ≡ false) × (first : List ℕ) × (p ≡ 92 ∷ 117 ∷ first ++ 92 ∷ []) × IsHigh h first

-- what the elements before may end in
abbrev pub After : Style → Within → List Element → Type 0
After s Within.Plain es = (last_is ends_in_cr es ≡ false) × (is_long s ≡ true → last_is is_raw_quote es ≡ false)
After s Within.OneQuote es = last_is is_raw_quote es ≡ false
After s Within.TwoQuotes es = last_is is_raw_quote es ≡ false
After s _ es = Unit {0}

-- p is elements and a part, and q what they mean and what is kept of the part
pub record Reads (s : Style) (v : Within) (w k : List ℕ) : Type 0 where
  pub elements : List Element
  pub p : List ℕ
  pub q : List ℕ
  pub base : Base s elements
  pub after : After s v elements
  pub part : Part s v p q
  pub spelled : w ≡ flat_map spelling elements ++ p
  pub means : k ≡ flat_map (meaning s) elements ++ q

-- the quotes that close a text
abbrev pub closing : Style → List ℕ
closing s = cond (is_long s) (39 ∷ 39 ∷ 39 ∷ []) (quote_of s ∷ [])

-- a whole text with the quotes that close it
pub record Closes (s : Style) (w octets : List ℕ) : Type 0 where
  pub content : List ℕ
  pub is : IsQuoted s content octets
  pub spelled : w ≡ content ++ closing s

-- the token that the close of a text ends
abbrev pub GivesText : Style → TokenKind → Type 0
GivesText Style.ShortString TokenKind.ShortString = Unit {0}
GivesText Style.QuotedSymbol TokenKind.QuotedSymbol = Unit {0}
GivesText Style.LongString TokenKind.LongString = Unit {0}
GivesText _ _ = ⊥

-- where a clob stands behind the close of a text or a segment
abbrev pub EndsText : Style → Lob → Type 0
EndsText Style.ShortClob Lob.AfterShort = Unit {0}
EndsText Style.LongClob Lob.AfterLong = Unit {0}
EndsText _ _ = ⊥

-- the mode stands behind what was read: in the text, or behind the close of one in a clob
abbrev pub LeadsTo : Style → Mode → List ℕ → List ℕ → Type 0
LeadsTo s (Mode.Text s' v) w k = (s' ≡ s) × Reads s v w k
LeadsTo s (Mode.Lob l) w k = EndsText s l × Closes s w k
LeadsTo s _ w k = ⊥

-- two quotes were kept that are dropped
abbrev pub Keeps : Keep → List ℕ → Type 0
Keeps Keep.DropQuotes q = (front : List ℕ) × (q ≡ front ++ 39 ∷ 39 ∷ [])
Keeps _ q = Unit {0}

-- behind octets that were read, and what they mean, an action leads to what was read
abbrev pub LeadsBehind : Style → List ℕ → List ℕ → Action → List ℕ → List ℕ → Type 0
LeadsBehind s w l (Action.Go m k) p q = Keeps k q × LeadsTo s m (w ++ p) (l ++ kept_after k q)
LeadsBehind s w l (Action.Give kind k) p q = Keeps k q × GivesText s kind × Closes s (w ++ p) (l ++ kept_after k q)
LeadsBehind s w l (Action.Refuse e) p q = Unit {0}
LeadsBehind s w l _ p q = ⊥

-- so behind elements
abbrev pub Leads : Style → List Element → Action → List ℕ → List ℕ → Type 0
Leads s es = LeadsBehind s (flat_map spelling es) (flat_map (meaning s) es)

-- what holds of an action holds of it by another name
pub by_action : (s : Style) (es : List Element) {a b : Action} (p q : List ℕ) → a ≡ b → Leads s es b p q → Leads s es a p q
by_action s es p q e h = subst (λ a. Leads s es a p q) (sym e) h

-- elements and what was read of the next are read in its state
pub part_only : (s : Style) (es : List Element) (v : Within) (p q : List ℕ) → Base s es → After s v es → Part s v p q → (s ≡ s)
    × Reads s v (flat_map spelling es ++ p) (flat_map (meaning s) es ++ q)
part_only s es v p q b a h = (refl, record { elements = es; p = p; q = q; base = b; after = a; part = h; spelled = refl; means = refl })

-- the element fits behind the others, and neither ends in a CR nor is a long text's raw quote
pub record FitsBehind (s : Style) (es : List Element) (e : Element) : Type 0 where
  pub is : IsElement s e
  pub lf : last_is ends_in_cr es ≡ true → is_raw_lf e ≡ false
  pub cr : ends_in_cr e ≡ false
  pub quote : is_long s ≡ true → is_raw_quote e ≡ false

-- elements and one that fits behind them are read, with nothing of the next
pub one_element : (s : Style) (es : List Element) (e : Element) (p q : List ℕ) → Base s es → FitsBehind s es e → p ≡ spelling e → q ≡ meaning s e → (s ≡ s)
    × Reads s Within.Plain (flat_map spelling es ++ p) (flat_map (meaning s) es ++ q)
one_element s es e p q b f i m = (
  refl,
  record {
    elements = es ++ e ∷ [];
    p = [];
    q = [];
    base = base_more s es e b f.is f.lf f.quote;
    after = (last_is_last ends_in_cr es e ∙ f.cr, λ l. last_is_last is_raw_quote es e ∙ f.quote l);
    part = (refl, refl);
    spelled = ap (λ l. flat_map spelling es ++ l) i ∙ sym (flat_last spelling es e) ∙ sym (append-nil (flat_map spelling (es ++ e ∷ [])));
    means = ap (λ l. flat_map (meaning s) es ++ l) m ∙ sym (flat_last (meaning s) es e) ∙ sym (append-nil (flat_map (meaning s) (es ++ e ∷ [])));
  },
)

-- two octets
two_whole : (x y : ℕ) → 194 ≤ x → x < 224 → 128 ≤ y → y ≤ 191 → Whole (x ∷ y ∷ [])
two_whole x y a b d e =
    let c : ℕ = (x - 192) * 64 + (y - 128) in
    let first : 192 + c / 64 ≡ x = omega arith in
    let second : 128 + c % 64 ≡ y = omega arith in
    (c, grind (arith, nat_tests), omega arith, law.two c (omega arith) (omega arith) ∙ (λ i. first i ∷ second i ∷ []))

three_whole : (x y z : ℕ) → 224 ≤ x → x < 240 → least_three x ≤ y → y ≤ most_three x → 128 ≤ z → z ≤ 191 → Whole (x ∷ y ∷ z ∷ [])
three_whole x y z a b d e f g =
    let low : 128 ≤ y = grind (arith, nat_tests) in
    let high : y ≤ 191 = grind (arith, nat_tests) in
    let first_low : x ≡ 224 → 160 ≤ y = grind (arith, nat_tests) in
    let first_high : x ≡ 237 → y ≤ 159 = grind (arith, nat_tests) in
    let c : ℕ = (x - 224) * 4096 + (y - 128) * 64 + (z - 128) in
    let least : 2048 ≤ c = ⊎_elim (λ i. omega (arith, first_low i)) (λ i. omega arith) (eq_or x 224) in
    let gap : (c < 55296) ⊎ (57344 ≤ c) = ⊎_elim (λ i. inl (omega (arith, first_high i)))
    (λ i. ⊎_elim (λ j. inl (omega arith)) (λ j. inr (omega arith)) (order x 237)) (eq_or x 237) in
    let one : 224 + c / 4096 ≡ x = omega arith in
    let two : 128 + (c / 64) % 64 ≡ y = omega arith in
    let three : 128 + c % 64 ≡ z = omega arith in (
      c,
      ⊎_elim (λ i. grind (arith, nat_tests)) (λ i. grind (arith, nat_tests)) gap,
      omega arith,
      law.three c least (omega arith)
          ∙ (λ i. one i ∷ two i ∷ three i ∷ []),
    )

four_whole : (x y z v : ℕ) → 240 ≤ x → x ≤ 244 → least_four x ≤ y → y ≤ most_four x → 128 ≤ z → z ≤ 191 → 128 ≤ v → v ≤ 191 → Whole (x ∷ y ∷ z ∷ v ∷ [])
four_whole x y z v a b d e f g h k =
    let low : 128 ≤ y = grind (arith, nat_tests) in
    let high : y ≤ 191 = grind (arith, nat_tests) in
    let first_low : x ≡ 240 → 144 ≤ y = grind (arith, nat_tests) in
    let first_high : x ≡ 244 → y ≤ 143 = grind (arith, nat_tests) in
    let c : ℕ = (x - 240) * 262144 + (y - 128) * 4096 + (z - 128) * 64 + (v - 128) in
    let least : 65536 ≤ c = ⊎_elim (λ i. omega (arith, first_low i)) (λ i. omega arith) (eq_or x 240) in
    let most : c < 1114112 = ⊎_elim (λ i. omega (arith, first_high i)) (λ i. omega arith) (eq_or x 244) in
    let one : 240 + c / 262144 ≡ x = omega arith in
    let two : 128 + (c / 4096) % 64 ≡ y = omega arith in
    let three : 128 + (c / 64) % 64 ≡ z = omega arith in
    let four : 128 + c % 64 ≡ v = omega arith in
    (c, grind (arith, nat_tests), omega arith, law.four c least ∙ (λ i. one i ∷ two i ∷ three i ∷ four i ∷ []))

raw_white : (s : Style) (o : ℕ) → o < 32 → o ≢ 9 → o ≢ 10 → o ≢ 11 → o ≢ 12 → o ≢ 13 → raw s o ≡ Action.Refuse Reason.Unexpected
raw_white Style.ShortString o l a b c d e = grind (arith, nat_tests)
raw_white _ o l a b c d e = grind (arith, nat_tests)

no_lf : (s : Style) → is_long s ≡ false → raw s 10 ≡ Action.Refuse Reason.Unexpected
no_lf Style.LongString h = cc
no_lf Style.LongClob h = cc
no_lf _ h = refl

no_cr : (s : Style) → is_long s ≡ false → raw s 13 ≡ Action.Refuse Reason.Unexpected
no_cr Style.LongString h = cc
no_cr Style.LongClob h = cc
no_cr _ h = refl

raw_clob : (s : Style) (o : ℕ) → is_clob s ≡ true → quote_of s < 128 → 128 ≤ o → raw s o ≡ Action.Refuse Reason.Unexpected
raw_clob s o c q l = grind (arith, nat_tests)

raw_wrong : (s : Style) (o : ℕ) → is_clob s ≡ false → quote_of s < 128 → 128 ≤ o → (o < 194) ⊎ (244 < o) → raw s o ≡ Action.Refuse Reason.BadUtf8
raw_wrong s o c q l (inl h) = grind (arith, nat_tests)
raw_wrong s o c q l (inr h) = grind (arith, nat_tests)

-- behind these elements this octet may stand as it is
pub record Behind (s : Style) (es : List Element) (o : ℕ) : Type 0 where
  pub base : Base s es
  pub lf : o ≡ 10 → last_is ends_in_cr es ≡ false
  pub quote : is_long s ≡ true → o ≡ 39 → last_is is_raw_quote es ≡ false

pub no_quote_raw : (s : Style) (o : ℕ) → o ≢ quote_of s → is_long s ≡ true → (o == 39) ≡ false
no_quote_raw s o n l = let q : quote_of s ≡ 39 = long_quote s l in let m : o ≢ 39 = (λ e. n (e ∙ sym q)) in grind (arith, nat_tests)

-- a character that may stand for itself, and is no quote of the style, fits behind all elements
pub fits_raw : (s : Style) (es : List Element) (c : ℕ) → IsRaw s c → c ≢ quote_of s → FitsBehind s es (Raw c)
fits_raw s es c i n = record { is = i; lf = λ h. refl; cr = refl; quote = λ l. no_quote_raw s c n l }

ascii_leads : (s : Style) (es : List Element) (o : ℕ) → Behind s es o → o < 128 → o ≢ 92 → o ≢ quote_of s → StandsRaw o → Leads s es (raw s o) (o ∷ []) []
ascii_leads s es o b l a n w = by_action s es (o ∷ []) [] (raw_one s o l a n w) (
  tt,
  one_element s es (Raw o) (o ∷ []) (o ∷ []) b.base (fits_raw s es o (grind (arith, nat_tests), a, inr n, w, λ i. l) n) (sym (law.one o l))
      (sym (law.one o l)),
)

lf_leads : (s : Style) (es : List Element) → Behind s es 10 → Leads s es (raw s 10) (10 ∷ []) []
lf_leads s es b = ⊎_elim
    (λ l. by_action s es (10 ∷ []) [] (raw_lf s l) (
      tt,
      one_element s es (RawLine Lf) (10 ∷ []) (10 ∷ []) b.base
          (record { is = l; lf = λ h. absurd (true≢false (sym h ∙ b.lf refl)); cr = refl; quote = λ m. refl }) refl refl,
    ))
    (λ f. by_action s es (10 ∷ []) [] (no_lf s f) tt) (bool_cases (is_long s))

cr_leads : (s : Style) (es : List Element) → Behind s es 13 → Leads s es (raw s 13) (13 ∷ []) []
cr_leads s es b = ⊎_elim
    (λ l. by_action s es (13 ∷ []) [] (raw_cr s l) (tt, part_only s es Within.AfterReturn (13 ∷ []) (10 ∷ []) b.base tt (inr (l, refl, refl))))
    (λ f. by_action s es (13 ∷ []) [] (no_cr s f) tt) (bool_cases (is_long s))

low_leads : (s : Style) (es : List Element) (o : ℕ) → Behind s es o → o < 32 → o ≢ quote_of s → Leads s es (raw s o) (o ∷ []) []
low_leads s es o b l n =
    ⊎_elim (λ i. ascii_leads s es o b (omega arith) (omega arith) n (inl i)) (λ a.
    ⊎_elim (λ i. ascii_leads s es o b (omega arith) (omega arith) n (inr (inl i))) (λ c.
    ⊎_elim (λ i. ascii_leads s es o b (omega arith) (omega arith) n (inr (inr (inl i)))) (λ d.
    ⊎_elim (λ (i : o ≡ 10). subst (λ (x : ℕ). Leads s es (raw s x) (x ∷ []) []) (sym i) (lf_leads s es (subst (λ (x : ℕ). Behind s es x) i b))) (λ e.
    ⊎_elim (λ (i : o ≡ 13). subst (λ (x : ℕ). Leads s es (raw s x) (x ∷ []) []) (sym i) (cr_leads s es (subst (λ (x : ℕ). Behind s es x) i b))) (λ f.
    by_action s es (o ∷ []) [] (raw_white s o l a e c d f) tt)
    (eq_or o 13)) (eq_or o 10)) (eq_or o 12)) (eq_or o 11)) (eq_or o 9)

-- the quotes of a style close the text
pub closed : (s : Style) (es : List Element) (quotes : List ℕ) → Base s es → (is_long s ≡ true → last_is is_raw_quote es ≡ false) → quotes ≡ closing s
    → Closes s (flat_map spelling es ++ quotes) (flat_map (meaning s) es ++ [])
closed s es quotes b h e = record {
  content = flat_map spelling es;
  is = subst (λ k. IsQuoted s (flat_map spelling es) k) (sym (append-nil (flat_map (meaning s) es))) (quoted s es b h);
  spelled = ap (λ c. flat_map spelling es ++ c) e;
}

short_closes : (s : Style) (es : List Element) → Base s es → is_long s ≡ false → Leads s es (raw s (quote_of s)) (quote_of s ∷ []) []
short_closes Style.ShortString es b l = (tt, tt, closed Style.ShortString es (quote_of Style.ShortString ∷ []) b (λ t. absurd (true≢false (sym t))) refl)
short_closes Style.QuotedSymbol es b l = (tt, tt, closed Style.QuotedSymbol es (quote_of Style.QuotedSymbol ∷ []) b (λ t. absurd (true≢false (sym t))) refl)
short_closes Style.ShortClob es b l = (tt, (tt, closed Style.ShortClob es (quote_of Style.ShortClob ∷ []) b (λ t. absurd (true≢false (sym t))) refl))
short_closes _ es b l = cc

quote_leads : (s : Style) (es : List Element) (o : ℕ) → Behind s es o → o ≡ quote_of s → Leads s es (raw s o) (o ∷ []) []
quote_leads s es o b e = ⊎_elim
    (λ l. let i : o ≡ 39 = e ∙ long_quote s l in subst (λ (x : ℕ). Leads s es (raw s x) (x ∷ []) []) (sym i)
    (by_action s es (39 ∷ []) [] (raw_quote s l) (tt, part_only s es Within.OneQuote (39 ∷ []) (39 ∷ []) b.base (b.quote l i) (l, refl, refl))))
    (λ f. subst (λ (x : ℕ). Leads s es (raw s x) (x ∷ []) []) (sym e) (short_closes s es b.base f)) (bool_cases (is_long s))

high_leads : (s : Style) (es : List Element) (o : ℕ) → Base s es → is_clob s ≡ false → 128 ≤ o → Leads s es (raw s o) (o ∷ []) []
high_leads s es o b t h =
    ⊎_elim (λ h'. by_action s es (o ∷ []) [] (raw_wrong s o t (quote_small s) h (inl h')) tt) (λ h'.
    ⊎_elim (λ m. by_action s es (o ∷ []) [] (raw_two s o t (quote_small s) h' m)
    (tt, part_only s es (Within.Utf8 1 128 191) (o ∷ []) (o ∷ []) b tt (t, refl, omega arith, λ y e f. two_whole o y h' m e f))) (λ m.
    ⊎_elim (λ n. by_action s es (o ∷ []) [] (raw_three s o t (quote_small s) m n) (
      tt,
      part_only s es (Within.Utf8 2 (least_three o) (most_three o)) (o ∷ []) (o ∷ []) b tt
          (t, refl, omega arith, λ y e f z g k. three_whole o y z m n e f g k),
    )) (λ n.
    ⊎_elim (λ k. by_action s es (o ∷ []) [] (raw_four s o t (quote_small s) n (omega arith)) (
      tt,
      part_only s es (Within.Utf8 3 (least_four o) (most_four o)) (o ∷ []) (o ∷ []) b tt
          (t, refl, omega arith, λ y e f z g i v r x. four_whole o y z v n (omega arith) e f g i r x),
    ))
    (λ k. by_action s es (o ∷ []) [] (raw_wrong s o t (quote_small s) h (inr (omega arith))) tt)
    (order o 245)) (order o 240)) (order o 224)) (order o 194)

backslash : (s : Style) (es : List Element) → Base s es → Leads s es (raw s 92) (92 ∷ []) []
backslash s es b = (tt, part_only s es Within.Escape (92 ∷ []) [] b tt (refl, refl))

-- an octet that may stand behind these elements leads to what was read with it
pub raw_leads : (s : Style) (es : List Element) (o : ℕ) → Behind s es o → Leads s es (raw s o) (o ∷ []) []
raw_leads s es o b =
    ⊎_elim (λ (i : o ≡ 92). subst (λ (x : ℕ). Leads s es (raw s x) (x ∷ []) []) (sym i) (backslash s es b.base)) (λ a.
    ⊎_elim (λ i. quote_leads s es o b i) (λ n.
    ⊎_elim (λ l. low_leads s es o b l n) (λ l.
    ⊎_elim (λ h. ascii_leads s es o b h a n (inr (inr (inr l)))) (λ h.
    ⊎_elim (λ c. by_action s es (o ∷ []) [] (raw_clob s o c (quote_small s) h) tt) (λ t. high_leads s es o b.base t h) (bool_cases (is_clob s)))
    (order o 128)) (order o 32)) (eq_or o (quote_of s))) (eq_or o 92)

-- octets kept before a text stay in front of what an action leaves of it
pub keeps_behind : (front q : List ℕ) (k : Keep) → Keeps k q → kept_after k (front ++ q) ≡ front ++ kept_after k q
keeps_behind front q Keep.Nothing h = refl
keeps_behind front q (Keep.One o) h = append_assoc front q (o ∷ [])
keeps_behind front q (Keep.Two o x) h = ap (λ l. l ++ x ∷ []) (append_assoc front q (o ∷ [])) ∙ append_assoc front (q ++ o ∷ []) (x ∷ [])
keeps_behind front q (Keep.Character c) h = append_assoc front q (encode c)
keeps_behind front q Keep.DropQuotes (rest, e) = subst (λ l. kept_after Keep.DropQuotes (front ++ l) ≡ front ++ kept_after Keep.DropQuotes l) (sym e)
    (ap (kept_after Keep.DropQuotes) (sym (append_assoc front rest (39 ∷ 39 ∷ []))) ∙ drops (front ++ rest) ∙ ap (λ l. front ++ l) (sym (drops rest)))
  where
    drops : (k : List ℕ) → kept_after Keep.DropQuotes (k ++ 39 ∷ 39 ∷ []) ≡ k
    drops k = ap (kept_after Keep.DropQuotes) (sym (append_assoc k (39 ∷ []) (39 ∷ []))) ∙ drops_two k 39 39

keeps_more : (front q : List ℕ) (k : Keep) → Keeps k q → Keeps k (front ++ q)
keeps_more front q Keep.DropQuotes (rest, e) = (front ++ rest, ap (λ l. front ++ l) e ∙ sym (append_assoc front rest (39 ∷ 39 ∷ [])))
keeps_more front q _ h = tt

-- what an action leads to behind more octets, it does with those as part of what is read
pub leads_over : (s : Style) (w l w' l' : List ℕ) (a : Action) (p q : List ℕ) → LeadsBehind s (w ++ w') (l ++ l') a p q
    → LeadsBehind s w l a (w' ++ p) (l' ++ q)
leads_over s w l w' l' a p q = by a where
  moved : (P : List ℕ → List ℕ → Type 0) (k : Keep) → Keeps k q → P ((w ++ w') ++ p) ((l ++ l') ++ kept_after k q)
      → P (w ++ (w' ++ p)) (l ++ kept_after k (l' ++ q))
  moved P k t h = subst (λ x. P x (l ++ kept_after k (l' ++ q))) (append_assoc w w' p)
      (subst (λ x. P ((w ++ w') ++ p) x) (append_assoc l l' (kept_after k q) ∙ ap (λ x. l ++ x) (sym (keeps_behind l' q k t))) h)

  by : (a : Action) → LeadsBehind s (w ++ w') (l ++ l') a p q → LeadsBehind s w l a (w' ++ p) (l' ++ q)
  by (Action.Go m k) (t, h) = (keeps_more l' q k t, moved (LeadsTo s m) k t h)
  by (Action.Give kind k) (t, g, h) = (keeps_more l' q k t, g, moved (Closes s) k t h)
  by (Action.Refuse e) h = tt
  by _ h = h

-- what an action leads to behind one element more, it does with that one as part of what is read
pub rebase : (s : Style) (es : List Element) (f : Element) (a : Action) (p q : List ℕ) → Leads s (es ++ f ∷ []) a p q
    → Leads s es a (spelling f ++ p) (meaning s f ++ q)
rebase s es f a p q h =
    leads_over s (flat_map spelling es) (flat_map (meaning s) es) (spelling f) (meaning s f) a p q
    (subst (λ w. LeadsBehind s w (flat_map (meaning s) es ++ meaning s f) a p q) (flat_last spelling es f)
    (subst (λ l. LeadsBehind s (flat_map spelling (es ++ f ∷ [])) l a p q) (flat_last (meaning s) es f) h))
