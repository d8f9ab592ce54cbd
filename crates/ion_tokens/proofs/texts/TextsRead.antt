-- One octet more of a quoted text, in each state.
use Rattle.std.proofs.Common.{◌≡◌, ◌≢◌, ℕ, zero, suc, ◌+◌, ◌-◌, ◌*◌, ◌%◌, ◌<◌, ◌≤◌, ◌⊎◌, inl, inr, ⊎_elim, Bool, true, false, List, [], ◌∷◌, ◌++◌, length, refl, sym, ap, ◌∙◌, subst, arith, append_assoc, cond, length-append}
use Rattle.std.specs.Prelude.{Option, Some, None}
use Rattle.std.specs.List.{flat_map}
use Rattle.std.proofs.lemmas.Bool.{cond_both, false≢true, ne_eqb, not-true, true≢false}
use Rattle.std.proofs.lemmas.Bool.Decides.{nat_tests}
use lib.Utf8.{encode, scalar, scalar_cases}
use Rattle.ion_tokens.specs.Names.{Action, Cr, CrLf, Digits, Element, Hex, Hidden, IsElement, IsHexAfter, Keep, Lf, Mode, Pair, Raw, RawLine, Reason, Simple, Style, Within, after_digits, character, close_long, ends_in_cr, grow, hex_length, hexadecimal_digit, in_escape, in_text, in_utf8, is_clob, is_long, is_raw_lf, is_raw_quote, meaning, meant, quote_of, raw, spelling, with_digit}
use Rattle.ion_tokens.specs.Octets.{escaped}
use Rattle.ion_tokens.proofs.texts.Encodings.{order}
use Rattle.ion_tokens.proofs.texts.TextElements.{below_max}
use Rattle.ion_tokens.proofs.texts.TextOrders.{Base, base_more, base_none, base_quote, base_quotes, last_is, last_is_last}
use Rattle.ion_tokens.proofs.texts.TextSteps.{Caps, after_high, after_low, as_raw, caps_grow, exact, letter_only, more_digits, quote_low, utf8_last, utf8_more, utf8_wrong}
use Rattle.ion_tokens.proofs.texts.TextsComplete.{eq_or}
use Rattle.ion_tokens.proofs.texts.TextsSound.{After, closed, EndsAfter, FitsBehind, HexPart, IsHigh, Leads, LeadsBehind, Part, Reads, SoFar, TextOnly, Whole, by_action, fits_raw, leads_over, one_element, part_only, raw_leads, rebase}
use Rattle.ion_tokens.specs.laws.TokensKept.{hex_small}

-- inside a character
utf8_leads : (s : Style) (es : List Element) (left lo hi o : ℕ) (p : List ℕ) → Base s es → is_clob s ≡ false → 0 < left → EndsAfter left lo hi p
    → Leads s es (in_utf8 s left lo hi o) (p ++ o ∷ []) p
utf8_leads s es zero lo hi o p b t l h = absurd (omega arith)
utf8_leads s es (suc zero) lo hi o p b t l h =
    ⊎_elim (λ m. by_action s es (p ++ o ∷ []) p (utf8_wrong s 1 lo hi o (inl m)) tt) (λ m.
    ⊎_elim (λ n. by_action s es (p ++ o ∷ []) p (utf8_wrong s 1 lo hi o (inr n)) tt) (λ n. whole m n (h o m n)) (order hi o)) (order o lo)
  where
    whole : lo ≤ o → o ≤ hi → Whole (p ++ o ∷ []) → Leads s es (in_utf8 s 1 lo hi o) (p ++ o ∷ []) p
    whole m n w =
        let q : (quote_of s ≡ 34) ⊎ (quote_of s ≡ 39) = quote_low s in
        let other : w.0 ≢ quote_of s = (λ e. ⊎_elim (λ f. omega (arith, w.2)) (λ f. omega (arith, w.2)) q) in
        let large : 128 ≤ w.0 = w.2 in
        by_action s es (p ++ o ∷ []) p (utf8_last s lo hi o m n) (
          tt,
          one_element s es (Raw w.0) (p ++ o ∷ []) (p ++ o ∷ []) b
              (fits_raw s es w.0 (w.1, (λ i. omega arith), inr other, inr (inr (inr (omega arith))), (λ i. absurd (true≢false (sym i ∙ t)))) other) (sym w.3)
              (sym w.3),
        )
utf8_leads s es (suc (suc n)) lo hi o p b t l h =
    ⊎_elim (λ m. by_action s es (p ++ o ∷ []) p (utf8_wrong s (suc (suc n)) lo hi o (inl m)) tt) (λ m.
    ⊎_elim (λ k. by_action s es (p ++ o ∷ []) p (utf8_wrong s (suc (suc n)) lo hi o (inr k)) tt) (λ k.
    let e : suc (suc n) - 1 ≡ suc n = omega arith in
    by_action s es (p ++ o ∷ []) p (utf8_more s (suc (suc n)) lo hi o (omega arith) m k) (
      tt,
      part_only s es (Within.Utf8 (suc (suc n) - 1) 128 191) (p ++ o ∷ []) (p ++ o ∷ []) b tt
          (t, refl, omega arith, subst (λ (i : ℕ). EndsAfter i 128 191 (p ++ o ∷ [])) (sym e) (h o m k)),
    ))
    (order hi o)) (order o lo)

-- an escape fits behind all elements
fits : (s : Style) (es : List Element) (e : Element) → IsElement s e → is_raw_lf e ≡ false → ends_in_cr e ≡ false → is_raw_quote e ≡ false → FitsBehind s es e
fits s es e i l c q = record { is = i; lf = λ h. l; cr = c; quote = λ h. q }

-- behind a backslash
simple_leads : (s : Style) (es : List Element) (o : ℕ) (r : Option ℕ) → Base s es → escaped o ≡ r → Leads s es (meant s r) (92 ∷ o ∷ []) []
simple_leads s es o None b e = tt
simple_leads s es o (Some m) b e = (tt, one_element s es (Simple o m) (92 ∷ o ∷ []) (m ∷ []) b (fits s es (Simple o m) e refl refl refl) refl refl)

unit_opens : (s : Style) (es : List Element) → Base s es → Leads s es (in_escape s 117) (92 ∷ 117 ∷ []) []
unit_opens s es b = cond_both (Rattle.std.specs.Prelude.not (is_clob s)) _ _ (λ a. Leads s es a (92 ∷ 117 ∷ []) [])
    (λ f. let e = not-true (is_clob s) f in
    (tt, part_only s es (Within.Hexadecimal Digits.Unit 4 0) (92 ∷ 117 ∷ []) [] b tt (refl, e, ([], refl, (0, refl, omega arith, refl, inl refl))))) (λ e. tt)

scalar_opens : (s : Style) (es : List Element) → Base s es → Leads s es (in_escape s 85) (92 ∷ 85 ∷ []) []
scalar_opens s es b = cond_both (Rattle.std.specs.Prelude.not (is_clob s)) _ _ (λ a. Leads s es a (92 ∷ 85 ∷ []) [])
    (λ f. let e = not-true (is_clob s) f in
    (tt, part_only s es (Within.Hexadecimal Digits.Scalar 8 0) (92 ∷ 85 ∷ []) [] b tt (refl, e, ([], refl, (0, refl, omega arith, refl, inl refl))))) (λ e. tt)

escape_leads : (s : Style) (es : List Element) (o : ℕ) → Base s es → Leads s es (in_escape s o) (92 ∷ o ∷ []) []
escape_leads s es o b =
    ⊎_elim (λ i. at o 10 i (tt, one_element s es (Hidden Lf) (92 ∷ 10 ∷ []) [] b (fits s es (Hidden Lf) tt refl refl refl) refl refl)) (λ a.
    ⊎_elim (λ i. at o 13 i (tt, part_only s es Within.AfterReturn (92 ∷ 13 ∷ []) [] b tt (inl (refl, refl)))) (λ c.
    ⊎_elim (λ i. at o 120 i (
      tt,
      part_only s es (Within.Hexadecimal Digits.Octet 2 0) (92 ∷ 120 ∷ []) [] b tt
          (refl, tt, ([], refl, (0, refl, omega arith, refl, inl refl))),
    )) (λ d.
    ⊎_elim (λ i. at o 117 i (unit_opens s es b)) (λ e.
    ⊎_elim (λ i. at o 85 i (scalar_opens s es b)) (λ f.
    by_action s es (92 ∷ o ∷ []) [] (letter_only s o (escaped o) a c d e f refl) (simple_leads s es o (escaped o) b refl))
    (eq_or o 85)) (eq_or o 117)) (eq_or o 120)) (eq_or o 13)) (eq_or o 10)
  where
    at : (o x : ℕ) → o ≡ x → Leads s es (in_escape s x) (92 ∷ x ∷ []) [] → Leads s es (in_escape s o) (92 ∷ o ∷ []) []
    at o x i h = subst (λ (o : ℕ). Leads s es (in_escape s o) (92 ∷ o ∷ []) []) (sym i) h

-- the digits of an escape
hex_more : (k n d o : ℕ) (os : List ℕ) → IsHexAfter k os n → hexadecimal_digit o ≡ Some d → IsHexAfter k (os ++ o ∷ []) (n * 16 + d)
hex_more k n d o [] e h = (d, h, ap (λ (i : ℕ). i * 16 + d) e)
hex_more k n d o (x ∷ os) (v, f, g) h = (v, f, hex_more (k * 16 + v) n d o os g h)

so_far_more : (total left m d o : ℕ) (os : List ℕ) → 1 < left → SoFar total left m os → hexadecimal_digit o ≡ Some d
    → SoFar total (left - 1) (grow m d) (os ++ o ∷ [])
so_far_more total left m d o os l (n, e, p, h, c) f = (
  n * 16 + d,
  omega (arith, length-append os (o ∷ [])),
  omega arith,
  hex_more 0 n d o os h f,
  caps_grow m n d c,
)

part_more : (d : Digits) (p : List ℕ) (left m v o : ℕ) → 1 < left → HexPart d p left m → hexadecimal_digit o ≡ Some v
    → HexPart d (p ++ o ∷ []) (left - 1) (grow m v)
part_more Digits.Octet p left m v o l (os, e, h) f = (os ++ o ∷ [], ap (λ l. l ++ o ∷ []) e, so_far_more 2 left m v o os l h f)
part_more Digits.Unit p left m v o l (os, e, h) f = (os ++ o ∷ [], ap (λ l. l ++ o ∷ []) e, so_far_more 4 left m v o os l h f)
part_more Digits.Scalar p left m v o l (os, e, h) f = (os ++ o ∷ [], ap (λ l. l ++ o ∷ []) e, so_far_more 8 left m v o os l h f)
part_more (Digits.LowSurrogate x) p left m v o l (first, os, e, h, g) f =
    (first, os ++ o ∷ [], ap (λ l. l ++ o ∷ []) e ∙ ap (λ l. 92 ∷ 117 ∷ l) (append_assoc first (92 ∷ 117 ∷ os) (o ∷ [])), h, so_far_more 4 left m v o os l g f)

-- all the digits are there
abbrev Full : ℕ → ℕ → List ℕ → Type 0
Full total m os = (n : ℕ) × (length os ≡ total) × IsHexAfter 0 os n × Caps m n

full : (total m d o : ℕ) (os : List ℕ) → SoFar total 1 m os → hexadecimal_digit o ≡ Some d → Full total (grow m d) (os ++ o ∷ [])
full total m d o os (n, e, p, h, c) f = (n * 16 + d, omega (arith, length-append os (o ∷ [])), hex_more 0 n d o os h f, caps_grow m n d c)

hex_is : (s : Style) (letter m : ℕ) (os : List ℕ) → is_clob s ≡ false → encode m ≡ meaning s (Hex letter os m)
hex_is s letter m os t = ap (λ b. cond b (m ∷ []) (encode m)) (sym t)

char_leads : (s : Style) (es : List Element) (letter total m : ℕ) (os : List ℕ) → Base s es → is_clob s ≡ false → hex_length letter ≡ Some total
    → Full total m os → Leads s es (character s m) (92 ∷ letter ∷ os) []
char_leads s es letter total m os b t k (n, e, h, c) = cond_both (scalar m) _ _ (λ a. Leads s es a (92 ∷ letter ∷ os) []) (λ z.
    let small : m < 0x110000 = below_max m (scalar_cases m z) in
    let same : m ≡ n = ⊎_elim (λ i. i) (λ i. absurd (omega arith)) c in (
      tt,
      one_element s es (Hex letter os m) (92 ∷ letter ∷ os) (encode m) b
          (fits s es (Hex letter os m) (k ∙ ap Some (sym e), subst (IsHexAfter 0 os) (sym same) h, z, λ i. absurd (true≢false (sym i ∙ t))) refl refl refl)
          refl (hex_is s letter m os t),
    )) (λ z. tt)

-- \x: in a clob an octet
octet_leads : (s : Style) (es : List Element) (m : ℕ) (os : List ℕ) → Base s es → Full 2 m os → Leads s es (after_digits s Digits.Octet m) (92 ∷ 120 ∷ os) []
octet_leads s es m os b f = by (is_clob s) refl where
  by : (x : Bool) → is_clob s ≡ x → Leads s es (cond x (Action.Go (Mode.Text s Within.Plain) (Keep.One (m % 256))) (character s m)) (92 ∷ 120 ∷ os) []
  by false t = char_leads s es 120 2 m os b t refl f
  by true t =
      let small : f.0 < 256 = hex_small os f.0 f.1 f.2 in
      let same : m ≡ f.0 = exact m f.0 f.3 (omega arith) in
      let rest : m % 256 ≡ f.0 = omega arith in (
        tt,
        one_element s es (Hex 120 os f.0) (92 ∷ 120 ∷ os) (m % 256 ∷ []) b
            (fits s es (Hex 120 os f.0) (ap Some (sym f.1), f.2, grind (arith, nat_tests), λ i. refl) refl refl refl) refl
            (ap (λ (n : ℕ). n ∷ []) rest ∙ ap (λ c. cond c (f.0 ∷ []) (encode f.0)) (sym t)),
      )

no_high : (s : Style) (m : ℕ) → (m < 0xd800) ⊎ (0xdc00 ≤ m) → after_digits s Digits.Unit m ≡ character s m
no_high s m (inl h) = grind (arith, nat_tests)
no_high s m (inr h) = grind (arith, nat_tests)

unit_leads : (s : Style) (es : List Element) (m : ℕ) (os : List ℕ) → Base s es → is_clob s ≡ false → Full 4 m os
    → Leads s es (after_digits s Digits.Unit m) (92 ∷ 117 ∷ os) []
unit_leads s es m os b t f =
    ⊎_elim (λ l. by_action s es (92 ∷ 117 ∷ os) [] (no_high s m (inl l)) (char_leads s es 117 4 m os b t refl f)) (λ l.
    ⊎_elim (λ h. high l h f) (λ h. by_action s es (92 ∷ 117 ∷ os) [] (no_high s m (inr h)) (char_leads s es 117 4 m os b t refl f))
    (order m 0xdc00)) (order m 0xd800)
  where
    high : 0xd800 ≤ m → m < 0xdc00 → Full 4 m os → Leads s es (after_digits s Digits.Unit m) (92 ∷ 117 ∷ os) []
    high l h (n, e, g, c) =
        let x : ℕ = m - 0xd800 in
        let is : m ≡ 0xd800 + x = omega arith in
        let same : n ≡ 0xd800 + x = ⊎_elim (λ (i : m ≡ n). omega arith) (λ i. absurd (omega arith)) c in
        by_action s es (92 ∷ 117 ∷ os) [] (ap (after_digits s Digits.Unit) is ∙ after_high s x (omega arith)) (
          tt,
          part_only s es (Within.HighSurrogate (0xd800 + x)) (92 ∷ 117 ∷ os) [] b tt
              (refl, t, os, refl, (e, x, subst (IsHexAfter 0 os) same g, refl, omega arith)),
        )

no_low : (s : Style) (h m : ℕ) → (m < 0xdc00) ⊎ (0xdfff < m) → after_digits s (Digits.LowSurrogate h) m ≡ Action.Refuse Reason.BadEscape
no_low s h m (inl e) = grind (arith, nat_tests)
no_low s h m (inr e) = grind (arith, nat_tests)

second_leads : (s : Style) (es : List Element) (h m : ℕ) (first os : List ℕ) → Base s es → is_clob s ≡ false → IsHigh h first → Full 4 m os
    → Leads s es (after_digits s (Digits.LowSurrogate h) m) (92 ∷ 117 ∷ first ++ 92 ∷ 117 ∷ os) []
second_leads s es h m first os b t i f =
    ⊎_elim (λ l. by_action s es (92 ∷ 117 ∷ first ++ 92 ∷ 117 ∷ os) [] (no_low s h m (inl l)) tt) (λ l.
    ⊎_elim (λ k. by_action s es (92 ∷ 117 ∷ first ++ 92 ∷ 117 ∷ os) [] (no_low s h m (inr k)) tt) (λ k. low l k i f)
    (order 0xdfff m)) (order m 0xdc00)
  where
    low : 0xdc00 ≤ m → m ≤ 0xdfff → IsHigh h first → Full 4 m os → Leads s es (after_digits s (Digits.LowSurrogate h) m) (92 ∷ 117 ∷ first ++ 92 ∷ 117 ∷ os) []
    low l k (fl, high, fh, he, hs) (n, e, g, c) =
        let x : ℕ = m - 0xdc00 in
        let is : m ≡ 0xdc00 + x = omega arith in
        let same : n ≡ 0xdc00 + x = ⊎_elim (λ (i : m ≡ n). omega arith) (λ i. absurd (omega arith)) c in
        by_action s es (92 ∷ 117 ∷ first ++ 92 ∷ 117 ∷ os) [] ((λ i. after_digits s (Digits.LowSurrogate (he i)) (is i)) ∙ after_low s high x hs (omega arith)) (
          tt,
          one_element s es (Pair first os high x) (92 ∷ 117 ∷ first ++ 92 ∷ 117 ∷ os) (encode (0x10000 + high * 1024 + x)) b
              (fits s es (Pair first os high x) (t, fl, e, fh, hs, subst (IsHexAfter 0 os) same g, omega arith) refl refl refl) refl refl,
        )

last_leads : (s : Style) (es : List Element) (d : Digits) (m v o : ℕ) (p : List ℕ) → Base s es → TextOnly s d → HexPart d p 1 m → hexadecimal_digit o ≡ Some v
    → Leads s es (after_digits s d (grow m v)) (p ++ o ∷ []) []
last_leads s es Digits.Octet m v o p b t (os, e, f) h = subst (λ l. Leads s es (after_digits s Digits.Octet (grow m v)) (l ++ o ∷ []) []) (sym e)
    (octet_leads s es (grow m v) (os ++ o ∷ []) b (full 2 m v o os f h))
last_leads s es Digits.Unit m v o p b t (os, e, f) h = subst (λ l. Leads s es (after_digits s Digits.Unit (grow m v)) (l ++ o ∷ []) []) (sym e)
    (unit_leads s es (grow m v) (os ++ o ∷ []) b t (full 4 m v o os f h))
last_leads s es Digits.Scalar m v o p b t (os, e, f) h =
    subst (λ l. Leads s es (after_digits s Digits.Scalar (grow m v)) (l ++ o ∷ []) []) (sym e)
    (char_leads s es 85 8 (grow m v) (os ++ o ∷ []) b t refl (full 8 m v o os f h))
last_leads s es (Digits.LowSurrogate x) m v o p b t (first, os, e, i, f) h =
    subst (λ l. Leads s es (after_digits s (Digits.LowSurrogate x) (grow m v)) l [])
    (sym (ap (λ l. l ++ o ∷ []) e ∙ ap (λ l. 92 ∷ 117 ∷ l) (append_assoc first (92 ∷ 117 ∷ os) (o ∷ []))))
    (second_leads s es x (grow m v) first (os ++ o ∷ []) b t i (full 4 m v o os f h))

digit_leads : (s : Style) (es : List Element) (d : Digits) (left m o : ℕ) (p : List ℕ) (r : Option ℕ) → Base s es → TextOnly s d → 0 < left → HexPart d p left m
    → hexadecimal_digit o ≡ r → Leads s es (with_digit s d left m r) (p ++ o ∷ []) []
digit_leads s es d left m o p None b t l h e = tt
digit_leads s es d left m o p (Some v) b t l h e =
    ⊎_elim (λ (i : left ≡ 1). subst (λ (x : ℕ). Leads s es (with_digit s d x m (Some v)) (p ++ o ∷ []) []) (sym i)
    (last_leads s es d m v o p b t (subst (λ (x : ℕ). HexPart d p x m) i h) e))
    (λ n. by_action s es (p ++ o ∷ []) [] (more_digits s d left m v (omega arith))
    (tt, part_only s es (Within.Hexadecimal d (left - 1) (grow m v)) (p ++ o ∷ []) [] b tt (refl, t, part_more d p left m v o (omega arith) h e)))
    (eq_or left 1)

some_left : (d : Digits) (p : List ℕ) (left m : ℕ) → HexPart d p left m → 0 < left
some_left (Digits.LowSurrogate x) p left m h = h.4.2
some_left _ p left m h = h.2.2

-- behind a CR that takes no LF
return_over : (s : Style) (es : List Element) (f : Element) (o : ℕ) → Base s es → IsElement s f → ends_in_cr f ≡ true → is_raw_lf f ≡ false
    → is_raw_quote f ≡ false → o ≢ 10 → Leads s es (raw s o) (spelling f ++ o ∷ []) (meaning s f ++ [])
return_over s es f o b i c l q n = rebase s es f (raw s o) (o ∷ []) [] (raw_leads s (es ++ f ∷ []) o
    (record { base = base_more s es f b i (λ h. l) (λ h. q); lf = λ e. absurd (n e); quote = λ h e. last_is_last is_raw_quote es f ∙ q }))

return_leads : (s : Style) (es : List Element) (o : ℕ) (p q : List ℕ) → Base s es → Part s Within.AfterReturn p q
    → Leads s es (in_text s Within.AfterReturn o) (p ++ o ∷ []) q
return_leads s es o p q b (inl (e, f)) = subst (λ l. Leads s es (in_text s Within.AfterReturn o) (l ++ o ∷ []) q) (sym e)
    (subst (λ l. Leads s es (in_text s Within.AfterReturn o) (92 ∷ 13 ∷ o ∷ []) l) (sym f)
    (⊎_elim (λ (i : o ≡ 10). subst (λ (x : ℕ). Leads s es (in_text s Within.AfterReturn x) (92 ∷ 13 ∷ x ∷ []) []) (sym i)
    (tt, one_element s es (Hidden CrLf) (92 ∷ 13 ∷ 10 ∷ []) [] b (fits s es (Hidden CrLf) tt refl refl refl) refl refl))
    (λ n. by_action s es (92 ∷ 13 ∷ o ∷ []) [] (as_raw s Within.AfterReturn o n) (return_over s es (Hidden Cr) o b tt refl refl refl n)) (eq_or o 10)))
return_leads s es o p q b (inr (l, e, f)) = subst (λ x. Leads s es (in_text s Within.AfterReturn o) (x ++ o ∷ []) q) (sym e)
    (subst (λ x. Leads s es (in_text s Within.AfterReturn o) (13 ∷ o ∷ []) x) (sym f)
    (⊎_elim (λ (i : o ≡ 10). subst (λ (x : ℕ). Leads s es (in_text s Within.AfterReturn x) (13 ∷ x ∷ []) (10 ∷ [])) (sym i)
    (tt, one_element s es (RawLine CrLf) (13 ∷ 10 ∷ []) (10 ∷ []) b (fits s es (RawLine CrLf) l refl refl refl) refl refl))
    (λ n. by_action s es (13 ∷ o ∷ []) (10 ∷ []) (as_raw s Within.AfterReturn o n) (return_over s es (RawLine Cr) o b l refl refl refl n)) (eq_or o 10)))

raw_39 : (s : Style) → is_long s ≡ true → IsElement s (Raw 39)
raw_39 s l = (refl, (λ e. omega arith), inl l, inr (inr (inr (omega arith))), (λ c. omega arith))

-- a long text's quotes that close nothing
one_quote_over : (s : Style) (es : List Element) (o : ℕ) → Base s es → is_long s ≡ true → last_is is_raw_quote es ≡ false → o ≢ 39
    → Leads s es (raw s o) (39 ∷ o ∷ []) (39 ∷ [])
unfolding encode
one_quote_over s es o b l h n = rebase s es (Raw 39) (raw s o) (o ∷ []) [] (raw_leads s (es ++ Raw 39 ∷ []) o
    (record { base = base_quote s es b l (raw_39 s l) h; lf = λ e. last_is_last ends_in_cr es (Raw 39); quote = λ m e. absurd (n e) }))

two_quotes_over : (s : Style) (es : List Element) (o : ℕ) → Base s es → is_long s ≡ true → last_is is_raw_quote es ≡ false → o ≢ 39
    → Leads s es (raw s o) (39 ∷ 39 ∷ o ∷ []) (39 ∷ 39 ∷ [])
unfolding encode
two_quotes_over s es o b l h n =
    rebase s es (Raw 39) (raw s o) (39 ∷ o ∷ []) (39 ∷ []) (rebase s (es ++ Raw 39 ∷ []) (Raw 39) (raw s o) (o ∷ []) []
    (raw_leads s ((es ++ Raw 39 ∷ []) ++ Raw 39 ∷ []) o (record {
      base = base_quotes s es b l (raw_39 s l) h;
      lf = λ e. last_is_last ends_in_cr (es ++ Raw 39 ∷ []) (Raw 39);
      quote = λ m e. absurd (n e);
    })))

quote_pending : (s : Style) (es : List Element) (o : ℕ) (p q : List ℕ) → Base s es → last_is is_raw_quote es ≡ false → Part s Within.OneQuote p q
    → Leads s es (in_text s Within.OneQuote o) (p ++ o ∷ []) q
quote_pending s es o p q b h (l, e, f) = subst (λ x. Leads s es (in_text s Within.OneQuote o) (x ++ o ∷ []) q) (sym e)
    (subst (λ x. Leads s es (in_text s Within.OneQuote o) (39 ∷ o ∷ []) x) (sym f)
    (⊎_elim (λ (i : o ≡ 39). subst (λ (x : ℕ). Leads s es (in_text s Within.OneQuote x) (39 ∷ x ∷ []) (39 ∷ [])) (sym i)
    (tt, part_only s es Within.TwoQuotes (39 ∷ 39 ∷ []) (39 ∷ 39 ∷ []) b h (l, refl, refl)))
    (λ n. by_action s es (39 ∷ o ∷ []) (39 ∷ []) (as_raw s Within.OneQuote o n) (one_quote_over s es o b l h n)) (eq_or o 39)))

long_closes : (s : Style) (es : List Element) → Base s es → is_long s ≡ true → last_is is_raw_quote es ≡ false
    → Leads s es (close_long s) (39 ∷ 39 ∷ 39 ∷ []) (39 ∷ 39 ∷ [])
long_closes Style.LongString es b l h = (([], refl), tt, closed Style.LongString es (39 ∷ 39 ∷ 39 ∷ []) b (λ t. h) refl)
long_closes Style.LongClob es b l h = (([], refl), (tt, closed Style.LongClob es (39 ∷ 39 ∷ 39 ∷ []) b (λ t. h) refl))
long_closes _ es b l h = absurd (false≢true l)

quotes_pending : (s : Style) (es : List Element) (o : ℕ) (p q : List ℕ) → Base s es → last_is is_raw_quote es ≡ false → Part s Within.TwoQuotes p q
    → Leads s es (in_text s Within.TwoQuotes o) (p ++ o ∷ []) q
quotes_pending s es o p q b h (l, e, f) = subst (λ x. Leads s es (in_text s Within.TwoQuotes o) (x ++ o ∷ []) q) (sym e)
    (subst (λ x. Leads s es (in_text s Within.TwoQuotes o) (39 ∷ 39 ∷ o ∷ []) x) (sym f)
    (⊎_elim (λ (i : o ≡ 39). subst (λ (x : ℕ). Leads s es (in_text s Within.TwoQuotes x) (39 ∷ 39 ∷ x ∷ []) (39 ∷ 39 ∷ [])) (sym i) (long_closes s es b l h))
    (λ n. by_action s es (39 ∷ 39 ∷ o ∷ []) (39 ∷ 39 ∷ []) (as_raw s Within.TwoQuotes o n) (two_quotes_over s es o b l h n)) (eq_or o 39)))

-- one octet more, in each state
step_leads : (s : Style) (v : Within) (es : List Element) (o : ℕ) (p q : List ℕ) → Base s es → After s v es → Part s v p q
    → Leads s es (in_text s v o) (p ++ o ∷ []) q
step_leads s Within.Plain es o p q b a (e, f) = subst (λ l. Leads s es (raw s o) (l ++ o ∷ []) q) (sym e) (subst (λ l. Leads s es (raw s o) (o ∷ []) l) (sym f)
    (raw_leads s es o (record { base = b; lf = λ i. a.0; quote = λ l i. a.1 l })))
step_leads s Within.AfterReturn es o p q b a h = return_leads s es o p q b h
step_leads s Within.OneQuote es o p q b a h = quote_pending s es o p q b a h
step_leads s Within.TwoQuotes es o p q b a h = quotes_pending s es o p q b a h
step_leads s (Within.Utf8 left lo hi) es o p q b a (t, e, l, h) =
    subst (λ x. Leads s es (in_utf8 s left lo hi o) (p ++ o ∷ []) x) (sym e) (utf8_leads s es left lo hi o p b t l h)
step_leads s Within.Escape es o p q b a (e, f) = subst (λ l. Leads s es (in_escape s o) (l ++ o ∷ []) q) (sym e)
    (subst (λ l. Leads s es (in_escape s o) (92 ∷ o ∷ []) l) (sym f) (escape_leads s es o b))
step_leads s (Within.Hexadecimal d left m) es o p q b a (e, t, h) =
    subst (λ l. Leads s es (in_text s (Within.Hexadecimal d left m) o) (p ++ o ∷ []) l) (sym e)
    (digit_leads s es d left m o p (hexadecimal_digit o) b t (some_left d p left m h) h refl)
step_leads s (Within.HighSurrogate x) es o p q b a (e, t, first, f, h) =
    subst (λ l. Leads s es (in_text s (Within.HighSurrogate x) o) (l ++ o ∷ []) q) (sym f)
    (subst (λ l. Leads s es (in_text s (Within.HighSurrogate x) o) (92 ∷ 117 ∷ first ++ o ∷ []) l) (sym e)
    (⊎_elim (λ (i : o ≡ 92). subst (λ (o : ℕ). Leads s es (in_text s (Within.HighSurrogate x) o) (92 ∷ 117 ∷ first ++ o ∷ []) []) (sym i)
    (tt, part_only s es (Within.HighSurrogateEscape x) (92 ∷ 117 ∷ first ++ 92 ∷ []) [] b tt (refl, t, first, refl, h)))
    (λ n. by_action s es (92 ∷ 117 ∷ first ++ o ∷ []) [] (wrong o n) tt) (eq_or o 92)))
  where
    wrong : (o : ℕ) → o ≢ 92 → in_text s (Within.HighSurrogate x) o ≡ Action.Refuse Reason.BadEscape
    wrong o n = rw (ne_eqb o 92 n)
step_leads s (Within.HighSurrogateEscape x) es o p q b a (e, t, first, f, h) =
    subst (λ l. Leads s es (in_text s (Within.HighSurrogateEscape x) o) (l ++ o ∷ []) q) (sym f)
    (subst (λ l. Leads s es (in_text s (Within.HighSurrogateEscape x) o) ((92 ∷ 117 ∷ first ++ 92 ∷ []) ++ o ∷ []) l) (sym e)
    (⊎_elim (λ (i : o ≡ 117). subst (λ (o : ℕ). Leads s es (in_text s (Within.HighSurrogateEscape x) o) ((92 ∷ 117 ∷ first ++ 92 ∷ []) ++ o ∷ []) []) (sym i) (
      tt,
      part_only s es (Within.Hexadecimal (Digits.LowSurrogate x) 4 0) ((92 ∷ 117 ∷ first ++ 92 ∷ []) ++ 117 ∷ []) [] b tt
          (refl, t, (first, [], ap (λ l. 92 ∷ 117 ∷ l) (append_assoc first (92 ∷ []) (117 ∷ [])), h, (0, refl, omega arith, refl, inl refl))),
    ))
    (λ n. by_action s es ((92 ∷ 117 ∷ first ++ 92 ∷ []) ++ o ∷ []) [] (wrong o n) tt) (eq_or o 117)))
  where
    wrong : (o : ℕ) → o ≢ 117 → in_text s (Within.HighSurrogateEscape x) o ≡ Action.Refuse Reason.BadEscape
    wrong o n = rw (ne_eqb o 117 n)

-- what an action does to a text that was read so far, of which these octets are kept
abbrev pub LeadsText : Style → Action → List ℕ → List ℕ → Type 0
LeadsText s = LeadsBehind s [] []

-- One octet more of a text leads to what was read with it: more of the text, or all of it, or a refusal.
pub text_step : (s : Style) (v : Within) (o : ℕ) (w kept : List ℕ) → Reads s v w kept → LeadsText s (in_text s v o) (w ++ o ∷ []) kept
text_step s v o w kept h =
    let spelled : List ℕ = flat_map spelling h.elements in
    let means : List ℕ = flat_map (meaning s) h.elements in
    let octets : spelled ++ (h.p ++ o ∷ []) ≡ w ++ o ∷ [] = sym (ap (λ l. l ++ o ∷ []) h.spelled ∙ append_assoc spelled h.p (o ∷ [])) in
    subst (λ l. LeadsText s (in_text s v o) l kept) octets
    (subst (λ l. LeadsText s (in_text s v o) (spelled ++ (h.p ++ o ∷ [])) l) (sym h.means)
    (leads_over s [] [] spelled means (in_text s v o) (h.p ++ o ∷ []) h.q (step_leads s v h.elements o h.p h.q h.base h.after h.part)))

-- no octets are read as a text of which nothing is kept
pub reads_none : (s : Style) → Reads s Within.Plain [] []
reads_none s = record { elements = []; p = []; q = []; base = base_none s; after = (refl, λ l. refl); part = (refl, refl); spelled = refl; means = refl }
