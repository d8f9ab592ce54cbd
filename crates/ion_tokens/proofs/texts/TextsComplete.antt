-- A quoted text is read as what it means, up to the quotes that close it.
use Rattle.std.proofs.Common.{◌≡◌, ◌≢◌, ℕ, ◌+◌, ◌<◌, ◌⊎◌, inl, inr, ⊎_elim, Bool, true, false, List, [], ◌∷◌, ◌++◌, refl, sym, ap, ◌∙◌, subst, arith, append_assoc, append-nil, IsTrue}
use Rattle.std.specs.List.{flat_map, AllByRecursion}
use Rattle.std.proofs.lemmas.Bool.Decides.{nat_tests}
use Rattle.std.proofs.lemmas.Bool.{true≢false}
use lib.Utf8.{encode, scalar_cases}
use Rattle.ion_tokens.specs.Names.{ClosesFirst, Cr, CrLf, CrTakesLf, Element, Hex, Hidden, IsElement, IsQuoted, IsRaw, Keep, Lf, LineEnd, Pair, Place, Raw, RawLine, Simple, Style, Within, ends_in_cr, is_long, is_raw_lf, meaning, quote_of, quotes, spelling}
use Rattle.ion_tokens.proofs.texts.Encodings.{encoding, order}
use Rattle.ion_tokens.proofs.texts.TextElements.{GoesInText, goes_one, goes_slash, read_hex, read_pair, read_raw}
use Rattle.ion_tokens.proofs.texts.TextSteps.{Admits, as_raw, in_simple, raw_cr, raw_lf, raw_quote}
use Rattle.ion_tokens.proofs.complete.Moves.{moves_none, moves_then, moves_to}

-- the first is no raw LF
abbrev pub NoLf : List Element → Type 0
NoLf [] = Unit {0}
NoLf (e ∷ es) = is_raw_lf e ≡ false

-- these elements may follow
abbrev pub Ready : Style → Within → List Element → Type 0
Ready s Within.Plain es = Unit {0}
Ready s Within.AfterReturn es = NoLf es
Ready s Within.OneQuote es = (is_long s ≡ true) × (1 + quotes es < 3)
Ready s Within.TwoQuotes es = (is_long s ≡ true) × (2 + quotes es < 3)
Ready s _ es = ⊥

-- the quote of a long text is `'`
pub long_quote : (s : Style) → is_long s ≡ true → quote_of s ≡ 39
long_quote Style.LongString h = refl
long_quote Style.LongClob h = refl
long_quote _ h = cc

-- a test holds or fails
pub bool_cases : (b : Bool) → (b ≡ true) ⊎ (b ≡ false)
bool_cases true = inl refl
bool_cases false = inr refl

-- two numbers are the same or differ
pub eq_or : (a b : ℕ) → (a ≡ b) ⊎ (a ≢ b)
eq_or a b = ⊎_elim (λ l. inr (λ e. omega arith)) (λ l. ⊎_elim (λ m. inr (λ e. omega arith)) (λ m. inl (omega arith)) (order b a)) (order a b)

-- a backslash may always follow
ready_slash : (s : Style) (w : Within) (es : List Element) → Ready s w es → Admits w 92
ready_slash s Within.Plain es h = tt
ready_slash s Within.AfterReturn es h = λ e. omega arith
ready_slash s Within.OneQuote es h = λ e. omega arith
ready_slash s Within.TwoQuotes es h = λ e. omega arith
ready_slash s _ es h = h

ready_octet : (s : Style) (w : Within) (es : List Element) (o : ℕ) → Ready s w es → o ≢ 10 → (is_long s ≡ true → o ≢ 39) → Admits w o
ready_octet s Within.Plain es o h n q = tt
ready_octet s Within.AfterReturn es o h n q = n
ready_octet s Within.OneQuote es o h n q = q h.0
ready_octet s Within.TwoQuotes es o h n q = q h.0
ready_octet s _ es o h n q = h

-- a raw line end may follow
ready_line : (s : Style) (w : Within) (e : LineEnd) (es : List Element) (o : ℕ) → Ready s w (RawLine e ∷ es) → (is_raw_lf (RawLine e) ≡ false → o ≢ 10) → o ≢ 39
    → Admits w o
ready_line s Within.Plain e es o h n q = tt
ready_line s Within.AfterReturn e es o h n q = n h
ready_line s Within.OneQuote e es o h n q = q
ready_line s Within.TwoQuotes e es o h n q = q
ready_line s _ e es o h n q = h

behind_cr : (e : Element) (es : List Element) → IsTrue (ends_in_cr e) → CrTakesLf (e ∷ es) → NoLf es
behind_cr e [] h c = tt
behind_cr e (f ∷ es) h c = c.0 h

-- an element is read, and those behind it may follow
abbrev ReadsElement : Place → Style → Within → List ℕ → Element → List Element → Type 0
ReadsElement p s w kept e es = (v : Within) × Ready s v es × GoesInText p s w kept (spelling e) v (kept ++ meaning s e)

-- a long string's raw quote
read_quote : (p : Place) (s : Style) (w : Within) (kept : List ℕ) (es : List Element) → is_long s ≡ true → Ready s w (Raw 39 ∷ es) → 1 + quotes es < 3
    → ReadsElement p s w kept (Raw 39) es
unfolding encode
read_quote p s Within.Plain kept es long h room = (
  Within.OneQuote,
  (long, room),
  goes_one p s Within.Plain 39 kept Within.OneQuote (Keep.One 39) (raw_quote s long),
)
read_quote p s Within.AfterReturn kept es long h room = (
  Within.OneQuote,
  (long, room),
  goes_one p s Within.AfterReturn 39 kept Within.OneQuote (Keep.One 39)
      (raw_quote s long),
)
read_quote p s Within.OneQuote kept es long h room = (
  Within.TwoQuotes,
  (long, omega (arith, h.1)),
  goes_one p s Within.OneQuote 39 kept Within.TwoQuotes (Keep.One 39) refl,
)
read_quote p s Within.TwoQuotes kept es long h room = absurd (omega (arith, h.1))
read_quote p s _ kept es long h room = absurd h

read_plain : (p : Place) (s : Style) (w : Within) (kept : List ℕ) (c : ℕ) (es : List Element) → (is_long s ≡ true → c ≢ 39) → Ready s w (Raw c ∷ es) → IsRaw s c
    → ReadsElement p s w kept (Raw c) es
read_plain p s w kept c es q h i =
    let no_quote : c ≢ quote_of s = ⊎_elim (λ l. ⊎_elim (λ long e. q long (e ∙ long_quote s long)) (λ short. absurd (true≢false (sym l ∙ short)))
    (bool_cases (is_long s))) (λ n. n) i.2 in (
      Within.Plain,
      tt,
      read_raw p s c w kept
          (λ o is. ready_octet s w (Raw c ∷ es) o h (⊎_elim (λ e. grind (arith, nat_tests)) (λ l e. omega arith) is)
          (λ long. ⊎_elim (λ e f. q long (sym e ∙ f)) (λ l e. omega arith) is))
          i.0 i.1 no_quote i.3 i.4 (encoding c (scalar_cases c i.0)),
    )

read_character : (p : Place) (s : Style) (w : Within) (kept : List ℕ) (c : ℕ) (es : List Element) → Ready s w (Raw c ∷ es) → IsRaw s c
    → (IsTrue (is_long s) → ClosesFirst (Raw c ∷ es)) → ReadsElement p s w kept (Raw c) es
read_character p s w kept c es h i closes =
    ⊎_elim (λ long. ⊎_elim (λ e. quote long e) (λ n. read_plain p s w kept c es (λ _. n) h i) (eq_or c 39))
    (λ short. read_plain p s w kept c es (λ l. absurd (true≢false (sym l ∙ short))) h i) (bool_cases (is_long s))
  where
    quote : is_long s ≡ true → c ≡ 39 → ReadsElement p s w kept (Raw c) es
    quote long e =
        let room : quotes (Raw 39 ∷ es) < 3 = subst (λ (x : ℕ). quotes (Raw x ∷ es) < 3) e (closes long).0 in
        subst (λ (x : ℕ). ReadsElement p s w kept (Raw x) es) (sym e) (read_quote p s w kept es long (subst (λ (x : ℕ). Ready s w (Raw x ∷ es)) e h) room)

read_line : (p : Place) (s : Style) (w : Within) (kept : List ℕ) (e : LineEnd) (es : List Element) → Ready s w (RawLine e ∷ es) → is_long s ≡ true
    → CrTakesLf (RawLine e ∷ es) → ReadsElement p s w kept (RawLine e) es
read_line p s w kept Lf es h long crs = (
  Within.Plain,
  tt,
  goes_one p s w 10 kept Within.Plain (Keep.One 10) (as_raw s w 10 (ready_line s w Lf es 10 h (λ f. absurd (true≢false f)) (λ e. omega arith))
      ∙ raw_lf s long),
)
read_line p s w kept Cr es h long crs = (
  Within.AfterReturn,
  behind_cr (RawLine Cr) es refl crs,
  goes_one p s w 13 kept Within.AfterReturn (Keep.One 10) (as_raw s w 13 (ready_line s w Cr es 13 h (λ f e. omega arith) (λ e. omega arith))
      ∙ raw_cr s long),
)
read_line p s w kept CrLf es h long crs = (
  Within.Plain,
  tt,
  moves_then
      (goes_one p s w 13 kept Within.AfterReturn (Keep.One 10) (as_raw s w 13 (ready_line s w CrLf es 13 h (λ f e. omega arith) (λ e. omega arith))
      ∙ raw_cr s long)) (goes_one p s Within.AfterReturn 10 (kept ++ 10 ∷ []) Within.Plain Keep.Nothing refl),
)

read_hidden : (p : Place) (s : Style) (w : Within) (kept : List ℕ) (e : LineEnd) (es : List Element) → Ready s w (Hidden e ∷ es) → CrTakesLf (Hidden e ∷ es)
    → ReadsElement p s w kept (Hidden e) es
read_hidden p s w kept Lf es h crs = (
  Within.Plain,
  tt,
  moves_to (sym (append-nil kept)) (goes_slash (ready_slash s w _ h) (goes_one p s Within.Escape 10 kept Within.Plain Keep.Nothing refl)),
)
read_hidden p s w kept Cr es h crs = (
  Within.AfterReturn,
  behind_cr (Hidden Cr) es refl crs,
  moves_to (sym (append-nil kept)) (goes_slash (ready_slash s w _ h) (goes_one p s Within.Escape 13 kept Within.AfterReturn Keep.Nothing refl)),
)
read_hidden p s w kept CrLf es h crs = (
  Within.Plain,
  tt,
  moves_to (sym (append-nil kept)) (goes_slash (ready_slash s w _ h) (moves_then
      (goes_one p s Within.Escape 13 kept Within.AfterReturn Keep.Nothing refl) (goes_one p s Within.AfterReturn 10 kept Within.Plain Keep.Nothing refl))),
)

read_element : (p : Place) (s : Style) (w : Within) (kept : List ℕ) (e : Element) (es : List Element) → Ready s w (e ∷ es) → IsElement s e → CrTakesLf (e ∷ es)
    → (IsTrue (is_long s) → ClosesFirst (e ∷ es)) → ReadsElement p s w kept e es
read_element p s w kept (Raw c) es h i crs closes = read_character p s w kept c es h i closes
read_element p s w kept (RawLine e) es h i crs closes = read_line p s w kept e es h i crs
read_element p s w kept (Simple letter o) es h i crs closes = (
  Within.Plain,
  tt,
  goes_slash (ready_slash s w _ h) (goes_one p s Within.Escape letter kept Within.Plain (Keep.One o) (in_simple s letter o i)),
)
read_element p s w kept (Hidden e) es h i crs closes = read_hidden p s w kept e es h crs
read_element p s w kept (Hex letter os c) es h i crs closes = (Within.Plain, tt, read_hex p s w kept letter os c (ready_slash s w _ h) i)
read_element p s w kept (Pair first second high low) es h i crs closes = (Within.Plain, tt, read_pair p s w kept first second high low (ready_slash s w _ h) i)

-- before the quotes that close
abbrev pub Ended : Within → Type 0
Ended Within.Plain = Unit {0}
Ended Within.AfterReturn = Unit {0}
Ended _ = ⊥

ended : (s : Style) (w : Within) → Ready s w [] → Ended w
ended s Within.Plain h = tt
ended s Within.AfterReturn h = tt
ended s Within.OneQuote h = omega (arith, h.1)
ended s Within.TwoQuotes h = omega (arith, h.1)
ended s _ h = h

more_crs : (e : Element) (es : List Element) → CrTakesLf (e ∷ es) → CrTakesLf es
more_crs e [] h = tt
more_crs e (f ∷ es) h = h.1

read_elements : (p : Place) (s : Style) (es : List Element) (w : Within) (kept : List ℕ) → Ready s w es → AllByRecursion (IsElement s) es → CrTakesLf es
    → (IsTrue (is_long s) → ClosesFirst es)
    → (v : Within) × Ended v × GoesInText p s w kept (flat_map spelling es) v (kept ++ flat_map (meaning s) es)
read_elements p s [] w kept h each crs closes = (w, ended s w h, moves_to (sym (append-nil kept)) (moves_none))
read_elements p s (e ∷ es) w kept h each crs closes =
    let first = read_element p s w kept e es h each.0 crs closes in
    let rest = read_elements p s es first.0 (kept ++ meaning s e) first.1 each.1 (more_crs e es crs) (λ l. (closes l).1) in (
      rest.0,
      rest.1,
      moves_to (append_assoc kept (meaning s e) (flat_map (meaning s) es)) (moves_then
          first.2 rest.2),
    )

-- What stands between the quotes is read, up to them.
pub read_content : (p : Place) (s : Style) (content octets kept : List ℕ) → IsQuoted s content octets → (v : Within) × Ended v
    × GoesInText p s Within.Plain kept content v (kept ++ octets)
read_content p s content octets kept q =
    let r = read_elements p s q.elements Within.Plain kept tt q.each q.crs q.close in (
      r.0,
      r.1,
      subst (λ l. GoesInText p s Within.Plain kept l r.0 (kept ++ octets)) (sym q.spelled) (moves_to (ap (λ l. kept ++ l) (sym q.means)) r.2),
    )
