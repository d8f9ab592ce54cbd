-- Elements one behind the other: where a CR or raw quotes stand last.
use Rattle.std.proofs.Common.{◌≡◌, ℕ, ◌+◌, ◌<◌, Bool, true, false, List, [], ◌∷◌, ◌++◌, refl, sym, ap, ◌∙◌, subst, arith, append_assoc, cond}
use Rattle.std.specs.List.{flat_map, AllByRecursion}
use Rattle.ion_tokens.specs.Names.{ClosesFirst, CrTakesLf, Element, IsElement, IsQuoted, Style, ends_in_cr, is_long, is_raw_lf, is_raw_quote, meaning, quotes, spelling}
use Rattle.ion_tokens.specs.laws.Each.{all_last}

-- the last element is there, and is so
abbrev pub last_is : (Element → Bool) → List Element → Bool
last_is f [] = false
last_is f (e ∷ []) = f e
last_is f (e ∷ g ∷ es) = last_is f (g ∷ es)

-- the last element is the one that was added last
pub last_is_last : (f : Element → Bool) (es : List Element) (e : Element) → last_is f (es ++ e ∷ []) ≡ f e
last_is_last f [] e = refl
last_is_last f (x ∷ []) e = refl
last_is_last f (x ∷ y ∷ es) e = last_is_last f (y ∷ es) e

-- the raw quotes at the front
abbrev pub run_of : List Element → ℕ
run_of [] = 0
run_of (e ∷ es) = cond (is_raw_quote e) (1 + run_of es) 0

-- nowhere three raw quotes in a row
abbrev pub Few : List Element → Type 0
Few [] = Unit {0}
Few (e ∷ es) = (run_of (e ∷ es) < 3) × Few es

run_more : (es : List Element) (e : Element) → is_raw_quote e ≡ false → run_of (es ++ e ∷ []) ≡ run_of es
run_more [] e h = ap (λ b. cond b 1 0) h
run_more (x ∷ es) e h = ap (λ (n : ℕ). cond (is_raw_quote x) (1 + n) 0) (run_more es e h)

few_more : (es : List Element) (e : Element) → is_raw_quote e ≡ false → Few es → Few (es ++ e ∷ [])
few_more [] e h f = (subst (λ b. cond b 1 0 < 3) (sym h) (omega arith), tt)
few_more (x ∷ es) e h f = (subst (λ (n : ℕ). cond (is_raw_quote x) (1 + n) 0 < 3) (sym (run_more es e h)) f.0, few_more es e h f.1)

run_front : (e : Element) (es more : List Element) → last_is is_raw_quote (e ∷ es) ≡ false → run_of (e ∷ es ++ more) ≡ run_of (e ∷ es)
run_front e [] more h = ap (λ b. cond b (1 + run_of more) 0) h ∙ sym (ap (λ b. cond b 1 0) h)
run_front e (f ∷ es) more h = ap (λ (n : ℕ). cond (is_raw_quote e) (1 + n) 0) (run_front f es more h)

-- behind an element that is no raw quote
pub few_append : (es more : List Element) → last_is is_raw_quote es ≡ false → Few es → Few more → Few (es ++ more)
few_append [] more h f g = g
few_append (e ∷ []) more h f g = (subst (λ (n : ℕ). n < 3) (sym (run_front e [] more h)) f.0, g)
few_append (e ∷ x ∷ es) more h f g = (subst (λ (n : ℕ). n < 3) (sym (run_front e (x ∷ es) more h)) f.0, few_append (x ∷ es) more h f.1 g)

quotes_run : (e : Element) (es : List Element) → last_is is_raw_quote (e ∷ es) ≡ false → quotes (e ∷ es) ≡ run_of (e ∷ es)
quotes_run e [] h = ap (λ b. cond b (1 + quotes []) 0) h ∙ sym (ap (λ b. cond b 1 0) h)
quotes_run e (f ∷ es) h = ap (λ (n : ℕ). cond (is_raw_quote e) (1 + n) 0) (quotes_run f es h)

closes_first : (es : List Element) → last_is is_raw_quote es ≡ false → Few es → ClosesFirst es
closes_first [] h f = tt
closes_first (e ∷ []) h f = (subst (λ (n : ℕ). n < 3) (sym (quotes_run e [] h)) f.0, tt)
closes_first (e ∷ x ∷ es) h f = (subst (λ (n : ℕ). n < 3) (sym (quotes_run e (x ∷ es) h)) f.0, closes_first (x ∷ es) h f.1)

crs_more : (es : List Element) (e : Element) → (last_is ends_in_cr es ≡ true → is_raw_lf e ≡ false) → CrTakesLf es → CrTakesLf (es ++ e ∷ [])
crs_more [] e h c = tt
crs_more (x ∷ []) e h c = (h, tt)
crs_more (x ∷ y ∷ es) e h c = (c.0, crs_more (y ∷ es) e h c.1)

-- elements of a text that may go on
pub record Base (s : Style) (es : List Element) : Type 0 where
  pub each : AllByRecursion (IsElement s) es
  pub crs : CrTakesLf es
  pub few : is_long s ≡ true → Few es

-- no elements are a text that may go on
pub base_none : (s : Style) → Base s []
base_none s = record { each = tt; crs = tt; few = λ l. tt }

-- one more element, which splits no CR LF and is no long text's quote, leaves a text that may go on
pub base_more : (s : Style) (es : List Element) (e : Element) → Base s es → IsElement s e → (last_is ends_in_cr es ≡ true → is_raw_lf e ≡ false)
    → (is_long s ≡ true → is_raw_quote e ≡ false) → Base s (es ++ e ∷ [])
base_more s es e b i lf quote =
    record { each = all_last (IsElement s) es e b.each i; crs = crs_more es e lf b.crs; few = λ l. few_more es e (quote l) (b.few l) }

-- a raw quote of a long text, behind at most one
pub base_quote : (s : Style) (es : List Element) → Base s es → is_long s ≡ true → IsElement s (Element.Raw 39) → last_is is_raw_quote es ≡ false
    → Base s (es ++ Element.Raw 39 ∷ [])
base_quote s es b l i h = record {
  each = all_last (IsElement s) es (Element.Raw 39) b.each i;
  crs = crs_more es (Element.Raw 39) (λ c. refl) b.crs;
  few =
      λ m. few_append es (Element.Raw 39 ∷ []) h (b.few l) (omega arith, tt);
}

-- two raw quotes of a long text, behind none
pub base_quotes : (s : Style) (es : List Element) → Base s es → is_long s ≡ true → IsElement s (Element.Raw 39) → last_is is_raw_quote es ≡ false
    → Base s ((es ++ Element.Raw 39 ∷ []) ++ Element.Raw 39 ∷ [])
base_quotes s es b l i h = record {
  each = all_last (IsElement s) (es ++ Element.Raw 39 ∷ []) (Element.Raw 39) (all_last (IsElement s) es (Element.Raw 39) b.each i) i;
  crs = crs_more (es ++ Element.Raw 39 ∷ []) (Element.Raw 39) (λ c. refl) (crs_more es (Element.Raw 39) (λ c. refl) b.crs);
  few = λ m. subst Few (sym (append_assoc es (Element.Raw 39 ∷ []) (Element.Raw 39 ∷ [])))
      (few_append es (Element.Raw 39 ∷ Element.Raw 39 ∷ []) h (b.few l) (omega arith, (omega arith, tt)));
}

-- up to the quotes that close them, they are a text
pub quoted : (s : Style) (es : List Element) → Base s es → (is_long s ≡ true → last_is is_raw_quote es ≡ false)
    → IsQuoted s (flat_map spelling es) (flat_map (meaning s) es)
quoted s es b h = record { elements = es; each = b.each; crs = b.crs; close = λ l. closes_first es (h l) (b.few l); spelled = refl; means = refl }
