-- Tokens that close the open container end behind the octets before which they are looked for.
use Rattle.std.proofs.Common.{◌≡◌, ℕ, ◌+◌, ◌-◌, ◌≤◌, ◌<◌, Bool, true, false, List, [], ◌∷◌, length, drop, sym, ◌∙◌, subst, arith, ◌⊎◌, inl, inr}
use Rattle.std.proofs.lemmas.List.{length-drop}
use Rattle.ion_text.specs.Names.{Catalog, Given, Known, Left, LexesTo, Limits, Next, Outcome, Place, Placed, Reading, Refused, Value, colon_behind, end_of, feed, follow, is_top, scan as run}
use Rattle.ion_tokens.proofs.complete.Found.{Gives, Last, Leaves, Nothing, Unclosed}
use Rattle.ion_tokens.proofs.runs.Runs.{given_used, left_used, next_used}
use Rattle.ion_text.specs.laws.reading.complete.Going.{Going, Operators, inside_end, next_inside}
use Rattle.ion_text.specs.laws.reading.complete.Meets.{end_spans}
use Rattle.ion_text.specs.laws.reading.sound.Quotes.{Fine, Finely, feed_fine, is_close}
use Rattle.ion_text.specs.laws.showing.tokens.Compare.{Found', unclosed_never}
use Rattle.ion_text.specs.laws.showing.tokens.Cuts.{lexed_front}

-- one of the tokens ends behind so many octets
abbrev pub PastIn : ℕ → List Placed → Type 0
PastIn n [] = ⊥
PastIn n (t ∷ ts) = (n < t.lexeme.end) ⊎ PastIn n ts

-- none does where the last one doesn't
pub never_past : (n : ℕ) (ts : List Placed) (colon : Bool) (before : ℕ) (octets : List ℕ) (after : Bool) (end : ℕ) (rest : List ℕ)
    → LexesTo colon before octets ts after end rest → end ≤ n → PastIn n ts → ⊥
never_past n [] colon before octets after end rest h k p = p
never_past n (t ∷ ts) colon before octets after end rest (q, b, h) k (inl p) = let x = lexed_front ts (colon_behind t) t.lexeme.end q after end rest h in
    absurd (omega (arith, x.2, k, p))
never_past n (t ∷ ts) colon before octets after end rest (q, b, h) k (inr p) = never_past n ts (colon_behind t) t.lexeme.end q after end rest h k p

-- what a run comes to
abbrev RunFine : Outcome → Type 0
RunFine (Next t) = Fine t
RunFine (Given x t) = Fine t × (x.end ≡ t.used)
RunFine (Left x t) = Fine t × (is_close x.kind ≡ false)
RunFine (Refused n e) = Unit {0}

run_fine : (p : Place) (os : List ℕ) (s : Known) → Fine s → RunFine (run p os s)
run_fine p [] s h = h
run_fine p (o ∷ os) s h = go (feed p s o) (feed_fine p s o h) (λ t k. run_fine p os t k)
  where
    go : (x : Outcome) → Finely s.mode x → ((t : Known) → Fine t → RunFine (run p os t)) → RunFine (follow x (λ t. run p os t))
    go (Next t) k f = f t k
    go (Given x t) k f = (k.0, k.4)
    go (Left x t) k f = (k.0, k.5)
    go (Refused n e) k f = tt

module _ (R : Known → List ℕ → Type 0) (g : Catalog) (l : Limits) (n : ℕ) where
  -- Where a container is open, what closes it ends with an octet that is used.
  pub closes_past : (s : Known) (octets : List ℕ) (ts : List Placed) → Found' R s octets ts → Fine s → Operators ts → n ≤ s.used → n < s.used + length octets
      → (r : Reading) (all : List Value) → is_top r.frames ≡ false → Going g l r ts all → PastIn n ts
  closes_past _ _ _ (Nothing s octets h) f ops a b r all top d = absurd (inside_end g l r all top d)
  closes_past _ _ _ (Last s octets t s' ran at) f ops a b r all top d =
      next_inside g l r t [] all top d (λ m rest k i x. absurd (inside_end g l m rest k x))
      (λ k i. let x = end_spans s' (end_of t.place s'.mode) t.lexeme at in inl (omega (arith, x.1, next_used t.place octets s s' (sym ran), b)))
  closes_past _ _ _ (Gives s octets t ts s' ran rest) f ops a b r all top d =
      let fine : Fine s' × (t.lexeme.end ≡ s'.used) = subst RunFine ran (run_fine t.place octets s f) in
      let used = given_used t.place octets s s' t.lexeme (sym ran) in
      next_inside g l r t ts all top d
      (λ m others k i x. inr (closes_past s' (drop (s'.used - s.used) octets) ts rest fine.0 ops.1 (omega (arith, a, used.0))
      (omega (arith, b, used.0, used.1, length-drop (s'.used - s.used) octets)) m others k x))
      (λ k i. inl (omega (arith, fine.1, used.0, a)))
  closes_past _ _ _ (Leaves s octets t ts s' ran rest) f ops a b r all top d =
      let fine : Fine s' × (is_close t.lexeme.kind ≡ false) = subst RunFine ran (run_fine t.place octets s f) in
      let used = left_used t.place octets s s' t.lexeme (sym ran) in
      next_inside g l r t ts all top d
      (λ m others k i x. inr (closes_past s' (drop (s'.used - s.used) octets) ts rest fine.0 ops.1 (omega (arith, a, used.0))
      (omega (arith, b, used.0, used.1, length-drop (s'.used - s.used) octets)) m others k x))
      (λ k i. absurd (let never : true ≡ false = sym i ∙ fine.1 in cc))
  closes_past _ _ _ (Unclosed s octets t ts s' colon letters bare ran at first operator rest) f ops a b r all top d =
      absurd (unclosed_never R g l t ts letters colon t.lexeme.end s'.used r all operator rest ops d)
