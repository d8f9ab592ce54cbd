-- A token that has begun goes on from where it began, at least over the octets that are part of a token.
use Rattle.std.proofs.Common.{◌≡◌, ℕ, ◌+◌, ◌≤◌, ◌⊎◌, inl, inr, Bool, true, false, List, [], ◌∷◌, refl, ap, ◌∙◌, arith}
use Rattle.std.specs.Prelude.{◌==◌, ◌&&◌, not, nat_le, bytes_eq, codes}
use Rattle.std.proofs.lemmas.Bool.Decides.{nat_tests}
use Rattle.std.proofs.lemmas.Bool.{cond_both, leb-true}
use Rattle.ion_tokens.specs.Names.{Action, Given, Known, Left, Mode, Next, Outcome, Place, Refused, TokenKind, acts, behind, blob_of, feed, follow, is_idle, left_of, run, start_of}
use Rattle.ion_tokens.specs.machine.Table.{next}
use Rattle.ion_tokens.specs.laws.ByRows.{by_rows_where}
use Rattle.ion_tokens.proofs.runs.Runs.{blob_both}

-- The token goes on, or ends so late: so many octets at its end may turn out to be part of a comment.
abbrev late : ℕ → Action → Bool
late n (Action.Go m k) = nat_le (behind m) (n + 1) && not (is_idle m)
late n (Action.Give _ _) = true
late n (Action.Before _ _ m) = nat_le (left_of m) n
late n Action.EndWord = true
late n (Action.Split letters) = true
late n Action.EndBlob = true
late n (Action.Refuse e) = true

table_late : (p : Place) (colon : Bool) (m : Mode) (o : ℕ) → not (is_idle m) ≡ true → late (behind m) (next p colon m o) ≡ true
table_late = by_rows_where (λ m. not (is_idle m)) (λ sexp m. late (behind m)) (λ c t. refl)

-- A token that began at `start` and reaches to `end` goes on, or has ended behind that; or an operator has ended before letters of
-- `inf`, and they are a word that goes on.
unfoldable pub Reaches : ℕ → ℕ → Outcome → Type 0
Reaches start end (Next s) = (s.start ≡ start) × (is_idle s.mode ≡ false) × (end + behind s.mode ≤ s.used)
Reaches start end (Given l s) = (l.start ≡ start) × (end ≤ l.end)
Reaches start end (Left l s) = (l.start ≡ start) × ((end ≤ l.end)
    ⊎ ((l.kind ≡ TokenKind.Operator) × (s.start ≡ l.end) × (is_idle s.mode ≡ false) × (end + behind s.mode ≤ s.used)))
Reaches start end (Refused n e) = Unit {0}

-- where a token has begun, its start stays
pub begun_stays : (m : Mode) (start used : ℕ) → is_idle m ≡ false → start_of m start used ≡ start
begun_stays Mode.Blank start used h = cc
begun_stays Mode.Slash start used h = cc
begun_stays _ start used h = refl

module _ (p : Place) (s : Known) (o : ℕ) (start end : ℕ) (begun : is_idle s.mode ≡ false) (from : s.start ≡ start)
    (reached : end + behind s.mode ≤ s.used) where
  same_start : start_of s.mode s.start s.used ≡ start
  same_start = begun_stays s.mode s.start s.used begun ∙ from

  acts_reaches : (a : Action) → late (behind s.mode) a ≡ true → Reaches start end (acts p s o a)
  unfolding Reaches
  acts_reaches (Action.Go m k) h = let parts = goes_parts (behind m) (behind s.mode) (is_idle m) h in
      (same_start, parts.1, omega (arith, reached, parts.0)) where
        goes_parts : (x y : ℕ) (i : Bool) → (nat_le x (y + 1) && not i) ≡ true → (x ≤ y + 1) × (i ≡ false)
        goes_parts x y i h = grind (arith, nat_tests)
  acts_reaches (Action.Give _ _) h = (same_start, omega (arith, reached))
  acts_reaches (Action.Before _ _ m) h = (same_start, inl (omega (arith, reached, leb-true (left_of m) (behind s.mode) h)))
  acts_reaches Action.EndWord h =
      cond_both ((o == 46) && bytes_eq s.kept (codes "null")) _ _ (Reaches start end) (λ _. (same_start, refl, omega (arith, reached)))
      (λ _. (same_start, inl (omega (arith, reached))))
  acts_reaches (Action.Split n) h = (same_start, inr (refl, refl, refl, omega (arith, reached)))
  acts_reaches Action.EndBlob h = blob_both (Reaches start end) s (blob_of s.kept) tt (λ _. (same_start, refl, omega (arith, reached)))
  acts_reaches (Action.Refuse e) h = tt

  feed_reaches : Reaches start end (feed p s o)
  feed_reaches = acts_reaches (next p s.colon s.mode o) (table_late p s.colon s.mode o (ap not begun))

follow_reaches : (x : Outcome) (f : Known → Outcome) (start end : ℕ) → Reaches start end x
    → ((s : Known) → Reaches start end (Next s) → Reaches start end (f s)) → Reaches start end (follow x f)
follow_reaches (Next s) f start end h k = k s h
follow_reaches _ f start end h k = h

-- what comes of more octets
pub run_reaches : (p : Place) (os : List ℕ) (s : Known) (start end : ℕ) → Reaches start end (Next s) → Reaches start end (run p os s)
unfolding Reaches
run_reaches p [] s start end h = h
run_reaches p (o ∷ os) s start end h = follow_reaches (feed p s o) (λ t. run p os t) start end (one h) (λ t k. run_reaches p os t start end k) where
  one : Reaches start end (Next s) → Reaches start end (feed p s o)
  one (from, begun, reached) = feed_reaches p s o start end begun from reached
