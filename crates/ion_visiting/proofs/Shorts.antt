-- Short texts: what their numbers spell.
use Rattle.std.proofs.Common.{◌≡◌, ◌+◌, ◌-◌, ◌/◌, ◌≤◌, ◌<◌, ℕ, List, [], ◌∷◌, ◌++◌, cond, drop, length, take, refl, ap, sym, ◌∙◌, arith}
use Rattle.std.specs.Prelude.{slice_index}
use Rattle.std.specs.Int.{to_le_bytes, w32, w64}
use Rattle.std.proofs.lemmas.Bool.{le-leb, lt-leb}
use Rattle.std.proofs.lemmas.List.{drop_all, drop_more, take-append-drop, take-take}
use Rattle.ion_visiting.specs.Names.{Short}
use Rattle.ion_visiting.specs.Tapes.{short_text}

-- 1. Octets that stand in a row.

one_there : (text : List ℕ) (i j : ℕ) → i < length text → i + 1 ≡ j → drop i text ≡ slice_index text i ∷ drop j text
one_there text i j small next = drop_more text i 0 small ∙ ap (λ k. slice_index text i ∷ drop k text) next

four_there : (text : List ℕ) (i : ℕ) → i + 4 ≤ length text
    → drop i text ≡ slice_index text i ∷ slice_index text (i + 1) ∷ slice_index text (i + 2) ∷ slice_index text (i + 3) ∷ drop (i + 4) text
four_there text i long =
    one_there text i (i + 1) (omega (arith, long)) refl
    ∙ ap (λ xs. slice_index text i ∷ xs) (one_there text (i + 1) (i + 2) (omega (arith, long)) (omega arith)
    ∙ ap (λ xs. slice_index text (i + 1) ∷ xs) (one_there text (i + 2) (i + 3) (omega (arith, long)) (omega arith)
    ∙ ap (λ xs. slice_index text (i + 2) ∷ xs) (one_there text (i + 3) (i + 4) (omega (arith, long)) (omega arith))))

-- 2. What is made of a text spells it.

-- the first octets up to the last four, and these
both_ends : (text : List ℕ) (s : Short) (m : ℕ) → s.count ≡ length text → 4 ≤ length text → length text - 4 ≤ m
    → take m (to_le_bytes w64 s.first) ≡ take m text
    → to_le_bytes w32 s.last ≡ slice_index text (length text - 4) ∷ slice_index text (length text - 4 + 1) ∷ slice_index text (length text - 4 + 2)
    ∷ slice_index text (length text - 4 + 3) ∷ [] → short_text s ≡ text
both_ends text s m long few reach front back =
    let n = length text - 4 in
    let w = to_le_bytes w64 s.first in
    let l = to_le_bytes w32 s.last in
    let cut : take n w ≡ take n text = sym (take-take n m w reach) ∙ (ap (take n) front ∙ take-take n m text reach) in
    let rest : l ≡ drop n text = back ∙ sym (four_there text n (omega (arith, few))
    ∙ ap (λ xs. slice_index text n ∷ slice_index text (n + 1) ∷ slice_index text (n + 2) ∷ slice_index text (n + 3) ∷ xs) (drop_all (n + 4) text (omega arith))) in
    ap (λ b. cond b (take (s.count - 4) w ++ l) (take s.count w)) (le-leb 4 s.count (omega (arith, long, few)))
    ∙ (ap (λ k. take (k - 4) w ++ l) long ∙ (ap (λ x. x ++ l) cut ∙ (ap (λ x. take n text ++ x) rest ∙ take-append-drop n text)))

pub eight_ends : (text : List ℕ) (s : Short) → s.count ≡ length text → 8 ≤ length text → length text ≤ 12
    → to_le_bytes w64 s.first ≡ slice_index text 0 ∷ slice_index text 1 ∷ slice_index text 2 ∷ slice_index text 3 ∷ slice_index text 4
    ∷ slice_index text 5 ∷ slice_index text 6 ∷ slice_index text 7 ∷ []
    → to_le_bytes w32 s.last ≡ slice_index text (length text - 4) ∷ slice_index text (length text - 4 + 1) ∷ slice_index text (length text - 4 + 2)
    ∷ slice_index text (length text - 4 + 3) ∷ [] → short_text s ≡ text
eight_ends text s long low high front back =
    let more = ap (λ xs. slice_index text 0 ∷ slice_index text 1 ∷ slice_index text 2 ∷ slice_index text 3 ∷ xs) (four_there text 4 (omega (arith, low))) in
    both_ends text s 8 long (omega (arith, low)) (omega (arith, high))
    (ap (take 8) front ∙ ap (take 8) (sym (four_there text 0 (omega (arith, low)) ∙ more))) back

pub four_ends : (text : List ℕ) (s : Short) → s.count ≡ length text → 4 ≤ length text → length text ≤ 8
    → to_le_bytes w32 s.first ≡ slice_index text 0 ∷ slice_index text 1 ∷ slice_index text 2 ∷ slice_index text 3 ∷ []
    → to_le_bytes w32 s.last ≡ slice_index text (length text - 4) ∷ slice_index text (length text - 4 + 1) ∷ slice_index text (length text - 4 + 2)
    ∷ slice_index text (length text - 4 + 3) ∷ [] → short_text s ≡ text
four_ends text s long low high front back =
    both_ends text s 4 long low (omega (arith, high)) (front ∙ ap (take 4) (sym (four_there text 0 (omega (arith, low))))) back

pub few_ends : (text : List ℕ) (s : Short) → s.count ≡ length text → length text < 4 → take (length text) (to_le_bytes w64 s.first) ≡ text
    → short_text s ≡ text
few_ends text s long few is =
    ap (λ b. cond b (take (s.count - 4) (to_le_bytes w64 s.first) ++ to_le_bytes w32 s.last) (take s.count (to_le_bytes w64 s.first)))
    (lt-leb 4 s.count (omega (arith, long, few)))
    ∙ (ap (λ n. take n (to_le_bytes w64 s.first)) long ∙ is)

-- 3. Texts of fewer than four octets.

pub few_spelled : (text : List ℕ) → 0 < length text → length text < 4 → (middle : ℕ) → middle ≡ length text / 2
    → take (length text) (slice_index text 0 ∷ slice_index text middle ∷ slice_index text (length text - 1) ∷ 0 ∷ 0 ∷ 0 ∷ 0 ∷ 0 ∷ []) ≡ text
few_spelled [] some few m h = absurd (omega (arith, some))
few_spelled (a ∷ []) some few m h = refl
few_spelled (a ∷ b ∷ []) some few m h = ap (λ m. a ∷ slice_index (a ∷ b ∷ []) m ∷ []) h
few_spelled (a ∷ b ∷ c ∷ []) some few m h = ap (λ m. a ∷ slice_index (a ∷ b ∷ c ∷ []) m ∷ c ∷ []) h
few_spelled (a ∷ b ∷ c ∷ d ∷ text) some few m h = absurd (omega (arith, few))
