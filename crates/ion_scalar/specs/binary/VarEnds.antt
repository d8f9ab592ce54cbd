-- Where a number of octets with high bits ends, and what its octets so far are.
use Rattle.std.proofs.Common.{◌≡◌, ℕ, ◌∷◌, ◌++◌, ◌+◌, ◌*◌, ◌%◌, ◌^◌, ◌<◌, ◌≤◌, List, length, get_or, map, take, drop, refl, ap, subst, ◌∙◌, arith, Ok, Err, inl, inr}
use Rattle.std.specs.List.{position_or_len}
use Rattle.std.proofs.lemmas.Bool.{leb-true, le-leb, lt-leb, lt-ltb, le-ltb, cases_lt}
use Rattle.std.proofs.lemmas.List.{map_more, take-take, take_all, take-append-drop, map-append}
use Rattle.std.proofs.lemmas.List.Sums.{position_or_len_is, passes_at_first}
use Rattle.ion_scalar.specs.Names.{Incomplete, TooLarge, groups, is_last, positional, positional_mono, positional_push, seven_bits, up_to_last, var_rest}

-- an octet without its highest bit is its remainder by 128
pub seven_bits_octet : (b : ℕ) → b < 256 → seven_bits b ≡ b % 128
seven_bits_octet b h =
    elim (cases_lt b 128) [
      | inl lt ↦ rw (lt-leb 128 b lt) (omega arith)
      | inr le ↦ rw (le-leb 128 b le) (omega arith)
    ]

-- the next octet moves the number up by seven bits and adds its own
pub groups_more : (front : ℕ) (os : List ℕ) (i : ℕ) → i < length os → groups front (take (i + 1) os)
    ≡ groups front (take i os) * 128 + seven_bits (get_or os i 0)
groups_more front os i h = ap (λ (ds : List ℕ). positional 128 (front ∷ ds)) (map_more seven_bits os i 0 h)
    ∙ positional_push 128 (front ∷ map seven_bits (take i os)) (seven_bits (get_or os i 0))

groups_mono : (front : ℕ) (xs ys : List ℕ) → groups front xs ≤ groups front (xs ++ ys)
groups_mono front xs ys = rw (map-append seven_bits xs ys) (positional_mono 128 (front ∷ map seven_bits xs) (map seven_bits ys) (omega arith))

pub groups_take : (front : ℕ) (os : List ℕ) (i j : ℕ) → i ≤ j → groups front (take i os) ≤ groups front (take j os)
groups_take front os i j h =
    let whole = take-append-drop i (take j os) in
    let more : groups front (take i (take j os)) ≤ groups front (take j os) =
    subst (λ (xs : List ℕ). groups front (take i (take j os)) ≤ groups front xs) whole (groups_mono front (take i (take j os)) (drop i (take j os))) in
    rw (take-take i j os h) at more

-- none of the first so many octets ends a number
abbrev pub GoOn : List ℕ → ℕ → Type 0
GoOn os i = (k : ℕ) → k < i → get_or os k 0 < 128

end_at : (os : List ℕ) (i : ℕ) → i ≤ length os → GoOn os i → (i < length os → 128 ≤ get_or os i 0) → position_or_len is_last os ≡ i
end_at os i h before here = position_or_len_is is_last os i 0 h (λ k l. lt-leb 128 _ (before k l)) (λ l. le-leb 128 _ (here l))

not_before : (os : List ℕ) (i : ℕ) → i ≤ length os → GoOn os i → i ≤ position_or_len is_last os
not_before os i h before =
    elim (cases_lt (position_or_len is_last os) i) [
      | inl lt ↦ absurd (omega (arith, before _ lt, leb-true 128 _ (passes_at_first is_last os 0 (omega arith))))
      | inr le ↦ le
    ]

module _ (front used : ℕ) (os : List ℕ) where
  -- octets that go on and reach 2^63 are refused as too large
  pub too_large_at : (i : ℕ) → i < length os → GoOn os i → 2 ^ 63 ≤ groups front (take (i + 1) os) → var_rest front used os ≡ Err TooLarge
  too_large_at i h on big =
      let p = not_before os i (omega arith) on in
      let g = groups_take front os (i + 1) (position_or_len is_last os + 1) (omega arith) in
      rw (le-leb (2 ^ 63) (groups front (up_to_last os)) (omega arith)) refl

  -- octets that go on, and one that ends them below 2^63, are read as their number
  pub ends_at : (i : ℕ) → i < length os → GoOn os i → 128 ≤ get_or os i 0 → groups front (take (i + 1) os) < 2 ^ 63
      → var_rest front used os ≡ Ok (groups front (take (i + 1) os), used + i + 1)
  ends_at i h on here small =
      let e = end_at os i (omega arith) on (λ _. here) in
      rw (e, lt-leb (2 ^ 63) (groups front (take (i + 1) os)) small, lt-ltb i (length os) h) refl

  -- octets that all go on and stay below 2^63 are incomplete
  pub no_end : GoOn os (length os) → groups front os < 2 ^ 63 → var_rest front used os ≡ Err Incomplete
  no_end on small =
      let e = end_at os (length os) (omega arith) on (λ l. absurd (omega arith)) in
      let a : groups front (take (length os + 1) os) ≡ groups front os = ap (groups front) (take_all (length os + 1) os (omega arith)) in
      rw (e, lt-leb (2 ^ 63) (groups front (take (length os + 1) os)) (omega arith), le-ltb (length os) (length os) (omega arith)) refl
