-- What reading the rest of a VarUInt or VarInt answers, behind any digit.
use Rattle.std.proofs.Common.{◌≡◌, ℕ, zero, suc, [], ◌∷◌, ◌++◌, ◌-◌, ◌+◌, ◌^◌, ◌<◌, ◌≤◌, List, length, get_or, map, take, drop, refl, sym, ap, subst, ◌∙◌, arith, Ok, Err, Result, inl, inr, length-append}
use Rattle.std.specs.List.{position_or_len}
use Rattle.std.proofs.Math.ListN.{get_or-append}
use Rattle.std.proofs.Math.Seq.{get_or-append_seam, take-append_seam, drop-cons}
use Rattle.std.proofs.lemmas.Bool.{lt-leb, le-leb, leb-true, leb-false, lt-ltb, le-ltb, cases_lt}
use Rattle.std.proofs.lemmas.List.Sums.{passes_at_first, fails_before_first}
use Rattle.std.proofs.lemmas.List.{take_more, take_all, map-append, take-append-drop}
use Rattle.ion_scalar.specs.Names.{Digits128, GoesOn, Incomplete, Reason, TooLarge, groups, is_last, more, none, positional, positional_one, seven_bits, up_to_last, var_rest}
use Rattle.ion_scalar.specs.binary.Reads.{Reaches}
use Rattle.ion_scalar.specs.binary.VarEnds.{GoOn, ends_at, no_end, too_large_at}

-- of digits of base 128 none ends a number
pub digits_below : (ds : List ℕ) → Digits128 ds → GoOn ds (length ds)
digits_below _ none k h = absurd (omega arith)
digits_below _ (more ds d s small) k h =
    elim (cases_lt k (length ds)) [
      | inl lt ↦ rw (get_or-append ds (d ∷ []) 0 k lt) (digits_below ds s k lt)
      | inr le ↦
          let e : k ≡ length ds = omega (arith, length-append ds (d ∷ [])) in
          rw (e, get_or-append_seam ds d [] 0) small
    ]

pub digits_seven : (ds : List ℕ) → Digits128 ds → map seven_bits ds ≡ ds
digits_seven _ none = refl
digits_seven _ (more ds d s small) =
    rw (map-append seven_bits ds (d ∷ []), digits_seven ds s, lt-leb 128 d small) refl

-- the first octets are digits of base 128, where none of them ends a number
pub digits_take : (os : List ℕ) (i : ℕ) → i ≤ length os → GoOn os i → Digits128 (take i os)
digits_take os zero h on = none
digits_take os (suc i) h on =
    let e : suc i ≡ i + 1 = omega arith in
    let before = digits_take os i (omega arith) (λ k l. on k (omega arith)) in
    rw (e, take_more os i 0 (omega arith)) (more (take i os) (get_or os i 0) before (on i (omega arith)))

seven_bits_push : (ds : List ℕ) (octet : ℕ) → Digits128 ds → map seven_bits (ds ++ octet ∷ []) ≡ ds ++ seven_bits octet ∷ []
seven_bits_push ds octet s = rw (map-append seven_bits ds (octet ∷ []), digits_seven ds s) refl

-- digits and an octet that ends are read back, whatever follows
pub rest_read : (front used : ℕ) (digits : List ℕ) (last : ℕ) (rest : List ℕ) → Digits128 digits → positional 128 (front ∷ digits ++ last ∷ []) < 2 ^ 63
    → var_rest front used (digits ++ (128 + last) ∷ rest) ≡ Ok (positional 128 (front ∷ digits ++ last ∷ []), used + length digits + 1)
rest_read front used digits last rest s bound =
    let i = length digits in
    let os = digits ++ (128 + last) ∷ rest in
    let here : get_or os i 0 ≡ 128 + last = get_or-append_seam digits (128 + last) rest 0 in
    let on : GoOn os i = λ k h. rw (get_or-append digits ((128 + last) ∷ rest) 0 k h) (digits_below digits s k h) in
    let within : i < length os = omega (arith, length-append digits ((128 + last) ∷ rest)) in
    let seven : seven_bits (128 + last) ≡ last = rw (le-leb 128 (128 + last) (omega arith)) (omega arith) in
    let cut : take (i + 1) os ≡ digits ++ (128 + last) ∷ [] = rw (take_more os i 0 within, here, take-append_seam digits ((128 + last) ∷ rest)) refl in
    let value : groups front (take (i + 1) os) ≡ positional 128 (front ∷ digits ++ last ∷ []) = rw (cut, seven_bits_push digits (128 + last) s, seven) refl in
    let read = ends_at front used os i within on (omega arith) (rw value bound) in
    rw value at read

-- and digits that reach 2^63 with one octet more are too large, whatever follows
pub rest_reaches : (front used : ℕ) (os : List ℕ) → Reaches front os → var_rest front used os ≡ Err TooLarge
rest_reaches front used os r =
    let i = length r.digits in
    let whole = r.digits ++ r.octet ∷ r.rest in
    let here : get_or whole i 0 ≡ r.octet = get_or-append_seam r.digits r.octet r.rest 0 in
    let on : GoOn whole i = λ k h. rw (get_or-append r.digits (r.octet ∷ r.rest) 0 k h) (digits_below r.digits r.small k h) in
    let within : i < length whole = omega (arith, length-append r.digits (r.octet ∷ r.rest)) in
    let cut : take (i + 1) whole ≡ r.digits ++ r.octet ∷ [] = rw (take_more whole i 0 within, here, take-append_seam r.digits (r.octet ∷ r.rest)) refl in
    let value : groups front (take (i + 1) whole) ≡ positional 128 (front ∷ r.digits ++ seven_bits r.octet ∷ []) =
    rw (cut, seven_bits_push r.digits r.octet r.small) refl in
    subst (λ (xs : List ℕ). var_rest front used xs ≡ Err TooLarge) (sym r.cut) (too_large_at front used whole i within on (rw value r.large))

-- digits that stay below 2^63, and that no octet ends, are the beginning of a number
pub rest_goes_on : (front used : ℕ) (os : List ℕ) → GoesOn front os → var_rest front used os ≡ Err Incomplete
rest_goes_on front used os g = no_end front used os (digits_below os g.small) (rw (digits_seven os g.small) g.bound)

go_on : (os : List ℕ) → GoOn os (position_or_len is_last os)
go_on os k h = leb-false 128 (get_or os k 0) (fails_before_first is_last os k 0 h)

split_at : (os : List ℕ) (i : ℕ) → i < length os → os ≡ take i os ++ get_or os i 0 ∷ drop (suc i) os
split_at os i h = rw (← drop-cons os i 0 h) (sym (take-append-drop i os))

-- octets that begin with digits and an octet that ends: the number that they make behind `front`, and how many octets they are
pub record Ended (front : ℕ) (os : List ℕ) (n count : ℕ) : Type 0 where
  pub digits : List ℕ
  pub last : ℕ
  pub within : count ≤ length os
  pub octets : take count os ≡ digits ++ (128 + last) ∷ []
  pub small : Digits128 digits
  pub value : n ≡ positional 128 (front ∷ digits ++ last ∷ [])
  pub bound : n < 2 ^ 63

module _ (front : ℕ) (os : List ℕ) where
  -- the number that octets make of which all but the last go on
  groups_at : (i : ℕ) → i < length os → GoOn os i → groups front (take (i + 1) os) ≡ positional 128 (front ∷ take i os ++ seven_bits (get_or os i 0) ∷ [])
  groups_at i h on = rw (take_more os i 0 h, seven_bits_push (take i os) (get_or os i 0) (digits_take os i (omega arith) on)) refl

  reaches_at : (i : ℕ) → i < length os → GoOn os i → 2 ^ 63 ≤ groups front (take (i + 1) os) → Reaches front os
  reaches_at i h on big = record {
    digits = take i os;
    octet = get_or os i 0;
    rest = drop (suc i) os;
    cut = split_at os i h;
    small = digits_take os i (omega arith) on;
    large = rw (groups_at i h on) at big;
  }

  ended_at : (i : ℕ) → i < length os → GoOn os i → 128 ≤ get_or os i 0 → groups front (take (i + 1) os) < 2 ^ 63
      → Ended front os (groups front (take (i + 1) os)) (i + 1)
  ended_at i h on here small =
      let last = get_or os i 0 - 128 in
      let octet : get_or os i 0 ≡ 128 + last = omega arith in
      let seven : seven_bits (get_or os i 0) ≡ last = rw (le-leb 128 (get_or os i 0) here) refl in
      record {
        digits = take i os;
        last = last;
        within = omega arith;
        octets = take_more os i 0 h ∙ ap (λ (b : ℕ). take i os ++ b ∷ []) octet;
        small = digits_take os i (omega arith) on;
        value = rw (← seven) (groups_at i h on);
        bound = small;
      }

  -- where no octet ends
  module _ (none_ends : length os ≤ position_or_len is_last os) where
    digits_all : Digits128 os
    digits_all =
        let on : GoOn os (length os) = λ k h. go_on os k (omega arith) in
        rw (take_all (length os) os (omega arith)) at (digits_take os (length os) (omega arith) on)

    goes_on : groups front os < 2 ^ 63 → GoesOn front os
    goes_on small = record { small = digits_all; bound = rw (digits_seven os digits_all) at small }

    reaches_last : front < 2 ^ 63 → 2 ^ 63 ≤ groups front os → Reaches front os
    reaches_last bound big =
        let m = length os - 1 in
        elim (cases_lt 0 (length os)) [
          | inl lt ↦
              let all : take (m + 1) os ≡ os = take_all (m + 1) os (omega arith) in
              reaches_at m (omega arith) (λ k h. go_on os k (omega arith)) (rw all big)
          | inr empty ↦
              let none_left : take 0 os ≡ os = take_all 0 os empty in
              let nothing : 2 ^ 63 ≤ positional 128 (front ∷ []) = rw (← none_left) at big in
              absurd (omega (arith, positional_one 128 front))
        ]

-- what an answer says of the rest of a number: it ends, or reaches 2^63, or has no end
abbrev pub ReadsRest : ℕ → ℕ → List ℕ → Result (ℕ × ℕ) Reason → Type 0
ReadsRest front used os (Ok read) = (count : ℕ) × (read.1 ≡ used + count) × Ended front os read.0 count
ReadsRest front used os (Err TooLarge) = Reaches front os
ReadsRest front used os (Err Incomplete) = GoesOn front os
ReadsRest front used os (Err _) = ⊥

-- each answer of reading the rest of a number says what the octets are
pub rest_answers : (front used : ℕ) (os : List ℕ) → front < 2 ^ 63 → ReadsRest front used os (var_rest front used os)
rest_answers front used os bound =
    let p = position_or_len is_last os in
    elim (cases_lt p (length os)) [
      | inl lt ↦ elim (cases_lt (groups front (up_to_last os)) (2 ^ 63)) [
        | inl small ↦ rw (lt-leb (2 ^ 63) (groups front (up_to_last os)) small, lt-ltb p (length os) lt)
            (p + 1, omega arith, ended_at front os p lt (go_on os) (leb-true 128 _ (passes_at_first is_last os 0 lt)) small)
        | inr big ↦ rw (le-leb (2 ^ 63) (groups front (up_to_last os)) big) (reaches_at front os p lt (go_on os) big)
      ]
      | inr le ↦
          let all : up_to_last os ≡ os = take_all (p + 1) os (omega arith) in
          elim (cases_lt (groups front (up_to_last os)) (2 ^ 63)) [
            | inl small ↦ rw (lt-leb (2 ^ 63) (groups front (up_to_last os)) small, le-ltb p (length os) le) (goes_on front os le (rw all at small))
            | inr big ↦ rw (le-leb (2 ^ 63) (groups front (up_to_last os)) big) (reaches_last front os le bound (rw all at big))
          ]
    ]
