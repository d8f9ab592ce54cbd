-- Base64 and octets (RFC 4648, section 4): what is written for octets are symbols alone, and what decodes are octets. Crates above cite
-- these names.
use Rattle.std.proofs.Common.{◌≡◌, ℕ, zero, suc, ◌+◌, ◌*◌, ◌/◌, ◌%◌, ◌<◌, inl, inr, List, [], ◌∷◌, ◌++◌, length, take, drop, replicate, slice_index, refl, subst, arith, Bool, true, Option, Some, None, Result, Ok, Err}
use Rattle.std.specs.Result.{result_ok}
use Rattle.std.specs.List.{list_all}
use Rattle.std.proofs.lemmas.Bool.{and_parts}
use Rattle.base64.specs.Engines.{standard}
use Rattle.base64.specs.Rfc4648.{encode_symbols, padding_len}
use Rattle.base64.specs.GeneralPurpose.{decoded_of}
use Rattle.base64.specs.Decode.{IsDecodeTable, or_else, symbol_error, group_error, group_bytes, groups_error, groups_bytes, groups_before_last, decode_group, decode_error, decode_outcome, decoded_bytes, lone_error, suffix_error, suffix_bytes, scan_steps, scan_bytes, push_leftover, no_leftover}
use Rattle.base64.specs.declared.decode.DecodeError.{DecodeError}
use Rattle.base64.specs.declared.engine.DecodePaddingMode.{DecodePaddingMode}
use Rattle.base64.proofs.Tables.{IsDecodeTable_from, are_tables_inverse}
use Rattle.base64.proofs.Decoding.{IsLeftover, IsLeftover_next}
use Rattle.ion_tokens.specs.Names.{AreOctets, Each, alphabet, base64_of, blob_of, is_base64}
use Rattle.ion_tokens.specs.laws.Each.{each_append}

-- 1. Octets, by their places and in a row.

-- at each place of octets stands a number below 256
pub octet_at : (octets : List ℕ) → AreOctets octets → (i : ℕ) → slice_index octets i < 256
octet_at [] h i = omega arith
octet_at (o ∷ os) h zero = h.0
octet_at (o ∷ os) h (suc i) = octet_at os h.1 i

-- octets behind octets are octets
pub octets_append : (xs ys : List ℕ) → AreOctets xs → AreOctets ys → AreOctets (xs ++ ys)
octets_append [] ys h k = k
octets_append (x ∷ xs) ys h k = (h.0, octets_append xs ys h.1 k)

pub octets_take : (n : ℕ) (octets : List ℕ) → AreOctets octets → AreOctets (take n octets)
octets_take (suc n) (o ∷ os) h = (h.0, octets_take n os h.1)
octets_take _ _ h = tt

pub octets_drop : (n : ℕ) (octets : List ℕ) → AreOctets octets → AreOctets (drop n octets)
octets_drop zero octets h = h
octets_drop (suc n) [] h = tt
octets_drop (suc n) (o ∷ os) h = octets_drop n os h.1

-- 2. What is written for octets.

all_at : (class : ℕ → Bool) (os : List ℕ) (i : ℕ) → list_all class os ≡ true → i < length os → class (slice_index os i) ≡ true
all_at class [] i h k = absurd (omega arith)
all_at class (o ∷ os) zero h k = (and_parts _ _ h).0
all_at class (o ∷ os) (suc i) h k = all_at class os i (and_parts _ _ h).1 (omega arith)

symbol_is : (i : ℕ) → i < 64 → is_base64 (slice_index alphabet i) ≡ true
symbol_is i h = all_at is_base64 alphabet i refl h

symbols_are : (octets : List ℕ) → AreOctets octets → Each is_base64 (encode_symbols alphabet octets)
unfolding encode_symbols
symbols_are [] h = tt
symbols_are (a ∷ []) h = let x = h.0 in (symbol_is (a / 4) (omega arith), (symbol_is (a % 4 * 16) (omega arith), tt))
symbols_are (a ∷ b ∷ []) h =
    let x = h.0 in
    let y = h.1.0 in
    (symbol_is (a / 4) (omega arith), (symbol_is (a % 4 * 16 + b / 16) (omega arith), (symbol_is (b % 16 * 4) (omega arith), tt)))
symbols_are (a ∷ b ∷ c ∷ rest) h =
    let x = h.0 in
    let y = h.1.0 in
    let z = h.1.1.0 in (
      symbol_is (a / 4) (omega arith),
      (
        symbol_is (a % 4 * 16 + b / 16) (omega arith),
        (symbol_is (b % 16 * 4 + c / 64) (omega arith), (symbol_is (c % 64) (omega arith), symbols_are rest h.1.1.1)),
      ),
    )

pads_are : (n : ℕ) → Each is_base64 (replicate n 61)
pads_are zero = tt
pads_are (suc n) = (refl, pads_are n)

-- The base64 of octets is symbols and padding alone.
pub base64_each : (octets : List ℕ) → AreOctets octets → Each is_base64 (base64_of octets)
base64_each octets h = each_append is_base64 (encode_symbols alphabet octets) (replicate (padding_len (length octets)) 61) (symbols_are octets h)
    (pads_are (padding_len (length octets)))

-- 3. What decodes.

pub none_of_both : (x y : Option DecodeError) → or_else x y ≡ None → (x ≡ None) × (y ≡ None)
none_of_both None y h = (refl, h)
none_of_both (Some e) y h = cc

group_octets : (a b c d : ℕ) → a < 64 → b < 64 → c < 64 → d < 64 → AreOctets (decode_group a b c d)
group_octets a b c d h i j k = (omega arith, (omega arith, (omega arith, tt)))

module _ (dec : List ℕ) (table : IsDecodeTable dec) (text : List ℕ) (octets : AreOctets text) where
  symbol_small : (i : ℕ) → symbol_error dec text i ≡ None → slice_index dec (slice_index text i) < 64
  symbol_small i none = elim (table (slice_index text i) (octet_at text octets i)) [
    | inl bad ↦ cc (rw bad at none)
    | inr good ↦ good
  ]

  groups_octets : (q : ℕ) → groups_error dec text q ≡ None → AreOctets (groups_bytes dec text q)
  unfolding groups_error groups_bytes
  groups_octets zero none = tt
  groups_octets (suc q) none =
      let i : ℕ = 4 * q in
      let parts = none_of_both (groups_error dec text q) (group_error dec text i) none in
      let first = none_of_both (symbol_error dec text i) _ parts.1 in
      let second = none_of_both (symbol_error dec text (i + 1)) _ first.1 in
      let third = none_of_both (symbol_error dec text (i + 2)) (symbol_error dec text (i + 3)) second.1 in
      octets_append (groups_bytes dec text q) (group_bytes dec text i) (groups_octets q parts.0)
      (group_octets _ _ _ _ (symbol_small i first.0) (symbol_small (i + 1) second.0) (symbol_small (i + 2) third.0) (symbol_small (i + 3) third.1))

  scan_octets : (pad at : ℕ) (bs : List ℕ) (i : ℕ) (r : _) → AreOctets bs → ((st : _) → r ≡ Ok st → IsLeftover st i)
      → AreOctets (scan_bytes (scan_steps dec pad at r i bs))
  unfolding scan_steps
  scan_octets pad at bs i (Err e) small h = tt
  scan_octets pad at [] i (Ok st) small h =
      let left = h st refl in
      octets_take (st.morsels_count * 6 / 8) (decode_group _ _ _ _) (group_octets _ _ _ _ (left.3 0) (left.3 1) (left.3 2) (left.3 3))
  scan_octets pad at (b ∷ bs) i (Ok st) small h = scan_octets pad at bs (i + 1) (push_leftover dec pad at st i b) small.1
      (λ next e. IsLeftover_next dec pad at st i b next table (h st refl) small.0 e)

  zeros_small : (k : ℕ) → slice_index (0 ∷ 0 ∷ 0 ∷ 0 ∷ []) k < 64
  zeros_small zero = omega arith
  zeros_small (suc zero) = omega arith
  zeros_small (suc (suc zero)) = omega arith
  zeros_small (suc (suc (suc zero))) = omega arith
  zeros_small (suc (suc (suc (suc k)))) = omega arith

  suffix_octets : (pad at : ℕ) → AreOctets (suffix_bytes dec pad at text)
  suffix_octets pad at = scan_octets pad at (drop at text) 0 (Ok no_leftover) (octets_drop at text octets) (λ st e. first st (by st e)) where
    first : (st : _) → no_leftover ≡ st → IsLeftover st 0
    first st e = subst (λ x. IsLeftover x 0) e (omega arith, omega arith, omega arith, zeros_small)

    by : (st : _) → Path (Result _ DecodeError) (Ok no_leftover) (Ok st) → no_leftover ≡ st
    by st e = cc

  bytes_octets : (pad : ℕ) (allow : Bool) (mode : DecodePaddingMode) → decode_error dec pad allow mode text ≡ None → AreOctets (decoded_bytes dec pad text)
  bytes_octets pad allow mode none =
      let q : ℕ = groups_before_last (length text) in
      let first = none_of_both (lone_error dec pad text) (or_else (groups_error dec text q) (suffix_error dec pad allow mode (4 * q) text)) none in
      let second = none_of_both (groups_error dec text q) (suffix_error dec pad allow mode (4 * q) text) first.1 in
      octets_append (groups_bytes dec text q) (suffix_bytes dec pad (4 * q) text) (groups_octets q second.0) (suffix_octets pad (4 * q))

outcome_octets : (error : Option DecodeError) (bytes octets : List ℕ) → (error ≡ None → AreOctets bytes) → result_ok (decode_outcome error bytes) ≡ Some octets
    → AreOctets octets
outcome_octets None bytes octets h e = let same : bytes ≡ octets = cc in subst AreOctets same (h refl)
outcome_octets (Some x) bytes octets h e = cc

-- What base64 decodes to are octets.
pub blob_octets : (text octets : List ℕ) → AreOctets text → blob_of text ≡ Some octets → AreOctets octets
unfolding blob_of decoded_of
blob_octets text octets h e =
    outcome_octets _ _ octets
    (bytes_octets standard.decode_table (IsDecodeTable_from standard.encode_table standard.decode_table
    (are_tables_inverse standard.encode_table standard.decode_table standard.padding.value standard.tables)) text h standard.padding.value
    standard.config.decode_allow_trailing_bits standard.config.decode_padding_mode)
    e
