-- Whole numbers as octets (Ion 1.0, "Ion Binary Encoding", basic field formats).
use Rattle.std.specs.Prelude.{◌≡◌, ℕ, ◌+◌, ◌-◌, ◌*◌, ◌^◌, ◌<◌, ◌≤◌, List, [], ◌∷◌, ◌++◌, length, map, take, nat_le, nat_lt, if◌then◌else◌, Result, Ok, Err, Bool, false}
use Rattle.std.specs.List.{position_or_len}
use Rattle.ion_scalar.specs.Names.Below.{Incomplete, Reason, Signed, TooLarge}

-- the number with these digits, the most significant first: the sum of each digit times the power of the base that its place has
abbrev pub positional : ℕ → List ℕ → ℕ
positional base [] = 0
positional base (d ∷ ds) = d * base ^ length ds + positional base ds

-- digits of base 128
pub data Digits128 : List ℕ → Type 0 where
  none : Digits128 []
  more : (ds : List ℕ) (d : ℕ) → Digits128 ds → d < 128 → Digits128 (ds ++ d ∷ [])

-- These octets are a VarUInt: digits of base 128, 128 added to the last. That they are octets isn't said here: a greater number passes for
-- a last one, too, and where that matters it is asked beside this (`AreBelow 256`).
pub record VarUInt (w : List ℕ) (n : ℕ) : Type 0 where
  pub digits : List ℕ
  pub last : ℕ
  pub small : Digits128 digits
  pub octets : w ≡ digits ++ (128 + last) ∷ []
  pub value : n ≡ positional 128 (digits ++ last ∷ [])
  pub bound : n < 2 ^ 63

-- the octet that ends a VarUInt or a VarInt, by its highest bit
abbrev pub is_last : ℕ → Bool
is_last octet = nat_le 128 octet

-- an octet without its highest bit
abbrev pub seven_bits : ℕ → ℕ
seven_bits octet = if is_last octet then octet - 128 else octet

-- the octets up to the first that ends, all where none does
abbrev pub up_to_last : List ℕ → List ℕ
up_to_last octets = take (position_or_len is_last octets + 1) octets

-- the number that `front` and behind it seven bits of each octet make
abbrev pub groups : ℕ → List ℕ → ℕ
groups front octets = positional 128 (front ∷ map seven_bits octets)

-- what octets are as the rest of a number behind `front`, which took `used` octets: its value, and how many octets it takes in all
abbrev pub var_rest : ℕ → ℕ → List ℕ → Result (ℕ × ℕ) Reason
var_rest front used octets =
    if nat_le (2 ^ 63) (groups front (up_to_last octets)) then Err TooLarge
    else if nat_lt (position_or_len is_last octets) (length octets) then Ok (groups front (up_to_last octets), used + position_or_len is_last octets + 1)
    else Err Incomplete

-- what the front of octets is as a VarUInt: its value and how many octets it takes
abbrev pub var_uint : List ℕ → Result (ℕ × ℕ) Reason
var_uint octets = var_rest 0 0 octets

-- of the first octet of a VarInt, the sign in the bit below the highest, and the six bits below that
abbrev pub is_negative : ℕ → Bool
is_negative octet = nat_le 64 (seven_bits octet)

-- the six bits of magnitude of the first octet of a VarInt
abbrev pub six_bits : ℕ → ℕ
six_bits octet = if is_negative octet then seven_bits octet - 64 else seven_bits octet

-- These octets are a VarInt of that sign and magnitude: as a VarUInt, but with six bits of magnitude and the sign in the first. Nor is it
-- said here that they are octets.
pub data VarInt : List ℕ → Bool → ℕ → Type 0 where
  short : (octet : ℕ) → 128 ≤ octet → VarInt (octet ∷ []) (is_negative octet) (six_bits octet)
  long : (octet : ℕ) (digits : List ℕ) (last : ℕ) → octet < 128 → Digits128 digits → positional 128 (six_bits octet ∷ digits ++ last ∷ []) < 2 ^ 63
      → VarInt (octet ∷ digits ++ (128 + last) ∷ []) (is_negative octet) (positional 128 (six_bits octet ∷ digits ++ last ∷ []))

-- a sign and a magnitude together
abbrev pub signed_of : Bool → ℕ → Signed
signed_of negative magnitude = record { negative = negative; magnitude = magnitude }

-- a number that was read gets its sign, and a refusal stays
abbrev pub with_sign : Bool → Result (ℕ × ℕ) Reason → Result (Signed × ℕ) Reason
with_sign negative (Ok read) = Ok (signed_of negative read.0, read.1)
with_sign negative (Err reason) = Err reason

-- what the front of octets is as a VarInt: its sign and magnitude, and how many octets it takes
abbrev pub var_int : List ℕ → Result (Signed × ℕ) Reason
var_int [] = Err Incomplete
var_int (octet ∷ rest) =
    if is_last octet then with_sign (is_negative octet) (Ok (six_bits octet, 1))
    else with_sign (is_negative octet) (var_rest (six_bits octet) 1 rest)

-- the sign and the magnitude of an Int, big endian: the sign is the highest bit of the first octet, and no octets are +0
abbrev pub int_negative : List ℕ → Bool
int_negative [] = false
int_negative (octet ∷ rest) = is_last octet

-- the number that the octets make without the sign bit
abbrev pub int_magnitude : List ℕ → ℕ
int_magnitude [] = 0
int_magnitude (octet ∷ rest) = positional 256 (seven_bits octet ∷ rest)

-- what octets are as an Int
abbrev pub int_field : List ℕ → Result (Bool × ℕ) Reason
int_field octets =
    if nat_lt (int_magnitude octets) (2 ^ 127) then Ok (int_negative octets, int_magnitude octets) else Err TooLarge

-- what octets are as a UInt, big endian
abbrev pub uint_field : List ℕ → Result ℕ Reason
uint_field octets =
    if nat_lt (positional 256 octets) (2 ^ 127) then Ok (positional 256 octets) else Err TooLarge
