-- The body of a decimal in binary (Ion 1.0, "Ion Binary Encoding", decimal): an exponent, which is a VarInt, and a coefficient, which is an Int of the rest.
use Rattle.std.specs.Prelude.{◌≡◌, ◌⊎◌, ℕ, ℤ, pos, ◌^◌, Bool, false, List, [], ◌∷◌, ◌++◌, drop, nat_le, nat_lt, if◌then◌else◌, Result, Ok, Err}
use Rattle.ion_scalar.specs.Names.Below.{DecimalParts, Malformed, Reason, Signed, TooLarge}
use Rattle.ion_scalar.specs.binary.Fields.{VarInt, int_magnitude, int_negative, var_int}
use Rattle.ion_scalar.specs.text.Decimals.{signed}

-- a whole body is that decimal
pub record IsDecimalParts (body : List ℕ) (d : DecimalParts) : Type 0 where
  pub power : List ℕ
  pub coefficient : List ℕ
  pub below : Bool
  pub written : ℕ
  pub octets : body ≡ power ++ coefficient
  pub is_power : VarInt power below written
  pub exponent : d.exponent ≡ signed below written
  pub sign : d.negative ≡ int_negative coefficient
  pub magnitude : d.magnitude ≡ int_magnitude coefficient

-- no octets at all are 0d0
abbrev pub IsDecimalField : List ℕ → DecimalParts → Type 0
IsDecimalField body d =
    ((body ≡ []) × (d.negative ≡ false) × (d.magnitude ≡ 0) × (d.exponent ≡ pos 0)) ⊎ IsDecimalParts body d

-- an exponent of 32 bits
abbrev pub exponent_fits : Signed → Bool
exponent_fits power = if power.negative then nat_le power.magnitude (2 ^ 31) else nat_lt power.magnitude (2 ^ 31)

-- the decimal of a sign, a magnitude and an exponent
abbrev pub decimal_with : Bool → ℕ → ℤ → DecimalParts
decimal_with negative magnitude exponent = record { negative = negative; magnitude = magnitude; exponent = exponent }

-- the rest as a coefficient behind an exponent; too large where either is
abbrev pub with_coefficient : Signed → List ℕ → Result DecimalParts Reason
with_coefficient power octets =
    if exponent_fits power then
    (if nat_lt (int_magnitude octets) (2 ^ 127) then Ok (decimal_with (int_negative octets) (int_magnitude octets) (signed power.negative power.magnitude)) else
    Err TooLarge)
    else Err TooLarge

-- what a body is by what its front was read as; an exponent without an end is malformed
abbrev pub with_exponent : List ℕ → Result (Signed × ℕ) Reason → Result DecimalParts Reason
with_exponent body (Ok read) = with_coefficient read.0 (drop read.1 body)
with_exponent body (Err TooLarge) = Err TooLarge
with_exponent body (Err _) = Err Malformed

-- what a body is as a decimal: too large where its exponent or its coefficient is, and malformed where the exponent does not end
unfoldable pub decimal_of_body : List ℕ → Result DecimalParts Reason
decimal_of_body [] = Ok (decimal_with false 0 (pos 0))
decimal_of_body (octet ∷ rest) = with_exponent (octet ∷ rest) (var_int (octet ∷ rest))
