-- How numbers are written as octets: always the fewest.
use Rattle.std.specs.Prelude.{int_lt, ℕ, ℤ, pos, not, ◌&&◌, ◌==◌, unsigned_abs, ◌+◌, ◌/◌, ◌%◌, ◌<◌, Bool, true, false, List, [], ◌∷◌, ◌++◌, length, slice_index, nat_lt, if◌then◌else◌}
use Rattle.std.specs.Ordering.{int_eq}
use Rattle.std.specs.Int.Digits.{digits_of}
use Rattle.ion_scalar.specs.Names.Below.{DecimalParts}

-- the digits of base 128, one at least, 128 added to the last
abbrev pub var_uint_octets : ℕ → List ℕ
var_uint_octets n = digits_of 128 (n / 128) ++ (128 + n % 128) ∷ []

-- big endian; 0 has no octets
abbrev pub uint_octets : ℕ → List ℕ
uint_octets n = digits_of 256 n

-- the sign bit of a negative number
abbrev pub sign_bit : ℕ → Bool → ℕ
sign_bit bit true = bit
sign_bit bit false = 0

-- digits with the sign in that bit of the first, or of one more in front where the first needs the bit itself
abbrev pub signed_digits : ℕ → Bool → List ℕ → List ℕ
signed_digits bit negative [] = sign_bit bit negative ∷ []
signed_digits bit negative (d ∷ ds) =
    if nat_lt d bit then (sign_bit bit negative + d) ∷ ds else sign_bit bit negative ∷ d ∷ ds

-- as a VarUInt, with the sign below the highest bit of the first octet
abbrev pub var_int_octets : Bool → ℕ → List ℕ
var_int_octets negative n =
    if nat_lt n 64 then (128 + (sign_bit 64 negative + n)) ∷ []
    else signed_digits 64 negative (digits_of 128 (n / 128)) ++ (128 + n % 128) ∷ []

-- +0 has no octets, -0 is the sign alone
abbrev pub int_octets : Bool → ℕ → List ℕ
int_octets negative n =
    if negative then signed_digits 128 negative (digits_of 256 n)
    else if nat_lt 0 n then signed_digits 128 negative (digits_of 256 n)
    else []

-- the exponent and the coefficient of a decimal; 0d0 has no octets
abbrev pub is_zero : Bool → ℕ → ℤ → Bool
is_zero negative m e = not negative && ((m == 0) && int_eq e (pos 0))

-- 0d0 has no octets, any other decimal its exponent and its coefficient
abbrev pub decimal_octets : DecimalParts → List ℕ
decimal_octets d =
    if is_zero d.negative d.magnitude d.exponent then []
    else var_int_octets (int_lt d.exponent (pos 0)) (unsigned_abs d.exponent) ++ int_octets d.negative d.magnitude

-- each of a list is below that number, as each octet is below 256
abbrev pub AreBelow : ℕ → List ℕ → Type 0
AreBelow base ds = (k : ℕ) → k < length ds → slice_index ds k < base
