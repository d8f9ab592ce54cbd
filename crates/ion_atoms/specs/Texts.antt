-- How decimals and timestamps are written as text (Ion 1.0, "Ion Text Encoding"): a decimal as its coefficient, `d` (100) and its
-- exponent; a timestamp field by field, to its precision. Octets stand as numbers: 43 is `+`, 45 `-`, 46 `.`, 48 `0`, 58 `:`, 84 `T`, 90 `Z`.
use Rattle.std.specs.Prelude.{ℕ, zero, suc, ℤ, pos, negsuc, ◌+◌, ◌/◌, ◌%◌, Bool, true, false, List, [], ◌∷◌, ◌++◌, Option, Some, None}
use Rattle.std.specs.Fmt.{decimal, signed_decimal}
use Rattle.ion_atoms.specs.Decimals.{DecimalParts}
use Rattle.ion_atoms.specs.Timestamps.{TimestampParts}
use Rattle.ion_atoms.specs.declared.timestamp.Local.{Local}
use Rattle.ion_atoms.specs.declared.timestamp.Precision.{Precision}

-- a sign
abbrev pub minus : Bool → List ℕ
minus true = 45 ∷ []
minus false = []

-- the coefficient with its sign, `d`, and the exponent with its sign
abbrev pub decimal_text : DecimalParts → List ℕ
decimal_text d = minus d.negative ++ (decimal d.magnitude ++ 100 ∷ signed_decimal d.exponent)

-- a number below 100 as two digits
abbrev pub two_digits : ℕ → List ℕ
two_digits n = (48 + n / 10) ∷ (48 + n % 10) ∷ []

-- a number below 10000 as four digits
abbrev pub four_digits : ℕ → List ℕ
four_digits n = two_digits (n / 100) ++ two_digits (n % 100)

-- so many digits
abbrev pub padded : ℕ → ℕ → List ℕ
padded zero n = []
padded (suc width) n = padded width (n / 10) ++ (48 + n % 10) ∷ []

-- a year and a month: `2000-01`
abbrev pub month_text : Local → List ℕ
month_text l = four_digits l.year ++ (45 ∷ two_digits l.month)

-- a year, a month and a day: `2000-01-01`
abbrev pub day_text : Local → List ℕ
day_text l = month_text l ++ (45 ∷ two_digits l.day)

-- a day and, behind `T`, its hour and minute
abbrev pub minute_text : Local → List ℕ
minute_text l = day_text l ++ (84 ∷ two_digits l.hour ++ (58 ∷ two_digits l.minute))

-- a day and a time to the second
abbrev pub second_text : Local → List ℕ
second_text l = minute_text l ++ (58 ∷ two_digits l.second)

-- so many minutes as hours and minutes: `01:30`
abbrev pub clock_text : ℕ → List ℕ
clock_text minutes = two_digits (minutes / 60) ++ (58 ∷ two_digits (minutes % 60))

-- `-00:00` where it is unknown, `Z` where it is 0
abbrev pub offset_text : Option ℤ → List ℕ
offset_text None = 45 ∷ clock_text 0
offset_text (Some (pos zero)) = 90 ∷ []
offset_text (Some (pos (suc n))) = 43 ∷ clock_text (suc n)
offset_text (Some (negsuc n)) = 45 ∷ clock_text (suc n)

-- the fields up to the precision, with `T` behind a year or a month, and the offset from minutes on
abbrev pub cut_text : Precision → Local → Option ℤ → List ℕ
cut_text Precision.Year l offset = four_digits l.year ++ (84 ∷ [])
cut_text Precision.Month l offset = month_text l ++ (84 ∷ [])
cut_text Precision.Day l offset = day_text l
cut_text Precision.Minute l offset = minute_text l ++ offset_text offset
cut_text Precision.Second l offset = second_text l ++ offset_text offset
cut_text (Precision.Fraction digits) l offset = second_text l ++ (46 ∷ (padded digits l.fraction ++ offset_text offset))

-- the text of a timestamp: its local fields to its precision, and its offset
abbrev pub timestamp_text : TimestampParts → List ℕ
timestamp_text t = cut_text t.precision t.local t.offset
