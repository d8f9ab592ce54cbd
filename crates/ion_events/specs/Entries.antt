-- Entries: their sixteen octets, and those that tell a null, a truth or a number.
use Rattle.std.specs.Prelude.{◌+◌, ◌*◌, ◌/◌, ◌%◌, ◌^◌, ℕ, ℤ, pos, negsuc, List, [], ◌∷◌, ◌++◌, length, take, drop, get_or, Bool, true, false, Option, Some, None, nat_lt, int_lt, unsigned_abs, if◌then◌else◌}
use Rattle.std.specs.Int.{cast_unsigned, from_le_bytes, to_le_bytes, w16, w32, w64}
use Rattle.std.specs.List.{flat_map}
use Rattle.ion_events.specs.Names.Below.{DecimalParts, Kind, Local, Precision, TimestampParts}
use Rattle.ion_scalar.specs.declared.number.Number.{Number}
use Rattle.ion_events.specs.declared.entry.Entry.{Entry}
use Rattle.ion_events.specs.declared.entry.Place.{Place}

-- 1. Octets.

-- the entry that has these octets
abbrev pub entry_of : List ℕ → Entry
entry_of s = record {
  kind = get_or s 0 0;
  detail = get_or s 1 0;
  more = from_le_bytes w16 (take 2 (drop 2 s));
  count = from_le_bytes w32 (take 4 (drop 4 s));
  number = from_le_bytes w64 (take 8 (drop 8 s));
}

-- its octets
unfoldable pub octets_of : Entry → List ℕ
octets_of e = e.kind ∷ e.detail ∷ (to_le_bytes w16 e.more ++ to_le_bytes w32 e.count ++ to_le_bytes w64 e.number)

-- those of entries one behind the other
abbrev pub spelled : List Entry → List ℕ
spelled es = flat_map octets_of es

-- 2. Kinds.

-- of a kind of value its type code, as Ion's binary encoding has them
abbrev pub code_of : Kind → ℕ
code_of Kind.Null = 0
code_of Kind.Bool = 1
code_of Kind.Int = 2
code_of Kind.Float = 4
code_of Kind.Decimal = 5
code_of Kind.Timestamp = 6
code_of Kind.Symbol = 7
code_of Kind.Str = 8
code_of Kind.Clob = 9
code_of Kind.Blob = 10
code_of Kind.List = 11
code_of Kind.Sexp = 12
code_of Kind.Fields = 13

-- an int beyond 64 bits
abbrev pub great_code : ℕ
great_code = 3

abbrev pub annotation_code : ℕ
annotation_code = 14

-- the name of a field
abbrev pub name_code : ℕ
name_code = 15

abbrev pub close_code : ℕ
close_code = 16

-- what goes on with the entry before it
abbrev pub more_code : ℕ
more_code = 17

-- 3. The entries of a value that has no text and no values inside.

-- an entry that says nothing but its kind, a count and a number
abbrev pub plain : ℕ → ℕ → ℕ → Entry
plain kind count number = record { kind = kind; detail = 0; more = 0; count = count; number = number }

-- a symbol as an entry of this code: where its text lies, or that it is unknown
abbrev pub label_entry : ℕ → Option Place → Entry
label_entry code (Some p) = plain code p.count p.number
label_entry code None = record { kind = code; detail = 1; more = 0; count = 0; number = 0 }

-- one that goes on with the entry before it
abbrev pub goes_on : ℕ → Entry
goes_on number = plain more_code 0 number

-- 1 stands for a minus, and for a truth
abbrev pub bit : Bool → ℕ
bit false = 0
bit true = 1

-- the two halves of a number, of 64 bits each
abbrev pub low : ℕ → ℕ
low n = n % 2 ^ 64

abbrev pub high : ℕ → ℕ
high n = n / 2 ^ 64

-- the high half of a number, where it needs one
abbrev pub beyond : ℕ → List Entry
beyond n = if nat_lt n (2 ^ 64) then [] else goes_on (high n) ∷ []

abbrev pub null_entry : Kind → Entry
null_entry k = record { kind = code_of Kind.Null; detail = code_of k; more = 0; count = 0; number = 0 }

abbrev pub truth_entry : Bool → Entry
truth_entry t = plain (code_of Kind.Bool) 0 (bit t)

-- whether 64 bits hold an int
abbrev pub is_int64 : ℤ → Bool
is_int64 (pos n) = nat_lt n (2 ^ 63)
is_int64 (negsuc n) = nat_lt n (2 ^ 63)

-- any other, by its sign and both halves of its magnitude
abbrev pub great_entries : ℤ → List Entry
great_entries z =
    record { kind = great_code; detail = bit (int_lt z (pos 0)); more = 1; count = 0; number = low (unsigned_abs z) }
    ∷ goes_on (high (unsigned_abs z)) ∷ []

-- the former in two's complement
abbrev pub int_entries : ℤ → List Entry
int_entries z =
    if is_int64 z then plain (code_of Kind.Int) 0 (cast_unsigned w64 z) ∷ []
    else great_entries z

-- sign, exponent in two's complement, and coefficient
abbrev pub decimal_entries : DecimalParts → List Entry
decimal_entries d =
    record {
      kind = code_of Kind.Decimal;
      detail = bit d.negative;
      more = length (beyond d.magnitude);
      count = cast_unsigned w32 d.exponent;
      number = low d.magnitude;
    } ∷ beyond d.magnitude

-- how much of a timestamp is known; with a fraction 5 and how many digits it has
abbrev pub precision_code : Precision → ℕ
precision_code Precision.Year = 1
precision_code Precision.Month = 2
precision_code Precision.Day = 3
precision_code Precision.Minute = 4
precision_code Precision.Second = 5
precision_code (Precision.Fraction digits) = 5 + digits

-- the offset in two's complement, of which -2^31 stands for an unknown one
abbrev pub offset_count : Option ℤ → ℕ
offset_count None = 2 ^ 31
offset_count (Some minutes) = cast_unsigned w32 minutes

-- the year has two octets, and what is below it one each
abbrev pub local_number : Local → ℕ
local_number l = l.year + 2 ^ 16 * l.month + 2 ^ 24 * l.day + 2 ^ 32 * l.hour + 2 ^ 40 * l.minute + 2 ^ 48 * l.second

abbrev pub fraction_entries : Precision → ℕ → List Entry
fraction_entries (Precision.Fraction digits) fraction = goes_on (low fraction) ∷ beyond fraction
fraction_entries _ fraction = []

abbrev pub timestamp_entries : TimestampParts → List Entry
timestamp_entries t =
    record {
      kind = code_of Kind.Timestamp;
      detail = precision_code t.precision;
      more = length (fraction_entries t.precision t.local.fraction);
      count = offset_count t.offset;
      number = local_number t.local;
    } ∷ fraction_entries t.precision t.local.fraction

abbrev pub number_entries : Number → List Entry
number_entries (Number.Int z) = int_entries z
number_entries (Number.Decimal d) = decimal_entries d
number_entries (Number.Timestamp t) = timestamp_entries t
