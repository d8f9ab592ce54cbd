-- What a token is read as, as a function of its octets: the number that it spells, or why it spells none.
use Rattle.std.proofs.Common.{◌≡◌, ℕ, List, ◌^◌, ◌+◌, ℤ, pos, neg_ℤ, negsuc, inl, inr, ◌⊎◌, Result, Ok, Err, sym, subst}
use Rattle.std.specs.Prelude.{◌↔◌}
use Rattle.std.proofs.Math.Decide.{map_dec, dec_lt}
use Rattle.ion_scalar.specs.Names.{DecimalParts, Fits, Float, IsDecimal, IsFloat, IsNumber, IsNumeral, IsThere, IsWhole, Malformed, Number, ReadsNumber, Reason, TooLarge}
use Rattle.ion_scalar.specs.text.laws.DecidedNumbers.{SomeNumeral, float, numeral}
use Rattle.ion_scalar.specs.text.laws.DecidedTimestamps.{SomeTimestamp, short, there, timestamp}
use Rattle.ion_scalar.specs.text.laws.Deciding.{at_most, below, either, three}
use Rattle.ion_scalar.specs.text.laws.OneNumber.{number_no_float, one_answer, one_number}

abbrev pub SomeNumber : List ℕ → Type 0
SomeNumber token = (x : Number) × IsNumber token x

form_number : (token : List ℕ) → SomeNumeral token ⊎ SomeTimestamp token → SomeNumber token
form_number token (inl h) = numeral_number h.0 h.1 where
  numeral_number : (x : Number) → IsNumeral token x → SomeNumber token
  numeral_number (Number.Int z) i = (Number.Int z, i)
  numeral_number (Number.Decimal d) i = (Number.Decimal d, i)
  numeral_number (Number.Timestamp t) i = absurd i.is
form_number token (inr h) = (Number.Timestamp h.0, h.1)

number_form : (token : List ℕ) (x : Number) → IsNumber token x → SomeNumeral token ⊎ SomeTimestamp token
number_form token (Number.Int z) i = inl (Number.Int z, i)
number_form token (Number.Decimal d) i = inl (Number.Decimal d, i)
number_form token (Number.Timestamp t) i = inr (t, i)

pub some_number : (token : List ℕ) → Dec (SomeNumber token)
some_number token = map_dec (form_number token) (λ h. number_form token h.0 h.1) (either (numeral token) (timestamp token))

is_whole : (z : ℤ) → Dec (IsWhole z)
is_whole (pos n) = dec_lt n (2 ^ 127)
is_whole (negsuc n) = dec_lt (n + 1) (2 ^ 127)

is_decimal : (d : DecimalParts) → Dec (IsDecimal d)
is_decimal d = three (dec_lt d.magnitude (2 ^ 127)) (at_most (neg_ℤ (pos (2 ^ 31))) d.exponent) (below d.exponent (pos (2 ^ 31)))

fits : (x : Number) → Dec (Fits x)
fits (Number.Int z) = is_whole z
fits (Number.Decimal d) = is_decimal d
fits (Number.Timestamp t) = short t.precision

is_there : (x : Number) → Dec (IsThere x)
is_there (Number.Timestamp t) = there t
is_there _ = yes tt

-- an answer, and that it is the right one
pub record Read (token : List ℕ) : Type 0 where
  pub answer : Result Number Reason
  pub is : ReadsNumber token answer

not_there : (token : List ℕ) (x : Number) → IsNumber token x → Fits x → (IsThere x → ⊥) → ReadsNumber token (Err Malformed)
not_there token x i f n = (
  λ y j.
      let P : Number → Type 0 = λ z. Fits z × (IsThere z → ⊥) in
      subst P (one_number token x y i j) (f, n),
  number_no_float token x i,
)

number_answer : (token : List ℕ) (x : Number) → IsNumber token x → Dec (Fits x) → Dec (IsThere x) → Read token
number_answer token x i (no n) t = record { answer = Err TooLarge; is = (x, i, n) }
number_answer token x i (yes f) (yes t) = record { answer = Ok x; is = (i, f, t) }
number_answer token x i (yes f) (no n) = record { answer = Err Malformed; is = not_there token x i f n }

other_answer : (token : List ℕ) → ((x : Number) → IsNumber token x → ⊥) → Dec (IsFloat token) → Read token
other_answer token none (yes f) = record { answer = Err Float; is = f }
other_answer token none (no n) = record { answer = Err Malformed; is = (λ x i. absurd (none x i), n) }

pub answer_by : (token : List ℕ) → Dec (SomeNumber token) → Read token
answer_by token (yes h) = number_answer token h.0 h.1 (fits h.0) (is_there h.0)
answer_by token (no n) = other_answer token (λ x i. n (x, i)) (float token)

-- the number that a token spells, or why it spells none
unfoldable pub number_read : List ℕ → Result Number Reason
number_read token = (answer_by token (some_number token)).answer

-- what a token is read as says what the token is
pub number_reads : (token : List ℕ) → ReadsNumber token (number_read token)
unfolding number_read
number_reads token = (answer_by token (some_number token)).is

-- there is no other answer
pub reads_number : (token : List ℕ) (r : Result Number Reason) → ReadsNumber token r ↔ (r ≡ number_read token)
reads_number token r = (
  λ h. one_answer token r (number_read token) h (number_reads token),
  λ e. let P : Result Number Reason → Type 0 = ReadsNumber token in subst P (sym e) (number_reads token),
)
