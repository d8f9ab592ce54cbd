-- A body is refused as too large or as malformed, and for no other reason.
use Rattle.std.proofs.Common.{ℕ, List, Result, Ok, Err}
use Rattle.ion_scalar.specs.Names.{DecimalParts, ReadsDecimalBody, ReadsTimestampBody, Reason, TimestampParts, decimal_of_body, timestamp_of_body}
use Rattle.ion_scalar.specs.binary.laws.Decimal.{decimal_answers}
use Rattle.ion_scalar.specs.binary.laws.TimestampReasons.{timestamp_answers}

-- the reasons of a body
abbrev pub IsBodyReason : Reason → Type 0
IsBodyReason Reason.TooLarge = Unit {0}
IsBodyReason Reason.Malformed = Unit {0}
IsBodyReason _ = ⊥

-- an answer that refuses for such a reason at most
abbrev pub JudgesBody : {X : Type 0} → Result X Reason → Type 0
JudgesBody (Ok x) = Unit {0}
JudgesBody (Err e) = IsBodyReason e

timestamp_on : (body : List ℕ) (r : Result TimestampParts Reason) → ReadsTimestampBody body r → JudgesBody r
timestamp_on body (Ok t) h = tt
timestamp_on body (Err Reason.TooLarge) h = tt
timestamp_on body (Err Reason.Malformed) h = tt
timestamp_on body (Err _) h = h

-- the body of a timestamp
pub timestamp_judges : (body : List ℕ) → JudgesBody (timestamp_of_body body)
timestamp_judges body = timestamp_on body (timestamp_of_body body) (timestamp_answers body)

decimal_on : (body : List ℕ) (r : Result DecimalParts Reason) → ReadsDecimalBody body r → JudgesBody r
decimal_on body (Ok d) h = tt
decimal_on body (Err Reason.TooLarge) h = tt
decimal_on body (Err Reason.Malformed) h = tt
decimal_on body (Err _) h = h

-- the body of a decimal
pub decimal_judges : (body : List ℕ) → JudgesBody (decimal_of_body body)
decimal_judges body = decimal_on body (decimal_of_body body) (decimal_answers body)
