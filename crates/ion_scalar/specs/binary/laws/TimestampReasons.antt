-- A body that is no timestamp is refused for what it is.
use Rattle.std.proofs.Common.{◌≡◌, List, ℕ, refl, sym, ◌∙◌, Ok, Err, Result, inl, inr}
use Rattle.ion_scalar.specs.Names.{IsLargeBody, IsTimestampBody, Malformed, ReadsTimestampBody, Reason, TimestampParts, TooLarge, timestamp_of_body}
use Rattle.ion_scalar.specs.binary.laws.Shown.{body_answers, body_large, timestamp_read}
use Rattle.ion_scalar.specs.binary.laws.Timestamp.{Answers, reads, too_large}

answer_is : (body : List ℕ) (r : Result TimestampParts Reason) → timestamp_of_body body ≡ r → Answers (IsTimestampBody body) (IsLargeBody body) r
    → ReadsTimestampBody body (timestamp_of_body body)
answer_is body _ e (inl (reads t h)) = rw e h
answer_is body _ e (inl (too_large h)) = rw e h
answer_is body r e (inr refused) =
    let malformed : timestamp_of_body body ≡ Err Malformed = e ∙ refused in
    rw malformed (
      λ t is. absurd (let same = sym (timestamp_read body t is) ∙ malformed in cc),
      λ large. absurd (let same = sym (body_large body large) ∙ malformed in cc),
    )

-- each answer of reading a timestamp's body says what the body is
pub timestamp_answers : (body : List ℕ) → ReadsTimestampBody body (timestamp_of_body body)
timestamp_answers body = answer_is body (timestamp_of_body body) refl (body_answers body)

-- and no other answer says so
neither : (body : List ℕ) (answer : Result TimestampParts Reason) → ReadsTimestampBody body answer → ReadsTimestampBody body (Err Malformed)
    → answer ≡ Err Malformed
neither body (Ok t) is none = absurd (none.0 t is)
neither body (Err TooLarge) large none = absurd (none.1 large)
neither body (Err Malformed) a none = refl
neither body (Err _) a none = absurd a

-- an answer that says what the body is is the one that reading gives
pub timestamp_only : (body : List ℕ) (answer : Result TimestampParts Reason) → ReadsTimestampBody body answer → timestamp_of_body body ≡ answer
timestamp_only body (Ok t) is = timestamp_read body t is
timestamp_only body (Err TooLarge) large = body_large body large
timestamp_only body (Err Malformed) none = neither body (timestamp_of_body body) (timestamp_answers body) none
timestamp_only body (Err _) a = absurd a
