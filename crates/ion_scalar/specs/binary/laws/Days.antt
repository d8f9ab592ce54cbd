-- The day of a month is read as a number up to 31 first, and is judged by the month then.
use Rattle.std.proofs.Common.{◌≡◌, ℕ, ◌≤◌, ◌<◌, List, Result, Ok, Err, inl, inr, refl, ap, ◌∙◌, arith, cond}
use Rattle.std.specs.Prelude.{nat_le}
use Rattle.std.proofs.lemmas.Bool.{lt-leb, le-leb, cases_lt}
use Rattle.ion_scalar.specs.Names.{Malformed, Reason, TooLarge, in_range, read_field, var_uint}

module _ (last : ℕ) (few : last ≤ 31) where
  -- a number that was read, where it is at most that of the last day
  most : Result (ℕ × ℕ) Reason → Result (ℕ × ℕ) Reason
  most (Ok read) = cond (nat_le read.0 last) (Ok read) (Err Malformed)
  most (Err reason) = Err reason

  in_month : (r : Result (ℕ × ℕ) Reason) → in_range 1 last r ≡ most (in_range 1 31 r)
  unfolding most
  in_month (Ok read) =
      elim (cases_lt read.0 1) [
        | inl low ↦ rw (lt-leb 1 read.0 low) refl
        | inr some ↦ elim (cases_lt 31 read.0) [
          | inl past ↦ rw (le-leb 1 read.0 some, lt-leb read.0 31 past, lt-leb read.0 last (omega arith)) refl
          | inr within ↦ rw (le-leb 1 read.0 some, le-leb read.0 31 within) refl
        ]
      ]
  in_month (Err TooLarge) = refl
  in_month (Err _) = refl

  day_by : (octets : List ℕ) (r : Result (ℕ × ℕ) Reason) → read_field 1 31 octets ≡ r → read_field 1 last octets ≡ most r
  unfolding read_field
  day_by octets r e = in_month (var_uint octets) ∙ ap most e

  module _ (octets : List ℕ) where
    -- a day up to 31 that the month has is read as one of the month
    pub day_read : (x : ℕ × ℕ) → read_field 1 31 octets ≡ Ok x → x.0 ≤ last → read_field 1 last octets ≡ Ok x
    unfolding most
    day_read x e within = day_by octets (Ok x) e ∙ rw (le-leb x.0 last within) refl

    -- a day up to 31 that the month doesn't have is malformed
    pub day_beyond : (x : ℕ × ℕ) → read_field 1 31 octets ≡ Ok x → last < x.0 → read_field 1 last octets ≡ Err Malformed
    unfolding most
    day_beyond x e more = day_by octets (Ok x) e ∙ rw (lt-leb x.0 last more) refl

    -- what is refused as a day up to 31 is refused for the same reason as one of the month
    pub day_refused : (reason : Reason) → read_field 1 31 octets ≡ Err reason → read_field 1 last octets ≡ Err reason
    unfolding most
    day_refused reason e = day_by octets (Err reason) e
