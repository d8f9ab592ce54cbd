-- Which form of a timestamp a token has.
use Rattle.std.proofs.Common.{◌≡◌, ◌≢◌, ℕ, zero, suc, ◌+◌, ◌*◌, ◌<◌, ◌≤◌, ◌^◌, ◌⊎◌, inl, inr, List, [], ◌∷◌, ◌++◌, length, take, drop, get_or, min, refl, sym, ap, subst, ◌∙◌, arith, Option, Some, None, SomeIff, IfSome, IfNone}
use Rattle.std.specs.Char.{digit_value}
use Rattle.std.proofs.lemmas.Bool.{eq-eqb, ne_eqb}
use Rattle.std.proofs.Math.Nat.{pow-suc, pow-le-pow_right, mul-le-mul_right}
use Rattle.std.proofs.lemmas.List.{drop_more, take-append-drop, append_cancel_left, length-take-le}
use Rattle.ion_scalar.specs.Names.{AreFourAt, AreTwoAt, BeginsWithMinute, BeginsWithNone, BeginsWithSecond, GoesNotOn, IsAt, IsCut, IsDay, IsDigits, IsFractionEnd, IsMonth, IsOffsetToken, IsShort, IsTimestamp, IsTimestampToken, IsYear, Local, Precision, Stamp, TimestampParts, continued, dated, day, digits_in, four, fraction, minute, minute_read, month, most_digits, number, offset_read, positional, read_precision, second, stamp, timed, two, year}
use Rattle.ion_scalar.specs.text.laws.DecimalTails.{begins_front, one_rest}
use Rattle.ion_scalar.specs.text.laws.DigitRuns.{not_mark}
use Rattle.ion_scalar.specs.text.laws.OneRun.{one_run}
use Rattle.ion_scalar.specs.text.laws.Unsigned.{continued_none}

-- an offset begins with `Z` or a sign
offset_head : (c : ℕ) (os : List ℕ) → IsOffsetToken (c ∷ os) → (c ≡ 90) ⊎ ((c ≡ 43) ⊎ (c ≡ 45))
offset_head c os (inl z) = inl (z.1.1)
offset_head c os (inr h) = elim (h.1) [ inl p ↦ inr (inl (p.1)) | inr p ↦ inr (inr (p.1)) ]

offset_at : (os : List ℕ) (at c : ℕ) → IsAt os at c → IsOffsetToken (drop at os) → (c ≡ 90) ⊎ ((c ≡ 43) ⊎ (c ≡ 45))
offset_at os at c is h =
    let P : ℕ → Type 0 = λ x. (x ≡ 90) ⊎ ((x ≡ 43) ⊎ (x ≡ 45)) in
    subst P (is.1) (offset_head (get_or os at 0) (drop (at + 1) os) (rw (drop_more os at 0 (is.0)) at h))

no_offset_colon : (os : List ℕ) (at : ℕ) → IsAt os at 58 → IsOffsetToken (drop at os) → ⊥
no_offset_colon os at is h = elim (offset_at os at 58 is h) [ inl e ↦ omega arith | inr e ↦ elim e [ inl f ↦ omega arith | inr f ↦ omega arith ] ]

no_offset_point : (os : List ℕ) (at : ℕ) → IsAt os at 46 → IsOffsetToken (drop at os) → ⊥
no_offset_point os at is h = elim (offset_at os at 46 is h) [ inl e ↦ omega arith | inr e ↦ elim e [ inl f ↦ omega arith | inr f ↦ omega arith ] ]

long : (os : List ℕ) → BeginsWithMinute os → 15 < length os
long os h = (h.4.1).0

-- a token that begins with a minute
pub no_minute : (os : List ℕ) → BeginsWithMinute os → (IsAt os 16 58 → ⊥) → (IsOffsetToken (drop 16 os) → ⊥) → (t : TimestampParts) → IsTimestampToken os t → ⊥
no_minute os b colon offset _ (year h) = omega (arith, long os b, h.0)
no_minute os b colon offset _ (month h) = omega (arith, long os b, h.0)
no_minute os b colon offset _ (day h) = elim (h.1) [ inl e ↦ omega (arith, long os b) | inr e ↦ omega (arith, long os b, e.0) ]
no_minute os b colon offset _ (minute h o) = offset o
no_minute os b colon offset _ (second h o) = colon h.1
no_minute os b colon offset _ (fraction h p digits rest e) = colon h.1

-- a minute, a colon and no two digits behind it are no timestamp
pub no_second_digits : (os : List ℕ) → BeginsWithMinute os → IsAt os 16 58 → (AreTwoAt os 17 → ⊥) → (t : TimestampParts) → IsTimestampToken os t → ⊥
no_second_digits os b colon none _ (year h) = omega (arith, long os b, h.0)
no_second_digits os b colon none _ (month h) = omega (arith, long os b, h.0)
no_second_digits os b colon none _ (day h) = elim (h.1) [ inl e ↦ omega (arith, long os b) | inr e ↦ omega (arith, long os b, e.0) ]
no_second_digits os b colon none _ (minute h o) = no_offset_colon os 16 colon o
no_second_digits os b colon none _ (second h o) = none h.2
no_second_digits os b colon none _ (fraction h p digits rest e) = none h.2

-- a minute, a colon, and at the place behind a second neither a point nor an offset are no timestamp
pub no_second : (os : List ℕ) → BeginsWithMinute os → IsAt os 16 58 → (IsAt os 19 46 → ⊥) → (IsOffsetToken (drop 19 os) → ⊥) → (t : TimestampParts)
    → IsTimestampToken os t → ⊥
no_second os b colon point offset _ (year h) = omega (arith, long os b, h.0)
no_second os b colon point offset _ (month h) = omega (arith, long os b, h.0)
no_second os b colon point offset _ (day h) = elim (h.1) [ inl e ↦ omega (arith, long os b) | inr e ↦ omega (arith, long os b, e.0) ]
no_second os b colon point offset _ (minute h o) = no_offset_colon os 16 colon o
no_second os b colon point offset _ (second h o) = offset o
no_second os b colon point offset _ (fraction h p digits rest e) = point p

-- behind the point of a second, what isn't digits and an offset makes no timestamp
pub no_fraction_end : (os : List ℕ) → BeginsWithMinute os → IsAt os 16 58 → IsAt os 19 46
    → ((digits rest : List ℕ) → IsFractionEnd (drop 20 os) digits rest → ⊥) → (t : TimestampParts) → IsTimestampToken os t → ⊥
no_fraction_end os b colon point none _ (year h) = omega (arith, long os b, h.0)
no_fraction_end os b colon point none _ (month h) = omega (arith, long os b, h.0)
no_fraction_end os b colon point none _ (day h) = elim (h.1) [ inl e ↦ omega (arith, long os b) | inr e ↦ omega (arith, long os b, e.0) ]
no_fraction_end os b colon point none _ (minute h o) = no_offset_colon os 16 colon o
no_fraction_end os b colon point none _ (second h o) = no_offset_point os 19 point o
no_fraction_end os b colon point none _ (fraction h p digits rest e) = none digits rest e

-- the answers of the three forms with a time
abbrev pub Shown : List ℕ → Stamp → Type 0
Shown os s = (t : TimestampParts) × IsTimestampToken os t × (s ≡ stamp t)

-- what is read of a minute where an offset stands behind it is what the token spells
pub minute_some : (os : List ℕ) (l : Local) (r : Option Stamp) → BeginsWithMinute os → l ≡ minute_read os
    → SomeIff r (IsOffsetToken (drop 16 os)) (record { local = l; precision = Precision.Minute; offset = offset_read (drop 16 os) }) → IfSome r (Shown os)
minute_some os l None b e h = tt
minute_some os l (Some s) b e h = (
  timed os Precision.Minute 0 0 (drop 16 os),
  minute b (h.0),
  h.1
      ∙ (λ i. record { local = e i; precision = Precision.Minute; offset = offset_read (drop 16 os) }),
)

-- what is read of a second where an offset stands behind it is what the token spells
pub second_some : (os : List ℕ) (l : Local) (r : Option Stamp) → BeginsWithMinute os → IsAt os 16 58 → AreTwoAt os 17
    → l ≡ record (minute_read os) { second = two os 17 }
    → SomeIff r (IsOffsetToken (drop 19 os)) (record { local = l; precision = Precision.Second; offset = offset_read (drop 19 os) }) → IfSome r (Shown os)
second_some os l None b colon two_there e h = tt
second_some os l (Some s) b colon two_there e h = (
  timed os Precision.Second (two os 17) 0 (drop 19 os),
  second (b, colon, two_there) (h.0),
  h.1
      ∙ (λ i. record { local = e i; precision = Precision.Second; offset = offset_read (drop 19 os) }),
)

abbrev pub ShownEnd : Local → List ℕ → Stamp → Type 0
ShownEnd l os s = (digits rest : List ℕ) × IsFractionEnd os digits rest
    × (s ≡ record {
      local = record l { fraction = min (number 10 digits) (2 ^ 127) };
      precision =
          Precision.Fraction (min (length digits) (most_digits + 1));
      offset = offset_read rest;
    })

-- what is read of a second with a fraction and an offset is what the token spells
pub fraction_some : (os : List ℕ) (l : Local) (r : Option Stamp) → BeginsWithMinute os → IsAt os 16 58 → AreTwoAt os 17 → IsAt os 19 46
    → l ≡ record (minute_read os) { second = two os 17 }
    → IfSome r (ShownEnd l (drop 20 os)) → IfSome r (Shown os)
fraction_some os l None b colon two_there point e h = tt
fraction_some os l (Some s) b colon two_there point e h =
    let digits = h.0 in
    let rest = h.1 in (
      timed os (Precision.Fraction (length digits)) (two os 17) (number 10 digits) rest,
      fraction (b, colon, two_there) point digits rest (h.2),
      h.3 ∙ (λ i. record {
        local = record (e i) { fraction = min (number 10 digits) (2 ^ 127) };
        precision =
            Precision.Fraction (min (length digits) (most_digits + 1));
        offset = offset_read rest;
      }),
    )

-- where no answer is given its condition fails, and what follows from that holds
pub none_some : (r : Option Stamp) (P : Type 0) (v : Stamp) (Q : Type 0) → SomeIff r P v → ((P → ⊥) → Q) → IfNone r Q
none_some None P v Q h q = q h
none_some (Some s) P v Q h q = tt

-- where a clause claims something of no answer, what follows from that holds there, too
pub none_map : (r : Option Stamp) (P Q : Type 0) → IfNone r P → (P → Q) → IfNone r Q
none_map None P Q h q = q h
none_map (Some s) P Q h q = tt

head_stops : (c : ℕ) → (c ≡ 90) ⊎ ((c ≡ 43) ⊎ (c ≡ 45)) → (10 ≤ digit_value c) × (c ≢ 95)
head_stops c (inl e) = let P : ℕ → Type 0 = λ x. (10 ≤ digit_value x) × (x ≢ 95) in subst P (sym e) (omega arith, λ h. absurd (omega arith))
head_stops c (inr (inl e)) = let P : ℕ → Type 0 = λ x. (10 ≤ digit_value x) × (x ≢ 95) in subst P (sym e) (omega arith, λ h. absurd (omega arith))
head_stops c (inr (inr e)) = let P : ℕ → Type 0 = λ x. (10 ≤ digit_value x) × (x ≢ 95) in subst P (sym e) (omega arith, λ h. absurd (omega arith))

-- an offset begins with no digit
offset_stops : (rest : List ℕ) → IsOffsetToken rest → GoesNotOn 10 rest
offset_stops [] h = tt
offset_stops (c ∷ []) h = (head_stops c (offset_head c [] h)).0
offset_stops (c ∷ d ∷ os) h = let k = head_stops c (offset_head c (d ∷ os) h) in (k.0, λ m. absurd (k.1 m))

-- digits in front of an offset are the longest run
pub fraction_cut : (os digits rest : List ℕ) (used : ℕ) → (0 < used → IsDigits 10 (take used os)) → BeginsWithNone 10 (drop used os)
    → (0 < used → GoesNotOn 10 (drop used os)) → IsFractionEnd os digits rest
    → (0 < used) × (digits ≡ take used os) × (rest ≡ drop used os)
fraction_cut os digits rest zero d b g e = let P : List ℕ → Type 0 = BeginsWithNone 10 in absurd (begins_front 10 digits rest (e.plain.0) (subst P e.cut b))
fraction_cut os digits rest (suc k) d b g e =
    let same = one_run 10 digits (take (suc k) os) rest (drop (suc k) os) (omega arith) (e.plain.0) (d (omega arith)) (offset_stops rest e.offset)
    (g (omega arith)) (sym e.cut ∙ sym (take-append-drop (suc k) os)) in
    (omega arith, same, one_rest (suc k) os digits rest same e.cut)

-- behind a point, no digits, digits with `_`, or no offset behind them are no end of a timestamp
pub no_end : (os digits rest : List ℕ) (used count : ℕ) → (0 < used → IsDigits 10 (take used os)) → BeginsWithNone 10 (drop used os)
    → (0 < used → GoesNotOn 10 (drop used os)) → used ≤ length os → count ≡ length (digits_in (take used os))
    → (used ≡ 0) ⊎ ((count ≡ used → ⊥) ⊎ (IsOffsetToken (drop used os) → ⊥)) → IsFractionEnd os digits rest → ⊥
no_end os digits rest used count d b g within many (inl z) e = let c = (fraction_cut os digits rest used d b g e).0 in omega arith
no_end os digits rest used count d b g within many (inr (inl marks)) e =
    let c = fraction_cut os digits rest used d b g e in
    marks (many ∙ (sym (ap (λ (x : List ℕ). length (digits_in x)) (c.1)) ∙ (e.plain.1 ∙ (ap length (c.1) ∙ length-take-le used os within))))
no_end os digits rest used count d b g within many (inr (inr offset)) e =
    let c = fraction_cut os digits rest used d b g e in
    offset (subst IsOffsetToken (c.2) e.offset)

-- plain digits and the offset behind them are read as a fraction's end, both numbers capped
pub end_some : (os : List ℕ) (l : Local) (used count value shown : ℕ) (r : Option Stamp) → IsDigits 10 (take used os) → used ≤ length os
    → count ≡ length (digits_in (take used os)) → count ≡ used → value ≡ min (continued 10 0 (take used os)) (2 ^ 127)
    → shown ≡ min count (most_digits + 1) → SomeIff r (IsOffsetToken (drop used os))
    (record { local = record l { fraction = value }; precision = Precision.Fraction shown; offset = offset_read (drop used os) }) → IfSome r (ShownEnd l os)
end_some os l used count value shown None d within many all v c h = tt
end_some os l used count value shown (Some s) d within many all v c h =
    let digits = take used os in
    let size : count ≡ length digits = all ∙ sym (length-take-le used os within) in
    let number_of : value ≡ min (number 10 digits) (2 ^ 127) = v ∙ ap (λ (x : ℕ). min x (2 ^ 127)) (continued_none 10 digits) in
    let capped : shown ≡ min (length digits) (most_digits + 1) = c ∙ ap (λ (x : ℕ). min x (most_digits + 1)) size in (
      digits,
      drop used os,
      record { cut = sym (take-append-drop used os); plain = (d, sym many ∙ size); offset = h.0 },
      h.1 ∙ (λ i. record { local = record l { fraction = number_of i }; precision = Precision.Fraction (capped i); offset = offset_read (drop used os) }),
    )

-- an answer that is given where a token has a form is what the token spells
pub shown_where : (os : List ℕ) (t : TimestampParts) (r : Option Stamp) (P : Type 0) → SomeIff r P (stamp t) → (P → IsTimestampToken os t) → IfSome r (Shown os)
shown_where os t None P h is = tt
shown_where os t (Some s) P h is = (t, is (h.0), h.1)

day_short : (os : List ℕ) → IsDay os → (10 ≤ length os) × (length os ≤ 11)
day_short os h = elim (h.1) [ inl e ↦ (omega arith, omega arith) | inr e ↦ (omega (arith, e.0), omega (arith, e.0)) ]

year_only : (os : List ℕ) → IsYear os → (t : TimestampParts) → IsTimestampToken os t → t ≡ dated Precision.Year (four os 0) 1 1
year_only os a _ (year h) = refl
year_only os a _ (month h) = absurd (let u = a.0 in let v = h.0 in omega arith)
year_only os a _ (day h) = absurd (let u = a.0 in let v = day_short os h in omega arith)
year_only os a _ (minute h o) = absurd (let u = a.0 in let v = long os h in omega arith)
year_only os a _ (second h o) = absurd (let u = a.0 in let v = long os (h.0) in omega arith)
year_only os a _ (fraction h p digits rest e) = absurd (let u = a.0 in let v = long os (h.0) in omega arith)

month_only : (os : List ℕ) → IsMonth os → (t : TimestampParts) → IsTimestampToken os t → t ≡ dated Precision.Month (four os 0) (two os 5) 1
month_only os a _ (year h) = absurd (let u = a.0 in let v = h.0 in omega arith)
month_only os a _ (month h) = refl
month_only os a _ (day h) = absurd (let u = a.0 in let v = day_short os h in omega arith)
month_only os a _ (minute h o) = absurd (let u = a.0 in let v = long os h in omega arith)
month_only os a _ (second h o) = absurd (let u = a.0 in let v = long os (h.0) in omega arith)
month_only os a _ (fraction h p digits rest e) = absurd (let u = a.0 in let v = long os (h.0) in omega arith)

day_only : (os : List ℕ) → IsDay os → (t : TimestampParts) → IsTimestampToken os t → t ≡ dated Precision.Day (four os 0) (two os 5) (two os 8)
day_only os a _ (year h) = absurd (let u = day_short os a in let v = h.0 in omega arith)
day_only os a _ (month h) = absurd (let u = day_short os a in let v = h.0 in omega arith)
day_only os a _ (day h) = refl
day_only os a _ (minute h o) = absurd (let u = day_short os a in let v = long os h in omega arith)
day_only os a _ (second h o) = absurd (let u = day_short os a in let v = long os (h.0) in omega arith)
day_only os a _ (fraction h p digits rest e) = absurd (let u = day_short os a in let v = long os (h.0) in omega arith)

minute_only : (os : List ℕ) → BeginsWithMinute os → IsOffsetToken (drop 16 os) → (t : TimestampParts) → IsTimestampToken os t
    → t ≡ timed os Precision.Minute 0 0 (drop 16 os)
minute_only os a b _ (year h) = absurd (let u = long os a in let v = h.0 in omega arith)
minute_only os a b _ (month h) = absurd (let u = long os a in let v = h.0 in omega arith)
minute_only os a b _ (day h) = absurd (let u = long os a in let v = day_short os h in omega arith)
minute_only os a b _ (minute h o) = refl
minute_only os a b _ (second h o) = absurd (no_offset_colon os 16 h.1 b)
minute_only os a b _ (fraction h p digits rest e) = absurd (no_offset_colon os 16 h.1 b)

second_only : (os : List ℕ) → BeginsWithSecond os → IsOffsetToken (drop 19 os) → (t : TimestampParts) → IsTimestampToken os t
    → t ≡ timed os Precision.Second (two os 17) 0 (drop 19 os)
second_only os a b _ (year h) = absurd (let u = long os (a.0) in let v = h.0 in omega arith)
second_only os a b _ (month h) = absurd (let u = long os (a.0) in let v = h.0 in omega arith)
second_only os a b _ (day h) = absurd (let u = long os (a.0) in let v = day_short os h in omega arith)
second_only os a b _ (minute h o) = absurd (no_offset_colon os 16 a.1 o)
second_only os a b _ (second h o) = refl
second_only os a b _ (fraction h p digits rest e) = absurd (no_offset_point os 19 p b)

one_end : (os digits rest more other : List ℕ) → IsFractionEnd os digits rest → IsFractionEnd os more other → (digits ≡ more) × (rest ≡ other)
one_end os digits rest more other a b =
    let cut : digits ++ rest ≡ more ++ other = sym a.cut ∙ b.cut in
    let same = one_run 10 digits more rest other (omega arith) (a.plain.0) (b.plain.0) (offset_stops rest a.offset) (offset_stops other b.offset) cut in
    (same, append_cancel_left more rest other (sym (ap (λ (z : List ℕ). z ++ rest) same) ∙ cut))

fraction_only : (os digits rest : List ℕ) → BeginsWithSecond os → IsAt os 19 46 → IsFractionEnd (drop 20 os) digits rest → (t : TimestampParts)
    → IsTimestampToken os t → t ≡ timed os (Precision.Fraction (length digits)) (two os 17) (number 10 digits) rest
fraction_only os digits rest a p b _ (year h) = absurd (let u = long os (a.0) in let v = h.0 in omega arith)
fraction_only os digits rest a p b _ (month h) = absurd (let u = long os (a.0) in let v = h.0 in omega arith)
fraction_only os digits rest a p b _ (day h) = absurd (let u = long os (a.0) in let v = day_short os h in omega arith)
fraction_only os digits rest a p b _ (minute h o) = absurd (no_offset_colon os 16 a.1 o)
fraction_only os digits rest a p b _ (second h o) = absurd (no_offset_point os 19 p o)
fraction_only os digits rest a p b _ (fraction h q more other e) = let one = one_end (drop 20 os) more other digits rest e b in
    λ i. timed os (Precision.Fraction (length (one.0 i))) (two os 17) (number 10 (one.0 i)) (one.1 i)

-- a token has one form of a timestamp
pub one_timestamp : (os : List ℕ) (s t : TimestampParts) → IsTimestampToken os s → IsTimestampToken os t → s ≡ t
one_timestamp os _ t (year h) k = sym (year_only os h t k)
one_timestamp os _ t (month h) k = sym (month_only os h t k)
one_timestamp os _ t (day h) k = sym (day_only os h t k)
one_timestamp os _ t (minute h o) k = sym (minute_only os h o t k)
one_timestamp os _ t (second h o) k = sym (second_only os h o t k)
one_timestamp os _ t (fraction h p digits rest e) k = sym (fraction_only os digits rest h p e t k)

-- so many digits make a number below ten to their number
small_step : (d p v : ℕ) → d < 10 → v < p → d * p + v < 10 * p
small_step d p v h k = let m : (d + 1) * p ≤ 10 * p = mul-le-mul_right p (omega arith) in omega arith

small_digit : (c : ℕ) (os ds : List ℕ) → digit_value c < 10 → digits_in os ≡ digit_value c ∷ ds → positional 10 ds < 10 ^ length ds
    → number 10 os < 10 ^ length (digits_in os)
small_digit c os ds h e small =
    let step = small_step (digit_value c) (10 ^ length ds) (positional 10 ds) h small in
    let size : length (digits_in os) ≡ suc (length ds) = ap length e in
    let power : 10 ^ length (digits_in os) ≡ 10 ^ length ds * 10 = ap (λ (k : ℕ). 10 ^ k) size ∙ pow-suc 10 (length ds) in
    let value : number 10 os ≡ digit_value c * 10 ^ length ds + positional 10 ds = ap (positional 10) e in
    rw (power, value) (omega arith)

digits_first : (c : ℕ) (os : List ℕ) → digit_value c < 10 → digits_in (c ∷ os) ≡ digit_value c ∷ digits_in os
digits_first c os h = rw (ne_eqb c 95 (not_mark 10 c (omega arith) h)) refl

digits_skipped : (c d : ℕ) (os : List ℕ) → digit_value c < 10 → d ≡ 95 → digits_in (c ∷ d ∷ os) ≡ digit_value c ∷ digits_in os
digits_skipped c d os h mark = digits_first c (d ∷ os) h ∙ ap (λ (x : List ℕ). digit_value c ∷ x) (rw (eq-eqb d 95 mark) refl)

pub number_small : (os : List ℕ) → IsDigits 10 os → number 10 os < 10 ^ length (digits_in os)
number_small [] h = absurd h
number_small (c ∷ []) h = small_digit c (c ∷ []) [] h (digits_first c [] h) (omega arith)
number_small (c ∷ d ∷ os) h = elim (h.1) [
  | inl more ↦ small_digit c (c ∷ d ∷ os) (digits_in (d ∷ os)) (h.0) (digits_first c (d ∷ os) (h.0)) (number_small (d ∷ os) more)
  | inr mark ↦ small_digit c (c ∷ d ∷ os) (digits_in os) (h.0) (digits_skipped c d os (h.0) (mark.0)) (number_small os (mark.1))
]

pub power_small : (k : ℕ) → k ≤ most_digits → 10 ^ k < 2 ^ 127
power_small k h = let m : 10 ^ k ≤ 10 ^ most_digits = pow-le-pow_right (omega arith) h in omega arith

-- parts with at most 38 fraction digits are read as they are
pub read_short : (os : List ℕ) (t : TimestampParts) → IsTimestampToken os t → IsShort (read_precision t.precision) → IsShort t.precision
    × (stamp t ≡ record { local = t.local; precision = t.precision; offset = t.offset })
read_short os _ (fraction h p digits rest e) s =
    let few : length digits ≤ most_digits = omega arith in
    let small = number_small digits (e.plain.0) in
    let same : length (digits_in digits) ≡ length digits = e.plain.1 in
    let bound = power_small (length (digits_in digits)) (omega arith) in
    let value : min (number 10 digits) (2 ^ 127) ≡ number 10 digits = omega arith in
    let count : min (length digits) (most_digits + 1) ≡ length digits = omega arith in (
      few,
      λ i. record {
        local = record (minute_read os) { second = two os 17; fraction = value i };
        precision =
            Precision.Fraction (count i);
        offset = offset_read rest;
      },
    )
read_short os _ _ s = (tt, refl)

pub short_read : (p : Precision) → IsShort p → IsShort (read_precision p)
short_read (Precision.Fraction digits) h = omega arith
short_read _ h = tt

-- the parts of what is read of a token with at most 38 fraction digits
pub short_parts : (os : List ℕ) (t : TimestampParts) (s : Stamp) → IsTimestampToken os t → s ≡ stamp t → IsShort s.precision → IsShort t.precision
    × (t ≡ record { local = s.local; precision = s.precision; offset = s.offset })
short_parts os t s is e short =
    let P : Stamp → Type 0 = λ x. IsShort x.precision in
    let k = read_short os t is (subst P e short) in
    let same = e ∙ k.1 in
    (k.0, sym (λ i. record { local = (same i).local; precision = (same i).precision; offset = (same i).offset }))

pub too_many : (t : TimestampParts) (s : Stamp) → s ≡ stamp t → (IsShort s.precision → ⊥) → IsShort t.precision → ⊥
too_many t s e long short = let P : Stamp → Type 0 = λ x. IsShort x.precision in long (subst P (sym e) (short_read t.precision short))

-- there is no such day and time
pub none_there : (os : List ℕ) (t : TimestampParts) (s : Stamp) → IsTimestampToken os t → s ≡ stamp t → IsShort s.precision
    → (IsTimestamp (record { local = s.local; precision = s.precision; offset = s.offset }) → ⊥)
    → (x : TimestampParts) → IsTimestampToken os x → IsShort x.precision × (IsTimestamp x → ⊥)
none_there os t s is e short none x other =
    let k = short_parts os t s is e short in
    let one = one_timestamp os t x is other in
    let P : TimestampParts → Type 0 = λ y. IsShort y.precision × (IsTimestamp y → ⊥) in
    subst P one (k.0, λ i. none (subst IsTimestamp k.1 i))

-- parts that equal those of a token, and that are a timestamp, are what the token spells
pub made : (os : List ℕ) (t x y : TimestampParts) → IsTimestampToken os t → t ≡ y → IsTimestamp y × (x ≡ y) → IsTimestampToken os x × IsTimestamp x
made os t x y is e h = (subst (IsTimestampToken os) (e ∙ sym (h.1)) is, subst IsTimestamp (sym (h.1)) (h.0))

cut_short : (p : Precision) (l : Local) → IsCut p l → IsShort p
cut_short (Precision.Fraction digits) l h = h.1
cut_short _ l h = tt

-- a timestamp has at most 38 fraction digits
pub there_short : (t : TimestampParts) → IsTimestamp t → IsShort t.precision
there_short t h = cut_short t.precision t.local h.cut

-- every form begins with four digits, and then `-` or `T`
pub stamp_front : (os : List ℕ) (t : TimestampParts) → IsTimestampToken os t → AreFourAt os 0 × (IsAt os 4 45 ⊎ IsAt os 4 84)
stamp_front os _ (year h) = (h.1, inr (h.2))
stamp_front os _ (month h) = (h.1.0, inl (h.1.1))
stamp_front os _ (day h) = (h.0.0.0, inl (h.0.0.1))
stamp_front os _ (minute h o) = (h.0.0.0, inl (h.0.0.1))
stamp_front os _ (second h o) = (h.0.0.0.0, inl (h.0.0.0.1))
stamp_front os _ (fraction h p digits rest e) = (h.0.0.0.0, inl (h.0.0.0.1))
