-- A layout has one list of events: what is told at a place, and where it leads, is a function of the octets.
use Rattle.std.proofs.Common.{◌≡◌, ℕ, ℤ, neg_ℤ, ◌≤ℤ◌, ◌<ℤ◌, ◌+◌, ◌-◌, ◌*◌, ◌/◌, ◌%◌, ◌^◌, ◌≤◌, ◌<◌, pos, negsuc, suc, max, List, [], ◌∷◌, length, take, drop, cond, Bool, true, false, Option, Some, None, refl, ap, sym, subst, ◌∙◌, arith}
use Rattle.std.specs.Prelude.{nat_eq, nat_lt, int_lt, unsigned_abs, if◌then◌else◌}
use Rattle.std.specs.Int.{cast_signed, cast_unsigned, w32, w64}
use Rattle.std.proofs.lemmas.Bool.{lt-ltb, ltb-true, ne_eqb}
use Rattle.std.proofs.Math.Dec.{lit≤}
use Rattle.std.proofs.Math.Facts.{ltb_yes}
use Rattle.std.proofs.lemmas.Int.{to_z-of_z}
use Rattle.ion_atoms.specs.laws.Neighbours.{month_most}
use Rattle.ion_model.specs.Kept as kept
use Rattle.ion_model.specs.declared.value.Payload.TheVariants as payloads
use Rattle.ion_model.specs.declared.value.Payload.TheViews.{outs-Blob, outs-Clob, outs-Decimal, outs-Fields, outs-Int, outs-List, outs-Null, outs-Sexp, outs-Str, outs-Symbol, outs-Timestamp, outs-Truth}
use Rattle.ion_events.specs.Entries.{bit, code_of, fraction_entries, goes_on, great_entries, high, is_int64, local_number, low, offset_count, plain, precision_code, timestamp_entries}
use Rattle.ion_events.specs.Layouts.{Around, Fills, IsText, Label, Lays, Stand, Walk, begin, behind_label, bracket_code, entry_at, finish, lays_one, lays_part, one_more, past, texts_of}
use Rattle.ion_events.specs.Names.Below.{Bracket, DecimalParts, Event, HasOffset, IsCut, IsOffset, IsTimestamp, KeptPayload, Kind, Led, Local, Payload, Precision, TimestampParts, annotation, closes, ended, name, opens, out-Payload, part, signed}
use Rattle.ion_events.specs.declared.entry.Entry.{Entry}

-- 1. What an entry tells.

-- what an entry tells, how many go on with it, and what is open and used behind it
record Says : Type 0 where
  event : Event
  more : ℕ
  around : List Around
  used : ℕ

-- what is told, and where that leads
record Step : Type 0 where
  event : Event
  to : Walk

abbrev step : Event → Walk → Step
step e b = record { event = e; to = b }

-- the number of one of the entries behind
abbrev behind : List ℕ → Walk → ℕ → ℕ
behind o a k = (entry_at o (a.at + k)).number

abbrev joined : ℕ → ℕ → ℕ
joined low high = low + high * 2 ^ 64

abbrev kind_at : ℕ → Kind
kind_at n =
    cond (nat_eq n 0) Kind.Null (cond (nat_eq n 1) Kind.Bool (cond (nat_eq n 2) Kind.Int (cond (nat_eq n 4) Kind.Float (cond (nat_eq n 5) Kind.Decimal
    (cond (nat_eq n 6) Kind.Timestamp (cond (nat_eq n 7) Kind.Symbol (cond (nat_eq n 8) Kind.Str (cond (nat_eq n 9) Kind.Clob (cond (nat_eq n 10) Kind.Blob
    (cond (nat_eq n 11) Kind.List (cond (nat_eq n 12) Kind.Sexp Kind.Fields)))))))))))

abbrev bracket_at : ℕ → Bracket
bracket_at n = cond (nat_eq n 11) Bracket.List (cond (nat_eq n 12) Bracket.Sexp Bracket.Fields)

abbrev decimal_at : List ℕ → Walk → Entry → DecimalParts
decimal_at o a e = record {
  negative = nat_eq e.detail 1;
  magnitude = cond (nat_eq e.more 0) e.number (joined e.number (behind o a 1));
  exponent = cast_signed w32 e.count;
}

abbrev precision_at : ℕ → Precision
precision_at n =
    cond (nat_lt 5 n) (Precision.Fraction (n - 5)) (cond (nat_eq n 1) Precision.Year (cond (nat_eq n 2) Precision.Month (cond (nat_eq n 3) Precision.Day
    (cond (nat_eq n 4) Precision.Minute Precision.Second))))

abbrev offset_at : ℕ → Option ℤ
offset_at n = cond (nat_eq n (2 ^ 31)) None (Some (cast_signed w32 n))

abbrev fraction_at : List ℕ → Walk → ℕ → ℕ
fraction_at o a more = cond (nat_eq more 0) 0 (cond (nat_eq more 1) (behind o a 1) (joined (behind o a 1) (behind o a 2)))

abbrev local_at : ℕ → ℕ → Local
local_at n fraction = record {
  year = n % 2 ^ 16;
  month = n / 2 ^ 16 % 2 ^ 8;
  day = n / 2 ^ 24 % 2 ^ 8;
  hour = n / 2 ^ 32 % 2 ^ 8;
  minute = n / 2 ^ 40 % 2 ^ 8;
  second = n / 2 ^ 48;
  fraction = fraction;
}

abbrev timestamp_at : List ℕ → Walk → Entry → TimestampParts
timestamp_at o a e = record { local = local_at e.number (fraction_at o a e.more); precision = precision_at e.detail; offset = offset_at e.count }

abbrev octets_at : List ℕ → Entry → List ℕ
octets_at o e = take e.count (drop e.number (texts_of o))

abbrev symbol_at : List ℕ → Entry → Option (List ℕ)
symbol_at o e = cond (nat_eq e.detail 1) None (Some (octets_at o e))

-- up to where texts are used behind a symbol
abbrev used_by : Walk → Entry → ℕ
used_by a e = cond (nat_eq e.detail 1) a.used (max a.used (e.number + e.count))

abbrev outer : List Around → List Around
outer [] = []
outer (x ∷ xs) = xs

-- a value, with so much of the texts used
abbrev value : Walk → ℕ → ℕ → Payload → Says
value a more used p = record { event = part p; more = more; around = one_more a.around; used = used }

abbrev text : Walk → Entry → Payload → Says
text a e p = value a 0 (e.number + e.count) p

abbrev label : Walk → Entry → Event → Says
label a e said = record { event = said; more = 0; around = a.around; used = used_by a e }

abbrev says : List ℕ → Walk → Entry → Says
says o a e =
    cond (nat_eq e.kind 0) (value a e.more a.used (payloads.Null (kind_at e.detail)))
    (cond (nat_eq e.kind 1) (value a e.more a.used (payloads.Truth (nat_eq e.number 1)))
    (cond (nat_eq e.kind 2) (value a e.more a.used (payloads.Int (cast_signed w64 e.number)))
    (cond (nat_eq e.kind 3) (value a e.more a.used (payloads.Int (signed (nat_eq e.detail 1) (joined e.number (behind o a 1)))))
    (cond (nat_eq e.kind 5) (value a e.more a.used (payloads.Decimal (decimal_at o a e)))
    (cond (nat_eq e.kind 6) (value a e.more a.used (payloads.Timestamp (timestamp_at o a e)))
    (cond (nat_eq e.kind 7) (value a e.more (used_by a e) (payloads.Symbol (symbol_at o e)))
    (cond (nat_eq e.kind 8) (text a e (payloads.Str (octets_at o e)))
    (cond (nat_eq e.kind 9) (text a e (payloads.Clob (octets_at o e)))
    (cond (nat_eq e.kind 10) (text a e (payloads.Blob (octets_at o e)))
    (cond (nat_eq e.kind 14) (label a e (annotation (symbol_at o e)))
    (cond (nat_eq e.kind 15) (label a e (name (symbol_at o e)))
    (cond (nat_eq e.kind 16) (record { event = closes (bracket_at e.detail); more = 0; around = outer a.around; used = a.used })
    (record {
      event = opens (bracket_at e.kind);
      more = 0;
      around = record { bracket = bracket_at e.kind; place = a.at; behind = e.number; says = e.count; came = 0 } ∷ one_more a.around;
      used = a.used;
    })))))))))))))

abbrev told_of : List ℕ → Walk → Entry → Step
told_of o a e = let s = says o a e in step s.event (record { at = a.at + suc s.more; around = s.around; used = s.used })

abbrev told : List ℕ → Walk → Step
told o a = told_of o a (entry_at o a.at)

-- 2. What was laid is told: nulls, truths and numbers.

kind_back : (k : Kind) → kind_at (code_of k) ≡ k
kind_back Kind.Null = refl
kind_back Kind.Bool = refl
kind_back Kind.Int = refl
kind_back Kind.Float = refl
kind_back Kind.Decimal = refl
kind_back Kind.Timestamp = refl
kind_back Kind.Symbol = refl
kind_back Kind.Str = refl
kind_back Kind.Clob = refl
kind_back Kind.Blob = refl
kind_back Kind.List = refl
kind_back Kind.Sexp = refl
kind_back Kind.Fields = refl

bit_back : (t : Bool) → nat_eq (bit t) 1 ≡ t
bit_back true = refl
bit_back false = refl

halves : (n : ℕ) → joined (low n) (high n) ≡ n
halves n = omega arith

-- an int of 64 bits, and any other
int64_back : (z : ℤ) → is_int64 z ≡ true → cast_signed w64 (cast_unsigned w64 z) ≡ z
int64_back (pos n) h = to_z-of_z w64 (pos n) (record { sfits = ltb-true n (2 ^ 63) h })
int64_back (negsuc n) h = to_z-of_z w64 (negsuc n) (record { sfits = ltb-true n (2 ^ 63) h })

sign_back : (z : ℤ) → signed (int_lt z (pos 0)) (unsigned_abs z) ≡ z
sign_back (pos n) = grind arith
sign_back (negsuc n) = grind arith

int32_back : (z : ℤ) → neg_ℤ (pos (2 ^ 31)) ≤ℤ z → z <ℤ pos (2 ^ 31) → cast_signed w32 (cast_unsigned w32 z) ≡ z
int32_back (pos n) h k = to_z-of_z w32 (pos n) (record { sfits = ltb_yes k.lt })
int32_back (negsuc n) h k = to_z-of_z w32 (negsuc n) (record { sfits = omega (arith, lit≤ h.le) })

-- a number whose high half stands behind, where it needs one
beyond_by : (o : List ℕ) (i n : ℕ) (t : Bool) → nat_lt n (2 ^ 64) ≡ t → Stand o i (if t then [] else goes_on (high n) ∷ [])
    → cond (nat_eq (length (if t then [] else goes_on (high n) ∷ [])) 0) (low n) (joined (low n) (entry_at o i).number) ≡ n
beyond_by o i n true e h = omega (arith, ltb-true n (2 ^ 64) e)
beyond_by o i n false e h = ap (λ (m : Entry). joined (low n) m.number) h.0 ∙ halves n

cut_precision : (p : Precision) (l : Local) → IsCut p l → precision_at (precision_code p) ≡ p
cut_precision Precision.Year l h = refl
cut_precision Precision.Month l h = refl
cut_precision Precision.Day l h = refl
cut_precision Precision.Minute l h = refl
cut_precision Precision.Second l h = refl
cut_precision (Precision.Fraction digits) l h = rw (lt-ltb 5 (5 + digits) (omega (arith, h.0))) (ap Precision.Fraction (omega arith))

some_offset : (z : ℤ) → IsOffset z → offset_at (cast_unsigned w32 z) ≡ Some z
some_offset (pos n) h =
    let few : n ≤ 1439 = lit≤ h.1.le in
    rw (ne_eqb n (2 ^ 31) (λ e. omega (arith, e, few))) (ap Some (to_z-of_z w32 (pos n) (record { sfits = omega (arith, few) })))
some_offset (negsuc n) h =
    let few : n ≤ 1438 = lit≤ h.0.le in
    rw (ne_eqb (2 ^ 32 - suc n) (2 ^ 31) (λ e. omega (arith, e, few))) (ap Some (to_z-of_z w32 (negsuc n) (record { sfits = omega (arith, few) })))

no_offset : (s : Option ℤ) → s ≡ None → offset_at (offset_count s) ≡ s
no_offset s h = ap (λ s. offset_at (offset_count s)) h ∙ sym h

kept_offset : (p : Precision) (s : Option ℤ) → HasOffset p s → offset_at (offset_count s) ≡ s
kept_offset Precision.Year s h = no_offset s h
kept_offset Precision.Month s h = no_offset s h
kept_offset Precision.Day s h = no_offset s h
kept_offset Precision.Minute None h = refl
kept_offset Precision.Minute (Some z) h = some_offset z h
kept_offset Precision.Second None h = refl
kept_offset Precision.Second (Some z) h = some_offset z h
kept_offset (Precision.Fraction digits) None h = refl
kept_offset (Precision.Fraction digits) (Some z) h = some_offset z h

fraction_by : (o : List ℕ) (a : Walk) (n : ℕ) (t : Bool) → nat_lt n (2 ^ 64) ≡ t → entry_at o (a.at + 1) ≡ goes_on (low n)
    → Stand o (a.at + 1 + 1) (if t then [] else goes_on (high n) ∷ [])
    → fraction_at o a (length (goes_on (low n) ∷ (if t then [] else goes_on (high n) ∷ []))) ≡ n
fraction_by o a n true e h k = ap (λ (m : Entry). m.number) h ∙ omega (arith, ltb-true n (2 ^ 64) e)
fraction_by o a n false e h k =
    let next : entry_at o (a.at + 2) ≡ goes_on (high n) = ap (λ i. entry_at o i) (omega arith) ∙ k.0 in
    (λ i. joined (h i).number (next i).number) ∙ halves n

fraction_back : (o : List ℕ) (a : Walk) (p : Precision) (l : Local) → IsCut p l → Stand o (a.at + 1) (fraction_entries p l.fraction)
    → fraction_at o a (length (fraction_entries p l.fraction)) ≡ l.fraction
fraction_back o a Precision.Year l h k = sym h.5
fraction_back o a Precision.Month l h k = sym h.4
fraction_back o a Precision.Day l h k = sym h.3
fraction_back o a Precision.Minute l h k = sym h.1
fraction_back o a Precision.Second l h k = sym h
fraction_back o a (Precision.Fraction digits) l h k = fraction_by o a l.fraction (nat_lt l.fraction (2 ^ 64)) refl k.0 k.1

local_back : (t : TimestampParts) (f : ℕ) → IsTimestamp t → f ≡ t.local.fraction → local_at (local_number t.local) f ≡ t.local
local_back t f h is =
    let l = t.local in
    let y : l.year < 2 ^ 16 = omega (arith, h.date.year.1) in
    let mo : l.month < 2 ^ 8 = omega (arith, h.date.month.1) in
    let d : l.day < 2 ^ 8 = omega (arith, h.date.day.1, month_most l.year l.month) in
    let ho : l.hour < 2 ^ 8 = omega (arith, h.time.0) in
    let mi : l.minute < 2 ^ 8 = omega (arith, h.time.1) in
    let e1 : local_number l % 2 ^ 16 ≡ l.year = omega (arith, y) in
    let e2 : local_number l / 2 ^ 16 % 2 ^ 8 ≡ l.month = omega (arith, y, mo) in
    let e3 : local_number l / 2 ^ 24 % 2 ^ 8 ≡ l.day = omega (arith, y, mo, d) in
    let e4 : local_number l / 2 ^ 32 % 2 ^ 8 ≡ l.hour = omega (arith, y, mo, d, ho) in
    let e5 : local_number l / 2 ^ 40 % 2 ^ 8 ≡ l.minute = omega (arith, y, mo, d, ho, mi) in
    let e6 : local_number l / 2 ^ 48 ≡ l.second = omega (arith, y, mo, d, ho, mi) in
    λ i. record { year = e1 i; month = e2 i; day = e3 i; hour = e4 i; minute = e5 i; second = e6 i; fraction = is i }

-- 3. So each event is.

filled : (o : List ℕ) (a : Walk) (e : Entry) (q p : Payload) (b : Walk) → entry_at o a.at ≡ e
    → told_of o a e ≡ step (part q) (past a (suc e.more) a.used) → q ≡ p
    → b ≡ past a (suc e.more) a.used → told o a ≡ step (part p) b
filled o a e q p b entry is same to = ap (told_of o a) entry ∙ is ∙ (λ i. step (part (same i)) (sym to i))

int_told : (o : List ℕ) (a : Walk) (z : ℤ) (b : Walk) (t : Bool) → is_int64 z ≡ t
    → Fills o a (if t then plain 2 0 (cast_unsigned w64 z) ∷ [] else great_entries z) b
    → told o a ≡ step (part (payloads.Int z)) b
int_told o a z b true e l = filled o a _ _ _ b l.0.0 refl (ap payloads.Int (int64_back z e)) l.1
int_told o a z b false e l =
    filled o a _ _ _ b l.0.0 refl
    (ap payloads.Int ((λ i. signed (bit_back (int_lt z (pos 0)) i) (joined (low (unsigned_abs z)) (l.0.1.0 i).number))
    ∙ ap (signed (int_lt z (pos 0))) (halves (unsigned_abs z)) ∙ sign_back z)) l.1

timestamp_told : (o : List ℕ) (a : Walk) (t : TimestampParts) (b : Walk) → IsTimestamp t → Fills o a (timestamp_entries t) b
    → told o a ≡ step (part (payloads.Timestamp t)) b
timestamp_told o a t b h l =
    let f = fraction_back o a t.precision t.local h.cut l.0.1 in
    filled o a _ _ _ b l.0.0 refl
    (λ i. payloads.Timestamp (record {
      local = local_back t _ h f i;
      precision = cut_precision t.precision t.local h.cut i;
      offset = kept_offset t.precision t.offset h.offset i;
    })) l.1

text_told : (o : List ℕ) (a : Walk) (kind : Kind) (w : List ℕ) (b : Walk) (f : List ℕ → Payload) → IsText o a kind w b
    → told_of o a (plain (code_of kind) (length w) a.used) ≡ step (part (f (take (length w) (drop a.used (texts_of o))))) (past a 1 (a.used + length w))
    → told o a ≡ step (part (f w)) b
text_told o a kind w b f l is = ap (told_of o a) l.entry ∙ is ∙ (λ i. step (part (f (l.there.is i))) (sym l.is i))

abbrev labelled : ℕ → ℕ → ℕ → ℕ → Entry
labelled code detail count number = record { kind = code; detail = detail; more = 0; count = count; number = number }

label_told : (o : List ℕ) (a : Walk) (code : ℕ) (s : Option (List ℕ)) (after : ℕ) (f : Option (List ℕ) → ℕ → Step) → Label o a code s after
    → ((d c n : ℕ) → told_of o a (labelled code d c n) ≡ f (symbol_at o (labelled code d c n)) (used_by a (labelled code d c n))) → told o a ≡ f s after
label_told o a code (Some w) after f l is =
    ap (told_of o a) l.entry ∙ is 0 (length w) l.place ∙ (λ i. f (Some (l.there.is i)) (sym l.is i))
label_told o a code None after f l is = ap (told_of o a) l.entry ∙ is 1 0 0 ∙ ap (f None) (sym l.is)

part_told : (o : List ℕ) (a : Walk) (p : Payload) (b : Walk) → KeptPayload p → lays_part o a (out-Payload p) b → told o a ≡ step (part p) b
part_told o a _ b (kept.kept_null k) h =
    let l = subst (λ d. lays_part o a d b) (outs-Null k) h in filled o a _ _ _ b l.0.0 refl (ap payloads.Null (kind_back k)) l.1
part_told o a _ b (kept.kept_truth t) h =
    let l = subst (λ d. lays_part o a d b) (outs-Truth t) h in filled o a _ _ _ b l.0.0 refl (ap payloads.Truth (bit_back t)) l.1
part_told o a _ b (kept.kept_int z _) h = int_told o a z b (is_int64 z) refl (subst (λ d. lays_part o a d b) (outs-Int z) h)
part_told o a _ b (kept.kept_decimal d k) h =
    let l = subst (λ d. lays_part o a d b) (outs-Decimal d) h in
    filled o a _ _ _ b l.0.0 refl
    (λ i. payloads.Decimal (record {
      negative = bit_back d.negative i;
      magnitude = beyond_by o (a.at + 1) d.magnitude (nat_lt d.magnitude (2 ^ 64)) refl l.0.1 i;
      exponent = int32_back d.exponent k.1 k.2 i;
    })) l.1
part_told o a _ b (kept.kept_timestamp t k) h = timestamp_told o a t b k (subst (λ d. lays_part o a d b) (outs-Timestamp t) h)
part_told o a _ b (kept.kept_symbol s _) h =
    let l = subst (λ d. lays_part o a d b) (outs-Symbol s) h in
    label_told o a 7 s l.0 (λ s n. step (part (payloads.Symbol s)) (past a 1 n)) l.1 (λ d c n. refl) ∙ ap (step (part (payloads.Symbol s))) (sym l.2)
part_told o a _ b (kept.kept_string w _) h = text_told o a Kind.Str w b payloads.Str (subst (λ d. lays_part o a d b) (outs-Str w) h) refl
part_told o a _ b (kept.kept_clob w _) h = text_told o a Kind.Clob w b payloads.Clob (subst (λ d. lays_part o a d b) (outs-Clob w) h) refl
part_told o a _ b (kept.kept_blob w _) h = text_told o a Kind.Blob w b payloads.Blob (subst (λ d. lays_part o a d b) (outs-Blob w) h) refl
part_told o a _ b (kept.kept_list vs _) h = absurd (subst (λ d. lays_part o a d b) (outs-List vs) h)
part_told o a _ b (kept.kept_sexp vs _) h = absurd (subst (λ d. lays_part o a d b) (outs-Sexp vs) h)
part_told o a _ b (kept.kept_fields ms _) h = absurd (subst (λ d. lays_part o a d b) (outs-Fields ms) h)

abbrev entered : Walk → Bracket → ℕ → ℕ → Walk
entered a x says behind = record {
  at = a.at + 1;
  around = record { bracket = x; place = a.at; behind = behind; says = says; came = 0 } ∷ one_more a.around;
  used = a.used;
}

open_told : (o : List ℕ) (a : Walk) (x : Bracket) (says behind : ℕ)
    → told_of o a (plain (bracket_code x) says behind) ≡ step (opens x) (entered a x says behind)
open_told o a Bracket.List says behind = refl
open_told o a Bracket.Sexp says behind = refl
open_told o a Bracket.Fields says behind = refl

bracket_back : (x : Bracket) → bracket_at (bracket_code x) ≡ x
bracket_back Bracket.List = refl
bracket_back Bracket.Sexp = refl
bracket_back Bracket.Fields = refl

event_told : (o : List ℕ) (a : Walk) (e : Event) (b : Walk) → lays_one o a e b → told o a ≡ step e b
event_told o a (part p) b h = part_told o a p b h.0 h.1
event_told o a (annotation s) b h =
    label_told o a 14 s h.1.0 (λ s n. step (annotation s) (behind_label a n)) h.1.1 (λ d c n. refl) ∙ ap (step (annotation s)) (sym h.1.2)
event_told o a (name s) b h = label_told o a 15 s h.1.0 (λ s n. step (name s) (behind_label a n)) h.1.1 (λ d c n. refl) ∙ ap (step (name s)) (sym h.1.2)
event_told o a (opens x) b h = ap (told_of o a) h.1.entry ∙ open_told o a x h.1.says h.1.behind ∙ ap (step (opens x)) (sym h.1.is)
event_told o a (closes x) b h =
    ap (told_of o a) h.1.entry
    ∙ (λ i. step (closes (bracket_back x i)) (record { at = sym h.1.at i; around = outer (h.1.around i); used = sym h.1.used i }))
event_told o a ended b h = absurd h.1

-- one place, one event
one_event : (o : List ℕ) (a : Walk) (e f : Event) (b c : Walk) → lays_one o a e b → lays_one o a f c → (e ≡ f) × (b ≡ c)
one_event o a e f b c h k =
    let s : step e b ≡ step f c = sym (event_told o a e b h) ∙ event_told o a f c k in (ap (λ (s : Step). s.event) s, ap (λ (s : Step). s.to) s)

-- 4. What is told leads on.

passed : (o : List ℕ) (a : Walk) (e : Event) (b : Walk) → lays_one o a e b → a.at < b.at
passed o a e b h = omega (arith, ap (λ (s : Step). s.to.at) (event_told o a e b h))

-- events don't lead back
led_on : (o : List ℕ) (es : List Event) (a b : Walk) → Led (lays_one o) es a b → a.at ≤ b.at
led_on o [] a b h = omega (arith, ap (λ (x : Walk). x.at) h)
led_on o (e ∷ es) a b h = omega (arith, passed o a e h.0 h.1, led_on o es h.0 b h.2)

-- nor to where they began
none_back : (o : List ℕ) (e : Event) (es : List Event) (a b : Walk) → Led (lays_one o) (e ∷ es) a b → b ≡ a → ⊥
none_back o e es a b h same = omega (arith, passed o a e h.0 h.1, led_on o es h.0 b h.2, ap (λ (x : Walk). x.at) same)

-- 5. Whole layouts.

-- events from one place to the end are one list
led_one : (o : List ℕ) (es fs : List Event) (a : Walk) → Led (lays_one o) es a (finish o) → Led (lays_one o) fs a (finish o) → es ≡ fs
led_one o [] [] a h k = refl
led_one o (e ∷ es) (f ∷ fs) a h k =
    let s = one_event o a e f h.0 k.0 h.1 k.1 in
    let t = led_one o es fs h.0 h.2 (subst (λ x. Led (lays_one o) fs x (finish o)) (sym s.1) k.2) in
    λ i. s.0 i ∷ t i
led_one o [] (f ∷ fs) a h k = absurd (none_back o f fs a (finish o) k (sym h))
led_one o (e ∷ es) [] a h k = absurd (none_back o e es a (finish o) h (sym k))

pub lays_one_list : (es fs : List Event) (o : List ℕ) → Lays es o → Lays fs o → es ≡ fs
lays_one_list es fs o h k = led_one o es fs begin h.led k.led
