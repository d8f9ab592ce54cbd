-- What stands in the way of a form, an id or an empty body does so for these reasons only.
use Rattle.std.proofs.Common.{◌≡◌, ◌⊎◌, inl, inr, ℕ, ◌-◌, ◌<◌, ◌≤◌, ◌||◌, ◌==◌, ne_eqb, List, [], ◌∷◌, Ok, Err, Option, Some, None, Bool, true, false, cond, refl, sym, subst, arith, slice_get}
use Rattle.std.specs.Str.{is_utf8}
use Rattle.std.proofs.lemmas.Str.{is_utf8-from_IsUtf8, IsUtf8-nil}
use Rattle.std.proofs.lemmas.Bool.{cond-true, cond-false}
use Rattle.ion_refusals.specs.BinaryNames.{BadUtf8, Form, Frame, ImportGap, Malformed, Reason, Scalar, Slot, SymbolRange, decimal_of_body, gap, hollow, is_pad, is_wrapper, judge, read_offset, reason_number, resolve, stray, symbol_at, timestamp_of_body}
use Rattle.ion_model.specs.declared.value.Payload.TheVariants as payloads
use Rattle.ion_binary.specs.machine.Frames as frames
use Rattle.ion_binary.specs.laws.reading.OnlyReasons.{IsPlainReason, some_then}

-- what stands in the way of a form is `Malformed` but for the room at the top level and the id of a name

-- a form with no octets in its body is refused as `Malformed`, if at all
pub hollow_only : (form : Form) (n : ℕ) (e : Reason) → hollow form n ≡ Some e → e ≡ Malformed
hollow_only (Form.Scalar Scalar.NegativeInt) n e h = sym (some_then (n == 0) Malformed e h).1
hollow_only (Form.Scalar Scalar.Timestamp) n e h = sym (some_then (n == 0) Malformed e h).1
hollow_only Form.OrderedStruct n e h = sym (some_then (n == 0) Malformed e h).1
hollow_only Form.Wrapper n e h = sym (some_then (n == 0) Malformed e h).1
hollow_only _ n e h = cc

-- a form that may not stand in the innermost container is refused as `Malformed`, if at all
pub stray_only : (fs : List Frame) (form : Form) (e : Reason) → stray fs form ≡ Some e → e ≡ Malformed
stray_only (frames.Annotated end ss ∷ fs) form e h = sym (some_then (is_pad form || is_wrapper form) Malformed e h).1
stray_only _ form e h = cc

-- ids have no other reasons
pub resolve_only : (c : List Slot) (id : ℕ) (e : Reason) → resolve c id ≡ Err e → (e ≡ SymbolRange) ⊎ (e ≡ ImportGap)
unfolding resolve
resolve_only c id e h = by (id == 0) (slice_get c (id - 1)) h
  where
    slot : (s : Option Slot) → symbol_at s ≡ Err e → (e ≡ SymbolRange) ⊎ (e ≡ ImportGap)
    slot None k = inl (let q : Err SymbolRange ≡ Err e = k in cc)
    slot (Some gap) k = inr (let q : Err ImportGap ≡ Err e = k in cc)
    slot _ k = absurd cc

    by : (b : Bool) (s : Option Slot) → cond b (Ok None) (symbol_at s) ≡ Err e → (e ≡ SymbolRange) ⊎ (e ≡ ImportGap)
    by true s k = absurd cc
    by false s k = slot s k

-- the reasons of an id have the numbers 8 and 9
pub late_name : (e : Reason) → (e ≡ SymbolRange) ⊎ (e ≡ ImportGap) → (8 ≤ reason_number e) × (reason_number e ≤ 9)
late_name e (inl h) = subst (λ (x : Reason). (8 ≤ reason_number x) × (reason_number x ≤ 9)) (sym h) (omega arith, omega arith)
late_name e (inr h) = subst (λ (x : Reason). (8 ≤ reason_number x) × (reason_number x ≤ 9)) (sym h) (omega arith, omega arith)

-- these two reasons have numbers of 5 at most
pub plain_small : (e : Reason) → IsPlainReason e → reason_number e ≤ 5
plain_small e (inl h) = subst (λ (x : Reason). reason_number x ≤ 5) (sym h) (omega arith)
plain_small e (inr h) = subst (λ (x : Reason). reason_number x ≤ 5) (sym h) (omega arith)

-- what tests as a pad is the form of pads
pub pad_is : (form : Form) → is_pad form ≡ true → form ≡ Form.Pad
pad_is Form.Pad h = refl
pad_is _ h = cc

-- a body of some octets is refused for none of them missing
pub hollow_some : (form : Form) (n : ℕ) → 0 < n → hollow form n ≡ None
hollow_some (Form.Scalar Scalar.NegativeInt) n h = cond-false _ _ _ (ne_eqb n 0 (λ e. omega arith))
hollow_some (Form.Scalar Scalar.Timestamp) n h = cond-false _ _ _ (ne_eqb n 0 (λ e. omega arith))
hollow_some Form.OrderedStruct n h = cond-false _ _ _ (ne_eqb n 0 (λ e. omega arith))
hollow_some Form.Wrapper n h = cond-false _ _ _ (ne_eqb n 0 (λ e. omega arith))
hollow_some _ n h = refl

-- no octets are no scalar only where the form asks for some
pub empty_hollow : (c : List Slot) (t : Scalar) (e : Reason) → judge c t [] ≡ Err e → (hollow (Form.Scalar t) 0 ≡ Some Malformed) × (e ≡ Malformed)
unfolding judge timestamp_of_body read_offset decimal_of_body resolve
empty_hollow c Scalar.NegativeInt e h = (refl, cc)
empty_hollow c Scalar.Timestamp e h = (refl, cc)
empty_hollow c Scalar.Str e h = let k = cond-true (is_utf8 []) (Ok (payloads.Str [])) (Err BadUtf8) (is_utf8-from_IsUtf8 [] IsUtf8-nil) in absurd cc
empty_hollow c _ e h = absurd cc
