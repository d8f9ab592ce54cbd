-- The header that is written is that of its form.
use Rattle.std.proofs.Common.{◌≡◌, ◌≢◌, ℕ, ◌+◌, ◌*◌, ◌/◌, ◌%◌, ◌^◌, ◌<◌, ◌≤◌, ◌==◌, false, List, ◌∷◌, length, refl, ◌∙◌, arith, inl, inr, length-append, lt-ltb, le-ltb, ne_eqb}
use Rattle.std.proofs.lemmas.Bool.{cases_lt}
use Rattle.ion_binary.specs.Names.{Follows, Form, Header, IsBodyLength, Known, ListOrSexp, Scalar, Sized, descriptor_of, framed, header, long, long_code, opening_of, opens, short, type_code, typed, var_uint_octets}
use Rattle.ion_scalar.specs.binary.laws.Spellings.{var_uint_spelled}

opens_typed : (code n : ℕ) → n < 16 → opening_of (16 * code + n) ≡ opens (typed code n)
unfolding opening_of descriptor_of
opens_typed code n h =
    let high : (16 * code + n) / 16 ≡ code = omega arith in
    let low : (16 * code + n) % 16 ≡ n = omega arith in
    rw (high, low) refl

other : (n k : ℕ) → n ≢ k → (n == k) ≡ false
other n k h = ne_eqb n k h

-- a number that is less than another isn't the same
pub below : (n k : ℕ) → n < k → (n == k) ≡ false
below n k h = ne_eqb n k (λ e. absurd (omega arith))

above : (n k : ℕ) → k < n → (n == k) ≡ false
above n k h = ne_eqb n k (λ e. absurd (omega arith))

-- a body of fewer than 14 octets
pub known : (form : Form) (n : ℕ) → IsBodyLength form n → n < 14 → opening_of (16 * type_code form + n) ≡ Sized form (Known n)
known (Form.Scalar Scalar.Int) n h k = opens_typed 2 n (omega arith) ∙ rw (below n 15 (omega arith), below n 14 k) refl
known (Form.Scalar Scalar.NegativeInt) n h k = opens_typed 3 n (omega arith) ∙ rw (below n 15 (omega arith), below n 14 k, above n 0 h) refl
known (Form.Scalar Scalar.Decimal) n h k = opens_typed 5 n (omega arith) ∙ rw (below n 15 (omega arith), below n 14 k) refl
known (Form.Scalar Scalar.Timestamp) n h k = opens_typed 6 n (omega arith) ∙ rw (below n 15 (omega arith), below n 14 k, above n 0 h) refl
known (Form.Scalar Scalar.Symbol) n h k = opens_typed 7 n (omega arith) ∙ rw (below n 15 (omega arith), below n 14 k) refl
known (Form.Scalar Scalar.Str) n h k = opens_typed 8 n (omega arith) ∙ rw (below n 15 (omega arith), below n 14 k) refl
known (Form.Scalar Scalar.Clob) n h k = opens_typed 9 n (omega arith) ∙ rw (below n 15 (omega arith), below n 14 k) refl
known (Form.Scalar Scalar.Blob) n h k = opens_typed 10 n (omega arith) ∙ rw (below n 15 (omega arith), below n 14 k) refl
known (Form.ListOrSexp ListOrSexp.List) n h k = opens_typed 11 n (omega arith) ∙ rw (below n 15 (omega arith), below n 14 k) refl
known (Form.ListOrSexp ListOrSexp.Sexp) n h k = opens_typed 12 n (omega arith) ∙ rw (below n 15 (omega arith), below n 14 k) refl
known Form.Struct n h k = opens_typed 13 n (omega arith) ∙ rw (below n 15 (omega arith), below n 14 k, other n 1 h) refl
known Form.OrderedStruct n h k = absurd h
known Form.Wrapper n h k = opens_typed 14 n (omega arith)
    ∙ rw (below n 15 (omega arith), below n 14 k, above n 0 (omega arith), above n 1 (omega arith), above n 2 (omega arith)) refl
known Form.Pad n h k = opens_typed 0 n (omega arith) ∙ rw (below n 15 (omega arith), below n 14 k) refl

-- one of whose length stands behind the descriptor
pub follows : (form : Form) → opening_of (16 * type_code form + long_code form) ≡ Sized form Follows
unfolding opening_of descriptor_of
follows (Form.Scalar Scalar.Int) = refl
follows (Form.ListOrSexp ListOrSexp.List) = refl
follows _ = refl

usual : (form : Form) (n : ℕ) → IsBodyLength form n → long_code form ≡ 14
usual Form.OrderedStruct n h = absurd h
usual _ n h = refl

-- the header that is written for a body is one of its form and length
pub header_is : (form : Form) (n : ℕ) → IsBodyLength form n → n < 2 ^ 63 → Header form n (header (type_code form) n)
header_is form n h small =
    elim (cases_lt n 14) [
      | inl few ↦ rw (lt-ltb n 14 few) (short (16 * type_code form + n) (known form n h few))
      | inr many ↦
          let it : Header form n ((16 * type_code form + 14) ∷ var_uint_octets n) =
          rw (usual form n h) at (long (16 * type_code form + long_code form) (var_uint_octets n) (follows form) (var_uint_spelled n small)) in
          rw (le-ltb n 14 many) it
    ]

-- a body is no longer than what frames it
pub framed_long : (code : ℕ) (body : List ℕ) → length body ≤ length (framed code body)
framed_long code body = let e = length-append (header code (length body)) body in omega arith
