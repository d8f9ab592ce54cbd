-- What a descriptor is refused for.
use Rattle.std.proofs.Common.{◌≡◌, ◌⊎◌, inl, inr, ℕ, ◌/◌, ◌%◌, ◌||◌, ◌==◌, Result, Ok, Err, Some, None, Bool, true, false, cond, refl}
use Rattle.ion_binary.specs.Names.{Descriptor, Float, Follows, Form, Known, Malformed, Opening, Reason, Refused, Scalar, Size, Sized, body_of, descriptor_of, opening_of, opens, typed, with_octets}
use Rattle.ion_symtab.specs.laws.Reasons.{either}

-- where a reason is given unless a test holds, the test failed
pub some_if : (b : Bool) (e x : Reason) → cond b None (Some e) ≡ Some x → (b ≡ false) × (e ≡ x)
some_if true e x h = absurd cc
some_if false e x h = (refl, cc)

-- where a reason is given if a test holds, it held
pub some_then : (b : Bool) (e x : Reason) → cond b (Some e) None ≡ Some x → (b ≡ true) × (e ≡ x)
some_then true e x h = (refl, cc)
some_then false e x h = absurd cc

abbrev pub IsPlainReason : Reason → Type 0
IsPlainReason e = (e ≡ Malformed) ⊎ (e ≡ Float)

-- a descriptor that is refused is so as `Malformed` or `Float`
abbrev pub PlainOpening : Opening → Type 0
PlainOpening (Refused e) = IsPlainReason e
PlainOpening _ = Unit {0}

abbrev PlainDescriptor : Result Descriptor Reason → Type 0
PlainDescriptor (Err e) = IsPlainReason e
PlainDescriptor (Ok d) = Unit {0}

with_all : (P : Opening → Type 0) → ((form : Form) (z : Size) → P (Sized form z)) → P (Refused Malformed) → (t : Scalar) (z : Size) → P (with_octets t z)
with_all P sized refused t (Known n) = either P (n == 0) _ _ refused (sized (Form.Scalar t) (Known n))
with_all P sized refused t Follows = sized (Form.Scalar t) Follows

-- what holds of each form with its size, and of a refusal as `Malformed`, holds of what a body's codes open
pub body_all : (P : Opening → Type 0) → ((form : Form) (z : Size) → P (Sized form z)) → P (Refused Malformed) → (code : ℕ) (z : Size) → P (body_of code z)
body_all P sized refused code z =
    let some : (t : Scalar) → P (with_octets t z) = λ (t : Scalar). with_all P sized refused t z in
    either P (code == 2) _ _ (sized _ z) (either P (code == 3) _ _ (some Scalar.NegativeInt)
    (either P (code == 5) _ _ (sized _ z) (either P (code == 6) _ _ (some Scalar.Timestamp)
    (either P (code == 7) _ _ (sized _ z) (either P (code == 8) _ _ (sized _ z) (either P (code == 9) _ _ (sized _ z) (either P (code == 10) _ _ (sized _ z)
    (either P (code == 11) _ _ (sized _ z) (either P (code == 12) _ _ (sized _ z)
    (either P (code == 13) _ _ (sized _ z) (either P (code == 14) _ _ (sized _ z) refused)))))))))))

opens_plain : (d : Result Descriptor Reason) → PlainDescriptor d → PlainOpening (opens d)
opens_plain (Err e) h = h
opens_plain (Ok (Descriptor.Body code z)) h = body_all PlainOpening (λ form z. tt) (inl refl) code z
opens_plain _ h = tt

typed_plain : (t n : ℕ) → PlainDescriptor (typed t n)
typed_plain t n =
    let P : Result Descriptor Reason → Type 0 = λ d. PlainDescriptor d in
    either P (t == 15) _ _ (inl refl)
    (either P (t == 14) _ _
    (either P (n == 0) _ _ tt (either P ((n == 1) || (n == 2) || (n == 15)) _ _ (inl refl) tt))
    (either P (n == 15) _ _ tt
    (either P (t == 0) _ _ tt
    (either P (t == 1) _ _ (either P (n == 0) _ _ tt (either P (n == 1) _ _ tt (inl refl)))
    (either P (t == 4) _ _ (either P ((n == 0) || (n == 4) || (n == 8)) _ _ (inr refl) (inl refl))
    (either P (t == 13) _ _ (either P (n == 1) _ _ tt tt) tt))))))

-- each octet as a descriptor is refused for no other reason
pub opening_plain : (b : ℕ) → PlainOpening (opening_of b)
unfolding opening_of descriptor_of
opening_plain b = opens_plain (descriptor_of b) (typed_plain (b / 16) (b % 16))
