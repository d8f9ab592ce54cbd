-- Descriptors of scalars, by the type code and the length code.
use Rattle.std.proofs.Common.{◌≡◌, ℕ, ◌+◌, ◌*◌, ◌/◌, ◌%◌, ◌<◌, ap, ◌∙◌, arith}
use Rattle.ion_binary.specs.Names.{Follows, Form, IsBodyLength, Known, Scalar, Sized, opening_of, type_code}
use Rattle.ion_binary.specs.laws.writing.Headers.{follows, known}

module _ (t : Scalar) (octet : ℕ) (code : octet / 16 ≡ type_code (Form.Scalar t)) where
  some_body : (t : Scalar) (n : ℕ) → 0 < n → IsBodyLength (Form.Scalar t) n
  some_body Scalar.NegativeInt n h = h
  some_body Scalar.Timestamp n h = h
  some_body _ n h = tt

  pub scalar_known : 0 < octet % 16 → octet % 16 < 14 → opening_of octet ≡ Sized (Form.Scalar t) (Known (octet % 16))
  scalar_known some few =
      let e : octet ≡ 16 * type_code (Form.Scalar t) + octet % 16 = omega (arith, code) in
      ap opening_of e ∙ known (Form.Scalar t) (octet % 16) (some_body t (octet % 16) some) few

  pub scalar_follows : octet % 16 ≡ 14 → opening_of octet ≡ Sized (Form.Scalar t) Follows
  scalar_follows last =
      let e : octet ≡ 16 * type_code (Form.Scalar t) + 14 = omega (arith, code, last) in
      ap opening_of e ∙ follows (Form.Scalar t)
