-- The headers of the grammar are those of the type codes and length codes.
use Rattle.std.proofs.Common.{◌≡◌, ◌≢◌, ◌↔◌, ℕ, ◌+◌, ◌*◌, ◌/◌, ◌%◌, ◌<◌, ◌≤◌, ◌==◌, Bool, false, List, [], ◌∷◌, refl, sym, ap, subst, ◌∙◌, arith, inl, inr, Result, Ok, Err, cond}
use Rattle.std.specs.Prelude.{◌||◌}
use Rattle.std.proofs.lemmas.Bool.{cases_lt, cond_both, eqb-true, eqb-false}
use Rattle.ion_binary.specs.Names.{Descriptor, Float, Follows, Form, Header, IsBodyLength, IsHeader, Known, Malformed, Opening, Reason, Scalar, Size, Sized, body_of, descriptor_of, long, long_code, opening_of, opens, short, size, type_code, typed, with_octets}
use Rattle.ion_binary.specs.laws.writing.Headers.{below, follows, known}

-- a type code and a length code that open a form of that size
abbrev Row : Form → Size → ℕ → ℕ → Type 0
Row form (Known n) code length = (code ≡ type_code form) × (length ≡ n) × (n < 14) × IsBodyLength form n
Row form Follows code length = (code ≡ type_code form) × (length ≡ long_code form)

module _ (code length : ℕ) where
  -- whatever has a size is opened by its codes
  abbrev Opens : Opening → Type 0
  Opens opening = (form : Form) (z : Size) → opening ≡ Sized form z → Row form z code length

  by_form : (form : Form) (z : Size) → Row form z code length → Opens (Sized form z)
  by_form form z row f y e =
      let same : form ≡ f = cc in
      let how : z ≡ y = cc in
      rw (same, how) at row

  sized_opens : (form : Form) → length < 15 → code ≡ type_code form → long_code form ≡ 14 → (length < 14 → IsBodyLength form length)
      → Opens (Sized form (size length))
  sized_opens form low by_code by_long is =
      elim (cases_lt length 14) [
        | inl few ↦ rw (below length 14 few) (by_form form (Known length) (by_code, refl, few, is few))
        | inr many ↦
            let last : length ≡ 14 = omega arith in
            subst (λ z. Opens (Sized form z)) (sym (ap size last)) (by_form form Follows (by_code, last ∙ sym by_long))
      ]

  -- a scalar that has at least one octet
  some_opens : (t : Scalar) → length < 15 → code ≡ type_code (Form.Scalar t) → (0 < length → IsBodyLength (Form.Scalar t) length)
      → Opens (with_octets t (size length))
  some_opens t low by_code is =
      elim (cases_lt length 14) [
        | inl few ↦ rw (below length 14 few) (cond_both (length == 0) _ _ Opens (λ _ f y e. absurd cc)
            (λ e. by_form (Form.Scalar t) (Known length) (by_code, refl, few, is (let some = eqb-false length 0 e in omega arith))))
        | inr many ↦
            let last : length ≡ 14 = omega arith in
            subst (λ z. Opens (with_octets t z)) (sym (ap size last)) (by_form (Form.Scalar t) Follows (by_code, last))
      ]

  body_opens : length < 15 → (code ≡ 13 → length ≢ 1) → (code ≡ 14 → 3 ≤ length) → Opens (body_of code (size length))
  body_opens low struct wrapper = cond_both (code == 2) _ _ Opens (λ e. sized_opens _ low (eqb-true code 2 e) refl (λ _. tt))
      (λ _. cond_both (code == 3) _ _ Opens (λ e. some_opens Scalar.NegativeInt low (eqb-true code 3 e) (λ some. some))
      (λ _. cond_both (code == 5) _ _ Opens (λ e. sized_opens _ low (eqb-true code 5 e) refl (λ _. tt))
      (λ _. cond_both (code == 6) _ _ Opens (λ e. some_opens Scalar.Timestamp low (eqb-true code 6 e) (λ some. some))
      (λ _. cond_both (code == 7) _ _ Opens (λ e. sized_opens _ low (eqb-true code 7 e) refl (λ _. tt))
      (λ _. cond_both (code == 8) _ _ Opens (λ e. sized_opens _ low (eqb-true code 8 e) refl (λ _. tt))
      (λ _. cond_both (code == 9) _ _ Opens (λ e. sized_opens _ low (eqb-true code 9 e) refl (λ _. tt))
      (λ _. cond_both (code == 10) _ _ Opens (λ e. sized_opens _ low (eqb-true code 10 e) refl (λ _. tt))
      (λ _. cond_both (code == 11) _ _ Opens (λ e. sized_opens _ low (eqb-true code 11 e) refl (λ _. tt))
      (λ _. cond_both (code == 12) _ _ Opens (λ e. sized_opens _ low (eqb-true code 12 e) refl (λ _. tt))
      (λ _. cond_both (code == 13) _ _ Opens (λ e. sized_opens Form.Struct low (eqb-true code 13 e) refl (λ _. struct (eqb-true code 13 e)))
      (λ _. cond_both (code == 14) _ _ Opens (λ e. sized_opens Form.Wrapper low (eqb-true code 14 e) refl (λ _. wrapper (eqb-true code 14 e)))
      (λ _ f y e. absurd cc))))))))))))

  abbrev TypeOpens : Result Descriptor Reason → Type 0
  TypeOpens d = Opens (opens d)

  refused : (reason : Reason) → TypeOpens (Err reason)
  refused reason f y e = absurd cc

  -- the descriptors of wrappers, and of the version marker
  wrapper_opens : length < 16 → code ≡ 14 → TypeOpens (cond (length == 0) (Ok Descriptor.Marker)
      (cond ((length == 1) || (length == 2) || (length == 15)) (Err Malformed) (Ok (Descriptor.Body code (size length)))))
  wrapper_opens low is =
      cond_both (length == 0) _ _ TypeOpens (λ _ f y e. absurd cc)
      (λ a. cond_both ((length == 1) || (length == 2) || (length == 15)) _ _ TypeOpens (λ _. refused Malformed)
      (λ b.
      let zero = eqb-false length 0 a in
      let others = none_of (length == 1) (length == 2) (length == 15) b in
      let one = eqb-false length 1 others.0 in
      let two = eqb-false length 2 others.1 in
      let null = eqb-false length 15 others.2 in
      body_opens (omega arith) (λ e. absurd (omega arith)) (λ _. omega arith)))
    where
      none_of : (x y z : Bool) → (x || y || z) ≡ false → (x ≡ false) × (y ≡ false) × (z ≡ false)
      none_of false false false h = (refl, refl, refl)
      none_of _ _ _ h = absurd cc

  typed_opens : length < 16 → TypeOpens (typed code length)
  typed_opens low =
      cond_both (code == 15) _ _ TypeOpens (λ _. refused Malformed)
      (λ _. cond_both (code == 14) _ _ TypeOpens (λ e. wrapper_opens low (eqb-true code 14 e))
      (λ w. cond_both (length == 15) _ _ TypeOpens (λ _ f y e. absurd cc)
      (λ n.
      let null = eqb-false length 15 n in
      let no_wrapper = eqb-false code 14 w in
      let short : length < 15 = omega arith in
      cond_both (code == 0) _ _ TypeOpens (λ e. sized_opens Form.Pad short (eqb-true code 0 e) refl (λ _. tt))
      (λ _. cond_both (code == 1) _ _ TypeOpens (λ _. cond_both (length == 0) _ _ TypeOpens (λ _ f y e. absurd cc)
      (λ _. cond_both (length == 1) _ _ TypeOpens (λ _ f y e. absurd cc) (λ _. refused Malformed)))
      (λ _. cond_both (code == 4) _ _ TypeOpens (λ _. cond_both ((length == 0) || (length == 4) || (length == 8)) _ _ TypeOpens (λ _. refused Float)
      (λ _. refused Malformed))
      (λ _. cond_both (code == 13) _ _ TypeOpens
      (λ e. cond_both (length == 1) _ _ TypeOpens (λ one. by_form Form.OrderedStruct Follows (eqb-true code 13 e, eqb-true length 1 one))
      (λ o. body_opens short (λ _. eqb-false length 1 o) (λ e. absurd (no_wrapper e))))
      (λ s. body_opens short (λ e. absurd (eqb-false code 13 s e)) (λ e. absurd (no_wrapper e)))))))))

opening_opens : (form : Form) (z : Size) (octet : ℕ) → opening_of octet ≡ Sized form z → Row form z (octet / 16) (octet % 16)
unfolding opening_of descriptor_of
opening_opens form z octet e = typed_opens (octet / 16) (octet % 16) (omega arith) form z e

header_told : (form : Form) (n : ℕ) (octets : List ℕ) → Header form n octets → IsHeader form n octets
header_told form n _ (short b e) =
    let row = opening_opens form (Known n) b e in
    let codes : b ≡ 16 * type_code form + n = omega (arith, row.0, row.1) in
    inl (row.2, row.3, ap (λ x. x ∷ []) codes)
header_told form n _ (long b w e is) =
    let row = opening_opens form Follows b e in
    let codes : b ≡ 16 * type_code form + long_code form = omega (arith, row.0, row.1) in
    inr (w, is, ap (λ x. x ∷ w) codes)

header_from : (form : Form) (n : ℕ) (octets : List ℕ) → IsHeader form n octets → Header form n octets
header_from form n octets (inl (few, is, e)) = rw e (short (16 * type_code form + n) (known form n is few))
header_from form n octets (inr (w, is, e)) = rw e (long (16 * type_code form + long_code form) w (follows form) is)

-- octets are a header just where type code and length code say so
pub header_rows : (form : Form) (n : ℕ) (octets : List ℕ) → Header form n octets ↔ IsHeader form n octets
header_rows form n octets = (header_told form n octets, header_from form n octets)
