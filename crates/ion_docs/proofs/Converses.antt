-- What a conversion of octets in memory is.
use Rattle.std.proofs.Common.{◌≡◌, ◌↔◌, ℕ, List, [], ◌∷◌, length, take, refl, ap, sym, subst, ◌∙◌, true, Result, Ok, Err}
use lib.Pointwise.{pointwise}
use Rattle.std.proofs.lemmas.Bool.{and_from}
use Rattle.ion_docs.specs.Names.{Catalog, Denotes, DenotesAnywhere, Encoding, IsRefused, Limits, Refusal, Value, documents, same}
use Rattle.ion_docs.specs.Headline.{IsConversionOf, SaysEquivalent}
use Rattle.ion_docs.specs.laws.Documents.{one_document, one_shown}
use Rattle.ion_docs.proofs.Verdicts.{one_refusal}

-- a stream is equivalent to itself
own : (reflexive : (v : Value) → same v v ≡ true) (s : List Value) → pointwise same s s ≡ true
own reflexive [] = refl
own reflexive (v ∷ s) = and_from (same v v) (pointwise same s s) (reflexive v) (own reflexive s)

module _ (g : Catalog) (k : Limits) (E : Encoding) (u : List ℕ) where
  refused_alike : (p q : Refusal) (s t : List Value) → IsRefused (documents g k) u s p → IsRefused (documents g k) u t q → (p ≡ q) × (s ≡ t)
  refused_alike p q s t a b =
      let e : p ≡ q = one_refusal ((documents g k).trace u) p q a.by_octets b.by_octets in
      let c = subst (λ (x : Refusal). IsRefused (documents g k) u t x) (sym e) b in
      (e, one_shown g k (take p.offset u) s t a.shown c.shown)

  -- octets have one conversion
  pub one_conversion : (w x : List ℕ) (p q : Result ℕ Refusal) → IsConversionOf g k E u w p → IsConversionOf g k E u x q → (w ≡ x) × (p ≡ q)
  one_conversion w x (Ok m) (Ok n) a b =
      let e = one_document g k u a.0 b.0 a.1 b.1 in
      (a.3 ∙ (ap E.document e ∙ sym b.3), ap Ok (sym a.2 ∙ (ap length e ∙ b.2)))
  one_conversion w x (Ok m) (Err q) a b = absurd (b.1.none a.0 a.1)
  one_conversion w x (Err p) (Ok n) a b = absurd (a.1.none b.0 b.1)
  one_conversion w x (Err p) (Err q) a b =
      let e = refused_alike p q a.0 b.0 a.1 b.1 in
      (a.2 ∙ (ap E.document e.1 ∙ sym b.2), ap Err e.0)

  -- what was written of a document denotes its stream
  pub conversion_denotes : (w : List ℕ) (values : ℕ) (s : List Value) → IsConversionOf g k E u w (Ok values) → Denotes g k u s → (h : Catalog) (m : Limits)
      → E.admits m s → Denotes h m w s
  conversion_denotes w values s c d h m fits =
      let e = one_document g k u c.0 s c.1 d in
      subst (λ (x : List Value). DenotesAnywhere E w x) e c.4 h m fits

  -- so the two are equivalent
  pub conversion_equivalent : (reflexive : (v : Value) → same v v ≡ true) (w : List ℕ) (values : ℕ) → IsConversionOf g k E u w (Ok values)
      → ((s : List Value) → Denotes g k u s → E.admits k s) → SaysEquivalent g k u w values
  conversion_equivalent reflexive w values c fits = record { s = c.0; t = c.0; left = c.1; right = c.4 g k (fits c.0 c.1); streams = (own reflexive c.0, c.2) }

  -- they are what the document of a stream is
  pub conversion_is : ((s : List Value) → Denotes g k u s → DenotesAnywhere E (E.document s) s) → (w : List ℕ) (values : ℕ)
      → IsConversionOf g k E u w (Ok values) ↔ ((s : List Value) × Denotes g k u s × (length s ≡ values) × (w ≡ E.document s))
  conversion_is again w values = (
    λ c. (c.0, c.1, c.2, c.3),
    λ c. (c.0, c.1, c.2, c.3, subst (λ (x : List ℕ). DenotesAnywhere E x c.0) (sym c.3) (again c.0 c.1)),
  )
