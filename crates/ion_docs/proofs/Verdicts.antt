-- Two octet strings have one verdict.
use Rattle.std.proofs.Common.{◌≡◌, ◌+◌, ◌-◌, ℕ, List, [], ◌∷◌, length, slice_get, refl, ap, sym, ◌∙◌, Bool, true, false, ◌&&◌, cond, Option, Some, None, option_map, inl, inr}
use lib.Pointwise.{pointwise}
use Rattle.ion_docs.specs.Names.{Different, Equivalent, Format, IsPath, IsPathOf, IsVerdict, Left, Part, Refusal, Refused, Right, SaysRefusal, Trace, Value, Verdict, parts, same}

same_none : (b r : Bool) (p : Option ℕ) → b && r ≡ true → (r ≡ true → p ≡ None) → cond b (option_map (λ n. n + 1) p) (Some 1) ≡ None
same_none true r p h k = ap (λ x. option_map (λ n. n + 1) x) (k h)
same_none false r p h k = absurd cc

-- streams that are equivalent don't part
none_parts : (s t : List Value) → pointwise same s t ≡ true → parts s t ≡ None
none_parts [] [] h = refl
none_parts (v ∷ s) (w ∷ t) h = same_none (same v w) (pointwise same s t) (parts s t) h (none_parts s t)
none_parts _ _ h = absurd cc

-- octets give one refusal
pub one_refusal : (t : Trace) (p q : Refusal) → SaysRefusal t p → SaysRefusal t q → p ≡ q
one_refusal t p q (inl a) (inl b) = cc
one_refusal t p q (inl a) (inr b) = let c = b.0 in absurd cc
one_refusal t p q (inr a) (inl b) = let c = a.0 in absurd cc
one_refusal t p q (inr a) (inr b) = let c = a.1 in let d = b.1 in cc

-- within a place there is one path
path_of_one : (one : (p q : List Part) (v w : Value) → IsPath p v w → IsPath q v w → p ≡ q) (p q : List Part) (v w : Option Value) → IsPathOf p v w
    → IsPathOf q v w → p ≡ q
path_of_one one p q (Some v) (Some w) a b = one p q v w a b
path_of_one one p q _ _ a b = a ∙ sym b

module _ (F G : Format) (one_path : (p q : List Part) (v w : Value) → IsPath p v w → IsPath q v w → p ≡ q)
    (left_one : (w : List ℕ) (s t : List Value) → F.denotes w s → F.denotes w t → s ≡ t) (right_one : (w : List ℕ) (s t : List Value) → G.denotes w s
    → G.denotes w t → s ≡ t) where
  clash : (l r : List ℕ) (n i : ℕ) (p : List Part) → IsVerdict F G l r (Equivalent n) → IsVerdict F G l r (Different i p) → ⊥
  clash l r n i p a b =
      let same_left = left_one l a.s b.s a.left b.left in
      let same_right = right_one r a.t b.t a.right b.right in
      let none : parts b.s b.t ≡ None = ap (λ x. parts x b.t) (sym same_left) ∙ (ap (λ x. parts a.s x) (sym same_right) ∙ none_parts a.s a.t a.streams.0) in
      let some = b.streams.first in
      cc

  -- two octet strings have one verdict
  pub verdicts_agree : (l r : List ℕ) (v w : Verdict) → IsVerdict F G l r v → IsVerdict F G l r w → v ≡ w
  verdicts_agree l r (Equivalent m) (Equivalent n) a b = ap Equivalent (sym a.streams.1 ∙ (ap length (left_one l a.s b.s a.left b.left) ∙ b.streams.1))
  verdicts_agree l r (Equivalent m) (Different j q) a b = absurd (clash l r m j q a b)
  verdicts_agree l r (Equivalent m) (Refused Right q) a b = absurd (b.1.1.none a.t a.right)
  verdicts_agree l r (Different i p) (Equivalent n) a b = absurd (clash l r n i p b a)
  verdicts_agree l r (Different i p) (Different j q) a b =
      let same_left = left_one l a.s b.s a.left b.left in
      let same_right = right_one r a.t b.t a.right b.right in
      let e : Some i ≡ Some j = sym a.streams.first ∙ (ap (λ x. parts x a.t) same_left ∙ (ap (λ x. parts b.s x) same_right ∙ b.streams.first)) in
      let place : i ≡ j = cc in
      let within : IsPathOf p (slice_get b.s (j - 1)) (slice_get b.t (j - 1)) = rw (same_left, same_right, place) at a.streams.within in
      let path : p ≡ q = path_of_one one_path p q (slice_get b.s (j - 1)) (slice_get b.t (j - 1)) within b.streams.within in
      cc
  verdicts_agree l r (Different i _) (Refused Right q) a b = absurd (b.1.1.none a.t a.right)
  verdicts_agree l r (Refused Left p) (Equivalent n) a b = absurd (a.1.none b.s b.left)
  verdicts_agree l r (Refused Left p) (Different j _) a b = absurd (a.1.none b.s b.left)
  verdicts_agree l r (Refused Left p) (Refused Left q) a b = ap (λ (x : Refusal). Refused Left x) (one_refusal (F.trace l) p q a.1.by_octets b.1.by_octets)
  verdicts_agree l r (Refused Left p) (Refused Right q) a b = absurd (a.1.none b.0.0 b.0.1)
  verdicts_agree l r (Refused Right p) (Equivalent n) a b = absurd (a.1.1.none b.t b.right)
  verdicts_agree l r (Refused Right p) (Different j _) a b = absurd (a.1.1.none b.t b.right)
  verdicts_agree l r (Refused Right p) (Refused Left q) a b = absurd (b.1.none a.0.0 a.0.1)
  verdicts_agree l r (Refused Right p) (Refused Right q) a b =
      ap (λ (x : Refusal). Refused Right x) (one_refusal (G.trace r) p q a.1.1.by_octets b.1.1.by_octets)
  verdicts_agree l r _ (Refused Left q) a b = absurd (b.1.none a.s a.left)
