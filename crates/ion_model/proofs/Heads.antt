-- Two payloads of different kinds, or of which one is null: kind and nullness order them.
use Rattle.std.proofs.Common.{◌≡◌, Bool, true, false, ◌&&◌, Ordering, Equal, nat_eq, refl, sym, ◌∙◌, true≢false}
use Rattle.std.specs.Cmp.Lexicographic.{slice_cmp}
use Rattle.std.specs.Ordering.{ordering_then, on, then_cmp, nat_cmp, int_cmp, bool_cmp}
use Rattle.ion_model.specs.Names.{Kind, Layer, Payload-F, Scalar, Value, decimal_cmp, field_cmp, fields, heads_cmp, items, layer_cmp, scalar, symbol_cmp, text_cmp, timestamp_cmp}
use Rattle.ion_model.specs.laws.Views.{views}
use Rattle.ion_atoms.specs.laws.Ties.{bool_is, nat_back, then_first, then_second}

-- behind a tie nothing counts
pub then_equal : (x : Ordering) → ordering_then x Equal ≡ x
then_equal Equal = refl
then_equal _ = refl

-- one level of the order where kinds are known
pub ruleset kinds = (views, then_equal)

-- whether two payloads are of one kind, and neither is null
abbrev pub alike : Layer → Layer → Bool
alike a b = nat_eq (scalar a).kind (scalar b).kind && ((scalar a).full && (scalar b).full)

-- a payload that isn't full is a null
null_of : (a : Layer) → (scalar a).full ≡ false → (k : Kind) × (a ≡ Payload-F.Null k)
null_of (Payload-F.Null k) h = (k, refl)
null_of _ h = absurd (true≢false h)

not_full : (x f g : Bool) → x ≡ true → f ≡ g → x && (f && g) ≡ false → f ≡ false
not_full false f g p q h = absurd (true≢false (sym p))
not_full true false g p q h = refl
not_full true true g p q h = q ∙ h

-- behind a kind and nullness that decide, nothing counts
decided : (k f r s : Ordering) → (ordering_then k f ≡ Equal → ordering_then r s ≡ Equal)
    → ordering_then k f ≡ ordering_then (ordering_then k (ordering_then f r)) s
decided Equal Equal r s h = sym (h refl)
decided _ _ r s h = refl

-- two payloads by what stands behind kind and nullness
abbrev parts_cmp : Scalar → Scalar → Ordering
parts_cmp =
    then_cmp (on (λ s. s.truth) bool_cmp) (then_cmp (on (λ s. s.int) int_cmp) (then_cmp (on (λ s. s.decimal) decimal_cmp)
    (then_cmp (on (λ s. s.timestamp) timestamp_cmp) (then_cmp (on (λ s. s.symbol) symbol_cmp) (on (λ s. s.text) text_cmp)))))

module _ (R : Value → Value → Ordering) where
  abbrev inside_cmp : Layer → Layer → Ordering
  inside_cmp a b = ordering_then (slice_cmp R (items a) (items b)) (slice_cmp (field_cmp R) (fields a) (fields b))

  -- payloads that tie so far and aren't alike are nulls of one kind
  nulls_tie : (a b : Layer) → alike a b ≡ false → heads_cmp a b ≡ Equal → ordering_then (parts_cmp (scalar a) (scalar b)) (inside_cmp a b) ≡ Equal
  nulls_tie a b h e =
      let kinds = nat_back (scalar a).kind (scalar b).kind (then_first (nat_cmp (scalar a).kind (scalar b).kind) _ e) in
      let full : (scalar a).full ≡ (scalar b).full = bool_is _ _ (then_second (nat_cmp (scalar a).kind (scalar b).kind) _ e) in
      let none : (scalar a).full ≡ false = not_full _ _ _ kinds full h in
      let left = null_of a none in
      let right = null_of b (sym full ∙ none) in
      rw (left.1, right.1) refl

  -- payloads of different kinds, or with a null among them, are ordered by kind and nullness alone
  pub heads_decide : (a b : Layer) → alike a b ≡ false → heads_cmp a b ≡ layer_cmp R a b
  heads_decide a b h =
      decided (nat_cmp (scalar a).kind (scalar b).kind) (bool_cmp (scalar a).full (scalar b).full) (parts_cmp (scalar a) (scalar b)) (inside_cmp a b)
      (nulls_tie a b h)
