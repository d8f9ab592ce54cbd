-- Equivalence is reflexive, symmetric and transitive: first each part, then one level, then n levels by induction.
use Rattle.std.proofs.Common.{ℕ, zero, suc, max, Bool, refl, rules, arith, sym, ◌∙◌}
use Rattle.std.specs.Cmp.{IsEquivalence, bool_eq_equiv}
use Rattle.std.specs.Cmp.Rules.{comparing}
use Rattle.std.proofs.lemmas.Cmp.{and_equiv, on_equiv, lists_equiv, nat_eq_equiv, int_eq_equiv, nat_list_eq_equiv}
use Rattle.ion_model.specs.Names.{Value, depth, field_same, fields, fields_same, items, layer_same, out-Payload, same, same_to, scalar, scalar_same, symbol_same, value_same}
use Rattle.ion_atoms.specs.laws.Equivalence.{decimal_same-equiv, timestamp_same-equiv}
use Rattle.ion_model.specs.laws.Counts.{alike_equiv}
use Rattle.ion_model.specs.laws.Same.{same-agrees}

-- whether symbols are the same is an equivalence
pub symbol_same-equiv : IsEquivalence symbol_same
symbol_same-equiv = search (comparing, rules)

-- whether scalars agree in every part is an equivalence
pub scalar_same-equiv : IsEquivalence scalar_same
scalar_same-equiv =
    and_equiv (on_equiv (λ s. s.kind) nat_eq_equiv) (and_equiv (on_equiv (λ s. s.full) bool_eq_equiv) (and_equiv (on_equiv (λ s. s.truth) bool_eq_equiv)
    (and_equiv (on_equiv (λ s. s.int) int_eq_equiv) (and_equiv (on_equiv (λ s. s.decimal) decimal_same-equiv)
    (and_equiv (on_equiv (λ s. s.timestamp) timestamp_same-equiv)
    (and_equiv (on_equiv (λ s. s.symbol) symbol_same-equiv) (on_equiv (λ s. s.text) nat_list_eq_equiv)))))))

-- whether two fields are the same is an equivalence, where the test of their values is
pub field_same-equiv : (E : Value → Value → Bool) → IsEquivalence E → IsEquivalence (field_same E)
field_same-equiv E e = and_equiv (on_equiv (λ f. f.name) symbol_same-equiv) (on_equiv (λ f. f.value) e)

-- whether structs have each field as often is an equivalence, where the test of the values is
pub fields_same-equiv : (E : Value → Value → Bool) → IsEquivalence E → IsEquivalence (fields_same E)
fields_same-equiv E e = alike_equiv (field_same E) (field_same-equiv E e)

-- one level, where the test of the values inside is an equivalence
module _ (E : Value → Value → Bool) (e : IsEquivalence E) where
  layer_same-equiv : IsEquivalence (layer_same E)
  layer_same-equiv = and_equiv (on_equiv scalar scalar_same-equiv) (and_equiv (on_equiv items (lists_equiv e)) (on_equiv fields (fields_same-equiv E e)))

  value_same-equiv : IsEquivalence (value_same E)
  value_same-equiv = and_equiv (on_equiv (λ v. v.annotations) (lists_equiv symbol_same-equiv)) (on_equiv (λ v. out-Payload v.payload) layer_same-equiv)

-- whether values agree as far as the first n levels show is an equivalence
pub same_to-equiv : (n : ℕ) → IsEquivalence (same_to n)
same_to-equiv zero = record { refl = λ v. refl; symm = λ v w. refl; congr = λ u v w h. refl }
same_to-equiv (suc n) = value_same-equiv (same_to n) (same_to-equiv n)

-- equivalence is one
pub same-equiv : IsEquivalence same
same-equiv = record {
  refl = λ v. sym ((same-agrees (suc (depth v))).at v v (omega arith) (omega arith)) ∙ (same_to-equiv (suc (depth v))).refl v;
  symm = λ v w.
      let n = suc (max (depth v) (depth w)) in
      sym ((same-agrees n).at v w (omega arith) (omega arith)) ∙ (same_to-equiv n).symm v w ∙ (same-agrees n).at w v (omega arith) (omega arith);
  congr = λ u v w h.
      let n = suc (max (depth u) (max (depth v) (depth w))) in
      sym ((same-agrees n).at u w (omega arith) (omega arith))
      ∙ (same_to-equiv n).congr u v w ((same-agrees n).at u v (omega arith) (omega arith) ∙ h)
      ∙ (same-agrees n).at v w (omega arith) (omega arith);
}
