-- One level of equivalence, kind by kind.
use Rattle.std.proofs.Common.{◌≡◌, Bool, true, false, ◌&&◌, refl, ap, ◌∙◌}
use Rattle.std.proofs.Math.Bool.{and-true}
use lib.Pointwise.{pointwise}
use Rattle.ion_model.specs.Names.{Layer, Payload-F, Value, layer_same, out-Payload, same, symbol_same}
use Rattle.ion_model.specs.ByKind.{payload_same}
use Rattle.ion_model.specs.laws.Measures.{depths}
use Rattle.ion_model.specs.laws.Same.{same-is}
use Rattle.ion_model.specs.laws.Views.{views}

-- one part alone can differ
one_part : (b : Bool) → ((b && true) && true) ≡ b
one_part b = and-true (b && true) ∙ and-true b

-- a null, and a payload that is none
one_null : (b c : Bool) → ((b && false) && c) ≡ false
one_null true c = refl
one_null false c = refl

-- one level of equivalence is that of the kinds
pub layer_is : (E : Value → Value → Bool) (a b : Layer) → layer_same E a b ≡ payload_same E a b
layer_is E (Payload-F.Null j) (Payload-F.Null k) = one_part _
layer_is E (Payload-F.Null j) _ = one_null _ _
layer_is E (Payload-F.Truth a) (Payload-F.Truth b) = one_part _
layer_is E (Payload-F.Truth a) (Payload-F.Null k) = one_null _ _
layer_is E (Payload-F.Int y) (Payload-F.Int z) = one_part _
layer_is E (Payload-F.Int y) (Payload-F.Null k) = one_null _ _
layer_is E (Payload-F.Decimal d) (Payload-F.Decimal e) = one_part _
layer_is E (Payload-F.Decimal d) (Payload-F.Null k) = one_null _ _
layer_is E (Payload-F.Timestamp s) (Payload-F.Timestamp t) = one_part _
layer_is E (Payload-F.Timestamp s) (Payload-F.Null k) = one_null _ _
layer_is E (Payload-F.Symbol s) (Payload-F.Symbol t) = one_part _
layer_is E (Payload-F.Symbol s) (Payload-F.Null k) = one_null _ _
layer_is E (Payload-F.Str s) (Payload-F.Str t) = and-true _
layer_is E (Payload-F.Str s) (Payload-F.Null k) = one_null _ _
layer_is E (Payload-F.Clob s) (Payload-F.Clob t) = and-true _
layer_is E (Payload-F.Clob s) (Payload-F.Null k) = one_null _ _
layer_is E (Payload-F.Blob s) (Payload-F.Blob t) = and-true _
layer_is E (Payload-F.Blob s) (Payload-F.Null k) = one_null _ _
layer_is E (Payload-F.List vs) (Payload-F.List ws) = and-true _
layer_is E (Payload-F.List vs) (Payload-F.Null k) = one_null _ _
layer_is E (Payload-F.Sexp vs) (Payload-F.Sexp ws) = and-true _
layer_is E (Payload-F.Sexp vs) (Payload-F.Null k) = one_null _ _
layer_is E (Payload-F.Fields fs) (Payload-F.Null k) = one_null _ _
layer_is E _ _ = refl

-- one level of equivalence where kinds are known, and how deep it goes
pub ruleset kinds = (views, layer_is, depths)

-- Two values are equivalent where annotations agree, and payloads do by their kinds.
pub same_by_kind : (v w : Value) → same v w
    ≡ (pointwise symbol_same v.annotations w.annotations && payload_same same (out-Payload v.payload) (out-Payload w.payload))
same_by_kind v w = same-is v w ∙ ap (λ b. pointwise symbol_same v.annotations w.annotations && b)
    (layer_is same (out-Payload v.payload) (out-Payload w.payload))
