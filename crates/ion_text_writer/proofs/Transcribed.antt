-- The text of one token is that of the level that its value is.
use Rattle.std.proofs.Common.{◌≡◌, ℕ, List, ◌++◌, Some, None, Result, OnOk, refl, ap, sym, subst}
use Rattle.ion_text_writer.specs.Names.{Fault, Layer, Number, Part, known_text, layer_text, number_payload, number_text, payload_of, symbol_text}
use Rattle.ion_model.specs.declared.value.Payload.TheVariants as payloads
use Rattle.ion_model.specs.declared.value.Payload.TheViews as views

-- a symbol whose text is known
pub symbol_known : (w : List ℕ) → symbol_text (Some w) ≡ known_text w
unfolding symbol_text
symbol_known w = refl

-- a value of one token, which is this part
module _ (s x : Part) (is : s ≡ x) where
  -- what was written of a part as it was taken apart is the text of that part
  pub part_text : (d : Layer) (r : Result (Unit {0}) Fault) (before after : List ℕ) → views.out-Payload (payload_of x) ≡ d
      → OnOk r (after ≡ before ++ layer_text d) → OnOk r (after ≡ before ++ layer_text (views.out-Payload (payload_of s)))
  part_text d r before after level h = subst (λ s. OnOk r (after ≡ before ++ layer_text (views.out-Payload (payload_of s)))) (sym is)
      (subst (λ d. OnOk r (after ≡ before ++ layer_text d)) (sym level) h)

-- the text of a number as a level
pub number_level : (n : Number) → number_text n ≡ layer_text (views.out-Payload (number_payload n))
number_level (Number.Int z) = ap layer_text (sym (views.outs-Int z))
number_level (Number.Decimal d) = ap layer_text (sym (views.outs-Decimal d))
number_level (Number.Timestamp t) = ap layer_text (sym (views.outs-Timestamp t))

-- the text of a symbol of unknown text as a level
pub unknown_level : symbol_text None ≡ layer_text (views.out-Payload (payloads.Symbol None))
unknown_level = ap layer_text (sym (views.outs-Symbol None))
