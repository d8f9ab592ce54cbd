-- Symbols whose ids are above the greatest, and octets that are a text.
use Rattle.std.proofs.Common.{◌≡◌, ℕ, ◌-◌, ◌<◌, List, length, Result, Ok, Err, Bool, true, false, refl, ap, sym, ◌∙◌, arith, ne_eqb}
use Rattle.std.proofs.lemmas.Bool.{cond-true, cond-false}
use Rattle.std.proofs.lemmas.Option.{slice_get_past}
use Rattle.std.proofs.lemmas.Str.{IsUtf8-from_is_utf8, is_utf8-from_IsUtf8}
use Rattle.std.specs.Str.{is_utf8, IsUtf8}
use Rattle.ion_binary.specs.Names.{BadUtf8, Reason, Slot, SymbolRange, as_symbol, resolve, symbol_at, symbol_of, text_of}
use Rattle.ion_model.specs.declared.value.Payload.TheVariants as payloads

-- an id above the greatest has no symbol
pub resolve_past : (c : List Slot) (id : ℕ) → length c < id → resolve c id ≡ Err SymbolRange
unfolding resolve
resolve_past c id h =
    cond-false _ _ _ (ne_eqb id 0 (λ e. omega arith))
    ∙ ap symbol_at (slice_get_past c (id - 1) (omega arith))

-- a symbol whose id is above the greatest is refused as out of range
pub symbol_past : (c : List Slot) (id : ℕ) (r : Result ℕ Reason) → r ≡ Ok id → length c < id → symbol_of c r ≡ Err SymbolRange
symbol_past c id r e h = ap (symbol_of c) e ∙ ap as_symbol (resolve_past c id h)

-- octets in UTF-8 are a string, and others aren't
pub text_judged : (body t : List ℕ) → t ≡ body → IsUtf8 body → text_of body ≡ Ok (payloads.Str t)
text_judged body t e h = cond-true _ _ _ (is_utf8-from_IsUtf8 body h) ∙ ap (λ w. Ok (payloads.Str w)) (sym e)

no_text_by : (body : List ℕ) (b : Bool) → is_utf8 body ≡ b → ¬ (IsUtf8 body) → text_of body ≡ Err BadUtf8
no_text_by body true e h = absurd (h (IsUtf8-from_is_utf8 body e))
no_text_by body false e h = cond-false _ _ _ e

-- octets that aren't UTF-8 are refused as a string
pub no_text : (body : List ℕ) → ¬ (IsUtf8 body) → text_of body ≡ Err BadUtf8
no_text body h = no_text_by body (is_utf8 body) refl h
