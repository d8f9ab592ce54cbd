-- The numbers of the options.
use Rattle.std.proofs.Common.{◌≡◌, ◌∙◌, ℕ, Bool, true, false, cond, List, Option, Some, None, Result, Ok, Err, refl, sym, ap, arith}
use Rattle.std.specs.Prelude.{◌^◌, ◌&&◌, ◌≤◌, nat_le, nat_lt, option_map, unwrap_or}
use Rattle.std.specs.Result.{result_ok}
use Rattle.std.specs.Str.Parse.{ParsesUnsigned, digits_value, without_leading_plus}
use Rattle.clap.specs.ValueTests.{is_numeral, is_unsigned_in}
use Rattle.clap.specs.declared.builder.value_parser.ValueParser.TheVariants as vp
use Rattle.clap.proofs.ValueTestLemmas.{accepts-Accepts, Accepts-accepts}
use Rattle.clap.proofs.WalkLemmas.{both}
use Rattle.clap.specs.Words.{Text, TriesOne}
use Rattle.ion_words.specs.Asked.{number_in, number_of, up_to}

-- what `parse` reads of a text, where it is from 1 to `most`
pub up_to-parsed : {E : Type 0} (most : ℕ) (text : List ℕ) (r : Result ℕ E) → ParsesUnsigned 64 10 text r → up_to most (result_ok r) ≡ number_in most text
up_to-parsed most text (Ok n) parsed = ap (λ m. up_to most (Some m)) parsed.1 ∙ sym (ap (λ b. cond b (Some value) None) tests)
  where
    value : ℕ
    value = digits_value 10 (without_leading_plus text)

    all : is_unsigned_in 0 value text ≡ true
    all = Accepts-accepts false (vp.Unsigned 0 value) text (parsed.0.0, parsed.0.1, omega arith, omega arith)

    tests : is_unsigned_in 1 most text ≡ (nat_le 1 value && nat_le value most)
    tests =
        let parts = both _ _ all in
        let numeral : is_numeral (without_leading_plus text) ≡ true = parts.0 in
        let fits : nat_lt value (2 ^ 64) ≡ true = (both _ _ parts.1).0 in
        rw (numeral, fits) refl
up_to-parsed most text (Err e) refused = go (is_unsigned_in 1 most text) refl
  where
    go : (b : Bool) → is_unsigned_in 1 most text ≡ b → None ≡ cond b (Some (digits_value 10 (without_leading_plus text))) None
    go true e = let h = accepts-Accepts false (vp.Unsigned 1 most) text e in absurd (refused (h.0, h.1))
    go false e = refl

within : (usual most : ℕ) → 1 ≤ usual → usual ≤ most → up_to most (Some usual) ≡ Some usual
within usual most least greatest = grind arith

-- what the typed getter reads of an option, where it is from 1 to `most`
pub up_to-tried : {E : Type 0} (usual most : ℕ) (text : Option Text) (r : Result (Option ℕ) E) (G : Text → Result ℕ E → Type 0)
    → ((t : Text) (x : Result ℕ E) → G t x → ParsesUnsigned 64 10 t x) → 1 ≤ usual → usual ≤ most
    → (text ≡ None → r ≡ Ok None) → ((t : Text) → text ≡ Some t → TriesOne G t r)
    → up_to most (option_map (λ given. unwrap_or given usual) (result_ok r)) ≡ number_of usual most text
up_to-tried {E = E} usual most None r G parses least greatest none value = rw (none refl) (within usual most least greatest)
up_to-tried {E = E} usual most (Some t) r G parses least greatest none value = go r (value t refl)
  where
    go : (x : Result (Option ℕ) E) → TriesOne G t x → up_to most (option_map (λ given. unwrap_or given usual) (result_ok x)) ≡ number_in most t
    go (Ok (Some n)) tries = up_to-parsed {E = E} most t (Ok n) (parses t (Ok n) tries)
    go (Ok None) tries = absurd tries
    go (Err e) tries = up_to-parsed {E = E} most t (Err e) (parses t (Err e) tries)
