-- What a word is as a value.
use Rattle.std.proofs.Common.{◌≡◌, ◌≢◌, ℕ, Bool, true, false, List, [], ◌∷◌, get_or, Some, Ok, refl, ap, arith, ◌∙◌}
use Rattle.std.specs.Prelude.{if◌then◌else◌, ◌==◌, ◌&&◌, codes}
use Rattle.std.specs.Str.{bytes_eq}
use Rattle.std.proofs.lemmas.Bool.{cond-true, cond-false, or_parts}
use Rattle.std.proofs.lemmas.Bool.Decides.{nat_tests}
use Rattle.ion_text.specs.Names.{Held, Kind, behind_front, held_payload, held_word, is_keyword, is_marker, is_version, the_marker, version_parts}
use Rattle.ion_model.specs.declared.value.Payload.TheVariants as payloads

-- words

module _ (w : List ℕ) where
  -- the word `null` is the null without a type
  pub word_null : bytes_eq w (codes "null") ≡ true → held_payload (held_word w) ≡ Ok (payloads.Null Kind.Null)
  word_null e = ap held_payload (cond-true _ _ _ e)

  -- the word `true` is the boolean true
  pub word_true : bytes_eq w (codes "null") ≡ false → bytes_eq w (codes "true") ≡ true → held_payload (held_word w) ≡ Ok (payloads.Truth true)
  word_true n e = ap held_payload (cond-false _ _ _ n ∙ cond-true _ _ _ e)

  -- the word `false` is the boolean false
  pub word_false : bytes_eq w (codes "null") ≡ false → bytes_eq w (codes "true") ≡ false → bytes_eq w (codes "false") ≡ true → held_payload (held_word w)
      ≡ Ok (payloads.Truth false)
  word_false n t e = ap held_payload (cond-false _ _ _ n ∙ (cond-false _ _ _ t ∙ cond-true _ _ _ e))

  -- a word that is none of the four keywords is a symbol
  pub word_symbol : bytes_eq w (codes "null") ≡ false → bytes_eq w (codes "true") ≡ false → bytes_eq w (codes "false") ≡ false → bytes_eq w (codes "nan")
      ≡ false → held_payload (held_word w) ≡ Ok (payloads.Symbol (Some w))
  word_symbol n t f a = ap held_payload (cond-false _ _ _ n ∙ (cond-false _ _ _ t ∙ (cond-false _ _ _ f ∙ cond-false _ _ _ a))) ∙ by (is_version w)
    where
      by : (b : Bool) → held_payload (if b then Held.Version (bytes_eq w the_marker) (Some w) else Held.Symbol (Some w)) ≡ Ok (payloads.Symbol (Some w))
      by true = refl
      by false = refl

  -- a word that doesn't have the form of a version marker is none
  pub word_plain : is_version w ≡ false → is_marker (held_word w) ≡ false
  word_plain other = go (bytes_eq w (codes "null")) (bytes_eq w (codes "true")) (bytes_eq w (codes "false")) (bytes_eq w (codes "nan"))
    where
      last : is_marker (if is_version w then Held.Version (bytes_eq w the_marker) (Some w) else Held.Symbol (Some w)) ≡ false
      last = ap (λ b. is_marker (if b then Held.Version (bytes_eq w the_marker) (Some w) else Held.Symbol (Some w))) other

      go : (n t f a : Bool) → is_marker (if n then Held.Null Kind.Null else (if t then Held.Truth true else (if f then Held.Truth false
          else (if a then Held.Nan else (if is_version w then Held.Version (bytes_eq w the_marker) (Some w) else Held.Symbol (Some w)))))) ≡ false
      go false false false false = last
      go _ _ _ _ = refl

  -- nor is one that begins with no `$`
  pub word_unmarked : get_or w 0 0 ≢ 36 → is_marker (held_word w) ≡ false
  word_unmarked first = word_plain (plain w first)
    where
      plain : (w : List ℕ) → get_or w 0 0 ≢ 36 → is_version w ≡ false
      plain [] h = refl
      plain (o ∷ os) h = ap (λ b. b && behind_front (codes "ion_") os version_parts) (other o h)
        where
          other : (o : ℕ) → o ≢ 36 → (36 == o) ≡ false
          other o h = grind (arith, nat_tests)

  -- a word that is no keyword is the symbol of its text
  pub word_free : is_keyword w ≡ false → held_payload (held_word w) ≡ Ok (payloads.Symbol (Some w))
  word_free h =
      let a = or_parts _ _ h in
      let b = or_parts _ _ a.0 in
      let c = or_parts _ _ a.1 in
      word_symbol b.0 b.1 c.0 c.1
