-- What showing a document takes of each value, and comes to at its end.
use Rattle.std.proofs.Common.{◌≡◌, ℕ, List, [], ◌∷◌, ◌++◌, length, sym, subst, ◌∙◌, Option, Some, None, Ok, Err}
use Rattle.std.proofs.lemmas.Option.{same_Some}
use Rattle.std.proofs.lemmas.List.{length-map}
use Rattle.ion_streams.specs.Names.{Catalog, Ended, IfOpen, Inlet, IsShown, Items, Led, Limits, Open, Outlet, ReadState, Refusal, Refused, ShowsSoFar, StoodEach, ToldNext, Took, TookFront, Value, accepted_line, answered, at_end, events_of, format_of, lines_of, no_outline, outline_in, outline_of, outlines, plain, telling}
use Rattle.ion_visiting.specs.declared.outlining.Outlining.{Outlining}
use Rattle.ion_visiting.specs.laws.Outlined.{value_outlined}
use Rattle.ion_symtab.specs.laws.Took.{Front-behind, Took-trans}
use Rattle.ion_streams.proofs.Steps.{stood_plain}

-- one more was told to a visitor that outlines
pub outlined_next : {S X : Type 0} (R : Inlet S) (I : Items X) (g : Catalog) (l : Limits) (first now : S) (place : ReadState X)
    (given : List (Value × ℕ)) (found : Option ℕ) (used : ℕ) (a b : Outlining) → found ≡ Some used → a ≡ no_outline
    → ToldNext outlines I R g l first now place given found a b
    → (v : Value) × (outline_of v ≡ outline_in b) × StoodEach R (telling I []) g l first now place (given ++ (v, used) ∷ [])
outlined_next R I g l first now place given None used a b is fresh h = absurd cc
outlined_next R I g l first now place given (Some total) used a b is fresh h =
    let same : total ≡ used = same_Some _ _ is in (
      h.0,
      sym (value_outlined h.0 b (subst (λ (x : Outlining). Led outlines (events_of h.0) x b) fresh h.1)),
      subst (λ (n : ℕ). StoodEach R (telling I []) g l first now place (given ++ (h.0, n) ∷ [])) same h.2,
    )

module _ {S X T : Type 0} (R : Inlet S) (I : Items X) (W : Outlet T) (g : Catalog) (l : Limits) (first now : S) (old mid new : T) where
  count_plain : (given : List (Value × ℕ)) (values : ℕ) → length given ≡ values → length (plain given) ≡ values
  count_plain given values e = length-map given (λ (x : Value × ℕ). x.0) ∙ e

  -- a front of the last line was written behind those of a document
  pub shows_ok : (place : ReadState X) (given : List (Value × ℕ)) (values answer : ℕ) → IfOpen place (λ source. ⊥) → length given ≡ values
      → answered place values ≡ Ok answer → StoodEach R (telling I []) g l first now place given →
      Took W.took W.written old mid (lines_of (plain given)) → TookFront W.took W.written mid new (accepted_line answer)
      → ShowsSoFar R I W g l first now old new
  shows_ok (Open source) given values answer closed count is h took front = absurd closed
  shows_ok Ended given values answer closed count is h took front =
      let same : values ≡ answer = cc in
      at_end (plain given) (stood_plain R (telling I []) g l first now Ended given h)
      (subst (λ (n : ℕ). TookFront W.took W.written old new (lines_of (plain given) ++ accepted_line n)) (sym (count_plain given values count ∙ same))
      (Front-behind W.took W.written old mid new (lines_of (plain given)) (accepted_line answer) took front))
  shows_ok (Refused refusal) given values answer closed count is h took front = absurd cc

  -- all of it was
  pub shown_ok : (place : ReadState X) (given : List (Value × ℕ)) (values answer : ℕ) → IfOpen place (λ source. ⊥) → length given ≡ values
      → answered place values ≡ Ok answer → StoodEach R (telling I []) g l first now place given →
      Took W.took W.written old mid (lines_of (plain given)) → Took W.took W.written mid new (accepted_line answer)
      → IsShown R W (format_of I g l) first now old new (Ok answer)
  shown_ok (Open source) given values answer closed count is h took wrote = absurd closed
  shown_ok Ended given values answer closed count is h took wrote =
      let same : values ≡ answer = cc in (
        plain given,
        stood_plain R (telling I []) g l first now Ended given h,
        count_plain given values count
            ∙ same,
        Took-trans W.took W.written old mid new (lines_of (plain given)) (accepted_line answer) took wrote,
      )
  shown_ok (Refused refusal) given values answer closed count is h took wrote = absurd cc

  -- the document was refused
  pub shown_err : (place : ReadState X) (given : List (Value × ℕ)) (values : ℕ) (refusal : Refusal) → answered place values ≡ Err refusal
      → StoodEach R (telling I []) g l first now place given →
      Took W.took W.written old new (lines_of (plain given)) → IsShown R W (format_of I g l) first now old new (Err refusal)
  shown_err (Refused why) given values refusal is h took =
      let same : why ≡ refusal = cc in
      subst (λ (x : Refusal). IsShown R W (format_of I g l) first now old new (Err x)) same (
        plain given,
        stood_plain R (telling I []) g l first now (Refused why) given h,
        took,
      )
  shown_err _ given values refusal is h took = absurd cc
