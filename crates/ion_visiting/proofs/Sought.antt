-- Where values end, as their fronts say.
use Rattle.std.proofs.Common.{◌≡◌, ℕ, ◌+◌, ◌<◌, length, true, false, slice_get, Some, None, ap, sym, ◌∙◌}
use Rattle.std.proofs.lemmas.Option.{same_Some, slice_get_within}
use Rattle.ion_visiting.specs.Names.{Entry, Tape}
use Rattle.ion_visiting.specs.Following as following
use Rattle.ion_visiting.specs.Following.{Behind, IsField, behind_payload, is_annotation}

apart : (d e : Entry) → d ≡ e → is_annotation d ≡ true → is_annotation e ≡ false → ⊥
apart d e h a b = let f : true ≡ false = sym a ∙ (ap is_annotation h ∙ b) in absurd cc

-- past an annotation
pub past_annotation : (t : Tape) (i j : ℕ) (e : Entry) → slice_get t.entries.items i ≡ Some e → is_annotation e ≡ true → Behind t i j → Behind t (i + 1) j
past_annotation t i j e at is (following.past_annotation _ _ d there _ h) = h
past_annotation t i _ e at is (following.past_payload _ d there plain) = absurd (apart e d (same_Some e d (sym at ∙ there)) is plain)

-- past a payload
pub past_payload : (t : Tape) (i j : ℕ) (e : Entry) → slice_get t.entries.items i ≡ Some e → is_annotation e ≡ false → Behind t i j → behind_payload e i ≡ j
past_payload t i j e at plain (following.past_annotation _ _ d there is h) = absurd (apart d e (same_Some d e (sym there ∙ at)) is plain)
past_payload t i _ e at plain (following.past_payload _ d there _) = ap (λ x. behind_payload x i) (same_Some e d (sym at ∙ there))

-- nothing stands behind the last entry
pub past_none : (t : Tape) (i j : ℕ) → slice_get t.entries.items i ≡ None → Behind t i j → ⊥
past_none t i j at (following.past_annotation _ _ e there is h) = let f : None ≡ Some e = sym at ∙ there in absurd cc
past_none t i _ at (following.past_payload _ e there plain) = let f : None ≡ Some e = sym at ∙ there in absurd cc

-- a field stands on the tape
pub field_within : (t : Tape) (i : ℕ) → IsField t i → i < length t.entries.items
field_within t i f = slice_get_within t.entries.items i f.entry f.there
