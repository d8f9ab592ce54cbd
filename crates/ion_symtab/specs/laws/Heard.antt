-- What was heard of a device, in one call after another.
use Rattle.std.proofs.Common.{◌≡◌, ℕ, List, [], ◌∷◌, ◌++◌, length, Bool, true, false, refl, ap, ◌∙◌}
use Rattle.ion_symtab.specs.Names.{AnsweredEnd, Ghosts, Heard}
use Rattle.ion_symtab.specs.laws.Told.{Told-end, Told-nil, Told-trans}

module _ {S : Type 0} (R : Ghosts S) where
  -- between a device and itself nothing was heard
  pub Heard-nil : (s : S) → Heard R s s [] false
  Heard-nil s = record { told = Told-nil R.tells R.handed s; answered = refl }

  answered_later : (a b c : S) (ended : Bool) → R.ends b ≡ R.ends a → AnsweredEnd R b c ended → AnsweredEnd R a c ended
  answered_later a b c true e h = (h.0 ∙ ap (λ x. x ++ length (R.handed c) ∷ []) e, h.1)
  answered_later a b c false e h = h ∙ e

  -- what was heard first, which was no end, and behind it what was heard next
  pub Heard-trans : (a b c : S) (front back : List ℕ) (ended : Bool) → Heard R a b front false → Heard R b c back ended → Heard R a c (front ++ back) ended
  Heard-trans a b c front back ended first next = record {
    told = Told-trans R.tells R.handed a b c front back first.told next.told;
    answered = answered_later a b c ended first.answered next.answered;
  }

  -- a device that has answered its end told all
  pub Heard-end : (a b : S) (octets : List ℕ) → Heard R a b octets true → R.tells a octets
  Heard-end a b octets h = Told-end R.tells R.handed a b octets h.told h.answered.1
