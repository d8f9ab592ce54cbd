-- What a call heard of a device.
use Rattle.std.specs.Prelude.{◌≡◌, ℕ, List, [], ◌∷◌, ◌++◌, length, Bool, true, false}
use Rattle.ion_symtab.specs.Told.{Told}
use Rattle.ion_symtab.specs.declared.inlet.Inlet.{Ghosts}

module _ {S : Type 0} (R : Ghosts S) where
  -- between old and new the device answered its end once, behind all octets that it had handed over; or it answered no end
  abbrev pub AnsweredEnd : S → S → Bool → Type 0
  AnsweredEnd old new true = (R.ends new ≡ R.ends old ++ length (R.handed new) ∷ []) × R.tells new []
  AnsweredEnd old new false = R.ends new ≡ R.ends old

  -- Between old and new the device handed over these octets, and answered the end behind them or hasn't answered it: it wasn't asked on behind an end.
  pub record Heard (old new : S) (octets : List ℕ) (ended : Bool) : Type 0 where
    pub told : Told R.tells R.handed old new octets
    pub answered : AnsweredEnd old new ended

-- these octets may come behind those that were heard: any, or none where the end was answered
abbrev pub MayFollow : Bool → List ℕ → Type 0
MayFollow ended more = ended ≡ true → more ≡ []
