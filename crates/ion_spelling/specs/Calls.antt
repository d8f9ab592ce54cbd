-- The calls of a writer, one after another.
use Rattle.std.specs.Prelude.{◌≡◌, List, [], ◌∷◌}
use Rattle.ion_spelling.specs.Names.Below.{Outlet, Took, Value}
use Rattle.ion_spelling.specs.Output.{adds}

module _ {T : Type 0} (W : Outlet T) where
  -- `put` was called with each of these values and answered `Ok`: between old and new the device took what each adds
  abbrev pub PutsEach : T → List Value → T → Type 0
  PutsEach old [] new = new ≡ old
  PutsEach old (v ∷ vs) new = (mid : T) × Took W.took W.written old mid (adds v) × PutsEach mid vs new

  -- and then `finish`, with `Ok`
  pub record WritesEach (old : T) (s : List Value) (new : T) : Type 0 where
    pub mid : T
    pub each : PutsEach old s mid
    pub end : Took W.took W.written mid new []
