-- The calls of a writer, one after another.
use Rattle.std.specs.Prelude.{◌≡◌, List, [], ◌∷◌}
use Rattle.ion_binary.specs.Names.{Outlet, Progress, Took, Value, adds, after, behind, opening}

module _ {T : Type 0} (W : Outlet T) where
  -- `put` was called with each of these values and answered `Ok`: between old and new the device took what each adds
  abbrev pub PutsEach : Progress → T → List Value → T → Type 0
  PutsEach p old [] new = new ≡ old
  PutsEach p old (v ∷ vs) new = (mid : T) × Took W.took W.written old mid (adds p v) × PutsEach (after p v) mid vs new

  -- and then `finish`, with `Ok`
  pub record WritesEach (p : Progress) (old : T) (s : List Value) (new : T) : Type 0 where
    pub mid : T
    pub each : PutsEach p old s mid
    pub end : Took W.took W.written mid new (opening (behind p s).begun)
