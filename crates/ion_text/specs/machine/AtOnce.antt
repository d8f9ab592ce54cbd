-- Octets that are taken up at once, up to one that is yet to be taken up.
use Rattle.std.specs.Prelude.{◌≡◌, ℕ, ◌+◌, List, take, drop}
use Rattle.ion_text.specs.Names.Below.{Catalog, Limits, Stage}
use Rattle.ion_text.specs.machine.Pieces.{led}
use Rattle.ion_text.specs.machine.Run.{State, run}

-- Over octets that agree with these up to the one behind so many, whatever comes then, a run from m goes on there from n.
abbrev pub Passes : Catalog → Limits → State → List ℕ → ℕ → State → Type 0
Passes g l m octets count n = (w : List ℕ) → take (count + 1) w ≡ take (count + 1) octets → run g l m.scan.used m w ≡ run g l n.scan.used n (drop count w)

-- A run over so many octets gives nothing, and leads from m to n.
abbrev pub LeadsTo : Catalog → Limits → State → List ℕ → ℕ → State → Type 0
LeadsTo g l m octets count n = run g l m.scan.used m (take count octets) ≡ led n

-- nothing waits
abbrev pub IsStill : Stage → Type 0
IsStill Stage.Ready = Unit {0}
IsStill Stage.Name = Unit {0}
IsStill Stage.After = Unit {0}
IsStill (Stage.Keyed s) = Unit {0}
IsStill _ = ⊥
