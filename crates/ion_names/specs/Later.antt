-- Names that have others behind them: what has an id keeps it.
use Rattle.std.specs.Prelude.{◌≡◌, ◌++◌}
use Rattle.ion_names.specs.Ids.{Names}

-- these names, and more behind them
abbrev pub IsLater : Names → Names → Type 0
IsLater names later = (more : Names) × (later ≡ names ++ more)
