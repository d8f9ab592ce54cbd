-- What a name of the command line names.
use Rattle.std.specs.Prelude.{◌≡◌, ◌≢◌, List, ℕ, codes}
use Rattle.ion_run.specs.declared.files.Opened.{Opened}

-- `-` names the standard input, and any other name a file
abbrev pub IsNamed : List ℕ → Opened → Type 0
IsNamed name (Opened.Standard stdin) = name ≡ codes "-"
IsNamed name (Opened.File file) = name ≢ codes "-"
