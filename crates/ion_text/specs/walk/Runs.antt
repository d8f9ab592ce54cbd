-- What a reader that holds no values stands for between two pieces, and what it told of them.
use Rattle.std.specs.Prelude.{◌≡◌, ℕ, ◌+◌, List, [], length, None}
use Rattle.ion_text.specs.Names.Below.{Catalog, Event, Frame, IsSteady, Limits, TextWalk, Value, heard, held_in, looks, open_in_reader, scanned}
use Rattle.ion_text.specs.machine.EachToken.{Symbols}
use Rattle.ion_text.specs.machine.Progress.{Ran, is_quiet, pending_by}
use Rattle.ion_text.specs.walk.Ends.{failed, octets_used}
use Rattle.ion_text.specs.walk.Holds.{Holds, state_of, told}

-- how many octets of the open token are kept: by the scanner, and by the reader of tokens beside it
abbrev pub octets_kept : TextWalk → ℕ
octets_kept r = held_in (scanned r.scanner) + length (open_in_reader r.beside)

-- how many values may end before another octet is used: none where the next octet can't show the end of one, or showed it already
abbrev pub pending : TextWalk → ℕ
pending r = pending_by (is_quiet r.stage (scanned r.scanner).mode) r.awaited

-- A reader in memory stands for these octets, of which these values ended: the run over them led to where it is, with these containers and
-- annotations.
pub record StandsFor (r : TextWalk) (u : List ℕ) (s : List (Value × ℕ)) (fs : List Frame) (ss : Symbols) : Type 0 where
  pub fine : failed r ≡ None
  pub counted : octets_used r ≡ length u
  pub steady : IsSteady (scanned r.scanner) (looks r.scanner)
  pub holds : Holds r fs ss
  pub ran : Ran r.catalog.now r.limits u s (state_of r fs ss) r.awaited

-- It stands for these octets, and these events are all that there is to tell so far of the value that is open.
abbrev pub Told : TextWalk → List ℕ → List (Value × ℕ) → List Event → Type 0
Told r u s es = (fs : List Frame) × (ss : Symbols) × StandsFor r u s fs ss × (es ≡ heard (told fs ss))

-- a reader of no octets yet, under this catalog and within these limits
pub record Begins (g : Catalog) (l : Limits) (r : TextWalk) : Type 0 where
  pub told : Told r [] [] []
  pub catalog : r.catalog.now ≡ g
  pub limits : r.limits ≡ l
  pub taken : octets_used r ≡ 0
  pub failed : failed r ≡ None
  pub awaits : r.awaited ≡ None
  pub pending : pending r ≡ 0
