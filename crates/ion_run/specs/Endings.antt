-- How a command ends, and what went to the output by then.
use Rattle.std.specs.Prelude.{◌≡◌, ℕ, List, [], Result, Ok, Err}
use Rattle.ion_atoms.specs.declared.refusal.Refusal.{Refusal as the_refusal}
use Rattle.ion_symtab.specs.Took.{Took}
use Rattle.ion_symtab.specs.declared.outlet.Outlet.{Ghosts as Outlet}
use Rattle.ion_streams.specs.Listing.{accepted_line}
use Rattle.ion_streams.specs.declared.comparison.Verdict.{Verdict}
use Rattle.ion_run.specs.Lines.{different_line, equivalent_line}
use Rattle.ion_run.specs.declared.command.Ending.{Ending}
use Rattle.ion_run.specs.declared.command.Ending.TheVariants.{Accepted, Different, Refused}
use Rattle.ion_run.specs.declared.lines.Whose.TheVariants.{One, Only}

-- the line of an answer of `check`; a refused document has none on the output
abbrev pub answer_line : Result ℕ the_refusal → List ℕ
answer_line (Ok values) = accepted_line values
answer_line (Err refusal) = []

-- the line of a verdict; nor has a refused side
abbrev pub verdict_line : Verdict → List ℕ
verdict_line (Verdict.Equivalent values) = equivalent_line values
verdict_line (Verdict.Different index path) = different_line index path
verdict_line (Verdict.Refused side refusal) = []

-- how a command ends with this answer of its only document
abbrev pub ending_with : Result ℕ the_refusal → Ending
ending_with (Ok values) = Accepted
ending_with (Err refusal) = Refused Only refusal

module _ {T : Type 0} (W : Outlet T) where
  -- all that a device took was passed on
  abbrev pub IsPassedOn : T → Type 0
  IsPassedOn now = W.passed now ≡ W.written now

  -- `show` and `convert` end so with this answer; what they write was passed on before, on a refusal too
  abbrev pub EndsShown : T → Result ℕ the_refusal → Ending → Type 0
  EndsShown new answer ending = (ending ≡ ending_with answer) × IsPassedOn new

  -- `check` ends so with this answer: with the line of an accepted document, passed on, and with nothing of a refused one
  abbrev pub EndsChecked : T → T → Result ℕ the_refusal → Ending → Type 0
  EndsChecked old new (Ok values) ending = (ending ≡ Accepted) × Took W.took W.written old new (accepted_line values) × IsPassedOn new
  EndsChecked old new (Err refusal) ending = (ending ≡ Refused Only refusal) × Took W.took W.written old new []

  -- `compare` ends so with this verdict: with the line of two documents, passed on, and with nothing where one is refused
  abbrev pub EndsCompared : T → T → Verdict → Ending → Type 0
  EndsCompared old new (Verdict.Equivalent values) ending = (ending ≡ Accepted) × Took W.took W.written old new (equivalent_line values) × IsPassedOn new
  EndsCompared old new (Verdict.Different index path) ending = (ending ≡ Different) × Took W.took W.written old new (different_line index path)
      × IsPassedOn new
  EndsCompared old new (Verdict.Refused side refusal) ending = (ending ≡ Refused (One side) refusal) × Took W.took W.written old new []

  -- Between old and new a device that had passed on all that it took has passed on all again: where nothing was written, what was kept back before may
  -- still be. Where something was, the endings above say so without this condition.
  abbrev pub PassesOn : T → T → Type 0
  PassesOn old new = IsPassedOn old → IsPassedOn new
