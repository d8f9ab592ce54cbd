use Rattle.std.proofs.Common.{◌≡◌, ◌-◌, ◌≤◌, List, ℕ, ◌++◌, take, drop}
use Rattle.std.specs.Fmt.{HasWritten, IsPlainFormatter}
use Rattle.std.specs.Str.{IsCharBoundary}
use Rattle.ion_text_writer.specs.Names.{escaped_text, of_symbol}
use Rattle.ion_text_writer.proofs.display.write_escaped.Given as goal

-- what is written, the run that isn't yet, and what is left are all
abbrev pub invariant-loop-at : goal.invariant-loop-at
invariant-loop-at g l =
    (l.start ≤ l.at) × IsCharBoundary l.fn.text l.start × (done : List ℕ)
    × (done ++ (take (l.at - l.start) (drop l.start l.fn.text) ++ escaped_text of_symbol (drop l.at l.fn.text)) ≡ escaped_text of_symbol l.fn.text)
    × (IsPlainFormatter l.initial.f → HasWritten g.W.Write.write_str_gives l.initial.f done l.f)
