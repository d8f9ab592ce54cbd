use Rattle.std.proofs.Common.{◌++◌, codes, take}
use Rattle.std.specs.Fmt.{HasWritten, IsPlainFormatter}
use Rattle.std.specs.List.{flat_map}
use Rattle.ion_docs.specs.Paths.{part_text}
use Rattle.ion_docs.proofs.paths.PathTextDisplay.fmt.Given as goal

-- behind the first part, each with a space before it
abbrev pub invariant-loop-part : goal.invariant-loop-part
invariant-loop-part g l =
    IsPlainFormatter l.initial.f → HasWritten g.W.Write.write_str_gives l.initial.f
    (flat_map (λ part. codes " " ++ part_text part) (take l.part-index l.others)) l.f
