use Rattle.std.proofs.Common.{◌≡◌, ◌++◌, length}
use Rattle.ion_text_writer.specs.Names.{escaped_text}
use Rattle.ion_text_writer.proofs.escape.put_escaped.Given as goal

-- what is written and what is left are all
abbrev pub invariant-loop-rest : goal.invariant-loop-rest
invariant-loop-rest l =
    l.out.items ++ escaped_text l.quotes l.rest ≡ l.initial.out.items ++ escaped_text l.quotes l.octets

abbrev pub decreases-loop-rest : goal.decreases-loop-rest
decreases-loop-rest l = length l.rest
