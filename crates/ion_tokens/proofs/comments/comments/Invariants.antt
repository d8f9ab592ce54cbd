use Rattle.ion_tokens.specs.Names.{RestsBehind}
use Rattle.ion_tokens.proofs.comments.comments.Given as goal

-- behind the octets before `at` the scanner rests there
abbrev pub invariant-loop : goal.invariant-loop
invariant-loop l = RestsBehind l.octets l.at l.fn.rest l.behind
