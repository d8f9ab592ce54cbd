use Rattle.std.proofs.Common.{ℕ, List, ap, ◌∙◌}
use Rattle.ion_tokens.specs.machine.LetGo.{behind_gone}
use Rattle.ion_tokens.specs.machine.Machines.{known}
use Rattle.ion_tokens.proofs.histories.Stepped.{begun_scanned}
use Rattle.ion_tokens.proofs.traces.Traced.{begins_traced}
use Rattle.ion_tokens.proofs.scanner.Scanner.new.Goals as goal

pub returns-clause-begins : goal.returns-clause-begins
returns-clause-begins c = λ place. begun_scanned place _ (ap (λ (g : List ℕ). behind_gone g (known c.new.result)) c.nothing.ensures ∙ c.new.ensures.known)

pub returns-clause-traced : goal.returns-clause-traced
returns-clause-traced c = λ places. begins_traced places _ (ap (λ (g : List ℕ). behind_gone g (known c.new.result)) c.nothing.ensures ∙ c.new.ensures.known)
