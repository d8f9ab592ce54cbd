use Rattle.std.proofs.Common.{subst, sym}
use Rattle.ion_tokens.specs.Names.{ShowsBegun}
use Rattle.ion_tokens.specs.machine.Views.{scanned}
use Rattle.ion_tokens.proofs.foreseen.Begins.{begun_right}
use Rattle.ion_tokens.proofs.scanner.Scanner.begun.Goals as goal

pub returns-clause-shows : goal.returns-clause-shows
returns-clause-shows c = λ place u ts h. subst (λ b. ShowsBegun place u ts b) (sym c.begun.ensures) (begun_right place (scanned c.args.self.now) u ts h)
