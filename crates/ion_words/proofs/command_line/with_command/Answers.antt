use Rattle.std.proofs.lemmas.Result.{IfOk-weaker}
use Rattle.clap.proofs.SimpleLemmas.{plain_fields}
use Rattle.ion_words.proofs.command_line.with_command.Goals as goal

pub returns : goal.returns
returns c = IfOk-weaker c.subcommand.result _ _ (λ r adds. rw c.in_ok-command.was (λ plain. adds.shape (plain_fields _ plain).globals)) c.subcommand.ensures
