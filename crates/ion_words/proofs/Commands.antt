-- What a step of the program's building adds to it.
use Rattle.std.proofs.Common.{◌≡◌, ◌∙◌, true, ap, ap₂, Result, Ok, Err, IfOk, IsOkAnd}
use Rattle.clap.specs.Words.{App, app_of, with_subcommand}
use Rattle.clap.specs.declared.builder.command.Command.{Command}

-- a subcommand that is built as it is to be is added to the program as it is to be
pub added : {E : Type 0} (command : Result Command E) (sub : App) (old known : App) (new : App) → IfOk command (λ c. app_of c ≡ sub) → sub.top.is_plain ≡ true
    → old ≡ known
    → IsOkAnd command (λ c. (app_of c).top.is_plain ≡ true → new ≡ with_subcommand old (app_of c).top) → new ≡ with_subcommand known sub.top
added (Ok c) sub old known new is plain known_is adds = adds (ap (λ (a : App). a.top.is_plain) is ∙ plain) ∙ ap₂ (λ a b. with_subcommand a b.top) known_is is
added (Err e) sub old known new is plain known_is adds = absurd adds
