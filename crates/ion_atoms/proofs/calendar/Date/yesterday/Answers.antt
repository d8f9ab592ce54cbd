use Rattle.std.proofs.lemmas.Bool.{false≢true}
use Rattle.std.proofs.lemmas.Option.{IfSome_then}
use Rattle.ion_atoms.specs.laws.Calendar.{is_first, has_before, one_less}
use Rattle.ion_atoms.proofs.Options.{IfNone_then}
use Rattle.ion_atoms.proofs.calendar.Date.yesterday.Goals as goal

pub returns-in-Ok-clause-some : goal.returns-in-Ok-clause-some
returns-in-Ok-clause-some c =
    IfSome_then c.own_date.result c.own_date.ensures.some
    (λ d is. (is.0, one_less c.args.self d c.requires is.0 c.civil_date.result c.in-Ok.day c.civil_date.ensures is.1 c.in-Ok.ensures.value))

pub returns-in-Ok-clause-none : goal.returns-in-Ok-clause-none
returns-in-Ok-clause-none c =
    IfNone_then c.own_date.result c.own_date.ensures.none (is_first c.args.self c.requires c.civil_date.result c.in-Ok.day c.civil_date.ensures
    c.in-Ok.ensures.value)

pub returns-in-Err-clause-none : goal.returns-in-Err-clause-none
returns-in-Err-clause-none c = let s = c.in-Err.ensures.succeeds in
    absurd (false≢true (s.1 (has_before c.args.self c.requires c.civil_date.result c.civil_date.ensures)))
