use Rattle.ion_scalar.specs.Names.{day, month, year}
use Rattle.ion_scalar.specs.text.laws.TimestampForms.{shown_where}
use Rattle.ion_scalar.proofs.timestamps.date_token.Goals as goal

pub returns-in-5-clause-some : goal.returns-in-5-clause-some
returns-in-5-clause-some c = shown_where c.args.token.now _ c.year_token.result _ c.year_token.ensures year

pub returns-in-8-clause-some : goal.returns-in-8-clause-some
returns-in-8-clause-some c = shown_where c.args.token.now _ c.month_token.result _ c.month_token.ensures month

pub returns-in-10-clause-some : goal.returns-in-10-clause-some
returns-in-10-clause-some c = shown_where c.args.token.now _ c.day_token.result _ c.day_token.ensures day
