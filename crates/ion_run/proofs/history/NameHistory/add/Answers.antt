use Rattle.ion_run.proofs.Spells.{names_more}
use Rattle.ion_run.proofs.history.NameHistory.add.Goals as goal

pub returns : goal.returns
returns c = rw (c.of-tag.ensures, ← c.self.view_is) (names_more c.self.inside.tag.numbers c.args.name.now)
