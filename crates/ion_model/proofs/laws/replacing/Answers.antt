use Rattle.ion_model.proofs.Replacing.{same-lists, same-sexps, same-structs}
use Rattle.ion_model.proofs.laws.replacing.Goals as goal

pub returns-clause-list : goal.returns-clause-list
returns-clause-list c = same-lists

pub returns-clause-sexp : goal.returns-clause-sexp
returns-clause-sexp c = same-sexps

pub returns-clause-fields : goal.returns-clause-fields
returns-clause-fields c = same-structs
