use Rattle.std.proofs.Common.{◌≡◌, MatchResult, true, subst, arith}
use lib.Pointwise.{pointwise}
use Rattle.ion_model.specs.Names.{symbol_same}
use Rattle.ion_atoms.specs.declared.refusal.Reason.{Reason}
use Rattle.ion_model.specs.laws.Same.{same-is, same-payload}
use Rattle.ion_model.proofs.equivalence.+equivalent.Goals as goal

pub equivalent_value-returns-then-not-same_symbols : goal.equivalent_value-returns-then-not-same_symbols
equivalent_value-returns-then-not-same_symbols t c = rw (same-is c.args.a.now c.args.b.now) (grind arith)

pub equivalent_value-returns : goal.equivalent_value-returns
equivalent_value-returns t c =
    let agree : pointwise symbol_same c.args.a.now.annotations c.args.b.now.annotations ≡ true = cc in
    subst (λ s. MatchResult c.equivalent_payload.result (λ r. r ≡ s) (λ e. e ≡ Reason.Memory)) (same-payload c.args.a.now c.args.b.now agree)
    c.equivalent_payload.ensures
