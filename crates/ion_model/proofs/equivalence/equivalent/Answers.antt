use Rattle.std.proofs.Common.{◌≡◌, ◌∙◌, true, refl, ap, sym, subst}
use Rattle.std.specs.Ordering.{is_eq}
use Rattle.ion_model.specs.Names.{order, same}
use Rattle.ion_atoms.specs.laws.Ties.{tie_from_is_eq}
use Rattle.ion_model.specs.laws.Equivalence.{same-equiv}
use Rattle.ion_model.specs.laws.OrderEqual.{equal_from_order}
use Rattle.ion_model.proofs.equivalence.equivalent.Goals as goal

pub returns-then-is_eq : goal.returns-then-is_eq
returns-then-is_eq c =
    let tie : is_eq (order c.args.a.now c.args.b.now) ≡ true = sym (ap is_eq c.order.ensures) ∙ sym c.is_eq.ensures ∙ c.if-is_eq.true in
    record {
      same = subst (λ w. true ≡ same c.args.a.now w) (equal_from_order c.args.a.now c.args.b.now (tie_from_is_eq _ tie)) (sym (same-equiv.refl c.args.a.now));
      free = λ e. refl;
    }
