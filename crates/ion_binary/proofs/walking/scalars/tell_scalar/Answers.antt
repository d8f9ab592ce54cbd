use Rattle.std.proofs.Common.{Some, ap}
use Rattle.ion_binary.proofs.Judged.{on_ok}
use Rattle.ion_binary.proofs.Unread.{unread_told}
use Rattle.ion_binary.proofs.walking.scalars.tell_scalar.Goals as goal

pub returns-in-Some-clause-told : goal.returns-in-Some-clause-told
returns-in-Some-clause-told g c = on_ok c.heard.result c.heard.ensures.ok (λ w.
    unread_told g.V.Visitor.takes c.args.context.now c.args.scalar c.args.body.now c.args.filter.now c.any_part.new.self c.args.visitor.now
    c.any_part.new.visitor (λ p _. c.in-Some.ensures.told (ap Some w) p) (c.is_scalar.ensures c.if-is_scalar.true))
