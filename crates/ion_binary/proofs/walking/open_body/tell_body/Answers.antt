use Rattle.std.proofs.Common.{Some, ap, sym, ◌∙◌}
use Rattle.ion_binary.proofs.Judged.{on_ok}
use Rattle.ion_binary.proofs.Unread.{kind_unread, unread_told}
use Rattle.ion_binary.proofs.walking.open_body.tell_body.Goals as goal

pub returns-in-Some-of_kind-clause-told : goal.returns-in-Some-of_kind-clause-told
returns-in-Some-of_kind-clause-told g c = on_ok c.heard.result c.heard.ensures.ok (λ w.
    unread_told g.V.Visitor.takes c.args.context.now c.args.scalar c.args.body.now c.args.filter.now c.of_kind.new.self c.args.visitor.now
    c.of_kind.new.visitor (λ p i. c.in-Some-of_kind.ensures.told (ap Some w) p (kind_unread c.args.context.now c.args.body.now c.args.scalar p i ∙ sym c.kind.ensures))
    (c.in_ok-judge_unread.ensures.is c.args.context.now))
