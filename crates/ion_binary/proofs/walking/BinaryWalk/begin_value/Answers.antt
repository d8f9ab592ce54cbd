use Rattle.std.proofs.Common.{sym, ◌∙◌}
use Rattle.ion_binary.proofs.Beginning.{value_named}
use Rattle.ion_binary.proofs.Judged.{on_ok}
use Rattle.ion_binary.proofs.walking.BinaryWalk.begin_value.Goals as goal

pub returns-clause-told : goal.returns-clause-told
returns-clause-told g c = on_ok c.heard.result c.heard.ensures.ok (λ w.
    value_named g.V.Visitor.takes c.args.self.now c.name.new.self c.in_ok-symbol.symbol.now c.args.visitor.now c.name.new.visitor
    (sym c.is_named.ensures ∙ c.if-not-is_named.false) c.in_ok-symbol.ensures (c.name.ensures w))
