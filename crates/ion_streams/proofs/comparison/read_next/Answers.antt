use Rattle.std.proofs.Common.{rules}
use Rattle.ion_visiting.specs.Count.{counts}
use Rattle.ion_streams.proofs.Passes.{ok_by}
use Rattle.ion_streams.proofs.Taping.{held_next}
use Rattle.ion_streams.proofs.comparison.read_next.Goals as goal

pub returns-then-not-compared-clause-tells : goal.returns-then-not-compared-clause-tells
returns-then-not-compared-clause-tells g c =
    ok_by c.advance_by.result _ _ (λ found tells. λ catalog limits first given h.
    held_next counts _ g.R.Inlet g.I.Items catalog limits first c.advance_by.new.reader c.advance_by.new.self given found
    c.new.result c.advance_by.new.visitor (λ v led yes. absurd (search rules)) (tells catalog limits first given h)) c.advance_by.ensures.tells

pub returns-clause-tells : goal.returns-clause-tells
returns-clause-tells g c =
    ok_by c.advance_by-2.result _ _ (λ found tells. λ catalog limits first given h.
    held_next g.V.Visitor.takes _ g.R.Inlet g.I.Items catalog limits first c.advance_by-2.new.reader c.advance_by-2.new.self given found
    c.args.visitor.now c.advance_by-2.new.visitor (λ v led yes. led) (tells catalog limits first given h)) c.advance_by-2.ensures.tells
