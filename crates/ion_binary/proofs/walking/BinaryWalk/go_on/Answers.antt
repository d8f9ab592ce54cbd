use Rattle.std.proofs.Common.{refl, sym, ◌∙◌}
use Rattle.ion_binary.proofs.WalkRuns.{walk_answers, walk_goes}
use Rattle.ion_symtab.proofs.Walking.{none_failed}
use Rattle.ion_binary.proofs.walking.BinaryWalk.go_on.Goals as goal

pub returns-in-Ok-clause-walks : goal.returns-in-Ok-clause-walks
returns-in-Ok-clause-walks g c =
    let x = c.in-Ok.ensures in
    (walk_goes g.V.Visitor.takes c.args.self.now c.advance.new.self c.args.piece.now c.in-Ok.walked c.args.visitor.now c.advance.new.visitor
    (sym c.is_some.ensures ∙ c.if-is_some.false) x.within x.all x.some x.used x.setting x.does).0 c.if-walked.true

pub returns-in-Ok-2-clause-walks : goal.returns-in-Ok-2-clause-walks
returns-in-Ok-2-clause-walks g c =
    let x = c.in-Ok.ensures in
    (walk_goes g.V.Visitor.takes c.args.self.now c.advance.new.self c.args.piece.now c.in-Ok.walked c.args.visitor.now c.advance.new.visitor
    (sym c.is_some.ensures ∙ c.if-is_some.false) x.within x.all x.some x.used x.setting x.does).1 c.if-walked.false

pub returns-in-Err-clause-walks : goal.returns-in-Err-clause-walks
returns-in-Err-clause-walks g c =
    let x = c.in-Err.ensures in
    record {
      leaves = tt;
      tells = tt;
      answers = λ u s es h.
          walk_answers g.V.Visitor.takes c.args.self.now c.advance.new.self u s h.0 h.1 c.args.piece.now c.in-Err.refusal c.args.visitor.now
          c.advance.new.visitor (x.does h.0 h.1.holds);
      refuses = record { within = λ other none. x.decides other; memory = λ e none. x.memory e; fails = refl; unawaited = refl };
      again = none_failed c.args.self.now.failed _ (sym c.is_some.ensures ∙ c.if-is_some.false);
    }
