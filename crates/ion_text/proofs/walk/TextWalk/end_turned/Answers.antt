use Rattle.std.proofs.Common.{Ok, ap, subst}
use Rattle.ion_text.specs.Names.{Does, Turned as Effect, reading_of, told, turn}
use Rattle.ion_text.specs.machine.Views.{token_in}
use Rattle.ion_text.proofs.Ends.{turned_gives, turned_settles}
use Rattle.ion_text.proofs.walk.TextWalk.end_turned.Goals as goal

pub returns-in-Ok-Goes : goal.returns-in-Ok-Goes
returns-in-Ok-Goes g c = record {
  did =
      λ fs ss h used.
      let r = c.args.self.now in
      let t = turn r.catalog.now r.limits (reading_of r fs ss) (token_in c.args.token) in
      let same = c.in-Ok-Goes.ensures.setting in
      turned_settles g.V.Visitor.takes (told fs ss) used t c.turn.new.self c.args.visitor.now c.turn.new.visitor r.catalog.now r.limits c.end_settled.result
      c.end_settled.new.visitor (ap (λ (b : _). b.now) same.catalog) same.limits
      (subst (λ (e : Effect). Does g.V.Visitor.takes (told fs ss) t (Ok e) c.turn.new.self c.args.visitor.now c.turn.new.visitor) c.in-Ok-Goes.field-0-is
      (c.in-Ok-Goes.ensures.does fs ss h))
      (λ gs ns k. c.end_settled.ensures.did gs ns k used);
}

pub returns-in-Ok-Gives : goal.returns-in-Ok-Gives
returns-in-Ok-Gives g c = record {
  did =
      λ fs ss h used.
      let r = c.args.self.now in
      let t = turn r.catalog.now r.limits (reading_of r fs ss) (token_in c.args.token) in
      turned_gives g.V.Visitor.takes (told fs ss) used t c.turn.new.self c.args.visitor.now c.turn.new.visitor r.catalog.now r.limits
      (subst (λ (e : Effect). Does g.V.Visitor.takes (told fs ss) t (Ok e) c.turn.new.self c.args.visitor.now c.turn.new.visitor) c.in-Ok-Gives.field-0-is
      (c.in-Ok-Gives.ensures.does fs ss h));
}
