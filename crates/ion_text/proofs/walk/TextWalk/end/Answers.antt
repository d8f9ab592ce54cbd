use Rattle.std.proofs.Common.{subst}
use Rattle.std.specs.Prelude.{IsNone}
use Rattle.ion_text.specs.Names.{Place, Scanner, at_end, end_ready, failure, place, reading_of, scanned, state_of, told}
use Rattle.ion_tokens.specs.machine.Steps.{Ends}
use Rattle.ion_text.specs.machine.Run.{ends}
use Rattle.ion_text.proofs.Endings.{now_ready}
use Rattle.ion_text.proofs.Ends.{ended_same}
use Rattle.ion_text.proofs.walk.TextWalk.end.Goals as goal

pub returns-in_default : goal.returns-in_default
returns-in_default g c = record {
  did =
      λ fs ss h.
      let r = c.args.self.now in
      let s = scanned r.scanner in
      let q = reading_of r fs ss in
      let x = at_end (place q) s in
      let there =
      subst (λ (k : Scanner). IsNone (failure k) → Ends (scanned k).used (at_end c.place-place.result (scanned k)) c.finish-token.result)
      c.replace-scanner.ensures.value c.finish-token.ensures.ends c.requires.fine
      in
      let found = subst (λ (p : Place). Ends s.used (at_end p s) c.finish-token.result) (c.place-place.ensures fs ss h) there in
      ended_same g.V.Visitor.takes (told fs ss) s.used (ends r.catalog.now r.limits (state_of r fs ss)) (end_ready r.catalog.now r.limits s.used q x)
      c.end_ready.result c.args.visitor.now c.end_ready.new.visitor
      (now_ready r.catalog.now r.limits s.used q x r.stage c.in_default.not-Pending c.in_default.not-Long c.in_default.not-LongName)
      (c.end_ready.ensures.did fs ss h s.used x found);
}
