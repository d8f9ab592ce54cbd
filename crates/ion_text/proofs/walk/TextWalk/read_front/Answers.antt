use Rattle.std.proofs.Common.{ℕ, Err, Ok, sym, refl, subst, arith}
use Rattle.std.proofs.lemmas.List.{length-take-le}
use Rattle.ion_text.specs.Names.{MayWaitOver, Taken, reading_of, scanned, state_of, told}
use Rattle.ion_text.proofs.Advancing.{octet_refused, octet_took, over_gone, prefix_took, waiting_reached}
use Rattle.ion_text.proofs.walk.TextWalk.read_front.Goals as goal

pub returns-in-Ok-clause-took : goal.returns-in-Ok-clause-took
returns-in-Ok-clause-took g c = λ fs ss h.
    let r = c.args.self.now in
    over_gone g.V.Visitor.takes (told fs ss) r.catalog.now r.limits (scanned r.scanner).used (state_of r fs ss) c.args.piece.now c.in-Ok._count
    c.in-Ok.taken r c.read_to_token.new.self c.args.visitor.now c.read_to_token.new.visitor c.in-Ok.ensures.used
    (prefix_took g.V.Visitor.takes (told fs ss) r.catalog.now r.limits (scanned r.scanner).used (state_of r fs ss) c.args.piece.now
    c.run_to_token-run_to_token.result c.run_to_token-run_to_token.ensures.within (Ok (c.in-Ok._count, c.in-Ok.taken)) c.read_to_token.new.self c.args.visitor.now
    c.read_to_token.new.visitor (c.in-Ok.ensures.took fs ss h))

pub returns-in-Err-clause-took : goal.returns-in-Err-clause-took
returns-in-Err-clause-took g c = λ fs ss h.
    let r = c.args.self.now in
    prefix_took g.V.Visitor.takes (told fs ss) r.catalog.now r.limits (scanned r.scanner).used (state_of r fs ss) c.args.piece.now
    c.run_to_token-run_to_token.result c.run_to_token-run_to_token.ensures.within (Err c.in-Err.refusal) c.read_to_token.new.self c.args.visitor.now
    c.read_to_token.new.visitor (c.in-Err.ensures.took fs ss h)

pub returns-in-Ok-read_while_waiting-clause-took : goal.returns-in-Ok-read_while_waiting-clause-took
returns-in-Ok-read_while_waiting-clause-took g c = λ fs ss h.
    let r = c.args.self.now in
    let size = length-take-le c.waiting_run-waiting_run.result c.args.piece.now c.waiting_run-waiting_run.ensures.within in
    over_gone g.V.Visitor.takes (told fs ss) r.catalog.now r.limits (scanned r.scanner).used (state_of r fs ss) c.args.piece.now c.waiting_run-waiting_run.result
    Taken.Uses r c.read_while_waiting.new.self c.args.visitor.now c.args.visitor.now (omega (arith, c.in-Ok-read_while_waiting.ensures.used, size))
    (waiting_reached g.V.Visitor.takes (told fs ss) r.catalog.now r.limits (scanned r.scanner).used (state_of r fs ss) c.args.piece.now c.waiting_run-waiting_run.result
    fs ss c.read_while_waiting.new.self c.args.visitor.now c.if-waiting_run-gt0.true c.waiting_run-waiting_run.ensures.within (c.read_while_waiting.ensures.holds fs ss h) refl
    (c.in-Ok-read_while_waiting.ensures.led fs ss))

pub returns-in-Ok-read_octet-clause-took : goal.returns-in-Ok-read_octet-clause-took
returns-in-Ok-read_octet-clause-took g c = λ fs ss h.
    let r = c.args.self.now in
    octet_took g.V.Visitor.takes (told fs ss) r.catalog.now r.limits (scanned r.scanner).used (state_of r fs ss) c.args.piece.now c.requires.some r
    c.read_octet.new.self c.in-Ok-read_octet.taken c.args.visitor.now c.read_octet.new.visitor c.in-Ok-read_octet.ensures.used
    (c.in-Ok-read_octet.ensures.did fs ss h)

pub returns-in-Err-read_octet-clause-took : goal.returns-in-Err-read_octet-clause-took
returns-in-Err-read_octet-clause-took g c = λ fs ss h.
    let r = c.args.self.now in
    octet_refused g.V.Visitor.takes (told fs ss) r.catalog.now r.limits (scanned r.scanner).used (state_of r fs ss) c.args.piece.now c.requires.some
    c.in-Err-read_octet.reason _ c.read_octet.new.self c.args.visitor.now c.read_octet.new.visitor (omega (arith, c.used-offset.ensures))
    (c.in-Err-read_octet.ensures.did fs ss h)

pub read_while_waiting-requires-clause-waiting_run : goal.read_while_waiting-requires-clause-waiting_run
read_while_waiting-requires-clause-waiting_run g c = λ fs ss.
    let r = c.args.self.now in
    subst (λ (n : ℕ). MayWaitOver r.limits (reading_of r fs ss) (scanned r.scanner) n)
    (sym (length-take-le c.waiting_run-waiting_run.result c.args.piece.now c.waiting_run-waiting_run.ensures.within))
    (c.waiting_run-waiting_run.ensures.waiting_run c.if-waiting_run-gt0.true fs ss)

pub returns-in-Err-clause-decides : goal.returns-in-Err-clause-decides
returns-in-Err-clause-decides g c = λ other.
    let within = c.in-Err.ensures.decides other in
    let size = length-take-le c.run_to_token-run_to_token.result c.args.piece.now c.run_to_token-run_to_token.ensures.within in
    (within.0, omega (arith, within.1, size, c.run_to_token-run_to_token.ensures.within))

pub returns-in-Err-read_while_waiting-clause-decides : goal.returns-in-Err-read_while_waiting-clause-decides
returns-in-Err-read_while_waiting-clause-decides g c = λ other. absurd (other c.in-Err-read_while_waiting.ensures.memory)

pub returns-in-Err-read_octet-clause-decides : goal.returns-in-Err-read_octet-clause-decides
returns-in-Err-read_octet-clause-decides g c = λ other.
    let some = c.requires.some in
    (omega (arith, c.used-offset.ensures), omega (arith, some, c.used-offset.ensures))
