use Rattle.std.proofs.Common.{ℕ, ◌+◌, ◌≤◌, List, length, inl, inr, rules, arith}
use Rattle.std.proofs.lemmas.Result.{err_from_is_err_and}
use Rattle.ion_streams.specs.Names.{Catalog, Event, HandedOn, Limits, Reads, ReadsEach, Sought, Value, format_of, telling}
use Rattle.ion_streams.proofs.Steps.{on_err, within_kept}
use Rattle.ion_streams.proofs.Telling.{TellsOn, tells_asked, tells_failed, tells_kept, tells_more, tells_refilled, tells_so_far, tells_value}
use Rattle.ion_streams.proofs.Turns.{on_more, one_piece}
use Rattle.ion_streams.proofs.piece_reader.PieceReader.read_on_by.Given.{Over}
use Rattle.ion_streams.proofs.piece_reader.PieceReader.read_on_by.Goals.{In-Ok-false}
use Rattle.ion_streams.proofs.piece_reader.PieceReader.read_on_by.Goals as goal

-- octets were used and ended no value
told_on : (g : Over) (c : In-Ok-false g) (catalog : Catalog) (limits : Limits) (first : g.row.R.Denot) (given : List (Value × ℕ)) (es : List Event)
    → ReadsEach g.R.Inlet (telling g.I.Items es) catalog limits first c.args.reader.now c.args.self.now given
    → TellsOn g.V.Visitor.takes g.R.Inlet g.I.Items catalog limits first c.loop-refusal.reader c.take_by.new.self given es c.args.visitor.now
    c.take_by.new.visitor
told_on g c catalog limits first given es h =
    let t = c.in-Ok-false.ensures in
    tells_more g.V.Visitor.takes g.R.Inlet g.I.Items catalog limits first _ c.loop-refusal.self c.take_by.new.self given es _ _ _ _ c.in-Ok-false.field-0-test
    (c.loop-refusal.invariant.reads catalog limits first given es h) t.tells t.catalog t.limits t.ended

-- then the device was asked for the next
sought : (g : Over) (c : In-Ok-false g) (now : g.row.R.Denot) → g.R.Inlet.calls_made now ≤ g.R.Inlet.calls_made c.loop-refusal.reader + 1
    → HandedOn g.R.Inlet c.loop-refusal.reader now → length (g.R.Inlet.handed now) ≤ length (g.R.Inlet.handed c.loop-refusal.reader) + 4096
    → (catalog : Catalog) (limits : Limits) (first : g.row.R.Denot) (s : List Value) (es : List Event)
    → Reads g.R.Inlet (telling g.I.Items es) catalog limits first c.args.reader.now c.args.self.now s
    → Sought g.R.Inlet (format_of g.I.Items catalog limits) first c.args.reader.now now (length s)
sought g c now once grew few catalog limits first s es h =
    let t = c.in-Ok-false.ensures in
    inr (tells_asked g.V.Visitor.takes g.R.Inlet g.I.Items catalog limits (g.met.I.Items.settled catalog limits) g.met.I.Items.has_told first _ now
    c.take_by.new.self _ s es _ _ h.values (told_on g c catalog limits first h.given es h.each) t.ready (t.all c.in-Ok-false.field-0-test) once
    (one_piece g.R.Inlet _ _ grew few))

pub returns-in-Err-Memory-clause-kept : goal.returns-in-Err-Memory-clause-kept
returns-in-Err-Memory-clause-kept g c = λ catalog limits first s es h.
    tells_so_far g.V.Visitor.takes g.R.Inlet g.I.Items catalog limits first _ c.loop-refusal.self _ s es _ _ h.values
    (c.loop-refusal.invariant.reads catalog limits first h.given es h.each)

pub returns-in-Err-clause-tells : goal.returns-in-Err-clause-tells
returns-in-Err-clause-tells g c = λ catalog limits first given es h.
    let r = c.loop-refusal.invariant.reads catalog limits first given es h in
    tells_failed g.V.Visitor.takes g.R.Inlet g.I.Items catalog limits first _ c.loop-refusal.self given es _ _ c.in-Err.refusal r
    (rw (r.2.under, r.2.within) at (c.in-Err.ensures.refuses (search rules)))

pub returns-in-Ok-true-clause-tells : goal.returns-in-Ok-true-clause-tells
returns-in-Ok-true-clause-tells g c = λ catalog limits first given es h.
    let t = c.in-Ok-true.ensures in
    tells_value g.V.Visitor.takes g.R.Inlet g.I.Items catalog limits first _ c.loop-refusal.self c.take_by.new.self given es _ _ _ _ c.in-Ok-true.field-0-test
    (c.loop-refusal.invariant.reads catalog limits first given es h) t.tells t.catalog t.limits t.ended

pub returns-in_err-refill-clause-cause : goal.returns-in_err-refill-clause-cause
returns-in_err-refill-clause-cause g c =
    let p = err_from_is_err_and c.from_residual.result c.from_residual.ensures.1 in
    let t = c.in-Ok-false.ensures in
    rw (p.1, p.2) (λ first reads h.
    c.in_err-refill.ensures.cause first reads (within_kept g.R.Inlet reads first _ c.loop-refusal.self c.take_by.new.self t.reads t.ended
    (c.loop-refusal.invariant.within first reads h)))

pub returns-in_err-refill-clause-kept : goal.returns-in_err-refill-clause-kept
returns-in_err-refill-clause-kept g c = on_err c.from_residual.result _ (λ catalog limits first s es h.
    tells_kept g.V.Visitor.takes g.R.Inlet g.I.Items catalog limits first c.loop-refusal.reader c.refill.new.reader c.take_by.new.self _ s es _ _ h.values
    (told_on g (goal.at.returns-in_err-refill-clause-kept g c).In-Ok-false catalog limits first h.given es h.each) c.in_err-refill.ensures.kept.0
    c.in_err-refill.ensures.kept.1)

pub returns-in_err-refill-clause-sought : goal.returns-in_err-refill-clause-sought
returns-in_err-refill-clause-sought g c =
    sought g (goal.at.returns-in_err-refill-clause-sought g c).In-Ok-false c.refill.new.reader c.in_err-refill.ensures.once
    c.in_err-refill.ensures.grew c.in_err-refill.ensures.one_piece

pub returns-then-not-branch-clause-tells : goal.returns-then-not-branch-clause-tells
returns-then-not-branch-clause-tells g c = λ catalog limits first given es h.
    let f = c.in_ok-refill.ensures in
    rw (f.ended (search rules)) at (tells_refilled g.V.Visitor.takes g.R.Inlet g.I.Items catalog limits first _ _ c.take_by.new.self c.refill.new.self given es
    _ _ f.refills (told_on g (goal.at.returns-then-not-branch-clause-tells g c).In-Ok-false catalog limits first given es h))

pub returns-then-not-branch-clause-sought : goal.returns-then-not-branch-clause-sought
returns-then-not-branch-clause-sought g c =
    sought g (goal.at.returns-then-not-branch-clause-sought g c).In-Ok-false c.refill.new.reader c.in_ok-refill.ensures.once
    c.in_ok-refill.ensures.grew c.in_ok-refill.ensures.one_piece

pub loop-refusal-preserved : goal.loop-refusal-preserved
loop-refusal-preserved g c =
    let at = (goal.at.loop-refusal-preserved g c).In-Ok-false in
    let i = c.loop-refusal.invariant in
    let t = c.in-Ok-false.ensures in
    let f = c.in_ok-refill.ensures in
    record {
      ready = f.ready (search rules);
      less = omega (arith, i.less, t.pending, f.less (search rules));
      asked = omega (arith, i.asked, t.reads, f.few_calls);
      handed = omega (arith, i.handed, t.reads, f.few_octets);
      unasked = record { either = inr (f.heard (search rules)) };
      heard = λ h. record { either = inl (f.heard (search rules)) };
      within = λ first reads h. f.within (search rules) first reads
          (within_kept g.R.Inlet reads first _ c.loop-refusal.self c.take_by.new.self t.reads t.ended (i.within first reads h));
      sought = sought g at c.refill.new.reader f.once f.grew f.one_piece;
      grew = on_more g.R.Inlet _ _ _ i.grew f.grew;
      reads = λ catalog limits first given es h. tells_refilled g.V.Visitor.takes g.R.Inlet g.I.Items catalog limits first _ _ c.take_by.new.self
          c.refill.new.self given es _ _ f.refills (told_on g at catalog limits first given es h);
    }
