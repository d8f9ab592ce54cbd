use Rattle.std.proofs.Common.{◌≡◌, ℕ, ◌+◌, ◌≤◌, List, length, inl, inr, rules, arith, Some}
use Rattle.std.proofs.lemmas.Result.{err_from_is_err_and}
use Rattle.ion_streams.specs.Names.{AskedWhile, Catalog, HandedOn, Limits, ReadsEach, Value, format_of}
use Rattle.ion_streams.proofs.Passes.{none_went}
use Rattle.ion_streams.proofs.Steps.{gave_so_far, kept_so_far, on_err, reads_failed, reads_none, reads_refilled, reads_went, within_kept}
use Rattle.ion_streams.proofs.Turns.{asked_next, one_piece}
use Rattle.ion_streams.proofs.piece_reader.PieceReader.read_on.Given.{Over}
use Rattle.ion_streams.proofs.piece_reader.PieceReader.read_on.Goals.{In-Ok-None}
use Rattle.ion_streams.proofs.piece_reader.PieceReader.read_on.Goals as goal

-- octets were used and gave no value
none_given : (g : Over) (c : In-Ok-None g) (catalog : Catalog) (limits : Limits) (first : g.row.R.Denot) (given : List (Value × ℕ))
    → ReadsEach g.R.Inlet g.I.Items catalog limits first c.args.reader.now c.args.self.now given
    → ReadsEach g.R.Inlet g.I.Items catalog limits first c.loop-refusal.reader c.take.new.self given
none_given g c catalog limits first given h =
    let t = c.in-Ok-None.ensures in
    reads_none g.R.Inlet g.I.Items catalog limits first _ c.loop-refusal.self c.take.new.self given
    (c.loop-refusal.invariant.reads catalog limits first given h)
    (none_went g.I.Items c.loop-refusal.self c.take.new.self _ c.in-Ok-None.field-0-is t.gives) t.catalog t.limits t.ended

-- then the device was asked for the next
sought : (g : Over) (c : In-Ok-None g) (now : g.row.R.Denot) → g.R.Inlet.calls_made now ≤ g.R.Inlet.calls_made c.loop-refusal.reader + 1
    → HandedOn g.R.Inlet c.loop-refusal.reader now → length (g.R.Inlet.handed now) ≤ length (g.R.Inlet.handed c.loop-refusal.reader) + 4096
    → (catalog : Catalog) (limits : Limits) (first : g.row.R.Denot) (given : List (Value × ℕ))
    → ReadsEach g.R.Inlet g.I.Items catalog limits first c.args.reader.now c.args.self.now given
    → AskedWhile g.R.Inlet (format_of g.I.Items catalog limits) first c.args.reader.now now (λ before. before ≡ given)
sought g c now once grew few catalog limits first given h =
    let t = c.in-Ok-None.ensures in
    inr (asked_next g.I.Items catalog limits (g.met.I.Items.settled catalog limits) g.met.I.Items.given_so_far g.met.I.Items.not_refused g.R.Inlet first _ now
    c.take.new.self given (none_given g c catalog limits first given h) t.ready (t.all c.in-Ok-None.field-0-is) once (one_piece g.R.Inlet _ _ grew few))

pub returns-in-Err-Memory-clause-kept : goal.returns-in-Err-Memory-clause-kept
returns-in-Err-Memory-clause-kept g c = λ catalog limits first s h.
    gave_so_far g.R.Inlet g.I.Items catalog limits first _ _ _ _ _ s h.values (c.loop-refusal.invariant.reads catalog limits first h.given h.each)

pub returns-in-Err-clause-gives : goal.returns-in-Err-clause-gives
returns-in-Err-clause-gives g c = λ catalog limits first given h.
    let r = c.loop-refusal.invariant.reads catalog limits first given h in
    reads_failed g.R.Inlet g.I.Items catalog limits first _ c.loop-refusal.self given c.in-Err.refusal r
    (rw (r.under, r.within) at (c.in-Err.ensures.refuses (search rules)))

pub returns-in-Ok-Some-clause-gives : goal.returns-in-Ok-Some-clause-gives
returns-in-Ok-Some-clause-gives g c = λ catalog limits first given h.
    let t = c.in-Ok-Some.ensures in
    reads_went g.R.Inlet g.I.Items catalog limits first _ c.loop-refusal.self c.take.new.self given (Some c.in-Ok-Some.found)
    (c.loop-refusal.invariant.reads catalog limits first given h) (rw c.in-Ok-Some.field-0-is at t.gives) t.catalog t.limits t.ended

pub returns-in_err-refill-clause-cause : goal.returns-in_err-refill-clause-cause
returns-in_err-refill-clause-cause g c =
    let p = err_from_is_err_and c.from_residual.result c.from_residual.ensures.1 in
    let t = c.in-Ok-None.ensures in
    rw (p.1, p.2) (λ first reads h.
    c.in_err-refill.ensures.cause first reads (within_kept g.R.Inlet reads first _ c.loop-refusal.self c.take.new.self t.reads t.ended
    (c.loop-refusal.invariant.within first reads h)))

pub returns-in_err-refill-clause-kept : goal.returns-in_err-refill-clause-kept
returns-in_err-refill-clause-kept g c = on_err c.from_residual.result _ (λ catalog limits first s h.
    let each = none_given g (goal.at.returns-in_err-refill-clause-kept g c).In-Ok-None catalog limits first h.given h.each in
    kept_so_far g.R.Inlet g.I.Items catalog limits first c.loop-refusal.reader c.refill.new.reader c.take.new.self s
    (record { given = h.given; each = each; values = h.values }) c.in_err-refill.ensures.kept.0 c.in_err-refill.ensures.kept.1)

pub returns-in_err-refill-clause-sought : goal.returns-in_err-refill-clause-sought
returns-in_err-refill-clause-sought g c =
    sought g (goal.at.returns-in_err-refill-clause-sought g c).In-Ok-None c.refill.new.reader c.in_err-refill.ensures.once c.in_err-refill.ensures.grew
    c.in_err-refill.ensures.one_piece

pub loop-refusal-preserved : goal.loop-refusal-preserved
loop-refusal-preserved g c =
    let at = (goal.at.loop-refusal-preserved g c).In-Ok-None in
    let i = c.loop-refusal.invariant in
    let t = c.in-Ok-None.ensures in
    let f = c.in_ok-refill.ensures in
    record {
      ready = f.ready (search rules);
      less = omega (arith, i.less, t.pending, f.less (search rules));
      asked = omega (arith, i.asked, t.reads, f.few_calls);
      handed = omega (arith, i.handed, t.reads, f.few_octets);
      unasked = record { either = inr (f.heard (search rules)) };
      heard = λ h. record { either = inl (f.heard (search rules)) };
      within = λ first reads h. f.within (search rules) first reads
          (within_kept g.R.Inlet reads first _ c.loop-refusal.self c.take.new.self t.reads t.ended (i.within first reads h));
      sought = sought g at c.refill.new.reader f.once f.grew f.one_piece;
      reads = λ catalog limits first given h. reads_refilled g.R.Inlet g.I.Items catalog limits first _ _ c.take.new.self c.refill.new.self given f.refills
          (none_given g at catalog limits first given h);
    }

pub returns-then-not-branch-clause-gives : goal.returns-then-not-branch-clause-gives
returns-then-not-branch-clause-gives g c = λ catalog limits first given h.
    let f = c.in_ok-refill.ensures in
    rw (f.ended (search rules)) at (reads_refilled g.R.Inlet g.I.Items catalog limits first _ _ c.take.new.self c.refill.new.self given f.refills
    (none_given g (goal.at.returns-then-not-branch-clause-gives g c).In-Ok-None catalog limits first given h))

pub returns-then-not-branch-clause-sought : goal.returns-then-not-branch-clause-sought
returns-then-not-branch-clause-sought g c =
    sought g (goal.at.returns-then-not-branch-clause-sought g c).In-Ok-None c.refill.new.reader c.in_ok-refill.ensures.once c.in_ok-refill.ensures.grew
    c.in_ok-refill.ensures.one_piece
