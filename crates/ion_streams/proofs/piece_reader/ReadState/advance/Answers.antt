use Rattle.std.proofs.Common.{true}
use Rattle.ion_streams.specs.Names.{Reads, ReadsEach, left_of}
use Rattle.ion_streams.proofs.Passes.{gave_last, ok_by}
use Rattle.ion_streams.proofs.Steps.{gave_so_far, last_gives, last_refused, on_err}
use Rattle.ion_streams.proofs.piece_reader.ReadState.advance.Goals as goal

pub returns-in-Ok-Value-clause-gives : goal.returns-in-Ok-Value-clause-gives
returns-in-Ok-Value-clause-gives g c = λ catalog limits first given h.
    let read : ReadsEach g.R.Inlet g.I.Items catalog limits first c.args.reader.now c.in-Open.source given = rw c.in-Open.is at h in
    let gave = rw c.in-Ok-Value.field-0-is at (c.in-Ok-Value.ensures.gives catalog limits first given read) in
    (gave, tt)

pub returns-in-Ok-End-clause-gives : goal.returns-in-Ok-End-clause-gives
returns-in-Ok-End-clause-gives g c =
    ok_by c.close.result _ _ (λ found ends. λ catalog limits first given h.
    let read : ReadsEach g.R.Inlet g.I.Items catalog limits first c.args.reader.now c.in-Open.source given = rw c.in-Open.is at h in
    let end = rw c.in-Ok-End.field-0-is at (c.in-Ok-End.ensures.gives catalog limits first given read) in
    gave_last g.R.Inlet g.I.Items catalog limits first c.read_on.new.reader c.close.new.self given found
    (last_refused g.R.Inlet g.I.Items catalog limits end.u c.read_on.new.self given c.close.new.self found (ends end.u given end.stood))
    (last_gives g.R.Inlet g.I.Items catalog limits first c.read_on.new.reader c.read_on.new.self given c.close.new.self found
    (rw c.in-Ok-End.field-0-is at c.in-Ok-End.ensures.ended).empty end (ends end.u given end.stood))) c.close.ensures.ends

pub returns-in-Ok-End-clause-kept : goal.returns-in-Ok-End-clause-kept
returns-in-Ok-End-clause-kept g c =
    on_err c.close.result _ (λ catalog limits first s h.
    let read : Reads g.R.Inlet g.I.Items catalog limits first c.args.reader.now c.in-Open.source s = rw c.in-Open.is at h in
    gave_so_far g.R.Inlet g.I.Items catalog limits first c.read_on.new.reader c.read_on.new.self.items (left_of c.read_on.new.self) true read.given s
    read.values
    (rw c.in-Ok-End.field-0-is at (c.in-Ok-End.ensures.gives catalog limits first read.given read.each)))
