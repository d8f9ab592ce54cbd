use Rattle.std.proofs.Common.{ℕ, ◌+◌, ◌-◌, ◌≤◌, ◌++◌, length, refl, arith, length-take, length-drop}
use Rattle.ion_streams.specs.Names.{format_of, left_of}
use Rattle.ion_streams.proofs.Endings.{refused_early}
use Rattle.ion_streams.proofs.Pieces.{begins_drop, went}
use Rattle.ion_streams.proofs.Unfailed.{none_failed, none_there}
use Rattle.ion_streams.proofs.piece_reader.PieceReader.take.Goals as goal

pub returns-in-Err-clause-refuses : goal.returns-in-Err-clause-refuses
returns-in-Err-clause-refuses g c = λ other u given h more.
    let catalog = g.I.Items.catalog c.args.self.now.items in
    let limits = g.I.Items.limits c.args.self.now.items in
    let w = u ++ left_of c.args.self.now in
    let a = rw c.deref.ensures.value at (c.in-Err.ensures.answers u given h other) in
    refused_early (format_of g.I.Items catalog limits) (g.met.I.Items.reasons catalog limits) w more given c.in-Err.refusal a.0 a.1
    (g.met.I.Items.refused catalog limits w c.in-Err.refusal a.1) (g.met.I.Items.settled catalog limits w more)

pub returns-in-Ok-clause-gives : goal.returns-in-Ok-clause-gives
returns-in-Ok-clause-gives g c = λ u given h.
    let used = c.in-Ok.ensures.leaves.used in
    let fits : c.in-Ok.step.used ≤ c.args.self.now.end - c.args.self.now.at = omega (arith, used, length-take {A = ℕ}, length-drop {A = ℕ}) in
    let total = g.met.I.Items.counted c.args.self.now.items u given h in
    let counted = c.requires.counted in
    let stood = rw c.deref.ensures.value at (c.in-Ok.ensures.stands u given h) in
    went g.I.Items u given c.args.self.now.piece.items c.args.self.now.at c.args.self.now.end c.in-Ok.step.used (length u + c.in-Ok.step.used) _
    c.in-Ok.step.value fits refl (omega (arith, total, counted)) stood

pub returns-in-Ok-clause-ready : goal.returns-in-Ok-clause-ready
returns-in-Ok-clause-ready g c =
    let ready = c.requires in
    let used = c.in-Ok.ensures.leaves.used in
    let taken = c.in-Ok.ensures.leaves.counts in
    let fits : c.in-Ok.step.used ≤ c.args.self.now.end - c.args.self.now.at = omega (arith, used, length-take {A = ℕ}, length-drop {A = ℕ}) in
    record {
      within = omega (arith, fits, ready.within);
      fits = ready.fits;
      piece = ready.piece;
      room = omega (arith, ready.room, ready.within, fits, taken);
      begins = begins_drop (g.I.Items.awaits c.step.new.self) c.args.self.now.piece.items c.args.self.now.at c.args.self.now.end c.in-Ok.step.used fits
          (rw c.deref.ensures.value at c.in-Ok.ensures.leaves.awaited);
      counted = omega (arith, ready.counted, taken);
    }

pub returns-in-Ok-clause-nothing : goal.returns-in-Ok-clause-nothing
returns-in-Ok-clause-nothing g c = λ asks.
    let used = c.in-Ok.ensures.leaves.used in
    let fits : c.in-Ok.step.used ≤ c.args.self.now.end - c.args.self.now.at = omega (arith, used, length-take {A = ℕ}, length-drop {A = ℕ}) in
    none_there c.in-Ok.step.value (λ some. let less = c.in-Ok.ensures.leaves.progress some in let owes = asks.owes in let used_up = asks.used_up in
    absurd (omega (arith, less, owes, used_up, fits)))

pub returns-in-Err-clause-none_refused : goal.returns-in-Err-clause-none_refused
returns-in-Err-clause-none_refused g c = λ other asks.
    let within = c.in-Err.ensures.refuses.within other (none_failed (g.I.Items.failed c.args.self.now.items) asks.not_failed) in
    let used_up = asks.used_up in
    let from = within.0 in
    let to = within.1 in
    absurd (omega (arith, from, to, used_up, length-take {A = ℕ}, length-drop {A = ℕ}))
