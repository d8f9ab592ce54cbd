use Rattle.std.proofs.Common.{ℕ, ◌-◌, ◌≤◌, ◌++◌, refl, arith, length-take, length-drop}
use Rattle.ion_streams.specs.Names.{format_of, left_of}
use Rattle.ion_streams.proofs.Endings.{refused_early}
use Rattle.ion_streams.proofs.Pieces.{begins_drop}
use Rattle.ion_streams.proofs.Telling.{went_by}
use Rattle.ion_streams.proofs.piece_reader.PieceReader.take_by.Goals as goal

pub returns-in-Err-clause-refuses : goal.returns-in-Err-clause-refuses
returns-in-Err-clause-refuses g c = λ other u given es h more.
    let catalog = g.I.Items.catalog c.args.self.now.items in
    let limits = g.I.Items.limits c.args.self.now.items in
    let w = u ++ left_of c.args.self.now in
    let a = rw c.deref.ensures.value at (c.in-Err.ensures.answers u given es h other) in
    refused_early (format_of g.I.Items catalog limits) (g.met.I.Items.reasons catalog limits) w more given c.in-Err.refusal a.0 a.1
    (g.met.I.Items.refused catalog limits w c.in-Err.refusal a.1) (g.met.I.Items.settled catalog limits w more)

pub returns-in-Ok-clause-tells : goal.returns-in-Ok-clause-tells
returns-in-Ok-clause-tells g c = λ u given es h.
    let used = c.in-Ok.ensures.leaves.used in
    let fits : c.in-Ok.walked.used ≤ c.args.self.now.end - c.args.self.now.at = omega (arith, used, length-take {A = ℕ}, length-drop {A = ℕ}) in
    let total = (g.met.I.Items.has_told c.args.self.now.items u given es h).counted in
    let counted = c.requires.counted in
    went_by g.V.Visitor.takes g.I.Items u given es c.args.self.now.piece.items c.args.self.now.at c.args.self.now.end c.in-Ok.walked.used _
    c.in-Ok.walked.ended _ _ fits refl
    (omega (arith, total, counted)) (rw c.deref.ensures.value at (c.in-Ok.ensures.tells u given es h))

pub returns-in-Ok-clause-ready : goal.returns-in-Ok-clause-ready
returns-in-Ok-clause-ready g c =
    let ready = c.requires in
    let used = c.in-Ok.ensures.leaves.used in
    let taken = c.in-Ok.ensures.leaves.counts in
    let fits : c.in-Ok.walked.used ≤ c.args.self.now.end - c.args.self.now.at = omega (arith, used, length-take {A = ℕ}, length-drop {A = ℕ}) in
    record {
      within = omega (arith, fits, ready.within);
      fits = ready.fits;
      piece = ready.piece;
      room = omega (arith, ready.room, ready.within, fits, taken);
      begins = begins_drop (g.I.Items.awaits c.walk.new.self) c.args.self.now.piece.items c.args.self.now.at c.args.self.now.end c.in-Ok.walked.used
          fits
          (rw c.deref.ensures.value at c.in-Ok.ensures.leaves.awaited);
      counted = omega (arith, ready.counted, taken);
    }
