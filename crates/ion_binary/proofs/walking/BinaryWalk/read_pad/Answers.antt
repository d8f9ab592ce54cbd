use Rattle.std.proofs.Common.{◌+◌, ◌-◌, refl, arith}
use Rattle.ion_binary.specs.Names.{InPad, spot_of}
use Rattle.ion_binary.proofs.Beginning.{stays}
use Rattle.ion_binary.proofs.Insides.{pad_led}
use Rattle.ion_binary.proofs.walking.BinaryWalk.read_pad.Goals as goal

pub returns-clause-led : goal.returns-clause-led
returns-clause-led c = λ fs h.
    let r = c.args.self.now in
    let k = c.min-skipped.result in
    let new = record r { used = r.used + k; phase = InPad (c.args.missing - k) } in (
      pad_led r.catalog.now r.limits (spot_of r) fs r.body c.args.missing k r.phase c.args.piece.now c.requires.phase
          (omega (arith, c.min-skipped.ensures)) (omega (arith, c.min-skipped.ensures)),
      stays r new fs refl refl refl tt h,
    )
