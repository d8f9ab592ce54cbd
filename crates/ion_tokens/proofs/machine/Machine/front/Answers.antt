use Rattle.std.proofs.Common.{take}
use Rattle.ion_tokens.specs.Names.{goes_on}
use Rattle.ion_tokens.proofs.runs.WholeTokens.{front_each, front_within}
use Rattle.ion_tokens.proofs.texts.Characters.{each_over}
use Rattle.ion_tokens.proofs.machine.Machine.front.Goals as goal

pub returns-in_default-2 : goal.returns-in_default-2
returns-in_default-2 c =
    let mode = c.args.self.now.mode in
    let piece = c.args.piece.now in
    let count = c.each_front-count.result in
    let is = c.each_front-count.ensures in
    record { within = front_within (goes_on mode) piece count is; over = each_over mode (take count piece) (front_each (goes_on mode) piece count is) }
