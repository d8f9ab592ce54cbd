use Rattle.std.proofs.Common.{sym, ap, ◌∙◌, true, false}
use Rattle.ion_tokens.specs.Names.{run}
use Rattle.ion_tokens.proofs.runs.EndsShown.{found_if}
use Rattle.ion_tokens.proofs.machine.Machine.find.Goals as goal

pub returns-in-Ok-Given : goal.returns-in-Ok-Given
returns-in-Ok-Given c =
    let e = rw c.in-Ok-Given.field-0-is at c.in-Ok-Given.ensures.does in
    found_if c.args.place c.args.rest c.args.octets.now c.run.new.self c.in-Ok-Given.lexeme false c.found.result
    (sym (ap (λ s. run c.args.place c.args.octets.now s) c.rest.ensures) ∙ sym e) c.found.ensures.some c.found.ensures.known c.found.ensures.lexeme
    c.found.ensures.left

pub returns-in-Ok-Left : goal.returns-in-Ok-Left
returns-in-Ok-Left c =
    let e = rw c.in-Ok-Left.field-0-is at c.in-Ok-Left.ensures.does in
    found_if c.args.place c.args.rest c.args.octets.now c.run.new.self c.in-Ok-Left.lexeme true c.found-in-Ok-Left.result
    (sym (ap (λ s. run c.args.place c.args.octets.now s) c.rest.ensures) ∙ sym e) c.found-in-Ok-Left.ensures.some c.found-in-Ok-Left.ensures.known
    c.found-in-Ok-Left.ensures.lexeme c.found-in-Ok-Left.ensures.left
