use Rattle.std.proofs.Common.{sym, ◌∙◌}
use Rattle.ion_tokens.proofs.runs.Behind.{front_blob}
use Rattle.ion_tokens.proofs.machine.Machine.follows.Goals as goal

pub returns-else-not-in_base64-clause-front : goal.returns-else-not-in_base64-clause-front
returns-else-not-in_base64-clause-front c =
    let decodes = c.stands.ensures c.requires in
    (decodes.0, decodes.1, sym (front_blob c.args.self.now.mode c.args.gone.now.octets decodes.0 (sym c.in_base64.ensures ∙ c.if-not-in_base64.false)))
