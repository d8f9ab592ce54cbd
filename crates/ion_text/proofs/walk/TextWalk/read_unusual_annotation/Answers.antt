use Rattle.std.proofs.Common.{Ok, ap, sym, ◌∙◌}
use Rattle.ion_text.specs.Names.{payload_of}
use Rattle.ion_model.specs.declared.value.Payload.TheVariants as payloads
use Rattle.ion_text.proofs.SaidThere.{begins_waits}
use Rattle.ion_text.proofs.walk.TextWalk.read_unusual_annotation.Goals as goal

pub read_known_annotation-requires-clause-there : goal.read_known_annotation-requires-clause-there
read_known_annotation-requires-clause-there g c =
    let b = begins_waits c.args.self.now.context c.args.here c.args.rest.now c.args.octets.now c.args.token (payload_of c.args.said.now) c.requires.token in
    record {
      held = b.0;
      there = b.1;
      is = b.2 ∙ (ap (λ p. Ok (payload_of p)) c.in-Symbol.is ∙ ap (λ s. Ok (payloads.Symbol s)) (sym c.in_ok-symbol.ensures));
    }
