use Rattle.std.proofs.Common.{rules, arith, ◌≡◌, ◌++◌, None}
use Rattle.ion_text_writer.specs.Names.{KeptPayload, front, kept_symbol, symbol_text}
use Rattle.ion_model.specs.declared.value.Payload.TheVariants as payloads
use Rattle.ion_text_writer.proofs.Transcribed.{unknown_level}
use Rattle.ion_text_writer.proofs.text_out.TextOutVisitor.unknown_symbol.Goals as goal

pub returns : goal.returns
returns c =
    let kept : KeptPayload (payloads.Symbol None) = kept_symbol None tt in
    let put : c.self-2.inside.octets.items ≡ front c.args.self.now ++ symbol_text None = search rules in
    grind (arith, unknown_level)
