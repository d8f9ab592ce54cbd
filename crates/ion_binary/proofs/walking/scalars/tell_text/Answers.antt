use Rattle.ion_binary.specs.Names.{Part}
use Rattle.ion_model.specs.declared.value.Payload.TheVariants as payloads
use Rattle.ion_binary.proofs.Judged.{on_ok, part_leaf}
use Rattle.ion_binary.proofs.walking.scalars.tell_text.Goals as goal

pub returns-clause-told : goal.returns-clause-told
returns-clause-told g c = on_ok c.heard.result c.heard.ensures.ok (λ w. (payloads.Str c.in_ok-text.text.now, c.in_ok-text.ensures, part_leaf (Part.Str c.in_ok-text.text), c.part.ensures w))
