use Rattle.std.proofs.Common.{refl}
use Rattle.ion_binary.specs.Names.{Bracket, Container, InNumber, Purpose}
use Rattle.ion_model.specs.declared.value.Payload.TheVariants as payloads
use Rattle.ion_binary.specs.machine.Frames as frames
use Rattle.ion_binary.proofs.Ending.{container_ends, container_goes, is_at, isnt_at, pushed}
use Rattle.ion_binary.proofs.Tellings.{fields_told}
use Rattle.ion_binary.proofs.walking.BinaryWalk.close_fields.Goals as goal

pub returns-then-self-end-clause-does : goal.returns-then-self-end-clause-does
returns-then-self-end-clause-does g c = λ fs ms same around was.
    let r = c.args.self.now in
    let end = c.args.end in
    container_ends g.V.Visitor.takes r end fs same around (frames.Fields end ms) (payloads.Fields ms) (InNumber Purpose.FieldName 0) refl was
    (record r { filter = c.close.new.self }) Bracket.Fields c.args.visitor.now c.close.new.visitor (is_at r.used end c.if-self-end.true) refl refl refl
    (fields_told end fs ms) (c.close.ensures c.in_ok-heard.ensures.ok)

pub returns-clause-does : goal.returns-clause-does
returns-clause-does g c = λ fs ms same around was.
    let r = c.args.self.now in
    let end = c.args.end in
    container_goes g.V.Visitor.takes r end fs same around (frames.Fields end ms) (payloads.Fields ms) (InNumber Purpose.FieldName 0) refl was
    (record r { phase = InNumber Purpose.FieldName 0; frames = c.push.new.self }) c.args.visitor.now (isnt_at r.used end c.if-self-end.false) refl
    (pushed r.frames.items c.push.new.self.items (Container.Fields end) c.in_ok-push.ensures.items) around tt tt refl
