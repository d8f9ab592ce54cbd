use Rattle.std.proofs.Common.{refl, subst}
use Rattle.ion_binary.specs.Names.{Bracket, Container, Ready, Tells, bracket_of, closes, listed}
use Rattle.ion_binary.specs.machine.Frames as frames
use Rattle.ion_binary.proofs.Ending.{container_ends, container_goes, is_at, isnt_at, pushed}
use Rattle.ion_binary.proofs.Tellings.{items_told}
use Rattle.ion_binary.proofs.walking.BinaryWalk.close_items.Goals as goal

pub returns-then-self-end-clause-does : goal.returns-then-self-end-clause-does
returns-then-self-end-clause-does g c = λ fs vs same around was.
    let r = c.args.self.now in
    let end = c.args.end in
    let x = c.args.listing in
    container_ends g.V.Visitor.takes r end fs same around (frames.Items end x vs) (listed x vs) Ready refl was (record r { filter = c.close.new.self })
    (bracket_of x) c.args.visitor.now c.close.new.visitor (is_at r.used end c.if-self-end.true) refl refl refl (items_told end x fs vs)
    (subst (λ (b : Bracket). Tells g.V.Visitor.takes (closes b) r.filter c.close.new.self c.args.visitor.now c.close.new.visitor)
    c.bracket_of-bracket.ensures (c.close.ensures c.in_ok-heard.ensures.ok))

pub returns-clause-does : goal.returns-clause-does
returns-clause-does g c = λ fs vs same around was.
    let r = c.args.self.now in
    let end = c.args.end in
    let x = c.args.listing in
    container_goes g.V.Visitor.takes r end fs same around (frames.Items end x vs) (listed x vs) Ready refl was
    (record r { phase = Ready; frames = c.push.new.self }) c.args.visitor.now (isnt_at r.used end c.if-self-end.false) refl
    (pushed r.frames.items c.push.new.self.items (Container.Items end x) c.in_ok-push.ensures.items) around tt tt refl
