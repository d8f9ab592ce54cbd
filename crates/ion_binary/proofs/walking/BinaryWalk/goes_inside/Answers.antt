use Rattle.ion_binary.proofs.Ending.{isnt_at}
use Rattle.ion_binary.proofs.Staying.{items_proceed, fields_proceed}
use Rattle.ion_binary.proofs.walking.BinaryWalk.goes_inside.Goals as goal

pub returns-then-self-end-clause-does : goal.returns-then-self-end-clause-does
returns-then-self-end-clause-does c = λ yes.
    let r = c.args.self.now in
    items_proceed r c.in-Some.end (isnt_at r.used c.in-Some.end c.if-self-end.true) c.in-Some.ensures

pub returns-then-self-end-2-clause-does : goal.returns-then-self-end-2-clause-does
returns-then-self-end-2-clause-does c = λ yes.
    let r = c.args.self.now in
    let end = c.in-Some-fields_end.end in
    fields_proceed r end (isnt_at r.used end c.if-self-end-2.true) c.in-Some-fields_end.ensures
