use Rattle.ion_binary.proofs.Ending.{isnt_at}
use Rattle.ion_binary.proofs.Staying.{items_stay, named_stay}
use Rattle.ion_binary.proofs.walking.BinaryWalk.stays_open.Goals as goal

pub returns-then-self-end-clause-does : goal.returns-then-self-end-clause-does
returns-then-self-end-clause-does c = λ yes.
    let r = c.args.self.now in
    items_stay r c.in-Some.end (isnt_at r.used c.in-Some.end c.if-self-end.true) c.in-Some.ensures

pub returns-then-self-end-2-clause-does : goal.returns-then-self-end-2-clause-does
returns-then-self-end-2-clause-does c = λ yes.
    let r = c.args.self.now in
    let end = c.in-Some-named_end.end in
    named_stay r end (isnt_at r.used end c.if-self-end-2.true) c.put_innermost.new.self c.put_innermost.ensures.same c.put_innermost.ensures.there
    c.in-Some-named_end.ensures
