use Rattle.ion_binary.specs.Names.{told}
use Rattle.ion_binary.proofs.Tellings.{does_alone}
use Rattle.ion_binary.proofs.walking.BinaryWalk.on_descriptor.Goals as goal

pub returns-in-Marker-clause-does : goal.returns-in-Marker-clause-does
returns-in-Marker-clause-does g c = λ fs h. rw c.in-Marker.is
    (does_alone g.V.Visitor.takes (told fs) _ c.marks.result c.marks.new.self c.args.visitor.now (c.marks.ensures.does fs h))

pub returns-in-Null-clause-does : goal.returns-in-Null-clause-does
returns-in-Null-clause-does g c = λ fs h. rw c.in-Null.is (c.one_octet.ensures.does fs h)

pub returns-in-Truth-clause-does : goal.returns-in-Truth-clause-does
returns-in-Truth-clause-does g c = λ fs h. rw c.in-Truth.is (c.one_octet-in-Truth.ensures.does fs h)

pub returns-in-Sized-default-Follows-clause-does : goal.returns-in-Sized-default-Follows-clause-does
returns-in-Sized-default-Follows-clause-does g c = λ fs h.
    let follows = rw c.in-Sized-default-Follows.is at c.in-Sized-default-Follows.field-1-is in
    rw (c.in-Sized-default-Follows.is, follows)
    (does_alone g.V.Visitor.takes (told fs) _ c.length_follows.result c.length_follows.new.self c.args.visitor.now (c.length_follows.ensures.does fs h))
