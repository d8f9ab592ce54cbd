use Rattle.ion_binary.proofs.walking.BinaryWalk.begin.Goals as goal

pub returns-in-Pad-clause-does : goal.returns-in-Pad-clause-does
returns-in-Pad-clause-does g c = λ fs h may. rw c.in-Pad.is (c.on_pad.ensures.does fs h)

pub returns-in-Scalar-clause-does : goal.returns-in-Scalar-clause-does
returns-in-Scalar-clause-does g c = λ fs h may. rw c.in-Scalar.is (c.begin_scalar.ensures.does fs h (rw c.in-Scalar.is at may))

pub returns-in-ListOrSexp-clause-does : goal.returns-in-ListOrSexp-clause-does
returns-in-ListOrSexp-clause-does g c = λ fs h may. rw c.in-ListOrSexp.is (c.begin_listing.ensures.does fs h (rw c.in-ListOrSexp.is at may))

pub returns-in-Wrapper-clause-does : goal.returns-in-Wrapper-clause-does
returns-in-Wrapper-clause-does g c = λ fs h may.
    let both = rw c.in-Wrapper.is at may in rw c.in-Wrapper.is (c.begin_wrapper.ensures.does fs h both.0 both.1)
