use Rattle.ion_visiting.proofs.following.Following.finds.Goals as goal

pub returns : goal.returns
returns c = λ yes. record { from = _; to = _; begins = c.begin.ensures; led = c.goes_on.ensures yes }
