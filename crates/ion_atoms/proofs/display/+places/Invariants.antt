use Rattle.ion_atoms.proofs.display.+places.Given as goal

abbrev pub decreases-places : goal.decreases-places
decreases-places g l = l.digits
