use Rattle.ion_c.proofs.pureefjord_check.Goals as goal

pub returns : goal.returns
returns c = (_, (_, c.checked-outcome.ensures, c.tell.ensures.told, c.tell.ensures.status))
