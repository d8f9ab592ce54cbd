use Rattle.ion_c.proofs.pureefjord_events.Goals as goal

pub returns : goal.returns
returns c = (_, (_, c.laid_out-outcome.ensures, c.tell_whole.ensures.told, c.tell_whole.ensures.status), c.tell_whole.ensures.text)
