use Rattle.ion_c.proofs.pureefjord_to_text.Goals as goal

pub returns : goal.returns
returns c = (_, (_, c.converted_by-outcome.ensures, c.tell_whole.ensures.told, c.tell_whole.ensures.status), c.tell_whole.ensures.text)
