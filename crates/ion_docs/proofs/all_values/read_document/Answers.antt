use Rattle.ion_docs.proofs.all_values.read_document.Goals as goal

pub returns-clause-stream : goal.returns-clause-stream
returns-clause-stream g c = rw (← c.unread-items.ensures.catalog, ← c.unread-items.ensures.limits) c.read_items.ensures.stream

pub returns-clause-at_once : goal.returns-clause-at_once
returns-clause-at_once g c = rw (← c.unread-items.ensures.catalog, ← c.unread-items.ensures.limits) c.read_items.ensures.at_once
