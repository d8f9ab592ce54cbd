use Rattle.ion_docs.proofs.documents.show.Goals as goal

pub returns-clause-shown : goal.returns-clause-shown
returns-clause-shown g c = rw (← c.unread-items.ensures.catalog, ← c.unread-items.ensures.limits) c.show_items.ensures.shown

pub returns-clause-at_once : goal.returns-clause-at_once
returns-clause-at_once g c = rw (← c.unread-items.ensures.catalog, ← c.unread-items.ensures.limits) c.show_items.ensures.at_once
