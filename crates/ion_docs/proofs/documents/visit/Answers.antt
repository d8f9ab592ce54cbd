use Rattle.ion_docs.proofs.documents.visit.Goals as goal

pub returns-clause-verdict : goal.returns-clause-verdict
returns-clause-verdict g c = rw (← c.unread-items.ensures.catalog, ← c.unread-items.ensures.limits) c.visit_items.ensures.verdict

pub returns-clause-at_once : goal.returns-clause-at_once
returns-clause-at_once g c = rw (← c.unread-items.ensures.catalog, ← c.unread-items.ensures.limits) c.visit_items.ensures.at_once
