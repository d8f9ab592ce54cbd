use Rattle.ion_docs.proofs.documents.compare.Goals as goal

pub returns-clause-verdict : goal.returns-clause-verdict
returns-clause-verdict g c =
    rw (c.unread-left_items.ensures.catalog, c.unread-left_items.ensures.limits, c.unread-right_items.ensures.catalog, c.unread-right_items.ensures.limits)
    at c.compare_items.ensures.verdict

pub returns-clause-in_turn : goal.returns-clause-in_turn
returns-clause-in_turn g c =
    rw (c.unread-left_items.ensures.catalog, c.unread-left_items.ensures.limits, c.unread-right_items.ensures.catalog, c.unread-right_items.ensures.limits)
    at c.compare_items.ensures.in_turn

pub returns-clause-left_in_turn : goal.returns-clause-left_in_turn
returns-clause-left_in_turn g c =
    rw (c.unread-left_items.ensures.catalog, c.unread-left_items.ensures.limits, c.unread-right_items.ensures.catalog, c.unread-right_items.ensures.limits)
    at c.compare_items.ensures.left_in_turn

pub returns-clause-at_once : goal.returns-clause-at_once
returns-clause-at_once g c =
    rw (c.unread-left_items.ensures.catalog, c.unread-left_items.ensures.limits, c.unread-right_items.ensures.catalog, c.unread-right_items.ensures.limits)
    at c.compare_items.ensures.at_once
