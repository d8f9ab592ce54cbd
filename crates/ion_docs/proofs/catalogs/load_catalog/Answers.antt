use Rattle.std.proofs.Common.{rules, ◌≡◌, []}
use Rattle.ion_docs.proofs.catalogs.load_catalog.Goals as goal

pub returns-clause-loaded : goal.returns-clause-loaded
returns-clause-loaded g c =
    let under : c.unread-items.result.walk.catalog.now ≡ [] = search rules in
    rw (under, c.unread-items.ensures.limits) at c.load_items.ensures.loaded

pub returns-clause-at_once : goal.returns-clause-at_once
returns-clause-at_once g c =
    let under : c.unread-items.result.walk.catalog.now ≡ [] = search rules in
    rw (under, c.unread-items.ensures.limits) at c.load_items.ensures.at_once
