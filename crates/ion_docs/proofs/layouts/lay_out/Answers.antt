use Rattle.std.proofs.Common.{rules, ◌≡◌}
use Rattle.ion_docs.proofs.layouts.lay_out.Goals as goal

pub returns-clause-laid : goal.returns-clause-laid
returns-clause-laid g c = rw (← c.unread-items.ensures.catalog, ← c.unread-items.ensures.limits) c.lay_out_items.ensures.laid

pub returns-clause-at_once : goal.returns-clause-at_once
returns-clause-at_once g c = rw (← c.unread-items.ensures.catalog, ← c.unread-items.ensures.limits) c.lay_out_items.ensures.at_once

pub returns-clause-cause : goal.returns-clause-cause
returns-clause-cause g c =
    let asked : c.reads-reads.result ≡ c.args.limits.reads = search rules in
    rw asked at c.lay_out_items.ensures.cause
