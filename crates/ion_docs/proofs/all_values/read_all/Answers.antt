use Rattle.std.proofs.Common.{rules, ◌≡◌}
use Rattle.ion_docs.proofs.all_values.read_all.Goals as goal

pub returns-in-Ok-clause-stream : goal.returns-in-Ok-clause-stream
returns-in-Ok-clause-stream c =
    let under : c.in-Ok.items.walk.catalog.now ≡ c.args.catalog.now = search rules in
    let within : c.in-Ok.items.walk.limits ≡ c.args.limits = search rules in
    rw (under, within) at c.read_octets.ensures.stream

pub returns-in-Ok-clause-refused : goal.returns-in-Ok-clause-refused
returns-in-Ok-clause-refused c =
    let under : c.in-Ok.items.walk.catalog.now ≡ c.args.catalog.now = search rules in
    let within : c.in-Ok.items.walk.limits ≡ c.args.limits = search rules in
    rw (under, within) at c.read_octets.ensures.refused
