use Rattle.std.proofs.Common.{map, string_bytes}
use Rattle.ion_run.specs.Names.{Opens}
use Rattle.ion_run.proofs.Owing.{Opens-none, owes_words, owes_no_words}
use Rattle.ion_run.proofs.arguments.run_arguments.Goals as goal

pub returns-in-Ok : goal.returns-in-Ok
returns-in-Ok g c =
    owes_words g.N.Input.Inlet (g.N.Sources.gives c.args.sources.now) (g.N.Sources.refuses c.args.sources.now)
    (Opens (g.N.Sources.opened c.args.sources.now) (g.N.Sources.opened c.run_with_hasher.new.sources)) _ _ g.O.Outlet g.E.Outlet c.args.arguments
    (map string_bytes c.in-Ok.words.items)
    c.args.out.now c.run_with_hasher.new.out c.args.err.now c.run_with_hasher.new.err c.run_with_hasher.result c.in-Ok.ensures.words
    (rw c.as_slice.ensures.value at c.run_with_hasher.ensures.owes)

pub returns-in-Err : goal.returns-in-Err
returns-in-Err g c =
    rw c.code.ensures (owes_no_words g.N.Input.Inlet (g.N.Sources.gives c.args.sources.now) (g.N.Sources.refuses c.args.sources.now)
    (Opens (g.N.Sources.opened c.args.sources.now) (g.N.Sources.opened c.args.sources.now)) _ _ g.O.Outlet g.E.Outlet (Opens-none _) c.args.arguments
    c.in-Err.error
    c.args.out.now c.args.err.now c.refuse_words.new.err c.refuse_words.result c.in-Err.ensures.error c.refuse_words.ensures.usage
    c.refuse_words.ensures.memory)
