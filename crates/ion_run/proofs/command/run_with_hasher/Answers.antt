use Rattle.std.proofs.Common.{map}
use Rattle.ion_words.specs.Asked.{asked}
use Rattle.ion_run.specs.Names.{Opens}
use Rattle.ion_run.proofs.Owing.{Opens-none, owes_usage}
use Rattle.ion_run.proofs.command.run_with_hasher.Goals as goal

pub returns-in-Ok : goal.returns-in-Ok
returns-in-Ok g c = record { owes = rw (c.in-Ok.ensures.asked, c.code.ensures) c.answer.ensures }

pub returns-in-Err : goal.returns-in-Err
returns-in-Err g c = record {
  owes = rw c.code-in-Err.ensures (owes_usage g.N.Input.Inlet (g.N.Sources.gives c.args.sources.now) (g.N.Sources.refuses c.args.sources.now)
      (Opens (g.N.Sources.opened c.args.sources.now) (g.N.Sources.opened c.args.sources.now)) _ _ g.O.Outlet g.E.Outlet (Opens-none _)
      (asked (map g.S.AsStr.text c.args.words.now)) c.in-Err.error c.args.out.now c.args.err.now c.refuse_words.new.err c.refuse_words.result
      c.in-Err.ensures.asked c.refuse_words.ensures.usage c.refuse_words.ensures.memory);
}
