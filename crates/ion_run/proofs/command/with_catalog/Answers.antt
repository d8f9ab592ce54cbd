use Rattle.std.proofs.Common.{refl}
use Rattle.std.proofs.lemmas.Result.{on_err_weaker}
use Rattle.ion_run.proofs.Writes.{ok_both, err_both}
use Rattle.ion_symtab.specs.laws.Took.{Took-nil}
use Rattle.ion_words.specs.Asked.{told}
use Rattle.ion_run.specs.Owed.{no_catalog}
use Rattle.ion_run.proofs.Owing.{answered_behind, stopped_behind, front_behind}
use Rattle.ion_run.proofs.command.with_catalog.Goals as goal

pub returns-in-Ok-clause-answered : goal.returns-in-Ok-clause-answered
returns-in-Ok-clause-answered g c =
    let catalog = rw c.in-Ok.is at c.in_ok-catalog.ensures.catalog in
    let o = g.N.Sources.opened in
    ok_both c.ending_of.result (λ ending done opened. answered_behind g.N.Input.Inlet g.N.Sources.gives g.N.Sources.refuses g.O.Outlet (told c.args.request.now)
    c.args.request.now.limits c.args.sources.now c.catalog_of.new.sources
    c.in_ok-catalog.ensures.kept c.requires.input_once c.in-Ok.catalog catalog
    (o c.args.sources.now) (o c.catalog_of.new.sources) (o c.ending_of.new.sources) c.in_ok-catalog.ensures.opened opened c.args.out.now c.ending_of.new.out
    ending done) c.ending_of.ensures.done c.ending_of.ensures.opened

pub returns-in-Ok-clause-stopped : goal.returns-in-Ok-clause-stopped
returns-in-Ok-clause-stopped g c =
    let catalog = rw c.in-Ok.is at c.in_ok-catalog.ensures.catalog in
    let o = g.N.Sources.opened in
    err_both c.ending_of.result (λ fault why opened. stopped_behind g.N.Input.Inlet g.N.Sources.gives g.N.Sources.refuses _ _ (told c.args.request.now)
    c.args.request.now.limits c.args.sources.now
    (o c.args.sources.now) (o c.catalog_of.new.sources) (o c.ending_of.new.sources) c.catalog_of.new.sources
    c.in_ok-catalog.ensures.kept c.requires.input_once c.in-Ok.catalog catalog c.in_ok-catalog.ensures.opened (g.O.Outlet.has_failed c.ending_of.new.out) fault
    opened why) c.ending_of.ensures.stopped c.ending_of.ensures.opened_up_to

pub returns-in-Err-clause-answered : goal.returns-in-Err-clause-answered
returns-in-Err-clause-answered g c =
    no_catalog c.in-Err.refusal (rw c.in-Err.is at c.in_ok-catalog.ensures.catalog) refl (Took-nil g.O.Outlet.took g.O.Outlet.written c.args.out.now)
    c.in_ok-catalog.ensures.opened

pub returns-in-Ok-clause-so_far : goal.returns-in-Ok-clause-so_far
returns-in-Ok-clause-so_far g c =
    let catalog = rw c.in-Ok.is at c.in_ok-catalog.ensures.catalog in
    on_err_weaker c.ending_of.result (front_behind g.N.Input.Inlet g.N.Sources.gives g.N.Sources.refuses _ g.O.Outlet (told c.args.request.now)
    c.args.request.now.limits c.args.sources.now c.catalog_of.new.sources
    c.in_ok-catalog.ensures.kept c.requires.input_once c.in-Ok.catalog catalog c.args.out.now c.ending_of.new.out) c.ending_of.ensures.so_far
