use Rattle.std.proofs.Common.{ℕ, List, [], Option, Result, Ok, Err, OnErr, OnOk}
use Rattle.ion_binary.specs.Names.{Took, TookFront, the_marker}
use Rattle.ion_symtab.specs.laws.Took.{Front-all, Took-kept}
use Rattle.ion_binary.proofs.writer.finish_document.Goals as goal

-- what is so whatever a call answers is so where it answers no fault
on_ok : {A E P : Type 0} (r : Result A E) → P → OnOk r P
on_ok (Ok x) p = p
on_ok (Err e) p = tt

-- and where it answers one
on_err : {A E P : Type 0} (r : Result A E) → P → OnErr r P
on_err (Ok x) p = tt
on_err (Err e) p = p

-- all was taken, and then nothing more
front_kept : {S A E : Type 0} (took : S → Option (List ℕ)) (written : S → List ℕ) (old mid new : S) (w : List ℕ) (r : Result A E)
    → Took took written old mid w → Took took written mid new [] → OnErr r (TookFront took written old new w)
front_kept took written old mid new w r all kept = on_err r (Front-all took written old mid new w all kept)

pub returns-clause-front : goal.returns-clause-front
returns-clause-front g c =
    rw c.if-begun.false (front_kept g.W.Outlet.took g.W.Outlet.written c.args.out.now c.write_whole.new.writer c.flushed-2.new.writer the_marker
    c.flushed-2.result c.in_ok-write_whole.ensures.whole c.flushed-2.ensures.kept)

pub returns-clause-ok : goal.returns-clause-ok
returns-clause-ok g c =
    rw c.if-begun.false (on_ok c.flushed-2.result (Took-kept g.W.Outlet.took g.W.Outlet.written c.args.out.now c.write_whole.new.writer
    c.flushed-2.new.writer the_marker c.in_ok-write_whole.ensures.whole c.flushed-2.ensures.kept))

pub returns-then-begun-clause-ok : goal.returns-then-begun-clause-ok
returns-then-begun-clause-ok g c = rw c.if-begun.true (on_ok c.flushed.result c.flushed.ensures.kept)

pub returns-then-begun-clause-front : goal.returns-then-begun-clause-front
returns-then-begun-clause-front g c = rw c.if-begun.true (on_err c.flushed.result (record { count = 0; front = c.flushed.ensures.kept }))
