use Rattle.std.proofs.Common.{Result, Ok, Err, OnOk, ap, ◌∙◌}
use Rattle.ion_binary.specs.Names.{Progress, Writing}
use Rattle.ion_binary.specs.visiting.BinaryOut.{Encoded}
use Rattle.ion_binary.proofs.BinaryTold.{end_told, names_told, value_kept}
use Rattle.ion_binary.proofs.writer.BinaryWriter.put_next.Goals as goal

-- what is so whatever a call answers is so where it answers no fault
on_ok : {A E P : Type 0} (r : Result A E) → P → OnOk r P
on_ok (Ok x) p = p
on_ok (Err e) p = tt

-- what the writer stands for, of what it holds
abbrev progress_of : Encoded → Progress
progress_of e = record { names = e.names; begun = e.begun }

pub returns-then-needs_large_id-clause-cause : goal.returns-then-needs_large_id-clause-cause
returns-then-needs_large_id-clause-cause g c =
    let p = c.args.self.now.progress in
    let is = ap (λ (w : Writing). w.progress) c.self.view_is in
    let names = names_told p (progress_of c.self.inside.visitor) is c.args.value.now c.go_on.new.self c.tell.new.visitor c.go_on.ensures
    (c.tell.ensures c.if-not-tell.false) in
    let large = rw c.if-needs_large_id.true at c.needs_large_id.ensures in
    rw names at large

pub returns-clause-in_range : goal.returns-clause-in_range
returns-clause-in_range g c =
    let p = c.args.self.now.progress in
    let is = ap (λ (w : Writing). w.progress) c.self.view_is in
    let names = names_told p (progress_of c.self.inside.visitor) is c.args.value.now c.go_on.new.self c.tell.new.visitor c.go_on.ensures
    (c.tell.ensures c.if-not-tell.false) in
    let few = rw c.if-needs_large_id.false at c.needs_large_id.ensures in
    on_ok c.write_whole.result (rw names at few)

pub returns-clause-kept : goal.returns-clause-kept
returns-clause-kept g c =
    let p = c.args.self.now.progress in
    let is = ap (λ (w : Writing). w.progress) c.self.view_is in
    on_ok c.write_whole.result (value_kept p (progress_of c.self.inside.visitor) is c.args.value.now c.go_on.new.self c.tell.new.visitor c.go_on.ensures
    (c.tell.ensures c.if-not-tell.false))

pub returns-clause-ok : goal.returns-clause-ok
returns-clause-ok g c =
    let p = c.args.self.now.progress in
    let is = ap (λ (w : Writing). w.progress) c.self.view_is in
    let told = end_told p (progress_of c.self.inside.visitor) is c.args.value.now c.go_on.new.self c.tell.new.visitor c.go_on.ensures
    (c.tell.ensures c.if-not-tell.false) c.ended.new.self (c.ended.ensures c.if-not-ended.false) in
    rw (c.octets.ensures ∙ ap (λ (e : Encoded). e.whole) told) at c.write_whole.ensures.whole

pub returns-clause-front : goal.returns-clause-front
returns-clause-front g c =
    let p = c.args.self.now.progress in
    let is = ap (λ (w : Writing). w.progress) c.self.view_is in
    let told = end_told p (progress_of c.self.inside.visitor) is c.args.value.now c.go_on.new.self c.tell.new.visitor c.go_on.ensures
    (c.tell.ensures c.if-not-tell.false) c.ended.new.self (c.ended.ensures c.if-not-ended.false) in
    rw (c.octets.ensures ∙ ap (λ (e : Encoded). e.whole) told) at c.write_whole.ensures.front

pub returns-clause-after : goal.returns-clause-after
returns-clause-after g c =
    let p = c.args.self.now.progress in
    let is = ap (λ (w : Writing). w.progress) c.self.view_is in
    let told = end_told p (progress_of c.self.inside.visitor) is c.args.value.now c.go_on.new.self c.tell.new.visitor c.go_on.ensures
    (c.tell.ensures c.if-not-tell.false) c.ended.new.self (c.ended.ensures c.if-not-ended.false) in
    on_ok c.write_whole.result (λ i. record { progress = record { names = (told i).names; begun = (told i).begun }; failed = (c.self.view_is i).failed })
