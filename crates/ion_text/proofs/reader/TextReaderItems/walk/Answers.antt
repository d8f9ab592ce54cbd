use Rattle.std.specs.Prelude.{IfOk, Ok, Err, Result}
use Rattle.ion_text.specs.Names.{Told}
use Rattle.ion_symtab.specs.laws.Builds.{tells_held}
use Rattle.ion_text.proofs.reader.TextReaderItems.walk.Goals as goal

pub returns-clause-tells : goal.returns-clause-tells
returns-clause-tells g c =
    tells_held g.V.Visitor.takes (λ r. r.walk) Told (record c.args.self.now { walk = c.walk.new.self }) (Told c.args.self.now.walk) c.args.piece.now
    c.walk.result c.args.visitor.now c.walk.new.visitor c.walk.ensures.tells

if_ok : {A E : Type 0} {P Q : A → Type 0} (r : Result A E) → ((x : A) → P x → Q x) → IfOk r P → IfOk r Q
if_ok (Ok x) f h = f x h
if_ok (Err e) f h = h

pub returns-clause-leaves : goal.returns-clause-leaves
returns-clause-leaves g c = if_ok c.walk.result (λ walked h. record {
  used = h.used;
  uses_all = h.uses_all;
  counts = h.counts;
  progress = h.progress;
  few_pending = h.few_pending;
  onward = h.onward;
  not_failed = h.not_failed;
  awaited = h.awaited;
}) c.walk.ensures.leaves
