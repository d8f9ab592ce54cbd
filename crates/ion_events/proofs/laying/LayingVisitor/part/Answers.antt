use Rattle.std.proofs.Common.{refl}
use Rattle.ion_events.proofs.Placed.{blob_down, clob_down, null_down, string_down, truth_down}
use Rattle.ion_events.proofs.laying.LayingVisitor.part.Goals as goal

pub returns-in-Null : goal.returns-in-Null
returns-in-Null g c = λ h.
    let b = record c.args.self.now { draft = c.null.new.self } in
    rw c.in-Null.is (null_down c.args.self.now b refl refl c.in-Null.kind (rw c.in-Null.is at c.part_kept.ensures) (c.null.ensures h))

pub returns-in-Truth : goal.returns-in-Truth
returns-in-Truth g c = λ h.
    let b = record c.args.self.now { draft = c.truth.new.self } in
    rw c.in-Truth.is (truth_down c.args.self.now b refl refl c.in-Truth.truth (rw c.in-Truth.is at c.part_kept.ensures) (c.truth.ensures h))

pub returns-in-Str : goal.returns-in-Str
returns-in-Str g c = λ h.
    let b = record c.args.self.now { draft = c.text.new.self } in
    rw c.in-Str.is (string_down c.args.self.now b refl refl c.in-Str.text.now (rw c.in-Str.is at c.part_kept.ensures) (rw c.as_bytes.ensures.value at c.text.ensures h))

pub returns-in-Clob : goal.returns-in-Clob
returns-in-Clob g c = λ h.
    let b = record c.args.self.now { draft = c.text-in-Clob.new.self } in
    rw c.in-Clob.is (clob_down c.args.self.now b refl refl c.in-Clob.octets.now (rw c.in-Clob.is at c.part_kept.ensures) (c.text-in-Clob.ensures h))

pub returns-in-Blob : goal.returns-in-Blob
returns-in-Blob g c = λ h.
    let b = record c.args.self.now { draft = c.text-in-Blob.new.self } in
    rw c.in-Blob.is (blob_down c.args.self.now b refl refl c.in-Blob.octets.now (rw c.in-Blob.is at c.part_kept.ensures) (c.text-in-Blob.ensures h))
