-- What is known of a reader that holds no values and told a visitor what it did.
use Rattle.std.proofs.Common.{ℕ, ◌≤◌, List, length, ap, arith}
use Rattle.ion_binary.specs.Names.{BinaryWalk, Catalog, Event, Frame, HasTold, InBody, Limits, Phase, Run, Slot, Told, Value, awaits, body_so_far, failed, machine_of, plain, taken, trace, trace_of}
use Rattle.ion_binary.specs.walking.Runs.{kept}
use Rattle.ion_binary.specs.laws.reading.OpenRests.{body_within}
use Rattle.ion_binary.specs.laws.reading.Promises.{ran_stands}
use Rattle.ion_binary.specs.laws.reading.Stands.{Standing}

so_far_within : (g : Catalog) (l : Limits) (start : ℕ) (c : List Slot) (s : List Value) (fs : List Frame) (body : List ℕ) (phase : Phase) (u : List ℕ)
    → Standing g l start c s fs (body_so_far phase body) phase u → length (body_so_far phase body) ≤ l.item
so_far_within g l start c s fs body (InBody t n) u o = body_within g l start c s fs body t n u o
so_far_within g l start c s fs body _ u o = omega arith

-- where it told what octets did, the trace says the same of them
pub has_told : (r : BinaryWalk) (u : List ℕ) (s : List (Value × ℕ)) (es : List Event) → Told r u s es
    → HasTold taken kept failed awaits (trace r.catalog.now r.limits) r.limits.item r u s
has_told r u s es h =
    let o = ran_stands r.catalog.now r.limits u s (machine_of r h.0) h.1.ran in
    record {
      counted = h.1.counted;
      not_failed = h.1.fine;
      not_refused = ap (λ (x : Run). (trace_of x).refused) h.1.ran;
      given_so_far = λ none. ap (λ (x : Run). (trace_of x).given) h.1.ran;
      given_with_next = tt;
      bounded = so_far_within r.catalog.now r.limits r.start r.context (plain s) h.0 r.body r.phase u o.standing;
    }
