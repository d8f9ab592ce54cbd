use Rattle.std.proofs.Common.{◌≡◌, ℕ, ◌+◌, ◌≤◌, [], ◌∷◌, ◌++◌, length, take, drop, refl, ap, sym, subst, ◌∙◌, arith, Option, IsNone, length-drop}
use Rattle.std.proofs.Math.Seq.{drop-length}
use Rattle.std.proofs.lemmas.Result.{err_from_is_err_and}
use Rattle.ion_streams.specs.Names.{Refusal}
use Rattle.ion_streams.proofs.Pieces.{none_awaited}
use Rattle.ion_streams.proofs.Wholes.{all_left, taken_count, taken_more, taken_refused, taken_stopped}
use Rattle.ion_streams.proofs.all_values.read_octets.Goals as goal

pub returns-in_err-step-clause-refused : goal.returns-in_err-step-clause-refused
returns-in_err-step-clause-refused g c =
    let p = err_from_is_err_and c.from_residual.result c.from_residual.ensures.1 in
    let catalog = g.I.Items.catalog c.args.items in
    let limits = g.I.Items.limits c.args.items in
    let answers = rw (all_left c.args.octets.now c.loop-values.used) at c.in_err-step.ensures.answers in
    rw (p.1, p.2) (λ other.
    taken_refused g.I.Items g.met.I.Items.counted catalog limits c.args.octets.now c.loop-values.items c.loop-values.used c.loop-values.values.items
    c.in_err-step.field-0.0 c.loop-values.invariant other answers
    (g.met.I.Items.reasons catalog limits) (g.met.I.Items.refused catalog limits) (g.met.I.Items.settled catalog limits))

pub returns-in_err-step-clause-memory : goal.returns-in_err-step-clause-memory
returns-in_err-step-clause-memory g c =
    let p = err_from_is_err_and c.from_residual.result c.from_residual.ensures.1 in
    let i = c.loop-values.invariant in
    let inside = i.inside in
    let count = taken_count g.I.Items g.met.I.Items.counted (g.I.Items.catalog c.args.items) (g.I.Items.limits c.args.items) c.args.octets.now
    c.loop-values.items c.loop-values.used c.loop-values.values.items i in
    let never = g.met.I.Items.not_failed c.loop-values.items (take c.loop-values.used c.args.octets.now) i.given i.stood in
    rw (p.1, p.2) (λ memory.
    let at = c.in_err-step.ensures.refuses.memory memory (subst (λ (o : Option Refusal). IsNone o) (sym never) refl) in
    omega (arith, at, count, inside))

pub loop-values-preserved : goal.loop-values-preserved
loop-values-preserved g c =
    let step = c.in_ok-step.ensures in
    let left = all_left c.args.octets.now c.loop-values.used in
    let used = rw left at step.leaves.used in
    let stands = rw left at step.stands in
    let awaited = rw left at step.leaves.awaited in
    let more = taken_more g.I.Items g.met.I.Items.counted (g.I.Items.catalog c.args.items) (g.I.Items.limits c.args.items) c.args.octets.now c.loop-values.items
    c.step.new.self c.loop-values.used c.in_ok-step.step.used c.in_ok-step.step.value
    c.loop-values.values.items c.loop-values.invariant used stands step.setting.0 step.setting.1 awaited in
    let kept = c.in_ok-keep_behind-in-Some.ensures.more in
    let found = c.in-Some.value-is in
    let all : c.keep_behind.new.values.items ≡ c.loop-values.values.items ++ c.in-Some.value ∷ [] = first_of (cc, grind (arith, kept, found)) in
    rw all (rw c.in-Some.is at more)

pub returns-in_err-value-in-None-clause-refused : goal.returns-in_err-value-in-None-clause-refused
returns-in_err-value-in-None-clause-refused g c =
    let p = err_from_is_err_and c.from_residual-in_err-value-in-None.result c.from_residual-in_err-value-in-None.ensures.1 in
    let catalog = g.I.Items.catalog c.args.items in
    let limits = g.I.Items.limits c.args.items in
    let i = c.loop-values.invariant in
    let inside = i.inside in
    let step = c.in_ok-step.ensures in
    let left = all_left c.args.octets.now c.loop-values.used in
    let used = rw left at step.leaves.used in
    let stands = rw left at step.stands in
    let awaited = rw left at step.leaves.awaited in
    let whole : c.in_ok-step.step.used ≡ length (drop c.loop-values.used c.args.octets.now) = rw left at (step.leaves.uses_all c.in-None.is) in
    let all : length c.args.octets.now ≤ c.loop-values.used + c.in_ok-step.step.used = omega (arith, whole, inside, length-drop {A = ℕ}) in
    let empty : drop c.in_ok-step.step.used (drop c.loop-values.used c.args.octets.now) ≡ [] =
    ap (λ (n : ℕ). drop n (drop c.loop-values.used c.args.octets.now)) whole ∙ drop-length (drop c.loop-values.used c.args.octets.now) in
    let none = none_awaited (g.I.Items.awaits c.step.new.self) (drop c.in_ok-step.step.used (drop c.loop-values.used c.args.octets.now)) empty awaited in
    let more = taken_more g.I.Items g.met.I.Items.counted catalog limits c.args.octets.now c.loop-values.items c.step.new.self c.loop-values.used
    c.in_ok-step.step.used c.in_ok-step.step.value
    c.loop-values.values.items i used stands step.setting.0 step.setting.1 awaited in
    rw (p.1, p.2) (λ other.
    taken_stopped g.I.Items g.met.I.Items.counted catalog limits c.args.octets.now c.step.new.self (c.loop-values.used + c.in_ok-step.step.used) _
    c.in_err-value-in-None.field-0.0 more all other c.in_err-value-in-None.ensures.ends
    (λ u t h. g.met.I.Items.given_so_far c.step.new.self u t h none)
    (g.met.I.Items.reasons catalog limits) (g.met.I.Items.refused catalog limits c.args.octets.now) (g.met.I.Items.shown catalog limits c.args.octets.now)
    (g.met.I.Items.unfinished catalog limits c.args.octets.now c.in_err-value-in-None.field-0.0)
    (λ s. (g.met.I.Items.exact catalog limits c.args.octets.now s).1))
