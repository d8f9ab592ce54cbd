use Rattle.std.proofs.Common.{◌≡◌, ℕ, List, [], ◌∷◌, ◌++◌, Some, refl, sym, ◌∙◌, arith, rules}
use Rattle.ion_streams.specs.Names.{Value, plain}
use Rattle.ion_streams.proofs.Driven.{asked_behind, driven_on}
use Rattle.ion_streams.proofs.Passes.{gave_none}
use Rattle.ion_streams.proofs.Steps.{plain_next, stood_plain}
use Rattle.ion_streams.proofs.Turns.{each_end, so_far_end}
use Rattle.ion_streams.proofs.all_values.read_items.Goals as goal

pub returns-in_err-value-clause-one_end : goal.returns-in_err-value-clause-one_end
returns-in_err-value-clause-one_end g c =
    let r = c.loop-values.invariant.reads in
    so_far_end g.R.Inlet g.I.Items _ _ _ c.advance.new.reader (plain r.0)
    (c.in_err-value.ensures.kept _ _ _ (plain r.0) (stood_plain g.R.Inlet g.I.Items _ _ _ _ c.loop-values.place r.0 r.1))

pub returns-in_err-push-clause-one_end : goal.returns-in_err-push-clause-one_end
returns-in_err-push-clause-one_end g c =
    let r = c.loop-values.invariant.reads in
    each_end g.R.Inlet g.I.Items _ _ _ c.advance.new.reader c.advance.new.self (r.0 ++ (c.in-Some.value, c.in-Some.field-0-1) ∷ [])
    (rw c.in-Some.is at (c.in_ok-value.ensures.gives _ _ _ r.0 r.1)).0

pub returns-clause-one_end : goal.returns-clause-one_end
returns-clause-one_end g c =
    let r = c.loop-values.invariant.reads in
    each_end g.R.Inlet g.I.Items _ _ _ c.advance.new.reader c.advance.new.self r.0
    (gave_none g.R.Inlet g.I.Items _ _ _ _ c.advance.new.self r.0 c.in_ok-value.field-0 c.in_default.is (c.in_ok-value.ensures.gives _ _ _ r.0 r.1))

pub loop-values-preserved : goal.loop-values-preserved
loop-values-preserved g c =
    let i = c.loop-values.invariant in
    let r = i.reads in
    let next = c.in_ok-value.ensures in
    let found : List (Value × ℕ) = (c.in-Some.value, c.in-Some.field-0-1) ∷ [] in
    let kept : c.push.new.self.items ≡ c.loop-values.values.items ++ c.in-Some.value ∷ [] = search rules in
    record {
      driven = driven_on g.R.Inlet g.I.Items c.args.reads c.args.reader.now c.loop-values.reader c.advance.new.reader c.loop-values.place c.advance.new.self
          i.driven next.ready next.unasked next.no_read_failed next.within;
      at_once = asked_behind g.R.Inlet g.I.Items (λ given. Unit {0}) _ _ _ _ _ c.loop-values.place r.0 r.1 tt i.at_once next.sought;
      asked = omega (arith, i.asked, next.few_calls);
      handed = omega (arith, i.handed, next.few_octets);
      reads = (
        r.0 ++ found,
        (rw c.in-Some.is at (next.gives _ _ _ r.0 r.1)).0,
        plain_next r.0 (Some (c.in-Some.value, c.in-Some.field-0-1)) (Some c.in-Some.value) c.loop-values.values.items r.2 refl ∙ sym kept,
      );
    }

pub returns-in_err-value-clause-at_once : goal.returns-in_err-value-clause-at_once
returns-in_err-value-clause-at_once g c =
    let i = c.loop-values.invariant in
    asked_behind g.R.Inlet g.I.Items (λ given. Unit {0}) _ _ _ _ _ c.loop-values.place i.reads.0 i.reads.1 tt i.at_once c.in_err-value.ensures.sought

pub returns-in_err-push-clause-at_once : goal.returns-in_err-push-clause-at_once
returns-in_err-push-clause-at_once g c =
    let i = c.loop-values.invariant in
    asked_behind g.R.Inlet g.I.Items (λ given. Unit {0}) _ _ _ _ _ c.loop-values.place i.reads.0 i.reads.1 tt i.at_once c.in_ok-value.ensures.sought

pub returns-clause-at_once : goal.returns-clause-at_once
returns-clause-at_once g c =
    let i = c.loop-values.invariant in
    asked_behind g.R.Inlet g.I.Items (λ given. Unit {0}) _ _ _ _ _ c.loop-values.place i.reads.0 i.reads.1 tt i.at_once c.in_ok-value.ensures.sought
