use Rattle.std.proofs.Common.{◌+◌, ◌++◌, ◌∷◌, ◌∙◌, [], ℕ, arith, refl, rules, ap, length-append}
use Rattle.ion_streams.specs.Names.{plain, telling}
use Rattle.ion_streams.proofs.Driven.{driven_on, heard_more, told_at_once, visited_at}
use Rattle.ion_streams.proofs.Steps.{stood_plain, within_begun}
use Rattle.ion_streams.proofs.Telling.{told_some}
use Rattle.ion_streams.proofs.Turns.{so_far_end}
use Rattle.ion_streams.proofs.checking.visit_items.Goals as goal

pub loop-place-init : goal.loop-place-init
loop-place-init g c =
    let told = g.met.I.Items.nothing_told c.args.items c.requires.fresh.stood in
    search (rules, within_begun)

pub loop-place-preserved : goal.loop-place-preserved
loop-place-preserved g c =
    let i = c.loop-place.invariant in
    let r = i.reads in
    let next = c.in_ok-advance_by.ensures in
    let less = rw c.in-Some.is at next.less in
    let spent = less refl in
    let on = told_some g.V.Visitor.takes g.R.Inlet g.I.Items _ _ _ _ c.advance_by.new.self r.0 c.in_ok-advance_by.field-0 c.in-Some.field-0
    c.loop-place.visitor c.advance_by.new.visitor c.in-Some.is (next.tells _ _ _ r.0 r.1) in
    record {
      driven = driven_on g.R.Inlet g.I.Items c.args.reads c.args.reader.now c.loop-place.reader c.advance_by.new.reader c.loop-place.place
          c.advance_by.new.self i.driven next.ready next.unasked next.no_read_failed next.within;
      at_once = told_at_once g.R.Inlet g.I.Items _ _ _ _ _ c.loop-place.place r.0 r.1 i.at_once next.sought;
      bound = omega (arith, i.bound, spent);
      asked = omega (arith, i.asked, next.few_calls);
      handed = omega (arith, i.handed, next.few_octets);
      reads = (
        r.0 ++ (on.0, c.in-Some.field-0) ∷ [],
        on.2,
        length-append r.0 ((on.0, c.in-Some.field-0) ∷ []) ∙ ap (λ (n : ℕ). n + 1) r.2,
        heard_more g.V.Visitor.takes r.0 on.0 c.in-Some.field-0 c.args.visitor.now c.loop-place.visitor c.advance_by.new.visitor c.ended.new.self
            r.3 on.1 (c.ended.ensures c.if-not-ended.false),
      );
    }

pub returns-clause-verdict : goal.returns-clause-verdict
returns-clause-verdict g c =
    let r = c.loop-place.invariant.reads in
    let none = c.in_default.is in
    rw c.answer.ensures (visited_at g.V.Visitor.takes g.R.Inlet g.I.Items _ _ _ _ c.advance_by.new.self r.0 c.in_ok-advance_by.field-0
    c.loop-place.values c.args.visitor.now c.loop-place.visitor c.advance_by.new.visitor none (c.in_ok-advance_by.ensures.none none) r.2 r.3
    (c.in_ok-advance_by.ensures.tells _ _ _ r.0 r.1))

pub returns-in_err-advance_by-clause-one_end : goal.returns-in_err-advance_by-clause-one_end
returns-in_err-advance_by-clause-one_end g c =
    let r = c.loop-place.invariant.reads in
    let k = c.in_err-advance_by.ensures.kept _ _ _ (plain r.0) (stood_plain g.R.Inlet (telling g.I.Items []) _ _ _ _ c.loop-place.place r.0 r.1) in
    so_far_end g.R.Inlet (telling g.I.Items k.0) _ _ _ c.advance_by.new.reader (plain r.0) k.1

-- it was asked on while it wasn't refused
pub returns-in_err-advance_by-clause-at_once : goal.returns-in_err-advance_by-clause-at_once
returns-in_err-advance_by-clause-at_once g c =
    let i = c.loop-place.invariant in
    told_at_once g.R.Inlet g.I.Items _ _ _ _ _ c.loop-place.place i.reads.0 i.reads.1 i.at_once c.in_err-advance_by.ensures.sought

pub returns-then-not-ended-clause-at_once : goal.returns-then-not-ended-clause-at_once
returns-then-not-ended-clause-at_once g c =
    let i = c.loop-place.invariant in
    told_at_once g.R.Inlet g.I.Items _ _ _ _ _ c.loop-place.place i.reads.0 i.reads.1 i.at_once c.in_ok-advance_by.ensures.sought

pub returns-clause-at_once : goal.returns-clause-at_once
returns-clause-at_once g c =
    let i = c.loop-place.invariant in
    told_at_once g.R.Inlet g.I.Items _ _ _ _ _ c.loop-place.place i.reads.0 i.reads.1 i.at_once c.in_ok-advance_by.ensures.sought
