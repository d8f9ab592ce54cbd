use Rattle.std.proofs.Common.{◌+◌, ◌++◌, ◌∷◌, ◌∙◌, [], ℕ, arith, refl, rules, ap, length-append}
use Rattle.ion_streams.specs.Names.{plain, telling}
use Rattle.ion_events.specs.Laying.{lays_down}
use Rattle.ion_events.specs.laws.LaidDown.{none_laid}
use Rattle.ion_streams.proofs.Driven.{driven_on, told_at_once}
use Rattle.ion_streams.proofs.Steps.{stood_plain, within_begun}
use Rattle.ion_streams.proofs.Telling.{told_none, told_some}
use Rattle.ion_streams.proofs.Turns.{so_far_end}
use Rattle.ion_streams.proofs.Unfailed.{stands_heard}
use Rattle.ion_streams.proofs.LaidNext.{laid_at, laid_next}
use Rattle.ion_streams.proofs.layouts.lay_out_items.Goals as goal

pub loop-laid-init : goal.loop-laid-init
loop-laid-init g c =
    let told = g.met.I.Items.nothing_told c.args.items c.requires.fresh.stood in
    let laid = none_laid c.in-Some.laid c.args.laying c.in-Some.ensures c.requires.new in
    search (rules, within_begun)

pub loop-laid-preserved : goal.loop-laid-preserved
loop-laid-preserved g c =
    let i = c.loop-laid.invariant in
    let r = i.read in
    let next = c.in_ok-advance_by.ensures in
    let less = rw c.in-Some-2.is at next.less in
    let spent = less refl in
    let on = told_some lays_down g.R.Inlet g.I.Items _ _ _ _ c.advance_by.new.self r.0 c.in_ok-advance_by.field-0 c.in-Some-2.field-0
    c.loop-laid.laying c.advance_by.new.visitor c.in-Some-2.is (next.tells _ _ _ r.0 r.1) in
    record {
      driven = driven_on g.R.Inlet g.I.Items c.args.reads c.args.reader.now c.loop-laid.reader c.advance_by.new.reader c.loop-laid.place
          c.advance_by.new.self i.driven next.ready next.unasked next.no_read_failed next.within;
      at_once = told_at_once g.R.Inlet g.I.Items _ _ _ _ _ c.loop-laid.place r.0 r.1 i.at_once next.sought;
      bound = omega (arith, i.bound, spent);
      asked = omega (arith, i.asked, next.few_calls);
      handed = omega (arith, i.handed, next.few_octets);
      read = (
        r.0 ++ (on.0, c.in-Some-2.field-0) ∷ [],
        on.2,
        length-append r.0 ((on.0, c.in-Some-2.field-0) ∷ []) ∙ ap (λ (n : ℕ). n + 1) r.2,
        laid_next r.0 on.0 c.in-Some-2.field-0 c.loop-laid.laid c.hand_over.new.laid c.loop-laid.laying c.advance_by.new.visitor c.hand_over.new.self
            r.3 on.1 (c.hand_over.ensures c.if-not-hand_over.false),
      );
    }

pub returns-in-Some-into_octets-clause-laid : goal.returns-in-Some-into_octets-clause-laid
returns-in-Some-into_octets-clause-laid g c =
    let r = c.loop-laid.invariant.read in
    let none = c.in_default-2.is in
    let stood = told_none lays_down g.R.Inlet g.I.Items _ _ _ _ c.advance_by.new.self r.0 c.in_ok-advance_by.field-0 c.loop-laid.laying
    c.advance_by.new.visitor none (c.in_ok-advance_by.ensures.tells _ _ _ r.0 r.1) in
    rw c.answer.ensures (laid_at g.R.Inlet g.I.Items _ _ _ _ c.advance_by.new.self r.0 c.loop-laid.values c.loop-laid.laid c.loop-laid.laying
    c.in-Some-into_octets.layout.items (c.in_ok-advance_by.ensures.none none) r.2 stood r.3 c.in-Some-into_octets.ensures.few
    c.in-Some-into_octets.ensures.joined)

pub returns-in-Some-into_octets-clause-no_read_failed : goal.returns-in-Some-into_octets-clause-no_read_failed
returns-in-Some-into_octets-clause-no_read_failed g c =
    let e = c.in_ok-advance_by.ensures in
    stands_heard g.I.Items g.R.Inlet c.loop-laid.reader c.advance_by.new.reader c.loop-laid.place c.loop-laid.invariant.driven.heard e.unasked e.no_read_failed

pub returns-in_err-advance_by-clause-one_end : goal.returns-in_err-advance_by-clause-one_end
returns-in_err-advance_by-clause-one_end g c =
    let r = c.loop-laid.invariant.read in
    let k = c.in_err-advance_by.ensures.kept _ _ _ (plain r.0) (stood_plain g.R.Inlet (telling g.I.Items []) _ _ _ _ c.loop-laid.place r.0 r.1) in
    so_far_end g.R.Inlet (telling g.I.Items k.0) _ _ _ c.advance_by.new.reader (plain r.0) k.1

-- it was asked on while it wasn't refused
pub returns-in_err-advance_by-clause-at_once : goal.returns-in_err-advance_by-clause-at_once
returns-in_err-advance_by-clause-at_once g c =
    let i = c.loop-laid.invariant in
    told_at_once g.R.Inlet g.I.Items _ _ _ _ _ c.loop-laid.place i.read.0 i.read.1 i.at_once c.in_err-advance_by.ensures.sought

pub returns-in-Some-into_octets-clause-at_once : goal.returns-in-Some-into_octets-clause-at_once
returns-in-Some-into_octets-clause-at_once g c =
    let i = c.loop-laid.invariant in
    told_at_once g.R.Inlet g.I.Items _ _ _ _ _ c.loop-laid.place i.read.0 i.read.1 i.at_once c.in_ok-advance_by.ensures.sought

pub returns-in-None-clause-at_once : goal.returns-in-None-clause-at_once
returns-in-None-clause-at_once g c =
    let i = c.loop-laid.invariant in
    told_at_once g.R.Inlet g.I.Items _ _ _ _ _ c.loop-laid.place i.read.0 i.read.1 i.at_once c.in_ok-advance_by.ensures.sought

pub returns-then-not-hand_over-clause-at_once : goal.returns-then-not-hand_over-clause-at_once
returns-then-not-hand_over-clause-at_once g c =
    let i = c.loop-laid.invariant in
    told_at_once g.R.Inlet g.I.Items _ _ _ _ _ c.loop-laid.place i.read.0 i.read.1 i.at_once c.in_ok-advance_by.ensures.sought
