use Rattle.std.proofs.Common.{◌≡◌, ◌+◌, ◌++◌, ◌∷◌, [], refl, length, length-append, arith, sym, ◌∙◌, ℕ, List}
use Rattle.ion_streams.specs.Names.{AtOnce, AtOneEnd, StoodEach, Value, format_of, in_reading, line_of, lines_of, outlines, plain, telling}
use Rattle.ion_symtab.specs.laws.Took.{Front-all, Front-behind, Took-kept, Took-nil, Took-trans}
use Rattle.ion_streams.proofs.Driven.{driven_on, told_at_once}
use Rattle.ion_streams.proofs.Fronts.{gave_told, line_next, so_far}
use Rattle.ion_streams.proofs.Shown.{outlined_next, shown_err, shown_ok, shows_ok}
use Rattle.ion_streams.proofs.Steps.{on_err, stood_plain}
use Rattle.ion_streams.proofs.Telling.{told_none}
use Rattle.ion_streams.proofs.Turns.{each_end, so_far_end}
use Rattle.ion_streams.proofs.listing.show_items.Given.{Over}
use Rattle.ion_streams.proofs.listing.show_items.Goals.{After-take, In_default, In_ok-advance_by, in-Err+in_ok-flushed-in-Err, in-Ok+in_ok-write_accepted-in-Ok}
use Rattle.ion_streams.proofs.listing.show_items.Goals as goal

-- One more was told, and its line stands behind those before.
next_one : (g : Over) (c : After-take g) → (s : List (Value × ℕ)) × StoodEach g.R.Inlet (telling g.I.Items []) (g.I.Items.catalog c.args.items)
    (g.I.Items.limits c.args.items) c.args.reader.now c.advance_by.new.reader c.advance_by.new.self s × (length s ≡ c.loop-text.values + 1)
    × (lines_of (plain c.loop-text.invariant.reads.0) ++ line_of (c.loop-text.values + 1) c.take.result ≡ lines_of (plain s))
next_one g c =
    let i = c.loop-text.invariant in
    let r = i.reads in
    let n = c.in-Some.field-0 in
    let v = outlined_next g.R.Inlet g.I.Items _ _ _ _ c.advance_by.new.self r.0 c.in_ok-advance_by.field-0 n c.loop-text.visitor c.advance_by.new.visitor
    c.in-Some.is i.fresh (c.in_ok-advance_by.ensures.tells _ _ _ r.0 r.1) in
    let line = line_next r.0 v.0 n c.take.result c.loop-text.values r.2 (v.1 ∙ sym c.take.ensures.outline) in
    (r.0 ++ (v.0, n) ∷ [], v.2, omega (arith, length-append r.0 ((v.0, n) ∷ []), r.2), line)

-- or none
no_more : (g : Over) (c : In_default g) → StoodEach g.R.Inlet (telling g.I.Items []) (g.I.Items.catalog c.args.items) (g.I.Items.limits c.args.items)
    c.args.reader.now c.advance_by.new.reader c.advance_by.new.self c.loop-text.invariant.reads.0
no_more g c =
    let r = c.loop-text.invariant.reads in
    told_none outlines g.R.Inlet g.I.Items _ _ _ _ c.advance_by.new.self r.0 c.in_ok-advance_by.field-0 c.loop-text.visitor c.advance_by.new.visitor
    c.in_default.is (c.in_ok-advance_by.ensures.tells _ _ _ r.0 r.1)

one_end : (g : Over) (c : In_default g) → AtOneEnd g.R.Inlet c.args.reader.now c.advance_by.new.reader
one_end g c = each_end g.R.Inlet (telling g.I.Items []) _ _ _ c.advance_by.new.reader c.advance_by.new.self _ (no_more g c)

pub returns-in_err-advance_by-clause-so_far : goal.returns-in_err-advance_by-clause-so_far
returns-in_err-advance_by-clause-so_far g c =
    let r = c.loop-text.invariant.reads in
    let k = c.in_err-advance_by.ensures.kept _ _ _ _ (stood_plain g.R.Inlet (telling g.I.Items []) _ _ _ _ c.loop-text.place r.0 r.1) in
    on_err c.from_residual-in_err-advance_by.result _ (in_reading _ (gave_told g.R.Inlet g.I.Items _ _ _ _ _ k.0 g.met.I.Items.one_stands k.1)
    (Front-all g.W.Outlet.took g.W.Outlet.written _ _ _ _ r.3 (Took-nil g.W.Outlet.took g.W.Outlet.written c.loop-text.writer)))

pub returns-in_err-write_line-clause-so_far : goal.returns-in_err-write_line-clause-so_far
returns-in_err-write_line-clause-so_far g c =
    let on = next_one g (goal.at.returns-in_err-write_line-clause-so_far g c).After-take in
    on_err c.from_residual-in_err-write_line.result _
    (so_far g.R.Inlet g.I.Items g.W.Outlet _ _ g.met.I.Items.one_stands _ _ c.args.writer.now c.write_line.new.writer c.advance_by.new.self (plain on.0)
    (stood_plain g.R.Inlet (telling g.I.Items []) _ _ _ _ c.advance_by.new.self on.0 on.1) (rw on.3 at (Front-behind g.W.Outlet.took g.W.Outlet.written
    c.args.writer.now c.loop-text.writer c.write_line.new.writer _ _ c.loop-text.invariant.reads.3 c.in_err-write_line.ensures.front)))

pub loop-text-preserved : goal.loop-text-preserved
loop-text-preserved g c =
    let i = c.loop-text.invariant in
    let next = c.in_ok-advance_by.ensures in
    let spent = (rw c.in-Some.is at next.less) refl in
    let on = next_one g (goal.at.loop-text-preserved g c).After-take in
    record {
      driven = driven_on g.R.Inlet g.I.Items c.args.reads _ _ _ c.loop-text.place c.advance_by.new.self i.driven next.ready next.unasked
          next.no_read_failed next.within;
      at_once = told_at_once g.R.Inlet g.I.Items _ _ _ _ _ c.loop-text.place i.reads.0 i.reads.1 i.at_once next.sought;
      fresh = c.take.ensures.anew;
      bound = omega (arith, i.bound, spent);
      asked = omega (arith, i.asked, next.few_calls);
      handed = omega (arith, i.handed, next.few_octets);
      reads = (on.0, on.1, on.2, rw on.3 at (Took-trans g.W.Outlet.took g.W.Outlet.written _ _ _ _ _ i.reads.3 c.in_ok-write_line.ensures.wrote));
    }

pub returns-in_err-write_accepted-in-Ok-clause-so_far : goal.returns-in_err-write_accepted-in-Ok-clause-so_far
returns-in_err-write_accepted-in-Ok-clause-so_far g c =
    let r = c.loop-text.invariant.reads in
    on_err c.from_residual-in_err-write_accepted-in-Ok.result _
    (shows_ok g.R.Inlet g.I.Items g.W.Outlet _ _ _ _ _ _ _ c.advance_by.new.self r.0 c.loop-text.values c.in-Ok.values
    (c.in_ok-advance_by.ensures.none c.in_default.is) r.2 (sym c.answer-answer.ensures ∙ c.in-Ok.is)
    (no_more g (goal.at.returns-in_err-write_accepted-in-Ok-clause-so_far g c).In_default) r.3 c.in_err-write_accepted-in-Ok.ensures.front)

pub returns-in_err-flushed-in-Err-clause-so_far : goal.returns-in_err-flushed-in-Err-clause-so_far
returns-in_err-flushed-in-Err-clause-so_far g c =
    let r = c.loop-text.invariant.reads in
    let stood = no_more g (goal.at.returns-in_err-flushed-in-Err-clause-so_far g c).In_default in
    on_err c.from_residual-in_err-flushed-in-Err.result _
    (so_far g.R.Inlet g.I.Items g.W.Outlet _ _ g.met.I.Items.one_stands _ _ c.args.writer.now c.flushed.new.writer c.advance_by.new.self (plain r.0)
    (stood_plain g.R.Inlet (telling g.I.Items []) _ _ _ _ c.advance_by.new.self r.0 stood)
    (Front-all g.W.Outlet.took g.W.Outlet.written _ c.loop-text.writer _ _ r.3 c.flushed.ensures.kept))

pub returns-clause-shown : goal.returns-clause-shown
returns-clause-shown g c =
    let r = c.loop-text.invariant.reads in
    let stood = no_more g (goal.at.returns-clause-shown g c).In_default in
    elim c.match-answer.branch [
      | in-Ok+in_ok-write_accepted-in-Ok w ↦ rw (w.writer-is, w.answer-is)
          (shown_ok g.R.Inlet g.I.Items g.W.Outlet _ _ _ _ _ _ w.write_accepted.new.writer c.advance_by.new.self r.0 c.loop-text.values w.in-Ok.values
          (c.in_ok-advance_by.ensures.none c.in_default.is) r.2 (sym c.answer-answer.ensures ∙ w.in-Ok.is) stood r.3
          w.in_ok-write_accepted-in-Ok.ensures.wrote)
      | in-Err+in_ok-flushed-in-Err w ↦ rw (w.writer-is, w.answer-is, w.in-Err.is)
          (shown_err g.R.Inlet g.I.Items g.W.Outlet _ _ _ _ _ c.loop-text.writer w.flushed.new.writer c.advance_by.new.self r.0 c.loop-text.values
          w.in-Err.field-0 (sym c.answer-answer.ensures ∙ w.in-Err.is) stood
          (Took-kept g.W.Outlet.took g.W.Outlet.written _ c.loop-text.writer _ _ r.3 w.flushed.ensures.kept))
    ]

-- the ends that the device answered
pub returns-in_err-advance_by-clause-one_end : goal.returns-in_err-advance_by-clause-one_end
returns-in_err-advance_by-clause-one_end g c =
    let r = c.loop-text.invariant.reads in
    let k = c.in_err-advance_by.ensures.kept _ _ _ _ (stood_plain g.R.Inlet (telling g.I.Items []) _ _ _ _ c.loop-text.place r.0 r.1) in
    so_far_end g.R.Inlet (telling g.I.Items k.0) _ _ _ c.advance_by.new.reader _ k.1

pub returns-in_err-write_line-clause-one_end : goal.returns-in_err-write_line-clause-one_end
returns-in_err-write_line-clause-one_end g c =
    let on = next_one g (goal.at.returns-in_err-write_line-clause-one_end g c).After-take in
    each_end g.R.Inlet (telling g.I.Items []) _ _ _ c.advance_by.new.reader c.advance_by.new.self on.0 on.1

pub returns-in_err-write_accepted-in-Ok-clause-one_end : goal.returns-in_err-write_accepted-in-Ok-clause-one_end
returns-in_err-write_accepted-in-Ok-clause-one_end g c = one_end g (goal.at.returns-in_err-write_accepted-in-Ok-clause-one_end g c).In_default

pub returns-in_err-flushed-in-Err-clause-one_end : goal.returns-in_err-flushed-in-Err-clause-one_end
returns-in_err-flushed-in-Err-clause-one_end g c = one_end g (goal.at.returns-in_err-flushed-in-Err-clause-one_end g c).In_default

pub returns-clause-one_end : goal.returns-clause-one_end
returns-clause-one_end g c = one_end g (goal.at.returns-clause-one_end g c).In_default

-- it was asked on while it wasn't refused
at_once : (g : Over) (c : In_ok-advance_by g) → AtOnce g.R.Inlet (format_of g.I.Items (g.I.Items.catalog c.args.items) (g.I.Items.limits c.args.items))
    c.args.reader.now c.advance_by.new.reader
at_once g c =
    let i = c.loop-text.invariant in
    told_at_once g.R.Inlet g.I.Items _ _ _ _ _ c.loop-text.place i.reads.0 i.reads.1 i.at_once c.in_ok-advance_by.ensures.sought

pub returns-in_err-advance_by-clause-at_once : goal.returns-in_err-advance_by-clause-at_once
returns-in_err-advance_by-clause-at_once g c =
    let i = c.loop-text.invariant in
    told_at_once g.R.Inlet g.I.Items _ _ _ _ _ c.loop-text.place i.reads.0 i.reads.1 i.at_once c.in_err-advance_by.ensures.sought

pub returns-in_err-write_line-clause-at_once : goal.returns-in_err-write_line-clause-at_once
returns-in_err-write_line-clause-at_once g c = at_once g (goal.at.returns-in_err-write_line-clause-at_once g c).In_ok-advance_by

pub returns-in_err-write_accepted-in-Ok-clause-at_once : goal.returns-in_err-write_accepted-in-Ok-clause-at_once
returns-in_err-write_accepted-in-Ok-clause-at_once g c = at_once g (goal.at.returns-in_err-write_accepted-in-Ok-clause-at_once g c).In_ok-advance_by

pub returns-in_err-flushed-in-Err-clause-at_once : goal.returns-in_err-flushed-in-Err-clause-at_once
returns-in_err-flushed-in-Err-clause-at_once g c = at_once g (goal.at.returns-in_err-flushed-in-Err-clause-at_once g c).In_ok-advance_by

pub returns-clause-at_once : goal.returns-clause-at_once
returns-clause-at_once g c = at_once g (goal.at.returns-clause-at_once g c).In_ok-advance_by
