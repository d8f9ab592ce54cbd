use Rattle.std.proofs.Common.{◌≡◌, ◌++◌, ◌∷◌, [], inr, arith, rules, refl, ◌∙◌}
use Rattle.std.proofs.lemmas.List.{length-map}
use Rattle.std.proofs.lemmas.Result.{err_from_is_err_and}
use Rattle.ion_docs.specs.Names.{ReadSoFar, WasTold, in_reading, plain, so_far, telling}
use Rattle.ion_streams.proofs.Driven.{driven_on, told_at_once}
use Rattle.ion_streams.proofs.Fronts.{gave_told}
use Rattle.ion_streams.proofs.Steps.{on_err, stood_plain, within_begun}
use Rattle.ion_streams.proofs.Telling.{told_none, told_some}
use Rattle.ion_streams.proofs.Turns.{each_end, so_far_end}
use Rattle.ion_docs.proofs.Conversions.{converted_at, done_next, front_of_front, kept_at, put_cause, stood_more, took_front, took_some, took_whole, was_read}
use Rattle.ion_docs.proofs.conversion.convert_items.Goals as goal

pub loop-encoder-init : goal.loop-encoder-init
loop-encoder-init g c =
    let told = g.met.I.Items.nothing_told c.args.items c.requires.fresh.stood in
    search (rules, within_begun)

-- the device or the reader failed while a value was read
pub returns-in_err-advance_by-clause-so_far : goal.returns-in_err-advance_by-clause-so_far
returns-in_err-advance_by-clause-so_far g c =
    let d = c.loop-encoder.invariant.done in
    let s = plain d.0 in
    let k = c.in_err-advance_by.ensures.kept _ _ _ s (stood_plain g.R.Inlet (telling g.I.Items []) _ _ _ _ c.loop-encoder.place d.0 d.1) in
    on_err c.from_residual-in_err-advance_by.result _
    (so_far s (in_reading (gave_told g.R.Inlet g.I.Items _ _ _ _ s k.0 g.met.I.Items.one_stands k.1))
    (took_front g.W.Outlet c.args.writer.now c.loop-encoder.writer (g.E.Encoder.puts s) (g.E.Encoder.encoding.document s) d.4 (g.met.E.Encoder.fronts s)))

pub returns-in_err-advance_by-clause-one_end : goal.returns-in_err-advance_by-clause-one_end
returns-in_err-advance_by-clause-one_end g c =
    let d = c.loop-encoder.invariant.done in
    let k = c.in_err-advance_by.ensures.kept _ _ _ (plain d.0) (stood_plain g.R.Inlet (telling g.I.Items []) _ _ _ _ c.loop-encoder.place d.0 d.1) in
    so_far_end g.R.Inlet (telling g.I.Items k.0) _ _ _ c.advance_by.new.reader (plain d.0) k.1

-- a value was told
pub returns-in_err-hand_over-clause-so_far : goal.returns-in_err-hand_over-clause-so_far
returns-in_err-hand_over-clause-so_far g c =
    let d = c.loop-encoder.invariant.done in
    let on = told_some g.E.Visitor.takes g.R.Inlet g.I.Items _ _ _ _ c.advance_by.new.self d.0 c.in_ok-advance_by.field-0 c.in-Some.field-0
    c.loop-encoder.encoder c.advance_by.new.visitor c.in-Some.is (c.in_ok-advance_by.ensures.tells _ _ _ d.0 d.1) in
    let s = plain d.0 ++ on.0 ∷ [] in
    let stood = stood_more g.E.Visitor.takes g.R.Inlet g.I.Items _ _ _ _ c.advance_by.new.self d.0 on.0 c.in-Some.field-0 on.2 in
    let front = took_some g.W.Outlet c.args.writer.now c.loop-encoder.writer c.hand_over.new.out (g.E.Encoder.puts (plain d.0)) (g.E.Encoder.puts s) d.4
    (c.in_err-hand_over.ensures.front (plain d.0) on.0 (record { before = c.loop-encoder.encoder; put = d.3; told = on.1 })) in
    on_err c.from_residual-in_err-hand_over.result _
    (so_far s (was_read g.E.Visitor.takes g.R.Inlet g.I.Items _ _ _ _ g.met.I.Items.one_stands c.advance_by.new.self s stood)
    (front_of_front g.W.Outlet c.args.writer.now c.hand_over.new.out (g.E.Encoder.puts s) (g.E.Encoder.encoding.document s) front (g.met.E.Encoder.fronts s)))

pub returns-in_err-hand_over-clause-cause : goal.returns-in_err-hand_over-clause-cause
returns-in_err-hand_over-clause-cause g c =
    let d = c.loop-encoder.invariant.done in
    let on = told_some g.E.Visitor.takes g.R.Inlet g.I.Items _ _ _ _ c.advance_by.new.self d.0 c.in_ok-advance_by.field-0 c.in-Some.field-0
    c.loop-encoder.encoder c.advance_by.new.visitor c.in-Some.is (c.in_ok-advance_by.ensures.tells _ _ _ d.0 d.1) in
    let s = plain d.0 ++ on.0 ∷ [] in
    let stood = stood_more g.E.Visitor.takes g.R.Inlet g.I.Items _ _ _ _ c.advance_by.new.self d.0 on.0 c.in-Some.field-0 on.2 in
    let p = err_from_is_err_and c.from_residual-in_err-hand_over.result c.from_residual-in_err-hand_over.ensures.1 in
    rw (p.1, p.2) (inr (put_cause g.E.Encoder.encoding (ReadSoFar g.R.Inlet g.I.Items (g.I.Items.catalog c.args.items) (g.I.Items.limits c.args.items)
    c.args.reader.now c.advance_by.new.reader)
    (g.W.Outlet.has_failed c.hand_over.new.out) s _
    (was_read g.E.Visitor.takes g.R.Inlet g.I.Items _ _ _ _ g.met.I.Items.one_stands c.advance_by.new.self s stood)
    (c.in_err-hand_over.ensures.cause (plain d.0) on.0 (record { before = c.loop-encoder.encoder; put = d.3; told = on.1 }))))

pub returns-in_err-hand_over-clause-one_end : goal.returns-in_err-hand_over-clause-one_end
returns-in_err-hand_over-clause-one_end g c =
    let d = c.loop-encoder.invariant.done in
    let on = told_some g.E.Visitor.takes g.R.Inlet g.I.Items _ _ _ _ c.advance_by.new.self d.0 c.in_ok-advance_by.field-0 c.in-Some.field-0
    c.loop-encoder.encoder c.advance_by.new.visitor c.in-Some.is (c.in_ok-advance_by.ensures.tells _ _ _ d.0 d.1) in
    each_end g.R.Inlet (telling g.I.Items []) _ _ _ c.advance_by.new.reader c.advance_by.new.self (d.0 ++ (on.0, c.in-Some.field-0) ∷ []) on.2

pub loop-encoder-preserved : goal.loop-encoder-preserved
loop-encoder-preserved g c =
    let i = c.loop-encoder.invariant in
    let d = i.done in
    let bound = i.bound in
    let asked = i.asked in
    let handed = i.handed in
    let next = c.in_ok-advance_by.ensures in
    let less = rw c.in-Some.is at next.less in
    let spent = less refl in
    let on = told_some g.E.Visitor.takes g.R.Inlet g.I.Items _ _ _ _ c.advance_by.new.self d.0 c.in_ok-advance_by.field-0 c.in-Some.field-0
    c.loop-encoder.encoder c.advance_by.new.visitor c.in-Some.is (next.tells _ _ _ d.0 d.1) in
    let was : WasTold g.E.Encoder.has_put g.E.Visitor.takes (plain d.0) on.0 c.advance_by.new.visitor =
    record { before = c.loop-encoder.encoder; put = d.3; told = on.1 } in
    let over = c.in_ok-hand_over.ensures in
    record {
      driven = driven_on g.R.Inlet g.I.Items c.args.reads c.args.reader.now c.loop-encoder.reader c.advance_by.new.reader c.loop-encoder.place
          c.advance_by.new.self
          i.driven next.ready next.unasked next.no_read_failed next.within;
      at_once = told_at_once g.R.Inlet g.I.Items _ _ _ _ _ c.loop-encoder.place d.0 d.1 i.at_once next.sought;
      bound = omega (arith, bound, spent);
      asked = omega (arith, asked, next.few_calls);
      handed = omega (arith, handed, next.few_octets);
      done = done_next g.R.Inlet g.I.Items g.E.Encoder g.W.Outlet _ _ c.args.reader.now c.args.writer.now c.advance_by.new.reader c.advance_by.new.self d.0
          c.loop-encoder.values on.0 c.in-Some.field-0 c.hand_over.new.self c.loop-encoder.writer c.hand_over.new.out d.2 d.4 d.5 on.2
          (over.wrote (plain d.0) on.0 was) (over.put (plain d.0) on.0 was) (over.kept (plain d.0) on.0 was);
    }

-- no value is left
pub returns-in_err-finish-clause-so_far : goal.returns-in_err-finish-clause-so_far
returns-in_err-finish-clause-so_far g c =
    let d = c.loop-encoder.invariant.done in
    let s = plain d.0 in
    let count : _ ≡ _ = length-map d.0 (λ (x : _). x.0) ∙ d.2 in
    let stood = told_none g.E.Visitor.takes g.R.Inlet g.I.Items _ _ _ _ c.advance_by.new.self d.0 c.in_ok-advance_by.field-0 c.loop-encoder.encoder
    c.advance_by.new.visitor c.in_default.is (c.in_ok-advance_by.ensures.tells _ _ _ d.0 d.1) in
    on_err c.from_residual-in_err-finish.result _
    (so_far s (was_read g.E.Visitor.takes g.R.Inlet g.I.Items _ _ _ _ g.met.I.Items.one_stands c.advance_by.new.self s
    (stood_plain g.R.Inlet (telling g.I.Items []) _ _ _ _ c.advance_by.new.self d.0 stood))
    (took_some g.W.Outlet c.args.writer.now c.loop-encoder.writer c.finish.new.out (g.E.Encoder.puts s) (g.E.Encoder.encoding.document s) d.4
    (c.in_err-finish.ensures.front s count)))

pub returns-in_err-finish-clause-one_end : goal.returns-in_err-finish-clause-one_end
returns-in_err-finish-clause-one_end g c =
    let d = c.loop-encoder.invariant.done in
    each_end g.R.Inlet (telling g.I.Items []) _ _ _ c.advance_by.new.reader c.advance_by.new.self d.0
    (told_none g.E.Visitor.takes g.R.Inlet g.I.Items _ _ _ _ c.advance_by.new.self d.0 c.in_ok-advance_by.field-0 c.loop-encoder.encoder
    c.advance_by.new.visitor c.in_default.is (c.in_ok-advance_by.ensures.tells _ _ _ d.0 d.1))

pub returns-clause-converted : goal.returns-clause-converted
returns-clause-converted g c =
    let d = c.loop-encoder.invariant.done in
    let s = plain d.0 in
    let none = c.in_default.is in
    let count : _ ≡ _ = length-map d.0 (λ (x : _). x.0) ∙ d.2 in
    let stood = told_none g.E.Visitor.takes g.R.Inlet g.I.Items _ _ _ _ c.advance_by.new.self d.0 c.in_ok-advance_by.field-0 c.loop-encoder.encoder
    c.advance_by.new.visitor none (c.in_ok-advance_by.ensures.tells _ _ _ d.0 d.1) in
    rw c.answer.ensures (converted_at g.R.Inlet g.I.Items g.W.Outlet g.E.Encoder.encoding _ _ _ _ c.args.writer.now c.finish.new.out c.advance_by.new.self s
    c.loop-encoder.values (c.in_ok-advance_by.ensures.none none) count
    (stood_plain g.R.Inlet (telling g.I.Items []) _ _ _ _ c.advance_by.new.self d.0 stood)
    (took_whole g.W.Outlet c.args.writer.now c.loop-encoder.writer c.finish.new.out (g.E.Encoder.puts s) (g.E.Encoder.encoding.document s) d.4
    (c.in_ok-finish.ensures.wrote s count)))

pub returns-clause-kept : goal.returns-clause-kept
returns-clause-kept g c =
    let d = c.loop-encoder.invariant.done in
    let s = plain d.0 in
    let none = c.in_default.is in
    let count : _ ≡ _ = length-map d.0 (λ (x : _). x.0) ∙ d.2 in
    let stood = told_none g.E.Visitor.takes g.R.Inlet g.I.Items _ _ _ _ c.advance_by.new.self d.0 c.in_ok-advance_by.field-0 c.loop-encoder.encoder
    c.advance_by.new.visitor none (c.in_ok-advance_by.ensures.tells _ _ _ d.0 d.1) in
    rw c.answer.ensures (kept_at g.R.Inlet g.I.Items g.W.Outlet g.E.Encoder.encoding _ _ _ _ c.args.writer.now c.finish.new.out c.advance_by.new.self s
    c.loop-encoder.values (c.in_ok-advance_by.ensures.none none) d.5
    (stood_plain g.R.Inlet (telling g.I.Items []) _ _ _ _ c.advance_by.new.self d.0 stood)
    (took_whole g.W.Outlet c.args.writer.now c.loop-encoder.writer c.finish.new.out (g.E.Encoder.puts s) (g.E.Encoder.encoding.document s) d.4
    (c.in_ok-finish.ensures.wrote s count)))

pub returns-clause-one_end : goal.returns-clause-one_end
returns-clause-one_end g c =
    let d = c.loop-encoder.invariant.done in
    each_end g.R.Inlet (telling g.I.Items []) _ _ _ c.advance_by.new.reader c.advance_by.new.self d.0
    (told_none g.E.Visitor.takes g.R.Inlet g.I.Items _ _ _ _ c.advance_by.new.self d.0 c.in_ok-advance_by.field-0 c.loop-encoder.encoder
    c.advance_by.new.visitor c.in_default.is (c.in_ok-advance_by.ensures.tells _ _ _ d.0 d.1))

-- it was asked on while it wasn't refused
pub returns-in_err-advance_by-clause-at_once : goal.returns-in_err-advance_by-clause-at_once
returns-in_err-advance_by-clause-at_once g c =
    let i = c.loop-encoder.invariant in
    told_at_once g.R.Inlet g.I.Items _ _ _ _ _ c.loop-encoder.place i.done.0 i.done.1 i.at_once c.in_err-advance_by.ensures.sought

pub returns-in_err-hand_over-clause-at_once : goal.returns-in_err-hand_over-clause-at_once
returns-in_err-hand_over-clause-at_once g c =
    let i = c.loop-encoder.invariant in
    told_at_once g.R.Inlet g.I.Items _ _ _ _ _ c.loop-encoder.place i.done.0 i.done.1 i.at_once c.in_ok-advance_by.ensures.sought

pub returns-in_err-finish-clause-at_once : goal.returns-in_err-finish-clause-at_once
returns-in_err-finish-clause-at_once g c =
    let i = c.loop-encoder.invariant in
    told_at_once g.R.Inlet g.I.Items _ _ _ _ _ c.loop-encoder.place i.done.0 i.done.1 i.at_once c.in_ok-advance_by.ensures.sought

pub returns-clause-at_once : goal.returns-clause-at_once
returns-clause-at_once g c =
    let i = c.loop-encoder.invariant in
    told_at_once g.R.Inlet g.I.Items _ _ _ _ _ c.loop-encoder.place i.done.0 i.done.1 i.at_once c.in_ok-advance_by.ensures.sought
