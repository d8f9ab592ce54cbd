use Rattle.std.proofs.Common.{rules, ◌++◌, List, [], inl, inr, arith, subst, option_to_list}
use Rattle.ion_streams.specs.Names.{Catalog, Led, Limits, ReadState, Stood, TellsSecond, Twin, Value, events_of, tapes, telling}
use Rattle.ion_streams.proofs.Courses.{Meets, closed_verdict, false_case, left_refused, true_case, works_less}
use Rattle.ion_streams.proofs.SideBySide.{Promised, both_met, closed_kept, left_are_asked, left_goes, ready_told, right_goes, told_so_far, told_with_next}
use Rattle.ion_streams.proofs.Taping.{on_tapes}
use Rattle.ion_streams.proofs.Turns.{Turn, are_asked, at_once_on, in_turn, left_failed, left_read, left_turn, right_failed, right_on, so_far_end, stood_end}
use Rattle.ion_streams.proofs.Unfailed.{heard_alone, stands_heard}
use Rattle.ion_streams.proofs.comparison.compare_places.Given.{Over}
use Rattle.ion_streams.proofs.comparison.compare_places.Goals.{In_ok-meet, else-not-is_open-via-else-not-is_open, else-not-is_open-via-then-not-is_open+else-not-is_open-2}
use Rattle.ion_streams.proofs.comparison.compare_places.Goals as goal

left_kept : (g : Over) → Promised g.I.Items
left_kept g = record { settled = g.met.I.Items.settled; has_told = g.met.I.Items.has_told }

right_kept : (g : Over) → Promised g.J.Items
right_kept g = record { settled = g.met.J.Items.settled; has_told = g.met.J.Items.has_told }

-- The left can't be read on.

pub returns-in_err-found-clause-asked : goal.returns-in_err-found-clause-asked
returns-in_err-found-clause-asked g c = λ a b k l h h'.
    let p = c.loop-tapes in
    let w = p.invariant.stood a b k l h h' in
    let e = c.in_err-found.ensures in
    let kept = e.kept a k c.args.left.now w.0 w.2 in
    let for_next = e.sought a k c.args.left.now w.0 w.2 in
    record {
      in_turn = left_failed g.L.Inlet g.R.Inlet (telling g.I.Items []) (telling g.J.Items []) a b k l _ _ (g.met.I.Items.settled a k) _ _ _ _ _ _
          (λ no. absurd cc) e.closed e.grew w.5.asked;
      left_in_turn = left_turn g.L.Inlet g.R.Inlet (telling g.I.Items []) (telling g.J.Items []) a b k l _ _ p.right_place _ _ w.1 w.3
          (left_read g.L.Inlet g.R.Inlet (telling g.I.Items []) (telling g.J.Items []) a b k l _ _ (g.met.J.Items.settled b l)
          (told_so_far g.J.Items (right_kept g)) (told_with_next g.J.Items (right_kept g)) p.right_place _ _ _ w.0 w.1 w.3
          (ready_told g.J.Items p.right_place p.invariant.right_ready) w.5.right_level for_next w.5.left_asked);
      at_once = (at_once_on g.L.Inlet _ _ _ _ _ w.5.at_once.0 for_next, w.5.at_once.1);
      one_end = (so_far_end g.L.Inlet (telling g.I.Items kept.0) a k _ _ w.0 kept.1, stood_end g.R.Inlet (telling g.J.Items []) b l _ _ _ w.1 w.3);
    }

-- The left is refused.

pub returns-in-Refused-clause-verdict : goal.returns-in-Refused-clause-verdict
returns-in-Refused-clause-verdict g c = λ a b k l h h'.
    let e = c.in_ok-found.ensures in
    let x = left_goes g.L.Inlet g.R.Inlet g.I.Items g.J.Items _ _ _ _ (left_kept g) (right_kept g) _ _ _ _ _ _ _ _ c.in_ok-found.found c.loop-tapes.invariant
    e.closed e.tells e.none e.grew e.sought a b k l h h' in
    let s = x.s ++ option_to_list x.next.value in
    left_refused g.L.Inlet (telling g.I.Items []) g.R.Inlet (telling g.J.Items []) a b k l _ _ _ _ c.loop-tapes.right_place s x.t c.in-Refused.refusal
    (subst (λ (y : ReadState _). Stood g.L.Inlet (telling g.I.Items []) a k c.args.left.now c.read_next.new.reader y s) c.in-Refused.is x.next.stood)
    x.right_stood

pub returns-in-Refused-clause-asked : goal.returns-in-Refused-clause-asked
returns-in-Refused-clause-asked g c = λ a b k l h h'.
    let e = c.in_ok-found.ensures in
    left_are_asked _ _ _ _ _ _ _ _ (left_goes g.L.Inlet g.R.Inlet g.I.Items g.J.Items _ _ _ _ (left_kept g) (right_kept g) _ _ _ _ _ _ _ _ c.in_ok-found.found
    c.loop-tapes.invariant e.closed e.tells e.none e.grew e.sought a b k l h h')

-- The right can't be read on.

pub returns-in_err-other-clause-asked : goal.returns-in_err-other-clause-asked
returns-in_err-other-clause-asked g c = λ a b k l h h'.
    let e = c.in_ok-found.ensures in
    let x = left_goes g.L.Inlet g.R.Inlet g.I.Items g.J.Items _ _ _ _ (left_kept g) (right_kept g) _ _ _ _ _ _ _ _ c.in_ok-found.found c.loop-tapes.invariant
    e.closed e.tells e.none e.grew e.sought a b k l h h' in
    let r = c.in_err-other.ensures in
    let place = c.read_next.new.place in
    let kept = r.kept b l c.args.right.now x.t x.right_stood in
    let for_next = r.sought b l c.args.right.now x.t x.right_stood in
    record {
      in_turn = in_turn g.L.Inlet g.R.Inlet (telling g.I.Items []) (telling g.J.Items []) a b k l _ _ place _ _ _ x.next.stood
          (right_on g.L.Inlet g.R.Inlet (telling g.I.Items []) (telling g.J.Items []) a b k l _ _ (g.met.I.Items.settled a k)
          (told_so_far g.I.Items (left_kept g)) (told_with_next g.I.Items (left_kept g)) place _ _ _ _ x.t x.next.stood
          (ready_told g.I.Items place e.ready) c.in_default.not-Refused x.ahead for_next x.asked);
      left_in_turn = right_failed g.L.Inlet g.R.Inlet (telling g.I.Items []) (telling g.J.Items []) a b k l _ _ (g.met.J.Items.settled b l) _ _ _ _ _ _
          (λ no. absurd cc) r.closed r.grew x.left_asked;
      at_once = (x.at_once.0, at_once_on g.R.Inlet _ _ _ _ _ x.at_once.1 for_next);
      one_end = (stood_end g.L.Inlet (telling g.I.Items []) a k _ _ place _ x.next.stood, so_far_end g.R.Inlet (telling g.J.Items kept.0) b l _ _ x.t kept.1);
    }

-- Both were read on, and what they gave can't be compared.

pub returns-in_err-meet-clause-asked : goal.returns-in_err-meet-clause-asked
returns-in_err-meet-clause-asked g c = λ a b k l h h'.
    let e = c.in_ok-found.ensures in
    let x = left_goes g.L.Inlet g.R.Inlet g.I.Items g.J.Items _ _ _ _ (left_kept g) (right_kept g) _ _ _ _ _ _ _ _ c.in_ok-found.found c.loop-tapes.invariant
    e.closed e.tells e.none e.grew e.sought a b k l h h' in
    let r = c.in_ok-other.ensures in
    let y = right_goes g.L.Inlet g.R.Inlet g.I.Items g.J.Items _ _ _ _ (left_kept g) (right_kept g) _ _ _ _ _ _ _ _ _ _ _ c.in_ok-other.other e.ready
    c.in_default.not-Refused r.closed r.tells r.none r.grew r.sought a b k l x in
    are_asked g.L.Inlet g.R.Inlet (telling g.I.Items []) (telling g.J.Items []) a b k l _ _ c.read_next.new.place c.read_next-in-loop-tapes.new.place _ _ _ _
    x.next.stood y.next.stood y.turn

-- Both were read on, and compared.

both_stood : (g : Over) (c : In_ok-meet g) (a b : Catalog) (k l : Limits)
    → Stood g.L.Inlet (telling g.I.Items []) a k c.args.left.now c.args.left.now c.args.left_place.now []
    → Stood g.R.Inlet (telling g.J.Items []) b l c.args.right.now c.args.right.now c.args.right_place.now [] → (s t : List Value)
    × Stood g.L.Inlet (telling g.I.Items []) a k c.args.left.now c.read_next.new.reader c.read_next.new.place s
    × Stood g.R.Inlet (telling g.J.Items []) b l c.args.right.now c.read_next-in-loop-tapes.new.reader c.read_next-in-loop-tapes.new.place t
    × Meets c.meet.new.self c.read_next.new.place c.read_next-in-loop-tapes.new.place s t
    × Turn g.L.Inlet g.R.Inlet (telling g.I.Items []) (telling g.J.Items []) a b k l c.args.left.now c.args.right.now c.read_next.new.place
    c.read_next-in-loop-tapes.new.place c.read_next.new.reader c.read_next-in-loop-tapes.new.reader s t
both_stood g c a b k l h h' =
    let e = c.in_ok-found.ensures in
    let x = left_goes g.L.Inlet g.R.Inlet g.I.Items g.J.Items _ _ _ _ (left_kept g) (right_kept g) _ _ _ _ _ _ _ _ c.in_ok-found.found c.loop-tapes.invariant
    e.closed e.tells e.none e.grew e.sought a b k l h h' in
    let r = c.in_ok-other.ensures in
    let y = right_goes g.L.Inlet g.R.Inlet g.I.Items g.J.Items _ _ _ _ (left_kept g) (right_kept g) _ _ _ _ _ _ _ _ _ _ _ c.in_ok-other.other e.ready
    c.in_default.not-Refused r.closed r.tells r.none r.grew r.sought a b k l x in
    let begun : Twin = record c.clear.new.self { first = c.read_next.new.visitor } in
    let met = both_met g.L.Inlet g.R.Inlet g.I.Items g.J.Items _ _ _ _ (left_kept g) (right_kept g) c.loop-tapes.course c.meet.new.self _ _ _ _ _ _ _ _
    c.compares-compared.result (λ v. Led tapes (events_of v) c.clear.new.self.first c.read_next.new.visitor)
    (λ w. Led TellsSecond (events_of w) begun c.read_next-in-loop-tapes.new.visitor) c.in_ok-found.found c.in_ok-other.other _ _ c.compares-compared.ensures
    (λ v w is_v is_w held. c.in_ok-meet.ensures.met v w is_v is_w (on_tapes c.loop-tapes.course _ begun _ v w c.clear.ensures.first
    (record { at = c.clear.ensures.second.at; along = c.clear.ensures.second.along }) held)) c.is_some.ensures c.is_some-in-loop-tapes.ensures
    e.closed r.closed e.none r.none a b k l x y in
    (x.s ++ option_to_list x.next.value, x.t ++ option_to_list y.next.value, x.next.stood, y.next.stood, met, y.turn)

pub returns-then-not-is_open-2-clause-verdict : goal.returns-then-not-is_open-2-clause-verdict
returns-then-not-is_open-2-clause-verdict g c = λ a b k l h h'.
    let w = both_stood g (goal.at.returns-then-not-is_open-2-clause-verdict g c).In_ok-meet a b k l h h' in
    rw c.verdict.ensures (closed_verdict g.L.Inlet (telling g.I.Items []) g.R.Inlet (telling g.J.Items []) a b k l _ _ _ _ c.read_next.new.place
    c.read_next-in-loop-tapes.new.place c.meet.new.self w.0 w.1 w.2 w.3 w.4 c.in_default.not-Refused
    (false_case c.is_open.result _ _ c.is_open.ensures (search rules))
    (false_case c.is_open-then-not-is_open.result _ _ c.is_open-then-not-is_open.ensures (search rules)))

pub returns-then-not-is_open-2-clause-asked : goal.returns-then-not-is_open-2-clause-asked
returns-then-not-is_open-2-clause-asked g c = λ a b k l h h'.
    let w = both_stood g (goal.at.returns-then-not-is_open-2-clause-asked g c).In_ok-meet a b k l h h' in
    are_asked g.L.Inlet g.R.Inlet (telling g.I.Items []) (telling g.J.Items []) a b k l _ _ c.read_next.new.place c.read_next-in-loop-tapes.new.place _ _ _ _
    w.2 w.3 w.5

pub loop-tapes-preserved : goal.loop-tapes-preserved
loop-tapes-preserved g c =
    let p = c.loop-tapes in
    let i = p.invariant in
    let e = c.in_ok-found.ensures in
    let r = c.in_ok-other.ensures in
    let less = works_less g.I.Items g.J.Items p.left_place c.read_next.new.place p.right_place c.read_next-in-loop-tapes.new.place _ _ i.open_still e.spends
    (closed_kept _ _ p.left_place _ c.in_ok-found.found e.closed) r.spends (closed_kept _ _ p.right_place _ c.in_ok-other.other r.closed) in
    let right_heard = heard_alone g.J.Items g.R.Inlet p.right_place _ _ i.right_heard in
    record {
      left_ready = e.ready;
      right_ready = r.ready;
      left_within = λ reads h. e.within c.args.left.now reads (i.left_within reads h);
      right_within = λ reads h. r.within c.args.right.now reads (i.right_within reads h);
      left_asked = omega (arith, i.left_asked, e.few_calls);
      right_asked = omega (arith, i.right_asked, r.few_calls);
      left_handed = omega (arith, i.left_handed, e.few_octets);
      right_handed = omega (arith, i.right_handed, r.few_octets);
      left_heard = record { either = inr (stands_heard g.I.Items g.L.Inlet _ _ p.left_place i.left_heard e.unasked e.no_read_failed) };
      right_heard = record { either = inr (stands_heard g.J.Items g.R.Inlet _ _ p.right_place right_heard r.unasked r.no_read_failed) };
      bound = omega (arith, i.bound, less, c.in_ok-meet.ensures.counted);
      open_still = elim c.else-not-is_open.branch [
        | else-not-is_open-via-then-not-is_open+else-not-is_open-2 w ↦ inr
            (true_case w.is_open-then-not-is_open.result _ _ w.is_open-then-not-is_open.ensures (search rules))
        | else-not-is_open-via-else-not-is_open w ↦ inl (true_case c.is_open.result _ _ c.is_open.ensures (search rules))
      ];
      stood = both_stood g (goal.at.loop-tapes-preserved g c).In_ok-meet;
    }
