use Rattle.std.proofs.Common.{rules, ◌≡◌, ◌-◌, ◌+◌, ◌<◌, ℕ, suc, List, Some, true, Err, length, take, drop, [], arith, ap, sym, ◌∙◌, subst, refl, length-drop}
use Rattle.std.proofs.lemmas.List.{take_rest}
use Rattle.std.proofs.Math.Seq.{drop-cons}
use Rattle.std.specs.Prelude.{slice_index}
use Rattle.std.specs.Option.{is_some}
use Rattle.ion_text.specs.Names.{IsWithin, Reached, Reason, Refusal, Taken, TextWalk, scanned, state_of, told}
use Rattle.ion_text.specs.walk.Advances.{AdvancesBy, gone}
use Rattle.ion_text.proofs.Advancing.{LedSo, led_end, led_leaves, led_none, led_on, led_refused, led_second, led_tells}
use Rattle.ion_text.proofs.PieceEnds.{begins_some, onward_where}
use Rattle.ion_text.proofs.WalkRuns.{still_pending}
use Rattle.ion_text.proofs.walk.TextWalk.advance.Goals as goal

pub loop-i-init : goal.loop-i-init
loop-i-init g c =
    let zero : (scanned c.args.self.now.scanner).used ≡ (scanned c.args.self.now.scanner).used + 0 = omega arith in
    record {
      i = omega arith;
      ran = λ fs ss h. led_none g.V.Visitor.takes fs ss c.args.self.now _ c.args.piece.now c.args.visitor.now h refl;
      used = zero;
      none = refl;
      still = λ none. (refl, refl);
      fine = c.requires.fine;
      steady = λ x. x;
      setting = record { catalog = refl; limits = refl; failed = refl };
    }

pub loop-i-preserved : goal.loop-i-preserved
loop-i-preserved g c =
    let first = c.args.self.now in
    let m = c.loop-i.self in
    let n = c.read_piece.new.self in
    let piece = c.args.piece.now in
    let i = c.loop-i.i in
    let k = gone m n in
    let next = c.gone-i.result in
    let rest = take (length piece - i) (drop i piece) in
    let size : length rest ≡ length piece - i = ap (λ (w : List ℕ). length w) (take_rest piece i) ∙ length-drop i piece in
    let h = c.loop-i.invariant in
    let on = c.in-Ok-Uses.ensures.on in
    let had = h.used in
    let onward : next ≡ i + k = omega (arith, c.gone-i.ensures, c.used-before.ensures) in
    let within = subst (λ (t : Taken). IsWithin (length rest) k t) c.in-Ok-Uses.field-0-is c.in-Ok-Uses.ensures.within in
    record {
      i = omega (arith, within.1);
      ran =
          λ fs ss holds.
          let x = h.ran fs ss holds in
          subst (λ (j : ℕ). LedSo g.V.Visitor.takes fs ss first n piece j c.args.visitor.now c.read_piece.new.visitor) (sym onward)
          (led_on g.V.Visitor.takes first m piece i fs ss c.args.visitor.now c.loop-i.visitor x (ap (λ (b : _). b.now) h.setting.catalog) h.setting.limits
          h.used n c.read_piece.new.visitor k
          (subst (λ (t : Taken). Reached g.V.Visitor.takes (told x.frames x.notes) m.catalog.now m.limits (scanned m.scanner).used
          (state_of m x.frames x.notes) rest k t n c.loop-i.visitor c.read_piece.new.visitor) c.in-Ok-Uses.field-0-is
          (c.in-Ok-Uses.ensures.took x.frames x.notes x.went.holds)));
      used = omega arith;
      none = c.in-Ok-Uses.ensures.same.awaited ∙ h.none;
      still = λ none. absurd (omega (arith, none, within.0));
      fine = c.in-Ok-Uses.ensures.fine;
      steady = λ x. c.in-Ok-Uses.ensures.steady (h.steady x);
      setting = search rules;
    }

pub returns-in-Ok-Tells-clause-does : goal.returns-in-Ok-Tells-clause-does
returns-in-Ok-Tells-clause-does g c = λ fs ss holds.
    let first = c.args.self.now in
    let m = c.loop-i.self in
    let n = c.read_piece.new.self in
    let piece = c.args.piece.now in
    let i = c.loop-i.i in
    let k = gone m n in
    let rest = take (length piece - i) (drop i piece) in
    let h = c.loop-i.invariant in
    let on = c.in-Ok-Tells.ensures.on in
    let onward : i + k ≡ c.gone.result = omega (arith, h.used, c.gone.ensures, c.used-before.ensures) in
    let x = h.ran fs ss holds in
    subst (λ (j : ℕ). AdvancesBy g.V.Visitor.takes (told fs ss) first.catalog.now first.limits (is_some first.awaited) (scanned first.scanner).used
    (state_of first fs ss) piece j true n c.args.visitor.now c.read_piece.new.visitor) onward
    (led_tells g.V.Visitor.takes first m piece i fs ss c.args.visitor.now c.loop-i.visitor x (ap (λ (b : _). b.now) h.setting.catalog) h.setting.limits
    h.used n c.read_piece.new.visitor k h.i (c.in-Ok-Tells.ensures.same.awaited ∙ h.none)
    (subst (λ (t : Taken). Reached g.V.Visitor.takes (told x.frames x.notes) m.catalog.now m.limits (scanned m.scanner).used
    (state_of m x.frames x.notes) rest k t n c.loop-i.visitor c.read_piece.new.visitor) c.in-Ok-Tells.field-0-is
    (c.in-Ok-Tells.ensures.took x.frames x.notes x.went.holds)))

pub returns-in-Err-clause-does : goal.returns-in-Err-clause-does
returns-in-Err-clause-does g c = λ fs ss holds other.
    let first = c.args.self.now in
    let m = c.loop-i.self in
    let h = c.loop-i.invariant in
    let x = h.ran fs ss holds in
    let same = c.with_memory_at.ensures.other other in
    led_refused g.V.Visitor.takes first m c.args.piece.now c.loop-i.i fs ss c.args.visitor.now c.loop-i.visitor x
    (ap (λ (b : _). b.now) h.setting.catalog) h.setting.limits h.used
    (record { offset = c.read_piece.new.refused; reason = c.in-Err.reason }) c.loop-i-test.true
    (c.in-Err.ensures.took x.frames x.notes x.went.holds (λ e. other (ap (λ (q : Refusal). q.reason) same ∙ e)))
    ∙ ap (λ q. record { given = []; now = Err q }) (sym same)

pub returns-then-used-eq0-clause-does : goal.returns-then-used-eq0-clause-does
returns-then-used-eq0-clause-does g c = λ fs ss holds other.
    let first = c.args.self.now in
    let m = c.loop-i.self in
    let n = c.read_piece.new.self in
    let piece = c.args.piece.now in
    let i = c.loop-i.i in
    let k = gone m n in
    let rest = take (length piece - i) (drop i piece) in
    let h = c.loop-i.invariant in
    let x = h.ran fs ss holds in
    let on = c.in-Ok-Leaves.ensures.on in
    let none : i + k ≡ 0 = omega (arith, h.used, c.gone-used.ensures, c.used-before.ensures, c.if-used-eq0.true) in
    led_second g.V.Visitor.takes first m piece i fs ss c.args.visitor.now c.loop-i.visitor x (ap (λ (b : _). b.now) h.setting.catalog) h.setting.limits
    h.used n c.read_piece.new.visitor k (sym c.is_some-again.ensures ∙ c.if-again.true) none
    (subst (λ (t : Taken). Reached g.V.Visitor.takes (told x.frames x.notes) m.catalog.now m.limits (scanned m.scanner).used
    (state_of m x.frames x.notes) rest k t n c.loop-i.visitor c.read_piece.new.visitor) c.in-Ok-Leaves.field-0-is
    (c.in-Ok-Leaves.ensures.took x.frames x.notes x.went.holds))
    ∙ ap (λ j. record { given = []; now = Err (record { offset = j + 1; reason = Reason.Unexpected }) }) (sym c.used-before.ensures)

pub returns-in-Ok-Leaves-clause-does : goal.returns-in-Ok-Leaves-clause-does
returns-in-Ok-Leaves-clause-does g c = λ fs ss holds.
    let first = c.args.self.now in
    let m = c.loop-i.self in
    let n = c.read_piece.new.self in
    let piece = c.args.piece.now in
    let i = c.loop-i.i in
    let k = gone m n in
    let rest = take (length piece - i) (drop i piece) in
    let h = c.loop-i.invariant in
    let x = h.ran fs ss holds in
    let on = c.in-Ok-Leaves.ensures.on in
    let all : i + k ≡ c.gone-used.result = omega (arith, h.used, c.gone-used.ensures, c.used-before.ensures) in
    let onward : is_some first.awaited ≡ true → 0 < i + k =
    λ a. subst (λ (j : ℕ). 0 < j) (sym all) (onward_where c.is_some-again.result c.gone-used.result c.else-again.either (c.is_some-again.ensures ∙ a)) in
    let y = subst (λ (t : Taken). Reached g.V.Visitor.takes (told x.frames x.notes) m.catalog.now m.limits (scanned m.scanner).used
    (state_of m x.frames x.notes) rest k t n c.loop-i.visitor c.read_piece.new.visitor) c.in-Ok-Leaves.field-0-is
    (c.in-Ok-Leaves.ensures.took x.frames x.notes x.went.holds) in
    let last : TextWalk = record n { awaited = Some (slice_index piece c.gone-used.result) } in
    subst (λ (j : ℕ). AdvancesBy g.V.Visitor.takes (told fs ss) first.catalog.now first.limits (is_some first.awaited) (scanned first.scanner).used
    (state_of first fs ss) piece j true last c.args.visitor.now c.read_piece.new.visitor) all
    (led_leaves g.V.Visitor.takes first m piece i fs ss c.args.visitor.now c.loop-i.visitor x (ap (λ (b : _). b.now) h.setting.catalog) h.setting.limits
    h.used n c.read_piece.new.visitor k last h.i onward refl y.2.holds (ap (λ (j : ℕ). Some (slice_index piece j)) (sym all)) y)

pub returns-clause-does : goal.returns-clause-does
returns-clause-does g c = λ fs ss holds.
    let first = c.args.self.now in
    let m = c.loop-i.self in
    let h = c.loop-i.invariant in
    led_end g.V.Visitor.takes first m c.args.piece.now c.loop-i.i fs ss c.args.visitor.now c.loop-i.visitor (h.ran fs ss holds)
    (ap (λ (b : _). b.now) h.setting.catalog) h.setting.limits h.used (omega arith) (begins_some first.awaited c.args.piece.now c.requires.begins)
    h.i h.none

pub returns-clause-still : goal.returns-clause-still
returns-clause-still g c = λ none.
    let h = c.loop-i.invariant in
    let size : length c.args.piece.now ≡ 0 = ap (λ (w : List ℕ). length w) none in
    let at : c.loop-i.i ≡ 0 = let inside = h.i in omega arith in
    let same = h.still at in
    still_pending c.args.self.now c.loop-i.self c.args.piece.now c.requires.begins none same.0 same.1 h.none

pub returns-in-Ok-Leaves-clause-next : goal.returns-in-Ok-Leaves-clause-next
returns-in-Ok-Leaves-clause-next g c =
    let piece = c.args.piece.now in
    let i = c.loop-i.i in
    let k = gone c.loop-i.self c.read_piece.new.self in
    let rest = take (length piece - i) (drop i piece) in
    let size : length rest ≡ length piece - i = ap (λ (w : List ℕ). length w) (take_rest piece i) ∙ length-drop i piece in
    let within = subst (λ (t : Taken). IsWithin (length rest) k t) c.in-Ok-Leaves.field-0-is c.in-Ok-Leaves.ensures.within in
    let on = c.in-Ok-Leaves.ensures.on in
    let all : i + k ≡ c.gone-used.result = omega (arith, c.loop-i.invariant.used, c.gone-used.ensures, c.used-before.ensures) in
    (drop (suc c.gone-used.result) piece, drop-cons piece c.gone-used.result 0 (omega (arith, size, within, all)))

pub returns-in-Err-clause-decides : goal.returns-in-Err-clause-decides
returns-in-Err-clause-decides g c = λ other.
    let same = c.with_memory_at.ensures.other other in
    let h = c.loop-i.invariant in
    let i = c.loop-i.i in
    let piece = c.args.piece.now in
    let within = c.in-Err.ensures.decides (λ e. other (ap (λ (q : Refusal). q.reason) same ∙ e)) in
    let at = ap (λ (q : Refusal). q.offset) same in
    let few = h.i in
    let size : length (take (length piece - i) (drop i piece)) ≡ length piece - i = ap (λ (w : List ℕ). length w) (take_rest piece i) ∙ length-drop i piece in
    (omega (arith, within.0, at, h.used), omega (arith, within.1, at, h.used, size))
