use Rattle.std.proofs.Common.{◌≡◌, [], ◌++◌, Bool, Ok, refl, ap, reverse, rules, subst, sym}
use Rattle.ion_binary.specs.Names.{Closes, deliver, events_of, heard, setting_of, spot_of}
use Rattle.ion_visiting.specs.laws.Filters.{hears_none}
use Rattle.ion_binary.specs.walking.Holds.{told_in}
use Rattle.ion_binary.proofs.Ending.{IsLeft, left_at_top, left_behind, left_goes, pushed}
use Rattle.ion_binary.proofs.walking.BinaryWalk.containers_end.Goals as goal

pub loop-container-init : goal.loop-container-init
loop-container-init g c = record {
  left = λ fs v h. (
    fs,
    v,
    refl,
    record {
      behind = h;
      hears = hears_none g.V.Visitor.takes (heard (told_in fs ++ events_of v)) (heard (told_in fs ++ events_of v))
          c.args.visitor.now refl;
    },
  );
  moves = search rules;
}

pub loop-container-preserved : goal.loop-container-preserved
loop-container-preserved g c =
    let l = c.loop-container.self in
    let p = record l { frames = c.pop.new.self } in
    let k = c.in-Some.container in
    let new = c.behind_value.new.self in
    let first = c.args.visitor.now in
    let b = c.behind_value.new.visitor in
    record {
      left = λ fs v h.
          let o = deliver (setting_of c.args.self.now) (spot_of c.args.self.now) fs v in
          let es = told_in fs ++ events_of v in
          subst (λ r. IsLeft g.V.Visitor.takes o es first r b) (sym (c.stays_open.ensures.none c.if-stays_open.false))
          (subst (λ (x : Bool). Closes g.V.Visitor.takes es o (Ok x) new first b) c.in-Ok-true.field-0-test
          (left_behind g.V.Visitor.takes o es first l p k (Ok c.in-Ok-true.field-0) new c.loop-container.visitor b
          (c.loop-container.invariant.left fs v h)
          (pushed c.pop.new.self.items l.frames.items k c.in-Some.ensures.items) refl refl refl c.in-Ok-true.ensures.does));
      moves = search rules;
    }

pub returns-then-stays_open-clause-does : goal.returns-then-stays_open-clause-does
returns-then-stays_open-clause-does g c =
    let l = c.loop-container.self in
    let p = record l { frames = c.pop.new.self } in
    let k = c.in-Some.container in
    let new = c.behind_value.new.self in
    let first = c.args.visitor.now in
    let b = c.behind_value.new.visitor in
    λ fs v h.
    let o = deliver (setting_of c.args.self.now) (spot_of c.args.self.now) fs v in
    let es = told_in fs ++ events_of v in
    left_goes g.V.Visitor.takes o es first new c.stays_open.new.self b
    (subst (λ (x : Bool). Closes g.V.Visitor.takes es o (Ok x) new first b) c.in-Ok-true.field-0-test
    (left_behind g.V.Visitor.takes o es first l p k (Ok c.in-Ok-true.field-0) new c.loop-container.visitor b
    (c.loop-container.invariant.left fs v h)
    (pushed c.pop.new.self.items l.frames.items k c.in-Some.ensures.items) refl refl refl c.in-Ok-true.ensures.does))
    (c.stays_open.ensures.does c.if-stays_open.true)

pub returns-in-Ok-false-clause-does : goal.returns-in-Ok-false-clause-does
returns-in-Ok-false-clause-does g c =
    let l = c.loop-container.self in
    let p = record l { frames = c.pop.new.self } in
    let k = c.in-Some.container in
    let new = c.behind_value.new.self in
    let first = c.args.visitor.now in
    let b = c.behind_value.new.visitor in
    λ fs v h.
    let o = deliver (setting_of c.args.self.now) (spot_of c.args.self.now) fs v in
    let es = told_in fs ++ events_of v in
    subst (λ (x : Bool). Closes g.V.Visitor.takes es o (Ok x) new first b) c.in-Ok-false.field-0-test
    (left_behind g.V.Visitor.takes o es first l p k (Ok c.in-Ok-false.field-0) new c.loop-container.visitor b (c.loop-container.invariant.left fs v h)
    (pushed c.pop.new.self.items l.frames.items k c.in-Some.ensures.items) refl refl refl c.in-Ok-false.ensures.does)

pub returns-clause-does : goal.returns-clause-does
returns-clause-does g c =
    let l = c.loop-container.self in
    let none : l.frames.items ≡ [] = search rules in
    λ fs v h.
    left_at_top g.V.Visitor.takes (deliver (setting_of c.args.self.now) (spot_of c.args.self.now) fs v) (told_in fs ++ events_of v)
    c.args.visitor.now l
    c.give.result c.give.new.self c.loop-container.visitor (c.loop-container.invariant.left fs v h) (ap reverse none) c.give.ensures.does
