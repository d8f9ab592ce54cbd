use Rattle.std.proofs.Common.{◌≡◌, ap, subst, sym, ◌∙◌, arith, get_or, length-drop}
use Rattle.ion_tokens.specs.Names.{Next, StaysSteady, feed}
use Rattle.ion_tokens.specs.machine.Machines.{known, outcome_in}
use Rattle.ion_tokens.specs.machine.Table.{next}
use Rattle.ion_tokens.proofs.bounds.Pending.{took_one}
use Rattle.ion_tokens.proofs.runs.GoesOn.{TakesFront, counts, leads_on, looks_on, stays_steady, within_piece}
use Rattle.ion_tokens.proofs.runs.Runs.{Between, acts_between, feed_used, run_more}
use Rattle.ion_tokens.proofs.machine.Machine.run.Goals as goal

-- the mode went on
pub loop-at-preserved-then-count-gt0 : goal.loop-at-preserved-then-count-gt0
loop-at-preserved-then-count-gt0 c =
    let s = known c.loop-at.self in
    let s' = known c.go_on.new.self in
    let piece = c.args.piece.now in
    let at = c.loop-at.at in
    let k = c.front-count.result in
    let n = c.loop-at.self.looked in
    let m = c.go_on.new.self.looked in
    let taken : TakesFront piece at k s s' n m = record {
      some = c.if-count-gt0.true;
      within = c.front-count.ensures.within;
      over =
          c.front-count.ensures.over;
      taken = c.in_ok-go_on.ensures.known;
      looked = c.in_ok-go_on.ensures.looked;
    } in
    record {
      within = within_piece piece at k s s' n m taken c.loop-at.invariant.within;
      used = let more = counts piece at k s s' n m taken in omega arith;
      same = leads_on c.args.place piece at k s s' n m taken ∙ c.loop-at.invariant.same;
      looked = let more = looks_on piece at k s s' n m taken in let before = c.loop-at.invariant.looked in omega arith;
      steady = λ h. stays_steady c.args.place piece at k s s' n m taken (let l = length-drop at piece in omega arith) (c.loop-at.invariant.steady h);
    }

-- the octet was used
pub loop-at-preserved : goal.loop-at-preserved
loop-at-preserved c =
    let s = known c.loop-at.self in
    let s' = known c.take_up.new.self in
    let went : feed c.args.place s (get_or c.args.piece.now c.loop-at.at 0) ≡ Next s' =
    sym c.in_ok-ended.ensures.does ∙ ap (λ t. outcome_in t c.take_up.new.self) c.in-Next.is in
    record {
      within = omega arith;
      used = let one = feed_used c.args.place s s' _ went in omega arith;
      same = run_more c.args.place c.args.piece.now c.loop-at.at s s' c.loop-at-test.true went ∙ c.loop-at.invariant.same;
      looked = let more = c.take_up.ensures.looked in let before = c.loop-at.invariant.looked in omega arith;
      steady = λ h. subst (λ t. StaysSteady (outcome_in t c.take_up.new.self) c.take_up.new.self.looked) c.in-Next.is
          (c.in_ok-ended.ensures.steady (c.loop-at.invariant.steady h));
    }

-- the octet ended a token, or was refused
pub returns-in_default-clause-steady : goal.returns-in_default-clause-steady
returns-in_default-clause-steady c = λ h. c.in_ok-ended.ensures.steady (c.loop-at.invariant.steady h)

pub returns-in_default-clause-looked : goal.returns-in_default-clause-looked
returns-in_default-clause-looked c =
    let s = known c.loop-at.self in
    let x = outcome_in c.in_ok-ended.ended c.take_up.new.self in
    let between = subst (λ y. Between y s.used 1) (sym c.in_ok-ended.ensures.does)
    (acts_between c.args.place s (get_or c.args.piece.now c.loop-at.at 0)
    (next c.args.place s.colon s.mode (get_or c.args.piece.now c.loop-at.at 0))) in
    let one = took_one x c.args.self.now.used c.loop-at.at s.used between c.loop-at.invariant.used in
    let more = c.take_up.ensures.looked in
    let before = c.loop-at.invariant.looked in
    omega arith
