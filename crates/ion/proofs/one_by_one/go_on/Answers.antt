use Rattle.std.proofs.Common.{ℕ, [], ◌∷◌, ◌++◌, refl, Some, None}
use Rattle.std.proofs.lemmas.Bool.{false≢true}
use Rattle.ion.specs.Names.{Value}
use Rattle.ion_streams.proofs.Passes.{not_refused, stood_next}
use Rattle.ion.proofs.Nexts.{front_at, refused_not}
use Rattle.ion.proofs.one_by_one.go_on.Goals as goal

pub returns-in-None-clause-gives : goal.returns-in-None-clause-gives
returns-in-None-clause-gives g c = λ catalog limits first s h.
    let next = c.in_ok-advance.ensures in
    record {
      stood = stood_next g.R.Inlet g.I.Items catalog limits first c.args.reader.now c.advance.new.reader c.args.place.now c.advance.new.self s None None refl
          (rw c.in-None.is at next.closed) (rw c.in-None.is at (next.gives catalog limits first)) h;
      front = λ no. absurd (false≢true no);
      refused = λ no. refl;
    }

pub returns-in-Some-clause-gives : goal.returns-in-Some-clause-gives
returns-in-Some-clause-gives g c = λ catalog limits first s h.
    let next = c.in_ok-advance.ensures in
    let found : Value × ℕ = (c.in-Some.value, c.in-Some.field-0-1) in
    let closed = rw c.in-Some.is at next.closed in
    let gives = rw c.in-Some.is at (next.gives catalog limits first) in
    let stood = stood_next g.R.Inlet g.I.Items catalog limits first c.args.reader.now c.advance.new.reader c.args.place.now c.advance.new.self s (Some found)
    (Some c.in-Some.value) refl closed gives h in
    let fine = not_refused g.R.Inlet g.I.Items catalog limits first c.args.reader.now c.advance.new.reader c.args.place.now c.advance.new.self s found closed
    gives h in
    record {
      stood = stood;
      front = λ some. front_at g.R.Inlet g.I.Items catalog limits (g.met.I.Items.settled catalog limits) g.met.I.Items.given_so_far
          g.met.I.Items.given_with_next
          (g.met.I.Items.exact catalog limits) (g.met.I.Items.one_stream catalog limits) first c.advance.new.reader c.advance.new.self
          (s ++ c.in-Some.value ∷ []) next.ready fine stood;
      refused = λ refused. absurd (refused_not c.advance.new.self fine refused);
    }
