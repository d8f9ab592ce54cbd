use Rattle.std.proofs.Common.{refl, sym}
use Rattle.ion_tokens.specs.Names.{Next, passed}
use Rattle.ion_tokens.specs.machine.LetGo.{behind_gone}
use Rattle.ion_tokens.specs.machine.Machines.{known}
use Rattle.ion_tokens.specs.machine.Views.{scanned}
use Rattle.ion_tokens.proofs.histories.Stepped.{goes_on}
use Rattle.ion_tokens.proofs.runs.Behind.{behind_on}
use Rattle.ion_tokens.proofs.runs.GoesOn.{going_led, going_steady}
use Rattle.ion_tokens.proofs.runs.LetGo.{gone_on_behind}
use Rattle.ion_tokens.proofs.runs.Runs.{next_used}
use Rattle.ion_tokens.proofs.traces.Traced.{step_traced}
use Rattle.ion_tokens.proofs.scanner.Scanner.go_on.Goals as goal

pub returns-in-Ok-clause-ran : goal.returns-in-Ok-clause-ran
returns-in-Ok-clause-ran c = λ _ place.
    let gone = c.args.self.now.gone.octets in
    let after = known c.go_on.new.self in
    going_led c.args.octets.now (scanned c.args.self.now) (behind_gone gone after) c.requires.some c.requires.over
    (gone_on_behind gone (known c.args.self.now.machine) after c.args.octets.now c.in-Ok.ensures.known) place

pub returns-in-Ok-clause-steady : goal.returns-in-Ok-clause-steady
returns-in-Ok-clause-steady c steady =
    let gone = c.args.self.now.gone.octets in
    let machine = c.args.self.now.machine in
    let after = c.go_on.new.self in
    going_steady c.args.octets.now (scanned c.args.self.now) (behind_gone gone (known after)) machine.looked after.looked c.requires.some c.requires.over
    (gone_on_behind gone (known machine) (known after) c.args.octets.now c.in-Ok.ensures.known) c.requires.room c.in-Ok.ensures.looked steady

pub invariant_of-self : goal.invariant_of-self
invariant_of-self c = record {
  steady = λ none.
      let both = c.args.self.now.steady none in
      let gone = c.args.self.now.gone.octets in
      let machine = c.args.self.now.machine in
      let after = c.go_on.new.self in (
        going_steady c.args.octets.now (scanned c.args.self.now) (behind_gone gone (known after)) machine.looked after.looked c.requires.some
            c.requires.over (gone_on_behind gone (known machine) (known after) c.args.octets.now c.in-Ok.ensures.known) c.requires.room c.in-Ok.ensures.looked
            both.0,
        behind_on c.args.self.now.gone (known machine) (known after) c.args.octets.now c.in-Ok.ensures.known both.1,
      );
}

pub returns-in-Ok-clause-goes : goal.returns-in-Ok-clause-goes
returns-in-Ok-clause-goes c = λ _ place u ts ahead h goes.
    let gone = c.args.self.now.gone.octets in
    let s = scanned c.args.self.now in
    let now = behind_gone gone (known c.go_on.new.self) in
    goes_on place s u ts ahead h c.args.octets.now now goes (going_led c.args.octets.now s now c.requires.some c.requires.over
    (gone_on_behind gone (known c.args.self.now.machine) (known c.go_on.new.self) c.args.octets.now c.in-Ok.ensures.known) place)

pub returns-in-Ok-clause-traced : goal.returns-in-Ok-clause-traced
returns-in-Ok-clause-traced c = λ _ place.
    let gone = c.args.self.now.gone.octets in
    let s = scanned c.args.self.now in
    let now = behind_gone gone (known c.go_on.new.self) in
    let ran = going_led c.args.octets.now s now c.requires.some c.requires.over
    (gone_on_behind gone (known c.args.self.now.machine) (known c.go_on.new.self) c.args.octets.now c.in-Ok.ensures.known) place in
    step_traced place s c.args.octets.now (Next now) (passed c.args.octets.now) now ran
    (record { known = refl; counted = next_used place c.args.octets.now s now (sym ran) }, refl, refl)
