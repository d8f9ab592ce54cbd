use Rattle.std.proofs.Common.{◌-◌, ◌*◌, ◌/◌, length, refl, subst, sym}
use Rattle.std.specs.Prelude.{ℕ, List, take}
use Rattle.ion_tokens.specs.machine.LetGo.{StandsFor}
use Rattle.ion_tokens.proofs.runs.Base64Groups.{all_but_last}
use Rattle.ion_tokens.proofs.blobs_let_go.groups.Goals as goal

pub returns-in-Ok-true-clause-stands : goal.returns-in-Ok-true-clause-stands
returns-in-Ok-true-clause-stands c =
    let text = c.args.text.now in
    let count : ℕ = length text / 4 * 4 - 4 in
    subst (λ (octets : List ℕ). StandsFor (take count text) octets) (sym c.truncate.ensures.items)
    (all_but_last text c.decoded.new.octets.items count refl c.requires (c.in-Ok-true.ensures.some c.in-Ok-true.field-0-test))
