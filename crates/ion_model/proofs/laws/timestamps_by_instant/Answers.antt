use Rattle.std.proofs.Common.{◌≡◌, true, ap, subst}
use Rattle.ion_model.specs.Names.{instant, timestamp_same}
use Rattle.ion_atoms.specs.laws.Equivalence.{timestamp_same-equiv}
use Rattle.ion_atoms.specs.laws.Ties.{timestamp_from}
use Rattle.ion_atoms.specs.laws.Timestamps.{one_timestamp}
use Rattle.ion_model.proofs.laws.timestamps_by_instant.Goals as goal

pub returns : goal.returns
returns c s t hs ht = (
  (λ h. let e = timestamp_from s t h in (ap (λ x. x.precision) e, ap (λ x. x.offset) e, ap instant e)),
  (λ h. subst (λ x. timestamp_same s x ≡ true) (one_timestamp s t hs ht h.0 h.1 h.2) (timestamp_same-equiv.refl s)),
)
