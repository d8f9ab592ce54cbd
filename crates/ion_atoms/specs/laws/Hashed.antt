-- Timestamps that are equal feed a hasher alike.
use Rattle.std.proofs.Common.{◌≡◌, true, ap}
use Rattle.ion_atoms.specs.Hashed.{timestamp_fed}
use Rattle.ion_atoms.specs.Timestamps.{TimestampParts, timestamp_same}
use Rattle.ion_atoms.specs.laws.Ties.{timestamp_from}

-- timestamps that are the same feed a hasher alike
pub timestamps_alike : (s t : TimestampParts) → timestamp_same s t ≡ true → timestamp_fed s ≡ timestamp_fed t
timestamps_alike s t h = ap timestamp_fed (timestamp_from s t h)
