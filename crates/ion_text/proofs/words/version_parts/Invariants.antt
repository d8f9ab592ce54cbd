use Rattle.std.proofs.Common.{◌≡◌, length}
use Rattle.ion_text.specs.Names.{version_parts}
use Rattle.ion_text.proofs.Versions.{since}
use Rattle.ion_text.proofs.words.version_parts.Given as goal

abbrev pub invariant-loop-octet : goal.invariant-loop-octet
invariant-loop-octet l = version_parts l.octets ≡ version_parts (since l.some l.rest)

abbrev pub decreases-loop-octet : goal.decreases-loop-octet
decreases-loop-octet l = length l.rest
