use Rattle.std.proofs.Common.{◌≡◌, ℕ, ◌+◌, ◌≤◌, List, ◌++◌, take}
use Rattle.ion.specs.Spots.{spot_of}
use Rattle.ion.proofs.spot.Spot.pass.Given as goal

abbrev pub invariant-loop-octet : goal.invariant-loop-octet
invariant-loop-octet l = record {
  lines : l.self.lines ≤ l.fn.self.lines + l.octet-index;
  octets : l.self.octets ≤ l.fn.self.octets + l.octet-index;
  characters : l.self.characters ≤ l.fn.self.characters + l.octet-index;
  passed : (before : List ℕ) → l.fn.self ≡ spot_of before → l.self ≡ spot_of (before ++ take l.octet-index l.octets);
}
