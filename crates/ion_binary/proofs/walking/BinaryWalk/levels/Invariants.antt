use Rattle.std.proofs.Common.{◌≡◌, ◌≤◌, map, reverse, take}
use Rattle.ion_binary.specs.Names.{levels, name_of, shell}
use Rattle.ion_binary.proofs.walking.BinaryWalk.levels.Given as goal

abbrev pub invariant-loop-frame : goal.invariant-loop-frame
invariant-loop-frame l = record {
  count : l.count ≡ levels (map (shell (name_of l.self)) (reverse (take l.frame-index l.self.frames.items)));
  few : l.count ≤ l.frame-index;
}
