-- How many containers are open.
use Rattle.std.proofs.Common.{◌≤◌, List, [], ◌∷◌, length, arith}
use Rattle.ion_binary.specs.Names.{Frame, levels}
use Rattle.ion_binary.specs.machine.Frames as frames

-- there are at most as many as frames
pub levels_few : (fs : List Frame) → levels fs ≤ length fs
levels_few [] = omega arith
levels_few (frames.Items end x vs ∷ fs) = let h = levels_few fs in omega arith
levels_few (_ ∷ fs) = let h = levels_few fs in omega arith
