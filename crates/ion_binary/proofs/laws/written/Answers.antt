use Rattle.ion_binary.proofs.Calls.{writes_each}
use Rattle.ion_binary.proofs.laws.written.Goals as goal

pub returns : goal.returns
returns g c = writes_each g.W.Outlet
