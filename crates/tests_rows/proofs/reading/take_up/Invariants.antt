use Rattle.std.proofs.Common.{◌≡◌, ℕ, ◌+◌, ◌-◌, ◌*◌, ◌≤◌, ◌∷◌, List, IfSome, drop, length}
use Rattle.tests_rows.proofs.reading.take_up.Given as goal

abbrev pub invariant-loop-used : goal.invariant-loop-used
invariant-loop-used g l = record {
  at : l.at ≤ length l.piece;
  taken : g.I.Items.taken l.reader ≡ l.before + l.at;
  begins : IfSome (g.I.Items.awaits l.reader) (λ octet. (rest : List ℕ) × (drop l.at l.piece ≡ octet ∷ rest));
}

abbrev pub decreases-loop-used : goal.decreases-loop-used
decreases-loop-used g l = 2 * (length l.piece - l.at) + g.I.Items.pending l.reader
