-- What was taken up of the front of a piece was taken up of the piece.
use Rattle.std.proofs.Common.{◌≡◌, ℕ, ◌+◌, ◌<◌, ◌≤◌, List, [], length, take, drop, get_or, Err, ap, sym, ◌∙◌, arith}
use Rattle.std.proofs.lemmas.Grind.{common_steps}
use Rattle.std.proofs.lemmas.List.{length-take-le, take-append-drop}
use Rattle.ion_text.specs.Names.{Catalog, Limits, Refusal, State, run, run-append, then_run}

module _ (g : Catalog) (l : Limits) (to : ℕ) (m : State) (piece : List ℕ) (n : ℕ) (within : n ≤ length piece) where
  pub size : length (take n piece) ≡ n
  size = length-take-le n piece within

  pub front_of : (k : ℕ) → k ≤ n → take k (take n piece) ≡ take k piece
  front_of k h = grind (arith, common_steps)

  pub octet_of : (k : ℕ) → k < n → get_or (take n piece) k 0 ≡ get_or piece k 0
  octet_of k h = grind (arith, common_steps)

  -- where the front of a piece is refused, so is the piece
  pub refused_of : (refusal : Refusal) → run g l to m (take n piece) ≡ record { given = []; now = Err refusal }
      → run g l to m piece ≡ record { given = []; now = Err refusal }
  refused_of refusal h =
      ap (run g l to m) (sym (take-append-drop n piece))
      ∙ (run-append g l to (to + n) (take n piece) (drop n piece) (let i = size in omega arith) m
      ∙ ap (λ r. then_run r (λ k. run g l (to + n) k (drop n piece))) h)
