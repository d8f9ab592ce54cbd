use Rattle.std.proofs.Common.{◌≡◌, ◌+◌, ◌≤◌, ℕ, List, length, ◌*◌}
use Rattle.ion_streams.specs.Names.{AskedWhile, Catalog, IsReady, IsWithin, Limits, NoReadFailed, NoneFailed, ReadsEach, Value, format_of, work}
use Rattle.ion_streams.proofs.piece_reader.PieceReader.read_on.Given as goal

-- nothing was given yet
abbrev pub invariant-loop-refusal : goal.invariant-loop-refusal
invariant-loop-refusal g l = record {
  ready : IsReady g.I.Items l.self;
  less : work g.I.Items l.self ≤ work g.I.Items l.fn.self;
  asked : g.R.Inlet.calls_made l.reader + l.self.reads ≤ g.R.Inlet.calls_made l.fn.reader + l.fn.self.reads;
  handed : length (g.R.Inlet.handed l.reader) + 4096 * l.self.reads ≤ length (g.R.Inlet.handed l.fn.reader) + 4096 * l.fn.self.reads;
  unasked : NoReadFailed g.R.Inlet l.fn.reader l.reader;
  heard : NoneFailed g.R.Inlet g.I.Items l.fn.reader l.fn.self → NoneFailed g.R.Inlet g.I.Items l.reader l.self;
  within : (first : g.row.R.Denot) (reads : ℕ) → IsWithin g.R.Inlet reads first l.fn.reader l.fn.self → IsWithin g.R.Inlet reads first l.reader l.self;
  sought : (catalog : Catalog) (limits : Limits) (first : g.row.R.Denot) (given : List (Value × ℕ))
      → ReadsEach g.R.Inlet g.I.Items catalog limits first l.fn.reader l.fn.self given
      → AskedWhile g.R.Inlet (format_of g.I.Items catalog limits) first l.fn.reader l.reader (λ before. before ≡ given);
  reads : (catalog : Catalog) (limits : Limits) (first : g.row.R.Denot) (given : List (Value × ℕ))
      → ReadsEach g.R.Inlet g.I.Items catalog limits first l.fn.reader l.fn.self given
      → ReadsEach g.R.Inlet g.I.Items catalog limits first l.reader l.self given;
}

abbrev pub decreases-loop-refusal : goal.decreases-loop-refusal
decreases-loop-refusal g l = l.self.reads
