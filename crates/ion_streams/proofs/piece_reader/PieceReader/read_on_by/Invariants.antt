use Rattle.std.proofs.Common.{◌+◌, ◌≤◌, ℕ, List, length, ◌*◌}
use Rattle.ion_streams.specs.Names.{Catalog, Event, HandedOn, IsReady, IsWithin, Limits, NoReadFailed, NoneFailed, Reads, ReadsEach, Sought, Value, format_of, telling, work}
use Rattle.ion_streams.proofs.Telling.{TellsOn}
use Rattle.ion_streams.proofs.piece_reader.PieceReader.read_on_by.Given as goal

-- no value ended yet
abbrev pub invariant-loop-refusal : goal.invariant-loop-refusal
invariant-loop-refusal g l = record {
  ready : IsReady g.I.Items l.self;
  less : work g.I.Items l.self ≤ work g.I.Items l.fn.self;
  asked : g.R.Inlet.calls_made l.reader + l.self.reads ≤ g.R.Inlet.calls_made l.fn.reader + l.fn.self.reads;
  handed : length (g.R.Inlet.handed l.reader) + 4096 * l.self.reads ≤ length (g.R.Inlet.handed l.fn.reader) + 4096 * l.fn.self.reads;
  unasked : NoReadFailed g.R.Inlet l.fn.reader l.reader;
  heard : NoneFailed g.R.Inlet g.I.Items l.fn.reader l.fn.self → NoneFailed g.R.Inlet g.I.Items l.reader l.self;
  within : (first : g.row.R.Denot) (reads : ℕ) → IsWithin g.R.Inlet reads first l.fn.reader l.fn.self
      → IsWithin g.R.Inlet reads first l.reader l.self;
  sought : (catalog : Catalog) (limits : Limits) (first : g.row.R.Denot) (s : List Value) (es : List Event)
      → Reads g.R.Inlet (telling g.I.Items es) catalog limits first l.fn.reader l.fn.self s
      → Sought g.R.Inlet (format_of g.I.Items catalog limits) first l.fn.reader l.reader (length s);
  grew : HandedOn g.R.Inlet l.fn.reader l.reader;
  reads : (catalog : Catalog) (limits : Limits) (first : g.row.R.Denot) (given : List (Value × ℕ)) (es : List Event)
      → ReadsEach g.R.Inlet (telling g.I.Items es) catalog limits first l.fn.reader l.fn.self given
      → TellsOn g.V.Visitor.takes g.R.Inlet g.I.Items catalog limits first l.reader l.self given es l.fn.visitor l.visitor;
}

abbrev pub decreases-loop-refusal : goal.decreases-loop-refusal
decreases-loop-refusal g l = l.self.reads
