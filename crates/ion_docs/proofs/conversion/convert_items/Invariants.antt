use Rattle.std.proofs.Common.{◌+◌, ◌*◌, ◌≤◌, ◌^◌, length}
use Rattle.ion_docs.specs.Names.{AtOnce, format_of, reads_of, work_of}
use Rattle.ion_streams.proofs.Driven.{Driven}
use Rattle.ion_docs.proofs.Conversions.{Done}
use Rattle.ion_docs.proofs.conversion.convert_items.Given as goal

abbrev pub invariant-loop-encoder : goal.invariant-loop-encoder
invariant-loop-encoder g l = record {
  driven : Driven g.R.Inlet g.I.Items l.fn.reads l.fn.reader l.reader l.place;
  at_once : AtOnce g.R.Inlet (format_of g.I.Items (g.I.Items.catalog l.fn.items) (g.I.Items.limits l.fn.items)) l.fn.reader l.reader;
  bound : l.values + work_of g.I.Items l.place ≤ 8193 * 2 ^ 32 + 1;
  asked : g.R.Inlet.calls_made l.reader + reads_of l.place ≤ g.R.Inlet.calls_made l.fn.reader + l.fn.reads;
  handed : length (g.R.Inlet.handed l.reader) + 4096 * reads_of l.place ≤ length (g.R.Inlet.handed l.fn.reader) + 4096 * l.fn.reads;
  done : Done g.R.Inlet g.I.Items g.E.Encoder g.W.Outlet (g.I.Items.catalog l.fn.items) (g.I.Items.limits l.fn.items) l.fn.reader l.fn.writer l.reader l.values
      l.place l.encoder l.writer;
}

abbrev pub decreases-loop-encoder : goal.decreases-loop-encoder
decreases-loop-encoder g l = work_of g.I.Items l.place
