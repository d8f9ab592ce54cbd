use Rattle.std.proofs.Common.{◌≡◌, ℕ, ◌+◌, ◌*◌, ◌≤◌, ◌^◌, List, [], length}
use Rattle.ion_streams.specs.Names.{AtOnce, StoodEach, Took, Value, format_of, lines_of, no_outline, plain, reads_of, telling, work_of}
use Rattle.ion_streams.proofs.Driven.{Driven}
use Rattle.ion_streams.proofs.listing.show_items.Given as goal

abbrev pub invariant-loop-text : goal.invariant-loop-text
invariant-loop-text g l = record {
  driven : Driven g.R.Inlet g.I.Items l.fn.reads l.fn.reader l.reader l.place;
  at_once : AtOnce g.R.Inlet (format_of g.I.Items (g.I.Items.catalog l.fn.items) (g.I.Items.limits l.fn.items)) l.fn.reader l.reader;
  fresh : l.visitor ≡ no_outline;
  bound : l.values + work_of g.I.Items l.place ≤ 8193 * 2 ^ 32 + 1;
  asked : g.R.Inlet.calls_made l.reader + reads_of l.place ≤ g.R.Inlet.calls_made l.fn.reader + l.fn.reads;
  handed : length (g.R.Inlet.handed l.reader) + 4096 * reads_of l.place ≤ length (g.R.Inlet.handed l.fn.reader) + 4096 * l.fn.reads;
  reads : (given : List (Value × ℕ)) × StoodEach g.R.Inlet (telling g.I.Items []) (g.I.Items.catalog l.fn.items) (g.I.Items.limits l.fn.items)
      l.fn.reader l.reader l.place
      given × (length given ≡ l.values)
      × Took g.W.Outlet.took g.W.Outlet.written l.fn.writer l.writer (lines_of (plain given));
}

abbrev pub decreases-loop-text : goal.decreases-loop-text
decreases-loop-text g l = work_of g.I.Items l.place
