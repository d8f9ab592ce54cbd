use Rattle.std.proofs.Common.{◌≡◌, ℕ, ◌+◌, ◌*◌, ◌≤◌, List, length}
use Rattle.ion_streams.specs.Names.{AtOnce, StoodEach, Value, format_of, plain, reads_of, work_of}
use Rattle.ion_streams.proofs.Driven.{Driven}
use Rattle.ion_streams.proofs.all_values.read_items.Given as goal

abbrev pub invariant-loop-values : goal.invariant-loop-values
invariant-loop-values g l = record {
  driven : Driven g.R.Inlet g.I.Items l.fn.reads l.fn.reader l.reader l.place;
  at_once : AtOnce g.R.Inlet (format_of g.I.Items (g.I.Items.catalog l.fn.items) (g.I.Items.limits l.fn.items)) l.fn.reader l.reader;
  asked : g.R.Inlet.calls_made l.reader + reads_of l.place ≤ g.R.Inlet.calls_made l.fn.reader + l.fn.reads;
  handed : length (g.R.Inlet.handed l.reader) + 4096 * reads_of l.place ≤ length (g.R.Inlet.handed l.fn.reader) + 4096 * l.fn.reads;
  reads : (given : List (Value × ℕ)) × StoodEach g.R.Inlet g.I.Items (g.I.Items.catalog l.fn.items) (g.I.Items.limits l.fn.items) l.fn.reader l.reader l.place
      given × (plain given ≡ l.values.items);
}

abbrev pub decreases-loop-values : goal.decreases-loop-values
decreases-loop-values g l = work_of g.I.Items l.place
