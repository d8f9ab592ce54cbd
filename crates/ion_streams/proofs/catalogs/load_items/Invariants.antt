use Rattle.std.proofs.Common.{◌≡◌, ℕ, ◌+◌, ◌*◌, ◌≤◌, List, [], Ok, length}
use Rattle.ion_streams.specs.Names.{AskedWhile, DescribeTables, StoodEach, Value, catalog_of, format_of, reads_of, work_of}
use Rattle.ion_streams.proofs.Driven.{Driven}
use Rattle.ion_streams.proofs.catalogs.load_items.Given as goal

abbrev pub invariant-loop-catalog : goal.invariant-loop-catalog
invariant-loop-catalog g l = record {
  driven : Driven g.R.Inlet g.I.Items l.fn.reads l.fn.reader l.reader l.place;
  at_once : AskedWhile g.R.Inlet (format_of g.I.Items (g.I.Items.catalog l.fn.items) (g.I.Items.limits l.fn.items)) l.fn.reader l.fn.reader l.reader
      DescribeTables;
  asked : g.R.Inlet.calls_made l.reader + reads_of l.place ≤ g.R.Inlet.calls_made l.fn.reader + l.fn.reads;
  handed : length (g.R.Inlet.handed l.reader) + 4096 * reads_of l.place ≤ length (g.R.Inlet.handed l.fn.reader) + 4096 * l.fn.reads;
  reads : (given : List (Value × ℕ)) × StoodEach g.R.Inlet g.I.Items (g.I.Items.catalog l.fn.items) (g.I.Items.limits l.fn.items) l.fn.reader l.reader l.place
      given × (catalog_of [] given ≡ Ok l.catalog);
}

abbrev pub decreases-loop-catalog : goal.decreases-loop-catalog
decreases-loop-catalog g l = work_of g.I.Items l.place
