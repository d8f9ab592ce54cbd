use Rattle.std.proofs.Common.{◌≡◌, ℕ, ◌+◌, ◌*◌, ◌≤◌, ◌^◌, List, [], length}
use Rattle.ion_streams.specs.Names.{AtOnce, StoodEach, Value, format_of, plain, reads_of, telling, work_of}
use Rattle.ion_events.specs.Laying.{LaidDown}
use Rattle.ion_streams.proofs.Driven.{Driven}
use Rattle.ion_streams.proofs.layouts.lay_out_items.Given as goal

abbrev pub invariant-loop-laid : goal.invariant-loop-laid
invariant-loop-laid g l = record {
  driven : Driven g.R.Inlet g.I.Items l.fn.reads l.fn.reader l.reader l.place;
  at_once : AtOnce g.R.Inlet (format_of g.I.Items (g.I.Items.catalog l.fn.items) (g.I.Items.limits l.fn.items)) l.fn.reader l.reader;
  bound : l.values + work_of g.I.Items l.place ≤ 8193 * 2 ^ 32 + 1;
  asked : g.R.Inlet.calls_made l.reader + reads_of l.place ≤ g.R.Inlet.calls_made l.fn.reader + l.fn.reads;
  handed : length (g.R.Inlet.handed l.reader) + 4096 * reads_of l.place ≤ length (g.R.Inlet.handed l.fn.reader) + 4096 * l.fn.reads;
  read : (given : List (Value × ℕ)) × StoodEach g.R.Inlet (telling g.I.Items []) (g.I.Items.catalog l.fn.items) (g.I.Items.limits l.fn.items)
      l.fn.reader l.reader l.place given × (length given ≡ l.values) × LaidDown (plain given) l.laid l.laying;
}

abbrev pub decreases-loop-laid : goal.decreases-loop-laid
decreases-loop-laid g l = work_of g.I.Items l.place
