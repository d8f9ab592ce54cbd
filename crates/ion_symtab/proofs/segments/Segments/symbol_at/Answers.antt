use Rattle.ion_symtab.proofs.Counting.{begins_by, place_within, slot_there}
use Rattle.ion_symtab.proofs.segments.Segments.symbol_at.Goals as goal

pub symbol_at-requires : goal.symbol_at-requires
symbol_at-requires c =
    let counts = rw (← c.as_slice-segments.ensures.value) at c.self.invariant.0 in
    let within = rw (← c.as_slice-segments.ensures.value) at (rw (← c.self.view_is) at c.requires) in
    let is = c.index-segments-segment_of.is in
    let begins = begins_by _ _ _ c.args.place c.index-segments-segment_of.result counts c.segment_of.ensures.within is c.segment_of.ensures.starts in
    place_within _ _ _ _ _ counts c.segment_of.ensures.within is begins c.segment_of.ensures.last within

pub returns : goal.returns
returns c =
    let counts = rw (← c.as_slice-segments.ensures.value) at c.self.invariant.0 in
    let within = rw (← c.as_slice-segments.ensures.value) at (rw (← c.self.view_is) at c.requires) in
    let is = c.index-segments-segment_of.is in
    let begins = begins_by _ _ _ c.args.place c.index-segments-segment_of.result counts c.segment_of.ensures.within is c.segment_of.ensures.starts in
    let near = place_within _ _ _ _ _ counts c.segment_of.ensures.within is begins c.segment_of.ensures.last within in
    rw (← c.self.view_is, ← c.as_slice-segments.ensures.value, slot_there _ _ _ _ _ counts c.segment_of.ensures.within is begins near) c.symbol_at.ensures
