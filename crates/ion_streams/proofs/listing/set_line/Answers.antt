use Rattle.std.proofs.Common.{append_assoc}
use Rattle.ion_streams.specs.Names.{line_of}
use Rattle.ion_streams.proofs.listing.set_line.Goals as goal

pub returns : goal.returns
unfolding line_of
returns c =
    let whole = rw (
      c.in_ok-push_number-2.ensures,
      c.in_ok-push-2.ensures,
      c.in_ok-push.ensures,
      c.in_ok-push_number.ensures,
      c.clear.ensures.bytes,
      c.name.ensures,
    ) at c.push_number-3.ensures in
    simp append_assoc at whole
