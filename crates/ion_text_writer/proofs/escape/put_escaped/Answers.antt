use Rattle.ion_text_writer.proofs.RawRuns.{octet_goes, raw_goes, raw_run}
use Rattle.ion_text_writer.proofs.escape.put_escaped.Goals as goal

pub loop-rest-preserved-in-Some : goal.loop-rest-preserved-in-Some
loop-rest-preserved-in-Some c =
    octet_goes _ _ _ _ _ _ _ c.in-Some.ensures.cases.0
    (raw_goes _ _ _ _ _ _ _ _ c.split_at.ensures.front c.split_at.ensures.back (raw_run _ _ _ c.raw_front.ensures) c.loop-rest.invariant
    c.in_ok-extend_from_slice.ensures.items)
    c.in_ok-put_octet.ensures.ok

pub loop-rest-preserved : goal.loop-rest-preserved
loop-rest-preserved c =
    raw_goes _ _ _ _ _ _ _ _ c.split_at.ensures.front c.split_at.ensures.back (raw_run _ _ _ c.raw_front.ensures) c.loop-rest.invariant
    c.in_ok-extend_from_slice.ensures.items
