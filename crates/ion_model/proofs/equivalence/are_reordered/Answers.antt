use Rattle.std.proofs.Common.{◌∙◌, length, refl, arith, length-set}
use Rattle.std.proofs.lemmas.Option.{slice_get_read, slice_get_within}
use Rattle.ion_model.proofs.Pairing.{paired-none, paired-more, paired-all}
use Rattle.ion_model.proofs.equivalence.are_reordered.Goals as goal

pub loop-field-init : goal.loop-field-init
loop-field-init c = record { long = refl; pairs = paired-none 64 c.args.fs.now c.args.gs.now }

pub bounds-paired-at : goal.bounds-paired-at
bounds-paired-at c = omega (arith, slice_get_within c.args.gs.now c.in-Some.at _ c.in-Some.ensures.0)

pub loop-field-preserved : goal.loop-field-preserved
loop-field-preserved c = record {
  long = length-set _ _ _ ∙ c.loop-field.invariant.long;
  pairs = paired-more c.args.fs.now c.args.gs.now c.loop-field.paired c.loop-field.field-index c.in-Some.at c.field-item.result
      (slice_get_read c.args.fs.now (length c.args.fs.now) c.loop-field.field-index c.field-item.result refl c.loop-field-test.true c.field-item.is)
      c.in-Some.ensures.0 c.in-Some.ensures.1 c.loop-field.invariant.pairs;
}

pub returns : goal.returns
returns c e =
    paired-all c.args.fs.now c.args.gs.now c.loop-field.paired c.loop-field.field-index c.requires (omega arith) c.loop-field.invariant.pairs
