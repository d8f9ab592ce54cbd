use Rattle.ion_scalar.specs.binary.laws.Fewest.{var_uint_fewest, var_int_fewest, uint_fewest, int_fewest}
use Rattle.ion_scalar.specs.binary.laws.FewestBodies.{decimal_fewest, timestamp_fewest}
use Rattle.ion_scalar.proofs.laws.fewest.Goals as goal

pub returns : goal.returns
returns c = record {
  var_uint = var_uint_fewest;
  var_int = var_int_fewest;
  uint = uint_fewest;
  int = int_fewest;
  decimal =
      decimal_fewest;
  timestamp = timestamp_fewest;
}
