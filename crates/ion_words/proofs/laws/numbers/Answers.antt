use Rattle.std.specs.Prelude.{◌^◌}
use Rattle.std.specs.Str.Parse.{digits_value, without_leading_plus}
use Rattle.clap.proofs.OnLiterals.{clap_on_literals}
use Rattle.clap.specs.ValueTests.{is_unsigned_in}
use Rattle.ion_words.proofs.Names.{depth_given, item_given}
use Rattle.ion_words.proofs.laws.numbers.Goals as goal

pub returns : goal.returns
unfolding clap_on_literals
returns c = record {
  depth = λ text. depth_given (is_unsigned_in 1 128 text) (digits_value 10 (without_leading_plus text));
  item = λ text. item_given (is_unsigned_in 1 (2 ^ 30) text) (digits_value 10 (without_leading_plus text));
}
