-- How numbers are written as text: an int in decimal, decimals and timestamps as `ion_atoms` has them.
use Rattle.std.specs.Prelude.{ℕ, List}
use Rattle.std.specs.Fmt.{signed_decimal}
use Rattle.ion_scalar.specs.Names.Below.{Number}
pub use Rattle.ion_atoms.specs.Texts.{decimal_text, two_digits, four_digits, padded, month_text, day_text, minute_text, second_text}
pub use Rattle.ion_atoms.specs.Texts.{clock_text, offset_text, cut_text, timestamp_text}

-- the text of an int, a decimal or a timestamp
abbrev pub number_text : Number → List ℕ
number_text (Number.Int z) = signed_decimal z
number_text (Number.Decimal d) = decimal_text d
number_text (Number.Timestamp t) = timestamp_text t
