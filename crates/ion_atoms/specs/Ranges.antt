-- Which ints are kept.
use Rattle.std.specs.Prelude.{ℤ, pos, negsuc, ◌^◌, ◌<◌, ◌+◌}

-- the magnitude is below 2^127
abbrev pub IsWhole : ℤ → Type 0
IsWhole (pos n) = n < 2 ^ 127
IsWhole (negsuc n) = n + 1 < 2 ^ 127
