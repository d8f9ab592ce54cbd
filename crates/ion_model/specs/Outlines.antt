-- What is told of a value in place of the value.
use Rattle.std.specs.Prelude.{◌-◌, ◌^◌, min}
use Rattle.ion_model.specs.Names.{Value, depth, kind_of, nodes}
use Rattle.ion_model.specs.declared.outline.Outline.{Outline}

-- its kind, and its depth and number of nodes, which stop at 2^64-1
abbrev pub outline_of : Value → Outline
outline_of v = record { kind = kind_of v; depth = min (depth v) (2 ^ 64 - 1); nodes = min (nodes v) (2 ^ 64 - 1) }
