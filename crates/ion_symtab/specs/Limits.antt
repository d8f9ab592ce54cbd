-- The ranges of the limits.
use Rattle.std.specs.Prelude.{ℕ, ◌≤◌, ◌^◌}

-- levels of lists, s-expressions and structs
abbrev pub IsDepth : ℕ → Type 0
IsDepth depth = (1 ≤ depth) × (depth ≤ 128)

-- octets of one item
abbrev pub IsItem : ℕ → Type 0
IsItem item = (1 ≤ item) × (item ≤ 2 ^ 30)

-- calls of one document's reader
abbrev pub IsReads : ℕ → Type 0
IsReads reads = (1 ≤ reads) × (reads ≤ 2 ^ 32)

-- levels, octets and calls that are limits
abbrev pub AreLimits : ℕ → ℕ → ℕ → Type 0
AreLimits depth item reads = IsDepth depth × IsItem item × IsReads reads
