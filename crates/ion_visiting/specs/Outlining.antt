-- The visitor that takes the outline of a value.
use Rattle.std.specs.Prelude.{◌≡◌, ◌+◌, ◌-◌, ◌^◌, ℕ, min, max, ◌==◌, if◌then◌else◌}
use Rattle.ion_visiting.specs.Names.{Bracket, Event, Kind, Outlining, closes, ended, layer_kind, opens, out-Payload, part}
use Rattle.ion_model.specs.declared.outline.Outline.{Outline}

-- the kind of what stands between brackets
abbrev pub bracket_kind : Bracket → Kind
bracket_kind Bracket.List = Kind.List
bracket_kind Bracket.Sexp = Kind.Sexp
bracket_kind Bracket.Fields = Kind.Fields

-- no event yet
abbrev pub no_outline : Outlining
no_outline = record { kind = Kind.Null; level = 0; depth = 0; nodes = 0 }

-- the outline of the value that ended
abbrev pub outline_in : Outlining → Outline
outline_in a = record { kind = a.kind; depth = a.depth; nodes = a.nodes }

-- so many nodes more, which stop at 2^64-1
abbrev pub more_nodes : Outlining → ℕ → ℕ
more_nodes a n = min (a.nodes + n) (2 ^ 64 - 1)

-- outside of brackets a value's own kind is that of the outline
abbrev pub kind_at : Outlining → Kind → Kind
kind_at a k = if a.level == 0 then k else a.kind

-- the level reached so far, or this one, which stops at 2^64-1
abbrev pub deeper : Outlining → ℕ → ℕ
deeper a n = min (max a.depth n) (2 ^ 64 - 1)

-- each event but what closes and what ends is one node more
abbrev pub outlined : Outlining → Event → Outlining
outlined a (part p) = record { kind = kind_at a (layer_kind (out-Payload p)); level = a.level; depth = a.depth; nodes = more_nodes a 1 }
outlined a (opens x) = record { kind = kind_at a (bracket_kind x); level = a.level + 1; depth = deeper a (a.level + 1); nodes = more_nodes a 1 }
outlined a (closes x) = record { kind = a.kind; level = a.level - 1; depth = a.depth; nodes = a.nodes }
outlined a ended = a
outlined a _ = record { kind = a.kind; level = a.level; depth = a.depth; nodes = more_nodes a 1 }

abbrev pub outlines : Outlining → Event → Outlining → Type 0
outlines a e b = b ≡ outlined a e
