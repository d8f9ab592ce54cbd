-- What follows from a clause on an option that has no value.
use Rattle.std.proofs.Common.{Option, Some, None, IfNone}

-- where a clause claims something of no value, what follows from that holds there, too
pub IfNone_then : {X : Type 0} (r : Option X) {P Q : Type 0} → IfNone r P → (P → Q) → IfNone r Q
IfNone_then None h f = f h
IfNone_then (Some x) h f = tt
