-- The containers that the machine holds open: the octet at which one ends, and what has come of it.
use Rattle.std.specs.Prelude.{ℕ, List, Option, Result}
use Rattle.ion_binary.specs.Names.Below.{Field, ListOrSexp, Reason, Value}

pub data Frame : Type 0 where
  -- the items of a list or an s-expression
  Items : ℕ → ListOrSexp → List Value → Frame
  -- the fields of a struct, where the next begins
  Fields : ℕ → List Field → Frame
  -- the fields of a struct and the name of the next, or why its id is none
  Named : ℕ → List Field → Result (Option (List ℕ)) Reason → Frame
  -- the annotations of a wrapper
  Annotated : ℕ → List (Option (List ℕ)) → Frame
