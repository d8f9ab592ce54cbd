-- The numbers that endings are told by.
use Rattle.std.specs.Prelude.{ℕ, Result, Ok, Err}
use Rattle.ion_memory.specs.Names.{Accepted, Catalog, Different, Ending, Fault, Faulted, Left, Memory, Only, Open, Read, Refusal, Refused, Right, TooLarge, TooManyReads, Write, WrongLimits, reason_number}
use Rattle.ion_streams.specs.declared.comparison.Side.{Side}
use Rattle.ion_memory.specs.declared.ending.Whose.{Whose}

-- the ending of a call on one document
abbrev pub ending_of : Result ℕ Refusal → Ending
ending_of (Ok values) = Accepted values
ending_of (Err refusal) = Refused Only refusal

-- the document of a side: the left one or the right one
abbrev pub whose_side : Side → Whose
whose_side Side.Left = Left
whose_side Side.Right = Right

-- the status of an ending: 0 accepted, 1 different, 2 refused, 3 wrong limits, 4 a fault
abbrev pub status_of : Ending → ℕ
status_of (Accepted values) = 0
status_of (Different index) = 1
status_of (Refused whose refusal) = 2
status_of WrongLimits = 3
status_of (Faulted fault) = 4

-- how many values, the one at which streams part, or a refusal's offset; else 0
abbrev pub number_of : Ending → ℕ
number_of (Accepted values) = values
number_of (Different index) = index
number_of (Refused whose refusal) = refusal.offset
number_of _ = 0

-- which input: 1 the only document, 2 the left one, 3 the right one, 4 the catalog
abbrev pub whose_number : Whose → ℕ
whose_number Only = 1
whose_number Left = 2
whose_number Right = 3
whose_number Catalog = 4

-- the number of the input that was refused, or 0 where none was
abbrev pub whose_of : Ending → ℕ
whose_of (Refused whose refusal) = whose_number whose
whose_of _ = 0

-- the number of a fault
abbrev pub fault_number : Fault → ℕ
fault_number Memory = 1
fault_number Read = 2
fault_number Write = 3
fault_number TooManyReads = 4
fault_number TooLarge = 5
fault_number Open = 6

-- the number of the reason or of the fault for which a call ended, or 0
abbrev pub reason_of : Ending → ℕ
reason_of (Refused whose refusal) = reason_number refusal.reason
reason_of (Faulted fault) = fault_number fault
reason_of _ = 0
