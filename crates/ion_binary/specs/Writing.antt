-- What a writer stands for, and why one of its calls ends with a fault.
use Rattle.std.specs.Prelude.{◌≡◌, Bool, true, Option, ⊤}
use Rattle.ion_binary.specs.Names.Below.{Fault}
use Rattle.ion_symtab.specs.declared.fault.Fault.TheVariants.{Memory, Open, Read, TooLarge, TooManyReads, Write}
use Rattle.ion_binary.specs.Output.{Names, Progress}
pub use Rattle.ion_names.specs.Ids.{NeedsLargeId}

-- a writer: what the rest of its document depends on, and the fault that each call answers
pub record Writing : Type 0 where
  pub progress : Progress
  pub failed : Option Fault

-- why a value wasn't written: the device says whether it failed, and these are the names with those of the value
abbrev pub IsWritingFault : Names → Bool → Fault → Type 0
IsWritingFault names failed Memory = ⊤
IsWritingFault names failed Write = failed ≡ true
IsWritingFault names failed TooLarge = NeedsLargeId names
IsWritingFault names failed Read = ⊥
IsWritingFault names failed TooManyReads = ⊥
IsWritingFault names failed Open = ⊥
