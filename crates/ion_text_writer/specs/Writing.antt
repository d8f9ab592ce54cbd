-- Why a call of a writer ends with a fault.
use Rattle.std.specs.Prelude.{◌≡◌, Bool, true, ⊤}
use Rattle.ion_text_writer.specs.Names.{Fault}
use Rattle.ion_symtab.specs.declared.fault.Fault.TheVariants.{Memory, Open, Read, TooLarge, TooManyReads, Write}

-- why a value wasn't written: memory was refused, or the device says that it failed
abbrev pub IsWritingFault : Bool → Fault → Type 0
IsWritingFault failed Memory = ⊤
IsWritingFault failed Write = failed ≡ true
IsWritingFault failed TooLarge = ⊥
IsWritingFault failed Read = ⊥
IsWritingFault failed TooManyReads = ⊥
IsWritingFault failed Open = ⊥
