-- Why a fault was answered.
use Rattle.std.specs.Prelude.{◌≡◌, ℕ, ◌+◌, ◌-◌, ◌^◌, ◌≤◌, List, length, true, false, ◌⊎◌, ⊤}
use Rattle.ion_symtab.specs.Names.{Ghosts, Heard}
use Rattle.ion_symtab.specs.declared.fault.Fault.{Fault}
use Rattle.ion_symtab.specs.declared.fault.Fault.TheVariants.{Memory, Open, Read, TooLarge, TooManyReads, Write}

module _ {S : Type 0} (R : Ghosts S) where
  -- So many calls of read were made, or their count stands at its end. Each handed over an octet at least, and none answered the end.
  pub record WereMade (reads : ℕ) (old new : S) : Type 0 where
    pub octets : List ℕ
    pub made : (R.calls_made new ≡ R.calls_made old + reads) ⊎ (R.calls_made new ≡ 2 ^ 64 - 1)
    pub heard : Heard R old new octets false
    pub each : reads ≤ length octets

  -- what a fault of reading says of the device: no other fault comes of it
  abbrev pub IsReadCause : ℕ → S → S → Fault → Type 0
  IsReadCause reads old new Memory = ⊤
  IsReadCause reads old new Read = R.has_failed new ≡ true
  IsReadCause reads old new TooManyReads = WereMade reads old new
  IsReadCause reads old new Write = ⊥
  IsReadCause reads old new TooLarge = ⊥
  IsReadCause reads old new Open = ⊥
