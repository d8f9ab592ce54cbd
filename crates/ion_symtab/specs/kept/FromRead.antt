-- The parts of a device over a reader of std.
use Rattle.std.specs.Prelude.{ℕ, Bool, List}
use Rattle.ion_symtab.specs.declared.inlet.FromRead.{FromRead}

-- the reader that it asks
abbrev pub reader_of : {R : Type 0} → FromRead R → R
reader_of device = device.inner

-- how often it was asked
abbrev pub calls_of : {R : Type 0} → FromRead R → ℕ
calls_of device = device.calls

-- whether a read has failed
abbrev pub failed_of : {R : Type 0} → FromRead R → Bool
failed_of device = device.failed

-- all octets that it has handed over
abbrev pub handed_of : {R : Type 0} → FromRead R → List ℕ
handed_of device = device.handed

-- how many those were at each end that it answered
abbrev pub ends_of : {R : Type 0} → FromRead R → List ℕ
ends_of device = device.ends
