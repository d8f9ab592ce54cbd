-- The parts of a device over a writer of std.
use Rattle.std.specs.Prelude.{ℕ, Bool, List}
use Rattle.ion_symtab.specs.declared.outlet.ToWrite.{ToWrite}

-- the writer that it passes on to
abbrev pub writer_of : {W : Type 0} → ToWrite W → W
writer_of device = device.inner

-- whether a write or a flush has failed
abbrev pub failed_of : {W : Type 0} → ToWrite W → Bool
failed_of device = device.failed

-- all octets that it took
abbrev pub written_of : {W : Type 0} → ToWrite W → List ℕ
written_of device = device.written

-- those that it passed on by a flush
abbrev pub passed_of : {W : Type 0} → ToWrite W → List ℕ
passed_of device = device.passed
