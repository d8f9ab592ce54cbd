-- What the reasons of a refusal are called.
use Rattle.std.specs.Prelude.{ℕ, List, ◌++◌, Bool, true, false, codes, decimal}
use Rattle.ion_atoms.specs.declared.refusal.Reason.{Reason}
use Rattle.ion_atoms.specs.declared.refusal.Refusal.{Refusal}

-- the number of a reason; where two reasons fall on one octet, the smaller answers
abbrev pub reason_number : Reason → ℕ
reason_number Reason.Memory = 1
reason_number Reason.Incomplete = 2
reason_number Reason.TooLarge = 3
reason_number Reason.Malformed = 4
reason_number Reason.Float = 5
reason_number Reason.DuplicateTable = 6
reason_number Reason.BadTable = 7
reason_number Reason.SymbolRange = 8
reason_number Reason.ImportGap = 9
reason_number Reason.MissingImport = 10
reason_number Reason.RepeatedField = 11
reason_number Reason.TableTooLarge = 12
reason_number Reason.NullTable = 13
reason_number Reason.BadEscape = 14
reason_number Reason.BadUtf8 = 15
reason_number Reason.BadBase64 = 16
reason_number Reason.Ambiguous = 17
reason_number Reason.Unexpected = 18
reason_number Reason.Depth = 19
reason_number Reason.ItemTooLong = 20
reason_number Reason.Version = 21
reason_number Reason.KeywordAsName = 22

-- the octets of its name
abbrev pub reason_name : Reason → List ℕ
reason_name Reason.Memory = codes "Memory"
reason_name Reason.Incomplete = codes "Incomplete"
reason_name Reason.TooLarge = codes "TooLarge"
reason_name Reason.Malformed = codes "Malformed"
reason_name Reason.Float = codes "Float"
reason_name Reason.DuplicateTable = codes "DuplicateTable"
reason_name Reason.BadTable = codes "BadTable"
reason_name Reason.SymbolRange = codes "SymbolRange"
reason_name Reason.ImportGap = codes "ImportGap"
reason_name Reason.MissingImport = codes "MissingImport"
reason_name Reason.RepeatedField = codes "RepeatedField"
reason_name Reason.TableTooLarge = codes "TableTooLarge"
reason_name Reason.NullTable = codes "NullTable"
reason_name Reason.BadEscape = codes "BadEscape"
reason_name Reason.BadUtf8 = codes "BadUtf8"
reason_name Reason.BadBase64 = codes "BadBase64"
reason_name Reason.Ambiguous = codes "Ambiguous"
reason_name Reason.Unexpected = codes "Unexpected"
reason_name Reason.Depth = codes "Depth"
reason_name Reason.ItemTooLong = codes "ItemTooLong"
reason_name Reason.Version = codes "Version"
reason_name Reason.KeywordAsName = codes "KeywordAsName"

-- a refusal in a line: the octet that decided, and why
abbrev pub refusal_text : Refusal → List ℕ
refusal_text r = decimal r.offset ++ (codes " " ++ reason_name r.reason)

-- whether octets refused for it may be Ion 1.0 that isn't read here
abbrev pub is_of_profile : Reason → Bool
is_of_profile Reason.TooLarge = true
is_of_profile Reason.Float = true
is_of_profile Reason.ImportGap = true
is_of_profile Reason.MissingImport = true
is_of_profile Reason.TableTooLarge = true
is_of_profile Reason.Ambiguous = true
is_of_profile Reason.Depth = true
is_of_profile Reason.ItemTooLong = true
is_of_profile Reason.Version = true
is_of_profile _ = false
