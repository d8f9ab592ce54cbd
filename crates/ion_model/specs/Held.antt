-- What a symbol holds of its text.
use Rattle.std.specs.Prelude.{ℕ, List, Option, None, Some, ◌≤◌, ◌<◌, length, take}
use Rattle.std.specs.Rc.{rc_str_bytes}
use Rattle.ion_model.specs.declared.symbol.Held.{Held}
use Rattle.ion_model.specs.declared.symbol.TheConstants.{MOST_SHORT}

-- the text
abbrev pub held_text : Held → Option (List ℕ)
held_text Held.Unknown = None
held_text (Held.Short count front) = Some (take count front)
held_text (Held.Shared text) = Some (rc_str_bytes text)

-- a short text is a front of what is held, and a longer one alone is shared
abbrev pub IsHeld : Held → Type 0
IsHeld Held.Unknown = Unit {0}
IsHeld (Held.Short count front) = count ≤ MOST_SHORT
IsHeld (Held.Shared text) = MOST_SHORT < length (rc_str_bytes text)
