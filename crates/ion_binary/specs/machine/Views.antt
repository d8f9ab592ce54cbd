-- What a reader in memory keeps of the machine's phase.
use Rattle.std.specs.Prelude.{ℕ, Bool, true, false, if◌then◌else◌, List, [], Option, Some, None}
use Rattle.ion_binary.specs.Names.Below.{InBody, Malformed, Phase, Reason}

-- the octets of a body count only inside it
abbrev pub body_so_far : Phase → List ℕ → List ℕ
body_so_far (InBody _ _) body = body
body_so_far _ body = []

-- no reason where it holds
abbrev pub malformed_unless : Bool → Option Reason
malformed_unless holds = if holds then None else Some Malformed

-- whether the next octet is one of a scalar's body
abbrev pub is_in_body : Phase → Bool
is_in_body (InBody t missing) = true
is_in_body _ = false
