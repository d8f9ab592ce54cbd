-- What says something isn't refused when it is judged. Crates above cite these names.
use Rattle.std.specs.Prelude.{◌≡◌, ℕ, ◌==◌, false, List, Ok}
use Rattle.std.specs.List.{list_any}
use Rattle.ion_tokens.specs.Names.{Content, IsBody, Number', Passes, SaysNumber, TokenKind}
use Rattle.ion_tokens.specs.laws.Numerals.{number_without_slash}

number_passes : (octets : List ℕ) (c : Content) → SaysNumber octets c → list_any (λ o. o == 47) octets ≡ false
number_passes octets (Number' n) h = number_without_slash octets n h
number_passes octets _ h = absurd h

-- a token that says something isn't refused when it is judged
pub body_passes : (k : TokenKind) (octets : List ℕ) (c : Content) → IsBody k octets (Ok c) → Passes k octets
body_passes TokenKind.Number octets c h = number_passes octets c h
body_passes _ octets c h = tt
