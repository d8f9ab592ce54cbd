-- What is known of octets that were let go.
use Rattle.std.specs.Prelude.{◌≡◌, ◌<◌, ◌^◌, ℕ, Bool, true, List, length}
use Rattle.std.specs.Str.{IsUtf8}

-- so many they are, and UTF-8 where that is said
pub record WereLetGo (count : ℕ) (is_text : Bool) (octets : List ℕ) : Type 0 where
  pub counted : length octets ≡ count
  pub few : count < 2 ^ 63
  pub text : is_text ≡ true → IsUtf8 octets
