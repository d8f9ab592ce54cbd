-- What a device took.
use Rattle.std.specs.Prelude.{◌≡◌, ℕ, List, ◌++◌, Option, take}
use Rattle.std.specs.Io.KnownBytes.{Appends}

-- Between old and new a device took these octets: where it is known what it holds, they stand behind that, and all of them were written.
pub record Took {S : Type 0} (took : S → Option (List ℕ)) (written : S → List ℕ) (old new : S) (octets : List ℕ) : Type 0 where
  pub taken : Appends (took old) (took new) octets
  pub wrote : written new ≡ written old ++ octets

-- between old and new a device took a front of these octets: the first `count` of them
pub record TookFront {S : Type 0} (took : S → Option (List ℕ)) (written : S → List ℕ) (old new : S) (octets : List ℕ) : Type 0 where
  pub count : ℕ
  pub front : Took took written old new (take count octets)
