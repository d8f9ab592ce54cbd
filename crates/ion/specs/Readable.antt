-- What a document that can be read on keeps between two calls, as a fact that has one proof.
use Rattle.std.specs.Prelude.{◌≡◌, ℕ, ◌+◌, ◌-◌, ◌*◌, ◌<◌, ◌≤◌, ◌^◌, ◌==◌, List, [], ◌∷◌, length, Bool, true, false, Option, Some, None}
use Rattle.ion.specs.Names.{Items, Open, PieceReader, ReadState, left_of}

-- the octets begin with the one that is awaited, if one is
abbrev pub begins_with : Option ℕ → List ℕ → Bool
begins_with None octets = true
begins_with (Some octet) [] = false
begins_with (Some octet) (first ∷ rest) = first == octet

-- what `IsReady` of the streams says
pub record IsReadable {X : Type 0} (I : Items X) (source : PieceReader X) : Type 0 where
  pub within : source.at ≤ source.end
  pub fits : source.end ≤ length source.piece.items
  pub piece : 4096 ≤ length source.piece.items
  pub room : I.taken source.items + (source.end - source.at) + 4096 * source.reads < 2 ^ 63
  pub begins : begins_with (I.awaits source.items) (left_of source) ≡ true
  pub counted : I.taken source.items ≡ source.used

-- so it is, where it can be read on
abbrev pub CanGoOn : {X : Type 0} → Items X → ReadState X → Type 0
CanGoOn {X} I place = (source : PieceReader X) → place ≡ Open source → IsReadable I source
