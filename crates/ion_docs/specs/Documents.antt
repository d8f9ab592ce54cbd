-- What documents denote, by their first octet: E0 begins those in binary, and the others are text.
use Rattle.std.specs.Prelude.{◌≡◌, ℕ, Bool, true, false, ◌==◌, List, [], ◌∷◌, ◌++◌}
use Rattle.ion_docs.specs.Names.Below.{Catalog, Limits, Value}
use Rattle.ion_binary.specs.Grammar as binary
use Rattle.ion_text.specs.Grammar as text

-- the first octet is E0
abbrev pub is_binary : List ℕ → Bool
is_binary [] = false
is_binary (first ∷ octets) = first == 0xE0

-- under this catalog the octets are a document within the limits, and s is its stream
pub data Denotes (g : Catalog) (l : Limits) (w : List ℕ) (s : List Value) : Type 0 where
  in_binary : is_binary w ≡ true → binary.Document g l w s → Denotes g l w s
  in_text : is_binary w ≡ false → text.Document g l w s → Denotes g l w s

-- the octets of `front`, where `following` come next, are whole pieces of a document in the encoding that the first of all chooses
pub data Pieces (g : Catalog) (l : Limits) (front following : List ℕ) (s : List Value) : Type 0 where
  binary_pieces : is_binary (front ++ following) ≡ true → binary.Whole g l front s → Pieces g l front following s
  text_pieces : is_binary (front ++ following) ≡ false → text.Whole g l front following s → Pieces g l front following s

-- behind whole pieces these octets may stand open, in the encoding that the first octet chooses
pub data OpenAfter (l : Limits) (front rest : List ℕ) : Type 0 where
  binary_rest : is_binary (front ++ rest) ≡ true → binary.OpenRest l rest → OpenAfter l front rest
  text_rest : is_binary (front ++ rest) ≡ false → text.OpenRest l rest → OpenAfter l front rest
