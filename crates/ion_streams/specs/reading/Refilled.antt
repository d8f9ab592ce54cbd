-- Pieces that are read where those before are used up.
use Rattle.std.specs.Prelude.{◌≡◌, ◌⊎◌, ℕ, List, ◌++◌, false}
use Rattle.ion_streams.specs.Names.Below.{Heard, Inlet, PieceReader}
use Rattle.ion_streams.specs.reading.Read.{left_of}

-- The device handed over more octets, which stand behind those that were left, or answered its end; what takes them up stays as it was.
pub record Fills {S X : Type 0} (R : Inlet S) (old now : S) (before after : PieceReader X) : Type 0 where
  pub going : before.ended ≡ false
  pub more : List ℕ
  pub heard : Heard R old now more after.ended
  pub left : left_of after ≡ left_of before ++ more
  pub items : after.items ≡ before.items

-- the same, or the device wasn't asked and nothing changed
pub record Refills {S X : Type 0} (R : Inlet S) (old now : S) (before after : PieceReader X) : Type 0 where
  pub either : ((now ≡ old) × (after ≡ before)) ⊎ Fills R old now before after
