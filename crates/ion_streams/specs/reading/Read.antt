-- How far a document has been read from a device.
use Rattle.std.specs.Prelude.{◌≡◌, ℕ, ◌+◌, ◌-◌, ◌*◌, ◌<◌, ◌≤◌, ◌^◌, ◌⊎◌, List, [], ◌∷◌, ◌++◌, length, take, drop, Bool, false, Option, None, IfSome}
use Rattle.ion_streams.specs.Names.Below.{Catalog, Heard, Inlet, Items, Limits, PieceReader, Value, WereMade, given_at, plain}
use Rattle.ion_streams.specs.Formats.{Format}
use Rattle.ion_streams.specs.InTurn.{AskedWhile}

-- the octets of a piece between two places
abbrev pub between : List ℕ → ℕ → ℕ → List ℕ
between piece from end = take (end - from) (drop from piece)

-- the octets that were read from the device and are still to be used
abbrev pub left_of : {X : Type 0} → PieceReader X → List ℕ
left_of source = between source.piece.items source.at source.end

-- the octets begin with the one that is awaited, if one is
abbrev pub Begins : Option ℕ → List ℕ → Type 0
Begins awaits octets = IfSome awaits (λ octet. (rest : List ℕ) × (octets ≡ octet ∷ rest))

module _ {X : Type 0} (I : Items X) where
  -- what is left lies in the piece, which has room for another, and begins as the reader awaits; and all that may be read can be counted
  pub record IsReady (source : PieceReader X) : Type 0 where
    pub within : source.at ≤ source.end
    pub fits : source.end ≤ length source.piece.items
    pub piece : 4096 ≤ length source.piece.items
    pub room : I.taken source.items + (source.end - source.at) + 4096 * source.reads < 2 ^ 63
    pub begins : Begins (I.awaits source.items) (left_of source)
    pub counted : I.taken source.items ≡ source.used

  -- more than the values that may still come
  abbrev pub work : PieceReader X → ℕ
  work source = I.pending source.items + 2 * (source.end - source.at) + 8193 * source.reads

  -- a reader that was given no octets yet
  pub record IsFresh (items : X) : Type 0 where
    pub stood : I.stands items [] []
    pub awaited : I.awaits items ≡ None
    pub owes : I.pending items ≡ 0

  -- Of octets u with their values, and the octets that were left, some more were used, and perhaps a value was given.
  pub record Went (u : List ℕ) (given : List (Value × ℕ)) (before : List ℕ) (after : PieceReader X) (value : Option Value) : Type 0 where
    pub to : List ℕ
    pub stood : I.stands after.items to (given ++ given_at value after.used)
    pub octets : to ++ left_of after ≡ u ++ before

-- Nothing comes of a document before its device is asked: no octet of a piece is left, no value may still come, nothing was refused, and the end wasn't answered.
pub record HasToAsk {X : Type 0} (I : Items X) (source : PieceReader X) : Type 0 where
  pub going : source.ended ≡ false
  pub used_up : source.at ≡ source.end
  pub owes : I.pending source.items ≡ 0
  pub not_failed : I.failed source.items ≡ None

-- No read of the device has failed; or it has to be asked first, and one that had failed fails then.
pub record NoneFailed {S X : Type 0} (R : Inlet S) (I : Items X) (now : S) (source : PieceReader X) : Type 0 where
  pub either : (R.has_failed now ≡ false) ⊎ HasToAsk I source

-- the device wasn't asked between old and now, or no read of it has failed
pub record NoReadFailed {S : Type 0} (R : Inlet S) (old now : S) : Type 0 where
  pub either : (now ≡ old) ⊎ (R.has_failed now ≡ false)

-- from old to now the device handed over some octets, or none
pub record HandedOn {S : Type 0} (R : Inlet S) (old now : S) : Type 0 where
  pub more : List ℕ
  pub handed : R.handed now ≡ R.handed old ++ more

-- Behind so many values the device wasn't asked between old and now, or it was asked last while its octets gave no more values than these.
abbrev pub Sought : {S : Type 0} → Inlet S → Format → S → S → S → ℕ → Type 0
Sought R F first old now values = AskedWhile R F first old now (λ given. length given < values + 1)

-- the calls of read that were made and those that may still be made are so many, and unless the end was answered, none answered it
pub record IsWithin {S X : Type 0} (R : Inlet S) (reads : ℕ) (first now : S) (source : PieceReader X) : Type 0 where
  pub made : ℕ
  pub were : source.ended ≡ false → WereMade R made first now
  pub rest : made + source.reads ≡ reads

module _ {S X : Type 0} (R : Inlet S) (I : Items X) (g : Catalog) (l : Limits) where
  -- From first to now the device handed over octets, and answered the end behind them or hasn't; those that the reader used gave these values, each with the
  -- total when it came, under this catalog and these limits, and the others are left.
  pub record GaveEach (first now : S) (items : X) (left : List ℕ) (ended : Bool) (given : List (Value × ℕ)) : Type 0 where
    pub u : List ℕ
    pub heard : Heard R first now (u ++ left) ended
    pub stood : I.stands items u given
    pub under : I.catalog items ≡ g
    pub within : I.limits items ≡ l

  -- the same of the values alone
  pub record Gave (first now : S) (items : X) (left : List ℕ) (ended : Bool) (s : List Value) : Type 0 where
    pub given : List (Value × ℕ)
    pub each : GaveEach first now items left ended given
    pub values : plain given ≡ s

  -- so a document that is being read
  abbrev pub Reads : S → S → PieceReader X → List Value → Type 0
  Reads first now source s = Gave first now source.items (left_of source) source.ended s

  -- the same with the total of octets used when each value came
  abbrev pub ReadsEach : S → S → PieceReader X → List (Value × ℕ) → Type 0
  ReadsEach first now source given = GaveEach first now source.items (left_of source) source.ended given

  -- From first to now some reader gave s so.
  pub record GaveSoFar (first now : S) (s : List Value) : Type 0 where
    pub items : X
    pub left : List ℕ
    pub ended : Bool
    pub gave : Gave first now items left ended s
