-- Documents that are read by walks, which tell a visitor their values.
use Rattle.std.specs.Prelude.{◌≡◌, ℕ, List, [], ◌∷◌, ◌++◌, Bool, true, false, Option, Some, None}
use Rattle.ion_streams.specs.Names.Below.{AValue, Catalog, End, Event, Hears, Inlet, Items, Led, Limits, PieceReader, Reached, ReadState, Value, events_of}
use Rattle.ion_streams.specs.Formats.{Format, format_of}
use Rattle.ion_streams.specs.Outcomes.{EndsRefused, EndsWell, ToldRefusedEach}
use Rattle.ion_streams.specs.declared.piece_reader.Reached.TheVariants.{Refused}
use Rattle.ion_streams.specs.reading.Read.{GaveEach, ReadsEach, Went, left_of}
use Rattle.ion_streams.specs.reading.ReadState.{IfEnded, IfRefused, MatchClosed, StoodEach}

-- What contracts see of a reader that walks: it stands for octets and values where it told these values of them, and these events of the one that is
-- open.
abbrev pub telling : {X : Type 0} → Items X → List Event → Items X
telling I es = record I { stands = λ r u s. I.told r u s es }

module _ {V X : Type 0} (takes : V → Event → V → Type 0) (I : Items X) where
  -- Of octets u with their values, and the octets that were left, some more were used: they ended a value, or none. A visitor that had heard es has
  -- heard all events of that value, or of what is open now.
  abbrev pub WentBy : List ℕ → List (Value × ℕ) → List Event → List ℕ → PieceReader X → Bool → V → V → Type 0
  WentBy u given es before after true a b = (v : Value) × Hears takes es (events_of v) a b × Went (telling I []) u given before after (Some v)
  WentBy u given es before after false a b = (fs : List Event) × Hears takes es fs a b × Went (telling I fs) u given before after None

  module _ {S : Type 0} (R : Inlet S) (g : Catalog) (l : Limits) (first now : S) where
    -- From first to now the document told these values and one more, or these up to the end that the device answered, or these before it was refused.
    abbrev pub ReachesBy : PieceReader X → List (Value × ℕ) → List Event → Reached (Unit {0}) → V → V → Type 0
    ReachesBy source given es (AValue found) a b = (v : Value) × Hears takes es (events_of v) a b
        × ReadsEach R (telling I []) g l first now source (given ++ (v, source.used) ∷ [])
    ReachesBy source given es End a b = (fs : List Event) × Hears takes es fs a b
        × GaveEach R (telling I fs) g l first now source.items (left_of source) true given
    ReachesBy source given es (Refused refusal) a b = ToldRefusedEach R (format_of I g l) first now given refusal

    -- Behind these values no more was told, and a visitor is as it was where the document has ended. Or one more was, to the visitor, with the total of
    -- octets when it ended, and nothing was refused.
    abbrev pub ToldNext : ReadState X → List (Value × ℕ) → Option ℕ → V → V → Type 0
    ToldNext place given None a b = StoodEach R (telling I []) g l first now place given × IfEnded place (b ≡ a)
    ToldNext place given (Some used) a b = (v : Value) × Led takes (events_of v) a b
        × StoodEach R (telling I []) g l first now place (given ++ (v, used) ∷ []) × IfRefused place ⊥

-- Behind these values no more was told. Or one more was, with the total of octets when it ended: this is so of it, and nothing was refused.
abbrev pub HeldNext : {S X : Type 0} → (Value → Type 0) → Inlet S → Items X → Catalog → Limits → S → S → ReadState X → List (Value × ℕ) → Option ℕ → Type 0
HeldNext P R I g l first now place given None = StoodEach R (telling I []) g l first now place given
HeldNext P R I g l first now place given (Some used) = (v : Value) × P v
    × StoodEach R (telling I []) g l first now place (given ++ (v, used) ∷ []) × IfRefused place ⊥

-- What the end of a document gave, whose octets u gave these values: no more, or one of which a visitor has heard all that had heard es. Or the octets
-- are refused.
abbrev pub EndsBy : {V X : Type 0} → (V → Event → V → Type 0) → Format → List ℕ → List (Value × ℕ) → List Event → ReadState X → Option ℕ → V → V
    → Type 0
EndsBy takes F u given es place None a b = MatchClosed place (EndsWell F u given × Hears takes es [] a b) (λ refusal. EndsRefused F u given refusal)
EndsBy takes F u given es place (Some used) a b = (v : Value) × Hears takes es (events_of v) a b
    × MatchClosed place (EndsWell F u (given ++ (v, used) ∷ [])) (λ refusal. ⊥)
