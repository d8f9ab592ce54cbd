-- What is known of a document whose values are asked for one by one.
use Rattle.std.specs.Prelude.{◌≡◌, ℕ, List, [], ◌∷◌, ◌++◌, Bool, IsSome, Option, Some, None, Result, Ok, Err, option_to_list}
use Rattle.ion.specs.Names.{Catalog, Fault, Format, GaveSoFar, Heard, IfOpen, Inlet, IsReadCause, IsWithin, Items, Limits, MayFollow, ReadState, Stood, Stop, ToldDocument, ToldRefused, Value, format_of}

-- the first values stand in front of the others
abbrev pub IsFront : List Value → List Value → Type 0
IsFront front all = (later : List Value) × (all ≡ front ++ later)

module _ {S : Type 0} (R : Inlet S) where
  -- From first to now the device handed over octets. Whichever document they begin, and all of it where the end was answered, the stream of it begins with s.
  pub record GivesFront (F : Format) (first now : S) (s : List Value) : Type 0 where
    pub octets : List ℕ
    pub ended : Bool
    pub heard : Heard R first now octets ended
    pub front : (more : List ℕ) (t : List Value) → MayFollow ended more → F.denotes (octets ++ more) t → IsFront s t

  -- What `next` answers behind the values s: a value, so that s and it are the front of the stream of what was heard; `None` where what was heard is a
  -- document, and s its stream; or why there is no next value.
  abbrev pub IsNext : {X : Type 0} → Items X → Catalog → Limits → S → S → List Value → Result (Option Value) Stop → Type 0
  IsNext I g l first now s (Ok (Some value)) = GivesFront (format_of I g l) first now (s ++ value ∷ [])
  IsNext I g l first now s (Ok None) = ToldDocument R (format_of I g l) first now s
  IsNext I g l first now s (Err (Stop.Refused refusal)) = ToldRefused R (format_of I g l) first now s refusal
  IsNext I g l first now s (Err (Stop.Fault fault)) = GaveSoFar R I g l first now s × IsReadCause R l.reads first now fault

  -- From first to now the document gave the values s, and stands there; or it did up to this fault.
  abbrev pub HasGiven : {X : Type 0} → Items X → Catalog → Limits → S → S → ReadState X → Option Fault → List Value → Type 0
  HasGiven I g l first now place None s = Stood R I g l first now place s × IfOpen place (IsWithin R l.reads first now)
  HasGiven I g l first now place (Some fault) s = GaveSoFar R I g l first now s × IsReadCause R l.reads first now fault

-- it was found to be no document
abbrev pub IsRefused : {X : Type 0} → ReadState X → Type 0
IsRefused (ReadState.Open source) = ⊥
IsRefused ReadState.Ended = ⊥
IsRefused (ReadState.Refused refusal) = Unit {0}

-- From first to now a document that had given s gave this, and stands there: s and it are the front of the stream of what was heard, and a document that was
-- refused gave nothing more.
pub record WentOn {S X : Type 0} (R : Inlet S) (I : Items X) (g : Catalog) (l : Limits) (first now : S) (place : ReadState X) (s : List Value)
    (value : Option Value) : Type 0 where
  pub stood : Stood R I g l first now place (s ++ option_to_list value)
  pub front : IsSome value → GivesFront R (format_of I g l) first now (s ++ option_to_list value)
  pub refused : IsRefused place → value ≡ None

-- the answer where a document gave this, and stands there
abbrev pub answer_of : {X : Type 0} → ReadState X → Option Value → Result (Option Value) Stop
answer_of (ReadState.Open source) value = Ok value
answer_of ReadState.Ended value = Ok value
answer_of (ReadState.Refused refusal) value = Err (Stop.Refused refusal)

-- the value that an answer gives, if it gives one
abbrev pub given_by : Result (Option Value) Stop → List Value
given_by (Ok value) = option_to_list value
given_by (Err stop) = []

-- where it isn't a fault: a value, none, or a refusal
abbrev pub IfAnswered : Result (Option Value) Stop → Type 0 → Type 0
IfAnswered (Ok value) P = P
IfAnswered (Err (Stop.Refused refusal)) P = P
IfAnswered (Err (Stop.Fault fault)) P = Unit {0}

-- the answer of a document that isn't read on, which stays
abbrev pub settled : {X : Type 0} → ReadState X → Option Fault → Option (Result (Option Value) Stop)
settled place (Some fault) = Some (Err (Stop.Fault fault))
settled (ReadState.Open source) None = None
settled ReadState.Ended None = Some (Ok None)
settled (ReadState.Refused refusal) None = Some (Err (Stop.Refused refusal))
