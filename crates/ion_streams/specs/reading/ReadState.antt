-- Where a document stands.
use Rattle.std.specs.Prelude.{ℕ, ◌+◌, List, [], ◌∷◌, ◌++◌, Option, Some, None, Result, Ok, Err}
use Rattle.ion_streams.specs.Names.Below.{Catalog, Ended, Inlet, Items, Limits, Open, PieceReader, ReadState, Refusal, Refused, Value}
use Rattle.ion_streams.specs.Formats.{format_of}
use Rattle.ion_streams.specs.Outcomes.{ToldDocument, ToldEach, ToldRefused, ToldRefusedEach}
use Rattle.ion_streams.specs.reading.Read.{HasToAsk, Reads, ReadsEach, work}

-- so of what is read, where the document is still being read
abbrev pub IfOpen : {X : Type 0} → ReadState X → (PieceReader X → Type 0) → Type 0
IfOpen (Open source) P = P source
IfOpen _ P = Unit {0}

-- the document is still being read
abbrev pub IsOpen : {X : Type 0} → ReadState X → Type 0
IsOpen (Open source) = Unit {0}
IsOpen _ = ⊥

-- it is open, and its device has to be asked first
abbrev pub StandsUnread : {X : Type 0} → Items X → ReadState X → Type 0
StandsUnread I (Open source) = HasToAsk I source
StandsUnread I _ = ⊥

-- so where the document has ended, or was refused
abbrev pub IfClosed : {X : Type 0} → ReadState X → Type 0 → Type 0
IfClosed (Open source) P = Unit {0}
IfClosed _ P = P

-- the document has ended, and this is so; or it was refused, and this is so of the refusal
abbrev pub MatchClosed : {X : Type 0} → ReadState X → Type 0 → (Refusal → Type 0) → Type 0
MatchClosed (Open source) P Q = ⊥
MatchClosed Ended P Q = P
MatchClosed (Refused refusal) P Q = Q refusal

-- more than the values that may still come, and the end
abbrev pub work_of : {X : Type 0} → Items X → ReadState X → ℕ
work_of I (Open source) = work I source + 1
work_of I _ = 0

-- how often the device may still be asked
abbrev pub reads_of : {X : Type 0} → ReadState X → ℕ
reads_of (Open source) = source.reads
reads_of _ = 0

-- From first to now the document gave s: it is read so far, it was one, or it is none.
abbrev pub Stood : {S X : Type 0} → Inlet S → Items X → Catalog → Limits → S → S → ReadState X → List Value → Type 0
Stood R I g l first now (Open source) s = Reads R I g l first now source s
Stood R I g l first now Ended s = ToldDocument R (format_of I g l) first now s
Stood R I g l first now (Refused refusal) s = ToldRefused R (format_of I g l) first now s refusal

-- the same with the total of octets used when each value came; a refused document gave the values before the refusal
abbrev pub StoodEach : {S X : Type 0} → Inlet S → Items X → Catalog → Limits → S → S → ReadState X → List (Value × ℕ) → Type 0
StoodEach R I g l first now (Open source) given = ReadsEach R I g l first now source given
StoodEach R I g l first now Ended given = ToldEach R (format_of I g l) first now given
StoodEach R I g l first now (Refused refusal) given = ToldRefusedEach R (format_of I g l) first now given refusal

-- so where the document has ended
abbrev pub IfEnded : {X : Type 0} → ReadState X → Type 0 → Type 0
IfEnded Ended P = P
IfEnded _ P = Unit {0}

-- so where the document was refused
abbrev pub IfRefused : {X : Type 0} → ReadState X → Type 0 → Type 0
IfRefused (Refused refusal) P = P
IfRefused _ P = Unit {0}

-- Behind these values no more was found; or one more was, with the total of octets when it came, and nothing was refused.
abbrev pub GaveNext : {S X : Type 0} → Inlet S → Items X → Catalog → Limits → S → S → ReadState X → List (Value × ℕ) → Option (Value × ℕ) → Type 0
GaveNext R I g l first now place given None = StoodEach R I g l first now place given
GaveNext R I g l first now place given (Some found) = StoodEach R I g l first now place (given ++ found ∷ []) × IfRefused place ⊥

-- this answer, or the refusal of what is no document
abbrev pub answered : {X A : Type 0} → ReadState X → A → Result A Refusal
answered (Refused refusal) a = Err refusal
answered _ a = Ok a
