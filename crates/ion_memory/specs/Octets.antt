-- What octets in memory are as documents, and what is written of them.
use Rattle.std.specs.Prelude.{◌≡◌, ◌≤◌, ℕ, List, ◌++◌, length, Result, Ok, Err, ⊤}
use Rattle.ion_memory.specs.Names.{DenotesAnywhere, Encoding, Fault, Format, IsFront, Limits, Memory, Open, Read, Refusal, TooLarge, TooManyReads, Value, Write, accepted_line, lines_of, plain}
use Rattle.ion_events.specs.Layouts.{LaysStream}
use Rattle.ion_streams.specs.Outcomes.{IsRefused}

-- These octets denote s; or they are no document, and s are the values before the refusal.
abbrev pub IsRead : Format → List ℕ → Result ℕ Refusal → List Value → Type 0
IsRead F octets (Ok values) s = F.denotes octets s
IsRead F octets (Err refusal) s = IsRefused F octets s refusal

-- They denote a stream of so many values, or they are no document.
abbrev pub IsCount : Format → List ℕ → Result ℕ Refusal → Type 0
IsCount F octets (Ok values) = (s : List Value) × F.denotes octets s × (length s ≡ values)
IsCount F octets (Err refusal) = (s : List Value) × IsRefused F octets s refusal

-- The lines are those of the values that were read, with the last one where the octets are a document.
abbrev pub IsListing : Format → List ℕ → Result ℕ Refusal → List ℕ → Type 0
IsListing F octets (Ok values) lines = (s : List Value) × F.denotes octets s × (length s ≡ values) × (lines ≡ lines_of s ++ accepted_line values)
IsListing F octets (Err refusal) lines = (s : List Value) × IsRefused F octets s refusal × (lines ≡ lines_of s)

-- What was written denotes the values that were read, and is the one document that this encoding has of them.
pub record IsConversion (E : Encoding) (F : Format) (octets : List ℕ) (answer : Result ℕ Refusal) (written : List ℕ) : Type 0 where
  pub counted : IsCount F octets answer
  pub same : (s : List Value) × IsRead F octets answer s × DenotesAnywhere E written s
  pub spelled : (s : List Value) × IsRead F octets answer s × (written ≡ E.document s)

-- The layout is that of the values that were read.
pub record IsLayout (F : Format) (octets : List ℕ) (answer : Result ℕ Refusal) (layout : List ℕ) : Type 0 where
  pub counted : IsCount F octets answer
  pub lies : (s : List Value) × IsRead F octets answer s × LaysStream s layout

-- The values s were read of the octets so far: these give them, or a front of these with the octet that a reader awaited behind it begins with them. Or s are
-- all that was read of the octets.
pub data WereRead (F : Format) (octets : List ℕ) (s : List Value) : Type 0 where
  so_far : (front rest next : List ℕ) (given : List (Value × ℕ)) → front ++ rest ≡ octets → length next ≤ 1 → IsFront given (F.trace (front ++ next)).given
      → plain given ≡ s → WereRead F octets s
  in_all : (answer : Result ℕ Refusal) → IsRead F octets answer s → WereRead F octets s

-- an id would be too large for a symbol of values that were read
abbrev pub NeedsTooLargeId : Encoding → Format → List ℕ → Type 0
NeedsTooLargeId E F octets = (s : List Value) × WereRead F octets s × E.needs_large_id s

-- Why a call over octets in memory has no answer: none is stopped by a name, by a read or by a write. Each read hands over an octet at least, so where too
-- many were made there are as many octets as reads are allowed; `large` says when an id is too large.
abbrev pub IsFaultInMemory : Limits → List ℕ → Type 0 → Fault → Type 0
IsFaultInMemory l octets large Memory = ⊤
IsFaultInMemory l octets large TooManyReads = l.reads ≤ length octets
IsFaultInMemory l octets large TooLarge = large
IsFaultInMemory l octets large _ = ⊥

-- a write to memory fails where a growth was refused
abbrev pub fault_in_memory : Fault → Fault
fault_in_memory Write = Memory
fault_in_memory fault = fault
