-- What the conversion of a document writes.
use Rattle.std.specs.Prelude.{◌≡◌, ℕ, List, [], length, Result, Ok, Err, Bool, true, ⊤}
use Rattle.ion_docs.specs.Names.Below.{Catalog, Fault, Format, GaveSoFar, Inlet, Items, Limits, Memory, Open, Outlet, Read, Refusal, ToldDocument, ToldRefused, TooLarge, TooManyReads, Took, TookFront, Value, Write, format_of}
use Rattle.ion_docs.specs.Encodings.{Encoding}

-- The octets that the device handed over denote a stream, and its document in this encoding was written; or they are no document, and that of the values before
-- the refusal was written.
abbrev pub IsConverted : {S T : Type 0} → Inlet S → Outlet T → Encoding → Format → S → S → T → T → Result ℕ Refusal → Type 0
IsConverted R W E F first now old new (Ok values) = (s : List Value) × ToldDocument R F first now s × (length s ≡ values)
    × Took W.took W.written old new (E.document s)
IsConverted R W E F first now old new (Err refusal) = (s : List Value) × ToldRefused R F first now s refusal × Took W.took W.written old new (E.document s)

-- s was read of the document so far: it is being read, was refused, or has ended
pub data ReadSoFar {S X : Type 0} (R : Inlet S) (I : Items X) (g : Catalog) (l : Limits) (first now : S) (s : List Value) : Type 0 where
  in_reading : GaveSoFar R I g l first now s → ReadSoFar R I g l first now s
  at_refusal : (refusal : Refusal) → ToldRefused R (format_of I g l) first now s refusal → ReadSoFar R I g l first now s
  at_end : ToldDocument R (format_of I g l) first now s → ReadSoFar R I g l first now s

-- At a fault nothing was begun; or of the document of the values read so far some first octets were written.
pub data ConvertsSoFar {T : Type 0} (E : Encoding) (WasRead : List Value → Type 0) (W : Outlet T) (old new : T) : Type 0 where
  at_start : TookFront W.took W.written old new [] → ConvertsSoFar E WasRead W old new
  so_far : (s : List Value) → WasRead s → TookFront W.took W.written old new (E.document s) → ConvertsSoFar E WasRead W old new

-- what a fault of converting says: of its writer, or of the ids that the values read so far would need
abbrev pub IsConvertCause : Encoding → (List Value → Type 0) → Bool → Fault → Type 0
IsConvertCause E WasRead failed Memory = ⊤
IsConvertCause E WasRead failed Write = failed ≡ true
IsConvertCause E WasRead failed TooLarge = (s : List Value) × WasRead s × E.needs_large_id s
IsConvertCause E WasRead failed Read = ⊥
IsConvertCause E WasRead failed TooManyReads = ⊥
IsConvertCause E WasRead failed Open = ⊥
