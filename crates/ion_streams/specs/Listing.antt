-- What showing a document writes.
use Rattle.std.specs.Prelude.{◌≡◌, ℕ, ◌+◌, codes, List, [], ◌++◌, ◌∷◌, length, Result, Ok, Err, true, ⊤}
use Rattle.std.specs.Fmt.{decimal}
use Rattle.ion_streams.specs.Names.Below.{Catalog, Fault, Inlet, Items, Limits, Outlet, Outline, Refusal, Took, TookFront, Value, outline_of}
use Rattle.ion_atoms.specs.Kinds.{kind_name}
use Rattle.ion_symtab.specs.declared.fault.Fault.TheVariants.{Memory, Write}
use Rattle.ion_streams.specs.Formats.{Format, format_of}
use Rattle.ion_streams.specs.Outcomes.{ToldDocument, ToldRefused}
use Rattle.ion_streams.specs.reading.Read.{GaveSoFar}

-- the line of the value with this index and outline
unfoldable pub line_of : ℕ → Outline → List ℕ
line_of index outline =
    decimal index ++ (codes " " ++ (kind_name outline.kind ++
    (codes " depth " ++ (decimal outline.depth ++ (codes " nodes " ++ (decimal outline.nodes ++ codes "\n"))))))

-- the lines of values, the first of which has this index
abbrev pub lines_from : ℕ → List Value → List ℕ
lines_from index [] = []
lines_from index (v ∷ vs) = line_of index (outline_of v) ++ lines_from (index + 1) vs

-- the lines of a stream
abbrev pub lines_of : List Value → List ℕ
lines_of s = lines_from 1 s

-- the last line, behind those of so many values
unfoldable pub accepted_line : ℕ → List ℕ
accepted_line values = codes "accepted " ++ (decimal values ++ codes "\n")

-- The octets that the device handed over denote a stream, and its lines and the last line were written; or they are no document, and the lines of the values
-- before the refusal were written.
abbrev pub IsShown : {S T : Type 0} → Inlet S → Outlet T → Format → S → S → T → T → Result ℕ Refusal → Type 0
IsShown R W F first now old new (Ok values) = (s : List Value) × ToldDocument R F first now s × (length s ≡ values)
    × Took W.took W.written old new (lines_of s ++ accepted_line values)
IsShown R W F first now old new (Err refusal) = (s : List Value) × ToldRefused R F first now s refusal × Took W.took W.written old new (lines_of s)

-- what a fault of writing says of its writer
abbrev pub IsWriteCause : {T : Type 0} → Outlet T → T → Fault → Type 0
IsWriteCause W new Memory = ⊤
IsWriteCause W new Write = W.has_failed new ≡ true
IsWriteCause W new _ = ⊥

-- At a fault nothing was begun; or the document gave s so far, and it was being read, was refused or had ended. Of what is written of it then, some first
-- octets were written.
pub data ShowsSoFar {S X T : Type 0} (R : Inlet S) (I : Items X) (W : Outlet T) (g : Catalog) (l : Limits) (first now : S) (old new : T) : Type 0 where
  at_start : TookFront W.took W.written old new [] → ShowsSoFar R I W g l first now old new
  in_reading : (s : List Value) → GaveSoFar R I g l first now s → TookFront W.took W.written old new (lines_of s) → ShowsSoFar R I W g l first now old new
  at_refusal : (s : List Value) (refusal : Refusal) → ToldRefused R (format_of I g l) first now s refusal → TookFront W.took W.written old new (lines_of s)
      → ShowsSoFar R I W g l first now old new
  at_end : (s : List Value) → ToldDocument R (format_of I g l) first now s → TookFront W.took W.written old new (lines_of s ++ accepted_line (length s))
      → ShowsSoFar R I W g l first now old new
