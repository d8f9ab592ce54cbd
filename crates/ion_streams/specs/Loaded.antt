-- What loading a catalog from a document answers (Ion 1.0, "Symbols", "Shared Symbol Tables").
use Rattle.std.specs.Prelude.{◌≡◌, ◌⊎◌, ℕ, List, [], ◌∷◌, ◌++◌, map, Bool, if◌then◌else◌, is_some, None, Result, Ok, Err}
use Rattle.std.specs.List.{Contains}
use Rattle.ion_streams.specs.Names.Below.{DuplicateTable, Heard, Inlet, MayFollow, Reason, Refusal, Table, Value, find}
use Rattle.ion_symtab.specs.Next.{and_then}
use Rattle.ion_symtab.specs.Shared.{shared_table}
use Rattle.ion_streams.specs.Formats.{Format}
use Rattle.ion_streams.specs.Outcomes.{EndsWell, IsRefused, given_all}

-- a table behind others, none of which may have its name and version
abbrev pub with_table : List Table → Table → Result (List Table) Reason
with_table tables t = if is_some (find tables t.name t.version) then Err DuplicateTable else Ok (tables ++ t ∷ [])

-- the table that a value describes, behind others
abbrev pub added : List Table → Value → Result (List Table) Reason
added tables v = and_then (shared_table v) (with_table tables)

-- a reason, where so many octets were used
abbrev pub then_at : ℕ → Result (List Table) Reason → (List Table → Result (List Table) Refusal) → Result (List Table) Refusal
then_at total (Ok tables) f = f tables
then_at total (Err reason) f = Err (record { offset = total; reason = reason })

-- the tables that values describe, in order and behind others; or why the first is refused that is, with the total of octets used when it came
abbrev pub catalog_of : List Table → List (Value × ℕ) → Result (List Table) Refusal
catalog_of tables [] = Ok tables
catalog_of tables (next ∷ given) = then_at next.1 (added tables next.0) (λ more. catalog_of more given)

-- tables behind others: none has the name and version of one before it
abbrev pub AreApart : List Table → List Table → Type 0
AreApart before [] = Unit {0}
AreApart before (t ∷ tables) = (find before t.name t.version ≡ None) × AreApart (before ++ t ∷ []) tables

-- one of the values describes this table, which has this name and version
abbrev pub DescribesUnder : List Value → List ℕ → ℕ → Table → Type 0
DescribesUnder s name version t = (v : Value) × Contains s v × (shared_table v ≡ Ok t) × (t.name ≡ name) × (t.version ≡ version)

-- the octets are a document, each of its values describes the table in its place, and no name and version comes twice
pub record IsDocumentOf (F : Format) (octets : List ℕ) (tables : List Table) : Type 0 where
  pub s : List Value
  pub denoted : F.denotes octets s
  pub each : map shared_table s ≡ map Ok tables
  pub apart : AreApart [] tables

-- the octets are a document, and these tables are what its values describe
pub record DescribesTables (F : Format) (octets : List ℕ) (tables : List Table) : Type 0 where
  pub given : List (Value × ℕ)
  pub document : EndsWell F octets given
  pub described : catalog_of [] given ≡ Ok tables

-- the octets are no document, and each value before the refusal describes a table
pub record NoDocument (F : Format) (octets : List ℕ) (refusal : Refusal) : Type 0 where
  pub s : List Value
  pub refused : IsRefused F octets s refusal
  pub tables : List Table
  pub described : catalog_of [] (given_all F octets) ≡ Ok tables

-- each of these values describes a table, and none has the name and version of one before it
abbrev pub DescribeTables : List (Value × ℕ) → Type 0
DescribeTables given = (tables : List Table) × (catalog_of [] given ≡ Ok tables)

-- what the octets are as a catalog: a value that they give is refused first, wherever they are no document too
abbrev pub IsCatalog : Format → List ℕ → Result (List Table) Refusal → Type 0
IsCatalog F octets (Ok tables) = DescribesTables F octets tables
IsCatalog F octets (Err refusal) = (catalog_of [] (given_all F octets) ≡ Err refusal) ⊎ NoDocument F octets refusal

-- The device handed over octets. The answer is right about whatever octets begin so, and end there where the device answered its end.
pub record IsLoaded {S : Type 0} (R : Inlet S) (F : Format) (first now : S) (answer : Result (List Table) Refusal) : Type 0 where
  pub octets : List ℕ
  pub ended : Bool
  pub heard : Heard R first now octets ended
  pub decided : (more : List ℕ) → MayFollow ended more → IsCatalog F (octets ++ more) answer
