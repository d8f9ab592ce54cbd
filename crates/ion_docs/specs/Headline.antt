-- The promise over octets in memory, under one catalog and within limits: what the answers of the whole calls say of them.
use Rattle.std.specs.Prelude.{◌≡◌, ℕ, ◌+◌, List, [], ◌++◌, take, length, slice_get, true, false, Option, Some, None, Result, Ok, Err}
use lib.Pointwise.{pointwise}
use Rattle.ion_docs.specs.Names.{Catalog, Denotes, DenotesAnywhere, Different, Encoding, Equivalent, Inlet, IsPath, IsRefused, IsVerdict, Left, Limits, Part, Refusal, Refused, Right, Value, Verdict, accepted_line, documents, lines_of, same}

-- 1. Two streams.

-- they are equivalent: as many values, so many, and each is the same as the other stream's in its place
abbrev pub AreEquivalent : ℕ → List Value → List Value → Type 0
AreEquivalent values s t = (pointwise same s t ≡ true) × (length s ≡ values)

-- what one stream has at a place and the other: two values that aren't the same, which part at this path; or only one has a value, and the path is empty
abbrev pub PartThere : List Part → Option Value → Option Value → Type 0
PartThere path (Some v) (Some w) = (same v w ≡ false) × IsPath path v w
PartThere path (Some v) None = path ≡ []
PartThere path None (Some w) = path ≡ []
PartThere path None None = ⊥

-- they part first at this value, counted from 1: the values before it are the same, and there the streams part
pub record PartFirst (index : ℕ) (path : List Part) (s t : List Value) : Type 0 where
  pub before : ℕ
  pub number : index ≡ before + 1
  pub agree : pointwise same (take before s) (take before t) ≡ true
  pub there : PartThere path (slice_get s before) (slice_get t before)

-- 2. Octets.
module _ (g : Catalog) (k : Limits) where
  -- they are a document
  abbrev pub IsDocument : List ℕ → Type 0
  IsDocument u = (s : List Value) × Denotes g k u s

  -- they are none
  abbrev pub IsNoDocument : List ℕ → Type 0
  IsNoDocument u = (s : List Value) → Denotes g k u s → ⊥

  -- both are documents, of streams of which this holds
  abbrev pub AreDocuments : List ℕ → List ℕ → (List Value → List Value → Type 0) → Type 0
  AreDocuments l r holds = (s : List Value) × (t : List Value) × Denotes g k l s × Denotes g k r t × holds s t

  -- 3. What `compare` says of two octet strings.
  abbrev pub IsVerdictOn : List ℕ → List ℕ → Verdict → Type 0
  IsVerdictOn l r verdict = IsVerdict (documents g k) (documents g k) l r verdict

  -- it says that they are documents of equivalent streams, of so many values
  abbrev pub SaysEquivalent : List ℕ → List ℕ → ℕ → Type 0
  SaysEquivalent l r values = IsVerdictOn l r (Equivalent values)

  -- it says that they are documents whose streams part first at this value, and within it at this path
  abbrev pub SaysDifferent : List ℕ → List ℕ → ℕ → List Part → Type 0
  SaysDifferent l r index path = IsVerdictOn l r (Different index path)

  -- it refuses the left
  abbrev pub RefusesLeft : List ℕ → List ℕ → Type 0
  RefusesLeft l r = (refusal : Refusal) × IsVerdictOn l r (Refused Left refusal)

  -- it refuses the right
  abbrev pub RefusesRight : List ℕ → List ℕ → Type 0
  RefusesRight l r = (refusal : Refusal) × IsVerdictOn l r (Refused Right refusal)

  -- 4. What the calls over one document say and write.

  -- `check`: how many values the stream has, or the refusal of octets that are no document
  abbrev pub IsCheckOf : List ℕ → Result ℕ Refusal → Type 0
  IsCheckOf u (Ok values) = (s : List Value) × Denotes g k u s × (length s ≡ values)
  IsCheckOf u (Err refusal) = (s : List Value) × IsRefused (documents g k) u s refusal

  -- `show` wrote w: a line for each value, and the last line behind those of a document
  abbrev pub IsListingOf : List ℕ → List ℕ → Result ℕ Refusal → Type 0
  IsListingOf u w (Ok values) = (s : List Value) × Denotes g k u s × (length s ≡ values) × (w ≡ lines_of s ++ accepted_line values)
  IsListingOf u w (Err refusal) = (s : List Value) × IsRefused (documents g k) u s refusal × (w ≡ lines_of s)

  -- `convert` wrote w: the document of the stream, or of the values before the refusal, which denotes them under every catalog and all limits that admit it
  abbrev pub IsConversionOf : Encoding → List ℕ → List ℕ → Result ℕ Refusal → Type 0
  IsConversionOf E u w (Ok values) = (s : List Value) × Denotes g k u s × (length s ≡ values) × (w ≡ E.document s) × DenotesAnywhere E w s
  IsConversionOf E u w (Err refusal) = (s : List Value) × IsRefused (documents g k) u s refusal × (w ≡ E.document s) × DenotesAnywhere E w s

-- 5. A device, as one over octets in memory, that tells these octets and no others.
abbrev pub TellsOnly : {S : Type 0} → Inlet S → S → List ℕ → Type 0
TellsOnly R device w = R.tells device w × ((v : List ℕ) → R.tells device v → v ≡ w)
