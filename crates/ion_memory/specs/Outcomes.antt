-- How a call ends, and with which text, where the catalog is octets and the limits are numbers.
use Rattle.std.specs.Prelude.{◌≡◌, ◌⊎◌, ◌^◌, ℕ, List, [], Result, Ok, Err}
use Rattle.ion_memory.specs.Names.{Accepted, Catalog, Different, Ending, Fault, Faulted, IsCatalog, IsVerdict, Limits, Refusal, Refused, Tables, WrongLimits, documents, encoding_of}
use Rattle.ion_symtab.specs.Limits.{AreLimits}
use Rattle.ion_symtab.specs.declared.target.Target.{Target}
use Rattle.ion_streams.specs.declared.comparison.Verdict.{Verdict}
use Rattle.ion_docs.specs.Paths.{path_text}
use Rattle.ion_memory.specs.Endings.{ending_of, whose_side}
use Rattle.ion_memory.specs.Octets.{IsConversion, IsCount, IsFaultInMemory, IsLayout, IsListing, NeedsTooLargeId}

-- a fault for which there is a cause, and no text
abbrev pub IsFault : (Fault → Type 0) → Ending → List ℕ → Type 0
IsFault cause e text = (fault : Fault) × cause fault × (e ≡ Faulted fault) × (text ≡ [])

-- which endings and texts are right under a catalog and limits: those of the answer, or those of a fault for which the octets are a cause
abbrev pub IsRight : Type 1
IsRight = Tables → Limits → Ending → List ℕ → Type 0

-- of a check
abbrev pub IsChecked : List ℕ → IsRight
IsChecked input g l e text =
    ((answer : Result ℕ Refusal) × IsCount (documents g l) input answer × (e ≡ ending_of answer) × (text ≡ [])) ⊎ IsFault (IsFaultInMemory l input ⊥) e text

-- of a listing
abbrev pub IsShown : List ℕ → IsRight
IsShown input g l e text =
    ((answer : Result ℕ Refusal) × IsListing (documents g l) input answer text × (e ≡ ending_of answer)) ⊎ IsFault (IsFaultInMemory l input ⊥) e text

-- of a conversion
abbrev pub IsConverted : Target → List ℕ → IsRight
IsConverted target input g l e text =
    ((answer : Result ℕ Refusal) × IsConversion (encoding_of target) (documents g l) input answer text × (e ≡ ending_of answer))
    ⊎ IsFault (IsFaultInMemory l input (NeedsTooLargeId (encoding_of target) (documents g l) input)) e text

-- of a layout
abbrev pub IsLaidOut : List ℕ → IsRight
IsLaidOut input g l e text =
    ((answer : Result ℕ Refusal) × IsLayout (documents g l) input answer text × (e ≡ ending_of answer)) ⊎ IsFault (IsFaultInMemory l input ⊥) e text

-- a verdict is told by this ending and text
abbrev pub EndsVerdict : Verdict → Ending → List ℕ → Type 0
EndsVerdict (Verdict.Equivalent values) e text = (e ≡ Accepted values) × (text ≡ [])
EndsVerdict (Verdict.Different index path) e text = (e ≡ Different index) × (text ≡ path_text path)
EndsVerdict (Verdict.Refused side refusal) e text = (e ≡ Refused (whose_side side) refusal) × (text ≡ [])

-- of a comparison
abbrev pub IsCompared : List ℕ → List ℕ → IsRight
IsCompared left right g l e text =
    ((verdict : Verdict) × IsVerdict (documents g l) (documents g l) left right verdict × EndsVerdict verdict e text)
    ⊎ IsFault (λ fault. IsFaultInMemory l left ⊥ fault ⊎ IsFaultInMemory l right ⊥ fault) e text

-- these are the limits that were asked for, with the usual limit of reads
abbrev pub AreAsked : ℕ → ℕ → Limits → Type 0
AreAsked depth item l = (l.depth ≡ depth) × (l.item ≡ item) × (l.reads ≡ 2 ^ 32)

-- the octets are a document of these tables, within these limits
abbrev pub IsSetting : List ℕ → ℕ → ℕ → Tables → Limits → Type 0
IsSetting catalog depth item g l = AreAsked depth item l × IsCatalog (documents [] l) catalog (Ok g)

-- they are refused as a catalog so
abbrev pub IsNoCatalog : List ℕ → ℕ → ℕ → Refusal → Type 0
IsNoCatalog catalog depth item refusal = (l : Limits) × AreAsked depth item l × IsCatalog (documents [] l) catalog (Err refusal)

-- how a call ends that has no limits, no catalog, or a fault for which the octets of the catalog are a cause
pub data IsNoSetting (catalog : List ℕ) (depth item : ℕ) (e : Ending) : Type 0 where
  no_limits : (AreLimits depth item (2 ^ 32) → ⊥) → e ≡ WrongLimits → IsNoSetting catalog depth item e
  no_catalog : (refusal : Refusal) → IsNoCatalog catalog depth item refusal → e ≡ Refused Catalog refusal → IsNoSetting catalog depth item e
  faulted : (fault : Fault) (l : Limits) → AreAsked depth item l → IsFaultInMemory l catalog ⊥ fault → e ≡ Faulted fault → IsNoSetting catalog depth item e

-- how a call ends, and its text: right under the catalog and the limits that were asked for, or there were none
pub data IsOutcome (catalog : List ℕ) (depth item : ℕ) (Right : IsRight) (e : Ending) (text : List ℕ) : Type 0 where
  ended : (g : Tables) (l : Limits) → IsSetting catalog depth item g l → Right g l e text → IsOutcome catalog depth item Right e text
  not_begun : IsNoSetting catalog depth item e → text ≡ [] → IsOutcome catalog depth item Right e text
