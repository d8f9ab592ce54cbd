-- What a reader of either encoding has told, and what it stands for.
use Rattle.std.specs.Prelude.{◌≡◌, ℕ, ◌==◌, Bool, true, false, List, [], ◌∷◌, Option, Some, None}
use Rattle.ion_docs.specs.Names.Below.{Binary, Built, Catalog, DocWalk, Event, Led, Limits, Refusal, Text, Unbegun, Value, builds, fresh}
use Rattle.ion_binary.specs.walking.Runs as binary
use Rattle.ion_text.specs.walk.Ends as text_ends
use Rattle.ion_text.specs.walk.Runs as text
use Rattle.ion_docs.specs.declared.doc_walk.Encoding.{Encoding}
use Rattle.ion_docs.specs.declared.doc_walk.Encoding.TheVariants.{Refused}

-- there are octets, and whether the first is E0
abbrev pub Begins : Bool → List ℕ → Type 0
Begins with_marker [] = ⊥
Begins with_marker (first ∷ octets) = (first == 0xE0) ≡ with_marker

-- octets that have begun so were handed to a reader under this catalog and within these limits, which told of them
abbrev pub Handed : DocWalk → Bool → Limits → Catalog → Type 0 → List ℕ → Type 0
Handed d with_marker limits catalog Told u = Told × Begins with_marker u × (limits ≡ d.limits) × (catalog ≡ d.catalog.now)

-- of a reader of this encoding: behind these octets, with these values ended, so much was told of what is open
abbrev pub EncodingTold : DocWalk → Encoding → List ℕ → List (Value × ℕ) → List Event → Type 0
EncodingTold d Unbegun u s es = (u ≡ []) × (s ≡ []) × (es ≡ [])
EncodingTold d (Refused refusal) u s es = ⊥
EncodingTold d (Binary r) u s es = Handed d true r.limits r.catalog.now (binary.Told r u s es) u
EncodingTold d (Text r) u s es = Handed d false r.limits r.catalog.now (text.Told r u s es) u

abbrev pub DocTold : DocWalk → List ℕ → List (Value × ℕ) → List Event → Type 0
DocTold d u s es = EncodingTold d d.encoding u s es

-- a visitor that builds heard all that was told so
abbrev pub HasBuilt : DocWalk → Built → List ℕ → List (Value × ℕ) → Type 0
HasBuilt d built u s = (es : List Event) × DocTold d u s es × Led builds es fresh built

-- how many octets the reader of an encoding has used
abbrev pub taken_in : Encoding → ℕ
taken_in Unbegun = 0
taken_in (Refused _) = 0
taken_in (Binary r) = r.used
taken_in (Text r) = text_ends.octets_used r

-- the refusal that each call of its reader answers, if one came
abbrev pub failed_in : Encoding → Option Refusal
failed_in Unbegun = None
failed_in (Refused refusal) = Some refusal
failed_in (Binary r) = r.failed
failed_in (Text r) = text_ends.failed r

-- the octet that it awaits, if it does
abbrev pub awaits_in : Encoding → Option ℕ
awaits_in (Text r) = r.awaited
awaits_in _ = None

-- how many values may come of it before another octet is used
abbrev pub pending_in : Encoding → ℕ
pending_in (Text r) = text.pending r
pending_in _ = 0

-- how many octets of what is open it keeps
abbrev pub kept_in : Encoding → ℕ
kept_in Unbegun = 0
kept_in (Refused _) = 0
kept_in (Binary r) = binary.kept r
kept_in (Text r) = text.octets_kept r

abbrev pub taken_of : DocWalk → ℕ
taken_of d = taken_in d.encoding

abbrev pub failed_of : DocWalk → Option Refusal
failed_of d = failed_in d.encoding

abbrev pub awaits_of : DocWalk → Option ℕ
awaits_of d = awaits_in d.encoding

abbrev pub pending_of : DocWalk → ℕ
pending_of d = pending_in d.encoding

abbrev pub kept_of : DocWalk → ℕ
kept_of d = kept_in d.encoding
