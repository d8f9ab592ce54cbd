-- That a conversion writes a document of the same stream.
use Rattle.std.specs.Prelude.{ℕ, List, Result, Ok, Err}
use Rattle.ion_docs.specs.Names.Below.{AreKept, Catalog, Format, Inlet, Limits, Outlet, Refusal, ToldDocument, ToldRefused, Took, Value}
use Rattle.ion_docs.specs.Documents.{Denotes}
use Rattle.ion_docs.specs.Encodings.{Encoding}
use Rattle.ion_docs.specs.Formats.{documents}

-- The octets are a document that denotes s, under every catalog and all limits that admit the document of s in this encoding.
abbrev pub DenotesAnywhere : Encoding → List ℕ → List Value → Type 0
DenotesAnywhere E octets s = (g : Catalog) (l : Limits) → E.admits l s → Denotes g l octets s

module _ {S : Type 0} (R : Inlet S) (F : Format) where
  -- The octets that the device handed over denote s; or they are no document, and s are the values before the refusal.
  abbrev pub WasRead : S → S → Result ℕ Refusal → List Value → Type 0
  WasRead first now (Ok values) s = ToldDocument R F first now s
  WasRead first now (Err refusal) s = ToldRefused R F first now s refusal

module _ {S T : Type 0} (R : Inlet S) (W : Outlet T) (E : Encoding) where
  -- What was read of the first document is what the octets written denote.
  abbrev pub KeepsStream : Catalog → Limits → S → S → T → T → Result ℕ Refusal → Type 0
  KeepsStream g l first now old new answer =
      (s : List Value) × WasRead R (documents g l) first now answer s × (octets : List ℕ) × Took W.took W.written old new octets × DenotesAnywhere E octets s

  -- Of a reader of any format: the values that were read are ones that the types keep, and their document in this encoding was written.
  abbrev pub WritesKept : Format → S → S → T → T → Result ℕ Refusal → Type 0
  WritesKept F first now old new answer = (s : List Value) × WasRead R F first now answer s × AreKept s × Took W.took W.written old new (E.document s)
