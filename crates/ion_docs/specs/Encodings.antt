-- The encodings that streams are written in, and how a document is written one value after another.
use Rattle.std.specs.Prelude.{◌≡◌, ℕ, List, ◌++◌, Bool, true, ⊤}
use Rattle.ion_docs.specs.Names.Below.{Event, Fault, FitsInBinary, FitsInText, Led, Limits, Memory, NeedsLargeId, Open, Outlet, Read, Target, TooLarge, TooManyReads, Took, TookFront, Value, Write, behind, bin_of, events_of, nothing_yet, text_of}
use Rattle.ion_symtab.specs.declared.target.Target.TheVariants.{Binary, Text}

-- an encoding
pub record Encoding : Type 1 where
  -- the document of a stream
  pub document : List Value → List ℕ
  -- the limits admit that document
  pub admits : Limits → List Value → Type 0
  -- that document can't be written: a symbol would need an id above 2^31-1
  pub needs_large_id : List Value → Type 0

-- binary documents, in which symbols have ids, and may need a too large one
abbrev pub binary_encoding : Encoding
binary_encoding = record {
  document = bin_of;
  admits = FitsInBinary;
  needs_large_id = λ s. NeedsLargeId (behind nothing_yet s).names;
}

-- symbols are written by their texts, without ids
abbrev pub text_encoding : Encoding
text_encoding = record { document = text_of; admits = FitsInText; needs_large_id = λ s. ⊥ }

-- the encoding that a target asks for
abbrev pub encoding_of : Target → Encoding
encoding_of Binary = binary_encoding
encoding_of Text = text_encoding

-- behind the values that were put, a writer was told this one
pub record WasTold {X : Type 0} (has_put : X → List Value → Type 0) (takes : X → Event → X → Type 0) (s : List Value) (v : Value) (now : X) : Type 0 where
  pub before : X
  pub put : has_put before s
  pub told : Led takes (events_of v) before now

-- a front of octets
abbrev pub IsFrontOf : List ℕ → List ℕ → Type 0
IsFrontOf front octets = (rest : List ℕ) × (front ++ rest ≡ octets)

module _ {T : Type 0} (W : Outlet T) where
  -- Of these octets, whose front was there before, a device took what stands behind that front.
  abbrev pub TookBehind : T → T → List ℕ → List ℕ → Type 0
  TookBehind old new front octets = (rest : List ℕ) × (front ++ rest ≡ octets) × Took W.took W.written old new rest

  -- It took a front of that.
  abbrev pub TookSomeBehind : T → T → List ℕ → List ℕ → Type 0
  TookSomeBehind old new front octets = (rest : List ℕ) × (front ++ rest ≡ octets) × TookFront W.took W.written old new rest

-- why values weren't put: memory was refused, the device says that it failed, or an id would be too large
abbrev pub IsPuttingFault : Encoding → List Value → Bool → Fault → Type 0
IsPuttingFault E s failed Memory = ⊤
IsPuttingFault E s failed Write = failed ≡ true
IsPuttingFault E s failed TooLarge = E.needs_large_id s
IsPuttingFault E s failed Read = ⊥
IsPuttingFault E s failed TooManyReads = ⊥
IsPuttingFault E s failed Open = ⊥
