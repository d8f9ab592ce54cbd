-- What a device told of whose octets all are known.
use Rattle.std.proofs.Common.{◌≡◌, ℕ, List, [], Some, Result, Ok, Err, sym, subst}
use Rattle.ion_memory.specs.Names.{Encoding, Format, Inlet, IsCatalog, IsConversionOf, IsListingOf, IsLoaded, KeepsStream, Limits, Outlet, Refusal, Tables as Catalog, TellsOnly, documents}
use Rattle.ion_symtab.specs.Tables.{Table}
use Rattle.ion_symtab.specs.Took.{Took}
use Rattle.ion_streams.specs.Listing.{IsShown}
use Rattle.ion_docs.specs.Converted.{IsConverted}
use Rattle.ion_streams.specs.LaidOut.{IsLaidOut}
use Rattle.ion_docs.proofs.Told.{conversion_told, document_whole, listing_told, refused_whole, whole}
use Rattle.ion_memory.specs.Octets.{IsConversion, IsLayout, IsListing}

module _ {S : Type 0} (R : Inlet S) (some : (device : S) → (rest : List ℕ) × R.tells device rest) (w : List ℕ) (first now : S)
    (only : TellsOnly R first w) where
  -- what a device that tells these octets alone is loaded as is what they are as a catalog
  pub loaded_all : (F : Format) (answer : Result (List Table) Refusal) → IsLoaded R F first now answer → IsCatalog F w answer
  loaded_all F answer h =
      let (more, follows, e) = whole R some first now h.octets w h.ended h.heard only in
      subst (λ (x : List ℕ). IsCatalog F x answer) e (h.decided more follows)

  -- what it is laid out as is the layout of what they are
  pub laid_all : (g : Catalog) (l : Limits) (answer : Result ℕ Refusal) (layout : List ℕ) → IsLaidOut R (documents g l) first now answer layout
      → IsLayout (documents g l) w answer layout
  laid_all g l (Ok values) layout (s, told, many, lies) =
      let denoted = document_whole R some (documents g l) first now s w told only in
      record { counted = (s, denoted, many); lies = (s, denoted, lies) }
  laid_all g l (Err refusal) layout (s, told, lies) =
      let refused = refused_whole R some (documents g l) first now s refusal w told only in
      record { counted = (s, refused); lies = (s, refused, lies) }

  -- what was written went after nothing
  module _ {T : Type 0} (W : Outlet T) (old new : T) (all : List ℕ) (none : W.took old ≡ Some []) (taken : W.took new ≡ Some all) (g : Catalog) (l : Limits)
    where
      written_all : (octets : List ℕ) → Took W.took W.written old new octets → octets ≡ all
      written_all octets h = let k = rw (none, taken) at h.taken in sym k

      -- all that was written of a device that tells these octets alone is their listing
      pub shown_all : (answer : Result ℕ Refusal) → IsShown R W (documents g l) first now old new answer → IsListing (documents g l) w answer all
      shown_all (Ok values) h =
          let (lines, took, listed) = listing_told R some g l first now w only W old new (Ok values) h in
          subst (λ (x : List ℕ). IsListingOf g l w x (Ok values)) (written_all lines took) listed
      shown_all (Err refusal) h =
          let (lines, took, listed) = listing_told R some g l first now w only W old new (Err refusal) h in
          subst (λ (x : List ℕ). IsListingOf g l w x (Err refusal)) (written_all lines took) listed

      converted_so : (E : Encoding) (answer : Result ℕ Refusal) → IsConversionOf g l E w all answer → IsConversion E (documents g l) w answer all
      converted_so E (Ok values) (s, denoted, many, spelled, anywhere) =
          record { counted = (s, denoted, many); same = (s, denoted, anywhere); spelled = (s, denoted, spelled) }
      converted_so E (Err refusal) (s, refused, spelled, anywhere) =
          record { counted = (s, refused); same = (s, refused, anywhere); spelled = (s, refused, spelled) }

      -- all that was written of a device that tells these octets alone is their conversion
      pub converted_all : (E : Encoding) (answer : Result ℕ Refusal) → IsConverted R W E (documents g l) first now old new answer
          → KeepsStream R W E g l first now old new answer → IsConversion E (documents g l) w answer all
      converted_all E answer h k =
          let (octets, took, converted) = conversion_told R some g l first now w only W old new E answer h k in
          converted_so E answer (subst (λ (x : List ℕ). IsConversionOf g l E w x answer) (written_all octets took) converted)
