-- What whole calls say of devices that tell only certain octets.
use Rattle.std.proofs.Common.{◌≡◌, ℕ, ◌+◌, ◌≤◌, List, [], ◌++◌, length, refl, sym, ap, subst, ◌∙◌, Bool, true, false, Result, Ok, Err, append-nil, length-append, arith}
use Rattle.std.proofs.lemmas.List.{append_cancel_left}
use Rattle.ion_docs.specs.Names.{Catalog, DenotesAnywhere, Encoding, Format, Inlet, IsChecked, IsCompared, IsConverted, IsRefused, IsShown, IsVerdict, KeepsStream, Limits, Outlet, Refusal, ToldDocument, ToldRefused, Took, Value, Verdict, WereMade, accepted_line, documents, lines_of}
use Rattle.ion_symtab.specs.Heard.{Heard, MayFollow}
use Rattle.ion_symtab.specs.laws.Heard.{Heard-end}
use Rattle.ion_docs.specs.Headline.{IsCheckOf, IsConversionOf, IsListingOf, TellsOnly}
use Rattle.ion_docs.specs.laws.Documents.{one_document, one_shown}

-- 1. What was heard of such a device are the first of its octets, and all of them where it answered its end.
module _ {S : Type 0} (R : Inlet S) (some : (device : S) → (rest : List ℕ) × R.tells device rest) where
  pub whole : (first now : S) (octets w : List ℕ) (ended : Bool) → Heard R first now octets ended → TellsOnly R first w → (more : List ℕ) × MayFollow ended more
      × (octets ++ more ≡ w)
  whole first now octets w true h only = ([], λ _. refl, append-nil octets ∙ only.1 octets (Heard-end R first now octets h))
  whole first now octets w false h only = let rest = some now in (rest.0, λ never. absurd cc, only.1 (octets ++ rest.0) (h.told.told rest.0 rest.1))

  -- so many calls that handed something over were made only where it has as many octets
  pub reads_whole : (reads : ℕ) (first now : S) (w : List ℕ) → WereMade R reads first now → TellsOnly R first w → reads ≤ length w
  reads_whole reads first now w h only =
      let all = whole first now h.octets w false h.heard only in
      let many : length h.octets + length all.0 ≡ length w = sym (length-append h.octets all.0) ∙ ap (λ (x : List ℕ). length x) all.2 in
      omega (arith, h.each, many)

  pub document_whole : (F : Format) (first now : S) (s : List Value) (w : List ℕ) → ToldDocument R F first now s → TellsOnly R first w → F.denotes w s
  document_whole F first now s w h only = subst (λ (x : List ℕ). F.denotes x s) (only.1 h.octets h.told) h.denoted

  pub refused_whole : (F : Format) (first now : S) (s : List Value) (refusal : Refusal) (w : List ℕ) → ToldRefused R F first now s refusal → TellsOnly R first w
      → IsRefused F w s refusal
  refused_whole F first now s refusal w h only =
      let all = whole first now h.octets w h.ended h.heard only in
      subst (λ (x : List ℕ). IsRefused F x s refusal) all.2 (h.refused all.0 all.1)

-- 2. So the verdict is that on the octets.
module _ {S T : Type 0} (L : Inlet S) (R : Inlet T) (some_left : (device : S) → (rest : List ℕ) × L.tells device rest)
    (some_right : (device : T) → (rest : List ℕ) × R.tells device rest) where
  -- the verdict on devices that tell certain octets alone is that on the octets
  pub verdict_told : (F G : Format) (left left_now : S) (right right_now : T) (v : Verdict) → IsCompared L R F G left left_now right right_now v
      → (l r : List ℕ) → TellsOnly L left l → TellsOnly R right r → IsVerdict F G l r v
  verdict_told F G left left_now right right_now v h l r only_left only_right =
      let a = whole L some_left left left_now h.l l h.left_ended h.heard_left only_left in
      let b = whole R some_right right right_now h.r r h.right_ended h.heard_right only_right in
      subst (λ (x : List ℕ). IsVerdict F G x r v) a.2 (subst (λ (x : List ℕ). IsVerdict F G (h.l ++ a.0) x v) b.2 (h.decided a.0 b.0 a.1 b.1))

-- 3. And so are the answers of the calls over one document, and what they write.
module _ {S : Type 0} (R : Inlet S) (some : (device : S) → (rest : List ℕ) × R.tells device rest) (g : Catalog) (k : Limits) (first now : S) (u : List ℕ)
    (only : TellsOnly R first u) where
  -- what `check` answers of a device that tells certain octets alone is right about these
  pub check_told : (answer : Result ℕ Refusal) → IsChecked R (documents g k) first now answer → IsCheckOf g k u answer
  check_told (Ok values) h = (h.0, document_whole R some (documents g k) first now h.0 u h.1 only, h.2)
  check_told (Err refusal) h = (h.0, refused_whole R some (documents g k) first now h.0 refusal u h.1 only)

  module _ {T : Type 0} (W : Outlet T) (old new : T) where
    -- what `show` writes of a device that tells certain octets alone is the listing of these
    pub listing_told : (answer : Result ℕ Refusal) → IsShown R W (documents g k) first now old new answer → (w : List ℕ) × Took W.took W.written old new w
        × IsListingOf g k u w answer
    listing_told (Ok values) h = (lines_of h.0 ++ accepted_line values, h.3, (h.0, document_whole R some (documents g k) first now h.0 u h.1 only, h.2, refl))
    listing_told (Err refusal) h = (lines_of h.0, h.2, (h.0, refused_whole R some (documents g k) first now h.0 refusal u h.1 only, refl))

    -- what was written was written once
    same_written : (a b : List ℕ) → Took W.took W.written old new a → Took W.took W.written old new b → a ≡ b
    same_written a b x y = append_cancel_left (W.written old) a b (sym x.wrote ∙ y.wrote)

    -- what `convert` writes of a device that tells certain octets alone is the conversion of these
    pub conversion_told : (E : Encoding) (answer : Result ℕ Refusal) → IsConverted R W E (documents g k) first now old new answer
        → KeepsStream R W E g k first now old new answer → (w : List ℕ) × Took W.took W.written old new w × IsConversionOf g k E u w answer
    conversion_told E (Ok values) h (s, read, octets, wrote, anywhere) =
        let denoted = document_whole R some (documents g k) first now h.0 u h.1 only in
        let one : s ≡ h.0 = one_document g k u s h.0 (document_whole R some (documents g k) first now s u read only) denoted in
        let same = same_written octets (E.document h.0) wrote h.3 in
        (octets, wrote, (h.0, denoted, h.2, same, subst (λ (x : List Value). DenotesAnywhere E octets x) one anywhere))
    conversion_told E (Err refusal) h (s, read, octets, wrote, anywhere) =
        let refused = refused_whole R some (documents g k) first now h.0 refusal u h.1 only in
        let one : s ≡ h.0 = one_shown g k _ s h.0 (refused_whole R some (documents g k) first now s refusal u read only).shown refused.shown in
        let same = same_written octets (E.document h.0) wrote h.2 in
        (octets, wrote, (h.0, refused, same, subst (λ (x : List Value). DenotesAnywhere E octets x) one anywhere))
