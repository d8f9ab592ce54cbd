-- Octets in a blob of which base64 was let go: what comes of them is what comes without it, which stands before what is kept, and behind
-- the blob's base64 what that stands for.
use Rattle.std.proofs.Common.{◌≡◌, ℕ, ◌+◌, ◌<◌, Bool, refl, sym, ap, ◌∙◌, List, [], ◌∷◌, ◌++◌, length, append_assoc, arith, Option, Some, None}
use Rattle.std.specs.Prelude.{◌==◌}
use Rattle.std.specs.Io.KnownBytes.{prepend_known}
use Rattle.std.proofs.lemmas.Bool.{cond_both}
use Rattle.std.proofs.lemmas.List.{length-append}
use Rattle.ion_tokens.specs.Names.{Action, Known, Lob, Mode, Next, Place, acts, blob_ends, blob_of, follow, is_base64, is_white, run}
use Rattle.ion_tokens.specs.machine.LetGo.{StandsFor, behind_gone, front_in, outcome_decoded}

abbrev in_mode : Lob → List ℕ → Bool → ℕ → ℕ → Known
in_mode l kept colon start used = record { mode = Mode.Lob l; kept = kept; colon = colon; start = start; used = used }

module _ (p : Place) (gone octets : List ℕ) where
  -- behind the first brace of the close there is the second one, or a refusal
  closes : (os kept : List ℕ) (colon : Bool) (start used : ℕ)
      → run p os (behind_gone octets (in_mode Lob.BlobClose kept colon start used))
      ≡ outcome_decoded gone octets (run p os (in_mode Lob.BlobClose kept colon start used))
  closes [] kept colon start used = refl
  closes (o ∷ os) kept colon start used =
      let s = in_mode Lob.BlobClose kept colon start used in
      cond_both (o == 125) _ _
      (λ a. follow (acts p (behind_gone octets s) o a) (λ t. run p os t) ≡ outcome_decoded gone octets (follow (acts p s o a) (λ t. run p os t)))
      (λ _. refl) (λ _. refl)

  module _ (stands : StandsFor gone octets) where
    -- at the first brace
    ends : (os kept : List ℕ) (colon : Bool) (start used : ℕ) (whole rest : Option (List ℕ)) → whole ≡ prepend_known octets rest
        → follow (blob_ends (behind_gone gone (in_mode Lob.Base64 kept colon start used)) whole) (λ t. run p os t)
        ≡ outcome_decoded gone octets (follow (blob_ends (in_mode Lob.Base64 kept colon start used) rest) (λ t. run p os t))
    ends os kept colon start used whole None e =
        ap (λ w. follow (blob_ends (behind_gone gone (in_mode Lob.Base64 kept colon start used)) w) (λ t. run p os t)) e
    ends os kept colon start used whole (Some bytes) e =
        ap (λ w. follow (blob_ends (behind_gone gone (in_mode Lob.Base64 kept colon start used)) w) (λ t. run p os t)) e
        ∙ closes os bytes colon start (used + 1)

    goes : (os kept : List ℕ) (colon : Bool) (start used : ℕ) → 0 < length kept
        → run p os (behind_gone gone (in_mode Lob.Base64 kept colon start used))
        ≡ outcome_decoded gone octets (run p os (in_mode Lob.Base64 kept colon start used))
    unfolding StandsFor
    goes [] kept colon start used some = refl
    goes (o ∷ os) kept colon start used some =
        let s = in_mode Lob.Base64 kept colon start used in
        let P : Action → Type 0 = λ a. follow (acts p (behind_gone gone s) o a) (λ t. run p os t)
        ≡ outcome_decoded gone octets (follow (acts p s o a) (λ t. run p os t)) in
        let more = length-append kept (o ∷ []) in
        cond_both (is_white o) _ _ P
        (λ _. goes os kept colon start (used + 1) some)
        (λ _. cond_both (o == 125) _ _ P
        (λ _. ends os kept colon start used (blob_of (gone ++ kept)) (blob_of kept) (stands kept some))
        (λ _. cond_both (is_base64 o) _ _ P
        (λ _. ap (λ k. run p os (in_mode Lob.Base64 k colon start (used + 1))) (append_assoc gone kept (o ∷ []))
        ∙ goes os (kept ++ o ∷ []) colon start (used + 1) (omega arith))
        (λ _. refl)))

-- Octets in a blob whose base64 was let go that stands for octets lead where they lead without it.
pub run_decoded : (p : Place) (gone octets os : List ℕ) (s : Known) → StandsFor gone octets → s.mode ≡ Mode.Lob Lob.Base64 → 0 < length s.kept
    → run p os (behind_gone gone s) ≡ outcome_decoded gone octets (run p os s)
run_decoded p gone octets os s stands mode some =
    let same : s ≡ in_mode Lob.Base64 s.kept s.colon s.start s.used = ap (λ (m : Mode). record s { mode = m }) mode in
    ap (λ (t : Known). run p os (behind_gone gone t)) same ∙ goes p gone octets stands os s.kept s.colon s.start s.used some
    ∙ ap (λ (t : Known). outcome_decoded gone octets (run p os t)) (sym same)

-- Where no token comes of them, what stands before what is kept is base64 still, or what it stood for.
pub went_decoded : (p : Place) (gone front os : List ℕ) (s t now : Known) → s.mode ≡ Mode.Lob Lob.Base64 → 0 < length s.kept → Next t ≡ run p os s
    → now ≡ t → (octets : List ℕ) × StandsFor gone octets × (front ≡ front_in t.mode gone octets)
    → run p os (behind_gone gone s) ≡ Next (behind_gone front now)
went_decoded p gone front os s t now mode some went same (octets, stands, is) =
    run_decoded p gone octets os s stands mode some ∙ ap (outcome_decoded gone octets) (sym went)
    ∙ ap (λ (f : List ℕ). Next (behind_gone f t)) (sym is) ∙ ap (λ (t : Known). Next (behind_gone front t)) (sym same)
