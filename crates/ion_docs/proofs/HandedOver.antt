-- What the writers of both encodings have written of a value that they were told.
use Rattle.std.proofs.Common.{◌≡◌, ℕ, nat_lt, List, [], ◌∷◌, ◌++◌, length, ap, sym, subst, ◌∙◌, refl, arith, append_assoc, Bool, true}
use Rattle.std.proofs.lemmas.Bool.Decides.{nat_tests}
use Rattle.std.proofs.lemmas.List.{take_all, drop_all}
use Rattle.ion_docs.specs.Names.{Encoding, Fault, IsKept, IsPuttingFault, NeedsLargeId, Outlet, Progress, TookSomeBehind, Value, WasTold, Write, behind, ended, names_after, nothing_yet, opening, table_octets, value_octets, value_text}
use Rattle.ion_symtab.specs.laws.Took.{Front-none}
use Rattle.ion_binary.specs.Output as binary
use Rattle.ion_binary.specs.visiting.BinaryOut.{Encoded, Encodes, of_values, with_end, with_value, without_whole, wraps_next}
use Rattle.ion_binary.proofs.BinaryTold as binary_told
use Rattle.ion_spelling.specs.Output as text
use Rattle.ion_spelling.specs.TextOut.{Writes, Written, lines, no_text, with_end as with_line, with_item, without_lines}
use Rattle.ion_spelling.specs.laws.TextTold as text_told
use Rattle.ion_docs.specs.laws.Encodings.{behind_one}

-- of what a value adds, a device that wasn't written to took nothing
pub took_none : {T : Type 0} (W : Outlet T) (out : T) (front added octets : List ℕ) → front ++ added ≡ octets → TookSomeBehind W out out front octets
took_none W out front added octets e = (added, e, Front-none W.took W.written out added)

-- and one that was written to took what was written, which is what the value adds
pub took_added : (P : List ℕ → Type 0) (front added octets wrote : List ℕ) → front ++ added ≡ octets → wrote ≡ added → P wrote
    → (rest : List ℕ) × (front ++ rest ≡ octets) × P rest
took_added P front added octets wrote e is h = (added, e, subst P is h)

-- 1. In binary.

-- these values were handed over
abbrev pub PutBinary : Encoded → List Value → Type 0
PutBinary out s = out ≡ of_values [] (behind nothing_yet s)

module _ (s : List Value) (v : Value) (b : Encoded) (h : WasTold PutBinary Encodes s v b) where
  binary_value : (b ≡ with_value (of_values [] (behind nothing_yet s)) v) × IsKept v
  binary_value =
      let told = binary_told.value_told v h.before b (ap (λ (x : Encoded). x.noted) h.put) (ap (λ (x : Encoded). wraps_next x.frames) h.put) h.told in
      (told.0 ∙ ap (λ (x : Encoded). with_value x v) h.put, told.1)

  pub binary_kept : IsKept v
  binary_kept = binary_value.1

  -- the names with those of the value
  pub binary_large : NeedsLargeId b.names → NeedsLargeId (behind nothing_yet (s ++ v ∷ [])).names
  binary_large large =
      subst NeedsLargeId (ap (λ (x : Encoded). x.names) binary_value.0 ∙ ap (λ (p : Progress). p.names) (behind_one nothing_yet s v)) large

  -- what it adds was written, and it was handed over once that was let go
  pub binary_ended : (m : Encoded) → Encodes b ended m → (m.whole ≡ binary.adds (behind nothing_yet s) v) × PutBinary (without_whole m) (s ++ v ∷ [])
  binary_ended m e =
      let p = behind nothing_yet s in
      let new = names_after p.names v in
      let is : m ≡ with_end (with_value (of_values [] p) v) = e.is ∙ ap with_end binary_value.0 in (
        ap (λ (x : Encoded). x.whole) is ∙ append_assoc (opening p.begun) (table_octets p.names new) (value_octets new v),
        ap without_whole is ∙ ap (of_values []) (behind_one nothing_yet s v),
      )

begun_on : (s : List Value) (p : Progress) → p.begun ≡ true → (behind p s).begun ≡ true
begun_on [] p h = h
begun_on (v ∷ s) p h = begun_on s (binary.after p v) refl

begun_by : (s : List Value) → (behind nothing_yet s).begun ≡ nat_lt 0 (length s)
begun_by [] = refl
begun_by (v ∷ s) =
    let some : nat_lt 0 (length (v ∷ s)) ≡ true = grind (arith, nat_tests) in
    begun_on s (binary.after nothing_yet v) refl ∙ sym some

-- a document of so many values has begun where there are some
pub begun_some : (s : List Value) (values : ℕ) → length s ≡ values → (behind nothing_yet s).begun ≡ nat_lt 0 values
begun_some s values count = begun_by s ∙ ap (nat_lt 0) count

-- 2. In text.

module _ (s : List Value) (v : Value) (b : Written) (h : WasTold (λ out s. out ≡ no_text) Writes s v b) where
  text_value : (b ≡ with_item no_text (value_text v)) × IsKept v
  text_value =
      let told = text_told.value_told v h.before b h.told in
      (told.0 ∙ ap (λ (x : Written). with_item x (value_text v)) h.put, told.1)

  pub text_kept : IsKept v
  text_kept = text_value.1

  -- its line was written, and is handed over once that was let go
  pub text_ended : (m : Written) → Writes b ended m → (lines m ≡ text.adds v) × (without_lines m ≡ no_text)
  text_ended m e =
      let is : m ≡ with_line (with_item no_text (value_text v)) = e.is ∙ ap with_line text_value.0 in (
        ap lines is ∙ take_all (length (text.adds v)) (text.adds v) (omega arith),
        ap without_lines is ∙ ap (λ (w : List ℕ). record no_text { octets = w }) (drop_all (length (text.adds v)) (text.adds v) (omega arith)),
      )
