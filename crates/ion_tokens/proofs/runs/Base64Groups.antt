-- Base64 of whole groups at the front of a text stands for octets whatever follows, if one group more decodes behind it.
use Rattle.std.proofs.Common.{◌≡◌, ℕ, zero, suc, ◌+◌, ◌-◌, ◌*◌, ◌/◌, ◌<◌, ◌≤◌, List, [], ◌++◌, length, take, drop, slice_index, refl, sym, ap, subst, ◌∙◌, arith, append_assoc, append-nil, Bool, true, Option, Some, None}
use Rattle.std.specs.Result.{result_ok}
use Rattle.std.specs.Io.KnownBytes.{prepend_known}
use Rattle.std.proofs.KnownBytes.{prepend_known-nil}
use Rattle.std.proofs.lemmas.List.{length-append, length-take-le, get_or_append_left, get_or-take, take-take}
use Rattle.std.proofs.Math.Seq.{take-append_seam, drop-append_seam}
use Rattle.base64.specs.Engines.{standard}
use Rattle.base64.specs.GeneralPurpose.{decoded_of, groups_bytes_of, groups_error_of}
use Rattle.base64.specs.Decode.{or_else, group_error, group_bytes, groups_error, groups_bytes, groups_before_last, decode_outcome, lone_error, suffix_bytes, suffix_error}
use Rattle.base64.specs.declared.decode.DecodeError.{DecodeError}
use Rattle.base64.specs.declared.engine.general_purpose.GeneralPurpose.{GeneralPurpose}
use Rattle.base64.proofs.Streams.{decoded_of-groups}
use Rattle.ion_tokens.specs.Names.{blob_of}
use Rattle.ion_tokens.specs.laws.Blobs.{none_of_both}
use Rattle.ion_tokens.specs.machine.LetGo.{IsFront, StandsFor}

-- the first groups of two texts are the same where the texts are
module _ (dec s t : List ℕ) where
  group_same : (i : ℕ) → ((k : ℕ) → k < i + 4 → slice_index s k ≡ slice_index t k)
      → (group_error dec s i ≡ group_error dec t i) × (group_bytes dec s i ≡ group_bytes dec t i)
  group_same i same =
      let a = same i (omega arith) in
      let b = same (i + 1) (omega arith) in
      let c = same (i + 2) (omega arith) in
      let d = same (i + 3) (omega arith) in
      (rw (a, b, c, d) refl, rw (a, b, c, d) refl)

  groups_same : (q : ℕ) → ((k : ℕ) → k < 4 * q → slice_index s k ≡ slice_index t k)
      → (groups_error dec s q ≡ groups_error dec t q) × (groups_bytes dec s q ≡ groups_bytes dec t q)
  unfolding groups_error groups_bytes
  groups_same zero same = (refl, refl)
  groups_same (suc q) same =
      let before = groups_same q (λ k h. same k (omega arith)) in
      let here = group_same (4 * q) (λ k h. same k (omega arith)) in
      (rw (before.0, here.0) refl, rw (before.1, here.1) refl)

-- a group decodes to three octets
groups_length : (dec s : List ℕ) (q : ℕ) → length (groups_bytes dec s q) ≡ 3 * q
unfolding groups_bytes
groups_length dec s zero = refl
groups_length dec s (suc q) =
    let before = groups_length dec s q in
    let both = length-append (groups_bytes dec s q) (group_bytes dec s (4 * q)) in
    omega arith

of_outcome : (error : Option DecodeError) (bytes octets : List ℕ) → result_ok (decode_outcome error bytes) ≡ Some octets → (error ≡ None) × (bytes ≡ octets)
of_outcome None bytes octets h = (refl, cc)
of_outcome (Some e) bytes octets h = cc

-- what decodes has no bad group before the last, and their octets come first
module _ (e : GeneralPurpose) (text octets : List ℕ) (q : ℕ) where
  front_groups : length text ≡ 4 * q + 4 → decoded_of e text ≡ Some octets
      → (groups_error_of e text q ≡ None) × (groups_bytes_of e text q ≡ take (3 * q) octets)
  unfolding decoded_of
  front_groups long h =
      let dec : List ℕ = e.decode_table in
      let pad : ℕ = e.padding.value in
      let count : groups_before_last (length text) ≡ q = omega arith in
      let parts = of_outcome _ _ octets h in
      let first = none_of_both (lone_error dec pad text)
      (or_else (groups_error dec text (groups_before_last (length text)))
      (suffix_error dec pad e.config.decode_allow_trailing_bits e.config.decode_padding_mode (4 * groups_before_last (length text)) text)) parts.0 in
      let second = none_of_both (groups_error dec text (groups_before_last (length text)))
      (suffix_error dec pad e.config.decode_allow_trailing_bits e.config.decode_padding_mode (4 * groups_before_last (length text)) text) first.1 in
      let none : groups_error dec text q ≡ None = ap (λ n. groups_error dec text n) (sym count) ∙ second.0 in
      let bytes : List ℕ = groups_bytes dec text q in
      let rest : List ℕ = suffix_bytes dec pad (4 * groups_before_last (length text)) text in
      let whole : bytes ++ rest ≡ octets = ap (λ n. groups_bytes dec text n ++ rest) (sym count) ∙ parts.1 in
      let three : length bytes ≡ 3 * q = groups_length dec text q in
      (none, sym (take-append_seam bytes rest) ∙ ap (λ n. take n (bytes ++ rest)) three ∙ ap (λ o. take (3 * q) o) whole)

-- The groups before the last of a text that decodes stand for the octets at the front.
module _ (e : GeneralPurpose) (text octets : List ℕ) (q : ℕ) (long : length text ≡ 4 * q + 4) where
  decoded_front : (rest : List ℕ) → 0 < length rest → decoded_of e text ≡ Some octets
      → decoded_of e (take (4 * q) text ++ rest) ≡ prepend_known (take (3 * q) octets) (decoded_of e rest)
  decoded_front rest some h =
      let dec : List ℕ = e.decode_table in
      let front : List ℕ = take (4 * q) text in
      let all : List ℕ = front ++ rest in
      let four : length front ≡ 4 * q = length-take-le (4 * q) text (omega arith) in
      let both = length-append front rest in
      let same : (k : ℕ) → k < 4 * q → slice_index all k ≡ slice_index text k = λ k h.
      get_or_append_left front rest 0 k (omega arith) ∙ get_or-take (4 * q) text k 0 h in
      let groups = groups_same dec all text q same in
      let of_text = front_groups e text octets q long h in
      let seam : drop (4 * q) all ≡ rest = ap (λ n. drop n all) (sym four) ∙ drop-append_seam front rest in
      let split = decoded_of-groups e all [] q (omega arith) (groups.0 ∙ of_text.0) in
      ap (decoded_of e) (sym (append-nil all)) ∙ split
      ∙ ap (λ o. prepend_known (groups_bytes dec all q) (decoded_of e o)) (append-nil (drop (4 * q) all) ∙ seam)
      ∙ ap (λ o. prepend_known o (decoded_of e rest)) (groups.1 ∙ of_text.1)

-- So of the standard base64.
pub groups_stand : (text octets : List ℕ) (q : ℕ) → length text ≡ 4 * q + 4 → blob_of text ≡ Some octets → StandsFor (take (4 * q) text) (take (3 * q) octets)
unfolding blob_of StandsFor
groups_stand text octets q long h = λ rest some. decoded_front standard text octets q long rest some h

-- All whole groups of a text but the last stand for the octets at the front, if they decode with it.
pub all_but_last : (text octets : List ℕ) (count : ℕ) → count ≡ length text / 4 * 4 - 4 → 4 ≤ length text
    → blob_of (take (count + 4) text) ≡ Some octets → StandsFor (take count text) (take (count / 4 * 3) octets)
all_but_last text octets count is some h =
    let q : ℕ = count / 4 in
    let four : 4 * q ≡ count = omega arith in
    let three : 3 * q ≡ count / 4 * 3 = omega arith in
    let long : length (take (count + 4) text) ≡ 4 * q + 4 = length-take-le (count + 4) text (omega arith) ∙ (omega arith) in
    let shorter : take (4 * q) (take (count + 4) text) ≡ take count text = take-take (4 * q) (count + 4) text (omega arith) ∙ ap (λ n. take n text) four in
    subst (λ (t : List ℕ). StandsFor t (take (count / 4 * 3) octets)) shorter
    (subst (λ (n : ℕ). StandsFor (take (4 * q) (take (count + 4) text)) (take n octets)) three (groups_stand (take (count + 4) text) octets q long h))

-- Nothing stands for nothing.
pub stands_nil : StandsFor [] []
unfolding StandsFor
stands_nil = λ rest some. sym (prepend_known-nil (blob_of rest))

prepend_twice : (xs ys : List ℕ) (o : Option (List ℕ)) → prepend_known xs (prepend_known ys o) ≡ prepend_known (xs ++ ys) o
prepend_twice xs ys None = refl
prepend_twice xs ys (Some zs) = ap Some (sym (append_assoc xs ys zs))

-- What stands for octets and what stands for more of them together stand for all.
pub stands_append : (gone octets more bytes : List ℕ) → StandsFor gone octets → StandsFor more bytes → StandsFor (gone ++ more) (octets ++ bytes)
unfolding StandsFor
stands_append gone octets more bytes h k = λ rest some.
    let both = length-append more rest in
    ap blob_of (append_assoc gone more rest) ∙ h (more ++ rest) (omega arith) ∙ ap (prepend_known octets) (k rest some)
    ∙ prepend_twice octets bytes (blob_of rest)

-- What was let go is base64, if it is nothing.
pub front_of_nothing : (gone octets : List ℕ) → gone ≡ [] → octets ≡ [] → IsFront gone octets true
front_of_nothing gone octets g o = rw (g, o) (record { fewer = omega arith; stands = λ _. stands_nil })

-- It stays so with more base64 behind it.
pub front_more : (gone octets more bytes : List ℕ) (is_base64 : Bool) → IsFront gone octets is_base64 → length bytes ≤ length more → StandsFor more bytes
    → IsFront (gone ++ more) (octets ++ bytes) is_base64
front_more gone octets more bytes is_base64 h fewer k =
    let longer = length-append gone more in
    let both = length-append octets bytes in
    let few = h.fewer in
    record { fewer = omega arith; stands = λ e. stands_append gone octets more bytes (h.stands e) k }
