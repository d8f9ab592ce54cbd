-- Leaves that lie whole in a piece, in a reader that holds no values.
use Rattle.std.proofs.Common.{◌≡◌, ℕ, ◌+◌, ◌-◌, ◌≤◌, List, [], ◌∷◌, ◌++◌, length, take, drop, None, refl, ap, arith}
use Rattle.std.proofs.lemmas.Grind.{common_steps}
use Rattle.std.proofs.lemmas.List.{drop-drop, length-take-le}
use Rattle.std.proofs.Math.Seq.{take-add}
use Rattle.ion_binary.specs.Names.{Catalog, Form, Frame, HasLeaf, LeafHeader, Limits, Machine, Ready, Spot, at, judge_leaf, judged, led, nameless, run, run_after, run_via, under}
use Rattle.ion_model.specs.declared.value.Payload.TheVariants as payloads
use Rattle.ion_binary.specs.declared.walking.whole_leaves.Leaf.{Leaf}
use Rattle.ion_binary.specs.declared.walking.whole_leaves.WholeLeaf.{WholeLeaf}
use Rattle.ion_binary.specs.machine.EachOctet.{moved}
use Rattle.ion_binary.specs.laws.reading.Complete.{admits_plain, ends_as, one_run, scalar_run}
use Rattle.ion_binary.specs.laws.reading.Stands.{BodyMayEnd}

module _ (g : Catalog) (l : Limits) (spot : Spot) (fs : List Frame) where
  -- over a leaf for which there is room, the machine comes to judge its body
  pub leaf_run : (leaf : Leaf) (h body : List ℕ) (to : ℕ) → LeafHeader leaf (length body) h → nameless fs Form.Struct ≡ None
      → to ≡ spot.used + length (h ++ body) → BodyMayEnd l spot.start fs Form.Struct to
      → run g l spot.used (at spot fs Ready) (h ++ body) ≡ run_after to (judged (under g l) (moved spot to) fs (judge_leaf spot.context leaf body))
  leaf_run (Leaf.Null k) h [] to i named e r =
      let one : to ≡ spot.used + 1 = omega (arith, e, ap (λ w. length (w ++ [])) i.1) in
      rw (i.1, i.2) (one_run g l spot fs to (payloads.Null k) one named r)
  leaf_run (Leaf.Truth t) h [] to i named e r =
      let one : to ≡ spot.used + 1 = omega (arith, e, ap (λ w. length (w ++ [])) i.1) in
      rw (i.1, i.2) (one_run g l spot fs to (payloads.Truth t) one named r)
  leaf_run (Leaf.Scalar t) h body to i named e r =
      scalar_run g l spot fs t h body to i.0 i.1 (admits_plain fs (Form.Scalar t) refl refl named) e (ends_as l spot.start fs (Form.Scalar t) to r)
  leaf_run (Leaf.Null k) h (b ∷ bs) to i named e r = absurd (omega (arith, i.3))
  leaf_run (Leaf.Truth t) h (b ∷ bs) to i named e r = absurd (omega (arith, i.3))

-- octets at the front of a list, in three parts
pub three_parts : (w : List ℕ) (i j k : ℕ) → i ≤ j → j ≤ k → take k w ≡ take i w ++ (take (j - i) (drop i w) ++ take (k - j) (drop j w))
three_parts w i j k few more =
    let whole : i + ((j - i) + (k - j)) ≡ k = omega arith in
    let there : i + (j - i) ≡ j = omega arith in
    rw (whole, take-add (j - i) (k - j) (drop i w), drop-drop (j - i) i w, there) at (take-add i ((j - i) + (k - j)) w)

-- the body of a leaf in a piece
abbrev pub body_in : List ℕ → WholeLeaf → List ℕ
body_in piece it = take (it.to - it.front) (drop it.front piece)

module _ (piece : List ℕ) (skipped : ℕ) (it : WholeLeaf) (has : HasLeaf piece skipped it) where
  abbrev header_in : List ℕ
  header_in = take (it.front - skipped) (drop skipped piece)

  -- over the octets behind which it lies, and over it, the machine comes to that
  pub behind_run : (g : Catalog) (l : Limits) (to : ℕ) (m : Machine) (spot : Spot) (fs : List Frame) (end : ℕ)
      → run g l to m (take skipped piece) ≡ led (at spot fs Ready) → spot.used ≡ to + skipped → end ≡ to + it.to → nameless fs Form.Struct ≡ None
      → BodyMayEnd l spot.start fs Form.Struct end
      → run g l to m (take it.to piece) ≡ run_after end (judged (under g l) (moved spot end) fs (judge_leaf spot.context it.leaf (body_in piece it)))
  behind_run g l to m spot fs end before at_spot ends named room =
      let behind = has.behind in
      let few = has.few in
      let within = has.within in
      let front : length (take skipped piece) ≡ skipped = length-take-le skipped piece (omega arith) in
      let body = body_in piece it in
      let size : length body ≡ it.to - it.front = grind (arith, common_steps) in
      let all : length (header_in ++ body) ≡ it.to - skipped = grind (arith, common_steps) in
      rw (three_parts piece skipped it.front it.to (omega arith) few)
      (run_via g l to spot.used m (at spot fs Ready) _ (take skipped piece) (header_in ++ body) (omega (arith, front, at_spot)) before
      (leaf_run g l spot fs it.leaf header_in body end (rw size has.header) named (omega (arith, all, at_spot, ends, behind, few)) room))
