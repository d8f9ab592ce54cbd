-- Leaves: values with no value in them, by their octets.
use Rattle.std.specs.Prelude.{◌≡◌, ◌<◌, ◌≤◌, ℕ, ◌-◌, List, [], ◌∷◌, length, take, drop, None, Result, Ok}
use Rattle.ion_binary.specs.Names.Below.{Form, Null, Payload, Reason, Slot, Truth}
use Rattle.ion_model.specs.declared.value.Payload.TheVariants as payloads
use Rattle.ion_binary.specs.Grammar.{Header}
use Rattle.ion_binary.specs.Judge.{judge}
use Rattle.ion_binary.specs.Opening.{opening_of}
use Rattle.ion_binary.specs.declared.walking.whole_leaves.Leaf.{Leaf}
use Rattle.ion_binary.specs.declared.walking.whole_leaves.WholeLeaf.{WholeLeaf}
use Rattle.ion_binary.specs.machine.EachOctet.{hollow}

-- these octets are the header of a leaf whose body has n octets
abbrev pub LeafHeader : Leaf → ℕ → List ℕ → Type 0
LeafHeader (Leaf.Null k) n h = (b : ℕ) × (h ≡ b ∷ []) × (opening_of b ≡ Null k) × (n ≡ 0)
LeafHeader (Leaf.Truth t) n h = (b : ℕ) × (h ≡ b ∷ []) × (opening_of b ≡ Truth t) × (n ≡ 0)
LeafHeader (Leaf.Scalar t) n h = Header (Form.Scalar t) n h × (hollow (Form.Scalar t) n ≡ None)

-- what a leaf is whose body these octets are, or why it is none
abbrev pub judge_leaf : List Slot → Leaf → List ℕ → Result Payload Reason
judge_leaf c (Leaf.Null k) body = Ok (payloads.Null k)
judge_leaf c (Leaf.Truth t) body = Ok (payloads.Truth t)
judge_leaf c (Leaf.Scalar t) body = judge c t body

-- behind so many octets of a piece lies the header of a leaf with its body
pub record HasLeaf (piece : List ℕ) (skipped : ℕ) (it : WholeLeaf) : Type 0 where
  pub behind : skipped < it.front
  pub few : it.front ≤ it.to
  pub within : it.to ≤ length piece
  pub header : LeafHeader it.leaf (it.to - it.front) (take (it.front - skipped) (drop skipped piece))
