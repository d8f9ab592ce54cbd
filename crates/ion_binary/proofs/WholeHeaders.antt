-- Headers that lie whole in a piece, and leaves that do, in a reader that holds no values.
use Rattle.std.proofs.Common.{◌≡◌, ℕ, ◌+◌, ◌<◌, List, None, length, take, get_or, refl, arith}
use Rattle.std.proofs.lemmas.List.{length-take-le}
use Rattle.ion_binary.specs.Names.{BinaryWalk, Form, Frame, Holds, HasLeaf, Opening, Opens, Ready, begin, judge_leaf, judged, machine_of, nameless, on_descriptor, opening_of, run_after, run_of, setting_of, shells, spot_of, unfit}
use Rattle.ion_binary.specs.declared.walking.whole_leaves.WholeLeaf.{WholeLeaf}
use Rattle.ion_binary.specs.machine.EachOctet.{moved}
use Rattle.ion_binary.specs.laws.reading.Complete.{Admits, header_run}
use Rattle.ion_binary.specs.laws.reading.Stands.{BodyMayEnd}
use Rattle.ion_binary.proofs.Beginning.{stays}
use Rattle.ion_binary.proofs.Shells.{has_room}
use Rattle.ion_binary.proofs.WalkRuns.{octet_run}
use Rattle.ion_binary.proofs.WholeLeaves.{behind_run, body_in}

-- where only octets are counted, it stands for the same containers
pub moved_on : (r : BinaryWalk) (fs : List Frame) → Holds r fs → (count : ℕ) → Holds (record r { used = r.used + count }) fs
moved_on r fs h count = stays r (record r { used = r.used + count }) fs refl refl refl h.inside h

-- over a descriptor alone it comes to what that opens
pub descriptor_run : (r : BinaryWalk) (fs : List Frame) (piece : List ℕ) (o : Opening) → 0 < length piece → r.phase ≡ Ready → o ≡ opening_of (get_or piece 0 0)
    → run_of r fs (take 1 piece) ≡ run_after (r.used + 1) (on_descriptor (setting_of r) (moved (spot_of r) (r.used + 1)) fs o)
descriptor_run r fs piece o some ready is =
    rw (octet_run r.catalog.now r.limits r.used (machine_of r fs) piece some, ready, is) refl

module _ (r : BinaryWalk) (fs : List Frame) (h : Holds r fs) (piece : List ℕ) (front size : ℕ) where
  room : (form : Form) → Opens r piece form front size → Admits fs form × BodyMayEnd r.limits r.start fs form (r.used + front + size)
  room form o = has_room r fs h form (r.used + front + size) o.fits

  -- over a header the machine comes to begin the body
  pub front_run : (form : Form) → Opens r piece form front size
      → run_of r fs (take front piece) ≡ run_after (r.used + front) (begin (setting_of r) (moved (spot_of r) (r.used + front)) fs form size)
  front_run form o =
      let count = length-take-le front piece o.within in
      rw o.ready (header_run r.catalog.now r.limits (spot_of r) fs form (take front piece) size (r.used + front) o.header o.full (room form o).0
      (omega (arith, count)) (room form o).1)

module _ (r : BinaryWalk) (fs : List Frame) (h : Holds r fs) (piece : List ℕ) (it : WholeLeaf) (has : HasLeaf piece 0 it) (ready : r.phase ≡ Ready) where
  -- over a leaf it comes to judge its body
  pub leaf_whole : nameless fs Form.Struct ≡ None → BodyMayEnd r.limits r.start fs Form.Struct (r.used + it.to)
      → run_of r fs (take it.to piece)
      ≡ run_after (r.used + it.to) (judged (setting_of r) (moved (spot_of r) (r.used + it.to)) fs (judge_leaf r.context it.leaf (body_in piece it)))
  leaf_whole named room =
      behind_run piece 0 it has r.catalog.now r.limits r.used (machine_of r fs) (spot_of r) fs (r.used + it.to)
      (rw ready refl) (omega arith) refl named room

  -- so it does where no reason stands against it
  pub leaf_fits : None ≡ unfit r.limits.item r.start (shells r) Form.Struct (r.used + it.to)
      → run_of r fs (take it.to piece)
      ≡ run_after (r.used + it.to) (judged (setting_of r) (moved (spot_of r) (r.used + it.to)) fs (judge_leaf r.context it.leaf (body_in piece it)))
  leaf_fits fits = let room = has_room r fs h Form.Struct (r.used + it.to) fits in leaf_whole room.0.named room.1
