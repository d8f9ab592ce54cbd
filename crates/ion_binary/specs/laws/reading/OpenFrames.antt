-- The frames of the machine as open containers.
use Rattle.std.proofs.Common.{◌≡◌, ℕ, suc, List, [], ◌∷◌, Option, refl, ap}
use Rattle.ion_binary.specs.Names.{Count, Field, Form, Frame, Id, Items, Length, ListOrSexp, Name, Named, Noted, Number, Purpose, Slot, Value, container_levels, resolve}
use Rattle.ion_binary.specs.Deciding.{Container, Names}
use Rattle.ion_binary.specs.machine.EachOctet as machine
use Rattle.ion_binary.specs.machine.Frames as frames

-- the frames of the machine are these containers
pub data Match (c : List Slot) : List Frame → List Container → Type 0 where
  nothing_open : Match c [] []
  items : (end : ℕ) (x : ListOrSexp) (vs : List Value) (fs : List Frame) (ks : List Container) → Match c fs ks
      → Match c (frames.Items end x vs ∷ fs) (Items end ∷ ks)
  names : (end : ℕ) (ms : List Field) (fs : List Frame) (ks : List Container) → Match c fs ks → Match c (frames.Fields end ms ∷ fs) (Names end ∷ ks)
  named : (end id : ℕ) (ms : List Field) (fs : List Frame) (ks : List Container) → Match c fs ks
      → Match c (frames.Named end ms (resolve c id) ∷ fs) (Named end id ∷ ks)
  noted : (end : ℕ) (ss : List (Option (List ℕ))) (fs : List Frame) (ks : List Container) → Match c fs ks
      → Match c (frames.Annotated end ss ∷ fs) (Noted end ∷ ks)

-- as many levels are open in the frames as in the containers
pub same_levels : (c : List Slot) (fs : List Frame) (ks : List Container) → Match c fs ks → machine.levels fs ≡ container_levels ks
same_levels c _ _ nothing_open = refl
same_levels c _ _ (items end x vs fs ks m) = ap suc (same_levels c fs ks m)
same_levels c _ _ (names end ms fs ks m) = ap suc (same_levels c fs ks m)
same_levels c _ _ (named end id ms fs ks m) = ap suc (same_levels c fs ks m)
same_levels c _ _ (noted end ss fs ks m) = same_levels c fs ks m

-- the machine's word for a number
abbrev pub purpose_of : Number → Purpose
purpose_of (Length form) = Purpose.Length form
purpose_of Name = Purpose.FieldName
purpose_of (Count end) = Purpose.AnnotationsLength
purpose_of (Id stop) = Purpose.Annotation stop

-- the frames in which it stands
pub data InFrames (c : List Slot) : List Container → Number → List Frame → Type 0 where
  length_in : (ks : List Container) (form : Form) (fs : List Frame) → Match c fs ks → InFrames c ks (Length form) fs
  name_in : (end : ℕ) (ks : List Container) (fs : List Frame) → Match c fs (Names end ∷ ks) → InFrames c (Names end ∷ ks) Name fs
  count_in : (ks : List Container) (end : ℕ) (fs : List Frame) → Match c fs ks → InFrames c ks (Count end) (frames.Annotated end [] ∷ fs)
  id_in : (ks : List Container) (end stop : ℕ) (ss : List (Option (List ℕ))) (fs : List Frame) → Match c fs ks
      → InFrames c ks (Id stop) (frames.Annotated end ss ∷ fs)
