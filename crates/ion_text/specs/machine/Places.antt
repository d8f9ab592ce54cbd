-- Settling what waits changes no place.
use Rattle.std.proofs.Common.{◌≡◌, ℕ, List, [], ◌∷◌, Bool, true, false, Option, Some, refl}
use Rattle.ion_text.specs.Names.Below.{Catalog, Frame, Held, Limits, ListOrSexp, Place, Slot, Stage, Value, annotated}
use Rattle.ion_model.specs.declared.value.Payload.TheVariants as payloads
use Rattle.ion_text.specs.machine.EachToken.{Reading, Spot, Symbols, Turn, at, gives, goes, late, place, place_in, refuses, settle, spot_at, under}
use Rattle.ion_text.specs.machine.Run.{is_top}
use Rattle.ion_text.specs.machine.Ways.{SettledWay, ValueWay, settled_free, settled_held, settled_marker, settled_name, settled_text, settled_way, value_item, value_refused}

-- two places are the same
abbrev pub same_place : Place → Place → Bool
same_place Place.Top Place.Top = true
same_place Place.List Place.List = true
same_place Place.Sexp Place.Sexp = true
same_place Place.Name Place.Name = true
same_place Place.FieldValue Place.FieldValue = true
same_place p q = false

-- each place is the same as itself
pub same_itself : (p : Place) → same_place p p ≡ true
same_itself Place.Top = refl
same_itself Place.List = refl
same_itself Place.Sexp = refl
same_itself Place.Name = refl
same_itself Place.FieldValue = refl

-- places that are the same by the test are the same
pub same_is : (p q : Place) → same_place p q ≡ true → p ≡ q
same_is Place.Top Place.Top h = refl
same_is Place.List Place.List h = refl
same_is Place.Sexp Place.Sexp h = refl
same_is Place.Name Place.Name h = refl
same_is Place.FieldValue Place.FieldValue h = refl
same_is _ _ h = absurd cc

-- while a value waits, the place is that of a value
pub pending_at : (fs : List Frame) (h : Held) (end : ℕ) → place_in fs (Stage.Pending h end) ≡ place_in fs Stage.Ready
pending_at [] h end = refl
pending_at (Frame.Items listing ss vs ∷ fs) h end = refl
pending_at (Frame.Fields ss ms ∷ fs) h end = refl
pending_at (Frame.Named ss ms s ∷ fs) h end = refl

-- while a long string waits, the place is that of a value
pub long_at : (fs : List Frame) (w : List ℕ) (end : ℕ) → place_in fs (Stage.Long w end) ≡ place_in fs Stage.Ready
long_at [] w end = refl
long_at (Frame.Items listing ss vs ∷ fs) w end = refl
long_at (Frame.Fields ss ms ∷ fs) w end = refl
long_at (Frame.Named ss ms s ∷ fs) w end = refl

-- while a long name waits, the place is that of a name
pub name_at : (fs : List Frame) (w : List ℕ) → place_in fs (Stage.LongName w) ≡ place_in fs Stage.Name
name_at [] w = refl
name_at (Frame.Items listing ss vs ∷ fs) w = refl
name_at (Frame.Fields ss ms ∷ fs) w = refl
name_at (Frame.Named ss ms s ∷ fs) w = refl

module _ (g : Catalog) (l : Limits) where
  -- a fact of the reading that a turn leads to
  abbrev pub Leading : (Reading → Type 0) → Turn → Type 0
  Leading P (goes r) = P r
  Leading P (gives v r) = P r
  Leading P (refuses e) = Unit {0}
  Leading P (late e r) = Unit {0}

  -- where the open container is, and whether one is
  abbrev pub SamePlace : List Frame → Stage → Turn → Type 0
  SamePlace fs now t = Leading (λ r. (place r ≡ place_in fs now) × (is_top r.frames ≡ is_top fs)) t

  -- where a value ends behind what waited, it leaves the innermost container open
  value_same : (spot : Spot) (v : Value) (fs : List Frame) (now : Stage) (t : Turn) → ValueWay (under g l) spot v fs t → SamePlace fs now t
  value_same spot v _ now _ (value_refused fs e d) = tt
  value_same spot v _ now _ _ = (refl, refl)

  keyed_same : (fs : List Frame) (w : List ℕ) (s : Option (List ℕ)) → place_in fs (Stage.Keyed s) ≡ place_in fs (Stage.LongName w)
  keyed_same [] w s = refl
  keyed_same (Frame.Items listing ss vs ∷ fs) w s = refl
  keyed_same (Frame.Fields ss ms ∷ fs) w s = refl
  keyed_same (Frame.Named ss ms x ∷ fs) w s = refl

  -- What waited is settled where it stands.
  pub settle_same : (start : ℕ) (c : List Slot) (fs : List Frame) (ss : Symbols) (now : Stage) → SamePlace fs now (settle g l (at start c fs ss now))
  settle_same start c fs ss now = by fs now _ (settled_way g l start c fs ss now)
    where
      by : (fs : List Frame) (now : Stage) (t : Turn) → SettledWay g l start c ss fs now t → SamePlace fs now t
      by _ _ _ (settled_free fs now i e) = (refl, refl)
      by _ _ _ (settled_name fs w) = (keyed_same fs w (Some w), refl)
      by _ _ _ (settled_held fs h end q t flat way) = value_same (spot_at end start c) (annotated ss q) fs (Stage.Pending h end) t way
      by _ _ _ (settled_text fs w end t way) = value_same (spot_at end start c) (annotated ss (payloads.Str w)) fs (Stage.Long w end) t way
      by _ _ _ (settled_marker h end fits) = (refl, refl)
      by _ _ _ _ = tt

  -- Behind what was settled nothing waits.
  abbrev pub SettlesStill : Turn → Type 0
  SettlesStill t = Leading (λ r. settle g l r ≡ goes r) t

  value_still : (spot : Spot) (v : Value) (fs : List Frame) (t : Turn) → ValueWay (under g l) spot v fs t → SettlesStill t
  value_still spot v _ _ (value_refused fs e d) = tt
  value_still spot v _ _ (value_item ListOrSexp.List ss vs fs) = refl
  value_still spot v _ _ _ = refl

  -- behind what was settled nothing waits, whatever waited
  pub settle_still : (start : ℕ) (c : List Slot) (fs : List Frame) (ss : Symbols) (now : Stage) → SettlesStill (settle g l (at start c fs ss now))
  settle_still start c fs ss now = by fs now _ (settled_way g l start c fs ss now)
    where
      by : (fs : List Frame) (now : Stage) (t : Turn) → SettledWay g l start c ss fs now t → SettlesStill t
      by _ _ _ (settled_free fs now i e) = e
      by _ _ _ (settled_name fs w) = refl
      by _ _ _ (settled_held fs h end q t flat way) = value_still (spot_at end start c) (annotated ss q) fs t way
      by _ _ _ (settled_text fs w end t way) = value_still (spot_at end start c) (annotated ss (payloads.Str w)) fs t way
      by _ _ _ (settled_marker h end fits) = refl
      by _ _ _ _ = tt
