-- How a sequence keeps its items, so that a type may hold sequences of itself.
use mathlib.Core.Path.{◌≡◌, refl, sym}
use mathlib.Core.List.{List, []}
use mathlib.Core.Former.{Former, this, list, via, children}
use base.Stored.{code_map}
use denote.RattleType.{RattleType}
use denote.HoleLaws.{Alike}
use denote.HolePlaces.{Recodes, struct_places, laid}
use denote.Hole.Carrier.{listed, list-listed}
use denote.Hole.Fix.{over}
use denote.Param.Weighed.{Weighed, w_list}
use denote.Model.Placed.{view_places}
use Rattle.std.specs.formers.vec.Vec as vec
use Rattle.std.specs.declared.alloc.Global.{Global}
use Rattle.std.specs.contracts.alloc.Global as heap
use Rattle.std.specs.contracts.impls.GlobalAllocator.TheImpl.{ghosts}
use Rattle.ion_model.specs.declared.sequence.Sequence.TheInside.{Inside}
use Rattle.ion_model.specs.declared.sequence.Sequence.TheView.{view, invariant}
use Rattle.ion_model.specs.contracts.sequence.Sequence as sequence
use Rattle.ion_model.specs.contracts.sequence.Sequence.TheInside as inside

-- a sequence splits as the list that it is seen as
abbrev pub the_former : Former {0} → Former {0}
the_former item = list item

abbrev pub the_weighed : {item : Former {0}} → Weighed item → Weighed (the_former item)
the_weighed weighed = w_list weighed

pub the_empty : List ⊥
the_empty = []

abbrev pub the_items : (X : Type 0) → List X → List X
the_items X items = items

pub the_items_listed : (X : Type 0) (items : List X) → listed _ (children (the_former this) X items) ≡ the_items X items
the_items_listed X items = list-listed X items

-- the one field is a `Vec`
abbrev vector : Former {0}
vector = via (vec.the_former this Global) Inside (λ X s. s.items) (λ X items. record { items = items }) (λ X s. refl) (λ X items. refl)

module _ (R S : RattleType) (along : R.Denot → S.Denot) where
  pub the_places : Alike R S along → Alike (sequence.the_row R) (sequence.the_row S) ((the_former this).map R.Denot S.Denot along)
  the_places alike =
      let fields = struct_places (inside.the_type R) (inside.the_type S) (vec.mapped along, tt) _ (λ s. refl) refl
      (laid _ _ _ (vec.the_places heap.the_row ghosts R S along alike), tt) in
      view_places vector (list this) view (λ X Y f s. refl) (λ X s. refl) R.Denot S.Denot along (sequence.the_row R).coded (sequence.the_row S).coded
      (invariant R.Denot) (invariant S.Denot) (λ s p q. refl) (λ s p q. refl) (λ s e. tt) (λ s e. tt)
      (over (inside.the_row R)) (over (inside.the_row S)) fields

  pub the_codes_placed : Recodes R S along → Recodes (sequence.the_row R) (sequence.the_row S) ((the_former this).map R.Denot S.Denot along)
  the_codes_placed recodes items = sym (code_map R.coded.code S.coded.code along (λ x. sym (recodes x)) items)
