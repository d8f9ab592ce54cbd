-- What is known of a reader of either encoding, from what is known of the walk that it holds.
use Rattle.std.proofs.Common.{◌≡◌, ℕ, ◌≤◌, List, [], ◌∷◌, ◌++◌, length, Option, Some, None, refl}
use Rattle.std.specs.Prelude.{IsNone, IfSome}
use Rattle.ion_docs.specs.Names.{DocReader, DocTold, DocWalk, EncodingTold, Event, HasTold, IsFront, Trace, Value, awaits_of, chosen, failed_of, fresh, kept_of, taken_of}
use Rattle.ion_docs.specs.declared.doc_walk.Encoding.{Encoding}
use Rattle.ion_docs.specs.reading.DocStands.{DocStands, Told}
use Rattle.ion_docs.specs.laws.Walks as walks
use Rattle.ion_symtab.specs.laws.Builds.{built_by, builds_on, told_by_holder}

-- what a reader told is so
pub doc_told : (d : DocReader) (u : List ℕ) (s : List (Value × ℕ)) (es : List Event) → Told d u s es
    → HasTold (λ (r : DocReader). taken_of r.walk) (λ r. kept_of r.walk) (λ r. failed_of r.walk) (λ r. awaits_of r.walk)
    (chosen d.walk.catalog.now d.walk.limits) d.walk.limits.item d u s
doc_told d u s es h =
    told_by_holder (λ (r : DocReader). r.walk) taken_of kept_of failed_of awaits_of (chosen d.walk.catalog.now d.walk.limits) d.walk.limits.item d u s
    (walks.has_told d.walk u s es h)

-- a reader that stands for octets has used just these
pub doc_counted : (d : DocReader) (u : List ℕ) (s : List (Value × ℕ)) → DocStands d u s → taken_of d.walk ≡ length u
doc_counted d u s h = (doc_told d u s h.0 h.1).counted

-- it has answered no refusal
pub doc_not_failed : (d : DocReader) (u : List ℕ) (s : List (Value × ℕ)) → DocStands d u s → failed_of d.walk ≡ None
doc_not_failed d u s h = (doc_told d u s h.0 h.1).not_failed

-- the octets aren't refused
pub doc_not_refused : (d : DocReader) (u : List ℕ) (s : List (Value × ℕ)) → DocStands d u s → (chosen d.walk.catalog.now d.walk.limits u).refused ≡ None
doc_not_refused d u s h = (doc_told d u s h.0 h.1).not_refused

-- where no octet is awaited, they show just the values that the reader gave
pub doc_given : (d : DocReader) (u : List ℕ) (s : List (Value × ℕ)) → DocStands d u s → IsNone (awaits_of d.walk)
    → (chosen d.walk.catalog.now d.walk.limits u).given ≡ s
doc_given d u s h = (doc_told d u s h.0 h.1).given_so_far

-- where one is, the octets and this one show the values that the reader gave first
pub doc_given_next : (d : DocReader) (u : List ℕ) (s : List (Value × ℕ)) → DocStands d u s
    → IfSome (awaits_of d.walk) (λ octet. IsFront s (chosen d.walk.catalog.now d.walk.limits (u ++ octet ∷ [])).given)
doc_given_next d u s h = (doc_told d u s h.0 h.1).given_with_next

-- no more octets are kept than an item may have
pub doc_bounded : (d : DocReader) (u : List ℕ) (s : List (Value × ℕ)) → DocStands d u s → kept_of d.walk ≤ d.walk.limits.item
doc_bounded d u s h = (doc_told d u s h.0 h.1).bounded

-- a reader of no octets has told nothing
begun_nothing : (w : DocWalk) (e : Encoding) (es : List Event) → EncodingTold w e [] [] es → EncodingTold w e [] [] []
begun_nothing w Encoding.Unbegun es h = (refl, refl, refl)
begun_nothing w (Encoding.Refused refusal) es h = absurd h
begun_nothing w _ es h = absurd h.1

pub doc_nothing_told : (d : DocReader) → DocStands d [] [] → Told d [] [] []
doc_nothing_told d h = begun_nothing d.walk d.walk.encoding h.0 h.1

-- where a reader told what octets are, one that built what was told stands for them
pub doc_one_stands : (d : DocReader) (u : List ℕ) (s : List (Value × ℕ)) (es : List Event) → Told d u s es
    → (q : DocReader) × DocStands q u s × (q.walk.catalog.now ≡ d.walk.catalog.now) × (q.walk.limits ≡ d.walk.limits)
doc_one_stands d u s es h = (record d { build = built_by es fresh }, (es, h, builds_on es fresh), refl, refl)
