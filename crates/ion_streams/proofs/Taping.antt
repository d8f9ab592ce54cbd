-- What is made of values that tapes hold.
use Rattle.std.proofs.Common.{◌≡◌, ℕ, ◌+◌, ◌++◌, [], List, true, false, Option, Some, None, is_some, refl, ap, sym, subst, ◌∙◌}
use Rattle.std.proofs.lemmas.Option.{same_Some}
use Rattle.ion_streams.specs.Names.{Alike, AreHeld, AreOnTapes, Built, Catalog, Course, Event, HeldNext, Holds, IfAlike, Inlet, IsApart, IsBegun, IsBlank, IsMet, IsParting, IsPath, Items, Led, Limits, MetBoth, Part, Parted, ReadState, Tape, TellsSecond, ToldNext, Twin, Value, WasTold, builds, events_in, events_of, fresh, same, tapes, value_in}
use Rattle.ion_model.specs.laws.Equivalence.{same-equiv}
use Rattle.ion_visiting.specs.Following.{IsFound}
use Rattle.ion_visiting.specs.laws.Built.{events_one, value_built}
use Rattle.ion_visiting.proofs.Followed.{followed}
use Rattle.ion_visiting.proofs.Taped.{value_tells, value_wrote}
use Rattle.ion_visiting.proofs.Twins.{second_holds, second_told}

-- what is built of what a tape tells is the value that it holds
pub built_on : (t : Tape) (v w : Value) (a b : Built) → a ≡ fresh → Led builds (events_in t) a b → value_in b.place ≡ Some w → Holds t v → w ≡ v
built_on t v w a b new led is held =
    let told : Led builds (events_of v) fresh b = subst (λ (x : Built). Led builds (events_of v) x b) new
    (subst (λ (es : List Event). Led builds es a b) (value_tells v t held) led) in
    same_Some w v (sym is ∙ ap (λ (x : Built). value_in x.place) (value_built v b told))

-- where what a tape tells is found on another, the values that they hold are equivalent
pub found_on : (t u : Tape) (v w : Value) → IsFound t (events_in u) → Holds t v → Holds u w → same v w ≡ true
found_on t u v w found h k = followed t v w h (subst (IsFound t) (value_tells w u k) found)

-- where the second was told what the first tells, the two values are the same
pub same_on : (t : Twin) (v w : Value) → events_in t.first ≡ events_of w → Holds t.first v → same v w ≡ true
same_on t v w alike h =
    let told : events_of v ++ [] ≡ events_of w ++ [] = ap (λ es. es ++ []) (sym (value_tells v t.first h) ∙ alike) in
    ap (λ x. same x w) (events_one v w [] [] told).0 ∙ same-equiv.refl w

-- how two values part that stand on a tape each
pub parted_on : (a b : Twin) (path : Option (List Part)) → IsApart a b → ((v w : Value) → Holds b.first v → Holds b.second w → IsParting path v w)
    → (v w : Value) → Holds a.first v → WasTold a (events_of w) → IsParting path v w
parted_on a b path apart parts v w h k = parts v w (subst (λ t. Holds t v) (sym apart.first) h) (second_holds w a b k apart)

-- the first tape was told one value from nothing, and beside it the other was
pub on_tapes : (course : Course) (blank : Tape) (a b : Twin) (v w : Option Value) → IsBlank blank → IsBegun a
    → IfAlike course (λ n. AreHeld (λ v. Led tapes (events_of v) blank a.first) (λ w. Led TellsSecond (events_of w) a b) v w)
    → IfAlike course (λ n. AreOnTapes b v w)
on_tapes (Alike n) blank a b (Some v) (Some w) none new held =
    let second = second_told w a b new held.1 in
    (subst (λ t. Holds t v) (sym second.0) (value_wrote v blank a.first none held.0), second.1)
on_tapes _ blank a b _ _ none new held = tt

-- what is so of a value that a visitor was told
pub held_next : {S X V : Type 0} (takes : V → Event → V → Type 0) (P : Value → Type 0) (R : Inlet S) (I : Items X) (g : Catalog) (l : Limits)
    (first now : S) (place : ReadState X) (given : List (Value × ℕ)) (found : Option ℕ) (a b : V) → ((v : Value) → Led takes (events_of v) a b → P v)
    → ToldNext takes I R g l first now place given found a b → HeldNext P R I g l first now place given found
held_next takes P R I g l first now place given None a b so told = told.0
held_next takes P R I g l first now place given (Some used) a b so told = (told.0, so told.0 told.1, told.2, told.3)

-- both streams have another value, which the tapes were told
module _ (n : ℕ) (t : Twin) where
  both_some : (P : Value → Value → Type 0) (after : Course) → ((v w : Value) → P v w → MetBoth n v w after)
      → ((v w : Value) → Holds t.first v → WasTold t (events_of w) → P v w) → (v w : Option Value) → is_some v ≡ true → is_some w ≡ true
      → AreOnTapes t v w → IsMet (Alike n) v w after
  both_some P after go parts (Some v) (Some w) a b held = go v w (parts v w held.0 held.1)
  both_some P after go parts _ _ a b held = absurd cc

  pub met_alike : ((v w : Value) → Holds t.first v → WasTold t (events_of w) → same v w ≡ true) → (v w : Option Value) → is_some v ≡ true
      → is_some w ≡ true → AreOnTapes t v w → IsMet (Alike n) v w (Alike (n + 1))
  met_alike = both_some (λ v w. same v w ≡ true) (Alike (n + 1)) (λ v w same. (same, refl))

  pub met_parted : (path : List Part) → ((v w : Value) → Holds t.first v → WasTold t (events_of w) → (same v w ≡ false) × IsPath path v w)
      → (v w : Option Value) → is_some v ≡ true → is_some w ≡ true → AreOnTapes t v w → IsMet (Alike n) v w (Parted (n + 1) path)
  met_parted path = both_some (λ v w. (same v w ≡ false) × IsPath path v w) (Parted (n + 1) path) (λ v w parts. (parts.0, refl, parts.1))
