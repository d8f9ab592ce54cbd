-- Values that are built of what a walk tells, and what a step answers that gives them.
use Rattle.std.proofs.Common.{◌≡◌, ℕ, ◌+◌, ◌-◌, ◌≤◌, Bool, true, false, List, [], ◌∷◌, ◌++◌, length, take, drop, suc, ap, ◌∙◌, sym, refl, subst, append-nil, append_assoc, arith, Result, Ok, Err, Option, Some, None, IfOk, IfSome, IsNone}
use Rattle.std.proofs.lemmas.Grind.{common_steps}
use Rattle.std.proofs.lemmas.Option.{same_Some}
use Rattle.std.proofs.lemmas.List.{length-drop, take-append-drop}
use Rattle.ion_symtab.specs.Names.{Answers, EndsOn, Event, Grows, Hears, IsFront, Led, Refusal, Telling, Trace, Value, WalksOn, given_at}
use Rattle.ion_visiting.specs.Building.{Built, builds, built, fresh, value_in, without_value}
use Rattle.ion_visiting.specs.declared.building.Open.TheVariants.{Top}
use Rattle.ion_visiting.specs.laws.Built.{value_built}
use Rattle.ion_visiting.specs.laws.Led.{led_both}
use Rattle.ion_symtab.specs.Walks.{HasTold}
use Rattle.ion_symtab.specs.declared.items.Walked.{Walked}

-- what is built where these events are told
abbrev pub built_by : List Event → Built → Built
built_by [] b = b
built_by (e ∷ es) b = built_by es (built b e)

pub builds_on : (es : List Event) (b : Built) → Led builds es b (built_by es b)
builds_on [] b = refl
builds_on (e ∷ es) b = (built b e, refl, builds_on es (built b e))

-- what is so of a walk is so of what holds it
pub told_by_holder : {X Y : Type 0} (inner : Y → X) (taken kept : X → ℕ) (failed : X → Option Refusal) (awaits : X → Option ℕ) (trace : List ℕ → Trace)
    (item : ℕ) (r : Y) (u : List ℕ) (s : List (Value × ℕ)) → HasTold taken kept failed awaits trace item (inner r) u s
    → HasTold (λ y. taken (inner y)) (λ y. kept (inner y)) (λ y. failed (inner y)) (λ y. awaits (inner y)) trace item r u s
told_by_holder inner taken kept failed awaits trace item r u s k =
    let given = k.given_so_far in
    let next = k.given_with_next in
    record { counted = k.counted; not_failed = k.not_failed; not_refused = k.not_refused; given_so_far = given; given_with_next = next; bounded = k.bounded }

-- 1. What a walk told by one relation it told by another that follows from it.

module _ {V : Type 0} (takes : V → Event → V → Type 0) {X Y : Type 0} (inner : Telling X) (outer : Telling Y) (new : X) (after : Y) where
  pub walks_lifted : (u : List ℕ) (s : List (Value × ℕ)) (es : List Event) (piece : List ℕ) (used : ℕ) (ended : Bool) (a b : V)
      → ((t : List (Value × ℕ)) (fs : List Event) → inner new (u ++ take used piece) t fs → outer after (u ++ take used piece) t fs)
      → WalksOn takes inner u s es piece used ended new a b → WalksOn takes outer u s es piece used ended after a b
  walks_lifted u s es piece used true a b lift h = (h.0, lift (s ++ (h.0, length u + used) ∷ []) [] h.1, h.2)
  walks_lifted u s es piece used false a b lift h = (h.0, lift s h.0 h.1, h.2)

-- what a walk told is told of what holds the walk
pub tells_held : {V X Y : Type 0} (takes : V → Event → V → Type 0) (walk : Y → X) (told : Telling X) (new : Y)
    (Old : List ℕ → List (Value × ℕ) → List Event → Type 0) (piece : List ℕ) (result : Result Walked Refusal) (a b : V)
    → IfOk result (λ walked. (u : List ℕ) (s : List (Value × ℕ)) (es : List Event) → Old u s es
    → WalksOn takes told u s es piece walked.used walked.ended (walk new) a b)
    → IfOk result (λ walked. (u : List ℕ) (s : List (Value × ℕ)) (es : List Event) → Old u s es
    → WalksOn takes (λ r. told (walk r)) u s es piece walked.used walked.ended new a b)
tells_held takes walk told new Old piece (Ok walked) a b h = λ u s es t.
    walks_lifted takes told (λ r. told (walk r)) (walk new) new u s es piece walked.used walked.ended a b (λ t fs on. on) (h u s es t)
tells_held takes walk told new Old piece (Err refusal) a b h = tt

-- 2. A visitor that builds.

-- what builds heard all that was told
abbrev pub Builds : {X : Type 0} → Telling X → X → Built → List ℕ → List (Value × ℕ) → Type 0
Builds told r built u s = (es : List Event) × told r u s es × Led builds es fresh built

module _ {X : Type 0} (told : Telling X) (new : X) (before after : Built) (u : List ℕ) (s : List (Value × ℕ)) (es : List Event) (piece : List ℕ) (used : ℕ)
    (led : Led builds es fresh before) where
  hears_on : (fs : List Event) → Hears builds es fs before after → Led builds fs fresh after
  hears_on fs hears =
      let P : List Event → Type 0 = λ fs. Led builds fs fresh after in
      subst P (sym hears.is) (led_both builds es hears.more fresh before after led hears.led)

  -- no value ended
  pub built_on : WalksOn builds told u s es piece used false new before after → Builds told new after (u ++ take used piece) (s ++ [])
  built_on on =
      let P : List (Value × ℕ) → Type 0 = λ s. Builds told new after (u ++ take used piece) s in
      subst P (sym (append-nil s)) (on.0, on.1, hears_on on.0 on.2)

  -- one did, and was taken: what builds is as new
  pub built_taken : (on : WalksOn builds told u s es piece used true new before after) (value : Value) (result : Option Value) (left : Built)
      → result ≡ Some value → result ≡ value_in after.place → left ≡ record after { place = without_value after.place }
      → Builds told new left (u ++ take used piece) (s ++ (value, length u + used) ∷ [])
  built_taken on value result left is said was =
      let all : after ≡ record fresh { place = Top (Some on.0) } = value_built on.0 after (hears_on _ on.2) in
      let same : on.0 ≡ value = same_Some on.0 value (sym (ap (λ (b : Built). value_in b.place) all) ∙ (sym said ∙ is)) in (
        [],
        subst (λ (v : Value). told new (u ++ take used piece) (s ++ (v, length u + used) ∷ []) []) same on.1,
        sym (was ∙ ap (λ (b : Built). record b { place = without_value b.place }) all),
      )

-- a value that the end showed to be whole was built
pub built_end : (t : Trace) (es : List Event) (before after : Built) → Led builds es fresh before → EndsOn builds t es (Ok true) before after
    → (value : Option Value) → value ≡ value_in after.place → t.ends ≡ Ok value
built_end t es before after led h value is =
    let heard = subst (λ (fs : List Event). Led builds fs fresh after) (sym h.2.is) (led_both builds es h.2.more fresh before after led h.2.led) in
    h.1 ∙ ap Ok (sym (is ∙ ap (λ (b : Built). value_in b.place) (value_built h.0 after heard)))

-- 3. A step whose value was built answers what the trace says.
module _ (said : List ℕ → Trace) (settled : (u w : List ℕ) → Grows (said u) (said (u ++ w))) (u : List ℕ) (s : List (Value × ℕ)) (piece : List ℕ)
    (used : ℕ) (within : used ≤ length piece) where
  whole : (u ++ take used piece) ++ drop used piece ≡ u ++ piece
  whole = append_assoc u (take used piece) (drop used piece) ∙ ap (λ w. u ++ w) (take-append-drop used piece)

  grown : (front : List (Value × ℕ)) (v rest : List ℕ) → v ++ rest ≡ u ++ piece → IsFront front (said v).given → IsFront front (said (u ++ piece)).given
  grown front v rest same h =
      let more = (settled v rest).given in (
        h.0 ++ more.0,
        ap (λ w. (said w).given) (sym same) ∙ (more.1 ∙ (ap (λ t. t ++ more.0) h.1 ∙ append_assoc front h.0 more.0)),
      )

  pub step_said : (value : Option Value) (awaits : Option ℕ) → (value ≡ None → used ≡ length piece)
      → IfSome awaits (λ octet. (rest : List ℕ) × (drop used piece ≡ octet ∷ rest))
      → (said (u ++ take used piece)).refused ≡ None
      → (IsNone awaits → (said (u ++ take used piece)).given ≡ s ++ given_at value (length u + used))
      → IfSome awaits (λ octet. IsFront (s ++ given_at value (length u + used)) (said ((u ++ take used piece) ++ octet ∷ [])).given)
      → Answers said u s piece (Ok (record { used = used; value = value }))
  step_said None None all awaited refused given next =
      let k = all refl in
      let same : u ++ take used piece ≡ u ++ piece = ap (λ w. u ++ w) (let all_of : take used piece ≡ piece = grind (arith, common_steps) in all_of) in
      (ap (λ w. (said w).given) (sym same) ∙ (given refl ∙ append-nil s), ap (λ w. (said w).refused) (sym same) ∙ refused)
  step_said None (Some o) all awaited refused given next =
      let k = all refl in
      let rest = awaited.1 in
      let none : length (drop used piece) ≡ length piece - used = length-drop used piece in
      let some : length (drop used piece) ≡ suc (length awaited.0) = ap length rest in
      absurd (omega (arith, k, none, some))
  step_said (Some v) None all awaited refused given next = grown _ _ _ whole ([], given refl ∙ sym (append-nil (s ++ (v, length u + used) ∷ [])))
  step_said (Some v) (Some o) all awaited refused given next = grown _ _ awaited.0
      (append_assoc (u ++ take used piece) (o ∷ []) awaited.0 ∙ (ap (λ w. (u ++ take used piece) ++ w) (sym awaited.1) ∙ whole)) next
