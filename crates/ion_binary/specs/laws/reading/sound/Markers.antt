-- What an octet of a version marker leaves stands for the octets.
use Rattle.std.proofs.Common.{◌≡◌, ℕ, ◌/◌, ◌%◌, List, [], ◌∷◌, ◌++◌, length, Result, Ok, Err, refl, ap, sym, ◌∙◌, inl, inr, arith, Bool, true, false, ◌&&◌, ◌||◌, cond, append_assoc, eqb-true, eq-eqb, ◌==◌}
use Rattle.std.proofs.lemmas.Bool.{and_parts, cond_both, eqb-false}
use Rattle.ion_binary.specs.Names.{Catalog, Descriptor, First, Float, Fourth, Frame, Limits, Malformed, Mark, Marker, Opening, Pieces, Ready, Reason, Second, Slot, Spot, Third, Value, Version, anew, at, begins, descriptor_of, goes, kind, marked, no_marker, on_marker, opening_of, opens, other_marker, other_version, refuses, size, system_slots, the_marker, typed}
use Rattle.ion_symtab.specs.laws.Reasons.{either}
use Rattle.ion_binary.specs.Deciding as deciding
use Rattle.ion_binary.specs.laws.reading.OnlyReasons.{body_all}
use Rattle.ion_binary.specs.laws.reading.Stands.{AtFirst, Front, Leaves, MachineStands, MarkCame, MarkerStands}

-- no descriptor but E0 is the marker

opens_marker : (d : Result Descriptor Reason) → opens d ≡ Marker → d ≡ Ok Descriptor.Marker
opens_marker (Ok Descriptor.Marker) h = refl
opens_marker (Ok (Descriptor.Body code z)) h = absurd (body_all (λ (o : Opening). o ≡ Marker → ⊥) (λ form z e. cc) (λ e. cc) code z h)
opens_marker _ h = absurd cc

-- only type code 14 with length code 0 is the marker's descriptor
typed_marker : (t n : ℕ) → typed t n ≡ Ok Descriptor.Marker → (t ≡ 14) × (n ≡ 0)
typed_marker t n =
    let P : Result Descriptor Reason → Type 0 = λ d. d ≡ Ok Descriptor.Marker → (t ≡ 14) × (n ≡ 0) in
    let err : (e : Reason) → P (Err e) = λ e h. absurd cc in
    let nil : P (Ok (Descriptor.Null (kind t))) = λ h. absurd cc in
    let pad : P (Ok (Descriptor.Pad (size n))) = λ h. absurd cc in
    let truth : (b : Bool) → P (Ok (Descriptor.Truth b)) = λ b h. absurd cc in
    let ordered : P (Ok Descriptor.Ordered) = λ h. absurd cc in
    let body : P (Ok (Descriptor.Body t (size n))) = λ h. absurd cc in
    either P (t == 15) _ _ (err Malformed)
    (cond_both (t == 14) _ _ P
    (λ e. cond_both (n == 0) _ _ P (λ f h. (eqb-true t 14 e, eqb-true n 0 f)) (λ f. either P ((n == 1) || (n == 2) || (n == 15)) _ _ (err Malformed) body))
    (λ e. either P (n == 15) _ _ nil
    (either P (t == 0) _ _ pad
    (either P (t == 1) _ _ (either P (n == 0) _ _ (truth false) (either P (n == 1) _ _ (truth true) (err Malformed)))
    (either P (t == 4) _ _ (either P ((n == 0) || (n == 4) || (n == 8)) _ _ (err Float) (err Malformed))
    (either P (t == 13) _ _ (either P (n == 1) _ _ ordered body) body))))))

-- the octet E0 alone opens a version marker
pub marker_is : (b : ℕ) → opening_of b ≡ Marker → b ≡ 224
unfolding opening_of descriptor_of
marker_is b h =
    let parts = typed_marker (b / 16) (b % 16) (opens_marker (descriptor_of b) h) in
    let high = parts.0 in
    let low = parts.1 in
    omega arith

module _ (g : Catalog) (l : Limits) where
  -- on an octet of a marker
  goes_on : (start : ℕ) (c : List Slot) (s : List Value) (fs : List Frame) (u : List ℕ) (b : ℕ) (m k : Mark) (good better : Bool)
      → (o : MarkerStands g l start c s fs m good u) → MarkCame k better (o.came ++ b ∷ []) → AtFirst k o.before
      → MarkerStands g l start c s fs k better (u ++ b ∷ [])
  goes_on start c s fs u b m k good better o came first = record {
    before = o.before;
    came = o.came ++ b ∷ [];
    whole = ap (λ x. x ++ b ∷ []) o.whole ∙ append_assoc o.before o.came (b ∷ []);
    front = o.front;
    top = o.top;
    octets = came;
    first = first;
  }

  marked_stands : (to : ℕ) (c : List Slot) (s : List Value) (fs : List Frame) (u v : List ℕ) (start : ℕ) → fs ≡ [] → Front g l start c s u → v ≡ u ++ the_marker
      → to ≡ length v → MachineStands g l v s (at (anew to system_slots) fs Ready)
  marked_stands to c s fs u v start i (inl h) e k =
      let d : Pieces g l v s system_slots = rw (e, h.0, h.1) begins in
      rw i (record { used = k; standing = record { opened = (d, sym k); receives = tt; more = tt } })
  marked_stands to c s fs u v start i (inr h) e k =
      let d : Pieces g l v s system_slots = rw e (marked u s c h.0) in
      rw i (record { used = k; standing = record { opened = (d, sym k); receives = tt; more = tt } })

  front_is : (start : ℕ) (c : List Slot) (s : List Value) (u : List ℕ) → Front g l start c s u → deciding.IsFront g l u
  front_is start c s u (inl h) = inl h.0
  front_is start c s u (inr h) = inr (s, c, h.0)

  -- a marker ends with the octet EA
  ended_marker : (spot : Spot) (s : List Value) (fs : List Frame) (u front : List ℕ) (x y b : ℕ) (good : Bool) → u ≡ front ++ (224 ∷ x ∷ y ∷ b ∷ [])
      → Front g l spot.start spot.context s front → fs ≡ [] → good ≡ ((true && (x == 1)) && (y == 0)) → b ≡ 234 → spot.used ≡ length u
      → Leaves g l u s (cond good (goes (at (anew spot.used system_slots) fs Ready)) (refuses Version))
  ended_marker spot s fs u front x y b true whole f top is last e =
      let p = and_parts (x == 1) (y == 0) (sym is) in
      marked_stands spot.used spot.context s fs front u spot.start top f (rw (eqb-true x 1 p.0, eqb-true y 0 p.1, last) at whole) e
  ended_marker spot s fs u front x y b false whole f top is last e =
      rw (whole, last) (other_version front x y (front_is spot.start spot.context s front f)
      (λ q. let z : false ≡ true = rw (eq-eqb x 1 q.0, eq-eqb y 0 q.1) at is in cc))

  -- what an octet of a version marker leads to stands for the octets
  pub marker_stands : (spot : Spot) (s : List Value) (fs : List Frame) (u : List ℕ) (b : ℕ) (m : Mark) (good : Bool)
      → MarkerStands g l spot.start spot.context s fs m good u → spot.used ≡ length (u ++ b ∷ [])
      → Leaves g l (u ++ b ∷ []) s (on_marker spot fs m good b)
  marker_stands spot s fs u b First good o e = cond_both (b == 224) _ _ (Leaves g l (u ++ b ∷ []) s)
      (λ h. record {
        used = e;
        standing = goes_on spot.start spot.context s fs u b First Second good good o
            (ap (λ x. x ++ b ∷ []) o.octets.0 ∙ ap (λ x. x ∷ []) (eqb-true b 224 h), o.octets.1) tt;
      })
      (λ h.
      let nothing : u ≡ [] = rw (o.first, o.octets.0) at o.whole in rw nothing (no_marker b (λ q. let z = eqb-false b 224 h in absurd (z q))))
  marker_stands spot s fs u b Second good o e = record {
    used = e;
    standing = goes_on spot.start spot.context s fs u b Second Third good _ o
        (b, ap (λ x. x ++ b ∷ []) o.octets.0, ap (λ x. x && (b == 1)) o.octets.1) tt;
  }
  marker_stands spot s fs u b Third good o e = record {
    used = e;
    standing = goes_on spot.start spot.context s fs u b Third Fourth good _ o
        (o.octets.0, b, ap (λ x. x ++ b ∷ []) o.octets.1, ap (λ x. x && (b == 0)) o.octets.2) tt;
  }
  marker_stands spot s fs u b Fourth good o e =
      let x = o.octets.0 in
      let y = o.octets.1 in
      let whole : u ++ b ∷ [] ≡ o.before ++ (224 ∷ x ∷ y ∷ b ∷ []) = rw (o.whole, append_assoc o.before, o.octets.2) refl in
      cond_both (b == 234) _ _ (Leaves g l (u ++ b ∷ []) s)
      (λ h. ended_marker spot s fs (u ++ b ∷ []) o.before x y b good whole o.front o.top o.octets.3 (eqb-true b 234 h) e)
      (λ h. rw whole (other_marker o.before x y b (front_is spot.start spot.context s o.before o.front) (λ q. let z = eqb-false b 234 h in absurd (z q))))
