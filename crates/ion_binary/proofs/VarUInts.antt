-- VarUInts that have come, in a reader that holds no values: names, annotations, and what goes on.
use Rattle.std.proofs.Common.{◌≡◌, ℕ, zero, suc, take, ◌+◌, ◌-◌, ◌*◌, ◌^◌, ◌≤◌, ◌<◌, List, [], ◌∷◌, ◌++◌, Bool, true, false, Option, Some, None, Ok, refl, ap, sym, ◌∙◌, arith}
use Rattle.std.specs.Prelude.{◌==◌, nat_lt, if◌then◌else◌}
use Rattle.std.proofs.lemmas.Bool.Decides.{nat_tests}
use Rattle.ion_binary.specs.Names.{BinaryWalk, Container, Does, DoesAlone, Event, Frame, Goes, Holds, InNumber, IsInside, Purpose, Ready, Setting, Spot, Tells, TooLarge, VarUInt, annotation, annotation_came, at, behind_annotation, body_so_far, fields_end, goes, longer, name_came, name_of, number_came, on_number, Outcome, open_containers, refuses, resolve, spot_of, told, wrapper_end}
use Rattle.ion_binary.specs.machine.Frames as frames
use Rattle.ion_binary.specs.walking.Holds.{Name}
use Rattle.ion_symtab.specs.laws.Reasons.{either}
use Rattle.ion_binary.specs.laws.reading.Complete.{length_VarUInt}
use Rattle.ion_binary.proofs.Tellings.{note_told}

-- 1. The id of a field's name.

-- it has an octet
pub number_some : (size : ℕ) (w : List ℕ) (n : ℕ) → VarUInt (take size w) n → 0 < size
number_some zero w n v = absurd (omega (arith, length_VarUInt (take 0 w) n v))
number_some (suc size) w n v = omega arith

pub name_does : (r new : BinaryWalk) (id end : ℕ) → Some end ≡ fields_end (open_containers r) → r.used < end
    → ((k : Container) (ks : List Container) → open_containers r ≡ k ∷ ks → open_containers new ≡ Container.Named end ∷ ks)
    → name_of new ≡ resolve r.context id → spot_of new ≡ spot_of r
    → new.filter ≡ r.filter → new.phase ≡ Ready → (fs : List Frame) → Holds r fs → DoesAlone (told fs) (name_came (spot_of r) fs id) (Ok Goes) new
name_does r new id end some left there named spot kept phase (frames.Fields to ms ∷ fs) h =
    let e : Some end ≡ Some to = some ∙ ap fields_end h.containers in
    let is : to ≡ end = cc in
    let test : nat_lt r.used end ≡ true = grind (arith, nat_tests) in
    let s = resolve r.context id in (
      frames.Named to ms s ∷ fs,
      rw (is, test, phase) (ap (λ t. goes (at t (frames.Named end ms s ∷ fs) Ready)) (sym spot)),
      record {
        containers = rw is (there _ _ h.containers);
        named = sym named;
        open_there = h.open_there;
        inside = rw phase tt;
        was_told = rw kept h.was_told;
      },
      refl,
    )
name_does r new id end some left there named spot kept phase _ h =
    let e : Some end ≡ None = some ∙ ap fields_end h.containers in absurd cc

-- 2. The id of an annotation.

keeps_none : (b : Bool) (stop : ℕ) (w : List ℕ) → body_so_far (if b then Ready else InNumber (Purpose.Annotation stop) 0) w ≡ []
keeps_none true stop w = refl
keeps_none false stop w = refl

is_inside : (b : Bool) (stop : ℕ) (fs : List Frame) → IsInside (if b then Ready else InNumber (Purpose.Annotation stop) 0) fs
is_inside true stop fs = tt
is_inside false stop fs = tt

module _ {V : Type 0} (takes : V → Event → V → Type 0) (r new : BinaryWalk) (stop end : ℕ) (name : Name) (s : Option (List ℕ)) (a b : V)
    (some : Some end ≡ wrapper_end (open_containers r)) (is : name ≡ Ok s) (same : open_containers new ≡ open_containers r) (spot : spot_of new ≡ spot_of r)
    (phase : new.phase ≡ behind_annotation r.used stop) (tells : Tells takes (annotation s) r.filter new.filter a b) where
  pub note_does : (fs : List Frame) → Holds r fs → Does takes (told fs) (annotation_came (spot_of r) fs stop name) (Ok Goes) new a b
  note_does (frames.Annotated to ss ∷ fs) h =
      let i = rw (note_told to fs ss s) at (tells (told (frames.Annotated to ss ∷ fs)) h.was_told) in
      let gs = frames.Annotated to (ss ++ s ∷ []) ∷ fs in (
        gs,
        rw (is, phase, keeps_none (r.used == stop) stop new.body) (ap (λ t. goes (at t gs (behind_annotation r.used stop))) (sym spot)),
        record {
          holds = record {
            containers = same ∙ h.containers;
            named = tt;
            open_there = h.open_there;
            inside = rw phase (is_inside (r.used == stop) stop gs);
            was_told = i.0;
          };
          hears = i.1;
        },
      )
  note_does _ h = let n : Some end ≡ None = some ∙ ap wrapper_end h.containers in absurd cc

-- 3. An octet of a VarUInt.

module _ (setting : Setting) (spot : Spot) (fs : List Frame) (p : Purpose) (a b : ℕ) where
  pub number_large : 2 ^ 56 ≤ a → on_number setting spot fs p a b ≡ refuses TooLarge
  number_large large =
      let more : nat_lt (128 * a + b) (2 ^ 63) ≡ false = grind (arith, nat_tests) in
      let last : nat_lt (128 * a + (b - 128)) (2 ^ 63) ≡ false = grind (arith, nat_tests) in
      either (λ (o : Outcome). o ≡ refuses TooLarge) (nat_lt b 128) _ _ (rw more refl) (rw last refl)

  pub number_goes_on : a < 2 ^ 56 → b < 128 → on_number setting spot fs p a b ≡ longer setting spot fs p (128 * a + b)
  number_goes_on small high =
      let t : nat_lt b 128 ≡ true = grind (arith, nat_tests) in
      let u : nat_lt (128 * a + b) (2 ^ 63) ≡ true = grind (arith, nat_tests) in
      rw (t, u) refl

  pub number_ends : a < 2 ^ 56 → 128 ≤ b → b < 256 → on_number setting spot fs p a b ≡ number_came setting spot fs p (128 * a + (b - 128))
  number_ends small high octet =
      let t : nat_lt b 128 ≡ false = grind (arith, nat_tests) in
      let u : nat_lt (128 * a + (b - 128)) (2 ^ 63) ≡ true = grind (arith, nat_tests) in
      rw (t, u) refl
