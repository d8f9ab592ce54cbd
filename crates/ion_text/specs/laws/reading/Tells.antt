-- What is known of a reader that told what it did, and of one that built what it was told.
use Rattle.std.proofs.Common.{◌≡◌, ℕ, ◌≤◌, List, [], ◌∷◌, ◌++◌, length, Option, Some, None, Result, Ok, Err, ap, arith, refl, subst}
use Rattle.ion_text.specs.Names.{Catalog, Event, HasTold, Limits, Ran, Refusal, Run, State, TextReader, TextWalk, Told, Value, failed, heard, looks, octets_kept, octets_used, state_of, told, trace}
use Rattle.ion_visiting.specs.Building.{fresh}
use Rattle.ion_text.specs.walk.Builds.{HasBuilt}
use Rattle.ion_text.specs.laws.reading.Stands.{ran_front, ran_given, ran_unrefused}
use Rattle.ion_text.specs.laws.reading.small.Bounded.{ran_kept}
use Rattle.ion_symtab.specs.laws.Builds.{built_by, builds_on, told_by_holder}

-- 1. What a walk told is so.
pub walk_told : (r : TextWalk) (u : List ℕ) (s : List (Value × ℕ)) (es : List Event) → Told r u s es
    → HasTold octets_used octets_kept failed (λ q. q.awaited) (trace r.catalog.now r.limits) r.limits.item r u s
walk_told r u s es t =
    let h = t.2 in
    let m = state_of r t.0 t.1 in
    let held = ran_kept r.catalog.now r.limits u s m r.awaited (looks r.scanner) h.ran h.steady in
    let beside = ap length r.beside.none_open in
    let kept : octets_kept r ≤ r.limits.item = omega arith in
    record {
      counted = h.counted;
      not_failed = h.fine;
      not_refused = ran_unrefused r.catalog.now r.limits u s m r.awaited h.ran;
      given_so_far = λ none. ran_given r.catalog.now r.limits u s m r.awaited none h.ran;
      given_with_next = ran_front r.catalog.now r.limits u s m (octets_used r) r.awaited h.counted h.ran;
      bounded = kept;
    }

-- and what a reader told is what its walk told
pub reader_told : (r : TextReader) (u : List ℕ) (s : List (Value × ℕ)) (es : List Event) → Told r.walk u s es
    → HasTold (λ q. octets_used q.walk) (λ q. octets_kept q.walk) (λ q. failed q.walk) (λ q. q.walk.awaited)
    (trace r.walk.catalog.now r.walk.limits) r.walk.limits.item r u s
reader_told r u s es t =
    told_by_holder (λ (q : TextReader). q.walk) octets_used octets_kept failed (λ q. q.awaited) (trace r.walk.catalog.now r.walk.limits) r.walk.limits.item
    r u s (walk_told r.walk u s es t)

-- 2. Of no octets nothing was told.
none_and_one : {X : Type 0} (xs : List X) (x : X) → [] ≡ xs ++ x ∷ [] → ⊥
none_and_one [] x e = absurd cc
none_and_one (y ∷ ys) x e = absurd cc

-- in this state there is nothing to tell
abbrev TellsNone : Result State Refusal → Type 0
TellsNone (Ok m) = [] ≡ heard (told m.reading.frames m.reading.notes)
TellsNone (Err refusal) = Unit {0}

ran_none : (g : Catalog) (l : Limits) (m : State) (awaited : Option ℕ) → Ran g l [] [] m awaited → [] ≡ heard (told m.reading.frames m.reading.notes)
ran_none g l m None h = subst TellsNone (ap (λ (x : Run). x.now) h) refl
ran_none g l m (Some o) h = absurd (none_and_one h.given (h.value, 0) h.all)

pub nothing_told : (r : TextReader) → HasBuilt r [] [] → Told r.walk [] [] []
nothing_told r h =
    let t = h.1 in
    (t.0, t.1, t.2, ran_none r.walk.catalog.now r.walk.limits (state_of r.walk t.0 t.1) r.walk.awaited t.2.ran)

-- 3. One that built what was told stands for the octets.
pub one_stands : (r : TextReader) (u : List ℕ) (s : List (Value × ℕ)) (es : List Event) → Told r.walk u s es
    → (q : TextReader) × HasBuilt q u s × (q.walk.catalog.now ≡ r.walk.catalog.now) × (q.walk.limits ≡ r.walk.limits)
one_stands r u s es h = (record r { build = built_by es fresh }, (es, h, builds_on es fresh), refl, refl)
