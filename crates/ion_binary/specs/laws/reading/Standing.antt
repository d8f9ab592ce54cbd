-- What is known of a reader that builds values and stands for octets.
use Rattle.std.proofs.Common.{◌≡◌, ℕ, List, [], ap, sym, None, Result, Ok, refl}
use Rattle.ion_binary.specs.Names.{BinaryReader, BinaryWalk, Event, Frame, HasTold, Machine, Refusal, Run, Stands, Told, Value, failed, fresh, heard, initial, machine_of, taken, told, trace, awaits}
use Rattle.ion_binary.specs.walking.Runs.{kept}
use Rattle.ion_binary.specs.laws.reading.Walking as walks
use Rattle.ion_symtab.specs.laws.Builds.{built_by, builds_on, told_by_holder}

-- where its walk told what octets did, the trace says the same of them
pub has_told : (r : BinaryReader) (u : List ℕ) (s : List (Value × ℕ)) (es : List Event) → Told r.walk u s es
    → HasTold (λ (x : BinaryReader). taken x.walk) (λ x. kept x.walk) (λ x. failed x.walk) (λ _. None)
    (trace r.walk.catalog.now r.walk.limits) r.walk.limits.item r u s
has_told r u s es h =
    told_by_holder (λ (x : BinaryReader). x.walk) taken kept failed awaits (trace r.walk.catalog.now r.walk.limits) r.walk.limits.item r u s
    (walks.has_told r.walk u s es h)

-- where it stands for octets, too
pub stood : (r : BinaryReader) (u : List ℕ) (s : List (Value × ℕ)) → Stands r u s
    → HasTold (λ (x : BinaryReader). taken x.walk) (λ x. kept x.walk) (λ x. failed x.walk) (λ _. None)
    (trace r.walk.catalog.now r.walk.limits) r.walk.limits.item r u s
stood r u s h = has_told r u s h.0 h.1

-- before the first octet there is nothing to tell
told_none : (r : BinaryWalk) (fs : List Frame) → initial ≡ machine_of r fs → heard (told fs) ≡ []
told_none r fs e = ap (λ (m : Machine). heard (told m.frames)) (sym e)

same_machine : (m n : Machine) (r : Result Machine Refusal) → r ≡ Ok m → r ≡ Ok n → m ≡ n
same_machine m n r is e = cc

-- a reader of no octets has told nothing
pub nothing_told : (r : BinaryReader) → Stands r [] [] → Told r.walk [] [] []
nothing_told r h =
    let stands = h.1.1 in
    let first = same_machine initial (machine_of r.walk h.1.0) (Ok initial) refl (ap (λ (x : Run). x.now) stands.ran) in
    (h.1.0, stands, sym (told_none r.walk h.1.0 first))

-- where a reader told what octets are, one that built what was told stands for them
pub one_stands : (r : BinaryReader) (u : List ℕ) (s : List (Value × ℕ)) (es : List Event) → Told r.walk u s es
    → (q : BinaryReader) × Stands q u s × (q.walk.catalog.now ≡ r.walk.catalog.now) × (q.walk.limits ≡ r.walk.limits)
one_stands r u s es h = (record r { build = built_by es fresh }, (es, h, builds_on es fresh), refl, refl)
