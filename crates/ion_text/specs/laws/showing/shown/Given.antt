-- Octets of which none is refused show the values given, and what is left of them stands open.
use Rattle.std.proofs.Common.{◌≡◌, ℕ, List, [], false, true, Result, Ok, Err, None}
use Rattle.ion_text.specs.Names.{Catalog, Limits, OpenRest, Refusal, Shows, State, Value, Whole, begun, plain, refused_of, run, trace}
use Rattle.ion_text.specs.laws.reading.sound.Steps.{StoodBehind, begun_stood, run_ran}
use Rattle.ion_text.specs.laws.showing.shown.Between.{stood_shows}
use Rattle.ion_text.specs.laws.showing.shown.Symbols.{EndsStill, run_still}
use Rattle.ion_text.specs.laws.showing.shown.Within.{EndsWithin, begun_within}
use Rattle.ion_text.specs.laws.showing.tokens.Froms.{EndsWaiting, run_waits}

now_shows : (g : Catalog) (l : Limits) (u : List ℕ) (given : List (Value × ℕ)) (now : Result State Refusal)
    → StoodBehind g l u [] (record { given = given; now = now }) → EndsStill g l now → EndsWaiting g l now → EndsWithin g l now → refused_of now ≡ None
    → Shows (Whole g l) (λ front rest. OpenRest l rest) u (plain given)
now_shows g l u given (Ok m) b still wait within h = stood_shows g l u (plain given) m b still wait within
now_shows g l u given (Err e) b still wait within h = absurd cc

-- Where no octet is refused, the octets show the values given, and the rest of them stands open.
pub shown : (g : Catalog) (l : Limits) (u : List ℕ) → (trace g l u).refused ≡ None
    → Shows (Whole g l) (λ front rest. OpenRest l rest) u (plain (trace g l u).given)
shown g l u h =
    let x = run g l 0 begun u in
    now_shows g l u x.given x.now (run_ran g l u [] [] 0 begun (begun_stood g l))
    (run_still g l u [] [] 0 begun (begun_stood g l) (λ f c. absurd (let n : false ≡ true = c in cc))) (run_waits g l u [] [] 0 begun (begun_stood g l) tt)
    (begun_within g l u) h
