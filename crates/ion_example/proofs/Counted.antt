-- Strings that were counted event by event.
use Rattle.std.proofs.Common.{◌≡◌, ◌+◌, List, [], ◌∷◌, ap, arith}
use Rattle.std.specs.List.{sum_by}
use Rattle.std.proofs.lemmas.List.Sums.{sum_by-cons}
use Rattle.ion_visiting.specs.Events.{Event, Led}
use Rattle.ion_example.specs.Strings.{counts, is_string}
use Rattle.ion_example.specs.declared.uses.counting.Strings.{Strings}

-- what events add to the count
pub counted : (es : List Event) (a b : Strings) → Led counts es a b → b.count ≡ a.count + sum_by is_string es
counted [] a b h = let same = ap (λ (x : Strings). x.count) h in omega (arith, same)
counted (e ∷ es) a b h =
    let rest = counted es h.0 b h.2 in
    let one = h.1 in
    let cons = sum_by-cons is_string e es in
    omega (arith, rest, one, cons)
