-- Entries whose octets give them back, one more.
use Rattle.std.proofs.Common.{◌≡◌, ℕ, ◌+◌, ◌<◌, zero, suc, List, [], ◌∷◌, length, take, ap, sym, subst, ◌∙◌, arith}
use Rattle.std.specs.Prelude.{slice_index_or}
use Rattle.std.specs.List.{All}
use Rattle.std.proofs.Math.Seq.{take-suc}
use Rattle.std.proofs.lemmas.List.Elements.{All-append}
use Rattle.ion_events.specs.Drafts.{IsSpelled}
use Rattle.ion_events.specs.Names.{Entry}

only_one : (e : Entry) → IsSpelled e → All IsSpelled (e ∷ [])
only_one e h zero d l = h
only_one e h (suc j) d l = absurd (omega (arith, l))

pub more_spelled : (es : List Entry) (i : ℕ) (d : Entry) → i < length es → IsSpelled (slice_index_or es i d) → All IsSpelled (take i es)
    → All IsSpelled (take (i + 1) es)
more_spelled es i d h k l =
    let next : i + 1 ≡ suc i = omega arith in
    subst (All IsSpelled) (sym (ap (λ j. take j es) next ∙ take-suc es i d h))
    (All-append IsSpelled (take i es) (slice_index_or es i d ∷ []) l (only_one (slice_index_or es i d) k))
