-- Usual characters of quoted texts are kept as they are.
use Rattle.std.proofs.Common.{◌≡◌, ℕ, true, List, [], ◌∷◌, arith}
use Rattle.std.proofs.lemmas.Bool.Decides.{nat_tests}
use Rattle.ion_tokens.specs.Names.{Each, Style, is_plain}
use Rattle.ion_tokens.specs.Usual.{is_usual}

usual_one : (o : ℕ) → is_usual 34 o ≡ true → is_plain Style.ShortString o ≡ true
usual_one o h = grind (arith, nat_tests)

pub usual_plain : (w : List ℕ) → Each (is_usual 34) w → Each (is_plain Style.ShortString) w
usual_plain [] h = h
usual_plain (o ∷ os) h = (usual_one o h.0, usual_plain os h.1)
