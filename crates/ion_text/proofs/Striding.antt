-- Where nothing waits.
use Rattle.std.proofs.Common.{◌≡◌, refl, sym, subst}
use Rattle.ion_text.specs.Names.{Catalog, IsStill, Limits, Reading, Stage, at, goes, settle}

-- where nothing waits, settling changes nothing
pub still_settles : (g : Catalog) (l : Limits) (r : Reading) → IsStill r.now → settle g l r ≡ goes r
still_settles g l r h = go r.now refl h
  where
    go : (n : Stage) → r.now ≡ n → IsStill n → settle g l r ≡ goes r
    go (Stage.Pending x y) e k = absurd k
    go (Stage.Long x y) e k = absurd k
    go (Stage.LongName x) e k = absurd k
    go _ e k = subst (λ n. settle g l (at r.start r.context r.frames r.notes n) ≡ goes (at r.start r.context r.frames r.notes n)) (sym e) refl
