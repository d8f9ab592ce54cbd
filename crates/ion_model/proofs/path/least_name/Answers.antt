use Rattle.std.proofs.Common.{◌≡◌, MatchOption, None, Some, Option, List, ℕ, true, subst}
use Rattle.ion_model.specs.Names.{AreNormalOf, Field, LeastParting, fields_same, same}
use Rattle.ion_model.specs.laws.PartingSteps.{first_untied}
use Rattle.ion_model.proofs.PartingLeast.{least-name}
use Rattle.ion_model.proofs.path.least_name.Goals as goal

none-untied : (fs gs l r : List Field) → AreNormalOf l fs → AreNormalOf r gs → first_untied l r ≡ None → fields_same same fs gs ≡ true
none-untied fs gs l r nl nr e = subst (λ o. MatchOption o (fields_same same fs gs ≡ true) (λ s. LeastParting fs gs s)) e (least-name fs gs l r nl nr)

some-untied : (fs gs l r : List Field) (s : Option (List ℕ)) → AreNormalOf l fs → AreNormalOf r gs → first_untied l r ≡ Some s → LeastParting fs gs s
some-untied fs gs l r s nl nr e = subst (λ o. MatchOption o (fields_same same fs gs ≡ true) (λ s. LeastParting fs gs s)) e (least-name fs gs l r nl nr)

pub returns-in-None : goal.returns-in-None
returns-in-None c =
    let e : first_untied c.in_ok-left.left.items c.in_ok-right.right.items ≡ None = cc (c.in-None.ensures, c.deref.ensures.value, c.deref-2.ensures.value) in
    none-untied c.args.fs.now c.args.gs.now c.in_ok-left.left.items c.in_ok-right.right.items c.in_ok-left.ensures c.in_ok-right.ensures e

pub returns : goal.returns
returns c =
    let e : first_untied c.in_ok-left.left.items c.in_ok-right.right.items ≡ Some c.in_ok-copy-in-Some.field-0 =
    cc (c.in-Some.ensures, c.in_ok-copy-in-Some.ensures.copied, c.deref.ensures.value, c.deref-2.ensures.value) in
    some-untied c.args.fs.now c.args.gs.now c.in_ok-left.left.items c.in_ok-right.right.items c.in_ok-copy-in-Some.field-0 c.in_ok-left.ensures
    c.in_ok-right.ensures e
