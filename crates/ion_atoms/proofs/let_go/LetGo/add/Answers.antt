use Rattle.std.proofs.Common.{rules, ℕ, List, length, ap, subst, sym, arith}
use Rattle.std.specs.Str.{IsUtf8}
use Rattle.std.proofs.lemmas.List.{length-append}
use Rattle.std.proofs.lemmas.Str.{IsUtf8-append}
use Rattle.ion_atoms.proofs.let_go.LetGo.add.Goals as goal

pub invariant_of-self : goal.invariant_of-self
invariant_of-self c = record {
  counted = search (rules, length-append);
  few =
      let v = ap (λ (xs : List ℕ). length xs) c.self.view_is in
      let l = c.self.invariant.counted in
      let r = c.requires in omega arith;
  text = λ yes.
      let both = c.goes_on_as_text-self-inside.ensures yes in
      subst IsUtf8 (sym c.of-tag.ensures) (IsUtf8-append _ _ (c.self.invariant.text both.0) both.1);
}
