use Rattle.std.proofs.Common.{ℕ, List, length, ap, subst, sym, arith, ◌∙◌}
use Rattle.std.specs.Str.{IsUtf8}
use Rattle.std.proofs.lemmas.List.{length-append}
use Rattle.std.proofs.lemmas.Str.{IsUtf8-append}
use Rattle.ion_atoms.proofs.let_go.LetGo.join.Goals as goal

pub invariant_of-self : goal.invariant_of-self
invariant_of-self c =
    let v = ap (λ (xs : List ℕ). length xs) c.self.view_is in
    let w = ap (λ (xs : List ℕ). length xs) c.behind.view_is in
    let l = c.self.invariant.counted in
    let m = c.behind.invariant.counted in
    let r = c.requires in
    record {
      counted = ap (λ (xs : List ℕ). length xs) c.of-tag.ensures ∙ (let n = length-append c.self.inside.octets.numbers c.behind.inside.octets.numbers in omega arith);
      few = omega arith;
      text = λ yes.
          let both = c.are_texts-self-inside.ensures yes in
          subst IsUtf8 (sym c.of-tag.ensures) (IsUtf8-append _ _ (c.self.invariant.text both.0) (c.behind.invariant.text both.1));
    }
