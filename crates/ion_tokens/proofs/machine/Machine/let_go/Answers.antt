use Rattle.std.proofs.Common.{◌≡◌, ◌<◌, ◌≤◌, ℕ, List, length, sym, subst, ◌∙◌, arith, take, true, false}
use Rattle.std.specs.Prelude.{IsUtf8}
use Rattle.std.proofs.lemmas.Str.{IsUtf8-append, is_utf8-from_IsUtf8}
use Rattle.ion_tokens.specs.machine.Machines.{known}
use Rattle.ion_tokens.proofs.runs.Behind.{goes_behind, left_kept, utf8_behind}
use Rattle.ion_tokens.proofs.machine.Machine.let_go.Goals as goal

pub returns-clause-behind : goal.returns-clause-behind
returns-clause-behind c =
    let n = c.spare-spare.result in
    let is = c.if-spare-eq0.false in
    let some : 0 < n = omega arith in
    let got = rw c.if-is_err.ensures.negation at c.extend_from_slice.ensures.items in
    let left : 4 ≤ length c.swap.new.x.items = rw c.swap.ensures.x_after
    (left_kept c.extend_from_slice.new.self.items c.clear.new.self.items c.deref.result.now n got
    (rw c.deref.ensures.value (c.spare-spare.ensures.kept some))) in
    record {
      base64 = λ _ e. absurd (let n : true ≡ false = sym e ∙ sym c.in_base64.ensures ∙ c.if-in_base64.false in cc);
      text = λ _ _. goes_behind c.args.self.now.mode c.swap.new.x.items (c.spare-spare.ensures.text some) left;
      utf8 = λ _ e. is_utf8-from_IsUtf8 _ (subst IsUtf8 (sym c.add.ensures)
          (IsUtf8-append _ _ (utf8_behind c.args.gone.now (known c.args.self.now) c.requires e)
          (subst (λ (k : List ℕ). IsUtf8 (take n k)) (sym c.deref-2.ensures.value) (c.spare-spare.ensures.utf8 e))));
    }
