-- What a device tells, in one read after another.
use Rattle.std.proofs.Common.{ℕ, List, [], ◌++◌, append_assoc, append-nil, sym, ap, ◌∙◌}
use Rattle.ion_symtab.specs.Told.{Told}

module _ {S : Type 0} (tells : S → List ℕ → Type 0) (handed : S → List ℕ) where
  -- between a device and itself nothing was told
  pub Told-nil : (s : S) → Told tells handed s s []
  Told-nil s = record { told = λ rest t. t; handed_over = sym (append-nil (handed s)) }

  -- what was told first, and behind it what was told next
  pub Told-trans : (a b c : S) (front back : List ℕ) → Told tells handed a b front → Told tells handed b c back → Told tells handed a c (front ++ back)
  Told-trans a b c front back first next = record {
    told = λ rest t. rw append_assoc (first.told (back ++ rest) (next.told rest t));
    handed_over = next.handed_over ∙ (ap (λ x. x ++ back) first.handed_over ∙ append_assoc (handed a) front back);
  }

  -- a device that has ended told all
  pub Told-end : (a b : S) (octets : List ℕ) → Told tells handed a b octets → tells b [] → tells a octets
  Told-end a b octets so_far end = rw append-nil at (so_far.told [] end)
