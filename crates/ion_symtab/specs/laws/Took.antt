-- What a device took, in one write after another.
use Rattle.std.proofs.Common.{ℕ, ◌+◌, ◌-◌, ◌≤◌, min, List, [], ◌++◌, Option, length, take, drop, length-drop, arith, ap, sym, subst, ◌∙◌, append_assoc, append-nil}
use Rattle.std.proofs.lemmas.List.{take_all, take-append-le, take_min}
use Rattle.std.proofs.Math.Seq.{take-add, take-length, take-append-add}
use Rattle.std.proofs.KnownBytes.{Appends-nil, Appends-trans}
use Rattle.ion_symtab.specs.Took.{Took, TookFront}

module _ {S : Type 0} (took : S → Option (List ℕ)) (written : S → List ℕ) where
  -- between a device and itself nothing was taken
  pub Took-nil : (s : S) → Took took written s s []
  Took-nil s = record { taken = Appends-nil (took s); wrote = sym (append-nil (written s)) }

  -- what was taken first, and behind it what was taken next
  pub Took-trans : (a b c : S) (front back : List ℕ) → Took took written a b front → Took took written b c back → Took took written a c (front ++ back)
  Took-trans a b c front back first next = record {
    taken = Appends-trans (took a) (took b) (took c) front back first.taken next.taken;
    wrote = next.wrote ∙ (ap (λ x. x ++ back) first.wrote ∙ append_assoc (written a) front back);
  }

  -- then nothing more was taken
  pub Took-kept : (a b c : S) (octets : List ℕ) → Took took written a b octets → Took took written b c [] → Took took written a c octets
  Took-kept a b c octets first next = subst (λ (x : List ℕ). Took took written a c x) (append-nil octets) (Took-trans a b c octets [] first next)

  -- behind the first `at` octets a device took n of those that were left
  pub Took-more : (a b c : S) (octets : List ℕ) (at n : ℕ) → Took took written a b (take at octets)
      → Took took written b c (take n (take (length octets - at) (drop at octets))) → Took took written a c (take (at + n) octets)
  Took-more a b c octets at n before now =
      let small : length (drop at octets) ≤ length octets - at = omega (arith, length-drop at octets) in
      let whole = take_all (length octets - at) (drop at octets) small in
      let step : Took took written b c (take n (drop at octets)) = rw whole at now in
      rw take-add (Took-trans a b c _ _ before step)

  -- nothing is a front of all octets
  pub Front-none : (now : S) (octets : List ℕ) → TookFront took written now now octets
  Front-none now octets = record { count = 0; front = Took-nil now }

  -- all of them are one, and then nothing more was taken
  pub Front-all : (old mid new : S) (octets : List ℕ) → Took took written old mid octets → Took took written mid new [] → TookFront took written old new octets
  Front-all old mid new octets all kept = record {
    count = length octets;
    front = subst (λ (x : List ℕ). Took took written old new x) (sym (take-length octets)) (Took-kept old mid new octets all kept);
  }

  -- a front is one of more octets too
  pub Front-more : (old new : S) (octets more : List ℕ) → TookFront took written old new octets → TookFront took written old new (octets ++ more)
  Front-more old new octets more h =
      let n = min h.count (length octets) in
      record {
        count = n;
        front = subst (λ (x : List ℕ). Took took written old new x) (sym (take-append-le n octets more (omega arith) ∙ take_min h.count octets)) h.front;
      }

  -- all octets, and a front of those behind them
  pub Front-behind : (old mid new : S) (octets more : List ℕ) → Took took written old mid octets → TookFront took written mid new more
      → TookFront took written old new (octets ++ more)
  Front-behind old mid new octets more all h =
      record {
        count = length octets + h.count;
        front = subst (λ (x : List ℕ). Took took written old new x) (sym (take-append-add octets more h.count)) (Took-trans old mid new octets _ all h.front);
      }
