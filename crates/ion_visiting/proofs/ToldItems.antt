-- What was told of a list's items so far, and of one more.
use Rattle.std.proofs.Common.{◌≡◌, ℕ, ◌+◌, ◌<◌, ◌≤◌, List, [], ◌∷◌, ◌++◌, length, get_or, take, true, Option, Some, None, IfSome, refl, ap, sym, subst, ◌∙◌}
use Rattle.std.specs.List.{flat_map}
use Rattle.std.specs.Option.{is_some, option_to_list}
use Rattle.std.proofs.lemmas.Grind.{flat_map-append}
use Rattle.std.proofs.lemmas.List.{take_all, take_more}
use Rattle.ion_visiting.specs.Names.{Event, Led, closes, opens, within}
use Rattle.ion_visiting.specs.laws.Led.{led_both, led_more}

-- 1. Of items, each of which tells some events.

module _ {S X : Type 0} (takes : S → Event → S → Type 0) (told : List X → List Event) where
  -- an item's events, behind those of the items before it
  pub told_next : ((xs ys : List X) → told (xs ++ ys) ≡ told xs ++ told ys) → (xs : List X) (i : ℕ) (x : X) (a m b : S) → i < length xs → x ≡ get_or xs i x
      → Led takes (told (take i xs)) a m → Led takes (told (x ∷ [])) m b → Led takes (told (take (i + 1) xs)) a b
  told_next joins xs i x a m b small is before item =
      let cut : take (i + 1) xs ≡ take i xs ++ x ∷ [] = take_more xs i x small ∙ ap (λ y. take i xs ++ y ∷ []) (sym is) in
      subst (λ es. Led takes es a b) (sym (ap told cut ∙ joins (take i xs) (x ∷ []))) (led_both takes (told (take i xs)) (told (x ∷ [])) a m b before item)

  -- all items between brackets, which close
  pub told_within : (x : _) (xs : List X) (i : ℕ) (a m b : S) → length xs ≤ i → Led takes (opens x ∷ told (take i xs)) a m → takes m (closes x) b
      → Led takes (within x (told xs)) a b
  told_within x xs i a m b all inside close = led_more takes (opens x ∷ told xs) (closes x) a m b
      (subst (λ ys. Led takes (opens x ∷ told ys) a m) (take_all i xs all) inside) close

-- 2. Of entries, each of which tells one event.

entry_told : {S : Type 0} (takes : S → Event → S → Type 0) (o : Option Event) (a b : S) → is_some o ≡ true → IfSome o (λ e. takes a e b)
    → Led takes (option_to_list o ++ []) a b
entry_told takes (Some e) a b h k = (b, k, refl)
entry_told takes None a b h k = cc

pub entry_next : {S X : Type 0} (takes : S → Event → S → Type 0) (f : X → Option Event) (xs : List X) (i : ℕ) (x : X) (a m b : S) → i < length xs
    → x ≡ get_or xs i x → Led takes (flat_map (λ e. option_to_list (f e)) (take i xs)) a m → is_some (f x) ≡ true → IfSome (f x) (λ e. takes m e b)
    → Led takes (flat_map (λ e. option_to_list (f e)) (take (i + 1) xs)) a b
entry_next takes f xs i x a m b small at before some is =
    told_next takes (flat_map (λ e. option_to_list (f e))) (flat_map-append (λ e. option_to_list (f e))) xs i x a m b small at before
    (entry_told takes (f x) m b some is)
