-- Octets of one class, in a row. Crates above cite these names.
use Rattle.std.proofs.Common.{◌≡◌, ◌≢◌, ℕ, Bool, true, List, [], ◌∷◌, ◌++◌, ap, ◌∙◌, append-nil}
use Rattle.std.specs.List.{flat_map, AllByRecursion}
use Rattle.std.proofs.lemmas.Grind.{flat_map-append}
use Rattle.std.proofs.lemmas.Bool.{false≢true}
use Rattle.ion_tokens.specs.Names.{Each, begins}

-- octets of a class behind octets of the class are all of the class
pub each_append : (class : ℕ → Bool) (xs ys : List ℕ) → Each class xs → Each class ys → Each class (xs ++ ys)
each_append class [] ys h k = k
each_append class (x ∷ xs) ys h k = (h.0, each_append class xs ys h.1 k)

-- and the other way round
pub each_split : (class : ℕ → Bool) (xs ys : List ℕ) → Each class (xs ++ ys) → Each class xs × Each class ys
each_split class [] ys h = (tt, h)
each_split class (x ∷ xs) ys h = let rest = each_split class xs ys h.1 in ((h.0, rest.0), rest.1)

-- what holds of each in a row, and of one more
pub all_last : {A : Type 0} (P : A → Type 0) (xs : List A) (x : A) → AllByRecursion P xs → P x → AllByRecursion P (xs ++ x ∷ [])
all_last P [] x h i = (i, tt)
all_last P (y ∷ xs) x h i = (h.0, all_last P xs x h.1 i)

-- one more octet of the class behind such octets
pub each_last : (class : ℕ → Bool) (os : List ℕ) (o : ℕ) → Each class os → class o ≡ true → Each class (os ++ o ∷ [])
each_last class os o h e = all_last (λ x. class x ≡ true) os o h e

-- what one more comes to stands behind what the others do
pub flat_last : {A : Type 0} {B : Type 0} (f : A → List B) (xs : List A) (x : A) → flat_map f (xs ++ x ∷ []) ≡ flat_map f xs ++ f x
flat_last f xs x = flat_map-append f xs (x ∷ []) ∙ ap (λ l. flat_map f xs ++ l) (append-nil (f x))

-- with one more there are some
pub not_empty : {A : Type 0} (xs : List A) (x : A) → xs ++ x ∷ [] ≢ []
not_empty [] x e = cc
not_empty (y ∷ xs) x e = cc

-- what begins with an octet of the class does so whatever follows
pub begins_more : (class : ℕ → Bool) (os more : List ℕ) → begins class os ≡ true → begins class (os ++ more) ≡ true
begins_more class [] more h = absurd (false≢true h)
begins_more class (x ∷ os) more h = h
