-- Whether a statement holds, for statements that are made of comparisons and of cuts of a list.
use Rattle.std.proofs.Common.{◌≡◌, ℕ, ◌⊎◌, inl, inr, List, [], ◌∷◌, ◌++◌, Bool, true, false, ℤ, refl, sym, ap, subst}
use Rattle.std.proofs.Math.Decide.{map_dec, ℕ_discrete}
use Rattle.std.specs.Prelude.{◌≤ℤ◌, ◌<ℤ◌}
use Rattle.std.proofs.lemmas.Int.{by_lt_z}
use Rattle.std.specs.Int.Signed.{clash_ℤ}
use Rattle.ion_scalar.specs.Names.{minus}

-- two statements that are decided are decided together
pub both : {A B : Type 0} → Dec A → Dec B → Dec (A × B)
both (yes a) (yes b) = yes (a, b)
both (yes a) (no n) = no (λ p. n p.1)
both (no n) b = no (λ p. n p.0)

-- three statements that are decided are decided together
pub three : {A B C : Type 0} → Dec A → Dec B → Dec C → Dec (A × B × C)
three a b c = map_dec (λ p. (p.0, p.1.0, p.1.1)) (λ p. (p.0, (p.1, p.2))) (both a (both b c))

four : {A B C D : Type 0} → Dec A → Dec B → Dec C → Dec D → Dec (A × B × C × D)
four a b c d = map_dec (λ p. (p.0, p.1.0, p.1.1, p.1.2)) (λ p. (p.0, (p.1, p.2, p.3))) (both a (three b c d))

-- five statements that are decided are decided together
pub five : {A B C D E : Type 0} → Dec A → Dec B → Dec C → Dec D → Dec E → Dec (A × B × C × D × E)
five a b c d e = map_dec (λ p. (p.0, p.1.0, p.1.1, p.1.2, p.1.3)) (λ p. (p.0, (p.1, p.2, p.3, p.4))) (both a (four b c d e))

-- whether one of two statements holds is decided, where each is
pub either : {A B : Type 0} → Dec A → Dec B → Dec (A ⊎ B)
either (yes a) b = yes (inl a)
either (no n) (yes b) = yes (inr b)
either (no n) (no m) = no (λ s. elim s [ inl a ↦ n a | inr b ↦ m b ])

-- whether a statement doesn't hold is decided, where the statement is
pub not_so : {A : Type 0} → Dec A → Dec (A → ⊥)
not_so (yes a) = no (λ n. n a)
not_so (no n) = yes n

-- whether an int is below another is decided
pub below : (y z : ℤ) → Dec (y <ℤ z)
below y z = by_lt_z y z yes (λ le. no (λ lt. clash_ℤ lt le))

-- whether an int is at most another is decided
pub at_most : (y z : ℤ) → Dec (y ≤ℤ z)
at_most y z = by_lt_z z y (λ lt. no (λ le. clash_ℤ lt le)) yes

-- whether octets are none is decided
pub is_empty : (os : List ℕ) → Dec (os ≡ [])
is_empty [] = yes refl
is_empty (o ∷ os) = no (λ e. cc)

-- a cut of a list in two, of which something holds
pub record Cut (Is : List ℕ → List ℕ → Type 0) (os : List ℕ) : Type 0 where
  pub front : List ℕ
  pub rest : List ℕ
  pub octets : os ≡ front ++ rest
  pub is : Is front rest

cut_none : (Is : List ℕ → List ℕ → Type 0) → (Is [] [] → ⊥) → Cut Is [] → ⊥
cut_none Is n c = go c.front c.rest c.octets c.is where
  go : (x y : List ℕ) → [] ≡ x ++ y → Is x y → ⊥
  go [] y e i = let P : List ℕ → Type 0 = Is [] in n (subst P (sym e) i)
  go (o ∷ x) y e i = cc

cut_later : (Is : List ℕ → List ℕ → Type 0) (o : ℕ) (os : List ℕ) → Cut (λ x y. Is (o ∷ x) y) os → Cut Is (o ∷ os)
cut_later Is o os c = record { front = o ∷ c.front; rest = c.rest; octets = ap (λ (x : List ℕ). o ∷ x) c.octets; is = c.is }

cut_nowhere : (Is : List ℕ → List ℕ → Type 0) (o : ℕ) (os : List ℕ) → (Is [] (o ∷ os) → ⊥) → (Cut (λ x y. Is (o ∷ x) y) os → ⊥) → Cut Is (o ∷ os) → ⊥
cut_nowhere Is o os here later c = go c.front c.rest c.octets c.is where
  go : (x y : List ℕ) → o ∷ os ≡ x ++ y → Is x y → ⊥
  go [] y e i = let P : List ℕ → Type 0 = Is [] in here (subst P (sym e) i)
  go (p ∷ x) y e i =
      let first : p ≡ o = cc in
      let more : os ≡ x ++ y = cc in
      let P : ℕ → Type 0 = λ q. Is (q ∷ x) y in
      later (record { front = x; rest = y; octets = more; is = subst P first i })

-- whether something holds of some cut of a list in two is decided, where it is of each cut
pub some_cut : (Is : List ℕ → List ℕ → Type 0) → ((x y : List ℕ) → Dec (Is x y)) → (os : List ℕ) → Dec (Cut Is os)
some_cut Is is [] = elim (is [] []) [
  | yes i ↦ yes (record { front = []; rest = []; octets = refl; is = i })
  | no n ↦ no (cut_none Is n)
]
some_cut Is is (o ∷ os) = elim (is [] (o ∷ os)) [
  | yes i ↦ yes (record { front = []; rest = o ∷ os; octets = refl; is = i })
  | no n ↦ elim (some_cut (λ x y. Is (o ∷ x) y) (λ x y. is (o ∷ x) y) os) [
    | yes c ↦ yes (cut_later Is o os c)
    | no m ↦ no (cut_nowhere Is o os n m)
  ]
]

-- a sign or none in front of octets of which something holds
pub record Behind (Is : Bool → List ℕ → Type 0) (token : List ℕ) : Type 0 where
  pub negative : Bool
  pub body : List ℕ
  pub octets : token ≡ minus negative ++ body
  pub is : Is negative body

not_behind : (Is : Bool → List ℕ → Type 0) (token : List ℕ) → (Is false token → ⊥) → ((body : List ℕ) → token ≡ 45 ∷ body → Is true body → ⊥) → Behind Is token
    → ⊥
not_behind Is token n m b = go b.negative b.body b.octets b.is where
  go : (s : Bool) (body : List ℕ) → token ≡ minus s ++ body → Is s body → ⊥
  go false body e i = let P : List ℕ → Type 0 = Is false in n (subst P (sym e) i)
  go true body e i = m body e i

some_minus : (Is : Bool → List ℕ → Type 0) → ((s : Bool) (body : List ℕ) → Dec (Is s body)) → (token : List ℕ) → (Is false token → ⊥) → Dec (Behind Is token)
some_minus Is is [] n = no (not_behind Is [] n (λ body e i. cc))
some_minus Is is (o ∷ os) n = elim (both (ℕ_discrete o 45) (is true os)) [
  | yes h ↦ yes (record { negative = true; body = os; octets = ap (λ x. x ∷ os) h.0; is = h.1 })
  | no m ↦ no (not_behind Is (o ∷ os) n (λ body e i.
      let first : o ≡ 45 = cc in
      let same : body ≡ os = cc in
      let P : List ℕ → Type 0 = Is true in
      m (first, subst P same i)))
]

-- whether something holds of a sign, or none, and the body behind it is decided, where it is of each
pub some_behind : (Is : Bool → List ℕ → Type 0) → ((s : Bool) (body : List ℕ) → Dec (Is s body)) → (token : List ℕ) → Dec (Behind Is token)
some_behind Is is token = elim (is false token) [
  | yes i ↦ yes (record { negative = false; body = token; octets = refl; is = i })
  | no n ↦ some_minus Is is token n
]
