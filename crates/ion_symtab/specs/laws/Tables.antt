-- What the definitions of a catalog's finds come to.
use Rattle.std.proofs.Common.{if◌then◌else◌, ◌≡◌, ℕ, zero, suc, ◌<◌, ◌≤◌, List, [], ◌∷◌, length, get_or, Option, Some, None, MatchOption, IsSome, Bool, true, false, refl, ap, sym, subst, ◌⊎◌, inl, inr, arith, ◌++◌, ◌∙◌}
use Rattle.std.specs.List.{Contains}
use Rattle.std.specs.Str.{bytes_eq}
use Rattle.std.specs.Prelude.{nat_le}
use Rattle.std.proofs.lemmas.Bool.{and_parts, and_from, cond_both, eqb-true, eq-eqb}
use Rattle.std.proofs.lemmas.Slice.Eq.{bytes_eq-Decides}
use Rattle.std.proofs.lemmas.List.Elements.{Contains-append_right, Contains-append_cases}
use Rattle.ion_symtab.specs.laws.Reasons.{either}
use Rattle.ion_symtab.specs.Names.{AreApart, Table, find, find_best, is_named, newer, newest, otherwise}

contains_first : (t : Table) (ts : List Table) → Contains (t ∷ ts) t
contains_first t ts = (0, omega arith, refl)

contains_later : (t u : Table) (ts : List Table) → Contains ts t → Contains (u ∷ ts) t
contains_later t u ts h = Contains-append_right (u ∷ []) ts t h

-- a table is found under its own name and version
named : (name : List ℕ) (version : ℕ) (t : Table) → is_named name version t ≡ true → (t.name ≡ name) × (t.version ≡ version)
named name version t h =
    let p = and_parts _ _ h in
    ((bytes_eq-Decides t.name name).0 p.0, eqb-true _ _ p.1)

is_named_by : (name : List ℕ) (version : ℕ) (t : Table) → t.name ≡ name → t.version ≡ version → is_named name version t ≡ true
is_named_by name version t n v = and_from _ _ ((bytes_eq-Decides t.name name).1 n) (eq-eqb _ _ v)

-- a table of a catalog that has the name and version asked for
abbrev pub IsFound : List Table → List ℕ → ℕ → Table → Type 0
IsFound ts name version t = Contains ts t × (t.name ≡ name) × (t.version ≡ version)

-- what is found is there, under the name and version asked for
pub find_is : (ts : List Table) (name : List ℕ) (version : ℕ) (t : Table) → find ts name version ≡ Some t → IsFound ts name version t
find_is [] name version t = λ e. absurd cc
find_is (u ∷ ts) name version t = cond_both (is_named name version u) _ _ (λ (o : Option Table). o ≡ Some t → IsFound (u ∷ ts) name version t)
    (λ n e. let s : u ≡ t = cc in let m = named name version u n in subst (IsFound (u ∷ ts) name version) s (contains_first u ts, m.0, m.1))
    (λ n e. let f = find_is ts name version t e in (contains_later t u ts f.0, f.1, f.2))

find_at : (ts : List Table) (t : Table) (k : ℕ) → k < length ts → get_or ts k t ≡ t → IsSome (find ts t.name t.version)
find_at [] t k h e = absurd (omega arith)
find_at (u ∷ ts) t zero h e = rw (is_named_by t.name t.version u (ap (λ (x : Table). x.name) e) (ap (λ (x : Table). x.version) e))
find_at (u ∷ ts) t (suc k) h e = either (λ (o : Option Table). IsSome o) (is_named t.name t.version u) _ _ refl (find_at ts t k (omega arith) e)

-- what is there is found
pub find_some : (ts : List Table) (t : Table) → Contains ts t → IsSome (find ts t.name t.version)
find_some ts t c = find_at ts t c.0 c.1 c.2

-- there is a table of this version or a greater one
abbrev pub IsAtLeast : ℕ → Option Table → Type 0
IsAtLeast version o = MatchOption o ⊥ (λ t. version ≤ t.version)

newer_left : (t : Table) (o : Option Table) → IsAtLeast t.version (newer (Some t) o)
newer_left t None = omega arith
newer_left t (Some u) = grind arith

newer_right : (version : ℕ) (t : Table) (o : Option Table) → IsAtLeast version o → IsAtLeast version (newer (Some t) o)
newer_right version t None h = absurd h
newer_right version t (Some u) h = grind arith

newest_at : (ts : List Table) (t : Table) (k : ℕ) → k < length ts → get_or ts k t ≡ t → IsAtLeast t.version (newest ts t.name)
newest_at [] t k h e = absurd (omega arith)
newest_at (u ∷ ts) t zero h e =
    let v : t.version ≡ u.version = ap (λ (x : Table). x.version) (sym e) in
    rw ((bytes_eq-Decides u.name t.name).1 (ap (λ (x : Table). x.name) e), v) (newer_left u (newest ts t.name))
newest_at (u ∷ ts) t (suc k) h e =
    let rest = newest_at ts t k (omega arith) e in
    either (IsAtLeast t.version) (bytes_eq u.name t.name) _ _ (newer_right t.version u (newest ts t.name) rest) rest

-- the newest table of a name has the greatest version
pub newest_greatest : (ts : List Table) (t : Table) → Contains ts t → IsAtLeast t.version (newest ts t.name)
newest_greatest ts t c = newest_at ts t c.0 c.1 c.2

newer_is : (t : Table) (o : Option Table) (x : Table) → newer (Some t) o ≡ Some x → (t ≡ x) ⊎ (o ≡ Some x)
newer_is t None x = λ e. inl cc
newer_is t (Some u) x = either (λ (o : Option Table). o ≡ Some x → (t ≡ x) ⊎ (Some u ≡ Some x)) (nat_le u.version t.version) _ _ (λ e. inl cc) (λ e. inr e)

-- a table of a catalog that has the name asked for
abbrev pub IsOfName : List Table → List ℕ → Table → Type 0
IsOfName ts name t = Contains ts t × (t.name ≡ name)

-- the newest table of a name is there, under that name
pub newest_is : (ts : List Table) (name : List ℕ) (t : Table) → newest ts name ≡ Some t → IsOfName ts name t
newest_is [] name t = λ e. absurd cc
newest_is (u ∷ ts) name t =
    let later : newest ts name ≡ Some t → IsOfName (u ∷ ts) name t = λ e. let h = newest_is ts name t e in (contains_later t u ts h.0, h.1) in
    cond_both (bytes_eq u.name name) _ _ (λ (o : Option Table). o ≡ Some t → IsOfName (u ∷ ts) name t)
    (λ n e. elim (newer_is u (newest ts name) t e) [
      | inl s ↦ subst (IsOfName (u ∷ ts) name) s (contains_first u ts, (bytes_eq-Decides u.name name).0 n)
      | inr f ↦ later f
    ]) (λ n e. later e)

-- ---- one table more

found_else : (b : Bool) (u : Table) (o more : Option Table) → (if b then Some u else otherwise o more) ≡ otherwise (if b then Some u else o) more
found_else true u o more = refl
found_else false u o more = refl

-- what is found with one table more
pub find_more : (ts : List Table) (t : Table) (name : List ℕ) (version : ℕ) → find (ts ++ t ∷ []) name version
    ≡ otherwise (find ts name version) (if is_named name version t then Some t else None)
find_more [] t name version = refl
find_more (u ∷ ts) t name version = rw (find_more ts t name version)
    (found_else (is_named name version u) u (find ts name version) (if is_named name version t then Some t else None))

-- a table that is added is found
pub find_added : (ts : List Table) (t : Table) → find ts t.name t.version ≡ None → find (ts ++ t ∷ []) t.name t.version ≡ Some t
find_added ts t absent = find_more ts t t.name t.version ∙ rw (absent, is_named_by t.name t.version t refl refl) refl

-- and what was found before still is
pub find_stays : (ts : List Table) (t u : Table) (name : List ℕ) (version : ℕ) → find ts name version ≡ Some u → find (ts ++ t ∷ []) name version ≡ Some u
find_stays ts t u name version there = find_more ts t name version ∙ rw there refl

none_else : (o : Option Table) → otherwise o None ≡ o
none_else None = refl
none_else (Some t) = refl

-- under another name or version nothing more is found
pub find_others : (ts : List Table) (t : Table) (name : List ℕ) (version : ℕ) → ((t.name ≡ name) × (t.version ≡ version) → ⊥) → find (ts ++ t ∷ []) name version
    ≡ find ts name version
find_others ts t name version other =
    find_more ts t name version ∙ cond_both (is_named name version t) _ _ (λ (o : Option Table). otherwise (find ts name version) o ≡ find ts name version)
    (λ n. absurd (other (named name version t n))) (λ n. none_else (find ts name version))

-- a table that is added, and wasn't there, is the one found best for its name and version
pub best_added : (ts : List Table) (t : Table) → find ts t.name t.version ≡ None → find_best (ts ++ t ∷ []) t.name t.version ≡ Some t
best_added ts t absent = ap (λ o. otherwise o (newest (ts ++ t ∷ []) t.name)) (find_added ts t absent)

one_is : (t u : Table) → Contains (t ∷ []) u → t ≡ u
one_is t u (zero, h, e) = e
one_is t u (suc k, h, e) = absurd (omega arith)

-- tables stay apart with one more that isn't found yet
pub apart_more : (ts : List Table) (t : Table) → AreApart ts → find ts t.name t.version ≡ None → AreApart (ts ++ t ∷ [])
apart_more ts t apart absent u c = elim (Contains-append_cases ts (t ∷ []) u c) [
  | inl old ↦ find_stays ts t u u.name u.version (apart u old)
  | inr new ↦ subst (λ (x : Table). find (ts ++ t ∷ []) x.name x.version ≡ Some x) (one_is t u new) (find_added ts t absent)
]

pub none_apart : AreApart []
none_apart t c = let k = c.1 in absurd (omega arith)
