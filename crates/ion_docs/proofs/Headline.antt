-- Two octet strings in memory have a verdict, and each verdict says what its words say.
use Rattle.std.proofs.Common.{◌≡◌, ◌↔◌, ℕ, zero, suc, ◌+◌, ◌-◌, List, [], ◌∷◌, ◌++◌, take, slice_get, length, refl, ap, sym, subst, ◌∙◌, arith, Bool, true, false, ◌&&◌, cond, ◌⊎◌, inl, inr, Option, Some, None, option_map, option_to_list, Result, Ok, Err}
use lib.Pointwise.{pointwise}
use Rattle.std.proofs.lemmas.Bool.{and_from}
use Rattle.ion_docs.specs.Names.{Catalog, Denotes, Different, Equivalent, IsPath, IsPathOf, IsRefused, Left, Limits, OpenAfter, Part, PartAt, Refusal, Refused, Right, Value, Verdict, chosen, documents, parts, plain, same}
use Rattle.ion_streams.proofs.Endings.{refused_late}
use Rattle.ion_docs.specs.Headline.{AreDocuments, AreEquivalent, IsDocument, IsNoDocument, IsVerdictOn, PartFirst, PartThere, RefusesLeft, RefusesRight, SaysDifferent, SaysEquivalent}
use Rattle.ion_docs.specs.laws.Documents.{promised}
use Rattle.ion_binary.specs.laws.reading.PlainRows.{both_first, both_second}

-- 1. Where two streams part.

-- what stands at a place of two streams differs: two values that aren't the same, or one that the other lacks
abbrev Apart : Option Value → Option Value → Type 0
Apart (Some v) (Some w) = same v w ≡ false
Apart None None = ⊥
Apart _ _ = Unit {0}

-- they part there first
record Parted (index : ℕ) (s t : List Value) : Type 0 where
  before : ℕ
  number : index ≡ before + 1
  agree : pointwise same (take before s) (take before t) ≡ true
  apart : Apart (slice_get s before) (slice_get t before)

next_number : (p : Option ℕ) (n : ℕ) → option_map (λ m. m + 1) p ≡ Some n → (m : ℕ) × (p ≡ Some m) × (n ≡ m + 1)
next_number None n h = absurd cc
next_number (Some m) n h = let e : n ≡ m + 1 = cc in (m, refl, e)

one_on : (v w : Value) (s t : List Value) (index : ℕ) → same v w ≡ true → (m : ℕ) → index ≡ m + 1 → Parted m s t → Parted index (v ∷ s) (w ∷ t)
one_on v w s t index e m n h = record {
  before = suc h.before;
  number = let number = h.number in omega arith;
  agree = and_from (same v w) _ e h.agree;
  apart = h.apart;
}

parted_on : (v w : Value) (s t : List Value) (index : ℕ) (b : Bool) → same v w ≡ b → ((m : ℕ) → parts s t ≡ Some m → Parted m s t)
    → cond b (option_map (λ n. n + 1) (parts s t)) (Some 1) ≡ Some index → Parted index (v ∷ s) (w ∷ t)
parted_on v w s t index true e rest k = let next = next_number (parts s t) index k in one_on v w s t index e next.0 next.2 (rest next.0 next.1)
parted_on v w s t index false e rest k = let n : index ≡ 0 + 1 = cc in record { before = 0; number = n; agree = refl; apart = e }

parted : (s t : List Value) (index : ℕ) → parts s t ≡ Some index → Parted index s t
parted [] [] index h = absurd cc
parted (v ∷ s) (w ∷ t) index h = parted_on v w s t index (same v w) refl (λ m k. parted s t m k) h
parted _ _ index h = let e : index ≡ 0 + 1 = cc in record { before = 0; number = e; agree = refl; apart = tt }

parts_by : (b : Bool) (rest : Option ℕ) (p : ℕ) → b ≡ true → rest ≡ Some p → cond b (option_map (λ n. n + 1) rest) (Some 1) ≡ Some (p + 1)
parts_by b rest p e h = rw (e, h)

parts_at : (before : ℕ) (s t : List Value) → pointwise same (take before s) (take before t) ≡ true → Apart (slice_get s before) (slice_get t before)
    → parts s t ≡ Some (before + 1)
parts_at before [] [] agree apart = absurd apart
parts_at (suc before) [] (w ∷ t) agree apart = absurd cc
parts_at (suc before) (v ∷ s) [] agree apart = absurd cc
parts_at zero (v ∷ s) (w ∷ t) agree apart = rw apart
parts_at (suc before) (v ∷ s) (w ∷ t) agree apart =
    let first = both_first (same v w) _ agree in
    let rest = both_second (same v w) _ agree in
    let h = parts_by (same v w) (parts s t) (before + 1) first (parts_at before s t rest apart) in
    let e : suc before + 1 ≡ before + 1 + 1 = omega arith in
    h ∙ ap Some (sym e)
parts_at zero _ _ agree apart = refl

-- the path within the place
there : (path : List Part) (v w : Option Value) → Apart v w → IsPathOf path v w → PartThere path v w
there path (Some v) (Some w) apart p = (apart, p)
there path None None apart p = apart
there path _ _ apart p = p

apart_there : (path : List Part) (v w : Option Value) → PartThere path v w → Apart v w
apart_there path (Some v) (Some w) h = h.0
apart_there path None None h = h
apart_there path _ _ h = tt

path_there : (path : List Part) (v w : Option Value) → PartThere path v w → IsPathOf path v w
path_there path (Some v) (Some w) h = h.1
path_there path None None h = absurd h
path_there path _ _ h = h

before_it : (index before : ℕ) → index ≡ before + 1 → index - 1 ≡ before
before_it index before e = omega arith

pub part_first : (index : ℕ) (path : List Part) (s t : List Value) → PartAt index path s t → PartFirst index path s t
part_first index path s t h =
    let p = parted s t index h.first in
    let e = before_it index p.before p.number in
    record {
      before = p.before;
      number = p.number;
      agree = p.agree;
      there =
          there path (slice_get s p.before) (slice_get t p.before) p.apart (subst (λ n. IsPathOf path (slice_get s n) (slice_get t n)) e h.within);
    }

pub part_at : (index : ℕ) (path : List Part) (s t : List Value) → PartFirst index path s t → PartAt index path s t
part_at index path s t h =
    let e = before_it index h.before h.number in
    record {
      first = parts_at h.before s t h.agree (apart_there path (slice_get s h.before) (slice_get t h.before) h.there) ∙ ap Some (sym h.number);
      within = subst (λ n. IsPathOf path (slice_get s n) (slice_get t n)) (sym e) (path_there path (slice_get s h.before) (slice_get t h.before) h.there);
    }

-- streams that aren't equivalent part
no_next : (p : Option ℕ) → option_map (λ n. n + 1) p ≡ None → p ≡ None
no_next None h = refl
no_next (Some n) h = absurd cc

none_parted_on : (b rest : Bool) (p : Option ℕ) → (p ≡ None → rest ≡ true) → cond b (option_map (λ n. n + 1) p) (Some 1) ≡ None → b && rest ≡ true
none_parted_on false rest p h k = absurd cc
none_parted_on true rest p h k = h (no_next p k)

none_parted : (s t : List Value) → parts s t ≡ None → pointwise same s t ≡ true
none_parted [] [] h = refl
none_parted (v ∷ s) (w ∷ t) h = none_parted_on (same v w) (pointwise same s t) (parts s t) (none_parted s t) h
none_parted _ _ h = absurd cc

-- 2. Octets are a document or refused.
module _ (g : Catalog) (k : Limits) where
  Judged : List ℕ → Type 0
  Judged u = IsDocument g k u ⊎ ((s : List Value) × (refusal : Refusal) × IsRefused (documents g k) u s refusal)

  judged_by : (u : List ℕ) (ends : Result (Option Value) Refusal) → (chosen g k u).ends ≡ ends → Judged u
  unfolding Judged
  judged_by u (Ok last) is =
      let given = plain (chosen g k u).given ++ option_to_list last in
      inl (given, ((promised g k u).exact given).0 (record { last = last; ends = is; values = refl }))
  judged_by u (Err refusal) is =
      let h = promised g k u in
      let ends = refused_late (documents g k) (λ u. (promised g k u).reasons) u (chosen g k u).given refusal (OpenAfter k) refl is h.refused h.shown
      (h.unfinished refusal) (λ s. (h.exact s).1) in
      inr (plain (chosen g k u).given, refusal, ends.refused)

  judged : (u : List ℕ) → Judged u
  judged u = judged_by u (chosen g k u).ends refl

  -- 3. So two octet strings have a verdict.
  module _ (some_path : (v w : Value) → same v w ≡ false → (path : List Part) × IsPath path v w) where
    path_of : (v w : Option Value) → Apart v w → (path : List Part) × PartThere path v w
    path_of (Some v) (Some w) apart = let p = some_path v w apart in (p.0, (apart, p.1))
    path_of None None apart = absurd apart
    path_of _ _ apart = ([], refl)

    of_streams : (l r : List ℕ) (s t : List Value) → Denotes g k l s → Denotes g k r t → (p : Option ℕ) → parts s t ≡ p → (v : Verdict) × IsVerdictOn g k l r v
    of_streams l r s t d e None is = (Equivalent (length s), record { s = s; t = t; left = d; right = e; streams = (none_parted s t is, refl) })
    of_streams l r s t d e (Some index) is =
        let p = parted s t index is in
        let path = path_of (slice_get s p.before) (slice_get t p.before) p.apart in (
          Different index path.0,
          record {
            s = s;
            t = t;
            left = d;
            right = e;
            streams =
                part_at index path.0 s t (record { before = p.before; number = p.number; agree = p.agree; there = path.1 });
          },
        )

    of_both : (l r : List ℕ) → Judged l → Judged r → (v : Verdict) × IsVerdictOn g k l r v
    unfolding Judged
    of_both l r (inl a) (inl b) = of_streams l r a.0 b.0 a.1 b.1 (parts a.0 b.0) refl
    of_both l r (inl a) (inr b) = (Refused Right b.1, (a, (b.0, b.2)))
    of_both l r (inr a) b = (Refused Left a.1, (a.0, a.2))

    -- two octet strings have a verdict
    pub some_verdict : (l r : List ℕ) → (v : Verdict) × IsVerdictOn g k l r v
    some_verdict l r = of_both l r (judged l) (judged r)

  -- 4. Each of them holds just where it should.
  pub equivalent_both : (l r : List ℕ) (n : ℕ) → SaysEquivalent g k l r n ↔ AreDocuments g k l r (AreEquivalent n)
  equivalent_both l r n = (λ h. (h.s, h.t, h.left, h.right, h.streams), λ h. record { s = h.0; t = h.1; left = h.2; right = h.3; streams = h.4 })

  -- streams are said to part somewhere just where both are documents and their streams part there first
  pub different_both : (l r : List ℕ) (n : ℕ) (path : List Part) → SaysDifferent g k l r n path ↔ AreDocuments g k l r (PartFirst n path)
  different_both l r n path = (
    λ h. (h.s, h.t, h.left, h.right, part_first n path h.s h.t h.streams),
    λ h. record { s = h.0; t = h.1; left = h.2; right = h.3; streams = part_at n path h.0 h.1 h.4 },
  )

  refuses : (u : List ℕ) → Judged u → IsNoDocument g k u → (s : List Value) × (refusal : Refusal) × IsRefused (documents g k) u s refusal
  unfolding Judged
  refuses u (inl d) never = absurd (never d.0 d.1)
  refuses u (inr h) never = h

  -- the left is refused just where it is no document
  pub left_refused : (l r : List ℕ) → RefusesLeft g k l r ↔ IsNoDocument g k l
  left_refused l r = (λ h. h.1.1.none, λ never. let h = refuses l (judged l) never in (h.1, (h.0, h.2)))

  -- the right is refused just where it is no document and the left is one
  pub right_refused : (l r : List ℕ) → RefusesRight g k l r ↔ (IsDocument g k l × IsNoDocument g k r)
  right_refused l r = (λ h. (h.1.0, h.1.1.1.none), λ both. let h = refuses r (judged r) both.1 in (h.1, (both.0, (h.0, h.2))))
