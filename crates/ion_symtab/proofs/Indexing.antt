-- One table more in a catalog, and in what says where its tables stand.
use Rattle.std.proofs.Common.{if◌then◌else◌, ◌≡◌, ℕ, ◌+◌, List, [], ◌∷◌, ◌++◌, length, Option, None, Some, Bool, true, false, cond, refl, ap, sym, subst, ◌∙◌, ◌&&◌, ◌==◌, arith}
use Rattle.std.specs.Prelude.{nat_le}
use Rattle.std.specs.Str.{bytes_eq}
use Rattle.std.proofs.lemmas.Bool.{and_parts, eqb-true}
use Rattle.std.proofs.lemmas.Slice.Eq.{bytes_eq-Decides}
use Rattle.std.proofs.lemmas.Option.{slice_get_within}
use Rattle.ion_symtab.specs.Names.{Indexes, IsPlaceOf, Places, Table, find, newer, newest, newest_of, newest_place, otherwise, place_of}
use Rattle.ion_symtab.specs.laws.Tables.{find_more}
use Rattle.ion_symtab.specs.laws.Contexts.{slice_get-append_left}
use Rattle.ion_symtab.proofs.Systems.{slice_get-append_right}

newer_associates : (t : Table) (o : Option Table) (u : Table) → newer (Some t) (newer o (Some u)) ≡ newer (newer (Some t) o) (Some u)
newer_associates t None u = refl
newer_associates t (Some v) u = grind arith

newest_either : (b : Bool) (u : Table) (o : Option Table) (t : Table) → (if b then newer (Some u) (newer o (Some t)) else newer o (Some t))
    ≡ newer (if b then newer (Some u) o else o) (Some t)
newest_either true u o t = newer_associates u o t
newest_either false u o t = refl

-- the newest table of a name with one more of that name
newest_more : (ts : List Table) (t : Table) (name : List ℕ) → bytes_eq t.name name ≡ true → newest (ts ++ t ∷ []) name ≡ newer (newest ts name) (Some t)
newest_more [] t name e = rw e refl
newest_more (u ∷ ts) t name e = rw (newest_more ts t name e) (newest_either (bytes_eq u.name name) u (newest ts name) t)

-- or of another name
newest_same : (ts : List Table) (t : Table) (name : List ℕ) → bytes_eq t.name name ≡ false → newest (ts ++ t ∷ []) name ≡ newest ts name
newest_same [] t name e = rw e refl
newest_same (u ∷ ts) t name e = rw (newest_same ts t name e) refl

-- a place shows the same table with more tables behind
shows_more : (ts us : List Table) (place : Option ℕ) (found : Option Table) → IsPlaceOf ts place found → IsPlaceOf (ts ++ us) place found
shows_more ts us None found s = record { table = s.table; there = s.there }
shows_more ts us (Some k) None s = let e = s.there refl in absurd (cc)
shows_more ts us (Some k) (Some t) s = record {
  table = slice_get-append_left ts us k (slice_get_within ts k t s.table) ∙ s.table;
  there = λ h. refl;
}

-- the last place shows the last table
shows_last : (ts : List Table) (t : Table) → IsPlaceOf (ts ++ t ∷ []) (Some (length ts)) (Some t)
shows_last ts t = record {
  table = let e : length ts ≡ length ts + 0 = omega arith in slice_get-append_right ts (t ∷ []) (length ts) 0 e;
  there = λ h. refl;
}

shows_if : (ts : List Table) (t best : Table) (k : ℕ) (b : Bool) → IsPlaceOf ts (Some k) (Some best) →
    IsPlaceOf (ts ++ t ∷ []) (Some (if b then k else length ts)) (if b then Some best else Some t)
shows_if ts t best k true s = shows_more ts (t ∷ []) (Some k) (Some best) s
shows_if ts t best k false s = shows_last ts t

-- the place that is noted shows the newest
shows_newest : (ts : List Table) (t : Table) (so_far : Option ℕ) (best : Option Table) → IsPlaceOf ts so_far best →
    IsPlaceOf (ts ++ t ∷ []) (Some (newest_place so_far best t (length ts))) (newer best (Some t))
shows_newest ts t None None s = shows_last ts t
shows_newest ts t None (Some best) s = let e = s.table in absurd (cc)
shows_newest ts t (Some k) None s = let e = s.there refl in absurd (cc)
shows_newest ts t (Some k) (Some best) s = shows_if ts t best k (nat_le t.version best.version) s

module _ (ts : List Table) (t : Table) (old new : Places) (indexes : Indexes ts old) (absent : find ts t.name t.version ≡ None) where
  exact_at : (q : List ℕ) (v : ℕ) (b : Bool) → (bytes_eq t.name q && (t.version == v)) ≡ b →
      IsPlaceOf (ts ++ t ∷ []) (cond b (Some (length ts)) (place_of old q v)) (otherwise (find ts q v) (if b then Some t else None))
  exact_at q v true e =
      let p = and_parts (bytes_eq t.name q) (t.version == v) e in
      let n : t.name ≡ q = (bytes_eq-Decides t.name q).0 p.0 in
      let w : t.version ≡ v = eqb-true _ _ p.1 in
      let none : find ts q v ≡ None = ap (λ x. find ts x v) (sym n) ∙ ap (find ts t.name) (sym w) ∙ absent in
      rw none (shows_last ts t)
  exact_at q v false e = subst (IsPlaceOf (ts ++ t ∷ []) (place_of old q v)) (same (find ts q v))
      (shows_more ts (t ∷ []) (place_of old q v) (find ts q v) (indexes.exact q v))
    where
      same : (o : Option Table) → o ≡ otherwise o None
      same None = refl
      same (Some u) = refl

  newest_by : (q : List ℕ) (b : Bool) → bytes_eq t.name q ≡ b →
      IsPlaceOf (ts ++ t ∷ []) (cond b (Some (newest_place (newest_of old t.name) (newest ts t.name) t (length ts))) (newest_of old q))
      (newest (ts ++ t ∷ []) q)
  newest_by q true e =
      let n : t.name ≡ q = (bytes_eq-Decides t.name q).0 e in
      rw (newest_more ts t q e) (subst (λ x. IsPlaceOf (ts ++ t ∷ []) (Some (newest_place (newest_of old t.name) (newest ts t.name) t (length ts)))
      (newer (newest ts x) (Some t))) n
      (shows_newest ts t (newest_of old t.name) (newest ts t.name) (indexes.newest t.name)))
  newest_by q false e = rw (newest_same ts t q e) (shows_more ts (t ∷ []) (newest_of old q) (newest ts q) (indexes.newest q))

  -- places with one more table's noted are those of the catalog with that table behind
  pub indexes_more : ((q : List ℕ) (v : ℕ) → place_of new q v ≡ cond (bytes_eq t.name q && (t.version == v)) (Some (length ts)) (place_of old q v)) →
      ((q : List ℕ) → newest_of new q ≡ cond (bytes_eq t.name q) (Some (newest_place (newest_of old t.name) (newest ts t.name) t (length ts)))
      (newest_of old q)) →
      Indexes (ts ++ t ∷ []) new
  indexes_more place noted = record {
    exact = λ q v. rw (place q v, find_more ts t q v) (exact_at q v (bytes_eq t.name q && (t.version == v)) refl);
    newest = λ q. rw (noted q) (newest_by q (bytes_eq t.name q) refl);
  }
