-- What octets are loaded as, and what is found in it.
use Rattle.std.proofs.Common.{◌≡◌, ◌↔◌, ◌<◌, ℕ, zero, suc, List, [], ◌∷◌, ◌++◌, map, length, get_or, refl, ap, sym, subst, ◌∙◌, arith, Bool, true, false, Option, Some, None, option_to_list, Result, Ok, Err, inl, inr, if◌then◌else◌, append_assoc}
use Rattle.std.specs.List.{Contains}
use Rattle.std.proofs.lemmas.Bool.{and_from, eq-eqb}
use Rattle.std.proofs.lemmas.Slice.Eq.{bytes_eq-Decides}
use Rattle.std.proofs.lemmas.List.{map-append}
use Rattle.std.proofs.lemmas.List.Elements.{Contains-append_right}
use Rattle.ion_docs.specs.Names.{AreApart, Denotes, DescribesUnder, Format, IsCatalog, IsDocumentOf, Limits, OpenAfter, Refusal, Streams, Table, Trace, Value, catalog_of, chosen, documents, find, given_all, given_at, given_last, is_named, plain, shared_table}
use Rattle.ion_symtab.specs.laws.Tables.{find_is}
use Rattle.ion_streams.proofs.Endings.{refused_late}
use Rattle.ion_docs.specs.laws.Documents.{promised}
use Rattle.ion_docs.proofs.Described.{described_each, describes_each}
use Rattle.ion_docs.proofs.Verdicts.{one_refusal}

-- 1. Octets are loaded as one thing.
module _ (F : Format) where
  -- what octets are as a catalog is one answer
  pub one_answer : (octets : List ℕ) (p q : Result (List Table) Refusal) → IsCatalog F octets p → IsCatalog F octets q → p ≡ q
  one_answer octets (Ok t) (Ok u) a b =
      let first : catalog_of [] (given_all F octets) ≡ Ok t = ap (λ x. catalog_of [] x) a.document.all ∙ a.described in
      let second : catalog_of [] (given_all F octets) ≡ Ok u = ap (λ x. catalog_of [] x) b.document.all ∙ b.described in
      sym first ∙ second
  one_answer octets (Ok t) (Err q) a (inl e) = let first = ap (λ x. catalog_of [] x) a.document.all ∙ a.described in absurd cc
  one_answer octets (Ok t) (Err q) a (inr none) = absurd (none.refused.none (plain a.given) a.document.denoted)
  one_answer octets (Err p) (Ok u) (inl e) b = let second = ap (λ x. catalog_of [] x) b.document.all ∙ b.described in absurd cc
  one_answer octets (Err p) (Ok u) (inr none) b = absurd (none.refused.none (plain b.given) b.document.denoted)
  one_answer octets (Err p) (Err q) (inl d) (inl e) = sym d ∙ e
  one_answer octets (Err p) (Err q) (inl d) (inr none) = let described = none.described in absurd cc
  one_answer octets (Err p) (Err q) (inr none) (inl e) = let described = none.described in absurd cc
  one_answer octets (Err p) (Err q) (inr a) (inr b) = let same : p ≡ q = one_refusal (F.trace octets) p q a.refused.by_octets b.refused.by_octets in cc

  -- 2. As a catalog exactly where they are a document of tables.
  pub loaded_document : (octets : List ℕ) (tables : List Table) → IsCatalog F octets (Ok tables) → IsDocumentOf F octets tables
  loaded_document octets tables h =
      let each = describes_each h.given tables h.described in
      record { s = plain h.given; denoted = h.document.denoted; each = each.0; apart = each.1 }

  last_value : (last : Option Value) (total : ℕ) → plain (given_at last total) ≡ option_to_list last
  last_value None total = refl
  last_value (Some v) total = refl

  all_values : (t : Trace) (total : ℕ) (s : List Value) → Streams t s → plain (t.given ++ given_last t.ends total) ≡ s
  all_values t total s h =
      ap (λ x. plain (t.given ++ given_last x total)) h.ends ∙ (map-append (λ (x : Value × ℕ). x.0) t.given (given_at h.last total) ∙
      (ap (λ x. plain t.given ++ x) (last_value h.last total) ∙ sym h.values))

  -- a document whose values describe tables is the catalog of these tables
  pub document_of_tables : (octets : List ℕ) (tables : List Table) → ((s : List Value) → F.denotes octets s → Streams (F.trace octets) s)
      → IsDocumentOf F octets tables → IsCatalog F octets (Ok tables)
  document_of_tables octets tables exact h =
      let all = all_values (F.trace octets) (length octets) h.s (exact h.s h.denoted) in
      record {
        given = given_all F octets;
        document = record { denoted = subst (λ (x : List Value). F.denotes octets x) (sym all) h.denoted; all = refl };
        described = described_each (given_all F octets) tables (subst (λ (x : List Value). map shared_table x ≡ map Ok tables) (sym all) h.each) h.apart;
      }

-- 3. And all octets are loaded as something.
module _ (l : Limits) where
  abbrev Loads : List ℕ → Type 0
  Loads octets = (answer : Result (List Table) Refusal) × IsCatalog (documents [] l) octets answer

  -- whose values all describe tables: by what the end answers
  by_end : (octets : List ℕ) (tables : List Table) → catalog_of [] (given_all (documents [] l) octets) ≡ Ok tables → (ends : Result (Option Value) Refusal)
      → (chosen [] l octets).ends ≡ ends → Loads octets
  by_end octets tables described (Ok last) is =
      let t = chosen [] l octets in
      let streams : Streams t (plain t.given ++ option_to_list last) = record { last = last; ends = is; values = refl } in
      let all = all_values (documents [] l) t (length octets) _ streams in
      let denoted = ((promised [] l octets).exact (plain t.given ++ option_to_list last)).0 streams in (
        Ok tables,
        record {
          given = given_all (documents [] l) octets;
          document = record { denoted = subst (λ (x : List Value). Denotes [] l octets x) (sym all) denoted; all = refl };
          described = described;
        },
      )
  by_end octets tables described (Err q) is =
      let h = promised [] l octets in
      let ends = refused_late (documents [] l) (λ u. (promised [] l u).reasons) octets (chosen [] l octets).given q (OpenAfter l) refl is h.refused h.shown
      (h.unfinished q) (λ s. (h.exact s).1) in
      (Err q, inr (record { s = plain (chosen [] l octets).given; refused = ends.refused; tables = tables; described = described }))

  by_values : (octets : List ℕ) (answer : Result (List Table) Refusal) → catalog_of [] (given_all (documents [] l) octets) ≡ answer → Loads octets
  by_values octets (Ok tables) described = by_end octets tables described (chosen [] l octets).ends refl
  by_values octets (Err refusal) described = (Err refusal, inl described)

  -- all octets are something as a catalog: tables, or refused
  pub some_answer : (octets : List ℕ) → Loads octets
  some_answer octets = by_values octets (catalog_of [] (given_all (documents [] l) octets)) refl

-- 4. What is found in it.
past : (named : Bool) (b : Table) (before all after : Option Table) → (if named then Some b else before) ≡ None → (before ≡ None → all ≡ after)
    → (if named then Some b else all) ≡ after
past true b before all after e go = absurd cc
past false b before all after e go = go e

-- behind tables that have none of this name and version
found_behind : (before : List Table) (u : Table) (after : List Table) (name : List ℕ) (version : ℕ) → find before name version ≡ None
    → find (before ++ u ∷ after) name version ≡ find (u ∷ after) name version
found_behind [] u after name version none = refl
found_behind (b ∷ before) u after name version none =
    past (is_named name version b) b (find before name version) (find (before ++ u ∷ after) name version) (find (u ∷ after) name version) none
    (found_behind before u after name version)

found_first : (u : Table) (after : List Table) → find (u ∷ after) u.name u.version ≡ Some u
found_first u after =
    let named : is_named u.name u.version u ≡ true = and_from _ _ ((bytes_eq-Decides u.name u.name).1 refl) (eq-eqb _ _ refl) in
    rw named

-- each of tables that are apart is found under its own name and version
found_apart : (before tables : List Table) → AreApart before tables → (t : Table) (k : ℕ) → k < length tables → get_or tables k t ≡ t
    → find (before ++ tables) t.name t.version ≡ Some t
found_apart before [] apart t k h e = absurd (omega arith)
found_apart before (u ∷ tables) apart t zero h e =
    subst (λ (x : Table). find (before ++ u ∷ tables) x.name x.version ≡ Some x) e (found_behind before u tables u.name u.version apart.0
    ∙ found_first u tables)
found_apart before (u ∷ tables) apart t (suc k) h e =
    subst (λ (x : List Table). find x t.name t.version ≡ Some t) (append_assoc before (u ∷ []) tables)
    (found_apart (before ++ u ∷ []) tables apart.1 t k (omega arith) e)

-- each table is one that a value describes
value_of_table : (s : List Value) (tables : List Table) → map shared_table s ≡ map Ok tables → (t : Table) (k : ℕ) → k < length tables → get_or tables k t ≡ t
    → (v : Value) × Contains s v × (shared_table v ≡ Ok t)
value_of_table [] [] each t k h e = absurd (omega arith)
value_of_table (v ∷ s) (u ∷ tables) each t zero h e = let same : u ≡ t = e in let first : shared_table v ≡ Ok t = cc in (v, (0, omega arith, refl), first)
value_of_table (v ∷ s) (u ∷ tables) each t (suc k) h e =
    let rest : map shared_table s ≡ map Ok tables = cc in
    let found = value_of_table s tables rest t k (omega arith) e in
    (found.0, Contains-append_right (v ∷ []) s found.0 found.1, found.2)
value_of_table _ _ each t k h e = absurd cc

-- and what a value describes is one of the tables
table_of_value : (s : List Value) (tables : List Table) → map shared_table s ≡ map Ok tables → (v : Value) (k : ℕ) → k < length s → get_or s k v ≡ v
    → (t : Table) → shared_table v ≡ Ok t → Contains tables t
table_of_value [] tables each v k h e t d = absurd (omega arith)
table_of_value (w ∷ s) [] each v k h e t d = absurd cc
table_of_value (w ∷ s) (u ∷ tables) each v zero h e t d =
    let first : shared_table w ≡ Ok u = cc in
    let value : w ≡ v = e in
    let same : u ≡ t = cc in
    (0, omega arith, same)
table_of_value (w ∷ s) (u ∷ tables) each v (suc k) h e t d =
    let rest : map shared_table s ≡ map Ok tables = cc in
    Contains-append_right (u ∷ []) tables t (table_of_value s tables rest v k (omega arith) e t d)

none_of : (o : Option Table) → ((t : Table) → o ≡ Some t → ⊥) → o ≡ None
none_of None never = refl
none_of (Some t) never = absurd (never t refl)

module _ (s : List Value) (tables : List Table) (each : map shared_table s ≡ map Ok tables) (apart : AreApart [] tables) (name : List ℕ) (version : ℕ) where
  finds_one : (t : Table) → find tables name version ≡ Some t → DescribesUnder s name version t
  finds_one t e =
      let is = find_is tables name version t e in
      let value = value_of_table s tables each t is.0.0 is.0.1 is.0.2 in
      (value.0, value.1, value.2, is.1, is.2)

  finds_it : (t : Table) → DescribesUnder s name version t → find tables name version ≡ Some t
  finds_it t d =
      let c = table_of_value s tables each d.0 d.1.0 d.1.1 d.1.2 t d.2 in
      let found = found_apart [] tables apart t c.0 c.1 c.2 in
      ap (λ x. find tables x version) (sym d.3) ∙ (ap (λ n. find tables t.name n) (sym d.4) ∙ found)

  -- what is found by a name and version is the table that a value describes under them
  pub finds : (t : Table) → find tables name version ≡ Some t ↔ DescribesUnder s name version t
  finds t = (finds_one t, finds_it t)

  -- where no value describes a table under a name and version, none is found
  pub finds_none : ((t : Table) → DescribesUnder s name version t → ⊥) → find tables name version ≡ None
  finds_none never = none_of (find tables name version) (λ t e. never t (finds_one t e))
