-- The tables that values describe.
use Rattle.std.proofs.Common.{◌≡◌, ℕ, List, [], ◌∷◌, ◌++◌, map, refl, ap, sym, subst, ◌∙◌, Option, Some, None, is_some, Result, Ok, Err, if◌then◌else◌, append_assoc, append-nil}
use Rattle.ion_docs.specs.Names.{AreApart, DuplicateTable, Table, Value, added, catalog_of, find, plain, shared_table, then_at, with_table}
use Rattle.ion_atoms.specs.declared.refusal.Reason.{Reason}
use Rattle.ion_symtab.specs.Next.{and_then}

-- a table that was added, and what it was added to
record Added (before : List Table) (v : Value) (more : List Table) : Type 0 where
  table : Table
  described : shared_table v ≡ Ok table
  apart : find before table.name table.version ≡ None
  all : more ≡ before ++ table ∷ []

added_to : (before : List Table) (v : Value) (t : Table) (o : Option Table) (more : List Table) → find before t.name t.version ≡ o → shared_table v ≡ Ok t
    → (if is_some o then Err DuplicateTable else Ok (before ++ t ∷ [])) ≡ Ok more → Added before v more
added_to before v t None more f d e = let all : more ≡ before ++ t ∷ [] = cc in record { table = t; described = d; apart = f; all = all }
added_to before v t (Some u) more f d e = absurd cc

added_by : (before : List Table) (v : Value) (r : Result Table Reason) (more : List Table) → shared_table v ≡ r → and_then r (with_table before) ≡ Ok more
    → Added before v more
added_by before v (Ok t) more d e = added_to before v t (find before t.name t.version) more refl d e
added_by before v (Err reason) more d e = absurd cc

-- the tables that values describe behind others
record Describes (before : List Table) (given : List (Value × ℕ)) (all : List Table) : Type 0 where
  tables : List Table
  behind : all ≡ before ++ tables
  each : map shared_table (plain given) ≡ map Ok tables
  apart : AreApart before tables

describes_more : (r : Result (List Table) Reason) (before : List Table) (v : Value) (total : ℕ) (given : List (Value × ℕ)) (all : List Table)
    → added before v ≡ r →
    ((more : List Table) → catalog_of more given ≡ Ok all → Describes more given all) → then_at total r (λ more. catalog_of more given) ≡ Ok all
    → Describes before ((v, total) ∷ given) all
describes_more (Err reason) before v total given all a go e = absurd cc
describes_more (Ok more) before v total given all a go e =
    let d = go more e in
    let h = added_by before v (shared_table v) more refl a in
    record {
      tables = h.table ∷ d.tables;
      behind = d.behind ∙ (ap (λ x. x ++ d.tables) h.all ∙ append_assoc before (h.table ∷ []) d.tables);
      each = ap (λ x. x ∷ map shared_table (plain given)) h.described ∙ ap (λ x. Ok h.table ∷ x) d.each;
      apart = (h.apart, subst (λ (x : List Table). AreApart x d.tables) h.all d.apart);
    }

describes : (given : List (Value × ℕ)) (before all : List Table) → catalog_of before given ≡ Ok all → Describes before given all
describes [] before all e = let same : all ≡ before = cc in record { tables = []; behind = same ∙ sym (append-nil before); each = refl; apart = tt }
describes (x ∷ given) before all e = describes_more (added before x.0) before x.0 x.1 given all refl (λ more. describes given more all) e

-- a catalog's tables are those that the values describe, and no name and version comes twice
pub describes_each : (given : List (Value × ℕ)) (tables : List Table) → catalog_of [] given ≡ Ok tables → (map shared_table (plain given) ≡ map Ok tables)
    × AreApart [] tables
describes_each given tables e =
    let d = describes given [] tables e in (
      subst (λ (x : List Table). map shared_table (plain given) ≡ map Ok x) (sym d.behind) d.each,
      subst (λ (x : List Table). AreApart [] x) (sym d.behind) d.apart,
    )

-- and the other way round
catalogued : (given : List (Value × ℕ)) (before tables : List Table) → map shared_table (plain given) ≡ map Ok tables → AreApart before tables
    → catalog_of before given ≡ Ok (before ++ tables)
catalogued [] before [] e apart = ap Ok (sym (append-nil before))
catalogued (x ∷ given) before (t ∷ tables) e apart =
    let first : shared_table x.0 ≡ Ok t = cc in
    let rest : map shared_table (plain given) ≡ map Ok tables = cc in
    let one : added before x.0 ≡ Ok (before ++ t ∷ []) =
    ap (λ r. and_then r (with_table before)) first ∙ ap (λ o. if is_some o then Err DuplicateTable else Ok (before ++ t ∷ [])) apart.0 in
    ap (λ r. then_at x.1 r (λ more. catalog_of more given)) one
    ∙ (catalogued given (before ++ t ∷ []) tables rest apart.1 ∙ ap Ok (append_assoc before (t ∷ []) tables))
catalogued _ before _ e apart = absurd cc

-- tables that the values describe are their catalog, where no name and version comes twice
pub described_each : (given : List (Value × ℕ)) (tables : List Table) → map shared_table (plain given) ≡ map Ok tables → AreApart [] tables
    → catalog_of [] given ≡ Ok tables
described_each given tables = catalogued given [] tables
