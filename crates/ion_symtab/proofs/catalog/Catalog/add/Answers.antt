use Rattle.std.proofs.Common.{◌≡◌, None, Some, [], ◌∷◌, ◌++◌, ◌&&◌, ◌==◌, inl, inr, cond, length, ℕ, List, Bool, true, false, Option, Bor, is_some, option_copied, refl, sym, subst, arith, rules}
use Rattle.std.specs.Str.{bytes_eq}
use Rattle.std.specs.Option.{IsSome}
use Rattle.ion_symtab.specs.Names.{AreApart, Indexes, Places, Table, find, newest, newest_of, newest_place, place_of}
use Rattle.ion_symtab.specs.laws.Tables.{apart_more}
use Rattle.ion_symtab.proofs.Indexing.{indexes_more}
use Rattle.ion_symtab.proofs.catalog.Catalog.add.Goals as goal

-- what a search finds, where a test says that it finds nothing
none_found : (found : Option (Bor Table)) (test : Bool) (wanted : Option Table) → test ≡ is_some found → test ≡ false → option_copied found ≡ wanted
    → wanted ≡ None
none_found None test wanted is fails same = sym same
none_found (Some table) test wanted is fails same = absurd (cc)

-- or something
some_found : (found : Option (Bor Table)) (test : Bool) (wanted : Option Table) → test ≡ is_some found → test ≡ true → option_copied found ≡ wanted
    → IsSome wanted
some_found None test wanted is holds same = absurd (cc)
some_found (Some table) test wanted is holds same = subst (λ (o : Option Table). IsSome o) same refl

-- places that show what others show index the same tables
indexes_kept : (ts : List Table) (old new : Places) → ((q : List ℕ) (v : ℕ) → place_of new q v ≡ place_of old q v) →
    ((q : List ℕ) → newest_of new q ≡ newest_of old q) → Indexes ts old → Indexes ts new
indexes_kept ts old new places newest is = record {
  exact = λ q v. rw (places q v) (is.exact q v);
  newest = λ q. rw (newest q) (is.newest q);
}

pub returns-then-is_some-clause-refused : goal.returns-then-is_some-clause-refused
returns-then-is_some-clause-refused c =
    inr (refl, some_found c.find.result c.is_some.result _ c.is_some.ensures c.if-is_some.true (rw (c.name.ensures, c.version.ensures) at c.find.ensures))

pub returns-then-is_err-clause-refused : goal.returns-then-is_err-clause-refused
returns-then-is_err-clause-refused c =
    inl (refl, none_found c.find.result c.is_some.result _ c.is_some.ensures c.if-is_some.false (rw (c.name.ensures, c.version.ensures) at c.find.ensures))

pub returns-in-Err-clause-refused : goal.returns-in-Err-clause-refused
returns-in-Err-clause-refused c =
    inl (
      c.in-Err.ensures.memory,
      none_found c.find.result c.is_some.result _ c.is_some.ensures c.if-is_some.false (rw (c.name.ensures, c.version.ensures) at c.find.ensures),
    )

pub invariant_of-self-in-Err : goal.invariant_of-self-in-Err
invariant_of-self-in-Err c =
    let kept = indexes_kept c.self.inside.tables.items c.self.inside.places c.add.new.self c.in-Err.ensures.places_kept c.in-Err.ensures.newest_kept
    c.self.invariant.0 in
    subst (λ items. Indexes items c.add.new.self × AreApart items) (sym c.reserve.ensures.items) (kept, c.self.invariant.1)

pub invariant_of-self-in-Ok : goal.invariant_of-self-in-Ok
invariant_of-self-in-Ok c =
    let more : c.push.new.self.items ≡ c.self.inside.tables.items ++ c.args.table ∷ [] = search rules in
    let absent : find c.self.inside.tables.items c.args.table.name c.args.table.version ≡ None = rw c.self.view_is (none_found
    c.find.result c.is_some.result _ c.is_some.ensures c.if-is_some.false (rw (c.name.ensures, c.version.ensures) at c.find.ensures)) in
    let count : c.len-place.result ≡ length c.self.inside.tables.items = omega (arith, c.len-place.ensures, c.self.inside.tables.ok.0) in
    let place : (q : List ℕ) (v : ℕ) → place_of c.add.new.self q v ≡ cond (bytes_eq c.args.table.name q && (c.args.table.version == v))
    (Some (length c.self.inside.tables.items)) (place_of c.self.inside.places q v) =
    λ q v. rw (c.name-2.ensures, c.version-version.ensures, count) at (c.in-Ok.ensures.place q v) in
    let noted : (q : List ℕ) → newest_of c.add.new.self q ≡ cond (bytes_eq c.args.table.name q)
    (Some (newest_place (newest_of c.self.inside.places c.args.table.name) (newest c.self.inside.tables.items c.args.table.name) c.args.table
    (length c.self.inside.tables.items))) (newest_of c.self.inside.places q) = λ q. cc (c.in-Ok.ensures.newest q) in
    subst (λ items. Indexes items c.add.new.self × AreApart items) (sym more) (
      indexes_more c.self.inside.tables.items c.args.table c.self.inside.places c.add.new.self c.self.invariant.0 absent place noted,
      apart_more c.self.inside.tables.items c.args.table c.self.invariant.1 absent,
    )
