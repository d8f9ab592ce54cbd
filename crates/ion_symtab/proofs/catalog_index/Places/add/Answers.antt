use Rattle.std.proofs.Common.{◌≡◌, ℕ, List, None, Some, refl, ap, sym, ◌∙◌, ◌==◌, cond, subst}
use Rattle.std.specs.BTreeMap.{get_by_text}
use Rattle.std.specs.Str.{bytes_eq}
use Rattle.std.specs.Map.{update}
use Rattle.std.specs.String.{string_bytes}
use Rattle.std.proofs.lemmas.Map.Text.{btree_map_updates_text}
use Rattle.ion_symtab.specs.Names.{newest_among, version_kept}
use Rattle.ion_symtab.proofs.Placing.{newest_stays, noted, on_refusal, placed, places_stay}
use Rattle.ion_symtab.proofs.catalog_index.Places.add.Goals as goal

pub returns-in_err-add-in-Some-clause-places_kept : goal.returns-in_err-add-in-Some-clause-places_kept
returns-in_err-add-in-Some-clause-places_kept c =
    let there : get_by_text c.args.self.now.names c.args.name.now ≡ Some c.in-Some.versions.now = sym c.in-Some.ensures.value in
    on_refusal c.from_residual.result (places_stay c.args.self.now.names (c.get_mut.follows.lender c.add.new.self) c.args.name.now c.add.new.self
    (btree_map_updates_text c.args.name.now c.args.self.now.names (c.get_mut.follows.lender c.add.new.self) (Some c.add.new.self)
    ((c.get_mut.follows.holds c.add.new.self).3 (rw there refl)))
    (λ v. c.in_err-add-in-Some.ensures.places_kept v ∙ ap (λ o. version_kept o v) (sym there)))

pub returns-in_err-add-in-Some-clause-newest_kept : goal.returns-in_err-add-in-Some-clause-newest_kept
returns-in_err-add-in-Some-clause-newest_kept c =
    let there : get_by_text c.args.self.now.names c.args.name.now ≡ Some c.in-Some.versions.now = sym c.in-Some.ensures.value in
    on_refusal c.from_residual.result (newest_stays c.args.self.now.names (c.get_mut.follows.lender c.add.new.self) c.args.name.now c.add.new.self
    (btree_map_updates_text c.args.name.now c.args.self.now.names (c.get_mut.follows.lender c.add.new.self) (Some c.add.new.self)
    ((c.get_mut.follows.holds c.add.new.self).3 (rw there refl)))
    (ap Some c.in_err-add-in-Some.ensures.newest_kept ∙ ap newest_among (sym there)))

pub returns-in_ok-add-in-Some-clause-place : goal.returns-in_ok-add-in-Some-clause-place
returns-in_ok-add-in-Some-clause-place c =
    let there : get_by_text c.args.self.now.names c.args.name.now ≡ Some c.in-Some.versions.now = sym c.in-Some.ensures.value in
    placed c.args.self.now.names (c.get_mut.follows.lender c.add.new.self) c.args.name.now c.add.new.self
    (btree_map_updates_text c.args.name.now c.args.self.now.names (c.get_mut.follows.lender c.add.new.self) (Some c.add.new.self)
    ((c.get_mut.follows.holds c.add.new.self).3 (rw there refl)))
    c.args.version c.args.place (λ v. c.in_ok-add-in-Some.ensures.places v
    ∙ ap (λ o. cond (c.args.version == v) (Some c.args.place) (version_kept o v)) (sym there))

pub returns-in_ok-add-in-Some-clause-newest : goal.returns-in_ok-add-in-Some-clause-newest
returns-in_ok-add-in-Some-clause-newest c =
    let there : get_by_text c.args.self.now.names c.args.name.now ≡ Some c.in-Some.versions.now = sym c.in-Some.ensures.value in
    noted c.args.self.now.names (c.get_mut.follows.lender c.add.new.self) c.args.name.now c.add.new.self
    (btree_map_updates_text c.args.name.now c.args.self.now.names (c.get_mut.follows.lender c.add.new.self) (Some c.add.new.self)
    ((c.get_mut.follows.holds c.add.new.self).3 (rw there refl)))
    c.args.newest c.in_ok-add-in-Some.ensures.newest

pub returns-in_ok-insert-in-None-clause-place : goal.returns-in_ok-insert-in-None-clause-place
returns-in_ok-insert-in-None-clause-place c =
    let named : string_bytes c.in_ok-name-in-None.name ≡ c.args.name.now = c.in_ok-name-in-None.ensures.ok in
    let none : get_by_text c.args.self.now.names c.args.name.now ≡ None = sym c.in-None.ensures.value in
    placed c.args.self.now.names c.insert.new.self c.args.name.now c.in_ok-versions-in-None.versions
    (subst (λ m. (q : List ℕ) → get_by_text c.insert.new.self q ≡ update bytes_eq (get_by_text m) c.args.name.now (Some c.in_ok-versions-in-None.versions) q)
    c.get_mut.follows.holds-at-none
    (subst (λ b. (q : List ℕ) → get_by_text c.insert.new.self q ≡ update bytes_eq (get_by_text c.get_mut.follows.lender-at-none) b
    (Some c.in_ok-versions-in-None.versions) q) named
    (btree_map_updates_text (string_bytes c.in_ok-name-in-None.name) c.get_mut.follows.lender-at-none c.insert.new.self (Some c.in_ok-versions-in-None.versions)
    c.in_ok-insert-in-None.ensures.updates)))
    c.args.version c.args.place (λ v. c.in_ok-versions-in-None.ensures.places v
    ∙ ap (λ o. cond (c.args.version == v) (Some c.args.place) (version_kept o v)) (sym none))

pub returns-in_ok-insert-in-None-clause-newest : goal.returns-in_ok-insert-in-None-clause-newest
returns-in_ok-insert-in-None-clause-newest c =
    let named : string_bytes c.in_ok-name-in-None.name ≡ c.args.name.now = c.in_ok-name-in-None.ensures.ok in
    noted c.args.self.now.names c.insert.new.self c.args.name.now c.in_ok-versions-in-None.versions
    (subst (λ m. (q : List ℕ) → get_by_text c.insert.new.self q ≡ update bytes_eq (get_by_text m) c.args.name.now (Some c.in_ok-versions-in-None.versions) q)
    c.get_mut.follows.holds-at-none
    (subst (λ b. (q : List ℕ) → get_by_text c.insert.new.self q ≡ update bytes_eq (get_by_text c.get_mut.follows.lender-at-none) b
    (Some c.in_ok-versions-in-None.versions) q) named
    (btree_map_updates_text (string_bytes c.in_ok-name-in-None.name) c.get_mut.follows.lender-at-none c.insert.new.self (Some c.in_ok-versions-in-None.versions)
    c.in_ok-insert-in-None.ensures.updates)))
    c.args.newest c.in_ok-versions-in-None.ensures.newest
