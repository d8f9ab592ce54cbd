-- One table more among the places of a catalog's tables.
use Rattle.std.proofs.Common.{◌≡◌, ℕ, List, Bool, true, false, cond, Option, Some, Result, Ok, Err, OnErr, String, BTreeMap, refl, ap, sym, ◌∙◌, ◌&&◌, ◌==◌}
use Rattle.std.specs.Str.{bytes_eq}
use Rattle.std.specs.Cmp.Lexicographic.{bytes_decides}
use Rattle.std.specs.BTreeMap.{get, get_by_text}
use Rattle.std.specs.Map.{update}
use Rattle.std.specs.Ordering.{nat_cmp}
use Rattle.ion_symtab.specs.Names.{Versions, newest_among, version_kept}

-- the versions of a name have one place more
abbrev HasOneMore : Option Versions → Versions → ℕ → ℕ → Type 0
HasOneMore before after version place = (v : ℕ) → get nat_cmp after.places v ≡ cond (version == v) (Some place) (version_kept before v)

placed_at : (before other : Option Versions) (after : Versions) (version place v : ℕ) (same : Bool) → HasOneMore before after version place
    → (same ≡ true → other ≡ before) →
    version_kept (cond same (Some after) other) v ≡ cond (same && (version == v)) (Some place) (version_kept other v)
placed_at before other after version place v true h s = h v ∙ ap (λ o. cond (version == v) (Some place) (version_kept o v)) (sym (s refl))
placed_at before other after version place v false h s = refl

placed_as : (before other : Option Versions) (after : Versions) (v : ℕ) (same : Bool) → get nat_cmp after.places v ≡ version_kept before v
    → (same ≡ true → other ≡ before) →
    version_kept (cond same (Some after) other) v ≡ version_kept other v
placed_as before other after v true h s = h ∙ ap (λ o. version_kept o v) (sym (s refl))
placed_as before other after v false h s = refl

newest_as : (before other : Option Versions) (after : Versions) (same : Bool) → Some after.newest ≡ newest_among before → (same ≡ true → other ≡ before) →
    newest_among (cond same (Some after) other) ≡ newest_among other
newest_as before other after true h s = h ∙ ap newest_among (sym (s refl))
newest_as before other after false h s = refl

newest_at : (other : Option Versions) (after : Versions) (newest : ℕ) (same : Bool) → after.newest ≡ newest → newest_among (cond same (Some after) other)
    ≡ cond same (Some newest) (newest_among other)
newest_at other after newest true e = ap Some e
newest_at other after newest false e = refl

module _ {Y : Type 0} (old new : BTreeMap (String Y) Versions) (name : List ℕ) (after : Versions)
    (updates : (q : List ℕ) → get_by_text new q ≡ update bytes_eq (get_by_text old) name (Some after) q) where
  same_name : (q : List ℕ) → bytes_eq name q ≡ true → get_by_text old q ≡ get_by_text old name
  same_name q e = ap (get_by_text old) (sym ((bytes_decides name q).0 e))

  -- a place that is noted for a version of a name is found there, and all others are found as before
  pub placed : (version place : ℕ) → HasOneMore (get_by_text old name) after version place → (q : List ℕ) (v : ℕ) →
      version_kept (get_by_text new q) v ≡ cond (bytes_eq name q && (version == v)) (Some place) (version_kept (get_by_text old q) v)
  placed version place h q v = ap (λ o. version_kept o v) (updates q) ∙ placed_at _ _ after version place v _ h (same_name q)

  -- where the versions of one name keep their places, those of all names do
  pub places_stay : ((v : ℕ) → get nat_cmp after.places v ≡ version_kept (get_by_text old name) v) → (q : List ℕ) (v : ℕ) →
      version_kept (get_by_text new q) v ≡ version_kept (get_by_text old q) v
  places_stay h q v = ap (λ o. version_kept o v) (updates q) ∙ placed_as _ _ after v _ (h v) (same_name q)

  -- where one name keeps the place of its newest version, all names do
  pub newest_stays : Some after.newest ≡ newest_among (get_by_text old name) → (q : List ℕ) → newest_among (get_by_text new q)
      ≡ newest_among (get_by_text old q)
  newest_stays h q = ap newest_among (updates q) ∙ newest_as (get_by_text old name) (get_by_text old q) after (bytes_eq name q) h (same_name q)

  -- the newest place that is noted for a name is that of the name, and others keep theirs
  pub noted : (newest : ℕ) → after.newest ≡ newest → (q : List ℕ) → newest_among (get_by_text new q)
      ≡ cond (bytes_eq name q) (Some newest) (newest_among (get_by_text old q))
  noted newest e q = ap newest_among (updates q) ∙ newest_at (get_by_text old q) after newest (bytes_eq name q) e

-- what holds anyway holds on a refusal
pub on_refusal : {T E P : Type 0} (r : Result T E) → P → OnErr r P
on_refusal (Ok x) p = record {}
on_refusal (Err e) p = p
