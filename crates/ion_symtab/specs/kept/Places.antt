-- Where the tables of a catalog stand, by name and version.
use Rattle.std.specs.Prelude.{if◌then◌else◌, ◌≡◌, ℕ, List, Option, None, Some, IsSome, slice_get, nat_le}
use Rattle.std.specs.BTreeMap.{get, get_by_text}
use Rattle.std.specs.Ordering.{nat_cmp}
use Rattle.ion_symtab.specs.Names.Below.{Places, Versions}
use Rattle.ion_symtab.specs.Tables.{Table, find, newest}

-- the place of a version among those of a name
abbrev pub version_kept : Option Versions → ℕ → Option ℕ
version_kept None version = None
version_kept (Some versions) version = get nat_cmp versions.places version

-- the place of the newest among the versions of a name
abbrev pub newest_among : Option Versions → Option ℕ
newest_among None = None
newest_among (Some versions) = Some versions.newest

-- the place of the table of this name and version
abbrev pub place_of : Places → List ℕ → ℕ → Option ℕ
place_of places name version = version_kept (get_by_text places.names name) version

-- the place of the newest table of this name
abbrev pub newest_of : Places → List ℕ → Option ℕ
newest_of places name = newest_among (get_by_text places.names name)

-- the table at a place
abbrev pub table_at : List Table → Option ℕ → Option Table
table_at tables None = None
table_at tables (Some place) = slice_get tables place

-- the place of the newest table of a name behind one more of that name, which stands at `place`
abbrev pub newest_place : Option ℕ → Option Table → Table → ℕ → ℕ
newest_place (Some so_far) (Some best) table place = if nat_le table.version best.version then so_far else place
newest_place _ _ table place = place

-- the place is that of this table: where there is a place, a table stands there
pub record IsPlaceOf (tables : List Table) (place : Option ℕ) (found : Option Table) : Type 0 where
  pub table : table_at tables place ≡ found
  pub there : IsSome place → IsSome found

-- by the places just the tables are found that are there
pub record Indexes (tables : List Table) (places : Places) : Type 0 where
  pub exact : (name : List ℕ) (version : ℕ) → IsPlaceOf tables (place_of places name version) (find tables name version)
  pub newest : (name : List ℕ) → IsPlaceOf tables (newest_of places name) (newest tables name)
