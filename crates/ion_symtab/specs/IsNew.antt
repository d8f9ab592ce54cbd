-- A reader of documents before its first octet.
use Rattle.std.specs.Prelude.{◌≡◌, [], None}
use Rattle.ion_symtab.specs.declared.catalog.Catalog.{Catalog}
use Rattle.ion_symtab.specs.declared.limits.Limits.{Limits}
use Rattle.ion_symtab.specs.declared.items.Items.{Ghosts}

-- The reader stands for no octets under this catalog and within these limits: it used none and refused none, awaits none and owes no value.
pub record IsNew {X : Type 0} (I : Ghosts X) (g : Catalog) (l : Limits) (reader : X) : Type 0 where
  pub stands : I.stands reader [] []
  pub catalog : I.catalog reader ≡ g
  pub limits : I.limits reader ≡ l
  pub taken : I.taken reader ≡ 0
  pub failed : I.failed reader ≡ None
  pub awaits : I.awaits reader ≡ None
  pub pending : I.pending reader ≡ 0
