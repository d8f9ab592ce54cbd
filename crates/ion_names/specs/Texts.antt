-- The texts of the symbols that have ids.
use Rattle.std.specs.Prelude.{ℕ, List, [], Option, None, Some}
use Rattle.std.specs.Hash as fed
use Rattle.std.specs.Hash.{HashWrites}
use Rattle.std.specs.String.{string_bytes}
use Rattle.ion_names.specs.declared.name.Text.{Text}
use Rattle.ion_names.specs.declared.name.Text.TheVariants as texts

-- the text that is kept there
abbrev pub text_in : Text → Option (List ℕ)
text_in texts.Unknown = None
text_in (texts.Short text) = Some text.bytes
text_in (texts.Long text) = Some (string_bytes text)

-- what a symbol feeds the hasher by which it is found: its text, and nothing where that is unknown
abbrev pub name_fed : Option (List ℕ) → HashWrites
name_fed None = []
name_fed (Some text) = fed.str text
