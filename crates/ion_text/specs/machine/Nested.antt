-- The marks that open a container and those that close one, and where they stand at the front of octets.
use Rattle.std.specs.Prelude.{◌≡◌, ◌≢◌, ℕ, Bool, true, false, List, ◌∷◌, slice_index}
use Rattle.ion_text.specs.Names.Below.{Bracket, Frame, ListOrSexp, Mark, Stage}

-- what stands around items
abbrev pub bracket_in : ListOrSexp → Bracket
bracket_in ListOrSexp.List = Bracket.List
bracket_in ListOrSexp.Sexp = Bracket.Sexp

-- the marks of a container
abbrev pub open_mark : Bracket → Mark
open_mark Bracket.List = Mark.ListOpen
open_mark Bracket.Sexp = Mark.SexpOpen
open_mark Bracket.Fields = Mark.FieldsOpen

-- the mark that closes a container
abbrev pub close_mark : Bracket → Mark
close_mark Bracket.List = Mark.ListClose
close_mark Bracket.Sexp = Mark.SexpClose
close_mark Bracket.Fields = Mark.FieldsClose

-- octets begin with what opens such a container, and `{` is none of a lob's `{{`
abbrev pub OpensAt : List ℕ → Bracket → Type 0
OpensAt octets Bracket.List = slice_index octets 0 ≡ 91
OpensAt octets Bracket.Sexp = slice_index octets 0 ≡ 40
OpensAt octets Bracket.Fields = (slice_index octets 0 ≡ 123) × (slice_index octets 1 ≢ 123)

-- the octet of a close
abbrev pub close_octet : Bracket → ℕ
close_octet Bracket.List = 93
close_octet Bracket.Sexp = 41
close_octet Bracket.Fields = 125

-- the close of such a container is that of the innermost one, and may come now
abbrev pub closes : Bracket → List Frame → Stage → Bool
closes Bracket.List (Frame.Items ListOrSexp.List ss vs ∷ fs) Stage.Ready = true
closes Bracket.List (Frame.Items ListOrSexp.List ss vs ∷ fs) Stage.After = true
closes Bracket.Sexp (Frame.Items ListOrSexp.Sexp ss vs ∷ fs) Stage.Ready = true
closes Bracket.Fields (Frame.Fields ss ms ∷ fs) Stage.Name = true
closes Bracket.Fields (Frame.Fields ss ms ∷ fs) Stage.After = true
closes _ _ _ = false
