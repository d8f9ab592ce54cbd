-- The lines that the program writes, each with its line feed.
use Rattle.std.specs.Prelude.{◌≡◌, ℕ, List, [], ◌∷◌, ◌++◌, codes, decimal, false}
use Rattle.ion_symtab.specs.Took.{Took, TookFront}
use Rattle.ion_symtab.specs.declared.outlet.Outlet.{Ghosts as Outlet}
use Rattle.ion_atoms.specs.declared.refusal.Refusal.{Refusal}
use Rattle.ion_atoms.specs.Reasons.{reason_name}
use Rattle.ion_symtab.specs.declared.fault.Fault.{Fault}
use Rattle.ion_symtab.specs.declared.fault.Fault.TheVariants.{Memory, Read, Write, TooManyReads, TooLarge, Open}
use Rattle.ion_model.specs.declared.path.Part.{Part}
use Rattle.ion_docs.specs.Paths.{path_text}
use Rattle.ion_streams.specs.declared.comparison.Side.TheVariants.{Left, Right}
use Rattle.ion_run.specs.declared.lines.Whose.{Whose}
use Rattle.ion_run.specs.declared.lines.Whose.TheVariants.{Only, Catalog, One}

-- how the program is called
abbrev pub usage_line : List ℕ
usage_line = codes "usage: ion_cmd check|show|convert|compare FILE.. [--to text|binary] [--catalog FILE] [--depth N] [--item N]\n"

-- of a fault
abbrev pub fault_line : Fault → List ℕ
fault_line Memory = codes "fault Memory\n"
fault_line Read = codes "fault Read\n"
fault_line Write = codes "fault Write\n"
fault_line TooManyReads = codes "fault TooManyReads\n"
fault_line TooLarge = codes "fault TooLarge\n"
fault_line Open = codes "fault Open\n"

-- whose document, where there are more than one
abbrev pub whose_word : Whose → List ℕ
whose_word Only = codes ""
whose_word Catalog = codes "catalog "
whose_word (One Left) = codes "left "
whose_word (One Right) = codes "right "

-- of a refused document
abbrev pub refusal_line : Whose → Refusal → List ℕ
refusal_line whose refusal = codes "refused " ++ (whose_word whose ++ (decimal refusal.offset ++ (codes " " ++ (reason_name refusal.reason ++ codes "\n"))))

-- of two documents of so many values, each equivalent to its like
abbrev pub equivalent_line : ℕ → List ℕ
equivalent_line values = codes "equivalent " ++ decimal values ++ codes "\n"

-- a path behind a space; nothing of an empty one
abbrev pub path_behind : List Part → List ℕ
path_behind [] = []
path_behind (part ∷ path) = codes " " ++ path_text (part ∷ path)

-- of two documents that part at this value, counted from 1, and within it at this path
abbrev pub different_line : ℕ → List Part → List ℕ
different_line index path = codes "different " ++ (decimal index ++ (path_behind path ++ codes "\n"))

module _ {T : Type 0} (W : Outlet T) where
  -- between old and new a device took a front of this line, and unless it has failed it took the whole of it and passed it on
  pub record Reports (old new : T) (line : List ℕ) : Type 0 where
    pub front : TookFront W.took W.written old new line
    pub whole : W.has_failed new ≡ false → Took W.took W.written old new line
    pub passed_on : W.has_failed new ≡ false → W.passed new ≡ W.written new
