-- The arguments of a process, as the runtime gives them: all of them, or why it gives none.
use Rattle.std.specs.Prelude.{ℕ, List, map, drop, string_bytes}
use Rattle.std.specs.Vec.Iter.{into_iter_items}
use Rattle.std.specs.declared.alloc.Global.{Global}
use Rattle.std.specs.declared.io.Error.{Error}
use Rattle.std.specs.declared.io.ErrorKind.{ErrorKind}
use Rattle.std.specs.declared.io.ErrorKind.TheVariants.{OutOfMemory}
use Rattle.std.specs.declared.string.String.{String}
use Rattle.std.specs.declared.vec.IntoIter.{IntoIter}
use Rattle.std.specs.IoError.{error_kind}
use Rattle.ion_words.specs.declared.request.WordsError.{WordsError}
use Rattle.ion_words.specs.declared.request.WordsError.TheVariants.{Usage, Memory}

-- the arguments of the process, the program's name first
abbrev pub Arguments : Type 0
Arguments = IntoIter (String Global) Global

-- the first argument is the program's name, and those behind it are the words
abbrev pub words_of : Arguments → List (List ℕ)
words_of arguments = map string_bytes (drop 1 (into_iter_items arguments))

-- there is no memory for the arguments; any other reason is that one of them is no text, and so no word
abbrev pub no_words_by : ErrorKind → WordsError
no_words_by OutOfMemory = Memory
no_words_by _ = Usage

-- why there are no words where the runtime gives no arguments
abbrev pub no_words : Error → WordsError
no_words why = no_words_by (error_kind why)
