-- What is written of words that ask for nothing.
use Rattle.std.specs.Prelude.{ℕ, List, codes}
use Rattle.ion_words.specs.declared.request.WordsError.{WordsError}

-- the name of the error: `Usage` or `Memory`
abbrev pub error_name : WordsError → List ℕ
error_name WordsError.Usage = codes "Usage"
error_name WordsError.Memory = codes "Memory"
