-- What the words of the command line ask for.
use Rattle.std.specs.Prelude.{⊤, ◌≡◌, ◌≢◌, ◌^◌, ◌&&◌, ℕ, Bool, true, not, nat_le, List, [], ◌∷◌, codes, Option, Some, None, option_map, option_and_then, if◌then◌else◌}
use Rattle.std.specs.List.{list_any}
use Rattle.std.specs.Str.{bytes_eq}
use Rattle.std.specs.Str.Parse.{digits_value, without_leading_plus}
use Rattle.clap.specs.Walk.{is_empty}
use Rattle.clap.specs.ValueTests.{is_unsigned_in}
use Rattle.clap.specs.Words.{Row, Text, fault_of, first_of, one_of, subcommand_of}
use Rattle.ion_symtab.specs.declared.limits.Limits.{Limits}
use Rattle.ion_symtab.specs.declared.target.Target.{Target}
use Rattle.ion_words.specs.Program.{program}
use Rattle.ion_words.specs.declared.request.Request.{Request}
use Rattle.ion_words.specs.declared.request.Task.{Task}

-- what is to be done, with the names of the documents
pub data Job : Type 0 where
  check : Text → Job
  show : Text → Job
  convert : Text → Target → Job
  compare : Text → Text → Job

-- and with what catalog, and within which limits
pub record Asked : Type 0 where
  pub job : Job
  pub catalog : Option Text
  pub depth : ℕ
  pub item : ℕ

-- a job with no catalog, within the usual limits
abbrev pub usual : Job → Asked
usual job = record { job = job; catalog = None; depth = 64; item = 2 ^ 24 }

-- the encoding that a target names: `text` or `binary`
abbrev pub target_named : Text → Option Target
target_named name = if bytes_eq name (codes "text") then Some Target.Text
    else if bytes_eq name (codes "binary") then Some Target.Binary
    else None

-- the job of the command of this name, by what was found for it
abbrev pub job_of : Text → List Row → Option Job
job_of command rows = if bytes_eq command (codes "check") then option_map check (first_of (codes "FILE") rows)
    else if bytes_eq command (codes "show") then option_map show (first_of (codes "FILE") rows)
    else if bytes_eq command (codes "convert") then option_and_then
    (λ file. option_map (convert file) (option_and_then target_named (first_of (codes "to") rows))) (first_of (codes "FILE") rows)
    else if bytes_eq command (codes "compare") then option_and_then (λ left. option_map (compare left) (first_of (codes "RIGHT") rows))
    (first_of (codes "LEFT") rows)
    else None

-- the number from 1 to `most` that the text writes in base 10
abbrev pub number_in : ℕ → Text → Option ℕ
number_in most text = if is_unsigned_in 1 most text then Some (digits_value 10 (without_leading_plus text)) else None

-- the number of an option, or the usual one where it isn't given
abbrev pub number_of : ℕ → ℕ → Option Text → Option ℕ
number_of usual most None = Some usual
number_of usual most (Some text) = number_in most text

-- the depth and the octets of an item that the options give
abbrev pub limits_of : List Row → Option (ℕ × ℕ)
limits_of rows = option_and_then (λ depth. option_map (λ item. (depth, item))
    (number_of (2 ^ 24) (2 ^ 30) (one_of (codes "item") rows))) (number_of 64 128 (one_of (codes "depth") rows))

-- the names of the documents, in the order in which they are opened
abbrev pub names_of_job : Job → List Text
names_of_job (check file) = file ∷ []
names_of_job (show file) = file ∷ []
names_of_job (convert file to) = file ∷ []
names_of_job (compare left right) = left ∷ right ∷ []

-- the catalog's name, if there is one, in front of the others
abbrev pub names_with : Option Text → List Text → List Text
names_with None names = names
names_with (Some name) names = name ∷ names

-- the names of all that is read, in the order in which it is opened
abbrev pub names_of : Asked → List Text
names_of asked = names_with asked.catalog (names_of_job asked.job)

-- whether the name is `-`, that of the standard input
abbrev pub is_input : Text → Bool
is_input name = bytes_eq name (codes "-")

-- the standard input is named once at most
abbrev pub has_input_once : List Text → Bool
has_input_once [] = true
has_input_once (name ∷ names) = not (list_any is_input names && is_input name) && has_input_once names

-- whether the standard input is named once at most, as a document or as the catalog
abbrev pub names_input_once : Asked → Bool
names_input_once asked = has_input_once (names_of asked)

-- what is asked, unless it names the standard input twice
abbrev pub input_once : Asked → Option Asked
input_once asked = if names_input_once asked then Some asked else None

-- what the command of this name asks for, by what was found for it
abbrev pub asked_by : Text → List Row → Option Asked
asked_by command rows = option_and_then (λ job. option_and_then (λ limits.
    input_once (record { job = job; catalog = first_of (codes "catalog") rows; depth = limits.0; item = limits.1 }))
    (limits_of rows)) (job_of command rows)

-- what the words ask for, if anything; no words stand for `show -`
abbrev pub asked : List Text → Option Asked
asked [] = Some (usual (show (codes "-")))
asked (word ∷ words) = if is_empty (fault_of program (word ∷ words))
    then option_and_then (λ found. asked_by found.0 found.1) (subcommand_of program (word ∷ words))
    else None

-- the number, where it is from 1 to `most`
abbrev pub up_to : ℕ → Option ℕ → Option ℕ
up_to most = option_and_then (λ n. if nat_le 1 n && nat_le n most then Some n else None)

-- what a task asks to be done, without the places that its names stand in
abbrev pub job : Task → Job
job (Task.Check file) = check file.now
job (Task.Show file) = show file.now
job (Task.Convert file to) = convert file.now to
job (Task.Compare left right) = compare left.now right.now

-- the depth, and the octets of an item
abbrev pub limits_told : Limits → ℕ × ℕ
limits_told limits = (limits.depth, limits.item)

-- a request, without the places that its names stand in
abbrev pub told : Request → Asked
told request = record {
  job = job request.task;
  catalog = option_map (λ name. name.now) request.catalog;
  depth =
      request.limits.depth;
  item = request.limits.item;
}

-- none of the names is the standard input's
abbrev pub NamesNoInput : List Text → Type 0
NamesNoInput [] = ⊤
NamesNoInput (name ∷ names) = (name ≢ codes "-") × NamesNoInput names

-- no two of the names are
abbrev pub NamesInputOnce : List Text → Type 0
NamesInputOnce [] = ⊤
NamesInputOnce (name ∷ names) = (name ≡ codes "-" → NamesNoInput names) × NamesInputOnce names

-- the name doesn't begin with a hyphen, so it is no option
abbrev pub IsPlain : Text → Type 0
IsPlain [] = ⊤
IsPlain (octet ∷ name) = octet ≢ 45
