-- The command line as data: what its library is told of it.
use Rattle.std.specs.Prelude.{◌^◌, ℕ, true, Some, [], codes}
use Rattle.clap.specs.declared.builder.value_parser.ValueParser.TheVariants as vp
use Rattle.clap.specs.Words.{App, Rule, Shape, Text, new_app, new_rule, with_rule, with_subcommand}

-- a name that must be given, by its place
abbrev pub place : Text → Rule
place id = record (new_rule id) { required = true }

-- `--id VALUE`
abbrev pub option : Text → Rule
option id = record (new_rule id) { long = Some id }

-- `--id N`, a whole number from 1 to `most`
abbrev pub number_option : ℕ → Text → Rule
number_option most id = record (option id) { parser = Some (vp.Unsigned 1 most) }

-- `--id VALUE`, which must be given
abbrev pub needed_option : Text → Rule
needed_option id = record (option id) { required = true }

-- `--catalog FILE`, `--depth N` and `--item N`
abbrev pub with_options : App → App
with_options app = with_rule (with_rule (with_rule app (option (codes "catalog")))
    (number_option 128 (codes "depth"))) (number_option (2 ^ 30) (codes "item"))

-- a command over one document
abbrev pub over_one : Text → App
over_one name = with_options (with_rule (new_app name) (place (codes "FILE")))

-- the command `convert FILE --to VALUE`, with the options of all
abbrev pub converting : App
converting = with_options (with_rule (with_rule (new_app (codes "convert")) (place (codes "FILE"))) (needed_option (codes "to")))

-- the command `compare LEFT RIGHT`, with the options of all
abbrev pub comparing : App
comparing = with_options (with_rule (with_rule (new_app (codes "compare")) (place (codes "LEFT"))) (place (codes "RIGHT")))

abbrev pub check : Shape
check = (over_one (codes "check")).top

abbrev pub show : Shape
show = (over_one (codes "show")).top

abbrev pub convert : Shape
convert = converting.top

abbrev pub compare : Shape
compare = comparing.top

-- a program that is no command itself
abbrev pub bare : App
bare = record { top = record (new_app (codes "ion_cmd")).top { no_binary_name = true; subcommand_required = true }; subs = [] }

-- the program with its commands: check, show, convert and compare
abbrev pub program : App
program = with_subcommand (with_subcommand (with_subcommand (with_subcommand bare check) show) convert) compare
