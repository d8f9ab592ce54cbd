-- What command lines over any names and numbers ask for.
use Rattle.std.proofs.Common.{Bool, ◌≡◌, ◌≢◌, ℕ, List, [], ◌∷◌, Option, Some, None, codes, refl, true, false, sym, ap, ap₂, is_some, ne_eqb}
use Rattle.std.specs.Prelude.{◌==◌, ◌&&◌, ◌||◌, ◌^◌, not, if◌then◌else◌, option_map, option_and_then, find, fold, unwrap_or}
use Rattle.std.specs.Str.{bytes_eq}
use Rattle.clap.specs.Lexer.{long_of, long_of_rest, short_of, short_of_rest, strip_byte}
use Rattle.clap.specs.Kinds.{Kinds, or_else}
use Rattle.clap.specs.declared.error.ErrorKind.TheVariants as kind
use Rattle.clap.specs.Walk.{Held, Rule, Step, Waiting, Walk, after_step, answers_to, finished, idle, is_empty, nothing_held, plain_word, settled, subcommand_met, walk_from, walked, word_met}
use Rattle.clap.specs.Faults.{check_fault, defaults_fault, entered_fault, settle_fault, step_fault, walk_fault, word_fault}
use Rattle.clap.specs.Simple.{Shape, built, entered, label_of, names_of}
use Rattle.clap.specs.Words.{Text}
use Rattle.clap.proofs.OnLiterals.{clap_on_literals}
use Rattle.clap.proofs.FaultLemmas.{stopped_fault}
use Rattle.clap.proofs.WalkLemmas.{walk_stopped}
use Rattle.ion_words.specs.Asked.{Asked, IsPlain, asked, asked_by, check, compare, input_once, is_input, usual}
use Rattle.ion_words.specs.Program.{program}

plain_octet : (x : ℕ) → x ≢ 45 → (x == 45) ≡ false
plain_octet x plain = ne_eqb _ _ plain

pub no_hyphen : (rest name : Text) → IsPlain name → bytes_eq name (45 ∷ rest) ≡ false
no_hyphen rest [] plain = refl
no_hyphen rest (x ∷ name) plain = ap (λ b. b && bytes_eq name rest) (plain_octet x plain)

no_long : (name : Text) → IsPlain name → long_of name ≡ None
no_long [] plain = refl
no_long (x ∷ name) plain = ap (λ b. option_and_then long_of_rest (option_and_then (strip_byte 45) (if b then Some name else None))) (plain_octet x plain)

no_short : (name : Text) → IsPlain name → short_of name ≡ None
no_short [] plain = refl
no_short (x ∷ name) plain = ap (λ b. option_and_then short_of_rest (if b then Some name else None)) (plain_octet x plain)

-- ---- one step of the walk

none_met : (waiting : Waiting) (word : Text) → subcommand_met [] waiting word ≡ None
none_met idle word = refl
none_met _ word = refl

plain_met : (c : List Rule) (waiting : Waiting) (position : ℕ) (name : Text) (held : Held) → IsPlain name → word_met c [] false waiting position name held
    ≡ plain_word c waiting name held
plain_met c waiting position name held plain = rw (none_met waiting name, no_hyphen (45 ∷ []) name plain, no_long name plain, no_short name plain) refl

no_fault : (s : Shape) (waiting : Waiting) (name : Text) (held : Held) → IsPlain name → word_fault s [] false waiting name held ≡ []
no_fault s waiting name held plain = rw (none_met waiting name, no_hyphen (45 ∷ []) name plain, no_long name plain, no_short name plain) refl

-- what a command asks for by the words that are left at a place of its walk, where the words before
-- came to these faults
abbrev asked_at : Text → Shape → Kinds → Walk → List Text → Option Asked
asked_at command s faults w words =
    let end = (fold (walked s.rules []) w words).held in
    if is_empty (or_else (or_else (or_else faults (walk_fault s [] w words))
    (or_else (settle_fault s.rules s.args_override_self end)
    (or_else (defaults_fault (settled s.rules end).rows s.rules) (check_fault s (finished s.rules end) false)))) [])
    then asked_by command (finished s.rules end) else None

abbrev place : Held → Waiting → ℕ → Walk
place held waiting position = record { held = held; waiting = waiting; position = position; is_trailing = false; stopped = None }

-- a plain name is no flag, so it goes to what waits for it
pub plain_step : (command : Text) (s : Shape) (held : Held) (waiting : Waiting) (position : ℕ) (name : Text) (words : List Text) → IsPlain name
    → asked_at command s [] (place held waiting position) (name ∷ words)
    ≡ (let met = plain_word s.rules waiting name held in asked_at command s (step_fault s position met.0 met.1)
    (after_step s.rules name (place held waiting position) met.0 met.1) words)
unfolding walked walk_fault
plain_step command s held waiting position name words plain =
    ap₂ (λ (fault : Kinds) (met : Held × Step). asked_at command s (or_else fault (step_fault s position met.0 met.1))
    (after_step s.rules name (place held waiting position) met.0 met.1) words)
    (no_fault s waiting name held plain) (plain_met s.rules waiting position name held plain)

-- ---- the walk over the words of a command

-- the command of this name, as the program holds it once it is built
abbrev pub command_of : Text → Shape
command_of name = unwrap_or (find (λ s. answers_to name (label_of s)) (built program).subs) program.top

abbrev asked_in : Text → List Text → Option Asked
asked_in command words = asked_at command (command_of command) [] (walk_from nothing_held) words

-- what the program asks for where its own walk ends so, with these faults
abbrev asked_above : Kinds → Walk → Option Asked
asked_above faults end =
    let a = built program in
    let below = entered a end.stopped in
    if is_empty (or_else faults (or_else (entered_fault a end.stopped) (or_else (settle_fault a.top.rules a.top.args_override_self end.held)
    (or_else (defaults_fault (settled a.top.rules end.held).rows a.top.rules) (check_fault a.top (finished a.top.rules end.held) (is_some below))))))
    then option_and_then (λ found. asked_by found.0 found.1) below else None

abbrev stopped_at : Text → List Text → Walk
stopped_at command words = record (walk_from nothing_held) { stopped = Some (command, words) }

-- the words behind a command's name are left to it
left_to : (command : Text) (words : List Text)
    → asked_above (walk_fault (built program).top (names_of (built program)) (stopped_at command []) words)
    (fold (walked (built program).top.rules (names_of (built program))) (stopped_at command []) words)
    ≡ asked_above [] (stopped_at command words)
left_to command words =
    ap₂ asked_above (stopped_fault (built program).top (names_of (built program)) (walk_from nothing_held) (command, []) words)
    (sym (walk_stopped (built program).top.rules (names_of (built program)) (walk_from nothing_held) command [] words))

pub in_check : (words : List Text) → asked (codes "check" ∷ words) ≡ asked_in (codes "check") words
unfolding clap_on_literals
in_check words = left_to (codes "check") words

pub in_show : (words : List Text) → asked (codes "show" ∷ words) ≡ asked_in (codes "show") words
unfolding clap_on_literals
in_show words = left_to (codes "show") words

pub in_convert : (words : List Text) → asked (codes "convert" ∷ words) ≡ asked_in (codes "convert") words
unfolding clap_on_literals
in_convert words = left_to (codes "convert") words

pub in_compare : (words : List Text) → asked (codes "compare" ∷ words) ≡ asked_in (codes "compare") words
unfolding clap_on_literals
in_compare words = left_to (codes "compare") words

-- ---- what command lines come to

-- what is held where a name was read for a place
abbrev pub placed : Text → Text → Held
placed id name = record nothing_held { pending = Some (id, name ∷ []) }

-- a name that isn't the standard input's leaves the other free
pub compare_once : (left right : Text) → is_input right ≡ false → input_once (usual (compare left right)) ≡ Some (usual (compare left right))
compare_once left right e = ap (λ b. if (not ((b || false) && is_input left) && true) then Some (usual (compare left right)) else None) e

abbrev pub with_catalog : Text → Text → Asked
with_catalog name catalog = record (usual (check name)) { catalog = Some catalog }

pub catalog_once : (name catalog : Text) → is_input name ≡ false → input_once (with_catalog name catalog) ≡ Some (with_catalog name catalog)
catalog_once name catalog e = ap (λ b. if (not ((b || false) && is_input catalog) && true) then Some (with_catalog name catalog) else None) e

-- the limits that were given for `check a`
abbrev within : Option (ℕ × ℕ) → Option Asked
within = option_and_then (λ (limits : ℕ × ℕ). input_once (record { job = check (codes "a"); catalog = None; depth = limits.0; item = limits.1 }))

-- a fault behind which nothing more is wrong: of an option, of its word, of its command, and of the program
abbrev alone : Kinds → Kinds
alone faults = or_else faults []

-- what `check a` asks for within these limits, of which a number fits its range or doesn't
abbrev judged : Bool → Option (ℕ × ℕ) → Option Asked
judged fits limits =
    if is_empty (alone (alone (alone (alone (alone (if fits then [] else kind.ValueValidation ∷ [])))))) then within limits else None

-- a depth that is given
pub depth_given : (fits : Bool) (n : ℕ) → judged fits (option_and_then (λ depth. Some (depth, 2 ^ 24)) (if fits then Some n else None))
    ≡ option_map (λ depth. record (usual (check (codes "a"))) { depth = depth }) (if fits then Some n else None)
depth_given true n = refl
depth_given false n = refl

-- and items of so many octets
pub item_given : (fits : Bool) (n : ℕ) → judged fits (option_map (λ item. (64, item)) (if fits then Some n else None))
    ≡ option_map (λ item. record (usual (check (codes "a"))) { item = item }) (if fits then Some n else None)
item_given true n = refl
item_given false n = refl
