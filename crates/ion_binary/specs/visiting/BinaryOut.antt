-- The visitor that writes values as binary values as it is told them.
use Rattle.std.specs.Prelude.{◌≡◌, if◌then◌else◌, ◌+◌, ℕ, Bool, true, false, List, [], ◌∷◌, ◌++◌, length, take, drop, Option}
use Rattle.ion_binary.specs.Names.{Event, KeptEvent, Names, Payload, Progress, Value, annotation, closes, code_in, ended, framed, id_of, layer_octets, layer_symbols, name, names_after, opening, out-Payload, part, system_names, table_from, value_octets, var_uint_octets, with_count, with_name, with_names}
use Rattle.ion_visiting.specs.Events.{opens}
use Rattle.ion_binary.specs.declared.binary_out.Frame.{Frame}

-- what is written so far: the octets of the values that ended, with the tables before them; the symbols that have ids, how many of them have
-- them there, and whether the marker stands there; what came of the value that is open; where octets stand in place of a descriptor, the
-- innermost first; and whether annotations of the value that comes stand there
pub record Encoded : Type 0 where
  pub whole : List ℕ
  pub names : Names
  pub known : ℕ
  pub begun : Bool
  pub value : List ℕ
  pub frames : List Frame
  pub noted : Bool

-- nothing yet
abbrev pub no_octets : Encoded
no_octets = record {
  whole = [];
  names = system_names;
  known = length system_names;
  begun = false;
  value = [];
  frames = [];
  noted = false;
}

-- values that ended, which led to this progress, and nothing behind them
abbrev pub of_values : List ℕ → Progress → Encoded
of_values w p = record { whole = w; names = p.names; known = length p.names; begun = p.begun; value = []; frames = []; noted = false }

-- an octet in place of a descriptor
abbrev pub with_frame : Encoded → Bool → Encoded
with_frame a wraps = record a { value = a.value ++ 0 ∷ []; frames = record { place = length a.value; wraps = wraps } ∷ a.frames }

-- what stands behind the innermost place becomes a body, its descriptor and length there
abbrev pub framed_behind : ℕ → List Frame → List ℕ → List ℕ
framed_behind code [] w = w
framed_behind code (f ∷ fs) w = take f.place w ++ framed code (drop (f.place + 1) w)

abbrev pub with_body : Encoded → ℕ → Encoded
with_body a code = record a { value = framed_behind code a.frames a.value; frames = drop 1 a.frames }

-- the number of the octets behind the innermost place is put before them
abbrev pub counted_behind : List Frame → List ℕ → List ℕ
counted_behind [] w = w
counted_behind (f ∷ fs) w = take (f.place + 1) w ++ with_count (drop (f.place + 1) w)

-- whether the innermost place is that of annotations and their value
abbrev pub wraps_next : List Frame → Bool
wraps_next [] = false
wraps_next (f ∷ fs) = f.wraps

-- annotations end where there are some, and their value begins
abbrev pub with_begun : Encoded → Encoded
with_begun a = record a { value = (if a.noted then counted_behind a.frames a.value else a.value); noted = false }

-- a value ends, and its annotations with it where there are some
abbrev pub with_ended : Encoded → Encoded
with_ended a = if wraps_next a.frames then with_body a 14 else a

-- a symbol gets an id unless it has one, and the id is appended
abbrev pub with_id : Encoded → Option (List ℕ) → Encoded
with_id a s = let names = with_name a.names s in record a { names = names; value = a.value ++ var_uint_octets (id_of names s) }

-- a payload with no value in it
abbrev pub with_part : Encoded → Payload → Encoded
with_part a p =
    let names = with_names a.names (layer_symbols (out-Payload p)) in
    record a { names = names; value = a.value ++ layer_octets names (out-Payload p) }

-- the first annotation stands behind the place of the descriptor of all
abbrev pub with_noted : Encoded → Encoded
with_noted a = if a.noted then a else record (with_frame a true) { noted = true }

-- a value of the top level ended: it stands behind the table of the names that are new
abbrev pub with_end : Encoded → Encoded
with_end a = record a {
  whole = a.whole ++ (opening a.begun ++ table_from a.known a.names) ++ a.value;
  known = length a.names;
  begun = true;
  value = [];
}

abbrev pub encoded : Encoded → Event → Encoded
encoded a (part p) = with_ended (with_part (with_begun a) p)
encoded a (annotation s) = with_id (with_noted a) s
encoded a (name s) = with_id a s
encoded a (opens x) = with_frame (with_begun a) false
encoded a (closes x) = with_ended (with_body a (code_in x))
encoded a ended = with_end a

-- an event that the types keep is written
pub record Encodes (a : Encoded) (e : Event) (b : Encoded) : Type 0 where
  pub kept : KeptEvent e
  pub is : b ≡ encoded a e

-- the symbols of a value got ids, and its octets stand behind what stood there
abbrev pub with_value : Encoded → Value → Encoded
with_value a v = let names = names_after a.names v in record a { names = names; value = a.value ++ value_octets names v }

-- without the octets of the values that ended, which were handed over
abbrev pub without_whole : Encoded → Encoded
without_whole a = record a { whole = [] }

-- without what came of the value that is open
abbrev pub without_begun : Encoded → Encoded
without_begun a = record a { names = take a.known a.names; value = []; frames = []; noted = false }
