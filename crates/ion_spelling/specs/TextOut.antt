-- The visitor that writes values as text as it is told them, in the writer's spelling.
use Rattle.std.specs.Prelude.{◌≡◌, ℕ, List, [], ◌∷◌, ◌++◌, length, take, drop, Option, None, Some, codes, option_to_list}
use Rattle.ion_spelling.specs.Names.Below.{Bracket, Event, KeptEvent, annotation, name, opens, out-Payload, part}
use Rattle.ion_visiting.specs.Events.{closes, ended}
use Rattle.ion_spelling.specs.Output.{layer_text, symbol_text}
use Rattle.ion_spelling.specs.Brackets.{bracket_close, octet_between, open_octet}

-- what is written so far: the lines of the values that ended, and behind them what came of the one that is open; how many octets the lines
-- are; what is open, the innermost first; and the octet that stands before the next item, if one does
pub record Written : Type 0 where
  pub octets : List ℕ
  pub whole : ℕ
  pub around : List Bracket
  pub before : Option ℕ

-- nothing yet
abbrev pub no_text : Written
no_text = record { octets = []; whole = 0; around = []; before = None }

-- the lines of the values that ended
abbrev pub lines : Written → List ℕ
lines a = take a.whole a.octets

-- what stands between items where this is open: nothing outside of brackets
abbrev pub between : List Bracket → Option ℕ
between [] = None
between (x ∷ xs) = Some (octet_between x)

-- what is written, with what stands before the next item
abbrev pub front : Written → List ℕ
front a = a.octets ++ option_to_list a.before

-- an item begins with these octets, and goes on
abbrev pub with_begun : Written → List ℕ → Written
with_begun a w = record { octets = front a ++ w; whole = a.whole; around = a.around; before = None }

-- an item is these octets, or ends with them
abbrev pub with_item : Written → List ℕ → Written
with_item a w = record { octets = front a ++ w; whole = a.whole; around = a.around; before = between a.around }

-- an item opens with a bracket
abbrev pub with_open : Written → Bracket → Written
with_open a x = record { octets = front a ++ open_octet x ∷ []; whole = a.whole; around = x ∷ a.around; before = None }

-- what was opened last is closed; what stands before a next item there isn't written
abbrev pub with_close : Written → Bracket → Written
with_close a x = record {
  octets = a.octets ++ bracket_close x ∷ [];
  whole = a.whole;
  around = drop 1 a.around;
  before = between (drop 1 a.around);
}

-- the line of a value ends, and all that is written is whole lines
abbrev pub with_end : Written → Written
with_end a = record {
  octets = a.octets ++ codes "\n";
  whole = length (a.octets ++ codes "\n");
  around = a.around;
  before = a.before;
}

abbrev pub wrote : Written → Event → Written
wrote a (part p) = with_item a (layer_text (out-Payload p))
wrote a (annotation s) = with_begun a (symbol_text s ++ codes "::")
wrote a (name s) = with_begun a (symbol_text s ++ codes ":")
wrote a (opens x) = with_open a x
wrote a (closes x) = with_close a x
wrote a ended = with_end a

-- an event that the types keep is written
pub record Writes (a : Written) (e : Event) (b : Written) : Type 0 where
  pub kept : KeptEvent e
  pub is : b ≡ wrote a e

-- without the lines, which were handed over
abbrev pub without_lines : Written → Written
without_lines a = record { octets = drop a.whole a.octets; whole = 0; around = a.around; before = a.before }
