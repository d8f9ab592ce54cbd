-- Layouts: how events lie in octets, as docs/EVENTS.md has it.
use Rattle.std.specs.Prelude.{◌≡◌, ◌+◌, ◌*◌, ◌≤◌, ◌⊎◌, ℕ, max, List, [], ◌∷◌, length, take, drop, Option, Some, None, codes, ⊤}
use Rattle.std.specs.List.{flat_map}
use Rattle.ion_events.specs.Entries.{annotation_code, close_code, code_of, decimal_entries, entry_of, int_entries, name_code, null_entry, plain, timestamp_entries, truth_entry}
use Rattle.ion_events.specs.Names.Below.{Bracket, Event, KeptEvent, Kind, Layer, Led, Payload-F, Value, annotation, closes, ended, events_of, name, opens, out-Payload, part}
use Rattle.ion_events.specs.declared.entry.Entry.{Entry}

-- 1. Entries and texts, by their places.

-- the entry at a place
abbrev pub entry_at : List ℕ → ℕ → Entry
entry_at o i = entry_of (take 16 (drop (16 * i) o))

-- how many entries a layout says that it has, its first among them
abbrev pub entry_count : List ℕ → ℕ
entry_count o = (entry_at o 0).number

-- the octets behind the last entry
abbrev pub texts_of : List ℕ → List ℕ
texts_of o = drop (16 * entry_count o) o

-- these entries stand one behind the other from a place on
abbrev pub Stand : List ℕ → ℕ → List Entry → Type 0
Stand o i [] = ⊤
Stand o i (e ∷ es) = (entry_at o i ≡ e) × Stand o (i + 1) es

-- this text lies at a place among the texts
pub record LiesAt (o : List ℕ) (place : ℕ) (text : List ℕ) : Type 0 where
  pub within : place + length text ≤ length (texts_of o)
  pub is : take (length text) (drop place (texts_of o)) ≡ text

-- 2. Walks along a layout.

-- brackets that are open: where they opened, behind which entry they say that they close, and how many values they say that they have
pub record Around : Type 0 where
  pub bracket : Bracket
  pub place : ℕ
  pub behind : ℕ
  pub says : ℕ
  -- how many of these came
  pub came : ℕ

-- a place in a layout
pub record Walk : Type 0 where
  -- the entry that is next
  pub at : ℕ
  -- the brackets around it, the innermost first
  pub around : List Around
  -- how many octets of the texts the entries before it have used
  pub used : ℕ

-- one value more came in the innermost brackets
abbrev pub one_more : List Around → List Around
one_more [] = []
one_more (x ∷ xs) = record x { came = x.came + 1 } ∷ xs

-- behind a value of so many entries, with so much of the texts used
abbrev pub past : Walk → ℕ → ℕ → Walk
past a entries used = record { at = a.at + entries; around = one_more a.around; used = used }

-- behind an annotation or a name, which is no value
abbrev pub behind_label : Walk → ℕ → Walk
behind_label a used = record { at = a.at + 1; around = a.around; used = used }

-- 3. How one event lies.

-- a value that is these entries
abbrev pub Fills : List ℕ → Walk → List Entry → Walk → Type 0
Fills o a es b = Stand o a.at es × (b ≡ past a (length es) a.used)

-- a string or a lob: its octets begin where those before it end
pub record IsText (o : List ℕ) (a : Walk) (kind : Kind) (text : List ℕ) (b : Walk) : Type 0 where
  pub entry : entry_at o a.at ≡ plain (code_of kind) (length text) a.used
  pub there : LiesAt o a.used text
  pub is : b ≡ past a 1 (a.used + length text)

-- the text of a symbol begins where those before it end, or lies within them
pub record IsSymbol (o : List ℕ) (i code used : ℕ) (text : List ℕ) (after : ℕ) : Type 0 where
  pub place : ℕ
  pub entry : entry_at o i ≡ plain code (length text) place
  pub there : LiesAt o place text
  pub known : (place ≡ used) ⊎ (place + length text ≤ used)
  pub is : after ≡ max used (place + length text)

-- or it is unknown
pub record IsUnknown (o : List ℕ) (i code used after : ℕ) : Type 0 where
  pub entry : entry_at o i ≡ record { kind = code; detail = 1; more = 0; count = 0; number = 0 }
  pub is : after ≡ used

-- a symbol as an entry of this code, behind which so much of the texts is used
abbrev pub Label : List ℕ → Walk → ℕ → Option (List ℕ) → ℕ → Type 0
Label o a code (Some text) after = IsSymbol o a.at code a.used text after
Label o a code None after = IsUnknown o a.at code a.used after

-- what has no values inside
abbrev pub lays_part : List ℕ → Walk → Layer → Walk → Type 0
lays_part o a (Payload-F.Null k) b = Fills o a (null_entry k ∷ []) b
lays_part o a (Payload-F.Truth t) b = Fills o a (truth_entry t ∷ []) b
lays_part o a (Payload-F.Int z) b = Fills o a (int_entries z) b
lays_part o a (Payload-F.Decimal d) b = Fills o a (decimal_entries d) b
lays_part o a (Payload-F.Timestamp t) b = Fills o a (timestamp_entries t) b
lays_part o a (Payload-F.Symbol s) b = (after : ℕ) × Label o a (code_of Kind.Symbol) s after × (b ≡ past a 1 after)
lays_part o a (Payload-F.Str w) b = IsText o a Kind.Str w b
lays_part o a (Payload-F.Clob w) b = IsText o a Kind.Clob w b
lays_part o a (Payload-F.Blob w) b = IsText o a Kind.Blob w b
lays_part o a _ b = ⊥

-- brackets have the codes of what they hold together
abbrev pub bracket_code : Bracket → ℕ
bracket_code Bracket.List = code_of Kind.List
bracket_code Bracket.Sexp = code_of Kind.Sexp
bracket_code Bracket.Fields = code_of Kind.Fields

-- brackets open, and say what they have and where they close
pub record Enters (o : List ℕ) (a : Walk) (x : Bracket) (b : Walk) : Type 0 where
  pub behind : ℕ
  pub says : ℕ
  pub entry : entry_at o a.at ≡ plain (bracket_code x) says behind
  pub is : b ≡ record {
    at = a.at + 1;
    around = record { bracket = x; place = a.at; behind = behind; says = says; came = 0 } ∷ one_more a.around;
    used = a.used;
  }

-- the innermost brackets close where they say, with as many values as they say
pub record Leaves (o : List ℕ) (a : Walk) (x : Bracket) (b : Walk) : Type 0 where
  pub place : ℕ
  pub says : ℕ
  pub entry : entry_at o a.at ≡ record { kind = close_code; detail = bracket_code x; more = 0; count = 0; number = place }
  pub around : a.around ≡ record { bracket = x; place = place; behind = a.at + 1; says = says; came = says } ∷ b.around
  pub at : b.at ≡ a.at + 1
  pub used : b.used ≡ a.used

-- what is told at a place, and where that leads
abbrev pub lays_event : List ℕ → Walk → Event → Walk → Type 0
lays_event o a (part p) b = lays_part o a (out-Payload p) b
lays_event o a (annotation s) b = (after : ℕ) × Label o a annotation_code s after × (b ≡ behind_label a after)
lays_event o a (name s) b = (after : ℕ) × Label o a name_code s after × (b ≡ behind_label a after)
lays_event o a (opens x) b = Enters o a x b
lays_event o a (closes x) b = Leaves o a x b
-- that a value of the top level ended has no entry: it is where no brackets are open
lays_event o a ended b = ⊥

-- and it is such as the types keep
abbrev pub lays_one : List ℕ → Walk → Event → Walk → Type 0
lays_one o a e b = KeptEvent e × lays_event o a e b

-- 4. Whole layouts.

-- behind the first entry, with nothing open and no text used
abbrev pub begin : Walk
begin = record { at = 1; around = []; used = 0 }

-- behind the last, with nothing open and all texts used
abbrev pub finish : List ℕ → Walk
finish o = record { at = entry_count o; around = []; used = length (texts_of o) }

-- these events, and no others, lie in a layout from front to end
pub record Lays (es : List Event) (o : List ℕ) : Type 0 where
  -- the eight octets in front
  pub magic : take 8 o ≡ codes "pjevent1"
  -- all entries that it says it has are there
  pub room : 16 * entry_count o ≤ length o
  pub led : Led (lays_one o) es begin (finish o)

-- these values lie in a layout
abbrev pub LaysStream : List Value → List ℕ → Type 0
LaysStream s o = Lays (flat_map events_of s) o
