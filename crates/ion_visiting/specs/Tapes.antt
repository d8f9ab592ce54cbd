-- A tape: what events were written down, and how a value lies among them.
use Rattle.std.specs.Prelude.{◌≡◌, ◌+◌, ◌-◌, ◌*◌, ◌^◌, ℕ, List, [], ◌∷◌, ◌++◌, length, take, drop, set, slice_get, nat_le, nat_eq, cond, Option, Some, None, option_map}
use Rattle.std.specs.Int.{to_le_bytes, w32, w64}
use Rattle.std.specs.List.{flat_map}
use Rattle.std.specs.Option.{option_to_list}
use Rattle.ion_visiting.specs.Names.{Bracket, Entry, Event, Form, Great, Kind, Led, Number, Payload, Range, Role, Short, Spelling, Tape, Value, annotation, closes, decimal_payload, ended, events_of, name, number_payload, opens, part, timestamp_payload}
use Rattle.ion_model.specs.declared.value.Payload.TheVariants as payloads

-- what octets are read as, if there are some
abbrev pub read_as : (List ℕ → Payload) → Option (List ℕ) → Payload
read_as f (Some w) = f w
read_as f None = payloads.Null Kind.Null

-- a symbol as a value, as an annotation or as the name of a field; a number by its body
abbrev pub role_event : Role → Option (List ℕ) → Event
role_event Role.Value s = part (payloads.Symbol s)
role_event Role.Annotation s = annotation s
role_event Role.Name s = name s
role_event Role.Decimal s = part (read_as decimal_payload s)
role_event Role.Timestamp s = part (read_as timestamp_payload s)

-- a string or a lob
abbrev pub text_event : Form → List ℕ → Event
text_event Form.Str w = part (payloads.Str w)
text_event Form.Clob w = part (payloads.Clob w)
text_event Form.Blob w = part (payloads.Blob w)

-- so many octets from a place on, where there are as many
abbrev pub text_from : Tape → ℕ → ℕ → Option (List ℕ)
text_from t from count = cond (nat_le (from + count) (length t.octets.items)) (Some (take count (drop from t.octets.items))) None

-- where a text begins, or which great one it is
abbrev pub range_place : Range → ℕ
range_place r = r.low + r.high * 2 ^ 32

-- the octets of a great text
abbrev pub great_text : Tape → Option Great → Option (List ℕ)
great_text t None = None
great_text t (Some g) = text_from t g.from g.count

-- the octets of a range
unfoldable pub text_at : Tape → Range → Option (List ℕ)
text_at t r = cond (nat_eq r.count (2 ^ 32 - 1)) (great_text t (slice_get t.greats.items (range_place r))) (text_from t (range_place r) r.count)

-- few octets: behind its first octets its last four, where it has as many
abbrev pub short_text : Short → List ℕ
short_text s = cond (nat_le 4 s.count) (take (s.count - 4) (to_le_bytes w64 s.first) ++ to_le_bytes w32 s.last) (take s.count (to_le_bytes w64 s.first))

-- the text of a symbol, if it is known, or the body of a number
abbrev pub spelled : Spelling → Option (List ℕ)
spelled Spelling.Unknown = None
spelled (Spelling.Short s) = Some (short_text s)
spelled (Spelling.Long w) = Some w.now

-- what an entry tells; none where its text, its number or its symbol isn't there
abbrev pub told : Tape → Entry → Option Event
told t (Entry.Null k) = Some (part (payloads.Null k))
told t (Entry.Truth b) = Some (part (payloads.Truth b))
told t (Entry.Int z) = Some (part (payloads.Int z))
told t (Entry.Decimal b x m) = Some (part (payloads.Decimal (record { negative = b; magnitude = m; exponent = x })))
told t (Entry.Number i) = option_map (λ n. part (number_payload n)) (slice_get t.numbers.items i)
told t (Entry.Unknown x) = Some (role_event x None)
told t (Entry.Short x n l f) = Some (role_event x (Some (short_text (record { count = n; last = l; first = f }))))
told t (Entry.Shared x i) = option_map (role_event x) (slice_get t.symbols.items i)
told t (Entry.Long x r) = option_map (λ w. role_event x (Some w)) (text_at t r)
told t (Entry.Text x r) = option_map (text_event x) (text_at t r)
told t (Entry.Open x j) = Some (opens x)
told t (Entry.Close x) = Some (closes x)

-- the events that a tape tells
abbrev pub events_in : Tape → List Event
events_in t = flat_map (λ e. option_to_list (told t e)) t.entries.items

-- those that so many entries in front tell
abbrev pub events_before : Tape → ℕ → List Event
events_before t n = flat_map (λ e. option_to_list (told t e)) (take n t.entries.items)

-- an entry at a place tells this
pub record Tells (t : Tape) (i : ℕ) (e : Event) : Type 0 where
  pub entry : Entry
  pub there : slice_get t.entries.items i ≡ Some entry
  pub is : told t entry ≡ Some e

-- nothing was written down yet
pub record IsBlank (t : Tape) : Type 0 where
  pub entries : t.entries.items ≡ []
  pub opened : t.opened.items ≡ []
  pub octets : t.octets.items ≡ []
  pub numbers : t.numbers.items ≡ []
  pub symbols : t.symbols.items ≡ []
  pub greats : t.greats.items ≡ []

-- the texts, numbers and symbols of the one are at the front of the other's, and the same brackets are open
pub record Grows (a b : Tape) : Type 0 where
  pub text : List ℕ
  pub octets : b.octets.items ≡ a.octets.items ++ text
  pub number : List Number
  pub numbers : b.numbers.items ≡ a.numbers.items ++ number
  pub symbol : List (Option (List ℕ))
  pub symbols : b.symbols.items ≡ a.symbols.items ++ symbol
  pub great : List Great
  pub greats : b.greats.items ≡ a.greats.items ++ great
  pub opened : b.opened.items ≡ a.opened.items

-- one entry more, which tells this
pub record Writes (a b : Tape) (e : Event) : Type 0 where
  pub entry : Entry
  pub entries : b.entries.items ≡ a.entries.items ++ entry ∷ []
  pub is : told b entry ≡ Some e
  pub grows : Grows a b

-- texts, numbers and symbols are the same
pub record Rests (a b : Tape) : Type 0 where
  pub octets : b.octets ≡ a.octets
  pub numbers : b.numbers ≡ a.numbers
  pub symbols : b.symbols ≡ a.symbols
  pub greats : b.greats ≡ a.greats

-- brackets are opened
pub record Opens (a b : Tape) (x : Bracket) : Type 0 where
  pub entries : b.entries.items ≡ a.entries.items ++ Entry.Open x 0 ∷ []
  pub opened : b.opened.items ≡ a.opened.items ++ length a.entries.items ∷ []
  pub rests : Rests a b

-- those opened last are closed: where they were opened stands the place behind the close
pub record Closes (a b : Tape) (x : Bracket) : Type 0 where
  pub place : ℕ
  pub opened : a.opened.items ≡ b.opened.items ++ place ∷ []
  pub entries : b.entries.items ≡ set a.entries.items place (Entry.Open x (length a.entries.items + 1)) ++ Entry.Close x ∷ []
  pub rests : Rests a b

-- the visitor that writes down what it takes; that a value of the top level ended is not written
abbrev pub tapes : Tape → Event → Tape → Type 0
tapes a (opens x) b = Opens a b x
tapes a (closes x) b = Closes a b x
tapes a ended b = b ≡ a
tapes a e b = Writes a b e

-- a place on a tape, and where the brackets around it end, the innermost first
pub record Walk : Type 0 where
  pub at : ℕ
  pub ends : List ℕ

-- past an event
pub record Passes (t : Tape) (a : Walk) (e : Event) (b : Walk) : Type 0 where
  pub tells : Tells t a.at e
  pub is : b ≡ record { at = a.at + 1; ends = a.ends }

-- into brackets, which say where they end
pub record Enters (t : Tape) (a : Walk) (x : Bracket) (b : Walk) : Type 0 where
  pub end : ℕ
  pub there : slice_get t.entries.items a.at ≡ Some (Entry.Open x end)
  pub is : b ≡ record { at = a.at + 1; ends = end ∷ a.ends }

-- out of brackets, which end there
pub record Leaves (t : Tape) (a : Walk) (x : Bracket) (b : Walk) : Type 0 where
  pub there : slice_get t.entries.items a.at ≡ Some (Entry.Close x)
  pub at : b.at ≡ a.at + 1
  pub ends : a.ends ≡ b.at ∷ b.ends

-- along a tape
abbrev pub walks : Tape → Walk → Event → Walk → Type 0
walks t a (opens x) b = Enters t a x b
walks t a (closes x) b = Leaves t a x b
walks t a e b = Passes t a e b

-- a tape is of this value: its events stand there from front to end, and brackets say where they end
abbrev pub Holds : Tape → Value → Type 0
Holds t v = Led (walks t) (events_of v) (record { at = 0; ends = [] }) (record { at = length t.entries.items; ends = [] })
