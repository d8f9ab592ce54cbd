-- Tokens inside of containers, taken up by a loop whose place stands beside the reader: the reader that it stands for is that with the place
-- written back.
use Rattle.std.specs.Prelude.{◌≡◌, ◌+◌, ◌-◌, ◌<◌, ◌≤◌, ◌==◌, ◌^◌, if◌then◌else◌, ℕ, Bool, true, false, List, [], ◌∷◌, length, drop, get_or, Ok, Option, Some, None, ◌⊎◌}
use Rattle.ion_text.specs.Names.Below.{Bracket, Event, Place, Rest, Stage, Taken, TextWalk}
use Rattle.ion_text.specs.declared.walk.inside.Now.{Now}
use Rattle.ion_text.specs.declared.walk.inside.Spot.{Spot}
use Rattle.ion_visiting.specs.declared.table_filter.Table.{Table}
use Rattle.ion_tokens.specs.Names.{IsPassed}
use Rattle.ion_text.specs.walk.Holds.{open_brackets}
use Rattle.ion_text.specs.walk.WholeTokens.{EndsBy}

-- what may come next, as a reader keeps it
abbrev pub stage_now : Now → Stage
stage_now Now.Name = Stage.Name
stage_now Now.BehindItem = Stage.After
stage_now Now.BehindField = Stage.After
stage_now _ = Stage.Ready

-- an annotation was read, and no value behind it
abbrev pub noted_now : Now → Bool
noted_now Now.NotedItem = true
noted_now Now.NotedElement = true
noted_now Now.NotedValue = true
noted_now _ = false

-- in which container
abbrev pub bracket_now : Now → Bracket
bracket_now Now.Item = Bracket.List
bracket_now Now.NotedItem = Bracket.List
bracket_now Now.BehindItem = Bracket.List
bracket_now Now.Element = Bracket.Sexp
bracket_now Now.NotedElement = Bracket.Sexp
bracket_now _ = Bracket.Fields

-- where the next token stands
abbrev pub place_now : Now → Place
place_now Now.Item = Place.List
place_now Now.NotedItem = Place.List
place_now Now.BehindItem = Place.List
place_now Now.Element = Place.Sexp
place_now Now.NotedElement = Place.Sexp
place_now Now.Name = Place.Name
place_now _ = Place.FieldValue

-- a value may come
abbrev pub IsValueNow : Now → Type 0
IsValueNow Now.Item = Unit {0}
IsValueNow Now.Element = Unit {0}
IsValueNow Now.Value = Unit {0}
IsValueNow Now.NotedItem = Unit {0}
IsValueNow Now.NotedElement = Unit {0}
IsValueNow Now.NotedValue = Unit {0}
IsValueNow _ = ⊥

-- the same behind an annotation
abbrev pub with_note : Now → Now
with_note Now.Item = Now.NotedItem
with_note Now.Element = Now.NotedElement
with_note Now.Value = Now.NotedValue
with_note now = now

-- what may come behind a value
abbrev pub behind_now : Now → Now
behind_now Now.Item = Now.BehindItem
behind_now Now.NotedItem = Now.BehindItem
behind_now Now.Value = Now.BehindField
behind_now Now.NotedValue = Now.BehindField
behind_now Now.NotedElement = Now.Element
behind_now now = now

-- what may come first in a container
abbrev pub first_inside : Bracket → Now
first_inside Bracket.Fields = Now.Name
first_inside Bracket.List = Now.Item
first_inside Bracket.Sexp = Now.Element

-- what may come behind a value in the innermost of these
abbrev pub around_now : List Bracket → Option Now
around_now [] = None
around_now (Bracket.Fields ∷ bs) = Some Now.BehindField
around_now (Bracket.List ∷ bs) = Some Now.BehindItem
around_now (Bracket.Sexp ∷ bs) = Some Now.Element

abbrev pub innermost : List Bracket → Option Bracket
innermost [] = None
innermost (b ∷ bs) = Some b

-- the reader with this written back
abbrev pub viewed : TextWalk → Now → TextWalk
viewed r now = record r { noted = noted_now now; stage = stage_now now }

-- In such a container of a reader this may come next; it is of no local symbol table.
pub record Stands (r : TextWalk) (now : Now) : Type 0 where
  pub plain : r.filter.table ≡ Table.No
  pub around : List Bracket
  pub inside : open_brackets r ≡ bracket_now now ∷ around

-- where a scanner rests there, if it rested so before the octets
abbrev pub rest_at : Rest → Spot → Rest
rest_at first s = record { start = first.used + s.at - s.lag; used = first.used + s.at; colon = s.colon }

-- behind a mark, or a value that is no symbol, of so many octets
abbrev pub past_spot : Spot → ℕ → Now → Spot
past_spot s n now = record { at = s.at + n; lag = 0; colon = false; now = now }

-- behind a symbol of so many octets
abbrev pub word_spot : Spot → ℕ → Spot
word_spot s n = record { at = s.at + n; lag = 0; colon = true; now = behind_now s.now }

-- behind so many octets of a blank
abbrev pub past_white : Spot → ℕ → Spot
past_white s n = if n == 0 then s else record { at = s.at + n; lag = 1; colon = s.colon; now = s.now }

-- in such a container it may be closed
abbrev pub MayCloseNow : Now → Type 0
MayCloseNow Now.Value = ⊥
MayCloseNow Now.NotedItem = ⊥
MayCloseNow Now.NotedElement = ⊥
MayCloseNow Now.NotedValue = ⊥
MayCloseNow now = Unit {0}

-- what may come behind the comma, where one may
abbrev pub behind_comma_now : Now → Option Now
behind_comma_now Now.BehindItem = Some Now.Item
behind_comma_now Now.BehindField = Some Now.Name
behind_comma_now _ = None

-- a blank was gone past, or nothing
pub record BlankSteps (from to : Spot) (octets : List ℕ) : Type 0 where
  pub count : ℕ
  pub to_is : to ≡ past_white from count
  pub passed : IsPassed (drop from.at octets) count
  pub within : from.at + count ≤ length octets

-- a comma was gone past, or nothing
abbrev pub CommaSteps : Spot → Spot → List ℕ → Type 0
CommaSteps from to octets = (to ≡ from) ⊎ ((now : Now) × (behind_comma_now from.now ≡ Some now) × (to ≡ past_spot from 1 now)
    × (get_or (drop from.at octets) 0 0 ≡ 44))

module _ {V : Type 0} (takes : V → Event → V → Type 0) where
  -- from one spot of the octets to another, whatever was used before them
  pub record StepsTo (old new : TextWalk) (from to : Spot) (octets : List ℕ) (a b : V) : Type 0 where
    pub ends : (first : Rest) → first.used + length octets < 2 ^ 63
        → EndsBy takes (viewed old from.now) (viewed new to.now) (rest_at first from) (rest_at first to) (drop from.at octets) (Ok Taken.Uses) a b
    pub on : from.at ≤ to.at
    pub within : to.at ≤ length octets
    pub stands : Stands new to.now
