-- What methods of a reader do of the machine's work, each said of the part of its state that it sees.
use Rattle.std.specs.Prelude.{◌≡◌, ◌+◌, ◌≤◌, ◌||◌, ℕ, List, [], Option, Some, None, Result, Ok, Err, Bool, true, false}
use Rattle.ion_text.specs.Names.Below.{Foresight, Found, Frame, Given, Known, Left, Limits, Met, Mode, Next, Outcome, Reason, Refused, Stage, Taken, Value, is_idle, is_quoting, start_of}
use Rattle.ion_tokens.specs.Bodies.{content}
use Rattle.ion_text.specs.declared.state.Taken.TheVariants.{Leaves}
use Rattle.ion_text.specs.machine.EachToken.{Reading, Symbols, Token}
use Rattle.ion_text.specs.machine.Run.{Effect, State, fails, lesser, uses}

-- a token of the scanner, as the machine takes it
abbrev pub token_in : Found → Token
token_in t = record { start = t.start; end = t.end; said = content t.body }

-- where nothing is refused, nothing comes of it
abbrev pub Notices : Effect → Result (Unit {0}) Reason → State → Type 0
Notices e (Ok done) m = e ≡ uses m
Notices e (Err reason) m = e ≡ fails reason

-- an octet gave the value that is held
abbrev pub Told : Effect → (Value → State → Effect) → Option Value → State → Type 0
Told e with_it (Some v) m = e ≡ with_it v m
Told e with_it None m = ⊥

-- what is seen of an octet may go on a symbol
abbrev pub goes_on_symbol : Foresight → Bool
goes_on_symbol Foresight.Blank = true
goes_on_symbol Foresight.Colons = true
goes_on_symbol _ = false

-- or a long string; the Bool says whether `''` counts for a segment
abbrev pub goes_on_long : Bool → Foresight → Bool
goes_on_long quotes Foresight.Blank = true
goes_on_long quotes Foresight.Long = true
goes_on_long quotes Foresight.Empty = quotes
goes_on_long quotes _ = false

-- the scanner is in this state behind what came of octets
abbrev pub IsBehind : Outcome → Known → Type 0
IsBehind (Next s) now = now ≡ s
IsBehind (Given l s) now = now ≡ s
IsBehind (Left l s) now = now ≡ s
IsBehind (Refused n e) now = ⊥

-- the octet showed the end of a token before it, and isn't used
abbrev pub is_left : Outcome → Bool
is_left (Left l s) = true
is_left _ = false

-- the octets up to the one that decides
abbrev pub decided : Outcome → ℕ
decided (Next s) = s.used
decided (Given l s) = s.used
decided (Left l s) = s.used + 1
decided (Refused n e) = n

-- the last octet isn't used, or comes again
abbrev pub comes_again : Met → Bool
comes_again Met.Uses = false
comes_again Met.Tells = false
comes_again _ = true

-- how many octets one is that did this
abbrev pub count_of : Taken → ℕ
count_of Leaves = 0
count_of _ = 1

-- the reason for which an octet is refused that was refused already, and comes again
abbrev pub worse : Reason → Result Taken Reason → Reason
worse reason (Ok taken) = reason
worse reason (Err other) = lesser reason other

-- where a token begins that is open behind the next octet
abbrev pub floor : Known → ℕ
floor s = start_of s.mode s.start s.used

-- nothing waits, and tokens may begin
abbrev pub IsCalm : Stage → Type 0
IsCalm Stage.Ready = Unit {0}
IsCalm Stage.Name = Unit {0}
IsCalm _ = ⊥

-- where the octets of the open item are counted from
abbrev pub base : List Frame → Symbols → ℕ → ℕ → ℕ
base [] [] start floor = floor
base _ _ start floor = start

-- while octets come with which a mode goes on as it is, this goes on to wait, or for a mark: those of a blank or a comment, and of a
-- further segment of a long string
abbrev pub waits_over : Stage → Mode → Bool
waits_over Stage.After m = is_idle m
waits_over (Stage.Keyed name) m = is_idle m
waits_over (Stage.Pending held end) m = is_idle m
waits_over (Stage.Long text end) m = is_idle m || is_quoting m
waits_over (Stage.LongName text) m = is_idle m || is_quoting m
waits_over _ m = false

-- where what waits ended so far
abbrev pub ended_so_far : Stage → ℕ
ended_so_far (Stage.Pending held end) = end
ended_so_far (Stage.Long text end) = end
ended_so_far _ = 0

-- it waits over so many such octets, and the item stays within the limit
pub record MayWaitOver (l : Limits) (r : Reading) (s : Known) (count : ℕ) : Type 0 where
  pub waits : waits_over r.now s.mode ≡ true
  pub ended : ended_so_far r.now ≤ r.start + l.item
  pub room : s.used + count ≤ r.start + l.item
