-- The reader of octets: the scanner, and behind it the reader of tokens; and whole runs of it.
use Rattle.std.specs.Prelude.{ℕ, zero, suc, ◌+◌, ◌-◌, ◌==◌, Bool, true, false, ◌&&◌, ◌||◌, not, List, [], ◌∷◌, nat_lt, nat_le, if◌then◌else◌, Result, Ok, Err, Option, Some, None}
use Rattle.ion_text.specs.Names.Below.{Begun, Catalog, Content, Form, Frame, Given, Known, Left, Lexeme, Limits, Next, Outcome, Reason, Refusal, Refused, Stage, Trace, Value, at_end, begun_in, feed, initial, is_idle, is_long_form, long_waits, reason_number, said, symbol_waits, system_slots}
use Rattle.ion_text.specs.machine.EachToken.{Reading, Symbols, Token, Turn, fresh, gives, goes, late, place, refuses, settle, turn}

-- what the scanner knows, and what the reader of tokens holds
pub record State : Type 0 where
  pub scan : Known
  pub reading : Reading

-- what an octet does
pub data Effect : Type 0 where
  -- it is used
  uses : State → Effect
  -- it is used, and ends a value of the top level
  tells : Value → State → Effect
  -- it shows the end of a value of the top level, and isn't used
  leaves : Value → State → Effect
  fails : Reason → Effect

-- the state in which a document begins
abbrev pub begun : State
begun = record { scan = initial; reading = fresh system_slots }

-- no container is open
abbrev pub is_top : List Frame → Bool
is_top [] = true
is_top (f ∷ fs) = false

-- what has begun is a segment of a long string
abbrev pub has_segment : Option Begun → Bool
has_segment None = false
has_segment (Some b) = of_form b.form where
  of_form : Form → Bool
  of_form Form.Long = true
  of_form _ = false

-- what waits goes on to wait at the octet of which this comes; the Bool says whether at the top level
abbrev pub waits_now : Bool → Stage → Outcome → Bool
waits_now top (Stage.Pending h end) x = symbol_waits x
waits_now top (Stage.Long w end) x = long_waits top x
waits_now top (Stage.LongName w) x = long_waits false x
waits_now top _ x = false

-- what waits in a reading goes on to wait at the octet of which this comes
abbrev pub waits : Reading → Outcome → Bool
waits r x = waits_now (is_top r.frames) r.now x

-- behind a long string that waits a segment of it has begun, and what is refused is refused in it
abbrev pub in_segment : Stage → Known → Bool
in_segment (Stage.Long w end) s = has_segment (begun_in s)
in_segment _ s = false

-- nothing that waits is settled before the octet
abbrev pub unsettled : Known → Reading → Outcome → Bool
unsettled s r x = waits r x || in_segment r.now s

-- no token may begin but a mark of one octet
abbrev pub shut : Stage → Bool
shut Stage.After = true
shut (Stage.Keyed s) = true
shut _ = false

-- Where a container is open, or an annotation waits for its value, each octet is the item's. Else those of the token that has begun are,
-- and those of what waits at the top level, up to the last token's end.
abbrev pub longest_top : ℕ → ℕ → Stage → Symbols → Option Begun → ℕ → ℕ
longest_top start used Stage.Ready [] None n = 0
longest_top start used Stage.Ready [] (Some b) n = b.end - b.start
longest_top start used Stage.Ready (s ∷ ss) None n = used - start
longest_top start used Stage.Ready (s ∷ ss) (Some b) n = b.end - start
longest_top start used (Stage.Pending h end) ss b n = end - start
longest_top start used (Stage.Long w end) ss None n = end - start
longest_top start used (Stage.Long w end) ss (Some b) n = if is_long_form b.form && not (n == 0) then b.end - start else end - start
longest_top start used _ ss b n = 0

-- 1 where a segment of a long string has begun, else 0
abbrev pub is_long_begun : Option Begun → ℕ
is_long_begun None = 0
is_long_begun (Some b) = of_form b.form where
  of_form : Form → ℕ
  of_form Form.Long = 1
  of_form _ = 0

-- how many octets the open item has so far
abbrev pub reaches : List Frame → Reading → Known → ℕ
reaches [] r s = longest_top r.start s.used r.now r.notes (begun_in s) (is_long_begun (begun_in s))
reaches (f ∷ fs) r s = s.used - r.start

-- the octet was used and ended no value
abbrev pub noticed : Limits → Reading → Known → Effect
noticed l r s =
    if shut r.now && not (is_idle s.mode) then fails Reason.Unexpected
    else (if nat_le (reaches r.frames r s) l.item then uses (record { scan = s; reading = r }) else fails Reason.ItemTooLong)

-- of two reasons the one with the smaller number
abbrev pub lesser : Reason → Reason → Reason
lesser e f = if nat_lt (reason_number f) (reason_number e) then f else e

-- refused for one of two reasons
abbrev pub or_worse : Reason → Effect → Effect
or_worse e (fails f) = fails (lesser e f)
or_worse e _ = fails e

-- the state of this scanner and this reading
abbrev pub with_scan : Known → Reading → State
with_scan s r = record { scan = s; reading = r }

-- the token of a lexeme that says this
abbrev pub token_of : Lexeme → Content → Token
token_of l c = record { start = l.start; end = l.end; said = c }

-- a token ended with the octet
abbrev pub behind_given : Limits → Known → Turn → Effect
behind_given l s (goes r) = noticed l r s
behind_given l s (gives v r) = tells v (with_scan s r)
behind_given l s (refuses e) = fails e
behind_given l s (late e r) = or_worse e (noticed l r s)

-- a token ended before the octet, which comes again
abbrev pub behind_left : (State → Effect) → Known → Turn → Effect
behind_left again s (goes r) = again (with_scan s r)
behind_left again s (gives v r) = leaves v (with_scan s r)
behind_left again s (refuses e) = fails e
behind_left again s (late e r) = or_worse e (again (with_scan s r))

-- what follows from what a token says, or the reason why it is refused
abbrev pub on_said : Result Content Reason → (Content → Effect) → Effect
on_said (Ok c) f = f c
on_said (Err e) f = fails e

module _ (g : Catalog) (l : Limits) where
  -- what comes of the octet at the scanner
  abbrev pub on_scan : (State → Effect) → Reading → Outcome → Effect
  on_scan again r (Next s) = noticed l r s
  on_scan again r (Given x s) = on_said (said x.kind x.octets) (λ c. behind_given l s (turn g l r (token_of x c)))
  on_scan again r (Left x s) = on_said (said x.kind x.octets) (λ c. behind_left again s (turn g l r (token_of x c)))
  on_scan again r (Refused n e) = fails e

  -- the octet showed that nothing goes on
  abbrev pub on_settled : (State → Effect) → Known → Outcome → Turn → Effect
  on_settled again s x (goes r) = on_scan again r x
  on_settled again s x (gives v r) = leaves v (with_scan s r)
  on_settled again s x (refuses e) = fails e
  on_settled again s x (late e r) = or_worse e (on_scan again r x)

  -- what an octet does, of which this comes at the scanner, once what waited is settled
  abbrev pub on_octet : (State → Effect) → State → Outcome → Effect
  on_octet again m x = if unsettled m.scan m.reading x then on_scan again m.reading x else on_settled again m.scan x (settle g l m.reading)

  -- the octet, which may end so many tokens before it
  abbrev pub takes : ℕ → State → ℕ → Effect
  takes zero m o = fails Reason.Unexpected
  takes (suc n) m o = on_octet (λ k. takes n k o) m (feed (place m.reading) m.scan o)

  -- one octet ends two tokens at most: an operator and the front of `inf`
  abbrev pub eats : State → ℕ → Effect
  eats m o = takes 3 m o

-- the values with the octets used where each came, and the state or the refusal in which octets end
pub record Run : Type 0 where
  pub given : List (Value × ℕ)
  pub now : Result State Refusal

-- a run before which a value came with so many octets used
abbrev pub with_value : Value → ℕ → Run → Run
with_value v to r = record { given = (v, to) ∷ r.given; now = r.now }

-- a run that is refused at this octet
abbrev pub failed_at : ℕ → Reason → Run
failed_at to e = record { given = []; now = Err (record { offset = to; reason = e }) }

-- behind an octet that comes again behind a value; it shows the end of one value alone
abbrev pub once_more : ℕ → (State → Run) → Effect → Run
once_more to rest (uses m) = rest m
once_more to rest (tells v m) = with_value v (to + 1) (rest m)
once_more to rest (leaves v m) = failed_at (to + 1) Reason.Unexpected
once_more to rest (fails e) = failed_at (to + 1) e

-- an octet behind `to` others
abbrev pub run_on : ℕ → (State → Effect) → (State → Run) → Effect → Run
run_on to again rest (uses m) = rest m
run_on to again rest (tells v m) = with_value v (to + 1) (rest m)
run_on to again rest (leaves v m) = with_value v to (once_more to rest (again m))
run_on to again rest (fails e) = failed_at (to + 1) e

module _ (g : Catalog) (l : Limits) where
  -- behind `to` octets
  abbrev pub run : ℕ → State → List ℕ → Run
  run to m [] = record { given = []; now = Ok m }
  run to m (o ∷ os) = run_on to (λ n. eats g l n o) (λ n. run (to + 1) n os) (eats g l m o)

-- the end

-- no item is open
abbrev pub is_fresh : Reading → Bool
is_fresh r = is_top r.frames && (no_notes r.notes && is_ready r.now) where
  is_ready : Stage → Bool
  is_ready Stage.Ready = true
  is_ready _ = false

  no_notes : Symbols → Bool
  no_notes [] = true
  no_notes (s ∷ ss) = false

-- the octets end in an item
abbrev pub cut_short : ℕ → Result (Option Value) Refusal
cut_short used = Err (record { offset = used; reason = Reason.Incomplete })

abbrev pub end_fails : ℕ → Reason → Result (Option Value) Refusal
end_fails used e = Err (record { offset = used; reason = e })

-- a struct that would be too deep is no reason at the end, which completes nothing by it
abbrev pub end_late : ℕ → Reason → Result (Option Value) Refusal
end_late used Reason.Depth = cut_short used
end_late used e = end_fails used e

-- nothing is open at the end but what waited for more
abbrev pub end_settled : ℕ → Turn → Result (Option Value) Refusal
end_settled used (goes r) = if is_fresh r then Ok None else cut_short used
end_settled used (gives v r) = Ok (Some v)
end_settled used (refuses e) = end_fails used e
end_settled used (late e r) = end_late used e

module _ (g : Catalog) (l : Limits) where
  -- the end ended a token
  abbrev pub end_turned : ℕ → Turn → Result (Option Value) Refusal
  end_turned used (goes r) = end_settled used (settle g l r)
  end_turned used (gives v r) = Ok (Some v)
  end_turned used (refuses e) = end_fails used e
  end_turned used (late e r) = end_late used e

  -- the end ended a token, which says this or is refused
  abbrev pub end_said : ℕ → Reading → Lexeme → Result Content Reason → Result (Option Value) Refusal
  end_said used r x (Ok c) = end_turned used (turn g l r (token_of x c))
  end_said used r x (Err e) = end_fails used e

  -- what waited is decided by the end even where a comment or a colon behind it is open, if it is refused
  abbrev pub end_waiting : ℕ → Result (Option Lexeme) Reason → Turn → Result (Option Value) Refusal
  end_waiting used (Ok None) t = end_settled used t
  end_waiting used _ (refuses e) = end_fails used e
  end_waiting used _ (late e r) = end_late used e
  end_waiting used _ _ = cut_short used

  -- the end came where nothing waits
  abbrev pub end_ready : ℕ → Reading → Result (Option Lexeme) Reason → Result (Option Value) Refusal
  end_ready used r (Ok None) = if is_fresh r then Ok None else cut_short used
  end_ready used r (Ok (Some x)) = end_said used r x (said x.kind x.octets)
  end_ready used r (Err e) = end_fails used e

  -- the end came where this waits, or nothing
  abbrev pub end_now : ℕ → Reading → Result (Option Lexeme) Reason → Stage → Result (Option Value) Refusal
  end_now used r x (Stage.Pending h end) = end_waiting used x (settle g l r)
  end_now used r x (Stage.Long w end) = end_waiting used x (settle g l r)
  end_now used r x (Stage.LongName w) = cut_short used
  end_now used r x _ = end_ready used r x

  -- what the end answers in a state
  abbrev pub ends : State → Result (Option Value) Refusal
  ends m = end_now m.scan.used m.reading (at_end (place m.reading) m.scan) m.reading.now

  -- what the end answers behind a run, or the refusal in which the run ended
  abbrev pub ends_of : Result State Refusal → Result (Option Value) Refusal
  ends_of (Ok m) = ends m
  ends_of (Err refusal) = Err refusal

-- the refusal in which a run ended, if it did
abbrev pub refused_of : Result State Refusal → Option Refusal
refused_of (Ok m) = None
refused_of (Err refusal) = Some refusal

module _ (g : Catalog) (l : Limits) where
  -- what is seen of a run: the values, the refusal and what the end answers
  abbrev pub trace_of : Run → Trace
  trace_of r = record { given = r.given; refused = refused_of r.now; ends = ends_of g l r.now }

  -- what is seen of the run over these octets from where a document begins
  abbrev pub trace : List ℕ → Trace
  trace octets = trace_of (run g l 0 begun octets)
