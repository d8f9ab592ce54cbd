-- What a scanner tells of octets, as one function of them and of the places that their tokens lead to, however the octets are cut.
use Rattle.std.specs.Prelude.{◌≡◌, ◌≢◌, ◌≤◌, ℕ, zero, suc, ◌+◌, List, [], ◌∷◌, ◌++◌, length, take, drop, Option, Some, None, Result, Ok, Err}
use Rattle.ion_tokens.specs.Names.Below.{Memory, Place, Reason, Refusal, Rest, Token}
use Rattle.ion_tokens.specs.Bodies.{Content, content}
use Rattle.ion_tokens.specs.Lexemes.{Lexeme}
use Rattle.ion_tokens.specs.machine.Said.{said}
use Rattle.ion_tokens.specs.machine.Scanned.{Continues}
use Rattle.ion_tokens.specs.machine.Scanning.{Given, Known, Left, Next, Outcome, Refused, at_end, feed, initial}
use Rattle.ion_tokens.specs.machine.Steps.{Stepped, deciding}

-- a token: its span, what it says, and how many octets were used when it came
pub record Told : Type 0 where
  pub start : ℕ
  pub end : ℕ
  pub says : Content
  pub total : ℕ

-- where the next token stands, by those told before it
abbrev pub Places : Type 0
Places = List Told → Place

-- how far octets lead: to tokens, and what the scanner knows behind them or why it refused
pub data Trail : Type 0 where
  Leads : List Told → Known → Trail
  Stops : List Told → Refusal → Trail

-- what comes of more octets, unless a refusal came already
abbrev pub then_by : Trail → (List Told → Known → Trail) → Trail
then_by (Leads ts s) f = f ts s
then_by (Stops ts r) f = Stops ts r

-- a token that is decided behind so many octets is told, or refused for what it says
abbrev pub judged : List Told → Lexeme → ℕ → Known → Result Content Reason → Trail
judged ts l decided s (Ok c) = Leads (ts ++ record { start = l.start; end = l.end; says = c; total = s.used } ∷ []) s
judged ts l decided s (Err e) = Stops ts (record { offset = decided; reason = e })

-- what comes of an octet; one before which a token ended is taken up again
abbrev pub comes : (List Told → Known → Trail) → List Told → Outcome → Trail
comes again ts (Next s) = Leads ts s
comes again ts (Given l s) = judged ts l s.used s (said l.kind l.octets)
comes again ts (Left l s) = then_by (judged ts l (s.used + 1) s (said l.kind l.octets)) again
comes again ts (Refused at e) = Stops ts (record { offset = at; reason = e })

-- one octet, taken up at most so often
abbrev pub takes : ℕ → Places → ℕ → List Told → Known → Trail
takes zero places o ts s = Leads ts s
takes (suc n) places o ts s = comes (takes n places o) ts (feed (places ts) s o)

-- octets, each of which is left at most twice
abbrev pub over : Places → List ℕ → List Told → Known → Trail
over places [] ts s = Leads ts s
over places (o ∷ os) ts s = then_by (takes 3 places o ts s) (over places os)

-- pieces, one behind the other
abbrev pub over_pieces : Places → List (List ℕ) → List Told → Known → Trail
over_pieces places [] ts s = Leads ts s
over_pieces places (piece ∷ pieces) ts s = then_by (over places piece ts s) (over_pieces places pieces)

-- what a scanner says of octets
pub record Trace : Type 0 where
  -- the tokens that its steps give
  pub told : List Told
  -- the refusal of a step, if one refuses
  pub refused : Option Refusal
  -- what the end answers
  pub ends : Result (Option Told) Refusal

-- a token that the end shows
abbrev pub last_judged : Lexeme → ℕ → Result Content Reason → Result (Option Told) Refusal
last_judged l used (Ok c) = Ok (Some (record { start = l.start; end = l.end; says = c; total = used }))
last_judged l used (Err e) = Err (record { offset = used; reason = e })

-- what the end of the octets shows, judged: no token, the last one, or a refusal
abbrev pub end_judged : ℕ → Result (Option Lexeme) Reason → Result (Option Told) Refusal
end_judged used (Ok None) = Ok None
end_judged used (Ok (Some l)) = last_judged l used (said l.kind l.octets)
end_judged used (Err e) = Err (record { offset = used; reason = e })

-- what a scanner says of octets that lead so far
abbrev pub traced : Places → Trail → Trace
traced places (Leads ts s) = record { told = ts; refused = None; ends = end_judged s.used (at_end (places ts) s) }
traced places (Stops ts r) = record { told = ts; refused = Some r; ends = Err r }

-- what a scanner says of octets from the first one on
abbrev pub trace : Places → List ℕ → Trace
trace places octets = traced places (over places octets [] initial)

-- A scanner that used the octets u and told these tokens stands in the trace of all octets that begin with u and then with those ahead:
-- one that was left, or none.
pub record IsTraced (places : Places) (s : Known) (u : List ℕ) (ts : List Told) (ahead : List ℕ) : Type 0 where
  pub used : s.used ≡ length u
  pub one : length ahead ≤ 1
  pub leads : (rest : List ℕ) → Continues rest ahead → over places (u ++ rest) [] initial ≡ over places rest ts s

-- a token in memory, behind so many octets
abbrev pub told_as : Token → ℕ → Told
told_as t total = record { start = t.start; end = t.end; says = content t.body; total = total }

-- a token of so many octets, found where a scanner rested, that says this
abbrev pub told_there : Rest → ℕ → Content → Told
told_there r n c = record { start = r.used; end = r.used + n; says = c; total = r.used + n }

-- the token that a step gave, if it gave one
abbrev pub told_by : Option Token → ℕ → List Told
told_by None total = []
told_by (Some t) total = told_as t total ∷ []

-- the octet that a step left, which must come next
abbrev pub left_by : Stepped → List ℕ → List ℕ
left_by scan piece = take (deciding 0 scan.left) (drop scan.used piece)

-- A step answered what the trace says of the octets before, in whatever trace the scanner stood: it goes on in it with the token told, or
-- refuses as the trace does with the octets up to the offset, whatever follows. Memory may run out.
abbrev pub AnswersTrace : Place → Known → List ℕ → Result Stepped Refusal → Known → Type 0
AnswersTrace p s piece (Ok scan) now =
    (places : Places) (u : List ℕ) (ts : List Told) (ahead : List ℕ) → IsTraced places s u ts ahead → Continues piece ahead → places ts ≡ p
    → IsTraced places now (u ++ take scan.used piece) (ts ++ told_by scan.token now.used) (left_by scan piece)
AnswersTrace p s piece (Err r) now =
    r.reason ≢ Memory → (places : Places) (u : List ℕ) (ts : List Told) (ahead : List ℕ) → IsTraced places s u ts ahead → Continues piece ahead → places ts ≡ p
    → (rest : List ℕ) → trace places (take r.offset (u ++ piece) ++ rest) ≡ record { told = ts; refused = Some r; ends = Err r }

-- the same of the end
abbrev pub last_of : Option Token → ℕ → Option Told
last_of None total = None
last_of (Some t) total = Some (told_as t total)

-- the end answered what the trace says of all octets; memory may run out
abbrev pub EndsTrace : Place → Known → Result (Option Token) Refusal → Type 0
EndsTrace p s (Ok token) =
    (places : Places) (u : List ℕ) (ts : List Told) → IsTraced places s u ts [] → places ts ≡ p
    → trace places u ≡ record { told = ts; refused = None; ends = Ok (last_of token s.used) }
EndsTrace p s (Err r) =
    r.reason ≢ Memory → (places : Places) (u : List ℕ) (ts : List Told) → IsTraced places s u ts [] → places ts ≡ p
    → trace places u ≡ record { told = ts; refused = None; ends = Err r }
