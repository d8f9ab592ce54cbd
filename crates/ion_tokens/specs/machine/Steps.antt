-- What the calls of the scanner answer.
use Rattle.std.specs.Prelude.{◌≡◌, ◌≢◌, ℕ, ◌+◌, ◌<◌, ◌≤◌, Option, Some, None, Result, Ok, Err, Bool, true, false, List, length}
use Rattle.ion_tokens.specs.Names.Below.{Reason, Refusal, Scan, Token}
use Rattle.ion_tokens.specs.Bodies.{IsBody, content}
use Rattle.ion_tokens.specs.Lexed.{Passes}
use Rattle.ion_tokens.specs.Lexemes.{Lexeme}
use Rattle.ion_tokens.specs.machine.Scanning.{Given, Known, Left, Next, Outcome, Refused}

-- what a step did: how many octets of its piece it used, which token it gave, and whether the octet behind them ended that token
-- and was left
pub record Stepped : Type 0 where
  pub used : ℕ
  pub token : Option Token
  pub left : Bool

-- all octets were used and gave no token
abbrev pub passed : List ℕ → Stepped
passed octets = record { used = length octets; token = None; left = false }

-- the same of what it answered and what the scanner says of it then
abbrev pub stepped : Scan → Bool → Stepped
stepped scan left = record { used = scan.used; token = scan.token; left = left }

-- what a step answered, or why it refused, with what the scanner says of it then
abbrev pub answered : Result Scan Refusal → Bool → Result Stepped Refusal
answered (Ok scan) left = Ok (stepped scan left)
answered (Err r) left = Err r

-- a token in memory is this one, judged
pub record IsToken (l : Lexeme) (t : Token) : Type 0 where
  pub start : t.start ≡ l.start
  pub end : t.end ≡ l.end
  pub says : IsBody l.kind l.octets (Ok (content t.body))
  pub passes : Passes l.kind l.octets

-- there is a token in memory, and it is this one, judged
abbrev pub GivesToken : Lexeme → Option Token → Type 0
GivesToken l None = ⊥
GivesToken l (Some t) = IsToken l t

-- behind `before` octets, a step used so many more, and these are what the scanner knows then
pub record Uses (before used : ℕ) (wanted now : Known) : Type 0 where
  pub known : now ≡ wanted
  pub counted : now.used ≡ before + used

-- a token was refused, at the octet that decided it
pub record RefusesToken (l : Lexeme) (at : ℕ) (r : Refusal) : Type 0 where
  pub offset : r.offset ≡ at
  pub says : IsBody l.kind l.octets (Err r.reason)

-- of a piece, behind octets that were used, one that was left or none is looked at: so many decide the token
abbrev pub deciding : ℕ → Bool → ℕ
deciding used true = used + 1
deciding used false = used

-- Behind `before` octets, a step over a piece from which this comes answered so, and left the scanner knowing this.
-- Memory may run out whatever comes.
abbrev pub Answers : ℕ → Outcome → Result Stepped Refusal → Known → Type 0
Answers before (Next s) (Ok scan) now = Uses before scan.used s now × (scan.token ≡ None) × (scan.left ≡ false)
Answers before (Given l s) (Ok scan) now = Uses before scan.used s now × GivesToken l scan.token × (scan.left ≡ false)
Answers before (Left l s) (Ok scan) now = Uses before scan.used s now × GivesToken l scan.token × (scan.left ≡ true)
Answers before (Refused at reason) (Ok scan) now = ⊥
Answers before (Next s) (Err r) now = r.reason ≢ Reason.Memory → ⊥
Answers before (Given l s) (Err r) now = r.reason ≢ Reason.Memory → RefusesToken l s.used r
Answers before (Left l s) (Err r) now = r.reason ≢ Reason.Memory → RefusesToken l (s.used + 1) r
Answers before (Refused at reason) (Err r) now = r.reason ≢ Reason.Memory → r ≡ record { offset = at; reason = reason }

-- behind `before` octets, a refusal's offset is that of one of so many that follow
abbrev pub IsWithin : ℕ → ℕ → Refusal → Type 0
IsWithin before n r = (before < r.offset) × (r.offset ≤ before + n)

-- Behind `used` octets, their end, which shows this, was answered so.
abbrev pub Ends : ℕ → Result (Option Lexeme) Reason → Result (Option Token) Refusal → Type 0
Ends used (Ok None) (Ok token) = token ≡ None
Ends used (Ok (Some l)) (Ok token) = GivesToken l token
Ends used (Err reason) (Ok token) = ⊥
Ends used (Ok None) (Err r) = r.reason ≢ Reason.Memory → ⊥
Ends used (Ok (Some l)) (Err r) = r.reason ≢ Reason.Memory → RefusesToken l used r
Ends used (Err reason) (Err r) = r.reason ≢ Reason.Memory → r ≡ record { offset = used; reason = reason }

-- the reasons that an octet alone may give
abbrev pub is_octet_reason : Reason → Bool
is_octet_reason Reason.Float = true
is_octet_reason Reason.BadEscape = true
is_octet_reason Reason.BadUtf8 = true
is_octet_reason Reason.BadBase64 = true
is_octet_reason Reason.Ambiguous = true
is_octet_reason Reason.Unexpected = true
is_octet_reason _ = false

-- the reasons for which a step refuses; `Incomplete` is none of them
abbrev pub is_step_reason : Reason → Bool
is_step_reason Reason.Memory = true
is_step_reason Reason.TooLarge = true
is_step_reason Reason.Malformed = true
is_step_reason reason = is_octet_reason reason

-- the reasons for which the end of octets that a scanner used refuses them
abbrev pub is_end_reason : Reason → Bool
is_end_reason Reason.Memory = true
is_end_reason Reason.Incomplete = true
is_end_reason Reason.TooLarge = true
is_end_reason Reason.Malformed = true
is_end_reason Reason.Float = true
is_end_reason _ = false
