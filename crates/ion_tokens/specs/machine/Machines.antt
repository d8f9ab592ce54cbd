-- What a machine in memory stands for.
use Rattle.std.specs.Prelude.{Option, Some, None}
use Rattle.ion_tokens.specs.Names.Below.{Ended as Found, Machine}
use Rattle.ion_tokens.specs.Lexemes.{Lexeme}
use Rattle.ion_tokens.specs.declared.machine.Taken.{Taken}
use Rattle.ion_tokens.specs.machine.Scanning.{Given, Known, Left, Next, Outcome, Refused}

-- what it knows between two octets
abbrev pub known : Machine → Known
known m = record { mode = m.mode; kept = m.kept.items; colon = m.colon; start = m.start; used = m.used }

-- a token that ended last
abbrev pub lexeme_in : Found → Machine → Lexeme
lexeme_in l m = record { start = l.start; end = l.end; kind = l.kind; octets = m.ended.items }

-- what the code answers, with what the machine knows then
abbrev pub outcome_in : Taken → Machine → Outcome
outcome_in Taken.Next m = Next (known m)
outcome_in (Taken.Given l) m = Given (lexeme_in l m) (known m)
outcome_in (Taken.Left l) m = Left (lexeme_in l m) (known m)
outcome_in (Taken.Refused r) m = Refused r.offset r.reason

-- the token that ended last, if one did
abbrev pub found_in : Option Found → Machine → Option Lexeme
found_in None m = None
found_in (Some l) m = Some (lexeme_in l m)
