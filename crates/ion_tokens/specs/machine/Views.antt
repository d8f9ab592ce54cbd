-- What a scanner in memory stands for.
use Rattle.std.specs.Prelude.{ℕ, Bool, ◌-◌, length, Option, Some, None, if◌then◌else◌, List}
use Rattle.ion_tokens.specs.Names.Below.{Begun, Foresight, Form, Mark, Mode, Refusal, Style, TokenKind}
use Rattle.ion_tokens.specs.declared.scanner.Scanner.{Scanner}
use Rattle.ion_tokens.specs.declared.token_reader.TokenReader.{TokenReader}
use Rattle.ion_tokens.specs.machine.Bounds.{is_idle}
use Rattle.ion_tokens.specs.machine.LetGo.{behind_gone}
use Rattle.ion_tokens.specs.machine.Machines.{known}
use Rattle.ion_tokens.specs.machine.Scanning.{Given, Known, Left, Next, Outcome, Refused}

-- what a reader beside a scanner keeps of the token that it found last
abbrev pub octets_in : TokenReader → List ℕ
octets_in t = t.machine.ended.items

-- and what it keeps of one that is open: nothing, as each of them says of itself
abbrev pub open_in_reader : TokenReader → List ℕ
open_in_reader t = t.machine.kept.items

-- what a scanner let go of the open token
abbrev pub gone_in : Scanner → List ℕ
gone_in s = s.gone.octets

-- what it knows between two octets, with what it let go
abbrev pub scanned : Scanner → Known
scanned s = behind_gone s.gone.octets (known s.machine)

-- the refusal that it answers from now on
abbrev pub failure : Scanner → Option Refusal
failure s = s.failed

-- whether the octet behind those that its last step used ended the token that this gave, and was left
abbrev pub left_in : Scanner → Bool
left_in s = s.machine.left

-- how many octets it took up, each as often as it did
abbrev pub looks : Scanner → ℕ
looks s = s.machine.looked

-- a / behind the open token, which may open a comment
abbrev pub behind : Mode → ℕ
behind Mode.NumberSlash = 1
behind Mode.OperatorSlash = 1
behind _ = 0

-- what is known of the open token
abbrev pub form_of : Mode → Form
form_of Mode.Quote = Form.Quote
form_of Mode.Quotes = Form.Quote
form_of (Mode.Text Style.LongString _) = Form.Long
form_of _ = Form.Other

-- the token that has begun
abbrev pub begun_in : Known → Option Begun
begun_in s = if is_idle s.mode then None else Some (record { start = s.start; end = s.used - behind s.mode; form = form_of s.mode })

-- how many octets are kept of it
abbrev pub held_in : Known → ℕ
held_in s = if is_idle s.mode then 0 else length s.kept

-- how many octets were used since it began
abbrev pub open_in : Known → ℕ
open_in s = if is_idle s.mode then 0 else s.used - s.start

-- what an octet shows that is used and ends no token
abbrev pub foresight_by : Form → Foresight
foresight_by Form.Other = Foresight.Other
foresight_by _ = Foresight.Long

-- what one shows that is the last of a token
abbrev pub foresight_at : TokenKind → Foresight
foresight_at (TokenKind.Mark Mark.Colons) = Foresight.Colons
foresight_at TokenKind.LongString = Foresight.Long
foresight_at _ = Foresight.Other

-- what one shows before which a token ended
abbrev pub foresight_behind : TokenKind → Foresight
foresight_behind TokenKind.QuotedSymbol = Foresight.Empty
foresight_behind _ = Foresight.Other

-- what an octet of which this comes shows of a token that may go on
abbrev pub foresight : Outcome → Foresight
foresight (Next s) = if is_idle s.mode then Foresight.Blank else foresight_by (form_of s.mode)
foresight (Given l s) = foresight_at l.kind
foresight (Left l s) = foresight_behind l.kind
foresight (Refused at reason) = Foresight.Other
