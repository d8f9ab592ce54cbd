-- How much a scanner keeps, and how often it looks at an octet.
use Rattle.std.specs.Prelude.{◌≡◌, ℕ, ◌+◌, ◌-◌, ◌*◌, ◌≤◌, Bool, true, false, [], length}
use Rattle.ion_tokens.specs.Names.Below.{Lob, Mode, Within}
use Rattle.ion_tokens.specs.machine.Scanning.{Given, Known, Left, Next, Outcome, Refused, start_of}

-- no token has begun that surely is one
abbrev pub is_idle : Mode → Bool
is_idle Mode.Blank = true
is_idle Mode.Slash = true
is_idle Mode.LineComment = true
is_idle Mode.BlockComment = true
is_idle Mode.BlockCommentStar = true
is_idle Mode.Colon = true
is_idle _ = false

-- so many octets of an escape surely aren't kept
abbrev pub unkept_within : Within → ℕ
unkept_within Within.Escape = 1
unkept_within (Within.Hexadecimal _ left _) = 4 - left
unkept_within _ = 0

abbrev pub unkept_lob : Lob → ℕ
unkept_lob Lob.BlobClose = 0
unkept_lob _ = 2

-- so many octets of the open token surely aren't kept
abbrev pub unkept : Mode → ℕ
unkept Mode.Slash = 1
unkept Mode.NumberSlash = 1
unkept Mode.OperatorSlash = 1
unkept (Mode.Infinity letters) = letters
unkept Mode.Quote = 1
unkept Mode.Quotes = 2
unkept (Mode.Text _ w) = 1 + unkept_within w
unkept Mode.Brace = 1
unkept (Mode.Lob l) = unkept_lob l
unkept _ = 0

-- so many octets may be taken up again before another is used
abbrev pub debt : Mode → ℕ
debt Mode.Blank = 0
debt Mode.NumberSlash = 2
debt Mode.OperatorSlash = 2
debt (Mode.Infinity _) = 2
debt _ = 1

-- what a scanner that began with no octets always knows, with the octets that it took up
pub record IsSteady (s : Known) (looked : ℕ) : Type 0 where
  pub each : s.used ≤ looked
  pub twice : looked + debt s.mode ≤ 2 * s.used
  pub idle : is_idle s.mode ≡ true → s.kept ≡ []
  pub within : length s.kept + unkept s.mode + start_of s.mode s.start s.used ≤ s.used

-- the same of what comes of octets
abbrev pub StaysSteady : Outcome → ℕ → Type 0
StaysSteady (Next s) looked = IsSteady s looked
StaysSteady (Given l s) looked = IsSteady s looked
StaysSteady (Left l s) looked = IsSteady s looked
StaysSteady (Refused at reason) looked = Unit {0}

-- So many octets were taken up from a piece, behind `before` that were used, for what came of it: those used, and the one that was left
-- or refused.
abbrev pub taken_up : ℕ → Outcome → ℕ
taken_up before (Next s) = s.used - before
taken_up before (Given l s) = s.used - before
taken_up before (Left l s) = (s.used - before) + 1
taken_up before (Refused at reason) = at - before
