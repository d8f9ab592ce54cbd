-- Blanks and tokens that lie whole in memory, read where a scanner rests.
use Rattle.std.specs.Prelude.{◌≡◌, ℕ, ◌+◌, ◌-◌, ◌≤◌, ◌<◌, ◌==◌, Bool, true, false, if◌then◌else◌, List, [], ◌∷◌, length, take, slice_index}
use Rattle.ion_tokens.specs.Names.Below.{Mode, Place, Rest, TokenKind}
use Rattle.ion_tokens.specs.Lexemes.{Lexeme, takes_colon}
use Rattle.ion_tokens.specs.machine.Scanning.{Given, Known, Left, Next, Outcome, feed, run}

-- no token is open, and none keeps octets
abbrev pub resting : Rest → Known
resting r = record { mode = Mode.Blank; kept = []; colon = r.colon; start = r.start; used = r.used }

-- behind so many octets of a blank
abbrev pub past_blank : Rest → ℕ → Rest
past_blank r n = if n == 0 then r else record { start = r.used + (n - 1); used = r.used + n; colon = r.colon }

-- behind a token of this kind with so many octets
abbrev pub past_token : Place → Rest → TokenKind → ℕ → Rest
past_token p r kind n = record { start = r.used + n; used = r.used + n; colon = takes_colon p kind }

-- such a token
abbrev pub lexeme_at : Rest → TokenKind → List ℕ → ℕ → Lexeme
lexeme_at r kind kept n = record { start = r.used; end = r.used + n; kind = kind; octets = kept }

-- how many octets stand before the one that shows the end of a token of n: the octet behind it, or its last
abbrev pub before_end : Bool → ℕ → ℕ
before_end true n = n
before_end false n = n - 1

-- that octet ends the token, and is left or used
abbrev pub ended : Bool → Lexeme → Known → Outcome
ended true = Left
ended false = Given

-- the octet that was left behind a token of n octets, and must come next, or none
abbrev pub left_after : Bool → ℕ → List ℕ → List ℕ
left_after true n octets = slice_index octets n ∷ []
left_after false n octets = []

-- Octets begin with so many of a blank.
abbrev pub IsPassed : List ℕ → ℕ → Type 0
IsPassed octets n = (p : Place) (r : Rest) → run p (take n octets) (resting r) ≡ Next (resting (past_blank r n))

-- Octets begin with so many of a blank, comments among them: where a scanner rested before it, and where it rests behind it.
pub record RestsBehind (octets : List ℕ) (n : ℕ) (before after : Rest) : Type 0 where
  pub ran : (p : Place) → run p (take n octets) (resting before) ≡ Next (resting after)
  pub within : n ≤ length octets
  pub used : after.used ≡ before.used + n

-- behind a comment of so many octets
abbrev pub past_comment : Rest → ℕ → Rest
past_comment r n = record { start = r.used; used = r.used + n; colon = r.colon }

-- In this place, where the scanner rests, octets begin with a token of n octets, of which these are kept, and its end shows in them:
-- by the octet behind it, which is left, or by its last.
pub record IsFound (p : Place) (r : Rest) (octets : List ℕ) (kind : TokenKind) (kept : List ℕ) (n : ℕ) (left : Bool) : Type 0 where
  pub some : 0 < n
  pub shown : before_end left n < length octets
  -- what the scanner knows before the octet that shows the end
  pub known : Known
  pub ran : run p (take (before_end left n) octets) (resting r) ≡ Next known
  pub ends : feed p known (slice_index octets (before_end left n)) ≡ ended left (lexeme_at r kind kept n) (resting (past_token p r kind n))
