-- What is borrowed of a piece.
use Rattle.std.specs.Prelude.{◌≡◌, ◌≢◌, ℕ, ◌+◌, ◌-◌, ◌<◌, ◌≤◌, List, [], length, take, drop}
use Rattle.std.specs.Cow.{cow_str_bytes, IsBorrowedStr, IsOwnedStr}
use Rattle.ion_tokens.specs.Names.Below.{Body, Place, Token}
use Rattle.ion_tokens.specs.Lexed.{Placed}
use Rattle.ion_tokens.specs.machine.Scanned.{Continues, Scanned}
use Rattle.ion_tokens.specs.machine.Scanning.{Known}

-- A word or an operator that begins at `start` is borrowed where it lies whole in the piece behind `before` octets, and else owned.
abbrev pub IsLentBody : ℕ → ℕ → Body → Type 0
IsLentBody before start (Body.Word w) = (before ≤ start → IsBorrowedStr w) × (start < before → IsOwnedStr w)
IsLentBody before start (Body.Operator w) = (before ≤ start → IsBorrowedStr w) × (start < before → IsOwnedStr w)
IsLentBody before start _ = Unit {0}

-- So of the token that a step over a piece gave, behind all octets and tokens told that led to what the scanner knew.
abbrev pub LendsWhole : Place → Known → List ℕ → Token → Type 0
LendsWhole p s piece t =
    (u : List ℕ) (ts : List Placed) (ahead : List ℕ) → Scanned p s u ts ahead → Continues piece ahead → IsLentBody s.used t.start t.body

-- a word or an operator is owned
abbrev pub IsOwnedBody : Body → Type 0
IsOwnedBody (Body.Word w) = IsOwnedStr w
IsOwnedBody (Body.Operator w) = IsOwnedStr w
IsOwnedBody _ = Unit {0}

-- so of the token that an end gave
abbrev pub OwnsLast : Place → Known → Token → Type 0
OwnsLast p s t = (u : List ℕ) (ts : List Placed) → Scanned p s u ts [] → IsOwnedBody t.body

-- these octets of the piece behind `before` octets stand there from `start` to `end`, and none are of it where that begins before it
pub record StandIn (before start end : ℕ) (piece lent : List ℕ) : Type 0 where
  pub here : before ≤ start → start ≤ end → end ≤ before + length piece → lent ≡ take (end - start) (drop (start - before) piece)
  pub none : start < before → lent ≡ []

-- a word or an operator with the octets that are lent is borrowed, and with others owned
abbrev pub BorrowsFrom : List ℕ → Body → Type 0
BorrowsFrom lent (Body.Word w) = (cow_str_bytes w ≡ lent → IsBorrowedStr w) × (cow_str_bytes w ≢ lent → IsOwnedStr w)
BorrowsFrom lent (Body.Operator w) = (cow_str_bytes w ≡ lent → IsBorrowedStr w) × (cow_str_bytes w ≢ lent → IsOwnedStr w)
BorrowsFrom lent _ = Unit {0}

-- so with the octets that stand in the piece where the token does
abbrev pub BorrowsAt : ℕ → ℕ → ℕ → List ℕ → Body → Type 0
BorrowsAt before start end piece (Body.Word w) = (lent : List ℕ) × StandIn before start end piece lent × BorrowsFrom lent (Body.Word w)
BorrowsAt before start end piece (Body.Operator w) = (lent : List ℕ) × StandIn before start end piece lent × BorrowsFrom lent (Body.Operator w)
BorrowsAt before start end piece _ = Unit {0}
