-- The scanner as a machine: the table, and what is kept of the open token. Its tokens aren't judged yet.
use Rattle.std.specs.Prelude.{ℕ, ◌+◌, ◌-◌, ◌==◌, Bool, false, ◌&&◌, if◌then◌else◌, List, [], ◌∷◌, ◌++◌, length, take, codes, encode_utf8, bytes_eq, Option, Some, None, Result, Ok, Err}
use Rattle.ion_tokens.specs.Names.Below.{Action, End, Keep, Lob, Mode, Place, Reason, TokenKind}
use Rattle.ion_tokens.specs.Blobs.{blob_of}
use Rattle.ion_tokens.specs.Lexemes.{Lexeme, takes_colon}
use Rattle.ion_tokens.specs.machine.Table.{end_of, next}

-- what the scanner knows between two octets
pub record Known : Type 0 where
  pub mode : Mode
  -- the octets that are kept of the open token
  pub kept : List ℕ
  -- whether a colon may stand behind the token before
  pub colon : Bool
  -- where the open token begins, or the last one ended
  pub start : ℕ
  -- how many octets were used
  pub used : ℕ

-- before any octet
abbrev pub initial : Known
initial = record { mode = Mode.Blank; kept = []; colon = false; start = 0; used = 0 }

-- what comes of octets
pub data Outcome : Type 0 where
  -- all are used
  Next : Known → Outcome
  -- the last one is used and ends a token
  Given : Lexeme → Known → Outcome
  -- a token ended before the last one, which isn't used
  Left : Lexeme → Known → Outcome
  -- so many octets of the document decide that none begins with them
  Refused : ℕ → Reason → Outcome

-- the octets that are kept behind one of which this is kept
abbrev pub kept_after : Keep → List ℕ → List ℕ
kept_after Keep.Nothing k = k
kept_after (Keep.One o) k = k ++ o ∷ []
kept_after (Keep.Two o p) k = (k ++ o ∷ []) ++ p ∷ []
kept_after (Keep.Character c) k = k ++ encode_utf8 c
kept_after Keep.DropQuotes k = take (length k - 2) k

-- where a token begins that is open behind the next octet
abbrev pub start_of : Mode → ℕ → ℕ → ℕ
start_of Mode.Blank start used = used
start_of Mode.Slash start used = used - 1
start_of _ start used = start

-- the used octets that are left to a token that follows
abbrev pub left_of : Mode → ℕ
left_of Mode.Slash = 1
left_of _ = 0

-- the octet is used
abbrev pub go_to : Known → Mode → List ℕ → Known
go_to s m k = record { mode = m; kept = k; colon = s.colon; start = start_of s.mode s.start s.used; used = s.used + 1 }

-- a token that ends here
abbrev pub cut : Known → TokenKind → List ℕ → ℕ → Lexeme
cut s kind k end = record { start = start_of s.mode s.start s.used; end = end; kind = kind; octets = k }

-- behind a token
abbrev pub past : Place → TokenKind → Mode → List ℕ → ℕ → ℕ → Known
past p kind m k start used = record { mode = m; kept = k; colon = takes_colon p kind; start = start; used = used }

-- at the first brace of a blob's close
abbrev pub blob_ends : Known → Option (List ℕ) → Outcome
blob_ends s None = Refused (s.used + 1) Reason.BadBase64
blob_ends s (Some octets) = Next (go_to s (Mode.Lob Lob.BlobClose) octets)

-- an operator ended before so many letters of `inf`, which begin a word
abbrev pub split_at : Place → Known → ℕ → Outcome
split_at p s n = Left (cut s TokenKind.Operator s.kept (s.used - n)) (past p TokenKind.Operator Mode.Word (take n (codes "inf")) (s.used - n) s.used)

-- what comes of an action at an octet
abbrev pub acts : Place → Known → ℕ → Action → Outcome
acts p s o (Action.Go m k) = Next (go_to s m (kept_after k s.kept))
acts p s o (Action.Give kind k) = Given (cut s kind (kept_after k s.kept) (s.used + 1)) (past p kind Mode.Blank [] (s.used + 1) (s.used + 1))
acts p s o (Action.Before kind k m) = Left (cut s kind (kept_after k s.kept) (s.used - left_of m)) (past p kind m [] (s.used - left_of m) s.used)
acts p s o Action.EndWord =
    if (o == 46) && bytes_eq s.kept (codes "null") then Next (go_to s Mode.KindName [])
    else Left (cut s TokenKind.Word s.kept s.used) (past p TokenKind.Word Mode.Blank [] s.used s.used)
acts p s o (Action.Split n) = split_at p s n
acts p s o Action.EndBlob = blob_ends s (blob_of s.kept)
acts p s o (Action.Refuse e) = Refused (s.used + 1) e

-- one octet
abbrev pub feed : Place → Known → ℕ → Outcome
feed p s o = acts p s o (next p s.colon s.mode o)

-- what comes of more octets, unless a token or a refusal came already
abbrev pub follow : Outcome → (Known → Outcome) → Outcome
follow (Next s) f = f s
follow o f = o

-- octets up to the first token
abbrev pub run : Place → List ℕ → Known → Outcome
run p [] s = Next s
run p (o ∷ os) s = follow (feed p s o) (λ s'. run p os s')

-- what the end of the octets shows: the token that it ends, if one is open, or why they are none
abbrev pub ends_at : Known → End → Result (Option Lexeme) Reason
ends_at s End.Blank = Ok None
ends_at s (End.Token kind k) = Ok (Some (cut s kind (kept_after k s.kept) s.used))
ends_at s (End.Refuse reason) = Err reason

-- what the end of the input shows in the scanner's mode
abbrev pub at_end : Place → Known → Result (Option Lexeme) Reason
at_end p s = ends_at s (end_of p s.mode)
