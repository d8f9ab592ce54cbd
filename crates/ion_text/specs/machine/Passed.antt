-- What a token says, and that it passes then.
use Rattle.std.proofs.Common.{◌≡◌, ℕ, List, Ok, subst}
use Rattle.ion_text.specs.Names.Below.{Content, IsBody, TokenKind, said, says}
use Rattle.ion_tokens.specs.Lexed.{Passes}
use Rattle.ion_tokens.specs.laws.Judged.{body_passes}

-- what a token is read as is what it says
pub said_body : (k : TokenKind) (octets : List ℕ) (c : Content) → said k octets ≡ Ok c → IsBody k octets (Ok c)
said_body k octets c e = subst (λ x. IsBody k octets x) e (says k octets)

-- a token that says something isn't refused when it is judged
pub said_passes : (k : TokenKind) (octets : List ℕ) (c : Content) → said k octets ≡ Ok c → Passes k octets
said_passes k octets c e = body_passes k octets c (said_body k octets c e)
