-- What a text says of which octets were let go: what the others say behind them.
use Rattle.std.proofs.Common.{◌≡◌, ℕ, true, refl, sym, subst, List, ◌++◌, length, take, arith}
use Rattle.std.specs.Prelude.{Ok, Err, IsUtf8}
use Rattle.std.proofs.lemmas.List.{length-append}
use Rattle.std.proofs.lemmas.Str.{IsCharBoundary-from_take, IsUtf8-drop}
use Rattle.std.proofs.Math.Seq.{take-append_seam, drop-append_seam}
use Rattle.ion_tokens.specs.Names.{BadUtf8, IsBody, Passes, TokenKind}
use Rattle.ion_tokens.specs.machine.LetGo.{is_string_kind, is_text_kind, text_content}

-- behind octets that are UTF-8, octets are UTF-8 if all of them are
rest_is_utf8 : (gone rest : List ℕ) → IsUtf8 gone → IsUtf8 (gone ++ rest) → IsUtf8 rest
rest_is_utf8 gone rest h all =
    let l = length-append gone rest in
    let front : IsUtf8 (take (length gone) (gone ++ rest)) = subst IsUtf8 (sym (take-append_seam gone rest)) h in
    subst IsUtf8 (drop-append_seam gone rest)
    (IsUtf8-drop (gone ++ rest) (length gone) all (IsCharBoundary-from_take (gone ++ rest) (length gone) all (omega arith) front))

-- a text says its octets, if they are UTF-8 where they have to be
pub says_text : (kind : TokenKind) (octets : List ℕ) → is_text_kind kind ≡ true → (is_string_kind kind ≡ true → IsUtf8 octets)
    → IsBody kind octets (Ok (text_content kind octets))
says_text TokenKind.ShortString octets h utf8 = (refl, utf8 refl)
says_text TokenKind.LongString octets h utf8 = (refl, utf8 refl)
says_text TokenKind.Clob octets h utf8 = refl
says_text TokenKind.Blob octets h utf8 = refl
says_text _ octets h utf8 = absurd cc

-- and it is no number
pub passes_text : (kind : TokenKind) (octets : List ℕ) → is_text_kind kind ≡ true → Passes kind octets
passes_text TokenKind.Number octets h = absurd cc
passes_text _ octets h = tt

-- a string whose rest isn't UTF-8 is refused
pub refuses_text : (kind : TokenKind) (gone rest : List ℕ) → is_string_kind kind ≡ true → IsUtf8 gone → (IsUtf8 rest → ⊥)
    → IsBody kind (gone ++ rest) (Err BadUtf8)
refuses_text TokenKind.ShortString gone rest h front none = (refl, λ all. none (rest_is_utf8 gone rest front all))
refuses_text TokenKind.LongString gone rest h front none = (refl, λ all. none (rest_is_utf8 gone rest front all))
refuses_text _ gone rest h front none = absurd cc
