-- What words are as values.
use Rattle.std.specs.Prelude.{◌≡◌, ⊤, ℕ, List, Some, Ok, true, false}
use Rattle.ion_text.specs.Names.{Kind, held_payload, held_word}
use Rattle.ion_text.specs.declared.tokens.finders.WordKind.{WordKind}
use Rattle.ion_model.specs.declared.value.Payload.TheVariants as payloads

-- A word of this kind is that value. Of `nan`, which is a float, nothing is said.
abbrev pub IsWordKind : List ℕ → WordKind → Type 0
IsWordKind w WordKind.Null = held_payload (held_word w) ≡ Ok (payloads.Null Kind.Null)
IsWordKind w WordKind.True = held_payload (held_word w) ≡ Ok (payloads.Truth true)
IsWordKind w WordKind.False = held_payload (held_word w) ≡ Ok (payloads.Truth false)
IsWordKind w WordKind.Nan = ⊤
IsWordKind w WordKind.Symbol = held_payload (held_word w) ≡ Ok (payloads.Symbol (Some w))
