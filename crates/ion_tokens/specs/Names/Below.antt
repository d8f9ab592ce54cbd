-- What Names passes on and what rests on no file of `specs/` here: types, and definitions of the crates below.
pub use Rattle.ion_atoms.specs.Octets.{AreOctets}
pub use Rattle.ion_atoms.specs.Texts.{minus}
pub use Rattle.ion_atoms.specs.declared.kind.Kind.{Kind}
pub use Rattle.ion_atoms.specs.declared.refusal.Reason.{Reason}
pub use Rattle.ion_atoms.specs.declared.refusal.Reason.TheVariants.{BadUtf8, Incomplete, Memory}
pub use Rattle.ion_atoms.specs.declared.refusal.Refusal.{Refusal}
pub use Rattle.ion_scalar.specs.declared.number.Number.{Number}
pub use Rattle.ion_scalar.specs.text.Ints.{BeginsWithMinus, IsDigits, IsMagnitude, IsRadix, IsWholePart}
pub use Rattle.ion_scalar.specs.text.Numbers.{Fits, IsBehind, IsNumber, IsNumeral, IsThere, ReadsNumber}
pub use Rattle.ion_tokens.specs.declared.machine.Lexeme.{Lexeme as Ended}
pub use Rattle.ion_tokens.specs.declared.machine.Machine.{Machine}
pub use Rattle.ion_tokens.specs.declared.mode.Action.{Action}
pub use Rattle.ion_tokens.specs.declared.mode.Digits.{Digits}
pub use Rattle.ion_tokens.specs.declared.mode.End.{End}
pub use Rattle.ion_tokens.specs.declared.mode.Ending.{Ending}
pub use Rattle.ion_tokens.specs.declared.mode.Keep.{Keep}
pub use Rattle.ion_tokens.specs.declared.mode.Lob.{Lob}
pub use Rattle.ion_tokens.specs.declared.mode.Mark.{Mark}
pub use Rattle.ion_tokens.specs.declared.mode.Mode.{Mode}
pub use Rattle.ion_tokens.specs.declared.mode.Place.{Place}
pub use Rattle.ion_tokens.specs.declared.mode.Style.{Style}
pub use Rattle.ion_tokens.specs.declared.mode.TokenKind.{TokenKind}
pub use Rattle.ion_tokens.specs.declared.mode.Within.{Within}
pub use Rattle.ion_tokens.specs.declared.plain_tokens.Rest.{Rest}
pub use Rattle.ion_tokens.specs.declared.token.Begun.{Begun}
pub use Rattle.ion_tokens.specs.declared.token.Body.{Body}
pub use Rattle.ion_tokens.specs.declared.token.Foresight.{Foresight}
pub use Rattle.ion_tokens.specs.declared.token.Form.{Form}
pub use Rattle.ion_tokens.specs.declared.token.Scan.{Scan}
pub use Rattle.ion_tokens.specs.declared.token.TextKind.{TextKind}
pub use Rattle.ion_tokens.specs.declared.token.Token.{Token}
