-- What octets are refused for as they are cut into tokens has no row.
use Rattle.ion_refusals.specs.Names.{HasRow, Reason}
use Rattle.ion_text.specs.laws.reading.Reasons.{IsLexical}

pub lexical_none : (e : Reason) → IsLexical e → HasRow e → ⊥
lexical_none Reason.Float h i = i
lexical_none Reason.BadEscape h i = i
lexical_none Reason.BadUtf8 h i = i
lexical_none Reason.BadBase64 h i = i
lexical_none Reason.Ambiguous h i = i
lexical_none Reason.Unexpected h i = i
lexical_none Reason.TooLarge h i = i
lexical_none Reason.Malformed h i = i
lexical_none _ h i = absurd h
