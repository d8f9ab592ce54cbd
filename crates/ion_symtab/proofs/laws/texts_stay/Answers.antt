use Rattle.std.proofs.Common.{subst}
use Rattle.ion_symtab.specs.laws.ContextTexts.{TextAnswer, system_are_texts, resolved_text, next_texts}
use Rattle.ion_symtab.proofs.laws.texts_stay.Goals as goal

pub returns : goal.returns
returns c = record {
  system = system_are_texts;
  behind = λ old d v g tables slots kept e. subst TextAnswer e (next_texts old v g tables slots kept);
  symbols = resolved_text;
}
