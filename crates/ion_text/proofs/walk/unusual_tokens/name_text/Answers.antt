use Rattle.std.proofs.Common.{Some, ap, sym, subst}
use Rattle.ion_text.specs.Names.{Names}
use Rattle.ion_tokens.specs.Bodies.{content}
use Rattle.ion_text.proofs.walk.unusual_tokens.name_text.Goals as goal

pub returns-in-Quoted : goal.returns-in-Quoted
returns-in-Quoted c = subst (λ b. Names (content b) (Some c.as_str.result.now)) (sym c.in-Quoted.is) (ap Some c.as_str.ensures)

pub returns-in-Short : goal.returns-in-Short
returns-in-Short c = subst (λ b. Names (content b) (Some c.as_str-in-Short.result.now)) (sym c.in-Short.is) (ap Some c.as_str-in-Short.ensures)
