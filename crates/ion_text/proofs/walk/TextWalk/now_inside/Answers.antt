use Rattle.std.proofs.Common.{◌∙◌, sym}
use Rattle.ion_text.proofs.Inside.{stands_if}
use Rattle.ion_text.proofs.walk.TextWalk.now_inside.Goals as goal

pub returns-clause-stands : goal.returns-clause-stands
returns-clause-stands c =
    stands_if c.args.self.now c.in_ok-bracket.bracket c.now_in.result (c.is_plain.ensures c.if-not-is_plain.false)
    (sym c.innermost.ensures ∙ c.in_ok-bracket.was) c.now_in.ensures.bracket
