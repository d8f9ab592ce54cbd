use Rattle.std.proofs.Common.{◌∙◌, ap, sym}
use Rattle.ion_binary.specs.Names.{Known, Sized, long, short}
use Rattle.ion_binary.proofs.lengths.lengths.Goals as goal

pub returns-in-Known-clause-header : goal.returns-in-Known-clause-header
returns-in-Known-clause-header c = λ form b e. short b (e ∙ ap (λ s. Sized form s) (c.in-Known.is ∙ ap Known (sym c.from.ensures)))

pub returns-in_ok-count-in-Follows-clause-header : goal.returns-in_ok-count-in-Follows-clause-header
returns-in_ok-count-in-Follows-clause-header c =
    λ form b e. long b _ (e ∙ ap (λ s. Sized form s) c.in-Follows.is) c.in_ok-count-in-Follows.ensures.is
