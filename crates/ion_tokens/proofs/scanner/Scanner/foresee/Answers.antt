use Rattle.std.proofs.Common.{◌≡◌, ap, sym, subst, ◌∙◌}
use Rattle.ion_tokens.specs.Names.{ForeseenSo, acts, feed, foresight}
use Rattle.ion_tokens.specs.machine.Views.{scanned}
use Rattle.ion_tokens.proofs.foreseen.Foresights.{foreseen}
use Rattle.ion_tokens.proofs.scanner.Scanner.foresee.Goals as goal

pub returns-clause-foresees : goal.returns-clause-foresees
returns-clause-foresees c = λ u ts h.
    let s = scanned c.args.self.now in
    let same : c.shown.result ≡ foresight (feed c.args.place s c.args.octet) =
    c.shown.ensures c.args.place s c.args.octet ∙ ap (λ a. foresight (acts c.args.place s c.args.octet a)) c.next.ensures in
    subst (λ f. ForeseenSo c.args.place u ts c.args.octet f) (sym same) (foreseen c.args.place s u ts h c.args.octet)
