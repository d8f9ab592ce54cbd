use Rattle.std.proofs.Common.{rules, ◌≡◌, ◌∙◌, map, length, sym}
use Rattle.std.specs.Prelude.{◌==◌, false}
use Rattle.clap.specs.Words.{app_of}
use Rattle.ion_words.proofs.Found.{found, refused, mapped_some}
use Rattle.ion_words.proofs.words.parse.Goals as goal

pub returns-in-Some-clause-asked : goal.returns-in-Some-clause-asked
returns-in-Some-clause-asked g c =
    let filled : (length c.args.words.now == 0) ≡ false = search rules in
    let some = mapped_some g.S.AsStr.text c.args.words.now filled in
    found (map g.S.AsStr.text c.args.words.now) some (app_of c.in_ok-program.program) c.in_ok-program.ensures c.in-Ok.matches c.in-Ok.ensures.kinds
    c.in-Ok.ensures.matches
    ∙ sym c.in-Some.ensures.asked

pub returns-in-Ok-clause-asked : goal.returns-in-Ok-clause-asked
returns-in-Ok-clause-asked g c =
    let filled : (length c.args.words.now == 0) ≡ false = search rules in
    let some = mapped_some g.S.AsStr.text c.args.words.now filled in
    λ usage. found (map g.S.AsStr.text c.args.words.now) some (app_of c.in_ok-program.program) c.in_ok-program.ensures c.in-Ok.matches c.in-Ok.ensures.kinds
    c.in-Ok.ensures.matches
    ∙ sym c.in-None.ensures.asked

pub returns-clause-asked : goal.returns-clause-asked
returns-clause-asked g c =
    let filled : (length c.args.words.now == 0) ≡ false = search rules in
    let some = mapped_some g.S.AsStr.text c.args.words.now filled in
    refused (map g.S.AsStr.text c.args.words.now) some (app_of c.in_ok-program.program) c.in_ok-program.ensures c.in-Err.error c.in-Err.ensures.kinds
    c.refusal.result c.refusal.ensures
