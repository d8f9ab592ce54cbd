use Rattle.std.proofs.Common.{◌≤◌, sym, subst, arith}
use Rattle.std.proofs.lemmas.List.{length-take}
use Rattle.ion_tokens.specs.Names.{Each, is_raw}
use Rattle.ion_tokens.proofs.runs.GoesOn.{each_front, front_all}
use Rattle.ion_tokens.proofs.texts.Characters.{each_shorter}
use Rattle.ion_tokens.proofs.front.characters_between.Goals as goal

pub returns-then-is_utf8-clause-raw : goal.returns-then-is_utf8-clause-raw
returns-then-is_utf8-clause-raw c =
    let class = is_raw c.args.long c.args.quote in
    subst (Each class) (sym (front_all class c.args.octets.now c.all_raw-count.result c.all_raw-count.ensures)) (each_front class c.args.octets.now)

-- up to a character that isn't well formed, or is cut
pub returns-in-Err-clause-raw : goal.returns-in-Err-clause-raw
returns-in-Err-clause-raw c =
    let class = is_raw c.args.long c.args.quote in
    let octets = c.args.octets.now in
    let count = c.all_raw-count.result in
    let fewer : c.valid_up_to.result ≤ count = let short = c.in-Err.ensures.cases.1.short in let l = length-take count octets in let is =
    c.valid_up_to.ensures in omega arith in
    each_shorter class octets c.valid_up_to.result count fewer
    (subst (Each class) (sym (front_all class octets count c.all_raw-count.ensures)) (each_front class octets))
