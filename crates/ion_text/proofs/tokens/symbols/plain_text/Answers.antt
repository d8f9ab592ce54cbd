use Rattle.std.proofs.Common.{◌-◌, Some, take, drop, refl}
use Rattle.ion_text.proofs.Symbols.{quoted_name, short_name}
use Rattle.ion_text.proofs.tokens.symbols.plain_text.Goals as goal

pub returns-in-Some-clause-name : goal.returns-in-Some-clause-name
returns-in-Some-clause-name c place rest =
    let n = c.in-Some.count in
    let kept = take (n - 2) (drop 1 c.args.octets.now) in
    short_name place rest c.args.octets.now n kept (Some kept) c.in-Some.ensures.text refl (c.in-Some.ensures.found place rest)

pub returns-clause-name : goal.returns-clause-name
returns-clause-name c place rest =
    let n = c.in_ok-count.count in
    let kept = take (n - 2) (drop 1 c.args.octets.now) in
    quoted_name place rest c.args.octets.now n kept (Some kept) c.in_ok-count.ensures.text refl (c.in_ok-count.ensures.found place rest)
