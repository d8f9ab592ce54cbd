use Rattle.std.proofs.Common.{◌<◌, length, arith}
use Rattle.ion_spelling.proofs.LongWords.{long_free}
use Rattle.ion_spelling.proofs.keywords.may_be_keyword.Goals as goal

pub returns-then-octets-gt5 : goal.returns-then-octets-gt5
returns-then-octets-gt5 c = λ e.
    let long : 5 < length c.args.word.now = omega (arith, c.if-octets-gt5.true, c.as_bytes-octets.ensures) in
    long_free c.args.word.now long
