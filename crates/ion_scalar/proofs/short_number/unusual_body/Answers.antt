use Rattle.std.proofs.lemmas.List.{take_rest}
use Rattle.ion_scalar.specs.text.laws.ShortNumbers.{scaled_whole}
use Rattle.ion_scalar.proofs.short_number.unusual_body.Goals as goal

pub returns-in-100 : goal.returns-in-100
returns-in-100 c =
    scaled_whole c.args.negative c.args.body.now c.args.whole.used c.args.whole.value c.scaled_decimal.result c.requires.run c.requires.whole
    (rw (take_rest c.args.body.now c.args.whole.used) at c.scaled_decimal.ensures)
