use Rattle.std.proofs.Common.{◌∙◌, sym, arith}
use Rattle.ion_binary.specs.Names.{uint_field}
use Rattle.ion_binary.proofs.Scalars.{symbol_past}
use Rattle.ion_binary.proofs.walking.scalars.symbol_of.Goals as goal

pub returns-then-id-max_id : goal.returns-then-id-max_id
returns-then-id-max_id c =
    symbol_past c.args.context.now c.in_ok-id.id (uint_field c.args.body.now) (sym c.uint_of.ensures ∙ c.in_ok-id.was)
    (omega (arith, c.max_id.ensures.count, c.if-id-max_id.true))
