use Rattle.std.proofs.Common.{subst}
use Rattle.std.proofs.lemmas.List.{take_rest}
use Rattle.ion_text.specs.Names.{FoundSymbol, payload_of}
use Rattle.ion_text.proofs.walk.scalars_inside.other_symbol_inside.Goals as goal

pub symbol_inside-requires-clause-found : goal.symbol_inside-requires-clause-found
symbol_inside-requires-clause-found g c = λ p q.
    subst (λ w. FoundSymbol p q w c.in-Some.scalar (payload_of c.in-Some.said)) (take_rest c.args.octets.now c.args.spot.now.at) (c.in-Some.ensures p q)
