use Rattle.std.proofs.Common.{Some, subst}
use Rattle.std.proofs.lemmas.List.{take_rest}
use Rattle.ion_text.specs.Names.{BeginsName, Place}
use Rattle.ion_text.proofs.walk.scalars_inside.quoted_key_inside.Goals as goal

pub key_inside-requires-clause-found : goal.key_inside-requires-clause-found
key_inside-requires-clause-found g c = λ rest.
    subst (λ d. BeginsName Place.Name rest d c.in-Some.token (Some c.in-Some.text.now)) (take_rest c.args.octets.now c.args.spot.now.at)
    (c.in-Some.ensures Place.Name rest)
