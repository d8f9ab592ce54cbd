use Rattle.std.proofs.Common.{refl}
use Rattle.ion_text.specs.Names.{Held}
use Rattle.ion_text.proofs.SaidThere.{id_waits}
use Rattle.ion_text.proofs.walk.TextWalk.read_id_annotation.Goals as goal

pub read_known_annotation-requires-clause-there : goal.read_known_annotation-requires-clause-there
read_known_annotation-requires-clause-there g c = record {
  held = Held.Symbol c.in-Ok.symbol;
  there =
      id_waits c.args.self.now.context c.args.rest.now c.args.octets.now c.args.token c.args.id c.in-Ok.symbol c.requires.word c.in-Ok.ensures c.args.here
      c.requires.says;
  is = refl;
}
