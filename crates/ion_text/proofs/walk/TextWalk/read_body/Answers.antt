use Rattle.ion_text.proofs.SaidThere.{says_part}
use Rattle.ion_text.proofs.walk.TextWalk.read_body.Goals as goal

pub read_scalar-requires-clause-found : goal.read_scalar-requires-clause-found
read_scalar-requires-clause-found g c = says_part _ _ _ _ _ _ c.requires.says c.in-Some.ensures.value

pub read_word-requires-clause-found : goal.read_word-requires-clause-found
read_word-requires-clause-found g c = record {
  part = says_part _ _ _ _ _ _ c.requires.says c.in-Some.ensures.value;
  waits = c.if-not-waits.false;
  free = c.in-Some.ensures.free;
}
