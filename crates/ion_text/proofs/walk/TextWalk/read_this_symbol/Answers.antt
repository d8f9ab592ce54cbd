use Rattle.ion_text.proofs.walk.TextWalk.read_this_symbol.Goals as goal

pub read_word-requires-clause-found : goal.read_word-requires-clause-found
read_word-requires-clause-found g c = c.requires.found c.place-here.result c.args.rest.now
