use Rattle.std.proofs.Common.{rules}
use Rattle.ion_tokens.proofs.runs.LobsAtOnce.{white_adds, base64_adds}
use Rattle.ion_tokens.proofs.lobs_at_once.content_part.Goals as goal

-- white octets
pub returns-then-blank-gt0-clause-adds : goal.returns-then-blank-gt0-clause-adds
returns-then-blank-gt0-clause-adds c = white_adds c.args.octets.now _ _ c.white-blank.ensures

-- base64
pub returns-clause-adds : goal.returns-clause-adds
returns-clause-adds c = base64_adds c.args.octets.now _ _ _ c.of_base64-count.ensures (search rules)
