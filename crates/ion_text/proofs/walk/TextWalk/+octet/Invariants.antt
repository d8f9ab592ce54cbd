use Rattle.std.proofs.Common.{◌+◌, ◌*◌}
use Rattle.ion_text.proofs.walk.TextWalk.+octet.Given as goal

abbrev pub decreases-scan_octet : goal.decreases-scan_octet
decreases-scan_octet g l = 2 * l.tokens + 1

abbrev pub decreases-read_octet : goal.decreases-read_octet
decreases-read_octet g l = 2 * l.tokens
