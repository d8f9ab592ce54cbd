use Rattle.std.proofs.Common.{◌≡◌, List, ℕ, true, string_bytes}
use Rattle.ion_text.specs.machine.LongStrings.{LongSoFar}
use Rattle.ion_text.proofs.tokens.long_strings.join_segments.Given as goal

-- the octets before `at` are segments and blanks
abbrev pub invariant-loop : goal.invariant-loop
invariant-loop l = (said : List ℕ) × LongSoFar l.here l.fn.rest l.octets l.at l.behind said × (l.joins ≡ true → string_bytes l.text ≡ said)
