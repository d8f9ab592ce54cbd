use Rattle.std.proofs.Common.{◌≡◌, ◌≤◌, ◌++◌, take, drop, length}
use Rattle.std.specs.Int.Digits.{digits_of}
use Rattle.ion_binary.specs.Names.{var_uint_octets}
use Rattle.ion_binary.proofs.writer.framing.insert_length.Given as goal

-- with the digits that are left, the octets are those with all
abbrev pub invariant-loop-rest : goal.invariant-loop-rest
invariant-loop-rest l = record {
  within : l.place ≤ length l.out.items;
  octets : take l.place l.out.items ++ (digits_of 128 l.rest ++ drop l.place l.out.items)
      ≡ take l.place l.fn.out.items ++ (var_uint_octets l.length ++ drop l.place l.fn.out.items);
}

abbrev pub decreases-loop-rest : goal.decreases-loop-rest
decreases-loop-rest l = l.rest
