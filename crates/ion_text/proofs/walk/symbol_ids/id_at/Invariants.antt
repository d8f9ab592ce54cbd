use Rattle.std.proofs.Common.{◌≡◌, ◌<◌, ◌≤◌, ◌-◌, true, length, take, drop}
use Rattle.std.specs.List.{list_all}
use Rattle.ion_text.specs.Names.{is_digit, number_in}
use Rattle.ion_text.proofs.walk.symbol_ids.id_at.Given as goal

-- the octets before `count` are `$` and digits, whose number is the id
abbrev pub invariant-loop-count : goal.invariant-loop-count
invariant-loop-count l = record {
  some : 1 < l.count;
  within : l.count ≤ length l.octets;
  bounded : l.id ≤ 2147483649;
  number : number_in 0 (drop 1 (take l.count l.octets)) ≡ l.id;
  digits : list_all is_digit (drop 1 (take l.count l.octets)) ≡ true;
}

abbrev pub decreases-loop-count : goal.decreases-loop-count
decreases-loop-count l = length l.octets - l.count
