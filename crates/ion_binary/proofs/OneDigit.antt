-- Numbers of one octet, as they are read.
use Rattle.std.proofs.Common.{◌≡◌, ℕ, ◌+◌, ◌-◌, ◌<◌, ◌≤◌, List, [], ◌∷◌, length, take, get_or, ap, sym, arith}
use Rattle.ion_binary.specs.Names.{VarUInt, none, positional_one}

-- a VarUInt of one octet
pub one_digit : (octets : List ℕ) → 0 < length octets → 128 ≤ get_or octets 0 0 → get_or octets 0 0 < 256 → VarUInt (take 1 octets) (get_or octets 0 0 - 128)
one_digit [] some last octet = absurd (omega arith)
one_digit (b ∷ bs) some last octet =
    let same : b ≡ 128 + (b - 128) = omega arith in
    record {
      digits = [];
      last = b - 128;
      small = none;
      octets = ap (λ d. d ∷ []) same;
      value = sym (positional_one 128 (b - 128));
      bound = omega arith;
    }
