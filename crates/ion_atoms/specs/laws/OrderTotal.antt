-- The orders of decimals and of timestamps are total.
use Rattle.std.proofs.Common.{rules}
use Rattle.std.specs.Cmp.{IsTotalOrder}
use Rattle.std.specs.Cmp.Rules.{comparing}
use Rattle.std.specs.Cmp.Lexicographic.{options_total}
use Rattle.std.proofs.lemmas.Cmp.{then_total, on_total, nat_cmp_total, int_cmp_total}
use Rattle.ion_atoms.specs.Decimals.{decimal_cmp}
use Rattle.ion_atoms.specs.Timestamps.{precision_rank, date_cmp, time_cmp, timestamp_cmp}

-- the order of decimals is total
pub decimal_cmp-total : IsTotalOrder decimal_cmp
decimal_cmp-total = search (comparing, rules) depth 12

-- the order of timestamps is total
pub timestamp_cmp-total : IsTotalOrder timestamp_cmp
timestamp_cmp-total = then_total (then_total (then_total (on_total (λ t. precision_rank t.precision) nat_cmp_total)
    (on_total (λ t. t.offset) (options_total int_cmp_total)))
    (on_total (λ t. t.local) date_cmp-total)) (on_total (λ t. t.local) time_cmp-total) where
      date_cmp-total : IsTotalOrder date_cmp
      date_cmp-total = search (comparing, rules) depth 12

      time_cmp-total : IsTotalOrder time_cmp
      time_cmp-total = search (comparing, rules) depth 12
