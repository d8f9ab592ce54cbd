-- The visitor that counts values.
use Rattle.std.specs.Prelude.{◌≡◌, ◌+◌, ◌-◌, ◌^◌, min}
use Rattle.ion_visiting.specs.Events.{Event, ended}
use Rattle.ion_visiting.specs.declared.count.Count.{Count}

-- none yet
abbrev pub no_values : Count
no_values = record { values = 0 }

-- one value more where one of the top level ended, and nothing is made of what it holds
abbrev pub counted : Count → Event → Count
counted a ended = record { values = min (a.values + 1) (2 ^ 64 - 1) }
counted a _ = a

abbrev pub counts : Count → Event → Count → Type 0
counts a e b = b ≡ counted a e
