-- What a call that takes memory answers.
use Rattle.std.specs.Prelude.{◌≡◌, ◌⊎◌, Result, Ok, Err, MatchResult}
use Rattle.ion_symtab.specs.Names.Below.{Reason}

-- the answer is the one that is wanted, or memory was refused
abbrev pub Gives : {T : Type 0} → Result T Reason → Result T Reason → Type 0
Gives wanted answer = MatchResult answer (λ x. wanted ≡ Ok x) (λ r. (r ≡ Reason.Memory) ⊎ (wanted ≡ Err r))
