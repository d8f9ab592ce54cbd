use Rattle.std.proofs.Common.{◌≡◌, Some, map, drop}
use Rattle.ion_names.specs.Names.{with_names}
use Rattle.ion_names.proofs.names.Names.insert_texts.Given as goal

-- with the texts that are left the names are those with all
abbrev pub invariant-loop-text : goal.invariant-loop-text
invariant-loop-text g l = with_names l.self (map (λ t. Some t.now) (drop l.text-index l.texts)) ≡ with_names l.initial.self (map (λ t. Some t.now) l.texts)
