use Rattle.std.proofs.Common.{rules, None}
use Rattle.ion_binary.specs.Names.{kept_symbol}
use Rattle.ion_binary.proofs.binary_out.BinaryOutVisitor.unknown_symbol.Goals as goal

pub returns-then-put_symbol_value : goal.returns-then-put_symbol_value
returns-then-put_symbol_value g c = λ e. record { kept = kept_symbol None tt; is = search rules }
