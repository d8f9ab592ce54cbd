use Rattle.ion_scalar.specs.text.laws.OneNumber.{stamp_answer}
use Rattle.ion_scalar.proofs.number.unusual_answer.Goals as goal

pub returns-in-Err-Malformed : goal.returns-in-Err-Malformed
returns-in-Err-Malformed c = stamp_answer c.args.token.now c.timestamp_token.result (rw c.in-Err-Malformed.field-0-is at c.in-Err-Malformed.ensures)
    c.timestamp_token.ensures
