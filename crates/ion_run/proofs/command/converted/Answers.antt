use Rattle.std.proofs.lemmas.Result.{err_from_is_err_and}
use Rattle.ion_run.proofs.Owing.{or_more}
use Rattle.ion_run.proofs.command.converted.Goals as goal

pub returns-in_ok-answer-in-Text-clause-ending : goal.returns-in_ok-answer-in-Text-clause-ending
returns-in_ok-answer-in-Text-clause-ending g c = (
  _,
  c.in_ok-answer-in-Text.ensures.converted,
  c.in_ok-answer-in-Text.ensures.same,
  (c.ending_with.ensures, c.in_ok-answer-in-Text.ensures.passed_on),
)

pub returns-in_ok-answer-in-Binary-clause-ending : goal.returns-in_ok-answer-in-Binary-clause-ending
returns-in_ok-answer-in-Binary-clause-ending g c = (
  _,
  c.in_ok-answer-in-Binary.ensures.converted,
  c.in_ok-answer-in-Binary.ensures.same,
  (c.ending_with-in-Binary.ensures, c.in_ok-answer-in-Binary.ensures.passed_on),
)

pub returns-in_err-answer-in-Text-clause-cause : goal.returns-in_err-answer-in-Text-clause-cause
returns-in_err-answer-in-Text-clause-cause g c =
    let e = err_from_is_err_and c.from_residual.result c.from_residual.ensures.1 in
    rw (e.1, e.2) (or_more c.in_err-answer-in-Text.ensures.cause)

pub returns-in_err-answer-in-Binary-clause-cause : goal.returns-in_err-answer-in-Binary-clause-cause
returns-in_err-answer-in-Binary-clause-cause g c =
    let e = err_from_is_err_and c.from_residual-in_err-answer-in-Binary.result c.from_residual-in_err-answer-in-Binary.ensures.1 in
    rw (e.1, e.2) (or_more c.in_err-answer-in-Binary.ensures.cause)
