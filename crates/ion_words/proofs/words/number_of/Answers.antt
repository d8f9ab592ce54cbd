use Rattle.std.proofs.Common.{◌∙◌, Some, ap, sym}
use Rattle.std.specs.Prelude.{option_map, unwrap_or}
use Rattle.std.specs.Result.{result_ok}
use Rattle.std.specs.Str.Parse.{ParsesUnsigned, ExplainsUnsignedError, HasUnsignedDigitsIfOk}
use Rattle.clap.proofs.WalkLemmas.{one_text-rows}
use Rattle.clap.specs.Words.{found_of, one_text}
use Rattle.ion_words.specs.Asked.{number_of, up_to}
use Rattle.ion_words.proofs.Numbers.{up_to-tried}
use Rattle.ion_words.proofs.words.number_of.Goals as goal

pub returns-in-Ok : goal.returns-in-Ok
returns-in-Ok c most least greatest =
    let tried = up_to-tried c.args.usual most (one_text (found_of c.args.matches.now) c.args.id.now) c.try_get_one.result
    (λ t r. ParsesUnsigned 64 10 t r × ExplainsUnsignedError 10 t r × HasUnsignedDigitsIfOk t r) (λ t x h. h.0) least greatest
    c.try_get_one.ensures.none c.try_get_one.ensures.value in
    ap (λ n. up_to most (Some n)) c.unwrap_or.ensures ∙ sym (ap (λ r. up_to most (option_map (λ given. unwrap_or given c.args.usual) (result_ok r))) c.in-Ok.is)
    ∙ tried
    ∙ ap (number_of c.args.usual most) (one_text-rows (found_of c.args.matches.now) c.args.id.now)

pub returns-in-Err : goal.returns-in-Err
returns-in-Err c most least greatest =
    let tried = up_to-tried c.args.usual most (one_text (found_of c.args.matches.now) c.args.id.now) c.try_get_one.result
    (λ t r. ParsesUnsigned 64 10 t r × ExplainsUnsignedError 10 t r × HasUnsignedDigitsIfOk t r) (λ t x h. h.0) least greatest
    c.try_get_one.ensures.none c.try_get_one.ensures.value in
    sym (ap (λ r. up_to most (option_map (λ given. unwrap_or given c.args.usual) (result_ok r))) c.in-Err.is) ∙ tried
    ∙ ap (number_of c.args.usual most) (one_text-rows (found_of c.args.matches.now) c.args.id.now)
