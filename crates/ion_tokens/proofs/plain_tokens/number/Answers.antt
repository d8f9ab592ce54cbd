use Rattle.std.proofs.Common.{◌∙◌, sym, arith, inl, inr}
use Rattle.std.specs.Prelude.{slice_index}
use Rattle.std.proofs.lemmas.Bool.{eqb-true}
use Rattle.ion_tokens.proofs.runs.WholeTokens.{number_found, StartsNumber}
use Rattle.ion_tokens.proofs.plain_tokens.number.Goals as goal
use Rattle.ion_tokens.proofs.plain_tokens.number.Goals.{else-not-is_digit-via-then-not-is_digit+else-not-is_digit-2, then-octets-eq45, else-octets-eq45, else-not-is_digit-via-else-not-is_digit}

pub returns : goal.returns
returns c =
    let begins : StartsNumber c.args.octets.now =
    elim c.else-not-is_digit.branch [
      | else-not-is_digit-via-then-not-is_digit+else-not-is_digit-2 w ↦ elim w.if-octets-eq45.branch [
        | then-octets-eq45 w' ↦ inr (w'.if-octets-eq45.true, sym w'.is_digit-then-octets-eq45.ensures ∙ sym w'.value-is ∙ w.if-not-is_digit-2.false)
        | else-octets-eq45 w' ↦ absurd (w'.if-octets-eq45.false (eqb-true (slice_index c.args.octets.now 0) 45 (sym w'.value-is ∙ w.if-not-is_digit-2.false)))
      ]
      | else-not-is_digit-via-else-not-is_digit w ↦ inl (sym c.is_digit.ensures ∙ w.if-not-is_digit.false)
    ] in
    number_found c.args.octets.now c.of_number-count.result (omega arith) begins c.of_number-count.ensures c.if-count-octets.false c.if-octets-count-eq47.false
