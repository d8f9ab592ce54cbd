use Rattle.std.proofs.Common.{◌/◌, ◌%◌, ◌++◌, take, drop, length, ap, ◌∙◌, arith}
use Rattle.std.proofs.lemmas.List.Edits.{length-insert}
use Rattle.std.specs.Int.Digits.{digits_of}
use Rattle.ion_binary.proofs.Inserted.{digit_next, digits_done}
use Rattle.ion_binary.proofs.writer.framing.insert_length.Goals as goal

pub loop-rest-preserved : goal.loop-rest-preserved
loop-rest-preserved c =
    let l = c.loop-rest in
    let place = c.args.place in
    let new = c.in_ok-insert-2.ensures.items in
    let longer = length-insert l.out.items place (l.rest % 128) l.invariant.within in
    record {
      within = omega (arith, ap length new);
      octets = ap (λ w. take place w ++ (digits_of 128 (l.rest / 128) ++ drop place w)) new
          ∙ digit_next l.out.items _ place l.rest l.invariant.within c.loop-rest-test.true l.invariant.octets;
    }

pub returns-clause-ok : goal.returns-clause-ok
returns-clause-ok c =
    digits_done c.loop-rest.out.items _ c.args.place c.loop-rest.rest (omega arith) c.loop-rest.invariant.octets
