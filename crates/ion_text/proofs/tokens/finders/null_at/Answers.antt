use Rattle.std.proofs.Common.{refl, ap}
use Rattle.ion_text.specs.Names.{TypedNull, null_of, said}
use Rattle.ion_model.specs.declared.value.Payload.TheVariants as payloads
use Rattle.ion_text.proofs.tokens.finders.null_at.Goals as goal

pub returns : goal.returns
unfolding said
returns c = λ here rest.
    let found = c.in_ok-count.ensures in
    let kind = c.in_ok-count.kind in
    record {
      part = record {
        token = record {
          kept = found.0;
          content = TypedNull kind;
          payload = payloads.Null kind;
          found = found.2 here rest;
          says = ap null_of found.1;
          is = refl;
        };
        is = refl;
      };
      waits = refl;
      free = refl;
    }
