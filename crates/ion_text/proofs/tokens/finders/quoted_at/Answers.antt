use Rattle.std.proofs.Common.{◌-◌, ◌∙◌, take, drop, Some, ap, sym, refl}
use Rattle.std.proofs.lemmas.List.{take_rest}
use Rattle.ion_text.specs.Names.{Quoted}
use Rattle.ion_model.specs.declared.value.Payload.TheVariants as payloads
use Rattle.ion_text.proofs.Symbols.{quoted_says}
use Rattle.ion_text.proofs.tokens.finders.quoted_at.Goals as goal

pub returns : goal.returns
returns c = λ here rest.
    let octets = c.args.octets.now in
    let n = c.in_ok-count.count in
    let kept = take (n - 2) (drop 1 octets) in
    record {
      part = record {
        token = record {
          kept = kept;
          content = Quoted kept;
          payload = payloads.Symbol (Some kept);
          found = c.in_ok-count.ensures.found here rest;
          says = quoted_says kept c.in_ok-count.ensures.text;
          is = refl;
        };
        is = ap (λ w. payloads.Symbol (Some w)) (sym (c.from_utf8_unchecked.ensures ∙ ap (take (n - 2)) (take_rest octets 1)));
      };
      waits = refl;
      free = refl;
    }
