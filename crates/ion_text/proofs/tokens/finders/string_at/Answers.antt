use Rattle.std.proofs.Common.{◌-◌, ◌∙◌, take, drop, ap, sym, refl}
use Rattle.std.proofs.lemmas.List.{take_rest}
use Rattle.ion_text.specs.Names.{Short}
use Rattle.ion_model.specs.declared.value.Payload.TheVariants as payloads
use Rattle.ion_text.proofs.TokenSteps.{short_says}
use Rattle.ion_text.proofs.tokens.finders.string_at.Goals as goal

pub returns-clause-found : goal.returns-clause-found
returns-clause-found c = λ here rest.
    let octets = c.args.octets.now in
    let n = c.in_ok-count.count in
    let kept = take (n - 2) (drop 1 octets) in
    record {
      token = record {
        kept = kept;
        content = Short kept;
        payload = payloads.Str kept;
        found = c.in_ok-count.ensures.found here rest;
        says = short_says kept c.in_ok-count.ensures.text;
        is = λ setting spot fs ss. refl;
      };
      is = ap payloads.Str (sym (c.from_utf8_unchecked.ensures ∙ ap (take (n - 2)) (take_rest octets 1)));
    }
