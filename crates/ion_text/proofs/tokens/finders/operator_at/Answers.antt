use Rattle.std.proofs.Common.{rules, ◌≡◌, take, ap, sym, subst, refl, true, Some}
use Rattle.ion_text.specs.Names.{IsFound, Operator, Place, TokenKind}
use Rattle.ion_model.specs.declared.value.Payload.TheVariants as payloads
use Rattle.ion_text.proofs.TokenSteps.{operator_says}
use Rattle.ion_text.proofs.tokens.finders.operator_at.Goals as goal

pub returns-clause-found : goal.returns-clause-found
returns-clause-found c = λ rest.
    let octets = c.args.octets.now in
    let kept = take c.in_ok-count.count octets in
    let there : c.args.here ≡ Place.Sexp = search rules in
    record {
      token = record {
        kept = kept;
        content = Operator kept;
        payload = payloads.Symbol (Some kept);
        found = subst (λ p. IsFound p rest octets TokenKind.Operator kept c.in_ok-count.count true) (sym there) (c.in_ok-count.ensures.found rest);
        says = operator_says kept c.in_ok-count.ensures.text;
        is = λ setting spot fs ss. refl;
      };
      is = ap (λ w. payloads.Symbol (Some w)) (sym c.from_utf8_unchecked.ensures);
    }
