use Rattle.std.proofs.Common.{arith, rules, length, length-drop, ap}
use Rattle.std.proofs.lemmas.List.{take_rest}
use Rattle.ion_tokens.proofs.runs.EscapedTexts.{characters_lead, leads_then}
use Rattle.ion_tokens.proofs.escaped_texts.before_quote.Goals as goal

pub loop-at-init : goal.loop-at-init
loop-at-init c = record {
  within = omega (arith, c.characters-at.ensures.within);
  leads = characters_lead c.args.style _ _ _ c.characters-at.ensures.kept (search rules);
}

pub loop-at-preserved : goal.loop-at-preserved
loop-at-preserved c =
    let rest = take_rest c.args.octets.now c.loop-at.at in
    record {
      within = let same = ap length rest in let l = length-drop c.loop-at.at c.args.octets.now in let k = c.in_ok-at.ensures.within in omega arith;
      leads = leads_then c.args.style c.args.octets.now _ _ _ _ c.loop-at.at c.in_ok-at.field-0 rest c.loop-at.invariant.leads c.in_ok-at.ensures.leads;
    }
