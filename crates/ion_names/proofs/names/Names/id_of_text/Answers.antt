use Rattle.std.proofs.Common.{◌≡◌, ◌∙◌, rules, Some, ap, sym, length, arith, position}
use Rattle.std.specs.List.{position_or_len}
use Rattle.std.specs.Option.{unwrap_or}
use Rattle.ion_names.specs.Names.{Names, id_few, id_of, symbol_same}
use Rattle.ion_names.proofs.Ids.{place_or}
use Rattle.ion_names.proofs.names.Names.id_of_text.Goals as goal

pub returns-clause-id : goal.returns-clause-id
returns-clause-id g c =
    let names = c.self.inside.symbols.keys in
    let key : c.in_ok-key.key ≡ Some c.args.text.now = search rules in
    c.unwrap_or.ensures
    ∙ ap (λ o. unwrap_or o c.len-count.result) c.get_index_of.ensures.index
    ∙ ap (λ n. unwrap_or (position (symbol_same c.in_ok-key.key) names) n) (c.len-count.ensures.count ∙ ap (λ (ns : Names). length ns) (sym c.self.view_is))
    ∙ place_or (symbol_same c.in_ok-key.key) names
    ∙ ap (λ k. position_or_len (symbol_same k) names) key
    ∙ ap (λ ns. id_of ns (Some c.args.text.now)) c.self.view_is

pub returns-clause-small : goal.returns-clause-small
returns-clause-small g c = omega (
  arith,
  returns-clause-id g c,
  id_few c.args.self.now (Some c.args.text.now),
  c.len-count.ensures.count,
  c.len-count.ensures.small,
)
