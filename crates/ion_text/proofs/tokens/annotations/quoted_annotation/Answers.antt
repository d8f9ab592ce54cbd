use Rattle.std.proofs.Common.{◌≢◌, ◌-◌, ◌∙◌, arith, take, drop, get_or, Some, ap, sym, refl}
use Rattle.std.proofs.lemmas.List.{take_rest}
use Rattle.ion_text.proofs.Annotations.{no_table, quoted_first}
use Rattle.ion_text.proofs.Symbols as symbols
use Rattle.ion_text.proofs.tokens.annotations.quoted_annotation.Goals as goal

pub returns : goal.returns
returns c =
    let octets = c.args.octets.now in
    let n = c.in_ok-count.count in
    let w = take (n - 2) (drop 1 octets) in
    let first : get_or octets 1 0 ≢ 36 = λ e. omega (arith, e, c.if-octets-eq36.false) in (
      record {
        name = Some w;
        begins = λ p r. symbols.quoted_symbol p r octets n w (Some w) c.in_ok-count.ensures.text refl (c.in_ok-count.ensures.found p r);
        free = no_table w (quoted_first (n - 2) octets first);
      },
      ap Some (sym (c.from_utf8_unchecked.ensures ∙ ap (take (n - 2)) (take_rest octets 1))),
    )
