use Rattle.std.proofs.Common.{◌≡◌, ◌≢◌, ◌∙◌, ap, sym, arith, take, get_or, Some, false}
use Rattle.ion_text.specs.Names.{is_keyword}
use Rattle.ion_model.specs.declared.value.Payload.TheVariants as payloads
use Rattle.ion_text.proofs.Annotations.{no_table, word_first}
use Rattle.ion_text.proofs.Symbols as symbols
use Rattle.ion_text.proofs.Walks.{word_free}
use Rattle.ion_text.proofs.tokens.annotations.word_annotation.Goals as goal

pub returns : goal.returns
returns c =
    let octets = c.args.octets.now in
    let n = c.in_ok-count.count in
    let w = take n octets in
    let first : get_or octets 0 0 ≢ 36 = λ e. omega (arith, e, c.if-octets-eq36.false) in
    let free : is_keyword w ≡ false = ap is_keyword (sym c.from_utf8_unchecked-text.ensures) ∙ (sym c.is_keyword.ensures ∙ c.if-is_keyword.false) in (
      record {
        name = Some w;
        begins = λ p r. symbols.word_symbol p r octets n (payloads.Symbol (Some w)) (c.in_ok-count.ensures.found p r) c.in_ok-count.ensures.text first
            (word_free w free);
        free = no_table w (word_first n octets first);
      },
      ap Some (sym c.from_utf8_unchecked-text.ensures),
    )
