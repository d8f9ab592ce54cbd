use Rattle.std.proofs.Common.{◌≡◌, ◌≢◌, ◌∙◌, ap, sym, subst, arith, take, get_or, Some, true, false, refl}
use Rattle.ion_text.specs.Names.{BeginsName, TokenKind, is_keyword}
use Rattle.ion_text.proofs.Symbols as symbols
use Rattle.ion_text.proofs.tokens.finders.word_name.Goals as goal

pub returns : goal.returns
returns c = λ here rest.
    let octets = c.args.octets.now in
    let n = c.in_ok-count.count in
    let first : get_or octets 0 0 ≢ 36 = λ e. omega (arith, e, c.if-octets-eq36.false) in
    let free : is_keyword (take n octets) ≡ false = ap is_keyword (sym c.from_utf8_unchecked-text.ensures)
    ∙ (sym c.is_keyword.ensures ∙ c.if-is_keyword.false) in
    subst (λ w. BeginsName here rest octets (record { kind = TokenKind.Word; count = n; left = true }) (Some w)) (sym c.from_utf8_unchecked-text.ensures)
    (symbols.word_name here rest octets n (Some (take n octets)) (c.in_ok-count.ensures.found here rest) c.in_ok-count.ensures.text first free
    refl)
