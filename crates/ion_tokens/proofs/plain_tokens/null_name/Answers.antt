use Rattle.std.proofs.Common.{◌≡◌, ◌++◌, ◌+◌, rules, sym, subst, true, take, length, arith}
use Rattle.std.specs.Prelude.{codes}
use Rattle.std.proofs.lemmas.List.{length-take-le}
use Rattle.ion_tokens.specs.Names.{IsFound, TokenKind}
use Rattle.ion_tokens.proofs.runs.EscapedTexts.{null_stands}
use Rattle.ion_tokens.proofs.plain_tokens.null_name.Goals as goal

pub returns : goal.returns
returns c = λ p r.
    let name = c.in_ok-behind.behind.now in
    let n = c.of_word-count.result in
    let begins : c.args.octets.now ≡ codes "null." ++ name = search rules in
    let size : n ≡ length (take n name) = sym (length-take-le n name (omega (arith, c.if-count-behind.false))) in
    subst (λ k. IsFound p r c.args.octets.now TokenKind.KindName (take n name) (k + 5) true) size
    (subst (λ octets. IsFound p r octets TokenKind.KindName (take n name) (n + 5) true) (sym begins)
    (null_stands name n c.of_word-count.ensures c.if-count-behind.false p r))
