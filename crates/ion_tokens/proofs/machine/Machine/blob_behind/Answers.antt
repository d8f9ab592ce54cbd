use Rattle.std.proofs.Common.{◌≡◌, [], ◌∷◌, ◌+◌, ◌-◌, ◌∙◌, ℕ, List, refl, sym, subst, rules, false, length, take, drop, IfSome}
use Rattle.std.specs.Prelude.{Option, Some, None}
use Rattle.std.proofs.lemmas.List.{take_rest}
use Rattle.ion_tokens.specs.Names.{AddsBase64, FoundToken, IsFound, Place, Rest, StandsIn, TokenKind, blob_of}
use Rattle.ion_tokens.proofs.runs.EscapedTexts.{found_as}
use Rattle.ion_tokens.proofs.runs.LobsAtOnce.{blob_stands, solid_stands}
use Rattle.ion_tokens.proofs.machine.Machine.blob_behind.Goals as goal

-- what is answered stands there if it is a blob that does
stands_if : (p : Place) (octets text kept : List ℕ) (n : ℕ) (found : Option FoundToken)
    → IfSome found (λ t. (t ≡ record { kind = TokenKind.Blob; count = n + 4; left = false }) × (blob_of text ≡ Some kept))
    → (blob_of text ≡ Some kept → (r : Rest) → IsFound p r octets TokenKind.Blob kept (n + 4) false) → IfSome found (λ t. StandsIn p octets kept t)
stands_if p octets text kept n None h f = tt
stands_if p octets text kept n (Some t) h f = λ r. found_as p r octets kept kept t TokenKind.Blob (n + 4) false h.0 refl (f h.1 r)

-- base64 without white space
pub returns-then-begins_close : goal.returns-then-begins_close
returns-then-begins_close c =
    let behind = c.args.behind.now in
    let n = c.of_base64-solid.result in
    let kept = c.blob.new.octets.items in
    let shuts = c.begins_close.ensures c.if-begins_close.true in
    stands_if c.args.place (123 ∷ 123 ∷ behind) (take n behind) kept n c.blob.result c.blob.ensures
    (λ says. solid_stands behind kept shuts.0 n c.of_base64-solid.ensures (sym (take_rest behind n) ∙ shuts.1) says c.args.place c.requires.name)

-- and with some
pub returns : goal.returns
returns c =
    let behind = c.args.behind.now in
    let n = c.in_ok-count.count in
    let text = c.as_slice.result.now in
    let kept = c.blob-2.new.octets.items in
    let us = c.in_ok-strip_prefix.field-0.now in
    let same : c.before_brace.new.kept.items ≡ text = search rules in
    let adds = subst (λ w. AddsBase64 (take n behind) [] w) same
    (subst (λ old. AddsBase64 (take n behind) old c.before_brace.new.kept.items) c.requires.none_kept c.in_ok-count.ensures.adds) in
    let shuts : take (length behind - n) (drop n behind) ≡ 125 ∷ 125 ∷ us = search rules in
    stands_if c.args.place (123 ∷ 123 ∷ behind) text kept n c.blob-2.result c.blob-2.ensures
    (λ says. blob_stands behind text kept us n c.in_ok-count.ensures.within (sym (take_rest behind n) ∙ shuts) adds says c.args.place c.requires.name)
