use Rattle.std.proofs.Common.{◌++◌, Some, codes, drop, ap, ◌∙◌}
use Rattle.std.specs.List.{flat_map}
use Rattle.std.specs.Vec.{vec_len}
use Rattle.std.proofs.lemmas.Result.{on_ok_weaker}
use Rattle.ion_binary.specs.Names.{Names, framed, name_text, named_octets, uint_octets, var_uint_octets}
use Rattle.ion_binary.proofs.Appended.{appended_four, stands_before}
use Rattle.ion_binary.proofs.Encoded.{framed_at}
use Rattle.ion_binary.proofs.writer.table.put_table_fields.Goals as goal

pub frame-requires-clause-place : goal.frame-requires-clause-place
frame-requires-clause-place g c =
    let texts = framed 11 (flat_map (λ s. framed 8 (name_text s)) c.from.result.now) in
    let imports = var_uint_octets c.in_ok-imports.imports in
    let base = framed 7 (uint_octets c.args.base) in
    let symbols = var_uint_octets c.in_ok-symbols.symbols in
    let old = c.args.out.now.items in
    let whole = appended_four c.push.new.self.items imports base symbols texts c.in_ok-put_digits.ensures.ok c.in_ok-put_symbol.ensures.ok c.in_ok-put_digits-2.ensures.ok c.in_ok-put_texts.ensures.ok in
    let body = (imports ++ base) ++ (symbols ++ texts) in
    stands_before c.len-place.result (vec_len c.put_texts.new.out) old body c.put_texts.new.out.items (c.len-place.ensures ∙ c.args.out.now.ok.0)
    (whole ∙ ap (λ w. w ++ body) c.in_ok-push.ensures.items) c.put_texts.new.out.ok.0

pub returns-clause-ok : goal.returns-clause-ok
returns-clause-ok g c =
    let names = c.args.names.now in
    let imports = named_octets names (Some (codes "imports")) (framed 7 (uint_octets c.args.base)) in
    let texts = λ (n : Names). framed 11 (flat_map (λ s. framed 8 (name_text s)) n) in
    let symbols = λ (n : Names). named_octets names (Some (codes "symbols")) (texts n) in
    let old = c.args.out.now.items in
    let whole = appended_four c.push.new.self.items (var_uint_octets c.in_ok-imports.imports) (framed 7 (uint_octets c.args.base)) (var_uint_octets c.in_ok-symbols.symbols) (texts c.from.result.now)
    c.in_ok-put_digits.ensures.ok c.in_ok-put_symbol.ensures.ok c.in_ok-put_digits-2.ensures.ok c.in_ok-put_texts.ensures.ok in
    let named = rw (c.in_ok-imports.ensures.id, c.in_ok-symbols.ensures.id, c.from.ensures, c.in_ok-push.ensures.items) at whole in
    on_ok_weaker c.frame.result (framed_at 13 c.len-place.result old (imports ++ symbols (drop c.args.first names)) c.put_texts.new.out.items
    c.frame.new.out.items (c.len-place.ensures ∙ c.args.out.now.ok.0) named) c.frame.ensures.ok
