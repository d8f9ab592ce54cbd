use Rattle.std.proofs.Common.{rules, ◌≡◌, [], ◌∷◌, ◌++◌, Some, codes, drop, length, ap, ◌∙◌, append_assoc}
use Rattle.std.specs.List.{flat_map}
use Rattle.std.proofs.lemmas.Result.{on_ok_weaker}
use Rattle.ion_binary.specs.Names.{framed, name_text, named_octets, uint_octets, var_uint_octets, with_count}
use Rattle.ion_binary.proofs.Encoded.{framed_at}
use Rattle.ion_binary.proofs.Tabled.{table_is}
use Rattle.ion_binary.proofs.writer.table.put_table.Goals as goal

pub returns-clause-ok : goal.returns-clause-ok
returns-clause-ok g c =
    let names = c.args.names.now in
    let more = drop c.args.first names in
    let old = c.args.out.now.items in
    let base = c.in_ok-base.base in
    let ids = with_count (var_uint_octets base) in
    let fields = framed 13 (named_octets names (Some (codes "imports")) (framed 7 (uint_octets base))
    ++ named_octets names (Some (codes "symbols")) (framed 11 (flat_map (λ s. framed 8 (name_text s)) more))) in
    let front = c.in_ok-put_counted.ensures.ok ∙ ap (λ w. w ++ ids) c.in_ok-push.ensures.items in
    let body = c.in_ok-put_table_fields.ensures.ok ∙ ap (λ w. w ++ fields) front ∙ append_assoc (old ++ 0 ∷ []) ids fields in
    let place : c.len-place.result ≡ length old = search rules in
    rw (table_is names more base c.in_ok-base.ensures.id)
    (on_ok_weaker c.frame.result (framed_at 14 c.len-place.result old (ids ++ fields) c.put_table_fields.new.out.items c.frame.new.out.items place body)
    c.frame.ensures.ok)
