use Rattle.std.proofs.Common.{◌∙◌, ap, sym, fold, rules}
use Rattle.std.specs.Hash as fed
use Rattle.std.specs.Hash.{fed_then}
use Rattle.ion_model.specs.Names.{out-Payload}
use Rattle.ion_model.specs.Hashed.{field_hashed, hashed, layer_fed, symbol_fed}
use Rattle.ion_model.specs.laws.Hashed.{hashed-out}
use Rattle.ion_model.proofs.hashed.+hashed.Goals as goal

pub hash_value-returns : goal.hash_value-returns
hash_value-returns g t c =
    let write = g.H.Hasher.write in
    let v = c.args.value.now in
    let s = c.args.state.now in
    let annotations = fed.slice symbol_fed v.annotations in
    let payload = layer_fed field_hashed hashed (out-Payload v.payload) in
    fed_then write s c.hash.new.state c.hash_payload.new.state annotations payload (search rules) (search rules) ∙ ap (fold write s) (sym (hashed-out v))
