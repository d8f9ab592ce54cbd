use Rattle.std.proofs.Common.{ap}
use Rattle.ion_model.specs.declared.value.Payload.TheVariants as payloads
use Rattle.ion_model.specs.declared.value.Payload.TheViews as views
use Rattle.ion_text.specs.Names.{layer_events, layer_kind}
use Rattle.ion_text.proofs.walk.TextWalk.long_ended.Goals as goal

pub returns-clause-does : goal.returns-clause-does
returns-clause-does g c = c.let_go_ended.ensures.does (payloads.Str c.args.text) (ap layer_kind (views.outs-Str c.args.text)) (ap layer_events (views.outs-Str c.args.text))
