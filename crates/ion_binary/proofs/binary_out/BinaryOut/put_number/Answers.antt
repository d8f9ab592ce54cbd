use Rattle.std.proofs.Common.{rules, ◌∙◌, ap, refl}
use Rattle.ion_binary.specs.Names.{decimal_octets, framed, number_payload, timestamp_octets, whole_octets}
use Rattle.ion_model.specs.declared.value.Payload.TheViews as views
use Rattle.ion_binary.proofs.BinaryTold.{scalar_put}
use Rattle.ion_binary.proofs.binary_out.BinaryOut.put_number.Goals as goal

pub returns-in-Int : goal.returns-in-Int
returns-in-Int g c = λ e.
    scalar_put _ c.args.self.now (number_payload c.args.number) _ (whole_octets c.in-Int.whole) c.put_whole.new.out.items c.self.view_is
    (ap (λ n. views.out-Payload (number_payload n)) c.in-Int.is ∙ views.outs-Int c.in-Int.whole) refl (λ names. refl) (search rules)

pub returns-in-Decimal : goal.returns-in-Decimal
returns-in-Decimal g c = λ e.
    scalar_put _ c.args.self.now (number_payload c.args.number) _ (framed 5 (decimal_octets c.in-Decimal.decimal))
    c.put_decimal_value.new.out.items c.self.view_is
    (ap (λ n. views.out-Payload (number_payload n)) c.in-Decimal.is ∙ views.outs-Decimal c.in-Decimal.decimal) refl (λ names. refl) (search rules)

pub returns-in-Timestamp : goal.returns-in-Timestamp
returns-in-Timestamp g c = λ e.
    scalar_put _ c.args.self.now (number_payload c.args.number) _ (framed 6 (timestamp_octets c.in-Timestamp.stamp))
    c.put_timestamp_value.new.out.items c.self.view_is
    (ap (λ n. views.out-Payload (number_payload n)) c.in-Timestamp.is ∙ views.outs-Timestamp c.in-Timestamp.stamp) refl (λ names. refl) (search rules)
