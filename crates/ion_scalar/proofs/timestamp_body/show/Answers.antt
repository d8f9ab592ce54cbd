use Rattle.std.proofs.Common.{◌≡◌, Ok, pos, ◌+ℤ◌, sym, ap, subst, ◌∙◌, FitsSigned, w16}
use Rattle.std.proofs.lemmas.Bool.{false≢true}
use Rattle.std.proofs.lemmas.Int.{to_z-of_z}
use Rattle.ion_scalar.specs.Names.{InYears, kept_offset, minute_number, minutes_ahead}
use Rattle.ion_scalar.specs.binary.laws.Shown.{near_fits, shown_is, shown_none, shown_some}
use Rattle.ion_scalar.proofs.timestamp_body.show.Goals as goal

pub returns-in_default : goal.returns-in_default
returns-in_default c =
    let fits : FitsSigned w16 c.ahead_of_utc.result = near_fits c.ahead_of_utc.result c.ahead_of_utc.ensures.near in
    let by : c.ahead_of_utc.result ≡ minutes_ahead (kept_offset c.args.utc.precision c.args.offset) =
    c.ahead_of_utc.ensures.value ∙ ap minutes_ahead c.offset_at-offset.ensures.value in
    let some = simp to_z-of_z at c.in_default.ensures.some in
    sym (shown_none c.args.utc c.requires.utc c.args.offset c.requires.offset
    (λ w. false≢true (some.1 (subst (λ z. InYears (pos (minute_number c.args.utc.minute) +ℤ z)) (sym by) w))))

pub of_parts-requires : goal.of_parts-requires
of_parts-requires c =
    let fits : FitsSigned w16 c.ahead_of_utc.result = near_fits c.ahead_of_utc.result c.ahead_of_utc.ensures.near in
    let by : c.ahead_of_utc.result ≡ minutes_ahead (kept_offset c.args.utc.precision c.args.offset) =
    c.ahead_of_utc.ensures.value ∙ ap minutes_ahead c.offset_at-offset.ensures.value in
    let m = simp to_z-of_z at c.in-Some.ensures.value in
    let number = m.1 ∙ ap (λ z. pos (minute_number c.args.utc.minute) +ℤ z) by in
    rw (c.local_of.ensures, c.offset_at-offset.ensures.value)
    (shown_is c.args.utc c.requires.utc c.args.offset c.requires.offset c.in-Some.minute m.0 number)

pub returns : goal.returns
returns c =
    let fits : FitsSigned w16 c.ahead_of_utc.result = near_fits c.ahead_of_utc.result c.ahead_of_utc.ensures.near in
    let by : c.ahead_of_utc.result ≡ minutes_ahead (kept_offset c.args.utc.precision c.args.offset) =
    c.ahead_of_utc.ensures.value ∙ ap minutes_ahead c.offset_at-offset.ensures.value in
    let m = simp to_z-of_z at c.in-Some.ensures.value in
    let number = m.1 ∙ ap (λ z. pos (minute_number c.args.utc.minute) +ℤ z) by in
    let here = shown_some c.args.utc c.requires.utc c.args.offset c.requires.offset c.in-Some.minute m.0 number in
    let same = rw (c.local_of.ensures, c.offset_at-offset.ensures.value) at c.of_parts.ensures in
    sym (here ∙ ap Ok (sym same))
