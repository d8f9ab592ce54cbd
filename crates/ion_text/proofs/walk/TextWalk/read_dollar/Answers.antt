use Rattle.std.proofs.Common.{◌+◌, refl, sym, subst}
use Rattle.ion_text.specs.Names.{EndsBy, Held, ended, setting_of, spot_at}
use Rattle.ion_model.specs.declared.value.Payload.TheVariants as payloads
use Rattle.ion_text.proofs.Ended.{whole_does}
use Rattle.ion_text.proofs.Holding.{symbol_layer}
use Rattle.ion_text.proofs.LastTokens.{symbol_flat, word_answer}
use Rattle.ion_text.proofs.SaidThere.{id_waits}
use Rattle.ion_text.proofs.walk.TextWalk.read_dollar.Goals as goal

pub returns : goal.returns
returns g c =
    let old = c.args.self.now in
    let new = c.ended.new.self in
    let rest = c.args.rest.now in
    let octets = c.args.octets.now in
    let a = c.args.visitor.now in
    let b = c.symbol-2.new.visitor in
    let here = c.args.here in
    let token = c.in-Some.token in
    let k = c.begun_at-begin.result in
    let e = c.ended.ensures.setting in
    let s = c.in-Ok.symbol.now in
    let behind = c.in-Some-behind_waiting in
    subst (λ x. EndsBy g.V.Visitor.takes old new rest behind.behind octets x a b) (sym c.value_took.ensures)
    (word_answer g.V.Visitor.takes old new rest behind.behind octets a b k
    (record { catalog = e.catalog; limits = e.limits; scanner = e.scanner; awaited = e.awaited; failed = e.failed }) c.begun_at-begin.ensures here c.requires.here
    c.requires.takes (payloads.Symbol s) (λ fs ss h top. symbol_flat s) token behind.between (Held.Symbol s) c.ended.result behind.ensures.within
    (λ fs ss h top. (c.is_left.ensures c.if-is_left.false fs ss h top).0)
    (id_waits old.context rest octets token c.in-Some.id s c.in-Some.ensures.word c.in-Ok.ensures here (c.in-Some.ensures.says here rest)) refl refl
    behind.ensures.rests behind.ensures.ends
    (whole_does g.V.Visitor.takes (λ fs v. ended (setting_of old) (spot_at (rest.used + token.count) k old.context) fs v) old (payloads.Symbol s)
    c.symbol-2.new.self c.ended.result new a b c.requires.takes.stage (symbol_layer s) (c.symbol-2.ensures c.in_ok-heard.ensures.ok) c.ended.ensures.does))
