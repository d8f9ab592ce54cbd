use Rattle.std.proofs.Common.{Ok, ap, sym, ◌∙◌, subst}
use Rattle.ion_text.specs.Names.{Goes, Mark, Place, SameSetting, Tells, TextWalk, TokenKind, name, past_blank, past_token}
use Rattle.ion_text.proofs.Opened.{names_does}
use Rattle.ion_text.proofs.SaidThere.{id_names}
use Rattle.ion_text.proofs.WholeTokens.{key_answer}
use Rattle.ion_text.proofs.walk.TextWalk.read_dollar_name.Goals as goal

pub returns : goal.returns
returns g c =
    let old = c.args.self.now in
    let new = c.set_stage.new.self in
    let rest = c.args.rest.now in
    let octets = c.args.octets.now in
    let token = c.in-Some.token in
    let behind = c.in-Some-behind_name in
    let m = behind.between in
    let s = c.in-Ok.name.now in
    let a = c.args.visitor.now in
    let b = c.name.new.visitor in
    let e = c.set_stage.ensures in
    let same : SameSetting old new =
    record {
      catalog = ap (λ (w : TextWalk). w.catalog) e;
      limits = ap (λ (w : TextWalk). w.limits) e;
      scanner = ap (λ (w : TextWalk). w.scanner) e;
      awaited = ap (λ (w : TextWalk). w.awaited) e;
      failed = ap (λ (w : TextWalk). w.failed) e;
    } in
    key_answer g.V.Visitor.takes old new rest c.past_token-2.result octets a b same token m s (Ok Goes)
    (c.past_token-2.ensures
    ∙ ap (λ r. past_token Place.Name r (TokenKind.Mark Mark.Colon) 1) (c.past_blank.ensures ∙ ap (λ r. past_blank r m) c.past_token.ensures))
    behind.ensures.within c.requires.takes
    (id_names old.context rest octets token c.in-Some.id s c.in-Some.ensures.word c.in-Ok.ensures (c.in-Some.ensures.says Place.Name rest))
    behind.ensures.passed behind.ensures.colon behind.ensures.one
    (names_does g.V.Visitor.takes old new s a b c.requires.takes.stage (ap (λ (w : TextWalk). w.frames) e) (ap (λ (w : TextWalk). w.noted) e)
    (ap (λ (w : TextWalk). w.stage) e) (ap (λ (w : TextWalk). w.start) e) (ap (λ (w : TextWalk). w.context) e)
    (subst (λ f. Tells g.V.Visitor.takes (name s) old.filter f a b) (sym (ap (λ (w : TextWalk). w.filter) e)) (c.name.ensures c.in_ok-heard.ensures.ok)))
