use Rattle.std.proofs.Common.{length, subst, refl, sym, ◌∙◌, arith, false}
use Rattle.std.specs.Prelude.{Ok, Err, None}
use Rattle.std.proofs.lemmas.List.{length-append}
use Rattle.ion_tokens.specs.Names.{Answers, Outcome, answered}
use Rattle.ion_tokens.specs.machine.LetGo.{behind_gone, begun_gone, in_string}
use Rattle.ion_tokens.specs.machine.Machines.{known, lexeme_in}
use Rattle.ion_tokens.proofs.bounds.Causes.{refused_fair}
use Rattle.ion_tokens.proofs.runs.Behind.{GivesFew, open_behind, open_fits, run_few, some_gone, text_alike, text_leads_on, text_open, utf8_behind}
use Rattle.ion_tokens.proofs.runs.GoesOn.{steady_from}
use Rattle.ion_tokens.proofs.runs.LetGo.{given_answered}
use Rattle.ion_tokens.proofs.runs.Runs.{given_used, next_used}
use Rattle.ion_tokens.proofs.machine.Machine.scan_behind.Goals as goal

pub scan_base64-requires : goal.scan_base64-requires
scan_base64-requires c =
    let some = some_gone c.args.gone.now c.is_nothing.result c.is_nothing.ensures.1 c.if-is_nothing.false in
    let blob = sym c.in_base64.ensures ∙ c.if-in_base64.true in
    let fits = c.requires.behind.base64 some blob in
    record { room = c.requires.room; blob = blob; base64 = fits.0; some = fits.1; steady = c.requires.steady }

pub unreachable-requires : goal.unreachable-requires
unreachable-requires c =
    let some = some_gone c.args.gone.now c.is_nothing.result c.is_nothing.ensures.1 c.if-is_nothing.false in
    let none = sym c.in_base64.ensures ∙ c.if-in_base64.false in
    text_leads_on c.args.place c.args.piece.now c.args.gone.now (known c.args.self.now) _ c.requires.behind some none (rw c.in-Ok-Left.field-0-is at c.in-Ok-Left.ensures.does)

pub given_behind-requires : goal.given_behind-requires
given_behind-requires c =
    let some = some_gone c.args.gone.now c.is_nothing.result c.is_nothing.ensures.1 c.if-is_nothing.false in
    let none = sym c.in_base64.ensures ∙ c.if-in_base64.false in
    let s = known c.args.self.now in
    let gone = c.args.gone.now.octets in
    let l = lexeme_in c.in-Ok-Given.lexeme c.run.new.self in
    let e = rw c.in-Ok-Given.field-0-is at c.in-Ok-Given.ensures.does in
    let used = given_used c.args.place c.args.piece.now s (known c.run.new.self) _ e in
    let kinds = text_leads_on c.args.place c.args.piece.now c.args.gone.now (known c.args.self.now) _ c.requires.behind some none e in
    let few = subst (λ (x : Outcome). GivesFew x) (text_alike c.args.place c.args.piece.now c.args.gone.now (known c.args.self.now) _ c.requires.behind some none e)
    (run_few c.args.place c.args.piece.now (behind_gone gone s) c.args.self.now.looked (in_string s.mode) false
    (open_behind gone s (in_string s.mode) false (text_open c.args.gone.now s c.requires.behind some none)) c.requires.steady c.requires.room) in
    let both = length-append gone l.octets in
    record {
      before = omega arith;
      room = omega arith;
      text = kinds.0;
      utf8 = λ yes. utf8_behind c.args.gone.now s c.requires.behind (kinds.1 yes);
    }

pub returns-in-Ok-Next-clause-answers : goal.returns-in-Ok-Next-clause-answers
returns-in-Ok-Next-clause-answers c =
    let some = some_gone c.args.gone.now c.is_nothing.result c.is_nothing.ensures.1 c.if-is_nothing.false in
    let none = sym c.in_base64.ensures ∙ c.if-in_base64.false in
    let e = rw c.in-Ok-Next.field-0-is at c.in-Ok-Next.ensures.does in
    let used = next_used c.args.place c.args.piece.now (known c.args.self.now) (known c.run.new.self) e in
    subst (λ (x : Outcome). Answers c.args.self.now.used x (Ok (record { used = length c.args.piece.now; token = None; left = false }))
    (behind_gone c.args.gone.now.octets (known c.run.new.self)))
    (sym (text_alike c.args.place c.args.piece.now c.args.gone.now (known c.args.self.now) _ c.requires.behind some none e))
    (record { known = refl; counted = used }, refl, refl)

pub returns-in-Ok-Next-clause-behind : goal.returns-in-Ok-Next-clause-behind
returns-in-Ok-Next-clause-behind c =
    let some = some_gone c.args.gone.now c.is_nothing.result c.is_nothing.ensures.1 c.if-is_nothing.false in
    let none = sym c.in_base64.ensures ∙ c.if-in_base64.false in
    let e = rw c.in-Ok-Next.field-0-is at c.in-Ok-Next.ensures.does in
    open_fits c.args.gone.now (known c.args.self.now) (known c.run.new.self) c.requires.behind some (text_leads_on c.args.place c.args.piece.now c.args.gone.now (known c.args.self.now) _ c.requires.behind some none e)

pub returns-in-Ok-Next-clause-looked : goal.returns-in-Ok-Next-clause-looked
returns-in-Ok-Next-clause-looked c =
    let e = rw c.in-Ok-Next.field-0-is at c.in-Ok-Next.ensures.does in
    let used = next_used c.args.place c.args.piece.now (known c.args.self.now) (known c.run.new.self) e in
    let more = rw c.in-Ok-Next.field-0-is at c.in-Ok-Next.ensures.looked in
    omega arith

pub returns-in-Ok-Next-clause-steady : goal.returns-in-Ok-Next-clause-steady
returns-in-Ok-Next-clause-steady c = λ h.
    let some = some_gone c.args.gone.now c.is_nothing.result c.is_nothing.ensures.1 c.if-is_nothing.false in
    let none = sym c.in_base64.ensures ∙ c.if-in_base64.false in
    let s = known c.args.self.now in
    let t = known c.run.new.self in
    let gone = c.args.gone.now.octets in
    let e = rw c.in-Ok-Next.field-0-is at c.in-Ok-Next.ensures.does in
    let used = next_used c.args.place c.args.piece.now s t e in
    let more = rw c.in-Ok-Next.field-0-is at c.in-Ok-Next.ensures.looked in
    steady_from c.args.place c.args.piece.now (behind_gone gone s) (behind_gone gone t) c.args.self.now.looked c.run.new.self.looked (text_alike c.args.place c.args.piece.now c.args.gone.now (known c.args.self.now) _ c.requires.behind some none e) h
    c.requires.room (omega arith)

pub returns-in-Ok-Given-clause-answers : goal.returns-in-Ok-Given-clause-answers
returns-in-Ok-Given-clause-answers c =
    let some = some_gone c.args.gone.now c.is_nothing.result c.is_nothing.ensures.1 c.if-is_nothing.false in
    let none = sym c.in_base64.ensures ∙ c.if-in_base64.false in
    let e = rw c.in-Ok-Given.field-0-is at c.in-Ok-Given.ensures.does in
    let gone = c.args.gone.now.octets in
    let g = c.given_behind.ensures in
    subst (λ (x : Outcome). Answers c.args.self.now.used x (answered c.given_behind.result c.given_behind.new.self.left)
    (behind_gone c.given_behind.new.gone.octets (known c.given_behind.new.self)))
    (sym (text_alike c.args.place c.args.piece.now c.args.gone.now (known c.args.self.now) _ c.requires.behind some none e))
    (given_answered (begun_gone gone (lexeme_in c.in-Ok-Given.lexeme c.run.new.self)) (known c.run.new.self)
    (behind_gone c.given_behind.new.gone.octets (known c.given_behind.new.self)) c.args.self.now.used c.given_behind.new.self.left g.left g.known
    c.given_behind.result g.token g.refuses)

pub returns-in-Ok-Given-clause-lends : goal.returns-in-Ok-Given-clause-lends
returns-in-Ok-Given-clause-lends c = c.given_behind.ensures.lends c.args.piece.now

pub returns-in-Ok-Refused-clause-answers : goal.returns-in-Ok-Refused-clause-answers
returns-in-Ok-Refused-clause-answers c =
    let some = some_gone c.args.gone.now c.is_nothing.result c.is_nothing.ensures.1 c.if-is_nothing.false in
    let none = sym c.in_base64.ensures ∙ c.if-in_base64.false in
    let e = rw c.in-Ok-Refused.field-0-is at c.in-Ok-Refused.ensures.does in
    subst (λ (x : Outcome). Answers c.args.self.now.used x (Err c.in-Ok-Refused.refusal) (behind_gone c.args.gone.now.octets (known c.run.new.self)))
    (sym (text_alike c.args.place c.args.piece.now c.args.gone.now (known c.args.self.now) _ c.requires.behind some none e)) (λ other. refl)

pub returns-in-Ok-Refused-clause-memory : goal.returns-in-Ok-Refused-clause-memory
returns-in-Ok-Refused-clause-memory c =
    let e = rw c.in-Ok-Refused.field-0-is at c.in-Ok-Refused.ensures.does in
    λ memory. absurd (refused_fair c.args.place c.args.piece.now (known c.args.self.now) _ _ e memory)
