use Rattle.std.proofs.Common.{length, subst, refl, sym, ap, ◌∙◌, arith, true, false}
use Rattle.std.specs.Prelude.{Ok, Err, None}
use Rattle.std.proofs.lemmas.List.{length-append}
use Rattle.ion_tokens.specs.Names.{Answers, Known, Outcome, answered}
use Rattle.ion_tokens.specs.machine.LetGo.{behind_gone, begun_gone, outcome_decoded}
use Rattle.ion_tokens.specs.machine.Machines.{known, lexeme_in}
use Rattle.ion_tokens.proofs.bounds.Causes.{refused_fair}
use Rattle.ion_tokens.proofs.runs.Behind.{GivesFew, IsOpen, LeadsTo, base64_fits, base64_mode, base64_open, open_behind, run_few, run_leads}
use Rattle.ion_tokens.proofs.runs.BlobsLetGo.{run_decoded, went_decoded}
use Rattle.ion_tokens.proofs.runs.GoesOn.{steady_from}
use Rattle.ion_tokens.proofs.runs.LetGo.{given_answered}
use Rattle.ion_tokens.proofs.runs.Runs.{given_used, next_used}
use Rattle.ion_tokens.proofs.machine.Machine.scan_base64.Goals as goal

pub unreachable-requires : goal.unreachable-requires
unreachable-requires c =
    let s = known c.args.self.now in
    let e = rw c.in-Ok-Left.field-0-is at c.in-Ok-Left.ensures.does in
    subst (λ (x : Outcome). LeadsTo false true x) (sym e)
    (run_leads c.args.place c.args.piece.now s false true (base64_open s c.requires.blob c.requires.some))

pub given_behind-requires : goal.given_behind-requires
given_behind-requires c =
    let s = known c.args.self.now in
    let gone = c.args.gone.now.octets in
    let octets = c.decode.new.self.octets in
    let l = lexeme_in c.in-Ok-Given.lexeme c.run.new.self in
    let e = rw c.in-Ok-Given.field-0-is at c.in-Ok-Given.ensures.does in
    let used = given_used c.args.place c.args.piece.now s (known c.run.new.self) _ e in
    let blob = base64_open s c.requires.blob c.requires.some in
    let leads = subst (λ (x : Outcome). LeadsTo false true x) (sym e) (run_leads c.args.place c.args.piece.now s false true blob) in
    let alike = run_decoded c.args.place gone octets c.args.piece.now s c.decode.ensures (base64_mode s c.requires.blob) c.requires.some
    ∙ ap (outcome_decoded gone octets) (sym e) in
    let few = subst (λ (x : Outcome). GivesFew x) alike
    (run_few c.args.place c.args.piece.now (behind_gone gone s) c.args.self.now.looked false true (open_behind gone s false true blob) c.requires.steady
    c.requires.room) in
    let both = length-append octets l.octets in
    record { before = omega arith; room = omega arith; text = leads.0; utf8 = λ yes. absurd (let n = leads.1 yes in cc) }

pub returns-in-Ok-Next-clause-answers : goal.returns-in-Ok-Next-clause-answers
returns-in-Ok-Next-clause-answers c =
    let s = known c.args.self.now in
    let t = known c.run.new.self in
    let now = behind_gone c.follows.new.gone.octets (known c.follows.new.self) in
    let e = rw c.in-Ok-Next.field-0-is at c.in-Ok-Next.ensures.does in
    let used = next_used c.args.place c.args.piece.now s t e in
    let alike = went_decoded c.args.place c.args.gone.now.octets c.follows.new.gone.octets c.args.piece.now s t (known c.follows.new.self)
    (base64_mode s c.requires.blob) c.requires.some e c.follows.ensures.known c.follows.ensures.front in
    subst (λ (x : Outcome). Answers c.args.self.now.used x
    (Ok (record { used = length c.args.piece.now; token = None; left = c.follows.new.self.left })) now) (sym alike)
    (record { known = refl; counted = ap (λ (k : Known). k.used) c.follows.ensures.known ∙ used }, refl, c.follows.ensures.left)

pub returns-in-Ok-Next-clause-behind : goal.returns-in-Ok-Next-clause-behind
returns-in-Ok-Next-clause-behind c =
    let s = known c.args.self.now in
    let e = rw c.in-Ok-Next.field-0-is at c.in-Ok-Next.ensures.does in
    let leads = subst (λ (x : Outcome). LeadsTo false true x) (sym e)
    (run_leads c.args.place c.args.piece.now s false true (base64_open s c.requires.blob c.requires.some)) in
    let same = ap (λ (k : Known). k.mode) c.follows.ensures.known in
    base64_fits c.follows.new.gone (known c.follows.new.self) (λ is. c.follows.ensures.base64 (rw (sym same) is))
    (subst (λ (k : Known). IsOpen false true k) (sym c.follows.ensures.known) leads)

pub returns-in-Ok-Next-clause-steady : goal.returns-in-Ok-Next-clause-steady
returns-in-Ok-Next-clause-steady c =
    let s = known c.args.self.now in
    let t = known c.run.new.self in
    let e = rw c.in-Ok-Next.field-0-is at c.in-Ok-Next.ensures.does in
    let used = next_used c.args.place c.args.piece.now s t e in
    let more = rw c.in-Ok-Next.field-0-is at c.in-Ok-Next.ensures.looked in
    let same = c.follows.ensures.looked in
    let alike = went_decoded c.args.place c.args.gone.now.octets c.follows.new.gone.octets c.args.piece.now s t (known c.follows.new.self)
    (base64_mode s c.requires.blob) c.requires.some e c.follows.ensures.known c.follows.ensures.front in
    steady_from c.args.place c.args.piece.now (behind_gone c.args.gone.now.octets s) (behind_gone c.follows.new.gone.octets (known c.follows.new.self))
    c.args.self.now.looked c.follows.new.self.looked alike c.requires.steady c.requires.room (omega arith)

pub returns-in-Ok-Next-clause-looked : goal.returns-in-Ok-Next-clause-looked
returns-in-Ok-Next-clause-looked c =
    let e = rw c.in-Ok-Next.field-0-is at c.in-Ok-Next.ensures.does in
    let used = next_used c.args.place c.args.piece.now (known c.args.self.now) (known c.run.new.self) e in
    let more = rw c.in-Ok-Next.field-0-is at c.in-Ok-Next.ensures.looked in
    let same = c.follows.ensures.looked in
    rw c.follows.ensures.left (omega arith)

pub returns-in-Ok-Given-clause-answers : goal.returns-in-Ok-Given-clause-answers
returns-in-Ok-Given-clause-answers c =
    let s = known c.args.self.now in
    let gone = c.args.gone.now.octets in
    let octets = c.decode.new.self.octets in
    let e = rw c.in-Ok-Given.field-0-is at c.in-Ok-Given.ensures.does in
    let alike = run_decoded c.args.place gone octets c.args.piece.now s c.decode.ensures (base64_mode s c.requires.blob) c.requires.some
    ∙ ap (outcome_decoded gone octets) (sym e) in
    let g = c.given_behind.ensures in
    let now = behind_gone c.given_behind.new.gone.octets (known c.given_behind.new.self) in
    subst (λ (x : Outcome). Answers c.args.self.now.used x (answered c.given_behind.result c.given_behind.new.self.left) now) (sym alike)
    (given_answered (begun_gone octets (lexeme_in c.in-Ok-Given.lexeme c.run.new.self)) (known c.run.new.self) now c.args.self.now.used
    c.given_behind.new.self.left g.left g.known c.given_behind.result g.token g.refuses)

pub returns-in-Ok-Given-clause-lends : goal.returns-in-Ok-Given-clause-lends
returns-in-Ok-Given-clause-lends c = c.given_behind.ensures.lends c.args.piece.now

pub returns-in-Ok-Refused-clause-answers : goal.returns-in-Ok-Refused-clause-answers
returns-in-Ok-Refused-clause-answers c =
    let s = known c.args.self.now in
    let gone = c.args.gone.now.octets in
    let e = rw c.in-Ok-Refused.field-0-is at c.in-Ok-Refused.ensures.does in
    let decodes = c.stands.ensures c.requires.base64 in
    let alike = run_decoded c.args.place gone decodes.0 c.args.piece.now s decodes.1 (base64_mode s c.requires.blob) c.requires.some
    ∙ ap (outcome_decoded gone decodes.0) (sym e) in
    subst (λ (x : Outcome). Answers c.args.self.now.used x (Err c.in-Ok-Refused.refusal) (behind_gone gone (known c.run.new.self))) (sym alike) (λ other. refl)

pub returns-in-Ok-Refused-clause-memory : goal.returns-in-Ok-Refused-clause-memory
returns-in-Ok-Refused-clause-memory c =
    let e = rw c.in-Ok-Refused.field-0-is at c.in-Ok-Refused.ensures.does in
    λ memory. absurd (refused_fair c.args.place c.args.piece.now (known c.args.self.now) _ _ e memory)
