use Rattle.std.proofs.Common.{◌≡◌, ◌≢◌, ℕ, ◌+◌, ◌-◌, ◌^◌, ◌≤◌, min, length, subst, refl, arith, IfErr}
use Rattle.std.specs.Prelude.{Result, Ok, Err, None, false}
use Rattle.ion_tokens.specs.Names.{Answers, Lexeme, Memory, Outcome, Refusal, RefusesToken, Scan}
use Rattle.ion_tokens.specs.machine.Machines.{known, lexeme_in}
use Rattle.ion_tokens.proofs.bounds.Causes.{refused_fair}
use Rattle.ion_tokens.proofs.runs.Runs.{given_used, left_used, next_used}
use Rattle.ion_tokens.proofs.machine.Machine.scan.Goals as goal

pub given-requires : goal.given-requires
given-requires c =
    let e = rw c.in-Ok-Given.field-0-is at c.in-Ok-Given.ensures.does in
    let used = given_used c.args.place c.args.piece.now (known c.args.self.now) (known c.run.new.self) _ e in
    omega arith

pub given-requires-in-Ok-Left : goal.given-requires-in-Ok-Left
given-requires-in-Ok-Left c =
    let e = rw c.in-Ok-Left.field-0-is at c.in-Ok-Left.ensures.does in
    let used = left_used c.args.place c.args.piece.now (known c.args.self.now) (known c.run.new.self) _ e in
    omega arith

pub returns-in-Ok-Next-clause-answers : goal.returns-in-Ok-Next-clause-answers
returns-in-Ok-Next-clause-answers c =
    let e = rw c.in-Ok-Next.field-0-is at c.in-Ok-Next.ensures.does in
    let used = next_used c.args.place c.args.piece.now (known c.args.self.now) (known c.run.new.self) e in
    subst (λ (x : Outcome). Answers c.args.self.now.used x (Ok (record { used = length c.args.piece.now; token = None; left = false })) (known c.run.new.self))
    e
    (record { known = refl; counted = used }, refl, refl)

pub returns-in-Ok-Refused-clause-memory : goal.returns-in-Ok-Refused-clause-memory
returns-in-Ok-Refused-clause-memory c =
    let e = rw c.in-Ok-Refused.field-0-is at c.in-Ok-Refused.ensures.does in
    λ memory. absurd (refused_fair c.args.place c.args.piece.now (known c.args.self.now) _ _ e memory)

pub returns-in-Ok-Next-clause-looked : goal.returns-in-Ok-Next-clause-looked
returns-in-Ok-Next-clause-looked c =
    let e = rw c.in-Ok-Next.field-0-is at c.in-Ok-Next.ensures.does in
    let used = next_used c.args.place c.args.piece.now (known c.args.self.now) (known c.run.new.self) e in
    let more = rw c.in-Ok-Next.field-0-is at c.in-Ok-Next.ensures.looked in
    omega arith

-- an octet that was left is looked at, too
looked_at : (r : Result Scan Refusal) (l : Lexeme) (used before old now : ℕ) → before ≤ used → now ≡ min (old + ((used - before) + 1)) (2 ^ 64 - 1)
    → IfErr r (λ refusal. refusal.reason ≢ Memory → RefusesToken l (used + 1) refusal)
    → IfErr r (λ refusal. refusal.reason ≢ Memory → now ≡ min (old + (refusal.offset - before)) (2 ^ 64 - 1))
looked_at (Ok scan) l used before old now le e h = tt
looked_at (Err refusal) l used before old now le e h = λ other. let at = (h other).offset in omega arith

pub returns-in-Ok-Left-clause-looked_at : goal.returns-in-Ok-Left-clause-looked_at
returns-in-Ok-Left-clause-looked_at c =
    let e = rw c.in-Ok-Left.field-0-is at c.in-Ok-Left.ensures.does in
    let used = left_used c.args.place c.args.piece.now (known c.args.self.now) (known c.run.new.self) _ e in
    let more = rw c.in-Ok-Left.field-0-is at c.in-Ok-Left.ensures.looked in
    let same = c.given-in-Ok-Left.ensures.looked in
    looked_at c.given-in-Ok-Left.result (lexeme_in c.in-Ok-Left.lexeme c.run.new.self) c.run.new.self.used c.args.self.now.used c.args.self.now.looked
    c.given-in-Ok-Left.new.self.looked
    (omega arith) (omega arith) c.given-in-Ok-Left.ensures.err
