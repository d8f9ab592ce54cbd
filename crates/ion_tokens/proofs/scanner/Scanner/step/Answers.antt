use Rattle.std.proofs.Common.{◌≡◌, ◌≢◌, ℕ, List, length, refl, true, IfOk, IfErr, IfSome}
use Rattle.std.specs.Prelude.{Result, Ok, Err, Option, Some, None, Bool}
use Rattle.ion_tokens.specs.Names.{Answers, AnswersTrace, BorrowsAt, Continues, Goes, GoesWith, Known, LendsWhole, Memory, Place, Placed, Refusal, RefusesAt, Scan, Scanned, Stepped, Token, answered, debt, is_step_reason, run, stepped}
use Rattle.ion_tokens.specs.machine.LetGo.{behind_gone}
use Rattle.ion_tokens.specs.machine.Machines.{known}
use Rattle.ion_tokens.specs.machine.Views.{scanned}
use Rattle.ion_tokens.proofs.bounds.Causes.{answer_reason, run_fair}
use Rattle.ion_tokens.proofs.bounds.Pending.{few_owed, fewer_owed, run_owes}
use Rattle.ion_tokens.proofs.histories.Stepped.{step_goes, step_refuses}
use Rattle.ion_tokens.proofs.runs.Answered.{refused_within, used_whole, used_within}
use Rattle.ion_tokens.proofs.runs.Lendings.{step_lends}
use Rattle.ion_tokens.proofs.runs.Runs.{run_between}
use Rattle.ion_tokens.proofs.traces.Traced.{step_stops, step_traced}
use Rattle.ion_tokens.proofs.scanner.Scanner.step.Goals as goal

-- what the piece and the answer to it show together
module _ (p : Place) (s : Known) (piece : List ℕ) (left : Bool) (now : Known) where
  fair : (r : Result Scan Refusal) → Answers s.used (run p piece s) (answered r left) now → IfErr r (λ refusal. is_step_reason refusal.reason ≡ true)
  fair r a = answer_reason (run p piece s) r left s.used now (run_fair p piece s) a

  goes : (r : Result Scan Refusal) → Answers s.used (run p piece s) (answered r left) now → IfOk r (λ scan. Goes p s piece (stepped scan left) now)
  goes (Ok scan) a = λ u ts ahead h on. step_goes p s u ts ahead h piece _ (stepped scan left) now on refl a
  goes (Err r) a = tt

  refuses : (r : Result Scan Refusal) → Answers s.used (run p piece s) (answered r left) now
      → IfErr r (λ refusal. refusal.reason ≢ Memory → RefusesAt p s piece refusal.offset)
  refuses (Ok scan) a = tt
  refuses (Err r) a = λ other u ts ahead h on. step_refuses p s u ts ahead h piece _ r now other on refl a

  traced : (r : Result Scan Refusal) → Answers s.used (run p piece s) (answered r left) now → AnswersTrace p s piece (answered r left) now
  traced (Ok scan) a = step_traced p s piece _ (stepped scan left) now refl a
  traced (Err r) a = step_stops p s piece _ r now refl a

  lent : (scan : Stepped) (token : Option Token)
      → ((u : List ℕ) (ts : List Placed) (ahead : List ℕ) → Scanned p s u ts ahead → Continues piece ahead → GoesWith p u piece ts scan now token)
      → IfSome token (λ t. BorrowsAt s.used t.start t.end piece t.body) → IfSome token (λ t. LendsWhole p s piece t)
  lent scan None h b = tt
  lent scan (Some t) h b = λ u ts ahead stood on. step_lends p s u ts ahead stood piece scan t now (h u ts ahead stood on) b

  lends : (r : Result Scan Refusal) → Answers s.used (run p piece s) (answered r left) now
      → IfOk r (λ scan. IfSome scan.token (λ t. BorrowsAt s.used t.start t.end piece t.body)) → IfOk r (λ scan. IfSome scan.token (λ t. LendsWhole p s piece t))
  lends (Ok scan) a b = lent (stepped scan left) scan.token (goes (Ok scan) a) b
  lends (Err r) a b = tt

pub returns-in_default-result-clause-used : goal.returns-in_default-result-clause-used
returns-in_default-result-clause-used c =
    let s = scanned c.args.self.now in
    used_within (run c.args.place c.args.piece.now s) c.scan_behind-result.result c.scan_behind-result.new.self.left s.used (length c.args.piece.now)
    (behind_gone c.scan_behind-result.new.gone.octets (known c.scan_behind-result.new.self))
    (run_between c.args.place c.args.piece.now s) c.scan_behind-result.ensures.answers

pub returns-in_default-result-clause-all : goal.returns-in_default-result-clause-all
returns-in_default-result-clause-all c =
    let s = scanned c.args.self.now in
    used_whole (run c.args.place c.args.piece.now s) c.scan_behind-result.result c.scan_behind-result.new.self.left s.used (length c.args.piece.now)
    (behind_gone c.scan_behind-result.new.gone.octets (known c.scan_behind-result.new.self))
    (run_between c.args.place c.args.piece.now s) c.scan_behind-result.ensures.answers

pub returns-in_default-result-clause-reasons : goal.returns-in_default-result-clause-reasons
returns-in_default-result-clause-reasons c = λ _. fair c.args.place (scanned c.args.self.now) c.args.piece.now c.scan_behind-result.new.self.left
    (behind_gone c.scan_behind-result.new.gone.octets (known c.scan_behind-result.new.self)) c.scan_behind-result.result c.scan_behind-result.ensures.answers

pub returns-in-Err-clause-reasons : goal.returns-in-Err-clause-reasons
returns-in-Err-clause-reasons c = λ _. fair c.args.place (scanned c.args.self.now) c.args.piece.now c.scan_behind-result.new.self.left
    (behind_gone c.scan_behind-result.new.gone.octets (known c.scan_behind-result.new.self)) c.scan_behind-result.result c.scan_behind-result.ensures.answers

pub returns-in_default-result-clause-goes : goal.returns-in_default-result-clause-goes
returns-in_default-result-clause-goes c = λ none. goes c.args.place (scanned c.args.self.now) c.args.piece.now c.scan_behind-result.new.self.left
    (behind_gone c.scan_behind-result.new.gone.octets (known c.scan_behind-result.new.self)) c.scan_behind-result.result c.scan_behind-result.ensures.answers

pub returns-in-Err-clause-refuses : goal.returns-in-Err-clause-refuses
returns-in-Err-clause-refuses c = λ none. refuses c.args.place (scanned c.args.self.now) c.args.piece.now c.scan_behind-result.new.self.left
    (behind_gone c.scan_behind-result.new.gone.octets (known c.scan_behind-result.new.self)) c.scan_behind-result.result c.scan_behind-result.ensures.answers

pub returns-in-Err-clause-within : goal.returns-in-Err-clause-within
returns-in-Err-clause-within c =
    let s = scanned c.args.self.now in
    λ none. refused_within (run c.args.place c.args.piece.now s) c.scan_behind-result.result c.scan_behind-result.new.self.left s.used (length c.args.piece.now)
    (behind_gone c.scan_behind-result.new.gone.octets (known c.scan_behind-result.new.self))
    (run_between c.args.place c.args.piece.now s) c.scan_behind-result.ensures.answers

pub returns-in_default-result-clause-traced : goal.returns-in_default-result-clause-traced
returns-in_default-result-clause-traced c = λ none. traced c.args.place (scanned c.args.self.now) c.args.piece.now c.scan_behind-result.new.self.left
    (behind_gone c.scan_behind-result.new.gone.octets (known c.scan_behind-result.new.self)) c.scan_behind-result.result c.scan_behind-result.ensures.answers

pub returns-in-Err-clause-traced : goal.returns-in-Err-clause-traced
returns-in-Err-clause-traced c = λ none. traced c.args.place (scanned c.args.self.now) c.args.piece.now c.scan_behind-result.new.self.left
    (behind_gone c.scan_behind-result.new.gone.octets (known c.scan_behind-result.new.self)) c.scan_behind-result.result c.scan_behind-result.ensures.answers

pub returns-in_default-result-clause-few_pending : goal.returns-in_default-result-clause-few_pending
returns-in_default-result-clause-few_pending c =
    let s = scanned c.args.self.now in
    few_owed (run c.args.place c.args.piece.now s) c.scan_behind-result.result c.scan_behind-result.new.self.left (debt s.mode) s.used (behind_gone c.scan_behind-result.new.gone.octets (known c.scan_behind-result.new.self))
    (run_owes c.args.place c.args.piece.now s) c.scan_behind-result.ensures.answers

pub returns-in_default-result-clause-progress : goal.returns-in_default-result-clause-progress
returns-in_default-result-clause-progress c =
    let s = scanned c.args.self.now in
    fewer_owed (run c.args.place c.args.piece.now s) c.scan_behind-result.result c.scan_behind-result.new.self.left (debt s.mode) s.used (behind_gone c.scan_behind-result.new.gone.octets (known c.scan_behind-result.new.self))
    (run_owes c.args.place c.args.piece.now s) c.scan_behind-result.ensures.answers

pub returns-in_default-result-clause-lends : goal.returns-in_default-result-clause-lends
returns-in_default-result-clause-lends c = λ none. lends c.args.place (scanned c.args.self.now) c.args.piece.now c.scan_behind-result.new.self.left
    (behind_gone c.scan_behind-result.new.gone.octets (known c.scan_behind-result.new.self)) c.scan_behind-result.result c.scan_behind-result.ensures.answers c.scan_behind-result.ensures.lends
