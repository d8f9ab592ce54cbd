use Rattle.std.proofs.Common.{ℕ, List, [], ◌≢◌, refl, IfOk, IfErr, IfSome}
use Rattle.std.specs.Prelude.{Option, Some, None, Result, Ok, Err}
use Rattle.ion_tokens.specs.Names.{BorrowsAt, EndsFor, EndsSo, Known, Memory, NoEnd, OwnsLast, Placed, Refusal, Scanned, Token, at_end}
use Rattle.ion_tokens.specs.machine.Views.{scanned}
use Rattle.ion_tokens.specs.machine.Steps.{Ends}
use Rattle.ion_tokens.proofs.histories.EndCauses.{end_fair, end_reason}
use Rattle.ion_tokens.proofs.histories.Stepped.{end_goes, end_refuses}
use Rattle.ion_tokens.proofs.runs.Lendings.{end_owns}
use Rattle.ion_tokens.proofs.traces.Traced.{end_traced}
use Rattle.ion_tokens.proofs.scanner.Scanner.finish.Goals as goal

pub returns-clause-whole : goal.returns-clause-whole
returns-clause-whole c = λ none. by c.finish_behind.result c.finish_behind.ensures.ends where
  by : (r : Result (Option Token) Refusal) → Ends c.args.self.machine.used (at_end c.args.place (scanned c.args.self)) r
      → IfOk r (λ token. (u : List ℕ) (ts : List Placed) → Scanned c.args.place (scanned c.args.self) u ts [] → EndsSo c.args.place u ts token)
  by (Ok token) a = λ u ts h. end_goes c.args.place (scanned c.args.self) u ts h _ token refl a
  by (Err r) a = tt

pub returns-clause-refuses : goal.returns-clause-refuses
returns-clause-refuses c = λ none. by c.finish_behind.result c.finish_behind.ensures.ends where
  by : (r : Result (Option Token) Refusal) → Ends c.args.self.machine.used (at_end c.args.place (scanned c.args.self)) r
      → IfErr r (λ refusal. refusal.reason ≢ Memory → (u : List ℕ) (ts : List Placed) → Scanned c.args.place (scanned c.args.self) u ts []
      → NoEnd c.args.place u ts)
  by (Ok token) a = tt
  by (Err r) a = λ other u ts h. end_refuses c.args.place (scanned c.args.self) u ts h _ r other refl a

pub returns-clause-reasons : goal.returns-clause-reasons
returns-clause-reasons c = λ none. by c.finish_behind.result c.finish_behind.ensures.ends where
  by : (r : Result (Option Token) Refusal) → Ends c.args.self.machine.used (at_end c.args.place (scanned c.args.self)) r
      → IfErr r (λ refusal. EndsFor c.args.place (scanned c.args.self) refusal.reason)
  by (Ok token) a = tt
  by (Err r) a = λ u ts h. end_reason (at_end c.args.place (scanned c.args.self)) r c.args.self.machine.used
      (end_fair c.args.place (scanned c.args.self) u ts h) a

pub returns-clause-traced : goal.returns-clause-traced
returns-clause-traced c = λ none. end_traced c.args.place (scanned c.args.self) _ c.finish_behind.result refl c.finish_behind.ensures.ends

pub returns-clause-owns : goal.returns-clause-owns
returns-clause-owns c = λ none. by c.finish_behind.result c.finish_behind.ensures.ends c.finish_behind.ensures.lends where
  s : Known
  s = scanned c.args.self

  so : (token : Option Token) → ((u : List ℕ) (ts : List Placed) → Scanned c.args.place s u ts [] → EndsSo c.args.place u ts token)
      → IfSome token (λ t. BorrowsAt s.used t.start t.end [] t.body)
      → IfSome token (λ t. OwnsLast c.args.place s t)
  so None h b = tt
  so (Some t) h b = λ u ts stood. end_owns c.args.place s u ts stood t (h u ts stood) b

  by : (r : Result (Option Token) Refusal) → Ends s.used (at_end c.args.place s) r
      → IfOk r (λ token. IfSome token (λ t. BorrowsAt s.used t.start t.end [] t.body)) → IfOk r (λ token. IfSome token (λ t. OwnsLast c.args.place s t))
  by (Ok token) a b = so token (λ u ts h. end_goes c.args.place s u ts h _ token refl a) b
  by (Err r) a b = tt
