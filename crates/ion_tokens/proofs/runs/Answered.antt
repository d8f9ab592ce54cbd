-- How much of its piece a step used, and where it refused.
use Rattle.std.proofs.Common.{◌≡◌, ℕ, Bool, ◌≤◌, ◌≢◌, ap, arith, IfOk, IfErr, None, Result, Ok, Err, Option, Some}
use Rattle.ion_tokens.specs.Names.{Answers, GivesToken, IsWithin, Known, Lexeme, Memory, Next, Outcome, Refusal, Refused, Scan, Token, answered}
use Rattle.ion_tokens.proofs.runs.Runs.{Between}

-- a step that answers `Ok` uses no more octets than its piece has
pub used_within : (x : Outcome) (r : Result Scan Refusal) (left : Bool) (before n : ℕ) (now : Known) → Between x before n
    → Answers before x (answered r left) now
    → IfOk r (λ scan. scan.used ≤ n)
unfolding Between
used_within (Refused at reason) (Ok scan) left before n now h a = absurd a
used_within x (Err r) left before n now h a = tt
used_within _ (Ok scan) left before n now h a = let e = ap (λ (t : Known). t.used) a.0.known in let k = a.0.counted in omega arith

gives_some : (l : Lexeme) (t : Option Token) → GivesToken l t → t ≡ None → ⊥
gives_some l None g e = g
gives_some l (Some t) g e = cc

-- a step that gives no token uses its piece to the end
pub used_whole : (x : Outcome) (r : Result Scan Refusal) (left : Bool) (before n : ℕ) (now : Known) → Between x before n
    → Answers before x (answered r left) now
    → IfOk r (λ scan. scan.token ≡ None → scan.used ≡ n)
unfolding Between
used_whole (Next s) (Ok scan) left before n now h a = let e = ap (λ (t : Known). t.used) a.0.known in let k = a.0.counted in λ _. omega arith
used_whole (Refused at reason) (Ok scan) left before n now h a = absurd a
used_whole x (Err r) left before n now h a = tt
used_whole _ (Ok scan) left before n now h a = λ none. absurd (gives_some _ scan.token a.1 none)

-- a refusal is at one of the octets of the piece
pub refused_within : (x : Outcome) (r : Result Scan Refusal) (left : Bool) (before n : ℕ) (now : Known) → Between x before n
    → Answers before x (answered r left) now
    → IfErr r (λ refusal. refusal.reason ≢ Memory → IsWithin before n refusal)
unfolding Between
refused_within x (Ok scan) left before n now h a = tt
refused_within (Next s) (Err r) left before n now h a = λ other. absurd (a other)
refused_within (Refused k reason) (Err r) left before n now h a = λ other. let at = ap (λ (q : Refusal). q.offset) (a other) in
    (omega (arith, at, h.0), omega (arith, at, h.1))
refused_within _ (Err r) left before n now h a = λ other. let at = (a other).offset in (omega (arith, at, h.0), omega (arith, at, h.1))
