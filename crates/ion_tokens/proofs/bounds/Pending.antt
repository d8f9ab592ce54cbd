-- How many octets a run takes up, and how many it leaves to take up again.
use Rattle.std.proofs.Common.{◌≡◌, ℕ, ◌+◌, ◌-◌, ◌≤◌, ◌<◌, Bool, List, [], ◌∷◌, length, ap, arith, IfOk, IfSome, Result, Ok, Err, Option, Some, None}
use Rattle.std.specs.Prelude.{◌==◌, ◌&&◌, ◌||◌, not, bytes_eq, codes}
use Rattle.std.proofs.lemmas.Bool.{cond_both}
use Rattle.ion_tokens.specs.Names.{Action, Answers, Given, Known, Left, Next, Outcome, Place, Refusal, Refused, Scan, Token, acts, answered, blob_of, debt, feed, follow, is_idle, run, taken_up, unkept}
use Rattle.ion_tokens.specs.machine.Table.{next}
use Rattle.ion_tokens.proofs.bounds.Fits.{Fits, added, is_fresh, is_nothing, table_fits}
use Rattle.ion_tokens.proofs.bounds.Steady.{ended_well, le_of, les_of, went_well}
use Rattle.ion_tokens.proofs.runs.Runs.{Between, acts_between, blob_both, run_between}

-- Behind octets that were all used one is taken up, whatever comes of it.
pub took_one : (x : Outcome) (before n used : ℕ) → Between x used 1 → used ≡ before + n → taken_up before x ≡ n + 1
unfolding Between
took_one (Next s) before n used h e = omega arith
took_one _ before n used h e = omega arith

-- Where so many octets could be taken up again, behind `before` that were used, what comes leaves at most as many more as were used, and
-- fewer where a token came.
unfoldable pub Owes : ℕ → ℕ → Outcome → Type 0
Owes owed before (Next s) = debt s.mode ≤ owed + (s.used - before)
Owes owed before (Given l s) = debt s.mode < owed + (s.used - before)
Owes owed before (Left l s) = debt s.mode < owed + (s.used - before)
Owes owed before (Refused at r) = Unit {0}

-- one octet, too
pub acts_owes : (p : Place) (s : Known) (o : ℕ) (a : Action) → Fits (unkept s.mode) (debt s.mode) (is_idle s.mode) a → Owes (debt s.mode) s.used (acts p s o a)
unfolding Owes
acts_owes p s o (Action.Go m k) f =
    let t = went_well (added k + unkept m) (unkept s.mode + 1) (debt m) (debt s.mode + 1) (not (is_idle m) || (is_idle s.mode && is_nothing k)) f.is in
    omega arith
acts_owes p s o (Action.Give kind k) f = omega arith
acts_owes p s o (Action.Before kind k m) f =
    let t = ended_well (debt m) (debt s.mode) (unkept m) (unkept s.mode) (is_fresh m) f.is in
    omega arith
acts_owes p s o Action.EndWord f =
    cond_both ((o == 46) && bytes_eq s.kept (codes "null")) _ _ (Owes (debt s.mode) s.used) (λ _. omega arith)
    (λ _. let t = le_of 1 (debt s.mode) f.is in omega arith)
acts_owes p s o (Action.Split letters) f = let t = les_of letters (unkept s.mode) 2 (debt s.mode) f.is in omega arith
acts_owes p s o Action.EndBlob f = blob_both (Owes (debt s.mode) s.used) s (blob_of s.kept) tt (λ _. omega arith)
acts_owes p s o (Action.Refuse e) f = tt

-- behind one octet more
owes_next : (x : Outcome) (owed before now used n : ℕ) → used ≡ before + 1 → now ≤ owed + (used - before) → Between x used n → Owes now used x
    → Owes owed before x
unfolding Owes Between
owes_next (Refused at r) owed before now used n e d b h = tt
owes_next _ owed before now used n e d b h = omega arith

owes_follow : (x : Outcome) (f : Known → Outcome) (owed before n : ℕ) → Between x before 1 → Owes owed before x → ((t : Known) → Between (f t) t.used n)
    → ((t : Known) → Owes (debt t.mode) t.used (f t)) → Owes owed before (follow x f)
unfolding Owes Between
owes_follow (Next s) f owed before n b h between more = owes_next (f s) owed before (debt s.mode) s.used n b h (between s) (more s)
owes_follow (Refused at r) f owed before n b h between more = tt
owes_follow _ f owed before n b h between more = h

-- a run adds no more to what may be taken up again than it used, and less where a token came
pub run_owes : (p : Place) (os : List ℕ) (s : Known) → Owes (debt s.mode) s.used (run p os s)
unfolding Owes
run_owes p [] s = omega arith
run_owes p (o ∷ os) s =
    owes_follow (feed p s o) _ (debt s.mode) s.used (length os) (acts_between p s o (next p s.colon s.mode o))
    (acts_owes p s o (next p s.colon s.mode o) (table_fits p s.colon s.mode o)) (λ t. run_between p os t) (λ t. run_owes p os t)

-- A step leaves at most as many octets more to take up again as it used.
pub few_owed : (x : Outcome) (r : Result Scan Refusal) (left : Bool) (owed before : ℕ) (now : Known) → Owes owed before x
    → Answers before x (answered r left) now
    → IfOk r (λ scan. debt now.mode ≤ owed + scan.used)
unfolding Owes
few_owed (Refused at r) (Ok scan) left owed before now h a = absurd a
few_owed x (Err r) left owed before now h a = tt
few_owed _ (Ok scan) left owed before now h a = let e = ap (λ (t : Known). debt t.mode) a.0.known in let u = ap (λ (t : Known). t.used) a.0.known in
    let k = a.0.counted in omega arith

some_fewer : (t : Option Token) (a b : ℕ) → a < b → IfSome t (λ _. a < b)
some_fewer None a b h = tt
some_fewer (Some t) a b h = h

none_fewer : (t : Option Token) (a b : ℕ) → t ≡ None → IfSome t (λ _. a < b)
none_fewer None a b e = tt
none_fewer (Some t) a b e = cc

-- With a token it leaves fewer.
pub fewer_owed : (x : Outcome) (r : Result Scan Refusal) (left : Bool) (owed before : ℕ) (now : Known) → Owes owed before x
    → Answers before x (answered r left) now
    → IfOk r (λ scan. IfSome scan.token (λ _. debt now.mode < owed + scan.used))
unfolding Owes
fewer_owed (Next s) (Ok scan) left owed before now h a = none_fewer scan.token _ _ a.1
fewer_owed (Refused at r) (Ok scan) left owed before now h a = absurd a
fewer_owed x (Err r) left owed before now h a = tt
fewer_owed _ (Ok scan) left owed before now h a =
    let e = ap (λ (t : Known). debt t.mode) a.0.known in let u = ap (λ (t : Known). t.used) a.0.known in let k = a.0.counted in
    some_fewer scan.token _ _ (omega arith)
