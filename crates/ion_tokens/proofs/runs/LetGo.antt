-- Octets behind a text whose front was let go: what comes of them is what comes without it, which stands before what is kept.
use Rattle.std.proofs.Common.{◌≡◌, ◌≤◌, ℕ, ◌+◌, ◌-◌, Bool, true, false, refl, sym, ap, ◌∙◌, List, [], ◌∷◌, ◌++◌, length, take, arith, append_assoc, cond, IfOk, IfErr}
use Rattle.std.specs.Prelude.{◌&&◌, nat_le, encode_utf8, Result, Ok, Err}
use Rattle.std.proofs.lemmas.Bool.{and_parts}
use Rattle.std.proofs.lemmas.Bool.Decides.{nat_tests}
use Rattle.std.proofs.lemmas.List.{length-append}
use Rattle.std.proofs.Math.Seq.{take-append-add}
use Rattle.ion_tokens.specs.Names.{Action, Answers, BadUtf8, Given, GivesToken, Keep, Known, Left, Lexeme, Mode, Next, Outcome, Place, Refusal, Refused, RefusesToken, Scan, acts, answered, cut, feed, follow, go_to, gone_on, keeps_them, kept_after, past, run}
use Rattle.ion_tokens.specs.laws.ByRows.{by_rows_where}
use Rattle.ion_tokens.specs.machine.LetGo.{behind_gone, goes_on_behind, may_let_go, outcome_behind, quotes_kept}
use Rattle.ion_tokens.specs.machine.Table.{next}

-- of what is kept so many octets are dropped
abbrev drops : Keep → ℕ
drops Keep.DropQuotes = 2
drops _ = 0

-- behind so many quotes an action goes on with the text, drops no octet but them, and keeps those of the next close
abbrev goes_so : ℕ → Mode → Keep → Bool
goes_so n m (Keep.One o) = may_let_go m && nat_le (quotes_kept m) (n + 1)
goes_so n m k = may_let_go m && nat_le (drops k) n && nat_le (quotes_kept m) 0

-- what an action does is the same whatever stands before what is kept
abbrev pub is_alike : ℕ → Action → Bool
is_alike n (Action.Go m k) = goes_so n m k
is_alike n (Action.Give kind k) = nat_le (drops k) n
is_alike n (Action.Refuse e) = true
is_alike n _ = false

pub next_alike : (p : Place) (colon : Bool) (m : Mode) (o : ℕ) → may_let_go m ≡ true → is_alike (quotes_kept m) (next p colon m o) ≡ true
next_alike = by_rows_where may_let_go (λ sexp m. is_alike (quotes_kept m)) (λ c t. refl)

kept_behind : (k : Keep) (gone kept : List ℕ) → drops k ≤ length kept → kept_after k (gone ++ kept) ≡ gone ++ kept_after k kept
kept_behind Keep.Nothing gone kept d = refl
kept_behind (Keep.One o) gone kept d = append_assoc gone kept (o ∷ [])
kept_behind (Keep.Two o p) gone kept d =
    ap (λ k. k ++ p ∷ []) (append_assoc gone kept (o ∷ [])) ∙ append_assoc gone (kept ++ o ∷ []) (p ∷ [])
kept_behind (Keep.Character c) gone kept d = append_assoc gone kept (encode_utf8 c)
kept_behind Keep.DropQuotes gone kept d =
    let l = length-append gone kept in
    let n : length (gone ++ kept) - 2 ≡ length gone + (length kept - 2) = omega arith in
    ap (λ n. take n (gone ++ kept)) n ∙ take-append-add gone kept (length kept - 2)

-- so many are kept, of which so many may be dropped
pub at_most : (a b : ℕ) → nat_le a b ≡ true → a ≤ b
at_most a b h = grind (arith, nat_tests)

dropped : (n : ℕ) (m : Mode) (k : Keep) → goes_so n m k ≡ true → drops k ≤ n
dropped n m (Keep.One o) h = omega arith
dropped n m k h =
    at_most (drops k) n (and_parts (may_let_go m) (nat_le (drops k) n) (and_parts (may_let_go m && nat_le (drops k) n) (nat_le (quotes_kept m) 0) h).0).1

acts_alike : (p : Place) (gone : List ℕ) (s : Known) (o n : ℕ) (a : Action) → n ≤ length s.kept → is_alike n a ≡ true
    → acts p (behind_gone gone s) o a ≡ outcome_behind gone (acts p s o a)
acts_alike p gone s o n (Action.Go m k) many h =
    let d = dropped n m k h in
    ap (λ kept. Next (go_to (behind_gone gone s) m kept)) (kept_behind k gone s.kept (omega arith))
acts_alike p gone s o n (Action.Give kind k) many h =
    let d = at_most (drops k) n h in
    ap (λ kept. Given (cut s kind kept (s.used + 1)) (past p kind Mode.Blank [] (s.used + 1) (s.used + 1))) (kept_behind k gone s.kept (omega arith))
acts_alike p gone s o n (Action.Refuse e) many h = refl
acts_alike p gone s o n _ many h = absurd cc

-- what comes of octets, if it is no token, is a text of which more may be let go
abbrev pub Lasts : Outcome → Type 0
Lasts (Next s) = goes_on_behind s.mode s.kept ≡ true
Lasts _ = Unit {0}

lasts : (may : Bool) (a b : ℕ) → may ≡ true → a ≤ b → (may && nat_le a b) ≡ true
lasts may a b m h = grind (arith, nat_tests)

pub acts_last : (p : Place) (s : Known) (o n : ℕ) (a : Action) → n ≤ length s.kept → is_alike n a ≡ true → Lasts (acts p s o a)
acts_last p s o n (Action.Go m (Keep.One k)) many h =
    let both = and_parts (may_let_go m) (nat_le (quotes_kept m) (n + 1)) h in
    let l = length-append s.kept (k ∷ []) in
    let q = at_most (quotes_kept m) (n + 1) both.1 in
    lasts (may_let_go m) (quotes_kept m) (length (s.kept ++ k ∷ [])) both.0 (omega arith)
acts_last p s o n (Action.Go m k) many h =
    let both = and_parts (may_let_go m && nat_le (drops k) n) (nat_le (quotes_kept m) 0) h in
    let q = at_most (quotes_kept m) 0 both.1 in
    lasts (may_let_go m) (quotes_kept m) (length (kept_after k s.kept)) (and_parts (may_let_go m) (nat_le (drops k) n) both.0).0 (omega arith)
acts_last p s o n (Action.Give kind k) many h = tt
acts_last p s o n (Action.Refuse e) many h = tt
acts_last p s o n _ many h = absurd cc

follow_alike : (gone : List ℕ) (x y : Outcome) (f : Known → Outcome) → y ≡ outcome_behind gone x → Lasts x
    → ((s : Known) → goes_on_behind s.mode s.kept ≡ true → f (behind_gone gone s) ≡ outcome_behind gone (f s))
    → follow y f ≡ outcome_behind gone (follow x f)
follow_alike gone (Next s) y f e l more = ap (λ y. follow y f) e ∙ more s l
follow_alike gone (Given l s) y f e _ more = ap (λ y. follow y f) e
follow_alike gone (Left l s) y f e _ more = ap (λ y. follow y f) e
follow_alike gone (Refused at reason) y f e _ more = ap (λ y. follow y f) e

-- Octets behind a text of which octets were let go lead where they lead without those, with them before what is kept.
pub run_alike : (p : Place) (gone os : List ℕ) (s : Known) → goes_on_behind s.mode s.kept ≡ true
    → run p os (behind_gone gone s) ≡ outcome_behind gone (run p os s)
run_alike p gone [] s h = refl
run_alike p gone (o ∷ os) s h =
    let both = and_parts (may_let_go s.mode) (nat_le (quotes_kept s.mode) (length s.kept)) h in
    let many = at_most (quotes_kept s.mode) (length s.kept) both.1 in
    let alike = next_alike p s.colon s.mode o both.0 in
    follow_alike gone (feed p s o) (feed p (behind_gone gone s) o) (λ t. run p os t)
    (acts_alike p gone s o (quotes_kept s.mode) (next p s.colon s.mode o) many alike)
    (acts_last p s o (quotes_kept s.mode) (next p s.colon s.mode o) many alike)
    (λ t l. run_alike p gone os t l)

-- A token that octets gave was answered so, if it is judged with what was let go.
pub given_answered : (l : Lexeme) (t now : Known) (before : ℕ) (left : Bool) → left ≡ false → now ≡ t → (r : Result Scan Refusal)
    → IfOk r (λ scan. GivesToken l scan.token × (t.used ≡ before + scan.used)) → IfErr r (λ refusal. (refusal.reason ≡ BadUtf8) × RefusesToken l t.used refusal)
    → Answers before (Given l t) (answered r left) now
given_answered l t now before left f same (Ok scan) g m = (record { known = same; counted = ap (λ (t : Known). t.used) same ∙ g.1 }, g.0, f)
given_answered l t now before left f same (Err r) g m = λ other. m.1

-- Octets with which the mode goes on lead so, too.
pub gone_on_behind : (gone : List ℕ) (s t : Known) (w : List ℕ) → t ≡ gone_on s w → behind_gone gone t ≡ gone_on (behind_gone gone s) w
gone_on_behind gone s t w e = ap (behind_gone gone) e ∙ by (keeps_them s.mode) where
  by : (b : Bool) → behind_gone gone (record (gone_on s w) { kept = cond b (s.kept ++ w) s.kept })
      ≡ record (gone_on s w) { kept = cond b ((gone ++ s.kept) ++ w) (gone ++ s.kept) }
  by true = ap (λ k. record (gone_on s w) { kept = k }) (sym (append_assoc gone s.kept w))
  by false = refl
