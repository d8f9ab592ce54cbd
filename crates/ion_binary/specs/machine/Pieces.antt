-- Runs in pieces.
use Rattle.std.proofs.Common.{◌≡◌, ℕ, ◌+◌, List, [], ◌∷◌, ◌++◌, length, Result, Ok, Err, refl, ap, ◌∙◌, arith, length-append}
use Rattle.ion_binary.specs.Names.Below.{Catalog, Limits, Refusal, Value}
use Rattle.ion_binary.specs.machine.EachOctet.{Machine, Outcome, feed, gives, goes, refuses, under}
use Rattle.ion_binary.specs.machine.Run.{Run, run, run_on, with_value}

-- behind the values given, the rest of the run, unless it was refused
abbrev pub on_now : List (Value × ℕ) → Result Machine Refusal → (Machine → Run) → Run
on_now given (Ok m) rest = record { given = given ++ (rest m).given; now = (rest m).now }
on_now given (Err refusal) rest = record { given = given; now = Err refusal }

-- one run, and another one from where it led
abbrev pub then_run : Run → (Machine → Run) → Run
then_run r rest = on_now r.given r.now rest

-- a run that gave nothing
abbrev pub led : Machine → Run
led m = record { given = []; now = Ok m }

-- a run that ends with this outcome, behind `to` octets
abbrev pub run_after : ℕ → Outcome → Run
run_after to o = run_on to led o

on_now-more : (v : Value × ℕ) (given : List (Value × ℕ)) (now : Result Machine Refusal) (rest : Machine → Run) →
    with_value v.0 v.1 (on_now given now rest) ≡ on_now (v ∷ given) now rest
on_now-more v given (Ok m) rest = refl
on_now-more v given (Err refusal) rest = refl

-- a run that ends with an outcome, and then another, is that other behind the outcome
pub then_after : (to : ℕ) (o : Outcome) (k : Machine → Run) → then_run (run_after to o) k ≡ run_on to k o
then_after to (goes m) k = refl
then_after to _ k = refl

module _ (g : Catalog) (l : Limits) where
  -- what is so for each machine that an octet may lead to is so for the outcome
  pub on_outcome : (to mid : ℕ) (u w : List ℕ) → ((n : Machine) → run g l to n (u ++ w) ≡ then_run (run g l to n u) (λ n. run g l mid n w)) →
      (o : Outcome) → run_on to (λ n. run g l to n (u ++ w)) o ≡ then_run (run_on to (λ n. run g l to n u) o) (λ n. run g l mid n w)
  on_outcome to mid u w rest (goes n) = rest n
  on_outcome to mid u w rest (gives v n) =
      let r = run g l to n u in
      ap (with_value v to) (rest n) ∙ on_now-more (v, to) r.given r.now (λ k. run g l mid k w)
  on_outcome to mid u w rest (refuses reason) = refl

  -- a run over octets in two pieces is one run after the other
  pub run-append : (to mid : ℕ) (u w : List ℕ) → mid ≡ to + length u → (m : Machine) → run g l to m (u ++ w) ≡ then_run (run g l to m u) (λ n. run g l mid n w)
  run-append to mid [] w e m = ap (λ k. run g l k m w) (let i : to ≡ mid = omega arith in i)
  run-append to mid (b ∷ bs) w e m = on_outcome (to + 1) mid bs w (run-append (to + 1) mid bs w (omega arith)) (feed (under g l) m b)

  -- where a front gives nothing and leads to a machine, the run goes on from that machine
  pub run_via : (to mid : ℕ) (m n : Machine) (r : Run) (u w : List ℕ) → mid ≡ to + length u → run g l to m u ≡ led n → run g l mid n w ≡ r
      → run g l to m (u ++ w) ≡ r
  run_via to mid m n r u w e h k = run-append to mid u w e m ∙ (ap (λ x. then_run x (λ n. run g l mid n w)) h ∙ k)

  -- where a front gives nothing and leads to a machine, one octet more does what it does there
  pub run_step : (to mid : ℕ) (m n : Machine) (r : Run) (u : List ℕ) (b : ℕ) → mid ≡ to + length u → run g l to m u ≡ led n
      → run_after (mid + 1) (feed (under g l) n b) ≡ r → run g l to m (u ++ b ∷ []) ≡ r
  run_step to mid m n r u b e h k = run_via to mid m n r u (b ∷ []) e h k

-- one octet more makes one more
pub length-one : (u : List ℕ) (b : ℕ) → length (u ++ b ∷ []) ≡ length u + 1
length-one u b = length-append u (b ∷ [])
