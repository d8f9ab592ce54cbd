-- Runs in pieces, and what they have to do with runs of the scanner.
use Rattle.std.proofs.Common.{◌≡◌, ℕ, ◌+◌, List, [], ◌∷◌, ◌++◌, length, Bool, true, false, Result, Ok, Err, refl, ap, sym, ◌∙◌, subst, arith, append-nil, if◌then◌else◌, ◌⊎◌, inl, inr, ◌||◌}
use Rattle.ion_text.specs.Names.Below.{AtEach, Catalog, Given, Grows, Known, Left, Limits, Next, OnNext, Outcome, Place, Refusal, Refused, Value, feed, follow}
use Rattle.ion_tokens.specs.machine.Scanning as scanning
use Rattle.ion_text.specs.machine.EachToken.{Reading, goes, place, settle}
use Rattle.ion_text.specs.machine.Run.{Effect, Run, State, begun, eats, fails, in_segment, leaves, noticed, on_scan, on_settled, once_more, run, run_on, takes, tells, trace, trace_of, unsettled, uses, waits, with_scan, with_value}

-- values that were given, and the run from where they led, unless this was refused
abbrev pub on_now : List (Value × ℕ) → Result State Refusal → (State → Run) → Run
on_now given (Ok m) rest = record { given = given ++ (rest m).given; now = (rest m).now }
on_now given (Err refusal) rest = record { given = given; now = Err refusal }

-- a run, and behind it another from where the first led
abbrev pub then_run : Run → (State → Run) → Run
then_run r rest = on_now r.given r.now rest

-- a run that gave nothing
abbrev pub led : State → Run
led m = record { given = []; now = Ok m }

-- what goes on was led there
pub followed : (x : Outcome) (f : Known → Outcome) (t : Known) → follow x f ≡ Next t → (s : Known) × (x ≡ Next s) × (f s ≡ Next t)
followed (Next s) f t e = (s, refl, e)
followed (Given y s) f t e = absurd cc
followed (Left y s) f t e = absurd cc
followed (Refused n y) f t e = absurd cc

on_now-more : (v : Value × ℕ) (given : List (Value × ℕ)) (now : Result State Refusal) (rest : State → Run) →
    with_value v.0 v.1 (on_now given now rest) ≡ on_now (v ∷ given) now rest
on_now-more v given (Ok m) rest = refl
on_now-more v given (Err refusal) rest = refl

module _ (g : Catalog) (l : Limits) where
  more : (to : ℕ) (f h : State → Run) (rest : State → Run) → ((n : State) → f n ≡ then_run (h n) rest) → (x : Effect)
      → once_more to f x ≡ then_run (once_more to h x) rest
  more to f h rest e (uses m) = e m
  more to f h rest e (tells v m) = let r = h m in ap (with_value v (to + 1)) (e m) ∙ on_now-more (v, to + 1) r.given r.now rest
  more to f h rest e (leaves v m) = refl
  more to f h rest e (fails reason) = refl

  on_effect : (to : ℕ) (again : State → Effect) (f h : State → Run) (rest : State → Run) → ((n : State) → f n ≡ then_run (h n) rest) → (x : Effect)
      → run_on to again f x ≡ then_run (run_on to again h x) rest
  on_effect to again f h rest e (uses m) = e m
  on_effect to again f h rest e (tells v m) = let r = h m in ap (with_value v (to + 1)) (e m) ∙ on_now-more (v, to + 1) r.given r.now rest
  on_effect to again f h rest e (leaves v m) = let r = once_more to h (again m) in ap (with_value v to) (more to f h rest e (again m))
      ∙ on_now-more (v, to) r.given r.now rest
  on_effect to again f h rest e (fails reason) = refl

  -- a run over octets in two pieces is one run after the other
  pub run-append : (to mid : ℕ) (u w : List ℕ) → mid ≡ to + length u → (m : State) → run g l to m (u ++ w) ≡ then_run (run g l to m u) (λ n. run g l mid n w)
  run-append to mid [] w e m = ap (λ k. run g l k m w) (let i : to ≡ mid = omega arith in i)
  run-append to mid (b ∷ bs) w e m = on_effect to (λ n. eats g l n b) (λ n. run g l (to + 1) n (bs ++ w)) (λ n. run g l (to + 1) n bs) (λ n. run g l mid n w)
      (run-append (to + 1) mid bs w (omega arith)) (eats g l m b)

  grows_on : (given : List (Value × ℕ)) (now : Result State Refusal) (rest : State → Run)
      → Grows (trace_of g l (record { given = given; now = now })) (trace_of g l (on_now given now rest))
  grows_on given (Ok m) rest = record { given = ((rest m).given, refl); refused = λ never. cc }
  grows_on given (Err refusal) rest = record { given = ([], sym (append-nil given)); refused = λ _. refl }

  -- what was refused stays refused, and what was given stays given
  pub grows : (u w : List ℕ) → Grows (trace g l u) (trace g l (u ++ w))
  grows u w =
      let r = run g l 0 begun u in
      let P : Run → Type 0 = λ r. Grows (trace g l u) (trace_of g l r) in
      subst P (sym (run-append 0 (length u) u w (omega arith) begun)) (grows_on r.given r.now (λ n. run g l (length u) n w))

  -- at no octet that the scanner goes on with, the reader has reason to refuse
  abbrev pub Quiet : Reading → Place → Known → List ℕ → Type 0
  Quiet r p s [] = Unit {0}
  Quiet r p s (o ∷ os) = OnNext (feed p s o) (λ t. (noticed l r t ≡ uses (with_scan t r)) × Quiet r p t os)

  -- what waits for more goes on to wait at each of the octets
  abbrev pub Waiting : Reading → Place → Known → List ℕ → Type 0
  Waiting r p s os = AtEach (λ x. waits r x) p os s

  -- nothing waits, or what waits goes on to wait
  abbrev pub Stays : Reading → Place → Known → List ℕ → Type 0
  Stays r p s os = (settle g l r ≡ goes r) ⊎ Waiting r p s os

  -- where what waits goes on to wait, or nothing waits, the octet does what comes of it at the scanner
  pub go_on : (again : State → Effect) (r : Reading) (s : Known) (x : Outcome) (b : Bool) → (b ≡ true) ⊎ (settle g l r ≡ goes r)
      → (if b then on_scan g l again r x else on_settled g l again s x (settle g l r)) ≡ on_scan g l again r x
  go_on again r s x true h = refl
  go_on again r s x false (inl e) = absurd cc
  go_on again r s x false (inr e) = ap (on_settled g l again s x) e

  first_stays : (r : Reading) (p : Place) (s : Known) (o : ℕ) (os : List ℕ) → Stays r p s (o ∷ os) → (unsettled s r (feed p s o) ≡ true)
      ⊎ (settle g l r ≡ goes r)
  first_stays r p s o os (inl e) = inr e
  first_stays r p s o os (inr w) = inl (ap (λ b. b || in_segment r.now s) w.0)

  rest_stays : (r : Reading) (p : Place) (s t : Known) (o : ℕ) (os : List ℕ) → feed p s o ≡ Next t → Stays r p s (o ∷ os) → Stays r p t os
  rest_stays r p s t o os e (inl h) = inl h
  rest_stays r p s t o os e (inr w) = inr (subst (λ x. OnNext x (λ t. Waiting r p t os)) e w.1)

  -- While the scanner goes on, the reader of tokens stays as it is.
  pub drive : (os : List ℕ) (to : ℕ) (r : Reading) (s t : Known) → scanning.run (place r) os s ≡ Next t → Quiet r (place r) s os → Stays r (place r) s os
      → run g l to (with_scan s r) os ≡ led (with_scan t r)
  drive [] to r s t e q w = ap (λ (x : Outcome). led (with_scan (state_of x) r)) e
    where
      state_of : Outcome → Known
      state_of (Next x) = x
      state_of _ = s
  drive (o ∷ os) to r s t e q w =
      let f = followed (feed (place r) s o) (λ k. scanning.run (place r) os k) t e in
      let quiet = subst (λ x. OnNext x (λ t. (noticed l r t ≡ uses (with_scan t r)) × Quiet r (place r) t os)) f.1 q in
      let now : eats g l (with_scan s r) o ≡ uses (with_scan f.0 r) =
      go_on (λ k. takes g l 2 k o) r s (feed (place r) s o) (unsettled s r (feed (place r) s o)) (first_stays r (place r) s o os w)
      ∙ (ap (on_scan g l (λ k. takes g l 2 k o) r) f.1 ∙ quiet.0) in
      ap (run_on to (λ n. eats g l n o) (λ n. run g l (to + 1) n os)) now ∙ drive os (to + 1) r f.0 t f.2 quiet.1 (rest_stays r (place r) s f.0 o os f.1 w)
