-- How a run over a piece ends.
use Rattle.std.proofs.Common.{◌≡◌, ℕ, zero, suc, ◌+◌, ◌-◌, ◌<◌, ◌≤◌, Bool, true, false, List, [], ◌∷◌, ◌++◌, length, take, drop, get_or, Option, Some, None, Result, Ok, Err, refl, ap, sym, ◌∙◌, subst, arith, append_assoc, length-drop, append-nil, ◌⊎◌, inl, inr}
use Rattle.std.proofs.lemmas.Grind.{common_steps}
use Rattle.std.proofs.lemmas.List.{length-take-le, take-append-drop, get_or-drop}
use Rattle.std.proofs.Math.Seq.{take-add, drop-cons}
use Rattle.std.specs.Option.{is_some}
use Rattle.ion_text.specs.Names.{Advances, Catalog, Effect, GaveLast, LedLeaving, Limits, Reason, Refusal, Run, State, Value, eats, leaves, led, once_more, resumed, run, run-append, run_on, then_run, with_value}
use Rattle.ion_text.specs.machine.Progress.{BeginsWith}

no_cons : {A : Type 0} (x : A) (xs : List A) → x ∷ xs ≡ [] → ⊥
no_cons x xs e = absurd cc

module _ (g : Catalog) (l : Limits) where
  -- the octet shows the end of no value that ended before it
  abbrev NotLeft : Effect → Type 0
  NotLeft (leaves v m) = ⊥
  NotLeft _ = Unit {0}

  once_same : (to : ℕ) (again : State → Effect) (rest : State → Run) (x : Effect) → NotLeft x → once_more to rest x ≡ run_on to again rest x
  once_same to again rest (leaves v m) h = absurd h
  once_same to again rest _ h = refl

  pub resumed_same : (again : Bool) (to : ℕ) (m : State) (o : ℕ) (os : List ℕ) → NotLeft (eats g l m o) → resumed g l again to m (o ∷ os)
      ≡ run g l to m (o ∷ os)
  resumed_same false to m o os h = refl
  resumed_same true to m o os h = once_same to (λ n. eats g l n o) (λ n. run g l (to + 1) n os) (eats g l m o) h

  -- a value that came before the first octet would be the first that was given
  first_given : (to : ℕ) (rest : State → Run) (again : State → Effect) (x : Effect) → ((v : Value) (r : Run) → run_on to again rest x ≡ with_value v to r → ⊥)
      → NotLeft x
  first_given to rest again (leaves v m) h = h v (once_more to rest (again m)) refl
  first_given to rest again _ h = tt

  pub not_left_nothing : (to : ℕ) (m : State) (o : ℕ) (os : List ℕ) (now : Result State Refusal) → run g l to m (o ∷ os) ≡ record { given = []; now = now }
      → NotLeft (eats g l m o)
  not_left_nothing to m o os now e =
      first_given to (λ n. run g l (to + 1) n os) (λ n. eats g l n o) (eats g l m o) (λ v r i. no_cons (v, to) r.given (ap (λ (x : Run). x.given) (sym i ∙ e)))

  pub not_left_later : (to k : ℕ) (v : Value) (m n : State) (o : ℕ) (os : List ℕ) → 0 < k
      → run g l to m (o ∷ os) ≡ record { given = (v, to + k) ∷ []; now = Ok n } → NotLeft (eats g l m o)
  not_left_later to k v m n o os some e =
      first_given to (λ n. run g l (to + 1) n os) (λ n. eats g l n o) (eats g l m o) (λ w r i. later (sym i ∙ e))
    where
      later : {w : Value} {r : Run} → with_value w to r ≡ record { given = (v, to + k) ∷ []; now = Ok n } → ⊥
      later i = let j : to ≡ to + k = ap (λ (x : Run). total to x.given) i in absurd (omega arith)
        where
          total : ℕ → List (Value × ℕ) → ℕ
          total d [] = d
          total d (x ∷ xs) = x.1

-- from the start, the octets of the piece before i lead to m, whatever follows
pub record LeadsFromStart (g : Catalog) (l : Limits) (again : Bool) (to : ℕ) (start : State) (piece : List ℕ) (i : ℕ) (m : State) : Type 0 where
  pub onward : (rest : List ℕ) → 0 < i → resumed g l again to start (take i piece ++ rest) ≡ run g l (to + i) m rest
  pub fresh : i ≡ 0 → m ≡ start

module _ (g : Catalog) (l : Limits) (again : Bool) (to : ℕ) (start : State) (piece : List ℕ) where
  -- so they do where an octet follows that shows the end of no value before it
  through : (i : ℕ) (m : State) → LeadsFromStart g l again to start piece i m → (o : ℕ) (os : List ℕ) → NotLeft g l (eats g l m o)
      → resumed g l again to start (take i piece ++ o ∷ os) ≡ run g l (to + i) m (o ∷ os)
  through zero m h o os nl =
      let same : to ≡ to + 0 = omega arith in
      ap (λ n. resumed g l again to n (o ∷ os)) (sym (h.fresh refl))
      ∙ (resumed_same g l again to m o os nl
      ∙ ap (λ j. run g l j m (o ∷ os)) same)
  through (suc i) m h o os nl = h.onward (o ∷ os) (omega arith)

  -- octets that are more than none
  record HasOctet (w : List ℕ) : Type 0 where
    octet : ℕ
    octets : List ℕ
    is : w ≡ octet ∷ octets

  first : (w : List ℕ) → 0 < length w → HasOctet w
  first [] h = absurd (omega arith)
  first (o ∷ os) h = record { octet = o; octets = os; is = refl }

  module _ (i : ℕ) (m : State) (before : LeadsFromStart g l again to start piece i m) where
    -- octets behind which a run is at a state lead there
    leads_on : (k : ℕ) (n : State) → 0 < k → k ≤ length (drop i piece) → run g l (to + i) m (take k (drop i piece)) ≡ led n
        → LeadsFromStart g l again to start piece (i + k) n
    leads_on k n some within e =
        let part = take k (drop i piece) in
        let size : length part ≡ k = length-take-le k (drop i piece) within in
        let f = first part (omega arith) in
        record {
          onward =
              λ rest h.
              let place : to + i + k ≡ to + (i + k) = omega arith in
              ap (λ w. resumed g l again to start (w ++ rest)) (take-add i k piece)
              ∙ (ap (resumed g l again to start) (append_assoc (take i piece) part rest)
              ∙ (ap (λ w. resumed g l again to start (take i piece ++ (w ++ rest))) f.is
              ∙ (through i m before f.octet (f.octets ++ rest) (not_left_nothing g l (to + i) m f.octet f.octets (Ok n)
              (ap (run g l (to + i) m) (sym f.is) ∙ e))
              ∙ (ap (λ w. run g l (to + i) m (w ++ rest)) (sym f.is)
              ∙ (run-append g l (to + i) (to + i + k) part rest (omega arith) m
              ∙ (ap (λ r. then_run r (λ j. run g l (to + i + k) j rest)) e
              ∙ ap (λ p. run g l p n rest) place))))));
          fresh = λ h. absurd (omega arith);
        }

    -- so do all octets of the piece, which give nothing more
    ends_led : (k : ℕ) (n : State) → 0 < k → k ≤ length (drop i piece) → run g l (to + i) m (take k (drop i piece)) ≡ led n
        → resumed g l again to start (take (i + k) piece) ≡ led n
    ends_led k n some within e =
        ap (resumed g l again to start) (sym (append-nil (take (i + k) piece))) ∙ (leads_on k n some within e).onward [] (omega arith)

    -- a value that came with the last of them
    ends_given : (k : ℕ) (v : Value) (n : State) → 0 < k → k ≤ length (drop i piece) → run g l (to + i) m (take k (drop i piece))
        ≡ record { given = (v, to + i + k) ∷ []; now = Ok n }
        → resumed g l again to start (take (i + k) piece) ≡ record { given = (v, to + (i + k)) ∷ []; now = Ok n }
    ends_given k v n some within e =
        let part = take k (drop i piece) in
        let size : length part ≡ k = length-take-le k (drop i piece) within in
        let f = first part (omega arith) in
        let place : to + i + k ≡ to + (i + k) = omega arith in
        ap (resumed g l again to start) (take-add i k piece)
        ∙ (ap (λ w. resumed g l again to start (take i piece ++ w)) f.is
        ∙ (through i m before f.octet f.octets (not_left_later g l (to + i) k v m n f.octet f.octets some (ap (run g l (to + i) m) (sym f.is) ∙ e))
        ∙ (ap (run g l (to + i) m) (sym f.is)
        ∙ (e ∙ ap (λ j. record { given = (v, j) ∷ []; now = Ok n }) place))))

    -- a refusal
    ends_refused : (refusal : Refusal) → 0 < length (drop i piece) → run g l (to + i) m (drop i piece) ≡ record { given = []; now = Err refusal }
        → resumed g l again to start piece ≡ record { given = []; now = Err refusal }
    ends_refused refusal some e =
        let f = first (drop i piece) some in
        ap (resumed g l again to start) (sym (take-append-drop i piece))
        ∙ (ap (λ w. resumed g l again to start (take i piece ++ w)) f.is
        ∙ (through i m before f.octet f.octets (not_left_nothing g l (to + i) m f.octet f.octets (Err refusal) (ap (run g l (to + i) m) (sym f.is) ∙ e))
        ∙ (ap (run g l (to + i) m) (sym f.is) ∙ e)))

    -- none, where nothing is to come again
    ends_here : again ≡ false → resumed g l again to start (take i piece) ≡ led m
    ends_here none = by i before
      where
        by : (j : ℕ) → LeadsFromStart g l again to start piece j m → resumed g l again to start (take j piece) ≡ led m
        by zero h = ap (λ b. resumed g l b to start []) none ∙ ap led (sym (h.fresh refl))
        by (suc j) h = ap (resumed g l again to start) (sym (append-nil (take (suc j) piece))) ∙ h.onward [] (omega arith)

    ends_some : 0 < i → resumed g l again to start (take i piece) ≡ led m
    ends_some some = ap (resumed g l again to start) (sym (append-nil (take i piece))) ∙ before.onward [] some

-- as much as is behind an octet is all behind it
whole_rest : (piece : List ℕ) (i : ℕ) → take (length piece - i) (drop i piece) ≡ drop i piece
whole_rest piece i = grind (arith, common_steps)

-- at the end of the piece
pub leads_to_end : (g : Catalog) (l : Limits) (again : Bool) (to : ℕ) (start m : State) (piece : List ℕ) (i : ℕ) → length piece ≤ i
    → (again ≡ true → 0 < length piece) → i ≤ length piece → LeadsFromStart g l again to start piece i m → resumed g l again to start piece ≡ led m
leads_to_end g l again to start m piece i whole some within before = by again refl
  where
    all : take i piece ≡ piece
    all = grind (arith, common_steps)

    by : (b : Bool) → again ≡ b → resumed g l again to start piece ≡ led m
    by true e = let s = some e in ap (resumed g l again to start) (sym all) ∙ ends_some g l again to start piece i m before (omega arith)
    by false e = ap (resumed g l again to start) (sym all) ∙ ends_here g l again to start piece i m before e

-- what was taken up of the rest of the piece, by a reader of the same setting behind so many octets
module _ (g : Catalog) (l : Limits) (again : Bool) (to : ℕ) (start m : State) (piece : List ℕ) (i used : ℕ) (cat : Catalog) (lim : Limits)
    (same_catalog : cat ≡ g) (same_limits : lim ≡ l) (counted : used ≡ to + i) (before : LeadsFromStart g l again to start piece i m) where
  here : (w : List ℕ) (r : Run) → run cat lim used m w ≡ r → run g l (to + i) m w ≡ r
  here w r e =
      ap (λ p. run g l p m w) (sym counted)
      ∙ (ap (λ y. run g y used m w) (sym same_limits)
      ∙ (ap (λ x. run x lim used m w) (sym same_catalog) ∙ e))

  part : (k : ℕ) (r : Run) → run cat lim used m (take k (take (length piece - i) (drop i piece))) ≡ r → run g l (to + i) m (take k (drop i piece)) ≡ r
  part k r e = here (take k (drop i piece)) r (ap (λ w. run cat lim used m (take k w)) (sym (whole_rest piece i)) ∙ e)

  fits : (k : ℕ) → k ≤ length (take (length piece - i) (drop i piece)) → k ≤ length (drop i piece)
  fits k h = subst (λ (w : List ℕ). k ≤ length w) (whole_rest piece i) h

  -- where a run over further octets leads on, so do the octets of the piece up to there from the start
  pub leads_by : (k : ℕ) (n : State) → 0 < k → k ≤ length (take (length piece - i) (drop i piece))
      → run cat lim used m (take k (take (length piece - i) (drop i piece))) ≡ led n → LeadsFromStart g l again to start piece (i + k) n
  leads_by k n some within e = leads_on g l again to start piece i m before k n some (fits k within) (part k (led n) e)

  -- the octets up to there are of the piece
  pub up_to : (k : ℕ) → i ≤ length piece → k ≤ length (take (length piece - i) (drop i piece)) → i + k ≤ length piece
  up_to k inside h = let j = fits k h in omega (arith, length-drop {A = ℕ})

  -- a value that a further octet of the piece ends is what a step over the piece answers
  pub leads_to_given : (k : ℕ) (given : Option Value) (n : State) → i ≤ length piece → 0 < k → k ≤ length (take (length piece - i) (drop i piece))
      → GaveLast (run cat lim used m (take k (take (length piece - i) (drop i piece)))) (used + k) given n
      → Advances g l again to start piece (Ok (record { used = i + k; value = given })) None n
  leads_to_given k None n inside some within e = absurd e
  leads_to_given k (Some v) n inside some within e =
      let place : used + k ≡ to + i + k = omega arith in (
        up_to k inside within,
        (
          omega arith,
          ends_given g l again to start piece i m before k v n some (fits k within)
              (part k (record { given = (v, to + i + k) ∷ []; now = Ok n }) (e ∙ ap (λ j. record { given = (v, j) ∷ []; now = Ok n }) place)),
        ),
      )

  -- where the rest of the piece is refused, so is the piece
  pub leads_to_refused : (refusal : Refusal) → i < length piece → run cat lim used m (take (length piece - i) (drop i piece))
      ≡ record { given = []; now = Err refusal } → resumed g l again to start piece ≡ record { given = []; now = Err refusal }
  leads_to_refused refusal inside e =
      ends_refused g l again to start piece i m before refusal (omega (arith, length-drop {A = ℕ}))
      (here (drop i piece) (record { given = []; now = Err refusal }) (ap (λ w. run cat lim used m w) (sym (whole_rest piece i)) ∙ e))

  -- a value whose end the octet shows that comes next
  pub leads_to_left : (k : ℕ) (given : Option Value) (n : State) → i ≤ length piece → (again ≡ true → 0 < i + k)
      → LedLeaving cat lim used m (take (length piece - i) (drop i piece)) k given n
      → Advances g l again to start piece (Ok (record { used = i + k; value = given })) (Some (get_or piece (i + k) 0)) n
  leads_to_left k None n inside onward h = absurd h.left
  leads_to_left k (Some v) n inside onward h =
      let w = h.within in
      let f = fits k (omega arith) in
      let inner : k < length (drop i piece) = subst (λ (w : List ℕ). k < length w) (whole_rest piece i) w in
      let behind : i + k < length piece = omega (arith, length-drop {A = ℕ}) in
      let octet : get_or (take (length piece - i) (drop i piece)) k 0 ≡ get_or piece (i + k) 0 = ap (λ w. get_or w k 0) (whole_rest piece i)
      ∙ get_or-drop i piece k 0 in (
        omega arith,
        record {
          before = h.before;
          ran = by k f onward (part k (led h.before) h.ran);
          left =
              ap (λ o. eats g l h.before o) (sym octet)
              ∙ (ap (λ y. eats g y h.before (get_or (take (length piece - i) (drop i piece)) k 0)) (sym same_limits)
              ∙ (ap (λ x. eats x lim h.before (get_or (take (length piece - i) (drop i piece)) k 0)) (sym same_catalog) ∙ h.left));
          next = (drop (suc (i + k)) piece, drop-cons piece (i + k) 0 behind);
          onward = onward;
        },
      )
    where
      by : (k : ℕ) → k ≤ length (drop i piece) → (again ≡ true → 0 < i + k) → run g l (to + i) m (take k (drop i piece)) ≡ led h.before
          → resumed g l again to start (take (i + k) piece) ≡ led h.before
      by zero f onward e = none again refl
        where
          same : i + 0 ≡ i
          same = omega arith

          none : (b : Bool) → again ≡ b → resumed g l again to start (take (i + 0) piece) ≡ led h.before
          none true a = let some = onward a in ap (λ j. resumed g l again to start (take j piece)) same
              ∙ (ends_some g l again to start piece i m before (omega arith) ∙ e)
          none false a = ap (λ j. resumed g l again to start (take j piece)) same ∙ (ends_here g l again to start piece i m before a ∙ e)
      by (suc k) f onward e = ends_led g l again to start piece i m before (suc k) h.before (omega arith) f e

  -- a second value whose end the first octet shows
  pub leads_to_second : (k : ℕ) (given : Option Value) (n : State) → again ≡ true → i + k ≡ 0
      → LedLeaving cat lim used m (take (length piece - i) (drop i piece)) k given n
      → resumed g l again to start piece ≡ record { given = []; now = Err (record { offset = to + 1; reason = Reason.Unexpected }) }
  leads_to_second k None n twice none h = absurd h.left
  leads_to_second k (Some v) n twice none h =
      let no_i : i ≡ 0 = omega arith in
      let no_k : k ≡ 0 = omega arith in
      let ran = subst (λ j. run cat lim used m (take j (take (length piece - i) (drop i piece))) ≡ led h.before) no_k h.ran in
      let there : m ≡ h.before = same_led m h.before ran in
      let w = h.within in
      let rest = whole_rest piece i in
      let octet : get_or (take (length piece - i) (drop i piece)) k 0 ≡ get_or piece 0 0 =
      ap (λ w. get_or w k 0) rest ∙ (get_or-drop i piece k 0 ∙ ap (λ j. get_or piece j 0) none) in
      let size = ap (λ (w : List ℕ). length w) rest in
      let eaten : eats g l start (get_or piece 0 0) ≡ leaves v n =
      ap (λ s. eats g l s (get_or piece 0 0)) (sym (before.fresh no_i) ∙ there)
      ∙ (ap (eats g l h.before) (sym octet)
      ∙ (ap (λ y. eats g y h.before (get_or (take (length piece - i) (drop i piece)) k 0)) (sym same_limits)
      ∙ (ap (λ x. eats x lim h.before (get_or (take (length piece - i) (drop i piece)) k 0)) (sym same_catalog) ∙ h.left))) in
      let some : 0 < length piece = omega (arith, size, length-drop {A = ℕ}) in
      ap (λ b. resumed g l b to start piece) twice
      ∙ (ap (resumed g l true to start) (drop-cons piece 0 0 some)
      ∙ ap (once_more to (λ s. run g l (to + 1) s (drop 1 piece))) eaten)
    where
      state_in : State → Result State Refusal → State
      state_in other (Ok s) = s
      state_in other (Err refusal) = other

      same_led : (a b : State) → led a ≡ led b → a ≡ b
      same_led a b e = ap (λ (r : Run). state_in a r.now) e

-- a piece that begins with an awaited octet has one
pub begins_some : (a : Option ℕ) (piece : List ℕ) → BeginsWith a piece → is_some a ≡ true → 0 < length piece
begins_some None piece h e = absurd cc
begins_some (Some o) piece h e = let i = ap (λ (w : List ℕ). length w) h.1 in omega arith

some_used : (n : ℕ) → (n ≡ 0 → ⊥) → 0 < n
some_used zero h = absurd (h refl)
some_used (suc n) h = omega arith

-- a number that is either not 0 or counts where the test fails is above 0 where the test holds
pub onward_where : (b : Bool) (n : ℕ) → ((b ≡ true) × (n ≡ 0 → ⊥)) ⊎ (b ≡ false) → b ≡ true → 0 < n
onward_where b n (inl h) e = some_used n h.1
onward_where b n (inr h) e = absurd cc
