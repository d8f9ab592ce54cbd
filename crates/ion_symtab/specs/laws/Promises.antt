-- What follows from a reader's promises.
use Rattle.std.proofs.Common.{◌≡◌, ℕ, zero, suc, ◌+◌, ◌<◌, List, [], ◌∷◌, ◌++◌, length, take, drop, Option, Some, None, IsSome, refl, ap, sym, ◌∙◌, subst, arith, length-append}
use Rattle.std.proofs.Math.Seq.{take-append-add}
use Rattle.std.proofs.lemmas.List.{take-append-drop}
use Rattle.ion_symtab.specs.Names.{Grows, IsFirst, Refusal, Shown, Trace, Value}

-- two fronts of the same length, and what stands behind them
pub record SameCut (front other rest more : List ℕ) : Type 0 where
  pub fronts : front ≡ other
  pub rests : rest ≡ more

-- two cuts of the same octets with fronts of one length are the same
pub same_cut : (front other rest more : List ℕ) → front ++ rest ≡ other ++ more → length front ≡ length other → SameCut front other rest more
same_cut [] [] rest more e h = record { fronts = refl; rests = e }
same_cut (x ∷ front) (y ∷ other) rest more e h =
    let head : x ≡ y = cc in
    let tail : front ++ rest ≡ other ++ more = cc in
    let c = same_cut front other rest more tail (omega arith) in
    record { fronts = ap (λ z. z ∷ front) head ∙ ap (λ zs. y ∷ zs) c.fronts; rests = c.rests }
same_cut _ _ rest _ e h = absurd (omega arith)

-- where the same pieces have one stream, octets show one stream
pub shown_once : (pieces : List ℕ → List ℕ → List Value → Type 0) (u : List ℕ) (s t : List Value) →
    ((front following : List ℕ) → pieces front following s → pieces front following t → s ≡ t) → Shown pieces u s → Shown pieces u t → s ≡ t
shown_once pieces u s t one a b =
    let to = a.longest b.front b.open_rest t b.parts b.whole in
    let from = b.longest a.front a.open_rest s a.parts a.whole in
    let c = same_cut a.front b.front a.open_rest b.open_rest (sym a.parts ∙ b.parts) (omega arith) in
    let p = a.whole [] tt in
    let q = b.whole [] tt in
    one b.front (b.open_rest ++ []) (subst (λ (x : List ℕ). pieces x (b.open_rest ++ []) s) c.fronts
    (subst (λ (x : List ℕ). pieces a.front (x ++ []) s) c.rests p)) q

-- a front of octets in front of others
front_taken : (k : ℕ) (before rest : List ℕ) → k < length before + 1 → take k (before ++ rest) ≡ take k before
front_taken k [] rest h = ap (λ (n : ℕ). take n rest) (let none : k ≡ 0 = omega arith in none)
    ∙ sym (ap (λ (n : ℕ). take n []) (let none : k ≡ 0 = omega arith in none))
front_taken zero (x ∷ before) rest h = refl
front_taken (suc k) (x ∷ before) rest h = ap (λ xs. x ∷ xs) (front_taken k before rest (omega arith))

-- where the octets before one aren't refused, and with it they are, it is the octet that decides
pub first_refused : (trace : List ℕ → Trace) → ((u w : List ℕ) → Grows (trace u) (trace (u ++ w))) → (u before rest : List ℕ) (o : ℕ) (r : Refusal)
    → u ≡ before ++ o ∷ rest → r.offset ≡ length before + 1 →
    (trace before).refused ≡ None → (trace (before ++ o ∷ [])).refused ≡ Some r → IsFirst trace u r
first_refused trace grows u before rest o r parts offset fine refused = record { alone = ap (λ w. (trace w).refused) taken ∙ refused; before = none_before }
  where
    taken : take r.offset u ≡ before ++ o ∷ []
    taken = ap (λ (n : ℕ). take n u) offset ∙ (ap (take (length before + 1)) parts ∙ take-append-add before (o ∷ rest) 1)

    none_before : (k : ℕ) → k < r.offset → (trace (take k u)).refused ≡ None
    none_before k h = go (trace (take k u)).refused refl
      where
        front : take k u ≡ take k before
        front = ap (take k) parts ∙ front_taken k before (o ∷ rest) (omega (arith, h, offset))

        cut : take k u ++ drop k before ≡ before
        cut = ap (λ w. w ++ drop k before) front ∙ take-append-drop k before

        go : (x : Option Refusal) → (trace (take k u)).refused ≡ x → x ≡ None
        go None e = refl
        go (Some q) e =
            let same = (grows (take k u) (drop k before)).refused (subst IsSome (sym e) refl) in
            let never : Some q ≡ None = sym e ∙ (sym (ap (λ (t : Trace). t.refused) same) ∙ (ap (λ w. (trace w).refused) cut ∙ fine)) in
            cc

-- lists that end with a value each are equal only where the two are
pub same_last : (s t : List Value) (v w : Value) → s ++ v ∷ [] ≡ t ++ w ∷ [] → v ≡ w
same_last [] [] v w e = cc
same_last [] (y ∷ t) v w e = absurd (omega (arith, ap length e, length-append t (w ∷ [])))
same_last (x ∷ s) [] v w e = absurd (omega (arith, ap length e, length-append s (v ∷ [])))
same_last (x ∷ s) (y ∷ t) v w e =
    let tail : s ++ v ∷ [] ≡ t ++ w ∷ [] = cc in
    same_last s t v w tail
