-- Where a row of the table stands, the octets up to there are refused.
use Rattle.std.proofs.Common.{◌≡◌, ◌≤◌, ℕ, List, length, take, drop, sym, ap, ◌∙◌, subst, arith, Result, Ok, Err, Option, Some, inl, inr}
use Rattle.std.proofs.lemmas.List.{take-append-drop, length-take-le}
use Rattle.ion_refusals.specs.Names.{Catalog, Decides, Document, EndDecides, HasRow, Limits, Reason, Refusal, Run, State, Value, begun, ends_of, on_now, refused_of, run, trace}
use Rattle.ion_refusals.proofs.deciding.EndStopped.{end_refuses}
use Rattle.ion_refusals.proofs.deciding.Octets.{deciding}
use Rattle.ion_refusals.proofs.deciding.OneOctet.{one_octet}
use Rattle.ion_refusals.proofs.deciding.Stopped.{Stopped, StopsFor, row_stopped}
use Rattle.ion_text.specs.laws.reading.Stops.{behind_run}
use Rattle.ion_text.specs.laws.reading.complete.Accepts.{accepts}

-- 1. Octets.

-- Where a row stands, its octet is refused for the row's reason, or for one with a smaller number that no row has, unless an item became too
-- long before.
pub refuses : (g : Catalog) (l : Limits) (u : List ℕ) (k : ℕ) (e : Reason) → k ≤ length u → Decides g l (take k u) e
    → (r : Refusal) × ((trace g l u).refused ≡ Some r) × StopsFor k e r × (HasRow r.reason → (r.offset ≡ k) × (r.reason ≡ e))
refuses g l u k e within d = (s.0, ap refused_of stops, known, here known)
  where
    x : Run
    x = run g l 0 begun (take k u)

    s : Stopped (length (take k u)) e x.now
    s = row_stopped g l (take k u) e d

    stops : (run g l 0 begun u).now ≡ Err s.0
    stops =
        ap (λ (y : Run). y.now) (ap (run g l 0 begun) (sym (take-append-drop k u)) ∙ behind_run g l (take k u) (drop k u))
        ∙ ap (λ y. (on_now x.given y (λ n. run g l (length (take k u)) n (drop k u))).now) s.1

    known : StopsFor k e s.0
    known = subst (λ (n : ℕ). StopsFor n e s.0) (length-take-le k u within) s.2

    here : StopsFor k e s.0 → HasRow s.0.reason → (s.0.offset ≡ k) × (s.0.reason ≡ e)
    here (inl (long, before)) row = absurd (subst HasRow long row)
    here (inr (there, less)) row = one_octet g l u s.0.offset k s.0.reason e (omega (arith, there, within)) within
        (deciding g l u s.0 (ap refused_of stops) row) d

-- No document begins with octets of a row.
pub no_document : (g : Catalog) (l : Limits) (u : List ℕ) (k : ℕ) (e : Reason) (s : List Value) → k ≤ length u → Decides g l (take k u) e → Document g l u s → ⊥
no_document g l u k e s within d h = go (run g l 0 begun u).now stops.0 (accepts g l u s h).last stops.1 (accepts g l u s h).ends
  where
    stops : (r : Refusal) × ((trace g l u).refused ≡ Some r) × StopsFor k e r × (HasRow r.reason → (r.offset ≡ k) × (r.reason ≡ e))
    stops = refuses g l u k e within d

    go : (now : Result State Refusal) (r : Refusal) (last : Option Value) → refused_of now ≡ Some r → ends_of g l now ≡ Ok last → ⊥
    go (Ok m) r last i j = cc
    go (Err x) r last i j = cc

-- 2. The end.

-- Octets of which the end decides are no document.
pub none_ends : (g : Catalog) (l : Limits) (u : List ℕ) (e : Reason) (s : List Value) → EndDecides g l u e → Document g l u s → ⊥
none_ends g l u e s d h =
    let refused = end_refuses g l u e d in
    let accepted = accepts g l u s h in
    let never : Err refused.0 ≡ Ok accepted.last = sym refused.1 ∙ accepted.ends in
    cc
