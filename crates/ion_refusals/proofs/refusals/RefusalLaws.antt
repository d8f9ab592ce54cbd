-- The refusals of the trace are those of the format's table, given that rows refuse and that refusals have rows.
use Rattle.std.proofs.Common.{◌≡◌, ℕ, ◌≤◌, List, length, take, drop, Result, Ok, Err, Some, ap, sym, ◌∙◌, subst, arith}
use Rattle.std.proofs.lemmas.List.{length-take-le, take-append-drop}
use Rattle.ion_refusals.specs.BinaryNames.{Catalog, Decides, Limits, Machine, Reason, Refusal, initial, on_now, reason_number, refused_of, run, run-append, trace}
use Rattle.ion_binary.specs.Deciding.{Answers}
use Rattle.ion_refusals.proofs.refusals.DecidedRows.{every_row}
use Rattle.ion_binary.specs.laws.reading.Promises.{refused_is, stopped_decides}
use Rattle.ion_binary.specs.laws.reading.Stops.{stop_of, stop_taken, stopped}

reason_in : Result Machine Refusal → Reason → Reason
reason_in (Ok m) e = e
reason_in (Err r) e = r.reason

-- a refusal is at an octet that decides, for the reason that answers there
pub answers : (g : Catalog) (l : Limits) (u : List ℕ) (r : Refusal) → (trace g l u).refused ≡ Some r → (r.offset ≤ length u)
    × Answers g l (take r.offset u) r.reason
unfolding reason_in
answers g l u r h =
    let p = stop_of g l 0 initial u r (refused_is (run g l 0 initial u).now r h) in
    let t = stop_taken g l u r p in (
      t.0,
      subst (λ w. Answers g l w r.reason) (sym t.1) (record {
        decides = stopped_decides g l u r p;
        smallest = λ f d.
            let q = every_row g l _ f d in
            let same : q.reason ≡ r.reason = ap (λ x. reason_in x r.reason) (sym q.now ∙ stopped g l u r p) in
            subst (λ (x : Reason). reason_number x ≤ reason_number f) same q.least;
      }),
    )

-- octets the last of which decides are refused with that one
pub refuses : (g : Catalog) (l : Limits) (u : List ℕ) (k : ℕ) (e : Reason) → k ≤ length u → Decides g l (take k u) e → (r : Refusal)
    × ((trace g l u).refused ≡ Some r) × (r.offset ≡ k)
refuses g l u k e h d =
    let q = every_row g l (take k u) e d in
    let n = length-take-le k u h in
    let i = ap (λ x. (run g l 0 initial x).now) (sym (take-append-drop k u)) in
    let j = ap (λ x. x.now) (run-append g l 0 (length (take k u)) (take k u) (drop k u) (omega arith) initial) in
    let m = ap (λ x. (on_now (run g l 0 initial (take k u)).given x (λ n. run g l (length (take k u)) n (drop k u))).now) q.now in
    (record { offset = length (take k u); reason = q.reason }, ap refused_of (i ∙ (j ∙ m)), n)
