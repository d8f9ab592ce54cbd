-- How a run over a piece ends.
use Rattle.std.proofs.Common.{◌≡◌, ℕ, ◌+◌, ◌<◌, ◌≤◌, List, [], ◌∷◌, ◌++◌, length, take, drop, ap, sym, ◌∙◌, arith, Ok, append_assoc, ◌-◌, length-take, length-drop}
use Rattle.std.proofs.lemmas.Grind.{common_steps}
use Rattle.std.proofs.lemmas.List.{length-take-le}
use Rattle.std.proofs.Math.Seq.{take-add}
use Rattle.ion_binary.specs.Names.{Catalog, Limits, Machine, Value, led, run, run-append, then_run}

-- from `start`, the octets of the piece before i lead to m, whatever follows
pub record LeadsFromStart (g : Catalog) (l : Limits) (to : ℕ) (start : Machine) (piece : List ℕ) (i : ℕ) (m : Machine) : Type 0 where
  pub onward : (rest : List ℕ) → run g l to start (take i piece ++ rest) ≡ run g l (to + i) m rest

module _ (g : Catalog) (l : Limits) (to : ℕ) where
  -- at the end of the piece
  pub leads_to_end : (start m : Machine) (piece : List ℕ) (i : ℕ) → length piece ≤ i → LeadsFromStart g l to start piece i m →
      run g l to start piece ≡ record { given = []; now = Ok m }
  leads_to_end start m piece i whole before =
      let all : take i piece ++ [] ≡ piece = grind (arith, common_steps) in
      ap (run g l to start) (sym all) ∙ before.onward []

  -- octets behind which a run is at a machine lead there
  pub led_leads : (m n : Machine) (piece : List ℕ) (k : ℕ) → k ≤ length piece → run g l to m (take k piece) ≡ led n → LeadsFromStart g l to m piece k n
  led_leads m n piece k within e =
      let size : length (take k piece) ≡ k = length-take-le k piece within in
      record {
        onward = λ rest. run-append g l to (to + k) (take k piece) rest (omega arith) m ∙ ap (λ r. then_run r (λ j. run g l (to + k) j rest)) e;
      }

  -- what leads on from where it led
  pub leads_through : (start m n : Machine) (piece : List ℕ) (i k : ℕ) → LeadsFromStart g l to start piece i m
      → LeadsFromStart g l (to + i) m (drop i piece) k n → LeadsFromStart g l to start piece (i + k) n
  leads_through start m n piece i k before behind = record {
    onward = λ rest.
        let place : to + i + k ≡ to + (i + k) = omega arith in
        rw (take-add i k piece, append_assoc (take i piece), before.onward (take k (drop i piece) ++ rest), behind.onward rest, place);
  }

-- as much as is behind an octet is all behind it
pub whole_rest : (piece : List ℕ) (i : ℕ) → take (length piece - i) (drop i piece) ≡ drop i piece
whole_rest piece i = grind (arith, common_steps)

-- octets of the rest of the piece that were taken up at once lead on
pub leads_by : {g cat : Catalog} {l lim : Limits} {to used i : ℕ} {start m n : Machine} {piece : List ℕ} (k : ℕ) → cat ≡ g → lim ≡ l → used ≡ to + i
    → k ≤ length (take (length piece - i) (drop i piece)) → run cat lim used m (take k (take (length piece - i) (drop i piece))) ≡ led n
    → LeadsFromStart g l to start piece i m → LeadsFromStart g l to start piece (i + k) n
leads_by {g = g} {l = l} {to = to} {i = i} {start = start} {m = m} {n = n} {piece = piece} k same_catalog same_limits place within e before =
    let rest = whole_rest piece i in
    leads_through g l to start m n piece i k before
    (led_leads g l (to + i) m n (drop i piece) k (rw rest at within) (rw (same_catalog, same_limits, place, rest) at e))

-- octets of the rest of the piece with whose last a value came
pub leads_to_value : {g cat : Catalog} {l lim : Limits} {to used i : ℕ} {start m n : Machine} {piece : List ℕ} (k : ℕ) (v : Value) → cat ≡ g → lim ≡ l
    → used ≡ to + i → run cat lim used m (take k (take (length piece - i) (drop i piece))) ≡ record { given = (v, used + k) ∷ []; now = Ok n }
    → LeadsFromStart g l to start piece i m → run g l to start (take (i + k) piece) ≡ record { given = (v, to + (i + k)) ∷ []; now = Ok n }
leads_to_value {to = to} {used = used} {i = i} {piece = piece} k v same_catalog same_limits place e before =
    let behind : used + k ≡ to + (i + k) = omega arith in
    let on = rw (behind, same_catalog, same_limits, place, whole_rest piece i) at e in
    rw (take-add i k piece, before.onward (take k (drop i piece))) on

pub within_rest : (piece : List ℕ) (i k : ℕ) → 0 < k → k ≤ length (take (length piece - i) (drop i piece)) → i + k ≤ length piece
within_rest piece i k some within = omega (arith, length-take {A = ℕ}, length-drop {A = ℕ})
