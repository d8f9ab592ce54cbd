-- Octets of a piece that a body or a pad goes on behind.
use Rattle.std.proofs.Common.{◌≡◌, ℕ, ◌+◌, ◌-◌, ◌<◌, ◌≤◌, List, ◌++◌, length, take, drop, arith}
use Rattle.std.proofs.lemmas.List.{length-take-le, take-append-drop}
use Rattle.ion_binary.specs.Names.{Catalog, Frame, InBody, InPad, Limits, Machine, Outcome, Phase, Reason, Scalar, Spot, at, body_so_far, in_body, judge, judged, led, run, run-append, run_after, under}
use Rattle.ion_binary.specs.machine.AtOnce.{body_goes, pad_goes}
use Rattle.ion_binary.specs.machine.EachOctet.{moved}
use Rattle.ion_binary.specs.laws.reading.Complete.{body_run}

-- the machine of a reader with this phase and these octets in its memory
abbrev pub with_phase : Spot → List Frame → List ℕ → Phase → Machine
with_phase spot fs kept phase = record { spot = spot; frames = fs; phase = phase; body = body_so_far phase kept }

module _ (g : Catalog) (l : Limits) (spot : Spot) (fs : List Frame) (kept : List ℕ) where
  -- over octets at the front of a piece that don't end a pad, the machine goes on in it
  pub pad_led : (n k : ℕ) (phase : Phase) (piece : List ℕ) → phase ≡ InPad n → k ≤ length piece → k ≤ n →
      run g l spot.used (with_phase spot fs kept phase) (take k piece) ≡ led (at (moved spot (spot.used + k)) fs (InPad (n - k)))
  pad_led n k phase piece e within few =
      let size : length (take k piece) ≡ k = length-take-le k piece within in
      rw e (rw size at (pad_goes g l spot fs n (take k piece) (omega arith)))

  -- over octets at the front of a piece that don't end a body, the machine goes on and keeps them
  pub body_led : (t : Scalar) (n k : ℕ) (phase : Phase) (piece : List ℕ) → phase ≡ InBody t n → k ≤ length piece → k ≤ n →
      run g l spot.used (with_phase spot fs kept phase) (take k piece) ≡ led (in_body (moved spot (spot.used + k)) fs t (n - k) (kept ++ take k piece))
  body_led t n k phase piece e within few =
      let size : length (take k piece) ≡ k = length-take-le k piece within in
      rw e (rw size at (body_goes g l spot fs t n kept (take k piece) (omega arith)))

  -- the body ends with these octets
  pub body_ends : (t : Scalar) (k : ℕ) (phase : Phase) (piece : List ℕ) → phase ≡ InBody t (k - 1) → 0 < k → k ≤ length piece →
      run g l spot.used (with_phase spot fs kept phase) (take k piece)
      ≡ run_after (spot.used + k) (judged (under g l) (moved spot (spot.used + k)) fs (judge spot.context t (kept ++ take k piece)))
  body_ends t k phase piece e some within =
      let size : length (take k piece) ≡ k = length-take-le k piece within in
      rw e (body_run g l spot fs t (k - 1) kept (take k piece) (spot.used + k) (omega arith) (omega arith))

-- what is refused at the front of a piece is refused with what follows
pub refused_whole : (g : Catalog) (l : Limits) (used : ℕ) (m : Machine) (piece : List ℕ) (k : ℕ) (reason : Reason) → k ≤ length piece →
    run g l used m (take k piece) ≡ run_after (used + k) (Outcome.refuses reason) → run g l used m piece ≡ run_after (used + k) (Outcome.refuses reason)
refused_whole g l used m piece k reason within e =
    let size : length (take k piece) ≡ k = length-take-le k piece within in
    let whole = run-append g l used (used + k) (take k piece) (drop k piece) (omega arith) m in
    rw (take-append-drop k piece, e) at whole
