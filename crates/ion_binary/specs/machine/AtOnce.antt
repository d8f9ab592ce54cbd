-- Octets that a body or a pad goes on with, taken up at once.
use Rattle.std.proofs.Common.{◌≡◌, ℕ, zero, suc, ◌+◌, ◌-◌, ◌≤◌, List, [], ◌∷◌, ◌++◌, length, arith, append_assoc, append-nil, ne_eqb}
use Rattle.ion_binary.specs.Names.{Catalog, Frame, InPad, Limits, Outcome, Scalar, Spot, at, in_body, led, on_body, on_pad, run, under}
use Rattle.ion_binary.specs.machine.EachOctet.{moved}

module _ (g : Catalog) (l : Limits) where
  -- an octet that doesn't end the body
  pub body_more : (spot : Spot) (fs : List Frame) (t : Scalar) (n : ℕ) (came : List ℕ) (b : ℕ) → on_body (under g l) spot fs t (suc n) (came ++ b ∷ [])
      ≡ Outcome.goes (in_body spot fs t n (came ++ b ∷ []))
  body_more spot fs t n came b = let j : suc n - 1 ≡ n = omega arith in rw (ne_eqb (suc n) 0 (λ e. omega arith), j)

  -- an octet that doesn't end the pad
  pub pad_more : (spot : Spot) (fs : List Frame) (n : ℕ) → on_pad (under g l) spot fs (suc n) ≡ Outcome.goes (at spot fs (InPad n))
  pad_more spot fs n = let j : suc n - 1 ≡ n = omega arith in rw (ne_eqb (suc n) 0 (λ e. omega arith), j)

  -- so many that none of them ends the body
  pub body_goes : (spot : Spot) (fs : List Frame) (t : Scalar) (n : ℕ) (came w : List ℕ) → length w ≤ n
      → run g l spot.used (in_body spot fs t n came) w ≡ led (in_body (moved spot (spot.used + length w)) fs t (n - length w) (came ++ w))
  body_goes spot fs t n came [] h =
      let i : spot.used + 0 ≡ spot.used = omega arith in
      let j : n - 0 ≡ n = omega arith in
      rw (i, j, append-nil came)
  body_goes spot fs t zero came (b ∷ bs) h = absurd (omega arith)
  body_goes spot fs t (suc n) came (b ∷ bs) h =
      let i : spot.used + 1 + length bs ≡ spot.used + length (b ∷ bs) = omega arith in
      let j : n - length bs ≡ suc n - length (b ∷ bs) = omega arith in
      rw (body_more (moved spot (spot.used + 1)) fs t n came b)
      (rw (i, j, append_assoc came) at (body_goes (moved spot (spot.used + 1)) fs t n (came ++ b ∷ []) bs (omega arith)))

  -- so many that none of them ends the pad
  pub pad_goes : (spot : Spot) (fs : List Frame) (n : ℕ) (w : List ℕ) → length w ≤ n
      → run g l spot.used (at spot fs (InPad n)) w ≡ led (at (moved spot (spot.used + length w)) fs (InPad (n - length w)))
  pad_goes spot fs n [] h =
      let i : spot.used + 0 ≡ spot.used = omega arith in
      let j : n - 0 ≡ n = omega arith in
      rw (i, j)
  pad_goes spot fs zero (b ∷ bs) h = absurd (omega arith)
  pad_goes spot fs (suc n) (b ∷ bs) h =
      let i : spot.used + 1 + length bs ≡ spot.used + length (b ∷ bs) = omega arith in
      let j : n - length bs ≡ suc n - length (b ∷ bs) = omega arith in
      rw (pad_more (moved spot (spot.used + 1)) fs n) (rw (i, j) at (pad_goes (moved spot (spot.used + 1)) fs n bs (omega arith)))
