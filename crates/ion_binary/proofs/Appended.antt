-- Octets that calls in turn put behind one another.
use Rattle.std.proofs.Common.{◌≡◌, ℕ, ◌<◌, List, [], ◌∷◌, ◌++◌, length, ap, arith, append_assoc, length-append}

-- four parts behind a start
pub appended_four : {one two three new : List ℕ} (start a b c d : List ℕ) → one ≡ start ++ a → two ≡ one ++ b → three ≡ two ++ c → new ≡ three ++ d
    → new ≡ start ++ ((a ++ b) ++ (c ++ d))
appended_four start a b c d e f g h =
    rw (h, g, f, e) (simp append_assoc)

-- a place that was the end is within, once an octet and more stand behind it
pub stands_before : (place size : ℕ) (old body new : List ℕ) → place ≡ length old → new ≡ (old ++ 0 ∷ []) ++ body → size ≡ length new → place < size
stands_before place size old body new at is long =
    omega (arith, at, long, ap length is, length-append (old ++ 0 ∷ []) body, length-append old (0 ∷ []))
