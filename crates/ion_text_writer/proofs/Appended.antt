-- Octets appended, one behind the other.
use Rattle.std.proofs.Common.{◌≡◌, ℕ, List, ◌++◌, ◌∙◌, append_assoc}

-- octets appended three times are the three parts appended at once
pub appended_three : (out a b c x y z : List ℕ) → a ≡ out ++ x → b ≡ a ++ y → c ≡ b ++ z → c ≡ out ++ (x ++ (y ++ z))
appended_three out a b c x y z e f g = rw (g, f, e) (append_assoc (out ++ x) y z ∙ append_assoc out x (y ++ z))
