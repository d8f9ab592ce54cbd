-- The table keeps a scanner steady: what each action may do in a mode.
use Rattle.std.proofs.Common.{◌≡◌, ℕ, suc, ◌+◌, ◌-◌, ◌≤◌, Bool, true, false, refl, arith}
use Rattle.std.specs.Prelude.{◌&&◌, ◌||◌, not, nat_le, nat_lt}
use Rattle.std.specs.List.{list_all}
use Rattle.std.proofs.lemmas.Bool.Decides.{nat_tests}
use Rattle.ion_tokens.specs.Names.{Action, Digits, Keep, Mode, Place, Style, Within, debt, is_idle, is_sexp, unkept}
pub use Rattle.ion_tokens.specs.machine.Steps.{is_octet_reason}
use Rattle.ion_tokens.specs.machine.Rows.{Taken, digit_rows, infinity_rows}
use Rattle.ion_tokens.specs.machine.Table.{next}
use Rattle.ion_tokens.specs.laws.ByRows.{by_mode, by_rows_where}

-- nothing is added to what is kept, and nothing is dropped
abbrev pub is_nothing : Keep → Bool
is_nothing Keep.Nothing = true
is_nothing _ = false

-- at most so many octets are added
abbrev pub added : Keep → ℕ
added (Keep.One _) = 1
added (Keep.Two _ _) = 2
added (Keep.Character _) = 4
added _ = 0

-- what is left to a token that follows
abbrev pub is_fresh : Mode → Bool
is_fresh Mode.Blank = true
is_fresh Mode.Slash = true
is_fresh _ = false

-- an action in a mode with so many octets unkept and in debt
abbrev pub fits : ℕ → ℕ → Bool → Action → Bool
fits unkept_now debt_now idle_now (Action.Go m k) =
    nat_le (added k + unkept m) (unkept_now + 1) && nat_le (debt m) (debt_now + 1) && (not (is_idle m) || (idle_now && is_nothing k))
fits unkept_now debt_now idle_now (Action.Give _ _) = true
fits unkept_now debt_now idle_now (Action.Before _ _ m) = nat_lt (debt m) debt_now && nat_le (unkept m) unkept_now && is_fresh m
fits unkept_now debt_now idle_now Action.EndWord = nat_le 1 debt_now
fits unkept_now debt_now idle_now (Action.Split n) = nat_le n unkept_now && nat_le 2 debt_now
fits unkept_now debt_now idle_now Action.EndBlob = nat_le 2 unkept_now
fits unkept_now debt_now idle_now (Action.Refuse e) = is_octet_reason e

-- an action stays within what the mode leaves unkept and in debt, and refuses for an octet alone
pub record Fits (u d : ℕ) (i : Bool) (a : Action) : Type 0 where
  pub is : fits u d i a ≡ true

-- the modes that count octets
abbrev is_counted : Mode → Bool
is_counted (Mode.Infinity letters) = true
is_counted (Mode.Text s (Within.Hexadecimal d left n)) = true
is_counted _ = false

rows_fit : (p : Place) (colon : Bool) (m : Mode) (o : ℕ) → not (is_counted m) ≡ true → fits (unkept m) (debt m) (is_idle m) (next p colon m o) ≡ true
rows_fit = by_rows_where (λ m. not (is_counted m)) (λ sexp m. fits (unkept m) (debt m) (is_idle m)) (λ c t. refl)

one_letter : (letters : ℕ) → nat_le (0 + suc letters) (letters + 1) ≡ true
one_letter letters = grind (arith, nat_tests)

all_letters : (letters : ℕ) → nat_le letters letters ≡ true
all_letters letters = grind (arith, nat_tests)

infinity_fits : (letters : ℕ) (sexp : Bool) → list_all (fits letters 2 false) (infinity_rows sexp letters) ≡ true
infinity_fits letters true = rw (one_letter letters, all_letters letters) refl
infinity_fits letters false = rw (one_letter letters) refl

-- at the last digit there is room for a character
last_digit : (left k : ℕ) → nat_le left 1 ≡ true → k ≤ 5 → nat_le k (1 + (4 - left) + 1) ≡ true
last_digit left k h b = grind (arith, nat_tests)

more_digits : (left : ℕ) → nat_le left 1 ≡ false → nat_le (0 + (1 + (4 - (left - 1)))) (1 + (4 - left) + 1) ≡ true
more_digits left h = grind (arith, nat_tests)

digits_fit : (s : Style) (d : Digits) (left : ℕ) (t : Taken) (last : Bool) → nat_le left 1 ≡ last
    → list_all (fits (1 + (4 - left)) 1 false) (digit_rows last s d left t) ≡ true
digits_fit s d left t true h = rw (last_digit left 2 h (omega arith), last_digit left 5 h (omega arith), last_digit left 1 h (omega arith)) refl
digits_fit s d left t false h = rw (more_digits left h) refl

table_fit : (p : Place) (colon : Bool) (m : Mode) (o : ℕ) → fits (unkept m) (debt m) (is_idle m) (next p colon m o) ≡ true
table_fit p colon (Mode.Infinity letters) o = by_mode (fits letters 2 false) p colon (Mode.Infinity letters) o (λ t. infinity_fits letters (is_sexp p))
table_fit p colon (Mode.Text s (Within.Hexadecimal d left n)) o =
    by_mode (fits (1 + (4 - left)) 1 false) p colon (Mode.Text s (Within.Hexadecimal d left n)) o (λ t. digits_fit s d left t (nat_le left 1) refl)
table_fit p colon m o = rows_fit p colon m o refl

-- each row of the table stays within what its mode leaves unkept and in debt
pub table_fits : (p : Place) (colon : Bool) (m : Mode) (o : ℕ) → Fits (unkept m) (debt m) (is_idle m) (next p colon m o)
table_fits p colon m o = record { is = table_fit p colon m o }
