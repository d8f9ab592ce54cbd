-- The octets of nulls and bools in the grammar are those of the specification's table: each octet was looked at.
use Rattle.std.proofs.Common.{◌≡◌, ◌↔◌, ℕ, zero, suc, ◌<◌, ◌==◌, Bool, true, false, ◌&&◌, refl, ap, sym, subst, ◌∙◌, arith, ◌⊎◌, inl, inr}
use Rattle.std.specs.Prelude.{◌||◌}
use Rattle.std.proofs.lemmas.Bool.{cases_lt, eqb-true}
use Rattle.ion_binary.specs.Names.{Kind, Null, Opening, Truth, descriptor_of, null_octet, opening_of, truth_octet}

abbrev is_int : Kind → Bool
is_int Kind.Int = true
is_int _ = false

-- what the octet opens is said of it in the table
abbrev row_holds : Opening → ℕ → Bool
row_holds (Null k) b = (b == null_octet k) || (is_int k && (b == 0x3F))
row_holds (Truth t) b = b == truth_octet t
row_holds _ b = true

abbrev all_below : (ℕ → Bool) → ℕ → Bool
all_below test zero = true
all_below test (suc n) = test n && all_below test n

pub both_first : (a b : Bool) → a && b ≡ true → a ≡ true
both_first true b h = refl
both_first false b h = h

pub both_second : (a b : Bool) → a && b ≡ true → b ≡ true
both_second true b h = h
both_second false b h = absurd cc

below_all : (test : ℕ → Bool) (n b : ℕ) → all_below test n ≡ true → b < n → test b ≡ true
below_all test zero b h less = absurd (omega arith)
below_all test (suc n) b h less = elim (cases_lt b n) [
  | inl under ↦ below_all test n b (both_second (test n) _ h) under
  | inr last ↦ let e : n ≡ b = omega arith in subst (λ x. test x ≡ true) e (both_first (test n) _ h)
]

all_rows : all_below (λ b. row_holds (opening_of b) b) 256 ≡ true
unfolding opening_of descriptor_of
all_rows = refl

row : (b : ℕ) → b < 256 → row_holds (opening_of b) b ≡ true
row b less = below_all (λ b. row_holds (opening_of b) b) 256 b all_rows less

-- 1. Nulls; those of ints have two octets.
either : (x y : Bool) → x || y ≡ true → (x ≡ true) ⊎ (y ≡ true)
either true y h = inl refl
either false y h = inr h

int_alone : (k : Kind) → is_int k ≡ true → k ≡ Kind.Int
int_alone Kind.Int h = refl
int_alone _ h = absurd cc

null_opens : (k : Kind) → opening_of (null_octet k) ≡ Null k
unfolding opening_of descriptor_of
null_opens Kind.Null = refl
null_opens _ = refl

other_int_opens : opening_of 0x3F ≡ Null Kind.Int
unfolding opening_of descriptor_of
other_int_opens = refl

null_told : (b : ℕ) (k : Kind) → b < 256 → opening_of b ≡ Null k → (b ≡ null_octet k) ⊎ ((k ≡ Kind.Int) × (b ≡ 0x3F))
null_told b k less e =
    let holds = rw e at (row b less) in
    elim (either (b == null_octet k) (is_int k && (b == 0x3F)) holds) [
      | inl own ↦ inl (eqb-true b (null_octet k) own)
      | inr other ↦ inr (int_alone k (both_first (is_int k) (b == 0x3F) other), eqb-true b 0x3F (both_second (is_int k) (b == 0x3F) other))
    ]

null_from : (b : ℕ) (k : Kind) → (b ≡ null_octet k) ⊎ ((k ≡ Kind.Int) × (b ≡ 0x3F)) → opening_of b ≡ Null k
null_from b k (inl own) = ap opening_of own ∙ null_opens k
null_from b k (inr other) = ap opening_of other.1 ∙ (other_int_opens ∙ ap Null (sym other.0))

-- an octet opens a null just where it is that of its kind; ints have two
pub null_rows : (b : ℕ) (k : Kind) → b < 256 → (opening_of b ≡ Null k) ↔ ((b ≡ null_octet k) ⊎ ((k ≡ Kind.Int) × (b ≡ 0x3F)))
null_rows b k less = (null_told b k less, null_from b k)

-- 2. Bools.
truth_opens : (t : Bool) → opening_of (truth_octet t) ≡ Truth t
unfolding opening_of descriptor_of
truth_opens false = refl
truth_opens true = refl

truth_told : (b : ℕ) (t : Bool) → b < 256 → opening_of b ≡ Truth t → b ≡ truth_octet t
truth_told b t less e = eqb-true b (truth_octet t) (rw e at (row b less))

-- an octet opens a bool just where it is that of the bool
pub truth_rows : (b : ℕ) (t : Bool) → b < 256 → (opening_of b ≡ Truth t) ↔ (b ≡ truth_octet t)
truth_rows b t less = (truth_told b t less, λ own. ap opening_of own ∙ truth_opens t)
