-- Where quotes are open, they are the octets since the token began.
use Rattle.std.proofs.Common.{◌≡◌, ℕ, ◌+◌, Bool, true, false, List, [], refl, arith, Option, Some, None}
use Rattle.std.specs.Prelude.{◌==◌, ◌&&◌, ◌||◌, not, bytes_eq, codes}
use Rattle.std.proofs.lemmas.Bool.{and_parts, cond_both}
use Rattle.ion_text.specs.Names.{Action, Given, Known, Left, Mode, Next, Outcome, Place, Refused, TokenKind, acts, blob_ends, blob_of, cut, feed, go_to, past, start_of}
use Rattle.ion_tokens.specs.machine.Table.{next}
use Rattle.ion_tokens.specs.laws.ByRows.{by_rows}

abbrev is_one : Mode → Bool
is_one Mode.Quote = true
is_one _ = false

abbrev is_two : Mode → Bool
is_two Mode.Quotes = true
is_two _ = false

abbrev is_blank : Mode → Bool
is_blank Mode.Blank = true
is_blank _ = false

abbrev blank_fits : Bool → Bool → Action → Bool
blank_fits blank one (Action.Go m k) = (not (is_one m) || blank) && (not (is_two m) || one)
blank_fits blank one (Action.Before kind k m) = not (is_one m) && not (is_two m)
blank_fits blank one _ = true

table_fits : (p : Place) (colon : Bool) (m : Mode) (o : ℕ) → blank_fits (is_blank m) (is_one m) (next p colon m o) ≡ true
table_fits = by_rows (λ sexp m. blank_fits (is_blank m) (is_one m)) (λ c t. refl)

-- what the octets of open quotes are
abbrev pub exact : Mode → ℕ → ℕ → Type 0
exact Mode.Quote start used = used ≡ start + 1
exact Mode.Quotes start used = used ≡ start + 2
exact _ start used = Unit {0}

-- where quotes are open, the scanner has used just these since the token began
pub record Exact (s : Known) : Type 0 where
  pub is : exact s.mode s.start s.used

-- behind an octet
abbrev pub Exactly : Outcome → Type 0
Exactly (Next s) = Exact s
Exactly (Given x s) = Exact s
Exactly (Left x s) = Exact s
Exactly (Refused n e) = Unit {0}

from_blank : (m : Mode) (start used : ℕ) → is_blank m ≡ true → start_of m start used ≡ used
from_blank Mode.Blank start used h = refl
from_blank _ start used h = absurd cc

from_one : (m : Mode) (start used : ℕ) → is_one m ≡ true → exact m start used → used + 1 ≡ start_of m start used + 2
from_one Mode.Quote start used h e = omega (arith, e)
from_one _ start used h e = absurd cc

went : (m : Mode) (s : Known) (k : List ℕ) → ((not (is_one m) || is_blank s.mode) && (not (is_two m) || is_one s.mode)) ≡ true → Exact s → Exact (go_to s m k)
went Mode.Quote s k h e = let x = and_parts _ _ h in record { is = omega (arith, from_blank s.mode s.start s.used x.0) }
went Mode.Quotes s k h e = record { is = from_one s.mode s.start s.used h e.is }
went _ s k h e = record { is = tt }

left_exact : (p : Place) (kind : TokenKind) (m : Mode) (k : List ℕ) (start used : ℕ) → (not (is_one m) && not (is_two m)) ≡ true
    → Exact (past p kind m k start used)
left_exact p kind Mode.Quote k start used h = absurd cc
left_exact p kind Mode.Quotes k start used h = absurd cc
left_exact p kind _ k start used h = record { is = tt }

acts_exact : (p : Place) (s : Known) (o : ℕ) (a : Action) → blank_fits (is_blank s.mode) (is_one s.mode) a ≡ true → Exact s → Exactly (acts p s o a)
acts_exact p s o (Action.Go m k) f e = went m s _ f e
acts_exact p s o (Action.Before kind k m) f e = left_exact p kind m _ _ _ f
acts_exact p s o Action.EndWord f e = cond_both ((o == 46) && bytes_eq s.kept (codes "null")) (Next (go_to s Mode.KindName []))
    (Left (cut s TokenKind.Word s.kept s.used) (past p TokenKind.Word Mode.Blank [] s.used s.used)) Exactly (λ b. record { is = tt }) (λ b. record { is = tt })
acts_exact p s o Action.EndBlob f e = blob (blob_of s.kept)
  where
    blob : (b : Option (List ℕ)) → Exactly (blob_ends s b)
    blob None = tt
    blob (Some octets) = record { is = tt }
acts_exact p s o (Action.Refuse x) f e = tt
acts_exact p s o _ f e = record { is = tt }

-- Open quotes stay the octets since the token began.
pub feed_exact : (p : Place) (s : Known) (o : ℕ) → Exact s → Exactly (feed p s o)
feed_exact p s o e = acts_exact p s o (next p s.colon s.mode o) (table_fits p s.colon s.mode o) e
