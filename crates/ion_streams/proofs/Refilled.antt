-- Pieces that are read.
use Rattle.std.proofs.Common.{◌≡◌, ℕ, ◌+◌, ◌-◌, ◌≤◌, ◌<◌, List, [], ◌∷◌, ◌++◌, ◌==◌, length, take, drop, refl, ap, ◌∙◌, arith, Bool, true, false, append_assoc, length-take, length-drop}
use Rattle.std.proofs.lemmas.List.{drop-take, take-take, drop-append-le, take-append-le, length-take-le}
use Rattle.std.proofs.lemmas.Bool.Decides.{nat_tests}
use Rattle.std.proofs.Math.Seq.{take-append-add}
use Rattle.ion_streams.specs.Names.{AnsweredEnd, Heard, Inlet, between}
use Rattle.ion_symtab.specs.Told.{Told}

cut_front : (piece : List ℕ) (at end : ℕ) → at ≤ end → drop at (take end piece) ≡ between piece at end
cut_front piece at end within =
    let whole : end ≡ at + (end - at) = omega (arith, within) in
    ap (λ n. drop at (take n piece)) whole ∙ drop-take at (end - at) piece

cut_joined : (piece new back : List ℕ) (at end count : ℕ) → at ≤ end → end ≤ length piece → count ≤ length new
    → between (take end piece ++ (new ++ back)) at (end + count) ≡ between piece at end ++ take count new
cut_joined piece new back at end count within fits few =
    let front = cut_front piece at end within in
    let long : length (take end piece) ≡ end = length-take-le end piece fits in
    let size : length (between piece at end) ≡ end - at = omega (arith, within, fits, length-take {A = ℕ}, length-drop {A = ℕ}) in
    let many : end + count - at ≡ length (between piece at end) + count = omega (arith, size, within) in
    ap (take (end + count - at)) (drop-append-le at (take end piece) (new ++ back) (omega (arith, long, within)) ∙ ap (λ x. x ++ (new ++ back)) front)
    ∙ (ap (λ n. take n (between piece at end ++ (new ++ back))) many ∙ (take-append-add (between piece at end) (new ++ back) count
    ∙ ap (λ x. between piece at end ++ x) (take-append-le count new back few)))

-- where octets were put behind a place, those before it are as they were, and behind them stand the new ones
pub between_joined : (piece held new back : List ℕ) (at end count : ℕ) → held ≡ piece → at ≤ end → end ≤ length piece → count ≤ length new
    → between (take end held ++ (new ++ back)) at (end + count) ≡ between piece at end ++ take count new
between_joined piece held new back at end count same within fits few =
    ap (λ x. between (take end x ++ (new ++ back)) at (end + count)) same ∙ cut_joined piece new back at end count within fits few

between_short : (octets : List ℕ) (len at to : ℕ) → at ≤ to → to ≤ len → between (take len octets) at to ≡ between octets at to
between_short octets len at to within fits =
    let whole : len ≡ at + (len - at) = omega (arith, within, fits) in
    ap (λ n. take (to - at) (drop at (take n octets))) whole ∙ (ap (take (to - at)) (drop-take at (len - at) octets)
    ∙ take-take (to - at) (len - at) (drop at octets) (omega (arith, fits)))

-- the same where the octets are cut to the length that they had
pub between_written : (piece held new back more : List ℕ) (len at end count : ℕ) → held ≡ piece → at ≤ end → end ≤ length piece → count ≤ length new
    → end + count ≤ len → between (take len ((take end held ++ (new ++ back)) ++ more)) at (end + count) ≡ between piece at end ++ take count new
between_written piece held new back more len at end count same within fits few short =
    between_short ((take end held ++ (new ++ back)) ++ more) len at (end + count) (omega (arith, within)) short
    ∙ (ap (λ x. between x at (end + count)) (append_assoc (take end held) (new ++ back) more
    ∙ ap (λ x. take end held ++ x) (append_assoc new back more))
    ∙ between_joined piece held new (back ++ more) at end count same within fits few)

module _ {S : Type 0} (R : Inlet S) (old new : S) where
  answered : (ended : Bool) → (ended ≡ true → (R.ends new ≡ R.ends old ++ length (R.handed new) ∷ []) × R.tells new []) → (ended ≡ false → R.ends new ≡ R.ends old)
      → AnsweredEnd R old new ended
  answered true end going = end refl
  answered false end going = going refl

  -- what a read of a piece that isn't empty told
  pub heard_read : (octets : List ℕ) (count : ℕ) → Told R.tells R.handed old new octets → (count ≡ 0 → R.ends new ≡ R.ends old ++ length (R.handed new) ∷ [])
      → (count ≡ 0 → R.tells new []) → (0 < count → R.ends new ≡ R.ends old) → Heard R old new octets (count == 0)
  heard_read octets count told ended end going =
      record {
        told = told;
        answered = answered (count == 0) (λ e. let none : count ≡ 0 = grind (arith, nat_tests) in (ended none, end none))
            (λ e. let some : 0 < count = grind (arith, nat_tests) in going some);
      }
