-- The octet that shows the end of a token, in the octets that a machine ran over.
use Rattle.std.proofs.Common.{◌≡◌, ℕ, ◌+◌, ◌<◌, Bool, true, false, List, ◌∷◌, ◌++◌, length, take, refl, sym, ap, ◌∙◌, subst, arith, length-append}
use Rattle.std.specs.Prelude.{slice_index, Option, Some, None, IfSome}
use Rattle.std.proofs.Math.Seq.{take-append_seam, get_or-append_seam}
use Rattle.ion_tokens.specs.Names.{Ended, FoundToken, IsFound, Known, Lexeme, Machine, Place, Rest, TokenKind, before_end, ended, feed, lexeme_at, past_token, resting, run}
use Rattle.ion_tokens.specs.machine.Machines.{known, lexeme_in}
use Rattle.ion_tokens.proofs.runs.LastOctets.{IsLast, LastOctet, last_octet}
use Rattle.ion_tokens.proofs.runs.Splits.{given_one, left_one}

is_last : (left : Bool) (l : Lexeme) (t : Known) → IsLast (ended left l t)
is_last true l t = tt
is_last false l t = tt

-- the octet that shows the end stands before the token's end, or behind it
shows : (left : Bool) (p : Place) (octets : List ℕ) (r : Rest) (t : Known) (l : Lexeme) (n : ℕ) → t.used ≡ r.used + n
    → (d : LastOctet p octets (resting r) (ended left l t)) → before_end left n ≡ length d.before
shows true p octets r t l n used d = omega (arith, used, d.counted, left_one p d.octet d.known t l d.fed)
shows false p octets r t l n used d = omega (arith, used, d.counted, given_one p d.octet d.known t l d.fed)

-- A token to which a machine that rests comes over these octets, and behind which it rests again, stands whole at their front.
pub found_by_run : (p : Place) (r : Rest) (octets : List ℕ) (kind : TokenKind) (kept : List ℕ) (n : ℕ) (left : Bool) → 0 < n → run p octets (resting r)
    ≡ ended left (lexeme_at r kind kept n) (resting (past_token p r kind n)) → IsFound p r octets kind kept n left
found_by_run p r octets kind kept n left some e =
    let l = lexeme_at r kind kept n in
    let t = resting (past_token p r kind n) in
    let d = last_octet p octets (resting r) (ended left l t) (is_last left l t) e in
    let m : ℕ = before_end left n in
    let is : m ≡ length d.before = shows left p octets r t l n refl d in
    let octet : slice_index octets m ≡ d.octet =
    ap (λ w. slice_index w m) d.cut ∙ ap (slice_index (d.before ++ d.octet ∷ d.rest)) is ∙ get_or-append_seam d.before d.octet d.rest 0 in
    record {
      some = some;
      shown = omega (arith, is, ap length d.cut, length-append d.before (d.octet ∷ d.rest));
      known = d.known;
      ran = ap (λ w. run p w (resting r)) (ap (take m) d.cut ∙ ap (λ (i : ℕ). take i (d.before ++ d.octet ∷ d.rest)) is
          ∙ take-append_seam d.before (d.octet ∷ d.rest)) ∙ d.ran;
      ends = ap (λ (o : ℕ). feed p d.known o) octet ∙ d.fed;
    }

-- the same of what was found, if something was
pub found_if : (p : Place) (r : Rest) (octets : List ℕ) (m : Machine) (x : Ended) (left : Bool) (o : Option FoundToken) → run p octets (resting r)
    ≡ ended left (lexeme_in x m) (known m)
    → IfSome o (λ f. 0 < f.count) → IfSome o (λ f. known m ≡ resting (past_token p r f.kind f.count))
    → IfSome o (λ f. lexeme_in x m ≡ lexeme_at r f.kind m.ended.items f.count) → IfSome o (λ f. f.left ≡ left)
    → IfSome o (λ f. IsFound p r octets f.kind m.ended.items f.count f.left)
found_if p r octets m x left None e some k l w = some
found_if p r octets m x left (Some f) e some k l w =
    subst (λ (b : Bool). IsFound p r octets f.kind m.ended.items f.count b) (sym w)
    (found_by_run p r octets f.kind m.ended.items f.count left some
    (e ∙ ap (λ (y : Lexeme). ended left y (known m)) l ∙ ap (λ (t : Known). ended left (lexeme_at r f.kind m.ended.items f.count) t) k))
