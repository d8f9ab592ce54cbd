use Rattle.std.proofs.Common.{◌≡◌, ℕ, suc, ◌+◌, ◌-◌, ◌<◌, ◌∙◌, false, List, length, take, drop, get_or, get_or-drop, length-drop, ap, subst, sym, arith}
use Rattle.std.specs.Prelude.{◌==◌, not}
use Rattle.std.specs.List.{take_while}
use Rattle.std.proofs.lemmas.Bool.Decides.{nat_tests}
use Rattle.ion_tokens.specs.Names.{HasNoClose, Mode, goes_on}
use Rattle.ion_tokens.proofs.runs.GoesOn.{rest_is}
use Rattle.ion_tokens.proofs.runs.WholeComments.{fewer_open, star_open, stars_open}
use Rattle.ion_tokens.proofs.runs.WholeTokens.{front_each, front_stops}
use Rattle.ion_tokens.proofs.comments.of_block.Goals as goal

-- so many octets go on a block comment
counted : (octets : List ℕ) (at n : ℕ) → n ≡ length (take_while (goes_on Mode.BlockComment) (take (length octets - at) (drop at octets)))
    → n ≡ length (take_while (goes_on Mode.BlockComment) (drop at octets))
counted octets at n e = e ∙ ap (λ w. length (take_while (goes_on Mode.BlockComment) w)) (rest_is octets at)

open_up_to : (octets : List ℕ) (at n : ℕ) → HasNoClose (take (at + 1) octets)
    → n ≡ length (take_while (goes_on Mode.BlockComment) (take (length octets - at) (drop at octets))) → HasNoClose (take (at + n + 1) octets)
open_up_to octets at n none e =
    stars_open octets at n none (front_each (goes_on Mode.BlockComment) (drop at octets) n (counted octets at n e))

pub returns-then-octets-star-eq47-clause-open : goal.returns-then-octets-star-eq47-clause-open
returns-then-octets-star-eq47-clause-open c =
    let star = c.loop.at + c.of_comment.result in
    fewer_open c.args.octets.now star
    (subst (λ k. HasNoClose (take k c.args.octets.now)) (next star) (open_up_to c.args.octets.now c.loop.at c.of_comment.result c.loop.invariant.1 c.of_comment.ensures))
  where
    next : (n : ℕ) → n + 1 ≡ suc n
    next n = omega arith

pub returns-then-octets-star-eq47-clause-star : goal.returns-then-octets-star-eq47-clause-star
returns-then-octets-star-eq47-clause-star c =
    let octets = c.args.octets.now in
    let at = c.loop.at in
    let n = c.of_comment.result in
    let size = length-drop at octets in
    sym (get_or-drop at octets n 0)
    ∙ is_star (get_or (drop at octets) n 0) (front_stops (goes_on Mode.BlockComment) (drop at octets) n (counted octets at n c.of_comment.ensures)
    (omega (arith, c.if-octets-star-lt2.false)))
  where
    is_star : (o : ℕ) → not (o == 42) ≡ false → o ≡ 42
    is_star o e = grind (arith, nat_tests)

pub loop-preserved : goal.loop-preserved
loop-preserved c =
    let octets = c.args.octets.now in
    let within : c.loop.at + c.of_comment.result + 1 < length octets = omega (arith, c.if-octets-star-lt2.false) in (
      omega arith,
      star_open octets (c.loop.at + c.of_comment.result) within
          (open_up_to octets c.loop.at c.of_comment.result c.loop.invariant.1 c.of_comment.ensures) (grind (arith, nat_tests, c.if-octets-star-eq47.false)),
    )
