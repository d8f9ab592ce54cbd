-- Comments that lie whole in memory, and the blanks between them.
use Rattle.std.proofs.Common.{◌≡◌, ℕ, zero, suc, ◌+◌, ◌-◌, ◌<◌, ◌≤◌, Bool, true, false, List, [], ◌∷◌, ◌++◌, length, length-drop, take, take-add, drop, get_or, append_assoc, refl, sym, ap, ◌∙◌, subst, arith, append-nil}
use Rattle.std.specs.Prelude.{codes, ◌&&◌, ◌==◌, if◌then◌else◌}
use Rattle.std.specs.List.{take_while}
use Rattle.std.proofs.lemmas.List.{length-take-le, take_more}
use Rattle.std.proofs.lemmas.Bool.{and_left, and_right, eqb-true, not-false, not-true}
use Rattle.ion_tokens.specs.Names.{Each, HasNoClose, HasNoLineEnd, IsPassed, Mode, Next, Place, Rest, RestsBehind, follow, goes_on, is_line_end, past_blank, past_comment, resting, run}
use Rattle.ion_tokens.proofs.complete.Moves.{Opens, at}
use Rattle.ion_tokens.proofs.complete.TakesBlanks.{block_opens, line_opens}
use Rattle.ion_tokens.proofs.runs.Cutting.{run-append}
use Rattle.ion_tokens.proofs.runs.WholeTokens.{front_each, front_stops}

-- octets that lead from a slash back to a blank are a comment
comment_rests : (octets w : List ℕ) (n : ℕ) → take n octets ≡ w → n ≤ length octets → ((p : Place) (colon : Bool) → Opens p colon w Mode.Blank []) → (r : Rest)
    → RestsBehind octets n r (past_comment r n)
comment_rests octets w n is within opens r = record {
  ran =
      λ p.
      ap (λ l. run p l (resting r)) (is ∙ sym (append-nil w)) ∙ (opens p r.colon).on r.start r.used []
      ∙ ap (λ (i : ℕ). Next (at Mode.Blank [] r.colon r.used (r.used + i))) size;
  within = within;
  used = refl;
}
  where
    size : length w ≡ n
    size = ap (λ (l : List ℕ). length l) (sym is) ∙ length-take-le n octets within

-- two octets, and those behind them
record Begun (octets content : List ℕ) (second : ℕ) : Type 0 where
  is : octets ≡ 47 ∷ second ∷ content

begun : (octets content : List ℕ) (second : ℕ) → 1 < length octets → get_or octets 0 0 ≡ 47 → get_or octets 1 0 ≡ second → content ≡ drop 2 octets
    → Begun octets content second
begun [] content second more one two is = absurd (omega arith)
begun (a ∷ []) content second more one two is = absurd (omega arith)
begun (a ∷ b ∷ os) content second more one two is = record { is = ap (λ x. x ∷ b ∷ os) one ∙ (ap (λ x. 47 ∷ x ∷ os) two ∙ ap (λ x. 47 ∷ second ∷ x) (sym is)) }

three_more : (second n : ℕ) (content : List ℕ) → take (n + 3) (47 ∷ second ∷ content) ≡ 47 ∷ second ∷ take (n + 1) content
three_more second n content = ap (λ k. take k (47 ∷ second ∷ content)) (let k : n + 3 ≡ suc (suc (n + 1)) = omega arith in k)

open_line : (w : List ℕ) → Each (goes_on Mode.LineComment) w → HasNoLineEnd w
open_line [] h = tt
open_line (o ∷ os) h = (not-true (is_line_end o) h.0, open_line os h.1)

-- a line comment, with the end of its line
pub line_rests : (octets content : List ℕ) (n : ℕ) → 1 < length octets → get_or octets 0 0 ≡ 47 → get_or octets 1 0 ≡ 47 → content ≡ drop 2 octets
    → n ≡ length (take_while (goes_on Mode.LineComment) content) → n < length content → (r : Rest) → RestsBehind octets (n + 3) r (past_comment r (n + 3))
line_rests octets content n more one two is e within r =
    let b = begun octets content 47 more one two is in
    let begins = ap (λ (w : List ℕ). length w) b.is in
    let size : length octets ≡ length content + 2 = omega (arith, begins) in
    comment_rests octets (codes "//" ++ take n content ++ get_or content n 0 ∷ []) (n + 3)
    (ap (take (n + 3)) b.is ∙ (three_more 47 n content ∙ ap (λ w. 47 ∷ 47 ∷ w) (take_more content n 0 within))) (omega arith)
    (λ p colon. line_opens p colon (take n content) (get_or content n 0) (open_line (take n content) (front_each (goes_on Mode.LineComment) content n e))
    (not-false (is_line_end (get_or content n 0)) (front_stops (goes_on Mode.LineComment) content n e within))) r

-- a block comment
pub block_rests : (octets content : List ℕ) (n : ℕ) → 1 < length octets → get_or octets 0 0 ≡ 47 → get_or octets 1 0 ≡ 42 → content ≡ drop 2 octets
    → HasNoClose (take n content) → n + 1 < length content → get_or content n 0 ≡ 42 → get_or content (n + 1) 0 ≡ 47 → (r : Rest)
    → RestsBehind octets (n + 4) r (past_comment r (n + 4))
block_rests octets content n more one two is none within star slash r =
    let b = begun octets content 42 more one two is in
    let begins = ap (λ (w : List ℕ). length w) b.is in
    let size : length octets ≡ length content + 2 = omega (arith, begins) in
    let first : take (n + 1) content ≡ take n content ++ 42 ∷ [] = take_more content n 0 (omega arith) ∙ ap (λ o. take n content ++ o ∷ []) star in
    let both : take (n + 1 + 1) content ≡ (take n content ++ 42 ∷ []) ++ 47 ∷ [] =
    take_more content (n + 1) 0 within ∙ (ap (λ o. take (n + 1) content ++ o ∷ []) slash ∙ ap (λ w. w ++ 47 ∷ []) first) in
    let more : n + 4 ≡ n + 1 + 3 = omega arith in
    comment_rests octets (codes "/*" ++ take n content ++ codes "*/") (n + 4)
    (ap (take (n + 4)) b.is ∙ (ap (λ k. take k (47 ∷ 42 ∷ content)) more ∙ (three_more 42 (n + 1) content ∙ ap (λ w. 47 ∷ 42 ∷ w)
    (both ∙ append_assoc (take n content) (42 ∷ []) (47 ∷ []))))) (omega arith)
    (λ p colon. block_opens p colon (take n content) none) r

-- no close in octets of which none is the slash behind a star
pub still_open : (octets : List ℕ) (n : ℕ) → 0 < n → n < length octets → HasNoClose (take n octets) → ((get_or octets (n - 1) 0 == 42) && (get_or octets n 0 == 47)) ≡ false
    → HasNoClose (take (n + 1) octets)
still_open octets zero some within none last = absurd (omega arith)
still_open [] (suc n) some within none last = absurd (omega arith)
still_open (o ∷ []) (suc n) some within none last = absurd (omega arith)
still_open (o ∷ p ∷ os) (suc zero) some within none last = (last, tt)
still_open (o ∷ p ∷ os) (suc (suc n)) some within none last =
    let more : suc (suc n) + 1 ≡ suc (suc (n + 1)) = omega arith in
    let one : suc n + 1 ≡ suc (n + 1) = omega arith in
    let last_of : suc (suc n) - 1 ≡ suc n = omega arith in
    let last_is : suc n - 1 ≡ n = omega arith in
    subst (λ k. HasNoClose (take k (o ∷ p ∷ os))) (sym more) (
      none.0,
      subst (λ k. HasNoClose (take k (p ∷ os))) one
          (still_open (p ∷ os) (suc n) (omega arith) (omega arith) none.1
          (ap (λ k. (get_or (p ∷ os) k 0 == 42) && (get_or (p ∷ os) (suc n) 0 == 47)) last_is
          ∙ (sym (ap (λ k. (get_or (o ∷ p ∷ os) k 0 == 42) && (get_or (o ∷ p ∷ os) (suc (suc n)) 0 == 47)) last_of) ∙ last))),
    )

-- nor in fewer of them
pub fewer_open : (octets : List ℕ) (n : ℕ) → HasNoClose (take (suc n) octets) → HasNoClose (take n octets)
fewer_open octets zero none = tt
fewer_open [] (suc n) none = tt
fewer_open (o ∷ os) (suc zero) none = tt
fewer_open (o ∷ []) (suc (suc n)) none = tt
fewer_open (o ∷ p ∷ os) (suc (suc n)) none = (none.0, fewer_open (p ∷ os) (suc n) none.1)

-- where none of these octets is a star, nothing closes before the one behind them
front_open : (octets : List ℕ) (n : ℕ) → Each (goes_on Mode.BlockComment) (take n octets) → HasNoClose (take (suc n) octets)
front_open [] n stars = tt
front_open (o ∷ os) zero stars = tt
front_open (o ∷ []) (suc n) stars = tt
front_open (o ∷ p ∷ os) (suc n) stars = (and_left (o == 42) (p == 47) (not-true (o == 42) stars.0), front_open (p ∷ os) n stars.1)

-- nor where nothing closed before them
pub stars_open : (octets : List ℕ) (at n : ℕ) → HasNoClose (take (at + 1) octets) → Each (goes_on Mode.BlockComment) (take n (drop at octets))
    → HasNoClose (take (at + n + 1) octets)
stars_open octets at n none stars =
    let first : at + 1 ≡ suc at = omega arith in
    let last : suc (at + n) ≡ at + n + 1 = omega arith in
    subst (λ k. HasNoClose (take k octets)) last (go octets at (subst (λ k. HasNoClose (take k octets)) first none) stars)
  where
    go : (octets : List ℕ) (at : ℕ) → HasNoClose (take (suc at) octets) → Each (goes_on Mode.BlockComment) (take n (drop at octets))
        → HasNoClose (take (suc (at + n)) octets)
    go [] at none stars = tt
    go (o ∷ os) zero none stars = subst (λ k. HasNoClose (take (suc k) (o ∷ os))) (let k : n ≡ 0 + n = omega arith in k) (front_open (o ∷ os) n stars)
    go (o ∷ []) (suc at) none stars = subst (λ k. HasNoClose (take (suc k) (o ∷ []))) (let k : suc (at + n) ≡ suc at + n = omega arith in k) tt
    go (o ∷ p ∷ os) (suc at) none stars =
        let more : suc (at + n) ≡ suc at + n = omega arith in
        subst (λ k. HasNoClose (take (suc k) (o ∷ p ∷ os))) more (none.0, go (p ∷ os) at none.1 stars)

-- nor behind a star that no slash follows
pub star_open : (octets : List ℕ) (n : ℕ) → n + 1 < length octets → HasNoClose (take (n + 1) octets) → (get_or octets (n + 1) 0 == 47) ≡ false
    → HasNoClose (take (n + 1 + 1) octets)
star_open octets n within none no_slash =
    still_open octets (n + 1) (omega arith) within none (and_right (get_or octets (n + 1 - 1) 0 == 42) (get_or octets (n + 1) 0 == 47) no_slash)

-- one blank behind the other
pub rests_on : (octets rest : List ℕ) (m n : ℕ) (a b c : Rest) → rest ≡ drop m octets → RestsBehind octets m a b → RestsBehind rest n b c
    → RestsBehind octets (m + n) a c
rests_on octets rest m n a b c is x y =
    let size : length rest ≡ length octets - m = ap (λ (w : List ℕ). length w) is ∙ length-drop m octets in
    let within = x.within in
    let within' = y.within in
    let used = x.used in
    let used' = y.used in
    record {
      ran =
          λ p.
          ap (λ w. run p w (resting a)) (take-add m n octets ∙ ap (λ w. take m octets ++ take n w) (sym is))
          ∙ (run-append p (take m octets) (take n rest) (resting a)
          ∙ (ap (λ o. follow o (λ s. run p (take n rest) s)) (x.ran p) ∙ y.ran p));
      within = omega arith;
      used = omega arith;
    }

-- white space is a blank
pub white_rests : (octets : List ℕ) (n : ℕ) → n ≤ length octets → IsPassed octets n → (r : Rest) → RestsBehind octets n r (past_blank r n)
white_rests octets n within passed r = record { ran = λ p. passed p r; within = within; used = by (n == 0) refl }
  where
    by : (b : Bool) → (n == 0) ≡ b → (if b then r else record { start = r.used + (n - 1); used = r.used + n; colon = r.colon }).used ≡ r.used + n
    by true e = let z : n ≡ 0 = eqb-true n 0 e in omega arith
    by false e = refl
