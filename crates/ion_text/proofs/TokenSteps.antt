-- What a token does that is taken up where the scanner rests and a container is open.
use Rattle.std.proofs.Common.{◌≡◌, ◌≢◌, ℕ, suc, ◌+◌, ◌-◌, ◌<◌, ◌≤◌, Bool, true, false, List, [], ◌∷◌, length, take, drop, get_or, Option, Some, None, Ok, Err, refl, ap, sym, ◌∙◌, subst, arith}
use Rattle.std.specs.Prelude.{if◌then◌else◌, ◌==◌, ◌&&◌, ◌^◌, nat_lt, min, IsUtf8}
use Rattle.std.specs.List.{list_all}
use Rattle.std.proofs.lemmas.Bool.Decides.{nat_tests}
use Rattle.std.proofs.lemmas.Str.{is_utf8-from_IsUtf8}
use Rattle.std.proofs.lemmas.Grind.{common_steps}
use Rattle.ion_text.specs.Names.{Catalog, Content, Frame, Held, IsFound, IsStill, Lexeme, Limits, ListOrSexp, Long, Mark, Mark', Number, Number', Operator, Passes, Place, Quiet, Reading, Reason, Rest, Setting, Short, Spot, Stage, Symbols, TokenKind, Value, Word, begun_at, ended, goes, held_payload, id_of, is_digit, is_top, item_place, lexeme_at, named, number_in, number_read, number_said, on_after, on_comma, on_ready, paid, past_blank, past_token, pending_at, place, place_in, released, resting, said, settle, spelled, spot_at, spot_in, token_of, turn, turn_now, under, with_scan, word_said}
use Rattle.ion_text.proofs.Passing.{NoticesNothing, passes_given, passes_left}

pub begun_inner : (start begin : ℕ) (fs : List Frame) (ss : Symbols) → is_top fs ≡ false → begun_at start begin fs ss ≡ start
begun_inner start begin [] ss h = absurd cc
begun_inner start begin (f ∷ fs) ss h = refl

module _ (g : Catalog) (l : Limits) where
  -- where a value may come in an open container, a token does what it does within the open item
  pub ready_turns : (r : Reading) (x : Lexeme) (c : Content) → r.now ≡ Stage.Ready → is_top r.frames ≡ false → turn g l r (token_of x c)
      ≡ on_ready (under g l) (spot_in r x.end) r.frames r.notes c
  ready_turns r x c now inner =
      ap (turn_now (under g l) r (token_of x c)) now
      ∙ ap (λ s. on_ready (under g l) (spot_at x.end s r.context) r.frames r.notes c) (begun_inner r.start x.start r.frames r.notes inner)

  pub after_turns : (r : Reading) (x : Lexeme) (c : Content) → r.now ≡ Stage.After → turn g l r (token_of x c)
      ≡ on_after (under g l) (spot_in r x.end) r.frames c
  after_turns r x c now = ap (turn_now (under g l) r (token_of x c)) now

-- behind a token a container is still open, in the same item, and nothing waits
abbrev pub StaysIn : ℕ → Reading → Type 0
StaysIn start q = (is_top q.frames ≡ false) × (q.start ≡ start) × IsStill q.now

-- what holds of where one turn goes on holds of where an equal turn does
pub went : (P : Reading → Type 0) (a b : Reading) → goes a ≡ goes b → P a → P b
went P a b e h = let same : a ≡ b = cc in subst P same h

module _ (setting : Setting) (spot : Spot) (q : Reading) where
  -- a value that ends in an open container leaves it open, in the same item, with nothing waiting
  pub ended_stays : (fs : List Frame) (v : Value) → is_top fs ≡ false → ended setting spot fs v ≡ goes q → StaysIn spot.start q
  ended_stays [] v h e = absurd cc
  ended_stays (Frame.Items ListOrSexp.List ss vs ∷ fs) v h e = went (StaysIn spot.start) _ q e (refl, refl, tt)
  ended_stays (Frame.Items ListOrSexp.Sexp ss vs ∷ fs) v h e = went (StaysIn spot.start) _ q e (refl, refl, tt)
  ended_stays (Frame.Named ss ms name ∷ fs) v h e = went (StaysIn spot.start) _ q e (refl, refl, tt)
  ended_stays (Frame.Fields ss ms ∷ fs) v h e = absurd cc

  pub comma_stays : (fs : List Frame) → on_comma spot.start spot.context fs ≡ goes q → StaysIn spot.start q
  comma_stays (Frame.Items ListOrSexp.List ss vs ∷ fs) e = went (StaysIn spot.start) _ q e (refl, refl, tt)
  comma_stays (Frame.Fields ss ms ∷ fs) e = went (StaysIn spot.start) _ q e (refl, refl, tt)
  comma_stays _ e = absurd cc

-- a token of the machine, where it is found
module _ (g : Catalog) (l : Limits) (r : Reading) (still : settle g l r ≡ goes r) (rest : Rest) (octets : List ℕ) (kind : TokenKind) (kept : List ℕ) (n : ℕ)
    (c : Content) (q : Reading)
    (says : said kind kept ≡ Ok c) (turns : turn g l r (token_of (lexeme_at rest kind kept n) c) ≡ goes q) where
  -- a token found there, whose end the octet behind it shows, leads the run behind it
  pub left_found : IsFound (place r) rest octets kind kept n true → Quiet g l r (place r) (resting rest) (take n octets)
      → Passes g l (with_scan (resting rest) r) octets n (with_scan (resting (past_token (place r) rest kind n)) q)
  left_found f quiet =
      let shown = f.shown in
      passes_left g l r still (resting rest) f.known (resting (past_token (place r) rest kind n)) octets n (lexeme_at rest kind kept n) c q shown quiet f.ran
      says turns refl refl f.ends

  -- a token found there, whose last octet shows its end, leads the run behind it if nothing is refused then
  pub given_found : IsFound (place r) rest octets kind kept n false → Quiet g l r (place r) (resting rest) (take (n - 1) octets) → (most : ℕ)
      → NoticesNothing l q most → rest.used + length octets ≤ most
      → Passes g l (with_scan (resting rest) r) octets n (with_scan (resting (past_token (place r) rest kind n)) q)
  given_found f quiet most notices room =
      let some = f.some in
      let shown = f.shown in
      let last : n - 1 + 1 ≡ n = omega arith in
      let used : rest.used + n ≡ rest.used + (n - 1) + 1 = omega arith in
      subst (λ k. Passes g l (with_scan (resting rest) r) octets k (with_scan (resting (past_token (place r) rest kind n)) q)) last
      (passes_given g l r still (resting rest) f.known (resting (past_token (place r) rest kind n)) octets (n - 1) (lexeme_at rest kind kept n) c q shown quiet
      f.ran says turns refl used most notices (omega arith) f.ends)

  -- a token found there leads the run behind it, if nothing is refused on the way, nor then
  pub found_passes : (left : Bool) → IsFound (place r) rest octets kind kept n left
      → ((k : ℕ) → k ≤ n → Quiet g l r (place r) (resting rest) (take k octets)) → (most : ℕ) → NoticesNothing l q most → rest.used + length octets ≤ most
      → Passes g l (with_scan (resting rest) r) octets n (with_scan (resting (past_token (place r) rest kind n)) q)
  found_passes true f quiet most notices room = left_found f (quiet n (omega arith))
  found_passes false f quiet most notices room = given_found f (quiet (n - 1) (omega arith)) most notices room

-- a token of a mark says this mark
pub mark_says : (m : Mark) → said (TokenKind.Mark m) [] ≡ Ok (Mark' m)
unfolding said
mark_says m = refl

-- a token of a number says the number that its octets are read as
pub number_says : (octets : List ℕ) (n : Number) → Ok n ≡ number_read octets → said TokenKind.Number octets ≡ Ok (Number' n)
unfolding said
number_says octets n e = ap number_said (sym e)

-- what octets spell is said where they are UTF-8
pub spelled_utf8 : (c : Content) (octets : List ℕ) → IsUtf8 octets → spelled c octets ≡ Ok c
spelled_utf8 c octets h = ap (λ b. if b then Ok c else Err Reason.BadUtf8) (is_utf8-from_IsUtf8 octets h)

-- the token of a short string in UTF-8 says its octets
pub short_says : (octets : List ℕ) → IsUtf8 octets → said TokenKind.ShortString octets ≡ Ok (Short octets)
unfolding said
short_says octets h = spelled_utf8 (Short octets) octets h

-- the token of an operator in UTF-8 says its octets
pub operator_says : (octets : List ℕ) → IsUtf8 octets → said TokenKind.Operator octets ≡ Ok (Operator octets)
unfolding said
operator_says octets h = spelled_utf8 (Operator octets) octets h

-- the token of a segment of a long string in UTF-8 says its octets
pub long_says : (octets : List ℕ) → IsUtf8 octets → said TokenKind.LongString octets ≡ Ok (Long octets)
unfolding said
long_says octets h = spelled_utf8 (Long octets) octets h

no_id : (octets : List ℕ) → get_or octets 0 0 ≢ 36 → id_of octets ≡ None
no_id [] h = refl
no_id (o ∷ os) h = ap (λ b. if b && nat_lt 0 (length os) && list_all is_digit os then Some (min (number_in 0 os) (2 ^ 64 - 1)) else None) (differs o h)
  where
    differs : (o : ℕ) → o ≢ 36 → (o == 36) ≡ false
    differs o h = grind (arith, nat_tests)

-- the token of a word that doesn't begin with `$` says its octets
pub word_says : (octets : List ℕ) → IsUtf8 octets → get_or octets 0 0 ≢ 36 → said TokenKind.Word octets ≡ Ok (Word octets)
unfolding said
word_says octets h first = ap (word_said octets) (no_id octets first) ∙ spelled_utf8 (Word octets) octets h

-- some octets and their front, at least one octet long, begin with the same octet
pub first_of : (n : ℕ) (w : List ℕ) → 0 < n → get_or (take n w) 0 0 ≡ get_or w 0 0
first_of n w h = grind (arith, common_steps)

-- behind a blank of so many octets the scanner has used so many more
pub blank_used : (r : Rest) (n : ℕ) → (past_blank r n).used ≡ r.used + n
blank_used r n = by (n == 0) refl
  where
    by : (b : Bool) → (n == 0) ≡ b → (if b then r else record { start = r.used + (n - 1); used = r.used + n; colon = r.colon }).used ≡ r.used + n
    by true e = let z : n ≡ 0 = is_zero n e in omega arith
      where
        is_zero : (n : ℕ) → (n == 0) ≡ true → n ≡ 0
        is_zero n e = grind (arith, nat_tests)
    by false e = refl

-- a blank doesn't change whether a colon may stand behind the token before it
pub blank_colon : (r : Rest) (n : ℕ) → (past_blank r n).colon ≡ r.colon
blank_colon r n = by (n == 0)
  where
    by : (b : Bool) → (if b then r else record { start = r.used + (n - 1); used = r.used + n; colon = r.colon }).colon ≡ r.colon
    by true = refl
    by false = refl

-- where a value or a name stands

module _ (setting : Setting) (spot : Spot) (q : Reading) where
  -- behind a value of an open container the place is the one where the value stood
  pub ended_place : (fs : List Frame) (v : Value) → is_top fs ≡ false → ended setting spot fs v ≡ goes q → place q ≡ place_in fs Stage.Ready
  ended_place (Frame.Items listing ss vs ∷ fs) v h e = went (λ x. place x ≡ item_place listing) _ q e refl
  ended_place (Frame.Named ss ms name ∷ fs) v h e = went (λ x. place x ≡ Place.FieldValue) _ q e refl
  ended_place _ v h e = absurd cc

  -- behind a field's name and its colon the struct is open, in the same item, with nothing waiting
  pub named_stays : (fs : List Frame) (s : Option (List ℕ)) → named spot.start spot.context fs s ≡ goes q → StaysIn spot.start q
  named_stays (Frame.Fields ss ms ∷ fs) s e = went (StaysIn spot.start) _ q e (refl, refl, tt)
  named_stays _ s e = absurd cc

-- in an open container what was held is taken for a value, even a word of a version marker's form
pub released_inner : (setting : Setting) (spot : Spot) (fs : List Frame) (ss : Symbols) (h : Held) → is_top fs ≡ false → released setting spot fs ss h
    ≡ paid setting spot fs ss (held_payload h)
released_inner setting spot [] ss h e = absurd cc
released_inner setting spot (f ∷ fs) ss h e = refl

-- what waits for `::` stands in the place where a value may come
pub same_place_in : (fs : List Frame) (n m : Stage) → (n ≡ Stage.Ready) → (h : Held) (e : ℕ) → m ≡ Stage.Pending h e → place_in fs m ≡ place_in fs Stage.Ready
same_place_in fs n m a h e i = ap (place_in fs) i ∙ pending_at fs h e

-- where a colon is to come behind a field's name, the place is that of the name
pub name_place : (fs : List Frame) (s : Option (List ℕ)) → place_in fs (Stage.Keyed s) ≡ place_in fs Stage.Name
name_place [] s = refl
name_place (Frame.Items listing ss vs ∷ fs) s = refl
name_place (Frame.Named ss ms name ∷ fs) s = refl
name_place (Frame.Fields ss ms ∷ fs) s = refl

-- the first octet behind so many others is the one at that number
pub at_drop : (k : ℕ) (w : List ℕ) → get_or (drop k w) 0 0 ≡ get_or w k 0
at_drop (suc k) (x ∷ w) = at_drop k w
at_drop _ _ = refl
