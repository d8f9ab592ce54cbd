-- Values that may yet be annotations, names of fields, and other values, each found whole where a container is open.
use Rattle.std.proofs.Common.{◌≡◌, ◌≢◌, ℕ, ◌+◌, ◌-◌, ◌<◌, ◌≤◌, Bool, true, false, List, [], ◌∷◌, ◌++◌, length, take, drop, get_or, Option, Some, None, Result, Ok, Err, refl, ap, sym, ◌∙◌, subst, arith, length-drop, cond}
use Rattle.std.specs.Prelude.{◌==◌, ◌&&◌, if◌then◌else◌, IsUtf8}
use Rattle.std.proofs.lemmas.Bool.Decides.{nat_tests}
use Rattle.std.proofs.lemmas.Grind.{common_steps}
use Rattle.std.proofs.lemmas.List.{length-take-le}
use Rattle.ion_text.specs.Names.{Action, BeginsName, BeginsValue, Blob, Catalog, Clob, Content, FoundToken, Frame, Held, IsBody, IsCalm, IsFound, IsPassed, IsStill, Known, Limits, Long, Mark, Mark', Names, Next, Number', Operator, Outcome, Passes, Payload, Pays, Place, Quiet, Quoted, Reading, Reason, Rest, RestsBehind, SaysNumber, Setting, Short, Slot, Spot, Stage, Symbols, TokenKind, TypedNull, Word, acts, annotated, at, begins_value, begins_word, ended, ends_symbol, feed, follow, goes, held_of, held_payload, held_symbol, held_word, in_blank, is_digit, is_idle, is_keyword, is_name, is_operator_octet, is_sexp, is_top, is_white, keyed, late, lexeme_at, long_waits, named, noted, on_name, on_ready, paid, past_blank, past_token, place, place_in, resting, said, says, settle, spot_in, symbol_waits, takes_colon, token_at, token_of, turn, turn_now, under, with_scan}
use Rattle.ion_model.specs.declared.value.Payload.TheVariants as payloads
use Rattle.ion_tokens.specs.machine.Scanning as scanning
use Rattle.ion_tokens.proofs.runs.Runs.{next_used}
use Rattle.ion_tokens.proofs.runs.WholeTokens.{colon_found, colons_found}
use Rattle.ion_text.proofs.TokenSteps.{StaysIn, at_drop, blank_colon, blank_used, ended_place, ended_stays, first_of, found_passes, left_found, mark_says, name_place, ready_turns, released_inner, same_place_in, short_says, spelled_utf8, word_says}
use Rattle.ion_text.proofs.Passing.{NoticesNothing, blank_quiet, calm_quiet, inner_notices, passes_blank, passes_colons, passes_on, passes_settled, passes_waiting}
use Rattle.ion_text.proofs.Striding.{still_settles}

-- What the tokens do.

some_is : {A : Type 0} (a b : A) → Path (Option A) (Some a) (Some b) → a ≡ b
some_is a b e = cc

ok_is : (a b : Content) → Path (Result Content Reason) (Ok a) (Ok b) → a ≡ b
ok_is a b e = cc

-- what may be an annotation waits for `::` where a value may come
pub waits_so : (setting : Setting) (spot : Spot) (fs : List Frame) (ss : Symbols) (c : Content) (h : Held) → held_of c ≡ Some h → on_ready setting spot fs ss c
    ≡ goes (at spot.start spot.context fs ss (Stage.Pending h spot.end))
waits_so setting spot fs ss c h e = go c e
  where
    held : (a : Held) → Some a ≡ Some h → goes (at spot.start spot.context fs ss (Stage.Pending a spot.end))
        ≡ goes (at spot.start spot.context fs ss (Stage.Pending h spot.end))
    held a e = ap (λ x. goes (at spot.start spot.context fs ss (Stage.Pending x spot.end))) (some_is a h e)

    go : (c : Content) → held_of c ≡ Some h → on_ready setting spot fs ss c ≡ goes (at spot.start spot.context fs ss (Stage.Pending h spot.end))
    go (Word w) e = held _ e
    go (Quoted w) e = held _ e
    go (TypedNull k) e = held _ e
    go _ e = absurd cc

-- what is said is a field's name
pub names_so : (setting : Setting) (spot : Spot) (fs : List Frame) (c : Content) (s : Option (List ℕ)) → Names c s → on_name setting spot fs c
    ≡ goes (keyed spot.start spot.context fs s)
names_so setting spot fs c s e = go c e
  where
    name : (w : List ℕ) → s ≡ Some w → goes (keyed spot.start spot.context fs (Some w)) ≡ goes (keyed spot.start spot.context fs s)
    name w e = ap (λ x. goes (keyed spot.start spot.context fs x)) (sym e)

    go : (c : Content) → Names c s → on_name setting spot fs c ≡ goes (keyed spot.start spot.context fs s)
    go (Word w) e = ap (λ b. if b then late Reason.KeywordAsName (keyed spot.start spot.context fs (Some w)) else goes
        (keyed spot.start spot.context fs (Some w))) e.1 ∙ name w e.0
    go (Quoted w) e = name w e
    go (Short w) e = name w e
    go _ e = absurd e

-- a colon may stand behind it
pub name_colon : (p : Place) (k : TokenKind) (kept : List ℕ) (c : Content) (s : Option (List ℕ)) → said k kept ≡ Ok c → Names c s → is_name p ≡ true
    → takes_colon p k ≡ true
name_colon p k kept c s e n h = go k (subst (λ x. IsBody k kept x) e (says k kept))
  where
    other : (d : Content) → c ≡ d → Names d s
    other d f = subst (λ x. Names x s) f n

    number : (c : Content) → SaysNumber kept c → Names c s → ⊥
    number (Number' m) f n = n
    number _ f n = f

    go : (k : TokenKind) → IsBody k kept (Ok c) → takes_colon p k ≡ true
    go TokenKind.ShortString f = h
    go TokenKind.LongString f = h
    go TokenKind.Number f = absurd (number c f n)
    go TokenKind.Operator f = absurd (other (Operator kept) f.0)
    go TokenKind.Clob f = absurd (other (Clob kept) (ok_is c (Clob kept) f))
    go TokenKind.Blob f = absurd (other (Blob kept) (ok_is c (Blob kept) f))
    go (TokenKind.Mark m) f = absurd (other (Mark' m) (ok_is c (Mark' m) f))
    go _ f = refl

pub symbol_colon : (p : Place) (k : TokenKind) (kept : List ℕ) (c : Content) (h : Held) → said k kept ≡ Ok c → held_of c ≡ Some h → takes_colon p k ≡ true
symbol_colon p k kept c h e is = go k (subst (λ x. IsBody k kept x) e (says k kept))
  where
    other : (d : Content) → c ≡ d → held_of d ≡ None → ⊥
    other d f none = let n : Some h ≡ None = sym is ∙ (ap held_of f ∙ none) in absurd cc

    number : (c : Content) → SaysNumber kept c → held_of c ≡ Some h → ⊥
    number (Number' m) f n = absurd cc
    number _ f n = f

    go : (k : TokenKind) → IsBody k kept (Ok c) → takes_colon p k ≡ true
    go TokenKind.ShortString f = absurd (other (Short kept) f.0 refl)
    go TokenKind.LongString f = absurd (other (Long kept) f.0 refl)
    go TokenKind.Number f = absurd (number c f is)
    go TokenKind.Operator f = absurd (other (Operator kept) f.0 refl)
    go TokenKind.Clob f = absurd (other (Clob kept) (ok_is c (Clob kept) f) refl)
    go TokenKind.Blob f = absurd (other (Blob kept) (ok_is c (Blob kept) f) refl)
    go (TokenKind.Mark m) f = absurd (other (Mark' m) (ok_is c (Mark' m) f) refl)
    go _ f = refl

-- The octet that shows that neither `::` nor another segment of a long string follows, this unless it is a quote.

pub record ShowsEnd (top : Bool) (p : Place) (r : Rest) (o : ℕ) (a : Action) : Type 0 where
  pub symbol : symbol_waits (acts p (resting r) o a) ≡ false
  pub long : (o == 39) ≡ false → long_waits top (acts p (resting r) o a) ≡ false

module _ {top : Bool} {p : Place} {r : Rest} {o : ℕ} where
  yes : {a : Action} → symbol_waits (acts p (resting r) o a) ≡ false → long_waits top (acts p (resting r) o a) ≡ false → ShowsEnd top p r o a
  yes h k = record { symbol = h; long = λ e. k }

  both : {x y : Action} (b : Bool) → ShowsEnd top p r o x → ShowsEnd top p r o y → ShowsEnd top p r o (cond b x y)
  both true h k = h
  both false h k = k

  skip : {y : Action} (x : Action) (b : Bool) → b ≡ false → ShowsEnd top p r o y → ShowsEnd top p r o (cond b x y)
  skip x true e h = absurd cc
  skip x false e h = h

  quote : {y : Action} (x : Action) (b : Bool) → (o == 39) ≡ b → symbol_waits (acts p (resting r) o x) ≡ false → ShowsEnd top p r o y → ShowsEnd top p r o (cond b x y)
  quote x true e s h = record { symbol = s; long = λ f. absurd cc }
  quote x false e s h = h

value_shows : (top : Bool) (p : Place) (r : Rest) (o : ℕ) → ShowsEnd top p r o (begins_value p o)
value_shows top p r o =
    both (is_digit o) (yes refl refl)
    (both (o == 123) (yes refl refl)
    (both (o == 91) (yes refl refl)
    (both (o == 93) (yes refl refl)
    (both (o == 40) (yes refl refl)
    (both (o == 41) (yes refl refl)
    (both (o == 45) (yes refl refl)
    (both (o == 43) (yes refl refl)
    (both (is_sexp p && is_operator_octet o) (yes refl refl) (yes refl refl)))))))))

no_white : (o : ℕ) → ends_symbol o ≡ true → is_white o ≡ false
no_white o h = grind (arith, nat_tests)

no_slash : (o : ℕ) → ends_symbol o ≡ true → (o == 47) ≡ false
no_slash o h = grind (arith, nat_tests)

no_colon : (o : ℕ) → ends_symbol o ≡ true → (o == 58) ≡ false
no_colon o h = grind (arith, nat_tests)

pub ends_shows : (top : Bool) (p : Place) (r : Rest) (o : ℕ) → ends_symbol o ≡ true → ShowsEnd top p r o (in_blank p r.colon o)
ends_shows top p r o h =
    skip _ (is_white o) (no_white o h)
    (both (begins_word o) (yes refl refl)
    (skip _ (o == 47) (no_slash o h)
    (both (o == 34) (yes refl refl)
    (quote _ (o == 39) refl refl
    (both (o == 44) (yes refl refl)
    (both (o == 125) (yes refl refl)
    (skip _ (o == 58) (no_colon o h)
    (both (is_name p) (yes refl refl) (value_shows top p r o)))))))))

-- no `::` follows before an octet that shows so
pub ends_waits : (p : Place) (r : Rest) (o : ℕ) → ends_symbol o ≡ true → symbol_waits (feed p (resting r) o) ≡ false
ends_waits p r o h = (ends_shows false p r o h).symbol

next_at : (k : ℕ) (w : List ℕ) → get_or (drop k w) 1 0 ≡ get_or w (k + 1) 0
next_at k w = grind (arith, common_steps)

-- Behind one colon no token has begun that surely is one.
colon_idle : (p : Place) (b : Rest) (octets : List ℕ) → b.colon ≡ true → get_or octets 0 0 ≡ 58 → (k : Known) → scanning.run p (take 1 octets) (resting b)
    ≡ Next k → is_idle k.mode ≡ true
colon_idle p b octets may colon k e = ap idle_in (sym e) ∙ by octets colon
  where
    idle_in : Outcome → Bool
    idle_in (Next k) = is_idle k.mode
    idle_in _ = true

    by : (os : List ℕ) → get_or os 0 0 ≡ 58 → idle_in (scanning.run p (take 1 os) (resting b)) ≡ true
    by [] h = refl
    by (o ∷ os) h =
        ap (λ x. idle_in (follow (acts p (resting b) x (in_blank p b.colon x)) (λ s. Next s))) h
        ∙ ap (λ c. idle_in (follow (acts p (resting b) 58 (in_blank p c 58)) (λ s. Next s))) may

-- An annotation, wherever it may come, with the blank and `::` behind it.
module _ (g : Catalog) (l : Limits) (r : Reading) (start : ℕ) (now : r.now ≡ Stage.Ready) (still : settle g l r ≡ goes r) (rest : Rest) (octets : List ℕ)
    (kind : TokenKind) (kept : List ℕ) (n m : ℕ) (left : Bool) (c : Content) (held : Held) (s : Option (List ℕ))
    (found : IsFound (place r) rest octets kind kept n left) (says : said kind kept ≡ Ok c) (may : takes_colon (place r) kind ≡ true)
    (symbol : held_symbol held ≡ Ok s)
    (passed : IsPassed (drop n octets) m)
    (within : n + m + 2 < length octets) (one : get_or octets (n + m) 0 ≡ 58) (two : get_or octets (n + m + 1) 0 ≡ 58) where
  abbrev pub held_back : Reading
  held_back = at start r.context r.frames r.notes (Stage.Pending held (rest.used + n))

  abbrev pub with_note : Reading
  with_note = at start r.context r.frames (r.notes ++ s ∷ []) Stage.Ready

  abbrev past_symbol : Rest
  past_symbol = past_token (place r) rest kind n

  abbrev past_between : Rest
  past_between = past_blank past_symbol m

  abbrev past_colons : Rest
  past_colons = past_token (place r) past_between (TokenKind.Mark Mark.Colons) 2

  module _ (quiet : (k : ℕ) → k ≤ n → Quiet g l r (place r) (resting rest) (take k octets))
      (turns : turn g l r (token_of (lexeme_at rest kind kept n) c) ≡ goes held_back)
      (waits : NoticesNothing l held_back (rest.used + length octets)) (notes : NoticesNothing l with_note (rest.used + length octets)) where
    behind_size : length (drop n octets) ≡ length octets - n
    behind_size = length-drop n octets

    colons_size : length (drop (n + m) octets) ≡ length octets - (n + m)
    colons_size = length-drop (n + m) octets

    note_is : Passes g l (with_scan (resting rest) r) octets n (with_scan (resting past_symbol) held_back)
    note_is =
        found_passes g l r still rest octets kind kept n c held_back says turns left found quiet (rest.used + length octets) waits (omega arith)

    between_is : Passes g l (with_scan (resting past_symbol) held_back) (drop n octets) m (with_scan (resting past_between) held_back)
    between_is =
        let some = behind_size in
        passes_waiting g l held_back (rest.used + length octets) waits (resting past_symbol) (resting past_between) (drop n octets) m (omega arith) refl refl
        (passed (place held_back) past_symbol) (omega arith) held (rest.used + n) refl

    may_colons : past_between.colon ≡ true
    may_colons = blank_colon past_symbol m ∙ may

    colons : IsFound (place held_back) past_between (drop (n + m) octets) (TokenKind.Mark Mark.Colons) [] 2 false
    colons = let some = colons_size in colons_found (place held_back) past_between (drop (n + m) octets) may_colons (omega arith) (at_drop (n + m) octets ∙ one)
        (next_at (n + m) octets ∙ two)

    first_is : Passes g l (with_scan (resting past_between) held_back) (drop (n + m) octets) 1 (with_scan colons.known held_back)
    first_is =
        let some = colons_size in
        let used = blank_used past_symbol m in
        passes_waiting g l held_back (rest.used + length octets) waits (resting past_between) colons.known (drop (n + m) octets) 1 (omega arith) refl
        (colon_idle (place held_back) past_between (drop (n + m) octets) may_colons (at_drop (n + m) octets ∙ one) colons.known colons.ran) colons.ran
        (omega arith) held (rest.used + n) refl

    second_is : Passes g l (with_scan colons.known held_back) (drop 1 (drop (n + m) octets)) 1 (with_scan (resting past_colons) with_note)
    second_is =
        let some = colons_size in
        let used = blank_used past_symbol m in
        let rest_of = length-drop 1 (drop (n + m) octets) in
        let few = length-take-le 1 (drop (n + m) octets) (omega arith) in
        let counted = next_used (place held_back) (take 1 (drop (n + m) octets)) (resting past_between) colons.known (sym colons.ran) in
        passes_colons g l held_back held (rest.used + n) refl colons.known (resting past_colons) (drop 1 (drop (n + m) octets))
        (lexeme_at past_between (TokenKind.Mark Mark.Colons) [] 2) (Mark' Mark.Colons) with_note (omega arith)
        (ap (feed (place held_back) colons.known) (at_drop 1 (drop (n + m) octets)) ∙ colons.ends) refl (mark_says Mark.Colons)
        (ap (noted start r.context r.frames r.notes) symbol) refl (omega arith) (rest.used + length octets) notes (omega arith)

    -- a symbol, a blank and `::` lead a run to a state that has the annotation
    pub noted_passes : Passes g l (with_scan (resting rest) r) octets (n + m + 2) (with_scan (resting past_colons) with_note)
    noted_passes =
        passes_on g l (with_scan (resting rest) r) (with_scan (resting past_between) held_back) (with_scan (resting past_colons) with_note) octets (n + m) 2
        (passes_on g l (with_scan (resting rest) r) (with_scan (resting past_symbol) held_back) (with_scan (resting past_between) held_back) octets n m note_is
        between_is)
        (passes_on g l (with_scan (resting past_between) held_back) (with_scan colons.known held_back) (with_scan (resting past_colons) with_note)
        (drop (n + m) octets) 1 1 first_is second_is)

-- The machine over such a token, the blank behind it, and what follows.

named_place : (start : ℕ) (c : List Slot) (q : Reading) (fs : List Frame) (s : Option (List ℕ)) → named start c fs s ≡ goes q → is_name (place_in fs Stage.Name)
    ≡ true
named_place start c q (Frame.Fields ss ms ∷ fs) s e = refl
named_place start c q _ s e = absurd cc

module _ (g : Catalog) (l : Limits) (r : Reading) (inner : is_top r.frames ≡ false) (rest : Rest) (octets : List ℕ) (kind : TokenKind) (kept : List ℕ) (n m : ℕ)
    (left : Bool) (c : Content) (room : rest.used + length octets ≤ l.item + r.start) (within : n + m < length octets)
    (found : IsFound (place r) rest octets kind kept n left) (says : said kind kept ≡ Ok c) (calm : IsCalm r.now)
    (still : IsStill r.now) where
  abbrev behind_token : Rest
  behind_token = past_token (place r) rest kind n

  abbrev behind_blank : Rest
  behind_blank = past_blank behind_token m

  size : length (drop n octets) ≡ length octets - n
  size = length-drop n octets

  quiet : (k : ℕ) → k ≤ n → Quiet g l r (place r) (resting rest) (take k octets)
  quiet k few = calm_quiet g l r inner calm (resting rest) refl octets k (omega arith) (omega arith)

  token_passes : (q : Reading) → turn g l r (token_of (lexeme_at rest kind kept n) c) ≡ goes q → is_top q.frames ≡ false → q.start ≡ r.start
      → Passes g l (with_scan (resting rest) r) octets n (with_scan (resting behind_token) q)
  token_passes q turns inside same =
      found_passes g l r (still_settles g l r still) rest octets kind kept n c q says turns left found quiet (l.item + q.start) (inner_notices l q inside)
      (omega arith)

  -- where a value or an annotation may come
  module _ (now : r.now ≡ Stage.Ready) (held : Held) (may : takes_colon (place r) kind ≡ true)
      (waits : on_ready (under g l) (spot_in r (rest.used + n)) r.frames r.notes c
      ≡ goes (at r.start r.context r.frames r.notes (Stage.Pending held (rest.used + n)))) where
    abbrev waiting : Reading
    waiting = at r.start r.context r.frames r.notes (Stage.Pending held (rest.used + n))

    waits_there : place waiting ≡ place r
    waits_there = same_place_in r.frames Stage.Ready waiting.now refl held (rest.used + n) refl ∙ ap (place_in r.frames) (sym now)

    is_token : Passes g l (with_scan (resting rest) r) octets n (with_scan (resting behind_token) waiting)
    is_token =
        token_passes waiting (ready_turns g l r (lexeme_at rest kind kept n) c now inner ∙ waits) inner refl

    -- it is a value, and a blank follows, maybe with comments in it
    module _ (after : Rest) (rests : RestsBehind (drop n octets) m behind_token after) (q : Reading) (payload : Payload) (pays : held_payload held ≡ Ok payload)
        (does : ended (under g l) (spot_in r (rest.used + n)) r.frames (annotated r.notes payload) ≡ goes q)
        (ends : ends_symbol (get_or octets (n + m) 0) ≡ true) where
      is_blank : Passes g l (with_scan (resting behind_token) waiting) (drop n octets) m (with_scan (resting after) waiting)
      is_blank =
          let some = size in
          passes_waiting g l waiting (l.item + r.start) (inner_notices l waiting inner) (resting behind_token) (resting after) (drop n octets) m
          (omega arith) refl refl (rests.ran (place waiting)) (omega arith) held (rest.used + n) refl

      is_waiting : Passes g l (with_scan (resting rest) r) octets (n + m) (with_scan (resting after) waiting)
      is_waiting = passes_on g l (with_scan (resting rest) r) (with_scan (resting behind_token) waiting) (with_scan (resting after) waiting) octets n m
          is_token is_blank

      stays : StaysIn r.start q
      stays = ended_stays (under g l) (spot_in r (rest.used + n)) q r.frames (annotated r.notes payload) inner does

      settles : settle g l waiting ≡ goes q
      settles = released_inner (under g l) (spot_in r (rest.used + n)) r.frames r.notes held inner
          ∙ (ap (paid (under g l) (spot_in r (rest.used + n)) r.frames r.notes) pays ∙ does)

      is_settled : Passes g l (with_scan (resting after) waiting) (drop (n + m) octets) 0 (with_scan (resting after) q)
      is_settled =
          let some : length (drop (n + m) octets) ≡ length octets - (n + m) = length-drop (n + m) octets in
          passes_settled g l waiting (resting after) held (rest.used + n) (drop (n + m) octets) q (omega arith) refl
          (ends_waits (place waiting) after (get_or (drop (n + m) octets) 0 0) (ap ends_symbol (at_drop (n + m) octets) ∙ ends)) settles
          (still_settles g l q stays.2)
          (ended_place (under g l) (spot_in r (rest.used + n)) q r.frames (annotated r.notes payload) inner does
          ∙ (ap (place_in r.frames) (sym now) ∙ sym waits_there))

      -- a symbol and the blank behind it lead a run behind its value, if the next octet shows no `::`
      pub symbol_passes : Passes g l (with_scan (resting rest) r) octets (n + m) (with_scan (resting after) q)
      symbol_passes =
          let none : n + m + 0 ≡ n + m = omega arith in
          subst (λ k. Passes g l (with_scan (resting rest) r) octets k (with_scan (resting after) q)) none
          (passes_on g l (with_scan (resting rest) r) (with_scan (resting after) waiting) (with_scan (resting after) q) octets (n + m) 0
          is_waiting is_settled)

    -- it is an annotation, and `::` follows
    module _ (s : Option (List ℕ)) (symbol : held_symbol held ≡ Ok s) (passed : IsPassed (drop n octets) m) (more : n + m + 2 < length octets)
        (one : get_or octets (n + m) 0 ≡ 58)
        (two : get_or octets (n + m + 1) 0 ≡ 58) where
      abbrev noting : Reading
      noting = at r.start r.context r.frames (r.notes ++ s ∷ []) Stage.Ready

      -- an annotation in a container, a blank and `::` lead the run behind them
      pub note_passes : Passes g l (with_scan (resting rest) r) octets (n + m + 2)
          (with_scan (resting (past_token (place r) behind_blank (TokenKind.Mark Mark.Colons) 2)) noting)
      note_passes =
          noted_passes g l r r.start now (still_settles g l r still) rest octets kind kept n m left c held s found says may symbol passed more one two quiet
          (ready_turns g l r (lexeme_at rest kind kept n) c now inner ∙ waits)
          (λ k idle few. inner_notices l waiting inner k idle (omega arith)) (λ k idle few. inner_notices l noting inner k idle (omega arith))

  -- where a field's name may come, and its colon
  module _ (now : r.now ≡ Stage.Name) (q : Reading) (passed : IsPassed (drop n octets) m) (more : n + m + 1 < length octets) (name : Option (List ℕ))
      (may : is_name (place r) ≡ true → takes_colon (place r) kind ≡ true)
      (names : on_name (under g l) (spot_in r (rest.used + n)) r.frames c ≡ goes (keyed r.start r.context r.frames name))
      (colon : get_or octets (n + m) 0 ≡ 58) (one : get_or octets (n + m + 1) 0 ≢ 58) (does : named r.start r.context r.frames name ≡ goes q) where
    abbrev with_name : Reading
    with_name = keyed r.start r.context r.frames name

    abbrev behind_colon : Rest
    behind_colon = past_token (place r) behind_blank (TokenKind.Mark Mark.Colon) 1

    name_there : place with_name ≡ place r
    name_there = name_place r.frames name ∙ ap (place_in r.frames) (sym now)

    is_key : Passes g l (with_scan (resting rest) r) octets n (with_scan (resting behind_token) with_name)
    is_key =
        token_passes with_name
        (ap (turn_now (under g l) r (token_at rest.used (rest.used + n) c)) now ∙ names) inner refl

    is_key_blank : Passes g l (with_scan (resting behind_token) with_name) (drop n octets) m (with_scan (resting behind_blank) with_name)
    is_key_blank =
        let some = size in
        passes_blank g l with_name (l.item + r.start) (inner_notices l with_name inner) (resting behind_token) (resting behind_blank) (drop n octets) m
        (omega arith) refl refl (passed (place with_name) behind_token) (omega arith) refl

    may_colon : behind_blank.colon ≡ true
    may_colon = blank_colon behind_token m ∙ may
        (ap (λ x. is_name (place_in r.frames x)) now ∙ named_place r.start r.context q r.frames name does)

    is_colon : Passes g l (with_scan (resting behind_blank) with_name) (drop (n + m) octets) 1 (with_scan (resting behind_colon) q)
    is_colon =
        let some : length (drop (n + m) octets) ≡ length octets - (n + m) = length-drop (n + m) octets in
        let used = blank_used behind_token m in
        let f = colon_found (place with_name) behind_blank (drop (n + m) octets) may_colon (omega arith) (at_drop (n + m) octets ∙ colon)
        (λ e. one (sym (next_at (n + m) octets) ∙ e)) in
        subst (λ p. Passes g l (with_scan (resting behind_blank) with_name) (drop (n + m) octets) 1
        (with_scan (resting (past_token p behind_blank (TokenKind.Mark Mark.Colon) 1)) q)) name_there
        (left_found g l with_name refl behind_blank (drop (n + m) octets) (TokenKind.Mark Mark.Colon) [] 1 (Mark' Mark.Colon) q (mark_says Mark.Colon) does f
        (blank_quiet g l with_name (l.item + r.start) (inner_notices l with_name inner) (place with_name) (take 1 (drop (n + m) octets)) (resting behind_blank)
        f.known refl (colon_idle (place with_name) behind_blank (drop (n + m) octets) may_colon (at_drop (n + m) octets ∙ colon) f.known f.ran) f.ran
        (let few = length-take-le 1 (drop (n + m) octets) (omega arith) in omega arith)))

    -- a field's name, a blank and a colon lead a run to where the field's value may come
    pub name_passes : Passes g l (with_scan (resting rest) r) octets (n + m + 1) (with_scan (resting behind_colon) q)
    name_passes =
        passes_on g l (with_scan (resting rest) r) (with_scan (resting behind_blank) with_name) (with_scan (resting behind_colon) q) octets (n + m) 1
        (passes_on g l (with_scan (resting rest) r) (with_scan (resting behind_token) with_name) (with_scan (resting behind_blank) with_name) octets n m is_key
        is_key_blank) is_colon

-- Tokens that are found whole, and what they are.

-- the token of a quoted symbol in UTF-8 says its octets
pub quoted_says : (w : List ℕ) → IsUtf8 w → said TokenKind.QuotedSymbol w ≡ Ok (Quoted w)
unfolding said
quoted_says w h = spelled_utf8 (Quoted w) w h

module _ (p : Place) (r : Rest) (octets : List ℕ) (n : ℕ) where
  abbrev found_word : FoundToken
  found_word = record { kind = TokenKind.Word; count = n; left = true }

  abbrev found_quoted : FoundToken
  found_quoted = record { kind = TokenKind.QuotedSymbol; count = n; left = false }

  abbrev short_token : FoundToken
  short_token = record { kind = TokenKind.ShortString; count = n; left = false }

  -- a word found there that doesn't begin with `$` says its octets
  pub word_said : IsFound p r octets TokenKind.Word (take n octets) n true → IsUtf8 (take n octets) → get_or octets 0 0 ≢ 36 → said TokenKind.Word (take n octets)
      ≡ Ok (Word (take n octets))
  word_said found text first = let some = found.some in word_says (take n octets) text (λ e. first (sym (first_of n octets some) ∙ e))

  -- a word found there is the value that is held of it, unless `::` follows
  pub word_symbol : (payload : Payload) → IsFound p r octets TokenKind.Word (take n octets) n true → IsUtf8 (take n octets) → get_or octets 0 0 ≢ 36
      → held_payload (held_word (take n octets)) ≡ Ok payload → BeginsValue true p r octets found_word payload
  word_symbol payload found text first pays = record {
    kept = take n octets;
    content = Word (take n octets);
    found = found;
    says = word_said found text first;
    is = pays;
  }

  -- a word found there that is no keyword is the name of a field
  pub word_name : (name : Option (List ℕ)) → IsFound p r octets TokenKind.Word (take n octets) n true → IsUtf8 (take n octets) → get_or octets 0 0 ≢ 36
      → is_keyword (take n octets) ≡ false → name ≡ Some (take n octets) → BeginsName p r octets found_word name
  word_name name found text first free is = record {
    kept = take n octets;
    content = Word (take n octets);
    found = found;
    says = word_said found text first;
    names = (is, free);
  }

  module _ (w : List ℕ) (s : Option (List ℕ)) (text : IsUtf8 w) (is : s ≡ Some w) where
    -- a quoted symbol found there is the symbol of its text, unless `::` follows
    pub quoted_symbol : IsFound p r octets TokenKind.QuotedSymbol w n false → BeginsValue true p r octets found_quoted (payloads.Symbol s)
    quoted_symbol found = record {
      kept = w;
      content = Quoted w;
      found = found;
      says = quoted_says w text;
      is = ap (λ x. Ok (payloads.Symbol x)) (sym is);
    }

    -- a quoted symbol found there is the name of a field
    pub quoted_name : IsFound p r octets TokenKind.QuotedSymbol w n false → BeginsName p r octets found_quoted s
    quoted_name found = record { kept = w; content = Quoted w; found = found; says = quoted_says w text; names = is }

    -- a short string found there is the name of a field
    pub short_name : IsFound p r octets TokenKind.ShortString w n false → BeginsName p r octets short_token s
    short_name found = record { kept = w; content = Short w; found = found; says = short_says w text; names = is }

-- what is held of a symbol may be an annotation

in_symbol : Result Payload Reason → Result (Option (List ℕ)) Reason
in_symbol (Ok (payloads.Symbol x)) = Ok x
in_symbol _ = Err Reason.KeywordAsName

-- what is held and is a symbol as a value is the same symbol as an annotation
pub symbol_held : (h : Held) (s : Option (List ℕ)) → held_payload h ≡ Ok (payloads.Symbol s) → held_symbol h ≡ Ok s
unfolding in_symbol
symbol_held (Held.Symbol a) s e = ap in_symbol e
symbol_held (Held.Version ours a) s e = ap in_symbol e
symbol_held _ s e = absurd cc

-- where what is held is a value, something is held
pub held_in : (o : Option Held) (v : Payload) → Pays o v → (h : Held) × (o ≡ Some h) × (held_payload h ≡ Ok v)
held_in None v p = absurd p
held_in (Some h) v p = (h, refl, p)
