-- Items of the top level, and annotations, with the octets behind them.
use Rattle.std.proofs.Common.{◌≡◌, ℕ, ◌+◌, ◌-◌, ◌<◌, ◌≤◌, false, List, [], ◌∷◌, ◌++◌, length, take, drop, get_or, Option, None, Ok, refl, ap, sym, ◌∙◌, subst, arith, inl, inr}
use Rattle.std.specs.Prelude.{if◌then◌else◌}
use Rattle.std.proofs.lemmas.Grind.{common_steps}
use Rattle.std.proofs.lemmas.Bool.{cond-true, le-leb}
use Rattle.std.proofs.lemmas.List.{length-take-le, drop-take}
use Rattle.ion_text.specs.Names.{Bracket, Catalog, Content, FoundNote, FoundToken, Frame, Held, IsFound, IsPassed, Known, Limits, Mark', OpensAt, Passes, Place, Quiet, Reading, Reason, Rest, RestsBehind, Slot, Stage, State, Symbols, TokenKind, Value, at, base, begun_at, begun_in, behind_given, behind_note, drive, eats, ended, fails, feed, first_now, fresh, gives, go_on, goes, held_of, is_long_begun, is_table, led, lexeme_at, longest_top, next, on_said, on_scan, open_mark, opened, past_token, place, place_in, reaches, refuses, rested, resting, run, run_on, said, settle, spot_at, takes, tells, token_of, turn, turned, under, unsettled, uses, with_scan, within}
use Rattle.ion_tokens.proofs.runs.Runs.{next_used}
use Rattle.ion_text.proofs.TokenSteps.{found_passes, mark_says}
use Rattle.ion_text.proofs.Fronts.{quiet_within}
use Rattle.ion_text.proofs.Nested.{is_open_left, open_found}
use Rattle.ion_text.proofs.Passing.{NoticesNothing, inner_notices, next_octet, passes_blank, passes_led}
use Rattle.ion_text.proofs.Striding.{still_settles}
use Rattle.ion_text.proofs.Symbols.{held_in, note_passes, noted_passes, symbol_colon, symbol_held, waits_so}
use Rattle.ion_text.proofs.Walking.{open_goes}

-- behind octets that give nothing the next one gives a value
gives_next : (g : Catalog) (l : Limits) (m n p : State) (v : Value) (piece : List ℕ) (k : ℕ) → k < length piece → n.scan.used ≡ m.scan.used + k
    → Passes g l m piece k n → eats g l n (get_or piece k 0) ≡ tells v p
    → run g l m.scan.used m (take (k + 1) piece) ≡ record { given = (v, m.scan.used + (k + 1)) ∷ []; now = Ok p }
gives_next g l m n p v piece k within counted passes e =
    let total : n.scan.used + 1 ≡ m.scan.used + (k + 1) = omega arith in
    passes (take (k + 1) piece) (twice (k + 1))
    ∙ (ap (run g l n.scan.used n) (next_octet k (take (k + 1) piece) piece within (twice (k + 1)) ∙ ap (λ w. get_or piece k 0 ∷ w) (none (k + 1)))
    ∙ (ap (run_on n.scan.used (λ j. eats g l j (get_or piece k 0)) led) e
    ∙ ap (λ j. record { given = (v, j) ∷ []; now = Ok p }) total))
  where
    twice : (n : ℕ) → take n (take n piece) ≡ take n piece
    twice n = grind (arith, common_steps)

    none : (n : ℕ) → drop n (take n piece) ≡ []
    none n = grind (arith, common_steps)

-- behind octets that give nothing, a run over more of them goes on
pub passes_then : (g : Catalog) (l : Limits) (m n : State) (octets : List ℕ) (a b : ℕ) → 0 < b → Passes g l m octets a n
    → run g l m.scan.used m (take (a + b) octets) ≡ run g l n.scan.used n (take b (drop a octets))
passes_then g l m n octets a b some h = h (take (a + b) octets) (front (a + 1) (omega arith)) ∙ ap (run g l n.scan.used n) known_behind
  where
    front : (j : ℕ) → j ≤ a + b → take j (take (a + b) octets) ≡ take j octets
    front j h = grind (arith, common_steps)

    known_behind : drop a (take (a + b) octets) ≡ take b (drop a octets)
    known_behind = drop-take a b octets

-- a token whose last octet gives a value
module _ (g : Catalog) (l : Limits) (r : Reading) (still : settle g l r ≡ goes r) (rest : Rest) (octets : List ℕ) (kind : TokenKind) (kept : List ℕ) (n : ℕ)
    (c : Content) (v : Value) (q : Reading) (found : IsFound (place r) rest octets kind kept n false)
    (quiet : Quiet g l r (place r) (resting rest) (take (n - 1) octets)) (says : said kind kept ≡ Ok c)
    (turns : turn g l r (token_of (lexeme_at rest kind kept n) c) ≡ gives v q) where
  abbrev last_octet : ℕ
  last_octet = get_or octets (n - 1) 0

  abbrev known_behind : Known
  known_behind = resting (past_token (place r) rest kind n)

  tells_it : eats g l (with_scan found.known r) last_octet ≡ tells v (with_scan known_behind q)
  tells_it =
      go_on g l (λ m. takes g l 2 m last_octet) r found.known (feed (place r) found.known last_octet)
      (unsettled found.known r (feed (place r) found.known last_octet)) (inr still)
      ∙ (ap (on_scan g l (λ m. takes g l 2 m last_octet) r) found.ends
      ∙ (ap (λ a. on_said a (λ c. behind_given l known_behind (turn g l r (token_of (lexeme_at rest kind kept n) c)))) says
      ∙ ap (behind_given l known_behind) turns))

  pub token_gives : run g l rest.used (with_scan (resting rest) r) (take n octets)
      ≡ record { given = (v, rest.used + n) ∷ []; now = Ok (with_scan known_behind q) }
  token_gives =
      let some = found.some in
      let shown = found.shown in
      let size = length-take-le (n - 1) octets (omega arith) in
      let counted = next_used (place r) (take (n - 1) octets) (resting rest) found.known (sym found.ran) in
      let used : found.known.used ≡ rest.used + (n - 1) = omega arith in
      let last : n - 1 + 1 ≡ n = omega arith in
      subst (λ j. run g l rest.used (with_scan (resting rest) r) (take j octets)
      ≡ record { given = (v, rest.used + j) ∷ []; now = Ok (with_scan known_behind q) }) last
      (gives_next g l (with_scan (resting rest) r) (with_scan found.known r) (with_scan known_behind q) v octets (n - 1) shown used
      (passes_led g l (with_scan (resting rest) r) (with_scan found.known r) octets (n - 1) (omega arith) used
      (drive g l (take (n - 1) octets) rest.used r (resting rest) found.known found.ran quiet (inl still))) tells_it)

-- a whole value of the top level is given
pub top_ended : (g : Catalog) (l : Limits) (end start : ℕ) (c : List Slot) (v : Value) → is_table v ≡ false → end ≤ start + l.item
    → ended (under g l) (spot_at end start c) [] v ≡ gives v (fresh c)
top_ended g l end start c v free room =
    ap (λ b. if b then turned l.item start end (next c v g) else within l.item start end (gives v (fresh c))) free
    ∙ ap (λ b. if b then gives v (fresh c) else refuses Reason.ItemTooLong) (le-leb end (start + l.item) room)

-- where an item begins behind these annotations of it
base_begun : (start begin : ℕ) (ss : Symbols) → base [] ss start begin ≡ begun_at start begin [] ss
base_begun start begin [] = refl
base_begun start begin (s ∷ ss) = refl

pub begun_more : (start begin : ℕ) (fs : List Frame) (ss : Symbols) (s : Option (List ℕ)) → begun_at start begin fs (ss ++ s ∷ []) ≡ start
begun_more start begin [] [] s = refl
begun_more start begin [] (x ∷ ss) s = refl
begun_more start begin (f ∷ fs) ss s = refl

module _ (g : Catalog) (l : Limits) (start : ℕ) (c : List Slot) (ss : Symbols) where
  abbrev pub on_top : Reading
  on_top = at start c [] ss Stage.Ready

  abbrev begin : ℕ → ℕ
  begin used = begun_at start used [] ss

  pub top_quiet : (rest : Rest) (octets : List ℕ) (n : ℕ) → n ≤ length octets → rest.used + n ≤ l.item + begin rest.used
      → Quiet g l on_top Place.Top (resting rest) (take n octets)
  top_quiet rest octets n within room =
      let size = length-take-le n octets within in
      let is = base_begun start rest.used ss in
      quiet_within g l on_top rest.used tt Place.Top (take n octets) (resting rest) (omega arith) (omega arith) (omega arith)

  pub top_blank : (rest behind : Rest) (piece : List ℕ) (n : ℕ) → rest.used + n ≤ l.item + begin rest.used → RestsBehind piece n rest behind
      → Passes g l (rested rest start c [] ss Stage.Ready) piece n (rested behind start c [] ss Stage.Ready)
  top_blank rest behind piece n room h =
      let within = h.within in
      passes_led g l (rested rest start c [] ss Stage.Ready) (rested behind start c [] ss Stage.Ready) piece n within h.used
      (drive g l (take n piece) rest.used on_top (resting rest) (resting behind) (h.ran Place.Top) (top_quiet rest piece n within room) (inl refl))

  -- a container opens
  abbrev behind_open : Rest → Bracket → Reading
  behind_open rest bracket = at (begin rest.used) c (opened bracket ss ∷ []) [] (first_now bracket)

  pub top_open : (rest : Rest) (octets : List ℕ) (bracket : Bracket) → 0 < l.depth → 1 < length octets → OpensAt octets bracket
      → rest.used + length octets ≤ l.item + begin rest.used
      → Passes g l (rested rest start c [] ss Stage.Ready) octets 1
      (rested (past_token Place.Top rest (TokenKind.Mark (open_mark bracket)) 1) (begin rest.used) c (opened bracket ss ∷ []) [] (first_now bracket))
  top_open rest octets bracket deep more opens room =
      found_passes g l on_top refl rest octets (TokenKind.Mark (open_mark bracket)) [] 1 (Mark' (open_mark bracket)) (behind_open rest bracket)
      (mark_says (open_mark bracket)) (open_goes (under g l) (spot_at (rest.used + 1) (begin rest.used) c) [] ss bracket deep) (is_open_left bracket)
      (open_found bracket Place.Top rest octets opens more refl) (λ k few. top_quiet rest octets k (omega arith) (omega arith)) (l.item + begin rest.used)
      (inner_notices l (behind_open rest bracket) refl) room

-- what waits behind an annotation, or behind `::`, isn't too long
pub waits_notices : (l : Limits) (start : ℕ) (c : List Slot) (ss : Symbols) (h : Held) (end most : ℕ) → end ≤ start + l.item
    → NoticesNothing l (at start c [] ss (Stage.Pending h end)) most
waits_notices l start c ss h end most room s idle few = ap
    (λ b. if b then uses (with_scan s (at start c [] ss (Stage.Pending h end))) else fails Reason.ItemTooLong) (le-leb (end - start) l.item (omega arith))

noted_notices : (l : Limits) (start : ℕ) (c : List Slot) (ss : Symbols) (x : Option (List ℕ))
    → NoticesNothing l (at start c [] (ss ++ x ∷ []) Stage.Ready) (l.item + start)
noted_notices l start c ss x s idle few =
    ap (λ b. if b then uses (with_scan s (at start c [] (ss ++ x ∷ []) Stage.Ready)) else fails Reason.ItemTooLong)
    (le-leb (reaches [] (at start c [] (ss ++ x ∷ []) Stage.Ready) s) l.item (let e = reach ss in omega arith))
  where
    none : begun_in s ≡ None
    none = cond-true _ _ _ idle

    reach : (ss : Symbols) → reaches [] (at start c [] (ss ++ x ∷ []) Stage.Ready) s ≡ s.used - start
    reach [] = ap (λ b. longest_top start s.used Stage.Ready (x ∷ []) b (is_long_begun b)) none
    reach (y ∷ ss) = ap (λ b. longest_top start s.used Stage.Ready (y ∷ (ss ++ x ∷ [])) b (is_long_begun b)) none

-- a blank, wherever a value may come
pub any_blank : (g : Catalog) (l : Limits) (start : ℕ) (c : List Slot) (fs : List Frame) (ss : Symbols) (rest behind : Rest) (piece : List ℕ) (n : ℕ)
    → rest.used + n ≤ l.item + begun_at start rest.used fs ss → RestsBehind piece n rest behind
    → Passes g l (rested rest start c fs ss Stage.Ready) piece n (rested behind start c fs ss Stage.Ready)
any_blank g l start c [] ss rest behind piece n room h = top_blank g l start c ss rest behind piece n room h
any_blank g l start c (f ∷ fs) ss rest behind piece n room h =
    let r = at start c (f ∷ fs) ss Stage.Ready in
    passes_blank g l r (l.item + start) (inner_notices l r refl) (resting rest) (resting behind) piece n h.within refl refl (h.ran (place r))
    (omega arith) (still_settles g l r tt)

-- an annotation, wherever a value may come
module _ (octets : List ℕ) (token : FoundToken) (f : FoundNote octets token) (m : ℕ) (within : token.count + m + 2 < length octets)
    (passed : IsPassed (drop token.count octets) m) (one : get_or octets (token.count + m) 0 ≡ 58) (two : get_or octets (token.count + m + 1) 0 ≡ 58) where
  pub note_leads : (g : Catalog) (l : Limits) (start : ℕ) (c : List Slot) (fs : List Frame) (ss : Symbols) (rest : Rest)
      → rest.used + length octets ≤ l.item + begun_at start rest.used fs ss
      → Passes g l (rested rest start c fs ss Stage.Ready) octets (token.count + m + 2)
      (rested (behind_note (place_in fs Stage.Ready) rest token m) (begun_at start rest.used fs ss) c fs (ss ++ f.name ∷ []) Stage.Ready)
  note_leads g l start c [] ss rest room =
      let b = f.begins Place.Top rest in
      let n = token.count in
      let start' = begun_at start rest.used [] ss in
      let pays = held_in (held_of b.content) _ b.is in
      noted_passes g l (at start c [] ss Stage.Ready) start' refl refl rest octets token.kind b.kept n m token.left b.content pays.0 f.name b.found b.says
      (symbol_colon Place.Top token.kind b.kept b.content pays.0 b.says pays.1)
      (symbol_held pays.0 f.name pays.2) passed within one two
      (λ k few. top_quiet g l start c ss rest octets k (omega arith) (omega arith))
      (waits_so (under g l) (spot_at (rest.used + n) start' c) [] ss b.content pays.0 pays.1)
      (waits_notices l start' c ss pays.0 (rest.used + n) (rest.used + length octets) (omega arith))
      (λ k idle few. noted_notices l start' c ss f.name k idle (omega arith))
  note_leads g l start c (h ∷ fs) ss rest room =
      let r = at start c (h ∷ fs) ss Stage.Ready in
      let b = f.begins (place r) rest in
      let pays = held_in (held_of b.content) _ b.is in
      note_passes g l r refl rest octets token.kind b.kept token.count m token.left b.content room (omega arith) b.found b.says tt tt refl pays.0
      (symbol_colon (place r) token.kind b.kept b.content pays.0 b.says pays.1)
      (waits_so (under g l) (spot_at (rest.used + token.count) start c) (h ∷ fs) ss b.content pays.0 pays.1) f.name
      (symbol_held pays.0 f.name pays.2) passed within one two
