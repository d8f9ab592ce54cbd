-- Long strings of segments that lie whole in a piece.
use Rattle.std.proofs.Common.{◌≡◌, ℕ, ◌+◌, ◌-◌, ◌<◌, ◌≤◌, Bool, true, false, List, [], ◌∷◌, ◌++◌, length, take, drop, get_or, Ok, refl, ap, sym, ◌∙◌, subst, arith, length-drop, ◌⊎◌, inl, inr}
use Rattle.std.specs.Prelude.{◌||◌, not, if◌then◌else◌, ◌==◌}
use Rattle.std.proofs.lemmas.Bool.{and_parts, not-true, or_from, or_parts}
use Rattle.std.proofs.lemmas.List.{length-take-le}
use Rattle.ion_text.specs.Names.{Catalog, Effect, Frame, Given, IsFound, Known, LeadsTo, Limits, Long, Mode, Next, Outcome, Passes, Place, Quiet, Reading, Rest, Setting, Slot, Stage, State, Stays, Symbols, TokenKind, Value, Waiting, annotated, at, begun_at, behind_given, drive, eats, ended, ended_so_far, ends_symbol, feed, go_on, goes, in_segment, is_idle, is_quoting, is_sane, is_top, lexeme_at, long_at, long_waits, noticed, on_said, on_scan, on_settled, past_blank, past_token, place, place_in, rested, resting, said, settle, spot_at, takes, token_of, turn, turn_now, under, unsettled, uses, waits_now, waits_over, with_scan}
use Rattle.ion_model.specs.declared.value.Payload.TheVariants as payloads
use Rattle.ion_tokens.specs.machine.Scanning as scanning
use Rattle.ion_tokens.proofs.runs.Runs.{next_used}
use Rattle.ion_text.specs.machine.LongStrings.{LongSoFar, LongThere, PassedSegment, ends_long}
use Rattle.ion_text.specs.laws.reading.complete.Found.{run_sane}
use Rattle.ion_text.specs.laws.reading.complete.Meets.{follows_as}
use Rattle.ion_text.proofs.TokenSteps.{at_drop, blank_used, ended_place, ended_stays}
use Rattle.ion_text.proofs.WhileWaiting.{waiting_noticed}
use Rattle.ion_text.proofs.Passing.{calm_quiet, leads_on, leads_one, passes_led, passes_none, passes_on, passes_same, quiet_as, waits_as}
use Rattle.ion_text.proofs.Striding.{still_settles}
use Rattle.ion_text.proofs.Symbols.{ends_shows}
use Rattle.ion_text.proofs.TopLevel.{top_quiet}

-- the mode of a blank, or of what may be a segment of a long string
abbrev pub may_be_long : Mode → Bool
may_be_long m = is_idle m || is_quoting m

-- what surely is neither stays so
other_stays : (p : Place) (s t : Known) (o : ℕ) → is_sane s.mode ≡ true → feed p s o ≡ Next t → may_be_long s.mode ≡ false → may_be_long t.mode ≡ false
other_stays p s t o sane e h =
    let x = follows_as p s o (Next t) sane e in
    let i = or_parts (is_idle s.mode) (is_quoting s.mode) h in
    or_from (is_idle t.mode) (is_quoting t.mode) (x.1 i.0) (x.2 i.0 i.1)

-- Where a value may come, octets within the limit on items are no reason to refuse.
ready_quiet : (g : Catalog) (l : Limits) (start : ℕ) (c : List Slot) (fs : List Frame) (ss : Symbols) (rest : Rest) (octets : List ℕ) (n : ℕ)
    → n ≤ length octets → rest.used + n ≤ l.item + begun_at start rest.used fs ss
    → Quiet g l (at start c fs ss Stage.Ready) (place_in fs Stage.Ready) (resting rest) (take n octets)
ready_quiet g l start c [] ss rest octets n within room = top_quiet g l start c ss rest octets n within room
ready_quiet g l start c (f ∷ fs) ss rest octets n within room =
    calm_quiet g l (at start c (f ∷ fs) ss Stage.Ready) refl tt (resting rest) refl octets n within room

-- a segment leads the run behind it where it settles nothing that waits, and nothing is refused then
module _ (g : Catalog) (l : Limits) (r q : Reading) (rest : Rest) (octets kept : List ℕ) (n : ℕ)
    (found : IsFound (place r) rest octets TokenKind.LongString kept n false) (more : List ℕ) (says : said TokenKind.LongString kept ≡ Ok (Long more))
    (turns : turn g l r (token_of (lexeme_at rest TokenKind.LongString kept n) (Long more)) ≡ goes q) where
  abbrev behind : Known
  behind = resting (past_token (place r) rest TokenKind.LongString n)

  abbrev octet : ℕ
  octet = get_or octets (n - 1) 0

  known_used : found.known.used ≡ rest.used + (n - 1)
  known_used =
      let some = found.some in
      let shown = found.shown in
      let size = length-take-le (n - 1) octets (omega arith) in
      let counted = next_used (place r) (take (n - 1) octets) (resting rest) found.known (sym found.ran) in
      omega arith

  module _ (goes_on : (unsettled found.known r (feed (place r) found.known octet) ≡ true) ⊎ (settle g l r ≡ goes r))
      (notices : noticed l q behind ≡ uses (with_scan behind q)) where
    ends_it : eats g l (with_scan found.known r) octet ≡ uses (with_scan behind q)
    ends_it =
        go_on g l (λ m. takes g l 2 m octet) r found.known (feed (place r) found.known octet) (unsettled found.known r (feed (place r) found.known octet))
        goes_on
        ∙ (ap (on_scan g l (λ m. takes g l 2 m octet) r) found.ends
        ∙ (ap (λ a. on_said a (λ c. behind_given l behind (turn g l r (token_of (lexeme_at rest TokenKind.LongString kept n) c)))) says
        ∙ (ap (behind_given l behind) turns ∙ notices)))

    segment_leads : Quiet g l r (place r) (resting rest) (take (n - 1) octets) → Stays g l r (place r) (resting rest) (take (n - 1) octets)
        → LeadsTo g l (with_scan (resting rest) r) octets n (with_scan behind q)
    segment_leads quiet stays =
        let some = found.some in
        let shown = found.shown in
        let size = length-drop (n - 1) octets in
        let all : n - 1 + 1 ≡ n = omega arith in
        subst (λ k. LeadsTo g l (with_scan (resting rest) r) octets k (with_scan behind q)) all
        (leads_on g l (with_scan (resting rest) r) (with_scan found.known r) (with_scan behind q) octets (n - 1) 1 (omega arith) known_used
        (drive g l (take (n - 1) octets) rest.used r (resting rest) found.known found.ran quiet stays)
        (leads_one g l (with_scan found.known r) (with_scan behind q) (drop (n - 1) octets) (omega arith)
        (ap (λ o. eats g l (with_scan found.known r) o) (at_drop (n - 1) octets) ∙ ends_it)))

-- where a long string waits for more
module _ (g : Catalog) (l : Limits) (r : Reading) (w : List ℕ) (end : ℕ) (now : r.now ≡ Stage.Long w end) (early : end ≤ r.start + l.item) where
  long_noticed : (s : Known) → may_be_long s.mode ≡ true → s.used ≤ r.start + l.item → noticed l r s ≡ uses (with_scan s r)
  long_noticed s long room = waiting_noticed l r s (ap (λ n. waits_over n s.mode) now ∙ long) (subst (λ n. ended_so_far n ≤ r.start + l.item) (sym now) early) room

  long_quiet : (p : Place) (os : List ℕ) (s t : Known) → is_sane s.mode ≡ true → may_be_long t.mode ≡ true → scanning.run p os s ≡ Next t
      → s.used + length os ≤ r.start + l.item → Quiet g l r p s os
  long_quiet = quiet_as may_be_long other_stays g l r (r.start + l.item) long_noticed

  long_waits_on : (p : Place) (os : List ℕ) (s t : Known) → is_sane s.mode ≡ true → may_be_long t.mode ≡ true → scanning.run p os s ≡ Next t
      → Waiting g l r p s os
  long_waits_on = waits_as may_be_long other_stays g l r (λ k long. ap (λ n. waits_now (is_top r.frames) n (Next k)) now ∙ long)

  -- a blank behind a segment
  long_blank : (s t : Known) (octets : List ℕ) (n : ℕ) → n ≤ length octets → is_sane s.mode ≡ true → may_be_long t.mode ≡ true
      → scanning.run (place r) (take n octets) s ≡ Next t → s.used + n ≤ r.start + l.item → LeadsTo g l (with_scan s r) octets n (with_scan t r)
  long_blank s t octets n within sane long e room =
      let size = length-take-le n octets within in
      drive g l (take n octets) s.used r s t e (long_quiet (place r) (take n octets) s t sane long e (omega arith))
      (inr (long_waits_on (place r) (take n octets) s t sane long e))

  -- a further segment
  module _ (rest : Rest) (octets kept : List ℕ) (n : ℕ) (found : IsFound (place r) rest octets TokenKind.LongString kept n false)
      (more : List ℕ) (says : said TokenKind.LongString kept ≡ Ok (Long more)) (room : rest.used + length octets ≤ r.start + l.item) where
    abbrev longer : Reading
    longer = at r.start r.context r.frames r.notes (Stage.Long (w ++ more) (rest.used + n))

    abbrev last_octet : ℕ
    last_octet = get_or octets (n - 1) 0

    abbrev known_behind : Known
    known_behind = resting (past_token (place r) rest TokenKind.LongString n)

    is_long_mode : may_be_long found.known.mode ≡ true
    is_long_mode = by (is_idle found.known.mode) (is_quoting found.known.mode) refl refl
      where
        by : (a b : Bool) → is_idle found.known.mode ≡ a → is_quoting found.known.mode ≡ b → may_be_long found.known.mode ≡ true
        by true b e f = ap (λ a. a || is_quoting found.known.mode) e
        by false true e f = ap (λ a. a || is_quoting found.known.mode) e ∙ f
        by false false e f =
            let x = follows_as (place r) found.known last_octet (Given (lexeme_at rest TokenKind.LongString kept n) known_behind) known_sane found.ends in
            let never : true ≡ false = x.1 e f in absurd cc
          where
            known_sane : is_sane found.known.mode ≡ true
            known_sane = run_sane (place r) (take (n - 1) octets) (resting rest) found.known refl found.ran

    turns_longer : turn g l r (token_of (lexeme_at rest TokenKind.LongString kept n) (Long more)) ≡ goes longer
    turns_longer = ap (turn_now (under g l) r (token_of (lexeme_at rest TokenKind.LongString kept n) (Long more))) now

    waits_on : unsettled found.known r (feed (place r) found.known last_octet) ≡ true
    waits_on = ap (λ y. unsettled found.known r y) found.ends
        ∙ ap (λ k. waits_now (is_top r.frames) k (Given (lexeme_at rest TokenKind.LongString kept n) known_behind) || in_segment k found.known) now

    -- behind a long string that waits another segment of it is joined to it
    segment_joined : LeadsTo g l (with_scan (resting rest) r) octets n (with_scan known_behind longer)
    segment_joined =
        let some = found.some in
        let shown = found.shown in
        let size = length-take-le (n - 1) octets (omega arith) in
        let ends : rest.used + n ≤ r.start + l.item = omega arith in
        segment_leads g l r longer rest octets kept n found more says turns_longer (inl waits_on) (waiting_noticed l longer known_behind refl ends ends)
        (long_quiet (place r) (take (n - 1) octets) (resting rest) found.known refl is_long_mode found.ran (omega arith))
        (inr (long_waits_on (place r) (take (n - 1) octets) (resting rest) found.known refl is_long_mode found.ran))

-- the octet behind a long string that waits ends it, at the top level and elsewhere
long_ends : (top : Bool) (p : Place) (r : Rest) (o : ℕ) → ends_long o ≡ true → long_waits top (feed p (resting r) o) ≡ false
long_ends top p r o h = let f = and_parts (ends_symbol o) (not (o == 39)) h in (ends_shows top p r o f.0).long (not-true (o == 39) f.1)

module _ (g : Catalog) (l : Limits) (r : Reading) (w : List ℕ) (end : ℕ) (now : r.now ≡ Stage.Long w end) where
  -- so nothing goes on there
  pub long_unsettled : (rest : Rest) (o : ℕ) → ends_long o ≡ true → unsettled (resting rest) r (feed (place r) (resting rest) o) ≡ false
  long_unsettled rest o ends =
      ap (λ n. waits_now (is_top r.frames) n (feed (place r) (resting rest) o) || in_segment n (resting rest)) now
      ∙ ap (λ b. b || false) (long_ends (is_top r.frames) (place r) rest o ends)

  long_settled : (rest : Rest) (octets : List ℕ) (q : Reading) → 0 < length octets → ends_long (get_or octets 0 0) ≡ true → settle g l r ≡ goes q
      → settle g l q ≡ goes q → place q ≡ place r → Passes g l (with_scan (resting rest) r) octets 0 (with_scan (resting rest) q)
  long_settled rest octets q some ends settles still same =
      passes_same g l (with_scan (resting rest) r) (with_scan (resting rest) r) (with_scan (resting rest) q) octets 0 some refl (here ∙ sym there)
      (passes_none g l (with_scan (resting rest) r) octets)
    where
      o : ℕ
      o = get_or octets 0 0

      x : Outcome
      x = feed (place r) (resting rest) o

      again : State → Effect
      again m = takes g l 2 m o

      here : eats g l (with_scan (resting rest) r) o ≡ on_scan g l again q x
      here = ap (λ b. if b then on_scan g l again r x else on_settled g l again (resting rest) x (settle g l r)) (long_unsettled rest o ends)
          ∙ ap (on_settled g l again (resting rest) x) settles

      there : eats g l (with_scan (resting rest) q) o ≡ on_scan g l again q x
      there =
          go_on g l again q (resting rest) (feed (place q) (resting rest) o) (unsettled (resting rest) q (feed (place q) (resting rest) o)) (inr still)
          ∙ ap (λ p. on_scan g l again q (feed p (resting rest) o)) same

-- in a container it says nothing where a value ended
ended_anywhere : (setting : Setting) (start : ℕ) (c : List Slot) (fs : List Frame) (v : Value) (i j : ℕ) → is_top fs ≡ false
    → ended setting (spot_at i start c) fs v ≡ ended setting (spot_at j start c) fs v
ended_anywhere setting start c [] v i j h = absurd cc
ended_anywhere setting start c _ v i j h = refl

module _ (g : Catalog) (l : Limits) (start : ℕ) (c : List Slot) (ss : Symbols) (fs : List Frame) where
  -- a long string waits
  abbrev waits_long : List ℕ → ℕ → Reading
  waits_long w end = at start c fs ss (Stage.Long w end)

  module _ (p : Place) (before : Rest) (octets : List ℕ) (count : ℕ) (after : Rest) (old new : List ℕ)
      (x : PassedSegment p before octets count after old new) (here : place_in fs Stage.Ready ≡ p)
      (room : before.used + length octets ≤ l.item + start) where
    abbrev n : ℕ
    n = x.size

    abbrev text : List ℕ
    text = old ++ x.segment.more

    abbrev mid : Rest
    mid = past_token p before TokenKind.LongString n

    -- behind the segment the blank is passed
    behind_it : (m : State) → m.scan.used ≡ before.used → LeadsTo g l m octets n (with_scan (resting mid) (waits_long text (before.used + n)))
        → LeadsTo g l m octets count (rested after start c fs ss (Stage.Long new (before.used + n)))
    behind_it m from h =
        let size = length-drop n octets in
        let total = x.total in
        let within = x.within in
        let end = before.used + n in
        let r = waits_long text end in
        let blank : LeadsTo g l (with_scan (resting mid) r) (drop n octets) x.blank (with_scan (resting (past_blank mid x.blank)) r) =
        long_blank g l r text end refl (omega arith) (resting mid) (resting (past_blank mid x.blank)) (drop n octets) x.blank (omega arith) refl
        refl (x.passed (place r) mid) (omega arith) in
        subst (λ t. LeadsTo g l m octets count (rested after start c fs ss (Stage.Long t end))) (sym x.segment.joined)
        (subst (λ r. LeadsTo g l m octets count (rested r start c fs ss (Stage.Long text end))) (sym x.rests)
        (subst (λ k. LeadsTo g l m octets k (rested (past_blank mid x.blank) start c fs ss (Stage.Long text end))) (sym x.total)
        (leads_on g l m (with_scan (resting mid) r) (rested (past_blank mid x.blank) start c fs ss (Stage.Long text end)) octets n x.blank
        (omega arith) (omega arith) h blank)))

    -- the first segment, where a value may come of an item that begins there
    first_on : (s : ℕ) → begun_at s before.used fs ss ≡ start → old ≡ []
        → LeadsTo g l (rested before s c fs ss Stage.Ready) octets count (rested after start c fs ss (Stage.Long new (before.used + n)))
    first_on s begins none =
        let r = at s c fs ss Stage.Ready in
        let f = x.segment in
        let some = f.found.some in
        let shown = f.found.shown in
        let end = before.used + n in
        let early : end ≤ start + l.item = omega arith in
        let only : f.more ≡ text = ap (λ w. w ++ f.more) (sym none) in
        let found : IsFound (place r) before octets TokenKind.LongString f.kept n false =
        subst (λ p. IsFound p before octets TokenKind.LongString f.kept n false) (sym here) f.found in
        let turns : turn g l r (token_of (lexeme_at before TokenKind.LongString f.kept n) (Long f.more)) ≡ goes (waits_long f.more end) =
        ap (λ s. goes (at s c fs ss (Stage.Long f.more end))) begins in
        let one = segment_leads g l r (waits_long f.more end) before octets f.kept n found f.more f.says turns (inr refl)
        (waiting_noticed l (waits_long f.more end) (resting (past_token (place r) before TokenKind.LongString n)) refl early early)
        (ready_quiet g l s c fs ss before octets (n - 1) (omega arith) (omega arith)) (inl refl) in
        behind_it (rested before s c fs ss Stage.Ready) refl
        (subst (λ w. LeadsTo g l (rested before s c fs ss Stage.Ready) octets n (with_scan (resting mid) (waits_long w end))) only
        (subst (λ p. LeadsTo g l (rested before s c fs ss Stage.Ready) octets n
        (with_scan (resting (past_token p before TokenKind.LongString n)) (waits_long f.more end))) here one))

    -- where a long string waits, a further one
    further_on : (end : ℕ) → end ≤ before.used → LeadsTo g l (rested before start c fs ss (Stage.Long old end)) octets count
        (rested after start c fs ss (Stage.Long new (before.used + n)))
    further_on end early =
        let r = waits_long old end in
        let f = x.segment in
        let there : place r ≡ p = long_at fs old end ∙ here in
        let found : IsFound (place r) before octets TokenKind.LongString f.kept n false =
        subst (λ p. IsFound p before octets TokenKind.LongString f.kept n false) (sym there) f.found in
        behind_it (rested before start c fs ss (Stage.Long old end)) refl
        (subst (λ p. LeadsTo g l (rested before start c fs ss (Stage.Long old end)) octets n
        (with_scan (resting (past_token p before TokenKind.LongString n)) (waits_long text (before.used + n)))) there
        (segment_joined g l r old end refl (omega arith) before octets f.kept n found f.more f.says (omega arith)))

-- behind a long string in an open container the octet shows that it is whole
pub settled_on : (g : Catalog) (l : Limits) (start : ℕ) (c : List Slot) (ss : Symbols) (fs : List Frame) (p : Place) (before : Rest) (octets : List ℕ)
    (count : ℕ) (after : Rest) (text : List ℕ) (x : LongThere p before octets count after text) → is_top fs ≡ false → place_in fs Stage.Ready ≡ p
    → before.used + length octets ≤ l.item + start → (end : ℕ) (q : Reading)
    → ended (under g l) (spot_at end start c) fs (annotated ss (payloads.Str text)) ≡ goes q
    → Passes g l (rested before start c fs ss Stage.Ready) octets count (with_scan (resting after) q)
settled_on g l start c ss [] p before octets count after text x inner here room end q does = absurd cc
settled_on g l start c ss (f ∷ fs) p before octets count after text x inner here room end q does =
    let s = x.segments.leads g l start c ss (f ∷ fs) here room in
    let r = at start c (f ∷ fs) ss (Stage.Long text s.0) in
    let more = x.more in
    let size = length-drop count octets in
    let stays = ended_stays (under g l) (spot_at end start c) q (f ∷ fs) (annotated ss (payloads.Str text)) refl does in
    let none : count + 0 ≡ count = omega arith in
    let up_to = passes_led g l (rested before start c (f ∷ fs) ss Stage.Ready) (with_scan (resting after) r) octets count (omega arith) x.segments.used s.2 in
    let whole : Passes g l (with_scan (resting after) r) (drop count octets) 0 (with_scan (resting after) q) =
    long_settled g l r text s.0 refl after (drop count octets) q (omega arith) (ap ends_long (at_drop count octets) ∙ x.ends)
    (ended_anywhere (under g l) start c (f ∷ fs) (annotated ss (payloads.Str text)) s.0 end refl ∙ does) (still_settles g l q stays.2)
    (ended_place (under g l) (spot_at end start c) q (f ∷ fs) (annotated ss (payloads.Str text)) refl does ∙ sym (long_at (f ∷ fs) text s.0)) in
    subst (λ k. Passes g l (rested before start c (f ∷ fs) ss Stage.Ready) octets k (with_scan (resting after) q)) none
    (passes_on g l (rested before start c (f ∷ fs) ss Stage.Ready) (with_scan (resting after) r) (with_scan (resting after) q) octets count 0 up_to whole)

-- behind a segment and a blank so many octets are used
segment_used : (p : Place) (before : Rest) (octets : List ℕ) (count : ℕ) (after : Rest) (old new : List ℕ) → PassedSegment p before octets count after old new
    → after.used ≡ before.used + count
segment_used p before octets count after old new x =
    let blank = blank_used (past_token p before TokenKind.LongString x.size) x.blank in
    let total = x.total in
    let is : after.used ≡ (past_blank (past_token p before TokenKind.LongString x.size) x.blank).used = ap (λ (r : Rest). r.used) x.rests in
    omega arith

-- a segment is a long string so far
pub first_segment : (p : Place) (before : Rest) (octets : List ℕ) (count : ℕ) (after : Rest) (old new : List ℕ) → old ≡ []
    → PassedSegment p before octets count after old new → LongSoFar p before octets count after new
first_segment p before octets count after old new none x =
    let some = x.segment.found.some in
    let total = x.total in
    let used = segment_used p before octets count after old new x in
    record {
      leads = λ g l start c ss fs here room. (
        before.used + x.size,
        omega arith,
        first_on g l (begun_at start before.used fs ss) c ss fs p before octets count after old new x here room start refl none,
      );
      some = omega arith;
      within = x.within;
      used = used;
    }

-- and with a further one
pub more_segments : (p : Place) (before mid after : Rest) (octets behind : List ℕ) (i j : ℕ) (old new : List ℕ) → behind ≡ drop i octets
    → LongSoFar p before octets i mid old → PassedSegment p mid behind j after old new → LongSoFar p before octets (i + j) after new
more_segments p before mid after octets behind i j old new is s x =
    let size : length behind ≡ length octets - i = ap (λ (w : List ℕ). length w) is ∙ length-drop i octets in
    let some = s.some in
    let first = s.within in
    let more = x.within in
    let total = x.total in
    let used = s.used in
    let further = segment_used p mid behind j after old new x in
    record {
      leads = λ g l start c ss fs here room.
          let begun = s.leads g l start c ss fs here room in
          let start' = begun_at start before.used fs ss in (
            mid.used + x.size,
            omega arith,
            leads_on g l (rested before start c fs ss Stage.Ready) (rested mid start' c fs ss (Stage.Long old begun.0))
                (rested after start' c fs ss (Stage.Long new (mid.used + x.size))) octets i j first used begun.2
                (subst (λ w. LeadsTo g l (rested mid start' c fs ss (Stage.Long old begun.0)) w j
                (rested after start' c fs ss (Stage.Long new (mid.used + x.size)))) is
                (further_on g l start' c ss fs p mid behind j after old new x here (omega arith) begun.0 begun.1)),
          );
      some = omega arith;
      within = omega arith;
      used = omega arith;
    }
