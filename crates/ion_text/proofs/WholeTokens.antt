-- Tokens that a reader without values takes up at once, one behind the other.
use Rattle.std.proofs.Common.{◌≡◌, ◌≢◌, ℕ, ◌+◌, ◌-◌, ◌<◌, ◌≤◌, Bool, true, false, List, [], ◌∷◌, ◌++◌, length, drop, get_or, Option, Result, Ok, refl, ap, sym, ◌∙◌, subst, arith, length-drop, ◌⊎◌, inl, inr}
use Rattle.std.specs.Prelude.{if◌then◌else◌, nat_lt}
use Rattle.std.proofs.lemmas.Bool.{ltb-true}
use Rattle.std.proofs.lemmas.List.{length-map, length-reverse}
use Rattle.ion_text.specs.Names.{Ahead, AreAround, AreOpen, Bracket, Catalog, Content, Does, DoesAlone, Ended, EndsBy, EndsSo, Event, FoundNote, FoundToken, Frame, Goes, Holds, IsCalm, IsFound, IsHere, IsPassed, IsStill, Limits, ListOrSexp, Mark, Mark', NameThere, OpensAt, Passes, Place, Reading, Reason, Rest, RestsBehind, SameSetting, Slot, Stage, Strode, StrodeFrom, SymbolThere, Symbols, Taken, Takes, TextWalk, TokenKind, Turn, Turned, WentOn, at, before_end, begun_at, behind_note, beyond_depth, bracket_of, brackets_of, calm, close_mark, close_octet, closed, closes, first_now, goes, heard, is_name, is_top, lexeme_at, named, on_comma, only_goes, open_brackets, open_mark, opened, opening, past_blank, past_token, place, place_in, reading_of, resting, resting_at, said, setting_of, spot_at, spot_of, takes_colon, token_of, told, turn, under, with_scan}
use Rattle.ion_tokens.proofs.runs.WholeTokens.{comma_found}
use Rattle.ion_visiting.specs.laws.Filters.{hears_both, hears_none}
use Rattle.ion_text.proofs.TokenSteps.{StaysIn, after_turns, begun_inner, blank_used, comma_stays, mark_says, named_stays, ready_turns, went}
use Rattle.ion_text.proofs.Ended.{open_bare}
use Rattle.ion_text.proofs.Nested.{close_found, close_stays, closing, is_open_left, open_found, opened_stays}
use Rattle.ion_text.proofs.Passing.{inner_notices, passes_blank, passes_none, passes_on}
use Rattle.ion_text.proofs.Striding.{still_settles}
use Rattle.ion_text.proofs.Symbols.{name_passes, note_passes, symbol_held}
use Rattle.ion_text.proofs.Taking.{does_alone}
use Rattle.ion_text.proofs.TopLevel.{any_blank, begun_more, note_leads, top_open}
use Rattle.ion_text.proofs.Walking.{open_goes, token_passes}

-- what no token changed behind two of them
pub settings_on : (a b c : TextWalk) → SameSetting a b → SameSetting b c → SameSetting a c
settings_on a b c h k = record {
  catalog = k.catalog ∙ h.catalog;
  limits = k.limits ∙ h.limits;
  scanner = k.scanner ∙ h.scanner;
  awaited = k.awaited ∙ h.awaited;
  failed = k.failed ∙ h.failed;
}

pub settings_none : (a : TextWalk) → SameSetting a a
settings_none a = record { catalog = refl; limits = refl; scanner = refl; awaited = refl; failed = refl }

-- a reader whose open item begins there
abbrev pub begun_with : TextWalk → ℕ → TextWalk
begun_with r k = record r { start = k }

-- the item of a token begins there that begins where the scanner rests
abbrev pub IsBegun : TextWalk → Rest → ℕ → Type 0
IsBegun r rest k = (fs : List Frame) (ss : Symbols) → Holds r fs ss → k ≡ begun_at r.start rest.used fs ss

pub settings_begun : (old new : TextWalk) (k : ℕ) → SameSetting (begun_with old k) new → SameSetting old new
settings_begun old new k h = record { catalog = h.catalog; limits = h.limits; scanner = h.scanner; awaited = h.awaited; failed = h.failed }

-- no item of the top level begins earlier behind more octets
begun_later : (start i j : ℕ) (fs : List Frame) (ss : Symbols) → i ≤ j → begun_at start i fs ss ≤ begun_at start j fs ss
begun_later start i j [] [] h = h
begun_later start i j _ _ h = omega arith

-- where no value may come a container is open
pub open_inner : (fs : List Frame) (ss : Symbols) (now : Stage) → AreOpen fs ss now → now ≢ Stage.Ready → is_top fs ≡ false
open_inner fs ss Stage.Ready h other = absurd (other refl)
open_inner (Frame.Items ListOrSexp.List ns vs ∷ fs) [] Stage.After h other = refl
open_inner (Frame.Fields ns ms ∷ fs) [] Stage.After h other = refl
open_inner (Frame.Fields ns ms ∷ fs) [] Stage.Name h other = refl
open_inner _ _ _ h other = absurd h

-- a name may come in a struct
pub open_name : (fs : List Frame) (ss : Symbols) → AreOpen fs ss Stage.Name → place_in fs Stage.Name ≡ Place.Name
open_name (Frame.Fields ns ms ∷ fs) [] h = refl
open_name _ _ h = absurd h

-- where a value may come no name may
around_value : (fs : List Frame) → AreAround fs → is_name (place_in fs Stage.Ready) ≡ false
around_value (Frame.Fields ns ms ∷ fs) h = absurd h
around_value (Frame.Items ListOrSexp.List ns vs ∷ fs) h = refl
around_value _ h = refl

pub value_place : (r : TextWalk) (fs : List Frame) (ss : Symbols) → r.stage ≡ Stage.Ready → Holds r fs ss → is_name (place (reading_of r fs ss)) ≡ false
value_place r fs ss now h = ap (λ n. is_name (place_in fs n)) now ∙ around_value fs (subst (AreOpen fs ss) (ap calm now) h.0.open_there)

-- an open leads into the container, wherever a value may come
open_passes : (g : Catalog) (l : Limits) (start : ℕ) (c : List Slot) (fs : List Frame) (ss : Symbols) (rest : Rest) (octets : List ℕ) (x : Bracket)
    → length fs < l.depth → 1 < length octets → OpensAt octets x → is_name (place_in fs Stage.Ready) ≡ false
    → rest.used + length octets ≤ l.item + begun_at start rest.used fs ss
    → Passes g l (with_scan (resting rest) (at start c fs ss Stage.Ready)) octets 1
    (with_scan (resting (past_token (place_in fs Stage.Ready) rest (TokenKind.Mark (open_mark x)) 1))
    (at (begun_at start rest.used fs ss) c (opened x ss ∷ fs) [] (first_now x)))
open_passes g l start c [] ss rest octets x deep more opens value fits = top_open g l start c ss rest octets x deep more opens fits
open_passes g l start c (f ∷ fs) ss rest octets x deep more opens value fits =
    let r = at start c (f ∷ fs) ss Stage.Ready in
    token_passes g l r refl tt rest octets (TokenKind.Mark (open_mark x)) [] 1 (Mark' (open_mark x))
    (at start c (opened x ss ∷ (f ∷ fs)) [] (first_now x)) (mark_says (open_mark x))
    (ready_turns g l r (lexeme_at rest (TokenKind.Mark (open_mark x)) [] 1) (Mark' (open_mark x)) refl refl
    ∙ open_goes (under g l) (spot_at (rest.used + 1) start c) (f ∷ fs) ss x deep) fits
    (opened_stays start c (f ∷ fs) ss x) (is_open_left x) (open_found x (place r) rest octets opens more value) (inl tt)

module _ {V : Type 0} (takes : V → Event → V → Type 0) where
  -- nothing was taken up
  pub strode_none : (r : TextWalk) (rest : Rest) (octets : List ℕ) (a : V) → Strode takes r r rest rest octets 0 a a
  strode_none r rest octets a = record {
    leads = λ fs ss h. record {
      frames = fs;
      notes = ss;
      passes = passes_none r.catalog.now r.limits (resting_at rest r fs ss) octets;
      ahead = subst (λ n. Ahead r fs ss rest n) (let e : length octets ≡ length octets - 0 = omega arith in e) h;
      hears = hears_none takes (heard (told fs ss)) (heard (told fs ss)) a refl;
    };
    within = omega arith;
    used = let i : rest.used ≡ rest.used + 0 = omega arith in i;
  }

  -- one behind the other
  pub strode_on : (old mid new : TextWalk) (r s t : Rest) (octets rest : List ℕ) (i j : ℕ) (a m b : V) → rest ≡ drop i octets → SameSetting old mid
      → Strode takes old mid r s octets i a m → Strode takes mid new s t rest j m b → Strode takes old new r t octets (i + j) a b
  strode_on old mid new r s t octets rest i j a m b is same x y =
      let size : length rest ≡ length octets - i = ap (λ (w : List ℕ). length w) is ∙ length-drop i octets in
      let within = x.within in
      let within' = y.within in
      let used = x.used in
      let used' = y.used in
      let catalog : mid.catalog.now ≡ old.catalog.now = ap (λ x. x.now) same.catalog in
      record {
        leads = λ fs ss h.
            let one = x.leads fs ss h in
            let two = y.leads one.frames one.notes (subst (λ n. Ahead mid one.frames one.notes s n) (sym size) one.ahead) in
            let left : length rest - j ≡ length octets - (i + j) = omega arith in
            let first = resting_at r old fs ss in
            let middle = resting_at s mid one.frames one.notes in
            let last = resting_at t new two.frames two.notes in
            record {
              frames = two.frames;
              notes = two.notes;
              passes = passes_on old.catalog.now old.limits first middle last octets i j one.passes
                  (subst (λ w. Passes old.catalog.now old.limits middle w j last) is
                  (subst (λ x. Passes x old.limits middle rest j last) catalog
                  (subst (λ x. Passes mid.catalog.now x middle rest j last) same.limits two.passes)));
              ahead = subst (λ n. Ahead new two.frames two.notes t n) left two.ahead;
              hears = hears_both takes (heard (told fs ss)) (heard (told one.frames one.notes)) (heard (told two.frames two.notes)) a m b one.hears two.hears;
            };
        within = omega arith;
        used = omega arith;
      }

  -- a blank, with the comments in it
  pub blank_strode : (r : TextWalk) (before after : Rest) (octets : List ℕ) (n : ℕ) (a : V) → RestsBehind octets n before after → n < length octets
      → Strode takes r r before after octets n a a
  blank_strode r before after octets n a b more =
      let used = b.used in
      record {
        leads = λ fs ss h.
            let fits = h.fits in
            let later = begun_later r.start before.used after.used fs ss (omega arith) in
            record {
              frames = fs;
              notes = ss;
              passes = passes fs ss h r.stage refl;
              ahead = record { holds = h.holds; still = h.still; fits = omega arith };
              hears = hears_none takes (heard (told fs ss)) (heard (told fs ss)) a refl;
            };
        within = omega arith;
        used = used;
      }
    where
      inner : (fs : List Frame) (ss : Symbols) → Ahead r fs ss before (length octets) → is_top fs ≡ false
          → Passes r.catalog.now r.limits (resting_at before r fs ss) octets n (resting_at after r fs ss)
      inner fs ss h open_there =
          let q = reading_of r fs ss in
          let within = b.within in
          let fits = h.fits in
          let begun = begun_inner r.start before.used fs ss open_there in
          passes_blank r.catalog.now r.limits q (r.limits.item + r.start) (inner_notices r.limits q open_there) (resting before) (resting after) octets n
          within refl refl (b.ran (place q)) (omega arith) (still_settles r.catalog.now r.limits q h.still)

      other : (fs : List Frame) (ss : Symbols) → Ahead r fs ss before (length octets) → (now : Stage) → r.stage ≡ now → calm now ≢ Stage.Ready
          → Passes r.catalog.now r.limits (resting_at before r fs ss) octets n (resting_at after r fs ss)
      other fs ss h now is never =
          inner fs ss h (open_inner fs ss (calm r.stage) h.holds.0.open_there (λ e. never (sym (ap calm is) ∙ e)))

      waits : (fs : List Frame) (ss : Symbols) → Ahead r fs ss before (length octets) → (now : Stage) → r.stage ≡ now → (IsStill now → ⊥)
          → Passes r.catalog.now r.limits (resting_at before r fs ss) octets n (resting_at after r fs ss)
      waits fs ss h now is never = absurd (never (subst IsStill is h.still))

      passes : (fs : List Frame) (ss : Symbols) → Ahead r fs ss before (length octets) → (now : Stage) → r.stage ≡ now
          → Passes r.catalog.now r.limits (resting_at before r fs ss) octets n (resting_at after r fs ss)
      passes fs ss h Stage.Ready is =
          let within = b.within in
          let fits = h.fits in
          subst (λ (q : Stage). Passes r.catalog.now r.limits (with_scan (resting before) (at r.start r.context fs ss q)) octets n
          (with_scan (resting after) (at r.start r.context fs ss q))) (sym is)
          (any_blank r.catalog.now r.limits r.start r.context fs ss before after octets n (omega arith) b)
      passes fs ss h Stage.After is = other fs ss h Stage.After is (λ e. cc)
      passes fs ss h Stage.Name is = other fs ss h Stage.Name is (λ e. cc)
      passes fs ss h (Stage.Keyed s) is = other fs ss h (Stage.Keyed s) is (λ e. cc)
      passes fs ss h (Stage.Pending k end) is = waits fs ss h (Stage.Pending k end) is (λ e. e)
      passes fs ss h (Stage.Long w end) is = waits fs ss h (Stage.Long w end) is (λ e. e)
      passes fs ss h (Stage.LongName w) is = waits fs ss h (Stage.LongName w) is (λ e. e)

  -- a token where a container is open
  module _ (old new : TextWalk) (rest : Rest) (octets : List ℕ) (a b : V) (fs : List Frame) (ss : Symbols) (h : Ahead old fs ss rest (length octets))
      (same : SameSetting old new) where
    abbrev r : Reading
    r = reading_of old fs ss

    -- what came of it, where it leads a run there
    pub token_leads : (after : Rest) (n : ℕ) (t : Turn) → n < length octets → after.used ≡ rest.used + n → is_top fs ≡ false
        → ((q : Reading) → t ≡ goes q → StaysIn old.start q)
        → Does takes (told fs ss) t (Ok Goes) new a b
        → ((q : Reading) → t ≡ goes q → StaysIn old.start q
        → Passes old.catalog.now old.limits (with_scan (resting rest) r) octets n (with_scan (resting after) q))
        → StrodeFrom takes fs ss old new rest after octets n a b
    token_leads after n t within used open_there stays does passes =
        let gs = does.0 in
        let ns = does.1 in
        let q = reading_of new gs ns in
        let there = stays q does.2 in
        let fits = h.fits in
        let begun = begun_inner old.start rest.used fs ss open_there in
        let begins = begun_inner new.start after.used gs ns there.0 in
        let start : new.start ≡ old.start = there.1 in
        record {
          frames = gs;
          notes = ns;
          passes = passes q does.2 there;
          ahead = record {
            holds = does.3.holds;
            still = there.2;
            fits = subst (λ (l : Limits). after.used + (length octets - n) ≤ l.item + begun_at new.start after.used gs ns) (sym same.limits) (omega arith);
          };
          hears = does.3.hears;
        }

    pub token_strode : (here : Place) (kind : TokenKind) (kept : List ℕ) (n : ℕ) (left : Bool) (c : Content) (t : Turn) → n < length octets
        → is_top fs ≡ false → here ≡ place r → IsFound here rest octets kind kept n left → said kind kept ≡ Ok c
        → turn old.catalog.now old.limits r (token_of (lexeme_at rest kind kept n) c) ≡ t → ((q : Reading) → t ≡ goes q → StaysIn old.start q)
        → IsCalm old.stage ⊎ (before_end left n ≡ 0) → Does takes (told fs ss) t (Ok Goes) new a b
        → StrodeFrom takes fs ss old new rest (past_token here rest kind n) octets n a b
    token_strode here kind kept n left c t within open_there is found says turns stays may does =
        let fits = h.fits in
        let begun = begun_inner old.start rest.used fs ss open_there in
        token_leads (past_token here rest kind n) n t within refl open_there stays does
        (λ q e there.
        subst (λ p. Passes old.catalog.now old.limits (with_scan (resting rest) r) octets n (with_scan (resting (past_token p rest kind n)) q)) (sym is)
        (token_passes old.catalog.now old.limits r open_there h.still rest octets kind kept n c q says (turns ∙ e) (omega arith) there left
        (subst (λ p. IsFound p rest octets kind kept n left) is found) may))

    -- an annotation, the blank behind it and `::`
    pub note_strode : (here : Place) (token : FoundToken) (f : FoundNote octets token) (m : ℕ) → token.count + m + 2 < length octets
        → old.stage ≡ Stage.Ready → new.stage ≡ old.stage → here ≡ place r → new.start ≡ begun_at old.start rest.used fs ss → new.context ≡ old.context
        → IsPassed (drop token.count octets) m → get_or octets (token.count + m) 0 ≡ 58 → get_or octets (token.count + m + 1) 0 ≡ 58
        → WentOn takes (told fs ss) new fs (ss ++ f.name ∷ []) a b
        → StrodeFrom takes fs ss old new rest (behind_note here rest token m) octets (token.count + m + 2) a b
    note_strode here token f m more now stage is start context passed one two w =
        let n = token.count + m + 2 in
        let fits = h.fits in
        let used = blank_used (past_token here rest token.kind token.count) m in
        let after = behind_note here rest token m in
        let begins : begun_at new.start after.used fs (ss ++ f.name ∷ []) ≡ begun_at old.start rest.used fs ss =
        begun_more new.start after.used fs ss f.name ∙ start in
        let there : reading_of new fs (ss ++ f.name ∷ []) ≡ at (begun_at old.start rest.used fs ss) old.context fs (ss ++ f.name ∷ []) Stage.Ready =
        ap (λ k. at k new.context fs (ss ++ f.name ∷ []) new.stage) start
        ∙ (ap (λ c. at (begun_at old.start rest.used fs ss) c fs (ss ++ f.name ∷ []) new.stage) context
        ∙ ap (λ k. at (begun_at old.start rest.used fs ss) old.context fs (ss ++ f.name ∷ []) k) (stage ∙ now)) in
        record {
          frames = fs;
          notes = ss ++ f.name ∷ [];
          passes =
              subst (λ q. Passes old.catalog.now old.limits (with_scan (resting rest) r) octets n (with_scan (resting after) q)) (sym there)
              (subst (λ k. Passes old.catalog.now old.limits (with_scan (resting rest) (at old.start old.context fs ss k)) octets n
              (with_scan (resting after) (at (begun_at old.start rest.used fs ss) old.context fs (ss ++ f.name ∷ []) Stage.Ready))) (sym now)
              (subst (λ p. Passes old.catalog.now old.limits (with_scan (resting rest) (at old.start old.context fs ss Stage.Ready)) octets n
              (with_scan (resting (behind_note p rest token m)) (at (begun_at old.start rest.used fs ss) old.context fs (ss ++ f.name ∷ []) Stage.Ready)))
              (sym (is ∙ ap (place_in fs) now))
              (note_leads octets token f m more passed one two old.catalog.now old.limits old.start old.context fs ss rest fits)));
          ahead = record {
            holds = w.holds;
            still = subst IsStill (sym (stage ∙ now)) tt;
            fits = subst (λ (l : Limits). after.used + (length octets - n) ≤ l.item + begun_at new.start after.used fs (ss ++ f.name ∷ [])) (sym same.limits)
                (omega arith);
          };
          hears = w.hears;
        }

    -- an open
    pub open_strode : (here : Place) (x : Bracket) → 1 < length octets → OpensAt octets x → old.stage ≡ Stage.Ready → here ≡ place r
        → nat_lt (length fs) old.limits.depth ≡ true
        → Does takes (told fs ss) (opening x old.limits.depth (begun_at old.start rest.used fs ss) old.context fs ss) (Ok Goes) new a b
        → StrodeFrom takes fs ss old new rest (past_token here rest (TokenKind.Mark (open_mark x)) 1) octets 1 a b
    open_strode here x more opens now is admits does =
        let gs = does.0 in
        let ns = does.1 in
        let q = reading_of new gs ns in
        let fits = h.fits in
        let start = begun_at old.start rest.used fs ss in
        let inside = at start old.context (opened x ss ∷ fs) [] (first_now x) in
        let after = past_token here rest (TokenKind.Mark (open_mark x)) 1 in
        let turned : goes inside ≡ goes q =
        sym (ap (λ b. if b then goes inside else beyond_depth x inside) admits) ∙ does.2 in
        let there : inside ≡ q = went (λ k. inside ≡ k) inside q turned refl in
        let stays : StaysIn start q = subst (StaysIn start) there (opened_stays start old.context fs ss x) in
        let begins = begun_inner new.start after.used gs ns stays.0 in
        let begun : new.start ≡ start = stays.1 in
        record {
          frames = gs;
          notes = ns;
          passes =
              subst (λ k. Passes old.catalog.now old.limits (with_scan (resting rest) r) octets 1 (with_scan (resting after) k)) there
              (subst (λ k. Passes old.catalog.now old.limits (with_scan (resting rest) (at old.start old.context fs ss k)) octets 1
              (with_scan (resting after) inside)) (sym now)
              (subst (λ p. Passes old.catalog.now old.limits (with_scan (resting rest) (at old.start old.context fs ss Stage.Ready)) octets 1
              (with_scan (resting (past_token p rest (TokenKind.Mark (open_mark x)) 1)) inside)) (sym (is ∙ ap (place_in fs) now))
              (open_passes old.catalog.now old.limits old.start old.context fs ss rest octets x (ltb-true _ _ admits) more opens
              (around_value fs (subst (AreOpen fs ss) (ap calm now) h.holds.0.open_there)) fits)));
          ahead = record {
            holds = does.3.holds;
            still = stays.2;
            fits = subst (λ (l : Limits). after.used + (length octets - 1) ≤ l.item + begun_at new.start after.used gs ns) (sym same.limits) (omega arith);
          };
          hears = does.3.hears;
        }

  -- what each token answers, from what its method does

  -- the octets taken up, which are how far the place has moved
  pub moved_by : (old new : TextWalk) (before after : Rest) (octets : List ℕ) (count : ℕ) (t : Taken) (a b : V)
      → Ended takes old new before after octets (count, t) a b → SameSetting old new → EndsBy takes old new before after octets (Ok t) a b
  moved_by old new before after octets count t a b y same =
      let used = y.used in
      let moved : count ≡ after.used - before.used = omega arith in
      record { ended = subst (λ n. Ended takes old new before after octets (n, t) a b) moved y; memory = tt; same = same }

  -- what leads so, whatever the reader stood for
  pub ends_so : (old new : TextWalk) (before after : Rest) (octets : List ℕ) (count : ℕ) (t : Taken) (a b : V)
      → ((fs : List Frame) (ss : Symbols) → Ahead old fs ss before (length octets) → EndsSo takes fs ss old new before after octets count a b t)
      → count < length octets → after.used ≡ before.used + count → SameSetting old new → EndsBy takes old new before after octets (Ok t) a b
  ends_so old new before after octets count t a b h within used same =
      moved_by old new before after octets count t a b (record { leads = h; within = omega arith; used = used }) same

  module _ (old new : TextWalk) (rest after : Rest) (octets : List ℕ) (a b : V) (same : SameSetting old new) where
    -- a token that only goes on
    goes_so : (n : ℕ) (last : Rest) (t : List Frame → Symbols → Turn) (x : Result Turned Reason) → after ≡ last → n < length octets
        → last.used ≡ rest.used + n
        → ((fs : List Frame) (ss : Symbols) → Ahead old fs ss rest (length octets) → Does takes (told fs ss) (t fs ss) (Ok Goes) new a b
        → StrodeFrom takes fs ss old new rest last octets n a b)
        → ((fs : List Frame) (ss : Symbols) → Holds old fs ss → Does takes (told fs ss) (t fs ss) x new a b)
        → EndsBy takes old new rest after octets (only_goes x) a b
    goes_so n last t (Ok Goes) there more used leads does =
        ends_so old new rest after octets n Taken.Uses a b
        (λ fs ss h. subst (λ r. StrodeFrom takes fs ss old new rest r octets n a b) (sym there) (leads fs ss h (does fs ss h.holds))) more
        (ap (λ (r : Rest). r.used) there ∙ used) same
    goes_so n last t _ there more used leads does = record { ended = tt; memory = refl; same = same }

    -- where this may come next no value may
    bare_at : (now : Stage) → old.stage ≡ now → calm now ≢ Stage.Ready → (fs : List Frame) (ss : Symbols) → Holds old fs ss
        → (ss ≡ []) × (is_top fs ≡ false)
    bare_at now is other fs ss h =
        let never : calm old.stage ≢ Stage.Ready = λ e. other (sym (ap calm is) ∙ e) in
        (open_bare fs ss (calm old.stage) h.0.open_there never, open_inner fs ss (calm old.stage) h.0.open_there never)

    -- a comma
    pub comma_answer : (here : Place) (x : Result Turned Reason) → after ≡ past_token here rest (TokenKind.Mark Mark.Comma) 1
        → Takes Stage.After old rest octets → get_or octets 0 0 ≡ 44 → IsHere old here → a ≡ b
        → ((fs : List Frame) → Holds old fs [] → DoesAlone (told fs []) (on_comma old.start old.context fs) x new)
        → EndsBy takes old new rest after octets (only_goes x) a b
    comma_answer here x there t first is silent does =
        let more = t.more in
        goes_so 1 (past_token here rest (TokenKind.Mark Mark.Comma) 1) (λ fs ss. on_comma old.start old.context fs) x there more refl
        (λ fs ss h d.
        token_strode old new rest octets a b fs ss h same here (TokenKind.Mark Mark.Comma) [] 1 false (Mark' Mark.Comma)
        (on_comma old.start old.context fs) more (bare_at Stage.After t.stage (λ e. cc) fs ss h.holds).1 (is fs ss h.holds)
        (comma_found here rest octets (omega arith) first) (mark_says Mark.Comma)
        (after_turns old.catalog.now old.limits (reading_of old fs ss) (lexeme_at rest (TokenKind.Mark Mark.Comma) [] 1) (Mark' Mark.Comma) t.stage)
        (λ q e. comma_stays (setting_of old) (spot_of old 0) q fs e) (inr refl) d)
        (λ fs ss h.
        let k = bare_at Stage.After t.stage (λ e. cc) fs ss h in
        subst (λ ns. Does takes (told fs ns) (on_comma old.start old.context fs) x new a b) (sym k.0)
        (subst (λ v. Does takes (told fs []) (on_comma old.start old.context fs) x new a v) silent
        (does_alone takes (told fs []) (on_comma old.start old.context fs) x new a (does fs (subst (λ ns. Holds old fs ns) k.0 h)))))

    -- the close of a container that stands in another
    pub close_answer : (here : Place) (x : Bracket) → after ≡ past_token here rest (TokenKind.Mark (close_mark x)) 1 → 1 < length octets
        → get_or octets 0 0 ≡ close_octet x
        → ((fs : List Frame) (ss : Symbols) → Holds old fs ss → (closes x fs old.stage ≡ true) × (ss ≡ [])) → IsHere old here → 1 < length old.frames.items
        → ((fs : List Frame) → Holds old fs [] → Does takes (told fs []) (closed x (setting_of old) (spot_of old after.used) fs) (Ok Goes) new a b)
        → EndsBy takes old new rest after octets (Ok Taken.Uses) a b
    close_answer here x there more first fits is nested does =
        ends_so old new rest after octets 1 Taken.Uses a b
        (λ fs ss h.
        let bare = fits fs ss h.holds in
        let deep = many fs ss h.holds in
        let k = closing old.catalog.now old.limits rest.used (rest.used + 1) old.start old.context x fs old.stage bare.0 in
        subst (λ r. StrodeFrom takes fs ss old new rest r octets 1 a b) (sym there)
        (token_strode old new rest octets a b fs ss h same here (TokenKind.Mark (close_mark x)) [] 1 false (Mark' (close_mark x))
        (closed x (setting_of old) (spot_of old (rest.used + 1)) fs) more (not_top fs deep) (is fs ss h.holds)
        (subst (λ p. IsFound p rest octets (TokenKind.Mark (close_mark x)) [] 1 false) (sym (is fs ss h.holds))
        (close_found x fs old.stage rest octets bare.0 (omega arith) first)) (mark_says (close_mark x))
        (ap (λ ns. turn old.catalog.now old.limits (at old.start old.context fs ns old.stage) (token_of (lexeme_at rest (TokenKind.Mark (close_mark x)) [] 1)
        (Mark' (close_mark x)))) bare.1 ∙ k.0)
        (λ q e. close_stays (setting_of old) (spot_of old (rest.used + 1)) q x fs deep e) (inr refl)
        (subst (λ ns. Does takes (told fs ns) (closed x (setting_of old) (spot_of old (rest.used + 1)) fs) (Ok Goes) new a b) (sym bare.1)
        (subst (λ (r : Rest). Does takes (told fs []) (closed x (setting_of old) (spot_of old r.used) fs) (Ok Goes) new a b) there
        (does fs (subst (λ ns. Holds old fs ns) bare.1 h.holds)))))) more (ap (λ (r : Rest). r.used) there) same
      where
        many : (fs : List Frame) (ss : Symbols) → Holds old fs ss → 1 < length fs
        many fs ss h =
            let e : length (open_brackets old) ≡ length (brackets_of fs) = ap (λ (w : List Bracket). length w) h.0.frames in
            let m : length (brackets_of fs) ≡ length fs = length-map fs bracket_of in
            let n : length (open_brackets old) ≡ length old.frames.items = length-reverse old.frames.items in
            omega arith

        not_top : (fs : List Frame) → 1 < length fs → is_top fs ≡ false
        not_top [] h = absurd (omega arith)
        not_top (f ∷ fs) h = refl

    -- an annotation in a container, the blank behind it and `::`
    pub symbol_note_answer : (here : Place) (token : FoundToken) (m : ℕ) (s : Option (List ℕ)) (x : Result Turned Reason)
        → after ≡ behind_note here rest token m → token.count + m + 2 < length octets → Takes Stage.Ready old rest octets
        → ((fs : List Frame) (ss : Symbols) → Holds old fs ss → is_top fs ≡ false) → IsHere old here
        → SymbolThere old.context here rest octets token s → IsPassed (drop token.count octets) m
        → get_or octets (token.count + m) 0 ≡ 58 → get_or octets (token.count + m + 1) 0 ≡ 58
        → ((fs : List Frame) (ss : Symbols) → Holds old fs ss
        → Does takes (told fs ss) (goes (at old.start old.context fs (ss ++ s ∷ []) Stage.Ready)) x new a b)
        → EndsBy takes old new rest after octets (only_goes x) a b
    symbol_note_answer here token m s x there more t inner is symbol passed one two does =
        let n = token.count in
        let used = blank_used (past_token here rest token.kind n) m in
        let y = symbol.there in
        goes_so (n + m + 2) (behind_note here rest token m) (λ fs ss. goes (at old.start old.context fs (ss ++ s ∷ []) Stage.Ready)) x there more (omega arith)
        (λ fs ss h d.
        let noting = at old.start old.context fs (ss ++ s ∷ []) Stage.Ready in
        let r = reading_of old fs ss in
        let top = inner fs ss h.holds in
        let fits = h.fits in
        let begun = begun_inner old.start rest.used fs ss top in
        token_leads old new rest octets a b fs ss h same (behind_note here rest token m) (n + m + 2) (goes noting) more (omega arith) top
        (λ q e. went (StaysIn old.start) noting q e (top, refl, tt)) d
        (λ q e stays.
        subst (λ p. Passes old.catalog.now old.limits (with_scan (resting rest) r) octets (n + m + 2) (with_scan (resting (behind_note p rest token m)) q))
        (sym (is fs ss h.holds))
        (went (λ k. Passes old.catalog.now old.limits (with_scan (resting rest) r) octets (n + m + 2)
        (with_scan (resting (behind_note (place r) rest token m)) k))
        noting q e
        (note_passes old.catalog.now old.limits r top rest octets token.kind y.there.kept n m token.left y.content (omega arith) (omega arith)
        (subst (λ p. IsFound p rest octets token.kind y.there.kept n token.left) (is fs ss h.holds) y.there.found) y.there.says
        (subst IsCalm (sym t.stage) tt) h.still t.stage symbol.held (subst (λ p. takes_colon p token.kind ≡ true) (is fs ss h.holds) y.may)
        (y.waits (setting_of old) (rest.used + n) old.start fs ss) s (symbol_held symbol.held s symbol.is) passed more one two)))) does

    -- a field's name, the blank behind it and its colon
    pub key_answer : (token : FoundToken) (m : ℕ) (name : Option (List ℕ)) (x : Result Turned Reason)
        → after ≡ past_token Place.Name (past_blank (past_token Place.Name rest token.kind token.count) m) (TokenKind.Mark Mark.Colon) 1
        → token.count + m + 1 < length octets → Takes Stage.Name old rest octets
        → NameThere old.context rest octets token name → IsPassed (drop token.count octets) m → get_or octets (token.count + m) 0 ≡ 58
        → get_or octets (token.count + m + 1) 0 ≢ 58
        → ((fs : List Frame) → Holds old fs [] → Does takes (told fs []) (named old.start old.context fs name) x new a b)
        → EndsBy takes old new rest after octets (only_goes x) a b
    key_answer token m name x there more t is passed colon one does =
        let n = token.count in
        let kind = token.kind in
        let used = blank_used (past_token Place.Name rest kind n) m in
        let last : Place → Rest = λ p. past_token p (past_blank (past_token p rest kind n) m) (TokenKind.Mark Mark.Colon) 1 in
        goes_so (n + m + 1) (last Place.Name) (λ fs ss. named old.start old.context fs name) x there more (omega arith)
        (λ fs ss h d.
        let r = reading_of old fs ss in
        let top = (bare_at Stage.Name t.stage (λ e. cc) fs ss h.holds).1 in
        let here = ap (place_in fs) t.stage ∙ open_name fs ss (subst (λ s. AreOpen fs ss (calm s)) t.stage h.holds.0.open_there) in
        let fits = h.fits in
        let begun = begun_inner old.start rest.used fs ss top in
        token_leads old new rest octets a b fs ss h same (last Place.Name) (n + m + 1) (named old.start old.context fs name) more (omega arith) top
        (λ q e. named_stays (setting_of old) (spot_of old 0) q fs name e) d
        (λ q e stays.
        subst (λ p. Passes old.catalog.now old.limits (with_scan (resting rest) r) octets (n + m + 1) (with_scan (resting (last p)) q)) here
        (name_passes old.catalog.now old.limits r top rest octets kind is.there.kept n m token.left is.content (omega arith) (omega arith)
        (subst (λ p. IsFound p rest octets kind is.there.kept n token.left) (sym here) is.there.found) is.there.says
        (subst IsCalm (sym t.stage) tt) h.still t.stage q passed more name (λ any. subst (λ p. takes_colon p kind ≡ true) (sym here) is.may)
        (is.names (setting_of old) (rest.used + n) old.start fs) colon one e)))
        (λ fs ss h.
        let k = bare_at Stage.Name t.stage (λ e. cc) fs ss h in
        subst (λ ns. Does takes (told fs ns) (named old.start old.context fs name) x new a b) (sym k.0)
        (does fs (subst (λ ns. Holds old fs ns) k.0 h)))

    pub note_answer : (here : Place) (token : FoundToken) (f : FoundNote octets token) (m : ℕ) → after ≡ behind_note here rest token m
        → token.count + m + 2 < length octets
        → Takes Stage.Ready old rest octets → new.stage ≡ old.stage → IsHere old here
        → ((fs : List Frame) (ss : Symbols) → Holds old fs ss → new.start ≡ begun_at old.start rest.used fs ss) → new.context ≡ old.context
        → IsPassed (drop token.count octets) m → get_or octets (token.count + m) 0 ≡ 58 → get_or octets (token.count + m + 1) 0 ≡ 58
        → ((fs : List Frame) (ss : Symbols) → Holds old fs ss → WentOn takes (told fs ss) new fs (ss ++ f.name ∷ []) a b)
        → EndsBy takes old new rest after octets (Ok Taken.Uses) a b
    note_answer here token f m there more t stage is start context passed one two w =
        let used = blank_used (past_token here rest token.kind token.count) m in
        let last = ap (λ (r : Rest). r.used) there in
        ends_so old new rest after octets (token.count + m + 2) Taken.Uses a b
        (λ fs ss h. subst (λ r. StrodeFrom takes fs ss old new rest r octets (token.count + m + 2) a b) (sym there)
        (note_strode old new rest octets a b fs ss h same here token f m more t.stage stage (is fs ss h.holds) (start fs ss h.holds) context passed one
        two (w fs ss h.holds))) more (omega arith) same

  -- an open, at which an item of the top level begins
  pub open_answer : (old new : TextWalk) (rest after : Rest) (octets : List ℕ) (a b : V) (k : ℕ) → SameSetting (begun_with old k) new
      → (here : Place) (bracket : Bracket) (x : Result Turned Reason) → after ≡ past_token here rest (TokenKind.Mark (open_mark bracket)) 1
      → Takes Stage.Ready old rest octets → OpensAt octets bracket → IsHere old here → IsBegun old rest k
      → ((fs : List Frame) (ss : Symbols) → Holds old fs ss → nat_lt (length fs) old.limits.depth ≡ true)
      → ((fs : List Frame) (ss : Symbols) → Holds old fs ss → Does takes (told fs ss) (opening bracket old.limits.depth k old.context fs ss) x new a b)
      → EndsBy takes old new rest after octets (only_goes x) a b
  open_answer old new rest after octets a b k s here bracket x there t opens is begun admits does =
      let same = settings_begun old new k s in
      goes_so old new rest after octets a b same 1 (past_token here rest (TokenKind.Mark (open_mark bracket)) 1)
      (λ fs ss. opening bracket old.limits.depth (begun_at old.start rest.used fs ss) old.context fs ss) x there t.more refl
      (λ fs ss h d. open_strode old new rest octets a b fs ss h same here bracket t.more opens t.stage (is fs ss h.holds) (admits fs ss h.holds) d)
      (λ fs ss h. subst (λ i. Does takes (told fs ss) (opening bracket old.limits.depth i old.context fs ss) x new a b) (begun fs ss h) (does fs ss h))
