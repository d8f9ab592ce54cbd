-- Tokens inside of containers, taken up by a loop whose place stands beside the reader.
use Rattle.std.proofs.Common.{◌≡◌, ◌≢◌, ℕ, ◌+◌, ◌-◌, ◌<◌, ◌≤◌, Bool, true, false, List, [], ◌∷◌, ◌++◌, length, take, drop, get_or, reverse, Option, Some, None, Result, Ok, refl, ap, sym, ◌∙◌, subst, arith, length-drop, drop-drop, ◌⊎◌, inl, inr}
use Rattle.std.proofs.lemmas.Grind.{common_steps}
use Rattle.std.proofs.lemmas.List.{length-take, length-map, reverse-append}
use Rattle.std.specs.Prelude.{IfSome, if◌then◌else◌, nat_lt, ◌==◌, ◌^◌}
use Rattle.ion_visiting.specs.Events.{closes as closes'}
use Rattle.ion_text.specs.Names.{AreAround, AreOpen, BeginsName, BeginsValue, Bracket, Does, DoesAlone, EndsBy, Event, FoundSymbol, FoundToken, Frame, Goes, Hears, Holds, IsFound, IsHere, IsPassed, Left, lexeme_at, ListOrSexp, Mark, MayClose, Next, OpensAt, Part, Payload, Place, Rest, RestsBehind, SameSetting, Scalar, Stage, Symbols, TableFilter, Taken, Takes, Tells, TextWalk, TokenKind, Value, WasTold, annotated, annotation, at, behind_comma, behind_value, beyond_depth, bracket_of, brackets_of, calm, close_mark, close_octet, closed, closes, closes_in, ended, ends_symbol, events_of, feed, first_now, goes, heard, is_inside, is_name, is_of_table, is_same, is_top, layer_events, name, on_comma, open_brackets, open_mark, opened, opening, opens, out-Payload, part, past_blank, past_token, payload_of, place, place_in, reading_of, resting, setting_of, spot_of, takes_colon, told}
use Rattle.ion_text.specs.declared.walk.inside.Now.{Now}
use Rattle.ion_text.specs.declared.walk.inside.Spot.{Spot}
use Rattle.ion_text.specs.walk.Inside.{BlankSteps, CommaSteps, IsValueNow, MayCloseNow, Stands, StepsTo, around_now, behind_comma_now, behind_now, bracket_now, first_inside, innermost, noted_now, past_spot, past_white, place_now, rest_at, stage_now, viewed, with_note, word_spot}
use Rattle.ion_text.specs.walk.Holds.{told_in}
use Rattle.ion_model.specs.declared.value.Payload.TheVariants as payloads
use Rattle.ion_visiting.specs.declared.table_filter.Table.{Table}
use Rattle.ion_visiting.specs.Tables.{AreKept, LetsPass, begins_struct, heard_by}
use Rattle.ion_visiting.specs.laws.Filters.{hears_none, IsOther, none_noted, note_passes, visitor_tells}
use Rattle.ion_tokens.specs.machine.Scanning.{run as run_over}
use Rattle.ion_tokens.proofs.runs.WholeComments.{white_rests}
use Rattle.ion_text.proofs.Ended.{bare_alone, behind_in, inner_ends, staged, whole_does}
use Rattle.ion_text.proofs.Holding.{part_layer}
use Rattle.ion_text.proofs.LastTokens.{ends_on, value_answer, word_answer}
use Rattle.ion_text.proofs.SaidThere.{begins_name, symbol_waits}
use Rattle.ion_text.proofs.Opened.{closes_does, comma_goes, entered, names_does, notes_went}
use Rattle.ion_text.proofs.TokenSteps.{begun_inner, blank_used}
use Rattle.std.proofs.lemmas.Bool.Decides.{nat_tests}
use Rattle.ion_text.proofs.WholeTokens.{blank_strode, close_answer, comma_answer, key_answer, moved_by, open_answer, settings_none, strode_none, symbol_note_answer}

-- 1. What stands there.

inner : (fs : List Frame) (b : Bracket) (bs : List Bracket) → brackets_of fs ≡ b ∷ bs → is_top fs ≡ false
inner [] b bs e = absurd cc
inner (f ∷ fs) b bs e = refl

calm_now : (now : Now) → calm (stage_now now) ≡ stage_now now
calm_now Now.Name = refl
calm_now Now.BehindItem = refl
calm_now Now.BehindField = refl
calm_now _ = refl

ready_now : (now : Now) → IsValueNow now → stage_now now ≡ Stage.Ready
ready_now Now.Item h = refl
ready_now Now.Element h = refl
ready_now Now.Value h = refl
ready_now Now.NotedItem h = refl
ready_now Now.NotedElement h = refl
ready_now Now.NotedValue h = refl
ready_now _ h = absurd h

pub value_now : (now : Now) → IsValueNow now → is_name (place_now now) ≡ false
value_now Now.Item h = refl
value_now Now.Element h = refl
value_now Now.Value h = refl
value_now Now.NotedItem h = refl
value_now Now.NotedElement h = refl
value_now Now.NotedValue h = refl
value_now _ h = absurd h

place_of : (now : Now) (f : Frame) (fs : List Frame) (bs : List Bracket) (ss : Symbols) → brackets_of (f ∷ fs) ≡ bracket_now now ∷ bs
    → AreOpen (f ∷ fs) ss (stage_now now) → place_now now ≡ place_in (f ∷ fs) (stage_now now)
place_of Now.Item (Frame.Items ListOrSexp.List ns vs) fs bs ss e o = refl
place_of Now.BehindItem (Frame.Items ListOrSexp.List ns vs) fs bs ss e o = refl
place_of Now.Element (Frame.Items ListOrSexp.Sexp ns vs) fs bs ss e o = refl
place_of Now.Value (Frame.Named ns ms s) fs bs ss e o = refl
place_of Now.NotedItem (Frame.Items ListOrSexp.List ns vs) fs bs ss e o = refl
place_of Now.NotedElement (Frame.Items ListOrSexp.Sexp ns vs) fs bs ss e o = refl
place_of Now.NotedValue (Frame.Named ns ms s) fs bs ss e o = refl
place_of Now.Name (Frame.Fields ns ms) fs bs ss e o = refl
place_of Now.BehindField (Frame.Fields ns ms) fs bs ss e o = refl
place_of Now.Value (Frame.Fields ns ms) fs bs ss e o = absurd o
place_of Now.NotedValue (Frame.Fields ns ms) fs bs ss e o = absurd o
place_of Now.Name (Frame.Named ns ms s) fs bs ss e o = absurd o
place_of Now.BehindField (Frame.Named ns ms s) fs bs ss e o = absurd o
place_of _ (Frame.Items ListOrSexp.List ns vs) fs bs ss e o = absurd cc
place_of _ (Frame.Items ListOrSexp.Sexp ns vs) fs bs ss e o = absurd cc
place_of _ _ fs bs ss e o = absurd cc

module _ (r : TextWalk) (now : Now) (s : Stands r now) where
  pub inside : (fs : List Frame) (ss : Symbols) → Holds (viewed r now) fs ss → is_top fs ≡ false
  inside fs ss h = inner fs (bracket_now now) s.around (sym h.0.frames ∙ s.inside)

  pub here_is : IsHere (viewed r now) (place_now now)
  here_is [] ss h = let e = sym h.0.frames ∙ s.inside in absurd cc
  here_is (f ∷ fs) ss h = place_of now f fs s.around ss (sym h.0.frames ∙ s.inside) (subst (λ n. AreOpen (f ∷ fs) ss n) (calm_now now) h.0.open_there)

viewed_settings : (r : TextWalk) (now next : Now) → SameSetting (viewed r now) (viewed r next)
viewed_settings r now next = record { catalog = refl; limits = refl; scanner = refl; awaited = refl; failed = refl }

same_self : (b : Bracket) → is_same b b ≡ true
same_self Bracket.List = refl
same_self Bracket.Sexp = refl
same_self Bracket.Fields = refl

pub closes_there : (r : TextWalk) (now : Now) (x : Bracket) → Stands r now → x ≡ bracket_now now → closes_in x (open_brackets r) ≡ true
closes_there r now x s is =
    ap (closes_in x) s.inside ∙ (ap (λ b. is_same b (bracket_now now)) is ∙ same_self (bracket_now now))

pub innermost_is : (bs : List Bracket) (b : Bracket) → innermost bs ≡ Some b → (outer : List Bracket) × (bs ≡ b ∷ outer)
innermost_is [] b e = absurd cc
innermost_is (x ∷ bs) b e = let same : x ≡ b = cc in (bs, ap (λ y. y ∷ bs) same)

pub stands_if : (r : TextWalk) (b : Bracket) (o : Option Now) → r.filter.table ≡ Table.No → innermost (open_brackets r) ≡ Some b
    → IfSome o (λ now. b ≡ bracket_now now) → IfSome o (λ now. Stands r now)
stands_if r b None plain is h = tt
stands_if r b (Some now) plain is h =
    let i = innermost_is (open_brackets r) b is in
    record { plain = plain; around = i.0; inside = i.1 ∙ ap (λ x. x ∷ i.0) h }

-- a token at the front of the first of these octets, whose end the octet behind it shows
pub found_longer : (p : Place) (r : Rest) (w : List ℕ) (k n : ℕ) (kind : TokenKind) (kept : List ℕ) → IsFound p r (take k w) kind kept n true
    → IsFound p r w kind kept n true
found_longer p r w k n kind kept f =
    let shown = f.shown in
    let size = length-take k w in
    let few : n < k = omega arith in
    record {
      some = f.some;
      shown = omega arith;
      known = f.known;
      ran = subst (λ u. run_over p u (resting r) ≡ Next f.known) (front_same n k w (omega arith)) f.ran;
      ends = subst (λ o. feed p f.known o ≡ Left (lexeme_at r kind kept n) (resting (past_token p r kind n))) (get_there n k w few) f.ends;
    }
  where
    front_same : (j k : ℕ) (w : List ℕ) → j ≤ k → take j (take k w) ≡ take j w
    front_same j k w h = grind (arith, common_steps)

    get_there : (j k : ℕ) (w : List ℕ) → j < k → get_or (take k w) j 0 ≡ get_or w j 0
    get_there j k w h = grind (arith, common_steps)

-- 2. Several steps.

module _ {V : Type 0} (takes : V → Event → V → Type 0) where
  -- none
  pub steps_none : (r : TextWalk) (s : Spot) (octets : List ℕ) (a : V) → Stands r s.now → s.at ≤ length octets → StepsTo takes r r s s octets a a
  steps_none r s octets a stands within = record {
    ends = λ first room.
        moved_by takes (viewed r s.now) (viewed r s.now) (rest_at first s) (rest_at first s) (drop s.at octets) 0 Taken.Uses a a
        (strode_none takes (viewed r s.now) (rest_at first s) (drop s.at octets) a) (settings_none (viewed r s.now));
    on = omega arith;
    within = within;
    stands = stands;
  }

  -- one behind the other
  pub steps_on : (old mid new : TextWalk) (x y z : Spot) (octets : List ℕ) (a m b : V) → StepsTo takes old mid x y octets a m
      → StepsTo takes mid new y z octets m b → StepsTo takes old new x z octets a b
  steps_on old mid new x y z octets a m b one two = record {
    ends = λ first room.
        let e = one.ends first room in
        let on = one.on in
        let i = (rest_at first y).used - (rest_at first x).used in
        let total : x.at + i ≡ y.at = omega arith in
        ends_on takes (viewed old x.now) (viewed mid y.now) (viewed new z.now) (rest_at first x) (rest_at first y) (rest_at first z)
        (drop x.at octets) (drop y.at octets) i a m b
        (sym (drop-drop i x.at octets ∙ ap (λ n. drop n octets) total)) e.same e.ended (Ok Taken.Uses) (two.ends first room);
    on = let p = one.on in let q = two.on in omega arith;
    within = two.within;
    stands = two.stands;
  }

  -- none, beside which a token was read
  pub beside_steps : (r new : TextWalk) (s : Spot) (octets : List ℕ) (a : V) → new ≡ record r { beside = new.beside } → Stands r s.now → s.at ≤ length octets
      → StepsTo takes r new s s octets a a
  beside_steps r new s octets a is stands within =
      let same : TextWalk = record r { beside = new.beside } in
      subst (λ w. StepsTo takes r w s s octets a a) (sym is) (record {
        ends = λ first room.
            let rest = rest_at first s in
            let none = strode_none takes (viewed r s.now) rest (drop s.at octets) a in
            moved_by takes (viewed r s.now) (viewed same s.now) rest rest (drop s.at octets) 0 Taken.Uses a a
            (record {
              leads = λ fs ss h.
                  let e = none.leads fs ss h in
                  record {
                    frames = e.frames;
                    notes = e.notes;
                    passes = e.passes;
                    ahead = record { holds = e.ahead.holds; still = e.ahead.still; fits = e.ahead.fits };
                    hears = e.hears;
                  };
              within = none.within;
              used = none.used;
            })
            (record { catalog = refl; limits = refl; scanner = refl; awaited = refl; failed = refl });
        on = omega arith;
        within = within;
        stands = record { plain = stands.plain; around = stands.around; inside = stands.inside };
      })

  -- 3. A blank.

  record_is : (i j k l : ℕ) (b c : Bool) → i ≡ j → k ≡ l → b ≡ c → (let x : Rest = record { start = i; used = k; colon = b } in x)
      ≡ (let y : Rest = record { start = j; used = l; colon = c } in y)
  record_is i j k l b c e f g =
      ap (λ n. let x : Rest = record { start = n; used = k; colon = b } in x) e
      ∙ (ap (λ n. let x : Rest = record { start = j; used = n; colon = b } in x) f
      ∙ ap (λ n. let x : Rest = record { start = j; used = l; colon = n } in x) g)

  -- behind a token that takes no colon
  past_at : (first : Rest) (s : Spot) (n : ℕ) (now : Now) (p : Place) (kind : TokenKind) → takes_colon p kind ≡ false
      → rest_at first (past_spot s n now) ≡ past_token p (rest_at first s) kind n
  past_at first s n now p kind e =
      let one : first.used + (s.at + n) - 0 ≡ first.used + s.at + n = omega arith in
      let two : first.used + (s.at + n) ≡ first.used + s.at + n = omega arith in
      record_is _ _ _ _ false (takes_colon p kind) one two (sym e)

  pub white_by : (s : Spot) (n : ℕ) → ((past_white s n).at ≡ s.at + n) × ((past_white s n).now ≡ s.now)
  white_by s n = by (n == 0) refl
    where
      by : (b : Bool) → (n == 0) ≡ b
          → ((if b then s else record { at = s.at + n; lag = 1; colon = s.colon; now = s.now }).at ≡ s.at + n)
          × ((if b then s else record { at = s.at + n; lag = 1; colon = s.colon; now = s.now }).now ≡ s.now)
      by true e = let z : n ≡ 0 = grind (arith, nat_tests) in (omega arith, refl)
      by false e = (refl, refl)

  white_at : (first : Rest) (s : Spot) (n : ℕ) → past_blank (rest_at first s) n ≡ rest_at first (past_white s n)
  white_at first s n = by (n == 0) refl
    where
      by : (b : Bool) → (n == 0) ≡ b → (if b then rest_at first s else record { start = first.used + s.at + (n - 1); used = first.used + s.at + n; colon = s.colon })
          ≡ rest_at first (if b then s else record { at = s.at + n; lag = 1; colon = s.colon; now = s.now })
      by true e = refl
      by false e =
          let some : n ≢ 0 = λ z. let never = sym (ap (λ k. k == 0) z) ∙ e in cc in
          let one : first.used + s.at + (n - 1) ≡ first.used + (s.at + n) - 1 = omega arith in
          let two : first.used + s.at + n ≡ first.used + (s.at + n) = omega arith in
          record_is _ _ _ _ s.colon s.colon one two refl

  pub blank_steps : (r : TextWalk) (s t : Spot) (octets : List ℕ) (a : V) → Stands r s.now → BlankSteps s t octets → s.at < length octets
      → t.at < length octets → StepsTo takes r r s t octets a a
  blank_steps r s t octets a stands b more less =
      subst (λ u. u.at < length octets → StepsTo takes r r s u octets a a) (sym b.to_is) from less
    where
      n : ℕ
      n = b.count

      u : Spot
      u = past_white s n

      from : u.at < length octets → StepsTo takes r r s u octets a a
      from less =
          let w = white_by s n in
          let at : u.at ≡ s.at + n = w.0 in
          let size : length (drop s.at octets) ≡ length octets - s.at = length-drop s.at octets in
          record {
            ends = λ first room.
                subst (λ k. EndsBy takes (viewed r s.now) (viewed r k) (rest_at first s) (rest_at first u) (drop s.at octets) (Ok Taken.Uses) a a) (sym w.1)
                (moved_by takes (viewed r s.now) (viewed r s.now) (rest_at first s) (rest_at first u) (drop s.at octets) n Taken.Uses a a
                (blank_strode takes (viewed r s.now) (rest_at first s) (rest_at first u) (drop s.at octets) n a
                (subst (λ q. RestsBehind (drop s.at octets) n (rest_at first s) q) (white_at first s n)
                (white_rests (drop s.at octets) n (omega arith) b.passed (rest_at first s))) (omega arith)) (settings_none (viewed r s.now)));
            on = omega arith;
            within = omega arith;
            stands = subst (λ k. Stands r k) (sym w.1) stands;
          }

  -- 4. What is told of no local symbol table.

  no_table : (t : Table) (b : Bool) → t ≡ Table.No → is_of_table t b ≡ false
  no_table Table.No b e = refl
  no_table _ b e = absurd cc

  lets_pass : (f : TableFilter) (a : V) → f.table ≡ Table.No → (es : List Event) → WasTold f es → LetsPass f × Hears takes (heard es) es a a
  lets_pass f a none es h =
      let k = subst (λ t. AreKept t es f.notes f.tables) none h.kept in (
        record { table = none; notes = k.0; tables = k.1 },
        hears_none takes (heard es) es a (sym (ap (λ t. heard_by t es) (sym h.table ∙ none))),
      )

  pub plain_tells : (f : TableFilter) (e : Event) (a b : V) → IsOther e → f.table ≡ Table.No → takes a e b
      → (es : List Event) → WasTold f es → WasTold f (es ++ e ∷ []) × Hears takes (heard es) (heard (es ++ e ∷ [])) a b
  plain_tells f e a b other none went =
      visitor_tells takes e f f a a b other (no_table f.table (begins_struct e) none) (lets_pass f a none) went

  note_tells : (f : TableFilter) (s : Option (List ℕ)) (a b : V) → f.table ≡ Table.No → takes a (annotation s) b
      → (es : List Event) → WasTold f es → WasTold f (es ++ annotation s ∷ []) × Hears takes (heard es) (heard (es ++ annotation s ∷ [])) a b
  note_tells f s a b none went = none_noted takes s f f a b none (note_passes takes s f f a a b (lets_pass f a none) went)

  -- 5. A value.

  behind_is : (now : Now) (bs : List Bracket) → IsValueNow now → stage_now (behind_now now) ≡ behind_value (bracket_now now ∷ bs)
  behind_is Now.Item bs h = refl
  behind_is Now.Element bs h = refl
  behind_is Now.Value bs h = refl
  behind_is Now.NotedItem bs h = refl
  behind_is Now.NotedElement bs h = refl
  behind_is Now.NotedValue bs h = refl
  behind_is _ bs h = absurd h

  behind_bare : (now : Now) → IsValueNow now → noted_now (behind_now now) ≡ false
  behind_bare Now.Item h = refl
  behind_bare Now.Element h = refl
  behind_bare Now.Value h = refl
  behind_bare Now.NotedItem h = refl
  behind_bare Now.NotedElement h = refl
  behind_bare Now.NotedValue h = refl
  behind_bare _ h = absurd h

  bracket_same : (now : Now) → bracket_now (behind_now now) ≡ bracket_now now
  bracket_same Now.Item = refl
  bracket_same Now.Value = refl
  bracket_same Now.NotedItem = refl
  bracket_same Now.NotedElement = refl
  bracket_same Now.NotedValue = refl
  bracket_same _ = refl

  pub stands_behind : (r : TextWalk) (now : Now) → Stands r now → Stands r (behind_now now)
  stands_behind r now s = record {
    plain = s.plain;
    around = s.around;
    inside = s.inside ∙ ap (λ b. b ∷ s.around) (sym (bracket_same now));
  }

  -- the reader behind a value
  behind_viewed : (r : TextWalk) (now : Now) (s : Stands r now) → IsValueNow now
      → viewed r (behind_now now) ≡ behind_in (viewed r now) (behind_value (open_brackets r))
  behind_viewed r now s value =
      ap (λ n. record r { noted = n; stage = stage_now (behind_now now) }) (behind_bare now value)
      ∙ ap (λ n. behind_in (viewed r now) n) (behind_is now s.around value ∙ ap behind_value (sym s.inside))

  -- a value that was told ends
  value_does : (r : TextWalk) (now : Now) (end : ℕ) (payload : Payload) (a b : V) → Stands r now → IsValueNow now
      → layer_events (out-Payload payload) ≡ part payload ∷ [] → takes a (part payload) b → (fs : List Frame) (ss : Symbols) → Holds (viewed r now) fs ss
      → Does takes (told fs ss) (ended (setting_of r) (spot_of r end) fs (annotated ss payload)) (Ok Goes) (viewed r (behind_now now)) a b
  value_does r now end payload a b s value leaf went =
      let old = viewed r now in
      whole_does takes (λ fs v. ended (setting_of r) (spot_of r end) fs v) old payload r.filter (Ok Goes) (viewed r (behind_now now)) a b (ready_now now value)
      leaf (plain_tells r.filter (part payload) a b tt s.plain went)
      (inner_ends old end (viewed r (behind_now now)) (ap is_inside s.inside) (behind_viewed r now s value))

  pub here_steps : (r : TextWalk) (s : Spot) (octets : List ℕ) (payload : Payload) (token : FoundToken) (a b : V) → Stands r s.now → IsValueNow s.now
      → 0 < token.count → s.at + token.count < length octets → takes_colon (place_now s.now) token.kind ≡ false → layer_events (out-Payload payload) ≡ part payload ∷ []
      → ((q : Rest) → BeginsValue false (place_now s.now) q (drop s.at octets) token payload) → takes a (part payload) b
      → StepsTo takes r r s (past_spot s token.count (behind_now s.now)) octets a b
  here_steps r s octets payload token a b stands value some more plain leaf begins went =
      let old = viewed r s.now in
      let new = viewed r (behind_now s.now) in
      let t = past_spot s token.count (behind_now s.now) in
      let size : length (drop s.at octets) ≡ length octets - s.at = length-drop s.at octets in
      record {
        ends = λ first room.
            value_answer takes old new (rest_at first s) (rest_at first t) (drop s.at octets) a b r.start (viewed_settings r s.now (behind_now s.now))
            (λ fs ss h. sym (begun_inner r.start (first.used + s.at) fs ss (inside r s.now stands fs ss h))) (place_now s.now) (here_is r s.now stands)
            (record { stage = ready_now s.now value; more = omega arith; room = omega arith }) payload
            (λ fs ss h top. let never = sym (inside r s.now stands fs ss h) ∙ top in absurd cc) token (Ok Goes)
            (past_at first s token.count (behind_now s.now) (place_now s.now) token.kind plain) (omega arith)
            (λ fs ss h. begins (rest_at first s))
            (value_does r s.now (first.used + (s.at + token.count)) payload a b stands value leaf went);
        on = omega arith;
        within = omega arith;
        stands = stands_behind r s.now stands;
      }

  -- the same in whatever place
  pub value_steps : (r : TextWalk) (s : Spot) (octets : List ℕ) (payload : Payload) (token : FoundToken) (a b : V) → Stands r s.now → IsValueNow s.now
      → 0 < token.count → s.at + token.count < length octets → takes_colon (place_now s.now) token.kind ≡ false → layer_events (out-Payload payload) ≡ part payload ∷ []
      → ((p : Place) (q : Rest) → is_name p ≡ false → BeginsValue false p q (drop s.at octets) token payload) → takes a (part payload) b
      → StepsTo takes r r s (past_spot s token.count (behind_now s.now)) octets a b
  value_steps r s octets payload token a b stands value some more plain leaf begins went =
      here_steps r s octets payload token a b stands value some more plain leaf (λ q. begins (place_now s.now) q (value_now s.now value)) went

  -- 6. A comma.

  comma_is : (now next : Now) → behind_comma_now now ≡ Some next → (bs : List Bracket)
      → (stage_now now ≡ Stage.After) × (behind_comma (bracket_now now ∷ bs) ≡ Some (stage_now next)) × (bracket_now next ≡ bracket_now now)
      × (noted_now next ≡ noted_now now)
  comma_is Now.BehindItem next e bs =
      let n : Now.Item ≡ next = cc in
      subst (λ k. (Stage.After ≡ Stage.After) × (behind_comma (Bracket.List ∷ bs) ≡ Some (stage_now k)) × (bracket_now k ≡ Bracket.List)
      × (noted_now k ≡ false)) n (refl, refl, refl, refl)
  comma_is Now.BehindField next e bs =
      let n : Now.Name ≡ next = cc in
      subst (λ k. (Stage.After ≡ Stage.After) × (behind_comma (Bracket.Fields ∷ bs) ≡ Some (stage_now k)) × (bracket_now k ≡ Bracket.Fields)
      × (noted_now k ≡ false)) n (refl, refl, refl, refl)
  comma_is _ next e bs = absurd cc

  pub comma_steps : (r : TextWalk) (s t : Spot) (octets : List ℕ) (a : V) → Stands r s.now → CommaSteps s t octets → s.at + 1 < length octets
      → StepsTo takes r r s t octets a a
  comma_steps r s t octets a stands (inl same) more = subst (λ u. StepsTo takes r r s u octets a a) (sym same) (steps_none r s octets a stands (omega arith))
  comma_steps r s t octets a stands (inr c) more =
      let next = c.0 in
      let is = comma_is s.now next c.1 stands.around in
      let u = past_spot s 1 next in
      let size : length (drop s.at octets) ≡ length octets - s.at = length-drop s.at octets in
      subst (λ u. StepsTo takes r r s u octets a a) (sym c.2) (record {
        ends = λ first room.
            comma_answer takes (viewed r s.now) (viewed r next) (rest_at first s) (rest_at first u) (drop s.at octets) a a (viewed_settings r s.now next)
            (place_now s.now) (Ok Goes) (past_at first s 1 next (place_now s.now) (TokenKind.Mark Mark.Comma) refl)
            (record { stage = is.0; more = omega arith; room = omega arith }) c.3 (here_is r s.now stands) refl
            (comma_goes (viewed r s.now) (viewed r next) (stage_now next) (ap behind_comma stands.inside ∙ is.1)
            (ap (λ n. record r { noted = n; stage = stage_now next }) is.3) is.0);
        on = omega arith;
        within = omega arith;
        stands = record {
          plain = stands.plain;
          around = stands.around;
          inside = stands.inside ∙ ap (λ b. b ∷ stands.around) (sym is.2);
        };
      })

  -- 7. A field's name and its colon.

  pub key_steps : (r : TextWalk) (s : Spot) (octets : List ℕ) (token : FoundToken) (m : ℕ) (name' : Option (List ℕ)) (a b : V) → Stands r s.now
      → s.now ≡ Now.Name → s.at ≤ length octets → token.count + m + 1 < length (drop s.at octets)
      → ((q : Rest) → BeginsName Place.Name q (drop s.at octets) token name') → IsPassed (drop token.count (drop s.at octets)) m
      → get_or (drop s.at octets) (token.count + m) 0 ≡ 58 → get_or (drop s.at octets) (token.count + m + 1) 0 ≢ 58 → takes a (name name') b
      → StepsTo takes r r s (past_spot s (token.count + m + 1) Now.Value) octets a b
  key_steps r s octets token m name' a b stands now within more begins passed colon one went =
      let n = token.count in
      let t = past_spot s (n + m + 1) Now.Value in
      let size : length (drop s.at octets) ≡ length octets - s.at = length-drop s.at octets in
      let there = subst (λ k. Stands r k) now stands in
      record {
        ends = λ first room.
            let rest = rest_at first s in
            let used = blank_used (past_token Place.Name rest token.kind n) m in
            subst (λ k. EndsBy takes (viewed r k) (viewed r Now.Value) rest (rest_at first t) (drop s.at octets) (Ok Taken.Uses) a b) (sym now)
            (key_answer takes (viewed r Now.Name) (viewed r Now.Value) rest (rest_at first t) (drop s.at octets) a b (viewed_settings r Now.Name Now.Value)
            token m name' (Ok Goes) (record_is _ _ _ _ false false (omega arith) (omega arith) refl) more
            (record { stage = refl; more = omega arith; room = omega arith }) (begins_name r.context rest (drop s.at octets) token name' (begins rest)) passed
            colon one
            (names_does takes (viewed r Now.Name) (viewed r Now.Value) name' a b refl refl refl refl refl refl
            (plain_tells r.filter (name name') a b tt there.plain went)));
        on = omega arith;
        within = omega arith;
        stands = record { plain = there.plain; around = there.around; inside = there.inside };
      }

  -- 8. A symbol, null or truth, and the blank behind it.

  word_at : (first : Rest) (s : Spot) (n m : ℕ) (p : Place) (kind : TokenKind) → takes_colon p kind ≡ true
      → past_blank (past_token p (rest_at first s) kind n) m ≡ rest_at first (past_white (word_spot s n) m)
  word_at first s n m p kind e =
      let one : first.used + s.at + n ≡ first.used + (s.at + n) - 0 = omega arith in
      let two : first.used + s.at + n ≡ first.used + (s.at + n) = omega arith in
      ap (λ r. past_blank r m) (record_is _ _ _ _ (takes_colon p kind) true one two e) ∙ white_at first (word_spot s n) m

  pub word_steps : (r : TextWalk) (s : Spot) (octets : List ℕ) (scalar : Scalar) (said : Part) (m : ℕ) (a b : V) → Stands r s.now → IsValueNow s.now
      → s.at ≤ length octets → scalar.token.count + m < length (drop s.at octets)
      → ((p : Place) (q : Rest) → FoundSymbol p q (drop s.at octets) scalar (payload_of said)) → IsPassed (drop scalar.token.count (drop s.at octets)) m
      → ends_symbol (get_or (drop s.at octets) (scalar.token.count + m) 0) ≡ true → takes a (part (payload_of said)) b
      → StepsTo takes r r s (past_white (word_spot s scalar.token.count) m) octets a b
  word_steps r s octets scalar said m a b stands value within more found passed ends went =
      let n = scalar.token.count in
      let kind = scalar.token.kind in
      let p = place_now s.now in
      let d = drop s.at octets in
      let t = past_white (word_spot s n) m in
      let w = white_by (word_spot s n) m in
      let size : length d ≡ length octets - s.at = length-drop s.at octets in
      let at : t.at ≡ s.at + n + m = w.0 in
      record {
        ends = λ first room.
            let rest = rest_at first s in
            let x = symbol_waits r.context p rest d scalar (payload_of said) (found p rest) in
            let colon = x.1.may in
            let few : m ≤ length (drop n d) = omega (arith, length-drop n d) in
            subst (λ k. EndsBy takes (viewed r s.now) (viewed r k) rest (rest_at first t) d (Ok Taken.Uses) a b) (sym w.1)
            (word_answer takes (viewed r s.now) (viewed r (behind_now s.now)) rest (rest_at first t) d a b r.start
            (viewed_settings r s.now (behind_now s.now))
            (λ fs ss h. sym (begun_inner r.start (first.used + s.at) fs ss (inside r s.now stands fs ss h))) p (here_is r s.now stands)
            (record { stage = ready_now s.now value; more = omega (arith, (found p rest).part.token.found.some); room = omega arith }) (payload_of said)
            (λ fs ss h top. let never = sym (inside r s.now stands fs ss h) ∙ top in absurd cc) scalar.token m x.0 (Ok Goes) more
            (λ fs ss h top. let never = sym (inside r s.now stands fs ss h) ∙ top in absurd cc) x.1 x.2 x.3
            (subst (λ q. RestsBehind (drop n d) m (past_token p rest kind n) q) (word_at first s n m p kind colon)
            (white_rests (drop n d) m few passed (past_token p rest kind n))) ends
            (value_does r s.now (first.used + s.at + n) (payload_of said) a b stands value (part_layer said) went));
        on = omega arith;
        within = omega arith;
        stands = subst (λ k. Stands r k) (sym w.1) (stands_behind r s.now stands);
      }

  -- 9. An annotation, the blank behind it and `::`.

  noted_stage : (now : Now) → IsValueNow now → stage_now (with_note now) ≡ Stage.Ready
  noted_stage Now.Item h = refl
  noted_stage Now.Element h = refl
  noted_stage Now.Value h = refl
  noted_stage Now.NotedItem h = refl
  noted_stage Now.NotedElement h = refl
  noted_stage Now.NotedValue h = refl
  noted_stage _ h = absurd h

  noted_so : (now : Now) → IsValueNow now → noted_now (with_note now) ≡ true
  noted_so Now.Item h = refl
  noted_so Now.Element h = refl
  noted_so Now.Value h = refl
  noted_so Now.NotedItem h = refl
  noted_so Now.NotedElement h = refl
  noted_so Now.NotedValue h = refl
  noted_so _ h = absurd h

  noted_bracket : (now : Now) → bracket_now (with_note now) ≡ bracket_now now
  noted_bracket Now.Item = refl
  noted_bracket Now.Element = refl
  noted_bracket Now.Value = refl
  noted_bracket _ = refl

  pub note_steps : (r : TextWalk) (s : Spot) (octets : List ℕ) (scalar : Scalar) (text : Option (List ℕ)) (m : ℕ) (a b : V) → Stands r s.now
      → IsValueNow s.now → s.at ≤ length octets → scalar.token.count + m + 2 < length (drop s.at octets)
      → ((p : Place) (q : Rest) → FoundSymbol p q (drop s.at octets) scalar (payloads.Symbol text))
      → IsPassed (drop scalar.token.count (drop s.at octets)) m → get_or (drop s.at octets) (scalar.token.count + m) 0 ≡ 58
      → get_or (drop s.at octets) (scalar.token.count + m + 1) 0 ≡ 58 → takes a (annotation text) b
      → StepsTo takes r r s (past_spot s (scalar.token.count + m + 2) (with_note s.now)) octets a b
  note_steps r s octets scalar text m a b stands value within more found passed one two went =
      let n = scalar.token.count in
      let p = place_now s.now in
      let d = drop s.at octets in
      let old = viewed r s.now in
      let new = viewed r (with_note s.now) in
      let t = past_spot s (n + m + 2) (with_note s.now) in
      let size : length d ≡ length octets - s.at = length-drop s.at octets in
      let stage = noted_stage s.now value in
      record {
        ends = λ first room.
            let rest = rest_at first s in
            let x = symbol_waits r.context p rest d scalar (payloads.Symbol text) (found p rest) in
            let used = blank_used (past_token p rest scalar.token.kind n) m in
            symbol_note_answer takes old new rest (rest_at first t) d a b (viewed_settings r s.now (with_note s.now)) p scalar.token m text (Ok Goes)
            (record_is _ _ _ _ false false (omega arith) (omega arith) refl) more
            (record { stage = ready_now s.now value; more = omega arith; room = omega arith }) (inside r s.now stands) (here_is r s.now stands)
            (record { held = x.0; there = x.1; is = x.2 }) passed one two
            (λ fs ss h. (
              fs,
              ss ++ text ∷ [],
              ap (λ k. goes (at r.start r.context fs (ss ++ text ∷ []) k)) (sym stage),
              notes_went takes old new text a b (ready_now s.now value) refl (noted_so s.now value) (stage ∙ sym (ready_now s.now value))
                  (note_tells r.filter text a b stands.plain went) fs ss h,
            ));
        on = omega arith;
        within = omega arith;
        stands = record {
          plain = stands.plain;
          around = stands.around;
          inside = stands.inside ∙ ap (λ b. b ∷ stands.around) (sym (noted_bracket s.now));
        };
      }

  -- 10. An open.

  first_stage : (x : Bracket) → stage_now (first_inside x) ≡ first_now x
  first_stage Bracket.List = refl
  first_stage Bracket.Sexp = refl
  first_stage Bracket.Fields = refl

  first_bare : (x : Bracket) → noted_now (first_inside x) ≡ false
  first_bare Bracket.List = refl
  first_bare Bracket.Sexp = refl
  first_bare Bracket.Fields = refl

  first_bracket : (x : Bracket) → bracket_now (first_inside x) ≡ x
  first_bracket Bracket.List = refl
  first_bracket Bracket.Sexp = refl
  first_bracket Bracket.Fields = refl

  pub open_steps : (r new : TextWalk) (s : Spot) (octets : List ℕ) (x : Bracket) (a b : V) → Stands r s.now → IsValueNow s.now → s.at + 1 < length octets
      → OpensAt (drop s.at octets) x → nat_lt (length (open_brackets r)) r.limits.depth ≡ true → new ≡ record r { frames = new.frames }
      → new.frames.items ≡ r.frames.items ++ x ∷ [] → takes a (opens x) b → StepsTo takes r new s (past_spot s 1 (first_inside x)) octets a b
  open_steps r new s octets x a b stands value more opens' room' same items went =
      let old = viewed r s.now in
      let to = viewed new (first_inside x) in
      let t = past_spot s 1 (first_inside x) in
      let d = drop s.at octets in
      let size : length d ≡ length octets - s.at = length-drop s.at octets in
      let admits = λ (fs : List Frame) (ss : Symbols) (h : Holds old fs ss). (ap (λ n. nat_lt n r.limits.depth)
      (sym (ap (λ (w : List Bracket). length w) h.0.frames ∙ length-map fs bracket_of)) ∙ room') in
      record {
        ends = λ first room.
            open_answer takes old to (rest_at first s) (rest_at first t) d a b r.start (record {
              catalog = ap (λ (w : TextWalk). w.catalog) same;
              limits = ap (λ (w : TextWalk). w.limits) same;
              scanner = ap (λ (w : TextWalk). w.scanner) same;
              awaited = ap (λ (w : TextWalk). w.awaited) same;
              failed = ap (λ (w : TextWalk). w.failed) same;
            }) (place_now s.now) x (Ok Goes) (past_at first s 1 (first_inside x) (place_now s.now) (TokenKind.Mark (open_mark x)) refl)
            (record { stage = ready_now s.now value; more = omega arith; room = omega arith }) opens' (here_is r s.now stands)
            (λ fs ss h. sym (begun_inner r.start (first.used + s.at) fs ss (inside r s.now stands fs ss h))) admits
            (λ fs ss h.
            let e = entered takes old to x a b (ready_now s.now value) items (first_bare x) (first_stage x)
            (ap (λ (w : TextWalk). w.start) same) (ap (λ (w : TextWalk). w.context) same)
            (subst (λ f. Tells takes (opens x) r.filter f a b) (sym (ap (λ (w : TextWalk). w.filter) same))
            (plain_tells r.filter (opens x) a b tt stands.plain went)) fs ss h in
            let i = at r.start r.context (opened x ss ∷ fs) [] (first_now x) in (
              opened x ss ∷ fs,
              [],
              ap (λ t. if t then goes i else beyond_depth x i) (admits fs ss h) ∙ ap goes e.reading,
              e.went,
            ));
        on = omega arith;
        within = omega arith;
        stands = record {
          plain = ap (λ (w : TextWalk). w.filter.table) same ∙ stands.plain;
          around = open_brackets r;
          inside = ap (λ (w : List Bracket). reverse w) items
              ∙ (reverse-append r.frames.items (x ∷ []) ∙ ap (λ b. b ∷ open_brackets r) (sym (first_bracket x)));
        };
      }

  -- 11. A close.

  around_is : (bs : List Bracket) (next : Now) → around_now bs ≡ Some next
      → (outer : List Bracket) × (bs ≡ bracket_now next ∷ outer) × (stage_now next ≡ behind_value bs) × (noted_now next ≡ false)
  around_is [] next e = absurd cc
  around_is (Bracket.List ∷ bs) next e =
      let n : Now.BehindItem ≡ next = cc in
      subst (λ k. (outer : List Bracket) × (Bracket.List ∷ bs ≡ bracket_now k ∷ outer) × (stage_now k ≡ Stage.After) × (noted_now k ≡ false)) n
      (bs, refl, refl, refl)
  around_is (Bracket.Sexp ∷ bs) next e =
      let n : Now.Element ≡ next = cc in
      subst (λ k. (outer : List Bracket) × (Bracket.Sexp ∷ bs ≡ bracket_now k ∷ outer) × (stage_now k ≡ Stage.Ready) × (noted_now k ≡ false)) n
      (bs, refl, refl, refl)
  around_is (Bracket.Fields ∷ bs) next e =
      let n : Now.BehindField ≡ next = cc in
      subst (λ k. (outer : List Bracket) × (Bracket.Fields ∷ bs ≡ bracket_now k ∷ outer) × (stage_now k ≡ Stage.After) × (noted_now k ≡ false)) n
      (bs, refl, refl, refl)

  may_bare : (now : Now) → MayCloseNow now → noted_now now ≡ false
  may_bare Now.Value h = absurd h
  may_bare Now.NotedItem h = absurd h
  may_bare Now.NotedElement h = absurd h
  may_bare Now.NotedValue h = absurd h
  may_bare _ h = refl

  may_now : (now : Now) → MayCloseNow now → MayClose (bracket_now now) (calm (stage_now now))
  may_now Now.Value h = absurd h
  may_now Now.NotedItem h = absurd h
  may_now Now.NotedElement h = absurd h
  may_now Now.NotedValue h = absurd h
  may_now Now.Item h = tt
  may_now Now.Element h = tt
  may_now Now.Name h = tt
  may_now Now.BehindItem h = tt
  may_now Now.BehindField h = tt

  close_of : (now : Now) (f : Frame) (fs : List Frame) (bs : List Bracket) (ss : Symbols) → brackets_of (f ∷ fs) ≡ bracket_now now ∷ bs
      → AreOpen (f ∷ fs) ss (stage_now now) → MayCloseNow now → closes (bracket_now now) (f ∷ fs) (stage_now now) ≡ true
  close_of Now.Item (Frame.Items ListOrSexp.List ns vs) fs bs ss e o m = refl
  close_of Now.BehindItem (Frame.Items ListOrSexp.List ns vs) fs bs ss e o m = refl
  close_of Now.Element (Frame.Items ListOrSexp.Sexp ns vs) fs bs ss e o m = refl
  close_of Now.Name (Frame.Fields ns ms) fs bs ss e o m = refl
  close_of Now.BehindField (Frame.Fields ns ms) fs bs ss e o m = refl
  close_of Now.Value _ fs bs ss e o m = absurd m
  close_of Now.NotedItem _ fs bs ss e o m = absurd m
  close_of Now.NotedElement _ fs bs ss e o m = absurd m
  close_of Now.NotedValue _ fs bs ss e o m = absurd m
  close_of Now.Name (Frame.Named ns ms s) fs bs ss e o m = absurd o
  close_of Now.BehindField (Frame.Named ns ms s) fs bs ss e o m = absurd o
  close_of _ (Frame.Items ListOrSexp.List ns vs) fs bs ss e o m = absurd cc
  close_of _ (Frame.Items ListOrSexp.Sexp ns vs) fs bs ss e o m = absurd cc
  close_of _ _ fs bs ss e o m = absurd cc

  closes_now : (r : TextWalk) (now : Now) → Stands r now → (x : Bracket) → x ≡ bracket_now now → MayCloseNow now
      → (fs : List Frame) (ss : Symbols) → Holds (viewed r now) fs ss → closes x fs (stage_now now) ≡ true
  closes_now r now s x is may [] ss h = let e = sym h.0.frames ∙ s.inside in absurd cc
  closes_now r now s x is may (f ∷ fs) ss h =
      ap (λ b. closes b (f ∷ fs) (stage_now now)) is
      ∙ close_of now f fs s.around ss (sym h.0.frames ∙ s.inside) (subst (λ n. AreOpen (f ∷ fs) ss n) (calm_now now) h.0.open_there) may

  pub close_steps : (r new : TextWalk) (s : Spot) (octets : List ℕ) (x : Bracket) (next : Now) (a b : V) → Stands r s.now → s.at + 1 < length octets
      → x ≡ bracket_now s.now → MayCloseNow s.now → get_or (drop s.at octets) 0 0 ≡ close_octet x → 1 < length r.frames.items
      → new ≡ record r { frames = new.frames } → open_brackets r ≡ x ∷ open_brackets new → around_now (open_brackets new) ≡ Some next → takes a (closes' x) b
      → StepsTo takes r new s (past_spot s 1 next) octets a b
  close_steps r new s octets x next a b stands more is may first' nested same open_there next_is went =
      let old = viewed r s.now in
      let to = viewed new next in
      let t = past_spot s 1 next in
      let d = drop s.at octets in
      let size : length d ≡ length octets - s.at = length-drop s.at octets in
      let m : TextWalk = record r { frames = new.frames } in
      let o = around_is (open_brackets new) next next_is in
      record {
        ends = λ first room.
            close_answer takes old to (rest_at first s) (rest_at first t) d a b (record {
              catalog = ap (λ (w : TextWalk). w.catalog) same;
              limits = ap (λ (w : TextWalk). w.limits) same;
              scanner = ap (λ (w : TextWalk). w.scanner) same;
              awaited = ap (λ (w : TextWalk). w.awaited) same;
              failed = ap (λ (w : TextWalk). w.failed) same;
            }) (place_now s.now) x (past_at first s 1 next (place_now s.now) (TokenKind.Mark (close_mark x)) refl) (omega arith) first'
            (λ fs ss h. (closes_now r s.now stands x is may fs ss h, bare_alone ss (sym h.0.notes ∙ may_bare s.now may))) (here_is r s.now stands) nested
            (closes_does takes (setting_of r) (spot_of r (first.used + (s.at + 1))) old x (open_brackets new) r.filter (Ok Goes) to a b
            (subst (λ b. MayClose b (calm (stage_now s.now))) (sym is) (may_now s.now may)) open_there
            (plain_tells r.filter (closes' x) a b tt stands.plain went)
            (inner_ends m (first.used + (s.at + 1)) to (ap is_inside o.1)
            (ap (λ (w : TextWalk). record w { noted = noted_now next; stage = stage_now next }) same
            ∙ (ap (λ n. record m { noted = n; stage = stage_now next }) o.3 ∙ ap (λ k. behind_in m k) o.2))));
        on = omega arith;
        within = omega arith;
        stands = record {
          plain = ap (λ (w : TextWalk). w.filter.table) same ∙ stands.plain;
          around = o.0;
          inside = o.1;
        };
      }

  -- 12. What the loop answers.

  pub none_so : (r : TextWalk) (rest : Rest) (octets : List ℕ) (a : V) → EndsBy takes r r rest rest octets (Ok Taken.Uses) a a
  none_so r rest octets a = moved_by takes r r rest rest octets 0 Taken.Uses a a (strode_none takes r rest octets a) (settings_none r)

  -- where the loop begins
  abbrev pub start_at : Rest → Now → Spot
  start_at first now = record { at = 0; lag = first.used - first.start; colon = first.colon; now = now }

  pub read_so : (old new last : TextWalk) (now : Now) (spot : Spot) (first : Rest) (octets : List ℕ) (a b : V) → old.stage ≡ stage_now now
      → old.noted ≡ noted_now now → first.start ≤ first.used → first.used + length octets < 2 ^ 63 → StepsTo takes old new (start_at first now) spot octets a b
      → last ≡ viewed new spot.now → EndsBy takes old last first (rest_at first spot) octets (Ok Taken.Uses) a b
  read_so old new last now spot first octets a b stage noted early room steps is =
      let one : first.used + 0 - (first.used - first.start) ≡ first.start = omega arith in
      let two : first.used + 0 ≡ first.used = omega arith in
      subst (λ w. EndsBy takes old w first (rest_at first spot) octets (Ok Taken.Uses) a b) (sym is)
      (subst (λ r. EndsBy takes old (viewed new spot.now) r (rest_at first spot) octets (Ok Taken.Uses) a b)
      (record_is _ _ _ _ first.colon first.colon one two refl)
      (subst (λ w. EndsBy takes w (viewed new spot.now) (rest_at first (start_at first now)) (rest_at first spot) octets (Ok Taken.Uses) a b)
      (ap (λ s. record old { noted = noted_now now; stage = s }) (sym stage) ∙ ap (λ n. record old { noted = n }) (sym noted)) (steps.ends first room)))
