-- Tokens that a reader without values takes up at once, and that end a value of the top level.
use Rattle.std.proofs.Common.{◌≡◌, ℕ, ◌+◌, ◌-◌, ◌<◌, ◌≤◌, Bool, true, false, List, [], ◌∷◌, length, take, drop, get_or, Option, Result, Some, Ok, Err, refl, ap, sym, ◌∙◌, subst, arith, length-drop, get_or-drop, inl, inr}
use Rattle.std.specs.Prelude.{◌||◌, if◌then◌else◌, nat_le}
use Rattle.std.proofs.lemmas.Grind.{common_steps}
use Rattle.std.proofs.lemmas.List.{length-take, length-take-le}
use Rattle.ion_text.specs.Names.{Ahead, BeginsValue, Bracket, Catalog, Content, Does, Effect, Ended, EndsAtOnce, EndsBy, EndsSo, Event, FoundToken, Frame, Gives, Goes, Held, Holds, IsCalm, IsFound, IsHere, IsStill, Known, Limits, Mark', Part, Passes, Payload, Place, Quiet, Reading, Reason, Rest, RestsBehind, SameSetting, Scanner, Setting, Spot, Stage, State, Strode, StrodeFrom, Symbols, Taken, Takes, TextWalk, TokenKind, TookSo, Turn, Turned, Value, WaitsThere, annotated, at, begun_at, behind_left, close_mark, close_octet, closed, closes, drive, eats, ended, ends_symbol, feed, fresh, gives, go_on, goes, held_payload, is_fields, is_marker, is_null_struct, is_table, is_top, layer_kind, leaves, led, lexeme_at, next, on_said, on_scan, on_settled, paid, past_token, payload_of, place, place_in, reading_of, refuses, released, resting, resting_at, run, said, scanned, setting_of, settle, spot_at, spot_of, state_of, takes as takes_up, takes_colon, token_at, token_of, told, turn, turn_now, turned, under, unsettled, value_took, with_scan, within}
use Rattle.ion_model.specs.declared.value.Payload.TheVariants as payloads
use Rattle.ion_model.specs.declared.value.Payload.TheViews as views
use Rattle.ion_text.specs.laws.reading.NoTables.{no_table}
use Rattle.ion_text.specs.machine.LongStrings.{LongThere}
use Rattle.ion_text.proofs.TokenSteps.{begun_inner, ended_stays, found_passes, mark_says, ready_turns}
use Rattle.ion_text.proofs.LongStrings.{long_unsettled, settled_on}
use Rattle.ion_text.proofs.Nested.{close_found, closing}
use Rattle.ion_text.proofs.Passing.{NoticesNothing, blank_quiet, blank_waits}
use Rattle.ion_text.proofs.WholeTokens.{IsBegun, begun_with, ends_so, moved_by, settings_begun, settings_on, strode_on, token_leads, token_strode}
use Rattle.ion_text.proofs.Striding.{still_settles}
use Rattle.ion_text.proofs.Symbols.{ends_waits, symbol_passes}
use Rattle.ion_text.proofs.Taking.{gave_behind, with_scanner}
use Rattle.ion_text.proofs.TopLevel.{passes_then, token_gives, top_ended, top_quiet, waits_notices}

-- what is no version marker is paid where no container is open, whatever annotations were read
released_top : (setting : Setting) (spot : Spot) (ss : Symbols) (h : Held) → is_marker h ≡ false → released setting spot [] ss h
    ≡ paid setting spot [] ss (held_payload h)
released_top setting spot [] (Held.Version ours s) e = absurd cc
released_top setting spot _ _ e = refl

-- a payload that holds no fields, with which a value is no local symbol table
abbrev pub IsFlat : Payload → Type 0
IsFlat payload = is_fields (layer_kind (views.out-Payload payload)) ≡ false

pub symbol_flat : (s : Option (List ℕ)) → IsFlat (payloads.Symbol s)
symbol_flat s = ap (λ k. is_fields (layer_kind k)) (views.outs-Symbol s)

pub text_flat : (w : List ℕ) → IsFlat (payloads.Str w)
text_flat w = ap (λ k. is_fields (layer_kind k)) (views.outs-Str w)

pub part_flat : (said : Part) → is_null_struct said ≡ false → IsFlat (payload_of said)
part_flat (Part.Null kind) h = ap (λ k. is_fields (layer_kind k)) (views.outs-Null kind) ∙ h
part_flat (Part.Truth b) h = ap (λ k. is_fields (layer_kind k)) (views.outs-Truth b)
part_flat (Part.Symbol w) h = symbol_flat (Some w.now)
part_flat (Part.Str w) h = text_flat w.now
part_flat (Part.Clob w) h = ap (λ k. is_fields (layer_kind k)) (views.outs-Clob w.now)
part_flat (Part.Blob w) h = ap (λ k. is_fields (layer_kind k)) (views.outs-Blob w.now)

-- what is no local symbol table goes on nowhere but in a container, and is given nowhere else
no_goes : (setting : Setting) (spot : Spot) (v : Value) (q : Reading) → is_table v ≡ false → ended setting spot [] v ≡ goes q → ⊥
no_goes setting spot v q free e = by (nat_le spot.end (spot.start + setting.limits.item)) (sym (ap (λ b. if b
    then turned setting.limits.item spot.start spot.end (next spot.context v setting.catalog)
    else within setting.limits.item spot.start spot.end (gives v (fresh spot.context))) free) ∙ e)
  where
    by : (b : Bool) → (if b then gives v (fresh spot.context) else refuses Reason.ItemTooLong) ≡ goes q → ⊥
    by true e = cc
    by false e = cc

no_gives : (setting : Setting) (spot : Spot) (f : Frame) (fs : List Frame) (v w : Value) (q : Reading) → ended setting spot (f ∷ fs) v ≡ gives w q → ⊥
no_gives setting spot (Frame.Items listing ss vs) fs v w q e = cc
no_gives setting spot _ fs v w q e = cc

module _ {V : Type 0} (leads : V → Event → V → Type 0) (old new : TextWalk) (rest : Rest) (octets : List ℕ) (a b : V) (fs : List Frame) (ss : Symbols)
    (h : Ahead old fs ss rest (length octets)) where
  abbrev g : Catalog
  g = old.catalog.now

  abbrev l : Limits
  l = old.limits

  abbrev r : Reading
  r = reading_of old fs ss

  -- a token gives a value with its last octet
  pub given_ends : (here : Place) (kind : TokenKind) (kept : List ℕ) (n : ℕ) (c : Content) (t : Turn) → here ≡ place r
      → IsFound here rest octets kind kept n false → Quiet g l r (place r) (resting rest) (take (n - 1) octets) → said kind kept ≡ Ok c
      → turn g l r (token_of (lexeme_at rest kind kept n) c) ≡ t → Does leads (told fs ss) t (Ok Gives) new a b
      → EndsSo leads fs ss old new rest (past_token here rest kind n) octets n a b Taken.Tells
  given_ends here kind kept n c t is found quiet says turns does = (
    found.some,
    does.0,
    subst (λ p. run g l rest.used (with_scan (resting rest) r) (take n octets)
        ≡ record { given = (does.0, rest.used + n) ∷ []; now = Ok (with_scan (resting (past_token p rest kind n)) (reading_of new [] [])) }) (sym is)
        (token_gives g l r (still_settles g l r h.still) rest octets kind kept n c does.0 (reading_of new [] [])
        (subst (λ p. IsFound p rest octets kind kept n false) is found) quiet says (turns ∙ does.1)),
    does.2,
  )

  -- the octet behind a token shows the end of a value
  pub left_ends : (here : Place) (kind : TokenKind) (kept : List ℕ) (n : ℕ) (c : Content) (t : Turn) → here ≡ place r
      → IsFound here rest octets kind kept n true → Quiet g l r (place r) (resting rest) (take n octets) → said kind kept ≡ Ok c
      → turn g l r (token_of (lexeme_at rest kind kept n) c) ≡ t → Does leads (told fs ss) t (Ok Gives) new a b
      → EndsSo leads fs ss old new rest (past_token here rest kind n) octets n a b Taken.Leaves
  left_ends here kind kept n c t is found quiet says turns does =
      let f = subst (λ p. IsFound p rest octets kind kept n true) is found in
      let o = get_or octets n 0 in
      let again : State → Effect = λ m. takes_up g l 2 m o in
      let still = still_settles g l r h.still in
      let after : Place → Known = λ p. resting (past_token p rest kind n) in (
        found.some,
        does.0,
        with_scan f.known r,
        drive g l (take n octets) rest.used r (resting rest) f.known f.ran quiet (inl still),
        subst (λ p. eats g l (with_scan f.known r) o ≡ leaves does.0 (with_scan (after p) (reading_of new [] []))) (sym is)
            (go_on g l again r f.known (feed (place r) f.known o) (unsettled f.known r (feed (place r) f.known o)) (inr still)
            ∙ (ap (on_scan g l again r) f.ends
            ∙ (ap (λ x. on_said x (λ c. behind_left again (after (place r)) (turn g l r (token_of (lexeme_at rest kind kept n) c)))) says
            ∙ ap (behind_left again (after (place r))) (turns ∙ does.1)))),
        does.2,
      )

  -- the close of a container of the top level
  pub close_ends : (here : Place) (x : Bracket) → 1 < length octets → ss ≡ [] → get_or octets 0 0 ≡ close_octet x → closes x fs old.stage ≡ true
      → here ≡ place r → Does leads (told fs ss) (closed x (under g l) (spot_at (rest.used + 1) old.start old.context) fs) (Ok Gives) new a b
      → EndsSo leads fs ss old new rest (past_token here rest (TokenKind.Mark (close_mark x)) 1) octets 1 a b Taken.Tells
  close_ends here x more bare first fits is does =
      let k = closing g l rest.used (rest.used + 1) old.start old.context x fs old.stage fits in
      given_ends here (TokenKind.Mark (close_mark x)) [] 1 (Mark' (close_mark x)) (closed x (under g l) (spot_at (rest.used + 1) old.start old.context) fs) is
      (subst (λ p. IsFound p rest octets (TokenKind.Mark (close_mark x)) [] 1 false) (sym is)
      (close_found x fs old.stage rest octets fits (omega arith) first)) tt (mark_says (close_mark x))
      (ap (λ ns. turn g l (at old.start old.context fs ns old.stage) (token_of (lexeme_at rest (TokenKind.Mark (close_mark x)) [] 1) (Mark' (close_mark x)))) bare
      ∙ k.0) does

-- where no container is open
module _ {V : Type 0} (leads : V → Event → V → Type 0) (old new : TextWalk) (rest : Rest) (octets : List ℕ) (a b : V) (ss : Symbols)
    (h : Ahead old [] ss rest (length octets)) (now : old.stage ≡ Stage.Ready) where
  abbrev g' : Catalog
  g' = old.catalog.now

  abbrev l' : Limits
  l' = old.limits

  abbrev q : Reading
  q = reading_of old [] ss

  abbrev begun : ℕ
  begun = begun_at old.start rest.used [] ss

  quiet : (n : ℕ) → n ≤ length octets → Quiet g' l' q Place.Top (resting rest) (take n octets)
  quiet n within =
      let fits = h.fits in
      subst (λ k. Quiet g' l' (at old.start old.context [] ss k) Place.Top (resting rest) (take n octets)) (sym now)
      (top_quiet g' l' old.start old.context ss rest octets n within (omega arith))

  -- a token that is a value at once
  turns_so : (kind : TokenKind) (kept : List ℕ) (n : ℕ) (c : Content) (payload : Payload) → EndsAtOnce c payload
      → turn g' l' q (token_of (lexeme_at rest kind kept n) c)
      ≡ ended (under g' l') (spot_at (rest.used + n) begun old.context) [] (annotated ss payload)
  turns_so kind kept n c payload at_once =
      ap (turn_now (under g' l') q (token_at rest.used (rest.used + n) c)) now ∙ at_once (under g' l') (spot_at (rest.used + n) begun old.context) [] ss

  value_ends : (here : Place) (kind : TokenKind) (kept : List ℕ) (n : ℕ) (left : Bool) (c : Content) (payload : Payload) → here ≡ Place.Top
      → IsFound here rest octets kind kept n left → said kind kept ≡ Ok c → EndsAtOnce c payload
      → Does leads (told [] ss) (ended (under g' l') (spot_at (rest.used + n) begun old.context) [] (annotated ss payload)) (Ok Gives) new a b
      → EndsSo leads [] ss old new rest (past_token here rest kind n) octets n a b (if left then Taken.Leaves else Taken.Tells)
  value_ends here kind kept n true c payload is found says at_once does =
      let shown = found.shown in
      left_ends leads old new rest octets a b [] ss h here kind kept n c _ is found (quiet n (omega arith)) says (turns_so kind kept n c payload at_once) does
  value_ends here kind kept n false c payload is found says at_once does =
      let shown = found.shown in
      given_ends leads old new rest octets a b [] ss h here kind kept n c _ is found (quiet (n - 1) (omega arith)) says
      (turns_so kind kept n c payload at_once) does

  -- a symbol, null or truth, and the blank behind it
  module _ (token : FoundToken) (m : ℕ) (behind : Rest) (held : Held) (payload : Payload) (some : 0 < m) (more : token.count + m < length octets)
      (x : WaitsThere old.context Place.Top rest octets token held) (pays : held_payload held ≡ Ok payload) (free : is_marker held ≡ false)
      (rests : RestsBehind (drop token.count octets) m (past_token Place.Top rest token.kind token.count) behind)
      (ends : ends_symbol (get_or octets (token.count + m) 0) ≡ true)
      (does : Does leads (told [] ss) (ended (under g' l') (spot_at (rest.used + token.count) begun old.context) [] (annotated ss payload)) (Ok Gives)
      new a b) where
    abbrev n : ℕ
    n = token.count

    abbrev waiting : Reading
    waiting = at begun old.context [] ss (Stage.Pending held (rest.used + n))

    abbrev past_symbol : Rest
    past_symbol = past_token Place.Top rest token.kind n

    waits : NoticesNothing l' waiting (rest.used + length octets)
    waits = let fits = h.fits in waits_notices l' begun old.context ss held (rest.used + n) (rest.used + length octets) (omega arith)

    turns : turn g' l' q (token_of (lexeme_at rest token.kind x.there.kept n) x.content) ≡ goes waiting
    turns = ap (turn_now (under g' l') q (token_at rest.used (rest.used + n) x.content)) now ∙ x.waits (under g' l') (rest.used + n) begun [] ss

    symbol_led : Passes g' l' (with_scan (resting rest) q) octets n (with_scan (resting past_symbol) waiting)
    symbol_led =
        found_passes g' l' q (still_settles g' l' q h.still) rest octets token.kind x.there.kept n x.content waiting x.there.says turns token.left x.there.found
        (λ k few. quiet k (omega arith)) (rest.used + length octets) waits (omega arith)

    blank_ran : run g' l' past_symbol.used (with_scan (resting past_symbol) waiting) (take m (drop n octets)) ≡ led (with_scan (resting behind) waiting)
    blank_ran =
        let size = length-drop n octets in
        let few = length-take-le m (drop n octets) (omega arith) in
        let ran = rests.ran (place waiting) in
        drive g' l' (take m (drop n octets)) past_symbol.used waiting (resting past_symbol) (resting behind) ran
        (blank_quiet g' l' waiting (rest.used + length octets) waits (place waiting) (take m (drop n octets)) (resting past_symbol) (resting behind) refl
        refl ran (omega arith))
        (inr (blank_waits g' l' waiting held (rest.used + n) refl (place waiting) (take m (drop n octets)) (resting past_symbol) (resting behind) refl refl
        ran))

    settles : settle g' l' waiting ≡ gives does.0 (reading_of new [] [])
    settles = released_top (under g' l') (spot_at (rest.used + n) begun old.context) ss held free
        ∙ (ap (paid (under g' l') (spot_at (rest.used + n) begun old.context) [] ss) pays ∙ does.1)

    word_leaves : EndsSo leads [] ss old new rest behind octets (n + m) a b Taken.Leaves
    word_leaves =
        let o = get_or octets (n + m) 0 in
        let x' = feed (place waiting) (resting behind) o in
        let again : State → Effect = λ k. takes_up g' l' 2 k o in (
          (let i : 0 < n + m = omega arith in i),
          does.0,
          with_scan (resting behind) waiting,
          passes_then g' l' (with_scan (resting rest) q) (with_scan (resting past_symbol) waiting) octets n m some symbol_led ∙ blank_ran,
          ap (λ y. if y || false then on_scan g' l' again waiting x' else on_settled g' l' again (resting behind) x' (settle g' l' waiting))
              (ends_waits (place waiting) behind o ends)
              ∙ ap (on_settled g' l' again (resting behind) x') settles,
          does.2,
        )

  -- a long string and the blank behind it, where the octet behind them shows that no segment follows
  long_leaves : (count : ℕ) (after : Rest) (text : List ℕ) → LongThere Place.Top rest octets count after text
      → Does leads (told [] ss) (ended (under g' l') (spot_at after.used begun old.context) [] (annotated ss (payloads.Str text))) (Ok Gives) new a b
      → EndsSo leads [] ss old new rest after octets count a b Taken.Leaves
  long_leaves count after text x does =
      let fits = h.fits in
      let more = x.more in
      let used = x.segments.used in
      let s = x.segments.leads g' l' old.start old.context ss [] refl fits in
      let early = s.1 in
      let v = annotated ss (payloads.Str text) in
      let free = no_table ss (payloads.Str text) (text_flat text) in
      let waiting = at begun old.context [] ss (Stage.Long text s.0) in
      let o = get_or octets count 0 in
      let known = feed (place waiting) (resting after) o in
      let again : State → Effect = λ m. takes_up g' l' 2 m o in
      let settles : settle g' l' waiting ≡ gives does.0 (reading_of new [] []) =
      top_ended g' l' s.0 begun old.context v free (omega arith)
      ∙ (sym (top_ended g' l' after.used begun old.context v free (omega arith)) ∙ does.1) in (
        x.segments.some,
        does.0,
        with_scan (resting after) waiting,
        subst (λ (k : Stage). run g' l' rest.used (with_scan (resting rest) (at old.start old.context [] ss k)) (take count octets)
            ≡ led (with_scan (resting after) waiting)) (sym now) s.2,
        ap (λ b. if b then on_scan g' l' again waiting known else on_settled g' l' again (resting after) known (settle g' l' waiting))
            (long_unsettled g' l' waiting text s.0 refl after o x.ends)
            ∙ ap (on_settled g' l' again (resting after) known) settles,
        does.2,
      )

-- what each token answers, from what its method does
module _ {V : Type 0} (leads : V → Event → V → Type 0) where
  pub container_answer : (old new : TextWalk) (rest after : Rest) (octets : List ℕ) (a b : V) (same : SameSetting old new) (here : Place) (x : Bracket)
      → after ≡ past_token here rest (TokenKind.Mark (close_mark x)) 1 → 1 < length octets → get_or octets 0 0 ≡ close_octet x
      → ((fs : List Frame) (ss : Symbols) → Holds old fs ss → (closes x fs old.stage ≡ true) × (ss ≡ [])) → IsHere old here
      → ((fs : List Frame) → Holds old fs [] → Does leads (told fs []) (closed x (setting_of old) (spot_of old after.used) fs) (Ok Gives) new a b)
      → EndsBy leads old new rest after octets (Ok Taken.Tells) a b
  container_answer old new rest after octets a b same here x there more first fits is does =
      ends_so leads old new rest after octets 1 Taken.Tells a b
      (λ fs ss h.
      let k = fits fs ss h.holds in
      subst (λ r. EndsSo leads fs ss old new rest r octets 1 a b Taken.Tells) (sym there)
      (close_ends leads old new rest octets a b fs ss h here x more k.1 first k.0 (is fs ss h.holds)
      (subst (λ ns. Does leads (told fs ns) (closed x (setting_of old) (spot_of old (rest.used + 1)) fs) (Ok Gives) new a b) (sym k.1)
      (subst (λ (r : Rest). Does leads (told fs []) (closed x (setting_of old) (spot_of old r.used) fs) (Ok Gives) new a b) there
      (does fs (subst (λ ns. Holds old fs ns) k.1 h.holds)))))) more (ap (λ (r : Rest). r.used) there) same

  -- a method did what ends such a value at `end`, of an item that begins at `start`
  abbrev pub EndsAt : TextWalk → TextWalk → V → V → Payload → ℕ → ℕ → List Frame → Symbols → Result Turned Reason → Type 0
  EndsAt old new a b payload end start fs ss x =
      Does leads (told fs ss) (ended (under old.catalog.now old.limits) (spot_at end start old.context) fs (annotated ss payload)) x new a b

  -- a token with which a value ends, which begins an item where no container is open
  module _ (old new : TextWalk) (rest after : Rest) (octets : List ℕ) (a b : V) (k : ℕ) (s : SameSetting (begun_with old k) new) (begins : IsBegun old rest k)
      (here : Place) (is : IsHere old here) (t : Takes Stage.Ready old rest octets) (payload : Payload)
      (flat : (fs : List Frame) (ss : Symbols) → Holds old fs ss → is_top fs ≡ true → IsFlat payload) where
    abbrev Ends : ℕ → ℕ → List Frame → Symbols → Result Turned Reason → Type 0
    Ends end start fs ss x = EndsAt old new a b payload end start fs ss x

    -- in a container it goes on, and ends an item of the top level elsewhere
    module _ (end n : ℕ) (more : n < length octets) (used : after.used ≡ rest.used + n)
        (inner : (fs : List Frame) (ss : Symbols) → Ahead old fs ss rest (length octets) → is_top fs ≡ false → Ends end old.start fs ss (Ok Goes)
        → StrodeFrom leads fs ss old new rest after octets n a b) where
      begun_so : (x : Result Turned Reason) (fs : List Frame) (ss : Symbols) → Holds old fs ss → Ends end k fs ss x
          → Ends end (begun_at old.start rest.used fs ss) fs ss x
      begun_so x fs ss h d = subst (λ i. Ends end i fs ss x) (begins fs ss h) d

      goes_in : (fs : List Frame) (ss : Symbols) → Ahead old fs ss rest (length octets) → Ends end (begun_at old.start rest.used fs ss) fs ss (Ok Goes)
          → StrodeFrom leads fs ss old new rest after octets n a b
      goes_in [] ss h d = absurd (no_goes (under old.catalog.now old.limits) (spot_at end (begun_at old.start rest.used [] ss) old.context) (annotated ss payload)
          (reading_of new d.0 d.1) (no_table ss payload (flat [] ss h.holds refl)) d.2)
      goes_in (f ∷ fs) ss h d = inner (f ∷ fs) ss h refl d

      abbrev AtTop : Taken → Type 0
      AtTop e = (ss : Symbols) → Ahead old [] ss rest (length octets) → Ends end (begun_at old.start rest.used [] ss) [] ss (Ok Gives)
          → EndsSo leads [] ss old new rest after octets n a b e

      gives_out : (e : Taken) → AtTop e → (fs : List Frame) (ss : Symbols) → Ahead old fs ss rest (length octets)
          → Ends end (begun_at old.start rest.used fs ss) fs ss (Ok Gives) → EndsSo leads fs ss old new rest after octets n a b e
      gives_out e top [] ss h d = top ss h d
      gives_out e top (f ∷ fs) ss h d = absurd (no_gives (under old.catalog.now old.limits) (spot_at end old.start old.context) f fs (annotated ss payload) d.0
          (reading_of new [] []) d.1)

      value_so : (x : Result Turned Reason) (left : Bool) → AtTop (if left then Taken.Leaves else Taken.Tells)
          → ((fs : List Frame) (ss : Symbols) → Holds old fs ss → Ends end k fs ss x) → EndsBy leads old new rest after octets (value_took x left) a b
      value_so (Ok Goes) left top does =
          ends_so leads old new rest after octets n Taken.Uses a b
          (λ fs ss h. goes_in fs ss h (begun_so (Ok Goes) fs ss h.holds (does fs ss h.holds))) more used (settings_begun old new k s)
      value_so (Ok Gives) true top does =
          ends_so leads old new rest after octets n Taken.Leaves a b
          (λ fs ss h. gives_out Taken.Leaves top fs ss h (begun_so (Ok Gives) fs ss h.holds (does fs ss h.holds))) more used (settings_begun old new k s)
      value_so (Ok Gives) false top does =
          ends_so leads old new rest after octets n Taken.Tells a b
          (λ fs ss h. gives_out Taken.Tells top fs ss h (begun_so (Ok Gives) fs ss h.holds (does fs ss h.holds))) more used (settings_begun old new k s)
      value_so _ _ top does = record { ended = tt; memory = refl; same = settings_begun old new k s }

    -- a token that is a value at once
    pub value_answer : (token : FoundToken) (x : Result Turned Reason) → after ≡ past_token here rest token.kind token.count → token.count < length octets
        → ((fs : List Frame) (ss : Symbols) → Holds old fs ss → BeginsValue false here rest octets token payload)
        → ((fs : List Frame) (ss : Symbols) → Holds old fs ss → Ends after.used k fs ss x)
        → EndsBy leads old new rest after octets (value_took x token.left) a b
    value_answer token x there more begins' does =
        let used = ap (λ (r : Rest). r.used) there in
        value_so (rest.used + token.count) token.count more used
        (λ fs ss h inner d.
        let v = begins' fs ss h.holds in
        let setting = setting_of old in
        let spot = spot_of old (rest.used + token.count) in
        subst (λ r. StrodeFrom leads fs ss old new rest r octets token.count a b) (sym there)
        (token_strode leads old new rest octets a b fs ss h (settings_begun old new k s) here token.kind v.kept token.count token.left v.content
        (ended setting spot fs (annotated ss payload)) more inner (is fs ss h.holds) v.found v.says
        (ready_turns old.catalog.now old.limits (reading_of old fs ss) (lexeme_at rest token.kind v.kept token.count) v.content t.stage inner
        ∙ v.is setting spot fs ss)
        (λ q e. ended_stays setting spot q fs (annotated ss payload) inner e) (inl (subst IsCalm (sym t.stage) tt)) d)) x token.left
        (λ ss h d.
        let v = begins' [] ss h.holds in
        subst (λ r. EndsSo leads [] ss old new rest r octets token.count a b (if token.left then Taken.Leaves else Taken.Tells)) (sym there)
        (value_ends leads old new rest octets a b ss h t.stage here token.kind v.kept token.count token.left v.content payload (is [] ss h.holds) v.found v.says
        v.is d))
        (λ fs ss h. subst (λ end. Ends end k fs ss x) used (does fs ss h))

    -- a symbol, null or truth, and the blank behind it
    pub word_answer : (token : FoundToken) (m : ℕ) (held : Held) (x : Result Turned Reason) → token.count + m < length octets
        → ((fs : List Frame) (ss : Symbols) → Holds old fs ss → is_top fs ≡ true → 0 < m)
        → WaitsThere old.context here rest octets token held → held_payload held ≡ Ok payload → is_marker held ≡ false
        → RestsBehind (drop token.count octets) m (past_token here rest token.kind token.count) after
        → ends_symbol (get_or octets (token.count + m) 0) ≡ true
        → ((fs : List Frame) (ss : Symbols) → Holds old fs ss → Ends (rest.used + token.count) k fs ss x)
        → EndsBy leads old new rest after octets (value_took x true) a b
    word_answer token m held x more some waits pays free rests ends does =
        let used = rests.used in
        value_so (rest.used + token.count) (token.count + m) more (omega arith)
        (λ fs ss h inner d.
        let n = token.count in
        let r = reading_of old fs ss in
        let here' = is fs ss h.holds in
        let setting = setting_of old in
        let spot = spot_of old (rest.used + n) in
        let fits = h.fits in
        let begun = begun_inner old.start rest.used fs ss inner in
        token_leads leads old new rest octets a b fs ss h (settings_begun old new k s) after (n + m) (ended setting spot fs (annotated ss payload)) more
        (omega arith) inner (λ q e. ended_stays setting spot q fs (annotated ss payload) inner e) d
        (λ q e stays.
        symbol_passes old.catalog.now old.limits r inner rest octets token.kind waits.there.kept n m token.left waits.content (omega arith) more
        (subst (λ p. IsFound p rest octets token.kind waits.there.kept n token.left) here' waits.there.found) waits.there.says
        (subst IsCalm (sym t.stage) tt) h.still t.stage held (subst (λ p. takes_colon p token.kind ≡ true) here' waits.may)
        (waits.waits setting (rest.used + n) old.start fs ss) after
        (subst (λ p. RestsBehind (drop n octets) m (past_token p rest token.kind n) after) here' rests) q payload pays e ends)) x true
        (λ ss h d. word_leaves leads old new rest octets a b ss h t.stage token m after held payload (some [] ss h.holds refl) more
        (subst (λ p. WaitsThere old.context p rest octets token held) (is [] ss h.holds) waits) pays free
        (subst (λ p. RestsBehind (drop token.count octets) m (past_token p rest token.kind token.count) after) (is [] ss h.holds) rests) ends d) does

  -- a long string
  pub long_answer : (old new : TextWalk) (rest after : Rest) (octets : List ℕ) (a b : V) (k : ℕ) (s : SameSetting (begun_with old k) new)
      (begins : IsBegun old rest k) (here : Place) (is : IsHere old here) (t : Takes Stage.Ready old rest octets) (count : ℕ) (text : List ℕ)
      (x : Result Turned Reason) → LongThere here rest octets count after text
      → ((fs : List Frame) (ss : Symbols) → Holds old fs ss
      → EndsAt old new a b (payloads.Str text) after.used k fs ss x)
      → EndsBy leads old new rest after octets (value_took x true) a b
  long_answer old new rest after octets a b k s begins here is t count text x long does =
      value_so old new rest after octets a b k s begins here is t (payloads.Str text) (λ fs ss h top. text_flat text) after.used count long.more long.segments.used
      (λ fs ss h inner d.
      let v = annotated ss (payloads.Str text) in
      let spot = spot_of old after.used in
      let fits = h.fits in
      let begun = begun_inner old.start rest.used fs ss inner in
      token_leads leads old new rest octets a b fs ss h (settings_begun old new k s) after count (ended (setting_of old) spot fs v) long.more
      long.segments.used inner (λ q e. ended_stays (setting_of old) spot q fs v inner e) d
      (λ q e stays.
      subst (λ i. Passes old.catalog.now old.limits (with_scan (resting rest) (at old.start old.context fs ss i)) octets count
      (with_scan (resting after) q)) (sym t.stage)
      (settled_on old.catalog.now old.limits old.start old.context ss fs here rest octets count after text long inner
      (sym (is fs ss h.holds ∙ ap (place_in fs) t.stage)) (omega arith) after.used q e))) x true
      (λ ss h d. long_leaves leads old new rest octets a b ss h t.stage count after text
      (subst (λ p. LongThere p rest octets count after text) (is [] ss h.holds) long) d) does

  -- behind octets that give nothing
  module _ (old mid new : TextWalk) (r s t : Rest) (octets behind : List ℕ) (i j : ℕ) (a m b : V) (is : behind ≡ drop i octets) (same : SameSetting old mid)
      (x : Strode leads old mid r s octets i a m) where
    abbrev c0 : Catalog
    c0 = old.catalog.now

    abbrev l0 : Limits
    l0 = old.limits

    catalogs : mid.catalog.now ≡ c0
    catalogs = ap (λ x. x.now) same.catalog

    -- a run over more of them
    run_on : (fs : List Frame) (ss : Symbols) (h : Ahead old fs ss r (length octets)) → 0 < j
        → run c0 l0 r.used (resting_at r old fs ss) (take (i + j) octets)
        ≡ run mid.catalog.now mid.limits s.used (resting_at s mid (x.leads fs ss h).frames (x.leads fs ss h).notes) (take j behind)
    run_on fs ss h some =
        let one = x.leads fs ss h in
        let k = resting_at s mid one.frames one.notes in
        passes_then c0 l0 (resting_at r old fs ss) k octets i j some one.passes
        ∙ (ap (λ w. run c0 l0 s.used k (take j w)) (sym is)
        ∙ (ap (λ g. run g l0 s.used k (take j behind)) (sym catalogs) ∙ ap (λ l. run mid.catalog.now l s.used k (take j behind)) (sym same.limits)))

    size : length behind ≡ length octets - i
    size = ap (λ (w : List ℕ). length w) is ∙ length-drop i octets

    module _ (e : Taken) (y : Ended leads mid new s t behind (j, e) m b) where
      second : (fs : List Frame) (ss : Symbols) (h : Ahead old fs ss r (length octets))
          → EndsSo leads (x.leads fs ss h).frames (x.leads fs ss h).notes mid new s t behind j m b e
      second fs ss h = let one = x.leads fs ss h in
          y.leads one.frames one.notes (subst (λ n. Ahead mid one.frames one.notes s n) (sym size) one.ahead)

      both : ((fs : List Frame) (ss : Symbols) → Ahead old fs ss r (length octets) → EndsSo leads fs ss old new r t octets (i + j) a b e)
          → Ended leads old new r t octets (i + j, e) a b
      both h =
          let same_size = size in
          let within = x.within in
          let within' = y.within in
          let used = x.used in
          let used' = y.used in
          record { leads = h; within = omega arith; used = omega arith }

    pub ended_on : (e : Taken) → Ended leads mid new s t behind (j, e) m b → Ended leads old new r t octets (i + j, e) a b
    ended_on Taken.Uses y = strode_on leads old mid new r s t octets behind i j a m b is same x y
    ended_on Taken.Tells y = both Taken.Tells y
        (λ fs ss h.
        let one = x.leads fs ss h in
        let two = second Taken.Tells y fs ss h in
        let some = two.0 in
        let used = x.used in
        let total : s.used + j ≡ r.used + (i + j) = omega arith in (
          (let k : 0 < i + j = omega arith in k),
          two.1,
          run_on fs ss h some ∙ (two.2 ∙ ap (λ n. record { given = (two.1, n) ∷ []; now = Ok (resting_at t new [] []) }) total),
          gave_behind leads (told fs ss) (told one.frames one.notes) new two.1 a m b one.hears two.3,
        ))
    ended_on Taken.Leaves y = both Taken.Leaves y
        (λ fs ss h.
        let one = x.leads fs ss h in
        let two = second Taken.Leaves y fs ss h in
        let some = two.0 in
        let there : get_or behind j 0 ≡ get_or octets (i + j) 0 = ap (λ w. get_or w j 0) is ∙ get_or-drop i octets j 0 in (
          (let k : 0 < i + j = omega arith in k),
          two.1,
          two.2,
          run_on fs ss h some ∙ two.3,
          subst (λ o. eats c0 l0 two.2 o ≡ leaves two.1 (resting_at t new [] [])) there
              (subst (λ g. eats g l0 two.2 (get_or behind j 0) ≡ leaves two.1 (resting_at t new [] [])) catalogs
              (subst (λ l. eats mid.catalog.now l two.2 (get_or behind j 0) ≡ leaves two.1 (resting_at t new [] [])) same.limits two.4)),
          gave_behind leads (told fs ss) (told one.frames one.notes) new two.1 a m b one.hears two.5,
        ))

module _ {V : Type 0} (leads : V → Event → V → Type 0) (old mid new : TextWalk) (r s t : Rest) where
  -- the same of what is answered
  pub ends_on : (octets behind : List ℕ) (i : ℕ) (a m b : V) → behind ≡ drop i octets → SameSetting old mid → Strode leads old mid r s octets i a m
      → (x : Result Taken Reason) → EndsBy leads mid new s t behind x m b → EndsBy leads old new r t octets x a b
  ends_on octets behind i a m b is same front (Ok e) y =
      let j = t.used - s.used in
      moved_by leads old new r t octets (i + j) e a b (ended_on leads old mid new r s t octets behind i j a m b is same front e y.ended)
      (settings_on old mid new same y.same)
  ends_on octets behind i a m b is same front (Err e) y = record { ended = tt; memory = y.memory; same = settings_on old mid new same y.same }

take_short : (k : ℕ) (w : List ℕ) → length (take k w) ≤ k
take_short k w = let e = length-take k w in omega arith

front_same : (j k : ℕ) (w : List ℕ) → j ≤ k → take j (take k w) ≡ take j w
front_same j k w h = grind (arith, common_steps)

get_there : (j k : ℕ) (w : List ℕ) → j < k → get_or (take k w) j 0 ≡ get_or w j 0
get_there j k w h = grind (arith, common_steps)

-- the octets of a piece that the limit on items leaves are those at its front
module _ {V : Type 0} (leads : V → Event → V → Type 0) (old mid : TextWalk) (moved : Scanner) (first behind : Rest) (piece octets : List ℕ) (most count : ℕ)
    (a b : V) (is : octets ≡ take most piece) (some : 0 < length octets) (rests : scanned old.scanner ≡ resting first) (there : scanned moved ≡ resting behind)
    (still : IsStill old.stage)
    (fits : (fs : List Frame) (ss : Symbols) → Holds old fs ss → first.used + length octets ≤ old.limits.item + begun_at old.start first.used fs ss) where
  few : length octets ≤ most
  few = let short = take_short most piece in let size : length octets ≡ length (take most piece) = ap (λ (w : List ℕ). length w) is in omega arith

  front : (j : ℕ) → j ≤ length octets → take j piece ≡ take j octets
  front j h = let most_of = few in sym (ap (take j) is ∙ front_same j most piece (omega arith))

  pub took_there : (e : Taken) → Ended leads old mid first behind octets (count, e) a b
      → (fs : List Frame) (ss : Symbols) → Holds old fs ss → TookSo leads fs ss old (with_scanner mid moved) piece count a b e
  took_there Taken.Uses y = λ fs ss h.
      let x = y.leads fs ss (record { holds = h; still = still; fits = fits fs ss h }) in
      let within = y.within in
      record {
        frames = x.frames;
        notes = x.notes;
        passes =
            subst (λ s. Passes old.catalog.now old.limits (with_scan s (reading_of old fs ss)) piece count
            (with_scan (scanned moved) (reading_of mid x.frames x.notes))) (sym rests)
            (subst (λ s. Passes old.catalog.now old.limits (resting_at first old fs ss) piece count (with_scan s (reading_of mid x.frames x.notes))) (sym there)
            (λ w e. x.passes w (e ∙ front (count + 1) (omega arith))));
        holds = x.ahead.holds;
        hears = x.hears;
        still = x.ahead.still;
        rests = ap (λ (k : Known). k.mode) there;
      }
  took_there Taken.Tells y = λ fs ss h.
      let two = y.leads fs ss (record { holds = h; still = still; fits = fits fs ss h }) in
      let within = y.within in (
        two.0,
        two.1,
        subst (λ (k : Known). run old.catalog.now old.limits k.used (with_scan k (reading_of old fs ss)) (take count piece)
            ≡ record { given = (two.1, k.used + count) ∷ []; now = Ok (state_of (with_scanner mid moved) [] []) }) (sym rests)
            (subst (λ (k : Known). run old.catalog.now old.limits first.used (resting_at first old fs ss) (take count piece)
            ≡ record { given = (two.1, first.used + count) ∷ []; now = Ok (with_scan k (reading_of mid [] [])) }) (sym there)
            (ap (run old.catalog.now old.limits first.used (resting_at first old fs ss)) (front count (omega arith)) ∙ two.2)),
        record { holds = two.3.holds; hears = two.3.hears },
      )
  took_there Taken.Leaves y = λ fs ss h.
      let two = y.leads fs ss (record { holds = h; still = still; fits = fits fs ss h }) in
      let within = y.within in
      let most_of = few in
      let next : get_or octets count 0 ≡ get_or piece count 0 = ap (λ w. get_or w count 0) is ∙ get_there count most piece (omega arith) in (
        two.0,
        two.1,
        two.2,
        subst (λ (k : Known). run old.catalog.now old.limits k.used (with_scan k (reading_of old fs ss)) (take count piece) ≡ led two.2) (sym rests)
            (ap (run old.catalog.now old.limits first.used (resting_at first old fs ss)) (front count (omega arith)) ∙ two.3),
        subst (λ (k : Known). eats old.catalog.now old.limits two.2 (get_or piece count 0) ≡ leaves two.1 (with_scan k (reading_of mid [] []))) (sym there)
            (subst (λ o. eats old.catalog.now old.limits two.2 o ≡ leaves two.1 (resting_at behind mid [] [])) next two.4),
        record { holds = two.5.holds; hears = two.5.hears },
      )
