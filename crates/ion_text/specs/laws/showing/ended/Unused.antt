-- Where the end of the octets would give a value, the next octet isn't used to give one: what shows that a value has ended isn't part of it.
use Rattle.std.proofs.Common.{◌≡◌, ℕ, Bool, true, false, ◌&&◌, not, nat_lt, List, [], ◌∷◌, Result, Ok, Err, Option, Some, None, refl, sym, ap, ◌∙◌, subst, ◌⊎◌, inl, inr, if◌then◌else◌}
use Rattle.std.proofs.lemmas.Bool.{cond_both}
use Rattle.std.specs.Prelude.{◌==◌, bytes_eq, codes}
use Rattle.ion_text.specs.Names.{Action, Bracket, Catalog, Content, Effect, Frame, Given, Known, Left, Lexeme, Limits, Mark, Mark', Mode, Next, Outcome, Place, Placed, Reading, Reason, Refused, Slot, Spot, Stage, State, Symbols, Token, TokenKind, Turn, Value, acts, at, at_end, begun_at, blob_ends, blob_of, cut_short, end_of, end_ready, end_said, end_settled, end_turned, end_waiting, ends_at, feed, first_now, gives, goes, is_fresh, is_mark, is_top, late, open_mark, opened, place, refuses, said, said_body, settle, takes, tells, token_at, token_of, turn, under}
use Rattle.ion_tokens.specs.machine.Table.{next}
use Rattle.ion_tokens.specs.laws.ByRows.{by_rows_where}
use Rattle.ion_text.specs.machine.Run.{ends}
use Rattle.ion_text.specs.laws.reading.complete.Going.{InsideTurn, closes_kind, mark_kind, settle_inside}
use Rattle.ion_text.specs.laws.reading.sound.Admits.{at_end_fine, late_never}
use Rattle.ion_text.specs.laws.reading.Effects.{GivesSo, LeavesSo, ScansSo, SettlesSo, takes_each}
use Rattle.ion_text.specs.laws.reading.sound.Spans.{IsClose, IsTopNow, SettlesWithin, Spans, settle_spans, turn_spans}
use Rattle.ion_text.specs.machine.Ways.{SettledWay, TokenWay, ValueWay, now_way, settled_free, settled_held, settled_marker, settled_name, settled_text, settled_way, token_deep, token_held, token_list, token_long_name, token_more, token_more_name, token_name, token_noted, token_open, token_refused, token_sexp, token_struct, token_text, token_unnamed, token_unnoted, token_value, value_field, value_item, value_table}
use Rattle.ion_text.specs.laws.reading.sound.StandsOpen.{NowStands, start_now}

-- 1. What an octet does where neither a quoted text nor a lob is open, nor a brace that may begin a lob.

-- neither a quoted text nor a lob is open, nor what may begin one
abbrev pub is_plain : Mode → Bool
is_plain Mode.Quote = false
is_plain (Mode.Text s w) = false
is_plain Mode.Brace = false
is_plain (Mode.Lob l) = false
is_plain _ = true

abbrev pub is_opening : TokenKind → Bool
is_opening (TokenKind.Mark Mark.ListOpen) = true
is_opening (TokenKind.Mark Mark.SexpOpen) = true
is_opening (TokenKind.Mark Mark.FieldsOpen) = true
is_opening _ = false

-- with the octet ends a mark alone, and before it none that opens a container
abbrev plainly : Action → Bool
plainly (Action.Give kind k) = is_mark kind
plainly (Action.Before kind k m) = not (is_opening kind) && is_plain m
plainly _ = true

table_plainly : (p : Place) (colon : Bool) (m : Mode) (o : ℕ) → is_plain m ≡ true → plainly (next p colon m o) ≡ true
table_plainly = by_rows_where is_plain (λ sexp m. plainly) (λ c t. refl)

abbrev IsPlainly : Outcome → Type 0
IsPlainly (Given x s) = is_mark x.kind ≡ true
IsPlainly (Left x s) = (is_opening x.kind ≡ false) × (is_plain s.mode ≡ true)
IsPlainly _ = Unit {0}

parts : (a b : Bool) → (not a && b) ≡ true → (a ≡ false) × (b ≡ true)
parts false true h = (refl, refl)
parts _ _ h = absurd cc

acts_plainly : (p : Place) (s : Known) (o : ℕ) (a : Action) → plainly a ≡ true → IsPlainly (acts p s o a)
acts_plainly p s o (Action.Go m k) h = tt
acts_plainly p s o (Action.Give kind k) h = h
acts_plainly p s o (Action.Before kind k m) h = parts (is_opening kind) (is_plain m) h
acts_plainly p s o Action.EndWord h = cond_both ((o == 46) && bytes_eq s.kept (codes "null")) _ _ IsPlainly (λ e. tt) (λ e. (refl, refl))
acts_plainly p s o (Action.Split n) h = (refl, refl)
acts_plainly p s o Action.EndBlob h = blob (blob_of s.kept)
  where
    blob : (b : Option (List ℕ)) → IsPlainly (blob_ends s b)
    blob None = tt
    blob (Some octets) = tt
acts_plainly p s o (Action.Refuse e) h = tt

feed_plainly : (p : Place) (s : Known) (o : ℕ) → is_plain s.mode ≡ true → IsPlainly (feed p s o)
feed_plainly p s o h = acts_plainly p s o (next p s.colon s.mode o) (table_plainly p s.colon s.mode o h)

-- a mark says that it is one
mark_says : (k : TokenKind) (octets : List ℕ) (c : Content) → is_mark k ≡ true → said k octets ≡ Ok c → (m : Mark) × (c ≡ Mark' m)
unfolding said
mark_says (TokenKind.Mark m) octets c h e = (m, let f : Mark' m ≡ c = cc in sym f)
mark_says _ octets c h e = absurd cc

fields_say : (octets : List ℕ) (c : Content) → said (TokenKind.Mark Mark.FieldsOpen) octets ≡ Ok c → c ≡ Mark' Mark.FieldsOpen
unfolding said
fields_say octets c e = let f : Mark' Mark.FieldsOpen ≡ c = cc in sym f

abbrev opens : Content → Bool
opens (Mark' m) = is_opening (TokenKind.Mark m)
opens _ = false

said_opens : (k : TokenKind) (octets : List ℕ) (c : Content) → said k octets ≡ Ok c → is_opening k ≡ false → opens c ≡ false
said_opens k octets (Mark' m) e h = subst (λ x. is_opening x ≡ false) (mark_kind k octets m (said_body k octets (Mark' m) e)) h
said_opens k octets _ e h = refl

-- 2. What a token does where no container is open.

abbrev pub AtTop : Reading → Type 0
AtTop r = (is_top r.frames ≡ true) × IsTopNow r.now

-- it opens no container
abbrev OpensNone : Turn → Type 0
OpensNone (goes r) = AtTop r
OpensNone _ = Unit {0}

-- it gives no value
abbrev Never : Turn → Type 0
Never (gives v r) = ⊥
Never _ = Unit {0}

-- a struct is open
abbrev braced : ℕ → List Slot → Symbols → Reading
braced start c ss = at start c (opened Bracket.Fields ss ∷ []) [] (first_now Bracket.Fields)

module _ (g : Catalog) (l : Limits) where
  value_stays : (spot : Spot) (v : Value) (fs : List Frame) (t : Turn) → ValueWay (under g l) spot v fs t → is_top fs ≡ true → OpensNone t
  value_stays spot v _ _ (value_table d fits) h = (refl, tt)
  value_stays spot v _ _ (value_item listing ss vs fs) h = absurd cc
  value_stays spot v _ _ (value_field ss ms s fs) h = absurd cc
  value_stays spot v _ _ _ h = tt

  opens_one : (bracket : Bracket) → opens (Mark' (open_mark bracket)) ≡ true
  opens_one Bracket.List = refl
  opens_one Bracket.Sexp = refl
  opens_one Bracket.Fields = refl

  turn_stays : (r : Reading) (t : Token) → AtTop r → opens t.said ≡ false → OpensNone (turn g l r t)
  turn_stays r t a o = by r.frames r.now _ (now_way g l t.start t.end r.start r.context r.frames r.notes t.said r.now) a.0 a.1
    where
      by : (fs : List Frame) (now : Stage) (x : Turn) → TokenWay g l t.start t.end r.start r.context t.said r.notes fs now x → is_top fs ≡ true → IsTopNow now
          → OpensNone x
      by _ _ _ (token_refused fs now e d) h i = tt
      by _ _ _ (token_deep fs e d) h i = tt
      by _ _ _ (token_unnoted fs k e x f d) h i = tt
      by _ _ _ (token_value fs q x none flat way) h i = value_stays _ _ fs x way h
      by _ _ _ (token_open fs bracket e k) h i = absurd (let n : true ≡ false = sym (opens_one bracket) ∙ (sym (ap opens e) ∙ o) in cc)
      by _ _ _ (token_held fs k) h i = (h, tt)
      by _ _ _ (token_text fs w) h i = (h, tt)
      by _ _ _ (token_noted fs k e s) h i = (h, tt)
      by _ _ _ (token_more fs v e w) h i = (h, tt)
      by _ _ _ (token_name fs s) h i = absurd i
      by _ _ _ (token_unnamed fs s k) h i = absurd i
      by _ _ _ (token_long_name fs w) h i = absurd i
      by _ _ _ (token_more_name fs v w) h i = absurd i
      by _ _ _ _ h i = absurd cc

  mark_never : (r : Reading) (begin end : ℕ) (m : Mark) → AtTop r → Never (turn g l r (token_at begin end (Mark' m)))
  mark_never r begin end m a = by r.frames r.now _ (now_way g l begin end r.start r.context r.frames r.notes (Mark' m) r.now) a.0
    where
      by : (fs : List Frame) (now : Stage) (x : Turn) → TokenWay g l begin end r.start r.context (Mark' m) r.notes fs now x → is_top fs ≡ true → Never x
      by _ _ _ (token_value fs q x none flat way) h = absurd (none m refl)
      by _ _ _ (token_list rs vs fs now x e way) h = absurd cc
      by _ _ _ (token_sexp rs vs fs now x e way) h = absurd cc
      by _ _ _ (token_struct rs ms fs now x e way) h = absurd cc
      by _ _ _ _ h = tt

  settled_stays : (r : Reading) → AtTop r → OpensNone (settle g l r)
  settled_stays r a = by r.frames r.now _ (settled_way g l r.start r.context r.frames r.notes r.now) a.0 a.1
    where
      by : (fs : List Frame) (now : Stage) (t : Turn) → SettledWay g l r.start r.context r.notes fs now t → is_top fs ≡ true → IsTopNow now → OpensNone t
      by _ _ _ (settled_free fs now i e) h k = (h, k)
      by _ _ _ (settled_name fs w) h k = absurd k
      by _ _ _ (settled_held fs x end q t flat way) h k = value_stays _ _ fs t way h
      by _ _ _ (settled_text fs w end t way) h k = value_stays _ _ fs t way h
      by _ _ _ (settled_marker x end fits) h k = (refl, tt)
      by _ _ _ _ h k = tt

-- 3. What an octet does there: if a value comes, the octet isn't used.

-- if a value comes, the octet isn't used to give it
abbrev pub IsUntold : Effect → Type 0
IsUntold (tells v m) = ⊥
IsUntold _ = Unit {0}

-- what the scanner holds and what is read there
abbrev IsPlainTop : Known → Reading → Type 0
IsPlainTop s r = (is_plain s.mode ≡ true) × AtTop r

module _ (g : Catalog) (l : Limits) where
  given_untold : (s : Known) (t : Turn) → Never t → GivesSo g l IsUntold (λ e. tt) IsPlainTop s t
  given_untold s (goes r) h = λ k. tt
  given_untold s (gives v r) h = absurd h
  given_untold s _ h = tt

  left_untold : (s : Known) (t : Turn) → is_plain s.mode ≡ true → OpensNone t → LeavesSo g l IsUntold (λ e. tt) IsPlainTop s t
  left_untold s (goes r) p h = (p, h)
  left_untold s _ p h = tt

  scans_untold : (r : Reading) (x : Outcome) → AtTop r → IsPlainly x → ScansSo g l IsUntold (λ e. tt) IsPlainTop r x
  scans_untold r (Next s) a h = λ k. tt
  scans_untold r (Given x s) a h = λ c k.
      let m = mark_says x.kind x.octets c h k in
      given_untold s (turn g l r (token_of x c)) (subst (λ y. Never (turn g l r (token_of x y))) (sym m.1) (mark_never g l r x.start x.end m.0 a))
  scans_untold r (Left x s) a h = λ c k.
      left_untold s (turn g l r (token_of x c)) h.1 (turn_stays g l r (token_of x c) a (said_opens x.kind x.octets c k h.0))
  scans_untold r (Refused n e) a h = tt

  settles_untold : (s : Known) (x : Outcome) (t : Turn) → OpensNone t → IsPlainly x → SettlesSo g l IsUntold (λ e. tt) IsPlainTop s x t
  settles_untold s x (goes r) h p = scans_untold r x h p
  settles_untold s x _ h p = tt

  -- at the top level, where neither quotes nor a lob are open, an octet isn't used to give a value
  pub takes_untold : (n o : ℕ) (m : State) → is_plain m.scan.mode ≡ true → AtTop m.reading → IsUntold (takes g l n m o)
  takes_untold n o m p a =
      takes_each g l IsUntold (λ e. tt) IsPlainTop o
      (λ s r h e. scans_untold r (feed (place r) s o) h.1 (feed_plainly (place r) s o h.0))
      (λ s r h e. settles_untold s (feed (place r) s o) (settle g l r) (settled_stays g l r h.1) (feed_plainly (place r) s o h.0)) n m (p, a)

-- 4. Where the end gives a value, it stands so.

blank_plain : (p : Place) (s : Known) → at_end p s ≡ Ok None → is_plain s.mode ≡ true
blank_plain p s h = go s.mode h
  where
    go : (m : Mode) → ends_at s (end_of p m) ≡ Ok None → is_plain m ≡ true
    go Mode.Quote e = absurd cc
    go (Mode.Text t w) e = absurd cc
    go Mode.Brace e = absurd cc
    go (Mode.Lob b) e = absurd cc
    go _ e = refl

token_plain : (p : Place) (s : Known) (x : Lexeme) → at_end p s ≡ Ok (Some x) → (is_plain s.mode ≡ true) ⊎ (x.kind ≡ TokenKind.Mark Mark.FieldsOpen)
token_plain p s x h = go s.mode h
  where
    go : (m : Mode) → ends_at s (end_of p m) ≡ Ok (Some x) → (is_plain m ≡ true) ⊎ (x.kind ≡ TokenKind.Mark Mark.FieldsOpen)
    go Mode.Quote e = absurd cc
    go (Mode.Text t w) e = absurd cc
    go Mode.Brace e = inr cc
    go (Mode.Lob b) e = absurd cc
    go _ e = inl refl

-- what stands at the top level may stand there
pub top_now : (c : List Slot) (fs : List Frame) (ss : Symbols) (ts : List Placed) (now : Stage) → NowStands c fs ss ts now → is_top fs ≡ true → IsTopNow now
top_now c fs ss ts Stage.Ready h e = tt
top_now c fs ss ts (Stage.Pending k end) h e = tt
top_now c fs ss ts (Stage.Long w end) h e = tt
top_now c [] ss ts Stage.After h e = h.2
top_now c [] ss ts Stage.Name h e = h.1
top_now c [] ss ts _ h e = h.struct
top_now c (f ∷ fs) ss ts _ h e = absurd cc

abbrev IsGiven : Turn → Type 0
IsGiven (gives v r) = Unit {0}
IsGiven _ = ⊥

module _ (g : Catalog) (l : Limits) where
  -- where nothing waits, an end that ends no token gives no value
  pub no_value : (b : Bool) (used : ℕ) (v : Value) → (if b then Ok None else cut_short used) ≡ Ok (Some v) → ⊥
  no_value true used v h = let n : Ok None ≡ Ok (Some v) = h in cc
  no_value false used v h = cc

  given_end : (used : ℕ) (t : Turn) (v : Value) → end_settled used t ≡ Ok (Some v) → IsGiven t
  given_end used (goes r) v h = no_value (is_fresh r) used v h
  given_end used (gives w r) v h = tt
  given_end used (refuses e) v h = cc
  given_end used (late e r) v h = late_never g l used e (Some v) h

  -- where the end gives a value that waited, no token ends with it, and settling gives the value
  pub waiting_end : (used : ℕ) (x : Result (Option Lexeme) Reason) (t : Turn) (v : Value) → end_waiting g l used x t ≡ Ok (Some v) → (x ≡ Ok None) × IsGiven t
  waiting_end used (Ok None) t v h = (refl, given_end used t v h)
  waiting_end used (Ok (Some x)) (late e r) v h = absurd (late_never g l used e (Some v) h)
  waiting_end used (Err f) (late e r) v h = absurd (late_never g l used e (Some v) h)
  waiting_end used _ _ v h = absurd cc

  settled_top : (start end : ℕ) (fs : List Frame) (t : Turn) → SettlesWithin g l start end fs t → IsGiven t → is_top fs ≡ true
  settled_top start end fs (gives v r) s i = s.0
  settled_top start end fs _ s i = absurd i

  -- in a container the end gives none
  inside_given : (start : ℕ) (t : Turn) → InsideTurn g l start t → IsGiven t → ⊥
  inside_given start (gives v r) k i = k
  inside_given start _ k i = i

  inside_end : (used item start end : ℕ) (c : Content) (t : Turn) (v : Value) → (IsClose false c → ⊥) → Spans false c item start end t
      → end_turned g l used t ≡ Ok (Some v) → ⊥
  inside_end used item start end c (goes r) v unclosed (inl (inl k, e, f)) h =
      inside_given r.start (settle g l r) (settle_inside g l r.start r.context r.frames r.notes r.now k) (given_end used (settle g l r) v h)
  inside_end used item start end c (goes r) v unclosed (inl (inr k, e, f)) h = let n : false ≡ true = k.0 in cc
  inside_end used item start end c (goes r) v unclosed (inr k) h = unclosed k.1
  inside_end used item start end c (gives w r) v unclosed k h = unclosed k.1
  inside_end used item start end c (refuses e) v unclosed k h = cc
  inside_end used item start end c (late e r) v unclosed k h = late_never g l used e (Some v) h

  -- a brace opens a struct
  brace_end : (used start : ℕ) (c : List Slot) (fs : List Frame) (ss : Symbols) (now : Stage) (begin end : ℕ) (v : Value) → is_top fs ≡ true → IsTopNow now
      → end_turned g l used (turn g l (at start c fs ss now) (record { start = begin; end = end; said = Mark' Mark.FieldsOpen })) ≡ Ok (Some v) → ⊥
  brace_end used start c (f ∷ fs) ss now begin end v t i h = absurd cc
  brace_end used start c [] ss Stage.Ready begin end v t i h = go (nat_lt 0 l.depth) h
    where
      go : (b : Bool) → end_turned g l used (if b then goes (braced (begun_at start begin [] ss) c ss) else late Reason.Depth
          (braced (begun_at start begin [] ss) c ss)) ≡ Ok (Some v) → ⊥
      go true h = cc
      go false h = cc
  brace_end used start c [] ss (Stage.Pending k e) begin end v t i h = cc
  brace_end used start c [] ss (Stage.Long w e) begin end v t i h = cc
  brace_end used start c [] ss _ begin end v t i h = i

  -- no container is open, and neither a quoted text nor a lob, nor what may begin one
  abbrev pub StandsSo : Known → Reading → Type 0
  StandsSo s r = (is_plain s.mode ≡ true) × AtTop r

  module _ (used : ℕ) (s : Known) (r : Reading) (v : Value) (ok : is_top r.frames ≡ true → IsTopNow r.now) where
    token_top : (x : Lexeme) (c : Content) → at_end (place r) s ≡ Ok (Some x) → said x.kind x.octets ≡ Ok c → end_turned g l used (turn g l r (token_of x c))
        ≡ Ok (Some v) → is_top r.frames ≡ true
    token_top x c e k h = go (is_top r.frames) refl
      where
        unclosed : IsClose false c → ⊥
        unclosed i = let n : true ≡ false = sym (closes_kind x.kind x.octets c i (said_body x.kind x.octets c k)) ∙ (at_end_fine (place r) s x e).3 in cc

        go : (b : Bool) → is_top r.frames ≡ b → is_top r.frames ≡ true
        go true f = f
        go false f =
            absurd (inside_end used l.item (start_now r.now r.start x.start r.frames r.notes) x.end c (turn g l r (token_of x c)) v unclosed
            (subst (λ b. Spans b c l.item (start_now r.now r.start x.start r.frames r.notes) x.end (turn g l r (token_of x c))) f
            (turn_spans g l r (token_of x c) ok)) h)

    token_so : (x : Lexeme) (c : Content) → at_end (place r) s ≡ Ok (Some x) → said x.kind x.octets ≡ Ok c → end_turned g l used (turn g l r (token_of x c))
        ≡ Ok (Some v) → StandsSo s r
    token_so x c e k h = (go (token_plain (place r) s x e), (top, ok top))
      where
        top : is_top r.frames ≡ true
        top = token_top x c e k h

        go : (is_plain s.mode ≡ true) ⊎ (x.kind ≡ TokenKind.Mark Mark.FieldsOpen) → is_plain s.mode ≡ true
        go (inl p) = p
        go (inr q) =
            let says : c ≡ Mark' Mark.FieldsOpen = fields_say x.octets c (subst (λ y. said y x.octets ≡ Ok c) q k) in
            absurd (brace_end used r.start r.context r.frames r.notes r.now x.start x.end v top (ok top)
            (subst (λ y. end_turned g l used (turn g l r (token_of x y)) ≡ Ok (Some v)) says h))

    ready_so : end_ready g l used r (at_end (place r) s) ≡ Ok (Some v) → StandsSo s r
    ready_so h = go (at_end (place r) s) refl h
      where
        said_so : (x : Lexeme) → at_end (place r) s ≡ Ok (Some x) → (c : Result Content Reason) → said x.kind x.octets ≡ c
            → end_said g l used r x c ≡ Ok (Some v) → StandsSo s r
        said_so x e (Ok c) k h = token_so x c e k h
        said_so x e (Err f) k h = absurd cc

        go : (x : Result (Option Lexeme) Reason) → at_end (place r) s ≡ x → end_ready g l used r x ≡ Ok (Some v) → StandsSo s r
        go (Ok None) e h = absurd (no_value (is_fresh r) used v h)
        go (Ok (Some x)) e h = said_so x e (said x.kind x.octets) refl h
        go (Err f) e h = absurd cc

  waits_so : (used : ℕ) (s : Known) (start : ℕ) (c : List Slot) (fs : List Frame) (ss : Symbols) (now : Stage) (end : ℕ) (v : Value) → IsTopNow now
      → SettlesWithin g l start end fs (settle g l (at start c fs ss now))
      → end_waiting g l used (at_end (place (at start c fs ss now)) s) (settle g l (at start c fs ss now)) ≡ Ok (Some v) → StandsSo s (at start c fs ss now)
  waits_so used s start c fs ss now end v i k h =
      let w = waiting_end used (at_end (place (at start c fs ss now)) s) (settle g l (at start c fs ss now)) v h in
      (blank_plain (place (at start c fs ss now)) s w.0, (settled_top start end fs (settle g l (at start c fs ss now)) k w.1, i))

  -- where the end gives a value, no container is open, and neither a quoted text nor a lob
  pub ends_so : (s : Known) (start : ℕ) (c : List Slot) (fs : List Frame) (ss : Symbols) (now : Stage) (v : Value) → (is_top fs ≡ true → IsTopNow now)
      → ends g l (record { scan = s; reading = at start c fs ss now }) ≡ Ok (Some v) → StandsSo s (at start c fs ss now)
  ends_so s start c fs ss (Stage.Pending k e) v ok h = waits_so s.used s start c fs ss (Stage.Pending k e) e v tt
      (settle_spans g l start c fs ss (Stage.Pending k e) 0 tt) h
  ends_so s start c fs ss (Stage.Long w e) v ok h = waits_so s.used s start c fs ss (Stage.Long w e) e v tt (settle_spans g l start c fs ss (Stage.Long w e) 0 tt)
      h
  ends_so s start c fs ss (Stage.LongName w) v ok h = absurd cc
  ends_so s start c fs ss now v ok h = ready_so s.used s (at start c fs ss now) v ok h
