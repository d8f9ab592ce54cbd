-- What the end refuses for a reason that rows have is such a row.
use Rattle.std.proofs.Common.{◌≡◌, ℕ, nat_lt, Bool, true, false, List, [], ◌∷◌, ◌++◌, length, Result, Ok, Err, Option, Some, None, refl, sym, ap, ◌∙◌, subst, append_assoc, length-append, arith, if◌then◌else◌, codes}
use Rattle.ion_refusals.specs.Names.{Are, AwaitsColons, Catalog, Content, EndDecides, Frame, HasRow, Held, IsBody, Known, Lexeme, Lexes, LexesTo, Limits, Mark, Mark', Placed, Reading, Reason, Refusal, Scanned, Stage, State, TokenKind, Turn, Value, at, at_end, begun, begun_at, by_end, colon_behind, cut_short, end_late, end_now, end_of, end_ready, end_said, end_settled, end_turned, end_waiting, ends_of, gives, goes, is_closing, is_end_reason, is_fresh, is_idle, is_top, late, place, plain, refused_of, refuses, run, said, said_body, said_passes, settle, token_of, trace, turn}
use Rattle.ion_tokens.proofs.histories.EndCauses.{IsEndFair, end_fair}
use Rattle.ion_tokens.proofs.histories.Stepped.{all_since}
use Rattle.ion_tokens.proofs.runs.Scans.{placed}
use Rattle.ion_tokens.proofs.sound.Holds.{blank_none}
use Rattle.ion_tokens.proofs.sound.Told.{ends_in_token}
use Rattle.ion_refusals.proofs.deciding.Shows.{Shown, awaits_colons, flag, neither, shown_by}
use Rattle.ion_refusals.proofs.deciding.Turns.{Decided, TurnDecided, settled_decided, token_decided}
use Rattle.ion_text.specs.laws.reading.Reasons.{said_lexical}
use Rattle.ion_refusals.proofs.deciding.Lexical.{lexical_none}
use Rattle.ion_text.specs.laws.reading.Stops.{stood_used}
use Rattle.ion_text.specs.laws.reading.complete.Found.{no_more}
use Rattle.ion_text.specs.laws.reading.complete.Going.{mark_kind, top_place}
use Rattle.ion_text.specs.laws.reading.complete.Meets.{end_spans}
use Rattle.ion_text.specs.laws.reading.complete.Segments.{never}
use Rattle.ion_text.specs.laws.reading.sound.Admits.{at_end_fine}
use Rattle.ion_text.specs.laws.reading.sound.Held.{Behind, NoLongText, Reads, Scans, token_read}
use Rattle.ion_text.specs.laws.reading.sound.Quotes.{left_none}
use Rattle.ion_text.specs.laws.reading.sound.StandsOpen.{NowStands, PendingFor}
use Rattle.ion_text.specs.laws.reading.sound.Steps.{StoodBehind, begun_stood, run_ran}
use Rattle.ion_text.specs.laws.showing.shown.Opened.{symbol_colon}
use Rattle.ion_text.specs.laws.showing.tokens.Cuts.{lexed_front}
use Rattle.ion_text.specs.laws.showing.tokens.Froms.{EndsWaiting, Waits, run_waits}

-- 1. Tokens up to the end.

-- tokens up to the end, and then what is left
lexes_are : (ts : List Placed) (colon : Bool) (before : ℕ) (octets : List ℕ) → Lexes colon before octets ts → (after : Bool) × (end : ℕ) × (rest : List ℕ)
    × LexesTo colon before octets ts after end rest
lexes_are [] colon before octets h = (colon, before, octets, (refl, refl, refl))
lexes_are (t ∷ ts) colon before octets (q, b, h) = let x = lexes_are ts (colon_behind t) t.lexeme.end q h in (x.0, x.1, x.2, (q, b, x.3))

-- the last of the tokens ends where all of them do
pub last_ends : (ts : List Placed) (t : Placed) (colon : Bool) (before : ℕ) (octets : List ℕ) (after : Bool) (end : ℕ) (rest : List ℕ)
    → LexesTo colon before octets (ts ++ t ∷ []) after end rest → t.lexeme.end ≡ end
last_ends [] t colon before octets after end rest (q, b, h) = h.1
last_ends (x ∷ ts) t colon before octets after end rest (q, b, h) = last_ends ts t (colon_behind x) x.lexeme.end q after end rest h

-- the last of them ends with the octets
all_are : (u : List ℕ) (ts : List Placed) (t : Placed) → Lexes false 0 u (ts ++ t ∷ []) → t.lexeme.end ≡ length u → Are u (ts ++ t ∷ []) []
all_are u ts t h e =
    let x = lexes_are (ts ++ t ∷ []) false 0 u h in
    let last = last_ends ts t false 0 u x.0 x.1 x.2 x.3 in
    let f = lexed_front (ts ++ t ∷ []) false 0 u x.0 x.1 x.2 x.3 in
    let none : x.2 ≡ [] = no_more x.2 (omega (arith, last, f.2, e, ap length f.1, length-append f.0 x.2)) in
    (x.0, x.1, subst (LexesTo false 0 u (ts ++ t ∷ []) x.0 x.1) none x.3)

-- what the scanner's end refuses for
end_rowless : (e : Reason) → is_end_reason e ≡ true → HasRow e → ⊥
end_rowless Reason.Memory h i = i
end_rowless Reason.Incomplete h i = i
end_rowless Reason.TooLarge h i = i
end_rowless Reason.Malformed h i = i
end_rowless Reason.Float h i = i
end_rowless _ h i = absurd cc

-- an open brace
abbrev opens_struct : Content → Bool
opens_struct (Mark' Mark.FieldsOpen) = true
opens_struct _ = false

opens_is : (c : Content) → opens_struct c ≡ true → c ≡ Mark' Mark.FieldsOpen
opens_is (Mark' Mark.FieldsOpen) h = refl
opens_is _ h = absurd cc

-- nothing is left
none_then : (w more : List ℕ) → [] ≡ w ++ codes "::" ++ more → ⊥
none_then [] more e = cc
none_then (x ∷ w) more e = cc

module _ (g : Catalog) (l : Limits) (u : List ℕ) where
  -- how tokens stand to octets that end with them
  abbrev AllAre : Scans
  AllAre p s v ts ahead = Are v ts []

  -- 2. What the end answers.

  -- a refusal is a row
  abbrev EndRows : Result (Option Value) Refusal → Type 0
  EndRows (Err r) = HasRow r.reason → EndDecides g l u r.reason
  EndRows (Ok v) = Unit {0}

  late_rows : (used : ℕ) (e : Reason) → Decided g l (by_end u) e → EndRows (end_late used e)
  late_rows used Reason.Depth h = λ i. absurd i
  late_rows used _ h = h

  fresh_rows : (used : ℕ) (b : Bool) → EndRows (if b then Ok None else cut_short used)
  fresh_rows used true = tt
  fresh_rows used false = λ i. absurd i

  settled_rows : (used : ℕ) (t : Turn) → TurnDecided g l (by_end u) t → EndRows (end_settled used t)
  settled_rows used (goes r) h = fresh_rows used (is_fresh r)
  settled_rows used (gives v r) h = tt
  settled_rows used (refuses e) h = h
  settled_rows used (late e r) h = late_rows used e h

  waiting_rows : (used : ℕ) (x : Result (Option Lexeme) Reason) (t : Turn) → TurnDecided g l (by_end u) t → EndRows (end_waiting g l used x t)
  waiting_rows used (Ok None) t h = settled_rows used t h
  waiting_rows used (Ok (Some x)) (refuses e) h = h
  waiting_rows used (Ok (Some x)) (late e r) h = late_rows used e h
  waiting_rows used (Err y) (refuses e) h = h
  waiting_rows used (Err y) (late e r) h = late_rows used e h
  waiting_rows used _ _ h = λ i. absurd i

  -- what a token that the end ended leads to
  abbrev SettlesToRow : Turn → Type 0
  SettlesToRow (goes r) = TurnDecided g l (by_end u) (settle g l r)
  SettlesToRow _ = Unit {0}

  turned_rows : (used : ℕ) (t : Turn) → TurnDecided g l (by_end u) t → SettlesToRow t → EndRows (end_turned g l used t)
  turned_rows used (goes r) h k = settled_rows used (settle g l r) k
  turned_rows used (gives v r) h k = tt
  turned_rows used (refuses e) h k = h
  turned_rows used (late e r) h k = late_rows used e h

  -- An open brace leaves a struct open.
  open_rows : (used : ℕ) (r : Reading) (x : Lexeme) → EndRows (end_turned g l used (turn g l r (token_of x (Mark' Mark.FieldsOpen))))
  open_rows used r x = go r.now
    where
      go : (n : Stage) → EndRows (end_turned g l used (turn g l (at r.start r.context r.frames r.notes n) (token_of x (Mark' Mark.FieldsOpen))))
      go Stage.Ready = by (nat_lt (length r.frames) l.depth)
        where
          begin : ℕ
          begin = begun_at r.start x.start r.frames r.notes

          by : (b : Bool) → EndRows (end_turned g l used (if b then goes (at begin r.context (Frame.Fields r.notes [] ∷ r.frames) [] Stage.Name) else late
              Reason.Depth (at begin r.context (Frame.Fields r.notes [] ∷ r.frames) [] Stage.Name)))
          by true = λ i. absurd i
          by false = λ i. absurd i
      go (Stage.Pending h e) = λ i. absurd i
      go _ = λ i. absurd i

  module _ (vs : List Value) (s : Known) (r : Reading) (b : Behind g l Scanned u vs s r [] (NoLongText s.mode)) (used' : s.used ≡ length u)
      (wait : Waits g l s r.now) where
    abbrev ts : List Placed
    ts = b.front ++ b.item

    awaits : (h : Held) (end : ℕ) → r.now ≡ Stage.Pending h end → r.frames ≡ [] → AwaitsColons u ts
    awaits h end e top =
        let d : PendingFor r.context r.frames r.notes h b.item = subst (NowStands r.context r.frames r.notes b.item) e b.stands in
        let last : ts ≡ (b.front ++ d.before) ++ d.token ∷ [] = ap (λ y. b.front ++ y) d.whole ∙ sym (append_assoc b.front d.before (d.token ∷ [])) in
        awaits_colons (place r) s u ts [] b.scanned 0 (0 ∷ [], refl) (top_place r.frames r.now (ap is_top top))
        (flag (place r) s u ts [] b.scanned 0 (0 ∷ [], refl) (b.front ++ d.before) d.token last
        (symbol_colon d.token.place d.token.lexeme.kind d.token.lexeme.octets d.said d.says.body d.named))
        (subst (Waits g l s) e wait) refl

    waited : TurnDecided g l (by_end u) (settle g l r)
    waited = settled_decided g l (by_end u) r.context b.front vs b.pieces r.start b.item r.frames r.notes r.now b.first b.stands awaits

    -- a token that the end ends
    module _ (x : Lexeme) (e : at_end (place r) s ≡ Ok (Some x)) (c : Content) (k : said x.kind x.octets ≡ Ok c) where
      body : IsBody x.kind x.octets (Ok c)
      body = said_body x.kind x.octets c k

      here : Are u (ts ++ placed (place r) x ∷ []) []
      here =
          let y = all_since (place r) s u ts b.scanned in
          all_are u ts (placed (place r) x)
          (subst (λ z. Lexes false 0 z (ts ++ placed (place r) x ∷ [])) (sym b.scanned.cut)
          (ends_in_token b.scanned.behind s b.scanned.front ts b.scanned.left b.scanned.since y.0 (place r) x b.scanned.told b.scanned.pass y.1 b.scanned.ran e
          (said_passes x.kind x.octets c k)))
          ((end_spans s (end_of (place r) s.mode) x e).1 ∙ used')

      closing : (m : Mark) → c ≡ Mark' m → is_closing (TokenKind.Mark m) ≡ true → (m ≡ Mark.Colon → ⊥) → ⊥
      closing m f i n = go (is_idle s.mode) refl
        where
          kind : x.kind ≡ TokenKind.Mark m
          kind = mark_kind x.kind x.octets m (subst (λ y. IsBody x.kind x.octets (Ok y)) f body)

          go : (y : Bool) → is_idle s.mode ≡ y → ⊥
          go false f = never (is_closing x.kind) ((at_end_fine (place r) s x e).2 f) (ap is_closing kind ∙ i)
          go true f = neither m x.kind kind n ((at_end_fine (place r) s x e).4 f)

      shown : (c ≡ Mark' Mark.FieldsOpen → ⊥) → Shown (by_end u) (ts ++ placed (place r) x ∷ []) c
      shown n = shown_by (by_end u) (ts ++ placed (place r) x ∷ []) c (λ b. here) n closing

      -- behind it `::` may yet follow, where nothing else does
      settles : (t : Turn) → Reads g l AllAre u vs s [] (λ n. Unit {0}) t → SettlesToRow t
      settles (goes m) h = settled_decided g l (by_end u) m.context h.front vs h.pieces m.start h.item m.frames m.notes m.now h.first h.stands
          (λ y end f top. record { rest = []; are = h.scanned; before = (codes "::", ([], [], blank_none, refl)); after = λ i. none_then i.0 i.1 i.3 })
      settles _ h = tt

      read : Reads g l AllAre u vs s [] (λ n. Unit {0}) (turn g l r (token_of x c))
      read =
          let fine = at_end_fine (place r) s x e in
          token_read g l Scanned u vs s r [] (NoLongText s.mode) b x (λ a. (fine.0, λ t. left_none x.kind x.start x.end (fine.1 a.1))) AllAre u s []
          (λ n. Unit {0}) c k (λ q. here) b.sane b.fine

      token_rows : (used : ℕ) → EndRows (end_turned g l used (turn g l r (token_of x c)))
      token_rows used = go (opens_struct c) refl
        where
          other : (c ≡ Mark' Mark.FieldsOpen → ⊥) → EndRows (end_turned g l used (turn g l r (token_of x c)))
          other n =
              turned_rows used (turn g l r (token_of x c))
              (token_decided g l (by_end u) r.context b.front vs b.pieces (placed (place r) x) x.start x.end r.start b.item r.frames r.notes c r.now b.deep
              b.first b.stands (record { place = refl; body = body })
              (subst (λ y. Shown (by_end u) y c) (append_assoc b.front b.item (placed (place r) x ∷ [])) (shown n)))
              (settles (turn g l r (token_of x c)) read)

          go : (y : Bool) → opens_struct c ≡ y → EndRows (end_turned g l used (turn g l r (token_of x c)))
          go true f = subst (λ y. EndRows (end_turned g l used (turn g l r (token_of x y)))) (sym (opens_is c f)) (open_rows used r x)
          go false f = other (λ q. absurd (let z : true ≡ false = sym (ap opens_struct q) ∙ f in cc))

    said_rows : (used : ℕ) (x : Lexeme) → at_end (place r) s ≡ Ok (Some x) → (c : Result Content Reason) → said x.kind x.octets ≡ c
        → EndRows (end_said g l used r x c)
    said_rows used x e (Ok c) k = token_rows x e c k used
    said_rows used x e (Err y) k = λ i. absurd (lexical_none y (said_lexical x.kind x.octets y k) i)

    ready_rows : (used : ℕ) (x : Result (Option Lexeme) Reason) → at_end (place r) s ≡ x → EndRows (end_ready g l used r x)
    ready_rows used (Ok None) e = fresh_rows used (is_fresh r)
    ready_rows used (Ok (Some x)) e = said_rows used x e (said x.kind x.octets) refl
    ready_rows used (Err y) e = λ i. absurd (end_rowless y (subst IsEndFair e (end_fair (place r) s u ts b.scanned)) i)

    now_rows : (used : ℕ) (n : Stage) → EndRows (end_now g l used r (at_end (place r) s) n)
    now_rows used (Stage.Pending h end) = waiting_rows used (at_end (place r) s) (settle g l r) waited
    now_rows used (Stage.Long w end) = waiting_rows used (at_end (place r) s) (settle g l r) waited
    now_rows used (Stage.LongName w) = λ i. absurd i
    now_rows used _ = ready_rows used (at_end (place r) s) refl

  end_rows : (given : List (Value × ℕ)) (now : Result State Refusal) → StoodBehind g l u [] (record { given = given; now = now }) → EndsWaiting g l now
      → refused_of now ≡ None → EndRows (ends_of g l now)
  end_rows given (Ok m) b wait h = now_rows (plain given) m.scan m.reading b (stood_used g l u (plain given) m b) wait m.scan.used m.reading.now
  end_rows given (Err q) b wait h = absurd cc

-- What the end refuses for such a reason is a row of the table.
pub end_deciding : (g : Catalog) (l : Limits) (u : List ℕ) (r : Refusal) → (trace g l u).refused ≡ None → (trace g l u).ends ≡ Err r → HasRow r.reason
    → EndDecides g l u r.reason
end_deciding g l u r h e =
    let x = run g l 0 begun u in
    subst (EndRows g l u) e (end_rows g l u x.given x.now (run_ran g l u [] [] 0 begun (begun_stood g l)) (run_waits g l u [] [] 0 begun (begun_stood g l) tt)
    h)
