-- Octets that the end accepts are a document with the values given.
use Rattle.std.proofs.Common.{◌≡◌, ℕ, List, [], ◌∷◌, ◌++◌, Bool, true, false, cond, Result, Ok, Err, Option, Some, None, refl, ap, sym, ◌∙◌, subst, append-nil, option_to_list, if◌then◌else◌, ◌⊎◌, inl, inr}
use Rattle.ion_text.specs.Names.{Catalog, Content, Document, End, Frame, Keep, Known, Lexeme, Lexes, Limits, Mark, Mode, Place, Placed, Reading, Reason, Refusal, Scanned, Slot, Stage, State, Streams, Symbols, TokenKind, Turn, Value, at, at_end, begun, cut_short, end_late, end_now, end_of, end_ready, end_said, end_settled, end_turned, end_waiting, ends_at, ends_of, gives, goes, is_closing, is_fresh, is_idle, is_quoted, is_quoting, is_segment, is_sexp, late, place, plain, refuses, run, said, said_passes, settle, token_of, trace, turn}
use Rattle.ion_tokens.proofs.histories.Stepped.{all_since}
use Rattle.ion_tokens.proofs.runs.Scans.{placed}
use Rattle.ion_tokens.proofs.sound.Told.{ends_in_blank, ends_in_token}
use Rattle.ion_text.specs.machine.Run.{ends}
use Rattle.ion_text.specs.laws.reading.sound.Held.{Behind, NoLongText, Reads, Scans, behind_as, none_noted, settled_end, token_read}
use Rattle.ion_text.specs.laws.reading.sound.Quotes.{is_close, left_none}
use Rattle.ion_text.specs.laws.reading.sound.StandsOpen.{NowStands}
use Rattle.ion_text.specs.laws.reading.sound.Steps.{Stood, StoodBehind, begun_stood, run_ran}

-- the octets up to the end of the input are the tokens
abbrev pub Ended : Scans
Ended p s u ts ahead = Lexes false 0 u ts

-- a token that the end ends is no segment and no blob, and no quoted symbol but where quotes are open
abbrev pub KindFine : Mode → TokenKind → Type 0
KindFine m k =
    (is_segment k ≡ false) × (is_quoting m ≡ false → is_quoted k ≡ false) × (is_idle m ≡ false → is_closing k ≡ false)
    × (is_close k ≡ false) × (is_idle m ≡ true → (k ≡ TokenKind.Mark Mark.Colon) ⊎ (k ≡ TokenKind.Operator)) × (is_quoting m ≡ true → k ≡ TokenKind.QuotedSymbol)

abbrev EndFine : Mode → End → Type 0
EndFine m (End.Token kind k) = KindFine m kind
EndFine m _ = Unit {0}

operator_fine : (m : Mode) (b : Bool) (k : Keep) → is_quoting m ≡ false → EndFine m (cond b (End.Token TokenKind.Operator k) (End.Refuse Reason.Incomplete))
operator_fine m true k q = (refl, (λ e. refl), (λ e. refl), refl, (λ e. inr refl), (λ e. absurd (let n : true ≡ false = sym e ∙ q in cc)))
operator_fine m false k q = tt

end_fine : (p : Place) (m : Mode) → EndFine m (end_of p m)
end_fine p Mode.Slash = operator_fine Mode.Slash (is_sexp p) (Keep.One 47) refl
end_fine p Mode.OperatorSlash = operator_fine Mode.OperatorSlash (is_sexp p) (Keep.One 47) refl
end_fine p (Mode.Operator e) = operator_fine (Mode.Operator e) (is_sexp p) Keep.Nothing refl
end_fine p Mode.Colon = (refl, (λ e. refl), (λ e. absurd cc), refl, (λ e. inl refl), (λ e. absurd cc))
end_fine p Mode.Word = (refl, (λ e. refl), (λ e. refl), refl, (λ e. absurd cc), (λ e. absurd cc))
end_fine p Mode.KindName = (refl, (λ e. refl), (λ e. refl), refl, (λ e. absurd cc), (λ e. absurd cc))
end_fine p Mode.Number = (refl, (λ e. refl), (λ e. refl), refl, (λ e. absurd cc), (λ e. absurd cc))
end_fine p Mode.NumberSlash = (refl, (λ e. refl), (λ e. refl), refl, (λ e. absurd cc), (λ e. absurd cc))
end_fine p Mode.Quotes = (refl, (λ e. absurd cc), (λ e. refl), refl, (λ e. absurd cc), (λ e. refl))
end_fine p Mode.Brace = (refl, (λ e. refl), (λ e. refl), refl, (λ e. absurd cc), (λ e. absurd cc))
end_fine p _ = tt

token_fine : (m : Mode) (s : Known) (e : End) (x : Lexeme) → EndFine m e → ends_at s e ≡ Ok (Some x) → KindFine m x.kind
token_fine m s End.Blank x f h = absurd (let n : Ok None ≡ Ok (Some x) = h in cc)
token_fine m s (End.Token kind k) x f h = let same : kind ≡ x.kind = cc in subst (KindFine m) same f
token_fine m s (End.Refuse e) x f h = absurd cc

-- a token that the end ends is no segment and no close, and quoted only where quotes are open
pub at_end_fine : (p : Place) (s : Known) (x : Lexeme) → at_end p s ≡ Ok (Some x) → KindFine s.mode x.kind
at_end_fine p s x h = token_fine s.mode s (end_of p s.mode) x (end_fine p s.mode) h

-- where nothing is open, no token is
pub fresh_empty : (start : ℕ) (c : List Slot) (fs : List Frame) (ss : Symbols) (now : Stage) (ts : List Placed) → is_fresh (at start c fs ss now) ≡ true
    → NowStands c fs ss ts now → ts ≡ []
fresh_empty start c [] [] Stage.Ready ts h d = d.whole ∙ (ap (λ x. x ++ d.notes) d.outer ∙ none_noted c Place.Top d.notes [] d.noted refl)
fresh_empty start c _ _ _ ts h d = absurd cc

-- what a good end answers
abbrev answered : Option Value → Result (Option Value) Refusal
answered last = Ok last

module _ (g : Catalog) (l : Limits) where
  -- where no item is open, no tokens of one have come
  pub no_item : (S : Scans) (u : List ℕ) (vs : List Value) (s : Known) (r : Reading) (ahead : List ℕ) (A : Type 0) → (b : Behind g l S u vs s r ahead A)
      → is_fresh r ≡ true → b.item ≡ []
  no_item S u vs s r ahead A b h = fresh_empty r.start r.context r.frames r.notes r.now b.item h b.stands

  -- where nothing is open at the end, the octets are a document
  pub whole_document : (u : List ℕ) (vs : List Value) (s : Known) (r : Reading) (A : Type 0) → Behind g l Ended u vs s r [] A → is_fresh r ≡ true
      → Document g l u vs
  whole_document u vs s r A b h =
      let e = no_item Ended u vs s r [] A b h in
      record {
        tokens = b.front;
        context = r.context;
        lexed = subst (Lexes false 0 u) (ap (λ x. b.front ++ x) e ∙ append-nil b.front) b.scanned;
        pieces = b.pieces;
      }

  -- the end accepts nothing that is refused late
  pub late_never : (used : ℕ) (e : Reason) (last : Option Value) → end_late used e ≡ Ok last → ⊥
  late_never used Reason.Depth last h = cc
  late_never used _ last h = cc

  module _ (u : List ℕ) (vs : List Value) (s : Known) where
    abbrev Accepted : Option Value → Type 0
    Accepted last = Document g l u (vs ++ option_to_list last)

    none_accepted : (last : Option Value) → answered None ≡ Ok last → Document g l u vs → Accepted last
    none_accepted None h d = subst (Document g l u) (sym (append-nil vs)) d
    none_accepted (Some v) h d = absurd (let n : answered None ≡ Ok (Some v) = h in cc)

    some_accepted : (v : Value) (last : Option Value) → answered (Some v) ≡ Ok last → Document g l u (vs ++ v ∷ []) → Accepted last
    some_accepted v None h d = absurd (let n : answered (Some v) ≡ Ok None = h in cc)
    some_accepted v (Some w) h d = subst (λ x. Document g l u (vs ++ x ∷ [])) (let n : v ≡ w = cc in n) d

    fresh_accepted : (used : ℕ) (r : Reading) (last : Option Value) (A : Type 0) → Behind g l Ended u vs s r [] A → (b : Bool) → is_fresh r ≡ b
        → (if b then Ok None else cut_short used) ≡ Ok last → Accepted last
    fresh_accepted used r last A b true e h = none_accepted last h (whole_document u vs s r A b e)
    fresh_accepted used r last A b false e h = absurd cc

    settled_accepted : (used : ℕ) (t : Turn) (last : Option Value) → Reads g l Ended u vs s [] (λ n. Unit {0}) t → end_settled used t ≡ Ok last → Accepted last
    settled_accepted used (goes r) last b h = fresh_accepted used r last (Unit {0}) b (is_fresh r) refl h
    settled_accepted used (gives v r) last b h = some_accepted v last h (whole_document u (vs ++ v ∷ []) s r (Unit {0}) b.0 b.1)
    settled_accepted used (refuses e) last b h = absurd cc
    settled_accepted used (late e r) last b h = absurd (late_never used e last h)

    turned_accepted : (used : ℕ) (t : Turn) (last : Option Value) → Reads g l Ended u vs s [] (λ n. Unit {0}) t → end_turned g l used t ≡ Ok last
        → Accepted last
    turned_accepted used (goes r) last b h = settled_accepted used (settle g l r) last (settled_end g l Ended u vs s [] (Unit {0}) r b) h
    turned_accepted used (gives v r) last b h = some_accepted v last h (whole_document u (vs ++ v ∷ []) s r (Unit {0}) b.0 b.1)
    turned_accepted used (refuses e) last b h = absurd cc
    turned_accepted used (late e r) last b h = absurd (late_never used e last h)

    module _ (r : Reading) (b : Behind g l Scanned u vs s r [] (NoLongText s.mode)) where
      -- the tokens, where the end ends none
      ended_behind : at_end (place r) s ≡ Ok None → Behind g l Ended u vs s r [] (NoLongText s.mode)
      ended_behind e =
          let k = all_since (place r) s u (b.front ++ b.item) b.scanned in
          behind_as g l Scanned Ended u u vs s s r [] [] (NoLongText s.mode) (NoLongText s.mode) b
          (subst (λ x. Lexes false 0 x (b.front ++ b.item)) (sym b.scanned.cut)
          (ends_in_blank b.scanned.behind s b.scanned.front (b.front ++ b.item) b.scanned.left b.scanned.since k.0 (place r) b.scanned.told b.scanned.pass
          k.1 b.scanned.ran e)) (λ h. h) b.sane b.fine

      waiting_accepted : (used : ℕ) (x : Result (Option Lexeme) Reason) (t : Turn) (last : Option Value) → at_end (place r) s ≡ x → settle g l r ≡ t
          → end_waiting g l used x t ≡ Ok last → Accepted last
      waiting_accepted used (Ok None) t last e f h = settled_accepted used t last
          (subst (Reads g l Ended u vs s [] (λ n. Unit {0})) f (settled_end g l Ended u vs s [] (NoLongText s.mode) r (ended_behind e))) h
      waiting_accepted used (Ok (Some x)) (late y n) last e f h = absurd (late_never used y last h)
      waiting_accepted used (Err x) (late y n) last e f h = absurd (late_never used y last h)
      waiting_accepted used _ _ last e f h = absurd cc

      token_accepted : (used : ℕ) (x : Lexeme) (c : Result Content Reason) (last : Option Value) → at_end (place r) s ≡ Ok (Some x) → said x.kind x.octets ≡ c
          → end_said g l used r x c ≡ Ok last → Accepted last
      token_accepted used x (Err y) last e f h = absurd cc
      token_accepted used x (Ok c) last e f h =
          let k = all_since (place r) s u (b.front ++ b.item) b.scanned in
          let fine = at_end_fine (place r) s x e in
          turned_accepted used (turn g l r (token_of x c)) last
          (token_read g l Scanned u vs s r [] (NoLongText s.mode) b x (λ a. (fine.0, λ t. left_none x.kind x.start x.end (fine.1 a.1))) Ended u s []
          (λ n. Unit {0}) c f
          (λ q. subst (λ y. Lexes false 0 y ((b.front ++ b.item) ++ placed (place r) x ∷ [])) (sym b.scanned.cut)
          (ends_in_token b.scanned.behind s b.scanned.front (b.front ++ b.item) b.scanned.left b.scanned.since k.0 (place r) x b.scanned.told b.scanned.pass k.1
          b.scanned.ran e
          (said_passes x.kind x.octets c f))) b.sane b.fine) h

      ready_accepted : (used : ℕ) (x : Result (Option Lexeme) Reason) (last : Option Value) → at_end (place r) s ≡ x → end_ready g l used r x ≡ Ok last
          → Accepted last
      ready_accepted used (Ok None) last e h = fresh_accepted used r last (NoLongText s.mode) (ended_behind e) (is_fresh r) refl h
      ready_accepted used (Ok (Some x)) last e h = token_accepted used x (said x.kind x.octets) last e refl h
      ready_accepted used (Err y) last e h = absurd cc

      now_accepted : (used : ℕ) (n : Stage) (last : Option Value) → end_now g l used r (at_end (place r) s) n ≡ Ok last → Accepted last
      now_accepted used (Stage.Pending k end) last h = waiting_accepted used (at_end (place r) s) (settle g l r) last refl refl h
      now_accepted used (Stage.Long w end) last h = waiting_accepted used (at_end (place r) s) (settle g l r) last refl refl h
      now_accepted used (Stage.LongName w) last h = absurd cc
      now_accepted used _ last h = ready_accepted used (at_end (place r) s) last refl h

  -- What stands for octets that the end accepts shows that they are a document.
  pub stood_accepted : (u : List ℕ) (vs : List Value) (m : State) (last : Option Value) → Stood g l u vs m → ends g l m ≡ Ok last
      → Document g l u (vs ++ option_to_list last)
  stood_accepted u vs m last b h = now_accepted u vs m.scan m.reading b m.scan.used m.reading.now last h

  run_accepted : (u : List ℕ) (given : List (Value × ℕ)) (now : Result State Refusal) (last : Option Value)
      → StoodBehind g l u [] (record { given = given; now = now }) → ends_of g l now ≡ Ok last → Document g l u (plain given ++ option_to_list last)
  run_accepted u given (Ok m) last b h = stood_accepted u (plain given) m last b h
  run_accepted u given (Err e) last b h = absurd cc

  -- Octets that the end accepts are a document with all values given.
  pub admits : (u : List ℕ) (s : List Value) → Streams (trace g l u) s → Document g l u s
  admits u s t =
      let r = run g l 0 begun u in
      subst (Document g l u) (sym t.values) (run_accepted u r.given r.now t.last (run_ran g l u [] [] 0 begun (begun_stood g l)) t.ends)
