-- Why octets are refused: for their own sake.
use Rattle.std.proofs.Common.{◌≡◌, ℕ, zero, suc, ◌+◌, nat_lt, List, [], ◌∷◌, Bool, true, false, cond, Result, Ok, Err, Option, Some, None, refl, ap, sym, subst, if◌then◌else◌, ◌⊎◌, inl, inr}
use Rattle.std.specs.Prelude.{◌==◌}
use Rattle.ion_text.specs.laws.reading.Effects.{noticed_each, said_each}
use Rattle.std.proofs.lemmas.Bool.{cond_both}
use Rattle.ion_text.specs.Names.{Catalog, Content, Effect, End, Frame, Given, IsBody, IsWordBody, Keep, Kind, Known, Left, Lexeme, Limits, Mode, Next, Outcome, Place, Reading, ReadsNumber, Reason, Refusal, Refused, Run, Spot, Stage, State, Token, TokenKind, Turn, Value, at_end, begun, behind_given, behind_left, cut_short, eats, end_late, end_now, end_of, end_ready, end_said, end_settled, end_turned, end_waiting, ends_at, ends_of, fails, feed, follow, gives, goes, id_of, is_fresh, is_sexp, kind_named, late, leaves, lesser, noticed, null_of, on_scan, on_settled, once_more, or_worse, place, reason_number, refused_of, refuses, run, run_on, said, says, settle, takes, tells, token_of, trace, turn, under, unsettled, uses, with_scan}
use Rattle.ion_tokens.proofs.bounds.Causes.{IsFair, run_fair}
use Rattle.ion_tokens.proofs.bounds.Fits.{is_octet_reason}
use Rattle.ion_symtab.specs.Decided.{IsDecided}
use Rattle.ion_text.specs.machine.Ways.{SettledWay, TokenWay, ValueWay, now_way, settled_held, settled_refused, settled_text, settled_way, token_list, token_refused, token_sexp, token_struct, token_unnoted, token_value, value_refused}

abbrev pub TurnDecides : Turn → Type 0
TurnDecides (refuses e) = IsDecided e
TurnDecides (late e r) = IsDecided e
TurnDecides _ = Unit {0}

-- what a scanner refuses for, and what a token that says nothing is refused for
abbrev pub IsLexical : Reason → Type 0
IsLexical Reason.Float = Unit {0}
IsLexical Reason.BadEscape = Unit {0}
IsLexical Reason.BadUtf8 = Unit {0}
IsLexical Reason.BadBase64 = Unit {0}
IsLexical Reason.Ambiguous = Unit {0}
IsLexical Reason.Unexpected = Unit {0}
IsLexical Reason.TooLarge = Unit {0}
IsLexical Reason.Malformed = Unit {0}
IsLexical _ = ⊥

-- octets decide it
lexical_decided : (e : Reason) → IsLexical e → IsDecided e
lexical_decided Reason.Float h = tt
lexical_decided Reason.BadEscape h = tt
lexical_decided Reason.BadUtf8 h = tt
lexical_decided Reason.BadBase64 h = tt
lexical_decided Reason.Ambiguous h = tt
lexical_decided Reason.Unexpected h = tt
lexical_decided Reason.TooLarge h = tt
lexical_decided Reason.Malformed h = tt
lexical_decided _ h = absurd h

octet_lexical : (e : Reason) → is_octet_reason e ≡ true → IsLexical e
octet_lexical Reason.Float h = tt
octet_lexical Reason.BadEscape h = tt
octet_lexical Reason.BadUtf8 h = tt
octet_lexical Reason.BadBase64 h = tt
octet_lexical Reason.Ambiguous h = tt
octet_lexical Reason.Unexpected h = tt
octet_lexical _ h = absurd cc

fair_reason : (n : ℕ) (e : Reason) → IsFair (Refused n e) → is_octet_reason e ≡ true
unfolding IsFair
fair_reason n e h = h

-- so is what the scanner refuses an octet for
pub feed_lexical : (p : Place) (s : Known) (o n : ℕ) (e : Reason) → feed p s o ≡ Refused n e → IsLexical e
feed_lexical p s o n e h = octet_lexical e (fair_reason n e (subst IsFair (ap (λ y. follow y (λ t. Next t)) h) (run_fair p (o ∷ []) s)))

number_lexical : (octets : List ℕ) (e : Reason) → ReadsNumber octets (Err e) → IsLexical e
number_lexical octets Reason.TooLarge h = tt
number_lexical octets Reason.Malformed h = tt
number_lexical octets Reason.Float h = tt
number_lexical octets _ h = absurd h

word_lexical : (octets : List ℕ) (id : Option ℕ) (e : Reason) → IsWordBody octets id (Err e) → IsLexical e
word_lexical octets None e h = subst IsLexical (sym h.0) tt
word_lexical octets (Some id) e h = absurd cc

null_lexical : (kind : Option Kind) (e : Reason) → Err e ≡ null_of kind → IsLexical e
null_lexical None e h = let k : Reason.Malformed ≡ e = cc in subst IsLexical k tt
null_lexical (Some kind) e h = absurd cc

body_lexical : (k : TokenKind) (octets : List ℕ) (e : Reason) → IsBody k octets (Err e) → IsLexical e
body_lexical TokenKind.Word octets e h = word_lexical octets (id_of octets) e h
body_lexical TokenKind.KindName octets e h = null_lexical (kind_named octets) e h
body_lexical TokenKind.Number octets e h = number_lexical octets e h
body_lexical TokenKind.Clob octets e h = absurd cc
body_lexical TokenKind.Blob octets e h = absurd cc
body_lexical (TokenKind.Mark m) octets e h = absurd cc
body_lexical _ octets e h = subst IsLexical (sym h.0) tt

-- so is what a token that says nothing is refused for
pub said_lexical : (k : TokenKind) (octets : List ℕ) (e : Reason) → said k octets ≡ Err e → IsLexical e
said_lexical k octets e h = body_lexical k octets e (subst (IsBody k octets) h (says k octets))

module _ (g : Catalog) (l : Limits) where
  value_decides : (spot : Spot) (v : Value) (fs : List Frame) (t : Turn) → ValueWay (under g l) spot v fs t → TurnDecides t
  value_decides spot v _ _ (value_refused fs e d) = d
  value_decides spot v _ _ _ = tt

  turn_decides : (r : Reading) (t : Token) → TurnDecides (turn g l r t)
  turn_decides r t = by r.frames r.now _ (now_way g l t.start t.end r.start r.context r.frames r.notes t.said r.now)
    where
      by : (fs : List Frame) (now : Stage) (x : Turn) → TokenWay g l t.start t.end r.start r.context t.said r.notes fs now x → TurnDecides x
      by _ _ _ (token_refused fs now e d) = d
      by _ _ _ (token_unnoted fs h e x i d) = d
      by _ _ _ (token_value fs q x none flat way) = value_decides _ _ fs x way
      by _ _ _ (token_list rs vs fs now x e way) = value_decides _ _ fs x way
      by _ _ _ (token_sexp rs vs fs now x e way) = value_decides _ _ fs x way
      by _ _ _ (token_struct rs ms fs now x e way) = value_decides _ _ fs x way
      by _ _ _ _ = tt

  settle_decides : (r : Reading) → TurnDecides (settle g l r)
  settle_decides r = by r.frames r.now _ (settled_way g l r.start r.context r.frames r.notes r.now)
    where
      by : (fs : List Frame) (now : Stage) (x : Turn) → SettledWay g l r.start r.context r.notes fs now x → TurnDecides x
      by _ _ _ (settled_refused fs now e d) = d
      by _ _ _ (settled_held fs h end q x flat way) = value_decides _ _ fs x way
      by _ _ _ (settled_text fs w end x way) = value_decides _ _ fs x way
      by _ _ _ _ = tt

  -- of effects
  abbrev EffectDecides : Effect → Type 0
  EffectDecides (fails e) = IsDecided e
  EffectDecides _ = Unit {0}

  noticed_decides : (r : Reading) (s : Known) → EffectDecides (noticed l r s)
  noticed_decides r s = noticed_each EffectDecides l r s tt tt tt

  lesser_decides : (e f : Reason) → IsDecided e → IsDecided f → IsDecided (lesser e f)
  lesser_decides e f h k = cond_both (nat_lt (reason_number f) (reason_number e)) f e IsDecided (λ i. k) (λ i. h)

  worse_decides : (e : Reason) (x : Effect) → IsDecided e → EffectDecides x → EffectDecides (or_worse e x)
  worse_decides e (fails f) h k = lesser_decides e f h k
  worse_decides e _ h k = h

  given_decides : (s : Known) (t : Turn) → TurnDecides t → EffectDecides (behind_given l s t)
  given_decides s (goes r) h = noticed_decides r s
  given_decides s (gives v r) h = tt
  given_decides s (refuses e) h = h
  given_decides s (late e r) h = worse_decides e (noticed l r s) h (noticed_decides r s)

  left_decides : (again : State → Effect) (s : Known) (t : Turn) → ((m : State) → EffectDecides (again m)) → TurnDecides t
      → EffectDecides (behind_left again s t)
  left_decides again s (goes r) f h = f (with_scan s r)
  left_decides again s (gives v r) f h = tt
  left_decides again s (refuses e) f h = h
  left_decides again s (late e r) f h = worse_decides e (again (with_scan s r)) h (f (with_scan s r))

  scan_decides : (again : State → Effect) (p : Place) (s : Known) (o : ℕ) (r : Reading) (x : Outcome) → feed p s o ≡ x → ((m : State) → EffectDecides (again m))
      → EffectDecides (on_scan g l again r x)
  scan_decides again p s o r (Next t) e f = noticed_decides r t
  scan_decides again p s o r (Given x t) e f = said_each EffectDecides (said x.kind x.octets) _
      (λ c k. given_decides t (turn g l r (token_of x c)) (turn_decides r (token_of x c))) (λ e i. lexical_decided e (said_lexical x.kind x.octets e i))
  scan_decides again p s o r (Left x t) e f = said_each EffectDecides (said x.kind x.octets) _
      (λ c k. left_decides again t (turn g l r (token_of x c)) f (turn_decides r (token_of x c))) (λ e i. lexical_decided e (said_lexical x.kind x.octets e i))
  scan_decides again p s o r (Refused n y) e f = lexical_decided y (feed_lexical p s o n y e)

  settled_decides : (again : State → Effect) (p : Place) (s : Known) (o : ℕ) (t : Turn) → TurnDecides t → ((m : State) → EffectDecides (again m))
      → EffectDecides (on_settled g l again s (feed p s o) t)
  settled_decides again p s o (goes r) h f = scan_decides again p s o r (feed p s o) refl f
  settled_decides again p s o (gives v r) h f = tt
  settled_decides again p s o (refuses e) h f = h
  settled_decides again p s o (late e r) h f = worse_decides e (on_scan g l again r (feed p s o)) h (scan_decides again p s o r (feed p s o) refl f)

  takes_decides : (n : ℕ) (m : State) (o : ℕ) → EffectDecides (takes g l n m o)
  takes_decides zero m o = tt
  takes_decides (suc n) m o =
      let x = feed (place m.reading) m.scan o in
      let again = λ (k : State). takes g l n k o in
      cond_both (unsettled m.scan m.reading x) (on_scan g l again m.reading x) (on_settled g l again m.scan x (settle g l m.reading)) EffectDecides
      (λ e. scan_decides again (place m.reading) m.scan o m.reading x refl (λ k. takes_decides n k o))
      (λ e. settled_decides again (place m.reading) m.scan o (settle g l m.reading) (settle_decides m.reading) (λ k. takes_decides n k o))

  -- of runs
  abbrev NowDecides : Result State Refusal → Type 0
  NowDecides (Ok m) = Unit {0}
  NowDecides (Err r) = IsDecided r.reason

  more_decides : (to : ℕ) (rest : State → Run) (x : Effect) → EffectDecides x → ((n : State) → NowDecides (rest n).now) → NowDecides (once_more to rest x).now
  more_decides to rest (uses m) h f = f m
  more_decides to rest (tells v m) h f = f m
  more_decides to rest (leaves v m) h f = tt
  more_decides to rest (fails e) h f = h

  octet_decides : (to o : ℕ) (rest : State → Run) (x : Effect) → EffectDecides x → ((n : State) → NowDecides (rest n).now)
      → NowDecides (run_on to (λ n. eats g l n o) rest x).now
  octet_decides to o rest (uses m) h f = f m
  octet_decides to o rest (tells v m) h f = f m
  octet_decides to o rest (leaves v m) h f = more_decides to rest (eats g l m o) (takes_decides 3 m o) f
  octet_decides to o rest (fails e) h f = h

  run_decides : (os : List ℕ) (to : ℕ) (m : State) → NowDecides (run g l to m os).now
  run_decides [] to m = tt
  run_decides (o ∷ os) to m = octet_decides to o (λ n. run g l (to + 1) n os) (eats g l m o) (takes_decides 3 m o) (λ n. run_decides os (to + 1) n)

  step_decided : (now : Result State Refusal) (r : Refusal) → NowDecides now → refused_of now ≡ Some r → IsDecided r.reason
  step_decided (Ok m) r h e = absurd cc
  step_decided (Err q) r h e = let k : q ≡ r = cc in subst (λ (x : Refusal). IsDecided x.reason) k h

  -- A step refuses for no want of memory or of more octets, and for no reason for which a catalog is refused.
  pub step_reason : (u : List ℕ) (r : Refusal) → (trace g l u).refused ≡ Some r → IsDecided r.reason
  step_reason u r h = step_decided (run g l 0 begun u).now r (run_decides u 0 begun) h

  -- The end refuses for such a reason, or for want of more octets.
  abbrev pub IsEndReason : Reason → Type 0
  IsEndReason e = IsDecided e ⊎ (e ≡ Reason.Incomplete)

  abbrev AnswersAtEnd : Result (Option Value) Refusal → Type 0
  AnswersAtEnd (Ok v) = Unit {0}
  AnswersAtEnd (Err r) = IsEndReason r.reason

  late_ends : (used : ℕ) (e : Reason) → IsDecided e → AnswersAtEnd (end_late used e)
  late_ends used Reason.Depth h = inr refl
  late_ends used _ h = inl h

  fresh_ends : (used : ℕ) (b : Bool) → AnswersAtEnd (if b then Ok None else cut_short used)
  fresh_ends used true = tt
  fresh_ends used false = inr refl

  settled_ends : (used : ℕ) (t : Turn) → TurnDecides t → AnswersAtEnd (end_settled used t)
  settled_ends used (goes r) h = fresh_ends used (is_fresh r)
  settled_ends used (gives v r) h = tt
  settled_ends used (refuses e) h = inl h
  settled_ends used (late e r) h = late_ends used e h

  turned_ends : (used : ℕ) (t : Turn) → TurnDecides t → AnswersAtEnd (end_turned g l used t)
  turned_ends used (goes r) h = settled_ends used (settle g l r) (settle_decides r)
  turned_ends used (gives v r) h = tt
  turned_ends used (refuses e) h = inl h
  turned_ends used (late e r) h = late_ends used e h

  said_ends : (used : ℕ) (r : Reading) (x : Lexeme) (c : Result Content Reason) → ((e : Reason) → c ≡ Err e → IsDecided e)
      → AnswersAtEnd (end_said g l used r x c)
  said_ends used r x (Ok c) h = turned_ends used (turn g l r (token_of x c)) (turn_decides r (token_of x c))
  said_ends used r x (Err e) h = inl (h e refl)

  -- what the scanner's end refuses for
  EndsWell : Result (Option Lexeme) Reason → Type 0
  EndsWell (Ok x) = Unit {0}
  EndsWell (Err e) = IsEndReason e

  operator_well : (s : Known) (b : Bool) (k : Keep) → EndsWell (ends_at s (cond b (End.Token TokenKind.Operator k) (End.Refuse Reason.Incomplete)))
  unfolding EndsWell
  operator_well s true k = tt
  operator_well s false k = inr refl

  float_well : (s : Known) (b : Bool) → EndsWell (ends_at s (End.Refuse (if b then Reason.Float else Reason.Incomplete)))
  unfolding EndsWell
  float_well s true = inl tt
  float_well s false = inr refl

  mode_well : (p : Place) (s : Known) (m : Mode) → EndsWell (ends_at s (end_of p m))
  unfolding EndsWell
  mode_well p s Mode.Slash = operator_well s (is_sexp p) (Keep.One 47)
  mode_well p s Mode.OperatorSlash = operator_well s (is_sexp p) (Keep.One 47)
  mode_well p s (Mode.Operator e) = operator_well s (is_sexp p) Keep.Nothing
  mode_well p s (Mode.Infinity n) = float_well s (n == 3)
  mode_well p s Mode.BlockComment = inr refl
  mode_well p s Mode.BlockCommentStar = inr refl
  mode_well p s Mode.Quote = inr refl
  mode_well p s (Mode.Text t w) = inr refl
  mode_well p s (Mode.Lob k) = inr refl
  mode_well p s _ = tt

  waiting_ends : (used : ℕ) (x : Result (Option Lexeme) Reason) (t : Turn) → TurnDecides t → AnswersAtEnd (end_waiting g l used x t)
  waiting_ends used (Ok None) t h = settled_ends used t h
  waiting_ends used (Ok (Some x)) (refuses e) h = inl h
  waiting_ends used (Ok (Some x)) (late e r) h = late_ends used e h
  waiting_ends used (Err y) (refuses e) h = inl h
  waiting_ends used (Err y) (late e r) h = late_ends used e h
  waiting_ends used _ _ h = inr refl

  ready_ends : (used : ℕ) (r : Reading) (x : Result (Option Lexeme) Reason) → EndsWell x → AnswersAtEnd (end_ready g l used r x)
  unfolding EndsWell
  ready_ends used r (Ok None) h = fresh_ends used (is_fresh r)
  ready_ends used r (Ok (Some x)) h = said_ends used r x (said x.kind x.octets) (λ e i. lexical_decided e (said_lexical x.kind x.octets e i))
  ready_ends used r (Err e) h = h

  ends_decide : (used : ℕ) (r : Reading) (x : Result (Option Lexeme) Reason) (n : Stage) → EndsWell x → AnswersAtEnd (end_now g l used r x n)
  ends_decide used r x (Stage.Pending h e) w = waiting_ends used x (settle g l r) (settle_decides r)
  ends_decide used r x (Stage.Long v e) w = waiting_ends used x (settle g l r) (settle_decides r)
  ends_decide used r x (Stage.LongName v) w = inr refl
  ends_decide used r x _ w = ready_ends used r x w

  of_now : (now : Result State Refusal) → NowDecides now → AnswersAtEnd (ends_of g l now)
  of_now (Ok m) h = ends_decide m.scan.used m.reading (at_end (place m.reading) m.scan) m.reading.now (mode_well (place m.reading) m.scan m.scan.mode)
  of_now (Err r) h = inl h

  -- the end refuses for a reason that the octets decide, or for want of more of them
  pub end_reason : (u : List ℕ) (r : Refusal) → (trace g l u).ends ≡ Err r → IsEndReason r.reason
  end_reason u r e = subst AnswersAtEnd e (of_now (run g l 0 begun u).now (run_decides u 0 begun))
