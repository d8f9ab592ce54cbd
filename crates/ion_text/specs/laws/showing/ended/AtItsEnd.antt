-- Where the end of the octets would give a value, the first that the next octet gives is that value, and came before that octet.
use Rattle.std.proofs.Common.{◌≡◌, ℕ, zero, suc, ◌+◌, ◌-◌, Bool, true, false, cond, ◌&&◌, not, nat_le, List, [], ◌∷◌, ◌++◌, length, Result, Ok, Err, Option, Some, None, refl, sym, ap, ◌∙◌, subst, arith}
use Rattle.std.specs.Prelude.{◌==◌, bytes_eq, codes}
use Rattle.std.proofs.lemmas.List.{append_cancel_left}
use Rattle.std.proofs.lemmas.Bool.{cond_both, true≢false}
use Rattle.ion_text.specs.Names.{Action, Catalog, Content, Effect, End, Frame, Given, Keep, Known, Left, Lexeme, Limits, Mark, Mode, Next, Number, Outcome, Place, Reading, ReadsNumber, Reason, Refusal, Refused, Run, Slot, Stage, State, Symbols, TokenKind, Turn, Value, acts, at, at_end, begins_value, begins_word, begun, behind_given, behind_left, cut, eats, end_of, end_ready, end_said, end_settled, end_turned, end_waiting, ends_at, ends_of, fails, feed, gives, goes, in_blank, is_digit, is_fresh, is_idle, is_name, is_operator_octet, is_sexp, is_stop, is_top, is_white, is_word_octet, late, leaves, noticed, number_read, number_reads, number_said, on_octet, on_said, on_scan, on_settled, or_worse, place, plain, reaches, refuses, run, run-append, run_on, said, settle, shut, takes, tells, then_run, token_of, trace, turn, unsettled, uses, with_scan}
use Rattle.ion_tokens.specs.machine.Table.{next}
use Rattle.ion_tokens.specs.laws.Numerals.{number_without_slash}
use Rattle.ion_tokens.proofs.sound.TurnsWords.{slash_in}
use Rattle.ion_text.specs.machine.Run.{ends}
use Rattle.ion_text.specs.laws.reading.sound.Admits.{late_never}
use Rattle.ion_text.specs.laws.reading.sound.Steps.{StoodBehind, begun_stood, run_ran}
use Rattle.ion_text.specs.laws.showing.ended.Unused.{IsUntold, StandsSo, ends_so, is_plain, no_value, takes_untold, top_now, waiting_end}

-- 1. Where the end gives a value, the next octet gives no other one first.

abbrev LeavesValue : Value → Effect → Type 0
LeavesValue v (leaves w m) = w ≡ v
LeavesValue v _ = Unit {0}

worse_value : (v : Value) (e : Reason) (x : Effect) → LeavesValue v (or_worse e x)
worse_value v e (fails f) = tt
worse_value v e _ = tt

-- no token ended before the octet
abbrev NoneLeft : Outcome → Type 0
NoneLeft (Left x s) = ⊥
NoneLeft _ = Unit {0}

record LeavesNone (p : Place) (s : Known) (o : ℕ) (a : Action) : Type 0 where
  is : NoneLeft (acts p s o a)

none : {p : Place} {s : Known} {o : ℕ} {a : Action} → NoneLeft (acts p s o a) → LeavesNone p s o a
none h = record { is = h }

either : {p : Place} {s : Known} {o : ℕ} {x y : Action} (b : Bool) → LeavesNone p s o x → LeavesNone p s o y → LeavesNone p s o (cond b x y)
either true h k = h
either false h k = k

value_none : (p : Place) (s : Known) (o : ℕ) → LeavesNone p s o (begins_value p o)
value_none p s o =
    either (is_digit o) (none tt) (either (o == 123) (none tt) (either (o == 91) (none tt) (either (o == 93) (none tt) (either (o == 40) (none tt)
    (either (o == 41) (none tt) (either (o == 45) (none tt) (either (o == 43) (none tt) (either (is_sexp p && is_operator_octet o) (none tt) (none tt)))))))))

blank_none : (p : Place) (s : Known) (colon : Bool) (o : ℕ) → LeavesNone p s o (in_blank p colon o)
blank_none p s colon o =
    either (is_white o) (none tt) (either (begins_word o) (none tt) (either (o == 47) (none tt) (either (o == 34) (none tt) (either (o == 39) (none tt)
    (either (o == 44) (none tt) (either (o == 125) (none tt)
    (either (o == 58) (either colon (none tt) (none tt)) (either (is_name p) (none tt) (value_none p s o)))))))))

-- no token is open
abbrev is_still : Mode → Bool
is_still Mode.Blank = true
is_still Mode.LineComment = true
is_still _ = false

still_none : (p : Place) (s : Known) (o : ℕ) → is_still s.mode ≡ true → NoneLeft (feed p s o)
still_none p s o h = go s.mode h
  where
    go : (m : Mode) → is_still m ≡ true → NoneLeft (acts p s o (next p s.colon m o))
    go Mode.Blank e = (blank_none p s s.colon o).is
    go Mode.LineComment e = tt
    go _ e = cc

blank_still : (p : Place) (s : Known) → at_end p s ≡ Ok None → is_still s.mode ≡ true
blank_still p s h = go s.mode h
  where
    operator : (b : Bool) (k : Keep) → ends_at s (cond b (End.Token TokenKind.Operator k) (End.Refuse Reason.Incomplete)) ≡ Ok None → ⊥
    operator true k e = cc
    operator false k e = cc

    go : (m : Mode) → ends_at s (end_of p m) ≡ Ok None → is_still m ≡ true
    go Mode.Blank e = refl
    go Mode.LineComment e = refl
    go Mode.Slash e = absurd (operator (is_sexp p) (Keep.One 47) e)
    go (Mode.Operator x) e = absurd (operator (is_sexp p) Keep.Nothing e)
    go Mode.OperatorSlash e = absurd (operator (is_sexp p) (Keep.One 47) e)
    go _ e = absurd cc

-- if a token ended before the octet, it is this one
abbrev IsLeft : Lexeme → Outcome → Type 0
IsLeft x (Left y s) = (y ≡ x) × (is_still s.mode ≡ true)
IsLeft x _ = Unit {0}

-- what ends with a `/` is no number
no_slashed : (w : List ℕ) (c : Content) → said TokenKind.Number (w ++ 47 ∷ []) ≡ Ok c → ⊥
unfolding said
no_slashed w c h = go (number_read (w ++ 47 ∷ [])) refl h
  where
    go : (r : Result Number Reason) → number_read (w ++ 47 ∷ []) ≡ r → number_said r ≡ Ok c → ⊥
    go (Err e) k h = cc
    go (Ok n) k h = true≢false (sym (slash_in w) ∙ number_without_slash (w ++ 47 ∷ []) n (subst (ReadsNumber (w ++ 47 ∷ [])) k (number_reads (w ++ 47 ∷ []))))

-- the token that the end would end is the one that ends before the octet, if one does
same_left : (p : Place) (s : Known) (o : ℕ) (x : Lexeme) (c : Content) → is_sexp p ≡ false → is_plain s.mode ≡ true → at_end p s ≡ Ok (Some x)
    → said x.kind x.octets ≡ Ok c → IsLeft x (feed p s o)
same_left p s o x c top plain h says = go s.mode plain h
  where
    operator : (b : Bool) (k : Keep) → b ≡ false → ends_at s (cond b (End.Token TokenKind.Operator k) (End.Refuse Reason.Incomplete)) ≡ Ok (Some x) → ⊥
    operator true k f e = let n : true ≡ false = f in cc
    operator false k f e = cc

    behind : (kind : TokenKind) → cut s kind s.kept s.used ≡ x → IsLeft x (acts p s o (Action.Before kind Keep.Nothing Mode.Blank))
    behind kind e = (ap (cut s kind s.kept) (let n : s.used - 0 ≡ s.used = omega arith in n) ∙ e, refl)

    -- where an octet does the one or the other
    either_left : (b : Bool) (y z : Action) → IsLeft x (acts p s o y) → IsLeft x (acts p s o z) → IsLeft x (acts p s o (cond b y z))
    either_left b y z h k = cond_both b y z (λ a. IsLeft x (acts p s o a)) (λ e. h) (λ e. k)

    cut_is : (y : Lexeme) → Path (Result (Option Lexeme) Reason) (Ok (Some y)) (Ok (Some x)) → y ≡ x
    cut_is y e = cc

    slashed : cut s TokenKind.Number (s.kept ++ 47 ∷ []) s.used ≡ x → ⊥
    slashed e = no_slashed s.kept c (subst (λ (y : Lexeme). said y.kind y.octets ≡ Ok c) (sym e) says)

    go : (m : Mode) → is_plain m ≡ true → ends_at s (end_of p m) ≡ Ok (Some x) → IsLeft x (acts p s o (next p s.colon m o))
    go Mode.Blank i e = absurd (let n : Ok None ≡ Ok (Some x) = e in cc)
    go Mode.LineComment i e = absurd (let n : Ok None ≡ Ok (Some x) = e in cc)
    go Mode.Slash i e = absurd (operator (is_sexp p) (Keep.One 47) top e)
    go (Mode.Operator y) i e = absurd (operator (is_sexp p) Keep.Nothing top e)
    go Mode.OperatorSlash i e = absurd (operator (is_sexp p) (Keep.One 47) top e)
    go Mode.Word i e =
        let same = cut_is (cut s TokenKind.Word s.kept s.used) e in
        either_left (is_word_octet o) _ _ tt (cond_both ((o == 46) && bytes_eq s.kept (codes "null")) _ _ (IsLeft x) (λ k. tt) (λ k. (same, refl)))
    go Mode.KindName i e = either_left (is_word_octet o) _ _ tt (behind TokenKind.KindName (cut_is (cut s TokenKind.KindName s.kept s.used) e))
    go Mode.Number i e =
        either_left (is_stop o) _ _ (behind TokenKind.Number (cut_is (cut s TokenKind.Number s.kept s.used) e)) (either_left (o == 47) _ _ tt tt)
    go Mode.NumberSlash i e = absurd (slashed (cut_is (cut s TokenKind.Number (s.kept ++ 47 ∷ []) s.used) e))
    go Mode.Quotes i e = either_left (o == 39) _ _ tt (behind TokenKind.QuotedSymbol (cut_is (cut s TokenKind.QuotedSymbol s.kept s.used) e))
    go Mode.Colon i e = either_left (o == 58) _ _ tt (behind (TokenKind.Mark Mark.Colon) (cut_is (cut s (TokenKind.Mark Mark.Colon) s.kept s.used) e))
    go _ i e = absurd cc

-- a turn gives this value
abbrev GivesThis : Value → Turn → Type 0
GivesThis v (gives w r) = w ≡ v
GivesThis v _ = ⊥

module _ (g : Catalog) (l : Limits) (used : ℕ) (v : Value) where
  this_end : (t : Turn) → end_settled used t ≡ Ok (Some v) → GivesThis v t
  this_end (goes r) h = absurd (no_value g l (is_fresh r) used v h)
  this_end (gives w r) h = let same : w ≡ v = cc in same
  this_end (refuses e) h = absurd cc
  this_end (late e r) h = absurd (late_never g l used e (Some v) h)

  noticed_value : (r : Reading) (s : Known) → LeavesValue v (noticed l r s)
  noticed_value r s = cond_both (shut r.now && not (is_idle s.mode)) _ _ (LeavesValue v) (λ e. tt)
      (λ e. cond_both (nat_le (reaches r.frames r s) l.item) _ _ (LeavesValue v) (λ k. tt) (λ k. tt))

  given_value : (s : Known) (t : Turn) → LeavesValue v (behind_given l s t)
  given_value s (goes r) = noticed_value r s
  given_value s (late e r) = worse_value v e (noticed l r s)
  given_value s _ = tt

  said_value : (s : Known) (r : Reading) (x : Lexeme) (c : Result Content Reason)
      → LeavesValue v (on_said c (λ c. behind_given l s (turn g l r (token_of x c))))
  said_value s r x (Ok c) = given_value s (turn g l r (token_of x c))
  said_value s r x (Err e) = tt

  scan_value : (again : State → Effect) (r : Reading) (x : Outcome) → NoneLeft x → LeavesValue v (on_scan g l again r x)
  scan_value again r (Next s) h = noticed_value r s
  scan_value again r (Given x s) h = said_value s r x (said x.kind x.octets)
  scan_value again r (Left x s) h = absurd h
  scan_value again r (Refused n e) h = tt

  settled_value : (again : State → Effect) (s : Known) (x : Outcome) (t : Turn) → GivesThis v t → LeavesValue v (on_settled g l again s x t)
  settled_value again s x (gives w r) h = h
  settled_value again s x _ h = absurd h

  -- what waits is that value, and no token is open
  still_value : (again : State → Effect) (m : State) (x : Outcome) → NoneLeft x → end_settled used (settle g l m.reading) ≡ Ok (Some v)
      → LeavesValue v (on_octet g l again m x)
  still_value again m x h e =
      cond_both (unsettled m.scan m.reading x) _ _ (LeavesValue v) (λ k. scan_value again m.reading x h)
      (λ k. settled_value again m.scan x (settle g l m.reading) (this_end (settle g l m.reading) e))

  still_takes : (n o : ℕ) (m : State) → is_still m.scan.mode ≡ true → end_settled used (settle g l m.reading) ≡ Ok (Some v) → LeavesValue v (takes g l n m o)
  still_takes zero o m h e = tt
  still_takes (suc n) o m h e = still_value (λ k. takes g l n k o) m (feed (place m.reading) m.scan o) (still_none (place m.reading) m.scan o h) e

  -- the open token is that value
  left_value : (n o : ℕ) (s : Known) (t : Turn) → is_still s.mode ≡ true → end_turned g l used t ≡ Ok (Some v)
      → LeavesValue v (behind_left (λ k. takes g l n k o) s t)
  left_value n o s (goes r) h e = still_takes n o (with_scan s r) h e
  left_value n o s (gives w r) h e = let same : w ≡ v = cc in same
  left_value n o s (refuses f) h e = tt
  left_value n o s (late f r) h e = worse_value v f (takes g l n (with_scan s r) o)

  token_value : (n o : ℕ) (r : Reading) (x : Lexeme) (c : Content) (y : Outcome) → IsLeft x y → said x.kind x.octets ≡ Ok c
      → end_turned g l used (turn g l r (token_of x c)) ≡ Ok (Some v) → LeavesValue v (on_scan g l (λ k. takes g l n k o) r y)
  token_value n o r x c (Next s) h k e = noticed_value r s
  token_value n o r x c (Given y s) h k e = said_value s r y (said y.kind y.octets)
  token_value n o r x c (Refused m f) h k e = tt
  token_value n o r x c (Left y s) h k e =
      subst (λ (z : Lexeme). LeavesValue v (on_said (said z.kind z.octets) (λ d. behind_left (λ k. takes g l n k o) s (turn g l r (token_of z d))))) (sym h.0)
      (subst (λ z. LeavesValue v (on_said z (λ d. behind_left (λ k. takes g l n k o) s (turn g l r (token_of x d))))) (sym k)
      (left_value n o s (turn g l r (token_of x c)) h.1 e))

  ready_value : (o start : ℕ) (c : List Slot) (fs : List Frame) (ss : Symbols) (s : Known) → is_top fs ≡ true → is_plain s.mode ≡ true
      → end_ready g l used (at start c fs ss Stage.Ready) (at_end (place (at start c fs ss Stage.Ready)) s) ≡ Ok (Some v)
      → LeavesValue v (eats g l (record { scan = s; reading = at start c fs ss Stage.Ready }) o)
  ready_value o start c (f ∷ fs) ss s top plain h = absurd cc
  ready_value o start c [] ss s top plain h = go (at_end Place.Top s) refl h
    where
      r : Reading
      r = at start c [] ss Stage.Ready

      said_so : (x : Lexeme) → at_end Place.Top s ≡ Ok (Some x) → (d : Result Content Reason) → said x.kind x.octets ≡ d
          → end_said g l used r x d ≡ Ok (Some v) → LeavesValue v (eats g l (record { scan = s; reading = r }) o)
      said_so x e (Ok d) k h = token_value 2 o r x d (feed Place.Top s o) (same_left Place.Top s o x d refl plain e k) k h
      said_so x e (Err f) k h = absurd cc

      go : (x : Result (Option Lexeme) Reason) → at_end Place.Top s ≡ x → end_ready g l used r x ≡ Ok (Some v)
          → LeavesValue v (eats g l (record { scan = s; reading = r }) o)
      go (Ok None) e h = absurd (no_value g l (is_fresh r) used v h)
      go (Ok (Some x)) e h = said_so x e (said x.kind x.octets) refl h
      go (Err f) e h = absurd cc

  waits_value : (o : ℕ) (m : State) → end_waiting g l used (at_end (place m.reading) m.scan) (settle g l m.reading) ≡ Ok (Some v) → LeavesValue v (eats g l m o)
  waits_value o m h =
      let w = waiting_end g l used (at_end (place m.reading) m.scan) (settle g l m.reading) v h in
      still_takes 3 o m (blank_still (place m.reading) m.scan w.0) (subst (λ x. end_waiting g l used x (settle g l m.reading) ≡ Ok (Some v)) w.0 h)

module _ (g : Catalog) (l : Limits) where
  ends_value : (o : ℕ) (s : Known) (start : ℕ) (c : List Slot) (fs : List Frame) (ss : Symbols) (now : Stage) (v : Value) → StandsSo g l s (at start c fs ss now)
      → ends g l (record { scan = s; reading = at start c fs ss now }) ≡ Ok (Some v)
      → LeavesValue v (eats g l (record { scan = s; reading = at start c fs ss now }) o)
  ends_value o s start c fs ss (Stage.Pending k e) v so h = waits_value g l s.used v o (record { scan = s; reading = at start c fs ss (Stage.Pending k e) }) h
  ends_value o s start c fs ss (Stage.Long w e) v so h = waits_value g l s.used v o (record { scan = s; reading = at start c fs ss (Stage.Long w e) }) h
  ends_value o s start c fs ss Stage.Ready v so h = ready_value g l s.used v o start c fs ss s so.1.0 so.0 h
  ends_value o s start c fs ss _ v so h = absurd so.1.1

-- 2. So for whole runs.

module _ (g : Catalog) (l : Limits) (u : List ℕ) (o : ℕ) (v w : Value) (total : ℕ) (later : List (Value × ℕ)) where
  effect_total : (to : ℕ) (again : State → Effect) (rest : State → Run) (e : Effect) → IsUntold e → ((n : State) → (rest n).given ≡ [])
      → (run_on to again rest e).given ≡ (w, total) ∷ later → total ≡ to
  effect_total to again rest (uses n) i none h = absurd (let never : [] ≡ (w, total) ∷ later = sym (none n) ∙ h in cc)
  effect_total to again rest (tells x n) i none h = absurd i
  effect_total to again rest (leaves x n) i none h = let same : Path (Value × ℕ) (x, to) (w, total) = cc in sym (ap (λ (y : Value × ℕ). y.1) same)
  effect_total to again rest (fails e) i none h = absurd cc

  effect_value : (to : ℕ) (again : State → Effect) (rest : State → Run) (e : Effect) → IsUntold e → LeavesValue v e → ((n : State) → (rest n).given ≡ [])
      → (run_on to again rest e).given ≡ (w, total) ∷ later → w ≡ v
  effect_value to again rest (uses n) i j none h = absurd (let never : [] ≡ (w, total) ∷ later = sym (none n) ∙ h in cc)
  effect_value to again rest (tells x n) i j none h = absurd i
  effect_value to again rest (leaves x n) i j none h = let same : Path (Value × ℕ) (x, to) (w, total) = cc in sym (ap (λ (y : Value × ℕ). y.0) same) ∙ j
  effect_value to again rest (fails e) i j none h = absurd cc

  unused_now : (given : List (Value × ℕ)) (now : Result State Refusal) → StoodBehind g l u [] (record { given = given; now = now })
      → run g l 0 begun u ≡ record { given = given; now = now } → ends_of g l now ≡ Ok (Some v)
      → (run g l 0 begun (u ++ o ∷ [])).given ≡ given ++ (w, total) ∷ later → (total ≡ length u) × (w ≡ v)
  unused_now given (Err e) b ran h k = absurd cc
  unused_now given (Ok m) b ran h k =
      let r = m.reading in
      let so = ends_so g l m.scan r.start r.context r.frames r.notes r.now v (top_now r.context r.frames r.notes b.item r.now b.stands) h in
      let all = run-append g l 0 (length u) u (o ∷ []) (omega arith) begun ∙ ap (λ x. then_run x (λ n. run g l (length u) n (o ∷ []))) ran in
      let more : given ++ (run g l (length u) m (o ∷ [])).given ≡ given ++ (w, total) ∷ later = sym (ap (λ (x : Run). x.given) all) ∙ k in
      let untold = takes_untold g l 3 o m so.0 so.1 in
      let here = append_cancel_left given (run g l (length u) m (o ∷ [])).given ((w, total) ∷ later) more in (
        effect_total (length u) (λ n. eats g l n o) (λ n. run g l (length u + 1) n []) (eats g l m o) untold (λ n. refl) here,
        effect_value (length u) (λ n. eats g l n o) (λ n. run g l (length u + 1) n []) (eats g l m o) untold
            (ends_value g l o m.scan r.start r.context r.frames r.notes r.now v so h) (λ n. refl) here,
      )

  -- where the end would give a value, the first that the next octet gives is that value, and came before that octet
  pub at_its_end : (trace g l u).ends ≡ Ok (Some v) → (trace g l (u ++ o ∷ [])).given ≡ (trace g l u).given ++ (w, total) ∷ later → (total ≡ length u) × (w ≡ v)
  at_its_end h k = let r = run g l 0 begun u in unused_now r.given r.now (run_ran g l u [] [] 0 begun (begun_stood g l)) refl h k
