-- An octet for which a reason is late is read on, and refused there for no reason that rows have.
use Rattle.std.proofs.Common.{◌≡◌, ℕ, zero, suc, ◌+◌, nat_le, nat_lt, List, [], ◌∷◌, ◌++◌, true, false, Ok, Option, Some, refl, sym, ◌∙◌, subst, if◌then◌else◌, inl, inr}
use Rattle.std.proofs.lemmas.Bool.{cond_both, lt-ltb}
use Rattle.ion_refusals.specs.Names.{Bracket, Catalog, Content, Effect, Frame, Given, HasRow, Held, Id, IsUsed, Known, Left, Lexeme, Limits, ListOrSexp, Long, Mark, Mark', Next, Outcome, Payload, Place, Quoted, Reading, Refused, Setting, Short, Slot, Spot, Stage, State, Symbols, Token, TokenKind, Turn, TypedNull, Value, Word, annotated, at, behind_given, behind_left, beyond_depth, ended, fails, feed, field_of, first_now, fresh, goes, is_idle, keyed, late, named, noticed, on_keyed, on_name, on_ready, on_said, on_scan, on_settled, opened, opening, place, said, said_body, settle, spot_at, takes, token_of, turn, under, unsettled, with_scan}
use Rattle.ion_refusals.proofs.deciding.OneOctet.{keyword_bare}
use Rattle.ion_text.specs.machine.Ways.{TokenWay, ValueWay, now_way, token_deep, token_list, token_sexp, token_struct, token_unnamed, token_unnoted, token_value, value_refused}
use Rattle.ion_model.specs.declared.value.Payload.TheVariants as payloads
use Rattle.ion_refusals.proofs.deciding.Shows.{BareSaid}
use Rattle.ion_text.specs.laws.reading.Effects.{noticed_each, said_each}
use Rattle.ion_text.specs.laws.reading.Reasons.{feed_lexical, said_lexical}
use Rattle.ion_refusals.proofs.deciding.Lexical.{lexical_none}
use Rattle.ion_text.specs.laws.reading.complete.Accepts.{mark_said}
use Rattle.ion_text.specs.laws.reading.complete.Fuel.{UsedHere}
use Rattle.ion_text.specs.laws.reading.complete.Meets.{IdleLeft, idle_left}

-- 1. Effects.

-- a refusal is for no such reason
abbrev pub NotLate : Effect → Type 0
NotLate (fails e) = HasRow e → ⊥
NotLate _ = Unit {0}

-- an octet that ends no token is refused for no reason that rows have
pub noticed_quiet : (l : Limits) (r : Reading) (s : Known) → NotLate (noticed l r s)
noticed_quiet l r s = noticed_each NotLate l r s tt (λ i. i) (λ i. i)

pub said_quiet : (k : TokenKind) (octets : List ℕ) (f : Content → Effect) → ((c : Content) → said k octets ≡ Ok c → NotLate (f c))
    → NotLate (on_said (said k octets) f)
said_quiet k octets f h = said_each NotLate (said k octets) f h (λ e i. lexical_none e (said_lexical k octets e i))

-- 2. Where reasons are late.

-- behind a name, in a struct that a container holds, and behind the colons of an annotation
pub data LateAs (said : Content) : Reading → Type 0 where
  behind_name : BareSaid said → (start : ℕ) (c : List Slot) (fs : List Frame) (ss : Symbols) (s : Option (List ℕ))
      → LateAs said (at start c fs ss (Stage.Keyed s))
  in_struct : BareSaid said → (start : ℕ) (c : List Slot) (rs : Symbols) (f : Frame) (fs : List Frame)
      → LateAs said (at start c (Frame.Fields rs [] ∷ f ∷ fs) [] Stage.Name)
  behind_colons : (n : Reading) → said ≡ Mark' Mark.Colons → LateAs said n

-- what a late reason goes on with
abbrev pub TurnLate : (Reading → Type 0) → Turn → Type 0
TurnLate P (late e n) = P n
TurnLate P _ = Unit {0}

-- where a value ends, no reason is late
pub value_late : (P : Reading → Type 0) (setting : Setting) (spot : Spot) (v : Value) (fs : List Frame) (t : Turn) → ValueWay setting spot v fs t → TurnLate P t
value_late P setting spot v _ _ (value_refused fs e d) = tt
value_late P setting spot v _ _ _ = tt

module _ (g : Catalog) (l : Limits) where
  some_level : nat_lt 0 l.depth ≡ true
  some_level = lt-ltb 0 l.depth l.deep.0

  -- what a token's reason is late for
  pub turn_late : (r : Reading) (t : Token) → TurnLate (LateAs t.said) (turn g l r t)
  turn_late r t = by r.frames r.now _ (now_way g l t.start t.end r.start r.context r.frames r.notes t.said r.now)
    where
      by : (fs : List Frame) (now : Stage) (x : Turn) → TokenWay g l t.start t.end r.start r.context t.said r.notes fs now x → TurnLate (LateAs t.said) x
      by _ _ _ (token_value fs q x none flat way) = value_late (LateAs t.said) (under g l) _ _ fs x way
      by _ _ _ (token_list rs vs fs now x e way) = value_late (LateAs t.said) (under g l) _ _ fs x way
      by _ _ _ (token_sexp rs vs fs now x e way) = value_late (LateAs t.said) (under g l) _ _ fs x way
      by _ _ _ (token_struct rs ms fs now x e way) = value_late (LateAs t.said) (under g l) _ _ fs x way
      by _ _ _ (token_deep [] e i) = absurd (let n : true ≡ false = sym some_level ∙ i in cc)
      by _ _ _ (token_deep (f ∷ fs) e i) = in_struct (subst BareSaid (sym e) tt) r.start r.context r.notes f fs
      by _ _ _ (token_unnoted fs h e x i d) = behind_colons _ i
      by _ _ _ (token_unnamed fs s i) = behind_name (keyword_bare t.said i) r.start r.context fs [] s
      by _ _ _ _ = tt

  -- 3. What comes of the octet there.

  -- an octet that is used at the scanner
  used_quiet : (again : State → Effect) (p : Place) (s : Known) (o : ℕ) (r : Reading)
      → ((y : Lexeme) (t : Known) → feed p s o ≡ Given y t → (c : Content) → said y.kind y.octets ≡ Ok c
      → NotLate (behind_given l t (turn g l r (token_of y c))))
      → (x : Outcome) → feed p s o ≡ x → IsUsed x → NotLate (on_scan g l again r x)
  used_quiet again p s o r f (Next t) e u = noticed_quiet l r t
  used_quiet again p s o r f (Given y t) e u = said_quiet y.kind y.octets (λ c. behind_given l t (turn g l r (token_of y c))) (f y t e)
  used_quiet again p s o r f (Left y t) e u = absurd u
  used_quiet again p s o r f (Refused n y) e u = lexical_none y (feed_lexical p s o n y e)

  -- where nothing waits
  still_quiet : (again : State → Effect) (m : State) (x : Outcome) → settle g l m.reading ≡ goes m.reading → NotLate (on_scan g l again m.reading x)
      → NotLate (if unsettled m.scan m.reading x then on_scan g l again m.reading x else on_settled g l again m.scan x (settle g l m.reading))
  still_quiet again m x e h =
      cond_both (unsettled m.scan m.reading x) _ _ NotLate (λ k. h) (λ k. subst (λ t. NotLate (on_settled g l again m.scan x t)) (sym e) h)

  named_quiet : (t : Known) (start : ℕ) (c : List Slot) (fs : List Frame) (s : Option (List ℕ)) → NotLate (behind_given l t (named start c fs s))
  named_quiet t start c (Frame.Fields ss ms ∷ fs) s = noticed_quiet l (at start c (Frame.Named ss ms s ∷ fs) [] Stage.Ready) t
  named_quiet t start c _ s = λ i. i

  keyed_given : (t : Known) (start : ℕ) (c : List Slot) (fs : List Frame) (s : Option (List ℕ)) (x : Content)
      → NotLate (behind_given l t (on_keyed start c fs s x))
  keyed_given t start c fs s (Mark' Mark.Colon) = named_quiet t start c fs s
  keyed_given t start c fs s _ = λ i. i

  -- behind a name
  name_quiet : (n : ℕ) (s : Known) (o start : ℕ) (c : List Slot) (fs : List Frame) (ss : Symbols) (k : Option (List ℕ)) → UsedHere s o
      → NotLate (takes g l n (with_scan s (at start c fs ss (Stage.Keyed k))) o)
  name_quiet zero s o start c fs ss k once = λ i. i
  name_quiet (suc n) s o start c fs ss k once =
      let r = at start c fs ss (Stage.Keyed k) in
      still_quiet (λ m. takes g l n m o) (with_scan s r) (feed (place r) s o) refl
      (used_quiet (λ m. takes g l n m o) (place r) s o r (λ y t e x f. keyed_given t start c fs k x) (feed (place r) s o) refl (once (place r)))

  closed_quiet : (t : Known) (spot : Spot) (f : Frame) (fs : List Frame) (v : Value) → NotLate (behind_given l t (ended (under g l) spot (f ∷ fs) v))
  closed_quiet t spot (Frame.Items ListOrSexp.List ss vs) fs v =
      noticed_quiet l (at spot.start spot.context (Frame.Items ListOrSexp.List ss (vs ++ v ∷ []) ∷ fs) [] Stage.After) t
  closed_quiet t spot (Frame.Items ListOrSexp.Sexp ss vs) fs v =
      noticed_quiet l (at spot.start spot.context (Frame.Items ListOrSexp.Sexp ss (vs ++ v ∷ []) ∷ fs) [] Stage.Ready) t
  closed_quiet t spot (Frame.Named ss ms s) fs v = noticed_quiet l (at spot.start spot.context (Frame.Fields ss (ms ++ field_of s v ∷ []) ∷ fs) [] Stage.After)
      t
  closed_quiet t spot (Frame.Fields ss ms) fs v = λ i. i

  struct_given : (t : Known) (spot : Spot) (rs : Symbols) (f : Frame) (fs : List Frame) (x : Content) → (BareSaid x → ⊥)
      → NotLate (behind_given l t (on_name (under g l) spot (Frame.Fields rs [] ∷ f ∷ fs) x))
  struct_given t spot rs f fs (Word w) n = absurd (n tt)
  struct_given t spot rs f fs (Id id) n = absurd (n tt)
  struct_given t spot rs f fs (TypedNull k) n = absurd (n tt)
  struct_given t spot rs f fs (Quoted w) n = noticed_quiet l (keyed spot.start spot.context (Frame.Fields rs [] ∷ f ∷ fs) (Some w)) t
  struct_given t spot rs f fs (Short w) n = noticed_quiet l (keyed spot.start spot.context (Frame.Fields rs [] ∷ f ∷ fs) (Some w)) t
  struct_given t spot rs f fs (Long w) n = noticed_quiet l (at spot.start spot.context (Frame.Fields rs [] ∷ f ∷ fs) [] (Stage.LongName w)) t
  struct_given t spot rs f fs (Mark' Mark.FieldsClose) n = closed_quiet t spot f fs (annotated rs (payloads.Fields []))
  struct_given t spot rs f fs _ n = λ i. i

  -- no token that ends with the octet would need one behind it
  abbrev pub GivesNoBare : Place → Known → ℕ → Type 0
  GivesNoBare p s o = (y : Lexeme) (t : Known) → feed p s o ≡ Given y t → (c : Content) → said y.kind y.octets ≡ Ok c → BareSaid c → ⊥

  -- behind the brace of a struct
  struct_quiet : (n : ℕ) (s : Known) (o start : ℕ) (c : List Slot) (rs : Symbols) (f : Frame) (fs : List Frame) → UsedHere s o → GivesNoBare Place.Name s o
      → NotLate (takes g l n (with_scan s (at start c (Frame.Fields rs [] ∷ f ∷ fs) [] Stage.Name)) o)
  struct_quiet zero s o start c rs f fs once bare = λ i. i
  struct_quiet (suc n) s o start c rs f fs once bare =
      let r = at start c (Frame.Fields rs [] ∷ f ∷ fs) [] Stage.Name in
      still_quiet (λ m. takes g l n m o) (with_scan s r) (feed (place r) s o) refl
      (used_quiet (λ m. takes g l n m o) (place r) s o r (λ y t e x i. struct_given t (spot_at y.end start c) rs f fs x (bare y t e x i)) (feed (place r) s o)
      refl (once (place r)))

  -- Where a token that was left is late, no reason of rows comes of the octet.
  pub late_quiet : (n : ℕ) (s : Known) (o : ℕ) (x : Content) (r : Reading) → LateAs x r → (x ≡ Mark' Mark.Colons → ⊥) → (BareSaid x → UsedHere s o)
      → GivesNoBare Place.Name s o → NotLate (takes g l n (with_scan s r) o)
  late_quiet n s o x _ (behind_name b start c fs ss k) colons once bare = name_quiet n s o start c fs ss k (once b)
  late_quiet n s o x _ (in_struct b start c rs f fs) colons once bare = struct_quiet n s o start c rs f fs (once b) bare
  late_quiet n s o x r (behind_colons _ e) colons once bare = absurd (colons e)

  -- 4. Behind the marker of another version.

  fresh_ended : (t : Known) (start end : ℕ) (c : List Slot) (q : Payload)
      → NotLate (behind_given l t (ended (under g l) (spot_at end start c) [] (annotated [] q)))
  fresh_ended t start end c q = cond_both (nat_le end (start + l.item)) _ _ (λ x. NotLate (behind_given l t x)) (λ e. tt) (λ e i. i)

  fresh_open : (t : Known) (start : ℕ) (c : List Slot) (bracket : Bracket) → NotLate (behind_given l t (opening bracket l.depth start c [] []))
  fresh_open t start c bracket = subst (λ b. NotLate (behind_given l t (if b then goes inside else beyond_depth bracket inside))) (sym some_level)
      (noticed_quiet l inside t)
    where
      inside : Reading
      inside = at start c (opened bracket [] ∷ []) [] (first_now bracket)

  fresh_given : (t : Known) (start end : ℕ) (c : List Slot) (x : Content) → (BareSaid x → ⊥)
      → NotLate (behind_given l t (on_ready (under g l) (spot_at end start c) [] [] x))
  fresh_given t start end c (Quoted w) n = noticed_quiet l (at start c [] [] (Stage.Pending (Held.Symbol (Some w)) end)) t
  fresh_given t start end c (Long w) n = noticed_quiet l (at start c [] [] (Stage.Long w end)) t
  fresh_given t start end c (Word w) n = absurd (n tt)
  fresh_given t start end c (Id id) n = absurd (n tt)
  fresh_given t start end c (TypedNull k) n = absurd (n tt)
  fresh_given t start end c (Mark' Mark.ListOpen) n = fresh_open t start c Bracket.List
  fresh_given t start end c (Mark' Mark.SexpOpen) n = fresh_open t start c Bracket.Sexp
  fresh_given t start end c (Mark' Mark.FieldsOpen) n = absurd (n tt)
  fresh_given t start end c (Mark' _) n = λ i. i
  fresh_given t start end c _ n = fresh_ended t start end c _

  -- Behind such a marker no reason of rows comes of the octet that shows that it is no annotation.
  pub version_quiet : (again : State → Effect) (s : Known) (o : ℕ) (c : List Slot) → is_idle s.mode ≡ true → GivesNoBare Place.Top s o → (x : Outcome)
      → feed Place.Top s o ≡ x → NotLate (on_scan g l again (fresh c) x)
  version_quiet again s o c idle bare (Next t) e = noticed_quiet l (fresh c) t
  version_quiet again s o c idle bare (Given y t) e = said_quiet y.kind y.octets (λ x. behind_given l t (turn g l (fresh c) (token_of y x)))
      (λ x i. fresh_given t y.start y.end c x (bare y t e x i))
  version_quiet again s o c idle bare (Left y t) e = said_quiet y.kind y.octets (λ x. behind_left again t (turn g l (fresh c) (token_of y x)))
      (λ x i. by x i (subst (IdleLeft Place.Top s.used) e (idle_left Place.Top s o idle)))
    where
      by : (x : Content) → said y.kind y.octets ≡ Ok x → IdleLeft Place.Top s.used (Left y t)
          → NotLate (behind_left again t (turn g l (fresh c) (token_of y x)))
      by x i (inl k) = subst (λ z. NotLate (behind_left again t (turn g l (fresh c) (token_of y z))))
          (sym (mark_said y.kind y.octets Mark.Colon x k.0 (said_body y.kind y.octets x i))) (λ j. j)
      by x i (inr k) = absurd (let n : false ≡ true = k.1 in cc)
  version_quiet again s o c idle bare (Refused n y) e = lexical_none y (feed_lexical Place.Top s o n y e)
