-- What a reader without values takes up of a piece.
use Rattle.std.proofs.Common.{◌≡◌, ◌≢◌, ℕ, zero, suc, ◌+◌, ◌-◌, ◌<◌, ◌≤◌, Bool, true, false, List, [], ◌∷◌, length, take, drop, get_or, Option, Some, None, Result, Ok, Err, refl, ap, sym, ◌∙◌, subst, arith, length-drop}
use Rattle.std.proofs.lemmas.Grind.{common_steps}
use Rattle.std.proofs.lemmas.List.{get_or-drop}
use Rattle.std.specs.Prelude.{IfOk}
use Rattle.std.specs.Option.{is_some}
use Rattle.ion_text.specs.Names.{Advances, Catalog, DidTake, Event, Frame, Holds, LeavesBehind, LedLeaving, Limits, Memory, Reached, Reason, Refusal, Run, State, Strides, Symbols, Taken, TextWalk, TookFront, TookSo, Value, WentOn, count_of, eats, heard, leaves, led, place, reading_of, resumed, run, run_on, scanned, state_of, told}
use Rattle.ion_tokens.specs.laws.Again.{blank_uses}
use Rattle.ion_visiting.specs.laws.Filters.{hears_none}
use Rattle.ion_text.specs.walk.Advances.{AdvancesBy, gone, with_count, with_offset}
use Rattle.ion_text.specs.laws.reading.complete.Fuel.{NotLeaves, eats_stays}
use Rattle.ion_text.proofs.PieceEnds.{LeadsFromStart, leads_by, leads_to_end, leads_to_given, leads_to_left, leads_to_refused, leads_to_second}
use Rattle.ion_text.proofs.PieceFronts.{front_of, octet_of, refused_of, size}
use Rattle.ion_text.proofs.Striding.{still_settles}
use Rattle.ion_text.proofs.Taking.{gave_behind, went_behind}

-- what holds of an answer holds of it with the offset of a refusal
pub with_offset_if : (P : Taken → Type 0) (offset : ℕ) (answer : Result Taken Reason) → IfOk answer P → IfOk (with_offset offset answer) P
with_offset_if P offset (Ok taken) holds = holds
with_offset_if P offset (Err reason) holds = holds

-- 1. One way.

module _ {V : Type 0} (takes : V → Event → V → Type 0) (es : List Event) (g : Catalog) (l : Limits) (to : ℕ) (m : State) (piece : List ℕ) where
  -- what was taken up of the front of a piece was taken up of the piece
  module _ (n : ℕ) (within : n ≤ length piece) where
    prefix_reached : (k : ℕ) (t : Taken) (r : TextWalk) (a b : V) → Reached takes es g l to m (take n piece) k t r a b → Reached takes es g l to m piece k t r a b
    prefix_reached k Taken.Uses r a b h =
        let i = size g l to m piece n within in (
          h.0,
          h.1,
          (h.2.0, omega (arith, h.2.1), ap (run g l to m) (sym (front_of g l to m piece n within k (omega (arith, h.2.1)))) ∙ h.2.2),
          h.3,
        )
    prefix_reached k Taken.Tells r a b h =
        let i = size g l to m piece n within in (
          h.0,
          (h.1.0, omega (arith, h.1.1), ap (run g l to m) (sym (front_of g l to m piece n within k (omega (arith, h.1.1)))) ∙ h.1.2),
          h.2,
        )
    prefix_reached k Taken.Leaves r a b h =
        let i = size g l to m piece n within in
        let j = h.1.within in (
          h.0,
          record {
            within = omega arith;
            before = h.1.before;
            ran = ap (run g l to m) (sym (front_of g l to m piece n within k (omega arith))) ∙ h.1.ran;
            left = ap (eats g l h.1.before) (sym (octet_of g l to m piece n within k (omega arith))) ∙ h.1.left;
          },
          h.2,
        )

    pub prefix_took : (result : Result (ℕ × Taken) Refusal) (r : TextWalk) (a b : V) → TookFront takes es g l to m (take n piece) result r a b
        → TookFront takes es g l to m piece result r a b
    prefix_took (Ok took) r a b h = prefix_reached took.0 took.1 r a b h
    prefix_took (Err refusal) r a b h = λ other. refused_of g l to m piece n within refusal (h other)

  -- what so many octets did is what those did that the scanner has moved
  pub over_gone : (k : ℕ) (t : Taken) (old r : TextWalk) (a b : V) → (scanned r.scanner).used ≡ (scanned old.scanner).used + k
      → Reached takes es g l to m piece k t r a b → Reached takes es g l to m piece (gone old r) t r a b
  over_gone k t old r a b e h =
      let n : k ≡ gone old r = omega (arith, e) in
      subst (λ (i : ℕ). Reached takes es g l to m piece i t r a b) n h

  -- octets over which what waits goes on to wait
  pub waiting_reached : (count : ℕ) (fs : List Frame) (ss : Symbols) (r : TextWalk) (a : V) → 0 < count → count ≤ length piece → Holds r fs ss → told fs ss ≡ es
      → run g l to m (take count piece) ≡ led (state_of r fs ss) → Reached takes es g l to m piece count Taken.Uses r a a
  waiting_reached count fs ss r a some within h same ran =
      (fs, ss, (some, within, ran), record { holds = h; hears = hears_none takes (heard es) (heard (told fs ss)) a (ap heard same) })

  -- one octet
  module _ (some : 0 < length piece) where
    one : (w : List ℕ) → 0 < length w → take 1 w ≡ get_or w 0 0 ∷ []
    one [] h = absurd (omega arith)
    one (o ∷ os) h = refl

    all : (w : List ℕ) → 0 < length w → w ≡ get_or w 0 0 ∷ drop 1 w
    all [] h = absurd (omega arith)
    all (o ∷ os) h = refl

    octet_uses : (r : TextWalk) (a b : V) → DidTake takes es (eats g l m (get_or piece 0 0)) (Ok Taken.Uses) r a b
        → Reached takes es g l to m piece 1 Taken.Uses r a b
    octet_uses r a b d = (
      d.0,
      d.1,
      (omega arith, omega arith, ap (run g l to m) (one piece some) ∙ ap (run_on to (λ n. eats g l n (get_or piece 0 0)) led) d.2),
      d.3,
    )

    octet_tells : (r : TextWalk) (a b : V) → DidTake takes es (eats g l m (get_or piece 0 0)) (Ok Taken.Tells) r a b
        → Reached takes es g l to m piece 1 Taken.Tells r a b
    octet_tells r a b d = (
      d.0,
      (omega arith, omega arith, ap (run g l to m) (one piece some) ∙ ap (run_on to (λ n. eats g l n (get_or piece 0 0)) led) d.1),
      d.2,
    )

    octet_leaves : (r : TextWalk) (a b : V) → DidTake takes es (eats g l m (get_or piece 0 0)) (Ok Taken.Leaves) r a b
        → Reached takes es g l to m piece 0 Taken.Leaves r a b
    octet_leaves r a b d = (d.0, record { within = some; before = m; ran = refl; left = d.1 }, d.2)

    module _ (old r : TextWalk) where
      pub octet_took : (t : Taken) (a b : V) → (scanned r.scanner).used ≡ (scanned old.scanner).used + count_of t
          → DidTake takes es (eats g l m (get_or piece 0 0)) (Ok t) r a b → Reached takes es g l to m piece (gone old r) t r a b
      octet_took Taken.Uses a b e d = over_gone 1 Taken.Uses old r a b e (octet_uses r a b d)
      octet_took Taken.Tells a b e d = over_gone 1 Taken.Tells old r a b e (octet_tells r a b d)
      octet_took Taken.Leaves a b e d = over_gone 0 Taken.Leaves old r a b e (octet_leaves r a b d)

    pub octet_refused : (reason : Reason) (offset : ℕ) (r : TextWalk) (a b : V) → offset ≡ to + 1
        → DidTake takes es (eats g l m (get_or piece 0 0)) (Err reason) r a b → reason ≢ Memory
        → run g l to m piece ≡ record { given = []; now = Err (record { offset = offset; reason = reason }) }
    octet_refused reason offset r a b at d other =
        ap (run g l to m) (all piece some)
        ∙ (ap (run_on to (λ n. eats g l n (get_or piece 0 0)) (λ n. run g l (to + 1) n (drop 1 piece))) (d other)
        ∙ ap (λ j. record { given = []; now = Err (record { offset = j; reason = reason }) }) (sym at))

-- 2. Tokens that were taken up at once, and what was taken up behind them.

agree : (i j : ℕ) (w : List ℕ) → i ≤ j → take i (take j w) ≡ take i w
agree i j w e = grind (arith, common_steps)

none_of : (n : ℕ) → take {A = ℕ} n [] ≡ []
none_of zero = refl
none_of (suc n) = refl

none_behind : (i : ℕ) → drop {A = ℕ} i [] ≡ []
none_behind zero = refl
none_behind (suc i) = refl

behind : (i j : ℕ) (w : List ℕ) → drop i (take (i + j) w) ≡ take j (drop i w)
behind zero j w = let none : 0 + j ≡ j = omega arith in ap (λ n. take n w) none
behind (suc i) j [] = ap (drop (suc i)) (none_of (suc i + j)) ∙ (none_behind (suc i) ∙ sym (none_of j))
behind (suc i) j (x ∷ w) =
    let more : suc i + j ≡ suc (i + j) = omega arith in
    ap (λ n. drop (suc i) (take n (x ∷ w))) more ∙ behind i j w

module _ {V : Type 0} (takes : V → Event → V → Type 0) (old mid : TextWalk) (fs : List Frame) (ss : Symbols) (piece rest : List ℕ) (k : ℕ) (a m : V)
    (is : rest ≡ drop k piece) (inside : k < length piece) (h : Strides takes fs ss old mid piece k a m)
    (counted : (scanned mid.scanner).used ≡ (scanned old.scanner).used + k) (same_catalog : mid.catalog.now ≡ old.catalog.now)
    (same_limits : mid.limits ≡ old.limits) where
  abbrev g : Catalog
  g = old.catalog.now

  abbrev l : Limits
  l = old.limits

  abbrev to : ℕ
  to = (scanned old.scanner).used

  abbrev first : State
  first = state_of old fs ss

  abbrev middle : State
  middle = state_of mid h.frames h.notes

  -- where it stood behind the tokens no octet shows the end of a value
  never : (v : Value) (n : State) (o : ℕ) → eats g l middle o ≡ leaves v n → ⊥
  never v n o e =
      let q = reading_of mid h.frames h.notes in
      subst (NotLeaves g l) e (eats_stays g l q (scanned mid.scanner) o (still_settles g l q h.still) (blank_uses (place q) (scanned mid.scanner) o h.rests))

  eats_so : (n : State) (o : ℕ) → eats g l n o ≡ eats mid.catalog.now mid.limits n o
  eats_so n o = ap (λ x. eats x l n o) (sym same_catalog) ∙ ap (λ x. eats mid.catalog.now x n o) (sym same_limits)

  run_so : (w : List ℕ) → run g l (scanned mid.scanner).used middle w ≡ run mid.catalog.now mid.limits (scanned mid.scanner).used middle w
  run_so w =
      ap (λ x. run x l (scanned mid.scanner).used middle w) (sym same_catalog)
      ∙ ap (λ x. run mid.catalog.now x (scanned mid.scanner).used middle w) (sym same_limits)

  -- so far a run goes over them
  along : (j : ℕ) (r : Run) → 0 < j → run mid.catalog.now mid.limits (scanned mid.scanner).used middle (take j rest) ≡ r
      → run g l to first (take (k + j) piece) ≡ r
  along j r some e =
      h.passes (take (k + j) piece) (agree (k + 1) (k + j) piece (omega arith))
      ∙ (ap (run g l (scanned mid.scanner).used middle) (behind k j piece ∙ ap (take j) (sym is)) ∙ (run_so (take j rest) ∙ e))

  few : (j : ℕ) → j ≤ length rest → k + j ≤ length piece
  few j e = let n : length rest ≡ length piece - k = ap (λ (w : List ℕ). length w) is ∙ length-drop k piece in omega arith

  octet_there : (j : ℕ) → get_or rest j 0 ≡ get_or piece (k + j) 0
  octet_there j = ap (λ w. get_or w j 0) is ∙ get_or-drop k piece j 0

  same_led : (x y : State) → led x ≡ led y → x ≡ y
  same_led x y e = ap (λ (r : Run). state_in x r.now) e
    where
      state_in : State → Result State Refusal → State
      state_in other (Ok s) = s
      state_in other (Err refusal) = other

  leaving : (j : ℕ) (v : Value) (n : State) → LeavesBehind mid.catalog.now mid.limits (scanned mid.scanner).used middle rest j v n
      → LeavesBehind g l to first piece (k + j) v n
  leaving zero v n x =
      let there : middle ≡ x.before = same_led middle x.before x.ran in
      absurd (never v n (get_or rest 0 0)
      (eats_so middle (get_or rest 0 0) ∙ (ap (λ s. eats mid.catalog.now mid.limits s (get_or rest 0 0)) there ∙ x.left)))
  leaving (suc j) v n x =
      let inner = x.within in
      let w = few (suc j) (omega arith) in
      let size : length rest ≡ length piece - k = ap (λ (w : List ℕ). length w) is ∙ length-drop k piece in
      record {
        within = omega arith;
        before = x.before;
        ran = along (suc j) (led x.before) (omega arith) x.ran;
        left =
            ap (eats g l x.before) (sym (octet_there (suc j)))
            ∙ (eats_so x.before (get_or rest (suc j) 0) ∙ x.left);
      }

  module _ (new : TextWalk) (b : V) where
    pub both_reached : (j : ℕ) (t : Taken)
        → Reached takes (told h.frames h.notes) mid.catalog.now mid.limits (scanned mid.scanner).used middle rest j t new m b
        → Reached takes (told fs ss) g l to first piece (k + j) t new a b
    both_reached j Taken.Uses y = (
      y.0,
      y.1,
      (omega (arith, y.2.0), few j y.2.1, along j (led (state_of new y.0 y.1)) y.2.0 y.2.2),
      went_behind takes (told fs ss) (told h.frames h.notes) new y.0 y.1 a m b h.hears y.3,
    )
    both_reached j Taken.Tells y =
        let total : (scanned mid.scanner).used + j ≡ to + (k + j) = omega arith in (
          y.0,
          (
            omega (arith, y.1.0),
            few j y.1.1,
            along j (record { given = (y.0, (scanned mid.scanner).used + j) ∷ []; now = Ok (state_of new [] []) }) y.1.0 y.1.2
                ∙ ap (λ i. record { given = (y.0, i) ∷ []; now = Ok (state_of new [] []) }) total,
          ),
          gave_behind takes (told fs ss) (told h.frames h.notes) new y.0 a m b h.hears y.2,
        )
    both_reached j Taken.Leaves y = (
      y.0,
      leaving j y.0 (state_of new [] []) y.1,
      gave_behind takes (told fs ss) (told h.frames h.notes) new y.0 a m b h.hears y.2,
    )

  pub both_refused : (refusal : Refusal)
      → run mid.catalog.now mid.limits (scanned mid.scanner).used middle rest ≡ record { given = []; now = Err refusal }
      → run g l to first piece ≡ record { given = []; now = Err refusal }
  both_refused refusal e =
      h.passes piece refl ∙ (ap (run g l (scanned mid.scanner).used middle) (sym is) ∙ (run_so rest ∙ e))

  -- what was taken up behind them, they and it did
  pub both_took : (result : Result Taken Refusal) (new : TextWalk) (b : V) → IfOk result (λ _. (scanned mid.scanner).used ≤ (scanned new.scanner).used)
      → TookFront takes (told h.frames h.notes) mid.catalog.now mid.limits (scanned mid.scanner).used middle rest (with_count (gone mid new) result) new m b
      → TookFront takes (told fs ss) g l to first piece (with_count (gone old new) result) new a b
  both_took (Ok t) new b on y =
      let n : k + gone mid new ≡ gone old new = omega arith in
      subst (λ (i : ℕ). Reached takes (told fs ss) g l to first piece i t new a b) n (both_reached new b (gone mid new) t y)
  both_took (Err refusal) new b on y = λ other. both_refused refusal (y other)

-- tokens that ended a value
module _ {V : Type 0} (takes : V → Event → V → Type 0) (old new : TextWalk) (fs : List Frame) (ss : Symbols) (piece : List ℕ) (k : ℕ) (a b : V)
    (inside : k < length piece) where
  pub told_reached : TookSo takes fs ss old new piece k a b Taken.Tells
      → Reached takes (told fs ss) old.catalog.now old.limits (scanned old.scanner).used (state_of old fs ss) piece k Taken.Tells new a b
  told_reached h = (h.1, (h.0, omega arith, h.2), h.3)

  pub left_reached : TookSo takes fs ss old new piece k a b Taken.Leaves
      → Reached takes (told fs ss) old.catalog.now old.limits (scanned old.scanner).used (state_of old fs ss) piece k Taken.Leaves new a b
  left_reached h = (h.1, record { within = inside; before = h.2; ran = h.3; left = h.4 }, h.5)

-- 3. From where a walk over a piece began.

-- The octets of the piece before i lead a run there, whatever follows, and a visitor heard of them.
pub record LedSo {V : Type 0} (takes : V → Event → V → Type 0) (fs : List Frame) (ss : Symbols) (old new : TextWalk) (piece : List ℕ) (i : ℕ) (a b : V) : Type 0 where
  pub frames : List Frame
  pub notes : Symbols
  pub leads : LeadsFromStart old.catalog.now old.limits (is_some old.awaited) (scanned old.scanner).used (state_of old fs ss) piece i (state_of new frames notes)
  pub went : WentOn takes (told fs ss) new frames notes a b

-- none of them
pub led_none : {V : Type 0} (takes : V → Event → V → Type 0) (fs : List Frame) (ss : Symbols) (old new : TextWalk) (piece : List ℕ) (a : V) → Holds new fs ss
    → state_of new fs ss ≡ state_of old fs ss → LedSo takes fs ss old new piece 0 a a
led_none takes fs ss old new piece a h same = record {
  frames = fs;
  notes = ss;
  leads = record { onward = λ rest some. absurd (omega arith); fresh = λ _. same };
  went = record { holds = h; hears = hears_none takes (heard (told fs ss)) (heard (told fs ss)) a refl };
}

module _ {V : Type 0} (takes : V → Event → V → Type 0) (first m : TextWalk) (piece : List ℕ) (i : ℕ) (fs : List Frame) (ss : Symbols) (a b : V)
    (x : LedSo takes fs ss first m piece i a b) (same_catalog : m.catalog.now ≡ first.catalog.now) (same_limits : m.limits ≡ first.limits)
    (counted : (scanned m.scanner).used ≡ (scanned first.scanner).used + i) where
  abbrev rest : List ℕ
  rest = take (length piece - i) (drop i piece)

  abbrev here : State
  here = state_of m x.frames x.notes

  abbrev again : Bool
  again = is_some first.awaited

  module _ (n : TextWalk) (c : V) (k : ℕ) where
    abbrev Reaches : Taken → Type 0
    Reaches t = Reached takes (told x.frames x.notes) m.catalog.now m.limits (scanned m.scanner).used (state_of m x.frames x.notes)
        (take (length piece - i) (drop i piece)) k t n b c

    -- further octets are used
    pub led_on : Reaches Taken.Uses → LedSo takes fs ss first n piece (i + k) a c
    led_on y = record {
      frames = y.0;
      notes = y.1;
      leads =
          leads_by first.catalog.now first.limits again (scanned first.scanner).used (state_of first fs ss) here piece i (scanned m.scanner).used
          m.catalog.now m.limits same_catalog same_limits counted x.leads k (state_of n y.0 y.1) y.2.0 y.2.1 y.2.2;
      went = went_behind takes (told fs ss) (told x.frames x.notes) n y.0 y.1 a b c x.went.hears y.3;
    }

    -- the last of them ends a value
    pub led_tells : i ≤ length piece → n.awaited ≡ None → Reaches Taken.Tells
        → AdvancesBy takes (told fs ss) first.catalog.now first.limits (is_some first.awaited) (scanned first.scanner).used (state_of first fs ss) piece
        (i + k) true n a c
    led_tells inside none y = (
      y.0,
      subst (λ (o : Option ℕ). Advances first.catalog.now first.limits again (scanned first.scanner).used (state_of first fs ss) piece
          (Ok (record { used = i + k; value = Some y.0 })) o (state_of n [] [])) (sym none)
          (leads_to_given first.catalog.now first.limits again (scanned first.scanner).used (state_of first fs ss) here piece i (scanned m.scanner).used
          m.catalog.now m.limits same_catalog same_limits counted x.leads k (Some y.0) (state_of n [] []) inside y.1.0 y.1.1 y.1.2),
      gave_behind takes (told fs ss) (told x.frames x.notes) n y.0 a b c x.went.hears y.2,
    )

    leaving_so : (v : Value) (s : State) → LeavesBehind m.catalog.now m.limits (scanned m.scanner).used here rest k v s
        → LedLeaving m.catalog.now m.limits (scanned m.scanner).used here rest k (Some v) s
    leaving_so v s h = record { within = h.within; before = h.before; ran = h.ran; left = h.left }

    -- the one behind them shows the end of one, and is awaited
    pub led_leaves : (last : TextWalk) → i ≤ length piece → (is_some first.awaited ≡ true → 0 < i + k) → state_of last [] [] ≡ state_of n [] []
        → Holds last [] [] → last.awaited ≡ Some (get_or piece (i + k) 0) → Reaches Taken.Leaves
        → AdvancesBy takes (told fs ss) first.catalog.now first.limits (is_some first.awaited) (scanned first.scanner).used (state_of first fs ss) piece
        (i + k) true last a c
    led_leaves last inside onward same holds awaits y = (
      y.0,
      subst (λ (o : Option ℕ). Advances first.catalog.now first.limits again (scanned first.scanner).used (state_of first fs ss) piece
          (Ok (record { used = i + k; value = Some y.0 })) o (state_of last [] [])) (sym awaits)
          (subst (λ (s : State). Advances first.catalog.now first.limits again (scanned first.scanner).used (state_of first fs ss) piece
          (Ok (record { used = i + k; value = Some y.0 })) (Some (get_or piece (i + k) 0)) s) (sym same)
          (leads_to_left first.catalog.now first.limits again (scanned first.scanner).used (state_of first fs ss) here piece i (scanned m.scanner).used
          m.catalog.now m.limits same_catalog same_limits counted x.leads k (Some y.0) (state_of n [] []) inside onward (leaving_so y.0 (state_of n [] []) y.1))),
      record { holds = holds; hears = (gave_behind takes (told fs ss) (told x.frames x.notes) n y.0 a b c x.went.hears y.2).hears },
    )

    -- so does the first octet of the piece, which showed the end of one before
    pub led_second : is_some first.awaited ≡ true → i + k ≡ 0 → Reaches Taken.Leaves
        → resumed first.catalog.now first.limits (is_some first.awaited) (scanned first.scanner).used (state_of first fs ss) piece
        ≡ record { given = []; now = Err (record { offset = (scanned first.scanner).used + 1; reason = Reason.Unexpected }) }
    led_second twice none y =
        leads_to_second first.catalog.now first.limits again (scanned first.scanner).used (state_of first fs ss) here piece i (scanned m.scanner).used
        m.catalog.now m.limits same_catalog same_limits counted x.leads k (Some y.0) (state_of n [] []) twice none (leaving_so y.0 (state_of n [] []) y.1)

  -- further octets are refused
  pub led_refused : (refusal : Refusal) → i < length piece
      → run m.catalog.now m.limits (scanned m.scanner).used (state_of m x.frames x.notes) (take (length piece - i) (drop i piece))
      ≡ record { given = []; now = Err refusal }
      → resumed first.catalog.now first.limits (is_some first.awaited) (scanned first.scanner).used (state_of first fs ss) piece
      ≡ record { given = []; now = Err refusal }
  led_refused refusal inside e =
      leads_to_refused first.catalog.now first.limits again (scanned first.scanner).used (state_of first fs ss) here piece i (scanned m.scanner).used
      m.catalog.now m.limits same_catalog same_limits counted x.leads refusal inside e

  -- there are no further octets
  pub led_end : length piece ≤ i → (is_some first.awaited ≡ true → 0 < length piece) → i ≤ length piece → m.awaited ≡ None
      → AdvancesBy takes (told fs ss) first.catalog.now first.limits (is_some first.awaited) (scanned first.scanner).used (state_of first fs ss) piece
      (length piece) false m a b
  led_end whole some inside none = (
    x.frames,
    x.notes,
    subst (λ (o : Option ℕ). Advances first.catalog.now first.limits again (scanned first.scanner).used (state_of first fs ss) piece
        (Ok (record { used = length piece; value = None })) o here) (sym none) (
          omega arith,
          (
            refl,
            leads_to_end first.catalog.now first.limits again (scanned first.scanner).used (state_of first fs ss) here piece i whole some inside x.leads,
          ),
        ),
    x.went,
  )
