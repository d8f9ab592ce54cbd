-- In octets that are a document the reader of octets finds no reason to refuse before a token has ended.
use Rattle.std.proofs.Common.{◌≡◌, ℕ, ◌+◌, ◌-◌, ◌≤◌, ◌==◌, List, [], ◌∷◌, Bool, true, false, ◌&&◌, ◌||◌, not, Ok, Option, Some, None, refl, ap, sym, ◌∙◌, subst, arith, if◌then◌else◌, ◌⊎◌, inl, inr}
use Rattle.std.proofs.lemmas.Bool.{and_parts, both_ways, cond-false, cond-true, false_from_ne_true, le-leb, not-true, true_from_ne_false}
use Rattle.ion_text.specs.Names.{Catalog, Content, Frame, Held, IsBody, Known, Limits, Long, Mark, Mark', Mode, Next, Place, Placed, Reading, Reason, Slot, Stage, Style, Symbols, TokenKind, Value, at, begun_in, behind, continues, form_of, goes, is_closing, is_fresh, is_idle, is_long_begun, is_long_form, is_quoting, is_sane, is_top, longest_top, noticed, reaches, refuses, said, said_body, settle, shut, token_at, token_of, turn_now, under, uses, with_scan}
use Rattle.ion_tokens.proofs.foreseen.Begins.{end_idle}
use Rattle.ion_text.specs.laws.reading.complete.Going.{Direct, EndsPast, Going, Operators, TopOk, TurnEnds, TurnGoes, going_ends, going_said, going_turn, idle_past, limit, mark_kind, no_operator, ready_still, top_limit, used_inside}
use Rattle.ion_text.specs.laws.reading.complete.Meets.{Meets, at_blank, begun_closing, begun_span, follows_as, idle_span, in_blank, is_long_text, long_segment, meets_next}
use Rattle.ion_text.specs.laws.reading.sound.Held.{segment_says}
use Rattle.ion_text.specs.laws.reading.sound.Quotes.{Fine}
use Rattle.ion_text.specs.laws.reading.sound.Spans.{IsTopNow, IsWaiting}
use Rattle.ion_text.specs.laws.reading.sound.StandsOpen.{EndsAt, start_now}

-- while something waits at the top level, no token has begun with which it doesn't go on
abbrev pub CalmNow : Stage → Mode → Type 0
CalmNow Stage.Ready m = Unit {0}
CalmNow (Stage.Pending h end) m = is_idle m ≡ true
CalmNow (Stage.Long w end) m = (is_idle m || is_quoting m) ≡ true
CalmNow _ m = ⊥

-- what waits ended within these octets
abbrev pub EndedIn : ℕ → Stage → Type 0
EndedIn used (Stage.Pending h end) = end ≤ used
EndedIn used (Stage.Long w end) = end ≤ used
EndedIn used _ = Unit {0}

-- what waits and ended within so many octets ended within more
pub ended_more : (n : Stage) (used more : ℕ) → used ≤ more → EndedIn used n → EndedIn more n
ended_more (Stage.Pending h end) used more le e = omega (arith, le, e)
ended_more (Stage.Long w end) used more le e = omega (arith, le, e)
ended_more _ used more le e = tt

-- what waits and ended at an octet ended within those up to it
pub ended_at : (n : Stage) (end : ℕ) → EndsAt n end → EndedIn end n
ended_at (Stage.Pending h e) end at' = omega (arith, at')
ended_at (Stage.Long w e) end at' = omega (arith, at')
ended_at _ end at' = tt

-- at the top level no token has begun that could disturb what waits, which ended within the octets used
abbrev pub Calm : Known → Reading → Type 0
Calm s r = is_top r.frames ≡ true → CalmNow r.now s.mode × EndedIn s.used r.now

-- what is calm is what may be at the top level
pub calm_now : (n : Stage) (m : Mode) → CalmNow n m → IsTopNow n
calm_now Stage.Ready m c = tt
calm_now (Stage.Pending h end) m c = tt
calm_now (Stage.Long w end) m c = tt
calm_now _ m c = c

-- where it is calm, the reader is as it may be at the top level
pub calm_ok : (g : Catalog) (l : Limits) (s : Known) (r : Reading) → Calm s r → TopOk g l r
calm_ok g l s r c h = calm_now r.now s.mode (c h).0

-- a blank is no token that has begun
pub blank_idle : (s : Known) (os : List ℕ) → Meets s os [] → is_sane s.mode ≡ true → is_idle s.mode ≡ true
blank_idle _ _ (at_blank s e) h = end_idle Place.Top s s.mode e
blank_idle _ _ (in_blank s o os s' e m) h =
    let a = follows_as Place.Top s o (Next s') h e in
    let idle = blank_idle s' os m a.0 in
    true_from_ne_false (is_idle s.mode) (λ i. both_ways (is_idle s'.mode) (a.1 i) idle)

long_is : (m : Mode) → is_idle m ≡ false → is_long_form (form_of m) ≡ true → (is_long_begun (Some (record { start = 0; end = 0; form = form_of m })) == 0)
    ≡ false → is_long_text m ≡ true
long_is (Mode.Text Style.LongString w) i h k = refl
long_is _ i h k = absurd cc

module _ (g : Catalog) (l : Limits) where
  -- behind an element or a name a mark comes that is whole with its last octet, or a colon
  abbrev pub ClosingSaid : Content → Type 0
  ClosingSaid c = (m : Mark) × (c ≡ Mark' m) × (is_closing (TokenKind.Mark m) ≡ true)

  -- and no other token does
  pub shut_said : (begin end start : ℕ) (slots : List Slot) (fs : List Frame) (ss : Symbols) (c : Content) (now : Stage) → shut now ≡ true
      → (ClosingSaid c) ⊎ (turn_now (under g l) (at start slots fs ss now) (token_at begin end c) now ≡ refuses Reason.Unexpected)
  shut_said begin end start slots fs ss (Mark' Mark.Comma) Stage.After h = inl (Mark.Comma, refl, refl)
  shut_said begin end start slots fs ss (Mark' Mark.ListClose) Stage.After h = inl (Mark.ListClose, refl, refl)
  shut_said begin end start slots fs ss (Mark' Mark.FieldsClose) Stage.After h = inl (Mark.FieldsClose, refl, refl)
  shut_said begin end start slots fs ss (Mark' Mark.Colon) (Stage.Keyed s) h = inl (Mark.Colon, refl, refl)
  shut_said begin end start slots fs ss c Stage.Ready h = absurd cc
  shut_said begin end start slots fs ss c (Stage.Pending k e) h = absurd cc
  shut_said begin end start slots fs ss c (Stage.Long w e) h = absurd cc
  shut_said begin end start slots fs ss c Stage.Name h = absurd cc
  shut_said begin end start slots fs ss c (Stage.LongName w) h = absurd cc
  shut_said begin end start slots fs ss _ _ h = inr refl

  -- there nothing waits
  pub shut_still : (r : Reading) → shut r.now ≡ true → settle g l r ≡ goes r
  shut_still r h = go r.now refl
    where
      go : (n : Stage) → r.now ≡ n → settle g l r ≡ goes r
      go Stage.After e = subst (λ n. settle g l (at r.start r.context r.frames r.notes n) ≡ goes (at r.start r.context r.frames r.notes n)) (sym e) refl
      go (Stage.Keyed s) e = subst (λ n. settle g l (at r.start r.context r.frames r.notes n) ≡ goes (at r.start r.context r.frames r.notes n)) (sym e) refl
      go _ e = absurd (let n : false ≡ true = sym (ap shut e) ∙ h in cc)

  module _ (s : Known) (os : List ℕ) (sane : is_sane s.mode ≡ true) (fine : Fine s) (used : 1 ≤ s.used) (r : Reading) (all : List Value) (calm : Calm s r) where
    not_shut : (ts : List Placed) → Meets s os ts → Going g l r ts all → is_idle s.mode ≡ false → shut r.now ≡ true → ⊥
    not_shut [] m d i h =
        let e = subst (λ t. TurnEnds g l t all) (shut_still r h) (going_ends g l r all d) in
        let n : true ≡ false = sym h ∙ ap (λ (x : Reading). shut x.now) e.0.1 in cc
    not_shut (t ∷ ts) m d i h =
        let p = going_said g l r t ts all d in
        by p.1 p.2 (going_turn g l r t ts all p.1 d p.2 (inr (shut_still r h)))
        (shut_said t.lexeme.start t.lexeme.end r.start r.context r.frames r.notes p.1 r.now h)
      where
        closes : (c : Content) → said t.lexeme.kind t.lexeme.octets ≡ Ok c → ClosingSaid c → ⊥
        closes c e k =
            let body = subst (λ x. IsBody t.lexeme.kind t.lexeme.octets (Ok x)) k.1 (said_body t.lexeme.kind t.lexeme.octets c e) in
            let kind = mark_kind t.lexeme.kind t.lexeme.octets k.0 body in
            let n : true ≡ false = sym k.2 ∙ (ap is_closing (sym kind) ∙ begun_closing s t (meets_next s os t ts m) sane i) in cc

        by : (c : Content) → said t.lexeme.kind t.lexeme.octets ≡ Ok c → TurnGoes g l (turn_now (under g l) r (token_of t.lexeme c) r.now) ts all
            → (ClosingSaid c) ⊎ (turn_now (under g l) r (token_of t.lexeme c) r.now ≡ refuses Reason.Unexpected) → ⊥
        by c e d (inl k) = closes c e k
        by c e d (inr n) = subst (λ x. TurnGoes g l x ts all) n d

    shut_quiet : (ts : List Placed) → Meets s os ts → Going g l r ts all → (shut r.now && not (is_idle s.mode)) ≡ false
    shut_quiet ts m d = false_from_ne_true (shut r.now && not (is_idle s.mode))
        (λ h. let p = and_parts (shut r.now) (not (is_idle s.mode)) h in not_shut ts m d (not-true (is_idle s.mode) p.1) p.0)

    -- the token that has begun, or comes next
    module _ (t : Placed) (ts : List Placed) (m : Meets s os (t ∷ ts)) (ops : Operators (t ∷ ts)) (d : Going g l r (t ∷ ts) all)
        (top : is_top r.frames ≡ true) where
      own : t.lexeme.kind ≡ TokenKind.Operator → ⊥
      own k = no_operator g l r t top (going_said g l r t ts all d).0 ops.0 k

      within' : (c : Content) → said t.lexeme.kind t.lexeme.octets ≡ Ok c → Direct g l r (token_of t.lexeme c)
          → t.lexeme.end ≤ start_now r.now r.start t.lexeme.start r.frames r.notes + l.item
      within' c e w = limit g l s os (t ∷ ts) m fine ops r all c (calm_ok g l s r calm) d e w

      begun_end : is_idle s.mode ≡ false → (t.lexeme.start ≡ s.start) × (s.used - behind s.mode ≤ t.lexeme.end)
      begun_end i = let x = begun_span s os t ts m i used in (x.0, elim x.1 [ inl h ↦ h | inr h ↦ absurd (own h) ])

      next_end : is_idle s.mode ≡ true → s.used ≤ t.lexeme.end
      next_end i = elim (idle_span s os t ts m fine i) [ inl h ↦ h | inr h ↦ absurd (own h) ]

    ready_same : (fs : List Frame) (ss : Symbols) → r.frames ≡ fs → r.notes ≡ ss → r.now ≡ Stage.Ready → r ≡ at r.start r.context fs ss Stage.Ready
    ready_same fs ss a b c = ap (λ x. at r.start r.context x r.notes r.now) a
        ∙ (ap (λ x. at r.start r.context fs x r.now) b ∙ ap (λ x. at r.start r.context fs ss x) c)

    module _ (ts : List Placed) (m : Meets s os ts) (ops : Operators ts) (d : Going g l r ts all) (none : r.frames ≡ []) where
      top : is_top r.frames ≡ true
      top = ap is_top none

      -- an item that begins
      fresh_reaches : r.notes ≡ [] → r.now ≡ Stage.Ready → (i : Bool) → is_idle s.mode ≡ i
          → longest_top r.start s.used Stage.Ready [] (if i then None else Some
          (record { start = s.start; end = s.used - behind s.mode; form = form_of s.mode })) (is_long_begun (begun_in s)) ≤ l.item
      fresh_reaches a b true i = omega arith
      fresh_reaches a b false i = by ts m ops d
        where
          same : r ≡ at r.start r.context [] [] Stage.Ready
          same = ready_same [] [] none a b

          by : (ts : List Placed) → Meets s os ts → Operators ts → Going g l r ts all → s.used - behind s.mode - s.start ≤ l.item
          by [] m ops d = absurd (let n : true ≡ false = sym (blank_idle s os m sane) ∙ i in cc)
          by (t ∷ ts) m ops d =
              let p = going_said g l r t ts all d in
              let k = within' t ts m ops d top p.1 p.2 (inr (ready_still g l r b)) in
              let x = begun_end t ts m ops d top i in
              let e : start_now r.now r.start t.lexeme.start r.frames r.notes ≡ t.lexeme.start =
              ap (λ (y : Reading). start_now y.now r.start t.lexeme.start y.frames y.notes) same in
              omega (arith, k, x.0, x.1, e)

      -- behind annotations
      noted_reaches : (n : Option (List ℕ)) (ns : Symbols) → r.notes ≡ n ∷ ns → r.now ≡ Stage.Ready → (i : Bool) → is_idle s.mode ≡ i
          → longest_top r.start s.used Stage.Ready (n ∷ ns) (if i then None else Some
          (record { start = s.start; end = s.used - behind s.mode; form = form_of s.mode })) (is_long_begun (begun_in s)) ≤ l.item
      noted_reaches n ns a b i e = by ts m ops d i e
        where
          same : r ≡ at r.start r.context [] (n ∷ ns) Stage.Ready
          same = ready_same [] (n ∷ ns) none a b

          by : (ts : List Placed) → Meets s os ts → Operators ts → Going g l r ts all → (i : Bool) → is_idle s.mode ≡ i
              → longest_top r.start s.used Stage.Ready (n ∷ ns) (if i then None else Some
              (record { start = s.start; end = s.used - behind s.mode; form = form_of s.mode })) (is_long_begun (begun_in s)) ≤ l.item
          by [] m ops d i e =
              let x = subst (λ y. TurnEnds g l y all) (ready_still g l r b) (going_ends g l r all d) in
              absurd (let z : false ≡ true = sym (ap is_fresh same) ∙ ap is_fresh x.0.1 in cc)
          by (t ∷ ts) m ops d true e =
              let p = going_said g l r t ts all d in
              let k = within' t ts m ops d top p.1 p.2 (inr (ready_still g l r b)) in
              let f : start_now r.now r.start t.lexeme.start r.frames r.notes ≡ r.start =
              ap (λ (y : Reading). start_now y.now r.start t.lexeme.start y.frames y.notes) same in
              omega (arith, k, next_end t ts m ops d top e, f)
          by (t ∷ ts) m ops d false e =
              let p = going_said g l r t ts all d in
              let k = within' t ts m ops d top p.1 p.2 (inr (ready_still g l r b)) in
              let x = begun_end t ts m ops d top e in
              let f : start_now r.now r.start t.lexeme.start r.frames r.notes ≡ r.start =
              ap (λ (y : Reading). start_now y.now r.start t.lexeme.start y.frames y.notes) same in
              omega (arith, k, x.1, f)

      -- behind a long string, one more segment
      long_reaches : (w : List ℕ) (end : ℕ) → r.now ≡ Stage.Long w end → is_idle s.mode ≡ false → is_long_text s.mode ≡ true
          → s.used - behind s.mode - r.start ≤ l.item
      long_reaches w end a i h = by ts m ops d
        where
          by : (ts : List Placed) → Meets s os ts → Operators ts → Going g l r ts all → s.used - behind s.mode - r.start ≤ l.item
          by [] m ops d = absurd (let n : true ≡ false = sym (blank_idle s os m sane) ∙ i in cc)
          by (t ∷ ts) m ops d =
              let p = going_said g l r t ts all d in
              let c = segment_says t.lexeme.kind t.lexeme.octets p.1 (long_segment s os t ts m h) (said_body t.lexeme.kind t.lexeme.octets p.1 p.2) in
              let w' : continues r (token_of t.lexeme p.1) ≡ true = ap (λ y. continues r (token_of t.lexeme y)) c
              ∙ ap (λ y. continues (at r.start r.context r.frames r.notes y) (token_of t.lexeme (Long t.lexeme.octets))) a in
              let k = within' t ts m ops d top p.1 p.2 (inl w') in
              let x = begun_end t ts m ops d top i in
              let f : start_now r.now r.start t.lexeme.start r.frames r.notes ≡ r.start = ap (λ y. start_now y r.start t.lexeme.start r.frames r.notes) a in
              omega (arith, k, x.1, f)

      -- what waits
      ended : EndedIn s.used r.now
      ended = (calm top).1

      waiting_unfresh : (fs : List Frame) (ss : Symbols) (n : Stage) → IsWaiting g l n → is_fresh (at r.start r.context fs ss n) ≡ false
      waiting_unfresh [] [] (Stage.Pending h e) w = refl
      waiting_unfresh [] [] (Stage.Long v e) w = refl
      waiting_unfresh [] (x ∷ ss) n w = refl
      waiting_unfresh (f ∷ fs) ss n w = refl
      waiting_unfresh [] [] _ w = absurd w

      waiting_reaches : (end : ℕ) → end ≤ s.used → IsWaiting g l r.now → IsTopNow r.now → EndsAt r.now end → EndsPast g l s.used ts → end - r.start ≤ l.item
      waiting_reaches end le w ok at' past =
          let k = top_limit g l s os end fine le ts m ops (limit g l s os ts m fine ops) past r all top (waiting_unfresh r.frames r.notes r.now w) ok at' d in
          omega (arith, k)

      pending_reaches : (h : Held) (end : ℕ) → r.now ≡ Stage.Pending h end → end - r.start ≤ l.item
      pending_reaches h end e =
          waiting_reaches end (subst (EndedIn s.used) e ended) (subst (IsWaiting g l) (sym e) tt) (subst IsTopNow (sym e) tt)
          (subst (λ n. EndsAt n end) (sym e) refl)
          (idle_past g l s os ts m fine (subst (λ n. CalmNow n s.mode) e (calm top).0))

      held_reaches : (w : List ℕ) (end : ℕ) → r.now ≡ Stage.Long w end → end - r.start ≤ l.item
      held_reaches w end e =
          waiting_reaches end (subst (EndedIn s.used) e ended) (subst (IsWaiting g l) (sym e) tt) (subst IsTopNow (sym e) tt)
          (subst (λ n. EndsAt n end) (sym e) refl)
          (past (is_idle s.mode) refl ts m ops d)
        where
          quoting_behind : (k : Mode) → (is_idle k || is_quoting k) ≡ true → behind k ≡ 0
          quoting_behind Mode.NumberSlash q = absurd cc
          quoting_behind Mode.OperatorSlash q = absurd cc
          quoting_behind _ q = refl

          past : (i : Bool) → is_idle s.mode ≡ i → (ts : List Placed) → Meets s os ts → Operators ts → Going g l r ts all → EndsPast g l s.used ts
          past true i ts m ops d = idle_past g l s os ts m fine i
          past false i [] m ops d = tt
          past false i (t ∷ ts) m ops d =
              let x = begun_end t ts m ops d top i in
              let k = quoting_behind s.mode (subst (λ n. CalmNow n s.mode) e (calm top).0) in
              inl (omega (arith, x.1, k))

      long_longest : (w : List ℕ) (end : ℕ) → r.now ≡ Stage.Long w end → (i : Bool) → is_idle s.mode ≡ i
          → longest_top r.start s.used (Stage.Long w end) r.notes
          (if i then None else Some (record { start = s.start; end = s.used - behind s.mode; form = form_of s.mode }))
          (is_long_begun (if i then None else Some (record { start = s.start; end = s.used - behind s.mode; form = form_of s.mode }))) ≤ l.item
      long_longest w end a true i = held_reaches w end a
      long_longest w end a false i = go (is_long_form (form_of s.mode)) refl (is_long_begun (Some (record { start = 0; end = 0; form = form_of s.mode })) == 0)
          refl
        where
          go : (x : Bool) → is_long_form (form_of s.mode) ≡ x → (y : Bool) → (is_long_begun (Some (record { start = 0; end = 0; form = form_of s.mode })) == 0)
              ≡ y → (if x && not y then s.used - behind s.mode - r.start else end - r.start) ≤ l.item
          go true e false f = long_reaches w end a i (long_is s.mode i e f)
          go _ e _ f = held_reaches w end a

      top_reaches : (n : Stage) → r.now ≡ n → (ss : Symbols) → r.notes ≡ ss → IsTopNow n
          → longest_top r.start s.used n ss (begun_in s) (is_long_begun (begun_in s)) ≤ l.item
      top_reaches Stage.Ready e [] f k = fresh_reaches f e (is_idle s.mode) refl
      top_reaches Stage.Ready e (x ∷ ss) f k = noted_reaches x ss f e (is_idle s.mode) refl
      top_reaches (Stage.Pending h end) e ss f k = pending_reaches h end e
      top_reaches (Stage.Long w end) e ss f k = subst (λ y. longest_top r.start s.used (Stage.Long w end) y (begun_in s) (is_long_begun (begun_in s)) ≤ l.item) f
          (long_longest w end e (is_idle s.mode) refl)
      top_reaches _ e ss f k = absurd k

    reaches_within : (ts : List Placed) → Meets s os ts → Operators ts → Going g l r ts all → (fs : List Frame) → r.frames ≡ fs → reaches fs r s ≤ l.item
    reaches_within ts m ops d [] e = top_reaches ts m ops d e r.now refl r.notes refl (calm_ok g l s r calm (ap is_top e))
    reaches_within ts m ops d (f ∷ fs) e = let k = used_inside g l s os ts m fine r all (ap is_top e) d in omega (arith, k)

    -- There is nothing to refuse.
    pub quiet : (ts : List Placed) → Meets s os ts → Operators ts → Going g l r ts all → noticed l r s ≡ uses (with_scan s r)
    quiet ts m ops d =
        cond-false _ _ _ (shut_quiet ts m d)
        ∙ cond-true _ _ _ (le-leb (reaches r.frames r s) l.item (reaches_within ts m ops d r.frames refl))
