-- Of the whole pieces at the front of octets, the octets show all but the last at least.
use Rattle.std.proofs.Common.{◌≡◌, ℕ, ◌+◌, ◌≤◌, ◌⊎◌, inl, inr, Bool, true, false, List, [], ◌∷◌, ◌++◌, length, refl, sym, ap, ◌∙◌, subst, arith, append-nil, append_assoc, length-append, Result, Ok, Err, Option, Some, None, option_to_list}
use Rattle.std.proofs.lemmas.Bool.{false_from_ne_true}
use Rattle.std.specs.Prelude.{codes, nat_le}
use Rattle.std.proofs.lemmas.Bool.Decides.{nat_tests}
use Rattle.ion_text.specs.Names.{BeginsWith, Catalog, Content, IsBody, LexesTo, Limits, Mark, Mark', Placed, Reading, Refusal, Shown, State, Streams, Turn, Value, Whole, adds_values, begun, colon_behind, continues, done, ends_long, ends_of, fresh, gives, goes, initial, is_sexp, on_turn, plain, reads, reads-append, run, said_body, settle, system_slots, then_walk, token_of, trace}
use Rattle.ion_text.specs.machine.TokenLists.{walked}
use Rattle.ion_text.specs.laws.reading.complete.Accepts.{accepts}
use Rattle.ion_text.specs.laws.reading.complete.Complete.{segment_kind}
use Rattle.ion_text.specs.laws.reading.complete.Going.{Going, TurnGoes, added, going_said, going_settle, mark_kind}
use Rattle.ion_text.specs.laws.reading.complete.Pieces.{GoesOn, ReadSoFar, pieces_read, quoted_kind, walked_now}
use Rattle.ion_text.specs.laws.reading.sound.Steps.{StoodBehind, begun_stood, run_ran}
use Rattle.ion_text.specs.laws.showing.shown.Fronts.{stood_front}
use Rattle.ion_text.specs.laws.showing.shown.Opened.{blank_token, colons_token, long_token, quoted_token, segment_is}
use Rattle.ion_text.specs.laws.showing.shown.Symbols.{EndsStill, run_still}
use Rattle.ion_text.specs.laws.showing.tokens.Alone.{whole_document}
use Rattle.ion_text.specs.laws.showing.tokens.Compare.{Compared, Found', TopFirst, begins_after, compare, lexes_once}
use Rattle.ion_text.specs.laws.showing.tokens.Cuts.{lexed_front, parted}
use Rattle.ion_text.specs.laws.showing.tokens.Once.{going_once, operator_inside, some_token, whole_ends, whole_found, whole_going, whole_operators}

module _ (g : Catalog) (l : Limits) where
  -- What waits behind tokens is settled by others, which don't go on with it.
  settled_values : (t : Turn) (later all : List Value) (x : Placed) (xs : List Placed) (n : Reading) → on_turn t done ≡ walked later n
      → TurnGoes g l t (x ∷ xs) all → (rest : List Value) × (all ≡ later ++ rest)
  settled_values (goes r) later all x xs n e d = (all, ap (λ vs. vs ++ all) (walked_now g l [] later r n e).0)
  settled_values (gives v r) later all x xs n e d = (d.0, d.1 ∙ ap (λ vs. vs ++ d.0) (walked_now g l (v ∷ []) later r n e).0)
  settled_values _ later all x xs n e d = absurd d

  module _ (front following : List ℕ) (s : List Value) (a : Whole g l front following s) where
    so_far : ReadSoFar g l a.tokens s a.context
    so_far = pieces_read g l a.tokens s a.context a.pieces

    -- the next token behind whole pieces
    module _ (x : Placed) (rest : List ℕ) (b : BeginsWith a.colon a.end (a.blank ++ following) x rest) where
      none_on : (c : Content) → IsBody x.lexeme.kind x.lexeme.octets (Ok c) → (c ≡ Mark' Mark.Colons)
          ⊎ ((ends_long a.tokens ≡ true) × GoesOn (token_of x.lexeme c)) → ⊥
      none_on c says (inl colons) =
          let kind = mark_kind x.lexeme.kind x.lexeme.octets Mark.Colons (subst (λ y. IsBody x.lexeme.kind x.lexeme.octets (Ok y)) colons says) in
          let is = colons_token x.place a.colon b.token rest x.lexeme.kind x.lexeme.octets b.is kind in
          a.no_annotation is.1 (blank_token (codes "::") [] (a.blank ++ following) (a.blank ++ following) rest a.colon a.end x b is.0 refl)
      none_on c says (inr (long, inl (w, e))) =
          let kind = segment_is x.lexeme.kind (segment_kind x.lexeme.kind x.lexeme.octets w
          (subst (λ y. IsBody x.lexeme.kind x.lexeme.octets (Ok y)) e says)) in
          let is = long_token x.place a.colon b.token rest x.lexeme.kind x.lexeme.octets b.is kind in
          a.no_segment long (blank_token (codes "''") is.0 (a.blank ++ following) (a.blank ++ following) rest a.colon a.end x b is.1 refl)
      none_on c says (inr (long, inr (w, e, n))) =
          let kind = quoted_kind x.lexeme.kind x.lexeme.octets w (subst (λ y. IsBody x.lexeme.kind x.lexeme.octets (Ok y)) e says) in
          let two : x.lexeme.end ≡ x.lexeme.start + 2 = grind (arith, nat_tests) in
          let is = quoted_token x.place a.colon b.token rest x.lexeme.kind x.lexeme.octets b.is kind (omega (arith, two, b.start, b.end)) in
          a.no_segment long (blank_token (codes "''") [] (a.blank ++ following) (a.blank ++ following) rest a.colon a.end x b is refl)

      apart : (c : Content) → IsBody x.lexeme.kind x.lexeme.octets (Ok c) → continues so_far.now (token_of x.lexeme c) ≡ false
      apart c says = false_from_ne_true (continues so_far.now (token_of x.lexeme c)) (λ e. none_on c says (so_far.shuts (token_of x.lexeme c) e))

      -- tokens that begin with it give their values behind those of the pieces
      more_values : (xs : List Placed) (t : List Value) → Going g l (fresh system_slots) (a.tokens ++ x ∷ xs) t → (more : List Value) × (t ≡ s ++ more)
      more_values xs t d =
          let walk : adds_values so_far.given (reads g l so_far.now (x ∷ xs)) ≡ walked d.vs d.n =
          sym (ap (λ w. then_walk w (λ k. reads g l k (x ∷ xs))) so_far.read) ∙ sym (reads-append g l a.tokens (x ∷ xs) (fresh system_slots)) ∙ d.read in
          let w = added g l so_far.given d.vs d.n (reads g l so_far.now (x ∷ xs)) walk in
          let on : Going g l so_far.now (x ∷ xs) (w.0 ++ d.later) =
          record { vs = w.0; later = d.later; n = d.n; c = d.c; read = w.1; ends = d.ends; whole = refl } in
          let token = going_said g l so_far.now x xs (w.0 ++ d.later) on in
          let says = said_body x.lexeme.kind x.lexeme.octets token.1 token.2 in
          let settled = going_settle g l so_far.now x xs (w.0 ++ d.later) token.1 on token.2 (apart token.1 says) in
          let m = settled_values (settle g l so_far.now) so_far.later (w.0 ++ d.later) x xs (fresh a.context) so_far.settles settled in (
            m.0,
            d.whole ∙ (ap (λ vs. vs ++ d.later) w.2 ∙ (append_assoc so_far.given w.0 d.later
                ∙ (ap (λ vs. so_far.given ++ vs) m.1 ∙ (sym (append_assoc so_far.given so_far.later m.0) ∙ ap (λ vs. vs ++ m.0) (sym so_far.all))))),
          )

  -- Whole pieces at the front of octets have the values of shorter ones, and others behind them.
  module _ (front following longer behind : List ℕ) (s t : List Value) (same : longer ++ behind ≡ front ++ following) (a : Whole g l front following s)
      (b : Whole g l longer behind t) (le : length front ≤ length longer) where
    lexed : LexesTo false 0 (front ++ following) b.tokens b.colon b.end (b.blank ++ behind)
    lexed = subst (λ o. LexesTo false 0 o b.tokens b.colon b.end (b.blank ++ behind)) same b.lexed

    one_list : a.tokens ≡ b.tokens → s ≡ t
    one_list e = going_once g l (fresh system_slots) b.tokens s t (subst (λ z. Going g l (fresh system_slots) z s) e (whole_going g l front following s a))
        (whole_going g l longer behind t b)

    with_more : (more : List Placed) → b.tokens ≡ a.tokens ++ more → (vs : List Value) × (t ≡ s ++ vs)
    with_more [] e = ([], sym (one_list (sym (e ∙ append-nil a.tokens))) ∙ sym (append-nil s))
    with_more (x ∷ xs) e =
        let p = parted a.tokens (x ∷ xs) false 0 (front ++ following) b.colon b.end (b.blank ++ behind)
        (subst (λ z. LexesTo false 0 (front ++ following) z b.colon b.end (b.blank ++ behind)) e lexed) in
        let at = lexes_once a.tokens false 0 (front ++ following) p.flag a.colon p.mid a.end p.left (a.blank ++ following) p.first a.lexed in
        let begins : BeginsWith a.colon a.end (a.blank ++ following) x (p.second).0 =
        subst (λ c. BeginsWith c a.end (a.blank ++ following) x (p.second).0) at.0
        (subst (λ (k : ℕ). BeginsWith p.flag k (a.blank ++ following) x (p.second).0) at.1
        (subst (λ o. BeginsWith p.flag p.mid o x (p.second).0) at.2 (p.second).1)) in
        more_values front following s a x (p.second).0 begins xs t (subst (λ z. Going g l (fresh system_slots) z t) e (whole_going g l longer behind t b))

    with_fewer : (more : List Placed) → a.tokens ≡ b.tokens ++ more → TopFirst more → (vs : List Value) × (t ≡ s ++ vs)
    with_fewer [] e h = ([], sym (one_list (e ∙ append-nil b.tokens)) ∙ sym (append-nil s))
    with_fewer (x ∷ xs) e h =
        let p = parted b.tokens (x ∷ xs) false 0 (front ++ following) a.colon a.end (a.blank ++ following)
        (subst (λ z. LexesTo false 0 (front ++ following) z a.colon a.end (a.blank ++ following)) e a.lexed) in
        let at = lexes_once b.tokens false 0 (front ++ following) p.flag b.colon p.mid b.end p.left (b.blank ++ behind) p.first lexed in
        let c = (p.second).1 in
        let starts = begins_after p.flag p.mid p.left x (p.second).0 b.blank behind c
        (operator_inside x.place p.flag c.token (p.second).0 x.lexeme.kind x.lexeme.octets c.is (ap is_sexp h)) b.is_blank at.2 in
        let some = some_token x.place p.flag c.token (p.second).0 x.lexeme.kind x.lexeme.octets c.is in
        let rest = lexed_front xs (colon_behind x) x.lexeme.end (p.second).0 a.colon a.end (a.blank ++ following) (p.second).2 in
        absurd (omega (arith, le, starts, some, rest.2, at.1, whole_ends g l front following s a, whole_ends g l longer behind t b, c.start, c.end))

    longer_values : (vs : List Value) × (t ≡ s ++ vs)
    longer_values =
        by (compare (λ k octets. Unit {0}) g l initial (front ++ following) a.tokens (whole_found g l front following s a) b.tokens
        (subst (λ o. Found' (λ k octets. Unit {0}) initial o b.tokens) same (whole_found g l longer behind t b)) (whole_operators g l front following s a)
        (whole_operators g l longer behind t b) (fresh system_slots) s t
        (whole_going g l front following s a) (whole_going g l longer behind t b))
      where
        by : Compared a.tokens b.tokens → (vs : List Value) × (t ≡ s ++ vs)
        by (inl (more, e, h)) = with_more more e
        by (inr (more, e, h)) = with_fewer more e h

  -- The values given stand in whole pieces, whatever octets follow, and at most one more comes at the end.
  record AllButOne (front : List ℕ) (s : List Value) : Type 0 where
    given : List Value
    last : Option Value
    values : s ≡ given ++ option_to_list last
    before : List ℕ
    open_rest : List ℕ
    parts : front ≡ before ++ open_rest
    whole : (following : List ℕ) → Whole g l before (open_rest ++ following) given

  all_but_one : (u : List ℕ) (s : List Value) → Streams (trace g l u) s → AllButOne u s
  all_but_one u s h =
      let x = run g l 0 begun u in
      by x.given x.now (run_ran g l u [] [] 0 begun (begun_stood g l))
      (run_still g l u [] [] 0 begun (begun_stood g l) (λ f c. absurd (let n : false ≡ true = c in cc))) h.ends h.values
    where
      by : (given : List (Value × ℕ)) (now : Result State Refusal) → StoodBehind g l u [] (record { given = given; now = now }) → EndsStill g l now
          → ends_of g l now ≡ Ok h.last → s ≡ plain given ++ option_to_list h.last → AllButOne u s
      by given (Err e) ran still ends values = cc
      by given (Ok m) ran still ends values =
          let f = stood_front g l u (plain given) m ran still in
          record { given = plain given; last = h.last; values = values; before = f.front; open_rest = f.rest; parts = f.parts; whole = f.whole }

option_short : (o : Option Value) → length (option_to_list o) ≤ 1
option_short None = omega arith
option_short (Some v) = omega arith

-- The octets show all values of whole pieces at their front, or all but the last one.
pub all_but_the_last : (g : Catalog) (l : Limits) (front rest : List ℕ) (s t : List Value) → Whole g l front rest s → Shown (Whole g l) (front ++ rest) t
    → ((more : List Value) × (t ≡ s ++ more)) ⊎ ((v : Value) × (s ≡ t ++ v ∷ []))
all_but_the_last g l front rest s t w shown = by (nat_le (length front) (length shown.front)) refl
  where
    x : AllButOne g l front s
    x = all_but_one g l front s (accepts g l front s (whole_document g l front rest s w))

    shown_whole : Whole g l shown.front shown.open_rest t
    shown_whole = subst (λ o. Whole g l shown.front o t) (append-nil shown.open_rest) (shown.whole [] tt)

    parts : front ++ rest ≡ x.before ++ (x.open_rest ++ rest)
    parts = ap (λ o. o ++ rest) x.parts ∙ append_assoc x.before x.open_rest rest

    reaches : length x.before ≤ length shown.front
    reaches = shown.longest x.before (x.open_rest ++ rest) x.given parts
        (λ following are. subst (λ o. Whole g l x.before o x.given) (sym (append_assoc x.open_rest rest following)) (x.whole (rest ++ following)))

    behind_given : (more : List Value) × (t ≡ x.given ++ more)
    behind_given = longer_values g l x.before (x.open_rest ++ rest) shown.front shown.open_rest x.given t (sym shown.parts ∙ parts) (x.whole rest) shown_whole
        reaches

    short : (more : List Value) → s ≡ t ++ more → ((vs : List Value) × (t ≡ s ++ vs)) ⊎ ((v : Value) × (s ≡ t ++ v ∷ []))
    short [] e = inl ([], sym (e ∙ append-nil t) ∙ sym (append-nil s))
    short (v ∷ []) e = inr (v, e)
    short (v ∷ w ∷ vs) e =
        absurd (omega (
          arith,
          option_short x.last,
          ap length x.values,
          ap length e,
          ap length behind_given.1,
          length-append x.given (option_to_list x.last),
          length-append t (v ∷ w ∷ vs),
          length-append x.given behind_given.0,
        ))

    by : (b : Bool) → nat_le (length front) (length shown.front) ≡ b → ((more : List Value) × (t ≡ s ++ more)) ⊎ ((v : Value) × (s ≡ t ++ v ∷ []))
    by true e = inl (longer_values g l front rest shown.front shown.open_rest s t (sym shown.parts) w shown_whole (grind (arith, nat_tests)))
    by false e =
        let le : length shown.front ≤ length front = grind (arith, nat_tests) in
        let m = longer_values g l shown.front shown.open_rest front rest t s shown.parts shown_whole w le in
        short m.0 m.1
