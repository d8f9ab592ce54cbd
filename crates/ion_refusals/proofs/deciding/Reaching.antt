-- Octets that are tokens up to one that is refused, or up to where something waits, lead the reader of octets there, unless an item becomes
-- too long.
use Rattle.std.proofs.Common.{◌≡◌, ℕ, ◌+◌, ◌<◌, ◌≤◌, nat_le, nat_lt, List, [], ◌∷◌, length, Bool, true, false, ◌&&◌, not, Result, Ok, Err, Some, refl, ap, sym, ◌∙◌, subst, arith, ◌⊎◌, inl, inr}
use Rattle.std.proofs.lemmas.Bool.{cond-false, cond_both, ltb-true}
use Rattle.ion_refusals.specs.Names.{Catalog, Effect, Given, HasRow, IsBody, Known, Leading, Left, Limits, Mode, Next, Outcome, Placed, Reading, Reason, Refusal, Run, State, Turn, at_end, behind_given, behind_left, continues, eats, fails, feed, gives, goes, is_closing, is_idle, is_sane, is_top, is_two_quotes, late, leaves, lesser, noticed, on_said, on_scan, once_more, or_worse, place, reaches, reason_number, refuses, run, run_on, said_body, settle, settle_same, settle_still, shut, takes, tells, token_of, turn, uses, waits, with_scan}
use Rattle.ion_tokens.proofs.runs.Runs.{feed_used}
use Rattle.ion_tokens.proofs.runs.Splits.{given_one, left_one}
use Rattle.ion_refusals.proofs.deciding.Heading.{Heads, IsLast, Turned, TurnsTo, settled_heads}
use Rattle.ion_refusals.proofs.deciding.Shows.{IsBare}
use Rattle.ion_text.specs.laws.reading.complete.Accepts.{DirectAt, Onto, SettledCalm, eats_direct, eats_settled, exactly_as, idle_calm, left_run, settle_settled, still_calm, turn_ok, waits_calm}
use Rattle.ion_text.specs.laws.reading.complete.Exact.{Exact}
use Rattle.ion_text.specs.laws.reading.complete.Going.{Direct, Operators, TopOk, mark_kind}
use Rattle.ion_text.specs.laws.reading.complete.Meets.{MeetsNext, begun_closing, ends_next, finely_as, follows_as, next_given, next_left, next_on}
use Rattle.ion_text.specs.laws.reading.complete.Quiet.{CalmNow, ClosingSaid, EndedIn, calm_now, shut_said, shut_still}
use Rattle.ion_text.specs.laws.reading.complete.Segments.{NotRefused}
use Rattle.ion_text.specs.laws.reading.complete.Tokens.{given_agrees, left_agrees, left_colons, left_two, next_agrees}
use Rattle.ion_text.specs.laws.reading.sound.Quotes.{Fine, given_far}
use Rattle.ion_text.specs.laws.reading.sound.Spans.{IsTopNow, turn_spans}
use Rattle.ion_text.specs.laws.reading.sound.StandsOpen.{start_now}

-- 1. What the scanner meets.

-- In these octets the scanner meets these tokens, which are looked for in their places. An octet shows the last of them, or the end does, or
-- behind it is what was asked for.
module _ (ByOctet ByEnd : Type 0) (Rest : Known → List ℕ → Type 0) where
  pub data Sees : Known → List ℕ → List Placed → Type 0 where
    rests : (s : Known) (os : List ℕ) → Rest s os → Sees s os []
    last_given : (s : Known) (o : ℕ) (t : Placed) (s' : Known) → ByOctet → feed t.place s o ≡ Given t.lexeme s' → Sees s (o ∷ []) (t ∷ [])
    last_left : (s : Known) (o : ℕ) (t : Placed) (s' : Known) → ByOctet → feed t.place s o ≡ Left t.lexeme s' → Sees s (o ∷ []) (t ∷ [])
    last_ends : (s : Known) (t : Placed) → ByEnd → IsBare t.lexeme.kind → at_end t.place s ≡ Ok (Some t.lexeme) → Sees s [] (t ∷ [])
    sees_on : (s : Known) (o : ℕ) (os : List ℕ) (t : Placed) (ts : List Placed) (s' : Known) → feed t.place s o ≡ Next s' → Sees s' os (t ∷ ts)
        → Sees s (o ∷ os) (t ∷ ts)
    sees_given : (s : Known) (o : ℕ) (os : List ℕ) (t : Placed) (ts : List Placed) (s' : Known) → feed t.place s o ≡ Given t.lexeme s' → Sees s' os ts
        → Sees s (o ∷ os) (t ∷ ts)
    sees_left : (s : Known) (o : ℕ) (os : List ℕ) (t : Placed) (ts : List Placed) (s' : Known) → feed t.place s o ≡ Left t.lexeme s' → Sees s' (o ∷ os) ts
        → Sees s (o ∷ os) (t ∷ ts)

  sees_next : (s : Known) (os : List ℕ) (t : Placed) (ts : List Placed) → Sees s os (t ∷ ts) → MeetsNext s t
  sees_next _ _ _ _ (last_given s o t s' b e) = next_given s o t s' e
  sees_next _ _ _ _ (last_left s o t s' b e) = next_left s o t s' e
  sees_next _ _ _ _ (last_ends s t b bare e) = ends_next s t e
  sees_next _ _ _ _ (sees_on s o os t ts s' e m) = next_on s o t s' e (sees_next s' os t ts m)
  sees_next _ _ _ _ (sees_given s o os t ts s' e m) = next_given s o t s' e
  sees_next _ _ _ _ (sees_left s o os t ts s' e m) = next_left s o t s' e

-- where the end shows no token, and what was asked for isn't so behind the last octet, there are octets
module _ (ByOctet : Type 0) (Rest : Known → List ℕ → Type 0) (some : (s : Known) (os : List ℕ) → Rest s os → 0 < length os) where
  pub sees_some : (s : Known) (os : List ℕ) (ts : List Placed) → Sees ByOctet ⊥ Rest s os ts → 0 < length os
  sees_some _ _ _ (rests s os w) = some s os w
  sees_some _ _ _ (last_ends s t b bare e) = absurd b
  sees_some _ _ _ _ = omega arith

-- 2. Reasons.

-- refused for a reason, or for one with a smaller number
pub worse_less : (f : Reason) (x : Effect) → (h : Reason) × (or_worse f x ≡ fails h) × (reason_number h ≤ reason_number f)
worse_less f (fails y) = (
  lesser f y,
  refl,
  cond_both (nat_lt (reason_number y) (reason_number f)) y f (λ x. reason_number x ≤ reason_number f)
      (λ i. omega (arith, ltb-true (reason_number y) (reason_number f) i)) (λ i. omega arith),
)
worse_less f _ = (f, refl, omega arith)

none_shut : (a b : Bool) → b ≡ true → (a && not b) ≡ false
none_shut true true e = refl
none_shut false true e = refl
none_shut a false e = absurd cc

module _ (g : Catalog) (l : Limits) where
  -- at the top level no token has begun that could disturb what waits
  abbrev pub TopCalm : Known → Reading → Type 0
  TopCalm s r = is_top r.frames ≡ true → CalmNow r.now s.mode

  -- 3. What is refused for another reason.

  module _ (e : Reason) (row : HasRow e) (Done : Reading → Type 0) (Refused : Type 0) where
    -- no row has this reason
    unexpected_never : (x : Turn) (ts : List Placed) → x ≡ refuses Reason.Unexpected → Turned g l e Done Refused x ts → ⊥
    unexpected_never x ts i h = let k : IsLast g l e Done Refused ts × (Reason.Unexpected ≡ e) = subst (λ y. Turned g l e Done Refused y ts) i h in
        subst HasRow (sym k.1) row

    -- behind an element or a name no token has begun but a mark of one octet
    pub not_shut : (r : Reading) (t : Placed) (ts : List Placed) (h : Heads g l e Done Refused r (t ∷ ts)) (s : Known) → MeetsNext s t → is_sane s.mode ≡ true
        → is_idle s.mode ≡ false → shut r.now ≡ true → ⊥
    not_shut r t ts h s m sane i q =
        by (shut_said g l t.lexeme.start t.lexeme.end r.start r.context r.frames r.notes h.1 r.now q)
      where
        by : (ClosingSaid g l h.1) ⊎ (turn g l r (token_of t.lexeme h.1) ≡ refuses Reason.Unexpected) → ⊥
        by (inl k) =
            let body = subst (λ x. IsBody t.lexeme.kind t.lexeme.octets (Ok x)) k.1 (said_body t.lexeme.kind t.lexeme.octets h.1 h.2) in
            let n : true ≡ false = sym k.2 ∙ (ap is_closing (sym (mark_kind t.lexeme.kind t.lexeme.octets k.0 body)) ∙ begun_closing s t m sane i) in
            cc
        by (inr n) = unexpected_never (turn g l r (token_of t.lexeme h.1)) ts n (h.3 (inr (shut_still g l r q)))

    shut_quiet : (r : Reading) (t : Placed) (ts : List Placed) → Heads g l e Done Refused r (t ∷ ts) → (s : Known) → MeetsNext s t → is_sane s.mode ≡ true
        → (shut r.now && not (is_idle s.mode)) ≡ false
    shut_quiet r t ts h s m sane = go (shut r.now) refl (is_idle s.mode) refl
      where
        go : (a : Bool) → shut r.now ≡ a → (b : Bool) → is_idle s.mode ≡ b → (a && not b) ≡ false
        go true i false k = absurd (not_shut r t ts h s m sane k i)
        go _ i _ k = refl

  -- 4. Octets.

  -- What is asked of the end, of which all octets are so many: that an item became too long, that the last token was refused for the reason,
  -- and what the end or the rest of the octets comes to.
  module _ (e : Reason) (row : HasRow e) (Done : Reading → Type 0) (Refused ByOctet ByEnd : Type 0) (Rest : Known → List ℕ → Type 0) (total : ℕ)
      (Good : Result State Refusal → Type 0)
      (long : (to : ℕ) (s : Known) (os : List ℕ) (ts : List Placed) → Sees ByOctet ByEnd Rest s os ts → to + length os ≡ total
      → Good (Err (record { offset = to; reason = Reason.ItemTooLong })))
      (last : ByOctet → (f : Reason) → reason_number f ≤ reason_number e → Good (Err (record { offset = total; reason = f })))
      (none : ByOctet → (r : Reading) → Done r → ⊥) (apart : Refused → (s : Known) (os : List ℕ) → Rest s os → ⊥)
      (word : ByEnd → (s : Known) (t : Placed) (r : Reading) → IsBare t.lexeme.kind → at_end t.place s ≡ Ok (Some t.lexeme) → s.used ≡ total
      → is_sane s.mode ≡ true → TopCalm s r → Heads g l e Done Refused r (t ∷ []) → Good (Ok (with_scan s r)))
      (rest : (to : ℕ) (s : Known) (os : List ℕ) (r : Reading) → Rest s os → to + length os ≡ total → s.used ≡ to → TopCalm s r → Done r
      → Good (run g l to (with_scan s r) os).now) where
    abbrev S : Known → List ℕ → List Placed → Type 0
    S = Sees ByOctet ByEnd Rest

    abbrev H : Reading → List Placed → Type 0
    H = Heads g l e Done Refused

    abbrev T : Turn → List Placed → Type 0
    T = Turned g l e Done Refused

    never_last : (s : Known) (os : List ℕ) (ts : List Placed) → S s os ts → IsLast g l e Done Refused ts → ⊥
    never_last _ _ _ (rests s os w) h = apart h s os w
    never_last s os (t ∷ ts) m h = h

    -- an octet that is used, or refused, and what comes of the others
    abbrev Went : ℕ → (State → Run) → Effect → Type 0
    Went to more (leaves v n) = ⊥
    Went to more (fails f) = Good (Err (record { offset = to + 1; reason = f }))
    Went to more (uses n) = Good (more n).now
    Went to more (tells v n) = Good (more n).now

    went_run : (to : ℕ) (again : State → Effect) (more : State → Run) (x : Effect) → Went to more x → Good (run_on to again more x).now
    went_run to again more (leaves v n) h = absurd h
    went_run to again more _ h = h

    went_more : (to : ℕ) (more : State → Run) (x : Effect) → Went to more x → Good (once_more to more x).now
    went_more to more (leaves v n) h = absurd h
    went_more to more _ h = h

    noticed_went : (to : ℕ) (more : State → Run) (s : Known) (r : Reading) → (shut r.now && not (is_idle s.mode)) ≡ false
        → Good (Err (record { offset = to + 1; reason = Reason.ItemTooLong })) → Good (more (with_scan s r)).now → Went to more (noticed l r s)
    noticed_went to more s r q too h =
        subst (Went to more) (sym (cond-false _ _ _ q)) (cond_both (nat_le (reaches r.frames r s) l.item) (uses (with_scan s r)) (fails Reason.ItemTooLong)
        (Went to more) (λ e. h) (λ e. too))

    -- the last token is refused for the reason, or for one with a smaller number
    refused_here : (to : ℕ) → to + 1 ≡ total → ByOctet → (f : Reason) → reason_number f ≤ reason_number e → Good (Err (record { offset = to + 1; reason = f }))
    refused_here to i b f h = subst (λ (n : ℕ). Good (Err (record { offset = n; reason = f }))) (sym i) (last b f h)

    refused_went : (to : ℕ) (more : State → Run) → to + 1 ≡ total → ByOctet → (f : Reason) → f ≡ e → Went to more (fails f)
    refused_went to more i b f h = refused_here to i b f (omega (arith, ap reason_number h))

    worse_went : (to : ℕ) (more : State → Run) → to + 1 ≡ total → ByOctet → (f : Reason) → f ≡ e → (x : Effect) → Went to more (or_worse f x)
    worse_went to more i b f h x =
        let w = worse_less f x in
        subst (Went to more) (sym w.1) (refused_here to i b w.0 (omega (arith, w.2, ap reason_number h)))

    -- where what waited is settled it may stand at the top level
    settled_ok : (k : Reading) → ((m : Mode) → is_top k.frames ≡ true → CalmNow k.now m) → TopOk g l k
    settled_ok k c h = calm_now k.now Mode.Blank (c Mode.Blank h)

    module _ (s : Known) (o to : ℕ) (more : State → Run) where
      abbrev again : State → Effect
      again = λ k. takes g l 2 k o

      -- An octet that is used, or shows the last token, by what comes of it at the scanner.
      used_run : (x : Outcome) (t : Placed) (ts : List Placed) (r : Reading) (h : H r (t ∷ ts)) → feed (place r) s o ≡ x → NotRefused x → TopOk g l r
          → (waits r x ≡ false → continues r (token_of t.lexeme h.1) ≡ false)
          → ((k : Reading) → H k (t ∷ ts) → place k ≡ place r → TopOk g l k → DirectAt g l k x → Went to more (on_scan g l again k x))
          → Good (run_on to (λ n. eats g l n o) more (eats g l (with_scan s r) o)).now
      used_run x t ts r h i told ok agrees went = go (waits r x) refl
        where
          by : (y : Turn) → settle g l r ≡ y → waits r x ≡ false → Leading g l (λ n. (place n ≡ place r) × (is_top n.frames ≡ is_top r.frames)) y
              → Leading g l (λ n. settle g l n ≡ goes n) y → SettledCalm g l y
              → TurnsTo g l e Done Refused (λ k. T (turn g l k (token_of t.lexeme h.1)) ts) ⊥ y
              → Good (run_on to (λ n. eats g l n o) more (eats g l (with_scan s r) o)).now
          by (goes k) f w a b c d =
              subst (λ y. Good (run_on to (λ n. eats g l n o) more y).now) (sym (eats_settled g l s o r x (goes k) i told w f))
              (went_run to (λ n. eats g l n o) more (on_scan g l again k x)
              (went k (settled_heads g l e Done Refused r k t ts h a.0 b d) a.0 (settled_ok k c) (inr b)))
          by (gives v k) f w a b c d =
              subst (λ y. Good (run_on to (λ n. eats g l n o) more y).now) (sym (eats_settled g l s o r x (gives v k) i told w f))
              (went_more to more (eats g l (with_scan s k) o)
              (subst (Went to more) (sym (eats_direct g l s o k x (ap (λ q. feed q s o) a.0 ∙ i) (inr b)))
              (went k (settled_heads g l e Done Refused r k t ts h a.0 b d) a.0 (settled_ok k c) (inr b))))
          by _ f w a b c d = absurd d.0

          go : (b : Bool) → waits r x ≡ b → Good (run_on to (λ n. eats g l n o) more (eats g l (with_scan s r) o)).now
          go true w =
              subst (λ y. Good (run_on to (λ n. eats g l n o) more y).now) (sym (eats_direct g l s o r x i (inl w)))
              (went_run to (λ n. eats g l n o) more (on_scan g l again r x) (went r h refl ok (inl w)))
          go false w = by (settle g l r) refl w (settle_same g l r.start r.context r.frames r.notes r.now)
              (settle_still g l r.start r.context r.frames r.notes r.now) (settle_settled g l r.start r.context r.frames r.notes r.now ok) (h.4 (agrees w))

      -- where the scanner goes on
      next_went : (s' : Known) (t : Placed) (ts : List Placed) → MeetsNext s' t → is_sane s'.mode ≡ true
          → Good (Err (record { offset = to + 1; reason = Reason.ItemTooLong }))
          → ((k : Reading) → TopCalm s' k → H k (t ∷ ts) → Good (more (with_scan s' k)).now)
          → (k : Reading) → H k (t ∷ ts) → TopOk g l k → DirectAt g l k (Next s') → Went to more (on_scan g l again k (Next s'))
      next_went s' t ts m sane too onward k h ok w = noticed_went to more s' k (shut_quiet e row Done Refused k t ts h s' m sane) too (onward k (calm w) h)
        where
          calm : DirectAt g l k (Next s') → TopCalm s' k
          calm (inl q) = λ top. waits_calm g l k.frames k.now s' ok q top
          calm (inr q) = λ top. still_calm g l k s'.mode ok q top

      -- where a token is given
      module _ (s' : Known) (t : Placed) (ts : List Placed) (two : is_two_quotes t.lexeme.kind t.lexeme.start t.lexeme.end ≡ false) (k : Reading)
          (h : H k (t ∷ ts)) (ok : TopOk g l k) (w : DirectAt g l k (Given t.lexeme s')) where
        abbrev given : Turn
        given = turn g l k (token_of t.lexeme h.1)

        direct : DirectAt g l k (Given t.lexeme s') → Direct g l k (token_of t.lexeme h.1)
        direct (inl q) = inl (sym (given_agrees k.frames k.now s' t.lexeme h.1 (said_body t.lexeme.kind t.lexeme.octets h.1 h.2) two) ∙ q)
        direct (inr q) = inr q

        by_turn : Went to more (behind_given l s' given) → Went to more (on_scan g l again k (Given t.lexeme s'))
        by_turn x = subst (Went to more) (sym (ap (λ y. on_said y (λ c. behind_given l s' (turn g l k (token_of t.lexeme c)))) h.2)) x

        given_went : is_idle s'.mode ≡ true → Good (Err (record { offset = to + 1; reason = Reason.ItemTooLong })) → (IsLast g l e Done Refused ts → ⊥)
            → ((n : Reading) → TopCalm s' n → H n ts → Good (more (with_scan s' n)).now) → Went to more (on_scan g l again k (Given t.lexeme s'))
        given_went idle too never onward =
            by_turn (by given (turn_ok g l k h.1 l.item (start_now k.now k.start t.lexeme.start k.frames k.notes) t.lexeme.end given
            (turn_spans g l k (token_of t.lexeme h.1) ok)) (h.3 (direct w)))
          where
            by : (x : Turn) → Leading g l (λ n. is_top n.frames ≡ true → IsTopNow n.now × EndedIn t.lexeme.end n.now) x → T x ts
                → Went to more (behind_given l s' x)
            by (goes n) q d = noticed_went to more s' n (none_shut (shut n.now) (is_idle s'.mode) idle) too
                (onward n (λ top. idle_calm n.now s'.mode (q top).0 idle) d)
            by (gives v n) q d = onward n (λ top. idle_calm n.now s'.mode (q top).0 idle) d
            by _ q d = absurd (never d.0)

      module _ (here : to + 1 ≡ total) (b : ByOctet) (s' : Known) (t : Placed) where
        -- where the last token is given
        last_given_went : is_two_quotes t.lexeme.kind t.lexeme.start t.lexeme.end ≡ false → (k : Reading) → H k (t ∷ []) → TopOk g l k
            → DirectAt g l k (Given t.lexeme s') → Went to more (on_scan g l again k (Given t.lexeme s'))
        last_given_went two k h ok w = by_turn s' t [] two k h ok w (by (given s' t [] two k h ok w) (h.3 (direct s' t [] two k h ok w w)))
          where
            by : (x : Turn) → T x [] → Went to more (behind_given l s' x)
            by (goes n) d = absurd (none b n d)
            by (gives v n) d = absurd (none b n d)
            by (refuses f) d = refused_went to more here b f d.1
            by (late f n) d = worse_went to more here b f d.1 (noticed l n s')

        -- where it is left
        last_left_went : (k : Reading) (h : H k (t ∷ [])) → Direct g l k (token_of t.lexeme h.1) → Went to more (on_scan g l again k (Left t.lexeme s'))
        last_left_went k h w =
            subst (Went to more) (sym (ap (λ y. on_said y (λ c. behind_left again s' (turn g l k (token_of t.lexeme c)))) h.2))
            (by (turn g l k (token_of t.lexeme h.1)) (h.3 w))
          where
            by : (x : Turn) → T x [] → Went to more (behind_left again s' x)
            by (goes n) d = absurd (none b n d)
            by (gives v n) d = absurd (none b n d)
            by (refuses f) d = refused_went to more here b f d.1
            by (late f n) d = worse_went to more here b f d.1 (again (with_scan s' n))

    -- where a token is left before the octet
    module _ (s s' : Known) (o : ℕ) (t : Placed) (sane : is_sane s.mode ≡ true) (fine : Fine s) (exactly : Exact s) (ops : Operators (t ∷ [])) where
      -- the octet shows of what waits what the token does
      left_direct : (k : Reading) (ts : List Placed) (h : H k (t ∷ ts)) → feed (place k) s o ≡ Left t.lexeme s'
          → waits k (Left t.lexeme s') ≡ continues k (token_of t.lexeme h.1)
      left_direct k ts h e' =
          left_agrees k.frames k.now s' t.lexeme h.1 (said_body t.lexeme.kind t.lexeme.octets h.1 h.2) (left_colons (place k) s s' o t.lexeme sane e')
          (finely_as (place k) s o (Left t.lexeme s') fine e').1 (left_two (place k) s s' o t.lexeme fine exactly e')

      module _ (to : ℕ) (os : List ℕ) (ts : List Placed) (r : Reading) (h : H r (t ∷ ts)) (i : feed (place r) s o ≡ Left t.lexeme s') (calm : TopCalm s r)
          (never : IsLast g l e Done Refused ts → ⊥)
          (onward : (k : Reading) → TopCalm s' k → H k ts → Good (run g l to (with_scan s' k) (o ∷ os)).now) where
        abbrev Onward : Unit {0} → (Reading → Type 0) → Turn → Type 0
        Onward u P = Onto g l (Unit {0}) (λ u v w. Unit {0}) (λ u. P) u

        turned : (u : Unit {0}) (x : Turn) → T x ts → Onward u (λ n. H n ts) x
        turned u (goes n) d = d
        turned u (gives v n) d = (tt, tt, d)
        turned u _ d = absurd (never d.0)

        settled : (u : Unit {0}) (k : Reading) (d : H k (t ∷ ts)) (x : Turn)
            → Leading g l (λ n. (place n ≡ place k) × (is_top n.frames ≡ is_top k.frames)) x → Leading g l (λ n. settle g l n ≡ goes n) x
            → TurnsTo g l e Done Refused (λ n. T (turn g l n (token_of t.lexeme d.1)) ts) ⊥ x → Onward u (λ n. H n (t ∷ ts)) x
        settled u k d (goes n) a b j = settled_heads g l e Done Refused k n t ts d a.0 b j
        settled u k d (gives v n) a b j = (tt, tt, settled_heads g l e Done Refused k n t ts d a.0 b j)
        settled u k d _ a b j = absurd j.0

        left_good : Good (run g l to (with_scan s r) (o ∷ os)).now
        left_good =
            left_run g l (Unit {0}) (λ u v w. Unit {0}) t (λ u n. H n (t ∷ ts)) (λ u n. H n ts) (λ u n d. (d.0, d.1, d.2))
            (λ u n d w. turned u (turn g l n (token_of t.lexeme d.1)) (d.3 w))
            (λ u n d w. settled u n d (settle g l n) (settle_same g l n.start n.context n.frames n.notes n.now)
            (settle_still g l n.start n.context n.frames n.notes n.now) (d.4 w))
            (λ u R. Good R.now) (λ u w v to R c h. h) s s' o sane fine exactly ops.0 to os tt r i calm h (λ u n c d. onward n (λ top. (c top).0) d)

    -- Octets in which the scanner meets such tokens lead there.
    pub reached : (s : Known) (os : List ℕ) (ts : List Placed) → S s os ts → is_sane s.mode ≡ true → Fine s → Exact s → Operators ts → (to : ℕ)
        → to + length os ≡ total → s.used ≡ to → (r : Reading) → TopCalm s r → H r ts → Good (run g l to (with_scan s r) os).now
    reached _ _ _ (rests s os w) sane fine ex ops to all at r calm h = rest to s os r w all at calm h
    reached _ _ _ (last_ends s t b bare i) sane fine ex ops to all at r calm h = word b s t r bare i (omega (arith, all, at)) sane calm h
    reached _ _ _ (last_given s o t s' b i) sane fine ex ops to all at r calm h =
        let here = λ (k : Reading) (d : H k (t ∷ [])). ap (λ p. feed p s o) (sym d.0) ∙ i in
        let f = finely_as (place r) s o (Given t.lexeme s') fine (here r h) in
        let two = given_far t.lexeme f.1 in
        used_run s o to (λ n. run g l (to + 1) n []) (Given t.lexeme s') t [] r h (here r h) tt (λ top. calm_now r.now s.mode (calm top))
        (λ w. sym (given_agrees r.frames r.now s' t.lexeme h.1 (said_body t.lexeme.kind t.lexeme.octets h.1 h.2) two) ∙ w)
        (λ k d q ok w. last_given_went s o to (λ n. run g l (to + 1) n []) (omega (arith, all)) b s' t two k d ok w)
    reached _ _ _ (last_left s o t s' b i) sane fine ex ops to all at r calm h =
        let here = λ (k : Reading) (d : H k (t ∷ [])). ap (λ p. feed p s o) (sym d.0) ∙ i in
        let agree = λ (k : Reading) (d : H k (t ∷ [])). left_direct s s' o t sane fine ex ops k [] d (here k d) in
        used_run s o to (λ n. run g l (to + 1) n []) (Left t.lexeme s') t [] r h (here r h) tt (λ top. calm_now r.now s.mode (calm top))
        (λ w. sym (agree r h) ∙ w)
        (λ k d q ok w. last_left_went s o to (λ n. run g l (to + 1) n []) (omega (arith, all)) b s' t k d (direct_left k d (agree k d) w))
      where
        direct_left : (k : Reading) (d : H k (t ∷ [])) → waits k (Left t.lexeme s') ≡ continues k (token_of t.lexeme d.1) → DirectAt g l k (Left t.lexeme s')
            → Direct g l k (token_of t.lexeme d.1)
        direct_left k d a (inl q) = inl (sym a ∙ q)
        direct_left k d a (inr q) = inr q
    reached _ _ _ (sees_on s o os t ts s' i m) sane fine ex ops to all at r calm h =
        let here : feed (place r) s o ≡ Next s' = ap (λ q. feed q s o) (sym h.0) ∙ i in
        let a = follows_as (place r) s o (Next s') sane here in
        let f = finely_as (place r) s o (Next s') fine here in
        let met = sees_next ByOctet ByEnd Rest s' os t ts m in
        let used = feed_used (place r) s s' o here in
        let rest' : to + 1 + length os ≡ total = omega (arith, all) in
        used_run s o to (λ n. run g l (to + 1) n os) (Next s') t ts r h here tt (λ top. calm_now r.now s.mode (calm top))
        (λ w. next_agrees r.frames r.now s' t h.1 met a.0 f (said_body t.lexeme.kind t.lexeme.octets h.1 h.2) w)
        (λ k d q ok w. next_went s o to (λ n. run g l (to + 1) n os) s' t ts met a.0 (long (to + 1) s' os (t ∷ ts) m rest')
        (λ n c d. reached s' os (t ∷ ts) m a.0 f (exactly_as g l (place r) s o (Next s') ex here) ops (to + 1) rest' (omega (arith, used, at)) n c d) k d ok w)
    reached _ _ _ (sees_given s o os t ts s' i m) sane fine ex ops to all at r calm h =
        let here : feed (place r) s o ≡ Given t.lexeme s' = ap (λ q. feed q s o) (sym h.0) ∙ i in
        let f = finely_as (place r) s o (Given t.lexeme s') fine here in
        let two = given_far t.lexeme f.1 in
        let used = given_one (place r) o s s' t.lexeme here in
        let rest' : to + 1 + length os ≡ total = omega (arith, all) in
        used_run s o to (λ n. run g l (to + 1) n os) (Given t.lexeme s') t ts r h here tt (λ top. calm_now r.now s.mode (calm top))
        (λ w. sym (given_agrees r.frames r.now s' t.lexeme h.1 (said_body t.lexeme.kind t.lexeme.octets h.1 h.2) two) ∙ w)
        (λ k d q ok w. given_went s o to (λ n. run g l (to + 1) n os) s' t ts two k d ok w f.3 (long (to + 1) s' os ts m rest') (never_last s' os ts m)
        (λ n c d. reached s' os ts m f.2 f.0 (exactly_as g l (place r) s o (Given t.lexeme s') ex here) ops.1 (to + 1) rest' (omega (arith, used, at)) n c d))
    reached _ _ _ (sees_left s o os t ts s' i m) sane fine ex ops to all at r calm h =
        let here : feed (place r) s o ≡ Left t.lexeme s' = ap (λ q. feed q s o) (sym h.0) ∙ i in
        let f = finely_as (place r) s o (Left t.lexeme s') fine here in
        let used = left_one (place r) o s s' t.lexeme here in
        left_good s s' o t sane fine ex (ops.0, tt) to os ts r h here calm (never_last s' (o ∷ os) ts m)
        (λ n c d. reached s' (o ∷ os) ts m f.3 f.0 (exactly_as g l (place r) s o (Left t.lexeme s') ex here) ops.1 to all (omega (arith, used, at)) n c d)
