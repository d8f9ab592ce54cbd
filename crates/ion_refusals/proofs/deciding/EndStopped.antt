-- Where a row of the table stands that the end shows, the end refuses for the row's reason, unless an item became too long before.
use Rattle.std.proofs.Common.{◌≡◌, ℕ, ◌+◌, nat_le, Bool, true, false, ◌||◌, List, [], ◌∷◌, ◌++◌, length, Result, Ok, Err, Option, Some, None, IfErr, refl, sym, ap, ◌∙◌, subst, append_assoc, length-append, arith, ◌⊎◌, inl, inr, codes}
use Rattle.std.proofs.lemmas.Bool.{cond_both, false_from_ne_true}
use Rattle.ion_refusals.specs.Names.{Are, AwaitsColons, BlankThen, Catalog, Content, EndDecides, Given, HasRow, IsIdReason, IsTableReason, Known, Leading, Left, Lexeme, LexesTo, Limits, Mark, Next, Place, Placed, Reading, Reason, Refusal, Stage, State, TokenKind, Turn, Value, annotated, at, at_end, bad_table, begun, continues, eats, end_fails, end_late, end_now, end_ready, end_said, end_settled, end_turned, end_waiting, ends_of, fails, feed, gives, goes, initial, is_idle, is_quoting, is_sane, is_top, late, line_feed, no_symbol, null_table, place, reaches, reads, refused_of, refuses, run, run_on, said_body, settle, settle_same, settled, struct_too_deep, token_of, too_deep, trace, turn, under, uses, waits_now, with_scan}
use Rattle.ion_model.specs.declared.value.Payload.TheVariants as payloads
use Rattle.ion_tokens.proofs.runs.Runs.{feed_used}
use Rattle.ion_symtab.specs.laws.Reasons.{next_fails, resolve_fails}
use Rattle.ion_text.specs.machine.Run.{ends}
use Rattle.ion_refusals.proofs.deciding.Finding.{EndsThere, IsLeft, ends_there, tokens_seen}
use Rattle.ion_refusals.proofs.deciding.Fronts.{HasEnded, origin}
use Rattle.ion_refusals.proofs.deciding.Heading.{Heads, Never, Turned, TurnsTo, refused_heads, settled_heads, waiting_heads}
use Rattle.ion_refusals.proofs.deciding.LineEnds.{Lined, seen_before}
use Rattle.ion_refusals.proofs.deciding.Lines.{line}
use Rattle.ion_refusals.proofs.deciding.OneEnd.{SeenEnd, by_waiting, by_word, end_seen, waits_ended, word_ended}
use Rattle.ion_refusals.proofs.deciding.Reaching.{Sees, TopCalm, last_left, not_shut, reached, rests, sees_left}
use Rattle.ion_refusals.proofs.deciding.Shows.{IsBare, NoLetters, last_flag}
use Rattle.ion_refusals.proofs.deciding.Stopped.{Nothing', Stands, has_row, stands_left, stands_on, waits_on, waits_uses}
use Rattle.ion_refusals.proofs.deciding.Tokens.{Refusing, Stops, bare_plain}
use Rattle.ion_refusals.proofs.deciding.Waiting.{Pends, pend}
use Rattle.ion_text.specs.laws.reading.complete.Accepts.{fresh_top}
use Rattle.ion_text.specs.laws.reading.complete.Found.{lexes_operators, no_more}
use Rattle.ion_text.specs.laws.reading.complete.Going.{TopOk}
use Rattle.ion_text.specs.laws.reading.complete.Meets.{ends_next}
use Rattle.ion_text.specs.laws.reading.complete.Quiet.{calm_now}
use Rattle.ion_text.specs.laws.reading.complete.Tokens.{given_agrees}
use Rattle.ion_text.specs.laws.reading.sound.Admits.{KindFine, at_end_fine}
use Rattle.ion_text.specs.laws.reading.sound.Quotes.{left_none}
use Rattle.ion_text.specs.laws.reading.sound.Spans.{Spans, turn_spans}
use Rattle.ion_text.specs.laws.reading.sound.StandsOpen.{start_now}
use Rattle.ion_text.specs.laws.reading.sound.Steps.{begun_stood}
use Rattle.ion_text.specs.laws.showing.refused.Ahead.{last_parted}
use Rattle.ion_text.specs.laws.showing.tokens.Froms.{EndsWaiting, Waits, run_waits}

-- 1. The reasons of rows of the end.

-- no container is too deep for want of more octets
abbrev IsShallow : Reason → Type 0
IsShallow Reason.Depth = ⊥
IsShallow _ = Unit {0}

id_shallow : (e : Reason) → IsIdReason e → IsShallow e
id_shallow Reason.Depth h = h
id_shallow _ h = tt

table_shallow : (e : Reason) → IsTableReason e → IsShallow e
table_shallow Reason.Depth h = h
table_shallow _ h = tt

shallow : (g : Catalog) (l : Limits) (u : List ℕ) (e : Reason) → EndDecides g l u e → IsShallow e
shallow g l u _ (no_symbol ts c ks id e shown h why) = id_shallow e (subst (λ r. IfErr r IsIdReason) why (resolve_fails c id))
shallow g l u _ (null_table ts c ss k e shown h table why) =
    table_shallow e (subst (λ r. IfErr r IsTableReason) why (next_fails c (annotated ss (payloads.Null k)) g))
shallow g l u _ (too_deep ts c ks said shown h there opens deep) = absurd shown
shallow g l u _ (struct_too_deep ts c ks shown h there deep) = absurd shown
shallow g l u _ (bad_table ts c ss ms e shown h table why) = absurd shown
shallow g l u _ _ = tt

-- in these octets `::` may follow up to the end
data Awaiting : Known → List ℕ → Type 0 where
  ended : (s : Known) → Awaiting s []
  may : (s : Known) (o : ℕ) (os : List ℕ) (s' : Known) → feed Place.Top s o ≡ Next s' → is_idle s'.mode ≡ true → Awaiting s' os → Awaiting s (o ∷ os)

-- 2. What the end answers.

module _ (g : Catalog) (l : Limits) (u : List ℕ) (e : Reason) where
  -- it refuses for the reason, all octets counted
  abbrev Answers : Result (Option Value) Refusal → Type 0
  Answers x = x ≡ Err (record { offset = length u; reason = e })

  -- so it does where octets end in this state, or an item became too long before
  abbrev EndsFor : Result State Refusal → Type 0
  EndsFor (Ok m) = Waits g l m.scan m.reading.now → Answers (ends g l m)
  EndsFor (Err r) = r.reason ≡ Reason.ItemTooLong

  module _ (row : HasRow e) (fits : IsShallow e) where
    fails_so : (used : ℕ) (f : Reason) → used ≡ length u → f ≡ e → Answers (end_fails used f)
    fails_so used f i h = ap (λ n. end_fails n f) i ∙ ap (end_fails (length u)) h

    late_so : (used : ℕ) (f : Reason) → used ≡ length u → f ≡ e → Answers (end_late used f)
    late_so used Reason.Depth i h = absurd (subst IsShallow (sym h) fits)
    late_so used f i h = fails_so used f i h

    settled_so : (used : ℕ) (t : Turn) → used ≡ length u → Refusing e t → Answers (end_settled used t)
    settled_so used (refuses f) i h = fails_so used f i h
    settled_so used (late f r) i h = late_so used f i h
    settled_so used _ i h = absurd h

    -- what waits is refused, whatever is open behind it
    waiting_so : (used : ℕ) (x : Result (Option Lexeme) Reason) (t : Turn) → used ≡ length u → Refusing e t → Answers (end_waiting g l used x t)
    waiting_so used (Ok None) t i h = settled_so used t i h
    waiting_so used (Ok (Some x)) (refuses f) i h = fails_so used f i h
    waiting_so used (Ok (Some x)) (late f r) i h = late_so used f i h
    waiting_so used (Err y) (refuses f) i h = fails_so used f i h
    waiting_so used (Err y) (late f r) i h = late_so used f i h
    waiting_so used _ _ i h = absurd h

    -- 3. A word that the end ends, which is refused, or which waits and is refused then.

    module _ (Done : Reading → Type 0) (Refused : Type 0) (done : (r : Reading) → Done r → (r.now ≡ Stage.Ready → ⊥) × Refusing e (settle g l r)) where
      turned_so : (used : ℕ) (top : Bool) (c : Content) (item start end : ℕ) (x : Turn) → used ≡ length u → Spans top c item start end x
          → Turned g l e Done Refused x [] → Answers (end_turned g l used x)
      turned_so used top c item start end (goes r) i q d = settled_so used (settle g l r) i (done r d).1
      turned_so used top c item start end (gives v r) i q d = absurd ((done r d).0 (fresh_top r q.2))
      turned_so used top c item start end (refuses f) i q d = fails_so used f i d.1
      turned_so used top c item start end (late f r) i q d = late_so used f i d.1

      module _ (s : Known) (t : Placed) (r : Reading) (bare : IsBare t.lexeme.kind) (i : at_end t.place s ≡ Ok (Some t.lexeme)) (used : s.used ≡ length u)
          (sane : is_sane s.mode ≡ true) (calm : TopCalm g l s r) (h : Heads g l e Done Refused r (t ∷ [])) where
        ok : TopOk g l r
        ok top = calm_now r.now s.mode (calm top)

        busy : is_idle s.mode ≡ true → ⊥
        busy idle = by ((at_end_fine t.place s t.lexeme i).4 idle)
          where
            by : (t.lexeme.kind ≡ TokenKind.Mark Mark.Colon) ⊎ (t.lexeme.kind ≡ TokenKind.Operator) → ⊥
            by (inl k) = subst IsBare k bare
            by (inr k) = bare_plain t.lexeme.kind bare k

        unquoted : is_quoting s.mode ≡ true → ⊥
        unquoted q = subst IsBare ((at_end_fine t.place s t.lexeme i).5 q) bare

        -- it is no segment, so what a long name waited for is a colon
        no_name : (w : List ℕ) → r.now ≡ Stage.LongName w → ⊥
        no_name w n =
            not_shut g l e row Done Refused k t [] (settled_heads g l e Done Refused r k t [] h same refl
            (subst (TurnsTo g l e Done Refused (λ m. Turned g l e Done Refused (turn g l m (token_of t.lexeme h.1)) []) ⊥) leads (h.4 apart))) s (ends_next s t i)
            sane (false_from_ne_true (is_idle s.mode) busy) refl
          where
            k : Reading
            k = at r.start r.context r.frames r.notes (Stage.Keyed (Some w))

            leads : settle g l r ≡ goes k
            leads = ap (settled (under g l) r.start r.context r.frames r.notes) n

            same : place k ≡ place r
            same = (subst (Leading g l (λ m. (place m ≡ place r) × (is_top m.frames ≡ is_top r.frames))) leads
                (settle_same g l r.start r.context r.frames r.notes r.now)).0

            fine : KindFine s.mode t.lexeme.kind
            fine = at_end_fine t.place s t.lexeme i

            apart : continues r (token_of t.lexeme h.1) ≡ false
            apart =
                sym (given_agrees r.frames r.now s t.lexeme h.1 (said_body t.lexeme.kind t.lexeme.octets h.1 h.2)
                (left_none t.lexeme.kind t.lexeme.start t.lexeme.end (fine.1 (false_from_ne_true (is_quoting s.mode) unquoted))))
                ∙ (ap (λ m. waits_now (is_top r.frames) m (Given t.lexeme s)) n ∙ fine.0)

        ready_so : settle g l r ≡ goes r → Answers (end_ready g l s.used r (at_end (place r) s))
        ready_so still =
            ap (end_ready g l s.used r) (ap (λ p. at_end p s) (sym h.0) ∙ i)
            ∙ (ap (end_said g l s.used r t.lexeme) h.2
            ∙ turned_so s.used (is_top r.frames) h.1 l.item (start_now r.now r.start t.lexeme.start r.frames r.notes) t.lexeme.end
            (turn g l r (token_of t.lexeme h.1)) used (turn_spans g l r (token_of t.lexeme h.1) ok) (h.3 (inr still)))

        still : (n : Stage) → r.now ≡ n → settled (under g l) r.start r.context r.frames r.notes n ≡ goes (at r.start r.context r.frames r.notes n)
            → settle g l r ≡ goes r
        still n j k = ap (settled (under g l) r.start r.context r.frames r.notes) j ∙ (k ∙ ap (λ m. goes (at r.start r.context r.frames r.notes m)) (sym j))

        quoting : (b : Bool) → is_idle s.mode ≡ b → (b || is_quoting s.mode) ≡ true → ⊥
        quoting true j w = busy j
        quoting false j w = unquoted w

        now_so : (n : Stage) → r.now ≡ n → Waits g l s n → Answers (end_now g l s.used r (at_end (place r) s) n)
        now_so (Stage.Pending k end) j w = absurd (busy w)
        now_so (Stage.Long v end) j w = absurd (quoting (is_idle s.mode) refl w)
        now_so (Stage.LongName v) j w = absurd (no_name v j)
        now_so n j w = ready_so (still n j refl)

        word_so : EndsFor (Ok (with_scan s r))
        word_so w = now_so r.now refl w

    refused_ended : (ts : List Placed) (t : Placed) (x : Stops g l ts t e) → Are u (x.front ++ t ∷ []) [] → IsBare t.lexeme.kind → NoLetters t.lexeme
        → EndsFor (run g l 0 begun u).now
    refused_ended ts t x are bare letters =
        reached g l e row (Never g l e) (Unit {0}) ⊥ (Unit {0}) Nothing' (length u) EndsFor (λ to k os us m all. refl) (λ b f h. absurd b) (λ b r d. d)
        (λ h k os w. w)
        (λ b s k r shown i used sane calm h. word_so (Never g l e) (Unit {0}) (λ n d. absurd d) s k r shown i used sane calm h)
        (λ to k os r w all used calm d. absurd w) initial u (x.front ++ t ∷ []) seen refl (record { enough = omega arith }) (record { is = tt })
        (lexes_operators (λ c b o. (c ≡ are.0) × (b ≡ are.1) × (o ≡ [])) (x.front ++ t ∷ []) false 0 u are.2) 0 (omega arith) refl (origin g l) (λ top. tt)
        (refused_heads g l e x.front t x.came x.why)
      where
        here : (Are (u ++ line) (x.front ++ t ∷ []) line) × HasEnded g l (u ++ line) t
        here = word_ended g l u x.front t are bare

        To : Known → List ℕ → Type 0
        To = Lined Nothing' t bare letters

        given : (k : Known) (o : ℕ) (n : Known) (rest : List ℕ) → feed t.place k o ≡ Given t.lexeme n → IsLeft here.0.0 here.0.1 line n rest
            → Sees (Unit {0}) ⊥ To k (o ∷ rest) (t ∷ [])
        given k o n rest f w = absurd ((subst EndsThere f (ends_there t.place k o)).0 bare)

        leaves : (k : Known) (o : ℕ) (n : Known) (rest : List ℕ) → feed t.place k o ≡ Left t.lexeme n → IsLeft here.0.0 here.0.1 line n (o ∷ rest)
            → Sees (Unit {0}) ⊥ To k (o ∷ rest) (t ∷ [])
        leaves k o n rest f w =
            let none : rest ≡ [] = no_more rest (omega (arith, ap length w.cut, length-append w.ahead (o ∷ rest))) in
            subst (λ y. Sees (Unit {0}) ⊥ To k (o ∷ y) (t ∷ [])) (sym none) (last_left k o t n tt f)

        seen : Sees ⊥ (Unit {0}) Nothing' initial u (x.front ++ t ∷ [])
        seen = seen_before Nothing' t bare letters initial u x.front
            (tokens_seen g l (u ++ line) t here.1 here.0.0 here.0.1 line (Unit {0}) ⊥ To given leaves x.front here.0.2)

    -- 4. What waits for `::`, which may follow and doesn't.

    module _ (ts : List Placed) (p : Pends g l ts e) (a : AwaitsColons u ts) where
      abbrev P : Reading
      P = pend g l ts e p

      awaiting : (k : ℕ) (ys since : List ℕ) (s : Known) → a.rest ≡ since ++ ys → Stands k s since → Awaiting s ys
      awaiting k [] since s cut h = ended s
      awaiting k (x ∷ ys) since s cut h =
          may s x ys on.0 on.1 on.2 (awaiting k ys (since ++ x ∷ []) on.0 (cut ∙ sym (append_assoc since (x ∷ []) ys)) (stands_on k s since x on.0 h on.1))
        where
          on : (t : Known) × (feed Place.Top s x ≡ Next t) × (is_idle t.mode ≡ true)
          on = waits_on k s since x ys (ys ++ a.before.0) h
              (subst (BlankThen (codes "::")) (ap (λ y. y ++ a.before.0) cut ∙ append_assoc since (x ∷ ys) a.before.0) a.before.1)
              (λ b. a.after (subst (BlankThen (codes "::")) (sym cut) b))

      rest_ended : (s : Known) (os : List ℕ) → Awaiting s os → (to : ℕ) → to + length os ≡ length u → s.used ≡ to
          → EndsFor (run g l to (with_scan s P) os).now
      rest_ended _ _ (ended s) to all used = λ w. waiting_so s.used (at_end (place P) s) (settle g l P) (omega (arith, all, used)) p.why
      rest_ended _ _ (may s o os s' f i m) to all used =
          subst (λ y. EndsFor (run_on to (λ n. eats g l n o) (λ n. run g l (to + 1) n os) y).now) (sym (waits_uses g l ts e p s o s' f i))
          (cond_both (nat_le (reaches P.frames P s') l.item) (uses (with_scan s' P)) (fails Reason.ItemTooLong)
          (λ x. EndsFor (run_on to (λ n. eats g l n o) (λ n. run g l (to + 1) n os) x).now)
          (λ k. rest_ended s' os m (to + 1) (omega (arith, all)) (let x = feed_used Place.Top s s' o f in omega (arith, x, used))) (λ k. refl))

      waiting_ended : EndsFor (run g l 0 begun u).now
      waiting_ended =
          reached g l e row (λ k. k ≡ P) ⊥ ⊥ (Unit {0}) Awaiting (length u) EndsFor (λ to k os us m all. refl) (λ b f h. absurd b) (λ b r d. absurd b)
          (λ h k os w. absurd h)
          (λ b s k r shown i used sane calm h. word_so (λ n. n ≡ P) ⊥ waits s k r shown i used sane calm h)
          (λ to k os r w all used calm d. subst (λ x. EndsFor (run g l to (with_scan k x) os).now) (sym d) (rest_ended k os w to all used))
          initial u (p.front ++ p.token ∷ []) seen refl (record { enough = omega arith }) (record { is = tt })
          (lexes_operators (λ c b o. (c ≡ a.are.0) × (b ≡ a.are.1) × (o ≡ a.rest)) (p.front ++ p.token ∷ []) false 0 u
          (subst (λ y. LexesTo false 0 u y a.are.0 a.are.1 a.rest) p.is a.are.2)) 0 (omega arith) refl (origin g l) (λ top. tt)
          (waiting_heads g l e (p.front ++ p.token ∷ []) P p.values (ap (reads g l (origin g l)) (sym p.is) ∙ p.read))
        where
          waits : (n : Reading) → n ≡ P → (n.now ≡ Stage.Ready → ⊥) × Refusing e (settle g l n)
          waits n j = ((λ k. let no : Stage.Pending p.held p.end ≡ Stage.Ready = sym (ap (λ (x : Reading). x.now) j) ∙ k in cc), subst (λ x. Refusing e (settle g l x)) (sym j) p.why)

          here : (Are (u ++ line) (p.front ++ p.token ∷ []) (a.rest ++ line)) × HasEnded g l (u ++ line) p.token
          here = waits_ended g l u ts e p a

          flag : here.0.0 ≡ true
          flag = sym (last_flag p.front p.token false 0 (u ++ line) here.0.0 here.0.1 (a.rest ++ line) here.0.2) ∙ p.colon

          To : Known → List ℕ → Type 0
          To = Lined Awaiting p.token p.bare p.letters

          given : (k : Known) (o : ℕ) (n : Known) (rest : List ℕ) → feed p.token.place k o ≡ Given p.token.lexeme n
              → IsLeft here.0.0 here.0.1 (a.rest ++ line) n rest → Sees (Unit {0}) ⊥ To k (o ∷ rest) (p.token ∷ [])
          given k o n rest f w = absurd ((subst EndsThere f (ends_there p.token.place k o)).0 p.bare)

          leaves : (k : Known) (o : ℕ) (n : Known) (rest : List ℕ) → feed p.token.place k o ≡ Left p.token.lexeme n
              → IsLeft here.0.0 here.0.1 (a.rest ++ line) n (o ∷ rest) → Sees (Unit {0}) ⊥ To k (o ∷ rest) (p.token ∷ [])
          leaves k o n rest f w = by (last_parted a.rest line_feed w.ahead (o ∷ rest) w.cut)
            where
              by : ((o ∷ rest ≡ []) × (w.ahead ≡ a.rest ++ line)) ⊎ ((front : List ℕ) × (o ∷ rest ≡ front ++ line) × (a.rest ≡ w.ahead ++ front))
                  → Sees (Unit {0}) ⊥ To k (o ∷ rest) (p.token ∷ [])
              by (inl (i, j)) = absurd cc
              by (inr (front, i, j)) = sees_left k o rest p.token [] n f
                  (rests n (o ∷ rest) (front, i, awaiting here.0.1 front w.ahead n j (stands_left here.0.0 here.0.1 (a.rest ++ line) n (o ∷ rest) flag w)))

          seen : Sees ⊥ (Unit {0}) Awaiting initial u (p.front ++ p.token ∷ [])
          seen = seen_before Awaiting p.token p.bare p.letters initial u p.front
              (tokens_seen g l (u ++ line) p.token here.1 here.0.0 here.0.1 (a.rest ++ line) (Unit {0}) ⊥ To given leaves p.front here.0.2)

    ended_for : SeenEnd g l u e → EndsFor (run g l 0 begun u).now
    ended_for (by_word ts t s are bare letters) = refused_ended ts t s are bare letters
    ended_for (by_waiting ts p a) = waiting_ended ts p a

-- Where the end shows a row, it refuses for the row's reason, all octets counted, unless an octet was refused since an item became too long.
pub end_refuses : (g : Catalog) (l : Limits) (u : List ℕ) (e : Reason) → EndDecides g l u e → (r : Refusal) × ((trace g l u).ends ≡ Err r)
    × (((r.offset ≡ length u) × (r.reason ≡ e)) ⊎ (((trace g l u).refused ≡ Some r) × (r.reason ≡ Reason.ItemTooLong)))
end_refuses g l u e d =
    go (run g l 0 begun u).now (ended_for g l u e (has_row g l _ e d) (shallow g l u e d) (end_seen g l u e d)) (run_waits g l u [] [] 0 begun (begun_stood g l) tt)
  where
    go : (now : Result State Refusal) → EndsFor g l u e now → EndsWaiting g l now
        → (r : Refusal) × (ends_of g l now ≡ Err r) × (((r.offset ≡ length u) × (r.reason ≡ e)) ⊎ ((refused_of now ≡ Some r) × (r.reason ≡ Reason.ItemTooLong)))
    go (Ok m) h w = (record { offset = length u; reason = e }, h w, inl (refl, refl))
    go (Err r) h w = (r, refl, inr (refl, h))
