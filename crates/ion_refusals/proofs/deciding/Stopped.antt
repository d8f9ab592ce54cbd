-- Where a row of the table stands, the octet that shows it is refused, for the row's reason or one with a smaller number, unless an item
-- became too long before.
use Rattle.std.proofs.Common.{◌≡◌, ℕ, ◌+◌, ◌<◌, ◌≤◌, nat_le, Bool, true, false, ◌||◌, List, [], ◌∷◌, ◌++◌, length, Result, Err, IfErr, refl, sym, ap, ◌∙◌, subst, append_assoc, append-nil, length-append, arith, if◌then◌else◌, ◌⊎◌, inl, inr, codes}
use Rattle.std.proofs.lemmas.Bool.{cond_both, false_from_ne_true}
use Rattle.ion_refusals.specs.Names.{Are, BlankThen, Catalog, Decides, Effect, Given, HasRow, IsIdReason, IsTableReason, Known, Left, LexesTo, Limits, Mark, Mode, Next, NoColons, Outcome, Place, Placed, Reading, Reason, Refusal, Refused, Sight, State, TokenKind, Turn, annotated, bad_table, begun, eats, fails, feed, follow, initial, is_idle, is_sane, late, no_symbol, noticed, null_table, on_scan, on_settled, reaches, reads, reason_number, refuses, run, run_on, scan, settle, symbol_waits, takes, uses, with_scan}
use Rattle.ion_model.specs.declared.value.Payload.TheVariants as payloads
use Rattle.ion_tokens.proofs.complete.Moves.{at}
use Rattle.ion_tokens.proofs.complete.Wholes.{run_behind}
use Rattle.ion_tokens.proofs.sound.Holds.{Holds, Sound, blank_behind}
use Rattle.ion_tokens.proofs.sound.Sounds.{RunSound, feed_sound, run_sound}
use Rattle.ion_symtab.specs.laws.Reasons.{next_fails, resolve_fails}
use Rattle.ion_refusals.specs.Deciding.{Gives}
use Rattle.ion_refusals.proofs.deciding.AtEnd.{last_ends}
use Rattle.ion_refusals.proofs.deciding.Finding.{EndsThere, IsLeft, ends_there, tokens_seen}
use Rattle.ion_refusals.proofs.deciding.Fronts.{HasEnded, origin}
use Rattle.ion_refusals.proofs.deciding.Heading.{Never, refused_heads, waiting_heads}
use Rattle.ion_refusals.proofs.deciding.OneOctet.{Seen, behind_kind, refused, seen, unfollowed, waited_ended}
use Rattle.ion_refusals.proofs.deciding.Reaching.{Sees, last_given, last_left, reached, rests, sees_given, sees_left, sees_some, worse_less}
use Rattle.ion_refusals.proofs.deciding.Shows.{IsBare, last_flag}
use Rattle.ion_refusals.proofs.deciding.Tokens.{Refusing, Stops}
use Rattle.ion_refusals.proofs.deciding.Waiting.{Pends, pend}
use Rattle.ion_text.specs.laws.reading.complete.Found.{lexes_operators, no_more, run_sane}
use Rattle.ion_text.specs.laws.reading.complete.Meets.{follows_as}
use Rattle.ion_text.specs.laws.showing.refused.Ahead.{last_parted, octet_colons}
use Rattle.ion_text.specs.laws.showing.refused.Halts.{symbol_colons}
use Rattle.ion_text.specs.laws.showing.refused.Told.{given_colons}
use Rattle.ion_text.specs.laws.showing.tokens.Closing.{colons_close}

-- 1. The reasons of rows.

id_row : (e : Reason) → IsIdReason e → HasRow e
id_row Reason.SymbolRange h = tt
id_row Reason.ImportGap h = tt
id_row _ h = absurd h

table_row : (e : Reason) → IsTableReason e → HasRow e
table_row Reason.NullTable h = tt
table_row Reason.RepeatedField h = tt
table_row Reason.MissingImport h = tt
table_row Reason.TableTooLarge h = tt
table_row _ h = absurd h

-- a row's reason is one that rows have
pub has_row : (g : Catalog) (l : Limits) (sight : Sight) (e : Reason) → Gives g l sight e → HasRow e
has_row g l sight _ (no_symbol ts c ks id e shown h why) = id_row e (subst (λ r. IfErr r IsIdReason) why (resolve_fails c id))
has_row g l sight _ (null_table ts c ss k e shown h table why) =
    table_row e (subst (λ r. IfErr r IsTableReason) why (next_fails c (annotated ss (payloads.Null k)) g))
has_row g l sight _ (bad_table ts c ss ms e shown h table why) =
    table_row e (subst (λ r. IfErr r IsTableReason) why (next_fails c (annotated ss (payloads.Fields ms)) g))
has_row g l sight _ _ = tt

-- 2. What comes of so many octets, of which the last one shows a row of this reason.

-- an item became too long before, or the last of them is refused for the reason, or for one with a smaller number
abbrev pub StopsFor : ℕ → Reason → Refusal → Type 0
StopsFor total e r = ((r.reason ≡ Reason.ItemTooLong) × (r.offset < total)) ⊎ ((r.offset ≡ total) × (reason_number r.reason ≤ reason_number e))

abbrev pub Stopped : ℕ → Reason → Result State Refusal → Type 0
Stopped total e now = (r : Refusal) × (now ≡ Err r) × StopsFor total e r

-- nothing is left
abbrev pub Nothing' : Known → List ℕ → Type 0
Nothing' s os = ⊥

zero_behind : (k : TokenKind) → (IsBare k → ⊥) → behind_kind k ≡ 0
zero_behind TokenKind.Word n = absurd (n tt)
zero_behind TokenKind.KindName n = absurd (n tt)
zero_behind (TokenKind.Mark Mark.FieldsOpen) n = absurd (n tt)
zero_behind _ n = refl

behind_most : (k : TokenKind) → behind_kind k ≤ 1
behind_most (TokenKind.Mark Mark.FieldsOpen) = omega arith
behind_most _ = omega arith

too_long : (total to : ℕ) (e : Reason) → to < total → Stopped total e (Err (record { offset = to; reason = Reason.ItemTooLong }))
too_long total to e h = (record { offset = to; reason = Reason.ItemTooLong }, refl, inl (refl, h))

-- 3. Rows whose last token is refused.

module _ (g : Catalog) (l : Limits) (u : List ℕ) (e : Reason) (row : HasRow e) where
  refused_stopped : (ts : List Placed) (t : Placed) (left : List ℕ) → (s : Stops g l ts t e) → Are u (s.front ++ t ∷ []) left → HasEnded g l u t
      → length left ≡ behind_kind t.lexeme.kind → Stopped (length u) e (run g l 0 begun u).now
  refused_stopped ts t left s (c, i, lexes) ended size =
      reached g l e row (Never g l e) (Unit {0}) (Unit {0}) ⊥ Nothing' (length u) (Stopped (length u) e)
      (λ to k os us m all. too_long (length u) to e (omega (arith, all, sees_some (Unit {0}) Nothing' (λ s os w. absurd w) k os us m)))
      (λ b f h. (record { offset = length u; reason = f }, refl, inr (refl, h))) (λ b r d. d) (λ h k os w. w) (λ b k x r bare a used sane calm d. absurd b)
      (λ to k os r w all used calm d. absurd w) initial u (s.front ++ t ∷ [])
      (tokens_seen g l u t ended c i left (Unit {0}) ⊥ Nothing' given leaves s.front lexes) refl (record { enough = omega arith }) (record { is = tt })
      (lexes_operators (λ x y z. (x ≡ c) × (y ≡ i) × (z ≡ left)) (s.front ++ t ∷ []) false 0 u lexes) 0 (omega arith) refl (origin g l) (λ top. tt)
      (refused_heads g l e s.front t s.came s.why)
    where
      given : (k : Known) (o : ℕ) (n : Known) (rest : List ℕ) → feed t.place k o ≡ Given t.lexeme n → IsLeft c i left n rest
          → Sees (Unit {0}) ⊥ Nothing' k (o ∷ rest) (t ∷ [])
      given k o n rest f w =
          let none : rest ≡ [] = no_more rest (omega (
            arith,
            ap length w.cut,
            length-append w.ahead rest,
            size,
            zero_behind t.lexeme.kind (subst EndsThere f (ends_there t.place k o)).0,
          )) in
          subst (λ y. Sees (Unit {0}) ⊥ Nothing' k (o ∷ y) (t ∷ [])) (sym none) (last_given k o t n tt f)

      leaves : (k : Known) (o : ℕ) (n : Known) (rest : List ℕ) → feed t.place k o ≡ Left t.lexeme n → IsLeft c i left n (o ∷ rest)
          → Sees (Unit {0}) ⊥ Nothing' k (o ∷ rest) (t ∷ [])
      leaves k o n rest f w =
          let none : rest ≡ [] =
          no_more rest (omega (arith, ap length w.cut, length-append w.ahead (o ∷ rest), size, behind_most t.lexeme.kind)) in
          subst (λ y. Sees (Unit {0}) ⊥ Nothing' k (o ∷ y) (t ∷ [])) (sym none) (last_left k o t n tt f)

-- 4. Rows whose last token waits for `::`, which doesn't follow.

-- in these octets `::` may follow up to the last one, which shows that it doesn't
data Unfollowed : Known → List ℕ → Type 0 where
  shows : (s : Known) (o : ℕ) → symbol_waits (feed Place.Top s o) ≡ false → Unfollowed s (o ∷ [])
  may : (s : Known) (o : ℕ) (os : List ℕ) (s' : Known) → feed Place.Top s o ≡ Next s' → is_idle s'.mode ≡ true → Unfollowed s' os → Unfollowed s (o ∷ os)

unfollowed_some : (s : Known) (os : List ℕ) → Unfollowed s os → 0 < length os
unfollowed_some _ _ (shows s o w) = omega arith
unfollowed_some _ _ (may s o os s' f i m) = omega arith

-- the scanner has come to this over octets behind a token at the top level that may be a symbol, and that ended there
pub record Stands (k : ℕ) (s : Known) (since : List ℕ) : Type 0 where
  pub holds : Holds Place.Top true k s since
  pub ran : scan Place.Top since (at Mode.Blank [] true k k) ≡ Next s
  pub sane : is_sane s.mode ≡ true

pub stands_left : (colon : Bool) (k : ℕ) (octets : List ℕ) (s : Known) (rest : List ℕ) → colon ≡ true → (w : IsLeft colon k octets s rest)
    → Stands k s w.ahead
stands_left colon k octets s rest flag w = record {
  holds = subst (λ x. RunSound Place.Top true k [] w.ahead x) ran
      (run_sound Place.Top true k w.ahead [] (at Mode.Blank [] true k k) (blank_behind Place.Top true k));
  ran = ran;
  sane = run_sane Place.Top w.ahead (at Mode.Blank [] true k k) s refl ran;
}
  where
    ran : scan Place.Top w.ahead (at Mode.Blank [] true k k) ≡ Next s
    ran = subst (λ c. scan Place.Top w.ahead (at Mode.Blank [] c k k) ≡ Next s) flag (w.reached Place.Top)

pub stands_on : (k : ℕ) (s : Known) (since : List ℕ) (x : ℕ) (t : Known) → Stands k s since → feed Place.Top s x ≡ Next t → Stands k t (since ++ x ∷ [])
stands_on k s since x t h f = record {
  holds = subst (λ y. Sound Place.Top true k since x y) f (feed_sound Place.Top true k s since x h.holds);
  ran = run_behind Place.Top since (x ∷ []) (at Mode.Blank [] true k k) s h.ran ∙ ap (λ y. follow y (λ m. Next m)) f;
  sane = (follows_as Place.Top s x (Next t) h.sane f).0;
}

-- an octet is used, and no token has begun behind it, where `::` may follow it, and doesn't
pub waits_on : (k : ℕ) (s : Known) (since : List ℕ) (x : ℕ) (ys zs : List ℕ) → Stands k s since → BlankThen (codes "::") (since ++ x ∷ zs)
    → (BlankThen (codes "::") (since ++ x ∷ ys) → ⊥) → (t : Known) × (feed Place.Top s x ≡ Next t) × (is_idle t.mode ≡ true)
waits_on k s since x ys zs h before none = go (feed Place.Top s x) refl
  where
    waits : symbol_waits (feed Place.Top s x) ≡ false → ⊥
    waits w = octet_colons Place.Top k since s x h.sane h.ran (symbol_colons (feed Place.Top s x) w) zs before

    go : (y : Outcome) → feed Place.Top s x ≡ y → (t : Known) × (feed Place.Top s x ≡ Next t) × (is_idle t.mode ≡ true)
    go (Next t) f = idle (is_idle t.mode) refl
      where
        idle : (b : Bool) → is_idle t.mode ≡ b → (n : Known) × (feed Place.Top s x ≡ Next n) × (is_idle n.mode ≡ true)
        idle true i = (t, f, i)
        idle false i = absurd (waits (ap symbol_waits f ∙ i))
    go (Given y t) f = told (symbol_waits (Given y t)) refl
      where
        told : (b : Bool) → symbol_waits (Given y t) ≡ b → (n : Known) × (feed Place.Top s x ≡ Next n) × (is_idle n.mode ≡ true)
        told true i = absurd (none ((given_colons Place.Top true k s since x h.holds y t f i).1 ys))
        told false i = absurd (waits (ap symbol_waits f ∙ i))
    go (Left y t) f = absurd (waits (ap symbol_waits f))
    go (Refused n y) f = absurd (waits (ap symbol_waits f))

module _ (u : List ℕ) (ts : List Placed) (none : NoColons u ts) (k : ℕ) where
  open_octets : (ys since : List ℕ) (s : Known) → none.rest ++ none.o ∷ [] ≡ since ++ ys → (ys ≡ [] → ⊥) → Stands k s since → Unfollowed s ys
  open_octets [] since s cut some h = absurd (some refl)
  open_octets (x ∷ ys) since s cut some h =
      by (last_parted none.rest none.o since (x ∷ ys) cut)
      (λ t f w. open_octets ys (since ++ x ∷ []) t (cut ∙ sym (append_assoc since (x ∷ []) ys)) w (stands_on k s since x t h f))
    where
      never : (more : List ℕ) → BlankThen (codes "::") ((since ++ x ∷ ys) ++ more) → ⊥
      never more b = none.after more (subst (BlankThen (codes "::")) (ap (λ y. y ++ more) (sym cut) ∙ append_assoc none.rest (none.o ∷ []) more) b)

      -- `::` doesn't end with the octet
      given : (y : _) (t : Known) → feed Place.Top s x ≡ Given y t → symbol_waits (Given y t) ≡ true → ⊥
      given y t f c = never [] (subst (BlankThen (codes "::")) (sym (append-nil (since ++ x ∷ ys)))
          ((given_colons Place.Top true k s since x h.holds y t f c).1 ys))

      by : ((x ∷ ys ≡ []) × (since ≡ none.rest ++ none.o ∷ [])) ⊎ ((front : List ℕ) × (x ∷ ys ≡ front ++ none.o ∷ []) × (none.rest ≡ since ++ front))
          → ((t : Known) → feed Place.Top s x ≡ Next t → (ys ≡ [] → ⊥) → Unfollowed t ys) → Unfollowed s (x ∷ ys)
      by (inl (e, f)) more = absurd cc
      by (inr ([], e, f)) more =
          let only : ys ≡ [] = cc in
          subst (λ y. Unfollowed s (x ∷ y)) (sym only) (shows s x (go (feed Place.Top s x) refl only))
        where
          go : (y : Outcome) → feed Place.Top s x ≡ y → ys ≡ [] → symbol_waits y ≡ false
          go (Next t) f only = false_from_ne_true (is_idle t.mode) (λ i.
              let here = subst (λ y. Sound Place.Top true k since x y) f (feed_sound Place.Top true k s since x h.holds) in
              let close = colons_close k t.kept t.start t.used (since ++ x ∷ []) t.mode i here.mode in
              never close.octets (subst (λ y. BlankThen (codes "::") ((since ++ x ∷ y) ++ close.octets)) (sym only) close.shows))
          go (Given y t) f only = false_from_ne_true (symbol_waits (Given y t)) (given y t f)
          go (Left y t) f only = refl
          go (Refused n y) f only = refl
      by (inr (z ∷ zs, e, f)) more = may s x ys on.0 on.1 on.2 (more on.0 on.1 some')
        where
          others : ys ≡ zs ++ none.o ∷ []
          others = cc

          same : none.rest ++ none.before.0 ≡ since ++ x ∷ (zs ++ none.before.0)
          same = let first : x ≡ z = cc in ap (λ y. y ++ none.before.0) f
              ∙ (append_assoc since (z ∷ zs) none.before.0 ∙ ap (λ y. since ++ y ∷ (zs ++ none.before.0)) (sym first))

          some' : ys ≡ [] → ⊥
          some' n = omega (arith, ap length (sym others ∙ n), length-append zs (none.o ∷ []))

          on : (t : Known) × (feed Place.Top s x ≡ Next t) × (is_idle t.mode ≡ true)
          on = waits_on k s since x ys (zs ++ none.before.0) h (subst (BlankThen (codes "::")) same none.before.1)
              (λ b. never [] (subst (BlankThen (codes "::")) (sym (append-nil (since ++ x ∷ ys))) b))

-- an octet behind what waits is used
pub waits_uses : (g : Catalog) (l : Limits) (ts : List Placed) (e : Reason) (p : Pends g l ts e) (s : Known) (o : ℕ) (s' : Known)
    → feed Place.Top s o ≡ Next s' → is_idle s'.mode ≡ true → eats g l (with_scan s (pend g l ts e p)) o ≡ noticed l (pend g l ts e p) s'
waits_uses g l ts e p s o s' f i =
    let P = pend g l ts e p in
    let again = λ (k : State). takes g l 2 k o in
    ap (λ y. if symbol_waits y || false then on_scan g l again P y else on_settled g l again s y (settle g l P)) f
    ∙ ap (λ b. if b || false then noticed l P s' else on_settled g l again s (Next s') (settle g l P)) i

module _ (g : Catalog) (l : Limits) (u : List ℕ) (e : Reason) (row : HasRow e) (ts : List Placed) (p : Pends g l ts e) (none : NoColons u ts) where
  abbrev P : Reading
  P = pend g l ts e p

  lexes : LexesTo false 0 u (p.front ++ p.token ∷ []) none.are.0 none.are.1 (none.rest ++ none.o ∷ [])
  lexes = subst (λ y. LexesTo false 0 u y none.are.0 none.are.1 (none.rest ++ none.o ∷ [])) p.is none.are.2

  flag : none.are.0 ≡ true
  flag = sym (last_flag p.front p.token false 0 u none.are.0 none.are.1 (none.rest ++ none.o ∷ []) lexes) ∙ p.colon

  from : (s : Known) (rest : List ℕ) → IsLeft none.are.0 none.are.1 (none.rest ++ none.o ∷ []) s rest → (rest ≡ [] → ⊥) → Unfollowed s rest
  from s rest w some = open_octets u ts none none.are.1 rest w.ahead s w.cut some
      (stands_left none.are.0 none.are.1 (none.rest ++ none.o ∷ []) s rest flag w)

  given : (k : Known) (o : ℕ) (n : Known) (rest : List ℕ) → feed p.token.place k o ≡ Given p.token.lexeme n
      → IsLeft none.are.0 none.are.1 (none.rest ++ none.o ∷ []) n rest → Sees ⊥ ⊥ Unfollowed k (o ∷ rest) (p.token ∷ [])
  given k o n rest f w = sees_given k o rest p.token [] n f (rests n rest (from n rest w some))
    where
      holds : Holds Place.Top none.are.0 none.are.1 n w.ahead
      holds = subst (λ x. RunSound Place.Top none.are.0 none.are.1 [] w.ahead x) (w.reached Place.Top)
          (run_sound Place.Top none.are.0 none.are.1 w.ahead [] (at Mode.Blank [] none.are.0 none.are.1 none.are.1)
          (blank_behind Place.Top none.are.0 none.are.1))

      some : rest ≡ [] → ⊥
      some z = omega (
        arith,
        holds.used,
        (subst EndsThere f (ends_there p.token.place k o)).1,
        last_ends p.front p.token false 0 u none.are.0 none.are.1 (none.rest ++ none.o ∷ []) lexes,
        ap length w.cut,
        ap length z,
        length-append w.ahead rest,
        length-append none.rest (none.o ∷ []),
      )

  leaves : (k : Known) (o : ℕ) (n : Known) (rest : List ℕ) → feed p.token.place k o ≡ Left p.token.lexeme n
      → IsLeft none.are.0 none.are.1 (none.rest ++ none.o ∷ []) n (o ∷ rest) → Sees ⊥ ⊥ Unfollowed k (o ∷ rest) (p.token ∷ [])
  leaves k o n rest f w = sees_left k o rest p.token [] n f (rests n (o ∷ rest) (from n (o ∷ rest) w (λ z. cc)))

  -- what waits is refused where the octet shows that nothing follows
  settled_fails : (again : State → Effect) (s : Known) (x : Outcome) (y : Turn) → Refusing e y → (f : Reason) × (on_settled g l again s x y ≡ fails f)
      × (reason_number f ≤ reason_number e)
  settled_fails again s x (refuses f) h = (f, refl, omega (arith, ap reason_number h))
  settled_fails again s x (late f k) h = let w = worse_less f (on_scan g l again k x) in (w.0, w.1, omega (arith, w.2, ap reason_number h))
  settled_fails again s x _ h = absurd h

  rest_stopped : (s : Known) (os : List ℕ) → Unfollowed s os → (to : ℕ) → to + length os ≡ length u
      → Stopped (length u) e (run g l to (with_scan s P) os).now
  rest_stopped _ _ (shows s o w) to all =
      let again = λ (k : State). takes g l 2 k o in
      let x = feed Place.Top s o in
      let q = settled_fails again s x (settle g l P) p.why in
      let eff : eats g l (with_scan s P) o ≡ fails q.0 =
      ap (λ b. if b || false then on_scan g l again P x else on_settled g l again s x (settle g l P)) w ∙ q.1 in
      subst (λ y. Stopped (length u) e (run_on to (λ n. eats g l n o) (λ n. run g l (to + 1) n []) y).now) (sym eff)
      (record { offset = to + 1; reason = q.0 }, refl, inr (omega (arith, all), q.2))
  rest_stopped _ _ (may s o os s' f i m) to all =
      subst (λ y. Stopped (length u) e (run_on to (λ n. eats g l n o) (λ n. run g l (to + 1) n os) y).now) (sym (waits_uses g l ts e p s o s' f i))
      (cond_both (nat_le (reaches P.frames P s') l.item) (uses (with_scan s' P)) (fails Reason.ItemTooLong)
      (λ x. Stopped (length u) e (run_on to (λ n. eats g l n o) (λ n. run g l (to + 1) n os) x).now)
      (λ k. rest_stopped s' os m (to + 1) (omega (arith, all))) (λ k. too_long (length u) (to + 1) e (omega (arith, all, unfollowed_some s' os m))))

  unfollowed_stopped : Stopped (length u) e (run g l 0 begun u).now
  unfollowed_stopped =
      reached g l e row (λ k. k ≡ P) ⊥ ⊥ ⊥ Unfollowed (length u) (Stopped (length u) e)
      (λ to k os us m all. too_long (length u) to e (omega (arith, all, sees_some ⊥ Unfollowed unfollowed_some k os us m))) (λ b f h. absurd b) (λ b r d. absurd b)
      (λ h k os w. absurd h) (λ b k x r bare a used sane calm d. absurd b)
      (λ to k os r w all used calm d. subst (λ x. Stopped (length u) e (run g l to (with_scan k x) os).now) (sym d) (rest_stopped k os w to all))
      initial u (p.front ++ p.token ∷ [])
      (tokens_seen g l u p.token (waited_ended g l u [] ts e p none) none.are.0 none.are.1 (none.rest ++ none.o ∷ []) ⊥ ⊥ Unfollowed given leaves p.front
      lexes)
      refl (record { enough = omega arith }) (record { is = tt })
      (lexes_operators (λ x y z. (x ≡ none.are.0) × (y ≡ none.are.1) × (z ≡ none.rest ++ none.o ∷ [])) (p.front ++ p.token ∷ []) false 0 u lexes)
      0 (omega arith) refl (origin g l) (λ top. tt)
      (waiting_heads g l e (p.front ++ p.token ∷ []) P p.values (ap (reads g l (origin g l)) (sym p.is) ∙ p.read))

-- Where a row stands that the last of the octets shows, that octet is refused for its reason, or for one with a smaller number, unless an item
-- became too long before.
pub row_stopped : (g : Catalog) (l : Limits) (u : List ℕ) (e : Reason) → Decides g l u e → Stopped (length u) e (run g l 0 begun u).now
row_stopped g l u e d = by (seen g l u e d)
  where
    by : Seen g l u e → Stopped (length u) e (run g l 0 begun u).now
    by (refused ts t left s are ended size) = refused_stopped g l u e (has_row g l _ e d) ts t left s are ended size
    by (unfollowed ts p none) = unfollowed_stopped g l u e (has_row g l _ e d) ts p none
