-- An octet that is refused for a reason that rows have is refused by one of them.
use Rattle.std.proofs.Common.{◌≡◌, ℕ, zero, suc, ◌+◌, nat_le, nat_lt, true, false, ◌&&◌, not, List, [], ◌∷◌, ◌++◌, length, take, Result, Ok, Err, Some, refl, sym, ap, ◌∙◌, subst, append_assoc, ◌⊎◌, inl, inr}
use Rattle.std.proofs.lemmas.Bool.{cond_both}
use Rattle.ion_refusals.specs.Names.{Catalog, Content, Continues, Decides, Effect, Frame, Given, HasRow, Held, IsBody, Known, Leading, Left, Lexeme, Limits, Mark, Mark', Next, NoColons, Outcome, Place, Placed, Reading, Reason, Refusal, Refused, Run, Scanned, Slot, Stage, State, Symbols, TokenKind, Turn, Value, at, begun, behind_given, behind_left, by_octet, eats, fails, feed, fresh, gives, goes, in_segment, is_colons, is_fresh, is_idle, is_top, late, leaves, noticed, on_now, on_octet, on_said, on_scan, on_settled, once_more, or_worse, place, plain, reaches, reason_number, refuses, run, run_on, said, said_body, said_passes, settle, settle_same, shut, takes, token_of, trace, turn, under, unsettled, waits, waits_now, with_scan}
use Rattle.ion_text.specs.machine.Ways.{SettledWay, settled_held, settled_text, settled_version, settled_way}
use Rattle.ion_tokens.proofs.runs.Scans.{placed, scanned_left}
use Rattle.ion_refusals.proofs.deciding.Lates.{GivesNoBare, LateAs, NotLate, TurnLate, late_quiet, noticed_quiet, turn_late, value_late, version_quiet}
use Rattle.ion_refusals.proofs.deciding.Shows.{BareSaid, IsBare, Shown, flag, given_bare, given_shown, left_shown, no_colons, said_bare}
use Rattle.ion_refusals.proofs.deciding.Turns.{Decided, TurnDecided, settled_decided, token_decided}
use Rattle.ion_text.specs.laws.reading.Reasons.{feed_lexical, said_lexical}
use Rattle.ion_refusals.proofs.deciding.Lexical.{lexical_none}
use Rattle.ion_text.specs.laws.reading.Stops.{behind_run, refused_run, stop_of, stop_taken}
use Rattle.ion_text.specs.laws.reading.complete.Fuel.{Leaving, UsedHere, feed_leaves}
use Rattle.ion_text.specs.laws.reading.complete.Going.{mark_kind, top_place}
use Rattle.ion_text.specs.laws.reading.complete.Meets.{finely_as}
use Rattle.ion_text.specs.laws.reading.complete.Segments.{never}
use Rattle.ion_text.specs.laws.reading.complete.Tokens.{left_colons}
use Rattle.ion_text.specs.laws.reading.sound.Held.{ApartAt, Behind, Reads, or_parts, settled_read}
use Rattle.ion_text.specs.laws.reading.sound.Quotes.{Finely}
use Rattle.ion_text.specs.laws.reading.sound.StandsOpen.{NowStands, PendingFor}
use Rattle.ion_text.specs.laws.reading.sound.Steps.{After, Stood, StoodBehind, begun_stood, eats_after, left_reads, open_at, run_ran}
use Rattle.ion_text.specs.laws.showing.refused.Halts.{left_idle}
use Rattle.ion_text.specs.laws.showing.shown.Opened.{symbol_colon}
use Rattle.ion_text.specs.laws.showing.tokens.Froms.{EndsWaiting, IsFree, Waits, fresh_parts, idle_waits, run_waits, settle_free}

-- 1. What is late of what waits is the marker of another version.

abbrev IsPending : Stage → Type 0
IsPending (Stage.Pending h end) = Unit {0}
IsPending _ = ⊥

module _ (g : Catalog) (l : Limits) where
  abbrev LateVersion : List Slot → List Frame → Stage → Reading → Type 0
  LateVersion c fs now n = (fs ≡ []) × (n ≡ fresh c) × IsPending now

  settled_late : (start : ℕ) (c : List Slot) (fs : List Frame) (ss : Symbols) (now : Stage) → TurnLate (LateVersion c fs now) (settle g l (at start c fs ss now))
  settled_late start c fs ss now = by fs now _ (settled_way g l start c fs ss now)
    where
      by : (fs : List Frame) (now : Stage) (t : Turn) → SettledWay g l start c ss fs now t → TurnLate (LateVersion c fs now) t
      by _ _ _ (settled_held fs h end q t flat way) = value_late (LateVersion c fs (Stage.Pending h end)) (under g l) _ _ fs t way
      by _ _ _ (settled_text fs w end t way) = value_late (LateVersion c fs (Stage.Long w end)) (under g l) _ _ fs t way
      by _ _ _ (settled_version h end) = (refl, refl, tt)
      by _ _ _ _ = tt

  pending_idle : (s : Known) (now : Stage) → IsPending now → Waits g l s now → is_idle s.mode ≡ true
  pending_idle s (Stage.Pending h end) i w = w
  pending_idle s _ i w = absurd i

  fresh_waits : (s : Known) (r : Reading) → is_fresh r ≡ true → Waits g l s r.now
  fresh_waits s r h = subst (Waits g l s) (sym (fresh_parts r.start r.context r.frames r.notes r.now h).2) tt

  module _ (u : List ℕ) (o : ℕ) where
    abbrev w : List ℕ
    w = u ++ o ∷ []

    -- a refusal is a row; behind a value nothing waits
    abbrev Rows : Effect → Type 0
    Rows (fails e) = Decided g l (by_octet w) e
    Rows (leaves v m) = Waits g l m.scan m.reading.now
    Rows _ = Unit {0}

    noticed_rows : (r : Reading) (s : Known) → Rows (noticed l r s)
    noticed_rows r s = cond_both (shut r.now && not (is_idle s.mode)) _ _ Rows (λ e i. absurd i)
        (λ e. cond_both (nat_le (reaches r.frames r s) l.item) _ _ Rows (λ k. tt) (λ k i. absurd i))

    -- refused late, or for a smaller reason that no row has
    worse_rows : (e : Reason) (x : Effect) → Decided g l (by_octet w) e → NotLate x → Rows (or_worse e x)
    worse_rows e (fails f) h q = cond_both (nat_lt (reason_number f) (reason_number e)) f e (Decided g l (by_octet w)) (λ k i. absurd (q i)) (λ k. h)
    worse_rows e _ h q = h

    module _ (vs : List Value) where
      abbrev Here : Known → Reading → List ℕ → Type 0
      Here s r ahead = Behind g l Scanned u vs s r ahead (ApartAt o s r)

      abbrev WaitsAtTop : Known → Reading → Type 0
      WaitsAtTop s r = is_top r.frames ≡ true → Waits g l s r.now

      abbrev RowsAgain : ℕ → Type 0
      RowsAgain n = (s : Known) (r : Reading) (ahead : List ℕ) → Continues (o ∷ []) ahead → Here s r ahead → WaitsAtTop s r
          → Rows (takes g l n (with_scan s r) o)

      module _ (n : ℕ) (again : RowsAgain n) (s : Known) (r : Reading) (ahead : List ℕ) (next : Continues (o ∷ []) ahead) (b : Here s r ahead) where
        abbrev ts : List Placed
        ts = b.front ++ b.item

        turned : (x : Lexeme) (c : Content) → said x.kind x.octets ≡ Ok c → Shown (by_octet w) (ts ++ placed (place r) x ∷ []) c
            → TurnDecided g l (by_octet w) (turn g l r (token_of x c))
        turned x c k shown =
            token_decided g l (by_octet w) r.context b.front vs b.pieces (placed (place r) x) x.start x.end r.start b.item r.frames r.notes c r.now b.deep
            b.first b.stands (record { place = refl; body = said_body x.kind x.octets c k })
            (subst (λ y. Shown (by_octet w) y c) (append_assoc b.front b.item (placed (place r) x ∷ [])) shown)

        given_rows : (x : Lexeme) (s' : Known) → feed (place r) s o ≡ Given x s'
            → Rows (on_said (said x.kind x.octets) (λ c. behind_given l s' (turn g l r (token_of x c))))
        given_rows x s' e = go (said x.kind x.octets) refl
          where
            by : (t : Turn) → TurnDecided g l (by_octet w) t → Rows (behind_given l s' t)
            by (goes m) d = noticed_rows m s'
            by (gives v m) d = tt
            by (refuses y) d = d
            by (late y m) d = worse_rows y (noticed l m s') d (noticed_quiet l m s')

            go : (c : Result Content Reason) → said x.kind x.octets ≡ c → Rows (on_said c (λ c. behind_given l s' (turn g l r (token_of x c))))
            go (Err y) k = λ i. absurd (lexical_none y (said_lexical x.kind x.octets y k) i)
            go (Ok c) k = by (turn g l r (token_of x c)) (turned x c k
                (given_shown (place r) s u ts ahead b.scanned o next x s' (said_passes x.kind x.octets c k) c (said_body x.kind x.octets c k) e))

        -- a token that was left
        module _ (x : Lexeme) (s' : Known) (e : feed (place r) s o ≡ Left x s') (c : Content) (k : said x.kind x.octets ≡ Ok c) where
          fine : Finely s.mode (Left x s')
          fine = finely_as (place r) s o (Left x s') b.fine e

          body : IsBody x.kind x.octets (Ok c)
          body = said_body x.kind x.octets c k

          no_colons_left : c ≡ Mark' Mark.Colons → ⊥
          no_colons_left f = never (is_colons x.kind) (left_colons (place r) s s' o x b.sane e)
              (ap is_colons (mark_kind x.kind x.octets Mark.Colons (subst (λ y. IsBody x.kind x.octets (Ok y)) f body)))

          once : BareSaid c → UsedHere s' o
          once h = go (subst (Leaving o) e (feed_leaves (place r) s o b.fine)).0
            where
              go : UsedHere s' o ⊎ (x.kind ≡ TokenKind.Operator) → UsedHere s' o
              go (inl i) = i
              go (inr i) = absurd (subst IsBare i (said_bare x.kind x.octets c body h))

          names_bare : GivesNoBare g l Place.Name s' o
          names_bare y t f d j h =
              given_bare Place.Name s' u (ts ++ placed (place r) x ∷ []) (o ∷ [])
              (scanned_left (place r) s u ts ahead b.scanned o next s' x e (said_passes x.kind x.octets c k) Place.Name) o ([], refl) y t
              (said_passes y.kind y.octets d j) f
              (said_bare y.kind y.octets d (said_body y.kind y.octets d j) h)

          turned_left : (t : Turn) → TurnDecided g l (by_octet w) t → Reads g l Scanned u vs s' (o ∷ []) (λ m. ApartAt o s' m) t
              → Leading g l (λ m. is_top m.frames ≡ true → is_idle s'.mode ≡ true) t → TurnLate (LateAs c) t → Rows (behind_left (λ m. takes g l n m o) s' t)
          turned_left (goes m) d h i y = again s' m (o ∷ []) ([], refl) h (λ top. idle_waits g l s' m.now (i top))
          turned_left (gives v m) d h i y = fresh_waits s' m h.1
          turned_left (refuses z) d h i y = d
          turned_left (late z m) d h i y = worse_rows z (takes g l n (with_scan s' m) o) d (late_quiet g l n s' o c m y no_colons_left once names_bare)

          left_by : Rows (behind_left (λ m. takes g l n m o) s' (turn g l r (token_of x c)))
          left_by =
              turned_left (turn g l r (token_of x c)) (turned x c k
              (left_shown (place r) s u ts ahead b.scanned o next x s' (said_passes x.kind x.octets c k) c body b.sane e))
              (left_reads g l u vs o s s' r ahead next b x e fine.3 fine c k) (left_idle g l u o vs s s' r x c b.sane b.fine e k)
              (turn_late g l r (token_of x c))

        left_rows : (x : Lexeme) (s' : Known) → feed (place r) s o ≡ Left x s'
            → Rows (on_said (said x.kind x.octets) (λ c. behind_left (λ m. takes g l n m o) s' (turn g l r (token_of x c))))
        left_rows x s' e = go (said x.kind x.octets) refl
          where
            go : (c : Result Content Reason) → said x.kind x.octets ≡ c
                → Rows (on_said c (λ c. behind_left (λ m. takes g l n m o) s' (turn g l r (token_of x c))))
            go (Err y) k = λ i. absurd (lexical_none y (said_lexical x.kind x.octets y k) i)
            go (Ok c) k = left_by x s' e c k

        scan_rows : (x : Outcome) → feed (place r) s o ≡ x → Rows (on_scan g l (λ m. takes g l n m o) r x)
        scan_rows (Next t) e = noticed_rows r t
        scan_rows (Given y t) e = given_rows y t e
        scan_rows (Left y t) e = left_rows y t e
        scan_rows (Refused i y) e = λ j. absurd (lexical_none y (feed_lexical (place r) s o i y e) j)

      -- where it was settled before the octet
      module _ (n : ℕ) (again : RowsAgain n) (s : Known) (r : Reading) (ahead : List ℕ) (next : Continues (o ∷ []) ahead) (b : Here s r ahead)
          (wait : WaitsAtTop s r) (open' : unsettled s r (feed (place r) s o) ≡ false) where
        not_waiting : waits r (feed (place r) s o) ≡ false
        not_waiting = (or_parts (waits r (feed (place r) s o)) (in_segment r.now s) open').0

        colons : (h : Held) (end : ℕ) → r.now ≡ Stage.Pending h end → r.frames ≡ [] → NoColons w (b.front ++ b.item)
        colons h end e top =
            let d : PendingFor r.context r.frames r.notes h b.item = subst (NowStands r.context r.frames r.notes b.item) e b.stands in
            let last : b.front ++ b.item ≡ (b.front ++ d.before) ++ d.token ∷ [] =
            ap (λ y. b.front ++ y) d.whole ∙ sym (append_assoc b.front d.before (d.token ∷ [])) in
            no_colons (place r) s u (b.front ++ b.item) ahead b.scanned o next (top_place r.frames r.now (ap is_top top))
            (flag (place r) s u (b.front ++ b.item) ahead b.scanned o next (b.front ++ d.before) d.token last
            (symbol_colon d.token.place d.token.lexeme.kind d.token.lexeme.octets d.said d.says.body d.named))
            (subst (Waits g l s) e (wait (ap is_top top))) b.sane (sym (ap (λ m. waits_now (is_top r.frames) m (feed (place r) s o)) e) ∙ not_waiting)

        bare : r.frames ≡ [] → GivesNoBare g l Place.Top s o
        bare top =
            subst (λ p. GivesNoBare g l p s o) (top_place r.frames r.now (ap is_top top))
            (λ y t f d j h. given_bare (place r) s u (b.front ++ b.item) ahead b.scanned o next y t (said_passes y.kind y.octets d j) f
            (said_bare y.kind y.octets d (said_body y.kind y.octets d j) h))

        quiet : (m : Reading) → LateVersion r.context r.frames r.now m → NotLate (on_scan g l (λ k. takes g l n k o) m (feed (place r) s o))
        quiet m (top, is, pending) =
            subst (λ k. NotLate (on_scan g l (λ k. takes g l n k o) k (feed (place r) s o))) (sym is)
            (version_quiet g l (λ k. takes g l n k o) s o r.context (pending_idle s r.now pending (wait (ap is_top top))) (bare top) (feed (place r) s o)
            (ap (λ p. feed p s o) (sym (top_place r.frames r.now (ap is_top top)))))

        by : (t : Turn) → TurnDecided g l (by_octet w) t → Reads g l Scanned u vs s ahead (λ m. ApartAt o s m) t
            → Leading g l (λ m. (place m ≡ place r) × (is_top m.frames ≡ is_top r.frames)) t → Leading g l (λ m. IsFree g l m.now) t
            → TurnLate (LateVersion r.context r.frames r.now) t
            → Rows (on_settled g l (λ k. takes g l n k o) s (feed (place r) s o) t)
        by (goes m) d h i j y = subst (λ p. Rows (on_scan g l (λ k. takes g l n k o) m (feed p s o))) i.0
            (scan_rows n again s m ahead next h (feed (place m) s o) refl)
        by (gives v m) d h i j y = fresh_waits s m h.1
        by (refuses z) d h i j y = d
        by (late z m) d h i j y = worse_rows z (on_scan g l (λ k. takes g l n k o) m (feed (place r) s o)) d (quiet m y)

        settled_rows : Rows (on_settled g l (λ k. takes g l n k o) s (feed (place r) s o) (settle g l r))
        settled_rows =
            by (settle g l r) (settled_decided g l (by_octet w) r.context b.front vs b.pieces r.start b.item r.frames r.notes r.now b.first b.stands colons)
            (settled_read g l Scanned u vs s ahead o r.start r.context r.frames r.notes r.now b not_waiting)
            (settle_same g l r.start r.context r.frames r.notes r.now)
            (settle_free g l r.start r.context r.frames r.notes r.now) (settled_late r.start r.context r.frames r.notes r.now)

      octet_rows : (n : ℕ) → RowsAgain n → (s : Known) (r : Reading) (ahead : List ℕ) → Continues (o ∷ []) ahead → Here s r ahead → WaitsAtTop s r
          → Rows (on_octet g l (λ k. takes g l n k o) (with_scan s r) (feed (place r) s o))
      octet_rows n again s r ahead next b wait =
          cond_both (unsettled s r (feed (place r) s o)) _ _ Rows (λ e. scan_rows n again s r ahead next b (feed (place r) s o) refl)
          (λ e. settled_rows n again s r ahead next b wait e)

      takes_rows : (n : ℕ) → RowsAgain n
      takes_rows zero s r ahead next b wait = λ i. absurd i
      takes_rows (suc n) s r ahead next b wait = octet_rows n (takes_rows n) s r ahead next b wait

  -- 2. Whole octets.

  module _ (u : List ℕ) (o : ℕ) (to : ℕ) (r : Refusal) where
    named_so : (y : Reason) → y ≡ r.reason → Decided g l (by_octet (u ++ o ∷ [])) y → HasRow r.reason → Decides g l (u ++ o ∷ []) r.reason
    named_so y e h i = subst (Decides g l (u ++ o ∷ [])) e (h (subst HasRow (sym e) i))

    unexpected : Reason.Unexpected ≡ r.reason → HasRow r.reason → Decides g l (u ++ o ∷ []) r.reason
    unexpected e i = absurd (subst HasRow (sym e) i)

    last_rows : (vs : List Value) (n : State) → Stood g l u vs n → Waits g l n.scan n.reading.now
        → (run_on to (λ n. eats g l n o) (λ n. run g l (to + 1) n []) (eats g l n o)).now ≡ Err r → HasRow r.reason → Decides g l (u ++ o ∷ []) r.reason
    unfolding open_at
    last_rows vs n b wait = by (eats g l n o) (takes_rows u o vs 3 n.scan n.reading [] (o ∷ [], refl) (open_at g l u vs o n.scan n.reading b) (λ top. wait))
        (eats_after g l u vs n o b)
      where
        again : (x : Effect) → Rows u o x → (once_more to (λ n. run g l (to + 1) n []) x).now ≡ Err r → HasRow r.reason → Decides g l (u ++ o ∷ []) r.reason
        again (leaves v m) h e i = unexpected (cc) i
        again (fails y) h e i = named_so y (cc) h i
        again _ h e i = absurd cc

        by : (x : Effect) → Rows u o x → After g l u vs o x → (run_on to (λ n. eats g l n o) (λ n. run g l (to + 1) n []) x).now ≡ Err r → HasRow r.reason
            → Decides g l (u ++ o ∷ []) r.reason
        by (fails y) h a e i = named_so y (cc) h i
        by (leaves v m) h a e i = again (eats g l m o) (takes_rows u o (vs ++ v ∷ []) 3 m.scan m.reading a.0 a.1 a.2 (λ top. h)) e i
        by _ h a e i = absurd cc

  ran_rows : (u : List ℕ) (o : ℕ) (r : Refusal) (given : List (Value × ℕ)) (now : Result State Refusal) (n : State)
      → StoodBehind g l u [] (record { given = given; now = now }) → EndsWaiting g l now → now ≡ Ok n
      → (run_on (length u) (λ n. eats g l n o) (λ n. run g l (length u + 1) n []) (eats g l n o)).now ≡ Err r → HasRow r.reason
      → Decides g l (u ++ o ∷ []) r.reason
  ran_rows u o r given (Ok m) n b wait e = subst (λ k. (run_on (length u) (λ n. eats g l n o) (λ n. run g l (length u + 1) n []) (eats g l k o)).now ≡ Err r
      → HasRow r.reason → Decides g l (u ++ o ∷ []) r.reason) (let same : m ≡ n = cc in same) (last_rows u o (length u) r (plain given) m b wait)
  ran_rows u o r given (Err q) n b wait e = absurd cc

  -- What is refused for such a reason is a row of the table.
  pub deciding : (u : List ℕ) (r : Refusal) → (trace g l u).refused ≡ Some r → HasRow r.reason → Decides g l (take r.offset u) r.reason
  deciding u r h i =
      let p = stop_of g l u r (refused_run g l u r h) in
      let before = run g l 0 begun p.before in
      let last : (run g l (length p.before) p.n (p.o ∷ [])).now ≡ Err r =
      sym (ap (λ (x : Run). x.now) (behind_run g l p.before (p.o ∷ []))
      ∙ ap (λ y. (on_now before.given y (λ n. run g l (length p.before) n (p.o ∷ []))).now) p.ran) ∙ p.stopped in
      subst (λ y. Decides g l y r.reason) (sym (stop_taken g l u r p))
      (ran_rows p.before p.o r before.given before.now p.n (run_ran g l p.before [] [] 0 begun (begun_stood g l))
      (run_waits g l p.before [] [] 0 begun (begun_stood g l) tt) p.ran last i)
