-- Where an octet is refused: whatever waited is settled before it, and the octet comes again, up to what refuses it.
use Rattle.std.proofs.Common.{◌≡◌, ℕ, zero, suc, Bool, true, false, ◌&&◌, ◌||◌, List, [], ◌∷◌, ◌++◌, Result, Ok, Err, refl, sym, ap, ◌∙◌, subst, append-nil, ◌⊎◌, inl, inr}
use Rattle.std.proofs.lemmas.Bool.{cond_both}
use Rattle.ion_text.specs.Names.{Catalog, Content, Continues, Effect, Follows, Frame, Given, Known, Leading, Left, Lexeme, Limits, Mark, Mark', Next, Outcome, Reading, Reason, Refused, Scanned, Stage, State, TokenKind, Turn, Value, at, behind_given, behind_left, ends_long, feed, gives, goes, in_segment, is_fresh, is_idle, is_quoted, is_quoting, is_sexp, is_top, late, on_octet, on_said, on_scan, on_settled, place, refuses, said, said_body, settle, settle_same, settle_still, takes, token_of, turn, unsettled, waits, waits_now, with_scan}
use Rattle.ion_tokens.specs.laws.Follows.{feed_follows}
use Rattle.ion_text.specs.laws.reading.complete.Accepts.{mark_said}
use Rattle.ion_text.specs.laws.reading.complete.Fuel.{NotLeaves, given_stays, noticed_stays, said_stays}
use Rattle.ion_text.specs.laws.reading.complete.Going.{top_place}
use Rattle.ion_text.specs.laws.reading.complete.Meets.{is_long_text}
use Rattle.ion_text.specs.laws.reading.complete.Segments.{never, no_text}
use Rattle.ion_text.specs.laws.reading.complete.Tokens.{quoting_left}
use Rattle.ion_text.specs.laws.reading.sound.Admits.{no_item}
use Rattle.ion_text.specs.laws.reading.sound.Held.{ApartAt, IsLongNow, NoLongText, Reads, or_parts, settled_read}
use Rattle.ion_text.specs.laws.reading.sound.StandsOpen.{IsStruct, NowStands}
use Rattle.ion_text.specs.laws.reading.sound.Steps.{Stood, open_at}
use Rattle.ion_text.specs.laws.showing.refused.Halts.{Before, Chain, ChainsAgain, Enough, GaveBefore, Halted, Kept, NotColons, TurnRefuses, idle_colon, idle_no_text, mark_colons, quoting_no_text, scan_chain, symbol_colons, worse_chain}
use Rattle.ion_text.specs.laws.showing.shown.Symbols.{HasBegun}
use Rattle.ion_text.specs.laws.showing.tokens.Cuts.{behind_tokens}
use Rattle.ion_text.specs.laws.showing.tokens.Exacts.{behind_used, exact_at, long_colon, top_none}
use Rattle.ion_text.specs.laws.showing.tokens.Froms.{IsFree, Waits, free_waits, fresh_parts, settle_free}

module _ (g : Catalog) (l : Limits) where
  module _ (u : List ℕ) (o : ℕ) where
    module _ (vs : List Value) where
      -- where it was settled before the octet
      module _ (n : ℕ) (again : ChainsAgain g l u o vs n) (s : Known) (r : Reading) (ahead : List ℕ) (next : Continues (o ∷ []) ahead)
          (b : Before g l u o vs s r ahead) (kept : Kept g l u o vs s r ahead b) (enough : Enough (suc n) s o)
          (shut : unsettled s r (feed (place r) s o) ≡ false) where
        abbrev not_waiting : waits r (feed (place r) s o) ≡ false
        not_waiting = (or_parts (waits r (feed (place r) s o)) (in_segment r.now s) shut).0

        -- what is known of the octet where something waited at the top level
        record ShownAtTop : Type 0 where
          colons : is_top r.frames ≡ true → s.colon ≡ true → NotColons (feed (place r) s o)
          bare : is_top r.frames ≡ true → is_long_text s.mode ≡ false
          colon : is_top r.frames ≡ true → (y : Lexeme) (t : Known) → feed (place r) s o ≡ Left y t → y.kind ≡ TokenKind.Mark Mark.Colon

        -- what waited is refused
        halted : (z : Turn) → settle g l r ≡ z → TurnRefuses g l z → Halted g l u o vs
        halted z f refused = record {
          s = s;
          r = r;
          ahead = ahead;
          next = next;
          b = b;
          kept = kept;
          stops = inr (shut, subst (TurnRefuses g l) (sym f) refused);
        }

        settled : ShownAtTop → (z : Turn) → settle g l r ≡ z → Reads g l Scanned u vs s ahead (λ n. ApartAt o s n) z
            → Leading g l (λ n. (place n ≡ place r) × (is_top n.frames ≡ is_top r.frames)) z
            → Leading g l (λ n. IsFree g l n.now) z → Leading g l (λ n. settle g l n ≡ goes n) z
            → Chain g l u o vs (on_settled g l (λ k. takes g l n k o) s (feed (place r) s o) z)
        settled sh (goes m) f h i j q =
            subst (λ p. Chain g l u o vs (on_scan g l (λ k. takes g l n k o) m (feed p s o))) i.0
            (scan_chain g l u o vs n again s m ahead next h (record {
              colons = λ a d. subst (λ p. NotColons (feed p s o)) (sym i.0)
                  (sh.colons (sym i.1 ∙ ap is_top (fresh_parts m.start m.context m.frames m.notes m.now a).0) d);
              waits = λ a. free_waits g l s m.now j;
              bare = λ a d. sh.bare (sym i.1 ∙ ap is_top (fresh_parts m.start m.context m.frames m.notes m.now a).0);
            }) enough (inr q) (feed (place m) s o) refl)
        settled sh (gives v m) f h i j q =
            let top = sym i.1 ∙ ap is_top (fresh_parts m.start m.context m.frames m.notes m.now h.1).0 in
            record {
              ahead = ahead;
              next = next;
              b = h.0;
              kept = record {
                colons = λ a d. subst (λ p. NotColons (feed p s o)) (sym i.0) (sh.colons top d);
                waits = λ a. free_waits g l s m.now j;
                bare = λ a d. sh.bare top;
              };
              fresh = h.1;
              colon = λ y t e. sh.colon top y t (ap (λ p. feed p s o) (sym i.0) ∙ e);
            }
        settled sh (refuses z) f h i j q = halted (refuses z) f tt
        settled sh (late z m) f h i j q = worse_chain g l u o vs z (on_scan g l (λ k. takes g l n k o) m (feed (place r) s o)) (halted (late z m) f tt)

        waited : ShownAtTop → Chain g l u o vs (on_settled g l (λ k. takes g l n k o) s (feed (place r) s o) (settle g l r))
        waited sh =
            settled sh (settle g l r) refl (settled_read g l Scanned u vs s ahead o r.start r.context r.frames r.notes r.now b not_waiting)
            (settle_same g l r.start r.context r.frames r.notes r.now)
            (settle_free g l r.start r.context r.frames r.notes r.now) (settle_still g l r.start r.context r.frames r.notes r.now)

        still : settle g l r ≡ goes r → Chain g l u o vs (on_settled g l (λ k. takes g l n k o) s (feed (place r) s o) (settle g l r))
        still q = subst (λ z. Chain g l u o vs (on_settled g l (λ k. takes g l n k o) s (feed (place r) s o) z)) (sym q)
            (scan_chain g l u o vs n again s r ahead next b kept enough (inr q) (feed (place r) s o) refl)

        not_sexp : is_top r.frames ≡ true → is_sexp (place r) ≡ false
        not_sexp top = ap is_sexp (top_place r.frames r.now top)

        inside : (fs : List Frame) → IsStruct fs → is_top fs ≡ true → ⊥
        inside [] h e = h
        inside (f ∷ fs) h e = cc

        quoted : (top quoted : Bool) → top ≡ true → quoted ≡ true → (top && quoted) ≡ false → ⊥
        quoted true true a b h = cc
        quoted _ _ a b h = cc

        long_shows : (w : List ℕ) (end : ℕ) → r.now ≡ Stage.Long w end → (i q : Bool) → is_idle s.mode ≡ i → is_quoting s.mode ≡ q → (i || q) ≡ true
            → is_top r.frames ≡ true → (y : Lexeme) (t : Known) → feed (place r) s o ≡ Left y t → y.kind ≡ TokenKind.Mark Mark.Colon
        long_shows w end e true q f h k top y t x = idle_colon g l u o vs (place r) s f (not_sexp top) y t x
        long_shows w end e false true f h k top y t x =
            let d = behind_tokens (place r) s u (b.front ++ b.item) ahead b.scanned in
            let z = quoting_left (place r) s t o y (exact_at (place r) d.colon d.end s d.since d.holds) h x in
            absurd (quoted (is_top r.frames) (is_quoted y.kind) top (ap is_quoted z.0) (sym (ap (λ m. waits_now (is_top r.frames) m (Left y t)) e)
            ∙ (sym (ap (waits r) x) ∙ not_waiting)))
        long_shows w end e false false f h k top y t x = absurd cc

        settle_chain : Chain g l u o vs (on_settled g l (λ k. takes g l n k o) s (feed (place r) s o) (settle g l r))
        settle_chain = go r.now refl
          where
            same : (m : Stage) → r.now ≡ m → settle g l (at r.start r.context r.frames r.notes m) ≡ goes (at r.start r.context r.frames r.notes m)
                → settle g l r ≡ goes r
            same m e f = subst (λ m. settle g l (at r.start r.context r.frames r.notes m) ≡ goes (at r.start r.context r.frames r.notes m)) (sym e) f

            go : (m : Stage) → r.now ≡ m → Chain g l u o vs (on_settled g l (λ k. takes g l n k o) s (feed (place r) s o) (settle g l r))
            go (Stage.Pending k end) e =
                waited (record {
                  colons = λ top c. symbol_colons (feed (place r) s o) (sym (ap (λ m. waits_now (is_top r.frames) m (feed (place r) s o)) e) ∙ not_waiting);
                  bare = λ top. idle_no_text s.mode (subst (Waits g l s) e (kept.waits top));
                  colon = λ top. idle_colon g l u o vs (place r) s (subst (Waits g l s) e (kept.waits top)) (not_sexp top);
                })
            go (Stage.Long w end) e =
                waited (record {
                  colons = λ top c. absurd (never s.colon (long_colon g l u vs s r ahead (ApartAt o s r) b (behind_used g l u vs s r ahead (ApartAt o s r) b) w
                      end e (top_none r.frames top)) c);
                  bare = λ top. no_text s w end (subst (λ m. in_segment m s ≡ false) e (or_parts (waits r (feed (place r) s o)) (in_segment r.now s) shut).1);
                  colon = λ top. long_shows w end e (is_idle s.mode) (is_quoting s.mode) refl refl (subst (Waits g l s) e (kept.waits top)) top;
                })
            go (Stage.LongName w) e =
                let d = (subst (λ m. NowStands r.context r.frames r.notes b.item m) e b.stands).struct in
                waited (record {
                  colons = λ top c. absurd (inside r.frames d top);
                  bare = λ top. absurd (inside r.frames d top);
                  colon =
                      λ top. absurd (inside r.frames d top);
                })
            go n e = still (same n e refl)

      octet_chain : (n : ℕ) → ChainsAgain g l u o vs n → (s : Known) (r : Reading) (ahead : List ℕ) → Continues (o ∷ []) ahead
          → (b : Before g l u o vs s r ahead) → Kept g l u o vs s r ahead b → Enough (suc n) s o
          → Chain g l u o vs (on_octet g l (λ k. takes g l n k o) (with_scan s r) (feed (place r) s o))
      octet_chain n again s r ahead next b kept enough =
          cond_both (unsettled s r (feed (place r) s o)) _ _ (Chain g l u o vs)
          (λ e. scan_chain g l u o vs n again s r ahead next b kept enough (inl e) (feed (place r) s o) refl)
          (λ e. settle_chain n again s r ahead next b kept enough e)

      takes_chain : (n : ℕ) → ChainsAgain g l u o vs n
      takes_chain zero s r ahead next b kept enough = absurd enough
      takes_chain (suc n) s r ahead next b kept enough = octet_chain n (takes_chain n) s r ahead next b kept enough

    -- What an octet does behind octets of which none is refused.
    pub eats_chain : (vs : List Value) (m : State) → Stood g l u vs m → HasBegun g l m.scan m.reading → Waits g l m.scan m.reading.now
        → Chain g l u o vs (takes g l 3 m o)
    unfolding open_at
    eats_chain vs m b begun_still wait = takes_chain vs 3 m.scan m.reading [] (o ∷ [], refl) (open_at g l u vs o m.scan m.reading b)
        (record { colons = colons; waits = λ top. wait; bare = bare }) tt
      where
        colons : is_fresh m.reading ≡ true → m.scan.colon ≡ true → NotColons (feed (place m.reading) m.scan o)
        colons f c = go (feed (place m.reading) m.scan o) (feed_follows (place m.reading) m.scan o b.sane)
          where
            begun : is_idle m.scan.mode ≡ false
            begun = begun_still f c

            go : (y : Outcome) → Follows (place m.reading) m.scan.mode y → NotColons y
            go (Next t) k = k.1 begun
            go (Given y t) k = mark_colons y.kind (k.0 begun)
            go _ k = tt

        bare : is_fresh m.reading ≡ true → ends_long b.front ≡ true → is_long_text m.scan.mode ≡ false
        bare f h = by (b.apart (ap ends_long (ap (λ y. b.front ++ y) (no_item g l Scanned u vs m.scan m.reading [] (NoLongText m.scan.mode) b f)
            ∙ append-nil b.front) ∙ h))
          where
            by : IsLongNow m.reading.now ⊎ NoLongText m.scan.mode → is_long_text m.scan.mode ≡ false
            by (inl i) = absurd (subst IsLongNow (fresh_parts m.reading.start m.reading.context m.reading.frames m.reading.notes m.reading.now f).2 i)
            by (inr i) = quoting_no_text m.scan.mode i.1

    -- and behind a value that it showed to be whole
    pub again_chain : (vs : List Value) (m : State) → GaveBefore g l u o vs m → Chain g l u o vs (takes g l 3 m o)
    again_chain vs m h = takes_chain vs 3 m.scan m.reading h.ahead h.next h.b h.kept tt

    -- It shows the end of one value alone.
    pub gives_once : (vs : List Value) (m : State) → GaveBefore g l u o vs m → NotLeaves g l (takes g l 3 m o)
    gives_once vs m h =
        let scan = scanned (feed (place m.reading) m.scan o) refl in
        cond_both (unsettled m.scan m.reading (feed (place m.reading) m.scan o)) _ _ (NotLeaves g l) (λ e. scan)
        (λ e. subst (λ z. NotLeaves g l (on_settled g l again m.scan (feed (place m.reading) m.scan o) z)) (sym ready) scan)
      where
        parts : (m.reading.frames ≡ []) × (m.reading.notes ≡ []) × (m.reading.now ≡ Stage.Ready)
        parts = fresh_parts m.reading.start m.reading.context m.reading.frames m.reading.notes m.reading.now h.fresh

        ready : settle g l m.reading ≡ goes m.reading
        ready = subst (λ n. settle g l (at m.reading.start m.reading.context m.reading.frames m.reading.notes n)
            ≡ goes (at m.reading.start m.reading.context m.reading.frames m.reading.notes n)) (sym parts.2) refl

        again : State → Effect
        again = λ k. takes g l 2 k o

        colon : (y : Lexeme) (t : Known) (c : Content) → c ≡ Mark' Mark.Colon → (now : Stage) → m.reading.now ≡ now → now ≡ Stage.Ready
            → NotLeaves g l (behind_left again t (turn g l m.reading (token_of y c)))
        colon y t c e Stage.Ready f k =
            subst (λ n. NotLeaves g l (behind_left again t (turn g l (at m.reading.start m.reading.context m.reading.frames m.reading.notes n) (token_of y c))))
            (sym f)
            (subst (λ z. NotLeaves g l (behind_left again t (turn g l (at m.reading.start m.reading.context m.reading.frames m.reading.notes Stage.Ready)
            (token_of y z)))) (sym e) tt)
        colon y t c e _ f k = absurd cc

        left : (y : Lexeme) (t : Known) → y.kind ≡ TokenKind.Mark Mark.Colon → (c : Result Content Reason) → said y.kind y.octets ≡ c
            → NotLeaves g l (on_said c (λ c. behind_left again t (turn g l m.reading (token_of y c))))
        left y t k (Ok c) e = colon y t c (mark_said y.kind y.octets Mark.Colon c k (said_body y.kind y.octets c e)) m.reading.now refl parts.2
        left y t k (Err z) e = tt

        scanned : (x : Outcome) → feed (place m.reading) m.scan o ≡ x → NotLeaves g l (on_scan g l again m.reading x)
        scanned (Next t) e = noticed_stays g l m.reading t
        scanned (Given y t) e = said_stays g l (said y.kind y.octets) (λ c. behind_given l t (turn g l m.reading (token_of y c)))
            (λ c. given_stays g l t (turn g l m.reading (token_of y c)))
        scanned (Left y t) e = left y t (h.colon y t e) (said y.kind y.octets) refl
        scanned (Refused n z) e = tt
