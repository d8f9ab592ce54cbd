-- An octet that is refused: what stands for the octets before it once it has ended tokens and values, and what refuses it there.
use Rattle.std.proofs.Common.{◌≡◌, ℕ, zero, suc, Bool, true, false, List, [], ◌∷◌, ◌++◌, Result, Ok, Err, refl, sym, ap, ◌∙◌, subst, ◌⊎◌, inl, inr}
use Rattle.std.proofs.lemmas.Bool.{false_from_ne_true}
use Rattle.ion_text.specs.Names.{Catalog, Content, Continues, Effect, Given, IsUsed, Known, Leading, Left, Lexeme, Limits, Mark, Mode, Next, Outcome, Place, Reading, Reason, Refused, Scanned, State, TokenKind, Turn, Value, behind_given, behind_left, ends_long, fails, feed, gives, goes, is_colons, is_fresh, is_idle, is_mark, is_quoting, is_sane, is_sexp, is_top, late, leaves, noticed, on_said, on_scan, or_worse, place, refuses, said, said_body, settle, symbol_waits, takes, takes_colon, token_of, turn, unsettled, with_scan}
use Rattle.ion_text.specs.laws.reading.complete.Fuel.{Leaving, NotLeaves, Twice, UsedHere, UsedThen, feed_leaves, given_stays, noticed_stays, said_stays}
use Rattle.ion_text.specs.laws.reading.complete.Going.{closes_kind, never_top, top_place}
use Rattle.ion_text.specs.laws.reading.complete.Meets.{IdleLeft, finely_as, follows_as, idle_left, is_long_text}
use Rattle.ion_text.specs.laws.reading.complete.Segments.{long_quoting, never}
use Rattle.ion_text.specs.laws.reading.sound.Held.{ApartAt, Behind, Reads}
use Rattle.ion_text.specs.laws.reading.sound.Quotes.{Fine, Finely, is_close}
use Rattle.ion_text.specs.laws.reading.sound.Spans.{IsClose, Spans, turn_spans}
use Rattle.ion_text.specs.laws.reading.sound.StandsOpen.{start_now}
use Rattle.ion_text.specs.laws.reading.sound.Steps.{left_reads}
use Rattle.ion_text.specs.laws.showing.shown.Symbols.{colon_free}
use Rattle.ion_text.specs.laws.showing.tokens.Cuts.{Keeps, feed_keeps}
use Rattle.ion_text.specs.laws.showing.tokens.Froms.{Waits, fresh_parts, idle_waits}

-- where no token has begun, no text of a long string is open
pub idle_no_text : (m : Mode) → is_idle m ≡ true → is_long_text m ≡ false
idle_no_text (Mode.Text s w) h = absurd cc
idle_no_text _ h = refl

-- where no quotes are open, no text of a long string is
pub quoting_no_text : (m : Mode) → is_quoting m ≡ false → is_long_text m ≡ false
quoting_no_text m h = false_from_ne_true (is_long_text m) (λ e. never (is_quoting m) h (long_quoting m e))

-- the octet doesn't go on behind a symbol
abbrev pub NotColons : Outcome → Type 0
NotColons (Next t) = is_idle t.mode ≡ false
NotColons (Given x t) = is_colons x.kind ≡ false
NotColons _ = Unit {0}

-- a token that is no mark is no `::`
pub mark_colons : (k : TokenKind) → is_mark k ≡ false → is_colons k ≡ false
mark_colons (TokenKind.Mark m) h = absurd cc
mark_colons _ h = refl

-- an octet for which no symbol waits doesn't go on behind one
pub symbol_colons : (x : Outcome) → symbol_waits x ≡ false → NotColons x
symbol_colons (Left x t) h = tt
symbol_colons (Refused n e) h = tt
symbol_colons _ h = h

-- so many tries are enough
abbrev pub Enough : ℕ → Known → ℕ → Type 0
Enough (suc zero) s o = UsedHere s o
Enough (suc (suc zero)) s o = Twice s o
Enough (suc (suc (suc zero))) s o = Unit {0}
Enough _ s o = ⊥

less_enough : (n : ℕ) (p : Place) (s t : Known) (o : ℕ) (x : Lexeme) → Fine s → Enough (suc n) s o → feed p s o ≡ Left x t → Enough n t o
less_enough zero p s t o x f h e = absurd (subst IsUsed e (h p))
less_enough (suc zero) p s t o x f h e = subst (UsedThen o) e (h p)
less_enough (suc (suc zero)) p s t o x f h e = (subst (Leaving o) e (feed_leaves p s o f)).1
less_enough (suc (suc (suc n))) p s t o x f h e = absurd h

module _ (g : Catalog) (l : Limits) where
  -- the turn refuses
  abbrev pub TurnRefuses : Turn → Type 0
  TurnRefuses (refuses e) = Unit {0}
  TurnRefuses (late e r) = Unit {0}
  TurnRefuses _ = ⊥

  -- what came of the octet at the scanner is refused
  abbrev pub ScanRefused : Reading → Outcome → Type 0
  ScanRefused r (Next t) = (e : Reason) × (noticed l r t ≡ fails e)
  ScanRefused r (Left x t) = (c : Content) → said x.kind x.octets ≡ Ok c → TurnRefuses (turn g l r (token_of x c))
  ScanRefused r _ = Unit {0}

  -- or what waits is, which the octet doesn't go on
  abbrev pub StopsAt : Known → Reading → Outcome → Type 0
  StopsAt s r x = (((unsettled s r x ≡ true) ⊎ (settle g l r ≡ goes r)) × ScanRefused r x) ⊎ ((unsettled s r x ≡ false) × TurnRefuses (settle g l r))

  module _ (u : List ℕ) (o : ℕ) where
    -- what the reader holds stands for the octets before this one, which goes on with no long string
    abbrev pub Before : List Value → Known → Reading → List ℕ → Type 0
    Before vs s r ahead = Behind g l Scanned u vs s r ahead (ApartAt o s r)

    -- what is known while an octet ends tokens: where nothing is open, it goes on neither behind a symbol nor in a segment
    pub record Kept (vs : List Value) (s : Known) (r : Reading) (ahead : List ℕ) (b : Before vs s r ahead) : Type 0 where
      pub colons : is_fresh r ≡ true → s.colon ≡ true → NotColons (feed (place r) s o)
      pub waits : is_top r.frames ≡ true → Waits g l s r.now
      pub bare : is_fresh r ≡ true → ends_long b.front ≡ true → is_long_text s.mode ≡ false

    -- what stands for the octets before a refused one, once it has ended tokens, and what refuses it there
    pub record Halted (vs : List Value) : Type 0 where
      pub s : Known
      pub r : Reading
      pub ahead : List ℕ
      pub next : Continues (o ∷ []) ahead
      pub b : Before vs s r ahead
      pub kept : Kept vs s r ahead b
      pub stops : StopsAt s r (feed (place r) s o)

    -- a value was given before the octet
    pub record GaveBefore (vs : List Value) (m : State) : Type 0 where
      pub ahead : List ℕ
      pub next : Continues (o ∷ []) ahead
      pub b : Before vs m.scan m.reading ahead
      pub kept : Kept vs m.scan m.reading ahead b
      pub fresh : is_fresh m.reading ≡ true
      pub colon : (y : Lexeme) (t : Known) → feed (place m.reading) m.scan o ≡ Left y t → y.kind ≡ TokenKind.Mark Mark.Colon

    module _ (vs : List Value) where
      -- where the octet ends a value before it, or is refused, this is what stands for the octets then
      abbrev pub Chain : Effect → Type 0
      Chain (leaves v m) = GaveBefore (vs ++ v ∷ []) m
      Chain (fails e) = Halted vs
      Chain _ = Unit {0}

      chain_by : (x : Effect) → NotLeaves g l x → ((e : Reason) → x ≡ fails e → Halted vs) → Chain x
      chain_by (leaves v m) n f = absurd n
      chain_by (fails e) n f = f e refl
      chain_by _ n f = tt

      -- an octet that is refused late is refused where the reader stands, whatever it does then
      pub worse_chain : (e : Reason) (x : Effect) → Halted vs → Chain (or_worse e x)
      worse_chain e (fails f) h = h
      worse_chain e _ h = h

      -- where a token is left, none is open behind it at the top level
      pub left_idle : (s t : Known) (r : Reading) (x : Lexeme) (c : Content) → is_sane s.mode ≡ true → Fine s → feed (place r) s o ≡ Left x t
          → said x.kind x.octets ≡ Ok c → Leading g l (λ n. is_top n.frames ≡ true → is_idle t.mode ≡ true) (turn g l r (token_of x c))
      left_idle s t r x c sane fine e k = by (is_top r.frames) refl
        where
          P : Reading → Type 0
          P n = is_top n.frames ≡ true → is_idle t.mode ≡ true

          any : (y : Turn) → is_idle t.mode ≡ true → Leading g l P y
          any (refuses z) i = tt
          any (late z n) i = tt
          any _ i = λ h. i

          start : ℕ
          start = start_now r.now r.start x.start r.frames r.notes

          no_close : IsClose false c → ⊥
          no_close h = never (is_close x.kind) (finely_as (place r) s o (Left x t) fine e).5 (closes_kind x.kind x.octets c h (said_body x.kind x.octets c k))

          inside : (y : Turn) → Spans false c l.item start x.end y → Leading g l P y
          inside (goes n) (inl (inl h, from, to)) = λ i. absurd (never (is_top n.frames) h i)
          inside (goes n) (inl (inr h, from, to)) = absurd (let z : false ≡ true = h.0 in cc)
          inside (goes n) (inr h) = absurd (no_close h.1)
          inside (gives v n) h = absurd (no_close h.1)
          inside _ h = tt

          by : (b : Bool) → is_top r.frames ≡ b → Leading g l P (turn g l r (token_of x c))
          by true top = any (turn g l r (token_of x c)) ((follows_as (place r) s o (Left x t) sane e).0 (ap is_sexp (top_place r.frames r.now top)))
          by false top = inside (turn g l r (token_of x c)) (subst (λ b. Spans b c l.item start x.end (turn g l r (token_of x c))) top
              (turn_spans g l r (token_of x c) (never_top g l r top)))

      -- no token is open at the top level behind what was left, and what was left before a colon's octet is a colon
      pub idle_colon : (p : Place) (t : Known) → is_idle t.mode ≡ true → is_sexp p ≡ false → (y : Lexeme) (w : Known) → feed p t o ≡ Left y w
          → y.kind ≡ TokenKind.Mark Mark.Colon
      idle_colon p t i top y w e = by (subst (IdleLeft p t.used) e (idle_left p t o i))
        where
          by : IdleLeft p t.used (Left y w) → y.kind ≡ TokenKind.Mark Mark.Colon
          by (inl h) = h.0
          by (inr h) = absurd (never (is_sexp p) top h.1)

      -- where the octet comes again with fewer tries
      abbrev pub ChainsAgain : ℕ → Type 0
      ChainsAgain n = (s : Known) (r : Reading) (ahead : List ℕ) → Continues (o ∷ []) ahead → (b : Before vs s r ahead) → Kept vs s r ahead b → Enough n s o
          → Chain (takes g l n (with_scan s r) o)

      module _ (n : ℕ) (again : ChainsAgain n) (s : Known) (r : Reading) (ahead : List ℕ) (next : Continues (o ∷ []) ahead) (b : Before vs s r ahead)
          (kept : Kept vs s r ahead b) (enough : Enough (suc n) s o) where
        halted : StopsAt s r (feed (place r) s o) → Halted vs
        halted h = record { s = s; r = r; ahead = ahead; next = next; b = b; kept = kept; stops = h }

        -- a token was left
        module _ (y : Lexeme) (t : Known) (e : feed (place r) s o ≡ Left y t) (direct : (unsettled s r (feed (place r) s o) ≡ true)
            ⊎ (settle g l r ≡ goes r)) where
          stopped : ScanRefused r (Left y t) → Halted vs
          stopped h = halted (inl (direct, subst (ScanRefused r) (sym e) h))

          fine : Finely s.mode (Left y t)
          fine = finely_as (place r) s o (Left y t) b.fine e

          turned : (c : Content) → said y.kind y.octets ≡ Ok c → (z : Turn) → turn g l r (token_of y c) ≡ z
              → Reads g l Scanned u vs t (o ∷ []) (λ n. ApartAt o t n) z
              → Leading g l (λ n. is_fresh n ≡ true → t.colon ≡ false) z → Leading g l (λ n. is_top n.frames ≡ true → is_idle t.mode ≡ true) z
              → Chain (behind_left (λ k. takes g l n k o) t z)
          turned c k (goes m) f h i j =
              again t m (o ∷ []) ([], refl) h
              (record {
                colons = λ a d. absurd (never t.colon (i a) d);
                waits = λ a. idle_waits g l t m.now (j a);
                bare =
                    λ a d. idle_no_text t.mode (j (ap is_top (fresh_parts m.start m.context m.frames m.notes m.now a).0));
              })
              (less_enough n (place r) s t o y b.fine enough e)
          turned c k (gives v m) f h i j =
              let parts = fresh_parts m.start m.context m.frames m.notes m.now h.1 in
              let idle = j (ap is_top parts.0) in
              record {
                ahead = o ∷ [];
                next = ([], refl);
                b = h.0;
                kept = record {
                  colons = λ a d. absurd (never t.colon (i a) d);
                  waits =
                      λ a. idle_waits g l t m.now idle;
                  bare = λ a d. idle_no_text t.mode idle;
                };
                fresh = h.1;
                colon = idle_colon (place m) t idle (ap is_sexp (top_place m.frames m.now (ap is_top parts.0)));
              }
          turned c k (refuses z) f h i j = stopped (λ c' k'. subst TurnRefuses
              (sym (ap (λ a. turn g l r (token_of y a)) (let q : Ok c' ≡ Ok c = sym k' ∙ k in let q' : c' ≡ c = cc in q') ∙ f)) tt)
          turned c k (late z m) f h i j =
              worse_chain z (takes g l n (with_scan t m) o) (stopped
              (λ c' k'. subst TurnRefuses (sym (ap (λ a. turn g l r (token_of y a)) (let q : Ok c' ≡ Ok c = sym k' ∙ k in let q' : c' ≡ c = cc in q') ∙ f))
              tt))

          left_chain : (c : Result Content Reason) → said y.kind y.octets ≡ c
              → Chain (on_said c (λ c. behind_left (λ k. takes g l n k o) t (turn g l r (token_of y c))))
          left_chain (Err z) k = stopped (λ c' k'. absurd (let q : Err z ≡ Ok c' = sym k ∙ k' in cc))
          left_chain (Ok c) k =
              turned c k (turn g l r (token_of y c)) refl (left_reads g l u vs o s t r ahead next b y e fine.3 fine c k)
              (colon_free g l o r y t c (told_colon (feed (place r) s o) e) k) (left_idle s t r y c b.sane b.fine e k)
            where
              told_colon : (z : Outcome) → feed (place r) s o ≡ Left y t → t.colon ≡ takes_colon (place r) y.kind
              told_colon z q = (subst (Keeps (place r) s) q (feed_keeps (place r) s o)).2

        -- an octet at the scanner
        pub scan_chain : (unsettled s r (feed (place r) s o) ≡ true) ⊎ (settle g l r ≡ goes r) → (x : Outcome) → feed (place r) s o ≡ x
            → Chain (on_scan g l (λ k. takes g l n k o) r x)
        scan_chain direct (Next t) e = chain_by (noticed l r t) (noticed_stays g l r t) (λ z q. halted (inl (direct, subst (ScanRefused r) (sym e) (z, q))))
        scan_chain direct (Given y t) e =
            chain_by (on_said (said y.kind y.octets) (λ c. behind_given l t (turn g l r (token_of y c))))
            (said_stays g l (said y.kind y.octets) (λ c. behind_given l t (turn g l r (token_of y c))) (λ c. given_stays g l t (turn g l r (token_of y c))))
            (λ z q. halted (inl (direct, subst (ScanRefused r) (sym e) tt)))
        scan_chain direct (Refused i z) e = halted (inl (direct, subst (ScanRefused r) (sym e) tt))
        scan_chain direct (Left y t) e = left_chain y t e direct (said y.kind y.octets) refl
