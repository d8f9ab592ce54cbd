-- Each octet leads from what stands for octets to what stands for those and that one.
use Rattle.std.proofs.Common.{◌≡◌, ℕ, ◌+◌, List, [], ◌∷◌, ◌++◌, Bool, true, false, ◌&&◌, Result, Ok, Err, refl, sym, subst, arith, append_assoc, append-nil, inl, inr}
use Rattle.ion_text.specs.laws.reading.Effects.{GivesSo, LeavesSo, ScansSo, SettlesSo, takes_each}
use Rattle.ion_text.specs.Names.{Catalog, Content, Continues, Effect, Follows, Frame, Given, Known, Leading, Left, Lexeme, Limits, Next, Outcome, Pieces, Place, Placed, Reading, Refusal, Refused, Run, Scanned, Slot, State, Turn, Value, begins, begun, eats, fails, feed, gives, goes, in_segment, initial, is_quoted, is_sane, is_top, leaves, once_more, place, plain, run, run_on, said, said_passes, settle, settle_same, system_slots, takes, tells, token_of, turn, uses, waits, with_scan, with_value}
use Rattle.ion_tokens.specs.machine.Told.{Begun}
use Rattle.ion_tokens.specs.laws.Follows.{feed_follows}
use Rattle.ion_tokens.proofs.runs.Scans.{scanned_given, scanned_left, scanned_next}
use Rattle.ion_text.specs.laws.reading.sound.Held.{ApartAt, Behind, NoLongText, NoSegment, Reads, behind_as, nothing_open, open_apart, or_parts, settled_read, token_read}
use Rattle.ion_text.specs.laws.reading.sound.Quotes.{Finely, feed_fine, given_far, left_none}

module _ (g : Catalog) (l : Limits) where
  -- what came of an octet
  abbrev pub After : List ℕ → List Value → ℕ → Effect → Type 0
  After u vs o (uses m) = Behind g l Scanned (u ++ o ∷ []) vs m.scan m.reading [] (NoLongText m.scan.mode)
  After u vs o (tells v m) = Behind g l Scanned (u ++ o ∷ []) (vs ++ v ∷ []) m.scan m.reading [] (NoLongText m.scan.mode)
  After u vs o (leaves v m) = (ahead : List ℕ) × Continues (o ∷ []) ahead
      × Behind g l Scanned u (vs ++ v ∷ []) m.scan m.reading ahead (ApartAt o m.scan m.reading)
  After u vs o (fails e) = Unit {0}

  module _ (u : List ℕ) (vs : List Value) (o : ℕ) where
    -- where the reader stands as an octet comes: its scanner knows that octet, if it was fed it
    abbrev AtOctet : Known → Reading → Type 0
    AtOctet s r = (ahead : List ℕ) × Continues (o ∷ []) ahead × Behind g l Scanned u vs s r ahead (ApartAt o s r)

    given_after : (s' : Known) (t : Turn) → Reads g l Scanned (u ++ o ∷ []) vs s' [] (λ r. NoLongText s'.mode) t
        → GivesSo g l (After u vs o) (λ e. tt) AtOctet s' t
    given_after s' (goes r) h = λ k. h
    given_after s' (gives v r) h = h.0
    given_after s' _ h = tt

    left_after : (s' : Known) (t : Turn) → Reads g l Scanned u vs s' (o ∷ []) (λ r. ApartAt o s' r) t → LeavesSo g l (After u vs o) (λ e. tt) AtOctet s' t
    left_after s' (goes r) h = (o ∷ [], ([], refl), h)
    left_after s' (gives v r) h = (o ∷ [], ([], refl), h.0)
    left_after s' _ h = tt

    -- what a token that is left leads to
    pub left_reads : (s s' : Known) (r : Reading) (ahead : List ℕ) → Continues (o ∷ []) ahead → (b : Behind g l Scanned u vs s r ahead (ApartAt o s r))
        → (x : Lexeme) → feed (place r) s o ≡ Left x s' → is_sane s'.mode ≡ true → Finely s.mode (Left x s') → (k : Content) → said x.kind x.octets ≡ Ok k
        → Reads g l Scanned u vs s' (o ∷ []) (λ n. ApartAt o s' n) (turn g l r (token_of x k))
    left_reads s s' r ahead c b x e sane fi k h =
        token_read g l Scanned u vs s r ahead (ApartAt o s r) b x
        (λ a. (
          fi.1,
          λ t. left_none x.kind x.start x.end (unquoted (is_top r.frames) (is_quoted x.kind) t
              (subst (λ y. NoSegment (is_top r.frames) y) e a)),
        )) Scanned u s' (o ∷ []) (λ n. ApartAt o s' n) k h
        (λ q. scanned_left (place r) s u (b.front ++ b.item) ahead b.scanned o c s' x e (said_passes x.kind x.octets k h) q) sane fi.0
      where
        unquoted : (top quoted : Bool) → top ≡ true → (top && quoted) ≡ false → quoted ≡ false
        unquoted true quoted h k = k
        unquoted false quoted h k = absurd cc

    -- An octet at the scanner.
    scans_after : (s : Known) (r : Reading) (ahead : List ℕ) → Continues (o ∷ []) ahead → (b : Behind g l Scanned u vs s r ahead (ApartAt o s r))
        → (x : Outcome) → feed (place r) s o ≡ x → Follows (place r) s.mode x → Finely s.mode x → ScansSo g l (After u vs o) (λ e. tt) AtOctet r x
    scans_after s r ahead c b (Next s') e fo fi = λ i.
        behind_as g l Scanned Scanned u (u ++ o ∷ []) vs s s' r ahead [] (ApartAt o s r) (NoLongText s'.mode) b
        (scanned_next (place r) s u (b.front ++ b.item) ahead b.scanned o c s' e)
        (λ k. elim k [ inl h ↦ inl h | inr h ↦ inr (subst (λ x. NoSegment (is_top r.frames) x) e h) ]) fo.0 fi
    scans_after s r ahead c b (Given x s') e fo fi = λ k h.
        given_after s' (turn g l r (token_of x k))
        (token_read g l Scanned u vs s r ahead (ApartAt o s r) b x (λ a. (subst (λ y. NoSegment (is_top r.frames) y) e a, λ t. given_far x fi.1)) Scanned
        (u ++ o ∷ []) s' [] (λ n. NoLongText s'.mode) k h
        (λ q. scanned_given (place r) s u (b.front ++ b.item) ahead b.scanned o c s' x e (said_passes x.kind x.octets k h) q) fi.2 fi.0)
    scans_after s r ahead c b (Left x s') e fo fi = λ k h. left_after s' (turn g l r (token_of x k)) (left_reads s s' r ahead c b x e fi.3 fi k h)
    scans_after s r ahead c b (Refused n y) e fo fi = tt

    -- where it was settled before the octet
    settles_after : (s : Known) (ahead : List ℕ) (p : Place) (fs : List Frame) → Continues (o ∷ []) ahead → (t : Turn)
        → Reads g l Scanned u vs s ahead (λ n. ApartAt o s n) t → Leading g l (λ n. (place n ≡ p) × (is_top n.frames ≡ is_top fs)) t
        → SettlesSo g l (After u vs o) (λ e. tt) AtOctet s (feed p s o) t
    settles_after s ahead p fs c (goes r) b e = subst (λ q. ScansSo g l (After u vs o) (λ e. tt) AtOctet r (feed q s o)) e.0
        (scans_after s r ahead c b (feed (place r) s o) refl (feed_follows (place r) s o b.sane) (feed_fine (place r) s o b.fine))
    settles_after s ahead p fs c (gives v r) b e = (ahead, c, b.0)
    settles_after s ahead p fs c _ b e = tt

    -- an octet leads from what stands for octets to what stands for these and the octet
    pub takes_after : (n : ℕ) (s : Known) (r : Reading) (ahead : List ℕ) → Continues (o ∷ []) ahead → Behind g l Scanned u vs s r ahead (ApartAt o s r)
        → After u vs o (takes g l n (with_scan s r) o)
    takes_after n s r ahead c b =
        takes_each g l (After u vs o) (λ e. tt) AtOctet o
        (λ s r h e. scans_after s r h.0 h.1 h.2 (feed (place r) s o) refl (feed_follows (place r) s o h.2.sane) (feed_fine (place r) s o h.2.fine))
        (λ s r h e. settles_after s h.0 (place r) r.frames h.1 (settle g l r)
        (settled_read g l Scanned u vs s h.0 o r.start r.context r.frames r.notes r.now h.2 (or_parts (waits r (feed (place r) s o)) (in_segment r.now s) e).0)
        (settle_same g l r.start r.context r.frames r.notes r.now)) n (with_scan s r) (ahead, c, b)

  unfoldable pub open_at : (u : List ℕ) (vs : List Value) (o : ℕ) (s : Known) (r : Reading) → Behind g l Scanned u vs s r [] (NoLongText s.mode)
      → Behind g l Scanned u vs s r [] (ApartAt o s r)
  open_at u vs o s r b = behind_as g l Scanned Scanned u u vs s s r [] [] (NoLongText s.mode) (ApartAt o s r) b b.scanned
      (λ k. elim k [ inl h ↦ inl h | inr h ↦ inr (open_apart (is_top r.frames) (place r) s o b.sane b.fine h) ]) b.sane b.fine

  -- what stands for octets, between two of them
  abbrev pub Stood : List ℕ → List Value → State → Type 0
  Stood u vs m = Behind g l Scanned u vs m.scan m.reading [] (NoLongText m.scan.mode)

  -- An octet leads to what stands for the octets with it.
  pub eats_after : (u : List ℕ) (vs : List Value) (m : State) (o : ℕ) → Stood u vs m → After u vs o (eats g l m o)
  eats_after u vs m o b = takes_after u vs o 3 m.scan m.reading [] (o ∷ [], refl) (open_at u vs o m.scan m.reading b)

  -- whole pieces have these values
  abbrev pub HasPieces : List Value → Type 0
  HasPieces vs = (ts : List Placed) × (c : List Slot) × Pieces g l ts vs c

  -- what octets led to
  abbrev pub StoodBehind : List ℕ → List Value → Run → Type 0
  StoodBehind u vs r = NowRan r.now
    where
      NowRan : Result State Refusal → Type 0
      NowRan (Ok n) = Stood u (vs ++ plain r.given) n
      NowRan (Err e) = HasPieces (vs ++ plain r.given)

  ran_more : (u : List ℕ) (vs : List Value) (v : Value) (to : ℕ) (r : Run) → StoodBehind u (vs ++ v ∷ []) r → StoodBehind u vs (with_value v to r)
  ran_more u vs v to r h = go r.now h
    where
      go : (n : Result State Refusal) → StoodBehind u (vs ++ v ∷ []) (record { given = r.given; now = n })
          → StoodBehind u vs (record { given = (v, to) ∷ r.given; now = n })
      go (Ok n) h = subst (λ x. Stood u x n) (append_assoc vs (v ∷ []) (plain r.given)) h
      go (Err e) h = subst HasPieces (append_assoc vs (v ∷ []) (plain r.given)) h

  more_ran : (u w : List ℕ) (vs : List Value) (to o : ℕ) (rest : State → Run)
      → ((xs : List Value) (n : State) → Stood (u ++ o ∷ []) xs n → StoodBehind w xs (rest n)) → (x : Effect) → HasPieces vs → After u vs o x
      → StoodBehind w vs (once_more to rest x)
  more_ran u w vs to o rest f (uses m) p h = f vs m h
  more_ran u w vs to o rest f (tells v m) p h = ran_more w vs v (to + 1) (rest m) (f (vs ++ v ∷ []) m h)
  more_ran u w vs to o rest f _ p h = subst HasPieces (sym (append-nil vs)) p

  octet_ran : (u w : List ℕ) (vs : List Value) (to o : ℕ) (rest : State → Run)
      → ((xs : List Value) (n : State) → Stood (u ++ o ∷ []) xs n → StoodBehind w xs (rest n)) → (x : Effect) → HasPieces vs → After u vs o x
      → StoodBehind w vs (run_on to (λ n. eats g l n o) rest x)
  octet_ran u w vs to o rest f (uses m) p h = f vs m h
  octet_ran u w vs to o rest f (tells v m) p h = ran_more w vs v (to + 1) (rest m) (f (vs ++ v ∷ []) m h)
  octet_ran u w vs to o rest f (leaves v m) p h =
      ran_more w vs v to (once_more to rest (eats g l m o))
      (more_ran u w (vs ++ v ∷ []) to o rest f (eats g l m o) (h.2.front, m.reading.context, h.2.pieces)
      (takes_after u (vs ++ v ∷ []) o 3 m.scan m.reading h.0 h.1 h.2))
  octet_ran u w vs to o rest f (fails e) p h = subst HasPieces (sym (append-nil vs)) p

  -- Octets lead from what stands for those before to what stands for all.
  pub run_ran : (os : List ℕ) (u : List ℕ) (vs : List Value) (to : ℕ) (m : State) → Stood u vs m → StoodBehind (u ++ os) vs (run g l to m os)
  run_ran [] u vs to m b = subst (λ x. Stood x (vs ++ []) m) (sym (append-nil u)) (subst (λ x. Stood u x m) (sym (append-nil vs)) b)
  run_ran (o ∷ os) u vs to m b =
      octet_ran u (u ++ o ∷ os) vs to o (λ n. run g l (to + 1) n os)
      (λ xs n h. subst (λ x. StoodBehind x xs (run g l (to + 1) n os)) (append_assoc u (o ∷ []) os) (run_ran os (u ++ o ∷ []) xs (to + 1) n h))
      (eats g l m o) (b.front, m.reading.context, b.pieces) (eats_after u vs m o b)

  -- a reader that begins stands for no octets and no values
  pub begun_stood : Stood [] [] begun
  begun_stood =
      nothing_open g l Scanned [] [] initial system_slots [] [] (NoLongText initial.mode)
      (record { behind = initial; front = []; left = []; since = []; told = Begun; pass = tt; ran = refl; cut = refl; next = inl (refl, refl) })
      begins (λ e. absurd cc) refl (record { enough = omega arith })
