-- Where an octet is refused and something waits, the tokens that it waits behind are the last of no piece that remains one.
use Rattle.std.proofs.Common.{◌≡◌, ℕ, ◌+◌, ◌≤◌, Bool, true, false, ◌&&◌, ◌||◌, List, [], ◌∷◌, ◌++◌, refl, sym, ap, ◌∙◌, subst, append-nil, inl, inr, codes}
use Rattle.ion_text.specs.Names.{BlankThen, Catalog, Frame, Given, Held, Left, Limits, Next, Outcome, Place, Placed, Reading, Refused, Stage, Turn, Value, Whole, ends_long, feed, goes, in_segment, is_quoted, is_top, late, place, place_in, refuses, settle, unsettled, waits, waits_now}
use Rattle.ion_text.specs.laws.reading.complete.Complete.{ends_behind, segments_long}
use Rattle.ion_text.specs.laws.reading.complete.Going.{Going, TurnEnds, going_ends, settled_bound}
use Rattle.ion_text.specs.laws.reading.complete.Meets.{is_long_text}
use Rattle.ion_text.specs.laws.reading.complete.Segments.{in_text}
use Rattle.ion_text.specs.laws.reading.sound.Spans.{IsWaiting, settle_spans}
use Rattle.ion_text.specs.laws.reading.sound.StandsOpen.{LongFor, NowStands, end_of_now}
use Rattle.ion_text.specs.laws.showing.refused.Halting.{follows}
use Rattle.ion_text.specs.laws.showing.refused.Halts.{Halted, ScanRefused, StopsAt, TurnRefuses}
use Rattle.ion_text.specs.laws.showing.refused.Told.{given_colons, given_segment, left_quotes, long_fits, next_segment, text_quotes, waits_fits}
use Rattle.ion_text.specs.laws.showing.refused.Unended.{used, waited}
use Rattle.ion_text.specs.laws.showing.shown.Opened.{going_behind, inside_place, no_colons, no_quotes, waits_there}
use Rattle.ion_text.specs.laws.showing.tokens.Cuts.{OpenBehind, behind_tokens}

module _ (g : Catalog) (l : Limits) (u : List ℕ) (o : ℕ) (vs : List Value) (h : Halted g l u o vs) (x : Placed) (xs : List Placed)
    (some : h.b.item ≡ x ∷ xs) where
  open h use {s, r}

  abbrev p : Place
  p = place h.r

  abbrev k : OpenBehind p s u (h.b.front ++ h.b.item) h.ahead
  k = behind_tokens p s u (h.b.front ++ h.b.item) h.ahead h.b.scanned

  module _ (following : List ℕ) (v rest : List ℕ) (t : List Value) (cut : u ≡ v ++ rest) (w : Whole g l v (rest ++ o ∷ following) t)
      (e : w.tokens ≡ h.b.front ++ h.b.item) where
    there : IsWaiting g l r.now × (Place.Top ≡ p)
    there = waits_there g l u vs s r h.ahead _ h.b (used g l u o vs h x xs some) x xs some (o ∷ following) (follows g l u o vs h following) v rest t cut w e

    none_open : r.frames ≡ []
    none_open = go r.frames refl
      where
        go : (fs : List Frame) → r.frames ≡ fs → fs ≡ []
        go [] i = refl
        go (f ∷ fs) i = absurd (inside_place f fs r.now (there.1 ∙ ap (λ q. place_in q r.now) i))

    on : (all : List Value) × Going g l r [] all
    on =
        let m = going_behind g l u vs s r h.ahead _ h.b (used g l u o vs h x xs some) x xs some (o ∷ following) (follows g l u o vs h following) v rest t cut w
        [] (e ∙ sym (append-nil (h.b.front ++ h.b.item))) in
        (m.0, subst (λ n. Going g l n [] m.0) (waited g l u o vs h x xs some there.0) m.1)

    ends : TurnEnds g l (settle g l r) on.0
    ends = going_ends g l r on.0 on.1

    -- what waits ended within the limit
    bound : end_of_now r.now 0 ≤ r.start + l.item
    bound = settled_bound g l r.start (end_of_now r.now 0) r.frames (settle g l r) [] on.0 (ap is_top none_open)
        (settle_spans g l r.start r.context r.frames r.notes r.now 0 there.0) (inr ends)

    shuts_colons : k.colon ≡ true → BlankThen (codes "::") (k.since ++ o ∷ following) → ⊥
    shuts_colons = no_colons g l u vs s r h.ahead _ h.b (used g l u o vs h x xs some) x xs some (o ∷ following) (follows g l u o vs h following) v rest t cut w
        e

    shuts_quotes : ends_long (h.b.front ++ h.b.item) ≡ true → BlankThen (codes "''") (k.since ++ o ∷ following) → ⊥
    shuts_quotes = no_quotes g l u vs s r h.ahead _ h.b (used g l u o vs h x xs some) x xs some (o ∷ following) (follows g l u o vs h following) v rest t cut w
        e

    -- a symbol waits
    module _ (q : Held) (end : ℕ) (now : r.now ≡ Stage.Pending q end) where
      waits_so : (y : Outcome) → feed p s o ≡ y → unsettled s r (feed p s o) ≡ true → waits_now (is_top r.frames) (Stage.Pending q end) y ≡ true
      waits_so y f i = sym (or_none (waits_now (is_top r.frames) (Stage.Pending q end) y))
          ∙ (sym (ap (λ n. waits_now (is_top r.frames) n y || in_segment n s) now) ∙ (sym (ap (unsettled s r) f) ∙ i))
        where
          or_none : (b : Bool) → (b || false) ≡ b
          or_none true = refl
          or_none false = refl

      symbol_stops : (y : Outcome) → feed p s o ≡ y → waits_now (is_top r.frames) (Stage.Pending q end) y ≡ true → ScanRefused g l r y → ⊥
      symbol_stops (Next n) f i (z, m) = waits_fits l r n none_open q end now (subst (λ n. end_of_now n 0 ≤ r.start + l.item) now bound) z m
      symbol_stops (Given y n) f i m = let z = given_colons p k.colon k.end s k.since o k.holds y n f i in shuts_colons z.0 (z.1 following)
      symbol_stops _ f i m = absurd cc

    -- a long string does
    module _ (q : List ℕ) (end : ℕ) (now : r.now ≡ Stage.Long q end) where
      long_there : ends_long (h.b.front ++ h.b.item) ≡ true
      long_there =
          let d : LongFor r.context r.frames r.notes q h.b.item = subst (NowStands r.context r.frames r.notes h.b.item) now h.b.stands in
          ends_behind h.b.front h.b.item (ap ends_long d.whole ∙ ends_behind d.before d.segments (segments_long _ d.segments q d.are))

      quoted : (top b : Bool) → (top && b) ≡ true → b ≡ true
      quoted true b i = i
      quoted false b i = absurd cc

      waiting : (y : Outcome) → feed p s o ≡ y → waits_now (is_top r.frames) (Stage.Long q end) y ≡ true → ScanRefused g l r y → ⊥
      waiting (Next n) f i (z, m) = go (is_long_text n.mode) refl
        where
          go : (b : Bool) → is_long_text n.mode ≡ b → ⊥
          go true j = shuts_quotes long_there (next_segment p k.colon k.end s k.since o k.holds n f j following)
          go false j = long_fits l r n none_open q end now (subst (λ n. end_of_now n 0 ≤ r.start + l.item) now bound) j z m
      waiting (Given y n) f i m = shuts_quotes long_there (given_segment p k.colon k.end s k.since o k.holds y n f i following)
      waiting (Left y n) f i m = shuts_quotes long_there (left_quotes p k.colon k.end s k.since o k.holds y n h.b.fine f
          (quoted (is_top r.frames) (is_quoted y.kind) i) following)
      waiting (Refused n z) f i m = absurd cc

      long_stops : unsettled s r (feed p s o) ≡ true → ScanRefused g l r (feed p s o) → ⊥
      long_stops i m = go (waits r (feed p s o)) refl (in_segment r.now s) refl i
        where
          go : (b : Bool) → waits r (feed p s o) ≡ b → (y : Bool) → in_segment r.now s ≡ y → (b || y) ≡ true → ⊥
          go true f y j n = waiting (feed p s o) refl (sym (ap (λ m. waits_now (is_top r.frames) m (feed p s o)) now) ∙ f) m
          go false f true j n = shuts_quotes long_there (text_quotes p k.colon k.end s k.since (o ∷ following) k.holds
              (in_text s q end (ap (λ m. in_segment m s) (sym now) ∙ j)))
          go false f false j n = absurd cc

    ends_not : (y : Turn) → TurnEnds g l y on.0 → TurnRefuses g l y → ⊥
    ends_not (refuses z) i j = i
    ends_not (late z m) i j = i
    ends_not _ i j = j

    fresh_not : r.now ≡ Stage.Ready → ⊥
    fresh_not i = subst (IsWaiting g l) i there.0

    settles_not : settle g l r ≡ goes r → ⊥
    settles_not i = let m = subst (λ y. TurnEnds g l y on.0) i ends in fresh_not (ap (λ (y : Reading). y.now) m.0.1)

    unsettled_stops : unsettled s r (feed p s o) ≡ true → ScanRefused g l r (feed p s o) → ⊥
    unsettled_stops i m = go r.now refl there.0
      where
        go : (n : Stage) → r.now ≡ n → IsWaiting g l n → ⊥
        go (Stage.Pending q end) f j = symbol_stops q end f (feed p s o) refl (waits_so q end f (feed p s o) refl i) m
        go (Stage.Long q end) f j = long_stops q end f i m
        go _ f j = j

    -- where something waits and the octet is refused, the tokens told end no piece that remains one
    pub item_end : ⊥
    item_end = by h.stops
      where
        by : StopsAt g l s r (feed p s o) → ⊥
        by (inl (inl i, m)) = unsettled_stops i m
        by (inl (inr i, m)) = settles_not i
        by (inr (i, m)) = ends_not (settle g l r) ends m
