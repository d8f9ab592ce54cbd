-- When devices were asked, and how often they answered an end.
use Rattle.std.proofs.Common.{◌≡◌, ◌⊎◌, inl, inr, ℕ, ◌+◌, ◌<◌, ◌≤◌, List, [], ◌∷◌, ◌++◌, length, refl, arith, Bool, true, false, Option, Some, None, IfSome, IsNone, option_to_list, length-append, ap}
use Rattle.std.proofs.lemmas.Grind.{common_steps}
use Rattle.std.proofs.lemmas.List.{length-map}
use Rattle.ion_streams.specs.Names.{AreAsked, AskedWhile, AtOnce, AtOneEnd, Catalog, Ended, Format, GaveSoFar, Grows, HandedOn, HandedPiece, Heard, IfClosed, IfOpen, Inlet, IsFront, IsInTurn, IsReady, Items, LastAsked, LastAskedFor, LeftInTurn, Limits, Open, PieceReader, ReadState, Reads, ReadsEach, Refused, Sought, Stood, StoodEach, Value, behind_end, behind_right_end, behind_right_refusal, behind_right_values, behind_values, format_of, left_of, left_unasked, plain, unasked}
use Rattle.ion_streams.proofs.Loads.{front_of}
use Rattle.ion_streams.proofs.Pieces.{between_nil, none_awaited}
use Rattle.ion_streams.proofs.Steps.{stood_plain}

module _ {S : Type 0} (R : Inlet S) where
  -- what was handed over first, and then what was next
  pub on_more : (old mid now : S) → HandedOn R old mid → HandedOn R mid now → HandedOn R old now
  on_more old mid now one next = record { more = one.more ++ next.more; handed = grind (arith, common_steps, one.handed, next.handed) }

  pub heard_end : (first now : S) (octets : List ℕ) (ended : Bool) → Heard R first now octets ended → AtOneEnd R first now
  heard_end first now octets true h = inr h.answered.0
  heard_end first now octets false h = inl h.answered

  module _ {X : Type 0} (I : Items X) (g : Catalog) (l : Limits) (first now : S) where
    -- wherever a document stands, its device answered one end at most
    pub stood_end : (place : ReadState X) (s : List Value) → Stood R I g l first now place s → AtOneEnd R first now
    stood_end (Open source) s h = heard_end _ _ _ _ h.each.heard
    stood_end _ s h = heard_end _ _ _ _ h.heard

    pub each_end : (place : ReadState X) (given : List (Value × ℕ)) → StoodEach R I g l first now place given → AtOneEnd R first now
    each_end place given h = stood_end place (plain given) (stood_plain R I g l first now place given h)

    -- the same at a fault
    pub so_far_end : (s : List Value) → GaveSoFar R I g l first now s → AtOneEnd R first now
    so_far_end s h = heard_end _ _ _ _ h.gave.each.heard

  -- one call handed over one piece at most
  pub one_piece : (old now : S) → HandedOn R old now → length (R.handed now) ≤ length (R.handed old) + 4096 → HandedPiece R old now
  one_piece old now on few =
      let whole = ap (λ (x : List ℕ). length x) on.handed in
      record { more = on.more; handed = on.handed; few = omega (arith, whole, few, length-append (R.handed old) on.more) }

  module _ (F : Format) (first : S) where
    -- something else is so, too, of what was given before the last call
    pub asked_so : (now : S) (P Q : List (Value × ℕ) → Type 0) → ((given : List (Value × ℕ)) → P given → Q given) → LastAsked R F first now P
        → LastAsked R F first now Q
    asked_so now P Q go h = record {
      before = h.before;
      octets = h.octets;
      handed = h.handed;
      last = h.last;
      reached = h.reached;
      going = h.going;
      gave = go _ h.gave;
    }

    -- what was asked for is one of more values
    pub asked_more : (now : S) (few many : ℕ) → few ≤ many → LastAskedFor R F first now few → LastAskedFor R F first now many
    asked_more now few many less =
        asked_so now (λ given. length given < few) (λ given. length given < many) (λ given fewer. omega (arith, fewer, less))

    -- the device was asked on
    pub asked_on : (old now : S) (P Q : List (Value × ℕ) → Type 0) → ((given : List (Value × ℕ)) → Q given → P given) → AskedWhile R F first first old P
        → AskedWhile R F first old now Q → AskedWhile R F first first now P
    asked_on old now P Q go was (inl same) = rw same was
    asked_on old now P Q go was (inr asked) = inr (asked_so now Q P go asked)

    pub at_once_on : (old now : S) (values : ℕ) → AtOnce R F first old → Sought R F first old now values → AtOnce R F first now
    at_once_on old now values = asked_on old now (λ given. Unit {0}) (λ given. length given < values + 1) (λ given fewer. tt)

module _ {X : Type 0} (I : Items X) (g : Catalog) (l : Limits) (settled : (u w : List ℕ) → Grows (I.trace g l u) (I.trace g l (u ++ w)))
    (so_far : (r : X) (u : List ℕ) (given : List (Value × ℕ)) → I.stands r u given → IsNone (I.awaits r)
    → (I.trace (I.catalog r) (I.limits r) u).given ≡ given) where
  -- with all octets used and no value more, the device is asked for the next one
  pub asked_next : ((r : X) (u : List ℕ) (given : List (Value × ℕ)) → I.stands r u given → (I.trace (I.catalog r) (I.limits r) u).refused ≡ None)
      → {S : Type 0} (R : Inlet S) (first now new : S) (source : PieceReader X) (given : List (Value × ℕ)) → ReadsEach R I g l first now source given
      → IsReady I source → source.at ≡ source.end → R.calls_made new ≤ R.calls_made now + 1 → HandedPiece R now new
      → LastAsked R (format_of I g l) first new (λ before. before ≡ given)
  asked_next not_refused R first now new source given h ready used_up once piece =
      let empty : left_of source ≡ [] = between_nil source.piece.items source.at source.end (omega (arith, used_up)) in
      record {
        before = now;
        octets = h.u;
        handed = grind (arith, common_steps, h.heard.told.handed_over, empty);
        last = once;
        reached = piece;
        going = rw (h.under, h.within) at (not_refused _ _ _ h.stood);
        gave = rw (h.under, h.within) at (so_far _ _ _ h.stood (none_awaited (I.awaits source.items) _ empty ready.begins));
      }

  module _ (with_next : (r : X) (u : List ℕ) (given : List (Value × ℕ)) → I.stands r u given
      → IfSome (I.awaits r) (λ octet. IsFront given (I.trace (I.catalog r) (I.limits r) (u ++ octet ∷ [])).given)) where
    -- the octets that were handed over give the values that were given
    pub given_by : {S : Type 0} (R : Inlet S) (first now : S) (source : PieceReader X) (s : List Value) (h : Reads R I g l first now source s)
        → IsReady I source → length s ≤ length (I.trace g l (h.each.u ++ left_of source)).given
    given_by R first now source s h ready =
        let front = front_of (λ u. I.trace g l u) settled (I.awaits source.items) h.each.u (left_of source) [] h.given ready.begins
        (rw (h.each.under, h.each.within) at (so_far _ _ _ h.each.stood)) (rw (h.each.under, h.each.within) at (with_next _ _ _ h.each.stood)) in
        grind (arith, common_steps, length-map, h.values, front.1)

-- One document stays ahead of the other, as long as it is open.
pub ahead : {X : Type 0} (place after : ReadState X) (s t : List Value) (v : Option Value) → IfOpen place (λ source. length t ≤ length s)
    → IfClosed place ((after ≡ place) × (v ≡ None)) → (v ≡ None → IfOpen after (λ source. ⊥))
    → IfOpen after (λ source. length t < length (s ++ option_to_list v))
ahead (Open source) (Open other) s t None level closed ends = absurd (ends refl)
ahead (Open source) (Open other) s t (Some v) level closed ends = grind (arith, common_steps, level)
ahead (Open source) _ s t v level closed ends = tt
ahead _ after s t v level closed ends = rw closed.0 tt

-- behind the next value of the other, if there was one, it is as far at least
pub level_on : {X : Type 0} (place : ReadState X) (s t : List Value) (w : Option Value) → IfOpen place (λ source. length t < length s)
    → IfOpen place (λ source. length (t ++ option_to_list w) ≤ length s)
level_on (Open source) s t None level = grind (arith, common_steps, level)
level_on (Open source) s t (Some w) level = grind (arith, common_steps, level)
level_on _ s t w level = tt

-- as far as it was before, it is again once both gave the next
pub level_again : {X : Type 0} (place after : ReadState X) (s t : List Value) (v w : Option Value) → IfOpen place (λ source. length t ≤ length s)
    → IfClosed place ((after ≡ place) × (v ≡ None)) → (v ≡ None → IfOpen after (λ source. ⊥))
    → IfOpen after (λ source. length (t ++ option_to_list w) ≤ length (s ++ option_to_list v))
level_again place after s t v w level closed ends = level_on after (s ++ option_to_list v) t w (ahead place after s t v level closed ends)

module _ {S T X Y : Type 0} (L : Inlet S) (R : Inlet T) (I : Items X) (J : Items Y) (g h : Catalog) (k l : Limits) (first_left : S) (first_right : T) where
  -- the right was asked last for a value that the left had given
  pub record ByValues (left : S) (right : T) : Type 0 where
    pub octets : List ℕ
    pub handed : L.handed left ≡ L.handed first_left ++ octets
    pub asked : LastAskedFor R (format_of J h l) first_right right (length (I.trace g k octets).given)

  -- the same, or the left has ended, or the right wasn't asked
  abbrev pub WasAsked : ReadState X → S → T → Type 0
  WasAsked place left right = (right ≡ first_right) ⊎ ((place ≡ Ended) ⊎ ByValues left right)

  -- the left was asked last for a value that comes behind those of the right
  pub record ByRight (left : S) (right : T) : Type 0 where
    pub octets : List ℕ
    pub handed : R.handed right ≡ R.handed first_right ++ octets
    pub asked : LastAskedFor L (format_of I g k) first_left left (length (J.trace h l octets).given + 1)

  -- the same, or the right is closed, or the left wasn't asked
  abbrev pub LeftWasAsked : ReadState Y → S → T → Type 0
  LeftWasAsked place left right = (left ≡ first_left) ⊎ (IfOpen place (λ source. ⊥) ⊎ ByRight left right)

  -- both were asked last while they weren't refused
  abbrev pub BothAtOnce : S → T → Type 0
  BothAtOnce left right = AtOnce L (format_of I g k) first_left left × AtOnce R (format_of J h l) first_right right

  -- The left gave s and the right gave t, in turn.
  pub record Turn (place : ReadState X) (right_place : ReadState Y) (left : S) (right : T) (s t : List Value) : Type 0 where
    pub level : IfOpen place (λ source. length t ≤ length s)
    pub asked : WasAsked place left right
    pub right_level : IfOpen right_place (λ source. length s ≤ length t)
    pub left_asked : LeftWasAsked right_place left right
    pub at_once : BothAtOnce left right

  module _ (settled : (u w : List ℕ) → Grows (I.trace g k u) (I.trace g k (u ++ w))) where
    -- the left handed over more
    by_more : {left left_now : S} {right : T} → HandedOn L left left_now → ByValues left right → ByValues left_now right
    by_more on by = record {
      octets = by.octets ++ on.more;
      handed = grind (arith, common_steps, on.handed, by.handed);
      asked = asked_more R (format_of J h l) _ _ _ _ (grind (arith, common_steps, (settled by.octets on.more).given.1)) by.asked;
    }

    -- the left was read on
    pub left_on : (place after : ReadState X) (left left_now : S) (right : T) (P : Type 0) → IfClosed place (P × (left_now ≡ left) × (after ≡ place))
        → HandedOn L left left_now → WasAsked place left right → WasAsked after left_now right
    left_on place after left left_now right P closed on (inl same) = inl same
    left_on place after left left_now right P closed on (inr (inl ended)) = inr (inl (rw ended at closed).2)
    left_on place after left left_now right P closed on (inr (inr by)) = inr (inr (by_more on by))

    -- the left was read on, which ended at a fault
    pub left_failed : (place after : ReadState X) (left left_now : S) (right : T) (P : Type 0) → (P → ⊥)
        → IfClosed place (P × (left_now ≡ left) × (after ≡ place)) → HandedOn L left left_now → WasAsked place left right
        → IsInTurn L R (format_of I g k) (format_of J h l) first_left left_now first_right right
    left_failed place after left left_now right P none closed on (inl same) = unasked same
    left_failed place after left left_now right P none closed on (inr (inl ended)) = absurd (none (rw ended at closed).0)
    left_failed place after left left_now right P none closed on (inr (inr by)) =
        let more = by_more on by in behind_values more.octets more.handed more.asked

    -- the right was read on behind the left
    pub right_on : ((r : X) (u : List ℕ) (given : List (Value × ℕ)) → I.stands r u given → IsNone (I.awaits r)
        → (I.trace (I.catalog r) (I.limits r) u).given ≡ given)
        → ((r : X) (u : List ℕ) (given : List (Value × ℕ)) → I.stands r u given
        → IfSome (I.awaits r) (λ octet. IsFront given (I.trace (I.catalog r) (I.limits r) (u ++ octet ∷ [])).given))
        → (place : ReadState X) (left : S) (right right_now : T) (s t : List Value) → Stood L I g k first_left left place s → IfOpen place (IsReady I)
        → ((refusal : _) → place ≡ Refused refusal → ⊥) → IfOpen place (λ source. length t < length s)
        → Sought R (format_of J h l) first_right right right_now (length t) → WasAsked place left right → WasAsked place left right_now
    right_on so_far with_next place left right right_now s t stood ready kept level (inl same) was = rw same was
    right_on so_far with_next (Open source) left right right_now s t stood ready kept level (inr asked) was =
        let given = given_by I g k settled so_far with_next L _ _ source s stood ready in
        inr (inr (record { octets = _; handed = stood.each.heard.told.handed_over; asked = asked_more R _ _ _ _ _ (omega (arith, level, given)) asked }))
    right_on so_far with_next Ended left right right_now s t stood ready kept level (inr asked) was = inr (inl refl)
    right_on so_far with_next (Refused refusal) left right right_now s t stood ready kept level (inr asked) was = absurd (kept refusal refl)

  -- what is said of both devices, wherever the left stands
  pub in_turn : (place : ReadState X) (left : S) (right : T) (s : List Value) → Stood L I g k first_left left place s → WasAsked place left right
      → IsInTurn L R (format_of I g k) (format_of J h l) first_left left first_right right
  in_turn place left right s stood (inl same) = unasked same
  in_turn place left right s stood (inr (inl ended)) = behind_end s (rw ended at stood)
  in_turn place left right s stood (inr (inr by)) = behind_values by.octets by.handed by.asked

  module _ (settled : (u w : List ℕ) → Grows (J.trace h l u) (J.trace h l (u ++ w))) where
    -- the right handed over more
    by_right : {left : S} {right right_now : T} → HandedOn R right right_now → ByRight left right → ByRight left right_now
    by_right on by = record {
      octets = by.octets ++ on.more;
      handed = grind (arith, common_steps, on.handed, by.handed);
      asked = asked_more L (format_of I g k) _ _ _ _ (grind (arith, common_steps, (settled by.octets on.more).given.1)) by.asked;
    }

    -- the right was read on, and the left waits
    pub right_moved : (place after : ReadState Y) (left : S) (right right_now : T) (P : Type 0) → IfClosed place (P × (right_now ≡ right) × (after ≡ place))
        → HandedOn R right right_now → LeftWasAsked place left right → LeftWasAsked after left right_now
    right_moved place after left right right_now P closed on (inl same) = inl same
    right_moved place after left right right_now P closed on (inr (inr by)) = inr (inr (by_right on by))
    right_moved (Open source) after left right right_now P closed on (inr (inl shut)) = absurd shut
    right_moved _ after left right right_now P closed on (inr (inl shut)) = inr (inl (rw closed.2 tt))

    -- the right was read on, which ended at a fault
    pub right_failed : (place after : ReadState Y) (left : S) (right right_now : T) (P : Type 0) → (P → ⊥)
        → IfClosed place (P × (right_now ≡ right) × (after ≡ place)) → HandedOn R right right_now → LeftWasAsked place left right
        → LeftInTurn L R (format_of I g k) (format_of J h l) first_left left first_right right_now
    right_failed place after left right right_now P none closed on (inl same) = left_unasked same
    right_failed place after left right right_now P none closed on (inr (inr by)) =
        let more = by_right on by in behind_right_values more.octets more.handed more.asked
    right_failed (Open source) after left right right_now P none closed on (inr (inl shut)) = absurd shut
    right_failed _ after left right right_now P none closed on (inr (inl shut)) = absurd (none closed.0)

    -- the left was read on behind the right
    pub left_read : ((r : Y) (u : List ℕ) (given : List (Value × ℕ)) → J.stands r u given → IsNone (J.awaits r)
        → (J.trace (J.catalog r) (J.limits r) u).given ≡ given)
        → ((r : Y) (u : List ℕ) (given : List (Value × ℕ)) → J.stands r u given
        → IfSome (J.awaits r) (λ octet. IsFront given (J.trace (J.catalog r) (J.limits r) (u ++ octet ∷ [])).given))
        → (place : ReadState Y) (left left_now : S) (right : T) (s t : List Value) → Stood R J h l first_right right place t → IfOpen place (IsReady J)
        → IfOpen place (λ source. length s ≤ length t) → Sought L (format_of I g k) first_left left left_now (length s) → LeftWasAsked place left right
        → LeftWasAsked place left_now right
    left_read so_far with_next place left left_now right s t stood ready level (inl same) was = rw same was
    left_read so_far with_next (Open source) left left_now right s t stood ready level (inr asked) was =
        let given = given_by J h l settled so_far with_next R _ _ source t stood ready in
        inr (inr (record { octets = _; handed = stood.each.heard.told.handed_over; asked = asked_more L _ _ _ _ _ (omega (arith, level, given)) asked }))
    left_read so_far with_next _ left left_now right s t stood ready level (inr asked) was = inr (inl tt)

  -- what is said of the left, wherever the right stands
  pub left_turn : (place : ReadState Y) (left : S) (right : T) (t : List Value) → Stood R J h l first_right right place t → LeftWasAsked place left right
      → LeftInTurn L R (format_of I g k) (format_of J h l) first_left left first_right right
  left_turn place left right t stood (inl same) = left_unasked same
  left_turn place left right t stood (inr (inr by)) = behind_right_values by.octets by.handed by.asked
  left_turn (Open source) left right t stood (inr (inl shut)) = absurd shut
  left_turn Ended left right t stood (inr (inl shut)) = behind_right_end t stood
  left_turn (Refused refusal) left right t stood (inr (inl shut)) = behind_right_refusal t refusal stood

  -- how both were asked, wherever they stand
  pub are_asked : (place : ReadState X) (right_place : ReadState Y) (left : S) (right : T) (s t : List Value) → Stood L I g k first_left left place s
      → Stood R J h l first_right right right_place t → Turn place right_place left right s t
      → AreAsked L R (format_of I g k) (format_of J h l) first_left left first_right right
  are_asked place right_place left right s t stood right_stood turn = record {
    in_turn = in_turn place left right s stood turn.asked;
    left_in_turn = left_turn right_place left right t right_stood turn.left_asked;
    at_once = turn.at_once;
    one_end = (stood_end L I g k first_left left place s stood, stood_end R J h l first_right right right_place t right_stood);
  }
