-- Two documents that are read in turn, and the values that are written down of both.
use Rattle.std.proofs.Common.{◌≡◌, ◌⊎◌, ℕ, ◌+◌, ◌*◌, ◌<◌, ◌≤◌, ◌^◌, List, [], ◌∷◌, ◌++◌, length, refl, sym, ◌∙◌, append-nil, Bool, true, false, Result, Ok, Option, Some, None, IfSome, IsNone, is_some, option_to_list}
use Rattle.ion_streams.specs.Names.{Alike, AreAsked, AreHeld, Catalog, Course, Event, Fault, Grows, HandedOn, HasTold, HeldNext, IfAlike, IfClosed, IfOpen, Inlet, IsFront, IsMet, IsOpen, IsReady, IsWithin, Items, Limits, Open, ReadState, Refused, Sought, Stood, StoodEach, Value, count_of, format_of, reads_of, telling, work_of}
use Rattle.ion_streams.proofs.Courses.{Meets, meets_more}
use Rattle.ion_streams.proofs.Steps.{plain_next, stood_plain}
use Rattle.ion_streams.proofs.Turns.{BothAtOnce, LeftWasAsked, Turn, WasAsked, ahead, at_once_on, in_turn, left_on, left_read, left_turn, level_again, level_on, right_moved, right_on, stood_end}
use Rattle.ion_streams.proofs.Unfailed.{StandsHeard, StandsHeardSince}

-- what is answered of a document that is closed: no more, and all is as it was
abbrev pub Closed : {S X : Type 0} → S → S → ReadState X → ReadState X → Option ℕ → Type 0
Closed old now place after found = IfClosed place ((◌≡◌ {A = Result (Option ℕ) Fault} (Ok found) (Ok None)) × (now ≡ old) × (after ≡ place))

-- where no value was told, none was found
pub none_of : (found : Option ℕ) (v : Option Value) → is_some v ≡ is_some found → v ≡ None → found ≡ None
none_of None v is none = refl
none_of (Some n) _ is none = absurd cc

-- a document that is closed stays as it is, and tells nothing
pub closed_same : {S X : Type 0} (old now : S) (place after : ReadState X) (found : Option ℕ) (v : Option Value) → is_some v ≡ is_some found
    → Closed old now place after found → IfClosed place ((after ≡ place) × (v ≡ None))
closed_same old now (Open source) after found v is h = tt
closed_same old now _ after found None is h = (h.2, refl)
closed_same old now _ after found (Some v) is h = let none = h.0 in absurd cc

pub closed_kept : {S X : Type 0} (old now : S) (place after : ReadState X) (found : Option ℕ) → Closed old now place after found
    → IfClosed place ((after ≡ place) × (now ≡ old))
closed_kept old now (Open source) after found h = tt
closed_kept old now _ after found h = (h.2, h.1)

-- where two values are told of streams that didn't part, they were to be compared, and the tapes hold them
pub are_held : {X Y : Type 0} (course : Course) (left left' : ReadState X) (right right' : ReadState Y) (compared : Bool) (P Q : Value → Type 0)
    (v w : Option Value) → (compared ≡ false → IfAlike course (λ n. IfOpen left (λ source. IfOpen right (λ source. ⊥))))
    → IfClosed left ((left' ≡ left) × (v ≡ None)) → IfClosed right ((right' ≡ right) × (w ≡ None)) → IfSome v (λ x. compared ≡ true → P x)
    → IfSome w (λ x. compared ≡ true → Q x) → IfAlike course (λ n. AreHeld P Q v w)
are_held (Alike n) left left' right right' true P Q (Some v) (Some w) not a b h k = (h refl, k refl)
are_held (Alike n) (Open source) left' (Open other) right' false P Q (Some v) (Some w) not a b h k = absurd (not refl)
are_held (Alike n) (Open source) left' right right' false P Q (Some v) (Some w) not a b h k = let none = b.1 in absurd cc
are_held (Alike n) left left' right right' false P Q (Some v) (Some w) not a b h k = let none = a.1 in absurd cc
are_held _ left left' right right' compared P Q _ _ not a b h k = tt

-- a document that can be read on can be walked on
pub ready_told : {X : Type 0} (I : Items X) (place : ReadState X) → IfOpen place (IsReady I) → IfOpen place (IsReady (telling I []))
ready_told I (Open source) h = record { within = h.within; fits = h.fits; piece = h.piece; room = h.room; begins = h.begins; counted = h.counted }
ready_told I _ h = tt

-- what a reader promises of what it told
pub record Promised {X : Type 0} (I : Items X) : Type 0 where
  pub settled : (g : Catalog) (k : Limits) (u w : List ℕ) → Grows (I.trace g k u) (I.trace g k (u ++ w))
  pub has_told : (r : X) (u : List ℕ) (s : List (Value × ℕ)) (es : List Event) → I.told r u s es
      → HasTold I.taken I.kept I.failed I.awaits (I.trace (I.catalog r) (I.limits r)) (I.limits r).item r u s

module _ {X : Type 0} (I : Items X) (promised : Promised I) where
  pub told_so_far : (r : X) (u : List ℕ) (given : List (Value × ℕ)) → I.told r u given [] → IsNone (I.awaits r)
      → (I.trace (I.catalog r) (I.limits r) u).given ≡ given
  told_so_far r u given told = (promised.has_told r u given [] told).given_so_far

  pub told_with_next : (r : X) (u : List ℕ) (given : List (Value × ℕ)) → I.told r u given []
      → IfSome (I.awaits r) (λ octet. IsFront given (I.trace (I.catalog r) (I.limits r) (u ++ octet ∷ [])).given)
  told_with_next r u given told = (promised.has_told r u given [] told).given_with_next

module _ {S X : Type 0} (R : Inlet S) (I : Items X) (g : Catalog) (l : Limits) (first : S) where
  -- Behind s one more was told or none, as was found, and this is so of it.
  pub record NextHeld (P : Value → Type 0) (found : Option ℕ) (now : S) (after : ReadState X) (s : List Value) : Type 0 where
    pub value : Option Value
    pub is : is_some value ≡ is_some found
    pub there : IfSome value P
    pub stood : Stood R (telling I []) g l first now after (s ++ option_to_list value)

  -- a document that was read on
  pub taped : (old now : S) (place after : ReadState X) (s : List Value) (P : Value → Type 0) (found : Option ℕ) → Closed old now place after found
      → ((given : List (Value × ℕ)) → StoodEach R (telling I []) g l first old place given → HeldNext P R I g l first now after given found)
      → Stood R (telling I []) g l first old place s → NextHeld P found now after s
  taped old now (Open source) after s P None closed tells h =
      record { value = None; is = refl; there = tt; stood = rw (append-nil s, sym h.values) (stood_plain R (telling I []) g l _ _ after _ (tells _ h.each)) }
  taped old now (Open source) after s P (Some used) closed tells h =
      let told = tells h.given h.each in
      let values = sym (plain_next h.given (Some (told.0, used)) (Some told.0) s h.values refl) in
      record { value = Some told.0; is = refl; there = told.1; stood = rw values (stood_plain R (telling I []) g l _ _ after _ told.2) }
  taped old now _ after s P None closed tells h = record { value = None; is = refl; there = tt; stood = rw (closed.1, closed.2, append-nil s) h }
  taped old now _ after s P (Some used) closed tells h = let none = closed.0 in absurd cc

module _ {S T X Y : Type 0} (L : Inlet S) (R : Inlet T) (I : Items X) (J : Items Y) (first_left : S) (first_right : T) (left_begun : ReadState X)
    (right_begun : ReadState Y) where
  -- how far both were read, and how they compare so far
  pub record SideBySide (course : Course) (left : S) (right : T) (left_place : ReadState X) (right_place : ReadState Y) : Type 0 where
    pub left_ready : IfOpen left_place (IsReady I)
    pub right_ready : IfOpen right_place (IsReady J)
    pub left_within : (reads : ℕ) → IfOpen left_begun (IsWithin L reads first_left first_left) → IfOpen left_place (IsWithin L reads first_left left)
    pub right_within : (reads : ℕ) → IfOpen right_begun (IsWithin R reads first_right first_right) → IfOpen right_place (IsWithin R reads first_right right)
    pub left_asked : L.calls_made left + reads_of left_place ≤ L.calls_made first_left + reads_of left_begun
    pub right_asked : R.calls_made right + reads_of right_place ≤ R.calls_made first_right + reads_of right_begun
    pub left_handed : length (L.handed left) + 4096 * reads_of left_place ≤ length (L.handed first_left) + 4096 * reads_of left_begun
    pub right_handed : length (R.handed right) + 4096 * reads_of right_place ≤ length (R.handed first_right) + 4096 * reads_of right_begun
    pub left_heard : StandsHeard I L left_place left
    pub right_heard : StandsHeardSince J R right_place first_right right
    pub bound : count_of course + work_of I left_place + work_of J right_place ≤ 2 * (8193 * 2 ^ 32 + 1)
    pub open_still : IsOpen left_place ⊎ IsOpen right_place
    pub stood : (left_catalog right_catalog : Catalog) (left_limits right_limits : Limits)
        → Stood L (telling I []) left_catalog left_limits first_left first_left left_begun []
        → Stood R (telling J []) right_catalog right_limits first_right first_right right_begun []
        → (s : List Value) × (t : List Value) × Stood L (telling I []) left_catalog left_limits first_left left left_place s
        × Stood R (telling J []) right_catalog right_limits first_right right right_place t × Meets course left_place right_place s t
        × Turn L R (telling I []) (telling J []) left_catalog right_catalog left_limits right_limits first_left first_right left_place right_place left right
        s t

  -- the left was read on, and told a value or its end
  pub record LeftOn (g h : Catalog) (k l : Limits) (course : Course) (left : S) (right : T) (left_place left_after : ReadState X) (right_place : ReadState Y)
      (P : Value → Type 0) (found : Option ℕ) : Type 0 where
    pub s : List Value
    pub t : List Value
    pub next : NextHeld L I g k first_left P found left left_after s
    pub right_stood : Stood R (telling J []) h l first_right right right_place t
    pub meets : Meets course left_place right_place s t
    pub ahead : IfOpen left_after (λ source. length t < length (s ++ option_to_list next.value))
    pub asked : WasAsked L R (telling I []) (telling J []) g h k l first_left first_right left_after left right
    pub right_level : IfOpen right_place (λ source. length s ≤ length t)
    pub left_asked : LeftWasAsked L R (telling I []) (telling J []) g h k l first_left first_right right_place left right
    pub at_once : BothAtOnce L R (telling I []) (telling J []) g h k l first_left first_right left right

  -- and then the right
  pub record BothOn (g h : Catalog) (k l : Limits) (left : S) (right : T) (left_after : ReadState X) (right_after : ReadState Y) (P : Value → Type 0)
      (found : Option ℕ) (s t : List Value) : Type 0 where
    pub next : NextHeld R J h l first_right P found right right_after t
    pub turn : Turn L R (telling I []) (telling J []) g h k l first_left first_right left_after right_after left right s (t ++ option_to_list next.value)

  module _ {g h : Catalog} {k l : Limits} {course : Course} {left_now : S} {right : T} {left_place left_after : ReadState X} {right_place : ReadState Y}
      {P : Value → Type 0} {found : Option ℕ} where
    -- how both were asked
    pub left_are_asked : LeftOn g h k l course left_now right left_place left_after right_place P found
        → AreAsked L R (format_of I g k) (format_of J h l) first_left left_now first_right right
    left_are_asked on = record {
      in_turn = in_turn L R (telling I []) (telling J []) g h k l _ _ left_after _ _ _ on.next.stood on.asked;
      left_in_turn = left_turn L R (telling I []) (telling J []) g h k l _ _ right_place _ _ _ on.right_stood on.left_asked;
      at_once = on.at_once;
      one_end = (stood_end L (telling I []) g k _ _ left_after _ on.next.stood, stood_end R (telling J []) h l _ _ right_place _ on.right_stood);
    }

  module _ (left_kept : Promised I) (right_kept : Promised J) where
    pub left_goes : (course : Course) (left left_now : S) (right : T) (left_place left_after : ReadState X) (right_place : ReadState Y) (P : Value → Type 0)
        (found : Option ℕ) → SideBySide course left right left_place right_place → Closed left left_now left_place left_after found
        → ((g : Catalog) (k : Limits) (first : S) (given : List (Value × ℕ)) → StoodEach L (telling I []) g k first left left_place given
        → HeldNext P L I g k first left_now left_after given found) → (found ≡ None → IfOpen left_after (λ source. ⊥)) → HandedOn L left left_now
        → ((g : Catalog) (k : Limits) (first : S) (s : List Value) → Stood L (telling I []) g k first left left_place s
        → Sought L (format_of I g k) first left left_now (length s)) → (g h : Catalog) (k l : Limits)
        → Stood L (telling I []) g k first_left first_left left_begun [] → Stood R (telling J []) h l first_right first_right right_begun []
        → LeftOn g h k l course left_now right left_place left_after right_place P found
    left_goes course left left_now right left_place left_after right_place P found i closed tells ends on sought g h k l a b =
        let w = i.stood g h k l a b in
        let next = taped L I g k first_left left left_now left_place left_after w.0 P found closed (tells g k first_left) w.2 in
        let same = closed_same left left_now _ _ found _ next.is closed in
        let for_next = sought g k first_left w.0 w.2 in
        record {
          s = w.0;
          t = w.1;
          next = next;
          right_stood = w.3;
          meets = w.4;
          ahead = ahead left_place left_after _ _ next.value w.5.level same (λ none. ends (none_of _ _ next.is none));
          asked = left_on L R (telling I []) (telling J []) g h k l _ _ (left_kept.settled g k) left_place left_after _ _ _ _ closed on w.5.asked;
          right_level = w.5.right_level;
          left_asked = left_read L R (telling I []) (telling J []) g h k l _ _ (right_kept.settled h l) (told_so_far J right_kept) (told_with_next J right_kept)
              right_place _ _ _ _ w.1 w.3 (ready_told J right_place i.right_ready) w.5.right_level for_next w.5.left_asked;
          at_once = (at_once_on L (format_of I g k) first_left _ _ _ w.5.at_once.0 for_next, w.5.at_once.1);
        }

    pub right_goes : (course : Course) (left : S) (right right_now : T) (left_place left_after : ReadState X) (right_place right_after : ReadState Y)
        (P Q : Value → Type 0) (left_found found : Option ℕ) → IfOpen left_after (IsReady I) → ((refusal : _) → left_after ≡ Refused refusal → ⊥)
        → Closed right right_now right_place right_after found
        → ((h : Catalog) (l : Limits) (first : T) (given : List (Value × ℕ)) → StoodEach R (telling J []) h l first right right_place given
        → HeldNext Q R J h l first right_now right_after given found) → (found ≡ None → IfOpen right_after (λ source. ⊥)) → HandedOn R right right_now
        → ((h : Catalog) (l : Limits) (first : T) (t : List Value) → Stood R (telling J []) h l first right right_place t
        → Sought R (format_of J h l) first right right_now (length t)) → (g h : Catalog) (k l : Limits)
        (on : LeftOn g h k l course left right left_place left_after right_place P left_found)
        → BothOn g h k l left right_now left_after right_after Q found (on.s ++ option_to_list on.next.value) on.t
    right_goes course left right right_now left_place left_after right_place right_after P Q left_found found ready kept closed tells ends moved sought
        g h k l on =
        let next = taped R J h l first_right right right_now right_place right_after on.t Q found closed (tells h l first_right) on.right_stood in
        let same = closed_same right right_now _ _ found _ next.is closed in
        let for_next = sought h l first_right on.t on.right_stood in
        record {
          next = next;
          turn = record {
            level = level_on left_after _ on.t next.value on.ahead;
            asked = right_on L R (telling I []) (telling J []) g h k l _ _ (left_kept.settled g k) (told_so_far I left_kept) (told_with_next I left_kept)
                left_after _ _ _ _ on.t on.next.stood (ready_told I left_after ready) kept on.ahead for_next on.asked;
            right_level = level_again right_place right_after on.t on.s next.value on.next.value on.right_level same (λ none. ends (none_of _ _ next.is none));
            left_asked = right_moved L R (telling I []) (telling J []) g h k l _ _ (right_kept.settled h l) right_place right_after _ _ _ _ closed moved
                on.left_asked;
            at_once = (on.at_once.0, at_once_on R (format_of J h l) first_right _ _ _ on.at_once.1 for_next);
          };
        }

    -- with the next value of each, or its end, two streams compare as the course behind it says
    pub both_met : (course after : Course) (left left_now : S) (right right_now : T) (left_place left_after : ReadState X)
        (right_place right_after : ReadState Y) (compared : Bool) (P Q : Value → Type 0) (found other : Option ℕ) (gave other_gave : Bool)
        → (compared ≡ false → IfAlike course (λ n. IfOpen left_place (λ source. IfOpen right_place (λ source. ⊥))))
        → ((v w : Option Value) → is_some v ≡ gave → is_some w ≡ other_gave → IfAlike course (λ n. AreHeld P Q v w) → IsMet course v w after)
        → gave ≡ is_some found → other_gave ≡ is_some other → Closed left left_now left_place left_after found
        → Closed right right_now right_place right_after other → (found ≡ None → IfOpen left_after (λ source. ⊥))
        → (other ≡ None → IfOpen right_after (λ source. ⊥)) → (g h : Catalog) (k l : Limits)
        (on : LeftOn g h k l course left_now right left_place left_after right_place (λ v. compared ≡ true → P v) found)
        (both : BothOn g h k l left_now right_now left_after right_after (λ w. compared ≡ true → Q w) other (on.s ++ option_to_list on.next.value) on.t)
        → Meets after left_after right_after (on.s ++ option_to_list on.next.value) (on.t ++ option_to_list both.next.value)
    both_met course after left left_now right right_now left_place left_after right_place right_after compared P Q found other gave other_gave compares met
        is is_other closed other_closed ends other_ends g h k l on both =
        let was = closed_same left left_now left_place left_after found _ on.next.is closed in
        let other_was = closed_same right right_now right_place right_after other _ both.next.is other_closed in
        let held = are_held course left_place _ right_place _ compared P Q _ _ compares was other_was on.next.there both.next.there in
        meets_more course after left_place left_after right_place right_after _ _ _ _ (met _ _ (on.next.is ∙ sym is) (both.next.is ∙ sym is_other) held)
        on.meets was other_was (λ none. ends (none_of _ _ on.next.is none)) (λ none. other_ends (none_of _ _ both.next.is none))
