-- A document that is read value by value to its end, and what a visitor hears of it.
use Rattle.std.proofs.Common.{◌≡◌, ℕ, List, [], ◌∷◌, ◌++◌, length, false, Option, Some, None, inr, append-nil, ap, sym, subst, ◌∙◌}
use Rattle.std.proofs.lemmas.Grind.{flat_map-append}
use Rattle.std.proofs.lemmas.List.{length-map, map-append}
use Rattle.ion_streams.specs.Names.{AskedWhile, AtOnce, Catalog, Ended, Event, IfOpen, Inlet, IsReady, IsWithin, Items, Led, Limits, NoReadFailed, NoneFailed, Open, PieceReader, ReadState, Refused, Sought, Stood, StoodEach, ToldNext, Value, answered, ended, events_of, format_of, plain, stream_events, telling}
use Rattle.ion_visiting.specs.laws.Led.{led_both, led_more}
use Rattle.ion_streams.specs.Checked.{IsVisited}
use Rattle.ion_streams.proofs.Steps.{stood_plain}
use Rattle.ion_streams.proofs.Turns.{asked_on, at_once_on}
use Rattle.ion_streams.proofs.Unfailed.{StandsHeard, stands_heard}

-- it can be read on where it is open, no read failed, and so many calls of read were to be made at most
pub record Driven {S X : Type 0} (R : Inlet S) (I : Items X) (reads : ℕ) (first now : S) (place : ReadState X) : Type 0 where
  pub ready : IfOpen place (IsReady I)
  pub heard : StandsHeard I R place now
  pub within : IfOpen place (IsWithin R reads first now)

-- what `PieceReader::new` gives
pub record IsNew {X : Type 0} (items : X) (reads : ℕ) (source : PieceReader X) : Type 0 where
  pub same : source.items ≡ items
  pub nothing : (source.at ≡ 0) × (source.end ≡ 0) × (source.used ≡ 0)
  pub piece : length source.piece.items ≡ 4096
  pub going : source.ended ≡ false
  pub few : source.reads ≡ reads

module _ {S X : Type 0} (R : Inlet S) (I : Items X) where
  -- it was read on
  pub driven_on : (reads : ℕ) (first old now : S) (place after : ReadState X) → Driven R I reads first old place → IfOpen after (IsReady I)
      → NoReadFailed R old now → IfOpen place (λ source. NoneFailed R I old source → R.has_failed now ≡ false) →
      ((first : S) (reads : ℕ) → IfOpen place (IsWithin R reads first old) → IfOpen after (IsWithin R reads first now)) → Driven R I reads first now after
  driven_on reads first old now place after d ready unasked answered within =
      record {
        ready = ready;
        heard = record { either = inr (stands_heard I R old now place d.heard unasked answered) };
        within = within first reads d.within;
      }

  -- where its device is asked on, this is so of the values before
  pub asked_behind : (P : List (Value × ℕ) → Type 0) (g : Catalog) (l : Limits) (first old now : S) (place : ReadState X) (given : List (Value × ℕ))
      → StoodEach R I g l first old place given → P given → AskedWhile R (format_of I g l) first first old P
      → ((g : Catalog) (l : Limits) (first : S) (given : List (Value × ℕ)) → StoodEach R I g l first old place given
      → AskedWhile R (format_of I g l) first old now (λ before. before ≡ given)) → AskedWhile R (format_of I g l) first first now P
  asked_behind P g l first old now place given stood so was sought =
      asked_on R (format_of I g l) first old now P (λ before. before ≡ given) (λ before same. rw same so) was (sought g l first given stood)

  -- the same of one that is told to a visitor: it is asked no more behind a refusal
  pub told_at_once : (g : Catalog) (l : Limits) (first old now : S) (place : ReadState X) (given : List (Value × ℕ))
      → StoodEach R (telling I []) g l first old place given → AtOnce R (format_of I g l) first old
      → ((g : Catalog) (l : Limits) (first : S) (s : List Value) → Stood R (telling I []) g l first old place s
      → Sought R (format_of I g l) first old now (length s)) → AtOnce R (format_of I g l) first now
  told_at_once g l first old now place given stood was sought =
      at_once_on R (format_of I g l) first old now _ was (sought g l first (plain given) (stood_plain R (telling I []) g l first old place given stood))

module _ {V : Type 0} (takes : V → Event → V → Type 0) where
  -- a visitor that has heard these values heard one more, and that it ended
  pub heard_more : (given : List (Value × ℕ)) (v : Value) (used : ℕ) (a m n b : V) → Led takes (stream_events (plain given)) a m
      → Led takes (events_of v) m n → takes n ended b → Led takes (stream_events (plain (given ++ (v, used) ∷ []))) a b
  heard_more given v used a m n b before value end =
      let one = led_more takes (events_of v) ended m n b value end in
      let all = led_both takes (stream_events (plain given)) (events_of v ++ ended ∷ []) a m b before one in
      let values : stream_events (plain (given ++ (v, used) ∷ [])) ≡ stream_events (plain given) ++ (events_of v ++ ended ∷ []) =
      ap stream_events (map-append (λ (x : Value × ℕ). x.0) given ((v, used) ∷ []))
      ∙ flat_map-append (λ (x : Value). events_of x ++ ended ∷ []) (plain given) (v ∷ [])
      ∙ ap (λ es. stream_events (plain given) ++ es) (append-nil (events_of v ++ ended ∷ [])) in
      subst (λ (es : List Event). Led takes es a b) (sym values) all

  -- what is answered of a document that can't be read on
  pub visited_at : {S X : Type 0} (R : Inlet S) (I : Items X) (g : Catalog) (l : Limits) (first now : S) (place : ReadState X) (given : List (Value × ℕ)) (found : Option ℕ)
      (values : ℕ) (a m b : V) → found ≡ None → IfOpen place (λ source. ⊥) → length given ≡ values → Led takes (stream_events (plain given)) a m
      → ToldNext takes I R g l first now place given found m b → IsVisited takes R (format_of I g l) first now a b (answered place values)
  visited_at R I g l first now place given (Some used) values a m b none closed count heard h = absurd cc
  visited_at R I g l first now (Open source) given None values a m b none closed count heard h = absurd closed
  visited_at R I g l first now Ended given None values a m b none closed count heard h = (
    plain given,
    stood_plain R (telling I []) g l first now Ended given h.0,
    length-map given (λ (x : Value × ℕ). x.0) ∙ count,
    subst (λ (x : V). Led takes (stream_events (plain given)) a x) (sym h.1) heard,
  )
  visited_at R I g l first now (Refused refusal) given None values a m b none closed count heard h =
      (plain given, stood_plain R (telling I []) g l first now (Refused refusal) given h.0)
