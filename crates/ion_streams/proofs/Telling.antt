-- What was told of a document that is read by walks.
use Rattle.std.proofs.Common.{◌≡◌, ℕ, ◌+◌, ◌-◌, ◌<◌, ◌≤◌, List, [], ◌∷◌, ◌++◌, length, Bool, true, false, Option, Some, None, Ok, ap, sym, append-nil, arith}
use Rattle.std.proofs.lemmas.Grind.{common_steps}
use Rattle.std.proofs.lemmas.List.{length-map}
use Rattle.ion_streams.specs.Names.{AValue, Catalog, End, Ended, EndsBy, EndsOn, EndsRefused, Event, Format, GaveSoFar, Grows, HandedPiece, HasTold, Heard, Hears, Inlet, IsReady, Items, LastAskedFor, Led, Limits, Open, PieceReader, ReachesBy, ReadState, ReadsEach, Refills, Refusal, Refused, StoodEach, Streams, ToldNext, ToldRefusedEach, Value, WalksOn, WentBy, between, events_of, format_of, left_of, plain, telling}
use Rattle.ion_visiting.specs.laws.Filters.{hears_both}
use Rattle.ion_streams.specs.Outcomes.{EndsWell}
use Rattle.ion_streams.proofs.Pieces.{went}
use Rattle.ion_streams.proofs.Steps.{gave_so_far, kept_so_far, reads_by, reads_ended, reads_failed, reads_refilled, reads_stopped}
use Rattle.ion_streams.proofs.Turns.{asked_next, asked_so}
use Rattle.ion_streams.proofs.Wholes.{plain_at}

-- a visitor that had heard nothing was led by all that it heard
pub led_by : {V : Type 0} (takes : V → Event → V → Type 0) (fs : List Event) (a b : V) → Hears takes [] fs a b → Led takes fs a b
led_by takes fs a b h = rw h.is h.led

module _ {V X : Type 0} (takes : V → Event → V → Type 0) (I : Items X) where
  -- a walk over octets at the front of what is left of a piece
  pub went_by : (u : List ℕ) (given : List (Value × ℕ)) (es : List Event) (piece : List ℕ) (at end used : ℕ) (after : PieceReader X) (ended : Bool) (a b : V)
      → used ≤ end - at → left_of after ≡ between piece (at + used) end → length u + used ≡ after.used
      → WalksOn takes I.told u given es (between piece at end) used ended after.items a b → WentBy takes I u given es (between piece at end) after ended a b
  went_by u given es piece at end used after true a b fits rest same h =
      (h.0, h.2, went (telling I []) u given piece at end used _ after (Some h.0) fits rest same h.1)
  went_by u given es piece at end used after false a b fits rest same h =
      (h.0, h.2, went (telling I h.0) u given piece at end used _ after None fits rest same (rw append-nil h.1))

module _ {S V X : Type 0} (takes : V → Event → V → Type 0) (R : Inlet S) (I : Items X) (g : Catalog) (l : Limits) where
  -- From first to now the document told these values; a visitor that had heard es has heard all that was told of the one that is open.
  abbrev pub TellsOn : S → S → PieceReader X → List (Value × ℕ) → List Event → V → V → Type 0
  TellsOn first now source given es a b = (fs : List Event) × Hears takes es fs a b × ReadsEach R (telling I fs) g l first now source given

  -- some octets were used, and ended no value
  pub tells_more : (first now : S) (source after : PieceReader X) (given : List (Value × ℕ)) (es : List Event) (found : Bool) (a m b : V) → found ≡ false
      → TellsOn first now source given es a m → ((u : List ℕ) (given : List (Value × ℕ)) (fs : List Event) → I.told source.items u given fs
      → WentBy takes I u given fs (left_of source) after found m b) → I.catalog after.items ≡ I.catalog source.items
      → I.limits after.items ≡ I.limits source.items → after.ended ≡ source.ended → TellsOn first now after given es a b
  tells_more first now source after given es found a m b is h go under within ended =
      let w = rw is at (go h.2.u given h.0 h.2.stood) in
      let reads = reads_by R (telling I h.0) g l (telling I w.0) first now source after given None h.2 w.2 under within ended in
      (w.0, hears_both takes es h.0 w.0 a m b h.1 w.1, rw append-nil at reads)

  -- they ended one
  pub tells_value : (first now : S) (source after : PieceReader X) (given : List (Value × ℕ)) (es : List Event) (found : Bool) (a m b : V) → found ≡ true
      → TellsOn first now source given es a m → ((u : List ℕ) (given : List (Value × ℕ)) (fs : List Event) → I.told source.items u given fs
      → WentBy takes I u given fs (left_of source) after found m b) → I.catalog after.items ≡ I.catalog source.items
      → I.limits after.items ≡ I.limits source.items → after.ended ≡ source.ended → ReachesBy takes I R g l first now after given es (AValue tt) a b
  tells_value first now source after given es found a m b is h go under within ended =
      let w = rw is at (go h.2.u given h.0 h.2.stood) in
      let reads = reads_by R (telling I h.0) g l (telling I []) first now source after given (Some w.0) h.2 w.2 under within ended in
      (w.0, hears_both takes es h.0 (events_of w.0) a m b h.1 w.1, reads)

  -- the device may have been asked again
  pub tells_refilled : (first old now : S) (before after : PieceReader X) (given : List (Value × ℕ)) (es : List Event) (a b : V)
      → Refills R old now before after → TellsOn first old before given es a b → TellsOn first now after given es a b
  tells_refilled first old now before after given es a b refills h =
      (h.0, h.1, reads_refilled R (telling I h.0) g l first old now before after given refills h.2)

  -- a step refused
  pub tells_failed : (first now : S) (source : PieceReader X) (given : List (Value × ℕ)) (es : List Event) (a b : V) (r : Refusal)
      → TellsOn first now source given es a b → ((u : List ℕ) (given : List (Value × ℕ)) (fs : List Event) → I.told source.items u given fs → (more : List ℕ)
      → EndsRefused (format_of I g l) ((u ++ left_of source) ++ more) given r) → ToldRefusedEach R (format_of I g l) first now given r
  tells_failed first now source given es a b r h refused =
      reads_failed R (telling I h.0) g l first now source given r h.2 (λ u given stood. refused u given h.0 stood)

  -- what was told so far at a fault
  pub tells_so_far : (first now : S) (source : PieceReader X) (given : List (Value × ℕ)) (s : List Value) (es : List Event) (a b : V) → plain given ≡ s
      → TellsOn first now source given es a b → (fs : List Event) × GaveSoFar R (telling I fs) g l first now s
  tells_so_far first now source given s es a b values h =
      (h.0, gave_so_far R (telling I h.0) g l first now source.items (left_of source) source.ended given s values h.2)

  -- the same where the device was asked and told nothing more
  pub tells_kept : (first now new : S) (source : PieceReader X) (given : List (Value × ℕ)) (s : List Value) (es : List Event) (a b : V) → plain given ≡ s
      → TellsOn first now source given es a b → source.ended ≡ false → Heard R now new [] false → (fs : List Event) × GaveSoFar R (telling I fs) g l first new s
  tells_kept first now new source given s es a b values h going heard =
      (h.0, kept_so_far R (telling I h.0) g l first now new source s (record { given = given; each = h.2; values = values }) going heard)

  -- the end of a document whose octets were all used
  pub tells_end : (first now : S) (source : PieceReader X) (given : List (Value × ℕ)) (place : ReadState X) (found : Option ℕ) (a m b : V)
      → left_of source ≡ [] → ReachesBy takes I R g l first now source given [] End a m → ((u : List ℕ) (given : List (Value × ℕ)) (fs : List Event)
      → I.told source.items u given fs → EndsBy takes (format_of I (I.catalog source.items) (I.limits source.items)) u given fs place found m b)
      → ToldNext takes I R g l first now place given found a b
  tells_end first now source given place found a m b empty h go = at_end place found (rw (h.2.under, h.2.within) at (go h.2.u given h.0 h.2.stood))
    where
      at_end : (place : ReadState X) (found : Option ℕ) → EndsBy takes (format_of I g l) h.2.u given h.0 place found m b
          → ToldNext takes I R g l first now place given found a b
      at_end (Open after) None ends = absurd ends
      at_end Ended None ends =
          (reads_ended R (telling I h.0) g l first now _ _ _ _ h.2 empty ends.0, sym (led_by takes [] a b (hears_both takes [] h.0 [] a m b h.1 ends.1)))
      at_end (Refused r) None ends = (reads_stopped R (telling I h.0) g l first now _ _ given r h.2 empty ends, tt)
      at_end Ended (Some used) ends =
          (ends.0, led_by takes _ a b (hears_both takes [] h.0 _ a m b h.1 ends.1), reads_ended R (telling I h.0) g l first now _ _ _ _ h.2 empty ends.2, tt)
      at_end _ (Some used) ends = absurd ends.2

  -- no more was told
  pub told_none : (first now : S) (place : ReadState X) (given : List (Value × ℕ)) (found : Option ℕ) (a b : V) → found ≡ None
      → ToldNext takes I R g l first now place given found a b → StoodEach R (telling I []) g l first now place given
  told_none first now place given found a b none h = (rw none at h).0

  -- one value more was told
  pub told_some : (first now : S) (place : ReadState X) (given : List (Value × ℕ)) (found : Option ℕ) (used : ℕ) (a b : V) → found ≡ Some used
      → ToldNext takes I R g l first now place given found a b
      → (v : Value) × Led takes (events_of v) a b × StoodEach R (telling I []) g l first now place (given ++ (v, used) ∷ [])
  told_some first now place given found used a b is h = let k = rw is at h in (k.0, k.1, k.2)

  module _ (settled : (u w : List ℕ) → Grows (I.trace g l u) (I.trace g l (u ++ w)))
      (has_told : (r : X) (u : List ℕ) (s : List (Value × ℕ)) (es : List Event) → I.told r u s es
      → HasTold I.taken I.kept I.failed I.awaits (I.trace (I.catalog r) (I.limits r)) (I.limits r).item r u s) where
    -- with all octets used and no value more, the device is asked for the next one
    pub tells_asked : (first now new : S) (source : PieceReader X) (given : List (Value × ℕ)) (s : List Value) (es : List Event) (a b : V) → plain given ≡ s
        → TellsOn first now source given es a b → IsReady I source → source.at ≡ source.end → R.calls_made new ≤ R.calls_made now + 1
        → HandedPiece R now new → LastAskedFor R (format_of I g l) first new (length s + 1)
    tells_asked first now new source given s es a b values h ready used_up once piece =
        asked_so R (format_of I g l) first new (λ before. before ≡ given) (λ before. length before < length s + 1)
        (λ before same. grind (arith, common_steps, length-map, values, same))
        (asked_next (telling I h.0) g l settled (λ r u t told. (has_told r u t h.0 told).given_so_far) (λ r u t told. (has_told r u t h.0 told).not_refused)
        R first now new source given h.2
        (record { within = ready.within; fits = ready.fits; piece = ready.piece; room = ready.room; begins = ready.begins; counted = cc }) used_up once piece)

-- a visitor that was told a value to its end by the end of the octets
pub ended_by : {V : Type 0} (takes : V → Event → V → Type 0) (F : Format) (u : List ℕ) (given : List (Value × ℕ)) (es : List Event) (found : Bool) (total : ℕ)
    (a b : V) → found ≡ true → length u ≡ total → (F.trace u).given ≡ given → ((s : List Value) → Streams (F.trace u) s → F.denotes u s)
    → EndsOn takes (F.trace u) es (Ok found) a b → (v : Value) × Hears takes es (events_of v) a b × EndsWell F u (given ++ (v, total) ∷ [])
ended_by takes F u given es found total a b is size all exact h =
    let k = rw is at h in
    let ends = k.1 in
    let values = plain_at given (Some k.0) total (plain (F.trace u).given) (ap plain (sym all)) in
    (k.0, k.2, record { denoted = exact _ (record { last = Some k.0; ends = ends; values = values }); all = cc })
